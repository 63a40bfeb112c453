use Rattle.std.proofs.Common.{rules, [], ◌∷◌, ◌∙◌, Some, sym, subst}
use Rattle.lift_disk.specs.FileCalls.{LeadsBy}
use Rattle.lift_disk.specs.FileCalls.FileCall.{GetLength}
use Rattle.lift_disk.specs.Files.{sector_file_state_of}
use Rattle.lift_disk.specs.Traced.{file_of, to_be_read}
use Rattle.lift_disk.proofs.OnFile.{measured_held, measured_honest}
use Rattle.lift_disk.proofs.sectors.SectorFile.open_to_read.Goals as goal

pub returns-in-Ok-measured-clause-measured : goal.returns-in-Ok-measured-clause-measured
returns-in-Ok-measured-clause-measured g c =
    let gives = g.F.ListedFile.gives in
    let holds = g.F.ListedFile.holds in
    let file = c.in-Ok.file in
    let bytes = c.in-Ok-measured.bytes in
    let traced = c.in-Ok-measured.looked_at in
    let told = c.in-Ok-measured.ensures.listed in record {
      file = file;
      opened = search rules;
      bytes = bytes;
      led = subst (λ (f : g.row.F.Denot). LeadsBy gives (GetLength bytes ∷ []) file f) (sym c.over.ensures.same) told.led;
      asked = c.over.ensures.making ∙ told.listed;
      size = c.over.ensures.size ∙ c.whole_sectors.ensures;
      honest = measured_honest (sector_file_state_of holds c.over.result).is_honest (holds file) (holds (file_of traced)) c.whole_sectors.result bytes told.untouched.same told.size
          c.whole_sectors.ensures c.over.ensures.honest;
      held = λ h. measured_held holds c.over.result file (file_of traced) c.over.ensures.same told.untouched h
          (c.over.ensures.size ∙ c.whole_sectors.ensures ∙ sym (told.size h));
      unknown = c.over.ensures.unknown;
    }

pub returns-in-Err-measured-clause-refused : goal.returns-in-Err-measured-clause-refused
returns-in-Err-measured-clause-refused g c =
    let opened : g.O.FileOpener.opens c.args.opener to_be_read c.args.path.now (Some c.in-Ok.file) = search rules in
    (c.in-Ok.file, opened, (c.in-Err-measured.ensures.failed, c.in-Err-measured.ensures.untouched))
