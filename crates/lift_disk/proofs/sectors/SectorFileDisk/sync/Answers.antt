use Rattle.lift_disk.specs.Trace.Access.{Sync}
use Rattle.lift_disk.specs.FileCalls.{sync_calls}
use Rattle.lift_disk.specs.lemmas.History.{ok_items}
use Rattle.lift_disk.proofs.Traces.{more_calls, synced_once}
use Rattle.std.proofs.Common.{sym, ◌∙◌}
use Rattle.lift_disk.proofs.sectors.SectorFileDisk.sync.Goals as goal

pub invariant_of-self-2 : goal.invariant_of-self-2
invariant_of-self-2 g c =
    let d = c.args.self.now in
    let same = c.sync.ensures.held.same in record {
      at_offsets = more_calls d.trace.calls c.then-self.result.calls d.file.calls.calls c.sync.new.self.calls.calls
          Sync (sync_calls d.is_steady) d.at_offsets c.then-self.ensures
          (ok_items c.sync.result c.is_err.ensures.value c.if-is_err.false c.sync.ensures.traced.made.listed)
          (synced_once d.is_steady);
      steady = λ _ honest sized.
          let honest2 = same.honest.0 honest in
          ∣ ((ok_items c.sync.result c.is_err.ensures.value c.if-is_err.false c.sync.ensures.held.made) honest2 (λ is. d.steady is honest2 (sym same.size ∙ sized))).saves.synced.steady ∣₁;
    }
