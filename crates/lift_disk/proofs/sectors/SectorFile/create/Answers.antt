use Rattle.std.proofs.Common.{rules, ◌↔◌, ◌≡◌, ◌*◌, Some, inr, sym, subst, arith}
use Rattle.lift_disk.specs.FileCalls.{LeadsBy}
use Rattle.lift_disk.specs.Holding.{sectors_in}
use Rattle.lift_disk.specs.Traced.{IsMadeOf, file_of, making_calls, to_be_made}
use Rattle.lift_disk.specs.declared.traced.TracedFile.{TracedFile}
use Rattle.lift_disk.proofs.OnFile.{made_device}
use Rattle.lift_disk.proofs.sectors.SectorFile.create.Goals as goal

pub returns-in-Ok-named-clause-made : goal.returns-in-Ok-named-clause-made
returns-in-Ok-named-clause-made g c =
    let gives = g.F.ListedFile.gives in
    let holds = g.F.ListedFile.holds in
    let opens = g.O.FileOpener.opens c.args.opener to_be_made c.args.path.now in
    let names = g.O.FileOpener.names c.args.opener c.args.path.now in
    let file = c.in-Ok.opened.0 in
    let named = c.in-Ok-named.named in
    let same = sym c.in-Ok-named.ensures.same in
    let made = c.in-Ok-zeroed.ensures in
    let made_of : IsMadeOf opens names gives holds c.args.sectors (file_of named) = record {
      file = file;
      opened = search rules;
      led = subst (λ (t : TracedFile g.row.F.Denot). LeadsBy gives (making_calls c.args.sectors) file (file_of t)) same made.led;
      named = subst (λ (o : g.row.O.Denot). g.O.FileOpener.names o c.args.path.now (file_of named)) c.in-Ok.ensures.folder c.in-Ok-named.ensures.named;
      honest = subst (λ (t : TracedFile g.row.F.Denot). (holds (file_of t)).is_honest ↔ (holds file).is_honest) same made.honest;
      size = λ h. subst (λ (t : TracedFile g.row.F.Denot). (holds (file_of t)).size ≡ sectors_in (c.args.sectors * 512)) same (made.size h);
    } in
    made_device opens names gives holds c.args.sectors (file_of named) c.over.result (omega (arith, c.ranges.sectors.fits)) made_of c.over.ensures.same c.over.ensures.honest

pub returns-in-Err-named-clause-refused : goal.returns-in-Err-named-clause-refused
returns-in-Err-named-clause-refused g c =
    let gives = g.F.ListedFile.gives in
    let file = c.in-Ok.opened.0 in
    let opened : g.O.FileOpener.opens c.args.opener to_be_made c.args.path.now (Some file) = search rules in
    let failed = c.in-Err-named.failed.file in
    let led = subst (λ (f : g.row.F.Denot). LeadsBy gives (making_calls c.args.sectors) file f) (sym c.in-Err-named.ensures.failed) c.in-Ok-zeroed.ensures.led in
    let unnamed = subst (λ (o : g.row.O.Denot). g.O.FileOpener.unnamed o c.args.path.now failed) c.in-Ok.ensures.folder c.in-Err-named.ensures.unnamed in
    (file, opened, inr (led, unnamed))
