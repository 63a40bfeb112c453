use Rattle.std.proofs.Common.{false, [], ◌∷◌, sym, subst, arith}
use Rattle.std.proofs.lemmas.Result.{on_ok_weaker}
use Rattle.lift_disk.specs.Trace.Access.{Write, Sync}
use Rattle.lift_journal.specs.Calls.{puts}
use Rattle.lift_journal.specs.Steps.{unmarked}
use Rattle.lift_journal.specs.Layout.{filled, stamp_bytes, Picks}
use Rattle.lift_journal.specs.Journal.{ReadsAs}
use Rattle.lift_journal.proofs.Formats.{formatted, formatted_half}
use Rattle.lift_journal.proofs.Performing.{performs_then, err_performs}
use Rattle.lift_journal.proofs.formatting.format.Goals as goal

pub returns-clause-empty : goal.returns-clause-empty
returns-clause-empty g c =
    let mid = g.D.Disk.state c.empty_half.new.disk in
    on_ok_weaker c.put_stamp.result (λ stored honest.
    let honest_mid = c.empty_half.ensures.performs.runs.honest.1 honest in
    let stamp = stored honest_mid (c.in_ok-empty_half.ensures.synced honest).steady in
    subst (ReadsAs c.args.shape [] []) (sym stamp.same)
    (formatted c.args.shape mid.image c.requires.within (omega (arith, c.requires.room, c.empty_half.ensures.performs.runs.size, g.met.D.Disk.whole c.empty_half.new.disk honest_mid))
    (c.in_ok-empty_half.ensures.picked honest) (c.in_ok-empty_half.ensures.closed honest))) c.put_stamp.ensures.stored

pub returns-clause-half : goal.returns-clause-half
returns-clause-half g c =
    let mid = g.D.Disk.state c.empty_half.new.disk in
    on_ok_weaker c.put_stamp.result (λ stored honest.
    let honest_mid = c.empty_half.ensures.performs.runs.honest.1 honest in
    let stamp = stored honest_mid (c.in_ok-empty_half.ensures.synced honest).steady in
    subst (Picks false) (sym stamp.same)
    (formatted_half c.args.shape mid.image c.requires.within (omega (arith, c.requires.room, c.empty_half.ensures.performs.runs.size, g.met.D.Disk.whole c.empty_half.new.disk honest_mid))
    (c.in_ok-empty_half.ensures.picked honest) (c.in_ok-empty_half.ensures.closed honest))) c.put_stamp.ensures.stored

pub returns-in_err-empty_half-clause-performs : goal.returns-in_err-empty_half-clause-performs
returns-in_err-empty_half-clause-performs g c =
    err_performs _ c.from_residual.result (g.D.Disk.state c.args.disk.now) (g.D.Disk.state c.empty_half.new.disk) (Write 0 unmarked ∷ Write 2 unmarked ∷ Sync ∷ []) (puts 1 (filled 1 (stamp_bytes c.args.shape)))
    3 5 2 3 c.from_residual.ensures.1 c.in_err-empty_half.ensures.performs (omega arith) (omega arith)

pub returns-clause-performs : goal.returns-clause-performs
returns-clause-performs g c =
    performs_then c.put_stamp.result (g.D.Disk.state c.args.disk.now) (g.D.Disk.state c.empty_half.new.disk) (g.D.Disk.state c.put_stamp.new.disk)
    (Write 0 unmarked ∷ Write 2 unmarked ∷ Sync ∷ []) (puts 1 (filled 1 (stamp_bytes c.args.shape))) 3 2 2 1 c.in_ok-empty_half.ensures.performs c.put_stamp.ensures.performs
