use Rattle.std.proofs.Common.{inl, inr, arith, ◌∙◌, [], ◌∷◌, ap, slice_set, List, ℕ, subst}
use Rattle.std.proofs.lemmas.Result.{on_ok_weaker}
use Rattle.lift_disk.specs.Trace.Access.{Write, Sync}
use Rattle.lift_journal.specs.Calls.{Performs, puts}
use Rattle.lift_journal.specs.Steps.{IsFormatted}
use Rattle.lift_journal.proofs.Performing.{performs_call, performs_then, err_performs}
use Rattle.lift_disk.specs.lemmas.Moments.{sync_touches, touches_write, touches_then_rest}
use Rattle.lift_journal.proofs.formatting.put_stamp.Goals as goal

pub returns-clause-stored : goal.returns-clause-stored
returns-clause-stored g c =
    let old = g.D.Disk.state c.args.disk.now in
    on_ok_weaker c.sync.result (λ saves honest steady.
    let honest_then = c.write.ensures.access.goes_on.honest.1 honest in
    let first = c.in_ok-write.ensures.stores.steady honest steady in
    let safe = saves honest_then in
    record { synced = safe.synced; same = (safe.steady first.steady).same ∙ first.same ∙ ap (λ (s : List ℕ). slice_set old.image 1 s) c.stamp_of.ensures }) c.sync.ensures.saves

pub returns-clause-touched : goal.returns-clause-touched
returns-clause-touched g c =
    let old = g.D.Disk.state c.args.disk.now in
    let mid = g.D.Disk.state c.write.new.self in
    touches_then_rest (IsFormatted old) old mid (g.D.Disk.state c.sync.new.self)
    (touches_write (IsFormatted old) old mid 1 c.write.ensures.access.goes_on c.write.ensures.touched (inl (omega arith)) (λ _ i is. inr is) (g.met.D.Disk.only_now c.args.disk.now))
    (g.met.D.Disk.only_now c.write.new.self) c.sync.ensures.access.goes_on (sync_touches c.sync.result mid (g.D.Disk.state c.sync.new.self) c.sync.ensures.saves c.sync.ensures.leaves)

pub returns-in_err-write-clause-performs : goal.returns-in_err-write-clause-performs
returns-in_err-write-clause-performs g c =
    let old = g.D.Disk.state c.args.disk.now in
    let new = g.D.Disk.state c.write.new.self in
    subst (λ (stamp : List ℕ). Performs c.from_residual.result (puts 1 stamp) 2 1 old new) c.stamp_of.ensures
    (err_performs _ c.from_residual.result old new (Write 1 c.stamp_of.result ∷ []) (Sync ∷ []) 1 2 1 1 c.from_residual.ensures.1
    (performs_call _ (Write 1 c.stamp_of.result) old new c.in_err-write.ensures.access)
    (omega arith) (omega arith))

pub returns-clause-performs : goal.returns-clause-performs
returns-clause-performs g c =
    let old = g.D.Disk.state c.args.disk.now in
    let mid = g.D.Disk.state c.write.new.self in
    let new = g.D.Disk.state c.sync.new.self in
    subst (λ (stamp : List ℕ). Performs c.sync.result (puts 1 stamp) 2 1 old new) c.stamp_of.ensures
    (performs_then c.sync.result old mid new (Write 1 c.stamp_of.result ∷ []) (Sync ∷ []) 1 1 1 0
    (performs_call _ (Write 1 c.stamp_of.result) old mid c.in_ok-write.ensures.access)
    (performs_call c.sync.result Sync mid new c.sync.ensures.access))
