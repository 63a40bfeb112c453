use Rattle.std.proofs.Common.{inl, inr, arith, [], ◌∷◌}
use Rattle.std.proofs.lemmas.Result.{on_ok_weaker}
use Rattle.lift_disk.specs.Trace.Access.{Write, Sync}
use Rattle.lift_journal.specs.Steps.{IsFormatted, unmarked}
use Rattle.lift_journal.proofs.Performing.{performs_call, performs_then, err_performs}
use Rattle.lift_disk.specs.lemmas.Moments.{sync_touches, touches_write, touches_then_write, touches_then_rest}
use Rattle.lift_journal.proofs.formatting.empty_half.Goals as goal

pub returns-clause-picked : goal.returns-clause-picked
returns-clause-picked g c =
    on_ok_weaker c.sync.result (λ saves honest.
    let honest_first = c.write.ensures.access.goes_on.honest.1 honest in
    let first = c.in_ok-write.ensures.stores.written honest in
    let second = c.in_ok-write-2.ensures.stores.written honest_first in
    (saves (c.write-2.ensures.access.goes_on.honest.1 honest_first)).as_written 0 unmarked (second.others 0 unmarked (λ is. omega (arith, is)) first.here)) c.sync.ensures.saves

pub returns-in_err-write-clause-touched : goal.returns-in_err-write-clause-touched
returns-in_err-write-clause-touched g c =
    let old = g.D.Disk.state c.args.disk.now in
    touches_write (IsFormatted old) old (g.D.Disk.state c.write.new.self) 0 c.write.ensures.access.goes_on c.write.ensures.touched (inl (omega arith)) (λ _ i is. inr is) (g.met.D.Disk.only_now c.args.disk.now)

pub returns-in_err-write-2-clause-touched : goal.returns-in_err-write-2-clause-touched
returns-in_err-write-2-clause-touched g c =
    let old = g.D.Disk.state c.args.disk.now in
    let mid = g.D.Disk.state c.write.new.self in
    touches_then_write (IsFormatted old) old mid (g.D.Disk.state c.write-2.new.self)
    (touches_write (IsFormatted old) old mid 0 c.write.ensures.access.goes_on c.write.ensures.touched (inl (omega arith)) (λ _ i is. inr is) (g.met.D.Disk.only_now c.args.disk.now))
    (g.met.D.Disk.only_now c.write.new.self) c.write-2.ensures.access.goes_on 2 c.write-2.ensures.touched (inl (omega arith))

pub returns-clause-touched : goal.returns-clause-touched
returns-clause-touched g c =
    let old = g.D.Disk.state c.args.disk.now in
    let first = g.D.Disk.state c.write.new.self in
    let mid = g.D.Disk.state c.write-2.new.self in
    let written = touches_then_write (IsFormatted old) old first mid
    (touches_write (IsFormatted old) old first 0 c.write.ensures.access.goes_on c.write.ensures.touched (inl (omega arith)) (λ _ i is. inr is) (g.met.D.Disk.only_now c.args.disk.now))
    (g.met.D.Disk.only_now c.write.new.self) c.write-2.ensures.access.goes_on 2 c.write-2.ensures.touched (inl (omega arith)) in
    touches_then_rest (IsFormatted old) old mid (g.D.Disk.state c.sync.new.self) written (g.met.D.Disk.only_now c.write-2.new.self) c.sync.ensures.access.goes_on (sync_touches c.sync.result mid (g.D.Disk.state c.sync.new.self) c.sync.ensures.saves c.sync.ensures.leaves)

pub returns-in_err-write-clause-performs : goal.returns-in_err-write-clause-performs
returns-in_err-write-clause-performs g c =
    let old = g.D.Disk.state c.args.disk.now in
    let new = g.D.Disk.state c.write.new.self in
    err_performs _ c.from_residual.result old new (Write 0 unmarked ∷ []) (Write 2 unmarked ∷ Sync ∷ []) 1 3 1 2 c.from_residual.ensures.1
    (performs_call _ (Write 0 unmarked) old new c.in_err-write.ensures.access)
    (omega arith) (omega arith)

pub returns-in_err-write-2-clause-performs : goal.returns-in_err-write-2-clause-performs
returns-in_err-write-2-clause-performs g c =
    let old = g.D.Disk.state c.args.disk.now in
    let mid = g.D.Disk.state c.write.new.self in
    let new = g.D.Disk.state c.write-2.new.self in
    err_performs _ c.from_residual-in_err-write-2.result old new (Write 0 unmarked ∷ Write 2 unmarked ∷ []) (Sync ∷ []) 2 3 2 2 c.from_residual-in_err-write-2.ensures.1
    (performs_then _ old mid new (Write 0 unmarked ∷ []) (Write 2 unmarked ∷ []) 1 1 1 1
    (performs_call _ (Write 0 unmarked) old mid c.in_ok-write.ensures.access)
    (performs_call _ (Write 2 unmarked) mid new c.in_err-write-2.ensures.access))
    (omega arith) (omega arith)

pub returns-clause-performs : goal.returns-clause-performs
returns-clause-performs g c =
    let old = g.D.Disk.state c.args.disk.now in
    let first = g.D.Disk.state c.write.new.self in
    let mid = g.D.Disk.state c.write-2.new.self in
    let new = g.D.Disk.state c.sync.new.self in
    performs_then c.sync.result old first new (Write 0 unmarked ∷ []) (Write 2 unmarked ∷ Sync ∷ []) 1 2 1 1
    (performs_call _ (Write 0 unmarked) old first c.in_ok-write.ensures.access)
    (performs_then c.sync.result first mid new (Write 2 unmarked ∷ []) (Sync ∷ []) 1 1 1 0
    (performs_call _ (Write 2 unmarked) first mid c.in_ok-write-2.ensures.access)
    (performs_call c.sync.result Sync mid new c.sync.ensures.access))
