use Rattle.std.proofs.Common.{◌+◌, ◌++◌, [], ◌∷◌, length, ap, ◌∙◌, arith, slice_set, List, subst}
use Rattle.std.proofs.lemmas.List.{append_assoc}
use Rattle.std.proofs.lemmas.Result.{on_ok_weaker}
use Rattle.lift_disk.specs.lemmas.Moments.{sync_touches, touches_then_write, touches_then_rest}
use Rattle.lift_journal.specs.Steps.{IsInRange, unmarked}
use Rattle.lift_disk.specs.Trace.{Access}
use Rattle.lift_disk.specs.Trace.Access.{Write, Sync}
use Rattle.lift_journal.specs.Calls.{Performs, writes_from}
use Rattle.lift_journal.proofs.Performing.{performs_call, performs_then, err_performs}
use Rattle.lift_journal.proofs.device.store_after.Goals as goal

pub returns-in_err-write_sectors-clause-touched : goal.returns-in_err-write_sectors-clause-touched
returns-in_err-write_sectors-clause-touched g c loose =
    c.write_sectors.ensures.touched (c.args.gate + 1) (c.args.gate + length c.args.body.now + 2) (omega arith) (omega arith) loose

pub returns-in_err-write-clause-touched : goal.returns-in_err-write-clause-touched
returns-in_err-write-clause-touched g c loose =
    let changed = IsInRange (c.args.gate + 1) (c.args.gate + length c.args.body.now + 2) in
    touches_then_write changed (g.D.Disk.state c.args.disk.now) (g.D.Disk.state c.write_sectors.new.disk) (g.D.Disk.state c.write.new.self)
    (c.write_sectors.ensures.touched (c.args.gate + 1) (c.args.gate + length c.args.body.now + 2) (omega arith) (omega arith) loose)
    (g.met.D.Disk.only_now c.write_sectors.new.disk) c.write.ensures.access.goes_on (c.args.gate + 1 + length c.args.body.now) c.write.ensures.touched (omega arith, omega arith)

pub returns-clause-touched : goal.returns-clause-touched
returns-clause-touched g c loose =
    let changed = IsInRange (c.args.gate + 1) (c.args.gate + length c.args.body.now + 2) in
    let mid = g.D.Disk.state c.write.new.self in
    let written = touches_then_write changed (g.D.Disk.state c.args.disk.now) (g.D.Disk.state c.write_sectors.new.disk) mid
    (c.write_sectors.ensures.touched (c.args.gate + 1) (c.args.gate + length c.args.body.now + 2) (omega arith) (omega arith) loose)
    (g.met.D.Disk.only_now c.write_sectors.new.disk) c.write.ensures.access.goes_on (c.args.gate + 1 + length c.args.body.now) c.write.ensures.touched (omega arith, omega arith) in
    touches_then_rest changed (g.D.Disk.state c.args.disk.now) mid (g.D.Disk.state c.sync.new.self) written (g.met.D.Disk.only_now c.write.new.self) c.sync.ensures.access.goes_on (sync_touches c.sync.result mid (g.D.Disk.state c.sync.new.self) c.sync.ensures.saves c.sync.ensures.leaves)

pub returns-clause-stored : goal.returns-clause-stored
returns-clause-stored g c =
    on_ok_weaker c.sync.result (λ saves honest steady.
    let body = c.in_ok-write_sectors.ensures.written honest steady in
    let honest_body = c.write_sectors.ensures.performs.runs.honest.1 honest in
    let next = c.in_ok-write.ensures.stores.steady honest_body body.steady in
    let honest_then = c.write.ensures.access.goes_on.honest.1 honest_body in
    let safe = saves honest_then in
    record { synced = safe.synced; same = (safe.steady next.steady).same ∙ next.same ∙ ap (λ l. slice_set l (c.args.gate + 1 + length c.args.body.now) unmarked) body.same }) c.sync.ensures.saves

pub returns-in_err-write_sectors-clause-performs : goal.returns-in_err-write_sectors-clause-performs
returns-in_err-write_sectors-clause-performs g c =
    let old = g.D.Disk.state c.args.disk.now in
    let new = g.D.Disk.state c.write_sectors.new.disk in
    let n = length c.args.body.now in
    err_performs _ c.from_residual.result old new (writes_from (c.args.gate + 1) c.args.body.now) (Write (c.args.gate + 1 + n) unmarked ∷ Sync ∷ []) n (n + 2) n (n + 1) c.from_residual.ensures.1
    c.in_err-write_sectors.ensures.performs (omega arith) (omega arith)

pub returns-in_err-write-clause-performs : goal.returns-in_err-write-clause-performs
returns-in_err-write-clause-performs g c =
    let old = g.D.Disk.state c.args.disk.now in
    let mid = g.D.Disk.state c.write_sectors.new.disk in
    let new = g.D.Disk.state c.write.new.self in
    let n = length c.args.body.now in
    let body = writes_from (c.args.gate + 1) c.args.body.now in
    let closed = Write (c.args.gate + 1 + n) unmarked in
    subst (λ (calls : List Access). Performs c.from_residual-in_err-write.result calls (n + 2) (n + 1) old new) (append_assoc body (closed ∷ []) (Sync ∷ []))
    (err_performs _ c.from_residual-in_err-write.result old new (body ++ closed ∷ []) (Sync ∷ []) (n + 1) (n + 2) (n + 1) (n + 1) c.from_residual-in_err-write.ensures.1
    (performs_then _ old mid new body (closed ∷ []) n 1 n 1 c.in_ok-write_sectors.ensures.performs
    (performs_call _ closed mid new c.in_err-write.ensures.access))
    (omega arith) (omega arith))

pub returns-clause-performs : goal.returns-clause-performs
returns-clause-performs g c =
    let old = g.D.Disk.state c.args.disk.now in
    let body_done = g.D.Disk.state c.write_sectors.new.disk in
    let mid = g.D.Disk.state c.write.new.self in
    let new = g.D.Disk.state c.sync.new.self in
    let n = length c.args.body.now in
    let body = writes_from (c.args.gate + 1) c.args.body.now in
    let closed = Write (c.args.gate + 1 + n) unmarked in
    performs_then c.sync.result old body_done new body (closed ∷ Sync ∷ []) n 2 n 1 c.in_ok-write_sectors.ensures.performs
    (performs_then c.sync.result body_done mid new (closed ∷ []) (Sync ∷ []) 1 1 1 0
    (performs_call _ closed body_done mid c.in_ok-write.ensures.access)
    (performs_call c.sync.result Sync mid new c.sync.ensures.access))
