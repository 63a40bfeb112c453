use Rattle.std.proofs.Common.{◌+◌, ◌++◌, [], ◌∷◌, subst, ap, ◌∙◌, arith, slice_set, ℕ, List}
use Rattle.std.proofs.lemmas.Result.{on_ok_weaker}
use Rattle.lift_disk.specs.Disk.{Image}
use Rattle.lift_disk.specs.lemmas.Moments.{touches_then_write}
use Rattle.lift_journal.specs.Steps.{overwritten, marked, IsInRange}
use Rattle.lift_journal.specs.lemmas.Telling.{access_ends, ends_then}
use Rattle.lift_disk.specs.Trace.Access.{Write}
use Rattle.lift_journal.specs.Calls.{Follows, writes_from}
use Rattle.lift_journal.proofs.Following.{one_follows, front_more, follows_then, err_follows}
use Rattle.lift_journal.proofs.checkpoint.write_open_batch.Goals as goal

pub returns-in_err-write_sectors-clause-touched : goal.returns-in_err-write_sectors-clause-touched
returns-in_err-write_sectors-clause-touched g c low high le ge loose =
    c.write_sectors.ensures.touched low high (omega (arith, le)) (omega (arith, ge)) loose

pub returns-clause-touched : goal.returns-clause-touched
returns-clause-touched g c low high le ge loose =
    touches_then_write (IsInRange low high) (g.D.Disk.state c.args.disk.now) (g.D.Disk.state c.write_sectors.new.disk) (g.D.Disk.state c.write.new.self)
    (c.write_sectors.ensures.touched low high (omega (arith, le)) (omega (arith, ge)) loose)
    (g.met.D.Disk.only_now c.write_sectors.new.disk) c.write.ensures.access.goes_on c.args.gate c.write.ensures.touched (omega (arith, le), omega (arith, ge))

pub returns-clause-written : goal.returns-clause-written
returns-clause-written g c =
    let old = g.D.Disk.state c.args.disk.now in
    on_ok_weaker c.write.result (λ stores honest steady.
    let body = c.in_ok-write_sectors.ensures.written honest steady in
    let after = stores.steady (c.write_sectors.ensures.performs.runs.honest.1 honest) body.steady in
    record {
      steady = after.steady;
      same = after.same ∙ ap (λ (l : Image). slice_set l c.args.gate c.mark.result) body.same
          ∙ ap (λ (s : List ℕ). slice_set (overwritten old.image (c.args.gate + 1) c.args.body.now) c.args.gate s) c.mark.ensures;
    }) c.write.ensures.stores

pub returns-clause-armed : goal.returns-clause-armed
returns-clause-armed g c =
    let mid = g.D.Disk.state c.write_sectors.new.disk in
    let new = g.D.Disk.state c.write.new.self in
    ends_then (g.D.Disk.state c.args.disk.now) mid new c.write_sectors.ensures.performs.runs c.in_ok-write_sectors.ensures.performs.armed.ok
    c.write.result (access_ends c.write.result (Write c.args.gate c.mark.result) mid new c.write.ensures.access)

pub returns-in_err-write_sectors-clause-follows : goal.returns-in_err-write_sectors-clause-follows
returns-in_err-write_sectors-clause-follows g c =
    let old = g.D.Disk.state c.args.disk.now in
    let new = g.D.Disk.state c.write_sectors.new.disk in
    let body = writes_from (c.args.gate + 1) c.args.body.now in
    err_follows _ c.from_residual.result old new (body ++ Write c.args.gate marked ∷ []) c.from_residual.ensures.1
    (front_more old new body (Write c.args.gate marked ∷ []) c.in_err-write_sectors.ensures.performs.follows.front)

pub returns-clause-follows : goal.returns-clause-follows
returns-clause-follows g c =
    let old = g.D.Disk.state c.args.disk.now in
    let mid = g.D.Disk.state c.write_sectors.new.disk in
    let new = g.D.Disk.state c.write.new.self in
    follows_then c.write.result old mid new (writes_from (c.args.gate + 1) c.args.body.now) (Write c.args.gate marked ∷ []) c.in_ok-write_sectors.ensures.performs.follows.all
    (subst (λ (s : List ℕ). Follows c.write.result (Write c.args.gate s ∷ []) mid new) c.mark.ensures (one_follows c.write.result (Write c.args.gate c.mark.result) mid new c.write.ensures.access.recorded))
