use Rattle.std.proofs.Common.{◌≡◌, [], ◌∷◌, ◌++◌, slice_set, get_or, subst, arith, ◌<◌}
use Rattle.std.proofs.lemmas.Result.{err_from_is_err_and}
use Rattle.lift_disk.specs.lemmas.Moments.{runs_call, runs_then}
use Rattle.lift_disk.specs.Disk.{Touches, IsSteadyAt}
use Rattle.lift_journal.proofs.Writes.{written_more, written_front, touched_more}
use Rattle.lift_journal.specs.lemmas.Telling.{one_passes, one_fails, fails_then, err_ends}
use Rattle.lift_disk.specs.Trace.Access.{Write}
use Rattle.lift_journal.specs.Calls.{writes_from}
use Rattle.lift_journal.proofs.Following.{err_follows}
use Rattle.lift_journal.proofs.device.write_sectors.Goals as goal

pub returns-in_err-write-clause-touched : goal.returns-in_err-write-clause-touched
returns-in_err-write-clause-touched g c =
    let now = g.D.Disk.state c.loop-sector.disk in
    let new = g.D.Disk.state c.write.new.self in
    touched_more (g.D.Disk.state c.args.disk.now) now new c.args.first c.args.sectors.now c.loop-sector.sector-index c.loop-sector.invariant.written
    c.loop-sector-test.true (g.met.D.Disk.only_now c.loop-sector.disk) c.write.ensures.access.goes_on
    (subst (λ n. now.is_honest → Touches n now new) c.loop-sector.invariant.at c.write.ensures.touched)

pub loop-sector-preserved : goal.loop-sector-preserved
loop-sector-preserved g c =
    let now = g.D.Disk.state c.loop-sector.disk in
    let new = g.D.Disk.state c.write.new.self in
    record {
      at = omega (arith, c.loop-sector.invariant.at);
      written = written_more (g.D.Disk.state c.args.disk.now) now new c.args.first c.args.sectors.now c.loop-sector.sector-index c.loop-sector.invariant.written
          c.loop-sector-test.true (g.met.D.Disk.only_now c.loop-sector.disk) c.write.ensures.access.goes_on
          (subst (λ n. now.is_honest → Touches n now new) c.loop-sector.invariant.at c.write.ensures.touched)
          c.in_ok-write.ensures.access.fault.ok c.write.ensures.access.writes (one_passes now new c.write.ensures.access.goes_on c.in_ok-write.ensures.access.armed.ok c.in_ok-write.ensures.access.armed.same)
          (subst (λ n. new.trace ≡ now.trace ++ Write n (get_or c.args.sectors.now c.loop-sector.sector-index []) ∷ []) c.loop-sector.invariant.at c.in_ok-write.ensures.access.recorded.ok) c.requires.there (g.met.D.Disk.whole c.args.disk.now)
          (subst (λ n. now.is_honest → now.is_steady → IsSteadyAt (slice_set now.image n (get_or c.args.sectors.now c.loop-sector.sector-index [])) new) c.loop-sector.invariant.at c.in_ok-write.ensures.stores.steady);
    }

pub returns-in_err-write-clause-performs : goal.returns-in_err-write-clause-performs
returns-in_err-write-clause-performs g c =
    let old = g.D.Disk.state c.args.disk.now in
    let now = g.D.Disk.state c.loop-sector.disk in
    let new = g.D.Disk.state c.write.new.self in
    let so_far = c.loop-sector.invariant.written in
    let goes_on = c.write.ensures.access.goes_on in
    let fault = err_from_is_err_and c.from_residual.result c.from_residual.ensures.1 in
    record {
      runs = runs_then old now new so_far.runs (runs_call now new goes_on);
      cause = record { ok = rw fault.1 tt; err = rw fault.1 (let more : old.failures < new.failures = omega (arith, so_far.failures, c.in_err-write.ensures.access.fault.err) in more) };
      armed = err_ends _ c.from_residual.result old new c.from_residual.ensures.1
          (fails_then old now new so_far.runs so_far.armed (one_fails now new goes_on c.in_err-write.ensures.access.armed.err c.in_err-write.ensures.access.armed.short));
      made = record {
        calls = rw fault.1 tt;
        writes = rw fault.1 tt;
        most_calls = omega (arith, so_far.calls, goes_on.calls, c.loop-sector-test.true);
        most_writes = omega (arith, so_far.writes, c.write.ensures.access.writes, c.loop-sector-test.true);
      };
      follows = err_follows _ c.from_residual.result old new (writes_from c.args.first c.args.sectors.now) c.from_residual.ensures.1
          (written_front old now new c.args.first c.args.sectors.now c.loop-sector.sector-index so_far c.loop-sector-test.true c.in_err-write.ensures.access.recorded.err);
    }
