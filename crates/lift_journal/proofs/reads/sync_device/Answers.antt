use Rattle.std.proofs.Common.{arith}
use Rattle.lift_disk.specs.Trace.Access.{Sync}
use Rattle.lift_disk.specs.lemmas.Moments.{cause_of, runs_call, sync_touches, touches_rest}
use Rattle.lift_journal.specs.lemmas.Looking.{looks_by, ok_weaker, saves_sync}
use Rattle.lift_journal.specs.lemmas.Telling.{access_ends}
use Rattle.lift_journal.proofs.reads.sync_device.Goals as goal

pub returns-clause-looks : goal.returns-clause-looks
returns-clause-looks g c =
    let old = g.D.Disk.state c.args.disk.now in
    let new = g.D.Disk.state c.sync.new.self in
    looks_by c.sync.result old new
    (record {
      runs = runs_call old new c.sync.ensures.access.goes_on;
      writes = omega (arith, c.sync.ensures.access.writes);
      image = c.sync.ensures.image;
      saved = saves_sync c.sync.result old new c.sync.ensures.saves c.sync.ensures.leaves;
      touched = touches_rest old.is_loose old new c.sync.ensures.access.goes_on (sync_touches c.sync.result old new c.sync.ensures.saves c.sync.ensures.leaves) (λ _ i is. is) (g.met.D.Disk.only_now c.args.disk.now);
    })
    (cause_of c.sync.result old new c.sync.ensures.access.fault) (access_ends c.sync.result Sync old new c.sync.ensures.access)
    (ok_weaker c.sync.result _ _ (λ saves honest synced. let safe = saves honest in record { synced = safe.synced; same = (safe.steady synced.steady).same }) c.sync.ensures.saves)
