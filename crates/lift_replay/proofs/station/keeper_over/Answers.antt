use Rattle.std.proofs.Common.{refl}
use Rattle.lift_replay.proofs.Recovered.{never_refused}
use Rattle.lift_replay.proofs.station.keeper_over.Goals as goal

pub unreachable-requires : goal.unreachable-requires
unreachable-requires c = never_refused c.args.building.now c.args.disk c.in-Err.field-0.0 c.in-Err.field-0.1 c.requires.unarmed c.requires.readable c.in-Err.ensures.refused c.in-Err.ensures.calls_before

pub returns-clause-recovers : goal.returns-clause-recovers
returns-clause-recovers c =
    let opens = c.in-Ok.ensures.opens.reopens in record {
      reads = opens.safe tt _ (record { size = refl; others = λ i firm. refl });
      only = opens.only tt;
    }
