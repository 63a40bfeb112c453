use Rattle.std.proofs.Common.{subst, refl, []}
use Rattle.lift_disk.specs.Outcomes.{state_of}
use Rattle.lift_journal.specs.Journal.{ReadsAs}
use Rattle.lift_replay.proofs.Recovered.{empty_found, never_fails}
use Rattle.lift_replay.proofs.station.first_disk.Goals as goal

pub returns-clause-found : goal.returns-clause-found
returns-clause-found c =
    let reads = subst (λ s. ReadsAs s [] [] (state_of c.format.new.disk).image) c.shape.ensures.value (c.in-Ok.ensures.empty tt) in
    empty_found c.args.building.now (state_of c.format.new.disk).image reads (c.in-Ok.ensures.half tt)

pub unreachable-requires : goal.unreachable-requires
unreachable-requires c = never_fails (state_of c.in_ok-disk.disk) (state_of c.format.new.disk) tt (λ call later fails. fails) refl c.in-Err.ensures.performs.armed.err
