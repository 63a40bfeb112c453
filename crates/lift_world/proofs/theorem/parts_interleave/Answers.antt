use Rattle.lift_world.proofs.Interleaved.{flusher_might_come_first, flusher_goes_among}
use Rattle.lift_world.proofs.ScansAmong.{scans_go_among, allocations_go_among}
use Rattle.lift_world.proofs.StandsOn.{asks_stand_at_once, asks_stand_on, looks_find_asks, seals_alone_queue}
use Rattle.std.proofs.Common.{◌≡◌, List, [], ◌∷◌, Option, Some, refl, sym, subst}
use Rattle.std.specs.Prelude.{IsTrue, IsSome, unwrap_or}
use Rattle.std.specs.List.{AllByRecursion}
use Rattle.lift_world.specs.declared.event.Event.{Event}
use Rattle.lift_world.specs.World.{World}
use Rattle.lift_world.specs.Next.{next, goes}
use Rattle.lift_world.specs.Faults.{goes_on}
use Rattle.lift_world.specs.Among.{StandAmong}
use Rattle.lift_world.specs.lemmas.Steps.{then_from}
use Rattle.lift_world.proofs.theorem.parts_interleave.Goals as goal

stand_among : (events : List Event) (w after : World) → AllByRecursion (λ (e : Event). IsTrue (goes_on e)) events → goes events w ≡ Some after → StandAmong w events
stand_among [] w after k h = tt
stand_among (e ∷ events) w after k h =
    let t = then_from (goes events) (next w e) after h in (
      (λ others. (k.0, subst (λ (o : Option World). IsSome o) (sym t.1) refl)),
      subst (λ (o : Option World). StandAmong (unwrap_or o w) events) (sym t.1) (stand_among events t.0 after k.1 t.2),
    )

pub returns-clause-looks : goal.returns-clause-looks
returns-clause-looks c w terminal command = looks_find_asks w terminal command

pub returns-clause-parts : goal.returns-clause-parts
returns-clause-parts c w = record {
  first = flusher_might_come_first w;
  flushes = flusher_goes_among w;
  among = λ events after k h. stand_among events w after k h;
  asked = asks_stand_at_once w;
  stands = asks_stand_on w;
  queue = seals_alone_queue w;
  scans = scans_go_among w;
  allocations = allocations_go_among w;
}
