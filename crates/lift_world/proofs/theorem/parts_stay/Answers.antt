use Rattle.lift_world.proofs.Stays.{stays_between_scans, stays_between_flushes, stays_broken_between, stays_in_order, hears_on_in_order, asks_on_one_by_one, rests_in_order}
use Rattle.lift_world.proofs.theorem.parts_stay.Goals as goal

pub returns : goal.returns
returns c w = record {
  scans = stays_between_scans w;
  flushes = stays_between_flushes w;
  broken = stays_broken_between w;
  in_order = stays_in_order w;
  heard = hears_on_in_order w;
  asked = asks_on_one_by_one w;
  rest = rests_in_order w;
}
