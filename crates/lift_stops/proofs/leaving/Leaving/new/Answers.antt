use Rattle.std.proofs.Common.{◌*◌, refl, arith}
use Rattle.std.proofs.lemmas.List.{get_or-replicate}
use Rattle.lift_base.specs.declared.limits.TheConstants.{MOST_FLOORS}
use Rattle.lift_stops.specs.Leaving.{place_of}
use Rattle.lift_stops.specs.lemmas.Leaving.{place_within}
use Rattle.lift_stops.proofs.leaving.Leaving.new.Goals as goal

pub returns : goal.returns
returns c position = record {
  size = refl;
  at_each = λ halt low. get_or-replicate (3 * MOST_FLOORS) (place_of halt) 0 0 (place_within halt low);
  limit = λ halt. omega arith;
}
