-- A way with a new call beside one without it, part by part.
use Rattle.std.proofs.Common.{◌≡◌, ℕ, ◌+◌, ◌*◌, ◌<◌, ◌≤◌, List, [], ◌∷◌, ◌++◌, sym, ap, ◌∙◌, arith}
use Rattle.lift_base.specs.declared.travel.Halt.{Halt}
use Rattle.lift_building.specs.Plan.{Plan, flight_ms}
use Rattle.lift_cost.specs.Ways.{weighted, floor_after, leaves_after, persons_along}
use Rattle.lift_cost.specs.Delays.{IsOnWays, IsShort}
use Rattle.lift_cost.specs.declared.ways.Ways.{Ways}
use Rattle.lift_cost.proofs.Earlier.{AllBelow}
use Rattle.lift_cost.proofs.Weighted.{floor_after-append, leaves_after-append, weighted-append, weighted-later, leaves_after-later}

-- both make these halts, of which the first one is reached later by the delay
pub later_there : (plan : Plan) (persons : Halt → ℕ) (start : ℕ) (made made_with : List Halt) (ways : Ways) (h : Halt) (hs : List Halt) (delay added : ℕ) → IsOnWays plan persons start made made_with ways
    → delay + flight_ms plan ways.floor h.floor ≡ ways.delay + flight_ms plan ways.floor_with h.floor → added ≡ delay * persons_along persons (h ∷ hs)
    → weighted plan persons start 0 (made_with ++ h ∷ hs) ≡ weighted plan persons start 0 (made ++ h ∷ hs) + (ways.later + added)
later_there plan persons start made made_with ways h hs delay added on delay-is added-is =
    let leaves : ℕ = leaves_after plan start 0 made in
    let first = weighted-append plan persons start 0 made (h ∷ hs) in
    let first-here = ap (λ f. weighted plan persons f leaves (h ∷ hs)) (sym on.floor) in
    let second = weighted-append plan persons start 0 made_with (h ∷ hs) in
    let second-here = ap (λ f. weighted plan persons f (leaves_after plan start 0 made_with) (h ∷ hs)) (sym on.floor_with) ∙ ap (λ time. weighted plan persons ways.floor_with time (h ∷ hs)) (sym on.leaves) in
    let there : ways.leaves_with + flight_ms plan ways.floor_with h.floor ≡ leaves + flight_ms plan ways.floor h.floor + delay = omega (arith, on.delay, delay-is) in
    let later = weighted-later plan persons ways.floor ways.floor_with leaves ways.leaves_with delay h hs there in
    omega (arith, first, first-here, second, second-here, later, on.later, added-is)

pub both_make : (plan : Plan) (persons : Halt → ℕ) (start : ℕ) (made made_with : List Halt) (ways : Ways) (h : Halt) (hs : List Halt) (floor leaves_with delay added : ℕ) → IsOnWays plan persons start made made_with ways
    → delay + flight_ms plan ways.floor h.floor ≡ ways.delay + flight_ms plan ways.floor_with h.floor → added ≡ delay * persons_along persons (h ∷ hs)
    → floor ≡ floor_after ways.floor_with (h ∷ hs) → leaves_with ≡ leaves_after plan ways.floor_with ways.leaves_with (h ∷ hs)
    → IsOnWays plan persons start (made ++ h ∷ hs) (made_with ++ h ∷ hs) (record { floor = floor; floor_with = floor; leaves_with = leaves_with; delay = delay; later = ways.later + added })
both_make plan persons start made made_with ways h hs floor leaves_with delay added on delay-is added-is floor-is leaves-is =
    let leaves : ℕ = leaves_after plan start 0 made in
    let there : ways.leaves_with + flight_ms plan ways.floor_with h.floor ≡ leaves + flight_ms plan ways.floor h.floor + delay = omega (arith, on.delay, delay-is) in
    let first = leaves_after-append plan start 0 made (h ∷ hs) ∙ ap (λ f. leaves_after plan f leaves (h ∷ hs)) (sym on.floor) in
    let second = leaves_after-append plan start 0 made_with (h ∷ hs) ∙ ap (λ f. leaves_after plan f (leaves_after plan start 0 made_with) (h ∷ hs)) (sym on.floor_with) ∙ ap (λ time. leaves_after plan ways.floor_with time (h ∷ hs)) (sym on.leaves) in
    let later = leaves_after-later plan ways.floor ways.floor_with leaves ways.leaves_with delay h hs there in
    record {
      floor = floor-is ∙ sym (floor_after-append start made (h ∷ hs));
      floor_with = floor-is ∙ sym (floor_after-append start made_with (h ∷ hs));
      leaves = leaves-is ∙ sym second;
      delay = omega (arith, leaves-is, first, later);
      later = later_there plan persons start made made_with ways h hs delay added on delay-is added-is;
    }

zero_times : (n : ℕ) → 0 * n ≡ 0
zero_times n = omega arith

pub one_makes : (plan : Plan) (persons : Halt → ℕ) (start : ℕ) (made made_with : List Halt) (ways : Ways) (h : Halt) (leaves_with delay : ℕ) → IsOnWays plan persons start made made_with ways → persons h ≡ 0
    → leaves_with ≡ ways.leaves_with + flight_ms plan ways.floor_with h.floor + plan.door_ms → delay ≡ ways.delay + flight_ms plan ways.floor_with h.floor + plan.door_ms
    → IsOnWays plan persons start made (made_with ++ h ∷ []) (record { floor = ways.floor; floor_with = h.floor; leaves_with = leaves_with; delay = delay; later = ways.later })
one_makes plan persons start made made_with ways h leaves_with delay on none leaves-is delay-is =
    let second = leaves_after-append plan start 0 made_with (h ∷ []) ∙ ap (λ f. leaves_after plan f (leaves_after plan start 0 made_with) (h ∷ [])) (sym on.floor_with) ∙ ap (λ time. leaves_after plan ways.floor_with time (h ∷ [])) (sym on.leaves) in
    let time : ℕ = leaves_after plan start 0 made_with + flight_ms plan (floor_after start made_with) h.floor in
    let more = weighted-append plan persons start 0 made_with (h ∷ []) in
    let nothing : persons h * time ≡ 0 = ap (λ n. n * time) none ∙ zero_times time in
    record {
      floor = on.floor;
      floor_with = sym (floor_after-append start made_with (h ∷ []));
      leaves = leaves-is ∙ sym second;
      delay = omega (arith, leaves-is, delay-is, on.delay);
      later = omega (arith, more, nothing, on.later);
    }

-- a car that makes halts of a building stays in it
pub within_after : (floors floor : ℕ) (hs : List Halt) → floor < floors → AllBelow floors hs → floor_after floor hs < floors
within_after floors floor [] here within = here
within_after floors floor (h ∷ hs) here within = within_after floors h.floor hs within.0 within.1

-- halts after others of a building are of it
pub below_after : (floors : ℕ) (hs behind : List Halt) → AllBelow floors (hs ++ behind) → AllBelow floors behind
below_after floors [] behind within = within
below_after floors (h ∷ hs) behind within = below_after floors hs behind within.1

-- what is short for some parts is short for more
pub still_short : (ways : Ways) (parts more : ℕ) → parts ≤ more → IsShort ways parts → IsShort ways more
still_short ways parts more no_less short = record {
  leaves = omega (arith, no_less, short.leaves);
  delay = omega (arith, no_less, short.delay);
  later = omega (arith, no_less, short.later);
}
