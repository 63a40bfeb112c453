-- The times of a car's passengers, halt by halt.
use Rattle.std.proofs.Common.{◌≡◌, ℕ, ◌+◌, ◌*◌, ◌<◌, List, [], ◌∷◌, ◌++◌, refl, ap, ◌∙◌, arith}
use Rattle.std.proofs.Math.Nat.{mul-add, mul_comm}
use Rattle.std.specs.List.{AllByRecursion}
use Rattle.lift_base.specs.declared.limits.TheConstants.{MOST_FLOORS}
use Rattle.lift_base.specs.declared.travel.Halt.{Halt}
use Rattle.lift_building.specs.Plan.{Plan, flight_ms}
use Rattle.lift_cost.specs.Ways.{weighted, floor_after, leaves_after, persons_along}

-- ---- halts and more halts

pub floor_after-append : (floor : ℕ) (halts more : List Halt) → floor_after floor (halts ++ more) ≡ floor_after (floor_after floor halts) more
floor_after-append floor [] more = refl
floor_after-append floor (h ∷ hs) more = floor_after-append h.floor hs more

pub leaves_after-append : (plan : Plan) (floor leaves : ℕ) (halts more : List Halt)
    → leaves_after plan floor leaves (halts ++ more) ≡ leaves_after plan (floor_after floor halts) (leaves_after plan floor leaves halts) more
leaves_after-append plan floor leaves [] more = refl
leaves_after-append plan floor leaves (h ∷ hs) more = leaves_after-append plan h.floor (leaves + flight_ms plan floor h.floor + plan.door_ms) hs more

pub persons_along-append : (persons : Halt → ℕ) (halts more : List Halt) → persons_along persons (halts ++ more) ≡ persons_along persons halts + persons_along persons more
persons_along-append persons [] more = omega arith
persons_along-append persons (h ∷ hs) more = omega (arith, persons_along-append persons hs more)

pub weighted-append : (plan : Plan) (persons : Halt → ℕ) (floor leaves : ℕ) (halts more : List Halt)
    → weighted plan persons floor leaves (halts ++ more)
    ≡ weighted plan persons floor leaves halts + weighted plan persons (floor_after floor halts) (leaves_after plan floor leaves halts) more
weighted-append plan persons floor leaves [] more = omega arith
weighted-append plan persons floor leaves (h ∷ hs) more = omega (arith, weighted-append plan persons h.floor (leaves + flight_ms plan floor h.floor + plan.door_ms) hs more)

-- ---- a car that leaves later

-- from the same floor
later_at_same : (plan : Plan) (persons : Halt → ℕ) (floor leaves delay : ℕ) (halts : List Halt)
    → weighted plan persons floor (leaves + delay) halts ≡ weighted plan persons floor leaves halts + delay * persons_along persons halts
later_at_same plan persons floor leaves delay [] = omega arith
later_at_same plan persons floor leaves delay (h ∷ hs) =
    let there : ℕ = leaves + flight_ms plan floor h.floor in
    let there-is : leaves + delay + flight_ms plan floor h.floor ≡ there + delay = omega arith in
    let behind-is : leaves + delay + flight_ms plan floor h.floor + plan.door_ms ≡ there + plan.door_ms + delay = omega arith in
    let first : persons h * (leaves + delay + flight_ms plan floor h.floor) ≡ persons h * there + persons h * delay = ap (λ time. persons h * time) there-is ∙ mul-add (persons h) there delay in
    let rest = ap (λ time. weighted plan persons h.floor time hs) behind-is ∙ later_at_same plan persons h.floor (there + plan.door_ms) delay hs in
    let sum : delay * (persons h + persons_along persons hs) ≡ delay * persons h + delay * persons_along persons hs = mul-add delay (persons h) (persons_along persons hs) in
    let turned : persons h * delay ≡ delay * persons h = mul_comm (persons h) delay in
    omega (arith, first, rest, sum, turned)

-- from another floor, at whose moment the first halt is reached later
pub weighted-later : (plan : Plan) (persons : Halt → ℕ) (floor other leaves later delay : ℕ) (h : Halt) (hs : List Halt) → later + flight_ms plan other h.floor ≡ leaves + flight_ms plan floor h.floor + delay
    → weighted plan persons other later (h ∷ hs) ≡ weighted plan persons floor leaves (h ∷ hs) + delay * persons_along persons (h ∷ hs)
weighted-later plan persons floor other leaves later delay h hs later-is =
    let there : ℕ = leaves + flight_ms plan floor h.floor in
    let behind-is : later + flight_ms plan other h.floor + plan.door_ms ≡ there + plan.door_ms + delay = omega (arith, later-is) in
    let first : persons h * (later + flight_ms plan other h.floor) ≡ persons h * there + persons h * delay = ap (λ time. persons h * time) later-is ∙ mul-add (persons h) there delay in
    let rest = ap (λ time. weighted plan persons h.floor time hs) behind-is ∙ later_at_same plan persons h.floor (there + plan.door_ms) delay hs in
    let sum : delay * (persons h + persons_along persons hs) ≡ delay * persons h + delay * persons_along persons hs = mul-add delay (persons h) (persons_along persons hs) in
    let turned : persons h * delay ≡ delay * persons h = mul_comm (persons h) delay in
    omega (arith, first, rest, sum, turned)

leaves_later_at_same : (plan : Plan) (floor leaves delay : ℕ) (halts : List Halt) → leaves_after plan floor (leaves + delay) halts ≡ leaves_after plan floor leaves halts + delay
leaves_later_at_same plan floor leaves delay [] = refl
leaves_later_at_same plan floor leaves delay (h ∷ hs) =
    let there : ℕ = leaves + flight_ms plan floor h.floor + plan.door_ms in
    let there-is : leaves + delay + flight_ms plan floor h.floor + plan.door_ms ≡ there + delay = omega arith in
    ap (λ time. leaves_after plan h.floor time hs) there-is ∙ leaves_later_at_same plan h.floor there delay hs

pub leaves_after-later : (plan : Plan) (floor other leaves later delay : ℕ) (h : Halt) (hs : List Halt) → later + flight_ms plan other h.floor ≡ leaves + flight_ms plan floor h.floor + delay
    → leaves_after plan other later (h ∷ hs) ≡ leaves_after plan floor leaves (h ∷ hs) + delay
leaves_after-later plan floor other leaves later delay h hs later-is =
    let there : ℕ = leaves + flight_ms plan floor h.floor + plan.door_ms in
    let there-is : later + flight_ms plan other h.floor + plan.door_ms ≡ there + delay = omega (arith, later-is) in
    ap (λ time. leaves_after plan h.floor time hs) there-is ∙ leaves_later_at_same plan h.floor there delay hs

-- ---- two ways to tell how many persons leave

-- the same is told of each of these halts
abbrev pub Agree : (Halt → ℕ) → (Halt → ℕ) → List Halt → Type 0
Agree persons others halts = AllByRecursion (λ h. persons h ≡ others h) halts

pub weighted-agree : (plan : Plan) (persons others : Halt → ℕ) (floor leaves : ℕ) (halts : List Halt) → Agree persons others halts
    → weighted plan persons floor leaves halts ≡ weighted plan others floor leaves halts
weighted-agree plan persons others floor leaves [] each = refl
weighted-agree plan persons others floor leaves (h ∷ hs) each =
    let there : ℕ = leaves + flight_ms plan floor h.floor in
    let first = ap (λ n. n * there) each.0 in
    let rest = weighted-agree plan persons others h.floor (there + plan.door_ms) hs each.1 in
    omega (arith, first, rest)

-- the same, of halts on floors that a building may have
pub agree_below : (persons others : Halt → ℕ) (halts : List Halt) → AllByRecursion (λ (h : Halt). h.floor < MOST_FLOORS) halts → ((h : Halt) → h.floor < MOST_FLOORS → persons h ≡ others h) → Agree persons others halts
agree_below persons others [] below each = tt
agree_below persons others (h ∷ hs) below each = (each h below.0, agree_below persons others hs below.1 each)
