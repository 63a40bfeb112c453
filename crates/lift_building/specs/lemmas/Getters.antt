-- What a building's numbers keep to.
use Rattle.std.proofs.Common.{◌≡◌, ℕ, ◌≤◌, ◌<◌, ◌↔◌, [], true, false, length, get_or, sym, ap, ◌∙◌}
use Rattle.std.proofs.Common.{arith, inl, inr}
use Rattle.std.proofs.lemmas.Bool.{cases_lt}
use Rattle.std.proofs.lemmas.List.{get_or_past}
use Rattle.lift_base.specs.declared.limits.TheConstants.{LEAST_HALF, MOST_PLACES}
use Rattle.lift_base.specs.History.{IsWithinLimits}
use Rattle.lift_building.specs.Plan.{Plan, car_at, places_of, serves_floor}
use Rattle.lift_building.specs.Plan.{shape_of, IsCar, IsBuilding}

car_is : (plan : Plan) (car : ℕ) → IsBuilding plan → car < length plan.cars
    → IsCar plan.floors (car_at plan car)
car_is plan car lawful lt = lawful.limits.cars car (record { places = 0; served = [] }) lt

car_is_none : (plan : Plan) (car : ℕ) → length plan.cars ≤ car
    → car_at plan car ≡ record { places = 0; served = [] }
car_is_none plan car out = get_or_past plan.cars car (record { places = 0; served = [] }) out

-- no car takes more than 32 persons
pub places_short : (plan : Plan) (car : ℕ) → IsBuilding plan → places_of plan car ≤ MOST_PLACES
places_short plan car lawful = elim (cases_lt car (length plan.cars)) [
  | inl lt ↦ (car_is plan car lawful lt).few_places
  | inr out ↦ let none : places_of plan car ≡ 0 = ap (λ c. c.places) (car_is_none plan car out) in
      omega arith
]

-- the cars that take somebody are those of the building
pub places_there : (plan : Plan) (car : ℕ) → IsBuilding plan
    → (1 ≤ places_of plan car) ↔ (car < length plan.cars)
places_there plan car lawful = elim (cases_lt car (length plan.cars)) [
  | inl lt ↦ (λ _. lt, λ _. (car_is plan car lawful lt).some_place)
  | inr out ↦
      let none : places_of plan car ≡ 0 = ap (λ c. c.places) (car_is_none plan car out) in
      (λ some. absurd (omega arith), λ lt. absurd (omega arith))
]

-- a floor that a car serves is one of the building's, as is the car
pub serves_within : (plan : Plan) (car floor : ℕ) → IsBuilding plan
    → serves_floor plan car floor ≡ true → (car < length plan.cars) × (floor < plan.floors)
serves_within plan car floor lawful serves = elim (cases_lt car (length plan.cars)) [
  | inl lt ↦ elim (cases_lt floor plan.floors) [
    | inl inside ↦ (lt, inside)
    | inr out ↦
        let count = (car_is plan car lawful lt).length in
        absurd (let none : serves_floor plan car floor
        ≡ false = get_or_past (car_at plan car).served floor false (omega (arith, count)) in
        let no : true ≡ false = sym serves ∙ none in cc)
  ]
  | inr out ↦
      let none : serves_floor plan car floor ≡ false =
      ap (λ c. get_or c.served floor false) (car_is_none plan car out) in
      absurd (let no : true ≡ false = sym serves ∙ none in cc)
]

-- the journal of a building is within the limits where its half is
pub shape_within : (plan : Plan) (half : ℕ) → IsBuilding plan → LEAST_HALF ≤ half → half ≤ 1000000
    → IsWithinLimits (shape_of plan half)
shape_within plan half lawful some few = record {
  floors = (lawful.limits.two_floors, lawful.limits.few_floors);
  cars = (lawful.limits.some_car, lawful.limits.few_cars);
  kiosks = (lawful.limits.some_kiosk, lawful.limits.few_kiosks);
  half = (some, few);
}
