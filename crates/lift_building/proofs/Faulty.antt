-- Where reading fails, something is at fault, and what stands before it is right.
use Rattle.std.proofs.Common.{◌≡◌, ◌≢◌, ℕ, ◌+◌, ◌-◌, ◌≤◌, ◌<◌, ◌⊎◌, ℤ, pos, negsuc, Bool, true, false, cond, ◌==◌, nat_le, List, [], ◌∷◌, length, Option, Some, None, Result, Ok, Err, refl, sym, ap, subst, ◌∙◌, arith, inl, inr}
use Rattle.std.proofs.lemmas.Bool.{cases_Bool, eqb-true, eqb-false, leb-true, leb-false}
use Rattle.toml.specs.Data.{Data, integer, array, table, Items, no_items, item, Members, get}
use Rattle.lift_base.specs.declared.limits.TheConstants.{MOST_CARS, MOST_FLOORS, MOST_KIOSKS, MOST_PLACES}
use Rattle.lift_building.specs.declared.fault.Field.{Field}
use Rattle.lift_building.specs.declared.fault.Field.TheVariants.{Floors, DoorMs, Kiosks, Flight, Cars, Places, Serves}
use Rattle.lift_building.specs.declared.fault.BuildingFault.{BuildingFault}
use Rattle.lift_building.specs.declared.fault.BuildingFault.TheVariants.{Missing, WrongType, OutOfRange, TableShape}
use Rattle.lift_building.specs.Text.{name_of}
use Rattle.lift_building.specs.Plan.{Plan, CarPlan}
use Rattle.lift_building.specs.Reading.{◌>>=◌, is_between, number_in, items_in, present, key, item_count, each, counted, number_at, floors_in, is_some_number, flight_in, row_in, table_in, served_in, car_in, cars_in, plan_in}
use Rattle.lift_building.specs.Faults.{IsBadNumber, not_integer, out_of_range, BeginWith, HasFirstBad, IsBadArray, not_array, bad_count, bad_item, IsFloorNumber, IsKioskCount, IsBadKiosks, IsFlightNumber, IsBadFlight, IsFlightRow, IsBadRow, IsBadTable, IsServedCount, IsBadServed, IsBadCar, not_table, no_places, bad_places, bad_floors, IsCarCount, IsCarValue, IsBadCars, IsRightKey, HasFirstFault, key_missing, key_bad}
use Rattle.lift_building.specs.lemmas.Limits.{counted_ok, between, number_in_ok, number_at_ok, floors_ok, flight_ok, row_ok, table_ok, flights_ok, car_ok}
use Rattle.lift_building.specs.lemmas.Described.{number_is, items_are, key_is, floors_are, flight_is, row_is, table_is, number_at_is, car_is}
use Rattle.lift_building.specs.lemmas.Again.{between_again}

-- ---- steps

abbrev failed : {A : Type 0} → BuildingFault → Result A BuildingFault
failed fault = Err fault

err_is : {A : Type 0} (a b : BuildingFault) → failed {A = A} a ≡ failed b → a ≡ b
err_is a b e = cc

-- the step that failed
bind_err : {A B : Type 0} (r : Result A BuildingFault) (f : A → Result B BuildingFault) (fault : BuildingFault) → (r >>= f) ≡ Err fault → (r ≡ Err fault) ⊎ ((x : A) × (r ≡ Ok x) × (f x ≡ Err fault))
bind_err (Ok x) f fault e = inr (x, refl, e)
bind_err {A} {B} (Err d) f fault e = inl (ap (λ g. failed {A = A} g) (err_is {A = B} d fault e))

present_err : (field : Field) (o : Option Data) (fault : BuildingFault) → present field o ≡ Err fault → (o ≡ None) × (Missing field ≡ fault)
present_err field None fault e = (refl, err_is {A = Data} (Missing field) fault e)
present_err field (Some v) fault e = absurd cc

items_err : (field : Field) (v : Data) (fault : BuildingFault) → items_in field v ≡ Err fault → ((items : Items) → v ≢ array items) × (WrongType field ≡ fault)
items_err field (array items) fault e = absurd cc
items_err field _ fault e = (λ items is. cc, err_is {A = Items} (WrongType field) fault e)

counted_err : (b : Bool) (short : BuildingFault) (items : Items) (fault : BuildingFault) → counted b short items ≡ Err fault → (b ≡ false) × (short ≡ fault)
counted_err true short items fault e = absurd cc
counted_err false short items fault e = (refl, err_is {A = Items} short fault e)

-- ---- numbers

not_between : (low high n : ℕ) → is_between low high n ≡ false → (n < low) ⊎ (high < n)
not_between low high n e =
    elim (cases_Bool (nat_le low n)) [
      | inl above ↦ elim (cases_Bool (nat_le n high)) [
        | inl below ↦ absurd (let both : is_between low high n ≡ true = rw (above, below) refl in cc)
        | inr beyond ↦ inr (leb-false n high beyond)
      ]
      | inr below ↦ inl (leb-false low n below)
    ]

wrong_type : (field : Field) (low high : ℕ) (v : Data) (fault : BuildingFault) → ((n : ℤ) → v ≢ integer n) → WrongType field ≡ fault → IsBadNumber field low high v fault
wrong_type field low high v fault other same = subst (λ f. IsBadNumber field low high v f) same (not_integer other)

number_err : (field : Field) (low high : ℕ) (v : Data) (fault : BuildingFault) → number_in field low high v ≡ Err fault → IsBadNumber field low high v fault
number_err field low high (integer (pos n)) fault e = by (is_between low high n) refl e
  where
    by : (b : Bool) → is_between low high n ≡ b → cond b (Ok n) (Err (OutOfRange field)) ≡ Err fault → IsBadNumber field low high (integer (pos n)) fault
    by true is e = absurd cc
    by false is e = subst (λ f. IsBadNumber field low high (integer (pos n)) f) (err_is {A = ℕ} (OutOfRange field) fault e) (out_of_range (not_between low high n is))
number_err field low high (integer (negsuc n)) fault e = subst (λ f. IsBadNumber field low high (integer (negsuc n)) f) (err_is {A = ℕ} (OutOfRange field) fault e) (out_of_range tt)
number_err field low high _ fault e = wrong_type field low high _ fault (λ n is. cc) (err_is {A = ℕ} (WrongType field) fault e)

number_at_err : (field : Field) (low high : ℕ) (v : Data) (fault : BuildingFault) → number_at field low high v ≡ Err fault
    → ((get (name_of field) v ≡ None) × (Missing field ≡ fault)) ⊎ ((value : Data) × (get (name_of field) v ≡ Some value) × IsBadNumber field low high value fault)
number_at_err field low high v fault e =
    elim (bind_err (key field v) (number_in field low high) fault e) [
      | inl gone ↦ inl (present_err field (get (name_of field) v) fault gone)
      | inr there ↦ inr (there.0, key_is field (get (name_of field) v) there.0 there.1, number_err field low high there.0 fault there.2)
    ]

-- ---- arrays

module _ {A : Type 0} (one : ℕ → Data → Result A BuildingFault) (Is : ℕ → Data → A → Type 0) (IsBad : ℕ → Data → BuildingFault → Type 0)
    (right : (i : ℕ) (v : Data) (x : A) → one i v ≡ Ok x → Is i v x) (bad : (i : ℕ) (v : Data) (fault : BuildingFault) → one i v ≡ Err fault → IsBad i v fault) where
  first_bad : (place : ℕ) (items : Items) (fault : BuildingFault) → each one place items ≡ Err fault
      → (before : List A) × (value : Data) × (after : Items) × BeginWith Is place items before (item value after) × IsBad (place + length before) value fault
  unfolding each
  first_bad place no_items fault e = absurd cc
  first_bad place (item v vs) fault e =
      elim (bind_err (one place v) (λ first. each one (place + 1) vs >>= λ others. Ok (first ∷ others)) fault e) [
        | inl here ↦ (let same : place ≡ place + 0 = omega arith in
            ([], v, vs, refl, subst (λ n. IsBad n v fault) same (bad place v fault here)))
        | inr there ↦ elim (bind_err (each one (place + 1) vs) (λ others. Ok (there.0 ∷ others)) fault there.2) [
          | inl later ↦ (let rest = first_bad (place + 1) vs fault later in
              let same : place + 1 + length rest.0 ≡ place + length (there.0 ∷ rest.0) = omega arith in
              (there.0 ∷ rest.0, rest.1, rest.2, (right place v there.0 there.1, rest.3), subst (λ n. IsBad n rest.1 fault) same rest.4))
          | inr none ↦ absurd (let ends = none.2 in cc)
        ]
      ]

  array_err : (field : Field) (allowed : ℕ → Bool) (IsCount : ℕ → Type 0) (short : BuildingFault) → ((n : ℕ) → allowed n ≡ true → IsCount n) → ((n : ℕ) → allowed n ≡ false → IsCount n → ⊥) → (v : Data) (fault : BuildingFault)
      → (items_in field v >>= λ items. counted (allowed (item_count items)) short items >>= λ those. each one 0 those) ≡ Err fault
      → IsBadArray field IsCount short Is IsBad v fault
  array_err field allowed IsCount short enough short_of v fault e =
      elim (bind_err (items_in field v) (λ items. counted (allowed (item_count items)) short items >>= λ those. each one 0 those) fault e) [
        | inl none ↦ (let wrong = items_err field v fault none in
            subst (λ f. IsBadArray field IsCount short Is IsBad v f) wrong.1 (not_array wrong.0))
        | inr some ↦ (
            let is = items_are field v some.0 some.1 in
            let At : Data → Type 0 = λ u. IsBadArray field IsCount short Is IsBad u fault in
            elim (bind_err (counted (allowed (item_count some.0)) short some.0) (λ those. each one 0 those) fault some.2) [
              | inl many ↦ (let wrong = counted_err (allowed (item_count some.0)) short some.0 fault many in
                  subst At (sym is) (subst (λ f. IsBadArray field IsCount short Is IsBad (array some.0) f) wrong.1 (bad_count (short_of (item_count some.0) wrong.0))))
              | inr those ↦ (let count = counted_ok (allowed (item_count some.0)) short some.0 those.0 those.1 in
                  let first = first_bad 0 those.0 fault those.2 in
                  let place : 0 + length first.0 ≡ length first.0 = omega arith in
                  let found : HasFirstBad Is IsBad those.0 fault = record { before = first.0; value = first.1; after = first.2; right = first.3; bad = subst (λ n. IsBad n first.1 fault) place first.4 } in
                  subst At (sym is) (bad_item (enough (item_count some.0) count.0) (subst (λ (items : Items). HasFirstBad Is IsBad items fault) (sym count.1) found)))
            ])
      ]

-- ---- floors

not_allowed : (low high n : ℕ) → is_between low high n ≡ false → (low ≤ n) × (n ≤ high) → ⊥
not_allowed low high n e fits = let both = between_again low high n fits.0 fits.1 in cc

floor_right : (field : Field) (floors : ℕ) → 1 ≤ floors → (v : Data) (n : ℕ) → number_in field 0 (floors - 1) v ≡ Ok n → IsFloorNumber floors v n
floor_right field floors some v n h = let fits = number_in_ok field 0 (floors - 1) v n h in (number_is field 0 (floors - 1) v n h, omega (arith, fits.1, some))

kiosks_err : (floors : ℕ) (v : Data) (fault : BuildingFault) → 1 ≤ floors → floors_in Kiosks (is_between 1 MOST_KIOSKS) floors v ≡ Err fault → IsBadKiosks floors v fault
unfolding floors_in
kiosks_err floors v fault some e =
    array_err (λ _. number_in Kiosks 0 (floors - 1)) (λ _. IsFloorNumber floors) (λ _. IsBadNumber Kiosks 0 (floors - 1)) (λ i w n h. floor_right Kiosks floors some w n h) (λ i w f h. number_err Kiosks 0 (floors - 1) w f h)
    Kiosks (is_between 1 MOST_KIOSKS) IsKioskCount (OutOfRange Kiosks) (λ n h. between 1 MOST_KIOSKS n h) (λ n h. not_allowed 1 MOST_KIOSKS n h) v fault e

served_err : (floors : ℕ) (v : Data) (fault : BuildingFault) → 1 ≤ floors → floors_in Serves is_some_number floors v ≡ Err fault → IsBadServed floors v fault
unfolding floors_in
served_err floors v fault some e =
    array_err (λ _. number_in Serves 0 (floors - 1)) (λ _. IsFloorNumber floors) (λ _. IsBadNumber Serves 0 (floors - 1)) (λ i w n h. floor_right Serves floors some w n h) (λ i w f h. number_err Serves 0 (floors - 1) w f h)
    Serves is_some_number IsServedCount (OutOfRange Serves) (λ n h. leb-true 1 n h) (λ n h fits. (let below = leb-false 1 n h in omega (arith, below, fits))) v fault e

-- ---- flights

flight_err : (i j : ℕ) (v : Data) (fault : BuildingFault) → flight_in i j v ≡ Err fault → IsBadFlight i j v fault
flight_err i j v fault e =
    elim (cases_Bool (i == j)) [
      | inl here ↦ (let read : number_in Flight 0 0 v ≡ Err fault = sym (ap (λ b. cond b (number_in Flight 0 0 v) (number_in Flight 1 600000 v)) here) ∙ e in
          (λ same. number_err Flight 0 0 v fault read, λ differ. absurd (differ (eqb-true i j here))))
      | inr there ↦ (let read : number_in Flight 1 600000 v ≡ Err fault = sym (ap (λ b. cond b (number_in Flight 0 0 v) (number_in Flight 1 600000 v)) there) ∙ e in
          (λ same. absurd (eqb-false i j there same), λ differ. number_err Flight 1 600000 v fault read))
    ]

row_err : (floors i : ℕ) (v : Data) (fault : BuildingFault) → row_in floors i v ≡ Err fault → IsBadRow floors i v fault
unfolding row_in
row_err floors i v fault e =
    array_err (flight_in i) (IsFlightNumber i) (IsBadFlight i) (λ j w n h. (flight_is i j w n h, flight_ok i j w n h)) (λ j w f h. flight_err i j w f h)
    Flight (λ count. count == floors) (λ count. count ≡ floors) TableShape (λ n h. eqb-true n floors h) (λ n h. eqb-false n floors h) v fault e

row_right : (floors i : ℕ) (v : Data) (row : List ℕ) → row_in floors i v ≡ Ok row → IsFlightRow floors i v row
row_right floors i v row h = let fits = row_ok floors i v row h in (row_is floors i v row h, fits.count, fits.each)

table_err : (floors : ℕ) (v : Data) (fault : BuildingFault) → table_in floors v ≡ Err fault → IsBadTable floors v fault
unfolding table_in
table_err floors v fault e =
    array_err (row_in floors) (IsFlightRow floors) (IsBadRow floors) (λ i w row h. row_right floors i w row h) (λ i w f h. row_err floors i w f h)
    Flight (λ count. count == floors) (λ count. count ≡ floors) TableShape (λ n h. eqb-true n floors h) (λ n h. eqb-false n floors h) v fault e

-- ---- cars

listed_err : (floors : ℕ) (o : Option Data) (fault : BuildingFault) → 1 ≤ floors → served_in floors o ≡ Err fault → (value : Data) × (o ≡ Some value) × IsBadServed floors value fault
unfolding served_in
listed_err floors None fault some e = absurd cc
listed_err floors (Some v) fault some e =
    elim (bind_err (floors_in Serves is_some_number floors v) _ fault e) [
      | inl wrong ↦ (v, refl, served_err floors v fault some wrong)
      | inr none ↦ absurd (let ends = none.2 in cc)
    ]

no_table : (floors : ℕ) (v : Data) (fault : BuildingFault) → ((members : Members) → v ≢ table members) → WrongType Cars ≡ fault → IsBadCar floors v fault
no_table floors v fault other same = subst (λ f. IsBadCar floors v f) same (not_table other)

car_err : (floors : ℕ) (v : Data) (fault : BuildingFault) → 1 ≤ floors → car_in floors v ≡ Err fault → IsBadCar floors v fault
unfolding car_in
car_err floors (table members) fault some e =
    elim (bind_err (number_at Places 1 MOST_PLACES (table members)) _ fault e) [
      | inl wrong ↦ elim (number_at_err Places 1 MOST_PLACES (table members) fault wrong) [
        | inl gone ↦ subst (λ f. IsBadCar floors (table members) f) gone.1 (no_places gone.0)
        | inr there ↦ bad_places there.0 there.1 there.2
      ]
      | inr places ↦ elim (bind_err (served_in floors (get (name_of Serves) (table members))) _ fault places.2) [
        | inl wrong ↦ (let listed = listed_err floors (get (name_of Serves) (table members)) fault some wrong in
            bad_floors places.0 listed.0 (number_at_is Places 1 MOST_PLACES (table members) places.0 places.1) (number_at_ok Places 1 MOST_PLACES (table members) places.0 places.1) listed.1 listed.2)
        | inr none ↦ absurd (let ends = none.2 in cc)
      ]
    ]
car_err floors _ fault some e = no_table floors _ fault (λ members is. cc) (err_is {A = CarPlan} (WrongType Cars) fault e)

cars_err : (floors : ℕ) (v : Data) (fault : BuildingFault) → 1 ≤ floors → cars_in floors v ≡ Err fault → IsBadCars floors v fault
unfolding cars_in
cars_err floors v fault some e =
    array_err (λ _. car_in floors) (λ _. IsCarValue floors) (λ _. IsBadCar floors) (λ i w car h. (car_is floors w car some h, car_ok floors w car some h)) (λ i w f h. car_err floors w f some h)
    Cars (is_between 1 MOST_CARS) IsCarCount (OutOfRange Cars) (λ n h. between 1 MOST_CARS n h) (λ n h. not_allowed 1 MOST_CARS n h) v fault e

-- ---- keys

number_key : (document : Data) (plan : Plan) (field : Field) (low high : ℕ) (fault : BuildingFault) → number_at field low high document ≡ Err fault
    → ((get (name_of field) document ≡ None) → HasFirstFault document (Missing field)) → ((value : Data) → get (name_of field) document ≡ Some value → IsBadNumber field low high value fault → HasFirstFault document fault)
    → HasFirstFault document fault
number_key document plan field low high fault e gone bad =
    elim (number_at_err field low high document fault e) [
      | inl none ↦ subst (λ f. HasFirstFault document f) none.1 (gone none.0)
      | inr there ↦ bad there.0 there.1 there.2
    ]

no_key : (document : Data) (field : Field) (fault : BuildingFault) → key field document ≡ Err fault → ((get (name_of field) document ≡ None) → HasFirstFault document (Missing field)) → HasFirstFault document fault
no_key document field fault e gone = let none = present_err field (get (name_of field) document) fault e in subst (λ f. HasFirstFault document f) none.1 (gone none.0)

pub plan_err : (document : Data) (fault : BuildingFault) → plan_in document ≡ Err fault → HasFirstFault document fault
unfolding plan_in
plan_err document fault e =
    let none : Plan = record { floors = 0; door_ms = 0; kiosks = []; flights = []; cars = [] } in
    elim (bind_err (number_at Floors 2 MOST_FLOORS document) _ fault e) [
      | inl wrong ↦ number_key document none Floors 2 MOST_FLOORS fault wrong (λ gone. key_missing none tt tt gone) (λ value is bad. key_bad Floors none value tt is bad)
      | inr floors ↦ (
          let floors-fit = number_at_ok Floors 2 MOST_FLOORS document floors.0 floors.1 in
          let some : 1 ≤ floors.0 = omega (arith, floors-fit.0) in
          let with_floors : Plan = record { floors = floors.0; door_ms = 0; kiosks = []; flights = []; cars = [] } in
          let floors-is : IsRightKey document with_floors Floors = (number_at_is Floors 2 MOST_FLOORS document floors.0 floors.1, floors-fit.0, floors-fit.1) in
          elim (bind_err (number_at DoorMs 0 60000 document) _ fault floors.2) [
            | inl wrong ↦ number_key document with_floors DoorMs 0 60000 fault wrong (λ gone. key_missing with_floors (floors-is, tt) tt gone) (λ value is bad. key_bad DoorMs with_floors value (floors-is, tt) is bad)
            | inr door ↦ (
                let door-fits = number_at_ok DoorMs 0 60000 document door.0 door.1 in
                let with_door : Plan = record { floors = floors.0; door_ms = door.0; kiosks = []; flights = []; cars = [] } in
                let door-is : IsRightKey document with_door DoorMs = (number_at_is DoorMs 0 60000 document door.0 door.1, door-fits.1) in
                elim (bind_err (key Kiosks document) _ fault door.2) [
                  | inl wrong ↦ no_key document Kiosks fault wrong (λ gone. key_missing with_door (floors-is, (door-is, tt)) tt gone)
                  | inr kiosk_value ↦ (
                      let kiosk-at = key_is Kiosks (get (name_of Kiosks) document) kiosk_value.0 kiosk_value.1 in
                      elim (bind_err (floors_in Kiosks (is_between 1 MOST_KIOSKS) floors.0 kiosk_value.0) _ fault kiosk_value.2) [
                        | inl wrong ↦ key_bad Kiosks with_door kiosk_value.0 (floors-is, (door-is, tt)) kiosk-at (kiosks_err floors.0 kiosk_value.0 fault some wrong)
                        | inr kiosks ↦ (
                            let kiosks-fit = floors_ok Kiosks (is_between 1 MOST_KIOSKS) floors.0 kiosk_value.0 kiosks.0 some kiosks.1 in
                            let few = between 1 MOST_KIOSKS (length kiosks.0) kiosks-fit.0 in
                            let with_kiosks : Plan = record { floors = floors.0; door_ms = door.0; kiosks = kiosks.0; flights = []; cars = [] } in
                            let kiosks-are : IsRightKey document with_kiosks Kiosks = (kiosk-at ∙ ap Some (floors_are Kiosks (is_between 1 MOST_KIOSKS) floors.0 kiosk_value.0 kiosks.0 kiosks.1), few, kiosks-fit.1) in
                            elim (bind_err (key Flight document) _ fault kiosks.2) [
                              | inl wrong ↦ no_key document Flight fault wrong (λ gone. key_missing with_kiosks (floors-is, (door-is, (kiosks-are, tt))) tt gone)
                              | inr flight_value ↦ (
                                  let flight-at = key_is Flight (get (name_of Flight) document) flight_value.0 flight_value.1 in
                                  elim (bind_err (table_in floors.0 flight_value.0) _ fault flight_value.2) [
                                    | inl wrong ↦ key_bad Flight with_kiosks flight_value.0 (floors-is, (door-is, (kiosks-are, tt))) flight-at (table_err floors.0 flight_value.0 fault wrong)
                                    | inr flights ↦ (
                                        let made : Plan = record { floors = floors.0; door_ms = door.0; kiosks = kiosks.0; flights = flights.0; cars = [] } in
                                        let flights-are : IsRightKey document made Flight = (flight-at ∙ ap Some (table_is floors.0 flight_value.0 flights.0 flights.1), flights_ok made (table_ok floors.0 flight_value.0 flights.0 flights.1)) in
                                        elim (bind_err (key Cars document) _ fault flights.2) [
                                          | inl wrong ↦ no_key document Cars fault wrong (λ gone. key_missing made (floors-is, (door-is, (kiosks-are, (flights-are, tt)))) tt gone)
                                          | inr car_value ↦ (
                                              let cars-at = key_is Cars (get (name_of Cars) document) car_value.0 car_value.1 in
                                              elim (bind_err (cars_in floors.0 car_value.0) _ fault car_value.2) [
                                                | inl wrong ↦ key_bad Cars made car_value.0 (floors-is, (door-is, (kiosks-are, (flights-are, tt)))) cars-at (cars_err floors.0 car_value.0 fault some wrong)
                                                | inr cars ↦ absurd (let ends = cars.2 in cc)
                                              ])
                                        ])
                                  ])
                            ])
                      ])
                ])
          ])
    ]
