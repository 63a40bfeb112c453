-- Where something is at fault, and what stands before it is right, reading fails so.
use Rattle.std.proofs.Common.{◌≡◌, ◌≢◌, ℕ, suc, ◌+◌, ◌-◌, ◌<◌, ◌⊎◌, ℤ, pos, negsuc, Bool, true, false, cond, ◌==◌, List, [], ◌∷◌, length, Option, Some, None, Result, Ok, Err, refl, ap, subst, ◌∙◌, arith, inl, inr}
use Rattle.std.specs.List.{AllByRecursion}
use Rattle.std.proofs.lemmas.Bool.{cases_Bool, eq-eqb, eqb-true, eqb-false, le-leb, leb-true}
use Rattle.toml.specs.Data.{Data, integer, array, table, Items, no_items, item, Members, get}
use Rattle.lift_base.specs.declared.limits.TheConstants.{MOST_CARS, MOST_FLOORS, MOST_KIOSKS, MOST_PLACES}
use Rattle.lift_building.specs.declared.fault.Field.{Field}
use Rattle.lift_building.specs.declared.fault.Field.TheVariants.{Floors, DoorMs, Kiosks, Flight, Cars, Places, Serves}
use Rattle.lift_building.specs.declared.fault.BuildingFault.{BuildingFault}
use Rattle.lift_building.specs.declared.fault.BuildingFault.TheVariants.{Missing, WrongType, OutOfRange, TableShape}
use Rattle.lift_building.specs.Text.{name_of}
use Rattle.lift_building.specs.Plan.{Plan}
use Rattle.lift_building.specs.Reading.{◌>>=◌, is_between, number_in, items_in, present, key, item_count, each, counted, number_at, floors_in, is_some_number, flight_in, row_in, table_in, served_in, car_in, cars_in, plan_in}
use Rattle.lift_building.specs.Describes.{numbers, number_rows}
use Rattle.lift_building.specs.Faults.{IsOutside, IsBadNumber, not_integer, out_of_range, BeginWith, IsBadArray, not_array, bad_count, bad_item, IsFloorNumber, IsKioskCount, IsBadKiosks, IsFlightNumber, IsBadFlight, IsFlightRow, IsBadRow, IsBadTable, IsServedCount, IsBadServed, IsBadCar, not_table, no_places, bad_places, bad_floors, IsCarCount, IsCarValue, IsBadCars, keys_before, IsRightKey, IsNeeded, IsBadValue, HasFirstFault, key_missing, key_bad}
use Rattle.lift_building.specs.lemmas.Limits.{between}
use Rattle.lift_building.specs.lemmas.Again.{between_again, number_again, counted_again, floors_again, flight_again, row_again, table_again, rows_are, key_again, number_at_again, car_again}

-- ---- numbers

outside_again : (low high n : ℕ) → (n < low) ⊎ (high < n) → is_between low high n ≡ false
outside_again low high n out =
    elim (cases_Bool (is_between low high n)) [
      | inl inside ↦ absurd (let fits = between low high n inside in elim out [ inl below ↦ omega (arith, fits.0, below) | inr above ↦ omega (arith, fits.1, above) ])
      | inr outside ↦ outside
    ]

no_integer : (field : Field) (low high : ℕ) (v : Data) → ((n : ℤ) → v ≢ integer n) → number_in field low high v ≡ Err (WrongType field)
no_integer field low high (integer n) never = absurd (never n refl)
no_integer field low high _ never = refl

far_integer : (field : Field) (low high : ℕ) (n : ℤ) → IsOutside low high n → number_in field low high (integer n) ≡ Err (OutOfRange field)
far_integer field low high (pos n) out = rw (outside_again low high n out) refl
far_integer field low high (negsuc n) out = refl

number_found : (field : Field) (low high : ℕ) (v : Data) (fault : BuildingFault) → IsBadNumber field low high v fault → number_in field low high v ≡ Err fault
number_found field low high v _ (not_integer never) = no_integer field low high v never
number_found field low high _ _ (out_of_range {n} out) = far_integer field low high n out

key_gone : (field : Field) (v : Data) → get (name_of field) v ≡ None → key field v ≡ Err (Missing field)
key_gone field v gone = ap (present field) gone

number_gone : (field : Field) (low high : ℕ) (v : Data) → get (name_of field) v ≡ None → number_at field low high v ≡ Err (Missing field)
number_gone field low high v gone = rw (key_gone field v gone) refl

number_at_found : (field : Field) (low high : ℕ) (v value : Data) (fault : BuildingFault) → get (name_of field) v ≡ Some value → IsBadNumber field low high value fault → number_at field low high v ≡ Err fault
number_at_found field low high v value fault has wrong = rw (key_again field v value has) (number_found field low high value fault wrong)

-- ---- arrays

no_array : (field : Field) (v : Data) → ((items : Items) → v ≢ array items) → items_in field v ≡ Err (WrongType field)
no_array field (array items) never = absurd (never items refl)
no_array field _ never = refl

not_counted : (b : Bool) (short : BuildingFault) (items : Items) → b ≡ false → counted b short items ≡ Err short
not_counted true short items e = absurd cc
not_counted false short items e = refl

module _ {A : Type 0} (one : ℕ → Data → Result A BuildingFault) (Is : ℕ → Data → A → Type 0) (IsBad : ℕ → Data → BuildingFault → Type 0)
    (right : (i : ℕ) (v : Data) (x : A) → Is i v x → one i v ≡ Ok x) (bad : (i : ℕ) (v : Data) (fault : BuildingFault) → IsBad i v fault → one i v ≡ Err fault) where
  first_found : (place : ℕ) (items : Items) (before : List A) (value : Data) (after : Items) (fault : BuildingFault) → BeginWith Is place items before (item value after) → IsBad (place + length before) value fault → each one place items ≡ Err fault
  unfolding each
  first_found place items [] value after fault begins wrong =
      let same : place + 0 ≡ place = omega arith in
      let here : one place value ≡ Err fault = bad place value fault (subst (λ n. IsBad n value fault) same wrong) in
      rw (begins, here) refl
  first_found place no_items (x ∷ xs) value after fault begins wrong = absurd begins
  first_found place (item v vs) (x ∷ xs) value after fault begins wrong =
      let same : place + suc (length xs) ≡ place + 1 + length xs = omega arith in
      let rest = first_found (place + 1) vs xs value after fault begins.1 (subst (λ n. IsBad n value fault) same wrong) in
      rw (right place v x begins.0, rest) refl

  array_found : (field : Field) (allowed : ℕ → Bool) (IsCount : ℕ → Type 0) (short : BuildingFault) → ((n : ℕ) → allowed n ≡ true → IsCount n) → ((n : ℕ) → IsCount n → allowed n ≡ true) → (v : Data) (fault : BuildingFault)
      → IsBadArray field IsCount short Is IsBad v fault
      → (items_in field v >>= λ items. counted (allowed (item_count items)) short items >>= λ those. each one 0 those) ≡ Err fault
  array_found field allowed IsCount short is again v _ (not_array never) = rw (no_array field v never) refl
  array_found field allowed IsCount short is again _ _ (bad_count {items} few) =
      let refused : allowed (item_count items) ≡ false = elim (cases_Bool (allowed (item_count items))) [
        | inl enough ↦ absurd (few (is (item_count items) enough))
        | inr less ↦ less
      ] in
      rw (not_counted (allowed (item_count items)) short items refused) refl
  array_found field allowed IsCount short is again _ fault (bad_item {items} enough first) =
      let place : length first.before ≡ 0 + length first.before = omega arith in
      rw (counted_again (allowed (item_count items)) short items (again (item_count items) enough))
      (first_found 0 items first.before first.value first.after fault first.right (subst (λ n. IsBad n first.value fault) place first.bad))

-- ---- floors

floor_again : (field : Field) (floors : ℕ) (v : Data) (n : ℕ) → IsFloorNumber floors v n → number_in field 0 (floors - 1) v ≡ Ok n
floor_again field floors v n is = ap (number_in field 0 (floors - 1)) is.0 ∙ number_again field 0 (floors - 1) n (omega arith) (let lt = is.1 in omega (arith, lt))

kiosks_found : (floors : ℕ) (v : Data) (fault : BuildingFault) → IsBadKiosks floors v fault → floors_in Kiosks (is_between 1 MOST_KIOSKS) floors v ≡ Err fault
unfolding floors_in
kiosks_found floors v fault wrong =
    array_found (λ _. number_in Kiosks 0 (floors - 1)) (λ _. IsFloorNumber floors) (λ _. IsBadNumber Kiosks 0 (floors - 1)) (λ i w n h. floor_again Kiosks floors w n h) (λ i w f h. number_found Kiosks 0 (floors - 1) w f h)
    Kiosks (is_between 1 MOST_KIOSKS) IsKioskCount (OutOfRange Kiosks) (λ n h. between 1 MOST_KIOSKS n h) (λ n h. between_again 1 MOST_KIOSKS n h.0 h.1) v fault wrong

served_found : (floors : ℕ) (v : Data) (fault : BuildingFault) → IsBadServed floors v fault → floors_in Serves is_some_number floors v ≡ Err fault
unfolding floors_in
served_found floors v fault wrong =
    array_found (λ _. number_in Serves 0 (floors - 1)) (λ _. IsFloorNumber floors) (λ _. IsBadNumber Serves 0 (floors - 1)) (λ i w n h. floor_again Serves floors w n h) (λ i w f h. number_found Serves 0 (floors - 1) w f h)
    Serves is_some_number IsServedCount (OutOfRange Serves) (λ n h. leb-true 1 n h) (λ n h. le-leb 1 n h) v fault wrong

-- ---- flights

flight_found : (i j : ℕ) (v : Data) (fault : BuildingFault) → IsBadFlight i j v fault → flight_in i j v ≡ Err fault
flight_found i j v fault wrong =
    elim (cases_Bool (i == j)) [
      | inl here ↦ ap (λ b. cond b (number_in Flight 0 0 v) (number_in Flight 1 600000 v)) here ∙ number_found Flight 0 0 v fault (wrong.0 (eqb-true i j here))
      | inr there ↦ ap (λ b. cond b (number_in Flight 0 0 v) (number_in Flight 1 600000 v)) there ∙ number_found Flight 1 600000 v fault (wrong.1 (eqb-false i j there))
    ]

row_found : (floors i : ℕ) (v : Data) (fault : BuildingFault) → IsBadRow floors i v fault → row_in floors i v ≡ Err fault
unfolding row_in
row_found floors i v fault wrong =
    array_found (flight_in i) (IsFlightNumber i) (IsBadFlight i) (λ j w n h. ap (flight_in i j) h.0 ∙ flight_again i j n h.1) (λ j w f h. flight_found i j w f h)
    Flight (λ count. count == floors) (λ count. count ≡ floors) TableShape (λ n h. eqb-true n floors h) (λ n h. eq-eqb n floors h) v fault wrong

row_read : (floors i : ℕ) (v : Data) (row : List ℕ) → IsFlightRow floors i v row → row_in floors i v ≡ Ok row
row_read floors i v row is = ap (row_in floors i) is.0 ∙ row_again floors i row (record { count = is.1; each = is.2 })

table_found : (floors : ℕ) (v : Data) (fault : BuildingFault) → IsBadTable floors v fault → table_in floors v ≡ Err fault
unfolding table_in
table_found floors v fault wrong =
    array_found (row_in floors) (IsFlightRow floors) (IsBadRow floors) (λ i w row h. row_read floors i w row h) (λ i w f h. row_found floors i w f h)
    Flight (λ count. count == floors) (λ count. count ≡ floors) TableShape (λ n h. eqb-true n floors h) (λ n h. eq-eqb n floors h) v fault wrong

-- ---- cars

no_table : (floors : ℕ) (v : Data) → ((members : Members) → v ≢ table members) → car_in floors v ≡ Err (WrongType Cars)
unfolding car_in
no_table floors (table members) never = absurd (never members refl)
no_table floors _ never = refl

listed_found : (floors : ℕ) (o : Option Data) (value : Data) (fault : BuildingFault) → o ≡ Some value → IsBadServed floors value fault → served_in floors o ≡ Err fault
unfolding served_in
listed_found floors o value fault is wrong = rw is (rw (served_found floors value fault wrong) refl)

car_found : (floors : ℕ) (v : Data) (fault : BuildingFault) → IsBadCar floors v fault → car_in floors v ≡ Err fault
unfolding car_in
car_found floors v _ (not_table never) = no_table floors v never
car_found floors _ _ (no_places {members} gone) = rw (number_gone Places 1 MOST_PLACES (table members) gone) refl
car_found floors _ fault (bad_places {members} value has wrong) = rw (number_at_found Places 1 MOST_PLACES (table members) value fault has wrong) refl
car_found floors _ fault (bad_floors {members} places value has fits listed wrong) =
    rw (number_at_again Places 1 MOST_PLACES (table members) places has fits.0 fits.1, listed_found floors (get (name_of Serves) (table members)) value fault listed wrong) refl

cars_found : (floors : ℕ) (v : Data) (fault : BuildingFault) → IsBadCars floors v fault → cars_in floors v ≡ Err fault
unfolding cars_in
cars_found floors v fault wrong =
    array_found (λ _. car_in floors) (λ _. IsCarValue floors) (λ _. IsBadCar floors) (λ i w car h. car_again floors w car h.0 h.1) (λ i w f h. car_found floors w f h)
    Cars (is_between 1 MOST_CARS) IsCarCount (OutOfRange Cars) (λ n h. between 1 MOST_CARS n h) (λ n h. between_again 1 MOST_CARS n h.0 h.1) v fault wrong

-- ---- keys

module _ (document : Data) (plan : Plan) where
  floors_read : IsRightKey document plan Floors → number_at Floors 2 MOST_FLOORS document ≡ Ok plan.floors
  floors_read is = number_at_again Floors 2 MOST_FLOORS document plan.floors is.0 is.1 is.2

  door_read : IsRightKey document plan DoorMs → number_at DoorMs 0 60000 document ≡ Ok plan.door_ms
  door_read is = number_at_again DoorMs 0 60000 document plan.door_ms is.0 (omega arith) is.1

  kiosks_there : IsRightKey document plan Kiosks → key Kiosks document ≡ Ok (array (numbers plan.kiosks))
  kiosks_there is = key_again Kiosks document (array (numbers plan.kiosks)) is.0

  kiosks_read : IsRightKey document plan Kiosks → floors_in Kiosks (is_between 1 MOST_KIOSKS) plan.floors (array (numbers plan.kiosks)) ≡ Ok plan.kiosks
  kiosks_read is = let few = is.1 in floors_again Kiosks (is_between 1 MOST_KIOSKS) plan.floors plan.kiosks (between_again 1 MOST_KIOSKS (length plan.kiosks) few.0 few.1) is.2

  flights_there : IsRightKey document plan Flight → key Flight document ≡ Ok (array (number_rows plan.flights))
  flights_there is = key_again Flight document (array (number_rows plan.flights)) is.0

  flights_read : IsRightKey document plan Flight → table_in plan.floors (array (number_rows plan.flights)) ≡ Ok plan.flights
  flights_read is = table_again plan.floors plan.flights is.1.rows (rows_are plan is.1)

  missing_found : (field : Field) → AllByRecursion (IsRightKey document plan) (keys_before field) → IsNeeded field → get (name_of field) document ≡ None → plan_in document ≡ Err (Missing field)
  unfolding plan_in
  missing_found Floors rights needed gone = rw (number_gone Floors 2 MOST_FLOORS document gone) refl
  missing_found DoorMs (floors, rest) needed gone = rw (floors_read floors, number_gone DoorMs 0 60000 document gone) refl
  missing_found Kiosks (floors, (door, rest)) needed gone = rw (floors_read floors, door_read door, key_gone Kiosks document gone) refl
  missing_found Flight (floors, (door, (kiosks, rest))) needed gone = rw (floors_read floors, door_read door, kiosks_there kiosks, kiosks_read kiosks, key_gone Flight document gone) refl
  missing_found Cars (floors, (door, (kiosks, (flights, rest)))) needed gone =
      rw (floors_read floors, door_read door, kiosks_there kiosks, kiosks_read kiosks, flights_there flights, flights_read flights, key_gone Cars document gone) refl
  missing_found Places rights needed gone = absurd needed
  missing_found Serves rights needed gone = absurd needed

  bad_found : (field : Field) (value : Data) (fault : BuildingFault) → AllByRecursion (IsRightKey document plan) (keys_before field) → get (name_of field) document ≡ Some value → IsBadValue field plan value fault → plan_in document ≡ Err fault
  unfolding plan_in
  bad_found Floors value fault rights has wrong = rw (number_at_found Floors 2 MOST_FLOORS document value fault has wrong) refl
  bad_found DoorMs value fault (floors, rest) has wrong = rw (floors_read floors, number_at_found DoorMs 0 60000 document value fault has wrong) refl
  bad_found Kiosks value fault (floors, (door, rest)) has wrong = rw (floors_read floors, door_read door, key_again Kiosks document value has, kiosks_found plan.floors value fault wrong) refl
  bad_found Flight value fault (floors, (door, (kiosks, rest))) has wrong =
      rw (floors_read floors, door_read door, kiosks_there kiosks, kiosks_read kiosks, key_again Flight document value has, table_found plan.floors value fault wrong) refl
  bad_found Cars value fault (floors, (door, (kiosks, (flights, rest)))) has wrong =
      rw (floors_read floors, door_read door, kiosks_there kiosks, kiosks_read kiosks, flights_there flights, flights_read flights, key_again Cars document value has, cars_found plan.floors value fault wrong) refl
  bad_found Places value fault rights has wrong = absurd wrong
  bad_found Serves value fault rights has wrong = absurd wrong

pub plan_found : (document : Data) (fault : BuildingFault) → HasFirstFault document fault → plan_in document ≡ Err fault
plan_found document _ (key_missing {field} plan rights needed gone) = missing_found document plan field rights needed gone
plan_found document fault (key_bad field plan value rights has wrong) = bad_found document plan field value fault rights has wrong
