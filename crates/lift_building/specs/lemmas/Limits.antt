-- What is read keeps the limits.
use Rattle.std.proofs.Common.{◌≡◌, ◌≢◌, ℕ, zero, suc, ◌+◌, ◌-◌, ◌≤◌, ◌<◌, pos, negsuc, Bool, true}
use Rattle.std.proofs.Common.{false, cond, ◌==◌, List, [], ◌∷◌, length, get_or, Option, Some, None}
use Rattle.std.proofs.Common.{Result, Ok, Err, All, replicate, refl, sym, ap, subst, ◌∙◌, arith}
use Rattle.std.proofs.Common.{inl, inr, nat_le, Contains}
use Rattle.std.specs.List.{list_any}
use Rattle.std.proofs.lemmas.Bool.{and_parts, eqb-true, eqb-false, eq-eqb, cases_Bool}
use Rattle.std.proofs.lemmas.Bool.Decides.{nat_tests}
use Rattle.std.proofs.lemmas.List.{length-replicate, get_or-replicate}
use Rattle.std.proofs.lemmas.List.FromFn.{length-map-range_with_len, get_or-map-range_with_len}
use Rattle.std.proofs.lemmas.List.Folds.{list_any_at}
use Rattle.toml.specs.Data.{Data, integer, table, Items, no_items, item, get}
use Rattle.lift_base.specs.declared.limits.TheConstants.{MOST_CARS, MOST_FLOORS, MOST_KIOSKS, MOST_PLACES}
use Rattle.lift_building.specs.declared.fault.Field.{Field}
use Rattle.lift_building.specs.declared.fault.Field.TheVariants.{Floors, DoorMs, Kiosks, Flight}
use Rattle.lift_building.specs.declared.fault.Field.TheVariants.{Cars, Places, Serves}
use Rattle.lift_building.specs.declared.fault.BuildingFault.{BuildingFault}
use Rattle.lift_building.specs.declared.fault.BuildingFault.TheVariants.{OutOfRange, TableShape}
use Rattle.std.specs.Prelude.{IfOk}
use Rattle.lift_building.specs.declared.layout.Layout.{Layout}
use Rattle.lift_building.specs.Layout.{layout_view}
use Rattle.lift_building.specs.Gives.{Gives}
use Rattle.lift_building.specs.Text.{name_of}
use Rattle.lift_building.specs.Plan.{Plan, CarPlan, HasFlights, IsCar, HasLimits}
use Rattle.lift_building.specs.Reading.{◌>>=◌, is_between, number_in, items_in, key, item_count}
use Rattle.lift_building.specs.Reading.{each, counted, number_at, floors_in, is_some_number}
use Rattle.lift_building.specs.Reading.{flight_in, row_in, table_in, flags_of, served_in, car_in}
use Rattle.lift_building.specs.Reading.{cars_in, plan_in}

-- the value of a step that did not fail
pub bind_ok : {A B : Type 0} (r : Result A BuildingFault) (f : A → Result B BuildingFault) (y : B)
    → (r >>= f) ≡ Ok y → (x : A) × (r ≡ Ok x) × (f x ≡ Ok y)
bind_ok (Ok x) f y e = (x, refl, e)
bind_ok (Err d) f y e = absurd cc

pub guard_ok : {A : Type 0} (b : Bool) (d : BuildingFault) (x y : A) → cond b (Ok x) (Err d) ≡ Ok y
    → (b ≡ true) × (x ≡ y)
guard_ok true d x y e = (refl, cc)
guard_ok false d x y e = absurd cc

abbrev pub done : {A : Type 0} → A → Result A BuildingFault
done x = Ok x

pub ok_is : {A : Type 0} (x y : A) → done x ≡ done y → x ≡ y
ok_is x y e = cc

pub counted_ok : (b : Bool) (d : BuildingFault) (items those : Items) → counted b d items ≡ Ok those
    → (b ≡ true) × (items ≡ those)
counted_ok true d items those e = (refl, cc)
counted_ok false d items those e = absurd cc

pub between : (low high n : ℕ) → is_between low high n ≡ true → (low ≤ n) × (n ≤ high)
between low high n e =
    let (l, h) = and_parts (nat_le low n) (nat_le n high) e in
    (grind (arith, nat_tests), grind (arith, nat_tests))

pub number_in_ok : (field : Field) (low high : ℕ) (v : Data) (n : ℕ)
    → number_in field low high v ≡ Ok n → (low ≤ n) × (n ≤ high)
number_in_ok field low high (integer (pos m)) n e =
    let g = guard_ok (is_between low high m) (OutOfRange field) m n e in
    let P : ℕ → Type 0 = λ k. (low ≤ k) × (k ≤ high) in
    subst P g.1 (between low high m g.0)
number_in_ok field low high (integer (negsuc m)) n e = absurd cc
number_in_ok field low high _ n e = absurd cc

at_place : {A : Type 0} (P : ℕ → A → Type 0) (i k : ℕ) (x : A) (rest : List A) (d : A) → P i x
    → ((n : ℕ) → n < length rest → P (i + 1 + n) (get_or rest n d)) → k < length (x ∷ rest)
    → P (i + k) (get_or (x ∷ rest) k d)
at_place P i zero x rest d first others lt = let e : i ≡ i + 0 = omega arith in
    subst (λ j. P j x) e first
at_place P i (suc k) x rest d first others lt = let e : i + 1 + k ≡ i + suc k = omega arith in
    subst (λ j. P j (get_or rest k d)) e (others k (omega arith))

-- what is read at each place is what reading that item gave
pub each_at : {A : Type 0} (P : ℕ → A → Type 0) (one : ℕ → Data → Result A BuildingFault)
    → ((i : ℕ) (v : Data) (x : A) → one i v ≡ Ok x → P i x)
    → (i : ℕ) (items : Items) (xs : List A) → each one i items ≡ Ok xs → (k : ℕ) (d : A)
    → k < length xs → P (i + k) (get_or xs k d)
unfolding each
each_at P one gives i no_items xs e k d lt =
    absurd (let none : length xs ≡ 0 = ap length (sym (ok_is [] xs e)) in omega arith)
each_at {A} P one gives i (item v vs) xs e k d lt =
    let a = bind_ok (one i v) (λ first. each one (i + 1) vs >>= λ others.
    Ok (first ∷ others)) xs e in
    let b = bind_ok (each one (i + 1) vs) (λ others. Ok (a.0 ∷ others)) xs a.2 in
    let xs-is : a.0 ∷ b.0 ≡ xs = ok_is (a.0 ∷ b.0) xs b.2 in
    let Q : List A → Type 0 = λ ys. k < length ys → P (i + k) (get_or ys k d) in
    subst Q xs-is (at_place P i k a.0 b.0 d (gives i v a.0 a.1) (λ n lt.
    each_at P one gives (i + 1) vs b.0 b.1 n d lt)) lt

pub each_count : {A : Type 0} (one : ℕ → Data
    → Result A BuildingFault) (i : ℕ) (items : Items) (xs : List A) → each one i items ≡ Ok xs
    → length xs ≡ item_count items
unfolding each
each_count one i no_items xs e = ap length (sym (ok_is [] xs e))
each_count one i (item v vs) xs e =
    let a = bind_ok (one i v) (λ first. each one (i + 1) vs >>= λ others.
    Ok (first ∷ others)) xs e in
    let b = bind_ok (each one (i + 1) vs) (λ others. Ok (a.0 ∷ others)) xs a.2 in
    ap length (sym (ok_is (a.0 ∷ b.0) xs b.2)) ∙ ap suc (each_count one (i + 1) vs b.0 b.1)

each_all : {A : Type 0} (P : ℕ → A → Type 0) (one : ℕ → Data → Result A BuildingFault)
    → ((i : ℕ) (v : Data) (x : A) → one i v ≡ Ok x → P i x)
    → (items : Items) (xs : List A) → each one 0 items ≡ Ok xs → (k : ℕ) (d : A) → k < length xs
    → P k (get_or xs k d)
each_all P one gives items xs e k d lt = let from-zero : 0 + k ≡ k = omega arith in
    subst (λ j. P j (get_or xs k d)) from-zero (each_at P one gives 0 items xs e k d lt)

pub floors_ok : (field : Field) (is_allowed : ℕ → Bool) (floors : ℕ) (v : Data) (xs : List ℕ)
    → 1 ≤ floors → floors_in field is_allowed floors v ≡ Ok xs
    → (is_allowed (length xs) ≡ true) × All (λ floor. floor < floors) xs
unfolding floors_in
floors_ok field is_allowed floors v xs some e =
    let one : ℕ → Data → Result ℕ BuildingFault = λ _. number_in field 0 (floors - 1) in
    let a = bind_ok (items_in field v) (λ items.
    counted (is_allowed (item_count items)) (OutOfRange field) items >>= λ those.
    each one 0 those) xs e in
    let b = bind_ok (counted (is_allowed (item_count a.0)) (OutOfRange field) a.0) (λ those.
    each one 0 those) xs a.2 in
    let c = counted_ok (is_allowed (item_count a.0)) (OutOfRange field) a.0 b.0 b.1 in
    let len = each_count one 0 b.0 xs b.2 in
    let inside : (i : ℕ) (w : Data) (x : ℕ) → one i w ≡ Ok x → x < floors = λ i w x h. let r =
    number_in_ok field 0 (floors - 1) w x h in omega (arith, r.1, some) in (
      ap is_allowed (len ∙ ap item_count (sym c.1)) ∙ c.0,
      each_all (λ _ x.
          x < floors) one inside b.0 xs b.2,
    )

-- a flight from floor i, at its place in the row
abbrev pub IsFlight : ℕ → ℕ → ℕ → Type 0
IsFlight i j time = (i ≡ j → time ≡ 0) × (i ≢ j → (1 ≤ time) × (time ≤ 600000))

pub flight_ok : (i j : ℕ) (v : Data) (time : ℕ) → flight_in i j v ≡ Ok time → IsFlight i j time
flight_ok i j v time e =
    elim (cases_Bool (i == j)) [
      | inl here ↦
          let read : number_in Flight 0 0 v ≡ Ok time =
          sym (ap (λ b. cond b (number_in Flight 0 0 v) (number_in Flight 1 600000 v)) here) ∙
          e in
          let r = number_in_ok Flight 0 0 v time read in
          (λ _. omega arith, λ differ. absurd (differ (eqb-true i j here)))
      | inr there ↦
          let read : number_in Flight 1 600000 v ≡ Ok time =
          sym (ap (λ b. cond b (number_in Flight 0 0 v) (number_in Flight 1 600000 v)) there) ∙
          e in
          let r = number_in_ok Flight 1 600000 v time read in
          (λ same. absurd (eqb-false i j there same), λ _. r)
    ]

pub record IsRow (floors i : ℕ) (row : List ℕ) : Type 0 where
  pub count : length row ≡ floors
  pub each : (j : ℕ) → j < length row → IsFlight i j (get_or row j 0)

pub row_ok : (floors i : ℕ) (v : Data) (row : List ℕ) → row_in floors i v ≡ Ok row → IsRow floors i row
unfolding row_in
row_ok floors i v row e =
    let a = bind_ok (items_in Flight v) (λ items.
    counted (item_count items == floors) TableShape items >>= λ those.
    each (flight_in i) 0 those) row e in
    let b = bind_ok (counted (item_count a.0 == floors) TableShape a.0) (λ those.
    each (flight_in i) 0 those) row a.2 in
    let c = counted_ok (item_count a.0 == floors) TableShape a.0 b.0 b.1 in
    let len = each_count (flight_in i) 0 b.0 row b.2 in
    record {
      count = len ∙ ap item_count (sym c.1) ∙ eqb-true (item_count a.0) floors c.0;
      each = λ j lt. each_all (IsFlight i) (flight_in i) (flight_ok i) b.0 row b.2 j 0 lt;
    }

pub table_ok : (floors : ℕ) (v : Data) (rows : List (List ℕ)) → table_in floors v ≡ Ok rows
    → (length rows ≡ floors) × ((i : ℕ) (d : List ℕ) → i < length rows
    → IsRow floors i (get_or rows i d))
unfolding table_in
table_ok floors v rows e =
    let a = bind_ok (items_in Flight v) (λ items.
    counted (item_count items == floors) TableShape items >>= λ those.
    each (row_in floors) 0 those) rows e in
    let b = bind_ok (counted (item_count a.0 == floors) TableShape a.0) (λ those.
    each (row_in floors) 0 those) rows a.2 in
    let c = counted_ok (item_count a.0 == floors) TableShape a.0 b.0 b.1 in
    let len = each_count (row_in floors) 0 b.0 rows b.2 in (
      len ∙ ap item_count (sym c.1) ∙ eqb-true (item_count a.0) floors c.0,
      each_all (IsRow floors)
          (row_in floors) (row_ok floors) b.0 rows b.2,
    )

served_ok : (floors : ℕ) (o : Option Data) (flags : List Bool) → 1 ≤ floors
    → served_in floors o ≡ Ok flags → (length flags ≡ floors) × Contains flags true
unfolding served_in
served_ok floors None flags some e =
    let all : replicate floors true ≡ flags = ok_is (replicate floors true) flags e in
    let Q : List Bool → Type 0 = λ fs. (length fs ≡ floors) × Contains fs true in
    subst Q all (
      length-replicate floors true,
      (
        0,
        omega (arith, length-replicate floors true),
        get_or-replicate floors 0 true true
            (omega arith),
      ),
    )
served_ok floors (Some v) flags some e =
    let a = bind_ok (floors_in Serves is_some_number floors v) (λ listed.
    Ok (flags_of floors listed)) flags e in
    let listed = floors_ok Serves is_some_number floors v a.0 some a.1 in
    let some-listed : 1 ≤ length a.0 = grind (arith, nat_tests, listed.0) in
    let first : ℕ = get_or a.0 0 0 in
    let inside : first < floors = listed.1 0 0 (omega arith) in
    let test : ℕ → Bool = λ floor. list_any (λ other. other == floor) a.0 in
    let is-listed : test first ≡ true =
    list_any_at (λ other. other == first) a.0 0 0 (omega arith) (eq-eqb first first refl) in
    let len : length (flags_of floors a.0) ≡ floors = length-map-range_with_len test 0 floors in
    let found : get_or (flags_of floors a.0) first true ≡ true =
    get_or-map-range_with_len test 0 floors first first true inside (omega arith) ∙ is-listed in
    let Q : List Bool → Type 0 = λ fs. (length fs ≡ floors) × Contains fs true in
    subst Q (ok_is (flags_of floors a.0) flags a.2) (len, (first, omega arith, found))

pub number_at_ok : (field : Field) (low high : ℕ) (v : Data) (n : ℕ)
    → number_at field low high v ≡ Ok n → (low ≤ n) × (n ≤ high)
number_at_ok field low high v n e =
    let a = bind_ok (key field v) (number_in field low high) n e in
    number_in_ok field low high a.0 n a.2

pub car_ok : (floors : ℕ) (v : Data) (car : CarPlan) → 1 ≤ floors → car_in floors v ≡ Ok car
    → IsCar floors car
unfolding car_in
car_ok floors (table members) car some e =
    let a = bind_ok (number_at Places 1 MOST_PLACES (table members)) (λ places.
    served_in floors (get (name_of Serves) (table members)) >>= λ served.
    Ok (record { places = places; served = served })) car e in
    let b = bind_ok (served_in floors (get (name_of Serves) (table members))) (λ served.
    Ok (record { places = a.0; served = served })) car a.2 in
    let places = number_at_ok Places 1 MOST_PLACES (table members) a.0 a.1 in
    let served = served_ok floors (get (name_of Serves) (table members)) b.0 some b.1 in
    let made : CarPlan = record { places = a.0; served = b.0 } in
    subst (IsCar floors) (ok_is made car b.2) (record {
      some_place = places.0;
      few_places = places.1;
      length = served.0;
      serves_some = served.1;
    })
car_ok floors _ car some e = absurd cc

cars_ok : (floors : ℕ) (v : Data) (cars : List CarPlan) → 1 ≤ floors → cars_in floors v ≡ Ok cars
    → (1 ≤ length cars) × (length cars ≤ MOST_CARS) × All (IsCar floors) cars
unfolding cars_in
cars_ok floors v cars some e =
    let one : ℕ → Data → Result CarPlan BuildingFault = λ _. car_in floors in
    let a = bind_ok (items_in Cars v) (λ items.
    counted (is_between 1 MOST_CARS (item_count items)) (OutOfRange Cars) items >>= λ those.
    each one 0 those) cars e in
    let b = bind_ok (counted (is_between 1 MOST_CARS (item_count a.0)) (OutOfRange Cars) a.0) (λ those.
    each one 0 those) cars a.2 in
    let c = counted_ok (is_between 1 MOST_CARS (item_count a.0)) (OutOfRange Cars) a.0 b.0 b.1 in
    let len = each_count one 0 b.0 cars b.2 in
    let few = between 1 MOST_CARS (item_count a.0) c.0 in
    let same : length cars ≡ item_count a.0 = len ∙ ap item_count (sym c.1) in (
      omega arith,
      omega arith,
      each_all (λ _ car. IsCar floors car) one (λ _ w car h.
          car_ok floors w car some h) b.0 cars b.2,
    )

pub flights_ok : (plan : Plan)
    → (length plan.flights ≡ plan.floors) × ((i : ℕ) (d : List ℕ) → i < length plan.flights
    → IsRow plan.floors i (get_or plan.flights i d)) → HasFlights plan
flights_ok plan found = record {
  rows = found.0;
  square = λ i d lt. (found.1 i d lt).count;
  staying = λ i lt. let row = found.1 i [] (omega (arith, found.0)) in
      (row.each i (omega (arith, row.count))).0 refl;
  moving = λ i j i-in j-in differ. let row = found.1 i [] (omega (arith, found.0)) in
      (row.each j (omega (arith, row.count))).1 differ;
}

pub plan_ok : (document : Data) (plan : Plan) → plan_in document ≡ Ok plan → HasLimits plan
unfolding plan_in
plan_ok document plan e =
    let floors = bind_ok (number_at Floors 2 MOST_FLOORS document) _ plan e in
    let door_ms = bind_ok (number_at DoorMs 0 60000 document) _ plan floors.2 in
    let kiosk_value = bind_ok (key Kiosks document) _ plan door_ms.2 in
    let kiosks = bind_ok (floors_in Kiosks (is_between 1 MOST_KIOSKS) floors.0 kiosk_value.0) _ plan
    kiosk_value.2 in
    let flight_value = bind_ok (key Flight document) _ plan kiosks.2 in
    let flights = bind_ok (table_in floors.0 flight_value.0) _ plan flight_value.2 in
    let car_value = bind_ok (key Cars document) _ plan flights.2 in
    let cars = bind_ok (cars_in floors.0 car_value.0) _ plan car_value.2 in
    let made : Plan = record {
      floors = floors.0;
      door_ms = door_ms.0;
      kiosks = kiosks.0;
      flights = flights.0;
      cars = cars.0;
    } in
    let floors-fit = number_at_ok Floors 2 MOST_FLOORS document floors.0 floors.1 in
    let some : 1 ≤ floors.0 = omega (arith, floors-fit.0) in
    let door-fits = number_at_ok DoorMs 0 60000 document door_ms.0 door_ms.1 in
    let kiosks-fit = floors_ok Kiosks (is_between 1 MOST_KIOSKS) floors.0 kiosk_value.0 kiosks.0 some
    kiosks.1 in
    let few-kiosks = between 1 MOST_KIOSKS (length kiosks.0) kiosks-fit.0 in
    let cars-fit = cars_ok floors.0 car_value.0 cars.0 some cars.1 in
    subst HasLimits {x = made} (ok_is made plan cars.2) (record {
      two_floors = floors-fit.0;
      few_floors = floors-fit.1;
      short_door = door-fits.1;
      some_kiosk = few-kiosks.0;
      few_kiosks = few-kiosks.1;
      kiosks = kiosks-fit.1;
      flights = flights_ok made (table_ok floors.0 flight_value.0 flights.0 flights.1);
      some_car = cars-fit.0;
      few_cars = cars-fit.1;
      cars = cars-fit.2;
    })

pub limits_of_given : (r : Result Layout BuildingFault) (document : Data)
    → Gives layout_view r (plan_in document) → IfOk r (λ layout. HasLimits (layout_view layout))
limits_of_given (Ok layout) document given = plan_ok document (layout_view layout) given
limits_of_given (Err fault) document given = tt
