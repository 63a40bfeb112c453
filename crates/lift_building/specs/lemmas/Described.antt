-- What is read is described, and what is described within the limits is read.
use Rattle.std.proofs.Common.{◌≡◌, ℕ, ◌+◌, ◌-◌, ◌≤◌, pos, negsuc, Bool, true, cond, ◌==◌, List, []}
use Rattle.std.proofs.Common.{◌∷◌, Option, Some, None, Result, Ok, replicate, refl, sym, ap, subst}
use Rattle.std.proofs.Common.{◌∙◌, arith, inl, inr}
use Rattle.std.proofs.lemmas.Bool.Decides.{nat_tests}
use Rattle.std.proofs.lemmas.Bool.{cases_Bool}
use Rattle.toml.specs.Data.{Data, integer, array, table, Items, no_items, item, get}
use Rattle.lift_base.specs.declared.limits.TheConstants.{MOST_CARS, MOST_FLOORS, MOST_KIOSKS, MOST_PLACES}
use Rattle.lift_building.specs.declared.fault.Field.{Field}
use Rattle.lift_building.specs.declared.fault.Field.TheVariants.{Floors, DoorMs, Kiosks, Flight}
use Rattle.lift_building.specs.declared.fault.Field.TheVariants.{Cars, Places, Serves}
use Rattle.lift_building.specs.declared.fault.BuildingFault.{BuildingFault}
use Rattle.lift_building.specs.declared.fault.BuildingFault.TheVariants.{OutOfRange, TableShape}
use Rattle.lift_building.specs.Text.{name_of}
use Rattle.lift_building.specs.Plan.{Plan, CarPlan}
use Rattle.lift_building.specs.Reading.{is_between, number_in, items_in, present, key, item_count}
use Rattle.lift_building.specs.Reading.{each, counted, number_at, floors_in, is_some_number}
use Rattle.lift_building.specs.Reading.{flight_in, row_in, table_in, flags_of, served_in, car_in}
use Rattle.lift_building.specs.Reading.{cars_in, plan_in}
use Rattle.lift_building.specs.Describes.{numbers, number_rows, IsServed, IsCarText, AreCarTexts}
use Rattle.lift_building.specs.Describes.{Describes}
use Rattle.lift_building.specs.lemmas.Limits.{bind_ok, guard_ok, ok_is, counted_ok, floors_ok}
use Rattle.lift_building.specs.lemmas.Limits.{number_at_ok}

-- ---- what is read is described

pub number_is : (field : Field) (low high : ℕ) (v : Data) (n : ℕ) → number_in field low high v ≡ Ok n
    → v ≡ integer (pos n)
number_is field low high (integer (pos m)) n e = let g =
    guard_ok (is_between low high m) (OutOfRange field) m n e in ap (λ k. integer (pos k)) g.1
number_is field low high (integer (negsuc m)) n e = absurd cc
number_is field low high _ n e = absurd cc

pub items_are : (field : Field) (v : Data) (items : Items) → items_in field v ≡ Ok items
    → v ≡ array items
items_are field (array those) items e = ap array (ok_is those items e)
items_are field _ items e = absurd cc

pub key_is : (field : Field) (o : Option Data) (v : Data) → present field o ≡ Ok v → o ≡ Some v
key_is field None v e = absurd cc
key_is field (Some w) v e = ap Some (ok_is w v e)

-- the items are those that the list of what was read is spelled by
each_is : {A : Type 0} (one : ℕ → Data → Result A BuildingFault) (spell : A → Data)
    → ((i : ℕ) (v : Data) (x : A) → one i v ≡ Ok x → v ≡ spell x)
    → (all : List A → Items) → (all [] ≡ no_items)
    → ((x : A) (xs : List A) → all (x ∷ xs) ≡ item (spell x) (all xs))
    → (i : ℕ) (items : Items) (xs : List A) → each one i items ≡ Ok xs → items ≡ all xs
unfolding each
each_is {A} one spell is all none more i no_items xs e = sym none ∙ ap all (ok_is [] xs e)
each_is {A} one spell is all none more i (item v vs) xs e =
    let a = bind_ok (one i v) _ xs e in
    let b = bind_ok (each one (i + 1) vs) _ xs a.2 in
    let first = is i v a.0 a.1 in
    let others = each_is one spell is all none more (i + 1) vs b.0 b.1 in
    ap (λ w. item w vs) first ∙ ap (item (spell a.0)) others ∙ sym (more a.0 b.0) ∙ ap all
    (ok_is (a.0 ∷ b.0) xs b.2)

abbrev number : ℕ → Data
number n = integer (pos n)

numbers_are : (field : Field) (low high i : ℕ) (items : Items) (ns : List ℕ)
    → each (λ _. number_in field low high) i items ≡ Ok ns → items ≡ numbers ns
numbers_are field low high i items ns e =
    each_is (λ _. number_in field low high) number (λ _ v n h.
    number_is field low high v n h) numbers refl (λ _ _. refl) i items ns e

pub floors_are : (field : Field) (is_allowed : ℕ → Bool) (floors : ℕ) (v : Data) (ns : List ℕ)
    → floors_in field is_allowed floors v ≡ Ok ns → v ≡ array (numbers ns)
unfolding floors_in
floors_are field is_allowed floors v ns e =
    let a = bind_ok (items_in field v) _ ns e in
    let b = bind_ok (counted (is_allowed (item_count a.0)) (OutOfRange field) a.0) _ ns a.2 in
    let c = counted_ok (is_allowed (item_count a.0)) (OutOfRange field) a.0 b.0 b.1 in
    items_are field v a.0 a.1 ∙ ap array (c.1 ∙ numbers_are field 0 (floors - 1) 0 b.0 ns b.2)

pub flight_is : (i j : ℕ) (v : Data) (n : ℕ) → flight_in i j v ≡ Ok n → v ≡ number n
flight_is i j v n e =
    elim (cases_Bool (i == j)) [
      | inl here ↦ number_is Flight 0 0 v n
          (sym (ap (λ b. cond b (number_in Flight 0 0 v) (number_in Flight 1 600000 v)) here) ∙ e)
      | inr there ↦ number_is Flight 1 600000 v n
          (sym (ap (λ b. cond b (number_in Flight 0 0 v) (number_in Flight 1 600000 v)) there) ∙ e)
    ]

abbrev number_row : List ℕ → Data
number_row row = array (numbers row)

pub row_is : (floors i : ℕ) (v : Data) (row : List ℕ) → row_in floors i v ≡ Ok row → v ≡ number_row row
unfolding row_in
row_is floors i v row e =
    let a = bind_ok (items_in Flight v) _ row e in
    let b = bind_ok (counted (item_count a.0 == floors) TableShape a.0) _ row a.2 in
    let c = counted_ok (item_count a.0 == floors) TableShape a.0 b.0 b.1 in
    items_are Flight v a.0 a.1 ∙ ap array
    (c.1 ∙ each_is (flight_in i) number (flight_is i) numbers refl (λ _ _. refl) 0 b.0 row b.2)

pub table_is : (floors : ℕ) (v : Data) (rows : List (List ℕ)) → table_in floors v ≡ Ok rows
    → v ≡ array (number_rows rows)
unfolding table_in
table_is floors v rows e =
    let a = bind_ok (items_in Flight v) _ rows e in
    let b = bind_ok (counted (item_count a.0 == floors) TableShape a.0) _ rows a.2 in
    let c = counted_ok (item_count a.0 == floors) TableShape a.0 b.0 b.1 in
    items_are Flight v a.0 a.1 ∙ ap array
    (c.1 ∙ each_is (row_in floors) number_row (row_is floors) number_rows refl (λ _ _.
    refl) 0 b.0 rows b.2)

served_is : (floors : ℕ) (o : Option Data) (served : List Bool) → 1 ≤ floors
    → served_in floors o ≡ Ok served → IsServed floors o served
unfolding served_in
served_is floors None served some e = sym (ok_is (replicate floors true) served e)
served_is floors (Some v) served some e =
    let a = bind_ok (floors_in Serves is_some_number floors v) _ served e in
    let within = floors_ok Serves is_some_number floors v a.0 some a.1 in (
      a.0,
      floors_are Serves is_some_number floors v a.0 a.1,
      grind
          (arith, nat_tests, within.0),
      within.1,
      sym (ok_is (flags_of floors a.0) served a.2),
    )

pub number_at_is : (field : Field) (low high : ℕ) (v : Data) (n : ℕ) → number_at field low high v ≡ Ok n
    → get (name_of field) v ≡ Some (number n)
number_at_is field low high v n e =
    let a = bind_ok (key field v) _ n e in
    key_is field (get (name_of field) v) a.0 a.1 ∙ ap Some (number_is field low high a.0 n a.2)

pub car_is : (floors : ℕ) (v : Data) (car : CarPlan) → 1 ≤ floors → car_in floors v ≡ Ok car
    → IsCarText floors v car
unfolding car_in
car_is floors (table members) car some e =
    let a = bind_ok (number_at Places 1 MOST_PLACES (table members)) _ car e in
    let b = bind_ok (served_in floors (get (name_of Serves) (table members))) _ car a.2 in
    let made : CarPlan = record { places = a.0; served = b.0 } in
    subst (IsCarText floors (table members)) {x = made} (ok_is made car b.2) (
      members,
      refl,
      number_at_is Places 1 MOST_PLACES (table members) a.0 a.1,
      served_is floors
          (get (name_of Serves) (table members)) b.0 some b.1,
    )
car_is floors _ car some e = absurd cc

cars_are : (floors i : ℕ) (items : Items) (cars : List CarPlan) → 1 ≤ floors
    → each (λ _. car_in floors) i items ≡ Ok cars → AreCarTexts floors items cars
unfolding each
cars_are floors i no_items cars some e = subst (AreCarTexts floors no_items) (ok_is [] cars e) tt
cars_are floors i (item v vs) cars some e =
    let a = bind_ok (car_in floors v) _ cars e in
    let b = bind_ok (each (λ _. car_in floors) (i + 1) vs) _ cars a.2 in
    subst (AreCarTexts floors (item v vs)) (ok_is (a.0 ∷ b.0) cars b.2)
    (car_is floors v a.0 some a.1, cars_are floors (i + 1) vs b.0 some b.1)

all_cars : (floors : ℕ) (v : Data) (cars : List CarPlan) → 1 ≤ floors → cars_in floors v ≡ Ok cars
    → (values : Items) × (v ≡ array values) × AreCarTexts floors values cars
unfolding cars_in
all_cars floors v cars some e =
    let a = bind_ok (items_in Cars v) _ cars e in
    let b = bind_ok (counted (is_between 1 MOST_CARS (item_count a.0)) (OutOfRange Cars) a.0) _ cars a.2 in
    let c = counted_ok (is_between 1 MOST_CARS (item_count a.0)) (OutOfRange Cars) a.0 b.0 b.1 in
    (b.0, items_are Cars v a.0 a.1 ∙ ap array c.1, cars_are floors 0 b.0 cars some b.2)

pub plan_is : (document : Data) (plan : Plan) → plan_in document ≡ Ok plan → Describes document plan
unfolding plan_in
plan_is document plan e =
    let floors = bind_ok (number_at Floors 2 MOST_FLOORS document) _ plan e in
    let door_ms = bind_ok (number_at DoorMs 0 60000 document) _ plan floors.2 in
    let kiosk_value = bind_ok (key Kiosks document) _ plan door_ms.2 in
    let kiosks = bind_ok (floors_in Kiosks (is_between 1 MOST_KIOSKS) floors.0 kiosk_value.0) _ plan
    kiosk_value.2 in
    let flight_value = bind_ok (key Flight document) _ plan kiosks.2 in
    let flights = bind_ok (table_in floors.0 flight_value.0) _ plan flight_value.2 in
    let car_value = bind_ok (key Cars document) _ plan flights.2 in
    let cars = bind_ok (cars_in floors.0 car_value.0) _ plan car_value.2 in
    let made : Plan = record {
      floors = floors.0;
      door_ms = door_ms.0;
      kiosks = kiosks.0;
      flights = flights.0;
      cars = cars.0;
    } in
    let some : 1 ≤ floors.0 =
    (let fit = number_at_ok Floors 2 MOST_FLOORS document floors.0 floors.1 in omega (arith, fit.0)) in
    let values = all_cars floors.0 car_value.0 cars.0 some cars.1 in
    subst (Describes document) {x = made} (ok_is made plan cars.2) (record {
      floors = number_at_is Floors 2 MOST_FLOORS document floors.0 floors.1;
      door_ms = number_at_is DoorMs 0 60000 document door_ms.0 door_ms.1;
      kiosks = key_is Kiosks (get (name_of Kiosks) document) kiosk_value.0 kiosk_value.1 ∙ ap Some
          (floors_are Kiosks (is_between 1 MOST_KIOSKS) floors.0 kiosk_value.0 kiosks.0 kiosks.1);
      flight = key_is Flight (get (name_of Flight) document) flight_value.0 flight_value.1 ∙ ap Some
          (table_is floors.0 flight_value.0 flights.0 flights.1);
      cars = (
        values.0,
        key_is Cars (get (name_of Cars) document) car_value.0 car_value.1 ∙ ap Some
            values.1,
        values.2,
      );
    })
