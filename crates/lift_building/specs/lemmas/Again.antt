-- What is described within the limits is read.
use Rattle.std.proofs.Common.{◌≡◌, ℕ, suc, ◌+◌, ◌-◌, ◌≤◌, ◌<◌, pos, Bool, true, false, cond, ◌==◌}
use Rattle.std.proofs.Common.{List, [], ◌∷◌, length, get_or, Option, Some, None, Result, Ok, All}
use Rattle.std.proofs.Common.{refl, sym, ap, subst, ◌∙◌, arith, inl, inr, le-leb}
use Rattle.std.proofs.lemmas.Bool.{cases_Bool, eq-eqb, eqb-true, eqb-false}
use Rattle.std.specs.List.{AllByRecursion}
use Rattle.std.proofs.lemmas.List.Elements.{recursion_from_All}
use Rattle.toml.specs.Data.{Data, integer, array, table, Items, no_items, item, Members, get}
use Rattle.toml.specs.Parse.{parse_document}
use Rattle.lift_base.specs.declared.limits.TheConstants.{MOST_CARS, MOST_FLOORS, MOST_KIOSKS, MOST_PLACES}
use Rattle.lift_building.specs.declared.fault.Field.{Field}
use Rattle.lift_building.specs.declared.fault.Field.TheVariants.{Floors, DoorMs, Kiosks, Flight}
use Rattle.lift_building.specs.declared.fault.Field.TheVariants.{Cars, Places, Serves}
use Rattle.lift_building.specs.declared.fault.BuildingFault.{BuildingFault}
use Rattle.lift_building.specs.declared.fault.BuildingFault.TheVariants.{OutOfRange, TableShape}
use Rattle.lift_building.specs.Text.{name_of}
use Rattle.lift_building.specs.Plan.{Plan, CarPlan, flight_ms, HasFlights, IsCar, HasLimits}
use Rattle.lift_building.specs.Plan.{IsBuilding}
use Rattle.lift_building.specs.Reading.{is_between, number_in, present, key, item_count, each}
use Rattle.lift_building.specs.Reading.{counted, number_at, floors_in, is_some_number, flight_in}
use Rattle.lift_building.specs.Reading.{row_in, table_in, served_in, car_in, cars_in, plan_in}
use Rattle.lift_building.specs.Reading.{spelled, document_of, plan_of}
use Rattle.lift_building.specs.Describes.{numbers, number_rows, IsServed, IsCarText, AreCarTexts}
use Rattle.lift_building.specs.Describes.{Describes, IsTextOf}
use Rattle.lift_building.specs.lemmas.Limits.{bind_ok, ok_is, IsFlight, IsRow}
use Rattle.lift_building.specs.lemmas.Described.{plan_is}

abbrev number : ℕ → Data
number n = integer (pos n)

abbrev number_row : List ℕ → Data
number_row row = array (numbers row)

pub between_again : (low high n : ℕ) → low ≤ n → n ≤ high → is_between low high n ≡ true
between_again low high n l h = rw (le-leb low n l, le-leb n high h) refl

pub number_again : (field : Field) (low high n : ℕ) → low ≤ n → n ≤ high
    → number_in field low high (number n) ≡ Ok n
number_again field low high n l h = rw (between_again low high n l h) refl

-- each element, with its place, has the property
abbrev AllFrom : {A : Type 0} → (ℕ → A → Type 0) → ℕ → List A → Type 0
AllFrom P i [] = Unit {0}
AllFrom P i (x ∷ xs) = P i x × AllFrom P (i + 1) xs

from_places : {A : Type 0} (P : ℕ → A → Type 0) (d : A) (i : ℕ) (xs : List A)
    → ((k : ℕ) → k < length xs → P (i + k) (get_or xs k d)) → AllFrom P i xs
from_places P d i [] each = tt
from_places {A} P d i (x ∷ xs) each =
    let here : i + 0 ≡ i = omega arith in (
      subst (λ j. P j x) here (each 0 (omega arith)),
      from_places P d (i + 1) xs (λ k lt.
          let there : i + suc k ≡ i + 1 + k = omega arith in
          subst (λ j. P j (get_or xs k d)) there (each (suc k) (omega arith))),
    )

from_start : {A : Type 0} (P : ℕ → A → Type 0) (d : A) (xs : List A)
    → ((k : ℕ) → k < length xs → P k (get_or xs k d)) → AllFrom P 0 xs
from_start P d xs each =
    from_places P d 0 xs (λ k lt. let same : k ≡ 0 + k = omega arith in
    subst (λ j. P j (get_or xs k d)) same (each k lt))

each_again : {A : Type 0} (one : ℕ → Data → Result A BuildingFault) (spell : A → Data) (all : List A
    → Items) → (all [] ≡ no_items)
    → ((x : A) (xs : List A) → all (x ∷ xs) ≡ item (spell x) (all xs))
    → (P : ℕ → A → Type 0) → ((i : ℕ) (x : A) → P i x → one i (spell x) ≡ Ok x)
    → (i : ℕ) (xs : List A) → AllFrom P i xs → each one i (all xs) ≡ Ok xs
unfolding each
each_again one spell all none more P again i [] h = rw none refl
each_again one spell all none more P again i (x ∷ xs) h =
    rw (more x xs, again i x h.0, each_again one spell all none more P again (i + 1) xs h.1) refl

count_numbers : (ns : List ℕ) → item_count (numbers ns) ≡ length ns
count_numbers [] = refl
count_numbers (n ∷ ns) = ap suc (count_numbers ns)

count_rows : (rows : List (List ℕ)) → item_count (number_rows rows) ≡ length rows
count_rows [] = refl
count_rows (row ∷ rows) = ap suc (count_rows rows)

pub counted_again : (b : Bool) (fault : BuildingFault) (items : Items) → b ≡ true
    → counted b fault items ≡ Ok items
counted_again true fault items e = refl
counted_again false fault items e = absurd cc

pub floors_again : (field : Field) (is_allowed : ℕ → Bool) (floors : ℕ) (ns : List ℕ)
    → is_allowed (length ns) ≡ true → All (λ floor. floor < floors) ns
    → floors_in field is_allowed floors (array (numbers ns)) ≡ Ok ns
unfolding floors_in
floors_again field is_allowed floors ns allowed inside =
    let Inside : ℕ → ℕ → Type 0 = λ _ n. n < floors in
    let number-ok : is_allowed (item_count (numbers ns)) ≡ true =
    ap is_allowed (count_numbers ns) ∙ allowed in
    let read : each (λ _. number_in field 0 (floors - 1)) 0 (numbers ns) ≡ Ok ns
    = each_again (λ _. number_in field 0 (floors - 1)) number numbers refl (λ _ _.
    refl) Inside (λ _ n lt. number_again field 0 (floors - 1) n (omega arith) (omega arith)) 0
    ns (from_start Inside 0 ns (λ k lt. inside k 0 lt)) in
    rw (counted_again (is_allowed (item_count (numbers ns))) (OutOfRange field)
    (numbers ns) number-ok) read

pub flight_again : (i j n : ℕ) → IsFlight i j n → flight_in i j (number n) ≡ Ok n
flight_again i j n is =
    elim (cases_Bool (i == j)) [
      | inl here ↦ ap (λ b. cond b (number_in Flight 0 0 (number n))
          (number_in Flight 1 600000 (number n))) here ∙ number_again Flight 0 0 n (omega arith)
          (let stays = is.0 (eqb-true i j here) in omega arith)
      | inr there ↦ (let moves = is.1 (eqb-false i j there) in
          ap (λ b. cond b (number_in Flight 0 0 (number n)) (number_in Flight 1 600000 (number n)))
          there ∙ number_again Flight 1 600000 n moves.0 moves.1)
    ]

pub row_again : (floors i : ℕ) (row : List ℕ) → IsRow floors i row
    → row_in floors i (number_row row) ≡ Ok row
unfolding row_in
row_again floors i row is =
    let number-ok : (item_count (numbers row) == floors) ≡ true =
    eq-eqb (item_count (numbers row)) floors (count_numbers row ∙ is.count) in
    rw (counted_again (item_count (numbers row) == floors) TableShape (numbers row) number-ok)
    (each_again (flight_in i) number numbers refl (λ _ _.
    refl) (IsFlight i) (flight_again i) 0 row (from_start (IsFlight i) 0 row is.each))

pub table_again : (floors : ℕ) (rows : List (List ℕ)) → length rows ≡ floors
    → AllFrom (IsRow floors) 0 rows → table_in floors (array (number_rows rows)) ≡ Ok rows
unfolding table_in
table_again floors rows count are =
    let number-ok : (item_count (number_rows rows) == floors) ≡ true =
    eq-eqb (item_count (number_rows rows)) floors (count_rows rows ∙ count) in
    rw (counted_again (item_count (number_rows rows) == floors) TableShape
    (number_rows rows) number-ok)
    (each_again (row_in floors) number_row number_rows refl (λ _ _.
    refl) (IsRow floors) (row_again floors) 0 rows are)

pub rows_are : (plan : Plan) → HasFlights plan → AllFrom (IsRow plan.floors) 0 plan.flights
rows_are plan flights = from_start (IsRow plan.floors) [] plan.flights (λ i lt.
    let i-in : i < plan.floors = omega (arith, flights.rows) in
    let count = flights.square i [] lt in
    record {
      count = count;
      each = λ j j-lt. (
        λ same. ap (flight_ms plan i) (sym same) ∙ flights.staying i i-in,
        λ differ.
            flights.moving i j i-in (omega (arith, count)) differ,
      );
    })

served_again : (floors : ℕ) (o : Option Data) (served : List Bool) → IsServed floors o served
    → served_in floors o ≡ Ok served
unfolding served_in
served_again floors None served is = ap Ok (sym is)
served_again floors (Some v) served is =
    let read : floors_in Serves is_some_number floors v ≡ Ok is.0 =
    ap (floors_in Serves is_some_number floors) is.1 ∙ floors_again Serves is_some_number floors
    is.0 (le-leb 1 (length is.0) is.2) is.3 in
    rw read (ap Ok (sym is.4))

pub key_again : (field : Field) (v w : Data) → get (name_of field) v ≡ Some w → key field v ≡ Ok w
key_again field v w has = ap (present field) has

pub number_at_again : (field : Field) (low high : ℕ) (v : Data) (n : ℕ)
    → get (name_of field) v ≡ Some (number n) → low ≤ n → n ≤ high
    → number_at field low high v ≡ Ok n
number_at_again field low high v n has l h =
    rw (key_again field v (number n) has) (number_again field low high n l h)

car_read : (floors : ℕ) (members : Members) (car : CarPlan)
    → get (name_of Places) (table members) ≡ Some (number car.places)
    → IsServed floors (get (name_of Serves) (table members)) car.served → IsCar floors car
    → car_in floors (table members) ≡ Ok car
unfolding car_in
car_read floors members car places served is =
    rw (
      number_at_again Places 1 MOST_PLACES (table members) car.places places is.some_place is.few_places,
      served_again floors (get (name_of Serves) (table members)) car.served served,
    ) refl

pub car_again : (floors : ℕ) (v : Data) (car : CarPlan) → IsCarText floors v car → IsCar floors car
    → car_in floors v ≡ Ok car
car_again floors v car text is =
    let value = text.1 in
    ap (car_in floors) value ∙ car_read floors text.0 car
    (ap (get (name_of Places)) (sym value) ∙ text.2)
    (subst (λ w. IsServed floors (get (name_of Serves) w) car.served) value text.3) is

cars_read : (floors i : ℕ) (values : Items) (cars : List CarPlan) → AreCarTexts floors values cars
    → AllByRecursion (IsCar floors) cars → each (λ _. car_in floors) i values ≡ Ok cars
unfolding each
cars_read floors i no_items [] texts are = refl
cars_read floors i no_items (car ∷ cars) texts are = absurd texts
cars_read floors i (item v vs) [] texts are = absurd texts
cars_read floors i (item v vs) (car ∷ cars) texts are =
    rw (car_again floors v car texts.0 are.0, cars_read floors (i + 1) vs cars texts.1 are.1) refl

count_cars : (floors : ℕ) (values : Items) (cars : List CarPlan) → AreCarTexts floors values cars
    → item_count values ≡ length cars
count_cars floors no_items [] texts = refl
count_cars floors no_items (car ∷ cars) texts = absurd texts
count_cars floors (item v vs) [] texts = absurd texts
count_cars floors (item v vs) (car ∷ cars) texts = ap suc (count_cars floors vs cars texts.1)

cars_again : (floors : ℕ) (values : Items) (cars : List CarPlan) → AreCarTexts floors values cars
    → 1 ≤ length cars → length cars ≤ MOST_CARS → All (IsCar floors) cars
    → cars_in floors (array values) ≡ Ok cars
unfolding cars_in
cars_again floors values cars texts some few are =
    let count = count_cars floors values cars texts in
    rw (counted_again (is_between 1 MOST_CARS (item_count values)) (OutOfRange Cars) values
    (between_again 1 MOST_CARS (item_count values) (omega arith) (omega arith)))
    (cars_read floors 0 values cars texts (recursion_from_All (IsCar floors) cars are))

pub plan_again : (document : Data) (plan : Plan) → Describes document plan → HasLimits plan
    → plan_in document ≡ Ok plan
unfolding plan_in
plan_again document plan d limits =
    rw (
      number_at_again Floors 2 MOST_FLOORS document plan.floors d.floors limits.two_floors limits.few_floors,
      number_at_again DoorMs 0 60000 document plan.door_ms d.door_ms
          (omega arith) limits.short_door,
      key_again Kiosks document (array (numbers plan.kiosks)) d.kiosks,
      floors_again Kiosks (is_between 1 MOST_KIOSKS) plan.floors plan.kiosks
          (between_again 1 MOST_KIOSKS (length plan.kiosks) limits.some_kiosk limits.few_kiosks)
          limits.kiosks,
      key_again Flight document (array (number_rows plan.flights)) d.flight,
      table_again plan.floors plan.flights limits.flights.rows (rows_are plan limits.flights),
      key_again Cars document (array d.cars.0) d.cars.1,
      cars_again plan.floors d.cars.0 plan.cars d.cars.2 limits.some_car limits.few_cars
          limits.cars,
    )
    refl

spelled_again : (o : Option Members) (members : Members) → o ≡ Some members
    → spelled o ≡ Ok (table members)
spelled_again o those e = ap spelled e

pub text_again : (text : List ℕ) (plan : Plan) → IsTextOf text plan → IsBuilding plan
    → plan_of text ≡ Ok plan
text_again text plan is lawful =
    rw (spelled_again (parse_document text) is.0 is.1)
    (plan_again (table is.0) plan is.2 lawful.limits)

spelled_is : (o : Option Members) (document : Data) → spelled o ≡ Ok document
    → (members : Members) × (o ≡ Some members) × (table members ≡ document)
spelled_is None document e = absurd cc
spelled_is (Some members) document e = (members, refl, ok_is (table members) document e)

pub text_is : (text : List ℕ) (plan : Plan) → plan_of text ≡ Ok plan → IsTextOf text plan
text_is text plan e =
    let a = bind_ok (document_of text) plan_in plan e in
    let s = spelled_is (parse_document text) a.0 a.1 in
    (s.0, s.1, subst (λ document. Describes document plan) (sym s.2) (plan_is a.0 plan a.2))
