-- Reading takes no memory, so none of its faults is a want of it.
use Rattle.std.proofs.Common.{◌≡◌, ◌≢◌, ℕ, ◌+◌, ◌==◌, pos, negsuc, cond, Bool, true, false, List, ◌∷◌}
use Rattle.std.proofs.Common.{Result, Ok, Err, Option, Some, None, IfErr, ap, ◌∙◌}
use Rattle.toml.specs.Data.{Data, integer, array, table, Items, no_items, item, get}
use Rattle.toml.specs.Parse.{parse_document}
use Rattle.lift_base.specs.declared.limits.TheConstants.{MOST_CARS, MOST_FLOORS, MOST_KIOSKS, MOST_PLACES}
use Rattle.lift_building.specs.declared.fault.Field.{Field}
use Rattle.lift_building.specs.declared.fault.Field.TheVariants.{Floors, DoorMs, Kiosks, Flight}
use Rattle.lift_building.specs.declared.fault.Field.TheVariants.{Cars, Places, Serves}
use Rattle.lift_building.specs.declared.fault.BuildingFault.{BuildingFault}
use Rattle.lift_building.specs.declared.fault.BuildingFault.TheVariants.{Memory, OutOfRange}
use Rattle.lift_building.specs.declared.fault.BuildingFault.TheVariants.{TableShape}
use Rattle.lift_building.specs.Text.{name_of}
use Rattle.lift_building.specs.Plan.{Plan}
use Rattle.lift_building.specs.Layout.{layout_view}
use Rattle.lift_building.specs.Gives.{Gives}
use Rattle.lift_building.specs.declared.layout.Layout.{Layout}
use Rattle.lift_building.specs.Reading.{◌>>=◌, is_between, number_in, items_in, present, key}
use Rattle.lift_building.specs.Reading.{item_count, each, counted, number_at, floors_in, flight_in}
use Rattle.lift_building.specs.Reading.{row_in, table_in, flags_of, is_some_number, served_in}
use Rattle.lift_building.specs.Reading.{car_in, cars_in, plan_in, spelled, document_of, plan_of}

-- no want of memory
abbrev Spares : {A : Type 0} → Result A BuildingFault → Type 0
Spares r = (text : List ℕ) → r ≡ Err (Memory text) → ⊥

bind_spares : {A B : Type 0} (r : Result A BuildingFault) (f : A → Result B BuildingFault) → Spares r → ((x : A) → Spares (f x)) → Spares (r >>= f)
bind_spares (Ok x) f first then = then x
bind_spares (Err fault) f first then = λ text e. first text (cc)

ok_spares : {A : Type 0} (x : A) → Spares {A = A} (Ok x)
ok_spares x text e = cc

counted_spares : (b : Bool) (fault : BuildingFault) (items : Items) → ((text : List ℕ) → fault ≢ Memory text) → Spares (counted b fault items)
counted_spares true fault items other text e = cc
counted_spares false fault items other text e = other text (cc)

number_spares : (field : Field) (low high : ℕ) (v : Data) → Spares (number_in field low high v)
number_spares field low high (integer (pos n)) = by (is_between low high n)
  where
    by : (b : Bool) → Spares (cond b (Ok n) (Err (OutOfRange field)))
    by true text e = cc
    by false text e = cc
number_spares field low high (integer (negsuc n)) = λ text e. cc
number_spares field low high _ = λ text e. cc

items_spares : (field : Field) (v : Data) → Spares (items_in field v)
items_spares field (array items) = λ text e. cc
items_spares field _ = λ text e. cc

present_spares : (field : Field) (value : Option Data) → Spares (present field value)
present_spares field None text e = cc
present_spares field (Some value) text e = cc

each_spares : {A : Type 0} (one : ℕ → Data → Result A BuildingFault) → ((i : ℕ) (v : Data) → Spares (one i v)) → (i : ℕ) (items : Items) → Spares (each one i items)
unfolding each
each_spares one spares i no_items = λ text e. cc
each_spares {A} one spares i (item d ds) =
    bind_spares (one i d) _ (spares i d) (λ first. bind_spares (each one (i + 1) ds) _ (each_spares one spares (i + 1) ds) (λ others. ok_spares {A = List A} (first ∷ others)))

number_at_spares : (field : Field) (low high : ℕ) (v : Data) → Spares (number_at field low high v)
number_at_spares field low high v = bind_spares (key field v) _ (present_spares field (get (name_of field) v)) (λ value. number_spares field low high value)

floors_spares : (field : Field) (is_allowed : ℕ → Bool) (floors : ℕ) (v : Data) → Spares (floors_in field is_allowed floors v)
unfolding floors_in
floors_spares field is_allowed floors v =
    bind_spares (items_in field v) _ (items_spares field v)
    (λ items. bind_spares (counted (is_allowed (item_count items)) (OutOfRange field) items) _ (counted_spares (is_allowed (item_count items)) (OutOfRange field) items (λ text e. cc))
    (λ those. each_spares _ (λ i value. number_spares field 0 _ value) 0 those))

flight_spares : (i j : ℕ) (v : Data) → Spares (flight_in i j v)
flight_spares i j v = by (i == j)
  where
    by : (b : Bool) → Spares (cond b (number_in Flight 0 0 v) (number_in Flight 1 600000 v))
    by true = number_spares Flight 0 0 v
    by false = number_spares Flight 1 600000 v

row_spares : (floors i : ℕ) (v : Data) → Spares (row_in floors i v)
unfolding row_in
row_spares floors i v =
    bind_spares (items_in Flight v) _ (items_spares Flight v)
    (λ items. bind_spares (counted (item_count items == floors) TableShape items) _ (counted_spares (item_count items == floors) TableShape items (λ text e. cc))
    (λ those. each_spares (flight_in i) (λ j value. flight_spares i j value) 0 those))

table_spares : (floors : ℕ) (v : Data) → Spares (table_in floors v)
unfolding table_in
table_spares floors v =
    bind_spares (items_in Flight v) _ (items_spares Flight v)
    (λ items. bind_spares (counted (item_count items == floors) TableShape items) _ (counted_spares (item_count items == floors) TableShape items (λ text e. cc))
    (λ those. each_spares (row_in floors) (λ i value. row_spares floors i value) 0 those))

served_spares : (floors : ℕ) (value : Option Data) → Spares (served_in floors value)
unfolding served_in
served_spares floors None = λ text e. cc
served_spares floors (Some value) = bind_spares (floors_in Serves is_some_number floors value) _ (floors_spares Serves is_some_number floors value) (λ listed. ok_spares {A = List Bool} (flags_of floors listed))

car_spares : (floors : ℕ) (v : Data) → Spares (car_in floors v)
unfolding car_in
car_spares floors (table members) =
    bind_spares (number_at Places 1 MOST_PLACES (table members)) _ (number_at_spares Places 1 MOST_PLACES (table members))
    (λ places. bind_spares (served_in floors (get (name_of Serves) (table members))) _ (served_spares floors (get (name_of Serves) (table members))) (λ served. ok_spares _))
car_spares floors _ = λ text e. cc

cars_spares : (floors : ℕ) (v : Data) → Spares (cars_in floors v)
unfolding cars_in
cars_spares floors v =
    bind_spares (items_in Cars v) _ (items_spares Cars v)
    (λ items. bind_spares (counted (is_between 1 MOST_CARS (item_count items)) (OutOfRange Cars) items) _ (counted_spares (is_between 1 MOST_CARS (item_count items)) (OutOfRange Cars) items (λ text e. cc))
    (λ those. each_spares _ (λ i value. car_spares floors value) 0 those))

pub plan_spares : (document : Data) → Spares (plan_in document)
unfolding plan_in
plan_spares document =
    bind_spares (number_at Floors 2 MOST_FLOORS document) _ (number_at_spares Floors 2 MOST_FLOORS document)
    (λ floors. bind_spares (number_at DoorMs 0 60000 document) _ (number_at_spares DoorMs 0 60000 document)
    (λ door_ms. bind_spares (key Kiosks document) _ (present_spares Kiosks (get (name_of Kiosks) document))
    (λ kiosk_value. bind_spares (floors_in Kiosks (is_between 1 MOST_KIOSKS) floors kiosk_value) _ (floors_spares Kiosks (is_between 1 MOST_KIOSKS) floors kiosk_value)
    (λ kiosks. bind_spares (key Flight document) _ (present_spares Flight (get (name_of Flight) document))
    (λ flight_value. bind_spares (table_in floors flight_value) _ (table_spares floors flight_value)
    (λ flights. bind_spares (key Cars document) _ (present_spares Cars (get (name_of Cars) document))
    (λ car_value. bind_spares (cars_in floors car_value) _ (cars_spares floors car_value)
    (λ cars. ok_spares {A = Plan} _))))))))

pub text_spares : (text : List ℕ) → Spares (plan_of text)
text_spares text = bind_spares (document_of text) plan_in (by (parse_document text)) plan_spares
  where
    by : (o : _) → Spares (spelled o)
    by None none e = cc
    by (Some found) none e = cc

pub given_spares : (r : Result Layout BuildingFault) (document : Data)
    → Gives layout_view r (plan_in document) → IfErr r (λ fault. (text : List ℕ) → fault ≢ Memory text)
given_spares (Ok layout) document given = tt
given_spares (Err fault) document given = λ text same. plan_spares document text (given ∙ ap Err same)
