-- How the code reads a register's lists.
use Rattle.std.proofs.Common.{◌≡◌, ℕ, zero, suc, ◌+◌, ◌-◌, ◌<◌, ◌≤◌, cond, inl, inr, Some, None, IfSome, List, [], ◌∷◌, ◌++◌, All, length, map, sum_by, get_or, slice_index_or, slice_get, is_some, Option, replicate, drop, drop-cons, add-one, zero-add, refl, sym, ◌∙◌, ap, arith, length-append}
use Rattle.std.specs.List.{flat_map, range_with_len}
use Rattle.std.specs.Option.{option_to_list, option_map}
use Rattle.std.proofs.lemmas.Option.{slice_get_within, slice_get_cases, slice_get-map, none-some}
use Rattle.std.proofs.lemmas.Bool.{cases_lt}
use Rattle.std.proofs.lemmas.List.Concat.{length-flat_map}
use Rattle.std.proofs.lemmas.List.{length-map, get_or-map, drop_all, get_or-replicate}
use Rattle.std.proofs.lemmas.List.FromFn.{length-range_with_len, get_or-range_with_len}
use Rattle.std.proofs.lemmas.List.Elements.{All-tail}
use Rattle.arrayvec.specs.declared.array_vec.ArrayVec.{ArrayVec}
use Rattle.lift_base.specs.declared.limits.TheConstants.{FIRST_KIOSK, MOST_CARS, MOST_KIOSKS, MOST_ROWS, MOST_TERMINALS}
use Rattle.lift_base.specs.declared.history.Record.{Record}
use Rattle.lift_base.specs.declared.history.Record.TheVariants.{Row as RowRecord, Done as DoneRecord}
use Rattle.lift_base.specs.declared.history.Last.{Last}
use Rattle.lift_base.specs.declared.history.Row.{Row}
use Rattle.lift_register.specs.Rows.{row_lists}
use Rattle.lift_register.specs.Base.{record_of_last, last_records, base_records}
use Rattle.lift_register.specs.Balanced.{open_count}
use Rattle.lift_register.specs.Register.{RegisterState, rows_of, last_of, terminals, cars, kiosk_terminals, empty}
use Rattle.lift_register.specs.lemmas.Sums.{sum_by-range_more, list_on_cars, list_on_terminals}
use Rattle.lift_register.specs.lemmas.HistoryLemmas.{state_of, same_state}

pub row_lists-at : (rows : List (ArrayVec Row MOST_ROWS (Unit {0}))) (i : ℕ) (d : ArrayVec Row MOST_ROWS (Unit {0})) → i < length rows → slice_index_or (row_lists rows) i [] ≡ (slice_index_or rows i d).items
row_lists-at rows i d below = get_or-map (λ list. list.items) rows i d [] below

pub all_empty : (rows : List (ArrayVec Row MOST_ROWS (Unit {0}))) → All (λ (list : ArrayVec Row MOST_ROWS (Unit {0})). list.items ≡ []) rows → (car : ℕ) → slice_index_or (row_lists rows) car [] ≡ []
all_empty [] none car = refl
all_empty (list ∷ rows) none zero = none 0 list (omega arith)
all_empty (list ∷ rows) none (suc car) = all_empty rows (All-tail (λ (list : ArrayVec Row MOST_ROWS (Unit {0})). list.items ≡ []) list rows none) car

pub slice_get-append_left : {X : Type 0} (xs ys : List X) (k : ℕ) → k < length xs → slice_get (xs ++ ys) k ≡ slice_get xs k
slice_get-append_left [] ys k below = absurd (omega (arith, below))
slice_get-append_left (x ∷ xs) ys zero below = refl
slice_get-append_left (x ∷ xs) ys (suc k) below = slice_get-append_left xs ys k (omega (arith, below))

pub slice_get-append_right : {X : Type 0} (xs ys : List X) (k : ℕ) → length xs ≤ k → slice_get (xs ++ ys) k ≡ slice_get ys (k - length xs)
slice_get-append_right [] ys k above =
    let same : k ≡ k - 0 = omega arith in
    ap (λ (i : ℕ). slice_get ys i) same
slice_get-append_right (x ∷ xs) ys zero above = absurd (omega (arith, above))
slice_get-append_right (x ∷ xs) ys (suc k) above =
    let same : k - length xs ≡ suc k - suc (length xs) = omega arith in
    slice_get-append_right xs ys k (omega (arith, above)) ∙ ap (λ (i : ℕ). slice_get ys i) same

-- what is left of a list made by cars from one car on
pub rest-step : {X : Type 0} (f : ℕ → List X) (i n : ℕ) → i < n → flat_map f (drop i (range_with_len 0 n)) ≡ f i ++ flat_map f (drop (i + 1) (range_with_len 0 n))
rest-step f i n below =
    rw (add-one, drop-cons (range_with_len 0 n) i 0 (omega (arith, length-range_with_len 0 n, below)), get_or-range_with_len 0 n i 0 below, zero-add i) refl

-- the rows of a car, as the code reads them
pub rows-read : (register now : RegisterState) (rows : List (ArrayVec Row MOST_ROWS (Unit {0}))) (item : ArrayVec Row MOST_ROWS (Unit {0})) (i : ℕ) → register ≡ now → register.rows ≡ row_lists rows → i < length rows → item ≡ slice_index_or rows i item → rows_of now i ≡ item.items
rows-read register now rows item i is_now is_rows below is =
    rw (← is_now, is_rows, row_lists-at rows i item below) (ap (λ (list : ArrayVec Row MOST_ROWS (Unit {0})). list.items) (sym is))

pub length-last_records : (register : RegisterState) (terminal : ℕ) → length (last_records register terminal) ≡ cond (is_some (last_of register terminal)) 1 0
length-last_records register terminal = elim (last_of register terminal) as (λ (o : Option Last). length (record_of_last terminal o) ≡ cond (is_some o) 1 0) [ Some last ↦ refl | None ↦ refl ]

pub get_or-default : {X : Type 0} (xs : List X) (i : ℕ) (d e : X) → i < length xs → get_or xs i d ≡ get_or xs i e
get_or-default [] i d e within = absurd (omega (arith, within))
get_or-default (x ∷ xs) zero d e within = refl
get_or-default (x ∷ xs) (suc i) d e within = get_or-default xs i d e (omega (arith, within))

-- the last command of a terminal, as the code reads it
pub last-read : (register now : RegisterState) (item : Option Last) (i : ℕ) → register ≡ now → i < length register.lasts → item ≡ slice_index_or register.lasts i item → last_of now i ≡ item
last-read register now item i is_now within is = rw (← is_now, get_or-default register.lasts i None item within) (sym is)

-- reading on past one number's part, and inside it
pub read-inside : {X : Type 0} (f : ℕ → List X) (i n k : ℕ) → i < n → k < length (f i) → slice_get (flat_map f (drop i (range_with_len 0 n))) k ≡ slice_get (f i) k
read-inside f i n k below within = rw (rest-step f i n below) (slice_get-append_left (f i) (flat_map f (drop (i + 1) (range_with_len 0 n))) k within)

pub read-past : {X : Type 0} (f : ℕ → List X) (i n k : ℕ) → i < n → length (f i) ≤ k → slice_get (flat_map f (drop i (range_with_len 0 n))) k ≡ slice_get (flat_map f (drop (i + 1) (range_with_len 0 n))) (k - length (f i))
read-past f i n k below past = rw (rest-step f i n below) (slice_get-append_right (f i) (flat_map f (drop (i + 1) (range_with_len 0 n))) k past)

pub read-inside_cars : {X : Type 0} (f : ℕ → List X) (i k : ℕ) → i < MOST_CARS → k < length (f i) → slice_get (flat_map f (drop i cars)) k ≡ slice_get (f i) k
unfolding cars
read-inside_cars f i k below within = read-inside f i MOST_CARS k below within

pub read-past_cars : {X : Type 0} (f : ℕ → List X) (i k : ℕ) → i < MOST_CARS → length (f i) ≤ k → slice_get (flat_map f (drop i cars)) k ≡ slice_get (flat_map f (drop (i + 1) cars)) (k - length (f i))
unfolding cars
read-past_cars f i k below past = read-past f i MOST_CARS k below past

pub read-end_cars : {X : Type 0} (f : ℕ → List X) (i k : ℕ) → MOST_CARS ≤ i → slice_get (flat_map f (drop i cars)) k ≡ None
unfolding cars
read-end_cars f i k above = rw (drop_all i (range_with_len 0 MOST_CARS) (omega (arith, length-range_with_len 0 MOST_CARS))) refl

pub read-inside_terminals : {X : Type 0} (f : ℕ → List X) (i k : ℕ) → i < MOST_TERMINALS → k < length (f i) → slice_get (flat_map f (drop i terminals)) k ≡ slice_get (f i) k
unfolding terminals
read-inside_terminals f i k below within = read-inside f i MOST_TERMINALS k below within

pub read-past_terminals : {X : Type 0} (f : ℕ → List X) (i k : ℕ) → i < MOST_TERMINALS → length (f i) ≤ k → slice_get (flat_map f (drop i terminals)) k ≡ slice_get (flat_map f (drop (i + 1) terminals)) (k - length (f i))
unfolding terminals
read-past_terminals f i k below past = read-past f i MOST_TERMINALS k below past

pub read-end_terminals : {X : Type 0} (f : ℕ → List X) (i k : ℕ) → MOST_TERMINALS ≤ i → slice_get (flat_map f (drop i terminals)) k ≡ None
unfolding terminals
read-end_terminals f i k above = rw (drop_all i (range_with_len 0 MOST_TERMINALS) (omega (arith, length-range_with_len 0 MOST_TERMINALS))) refl

-- a sum over the numbers below one more
pub sum_by-below_more : (f : ℕ → ℕ) (n : ℕ) → sum_by f (range_with_len 0 (n + 1)) ≡ sum_by f (range_with_len 0 n) + f n
sum_by-below_more f n = sum_by-range_more f 0 n ∙ ap (λ (i : ℕ). sum_by f (range_with_len 0 n) + f i) (zero-add n)

pub sum_over_all_cars : (f : ℕ → ℕ) (n : ℕ) → n ≡ MOST_CARS → sum_by f (range_with_len 0 n) ≡ sum_by f cars
unfolding cars
sum_over_all_cars f n all = ap (λ (i : ℕ). sum_by f (range_with_len 0 i)) all

pub length_over_all_terminals : {X : Type 0} (f : ℕ → List X) (n : ℕ) → n ≡ MOST_TERMINALS → sum_by (λ i. length (f i)) (range_with_len 0 n) ≡ length (flat_map f terminals)
unfolding terminals
length_over_all_terminals f n all =
    ap (λ (i : ℕ). sum_by (λ (k : ℕ). length (f k)) (range_with_len 0 i)) all ∙ sym (length-flat_map f (range_with_len 0 MOST_TERMINALS))

pub length-base_records : (register : RegisterState) → length (base_records register) ≡ open_count register + length (flat_map (last_records register) terminals) + 1
length-base_records register =
    let calls : List Row = flat_map (rows_of register) cars in
    let lasts : List Record = flat_map (last_records register) terminals in
    omega (arith, length-append (map RowRecord calls ++ lasts) (DoneRecord register.done ∷ []), length-append (map RowRecord calls) lasts, length-map calls RowRecord, length-flat_map (rows_of register) cars)

-- a new register's fields
pub empty-made : (rows : List (ArrayVec Row MOST_ROWS (Unit {0}))) → length rows ≡ MOST_CARS → All (λ (list : ArrayVec Row MOST_ROWS (Unit {0})). list.items ≡ []) rows → state_of (row_lists rows) (replicate MOST_TERMINALS None) 0 ≡ empty
empty-made rows long none =
    same_state _ _ _ _ _ _
    (list_on_cars (λ (car : ℕ). []) (row_lists rows) [] (length-map rows (λ (list : ArrayVec Row MOST_ROWS (Unit {0})). list.items) ∙ long) (λ k below. all_empty rows none k))
    (list_on_terminals (λ (terminal : ℕ). None) (replicate MOST_TERMINALS None) None refl (λ k below. get_or-replicate MOST_TERMINALS k None None below))
    refl

pub IfSome-known : (o : Option Last) (P : Last → Type 0) → ((last : Last) → o ≡ Some last → P last) → IfSome o P
IfSome-known None P each = tt
IfSome-known (Some last) P each = each last refl

pub sum_over_all_kiosks : (f : ℕ → ℕ) (n : ℕ) → n ≡ MOST_KIOSKS → sum_by f (range_with_len FIRST_KIOSK n) ≡ sum_by f kiosk_terminals
unfolding kiosk_terminals
sum_over_all_kiosks f n all = ap (λ (i : ℕ). sum_by f (range_with_len FIRST_KIOSK i)) all

pub first-of_option : {X : Type 0} (o : Option X) → slice_get (option_to_list o) 0 ≡ o
first-of_option None = refl
first-of_option (Some x) = refl

-- where a checkpoint's records stand
pub base_record-row : (register : RegisterState) (place : ℕ) (row : Row) → Some row ≡ slice_get (flat_map (rows_of register) cars) place → slice_get (base_records register) place ≡ Some (RowRecord row)
base_record-row register place row is =
    let calls : List Row = flat_map (rows_of register) cars in
    let lasts : List Record = flat_map (last_records register) terminals in
    let within : place < length (map RowRecord calls) = omega (arith, length-map calls RowRecord, slice_get_within calls place row (sym is)) in
    slice_get-append_left (map RowRecord calls ++ lasts) (DoneRecord register.done ∷ []) place (omega (arith, within, length-append (map RowRecord calls) lasts))
    ∙ slice_get-append_left (map RowRecord calls) lasts place within
    ∙ slice_get-map RowRecord calls place
    ∙ ap (option_map RowRecord) (sym is)

pub past-none : {X : Type 0} (xs : List X) (k : ℕ) → None ≡ slice_get xs k → length xs ≤ k
past-none xs k none = elim (cases_lt k (length xs)) [
  | inl below ↦ elim (slice_get_cases xs k).1 [
    | inl found ↦ absurd (none-some found.0 (none ∙ found.2))
    | inr past ↦ past.0
  ]
  | inr above ↦ above
]

pub base_record-past_rows : (register : RegisterState) (place : ℕ) → None ≡ slice_get (flat_map (rows_of register) cars) place → open_count register ≤ place
base_record-past_rows register place none =
    omega (arith, length-flat_map (rows_of register) cars, past-none (flat_map (rows_of register) cars) place none)

pub base_record-last : (register : RegisterState) (place : ℕ) (content : Record) → open_count register ≤ place → Some content ≡ slice_get (flat_map (last_records register) terminals) (place - open_count register) → slice_get (base_records register) place ≡ Some content
base_record-last register place content past is =
    let calls : List Row = flat_map (rows_of register) cars in
    let lasts : List Record = flat_map (last_records register) terminals in
    let count : length (map RowRecord calls) ≡ open_count register = length-map calls RowRecord ∙ length-flat_map (rows_of register) cars in
    let within : place - open_count register < length lasts = slice_get_within lasts (place - open_count register) content (sym is) in
    slice_get-append_left (map RowRecord calls ++ lasts) (DoneRecord register.done ∷ []) place (omega (arith, count, within, past, length-append (map RowRecord calls) lasts))
    ∙ slice_get-append_right (map RowRecord calls) lasts place (omega (arith, count, past))
    ∙ ap (λ (n : ℕ). slice_get lasts (place - n)) count
    ∙ sym is

pub base_record-done : (register : RegisterState) (place : ℕ) → open_count register ≤ place → None ≡ slice_get (flat_map (last_records register) terminals) (place - open_count register) → place < length (base_records register) → slice_get (base_records register) place ≡ Some (DoneRecord register.done)
base_record-done register place past none inside =
    let calls : List Row = flat_map (rows_of register) cars in
    let lasts : List Record = flat_map (last_records register) terminals in
    let first : List Record = map RowRecord calls ++ lasts in
    let count : length first ≡ open_count register + length lasts = omega (arith, length-append (map RowRecord calls) lasts, length-map calls RowRecord, length-flat_map (rows_of register) cars) in
    let here : place - length first ≡ 0 = omega (arith, count, past, inside, past-none lasts (place - open_count register) none, length-append first (DoneRecord register.done ∷ [])) in
    slice_get-append_right first (DoneRecord register.done ∷ []) place (omega (arith, count, past, past-none lasts (place - open_count register) none))
    ∙ ap (λ (k : ℕ). slice_get (DoneRecord register.done ∷ []) k) here
