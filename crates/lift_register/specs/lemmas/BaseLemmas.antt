-- The laws of checkpoints: the records of a register can be written, spell it, and fit where they
-- come.
use Rattle.std.proofs.Common.{◌≡◌, ◌≢◌, ℕ, zero, suc, ◌+◌, ◌<◌, ◌≤◌, cond, ltb, List, [], ◌∷◌, ◌++◌}
use Rattle.std.proofs.Common.{Some, None, Option, All, length, map, slice_get, subst, refl, sym}
use Rattle.std.proofs.Common.{◌∙◌, ap, arith, inl, inr, append_assoc}
use Rattle.std.specs.List.{flat_map, range_with_len}
use Rattle.std.proofs.Math.ListN.{set}
use Rattle.std.proofs.lemmas.List.{append-nil, length-set, get_or-set_same, set-set, set-get_or}
use Rattle.std.proofs.lemmas.List.{map-append}
use Rattle.std.proofs.lemmas.List.Elements.{All-nil, All-cons, All-head, All-tail, All-append}
use Rattle.std.proofs.lemmas.List.Elements.{All-map}
use Rattle.std.proofs.lemmas.List.Sums.{sum_by-cons, sum_by_push}
use Rattle.std.proofs.lemmas.Bool.{lt-ltb, le-ltb, cases_lt}
use Rattle.std.proofs.lemmas.Option.{slice_get_within, get_or_from_slice_get}
use Rattle.lift_base.specs.declared.limits.TheConstants.{MOST_CARS, MOST_TERMINALS}
use Rattle.lift_building.specs.Plan.{Plan, places_of}
use Rattle.lift_base.specs.Records.{IsRecord}
use Rattle.lift_base.specs.declared.history.Record.{Record}
use Rattle.lift_base.specs.declared.history.Record.TheVariants.{Row as RowRecord}
use Rattle.lift_base.specs.declared.history.Record.TheVariants.{Last as LastRecord}
use Rattle.lift_base.specs.declared.history.Record.TheVariants.{Done as DoneRecord}
use Rattle.lift_base.specs.declared.history.Last.{Last}
use Rattle.lift_base.specs.declared.history.Row.{Row}
use Rattle.lift_register.specs.Register.{RegisterState, rows_of, last_of, cars, terminals, empty}
use Rattle.lift_register.specs.Fits.{IsPossibleCall, IsPossibleLast, persons_of, HasPlace}
use Rattle.lift_register.specs.Balanced.{IsBalanced}
use Rattle.lift_register.specs.Base.{record_of_last, last_records, base_records, with_record}
use Rattle.lift_register.specs.Base.{with_records, BaseFitFrom}
use Rattle.lift_register.specs.WellFormed.{IsWellFormed}
use Rattle.lift_register.specs.Belongs.{BelongsTo}
use Rattle.lift_register.specs.lemmas.HistoryLemmas.{state_of, same_state, same_on_cars}
use Rattle.lift_register.specs.lemmas.HistoryLemmas.{same_on_terminals}
use Rattle.lift_register.specs.lemmas.Sums.{list_on_cars, list_on_terminals, set_on_cars}
use Rattle.lift_register.specs.lemmas.Sums.{set_on_terminals, get_or-on_cars, get_or-on_terminals}
use Rattle.lift_register.specs.lemmas.Sums.{length-on_cars, length-on_terminals}

-- two lists of records, one after the other
pub with_records-append : (register : RegisterState) (first later : List Record)
    → with_records register (first ++ later) ≡ with_records (with_records register first) later
with_records-append register [] later = refl
with_records-append register (content ∷ first) later =
    with_records-append (with_record register content) first later

pub BaseFitFrom-append : (plan : Plan) (register : RegisterState) (first later : List Record)
    → BaseFitFrom plan register first → BaseFitFrom plan (with_records register first) later
    → BaseFitFrom plan register (first ++ later)
BaseFitFrom-append plan register [] later fit more = more
BaseFitFrom-append plan register (content ∷ first) later fit more =
    (fit.0, BaseFitFrom-append plan (with_record register content) first later fit.1 more)

-- what is true of the parts' elements is true of all
pub All-flat_map : {X Y : Type 0} (P : Y → Type 0) (f : X → List Y) (xs : List X)
    → ((x : X) → All P (f x)) → All P (flat_map f xs)
All-flat_map P f [] each = All-nil P
All-flat_map P f (x ∷ xs) each =
    All-append P (f x) (flat_map f xs) (each x) (All-flat_map P f xs each)

pub IsRecord-last : (terminal : ℕ) (o : Option Last)
    → ((last : Last) → o ≡ Some last → IsRecord (LastRecord terminal last))
    → All IsRecord (record_of_last terminal o)
IsRecord-last terminal None each = All-nil IsRecord
IsRecord-last terminal (Some last) each =
    All-cons IsRecord (LastRecord terminal last) [] (each last refl) (All-nil IsRecord)

-- each record of a checkpoint can be written
pub IsRecord-base_records : (register : RegisterState) → IsWellFormed register
    → All IsRecord (base_records register)
IsRecord-base_records register lawful =
    All-append IsRecord (map RowRecord (flat_map (rows_of register) cars)
    ++ flat_map (last_records register) terminals) (DoneRecord register.done ∷ [])
    (All-append IsRecord (map RowRecord (flat_map (rows_of register) cars))
    (flat_map (last_records register) terminals)
    (All-map IsRecord RowRecord (flat_map (rows_of register) cars) (All-flat_map (λ (row : Row).
    IsRecord (RowRecord row)) (rows_of register) cars lawful.rows))
    (All-flat_map IsRecord (last_records register) terminals (λ terminal.
    IsRecord-last terminal (last_of register terminal) (lawful.lasts terminal))))
    (All-cons IsRecord (DoneRecord register.done) [] lawful.done (All-nil IsRecord))

pub All-slice_get : {X : Type 0} (P : X → Type 0) (xs : List X) (k : ℕ) (x : X) → All P xs
    → slice_get xs k ≡ Some x → P x
All-slice_get P xs k x all is =
    subst P (get_or_from_slice_get xs k x x is) (all k x (slice_get_within xs k x is))

-- what the first numbers have got so far
abbrev pub filled : {X : Type 0} → X → (ℕ → X) → ℕ → ℕ → X
filled none f i k = cond (ltb k i) (f k) none

pub filled-below : {X : Type 0} (none : X) (f : ℕ → X) (i k : ℕ) → k < i → filled none f i k ≡ f k
filled-below none f i k below = rw (lt-ltb k i below) refl

pub filled-above : {X : Type 0} (none : X) (f : ℕ → X) (i k : ℕ) → i ≤ k → filled none f i k ≡ none
filled-above none f i k above = rw (le-ltb k i above) refl

pub filled-more : {X : Type 0} (none : X) (f : ℕ → X) (i k : ℕ) → k ≢ i
    → filled none f (i + 1) k ≡ filled none f i k
filled-more none f i k other = elim (cases_lt k i) [
  | inl below ↦ filled-below none f (i + 1) k (omega arith) ∙ sym (filled-below none f i k below)
  | inr above ↦ filled-above none f (i + 1) k (omega arith) ∙ sym (filled-above none f i k above)
]

pub fill_car : {X : Type 0} (none : X) (f : ℕ → X) (i : ℕ) → i < MOST_CARS
    → set (map (filled none f i) cars) i (f i) ≡ map (filled none f (i + 1)) cars
fill_car none f i below =
    ap (λ x. set (map (filled none f i) cars) i x)
    (sym (filled-below none f (i + 1) i (omega arith)))
    ∙ set_on_cars (filled none f (i + 1)) (map (filled none f i) cars) i none
    (length-on_cars (filled none f i)) below
    (λ k within other. filled-more none f i k other ∙ sym
    (get_or-on_cars (filled none f i) k none within))

pub fill_terminal : {X : Type 0} (none : X) (f : ℕ → X) (i : ℕ) → i < MOST_TERMINALS
    → set (map (filled none f i) terminals) i (f i) ≡ map (filled none f (i + 1)) terminals
fill_terminal none f i below =
    ap (λ x. set (map (filled none f i) terminals) i x)
    (sym (filled-below none f (i + 1) i (omega arith)))
    ∙ set_on_terminals (filled none f (i + 1)) (map (filled none f i) terminals) i none
    (length-on_terminals (filled none f i)) below
    (λ k within other. filled-more none f i k other ∙ sym
    (get_or-on_terminals (filled none f i) k none within))

-- the rows of one car, one after another
pub with_row-own : (register : RegisterState) (car : ℕ) (row : Row) → row.car ≡ car
    → with_record register (RowRecord row)
    ≡ record register { rows = set register.rows car (rows_of register car ++ row ∷ []) }
with_row-own register car row own =
    ap (λ (k : ℕ). record register { rows = set register.rows k (rows_of register k ++ row ∷ []) })
    own

pub with_rows : (register : RegisterState) (car : ℕ) (rows : List Row) → car < length register.rows
    → All (λ (row : Row). row.car ≡ car) rows
    → with_records register (map RowRecord rows)
    ≡ record register { rows = set register.rows car (rows_of register car ++ rows) }
with_rows register car [] within own =
    rw (append-nil (rows_of register car), set-get_or register.rows car []) refl
with_rows register car (row ∷ rows) within own =
    let next : RegisterState =
    record register { rows = set register.rows car (rows_of register car ++ row ∷ []) } in
    ap (λ (r : RegisterState).
    with_records r (map RowRecord rows))
    (with_row-own register car row (All-head (λ (r : Row). r.car ≡ car) row rows own))
    ∙ with_rows next car rows
    (omega (arith, within, length-set register.rows car (rows_of register car ++ row ∷ [])))
    (All-tail (λ (r : Row). r.car ≡ car) row rows own)
    ∙ rw (
      get_or-set_same register.rows car (rows_of register car ++ row
          ∷ []) [] within,
      set-set register.rows car (rows_of register car ++ row ∷ [])
          ((rows_of register car ++ row ∷ []) ++ rows),
      append_assoc (rows_of register car)
          (row ∷ []) rows,
    ) refl

-- they fit where all of them have places
pub rows-fit : (plan : Plan) (register : RegisterState) (car : ℕ) (rows : List Row)
    → car < length register.rows → All (λ (row : Row). row.car ≡ car) rows
    → All (λ (row : Row). IsRecord (RowRecord row)) rows
    → All (λ (row : Row). IsPossibleCall plan row.kiosk row.from row.to car) rows
    → persons_of (rows_of register car) + persons_of rows ≤ places_of plan car
    → BaseFitFrom plan register (map RowRecord rows)
rows-fit plan register car [] within own written possible places = tt
rows-fit plan register car (row ∷ rows) within own written possible places =
    let next : RegisterState =
    record register { rows = set register.rows car (rows_of register car ++ row ∷ []) } in
    let here : row.car ≡ car = All-head (λ (r : Row). r.car ≡ car) row rows own in
    let all : persons_of (row ∷ rows) ≡ row.party + persons_of rows =
    sum_by-cons (λ (r : Row). r.party) row rows in
    let place : HasPlace plan register car row.party = omega (arith, places, all) in
    let call : IsPossibleCall plan row.kiosk row.from row.to car =
    All-head (λ (r : Row). IsPossibleCall plan r.kiosk r.from r.to car) row rows possible in
    let lawful : IsRecord (RowRecord row) =
    All-head (λ (r : Row). IsRecord (RowRecord r)) row rows written in (
      (lawful.1, (rw here call, rw here place)),
      subst (λ (r : RegisterState).
          BaseFitFrom plan r (map RowRecord rows)) (sym (with_row-own register car row here))
          (rows-fit plan next car rows
          (omega (arith, within, length-set register.rows car (rows_of register car ++ row ∷ [])))
          (All-tail (λ (r : Row). r.car ≡ car) row rows own)
          (All-tail (λ (r : Row). IsRecord (RowRecord r)) row rows written)
          (All-tail (λ (r : Row). IsPossibleCall plan r.kiosk r.from r.to car) row rows possible)
          (omega (
            arith,
            places,
            all,
            ap persons_of
                (get_or-set_same register.rows car (rows_of register car ++ row ∷ []) [] within),
            sum_by_push (λ (r : Row). r.party) (rows_of register car) row,
          ))),
    )

abbrev pub with_cars : (ℕ → List Row) → ℕ → List (Option Last) → ℕ → RegisterState
with_cars f i lasts done = state_of (map (filled [] f i) cars) lasts done

-- the rows of the next car
pub with_next_car : (f : ℕ → List Row) (lasts : List (Option Last)) (done i : ℕ) → i < MOST_CARS
    → All (λ (row : Row). row.car ≡ i) (f i)
    → with_records (with_cars f i lasts done) (map RowRecord (f i)) ≡ with_cars f (i + 1) lasts done
with_next_car f lasts done i below own =
    with_rows (with_cars f i lasts done) i (f i)
    (omega (arith, below, length-on_cars (filled [] f i))) own
    ∙ rw (
      get_or-on_cars (filled [] f i) i [] below,
      filled-above [] f i i
          (omega arith),
      fill_car [] f i below,
    ) refl

pub rows-of_all : (f : ℕ → List Row) (i n : ℕ)
    → map RowRecord (flat_map f (range_with_len i (suc n)))
    ≡ map RowRecord (f i) ++ map RowRecord (flat_map f (range_with_len (i + 1) n))
rows-of_all f i n = map-append RowRecord (f i) (flat_map f (range_with_len (i + 1) n))

pub with_all_cars : (f : ℕ → List Row) (lasts : List (Option Last)) (done i n : ℕ) → i + n ≡ MOST_CARS
    → ((k : ℕ) → All (λ (row : Row). row.car ≡ k) (f k))
    → with_records (with_cars f i lasts done) (map RowRecord (flat_map f (range_with_len i n)))
    ≡ with_cars f MOST_CARS lasts done
with_all_cars f lasts done i zero all own =
    let end : i ≡ MOST_CARS = omega arith in
    ap (λ (k : ℕ). with_cars f k lasts done) end
with_all_cars f lasts done i (suc n) all own =
    ap (with_records (with_cars f i lasts done)) (rows-of_all f i n)
    ∙ with_records-append (with_cars f i lasts done) (map RowRecord (f i))
    (map RowRecord (flat_map f (range_with_len (i + 1) n)))
    ∙ ap (λ (r : RegisterState).
    with_records r (map RowRecord (flat_map f (range_with_len (i + 1) n))))
    (with_next_car f lasts done i (omega arith) (own i))
    ∙ with_all_cars f lasts done (i + 1) n (omega arith) own

pub all_cars-fit : (plan : Plan) (f : ℕ → List Row) (lasts : List (Option Last)) (done i n : ℕ)
    → i + n ≡ MOST_CARS → ((k : ℕ) → All (λ (row : Row). row.car ≡ k) (f k))
    → ((k : ℕ) → All (λ (row : Row). IsRecord (RowRecord row)) (f k))
    → ((k : ℕ) → All (λ (row : Row). IsPossibleCall plan row.kiosk row.from row.to k) (f k))
    → ((k : ℕ) → persons_of (f k) ≤ places_of plan k)
    → BaseFitFrom plan (with_cars f i lasts done) (map RowRecord (flat_map f (range_with_len i n)))
all_cars-fit plan f lasts done i zero all own written possible places = tt
all_cars-fit plan f lasts done i (suc n) all own written possible places =
    let none : rows_of (with_cars f i lasts done) i ≡ [] =
    get_or-on_cars (filled [] f i) i [] (omega arith) ∙ filled-above [] f i i (omega arith) in
    let here : BaseFitFrom plan (with_cars f i lasts done) (map RowRecord (f i)) =
    rows-fit plan (with_cars f i lasts done) i (f i) (omega (arith, length-on_cars (filled [] f i)))
    (own i) (written i) (possible i) (omega (arith, places i, ap persons_of none)) in
    subst (BaseFitFrom plan (with_cars f i lasts done)) (sym (rows-of_all f i n))
    (BaseFitFrom-append plan (with_cars f i lasts done) (map RowRecord (f i))
    (map RowRecord (flat_map f (range_with_len (i + 1) n))) here
    (subst (λ (r : RegisterState).
    BaseFitFrom plan r (map RowRecord (flat_map f (range_with_len (i + 1) n))))
    (sym (with_next_car f lasts done i (omega arith) (own i)))
    (all_cars-fit plan f lasts done (i + 1) n (omega arith) own written possible places)))

abbrev pub with_terminals : List (List Row) → (ℕ → Option Last) → ℕ → ℕ → RegisterState
with_terminals rows f i done = state_of rows (map (filled None f i) terminals) done

pub with_one_last : (register : RegisterState) (terminal : ℕ) (o : Option Last)
    → last_of register terminal ≡ None
    → with_records register (record_of_last terminal o)
    ≡ record register { lasts = set register.lasts terminal o }
with_one_last register terminal None none =
    rw (← none, set-get_or register.lasts terminal None) refl
with_one_last register terminal (Some last) none = refl

pub with_next_terminal : (rows : List (List Row)) (f : ℕ → Option Last) (done i : ℕ) → i < MOST_TERMINALS
    → with_records (with_terminals rows f i done) (record_of_last i (f i))
    ≡ with_terminals rows f (i + 1) done
with_next_terminal rows f done i below =
    with_one_last (with_terminals rows f i done) i (f i)
    (get_or-on_terminals (filled None f i) i None below ∙ filled-above None f i i (omega arith))
    ∙ ap (λ (lasts : List (Option Last)). state_of rows lasts done) (fill_terminal None f i below)

pub with_all_terminals : (rows : List (List Row)) (f : ℕ → Option Last) (done i n : ℕ) → i + n ≡ MOST_TERMINALS
    → with_records (with_terminals rows f i done)
    (flat_map (λ k. record_of_last k (f k)) (range_with_len i n)) ≡ with_terminals rows f MOST_TERMINALS done
with_all_terminals rows f done i zero all =
    let end : i ≡ MOST_TERMINALS = omega arith in
    ap (λ (k : ℕ). with_terminals rows f k done) end
with_all_terminals rows f done i (suc n) all =
    with_records-append (with_terminals rows f i done) (record_of_last i (f i))
    (flat_map (λ k. record_of_last k (f k)) (range_with_len (i + 1) n))
    ∙ ap (λ (r : RegisterState).
    with_records r (flat_map (λ k. record_of_last k (f k)) (range_with_len (i + 1) n)))
    (with_next_terminal rows f done i (omega arith))
    ∙ with_all_terminals rows f done (i + 1) n (omega arith)

pub last-fits : (plan : Plan) (register : RegisterState) (terminal : ℕ) (o : Option Last)
    → ((last : Last) → o ≡ Some last → IsRecord (LastRecord terminal last))
    → ((last : Last) → o ≡ Some last → IsPossibleLast plan terminal last.content)
    → BaseFitFrom plan register (record_of_last terminal o)
last-fits plan register terminal None written possible = tt
last-fits plan register terminal (Some last) written possible =
    (((written last refl).1, possible last refl), tt)

pub all_lasts-fit : (plan : Plan) (rows : List (List Row)) (f : ℕ → Option Last) (done i n : ℕ)
    → i + n ≡ MOST_TERMINALS → ((k : ℕ) (last : Last) → f k ≡ Some last → IsRecord (LastRecord k last))
    → ((k : ℕ) (last : Last) → f k ≡ Some last → IsPossibleLast plan k last.content)
    → BaseFitFrom plan (with_terminals rows f i done)
    (flat_map (λ k. record_of_last k (f k)) (range_with_len i n))
all_lasts-fit plan rows f done i zero all written possible = tt
all_lasts-fit plan rows f done i (suc n) all written possible =
    BaseFitFrom-append plan (with_terminals rows f i done) (record_of_last i (f i))
    (flat_map (λ k. record_of_last k (f k)) (range_with_len (i + 1) n))
    (last-fits plan (with_terminals rows f i done) i (f i) (written i) (possible i))
    (subst (λ (r : RegisterState).
    BaseFitFrom plan r (flat_map (λ k. record_of_last k (f k)) (range_with_len (i + 1) n)))
    (sym (with_next_terminal rows f done i (omega arith)))
    (all_lasts-fit plan rows f done (i + 1) n (omega arith) written possible))

pub rows-filled : (register : RegisterState) → IsWellFormed register
    → map (filled [] (rows_of register) MOST_CARS) cars ≡ register.rows
rows-filled register lawful =
    sym (list_on_cars (filled [] (rows_of register) MOST_CARS) register.rows [] lawful.row_count
    (λ k below. sym (filled-below [] (rows_of register) MOST_CARS k below)))

pub lasts-filled : (register : RegisterState) → IsWellFormed register
    → map (filled None (last_of register) MOST_TERMINALS) terminals ≡ register.lasts
lasts-filled register lawful =
    sym (list_on_terminals (filled None (last_of register) MOST_TERMINALS) register.lasts None lawful.last_count
    (λ k below. sym (filled-below None (last_of register) MOST_TERMINALS k below)))

pub nothing-filled : {X : Type 0} (none : X) (f : ℕ → X)
    → map (filled none f 0) cars ≡ map (λ (k : ℕ). none) cars
nothing-filled none f = same_on_cars (filled none f 0) (λ (k : ℕ). none) (λ k below.
    filled-above none f 0 k (omega arith))

pub nothing-filled_terminals : {X : Type 0} (none : X) (f : ℕ → X)
    → map (filled none f 0) terminals ≡ map (λ (k : ℕ). none) terminals
nothing-filled_terminals none f =
    same_on_terminals (filled none f 0) (λ (k : ℕ). none) (λ k below.
    filled-above none f 0 k (omega arith))

-- over all cars, and over all terminals
pub with_calls : (f : ℕ → List Row) (lasts : List (Option Last)) (done : ℕ)
    → ((k : ℕ) → All (λ (row : Row). row.car ≡ k) (f k))
    → with_records (with_cars f 0 lasts done) (map RowRecord (flat_map f cars))
    ≡ with_cars f MOST_CARS lasts done
unfolding cars
with_calls f lasts done own = with_all_cars f lasts done 0 MOST_CARS refl own

pub calls-fit : (plan : Plan) (f : ℕ → List Row) (lasts : List (Option Last)) (done : ℕ)
    → ((k : ℕ) → All (λ (row : Row). row.car ≡ k) (f k))
    → ((k : ℕ) → All (λ (row : Row). IsRecord (RowRecord row)) (f k))
    → ((k : ℕ) → All (λ (row : Row). IsPossibleCall plan row.kiosk row.from row.to k) (f k))
    → ((k : ℕ) → persons_of (f k) ≤ places_of plan k)
    → BaseFitFrom plan (with_cars f 0 lasts done) (map RowRecord (flat_map f cars))
unfolding cars
calls-fit plan f lasts done own written possible places =
    all_cars-fit plan f lasts done 0 MOST_CARS refl own written possible places

pub with_lasts : (rows : List (List Row)) (f : ℕ → Option Last) (done : ℕ)
    → with_records (with_terminals rows f 0 done) (flat_map (λ k. record_of_last k (f k)) terminals)
    ≡ with_terminals rows f MOST_TERMINALS done
unfolding terminals
with_lasts rows f done = with_all_terminals rows f done 0 MOST_TERMINALS refl

pub lasts-fit : (plan : Plan) (rows : List (List Row)) (f : ℕ → Option Last) (done : ℕ)
    → ((k : ℕ) (last : Last) → f k ≡ Some last → IsRecord (LastRecord k last))
    → ((k : ℕ) (last : Last) → f k ≡ Some last → IsPossibleLast plan k last.content)
    → BaseFitFrom plan (with_terminals rows f 0 done)
    (flat_map (λ k. record_of_last k (f k)) terminals)
unfolding terminals
lasts-fit plan rows f done written possible =
    all_lasts-fit plan rows f done 0 MOST_TERMINALS refl written possible

-- the empty register, seen as one whose first car, or terminal, comes next
pub empty-as_rows : (f : ℕ → List Row) → with_cars f 0 empty.lasts 0 ≡ empty
empty-as_rows f = same_state _ _ _ _ _ _ (nothing-filled {X = List Row} [] f) refl refl

-- after the rows of a register
pub after_rows : (register : RegisterState) → IsWellFormed register
    → with_records empty (map RowRecord (flat_map (rows_of register) cars))
    ≡ with_terminals register.rows (last_of register) 0 0
after_rows register lawful =
    ap (λ (r : RegisterState). with_records r (map RowRecord (flat_map (rows_of register) cars)))
    (sym (empty-as_rows (rows_of register)))
    ∙ with_calls (rows_of register) empty.lasts 0 lawful.own_cars
    ∙ same_state _ _ _ _ _ _ (rows-filled register lawful)
    (sym (nothing-filled_terminals {X = Option Last} None (last_of register))) refl

-- after its last commands too
pub after_lasts : (register : RegisterState) → IsWellFormed register
    → with_records empty (map RowRecord (flat_map (rows_of register) cars)
    ++ flat_map (last_records register) terminals) ≡ state_of register.rows register.lasts 0
after_lasts register lawful =
    with_records-append empty (map RowRecord (flat_map (rows_of register) cars))
    (flat_map (last_records register) terminals)
    ∙ ap (λ (r : RegisterState). with_records r (flat_map (last_records register) terminals))
    (after_rows register lawful)
    ∙ with_lasts register.rows (last_of register) 0
    ∙ same_state _ _ _ _ _ _ refl (lasts-filled register lawful) refl

-- A checkpoint's records, taken in from nothing, give the register that they were written from.
pub with_records-base_records : (register : RegisterState) → IsWellFormed register
    → with_records empty (base_records register) ≡ register
with_records-base_records register lawful =
    with_records-append empty (map RowRecord (flat_map (rows_of register) cars)
    ++ flat_map (last_records register) terminals) (DoneRecord register.done ∷ [])
    ∙ ap (λ (r : RegisterState).
    with_record r (DoneRecord register.done)) (after_lasts register lawful)

-- Each of them fits where it comes.
pub BaseFitFrom-base_records : (plan : Plan) (register : RegisterState) → IsWellFormed register
    → BelongsTo plan register → IsBalanced register → BaseFitFrom plan empty (base_records register)
BaseFitFrom-base_records plan register lawful belongs balanced =
    let calls : List Record = map RowRecord (flat_map (rows_of register) cars) in
    let lasts : List Record = flat_map (last_records register) terminals in
    let rows_fit : BaseFitFrom plan empty calls =
    subst (λ (r : RegisterState). BaseFitFrom plan r calls) (empty-as_rows (rows_of register))
    (calls-fit plan (rows_of register) empty.lasts 0 lawful.own_cars lawful.rows belongs.rows
    belongs.places) in
    let both_fit : BaseFitFrom plan empty (calls ++ lasts) =
    BaseFitFrom-append plan empty calls lasts rows_fit
    (subst (λ (r : RegisterState). BaseFitFrom plan r lasts) (sym (after_rows register lawful))
    (lasts-fit plan register.rows (last_of register) 0 lawful.lasts belongs.lasts)) in
    BaseFitFrom-append plan empty (calls ++ lasts) (DoneRecord register.done ∷ []) both_fit
    (subst (λ (r : RegisterState). BaseFitFrom plan r (DoneRecord register.done ∷ []))
    (sym (after_lasts register lawful))
    ((lawful.done.1, balanced), tt))
