-- The records of a checkpoint are in order.
use Rattle.std.proofs.Common.{◌≡◌, ◌<◌, ◌≤◌, ◌+◌, ℕ, zero, suc, List, [], ◌∷◌, ◌++◌, Option, Some, None, All, map, sym, ◌∙◌, ap, subst, arith}
use Rattle.std.specs.List.{flat_map, range_with_len, AllByRecursion}
use Rattle.std.proofs.lemmas.List.{map-append}
use Rattle.std.proofs.lemmas.List.Elements.{recursion_from_All}
use Rattle.lift_base.specs.declared.limits.TheConstants.{MOST_CARS, MOST_TERMINALS}
use Rattle.lift_base.specs.declared.history.Last.{Last as LastCommand}
use Rattle.lift_base.specs.declared.history.Record.{Record}
use Rattle.lift_base.specs.declared.history.Record.TheVariants.{Entry, Row, Last, Done}
use Rattle.lift_base.specs.declared.history.Row.{Row as CallRow}
use Rattle.lift_register.specs.Register.{RegisterState, rows_of, last_of, cars, terminals}
use Rattle.lift_register.specs.Base.{base_records, record_of_last, last_records}
use Rattle.lift_register.specs.WellFormed.{IsWellFormed}
use Rattle.lift_journal.specs.Order.{MayFollow, IsInOrderAfter, last_record_after, MayEnd}
use Rattle.lift_journal.specs.lemmas.Orders.{order_join, last_join}

-- an open call of this car, or of a later one, may follow
abbrev BeforeCar : ℕ → Option Record → Type 0
BeforeCar car None = Unit {0}
BeforeCar car (Some (Entry entry)) = ⊥
BeforeCar car (Some (Row row)) = row.car ≤ car
BeforeCar car (Some (Last terminal last)) = ⊥
BeforeCar car (Some (Done count)) = ⊥

-- the last command of this terminal, or of a later one, may follow
abbrev BeforeTerminal : ℕ → Option Record → Type 0
BeforeTerminal terminal None = Unit {0}
BeforeTerminal terminal (Some (Entry entry)) = ⊥
BeforeTerminal terminal (Some (Row row)) = Unit {0}
BeforeTerminal terminal (Some (Last other last)) = other < terminal
BeforeTerminal terminal (Some (Done count)) = ⊥

before_next : (car : ℕ) (last : Option Record) → BeforeCar car last → BeforeCar (car + 1) last
before_next car None before = tt
before_next car (Some (Entry entry)) before = before
before_next car (Some (Row row)) before = omega (arith, before)
before_next car (Some (Last terminal last)) before = before
before_next car (Some (Done count)) before = before

row_follows : (car : ℕ) (last : Option Record) (row : CallRow) → row.car ≡ car → BeforeCar car last → MayFollow last (Row row)
row_follows car None row own before = tt
row_follows car (Some (Entry entry)) row own before = absurd before
row_follows car (Some (Row first)) row own before = omega (arith, before, own)
row_follows car (Some (Last terminal last)) row own before = absurd before
row_follows car (Some (Done count)) row own before = absurd before

-- the open calls of one car
car_rows : (car : ℕ) (rows : List CallRow) (last : Option Record) → AllByRecursion (λ (row : CallRow). row.car ≡ car) rows → BeforeCar car last
    → IsInOrderAfter last (map Row rows) × BeforeCar car (last_record_after last (map Row rows))
car_rows car [] last own before = (tt, before)
car_rows car (row ∷ rows) last own before =
    let here : BeforeCar car (Some (Row row)) = omega (arith, own.0) in
    let rest = car_rows car rows (Some (Row row)) own.1 here in
    ((row_follows car last row own.0 before, rest.0), rest.1)

-- of all cars
all_rows : (f : ℕ → List CallRow) (i n : ℕ) (last : Option Record) → ((k : ℕ) → All (λ (row : CallRow). row.car ≡ k) (f k)) → BeforeCar i last
    → IsInOrderAfter last (map Row (flat_map f (range_with_len i n))) × BeforeCar (i + n) (last_record_after last (map Row (flat_map f (range_with_len i n))))
all_rows f i zero last own before = (tt, subst (λ k. BeforeCar k last) (let same : i ≡ i + 0 = omega arith in same) before)
all_rows f i (suc n) last own before =
    let here = map Row (f i) in
    let later = map Row (flat_map f (range_with_len (i + 1) n)) in
    let first = car_rows i (f i) last (recursion_from_All (λ (row : CallRow). row.car ≡ i) (f i) (own i)) before in
    let rest = all_rows f (i + 1) n (last_record_after last here) own (before_next i (last_record_after last here) first.1) in
    let split : map Row (flat_map f (range_with_len i (suc n))) ≡ here ++ later = map-append Row (f i) (flat_map f (range_with_len (i + 1) n)) in
    let count : (i + 1) + n ≡ i + suc n = omega arith in (
      subst (IsInOrderAfter last) (sym split) (order_join last here later first.0 rest.0),
      subst (λ k. BeforeCar k (last_record_after last (map Row (flat_map f (range_with_len i (suc n)))))) count
          (subst (BeforeCar ((i + 1) + n)) (sym (ap (last_record_after last) split ∙ last_join last here later)) rest.1),
    )

rows_then_lasts : (car : ℕ) (last : Option Record) → BeforeCar car last → BeforeTerminal 0 last
rows_then_lasts car None before = tt
rows_then_lasts car (Some (Entry entry)) before = before
rows_then_lasts car (Some (Row row)) before = tt
rows_then_lasts car (Some (Last terminal last)) before = absurd before
rows_then_lasts car (Some (Done count)) before = before

last_follows : (terminal : ℕ) (before : Option Record) (last : LastCommand) → BeforeTerminal terminal before → MayFollow before (Last terminal last)
last_follows terminal None last is = tt
last_follows terminal (Some (Entry entry)) last is = absurd is
last_follows terminal (Some (Row row)) last is = tt
last_follows terminal (Some (Last other command)) last is = is
last_follows terminal (Some (Done count)) last is = absurd is

before_terminal : (terminal : ℕ) (before : Option Record) → BeforeTerminal terminal before → BeforeTerminal (terminal + 1) before
before_terminal terminal None is = tt
before_terminal terminal (Some (Entry entry)) is = is
before_terminal terminal (Some (Row row)) is = tt
before_terminal terminal (Some (Last other command)) is = omega (arith, is)
before_terminal terminal (Some (Done count)) is = is

one_last : (terminal : ℕ) (found : Option LastCommand) (before : Option Record) → BeforeTerminal terminal before
    → IsInOrderAfter before (record_of_last terminal found) × BeforeTerminal (terminal + 1) (last_record_after before (record_of_last terminal found))
one_last terminal None before is = (tt, before_terminal terminal before is)
one_last terminal (Some last) before is = ((last_follows terminal before last is, tt), omega arith)

-- the last commands of all terminals
all_lasts : (f : ℕ → Option LastCommand) (i n : ℕ) (before : Option Record) → BeforeTerminal i before
    → IsInOrderAfter before (flat_map (λ k. record_of_last k (f k)) (range_with_len i n)) × BeforeTerminal (i + n) (last_record_after before (flat_map (λ k. record_of_last k (f k)) (range_with_len i n)))
all_lasts f i zero before is = (tt, subst (λ k. BeforeTerminal k before) (let same : i ≡ i + 0 = omega arith in same) is)
all_lasts f i (suc n) before is =
    let here = record_of_last i (f i) in
    let later = flat_map (λ k. record_of_last k (f k)) (range_with_len (i + 1) n) in
    let first = one_last i (f i) before is in
    let rest = all_lasts f (i + 1) n (last_record_after before here) first.1 in
    let count : (i + 1) + n ≡ i + suc n = omega arith in (
      order_join before here later first.0 rest.0,
      subst (λ k. BeforeTerminal k (last_record_after before (here ++ later))) count
          (subst (BeforeTerminal ((i + 1) + n)) (sym (last_join before here later)) rest.1),
    )

done_follows : (terminal : ℕ) (before : Option Record) (count : ℕ) → BeforeTerminal terminal before → MayFollow before (Done count)
done_follows terminal None count is = tt
done_follows terminal (Some (Entry entry)) count is = absurd is
done_follows terminal (Some (Row row)) count is = tt
done_follows terminal (Some (Last other command)) count is = tt
done_follows terminal (Some (Done other)) count is = absurd is

order_of : (f : ℕ → List CallRow) (g : ℕ → Option LastCommand) (done : ℕ) → ((k : ℕ) → All (λ (row : CallRow). row.car ≡ k) (f k))
    → IsInOrderAfter None ((map Row (flat_map f (range_with_len 0 MOST_CARS)) ++ flat_map (λ k. record_of_last k (g k)) (range_with_len 0 MOST_TERMINALS)) ++ Done done ∷ [])
order_of f g done own =
    let rows = map Row (flat_map f (range_with_len 0 MOST_CARS)) in
    let lasts = flat_map (λ k. record_of_last k (g k)) (range_with_len 0 MOST_TERMINALS) in
    let first = all_rows f 0 MOST_CARS None own tt in
    let second = all_lasts g 0 MOST_TERMINALS (last_record_after None rows) (rows_then_lasts MOST_CARS (last_record_after None rows) first.1) in
    let both = order_join None rows lasts first.0 second.0 in
    let end = subst (BeforeTerminal MOST_TERMINALS) (sym (last_join None rows lasts)) second.1 in
    order_join None (rows ++ lasts) (Done done ∷ []) both (done_follows MOST_TERMINALS (last_record_after None (rows ++ lasts)) done end, tt)

pub base_in_order : (register : RegisterState) → IsWellFormed register → IsInOrderAfter None (base_records register)
unfolding cars terminals
base_in_order register formed = order_of (rows_of register) (last_of register) register.done formed.own_cars

pub base_complete : (register : RegisterState) → MayEnd (last_record_after None (base_records register))
base_complete register =
    let front = map Row (flat_map (rows_of register) cars) ++ flat_map (last_records register) terminals in
    subst MayEnd (sym (last_join None front (Done register.done ∷ []))) tt
