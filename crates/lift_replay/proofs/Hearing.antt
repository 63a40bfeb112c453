-- The seats of a desk's terminals, and what they hear.
use Rattle.std.proofs.Common.{◌≡◌, ℕ, zero, suc, ◌+◌, ◌<◌, ◌≤◌, List, [], ◌∷◌, ◌++◌, length, get_or, set, take, None, Some, refl, subst, sym, ap, ◌∙◌, inl, inr, false, get_or-set_other, arith}
use Rattle.std.proofs.lemmas.List.{append_assoc, append-nil, get_or_default, take-set, length-set}
use Rattle.std.proofs.lemmas.Grind.{get_or-set_at}
use Rattle.atomic_table.specs.Seated.{TableId}
use Rattle.lift_base.specs.declared.command.Reply.{Reply}
use Rattle.lift_desk.specs.Seats.{TerminalSeat, AreSeatsOf, Waits, IsToldAnswer, seats_from, seat_with}
use Rattle.lift_desk.specs.Steps.{with_hearing, is_awaited}
use Rattle.lift_replay.specs.Terminals.{AreTerminalsOf, AllHear, HasHeard, Hears, no_seat, seat_at}

pub count_from : (k : ℕ) (desk : List TableId) → length (seats_from k desk) ≡ length desk
count_from k [] = refl
count_from k (table ∷ desk) = ap suc (count_from (suc k) desk)

pub own_from : (k : ℕ) (desk : List TableId) (i : ℕ) → i < length (seats_from k desk) → (seat_at (seats_from k desk) i).terminal ≡ k + i
own_from k [] i below = absurd (omega (arith, below))
own_from k (table ∷ desk) zero below = omega arith
own_from k (table ∷ desk) (suc i) below = own_from (suc k) desk i (omega (arith, below)) ∙ omega arith

-- at a new desk
pub new_terminals : (desk : List TableId) (seats : List TerminalSeat) → AreSeatsOf desk seats → seats ≡ seats_from 0 desk → AreTerminalsOf desk seats
new_terminals desk seats seated new = record {
  count = ap length new ∙ count_from 0 desk;
  seated = seated;
  own = λ i below. rw new (own_from 0 desk i (rw (sym new) below) ∙ omega arith);
}

-- all have heard once as many have as there are
pub all_heard : (olds news : List TerminalSeat) (n : ℕ) (lines : List ℕ) → length olds ≤ n → length news ≡ length olds → AllHear (take n olds) (take n news) lines → AllHear olds news lines
all_heard olds news n lines all same hear =
    subst (λ l. AllHear l news lines) (take_whole n olds all) (subst (λ l. AllHear (take n olds) l lines) (take_whole n news (omega (arith, all, same))) hear)
  where
    take_whole : (m : ℕ) (seats : List TerminalSeat) → length seats ≤ m → take m seats ≡ seats
    take_whole zero [] few = refl
    take_whole (suc m) [] few = refl
    take_whole zero (seat ∷ seats) few = absurd (omega (arith, few))
    take_whole (suc m) (seat ∷ seats) few = ap (λ l. seat ∷ l) (take_whole m seats (omega (arith, few)))

-- one more has heard
pub one_more : (olds news : List TerminalSeat) (n : ℕ) (lines line : List ℕ) → n < length olds → length news ≡ length olds
    → AllHear (take n olds) (take n news) lines → Hears (seat_at olds n) (seat_at news n) line → AllHear (take (suc n) olds) (take (suc n) news) (lines ++ line)
one_more [] news n lines line below long before hears = absurd (omega (arith, below))
one_more (old ∷ olds) [] n lines line below long before hears = absurd (omega (arith, long))
one_more (old ∷ olds) (new ∷ news) zero lines line below long before hears =
    (line, [], hears, refl, ap (λ l. l ++ line) before ∙ sym (append-nil line))
one_more (old ∷ olds) (new ∷ news) (suc n) lines line below long before hears = (
  before.0,
  before.1 ++ line,
  before.2,
  one_more olds news n before.1 line (omega (arith, below)) (omega (arith, long)) before.3 hears,
  ap (λ l. l ++ line) before.4 ∙ append_assoc before.0 before.1 line,
)

same_seat : (seats : List TerminalSeat) (i k : ℕ) (seat : TerminalSeat) → k ≡ i → i < length seats → seat ≡ get_or seats k seat → seat_at seats i ≡ seat
same_seat seats i k seat at inside is = get_or_default seats i no_seat seat inside ∙ ap (λ j. get_or seats j seat) (sym at) ∙ sym is

other_seat : (seats : List TerminalSeat) (i k : ℕ) (new : TerminalSeat) → k ≡ i → i < length seats → seat_at (set seats k new) i ≡ new
other_seat seats i k new at inside = get_or-set_at seats k i new no_seat (sym at) (rw at inside)

-- a terminal that doesn't wait
pub rests_at : (seats : List TerminalSeat) (i k : ℕ) (seat : TerminalSeat) → k ≡ i → i < length seats → seat ≡ get_or seats k seat
    → ¬ Waits seat.view → Hears (seat_at seats i) (seat_at (set seats k seat) i) []
rests_at seats i k seat at inside is quiet =
    rw (same_seat seats i k seat at inside is) (rw (other_seat seats i k seat at inside) (inl (quiet, refl, refl)))

-- a terminal that looks and hears nothing
pub hears_none : (seats : List TerminalSeat) (i k : ℕ) (seat new : TerminalSeat) (word : ℕ) → k ≡ i → i < length seats → seat ≡ get_or seats k seat
    → Waits seat.view → new ≡ seat_with seat (with_hearing seat.view word) → is_awaited seat.view word ≡ false
    → ((answer : Reply) → IsToldAnswer seat.view answer → None ≡ Some answer)
    → Hears (seat_at seats i) (seat_at (set seats k new) i) []
hears_none seats i k seat new word at inside is waits looked nothing finds =
    let heard : HasHeard seat new [] = record { word = word; reply = None; waited = waits; looked = looked; hears = nothing; shown = refl; finds = finds } in
    rw (same_seat seats i k seat at inside is) (rw (other_seat seats i k new at inside) (inr heard))

-- a terminal at its turn: those before it have heard, and those after it are as they were
pub next_heard : (olds mids news : List TerminalSeat) (n : ℕ) (lines line : List ℕ) → n < length olds → length mids ≡ length olds
    → news ≡ set mids n (seat_at news n) → AllHear (take n olds) (take n mids) lines
    → Hears (seat_at olds n) (seat_at news n) line → AllHear (take (n + 1) olds) (take (n + 1) news) (lines ++ line)
next_heard olds mids news n lines line below long is before hears =
    let front : take n news ≡ take n mids = ap (take n) is ∙ take-set mids n (seat_at news n) in
    let count : length news ≡ length olds = ap length is ∙ length-set mids n (seat_at news n) ∙ long in
    let more : n + 1 ≡ suc n = omega arith in
    rw more (one_more olds news n lines line below count (rw front before) hears)

pub same_after : (olds mids news : List TerminalSeat) (n : ℕ) → news ≡ set mids n (seat_at news n) → ((i : ℕ) → n ≤ i → seat_at mids i ≡ seat_at olds i)
    → (i : ℕ) → n + 1 ≤ i → seat_at news i ≡ seat_at olds i
same_after olds mids news n is same i past =
    ap (λ seats. seat_at seats i) is ∙ get_or-set_other mids n i (seat_at news n) no_seat (λ at. omega (arith, at, past)) ∙ same i (omega (arith, past))
