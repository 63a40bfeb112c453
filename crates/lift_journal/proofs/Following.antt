-- Which calls were made, run after run.
use Rattle.std.proofs.Common.{◌≡◌, ◌⊎◌, ◌≤◌, ◌+◌, inl, inr, true, nat_lt, cond, ◌++◌, [], ◌∷◌, ℕ, zero, suc, List, length, take, refl, sym, ◌∙◌, ap, arith, Result, Ok, Err, length-append}
use Rattle.std.specs.Prelude.{IsErrAnd, IfOk}
use Rattle.std.proofs.lemmas.Result.{err_from_is_err_and}
use Rattle.std.proofs.lemmas.List.{take-append-le, append_assoc, append-nil, append_cancel_left}
use Rattle.std.proofs.Math.Seq.{take-append-add}
use Rattle.lift_disk.specs.Disk.{DiskState, Image}
use Rattle.lift_disk.specs.Trace.{Access, Records}
use Rattle.lift_disk.specs.Trace.Access.{Read, Write}
use Rattle.lift_journal.specs.Calls.{writes_from, reads_from, HasRead, half_start, opening_calls, MakesPrefix, Follows}

-- one call
pub front_one : (call : Access) (old new : DiskState) → new.trace ≡ old.trace → MakesPrefix (call ∷ []) old new
front_one call old new same = record { count = 0; some_left = omega arith; made = same ∙ sym (append-nil old.trace) }

pub one_follows : {T E : Type 0} (r : Result T E) (call : Access) (old new : DiskState) → Records r call old.trace new.trace → Follows r (call ∷ []) old new
one_follows (Ok x) call old new records = record { all = records.ok; front = tt }
one_follows (Err e) call old new records = record { all = tt; front = front_one call old new records.err }

-- one run after another
pub all_then : (old mid new : DiskState) (first second : List Access) → mid.trace ≡ old.trace ++ first → new.trace ≡ mid.trace ++ second → new.trace ≡ old.trace ++ (first ++ second)
all_then old mid new first second was is = is ∙ ap (λ (l : List Access). l ++ second) was ∙ append_assoc old.trace first second

pub front_then : (old mid new : DiskState) (first second : List Access) → mid.trace ≡ old.trace ++ first → MakesPrefix second mid new → MakesPrefix (first ++ second) old new
front_then old mid new first second was front = record {
  count = length first + front.count;
  some_left = omega (arith, front.some_left, length-append first second);
  made = all_then old mid new first (take front.count second) was front.made ∙ ap (λ (l : List Access). old.trace ++ l) (sym (take-append-add first second front.count));
}

pub front_more : (old new : DiskState) (first second : List Access) → MakesPrefix first old new → MakesPrefix (first ++ second) old new
front_more old new first second front = record {
  count = front.count;
  some_left = omega (arith, front.some_left, length-append first second);
  made = front.made ∙ ap (λ (l : List Access). old.trace ++ l) (sym (take-append-le front.count first second (omega (arith, front.some_left))));
}

pub follows_then : {T E : Type 0} (r : Result T E) (old mid new : DiskState) (first second : List Access) → mid.trace ≡ old.trace ++ first → Follows r second mid new → Follows r (first ++ second) old new
follows_then (Ok x) old mid new first second was follows = record { all = all_then old mid new first second was follows.all; front = tt }
follows_then (Err e) old mid new first second was follows = record { all = tt; front = front_then old mid new first second was follows.front }

-- a call that failed, whose fault is answered
pub err_follows : {T E : Type 0} (Q : E → Type 0) (r : Result T E) (old new : DiskState) (calls : List Access) → IsErrAnd r Q → MakesPrefix calls old new → Follows r calls old new
err_follows Q r old new calls is front =
    let fault = err_from_is_err_and r is in
    record { all = rw fault.1 tt; front = rw fault.1 front }

-- one sector more in a row
pub writes-push : (first count : ℕ) (sectors : Image) (sector : List ℕ) → length sectors ≡ count → writes_from first (sectors ++ sector ∷ []) ≡ writes_from first sectors ++ Write (first + count) sector ∷ []
writes-push first count [] sector long = ap (λ n. Write n sector ∷ []) (omega (arith, long))
writes-push first count (s ∷ sectors) sector long =
    ap (λ (l : List Access). Write first s ∷ l) (writes-push (first + 1) (length sectors) sectors sector refl ∙ ap (λ n. writes_from (first + 1) sectors ++ Write n sector ∷ []) (omega (arith, long)))

pub length-writes : (first : ℕ) (sectors : Image) → length (writes_from first sectors) ≡ length sectors
length-writes first [] = refl
length-writes first (s ∷ sectors) = ap suc (length-writes (first + 1) sectors)

pub writes-take : (first count : ℕ) (sectors : Image) → take count (writes_from first sectors) ≡ writes_from first (take count sectors)
writes-take first zero sectors = refl
writes-take first (suc count) [] = refl
writes-take first (suc count) (s ∷ sectors) = ap (λ (l : List Access). Write first s ∷ l) (writes-take (first + 1) count sectors)

-- some sectors are read, and then those after them
pub reads-append : (first a b : ℕ) → reads_from first (a + b) ≡ reads_from first a ++ reads_from (first + a) b
reads-append first zero b = ap (λ n. reads_from first n) (let same : 0 + b ≡ b = omega arith in same) ∙ ap (λ n. reads_from n b) (let same : first ≡ first + 0 = omega arith in same)
reads-append first (suc a) b =
    ap (λ n. reads_from first n) (let same : suc a + b ≡ suc (a + b) = omega arith in same)
    ∙ ap (λ (l : List Access). Read first ∷ l) (reads-append (first + 1) a b ∙ ap (λ n. reads_from (first + 1) a ++ reads_from n b) (let same : first + 1 + a ≡ first + suc a = omega arith in same))

pub rows_then : (old mid new : DiskState) (first a b next : ℕ) → next ≡ first + a → mid.trace ≡ old.trace ++ reads_from first a → new.trace ≡ mid.trace ++ reads_from next b → new.trace ≡ old.trace ++ reads_from first (a + b)
rows_then old mid new first a b next at was is =
    is ∙ ap (λ n. mid.trace ++ reads_from n b) at ∙ ap (λ (l : List Access). l ++ reads_from (first + a) b) was ∙ append_assoc old.trace (reads_from first a) (reads_from (first + a) b)
    ∙ ap (λ (l : List Access). old.trace ++ l) (sym (reads-append first a b))

length-reads : (first count : ℕ) → length (reads_from first count) ≡ count
length-reads first zero = refl
length-reads first (suc count) = ap suc (length-reads (first + 1) count)

-- two counts of the same reads
pub rows_same : (before : List Access) (first one two : ℕ) → before ++ reads_from first one ≡ before ++ reads_from first two → one ≡ two
rows_same before first one two same =
    sym (length-reads first one) ∙ ap length (append_cancel_left before (reads_from first one) (reads_from first two) same) ∙ length-reads first two

pub row_then : (old mid new : DiskState) (first a next most end : ℕ) → next ≡ first + a → mid.trace ≡ old.trace ++ reads_from first a → HasRead next most end mid new → HasRead first (a + most) end old new
row_then old mid new first a next most end at was row = (a + row.0, omega (arith, row.1), omega (arith, at, row.2), rows_then old mid new first a row.0 next at was row.3)

-- where a half begins
pub begins_at : (half start : ℕ) → 1 ≤ half → (start ≡ 2) ⊎ (start ≡ half + 2) → half_start (nat_lt 2 start) half ≡ start
begins_at half start some (inl is) = ap (λ b. cond b (half + 2) 2) (ap (nat_lt 2) is) ∙ sym is
begins_at half start some (inr is) = ap (λ b. cond b (half + 2) 2) (let second : nat_lt 2 start ≡ true = grind (arith, some, is) in second) ∙ sym is

-- an opening, by the half that is picked
pub opening_at : (old new : DiskState) (half start count : ℕ) → 1 ≤ half → (start ≡ 2) ⊎ (start ≡ half + 2) → new.trace ≡ old.trace ++ opening_calls start count
    → new.trace ≡ old.trace ++ opening_calls (half_start (nat_lt 2 start) half) count
opening_at old new half start count some halves is = is ∙ ap (λ n. old.trace ++ opening_calls n count) (sym (begins_at half start some halves))

pub if_ok_weaker : {T E : Type 0} (r : Result T E) (P Q : T → Type 0) → ((x : T) → P x → Q x) → IfOk r P → IfOk r Q
if_ok_weaker (Ok x) P Q f p = f x p
if_ok_weaker (Err e) P Q f p = tt
