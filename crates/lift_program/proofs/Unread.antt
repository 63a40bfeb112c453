-- What a reader that fails has given.
use Rattle.std.proofs.Common.{◌≡◌, ◌+◌, ◌≤◌, ℕ, zero, suc, List, length, length-append, ap, false, ◌⊎◌, inl, inr, arith}
use Rattle.std.specs.Prelude.{Option, Some, None}
use Rattle.lift_base.specs.Input.{InputState}
use Rattle.lift_replay.specs.Reading.{GiveEach, ReaderFails, TakesByEach}
use Rattle.lift_replay.specs.Writing.{Took}
use Rattle.lift_program.specs.Stages.{GivesNoText, most_text}

-- calls that gave a byte each gave as many bytes
many : {R : Type 0} (remaining : R → Option (List ℕ)) (calls : ℕ) (bytes : List ℕ) (old new : InputState R) → GiveEach remaining calls bytes old new → (calls ≤ length bytes) × (new.calls ≡ old.calls + calls)
many {R} remaining zero bytes old new (none, same) = let count = ap (λ (s : InputState R). s.calls) same in (omega arith, omega (arith, count))
many {R} remaining (suc calls) bytes old new (between, earlier, more, each, (one, taken), some, whole) =
    let before = many remaining calls earlier old between each in
    let fewer : calls ≤ length earlier = before.0 in
    let made : between.calls ≡ old.calls + calls = before.1 in
    (omega (arith, fewer, some, ap length whole, length-append earlier more), omega (arith, made, one))

-- so all calls are never used up
calls_suffice : {R : Type 0} (remaining : R → Option (List ℕ)) (old new : InputState R) → TakesByEach most_text remaining old new → old.calls ≡ 0 → new.calls ≡ 2097152 → ⊥
calls_suffice {R} remaining old new (calls, bytes, last, each, few, inl same) fresh all =
    let m = many remaining calls bytes old last each in
    let fewer : calls ≤ length bytes = m.0 in
    let made : last.calls ≡ old.calls + calls = m.1 in
    let count = ap (λ (s : InputState R). s.calls) same in
    omega (arith, fewer, made, count, few, fresh, all)
calls_suffice {R} remaining old new (calls, bytes, last, each, few, inr (more, (one, taken), of_use, within)) fresh all =
    let m = many remaining calls bytes old last each in
    let fewer : calls ≤ length bytes = m.0 in
    let made : last.calls ≡ old.calls + calls = m.1 in
    omega (arith, fewer, made, one, few, fresh, all)

-- calls that are told otherwise too
told_too : {R : Type 0} (gives reads : R → List ℕ → Option ℕ → R → Type 0) → ((old : R) (buffer : List ℕ) (answer : Option ℕ) (new : R) → gives old buffer answer new → reads old buffer answer new)
    → (calls : ℕ) (old new : R) → Took gives calls old new → Took reads calls old new
told_too gives reads tells zero old new same = same
told_too gives reads tells (suc calls) old new (between, buffer, count, earlier, gave, some) =
    (between, buffer, count, told_too gives reads tells calls old between earlier, tells between buffer (Some count) new gave, some)

-- a reader that couldn't be read has failed
pub fails : {R : Type 0} (remaining : R → Option (List ℕ)) (gives reads : R → List ℕ → Option ℕ → R → Type 0) → ((old : R) (buffer : List ℕ) (answer : Option ℕ) (new : R) → gives old buffer answer new → reads old buffer answer new)
    → (old new : InputState R) → TakesByEach most_text remaining old new → old.calls ≡ 0
    → ReaderFails gives old.reader new.reader ⊎ ((new.calls ≡ 2097152) × (new.ended ≡ false)) → GivesNoText remaining reads old.reader new.reader
fails remaining gives reads tells old new each fresh (inl (last, buffer, (calls, took), failed)) =
    inl (last, buffer, (calls, told_too gives reads tells calls old.reader last took), tells last buffer None new.reader failed)
fails remaining gives reads tells old new each fresh (inr (all, unended)) = absurd (calls_suffice remaining old new each fresh all)
