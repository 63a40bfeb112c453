-- What was taken from a reader.
use Rattle.std.proofs.Common.{◌≡◌, ℕ, suc, ◌+◌, ◌<◌, ◌≤◌, List, ◌++◌, length, length-append, refl, ap, sym, subst, ◌∙◌, inr, arith}
use Rattle.std.specs.Prelude.{Option, Some, None, IfSome, Result, Err, IsErrAnd}
use Rattle.std.specs.Io.KnownBytes.{Consumes, IsAtEnd}
use Rattle.std.proofs.lemmas.List.{append_assoc, append-nil}
use Rattle.std.proofs.KnownBytes.{Consumes-trans}
use Rattle.lift_base.specs.Input.{InputState}
use Rattle.lift_replay.specs.Reading.{GiveEach, IsLastCall, TakesByEach, TakesUpTo}

module _ {R : Type 0} (remaining : R → Option (List ℕ)) (most : ℕ) (old mid new : InputState R) (items : List ℕ) where
  -- one call more
  pub taken_more : Consumes (remaining old.reader) (remaining mid.reader) items → IsLastCall most remaining items mid new → TakesUpTo (most + 1) remaining old.reader new.reader
  taken_more first (more, (one, second), of_use, few) =
      (items ++ more, omega (arith, few, length-append items more), Consumes-trans _ _ _ items more first second)

  -- calls that gave a byte at least each, and one that was of use
  pub each_more : length items ≤ most → (calls : ℕ) × GiveEach remaining calls items old mid → IsLastCall most remaining items mid new → TakesByEach most remaining old new
  each_more room (calls, each) last = (calls, items, mid, each, room, inr last)

-- a call more that gave a byte at least
pub each_on : {R : Type 0} (remaining : R → Option (List ℕ)) (n m : ℕ) (old mid new : InputState R) (items next : List ℕ) → length items ≡ n → length next ≡ m → n < m
    → (calls : ℕ) × GiveEach remaining calls items old mid → new.calls ≡ mid.calls + 1
    → (more : List ℕ) × (next ≡ items ++ more) × Consumes (remaining mid.reader) (remaining new.reader) more → (calls : ℕ) × GiveEach remaining calls next old new
each_on remaining n m old mid new items next is next_is grows (calls, each) one (more, whole, taken) =
    (suc calls, (mid, items, more, each, (one, taken), omega (arith, is, next_is, grows, ap length whole, length-append items more), whole))

-- what is known of a fault that is handed on
pub handed_on : {T E : Type 0} (P : Type 0) (result : Result T E) (fault wanted : E) → IsErrAnd result (λ told. told ≡ fault) → (fault ≡ wanted → P) → result ≡ Err wanted → P
handed_on P result fault wanted is holds same = holds (sym (subst (λ r. IsErrAnd r (λ told. told ≡ fault)) same is))

-- what was taken is too long, so all of it is
pub long_input : (most : ℕ) (old new : Option (List ℕ)) (bytes : List ℕ) → Consumes old new bytes → most < length bytes → (all : List ℕ) × IfSome old (λ whole. all ≡ whole) × (most < length all)
long_input most None new bytes taken long = (bytes, tt, long)
long_input most (Some all) (Some rest) bytes taken long = (all, refl, omega (arith, long, ap length taken, length-append bytes rest))
long_input most (Some all) None bytes taken long = absurd taken

-- what was taken up to the end is all of it
pub all_taken : (old new : Option (List ℕ)) (bytes : List ℕ) → Consumes old new bytes → IsAtEnd new → IfSome old (λ all. bytes ≡ all)
all_taken None new bytes taken end = tt
all_taken (Some all) (Some rest) bytes taken end = sym (taken ∙ ap (λ (r : List ℕ). bytes ++ r) end ∙ append-nil bytes)
all_taken (Some all) None bytes taken end = absurd taken

-- all that came, by one call more
pub came_more : (first mid last items more new : List ℕ) → mid ≡ first ++ items → last ≡ mid ++ more → new ≡ items ++ more → last ≡ first ++ new
came_more first mid last items more new before after all = after ∙ ap (λ c. c ++ more) before ∙ append_assoc first items more ∙ ap (λ t. first ++ t) (sym all)

-- and at last
pub grew_more : (first mid last items : List ℕ) → mid ≡ first ++ items → (more : List ℕ) × (last ≡ mid ++ more) → (bytes : List ℕ) × (last ≡ first ++ bytes)
grew_more first mid last items before (more, after) = (items ++ more, came_more first mid last items more (items ++ more) before after refl)
