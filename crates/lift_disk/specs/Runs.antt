-- Calls on neighbouring sectors at once, and a device that holds writes back until they can be made
-- as one.
use Rattle.std.specs.Prelude.{◌≡◌, ◌≢◌, ◌↔◌, ◌⊎◌, ◌≤◌, ◌<◌, ◌+◌, ◌-◌, ℕ, zero, suc, List, [], ◌∷◌}
use Rattle.std.specs.Prelude.{length, false, slice_get, slice_set, flat_map, Some, Result, OnOk}
use Rattle.std.specs.Prelude.{OnErr, refl, ◌++◌}
use Rattle.std.proofs.Common.{arith, sym, ap, ◌∙◌}
use Rattle.std.proofs.lemmas.List.{length-set}
use Rattle.lift_disk.specs.Trace.{Access}
use Rattle.lift_disk.specs.Trace.Access.{Write}
use Rattle.lift_disk.specs.Disk.{DiskState, Image, ChangesWithin, Elapses, Touches, TouchesNothing}
use Rattle.lift_disk.specs.Disk.{StaysLoose, SyncedStays, IsSteadyAt}

-- one of this many sectors from that one on
abbrev pub IsInRun : ℕ → ℕ → ℕ → Type 0
IsInRun from count i = (from ≤ i) × (i < from + count)

-- the bytes of these sectors, one after the other
abbrev pub joined : List (List ℕ) → List ℕ
joined run = flat_map (λ bytes. bytes) run

-- the calls that write these sectors, from that one on: one for them all, none where there are none
abbrev pub run_calls : ℕ → List (List ℕ) → List Access
run_calls from [] = []
run_calls from (bytes ∷ run) = Write from (joined (bytes ∷ run)) ∷ []

-- the image with these sectors from that one on
abbrev pub with_run : ℕ → List (List ℕ) → Image → Image
with_run from [] image = image
with_run from (bytes ∷ run) image = with_run (from + 1) run (slice_set image from bytes)

-- this many sectors from that one on are these
abbrev pub HoldsRun : ℕ → ℕ → List (List ℕ) → Image → Type 0
HoldsRun from count run image = (i : ℕ) → IsInRun from count i
    → slice_get image i ≡ slice_get run (i - from)

-- each of this many sectors from that one on was given with the bytes that it has here
abbrev pub GivesRun : (ℕ → List ℕ → Type 0) → ℕ → ℕ → List (List ℕ) → Type 0
GivesRun has_read_bytes from count run = (i : ℕ) (bytes : List ℕ) → IsInRun from count i
    → slice_get run (i - from) ≡ Some bytes → ∥ has_read_bytes i bytes ∥₁

-- these sectors are written from that one on, and what was written in others still stands
pub record RunIsWritten (from : ℕ) (run : List (List ℕ)) (old new : DiskState) : Type 0 where
  pub here : (i : ℕ) (bytes : List ℕ) → from ≤ i → slice_get run (i - from) ≡ Some bytes
      → new.written i bytes
  pub others : (i : ℕ) (other : List ℕ) → ¬ IsInRun from (length run) i → old.written i other
      → new.written i other

-- The same, and they are read at once where no call has failed.
pub record StoresRun (from : ℕ) (run : List (List ℕ)) (old new : DiskState) : Type 0 where
  pub written : old.is_honest → RunIsWritten from run old new
  pub steady : old.is_honest → old.is_steady → IsSteadyAt (with_run from run old.image) new

-- One sector more is loose. It is no call, and changes nothing else that is said of the device.
pub record Announces (sector : ℕ) (old new : DiskState) : Type 0 where
  pub size : new.size ≡ old.size
  pub failures : new.failures ≡ old.failures
  pub calls : new.calls ≡ old.calls
  pub writes : new.writes ≡ old.writes
  pub trace : new.trace ≡ old.trace
  pub honest : new.is_honest ↔ old.is_honest
  pub inert : new.is_inert ↔ old.is_inert
  pub short : new.is_short ≡ old.is_short
  pub armed : (call : ℕ) → new.fails_at call ↔ old.fails_at call
  pub image : new.image ≡ old.image
  pub synced : new.synced ≡ old.synced
  pub loose : old.is_honest → (i : ℕ) → new.is_loose i ↔ (old.is_loose i ⊎ (i ≡ sector))
  pub written : (i : ℕ) (bytes : List ℕ) → old.written i bytes → new.written i bytes
  pub steady : old.is_steady → new.is_steady
  pub time : old.is_honest → Elapses old new

-- What is said of a device over another one, where these sectors, from that one on, are still to be
-- written. They are read as if they were. Its failed calls are those of the other one. How that may
-- fail isn't said.
abbrev pub buffered : DiskState → ℕ → List (List ℕ) → ℕ → ℕ → List Access → DiskState
buffered disk from pending calls writes trace = record {
  size = disk.size;
  failures = disk.failures;
  calls = calls;
  writes = writes;
  trace = trace;
  is_honest = disk.is_honest;
  is_inert = ⊥;
  image = with_run from pending disk.image;
  synced = disk.synced;
  is_loose = disk.is_loose;
  is_steady = disk.is_steady;
  written = λ i bytes. ((from ≤ i) × (slice_get pending (i - from) ≡ Some bytes))
      ⊎ (¬ IsInRun from (length pending) i × disk.written i bytes);
  is_short = false;
  fails_at = λ _. ⊥;
  moment = disk.moment;
  left_since = disk.left_since;
}

-- the same, but for its counts
abbrev pub waiting : DiskState → ℕ → List (List ℕ) → DiskState
waiting disk from pending = buffered disk from pending 0 0 []

-- These calls were made, and all of them have succeeded.
pub record MakesAll (calls : List Access) (old new : DiskState) : Type 0 where
  pub count : new.calls ≡ old.calls + length calls
  pub listed : new.trace ≡ old.trace ++ calls

-- One of these calls has failed, after those before it, and none was made after it.
pub record MakesUpTo (calls : List Access) (old new : DiskState) : Type 0 where
  pub before : List Access
  pub failed : Access
  pub after : List Access
  pub split : calls ≡ before ++ failed ∷ after
  pub count : new.calls ≡ old.calls + length before + 1
  pub listed : new.trace ≡ old.trace ++ before

-- Just these calls are made, in their order, up to one that fails.
pub record MakesCalls {T E : Type 0} (result : Result T E) (calls : List Access)
    (old new : DiskState) : Type 0 where
  pub ok : OnOk result (MakesAll calls old new)
  pub err : OnErr result (MakesUpTo calls old new)

-- No sector more or less is loose, and nothing but loose sectors has changed.
pub record Rests (old new : DiskState) : Type 0 where
  pub size : new.size ≡ old.size
  pub honest : new.is_honest ↔ old.is_honest
  pub time : old.is_honest → Elapses old new
  pub touched : old.is_honest → TouchesNothing old new
  pub loose : old.is_honest → StaysLoose old new
  pub kept : SyncedStays old new

-- One sector more is loose, and nothing but loose sectors has changed.
pub record Loosens (sector : ℕ) (old new : DiskState) : Type 0 where
  pub size : new.size ≡ old.size
  pub honest : new.is_honest ↔ old.is_honest
  pub time : old.is_honest → Elapses old new
  pub touched : old.is_honest → Touches sector old new
  pub kept : SyncedStays old new

-- the rest of a list after a write to another place
get_other : {X : Type 0} (xs : List X) (i k : ℕ) (x : X) → k ≢ i
    → slice_get (slice_set xs i x) k ≡ slice_get xs k
get_other [] i k x other = refl
get_other (y ∷ xs) zero zero x other = absurd (other refl)
get_other (y ∷ xs) zero (suc k) x other = refl
get_other (y ∷ xs) (suc i) zero x other = refl
get_other (y ∷ xs) (suc i) (suc k) x other = get_other xs i k x (λ same. other (ap suc same))

pub run_length : (run : List (List ℕ)) (from : ℕ) (image : Image)
    → length (with_run from run image) ≡ length image
run_length [] from image = refl
run_length (bytes ∷ run) from image =
    run_length run (from + 1) (slice_set image from bytes) ∙ length-set image from bytes

-- the sectors before and after a run stay
pub run_outside : (run : List (List ℕ)) (from : ℕ) (image : Image) (i : ℕ)
    → ¬ IsInRun from (length run) i → slice_get (with_run from run image) i ≡ slice_get image i
run_outside [] from image i not = refl
run_outside (bytes ∷ run) from image i not =
    run_outside run (from + 1) (slice_set image from bytes) i (λ is.
    not (omega (arith, is.0), omega (arith, is.1)))
    ∙ get_other image from i bytes (λ same. not (omega (arith, same), omega (arith, same)))

-- what is still to be written lies in loose sectors
pub run_loose : (loose : ℕ → Type 0) (run : List (List ℕ)) (from : ℕ) (image : Image)
    → ((i : ℕ) → ¬ loose i → ¬ IsInRun from (length run) i)
    → ChangesWithin loose image (with_run from run image)
run_loose loose run from image announced =
    record {
      size = run_length run from image;
      others = λ i not.
          run_outside run from image i (announced i not);
    }

-- so that a crash may leave the same with it and without it
pub left_without : (loose : ℕ → Type 0) (image more left : Image) → ChangesWithin loose image more
    → ChangesWithin loose more left → ChangesWithin loose image left
left_without loose image more left first second = record {
  size = second.size ∙ first.size;
  others = λ i not. second.others i not ∙ first.others i not;
}

pub left_with : (loose : ℕ → Type 0) (image more left : Image) → ChangesWithin loose image more
    → ChangesWithin loose image left → ChangesWithin loose more left
left_with loose image more left first second = record {
  size = second.size ∙ sym first.size;
  others = λ i not. second.others i not ∙ sym (first.others i not);
}

pub run_whole : (run : List (List ℕ)) (from : ℕ) (image : Image) (size : ℕ) → length image ≡ size
    → length (with_run from run image) ≡ size
run_whole run from image size whole = run_length run from image ∙ whole
