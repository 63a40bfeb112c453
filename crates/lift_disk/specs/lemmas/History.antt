-- One call more in the record of a device in memory.
use Rattle.std.specs.Result.{is_err}
use Rattle.std.proofs.Common.{Result, Ok, Err, OnOk}
use Rattle.std.proofs.Common.{◌≡◌, ◌≢◌, ◌⊎◌, ◌↔◌, ◌<◌, ◌≤◌, ◌+◌, inl, inr, ⊎_elim, ℕ, zero, suc}
use Rattle.std.proofs.Common.{Bool, true, false, List, [], ◌∷◌, ◌++◌, length, take, replicate}
use Rattle.std.proofs.Common.{slice_get, slice_set, Option, Some, refl, sym, ◌∙◌, ap, subst, arith}
use Rattle.std.proofs.Common.{length-append}
use Rattle.std.proofs.lemmas.List.{take-append-le, take_all}
use Rattle.lift_disk.specs.Disk.{DiskState, Image, ChangesWithin, GoesOn}
use Rattle.lift_disk.specs.Memory.{image_after, IsFlagged, WasLeft, memory_state}
use Rattle.lift_disk.specs.Outcomes.{SpoilsSector}
use Rattle.lift_disk.specs.lemmas.Moments.{changes_more, changes_nothing}
use Rattle.lift_disk.specs.Trace.{Access}
use Rattle.lift_disk.specs.Calls.{Call}
use Rattle.lift_disk.specs.Calls.Call.{Write, Sync}

pub image_after-more : (calls more : List Call) (image : Image)
    → image_after (calls ++ more) image ≡ image_after more (image_after calls image)
image_after-more [] more image = refl
image_after-more (Write sector bytes ∷ calls) more image =
    image_after-more calls more (slice_set image sector bytes)
image_after-more (Sync loose ∷ calls) more image = image_after-more calls more image

pub set_other : {X : Type 0} (xs : List X) (i k : ℕ) (x : X) → k ≢ i
    → slice_get (slice_set xs i x) k ≡ slice_get xs k
set_other [] i k x other = refl
set_other (y ∷ xs) zero zero x other = absurd (other refl)
set_other (y ∷ xs) zero (suc k) x other = refl
set_other (y ∷ xs) (suc i) zero x other = refl
set_other (y ∷ xs) (suc i) (suc k) x other = set_other xs i k x (λ same. other (ap suc same))

pub set_here : {X : Type 0} (xs : List X) (i : ℕ) (x : X) → i < length xs
    → slice_get (slice_set xs i x) i ≡ Some x
set_here [] i x within = absurd (omega arith)
set_here (y ∷ xs) zero x within = refl
set_here (y ∷ xs) (suc i) x within = set_here xs i x (omega arith)

pub same_or_not : (k i : ℕ) → (k ≡ i) ⊎ (k ≢ i)
same_or_not zero zero = inl refl
same_or_not zero (suc i) = inr (λ same. omega arith)
same_or_not (suc k) zero = inr (λ same. omega arith)
same_or_not (suc k) (suc i) =
    ⊎_elim (λ same. inl (ap suc same)) (λ other.
    inr (λ same. other (omega arith))) (same_or_not k i)

-- a flag that is set
pub flagged_set : (flags : List Bool) (i k : ℕ) → i < length flags
    → IsFlagged (slice_set flags i true) k ↔ (IsFlagged flags k ⊎ (k ≡ i))
flagged_set flags i k within = (there, back)
  where
    there : IsFlagged (slice_set flags i true) k → IsFlagged flags k ⊎ (k ≡ i)
    there is = ⊎_elim (λ same. inr same) (λ other.
        inl (sym (set_other flags i k true other) ∙ is)) (same_or_not k i)

    back : IsFlagged flags k ⊎ (k ≡ i) → IsFlagged (slice_set flags i true) k
    back (inl was) = ⊎_elim (λ (same : k ≡ i).
        subst (IsFlagged (slice_set flags i true)) (sym same) (set_here flags i true within))
        (λ other. set_other flags i k true other ∙ was) (same_or_not k i)
    back (inr same) = subst (IsFlagged (slice_set flags i true)) (sym same)
        (set_here flags i true within)

pub none_flagged : (n k : ℕ) → ¬ IsFlagged (replicate n false) k
none_flagged zero k is = cc is
none_flagged (suc n) zero is = cc is
none_flagged (suc n) (suc k) is = none_flagged n k is

get_pushed : (calls : List Call) (call found : Call) (j : ℕ)
    → slice_get (calls ++ call ∷ []) j ≡ Some found
    → ((j < length calls) × (slice_get calls j ≡ Some found))
    ⊎ ((j ≡ length calls) × (call ≡ found))
get_pushed [] call found zero is = inr (refl, cc is)
get_pushed [] call found (suc j) is = absurd (cc is)
get_pushed (first ∷ calls) call found zero is = inl (omega arith, is)
get_pushed (first ∷ calls) call found (suc j) is =
    ⊎_elim (λ early. inl (omega (arith, early.0), early.1)) (λ last.
    inr (ap suc last.0, last.1)) (get_pushed calls call found j is)

get_first : (calls more : List Call) (found : Call) (j : ℕ) → slice_get calls j ≡ Some found
    → slice_get (calls ++ more) j ≡ Some found
get_first [] more found j is = absurd (cc is)
get_first (first ∷ calls) more found zero is = is
get_first (first ∷ calls) more found (suc j) is = get_first calls more found j is

get_last : (calls : List Call) (call : Call)
    → slice_get (calls ++ call ∷ []) (length calls) ≡ Some call
get_last [] call = refl
get_last (first ∷ calls) call = get_last calls call

pub within_calls : (calls : List Call) (found : Call) (j : ℕ) → slice_get calls j ≡ Some found
    → j < length calls
within_calls [] found j is = absurd (cc is)
within_calls (first ∷ calls) found zero is = omega arith
within_calls (first ∷ calls) found (suc j) is = omega (arith, within_calls calls found j is)

pub was_before : (first : Image) (calls more : List Call) (since : ℕ) (left : Image)
    → WasLeft first calls since left → WasLeft first (calls ++ more) since left
was_before first calls more since left was =
    let early = within_calls calls (Sync was.loose) was.at was.synced in
    record {
      at = was.at;
      loose = was.loose;
      late = was.late;
      synced = get_first calls more (Sync was.loose) was.at was.synced;
      within = subst (λ (l : List Call).
          ChangesWithin (IsFlagged was.loose) (image_after l first) left)
          (sym (take-append-le was.at calls more (omega arith))) was.within;
    }

module _ (first : Image) (calls : List Call) (now synced : Image) (loose : List Bool)
    (steady : Bool) (failures made writes : ℕ) (trace : List Access) where
  abbrev old : DiskState
  old = memory_state first calls now synced loose steady failures made writes trace

  -- what is recorded is named by what it is
  pub recorded_so : (begun : Image) (later more : List Call) → begun ≡ first → later ≡ more
      → (read saved : Image) (flags : List Bool) (calm : Bool) (failures2 made2 writes2 : ℕ)
      (trace2 : List Access)
      → GoesOn old (memory_state first more read saved flags calm failures2 made2 writes2 trace2)
      → GoesOn old (memory_state begun later read saved flags calm failures2 made2 writes2 trace2)
  recorded_so begun later more same is read saved flags calm failures2 made2 writes2 trace2
      goes_on =
      subst (λ (b : Image). GoesOn old
      (memory_state b later read saved flags calm failures2 made2 writes2 trace2)) (sym same)
      (subst (λ (l : List Call).
      GoesOn old (memory_state first l read saved flags calm failures2 made2 writes2 trace2))
      (sym is) goes_on)

  -- a failed call that makes a sector loose
  pub spoil_goes_on : (sector : ℕ) (calm : Bool) (failures2 made2 writes2 : ℕ)
      → sector < length loose → failures2 ≡ failures + 1 → made2 ≡ made + 1
      → GoesOn old (memory_state first calls now synced
      (slice_set loose sector true) calm failures2 made2 writes2 trace)
  spoil_goes_on sector calm failures2 made2 writes2 there more one = record {
    size = refl;
    calls = one;
    failures = omega (arith, more);
    honest = (λ h. h, λ h. h);
    inert = (λ h. h, λ h. h);
    armed = λ call later. (λ no. no, λ no. no);
    time = λ _. record {
      later = omega arith;
      nothing_else = λ t left le since. ⊎_elim (λ is. inr is) (λ was. inl (inr was)) since;
      keeps = λ t left le since. ⊎_elim
          (λ is. inl (changes_more (IsFlagged loose)
          (IsFlagged (slice_set loose sector true)) now left (λ i was.
          (flagged_set loose sector i there).1 (inl was)) is))
          (λ was. inr was) since;
    };
  }

  pub spoil_touches : (named : Option ℕ) (sector : ℕ) (calm : Bool) (failures2 made2 writes2 : ℕ)
      → named ≡ Some sector → sector < length loose → writes2 ≡ writes + 1
      → SpoilsSector named old
      (memory_state first calls now synced (slice_set loose sector true) calm failures2 made2
      writes2 trace)
  spoil_touches named sector calm failures2 made2 writes2 is there one =
      subst (λ (o : Option ℕ).
      SpoilsSector o old (memory_state first calls now synced
      (slice_set loose sector true) calm failures2 made2 writes2 trace)) (sym is) (
        record {
          loose = λ i. flagged_set loose sector i there;
          within = changes_nothing (IsFlagged (slice_set loose sector true)) now;
        },
        one,
      )

  -- a sync
  pub sync_goes_on : (begun : Image) (later : List Call) (saved : Image) (flags : List Bool)
      (calm : Bool) (made2 : ℕ) (trace2 : List Access) → image_after calls first ≡ now
      → begun ≡ first → later ≡ calls ++ Sync loose ∷ [] → made2 ≡ made + 1
      → ((i : ℕ) → ¬ IsFlagged flags i)
      → GoesOn old (memory_state begun later now saved flags calm failures made2 writes trace2)
  sync_goes_on begun later saved flags calm made2 trace2 recorded same is one none =
      recorded_so begun later (calls ++ Sync loose ∷ []) same is now saved flags calm failures made2
      writes trace2 (record {
        size = refl;
        calls = one;
        failures = omega arith;
        honest = (λ h. h, λ h. h);
        inert = (λ h. h, λ h. h);
        armed = λ call later. (λ no. no, λ no. no);
        time = λ _. record {
          later = omega (arith, length-append calls (Sync loose ∷ []));
          nothing_else = λ t left le since.
              ⊎_elim (λ is. inr is) (λ was. inl (earlier t left was)) since;
          keeps = λ t left le since.
              inr (⊎_elim (now_kept t left le) (λ was.
              was_before first calls (Sync loose ∷ []) t left was) since);
        };
      })
    where
      whole : image_after (take (length calls) (calls ++ Sync loose ∷ [])) first ≡ now
      whole = ap (λ (l : List Call).
          image_after l first) (take-append-le (length calls) calls (Sync loose ∷ [])
          (omega arith) ∙ take_all (length calls) calls (omega arith)) ∙ recorded

      now_kept : (t : ℕ) (left : Image) → t ≤ length calls
          → ChangesWithin (IsFlagged loose) now left
          → WasLeft first (calls ++ Sync loose ∷ []) t left
      now_kept t left le is = record {
        at = length calls;
        loose = loose;
        late = le;
        synced = get_last calls (Sync loose);
        within = subst (λ (l : Image). ChangesWithin (IsFlagged loose) l left) (sym whole) is;
      }

      last_was : (t : ℕ) (left : Image) (was : WasLeft first (calls ++ Sync loose ∷ []) t left)
          → was.at ≡ length calls → Sync loose ≡ Sync was.loose
          → ChangesWithin (IsFlagged loose) now left
      last_was t left was at one =
          let same : was.loose ≡ loose = cc one in
          let left_now = subst (λ (l : Image).
          ChangesWithin (IsFlagged was.loose) l left)
          (ap (λ k. image_after (take k (calls ++ Sync loose ∷ [])) first) at ∙ whole)
          was.within in
          subst (λ (flagged : List Bool). ChangesWithin (IsFlagged flagged) now left) same left_now

      earlier : (t : ℕ) (left : Image) → WasLeft first (calls ++ Sync loose ∷ []) t left
          → ChangesWithin (IsFlagged loose) now left ⊎ WasLeft first calls t left
      earlier t left was = ⊎_elim (λ early. inr (record {
        at = was.at;
        loose = was.loose;
        late = was.late;
        synced = early.1;
        within = subst (λ (l : List Call).
            ChangesWithin (IsFlagged was.loose) (image_after l first) left)
            (take-append-le was.at calls (Sync loose ∷ []) (omega (arith, early.0))) was.within;
      })) (λ last. inl (last_was t left was last.0 last.1))
          (get_pushed calls (Sync loose) (Sync was.loose) was.at was.synced)

pub ok_items : {T E P : Type 0} (r : Result T E) {b : Bool} → b ≡ is_err r → b ≡ false → OnOk r P
    → P
ok_items (Ok x) is not p = p
ok_items (Err e) is not p = absurd (cc (is, not))
