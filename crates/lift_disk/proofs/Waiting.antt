-- A device over another one that holds writes back.
use Rattle.std.proofs.Common.{◌≡◌, ◌≢◌, ◌⊎◌, ◌↔◌, ◌<◌, ◌≤◌, ◌+◌, ◌-◌, inl, inr, ⊎_elim, ℕ, zero, suc, List, [], ◌∷◌, ◌++◌, length, get_or, slice_get, slice_set, Some, refl, sym, ◌∙◌, ap, subst, arith, length-append}
use Rattle.std.proofs.lemmas.Option.{get_or_from_slice_get, slice_get-get_or}
use Rattle.std.proofs.Math.ListN.{get_or-append}
use Rattle.std.proofs.lemmas.List.{length-set}
use Rattle.lift_disk.specs.Trace.{Access}
use Rattle.lift_disk.specs.Disk.{DiskState, Image, ChangesWithin, Elapses, GoesOn, SectorIsWritten, ReadsAsWritten, Touches, LeavesAsBefore, IsSteadyAt, WritesStay}
use Rattle.lift_disk.specs.Runs.{GivesRun, HoldsRun, IsInRun, with_run, Announces, buffered, waiting, Rests, Loosens, run_outside, run_loose, left_with}
use Rattle.lift_disk.specs.lemmas.History.{set_here}
use Rattle.lift_disk.specs.lemmas.Moments.{changes_nothing, changes_more, changes_twice, changes_both}

-- a sector of a run, by its place there
run_here : (run : List (List ℕ)) (from : ℕ) (image : Image) (k i : ℕ) → i ≡ from + k → k < length run → from + length run ≤ length image → slice_get (with_run from run image) i ≡ slice_get run k
run_here [] from image k i is less fits = absurd (omega arith)
run_here (bytes ∷ run) from image zero i is less fits =
    run_outside run (from + 1) (slice_set image from bytes) i (λ inside. omega (arith, inside.0))
    ∙ ap (λ n. slice_get (slice_set image from bytes) n) (let same : i ≡ from = omega arith in same) ∙ set_here image from bytes (omega arith)
run_here (bytes ∷ run) from image (suc k) i is less fits =
    run_here run (from + 1) (slice_set image from bytes) k i (omega arith) (omega arith) (omega (arith, length-set image from bytes))

pub run_inside : (run : List (List ℕ)) (from : ℕ) (image : Image) (i : ℕ) → IsInRun from (length run) i → from + length run ≤ length image → slice_get (with_run from run image) i ≡ slice_get run (i - from)
run_inside run from image i inside fits = run_here run from image (i - from) i (omega (arith, inside.0)) (omega (arith, inside.0, inside.1)) fits

-- one sector more after a run
pub run_more : (run : List (List ℕ)) (from : ℕ) (bytes : List ℕ) (image : Image) → with_run from (run ++ bytes ∷ []) image ≡ slice_set (with_run from run image) (from + length run) bytes
run_more [] from bytes image = ap (λ n. slice_set image n bytes) (let same : from ≡ from + 0 = omega arith in same)
run_more (first ∷ run) from bytes image =
    run_more run (from + 1) bytes (slice_set image from first)
    ∙ ap (λ n. slice_set (with_run (from + 1) run (slice_set image from first)) n bytes) (let same : from + 1 + length run ≡ from + suc (length run) = omega arith in same)

pub held_read : (sectors : List (List ℕ)) (i : ℕ) → i < length sectors → slice_get sectors i ≡ Some (get_or sectors i [])
held_read sectors i less = slice_get-get_or sectors i [] less

-- what was read is the front of the room
pub held_front : (image : Image) (sector count : ℕ) (run rest : List (List ℕ)) → length run ≡ count → HoldsRun sector (length run) run image → HoldsRun sector count (run ++ rest) image
held_front image sector count run rest long holds i inside =
    let less : i - sector < length run = omega (arith, inside.0, inside.1, long) in
    holds i (inside.0, omega (arith, inside.0, less)) ∙ slice_get-get_or run (i - sector) [] less
    ∙ ap Some (sym (get_or-append run rest [] (i - sector) less))
    ∙ sym (slice_get-get_or (run ++ rest) (i - sector) [] (let whole : length (run ++ rest) ≡ length run + length rest = length-append run rest in omega (arith, less, whole)))

pub given_front : (has_read_bytes : ℕ → List ℕ → Type 0) (sector count : ℕ) (run rest : List (List ℕ)) → length run ≡ count → GivesRun has_read_bytes sector (length run) run → GivesRun has_read_bytes sector count (run ++ rest)
given_front has_read_bytes sector count run rest long given i bytes inside is =
    let less : i - sector < length run = omega (arith, inside.0, inside.1, long) in
    given i bytes (inside.0, omega (arith, inside.0, less))
    (slice_get-get_or run (i - sector) [] less ∙ ap Some (sym (get_or-append run rest [] (i - sector) less) ∙ get_or_from_slice_get (run ++ rest) (i - sector) bytes [] is))

pub keeps_none : (disk : DiskState) → WritesStay disk disk
keeps_none disk = record { written = λ _ i bytes was. was; steady = λ _ steady. record { steady = steady; same = refl } }

-- what waits lies in loose sectors
abbrev pub Waits : DiskState → ℕ → List (List ℕ) → Type 0
Waits disk from pending = disk.is_honest → (i : ℕ) → ¬ disk.is_loose i → ¬ IsInRun from (length pending) i

abbrev image_of : DiskState → ℕ → List (List ℕ) → Image
image_of disk from pending = with_run from pending disk.image

within_of : (disk : DiskState) (from : ℕ) (pending : List (List ℕ)) → Waits disk from pending → disk.is_honest → ChangesWithin disk.is_loose disk.image (image_of disk from pending)
within_of disk from pending waits honest = run_loose disk.is_loose pending from disk.image (waits honest)

-- time goes on for a device over another one as it does for that one
later_of : (old new : DiskState) (from from2 : ℕ) (pending pending2 : List (List ℕ)) → (new.is_honest ↔ old.is_honest) → (old.is_honest → Elapses old new) → Waits new from2 pending2 → old.is_honest → Elapses (waiting old from pending) (waiting new from2 pending2)
later_of old new from from2 pending pending2 same time waits honest =
    let t = time honest in record {
      later = t.later;
      nothing_else = λ since left le was. ⊎_elim (λ before. inl before)
          (λ now. inr (left_with new.is_loose new.image (image_of new from2 pending2) left (within_of new from2 pending2 waits (same.1 honest)) now))
          (t.nothing_else since left le was);
      keeps = t.keeps;
    }

-- a call of the other device that opens no sector
pub rests_of : (old new : DiskState) (from from2 : ℕ) (pending pending2 : List (List ℕ)) → GoesOn old new → LeavesAsBefore old new
    → Waits old from pending → Waits new from2 pending2 → Rests (waiting old from pending) (waiting new from2 pending2)
rests_of old new from from2 pending pending2 goes_on leaves waits waits2 = record {
  size = goes_on.size;
  honest = goes_on.honest;
  time = later_of old new from from2 pending pending2 goes_on.honest goes_on.time waits2;
  touched = λ honest. record {
    loose = (leaves.touched honest).loose;
    within = left_with old.is_loose old.image (image_of old from pending) (image_of new from2 pending2) (within_of old from pending waits honest)
        (changes_twice old.is_loose old.image new.image (image_of new from2 pending2) (leaves.touched honest).within
        (changes_more new.is_loose old.is_loose new.image (image_of new from2 pending2) (leaves.touched honest).loose (within_of new from2 pending2 waits2 (goes_on.honest.1 honest))));
  };
  loose = leaves.loose;
  kept = leaves.kept;
}

pub none_waits : (disk : DiskState) (from : ℕ) (pending : List (List ℕ)) → pending ≡ [] → Waits disk from pending
none_waits disk from [] none honest i not inside = omega (arith, inside.0, inside.1)
none_waits disk from (bytes ∷ pending) none honest i not inside = absurd (cc none)

-- a sector is announced
pub opens_of : (old new : DiskState) (from sector : ℕ) (pending : List (List ℕ)) → Announces sector old new → Waits old from pending → Loosens sector (waiting old from pending) (waiting new from pending)
opens_of old new from sector pending announced waits =
    let waits2 : Waits new from pending = λ honest i not. waits (announced.honest.0 honest) i (λ was. not ((announced.loose (announced.honest.0 honest) i).1 (inl was))) in record {
      size = announced.size;
      honest = announced.honest;
      time = later_of old new from from pending pending announced.honest announced.time waits2;
      touched = λ honest. record {
        loose = announced.loose honest;
        within = subst (λ (image : Image). ChangesWithin new.is_loose (image_of old from pending) (with_run from pending image)) (sym announced.image) (changes_nothing new.is_loose (image_of old from pending));
      };
      kept = λ _. announced.synced;
    }

-- the sector that was announced is held back too
pub waits_more : (disk : DiskState) (from sector : ℕ) (pending : List (List ℕ)) (bytes : List ℕ) → Waits disk from pending → (disk.is_honest → disk.is_loose sector) → from + length pending ≡ sector → Waits disk from (pending ++ bytes ∷ [])
waits_more disk from sector pending bytes waits loose next honest i not inside =
    waits honest i not (
      inside.0,
      (let longer : length (pending ++ bytes ∷ []) ≡ length pending + 1 = length-append pending (bytes ∷ []) in
          let other : i ≢ sector = λ same. not (subst disk.is_loose (sym same) (loose honest)) in
          omega (arith, inside.1, longer, next, other)),
    )

get_before : (run : List (List ℕ)) (bytes found : List ℕ) (k : ℕ) → slice_get run k ≡ Some found → slice_get (run ++ bytes ∷ []) k ≡ Some found
get_before [] bytes found k is = cc is
get_before (first ∷ run) bytes found zero is = is
get_before (first ∷ run) bytes found (suc k) is = get_before run bytes found k is

get_after : (run : List (List ℕ)) (bytes : List ℕ) → slice_get (run ++ bytes ∷ []) (length run) ≡ Some bytes
get_after [] bytes = refl
get_after (first ∷ run) bytes = get_after run bytes

module _ (old new : DiskState) (from from2 sector : ℕ) (pending pending2 : List (List ℕ)) (bytes : List ℕ)
    (opens : Loosens sector (waiting old from pending) (waiting new from2 pending2)) (keeps : WritesStay (waiting old from pending) (waiting new from2 pending2))
    (next : from2 + length pending2 ≡ sector) (waits : Waits new from2 pending2) (calls calls2 writes writes2 : ℕ) (trace trace2 : List Access) where
  abbrev more : List (List ℕ)
  more = pending2 ++ bytes ∷ []

  abbrev before : DiskState
  before = buffered old from pending calls writes trace

  abbrev behind : DiskState
  behind = buffered new from2 more calls2 writes2 trace2

  waits_now : Waits new from2 more
  waits_now = waits_more new from2 sector pending2 bytes waits (λ honest. ((opens.touched (opens.honest.0 honest)).loose sector).1 (inr refl)) next

  pushed : new.is_honest → ChangesWithin new.is_loose (image_of new from2 pending2) (image_of new from2 more)
  pushed honest = left_with new.is_loose new.image (image_of new from2 pending2) (image_of new from2 more) (within_of new from2 pending2 waits honest) (within_of new from2 more waits_now honest)

  pub push_goes_on : calls2 ≡ calls + 1 → new.failures ≡ old.failures → GoesOn before behind
  push_goes_on one same = record {
    size = opens.size;
    calls = one;
    failures = omega (arith, same);
    honest = opens.honest;
    inert = (λ h. h, λ h. h);
    armed = λ call later. (λ h. h, λ h. h);
    time = λ honest. let t = opens.time honest in record {
      later = t.later;
      nothing_else = λ since left le was. ⊎_elim (λ long. inl long)
          (λ now. inr (changes_both new.is_loose (image_of new from2 pending2) (image_of new from2 more) left (pushed (opens.honest.1 honest)) now)) (t.nothing_else since left le was);
      keeps = t.keeps;
    };
  }

  pub push_touched : old.is_honest → Touches sector before behind
  push_touched honest = record {
    loose = (opens.touched honest).loose;
    within = changes_twice new.is_loose (image_of old from pending) (image_of new from2 pending2) (image_of new from2 more) (opens.touched honest).within (pushed (opens.honest.1 honest));
  }

  pub push_written : old.is_honest → SectorIsWritten sector bytes before behind
  push_written honest = record {
    here = inl (omega (arith, next), ap (λ k. slice_get more k) (let place : sector - from2 ≡ length pending2 = omega (arith, next) in place) ∙ get_after pending2 bytes);
    others = λ i other not was. ⊎_elim
        (λ (held : (from2 ≤ i) × (slice_get pending2 (i - from2) ≡ Some other)). inl (held.0, get_before pending2 bytes other (i - from2) held.1))
        (λ (stood : ¬ IsInRun from2 (length pending2) i × new.written i other). inr (
          (λ inside. stood.0 (
            inside.0,
            (let longer : length more ≡ length pending2 + 1 = length-append pending2 (bytes ∷ []) in omega (arith, inside.1, longer, next, not)),
          )),
          stood.1,
        ))
        (keeps.written honest i other was);
  }

  pub push_steady : old.is_honest → old.is_steady → IsSteadyAt (slice_set (image_of old from pending) sector bytes) behind
  push_steady honest steady = let kept = keeps.steady honest steady in record {
    steady = kept.steady;
    same = run_more pending2 from2 bytes new.image ∙ ap (λ n. slice_set (image_of new from2 pending2) n bytes) next ∙ ap (λ (image : Image). slice_set image sector bytes) kept.same;
  }

abbrev no_run : List (List ℕ)
no_run = []

none_found : (k : ℕ) (bytes : List ℕ) → slice_get no_run k ≡ Some bytes → ⊥
none_found k bytes is = cc is

-- what was written before a sync is read after it
pub sync_written : (old mid new : DiskState) (from from2 from3 : ℕ) (pending pending2 : List (List ℕ)) → pending2 ≡ [] → WritesStay (waiting old from pending) (waiting mid from2 pending2) → (old.is_honest → mid.is_honest) → (mid.is_honest → ReadsAsWritten mid new)
    → old.is_honest → (i : ℕ) (bytes : List ℕ) → ((from ≤ i) × (slice_get pending (i - from) ≡ Some bytes)) ⊎ (¬ IsInRun from (length pending) i × old.written i bytes) → slice_get (with_run from3 pending2 new.image) i ≡ Some bytes
sync_written old mid new from from2 from3 pending (first ∷ pending2) none keeps same reads honest i bytes was = absurd (cc none)
sync_written old mid new from from2 from3 pending [] none keeps same reads honest i bytes was =
    ⊎_elim (λ (held : (from2 ≤ i) × (slice_get no_run (i - from2) ≡ Some bytes)). absurd (none_found (i - from2) bytes held.1))
    (λ (stood : ¬ IsInRun from2 0 i × mid.written i bytes). reads (same honest) i bytes stood.1) (keeps.written honest i bytes was)
