-- Several neighbouring sectors of a device in memory at once.
use Rattle.std.proofs.Common.{◌≡◌, ◌≢◌, ◌⊎◌, ◌<◌, ◌≤◌, ◌+◌, ◌-◌, inl, inr, ⊎_elim, ℕ, zero, suc, Bool, List, [], ◌∷◌, ◌++◌, length, take, get_or, slice_get, slice_set, Some, refl, sym, ◌∙◌, ap, subst, arith, length-append}
use Rattle.std.proofs.lemmas.List.{take-append-le, length-set, length-take-le}
use Rattle.std.proofs.lemmas.Option.{slice_get_within, slice_get-get_or}
use Rattle.std.proofs.Math.Seq.{take-suc}
use Rattle.lift_disk.specs.Disk.{Image, ChangesWithin, GoesOn}
use Rattle.lift_disk.specs.Trace.{Access}
use Rattle.lift_disk.specs.Calls.{Call, writes_of}
use Rattle.lift_disk.specs.Calls.Call.{Sync}
use Rattle.lift_disk.specs.Memory.{image_after, IsFlagged, WasLeft, memory_state}
use Rattle.lift_disk.specs.Runs.{IsInRun, HoldsRun, with_run, run_length, run_loose, left_with}
use Rattle.lift_disk.specs.lemmas.History.{image_after-more, recorded_so, same_or_not, set_here, set_other, was_before}
use Rattle.lift_disk.proofs.Waiting.{run_inside, run_more}

-- this many sectors are copied to the front of a buffer of so many
pub record IsReadTo (size from count : ℕ) (sectors buffer : List (List ℕ)) : Type 0 where
  pub room : length buffer ≡ size
  pub holds : HoldsRun from count buffer sectors

pub read_more : (sectors : List (List ℕ)) (size : ℕ) (buffer : List (List ℕ)) (from k : ℕ) → k < size → from + k < length sectors → IsReadTo size from k sectors buffer → IsReadTo size from (k + 1) sectors (slice_set buffer k (get_or sectors (from + k) []))
read_more sectors size buffer from k less there so_far = record {
  room = length-set buffer k bytes ∙ so_far.room;
  holds = λ i inside. ⊎_elim
      (λ (last : i ≡ from + k). ap (slice_get sectors) last ∙ slice_get-get_or sectors (from + k) [] there ∙ sym (set_here buffer k bytes (omega (arith, less, so_far.room)))
      ∙ ap (slice_get (slice_set buffer k bytes)) (let place : k ≡ i - from = omega (arith, last) in place))
      (λ (other : i ≢ from + k). so_far.holds i (inside.0, omega (arith, inside.1, other)) ∙ sym (set_other buffer k (i - from) bytes (λ same. other (omega (arith, same, inside.0)))))
      (same_or_not i (from + k));
}
  where
    bytes : List ℕ
    bytes = get_or sectors (from + k) []

-- the next sector of a run is written
pub written_more : (run : List (List ℕ)) (from k : ℕ) (old now : Image) → k < length run → now ≡ with_run from (take k run) old → slice_set now (from + k) (get_or run k []) ≡ with_run from (take (k + 1) run) old
written_more run from k old now less is =
    ap (λ (l : Image). slice_set l (from + k) (get_or run k [])) is
    ∙ ap (λ n. slice_set (with_run from (take k run) old) (from + n) (get_or run k [])) (sym (length-take-le k run (omega (arith, less))))
    ∙ sym (run_more (take k run) from (get_or run k []) old)
    ∙ ap (λ (l : List (List ℕ)). with_run from l old) (sym (take-suc run k [] less) ∙ ap (λ n. take n run) (let same : suc k ≡ k + 1 = omega arith in same))

-- ---- what is recorded

get_either : (calls more : List Call) (found : Call) (j : ℕ) → slice_get (calls ++ more) j ≡ Some found → ((j < length calls) × (slice_get calls j ≡ Some found)) ⊎ ((k : ℕ) × (slice_get more k ≡ Some found))
get_either [] more found j is = inr (j, is)
get_either (first ∷ calls) more found zero is = inl (omega arith, is)
get_either (first ∷ calls) more found (suc j) is = ⊎_elim (λ early. inl (omega (arith, early.0), early.1)) (λ late. inr late) (get_either calls more found j is)

no_sync : (run : List (List ℕ)) (from j : ℕ) (loose : List Bool) → slice_get (writes_of from run) j ≡ Some (Sync loose) → ⊥
no_sync [] from j loose is = cc is
no_sync (bytes ∷ run) from zero loose is = cc is
no_sync (bytes ∷ run) from (suc j) loose is = no_sync run (from + 1) j loose is

image_after-run : (run : List (List ℕ)) (from : ℕ) (image : Image) → image_after (writes_of from run) image ≡ with_run from run image
image_after-run [] from image = refl
image_after-run (bytes ∷ run) from image = image_after-run run (from + 1) (slice_set image from bytes)

pub run_recorded : (first begun now : Image) (calls later : List Call) (from : ℕ) (run : List (List ℕ)) → begun ≡ first → later ≡ calls ++ writes_of from run → image_after calls first ≡ now → image_after later begun ≡ with_run from run now
run_recorded first begun now calls later from run same is recorded =
    ap (λ (l : List Call). image_after l begun) is ∙ ap (λ (l : Image). image_after (calls ++ writes_of from run) l) same
    ∙ image_after-more calls (writes_of from run) first ∙ image_after-run run from (image_after calls first) ∙ ap (with_run from run) recorded

still_before : (first : Image) (calls : List Call) (from : ℕ) (run : List (List ℕ)) (since : ℕ) (left : Image) → WasLeft first (calls ++ writes_of from run) since left → WasLeft first calls since left
still_before first calls from run since left was = ⊎_elim (λ early. record {
  at = was.at;
  loose = was.loose;
  late = was.late;
  synced = early.1;
  within = subst (λ (l : List Call). ChangesWithin (IsFlagged was.loose) (image_after l first) left) (take-append-le was.at calls (writes_of from run) (omega (arith, early.0))) was.within;
}) (λ late. absurd (no_sync run from late.0 was.loose late.1)) (get_either calls (writes_of from run) (Sync was.loose) was.at was.synced)

-- ---- a write of several sectors, each of them loose

module _ (first : Image) (calls : List Call) (now synced : Image) (loose : List Bool) (steady : Bool) (failures made writes : ℕ) (trace : List Access) (from : ℕ) (run : List (List ℕ))
    (announced : (i : ℕ) → ¬ IsFlagged loose i → ¬ IsInRun from (length run) i) where
  within_run : ChangesWithin (IsFlagged loose) now (with_run from run now)
  within_run = run_loose (IsFlagged loose) run from now announced

  pub run_goes_on : (begun : Image) (later : List Call) (made2 writes2 : ℕ) (trace2 : List Access) → begun ≡ first → later ≡ calls ++ writes_of from run → made2 ≡ made + 1
      → GoesOn (memory_state first calls now synced loose steady failures made writes trace) (memory_state begun later (with_run from run now) synced loose steady failures made2 writes2 trace2)
  run_goes_on begun later made2 writes2 trace2 same is one =
      recorded_so first calls now synced loose steady failures made writes trace begun later (calls ++ writes_of from run) same is (with_run from run now) synced loose steady failures made2 writes2 trace2 (record {
        size = run_length run from now;
        calls = one;
        failures = omega arith;
        honest = (λ h. h, λ h. h);
        inert = (λ h. h, λ h. h);
        armed = λ call later. (λ no. no, λ no. no);
        time = λ _. record {
          later = omega (arith, length-append calls (writes_of from run));
          nothing_else = λ t left le since. ⊎_elim (λ is. inr is) (λ was. inl (inr (still_before first calls from run t left was))) since;
          keeps = λ t left le since. ⊎_elim
              (λ is. inl (left_with (IsFlagged loose) now (with_run from run now) left within_run is))
              (λ was. inr (was_before first calls (writes_of from run) t left was)) since;
        };
      })

pub run_written : (now : Image) (from : ℕ) (run : List (List ℕ)) (i : ℕ) (bytes : List ℕ) → from + length run ≤ length now → from ≤ i → slice_get run (i - from) ≡ Some bytes → slice_get (with_run from run now) i ≡ Some bytes
run_written now from run i bytes fits late is =
    run_inside run from now i (late, omega (arith, late, slice_get_within run (i - from) bytes is)) fits ∙ is
