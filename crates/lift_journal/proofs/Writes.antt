-- A run of writes, sector by sector.
use Rattle.std.proofs.Common.{◌≡◌, ◌≤◌, ◌<◌, ◌+◌, ℕ, suc, List, [], ◌∷◌, length, take, get_or, slice_set, ◌++◌, sym, ◌∙◌, ap, arith}
use Rattle.std.proofs.lemmas.List.{length-take-le}
use Rattle.std.proofs.lemmas.List.Edits.{paste_more}
use Rattle.std.proofs.Math.Seq.{paste, take-suc}
use Rattle.lift_disk.specs.Trace.{Access}
use Rattle.lift_disk.specs.Trace.Access.{Write}
use Rattle.lift_journal.specs.Calls.{writes_from, MakesPrefix}
use Rattle.lift_journal.proofs.Following.{all_then, writes-push, writes-take, length-writes}
use Rattle.lift_disk.specs.Disk.{DiskState, Image, GoesOn, RunsOn, Touches, LooseWithin, TouchesOnly, IsSteadyAt, LeavesNoOther, IsWhole}
use Rattle.lift_disk.specs.lemmas.Moments.{runs_call, runs_then, touches_write, touches_then}
use Rattle.lift_journal.specs.Steps.{IsInRange}
use Rattle.lift_journal.specs.Armed.{NoneFails}
use Rattle.lift_journal.specs.lemmas.Telling.{passes_then}

-- this many of the sectors are written
pub record Written (old now : DiskState) (first : ℕ) (sectors : Image) (count : ℕ) : Type 0 where
  pub runs : RunsOn old now
  pub failures : now.failures ≡ old.failures
  pub calls : now.calls ≡ old.calls + count
  pub writes : now.writes ≡ old.writes + count
  pub armed : NoneFails old now
  pub trace : now.trace ≡ old.trace ++ writes_from first (take count sectors)
  pub touched : (low high : ℕ) → low ≤ first → first + length sectors ≤ high → LooseWithin (IsInRange low high) old → TouchesOnly (IsInRange low high) old now
  pub steady : old.is_honest → old.is_steady → IsSteadyAt (paste old.image first sectors count) now

writes-next : (first count : ℕ) (sectors : Image) → count < length sectors
    → writes_from first (take (count + 1) sectors) ≡ writes_from first (take count sectors) ++ Write (first + count) (get_or sectors count []) ∷ []
writes-next first count sectors within =
    let more : count + 1 ≡ suc count = omega arith in
    ap (λ n. writes_from first (take n sectors)) more ∙ ap (writes_from first) (take-suc sectors count [] within)
    ∙ writes-push first count (take count sectors) (get_or sectors count []) (length-take-le count sectors (omega arith))

-- a failed write: those before it were made
pub written_front : (old now new : DiskState) (first : ℕ) (sectors : Image) (count : ℕ) → Written old now first sectors count → count < length sectors → new.trace ≡ now.trace
    → MakesPrefix (writes_from first sectors) old new
written_front old now new first sectors count so_far within same = record {
  count = count;
  some_left = omega (arith, within, length-writes first sectors);
  made = same ∙ so_far.trace ∙ ap (λ (l : List Access). old.trace ++ l) (sym (writes-take first count sectors));
}

-- the next write touches no other sector, even if it fails
pub touched_more : (old now new : DiskState) (first : ℕ) (sectors : Image) (count : ℕ) → Written old now first sectors count → count < length sectors → LeavesNoOther now
    → GoesOn now new → (now.is_honest → Touches (first + count) now new)
    → (low high : ℕ) → low ≤ first → first + length sectors ≤ high → LooseWithin (IsInRange low high) old → TouchesOnly (IsInRange low high) old new
touched_more old now new first sectors count so_far within only_now goes_on touched low high le ge loose =
    let before = so_far.touched low high le ge loose in
    touches_then (IsInRange low high) old now new before
    (touches_write (IsInRange low high) now new (first + count) goes_on touched (omega arith, omega arith) before.loose only_now)

pub written_more : (old now new : DiskState) (first : ℕ) (sectors : Image) (count : ℕ) → Written old now first sectors count → count < length sectors → LeavesNoOther now
    → GoesOn now new → (now.is_honest → Touches (first + count) now new) → new.failures ≡ now.failures → new.writes ≡ now.writes + 1 → NoneFails now new → new.trace ≡ now.trace ++ Write (first + count) (get_or sectors count []) ∷ []
    → first + length sectors ≤ old.size → IsWhole old
    → (now.is_honest → now.is_steady → IsSteadyAt (slice_set now.image (first + count) (get_or sectors count [])) new)
    → Written old new first sectors (count + 1)
written_more old now new first sectors count so_far within only_now goes_on touched cause wrote armed traced room whole steady = record {
  runs = runs_then old now new so_far.runs (runs_call now new goes_on);
  failures = cause ∙ so_far.failures;
  calls = omega (arith, goes_on.calls, so_far.calls);
  writes = omega (arith, wrote, so_far.writes);
  armed = passes_then old now new so_far.runs so_far.armed armed;
  trace = all_then old now new (writes_from first (take count sectors)) (Write (first + count) (get_or sectors count []) ∷ []) so_far.trace traced
      ∙ ap (λ (l : List Access). old.trace ++ l) (sym (writes-next first count sectors within));
  touched = touched_more old now new first sectors count so_far within only_now goes_on touched;
  steady = λ honest was_steady.
      let before = so_far.steady honest was_steady in
      let after = steady (so_far.runs.honest.1 honest) before.steady in
      record {
        steady = after.steady;
        same = after.same ∙ ap (λ (l : Image). slice_set l (first + count) (get_or sectors count [])) before.same
            ∙ paste_more old.image first sectors count [] (omega (arith, whole honest)) within;
      };
}
