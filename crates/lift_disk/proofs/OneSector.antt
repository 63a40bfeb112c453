-- A read and a write of one sector, as of a run of one.
use Rattle.std.proofs.Common.{◌≡◌, ◌+◌, ◌-◌, ◌∙◌, inl, inr, ⊎_elim, ℕ, List, [], ◌∷◌, length, get_or, slice_get, slice_set, Some, ap, subst, arith}
use Rattle.std.proofs.lemmas.Option.{slice_get-get_or}
use Rattle.lift_disk.specs.Disk.{DiskState, Image, ChangesWithin, Elapses, GoesOn, LeavesAsBefore, SetsSector, StaysLoose, StoresSector, Touches, TouchesNothing}
use Rattle.lift_disk.specs.Runs.{Announces, HoldsRun, IsInRun, StoresRun}
use Rattle.lift_disk.specs.lemmas.Moments.{changes_more, changes_both}

-- time goes on twice
pub elapses_then : (old mid new : DiskState) → Elapses old mid → Elapses mid new → TouchesNothing mid new → StaysLoose mid new → Elapses old new
elapses_then old mid new first second between stays = record {
  later = omega (arith, first.later, second.later);
  nothing_else = λ since left le was. ⊎_elim
      (λ before. ⊎_elim (λ long. inl long)
      (λ now. inr (changes_more mid.is_loose new.is_loose new.image left stays (changes_both mid.is_loose mid.image new.image left between.within now)))
      (first.nothing_else since left le before))
      (λ now. inr now) (second.nothing_else since left (omega (arith, le, first.later)) was);
  keeps = λ since left le was. second.keeps since left (omega (arith, le, first.later)) (first.keeps since left le was);
}

-- a sector is announced, and then it is written alone, or that fails
module _ (old mid new : DiskState) (sector : ℕ) (opens : Announces sector old mid) where
  pub announced_one : (count : ℕ) → count ≡ 1 → mid.is_honest → (i : ℕ) → ¬ mid.is_loose i → ¬ IsInRun sector count i
  announced_one count one honest i not inside =
      not ((opens.loose (opens.honest.0 honest) i).1 (inr (let same : i ≡ sector = omega (arith, inside.0, inside.1, one) in same)))

  pub opened_touches : LeavesAsBefore mid new → old.is_honest → Touches sector old new
  opened_touches leaves honest =
      let honest2 = opens.honest.1 honest in
      let touched = leaves.touched honest2 in
      let stays = leaves.loose honest2 in record {
        loose = λ i. let one = opens.loose honest i in (λ is. one.0 (touched.loose i is), λ was. stays i (one.1 was));
        within = subst (λ (image : Image). ChangesWithin new.is_loose image new.image) opens.image (changes_more mid.is_loose new.is_loose mid.image new.image stays touched.within);
      }

  pub opened_goes_on : LeavesAsBefore mid new → GoesOn mid new → GoesOn old new
  opened_goes_on leaves goes_on = record {
    size = goes_on.size ∙ opens.size;
    calls = goes_on.calls ∙ ap (λ n. n + 1) opens.calls;
    failures = omega (arith, goes_on.failures, opens.failures);
    honest = (λ h. opens.honest.0 (goes_on.honest.0 h), λ h. goes_on.honest.1 (opens.honest.1 h));
    inert = (λ h. opens.inert.0 (goes_on.inert.0 h), λ h. goes_on.inert.1 (opens.inert.1 h));
    armed = λ call later. (λ is. (opens.armed call).0 ((goes_on.armed call later).0 is), λ was. (goes_on.armed call later).1 ((opens.armed call).1 was));
    time = λ honest.
        let honest2 = opens.honest.1 honest in
        elapses_then old mid new (opens.time honest) (goes_on.time honest2) (leaves.touched honest2) (leaves.loose honest2);
  }

  pub opened_stores : (bytes : List ℕ) → SetsSector sector bytes old new → StoresRun sector (bytes ∷ []) mid new → StoresSector sector bytes old new
  opened_stores bytes sets stores = record {
    written = λ honest. let written = stores.written (opens.honest.1 honest) in record {
      here = written.here sector bytes (omega arith) (ap (λ n. slice_get (bytes ∷ []) n) (let none : sector - sector ≡ 0 = omega arith in none));
      others = λ i other not was. written.others i other (λ inside. not (omega (arith, inside.0, inside.1))) (opens.written i other was);
    };
    steady = λ honest steady.
        let now = stores.steady (opens.honest.1 honest) (opens.steady steady) in
        record { steady = now.steady; same = now.same ∙ ap (λ (image : Image). slice_set image sector bytes) opens.image };
    image = sets;
  }

-- one sector was read
pub read_here : (image : Image) (sector : ℕ) (run : List (List ℕ)) (other : List ℕ) → length run ≡ 1 → HoldsRun sector (length run) run image → slice_get image sector ≡ Some (get_or run 0 other)
read_here image sector run other one holds =
    holds sector (omega arith, omega (arith, one)) ∙ ap (slice_get run) (let none : sector - sector ≡ 0 = omega arith in none) ∙ slice_get-get_or run 0 other (omega (arith, one))
