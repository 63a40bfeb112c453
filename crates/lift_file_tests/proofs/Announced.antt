-- Sectors that are announced one after the other.
use Rattle.std.proofs.Common.{◌≡◌, ◌≢◌, ◌⊎◌, ◌+◌, ◌∙◌, inl, inr, ⊎_elim, ℕ, zero, suc, refl, ap, sym, subst, arith}
use Rattle.lift_disk.specs.Disk.{DiskState, Image, ChangesWithin}
use Rattle.lift_disk.specs.Runs.{Announces, IsInRun}
use Rattle.lift_disk.specs.lemmas.Moments.{changes_more}
use Rattle.lift_file_tests.specs.Held.{OpensRun}

apart : (i n : ℕ) → (i ≡ n) ⊎ (i ≢ n)
apart zero zero = inl refl
apart zero (suc n) = inr (λ same. omega (arith, same))
apart (suc i) zero = inr (λ same. omega (arith, same))
apart (suc i) (suc n) = ⊎_elim (λ same. inl (ap suc same)) (λ other. inr (λ same. other (omega (arith, same)))) (apart i n)

pub opens_none : (from : ℕ) (disk : DiskState) → OpensRun from 0 disk disk
opens_none from disk = record {
  same = record { size = refl; honest = (λ h. h, λ h. h) };
  image = refl;
  synced = refl;
  written = λ i bytes was. was;
  steady = λ steady. steady;
  loose = λ i. (λ is. inl is, λ either. ⊎_elim (λ is. is) (λ inside. absurd (omega (arith, inside.0, inside.1))) either);
  time = record { later = omega arith; nothing_else = λ t left le was. inl was; keeps = λ t left le was. was };
}

pub opens_more : (from count sector : ℕ) (old mid new : DiskState) → sector ≡ from + count → OpensRun from count old mid → Announces sector mid new → mid.is_honest → OpensRun from (count + 1) old new
opens_more from count sector old mid new here opens announced honest =
    let later = announced.time honest in record {
      same = record { size = announced.size ∙ opens.same.size; honest = (λ h. opens.same.honest.0 (announced.honest.0 h), λ h. announced.honest.1 (opens.same.honest.1 h)) };
      image = announced.image ∙ opens.image;
      synced = announced.synced ∙ opens.synced;
      written = λ i bytes was. announced.written i bytes (opens.written i bytes was);
      steady = λ steady. announced.steady (opens.steady steady);
      loose = λ i.
          let more = announced.loose honest i in (
            λ is. ⊎_elim
                (λ was. ⊎_elim (λ long. inl long) (λ (inside : IsInRun from count i). inr (inside.0, omega (arith, inside.1))) ((opens.loose i).0 was))
                (λ (same : i ≡ sector). inr (omega (arith, same, here), omega (arith, same, here)))
                (more.0 is),
            λ either. more.1 (⊎_elim
                (λ was. inl ((opens.loose i).1 (inl was)))
                (λ (inside : IsInRun from (count + 1) i). by_place i inside (opens.loose i).1)
                either),
          );
      time = record {
        later = omega (arith, opens.time.later, later.later);
        nothing_else = λ since left le was. ⊎_elim
            (λ before. ⊎_elim (λ long. inl long)
            (λ now. inr (subst (λ (image : Image). ChangesWithin new.is_loose image left) (sym announced.image) (changes_more mid.is_loose new.is_loose mid.image left (λ i is. (announced.loose honest i).1 (inl is)) now)))
            (opens.time.nothing_else since left le before))
            (λ now. inr now) (later.nothing_else since left (omega (arith, le, opens.time.later)) was);
        keeps = λ since left le was. later.keeps since left (omega (arith, le, opens.time.later)) (opens.time.keeps since left le was);
      };
    }
  where
    by_place : (i : ℕ) → IsInRun from (count + 1) i → (old.is_loose i ⊎ IsInRun from count i → mid.is_loose i) → mid.is_loose i ⊎ (i ≡ sector)
    by_place i inside loose = ⊎_elim (λ same. inr same)
        (λ other. inl (loose (inr (inside.0, omega (arith, inside.1, here, other))))) (apart i sector)
