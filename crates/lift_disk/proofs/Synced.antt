-- What several calls of a file come to, one after the other.
use Rattle.std.proofs.Common.{Result, Ok, Err, OnOk, OnErr, append_assoc, ◌≡◌, ◌∙◌, inl, inr, ⊎_elim, ℕ, zero, suc, ◌+◌, Bool, IsTrue, List, [], ◌∷◌, ◌++◌, refl, sym, ap, subst, arith}
use Rattle.lift_disk.specs.Disk.{DiskState, TouchesNothing}
use Rattle.lift_disk.specs.FileCalls.{FailsIn, FileCall, LeadsBy}
use Rattle.std.proofs.Math.Logic.{∥∥₁_map}
use Rattle.lift_disk.specs.Holding.{IsKnownSteady, IsSameFile}
use Rattle.lift_disk.specs.Traced.{IsMaking, file_of, making_of, zero_write, zero_writes}
use Rattle.lift_disk.specs.declared.traced.TracedFile.{TracedFile}
use Rattle.lift_disk.specs.lemmas.Moments.{changes_more, changes_twice}

touches_nothing_then : (old mid new : DiskState) → TouchesNothing old mid → TouchesNothing mid new → TouchesNothing old new
touches_nothing_then old mid new first second = record {
  loose = λ i is. first.loose i (second.loose i is);
  within = changes_twice old.is_loose old.image mid.image new.image first.within (changes_more mid.is_loose old.is_loose mid.image new.image first.loose second.within);
}

pub same_then : (old mid new : DiskState) → IsSameFile old mid → IsSameFile mid new → IsSameFile old new
same_then old mid new first second = record {
  size = second.size ∙ first.size;
  honest = (λ h. first.honest.0 (second.honest.0 h), λ h. second.honest.1 (first.honest.1 h));
}

pub leads_then : {F : Type 0} (gives : F → FileCall → F → Type 0) (calls more : List FileCall) (old mid new : F) → LeadsBy gives calls old mid → LeadsBy gives more mid new → LeadsBy gives (calls ++ more) old new
leads_then {F} gives [] more old mid new same led = subst (λ (f : F). LeadsBy gives more f new) same led
leads_then gives (call ∷ calls) more old mid new led led2 = (led.0, led.1, leads_then gives calls more led.0 mid new led.2 led2)

-- what was known before a call is known after it
pub stays_known : (known : Bool) (sectors : ℕ) (old new : DiskState) → IsSameFile old new → (old.is_honest → old.size ≡ sectors → old.is_steady → new.is_steady)
    → (IsTrue known → old.is_honest → old.size ≡ sectors → IsKnownSteady old) → IsTrue known → new.is_honest → new.size ≡ sectors → IsKnownSteady new
stays_known known sectors old new same goes was is honest sized =
    let honest2 = same.honest.0 honest in
    let sized2 = sym same.size ∙ sized in
    ∥∥₁_map (was is honest2 sized2) (goes honest2 sized2)

-- a file is made by these calls and then by more
pub making_then : {F : Type 0} (gives : F → FileCall → F → Type 0) (calls more : List FileCall) (old mid new : TracedFile F) → IsMaking gives calls old mid → IsMaking gives more mid new → IsMaking gives (calls ++ more) old new
making_then gives calls more old mid new first second = record {
  led = leads_then gives calls more (file_of old) (file_of mid) (file_of new) first.led second.led;
  listed = second.listed ∙ ap (λ (l : List FileCall). l ++ more) first.listed ∙ append_assoc (making_of old) calls more;
  uncalled = second.uncalled ∙ first.uncalled;
  unfailed = second.unfailed ∙ first.unfailed;
}

pub one_zero_write : (sectors i : ℕ) → zero_writes sectors (i + 1) ≡ zero_writes sectors i ++ zero_write sectors i ∷ []
one_zero_write sectors i = ap (zero_writes sectors) (let one : i + 1 ≡ suc i = omega arith in one)

-- what fails after calls that succeeded has failed in all of them
pub fails_after : {F : Type 0} (gives fails : F → FileCall → F → Type 0) (calls more : List FileCall) (old mid new : F) → LeadsBy gives calls old mid → FailsIn gives fails more mid new → FailsIn gives fails (calls ++ more) old new
fails_after {F} gives fails [] more old mid new same failed = subst (λ (f : F). FailsIn gives fails more f new) same failed
fails_after gives fails (call ∷ calls) more old mid new led failed = inr (led.0, led.1, fails_after gives fails calls more led.0 mid new led.2 failed)

-- what has failed in calls has failed where more would have come
pub fails_before : {F : Type 0} (gives fails : F → FileCall → F → Type 0) (calls more : List FileCall) (old new : F) → FailsIn gives fails calls old new → FailsIn gives fails (calls ++ more) old new
fails_before gives fails [] more old new never = absurd never
fails_before gives fails (call ∷ calls) more old new failed = ⊎_elim (λ now. inl now)
    (λ later. inr (later.0, later.1, fails_before gives fails calls more later.0 new later.2)) failed

-- and so where more sectors would have been filled
pub fails_until : {F : Type 0} (gives fails : F → FileCall → F → Type 0) (sectors i more count : ℕ) (old new : F) → count ≡ i + more → FailsIn gives fails (zero_writes sectors i) old new → FailsIn gives fails (zero_writes sectors count) old new
fails_until gives fails sectors i zero count old new is failed =
    let same : i ≡ count = omega (arith, is) in
    subst (λ (n : ℕ). FailsIn gives fails (zero_writes sectors n) old new) same failed
fails_until gives fails sectors i (suc more) count old new is failed =
    let last : (i + more) + 1 ≡ count = omega (arith, is) in
    subst (λ (n : ℕ). FailsIn gives fails (zero_writes sectors n) old new) last
    (subst (λ (calls : List FileCall). FailsIn gives fails calls old new) (sym (one_zero_write sectors (i + more)))
    (fails_before gives fails (zero_writes sectors (i + more)) (zero_write sectors (i + more) ∷ []) old new
    (fails_until gives fails sectors i more (i + more) old new refl failed)))

-- what follows from what a call does where it succeeds, and where it fails
pub on_ok : {T E P Q : Type 0} (result : Result T E) → (P → Q) → OnOk result P → OnOk result Q
on_ok (Ok v) f p = f p
on_ok (Err e) f p = tt

pub on_err : {T E P Q : Type 0} (result : Result T E) → (P → Q) → OnErr result P → OnErr result Q
on_err (Ok v) f p = tt
on_err (Err e) f p = f p

pub in_err : {T E P : Type 0} (result : Result T E) → P → OnErr result P
in_err (Ok v) p = tt
in_err (Err e) p = p
