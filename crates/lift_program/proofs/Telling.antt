-- Which line is told, and when.
use Rattle.std.proofs.Common.{◌≡◌, ℕ, Bool, true, false, cond, List, Option, Some, None, refl, sym, ◌∙◌, ap, subst}
use Rattle.std.specs.Prelude.{IfSome, IfOk, OnErr, Result, Ok, Err}
use Rattle.lift_base.specs.Output.{OutputState}
use Rattle.lift_relay.specs.Notified.{FailureNotified}
use Rattle.lift_serve.specs.declared.serving.ServeFault.{ServeFault}
use Rattle.lift_serve.specs.declared.serving.ServeFault.TheVariants.{Thread as NoThread, Memory as NoGrowth}
use Rattle.lift_program.specs.Ends.{IsFailureReported, TellsLine, is_reported_at_once, line_at_once, line_for}
use Rattle.lift_keeper.specs.declared.fault.KeeperFault.{KeeperFault}
use Rattle.lift_program.specs.Faults.{served_fault}
use Rattle.lift_program.specs.Output.{IsWrittenOrFailed}
use Rattle.lift_program.specs.declared.at_once.AtOnce.{AtOnce}
use Rattle.lift_program.specs.declared.end.End.TheVariants.{Served}
use Rattle.lift_program.specs.declared.fault.Fault.{Fault}
use Rattle.lift_program.specs.declared.leftover.Failure.{Failure}
use Rattle.lift_program.specs.declared.serve.Serving.{Serving}
use Rattle.lift_program.specs.declared.fault.Fault.TheVariants.{Building, Journal, File, Memory, Network, Thread}

-- that a device failed below a serving over a whole keeper was reported at once
module _ {E : Type 0} (contents : E → Option (List ℕ)) (a b : OutputState E) where
  broken_reported : (is_broken : Bool) (other : Option ServeFault) → FailureNotified (IsFailureReported contents) false is_broken a b → TellsLine contents (cond (is_reported_at_once (served_fault is_broken other)) (line_for (served_fault is_broken other)) None) a b
  broken_reported true other heard = heard
  broken_reported false None heard = heard
  broken_reported false (Some NoThread) heard = heard
  broken_reported false (Some NoGrowth) heard = heard

  pub reported_at_once : (was_broken is_broken : Bool) (other : Option ServeFault) (fault : Option Fault) → was_broken ≡ false → fault ≡ served_fault is_broken other → FailureNotified (IsFailureReported contents) was_broken is_broken a b
      → TellsLine contents (cond (is_reported_at_once fault) (line_for fault) None) a b
  reported_at_once was_broken is_broken other fault whole is heard =
      subst (λ (f : Option Fault). TellsLine contents (cond (is_reported_at_once f) (line_for f) None) a b) (sym is)
      (broken_reported is_broken other (subst (λ w. FailureNotified (IsFailureReported contents) w is_broken a b) whole heard))

  -- so it was, of what was served
  pub served_reported : (M S : Type 0) {V F O : Type 0} (outcome : Result (Serving V) (Failure V F O)) → IfOk outcome (λ serving. TellsLine contents (cond (is_reported_at_once serving.fault) (line_for serving.fault) None) a b) → OnErr outcome (b ≡ a) → TellsLine contents (line_at_once {M = M} {S = S} (Served outcome)) a b
  served_reported M S (Ok serving) told quiet = told
  served_reported M S (Err failure) told quiet = quiet

-- what is notified that a device failed writes to what it was made with
pub notified_errors : {E : Type 0} (contents : E → Option (List ℕ)) (was is : Bool) (old new : AtOnce E) → FailureNotified (λ (a b : AtOnce E). IsFailureReported contents a.errors b.errors) was is old new
    → FailureNotified (IsFailureReported contents) was is old.errors new.errors
notified_errors {E = E} contents false false old new heard = ap (λ (a : AtOnce E). a.errors) heard
notified_errors contents false true old new heard = heard
notified_errors {E = E} contents true is old new heard = ap (λ (a : AtOnce E). a.errors) heard

-- what is told before the end, and then at it, is one line
pub reported_once : {E : Type 0} (contents : E → Option (List ℕ)) (a b c : OutputState E) (told : Bool) (line : Option (List ℕ)) → TellsLine contents (cond told line None) a b
    → IfSome (cond told None line) (IsWrittenOrFailed contents b c) → (cond told None line ≡ None → c ≡ b) → TellsLine contents line a c
reported_once {E} contents a b c true line first last quiet = subst (λ (x : OutputState E). TellsLine contents line a x) (sym (quiet refl)) first
reported_once contents a b c false None first last quiet = quiet refl ∙ first
reported_once {E} contents a b c false (Some line) first last quiet = subst (λ (x : OutputState E). IsWrittenOrFailed contents x c line) first last

-- what is no journal's fault is told at the end
pub reported_later : (fault : Fault) → ((refusal : KeeperFault) → fault ≡ Journal refusal → ⊥) → is_reported_at_once (Some fault) ≡ false
reported_later (Building fault) other = refl
reported_later (Journal refusal) other = absurd (other refusal refl)
reported_later (File role) other = refl
reported_later (Memory no_memory) other = refl
reported_later Network other = refl
reported_later Thread other = refl
