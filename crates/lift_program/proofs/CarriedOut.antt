-- What a script came to, of every reader and writer.
use Rattle.std.proofs.Common.{◌≡◌, ℕ, Bool, true, false, List, [], Option, Some, sym, subst, ap, inl, inr}
use Rattle.std.proofs.lemmas.List.{append-nil}
use Rattle.std.proofs.KnownBytes.{Appends-kept}
use Rattle.std.specs.Io.KnownBytes.{Appends, Keeps}
use Rattle.std.specs.Prelude.{Err}
use Rattle.lift_base.specs.Output.{OutputTally, flushed_by}
use Rattle.lift_replay.specs.Replaying.{ReportsPrefixOfWhatCame, ReportsWhatCame}
use Rattle.lift_replay.specs.Writing.{GoesInto, TakesSomeEachCall, gone_in}
use Rattle.lift_replay.specs.declared.lines.Verdict.{Verdict}
use Rattle.lift_program.specs.Ends.{IsCalledFor, IsFileFault}
use Rattle.lift_program.specs.declared.fault.Fault.{Fault}
use Rattle.lift_program.specs.declared.fault.Role.TheVariants.{Output}

-- a flush adds nothing to what was taken
pub gone_kept : {W : Type 0} (sent : W → OutputTally) (mid new : W) (done : Bool) → sent new ≡ flushed_by done (sent mid) → gone_in sent new ≡ gone_in sent mid
unfolding gone_in
gone_kept sent mid new true told = ap (λ (t : OutputTally). Some t.gone) told
gone_kept sent mid new false told = ap (λ (t : OutputTally). Some t.gone) told

-- so the report stays the report,
pub came_kept : (came came' : List ℕ) (old mid new : Option (List ℕ)) (verdict : Verdict) → new ≡ mid → ReportsWhatCame came came' old mid verdict → ReportsWhatCame came came' old new verdict
came_kept came came' old mid new verdict same told = subst (λ (g : Option (List ℕ)). ReportsWhatCame came came' old g verdict) (sym same) told

-- all of which is a prefix of it,
pub came_front : (came came' : List ℕ) (old new : Option (List ℕ)) (verdict : Verdict) → ReportsWhatCame came came' old new verdict → ReportsPrefixOfWhatCame came came' old new
came_front came came' old new verdict told = (told.0, told.1, (told.2.0, verdict, told.2.1, (told.2.0, ([], append-nil told.2.0), told.2.2)))

-- and what was added stays what was taken
pub goes_on : {W : Type 0} (sent : W → OutputTally) (contents : W → Option (List ℕ)) (old mid new : W) → GoesInto sent contents old mid → gone_in sent new ≡ gone_in sent mid → Keeps (contents mid) (contents new) → GoesInto sent contents old new
goes_on sent contents old mid new goes same keeps = (
  goes.0,
  subst (λ (g : Option (List ℕ)). Appends (gone_in sent old) g goes.0) (sym same) goes.1,
  Appends-kept (contents old) (contents mid) (contents new) goes.0 goes.2 keeps,
)

-- how the output of a script was called whose report a flush did not pass on
pub called_unflushed : {W : Type 0} (gives : W → List ℕ → Option ℕ → W → Type 0) (flushes : W → Bool → W → Type 0) (old mid new : W) (fault : Fault) → TakesSomeEachCall gives old mid → flushes mid false new → IsFileFault Output fault
    → IsCalledFor gives flushes old new (Err fault)
called_unflushed gives flushes old mid new fault taken failed (inl is) = subst (λ (f : Fault). IsCalledFor gives flushes old new (Err f)) (sym is) (inr (mid, taken, failed))
called_unflushed gives flushes old mid new fault taken failed (inr is) = subst (λ (f : Fault). IsCalledFor gives flushes old new (Err f)) (sym is) (mid, taken, inr failed)
