-- The calls that a device over another one makes of it.
use Rattle.std.proofs.Common.{◌≡◌, ◌+◌, ◌++◌, ℕ, List, [], ◌∷◌, length, Result, Ok, Err, refl, sym, ap, ◌∙◌, arith}
use Rattle.std.proofs.lemmas.List.{append-nil, append_assoc}
use Rattle.lift_disk.specs.Disk.{DiskState}
use Rattle.lift_disk.specs.Runs.{Announces, MakesCalls, MakesUpTo, joined, run_calls}
use Rattle.lift_disk.specs.Trace.{Access, Records}
use Rattle.lift_disk.specs.Trace.Access.{Write}

-- one
pub one_call : {T E : Type 0} (result : Result T E) (call : Access) (old new : DiskState) → new.calls ≡ old.calls + 1 → Records result call old.trace new.trace → MakesCalls result (call ∷ []) old new
one_call (Ok x) call old new count recorded = record { ok = record { count = count; listed = recorded.ok }; err = tt }
one_call (Err e) call old new count recorded = record {
  ok = tt;
  err = record { before = []; failed = call; after = []; split = refl; count = omega (arith, count); listed = recorded.err ∙ sym (append-nil old.trace) };
}

-- one that writes a run
pub run_call : {T E : Type 0} (result : Result T E) (from : ℕ) (run : List (List ℕ)) (old new : DiskState) → ¬ (run ≡ []) → new.calls ≡ old.calls + 1 → Records result (Write from (joined run)) old.trace new.trace
    → MakesCalls result (run_calls from run) old new
run_call result from [] old new some count recorded = absurd (some refl)
run_call result from (bytes ∷ run) old new some count recorded = one_call result (Write from (joined (bytes ∷ run))) old new count recorded

-- after an announcement, which is none
pub announced_calls : {T E : Type 0} (result : Result T E) (sector : ℕ) (calls : List Access) (old mid new : DiskState) → Announces sector old mid → MakesCalls result calls mid new → MakesCalls result calls old new
announced_calls (Ok x) sector calls old mid new announced makes = record {
  ok = record { count = makes.ok.count ∙ ap (λ n. n + length calls) announced.calls; listed = makes.ok.listed ∙ ap (λ (l : List Access). l ++ calls) announced.trace };
  err = tt;
}
announced_calls (Err e) sector calls old mid new announced makes = record {
  ok = tt;
  err = record {
    before = makes.err.before;
    failed = makes.err.failed;
    after = makes.err.after;
    split = makes.err.split;
    count = makes.err.count ∙ ap (λ n. n + length makes.err.before + 1) announced.calls;
    listed = makes.err.listed ∙ ap (λ (l : List Access). l ++ makes.err.before) announced.trace;
  };
}

-- after one that failed no more are made
pub ends_there : (calls more : List Access) (old new : DiskState) → MakesUpTo calls old new → MakesUpTo (calls ++ more) old new
ends_there calls more old new up_to = record {
  before = up_to.before;
  failed = up_to.failed;
  after = up_to.after ++ more;
  split = ap (λ (l : List Access). l ++ more) up_to.split ∙ append_assoc up_to.before (up_to.failed ∷ up_to.after) more;
  count = up_to.count;
  listed = up_to.listed;
}
