use Rattle.std.proofs.Common.{rules, [], ◌∷◌, ℕ, sym, subst}
use Rattle.lift_disk.specs.FileCalls.{FailsIn}
use Rattle.lift_disk.specs.FileCalls.FileCall.{GetLength, Lock}
use Rattle.lift_disk.specs.Traced.{file_of}
use Rattle.lift_disk.proofs.traced.TracedFile.locked.Goals as goal

pub returns-in-Err-clause-failed : goal.returns-in-Err-clause-failed
returns-in-Err-clause-failed g c = λ bytes.
    let gives = g.F.ListedFile.gives in
    let fails = g.F.ListedFile.fails in
    let calls = Lock ∷ GetLength bytes ∷ [] in
    let all : (bytes : ℕ) → FailsIn gives fails (Lock ∷ GetLength bytes ∷ []) (file_of c.over-traced.result) (file_of c.lock_and_measure.new.self) = search rules in
    subst (λ (f : g.row.F.Denot). FailsIn gives fails calls f c.failed.result.file) c.over-traced.ensures.same
    (subst (λ (f : g.row.F.Denot). FailsIn gives fails calls (file_of c.over-traced.result) f) (sym c.failed.ensures) (all bytes))
