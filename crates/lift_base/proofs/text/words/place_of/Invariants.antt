use Rattle.std.proofs.Common.{◌≢◌, All, take}
use Rattle.lift_base.proofs.text.words.place_of.Given as goal

-- so far the byte stands nowhere
abbrev pub invariant-loop-place : goal.invariant-loop-place
invariant-loop-place l = All (λ other. other ≢ l.byte) (take l.place l.bytes)
