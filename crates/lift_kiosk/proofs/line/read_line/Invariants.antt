use Rattle.std.proofs.Common.{◌≡◌, ◌+◌, ℕ, List}
use Rattle.lift_kiosk.specs.Lines.{GivesPart, Buffers65, source_of}
use Rattle.lift_kiosk.proofs.line.read_line.Given as goal

-- less than a line came so far, and it is kept
abbrev pub invariant-loop-left : goal.invariant-loop-left
invariant-loop-left g l = record {
  calls : l.reader.calls + l.left ≡ l.fn.reader.calls + l.fn.left;
  part : (part : List ℕ) × GivesPart part (source_of g.R.Read.remaining l.fn.reader) (source_of g.R.Read.remaining l.reader) × Buffers65 part l.line.bytes.items l.line.is_longer;
}

abbrev pub decreases-loop-left : goal.decreases-loop-left
decreases-loop-left g l = l.left
