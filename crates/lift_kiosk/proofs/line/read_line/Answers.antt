use Rattle.std.proofs.Common.{rules}
use Rattle.lift_kiosk.specs.lemmas.Lines.{part_more, part_ends}
use Rattle.lift_kiosk.proofs.line.read_line.Goals as goal

pub returns-in-Ok-Some-eq10-clause-line : goal.returns-in-Ok-Some-eq10-clause-line
returns-in-Ok-Some-eq10-clause-line g c =
    let so_far = c.loop-left.invariant.part in
    let byte = rw c.in-Ok-Some-eq10.field-0-is at c.in-Ok-Some-eq10.ensures.byte in
    (so_far.0, so_far.2, part_ends so_far.0 _ _ _ _ so_far.1 byte c.in-Ok-Some-eq10.field-0-0-test)

pub loop-left-preserved : goal.loop-left-preserved
loop-left-preserved g c =
    let so_far = c.loop-left.invariant.part in
    let byte = rw c.in-Ok-Some.field-0-is at c.in-Ok-Some.ensures.byte in
    record { calls = search rules; part = (_, part_more so_far.0 c.in-Ok-Some.byte _ _ _ so_far.1 byte c.in-Ok-Some.byte-test.1, c.push.ensures so_far.0 so_far.2) }
