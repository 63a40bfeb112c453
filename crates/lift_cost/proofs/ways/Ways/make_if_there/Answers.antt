use Rattle.std.proofs.lemmas.List.{append-nil}
use Rattle.lift_cost.specs.Delays.{persons_in}
use Rattle.lift_cost.proofs.ways.Ways.make_if_there.Goals as goal

pub returns-then-is_there-clause-on : goal.returns-then-is_there-clause-on
returns-then-is_there-clause-on c start made made_with none on = rw c.if-is_there.true (c.make.ensures.on start made made_with on)

pub returns-else-is_there-clause-on : goal.returns-else-is_there-clause-on
returns-else-is_there-clause-on c start made made_with none on =
    rw (c.if-is_there.false, append-nil made) (c.make_alone.ensures.on (persons_in c.args.leaving.now) start made made_with (none c.if-is_there.false) on)
