use Rattle.lift_replay.proofs.Hearing.{new_terminals}
use Rattle.lift_replay.proofs.terminals.Terminals.new.Goals as goal

pub invariant_of-result : goal.invariant_of-result
invariant_of-result c = record {
  own = new_terminals c.args.desk.now c.args.seats.items c.requires.seated c.requires.new;
}
