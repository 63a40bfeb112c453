use Rattle.std.proofs.Common.{◌≡◌, ◌++◌}
use Rattle.lift_desk.specs.Seats.{IsClerkOf}
use Rattle.lift_clerk.specs.TakenAndAnswered.{AreApart}
use Rattle.lift_parts.specs.Batch.{commands_in}
use Rattle.lift_parts.specs.Flusher.{LooksGive, answers_in, looked_for}
use Rattle.lift_relay.specs.Settler.{AreDue}
use Rattle.lift_relay.proofs.settling.look_again.Given as goal

-- of the commands that are left
abbrev pub invariant-loop-taken : goal.invariant-loop-taken
invariant-loop-taken l = record {
  can_next : (goal.iterator-loop-taken).can_next l.taken-iterator;
  is_finite : (goal.iterator-loop-taken).is_finite l.taken-iterator;
  due : AreDue l.desk l.seat l.taken-iterator;
  apart : AreApart (commands_in l.taken-iterator);
  found : LooksGive l.seat l.taken-iterator → LooksGive l.fn.seat l.fn.commands.items;
  looked : looked_for l.seat l.taken-iterator ≡ looked_for l.fn.seat l.fn.commands.items;
  answers : l.answers.items ++ answers_in l.taken-iterator ≡ answers_in l.fn.commands.items;
  seated : IsClerkOf l.desk l.seat;
}
