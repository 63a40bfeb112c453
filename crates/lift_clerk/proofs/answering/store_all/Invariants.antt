use Rattle.std.proofs.Common.{◌≡◌, All, drop}
use Rattle.lift_desk.specs.Words.{IsReply}
use Rattle.lift_desk.specs.Seats.{IsClerkOf}
use Rattle.lift_clerk.specs.Answering.{AreOwed, terminals_in, stored_replies, with_answers}
use Rattle.lift_clerk.proofs.answering.store_all.Given as goal

abbrev pub invariant-loop-place : goal.invariant-loop-place
invariant-loop-place g l = record {
  -- the answers that are left
  owed : AreOwed l.desk l.seat (terminals_in (drop l.place l.answers.items));
  stored : with_answers l.is_safe l.seat (drop l.place l.answers.items) ≡ with_answers l.is_safe l.fn.seat l.answers.items;
  in_range : All IsReply (stored_replies l.is_safe (drop l.place l.answers.items)) → All IsReply (stored_replies l.is_safe l.answers.items);
  seated : IsClerkOf l.desk l.seat;
}
