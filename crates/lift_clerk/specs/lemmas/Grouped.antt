-- What a clerk does, a group does.
use Rattle.lift_clerk.specs.Clerk.{ClerkState}
use Rattle.lift_clerk.specs.Steps.{group_of, TurnMakesSafe, LeavesInDoubt, AnswersUnknown}
use Rattle.lift_clerk.specs.Steps.{ClerkRests}
use Rattle.lift_clerk.specs.Machine.{ClerkReopens, IsNewClerk}

module _ {D P : Type 0} (before after : ClerkState D P) where
  abbrev pub grouped_safe : TurnMakesSafe before after
      → TurnMakesSafe (group_of before) (group_of after)
  grouped_safe t = record {
    desk = t.desk;
    decides = t.decides;
    answers = t.answers;
    state = t.state;
    safe = t.safe;
    is_whole = t.is_whole;
    no_doubt = t.no_doubt;
    same_plan = t.same_plan;
  }

  abbrev pub grouped_doubt : LeavesInDoubt before after
      → LeavesInDoubt (group_of before) (group_of after)
  grouped_doubt t = record {
    may = t.may;
    desk = t.desk;
    answers = t.answers;
    some = t.some;
    breaks = t.breaks;
    same_register = t.same_register;
    same_plan = t.same_plan;
  }

  abbrev pub grouped_unknown : AnswersUnknown before after
      → AnswersUnknown (group_of before) (group_of after)
  grouped_unknown t = record {
    commands = t.commands;
    desk = t.desk;
    answers = t.answers;
    was_broken = t.was_broken;
    rests = t.rests;
  }

  abbrev pub grouped_rests : ClerkRests before after → ClerkRests (group_of before) (group_of after)
  grouped_rests s = record {
    desk = s.desk;
    words = s.words;
    state = s.state;
    register = s.register;
    doubt = s.doubt;
    plan = s.plan;
    broken = s.broken;
  }

  abbrev pub grouped_reopens : ClerkReopens before after
      → ClerkReopens (group_of before) (group_of after)
  grouped_reopens r = record {
    desk = r.desk;
    same_seat = r.same_seat;
    state = r.state;
    one_of = r.one_of;
    is_whole = r.is_whole;
    no_doubt = r.no_doubt;
    same_plan = r.same_plan;
  }

module _ {D P : Type 0} (clerk : ClerkState D P) where
  abbrev pub grouped_begins : IsNewClerk clerk → IsNewClerk (group_of clerk)
  grouped_begins b =
      record { seat = b.seat; state = b.state; is_whole = b.is_whole; no_doubt = b.no_doubt }
