-- What a clerk's turn adds, as a turn of its group.
use Rattle.std.proofs.Common.{◌≡◌, ◌⊎◌, inl, inr, Bool, true, false, List, [], ◌++◌, ap, sym, subst}
use Rattle.std.specs.Prelude.{Result, Ok, Err, is_err}
use Rattle.std.proofs.lemmas.List.{append-nil}
use Rattle.lift_base.specs.declared.history.Entry.{Entry}
use Rattle.lift_disk.specs.Disk.{DiskState}
use Rattle.lift_register.specs.Register.{RegisterState}
use Rattle.lift_policy.specs.Eligible.{Choice}
use Rattle.lift_policy.specs.Run.{unknowns}
use Rattle.lift_journal.specs.declared.fault.JournalFault.TheVariants.{Disk, Broken}
use Rattle.lift_keeper.specs.declared.fault.KeeperFault.{KeeperFault}
use Rattle.lift_keeper.specs.declared.fault.KeeperFault.TheVariants.{Journal}
use Rattle.lift_keeper.specs.Keeper.{KeeperView}
use Rattle.lift_world.specs.declared.event.Taken.{Taken}
use Rattle.lift_world.specs.Policies.{RunsAreAny}
use Rattle.lift_world.specs.Turns.{with_replies}
use Rattle.lift_clerk.specs.declared.counts.Counts.{Counts}
use Rattle.lift_clerk.specs.Clerk.{ClerkState}
use Rattle.lift_clerk.specs.Turn.{IsBrokenTurn}
use Rattle.lift_clerk.specs.Visits.{commands_of}
use Rattle.lift_clerk.specs.Machine.{Turns, TurnFails}
use Rattle.lift_clerk.specs.Steps.{GroupState, group_of, LeavesInDoubt, AnswersUnknown}
use Rattle.lift_clerk.specs.Steps.{TurnAdds, Safe, InDoubt, Unknown}
use Rattle.lift_clerk.specs.History.{History, Turned}
use Rattle.lift_clerk.specs.Once.{TurnsOnce}
use Rattle.lift_clerk.specs.lemmas.Committed.{turns_of, fails_of}
use Rattle.lift_clerk.specs.lemmas.Grouped.{grouped_safe, grouped_doubt, grouped_unknown}
use Rattle.lift_clerk.specs.lemmas.Served.{answers_of}
use Rattle.lift_clerk.specs.lemmas.Turned.{makes_safe}

-- what a clerk's failed turn leaves in doubt
abbrev pub leaves_in_doubt : {D P : Type 0} → (choice : Choice) → RunsAreAny choice
    → (before after : ClerkState D P) → TurnFails choice before after → LeavesInDoubt before after
leaves_in_doubt choice any before after t = record {
  may = (
    record {
      commands = commands_of 0 t.turn.visits;
      replies = t.turn.decided_so;
      decided = after.keeper.state;
      apart = (answers_of before.seat after.seat t.turn.visits
          (unknowns (commands_of 0 t.turn.visits)) t.turn.serves).apart;
      was_whole = t.was_whole;
      run = any before.keeper.writer.plan before.keeper.state (commands_of 0 t.turn.visits)
          t.turn.decided_so after.keeper.state t.turn.run;
      shows = t.turn.register;
    },
    sym t.turn.doubt,
  );
  desk = t.turn.desk;
  answers = answers_of before.seat after.seat t.turn.visits
      (unknowns (commands_of 0 t.turn.visits)) t.turn.serves;
  some = t.turn.some;
  breaks = t.breaks;
  same_register = t.same_register;
  same_plan = t.same_plan;
}

-- what a broken clerk's turn answers
abbrev pub answers_unknown : {D P : Type 0} → (before after : ClerkState D P)
    → IsBrokenTurn before after → before.keeper.writer.is_broken ≡ true
    → AnswersUnknown before after
answers_unknown {D} before after t was = record {
  commands = commands_of 0 t.visits;
  desk = t.desk;
  answers = answers_of before.seat after.seat t.visits (unknowns (commands_of 0 t.visits)) t.serves;
  was_broken = was;
  rests = ap (λ (x : KeeperView D). x.writer) t.rests;
}

-- Each turn of a clerk is one of its group: its commands are those that its looks took, in their
-- order, and their answers are its replies.
module _ {D P : Type 0} (choice : Choice) (any : RunsAreAny choice)
    (before after : ClerkState D P) where
  abbrev pub safe_adds : (counts : Counts) (t : Turns choice before after counts)
      → TurnAdds (group_of before) (group_of after) false t.turn.decided.batch t.turn.decided.batch
      (with_replies (commands_of 0 t.turn.visits) t.turn.replies)
  safe_adds counts t =
      Safe (grouped_safe before after (makes_safe choice any before after counts t))

  abbrev pub doubt_adds : (t : TurnFails choice before after)
      → TurnAdds (group_of before) (group_of after) true after.keeper.writer.doubt []
      (with_replies (commands_of 0 t.turn.visits) (unknowns (commands_of 0 t.turn.visits)))
  doubt_adds t = InDoubt (grouped_doubt before after (leaves_in_doubt choice any before after t))

  abbrev pub unknown_adds : before.keeper.writer.is_broken ≡ true → (t : IsBrokenTurn before after)
      → TurnAdds (group_of before) (group_of after) true before.keeper.writer.doubt []
      (with_replies (commands_of 0 t.visits) (unknowns (commands_of 0 t.visits)))
  unknown_adds was t = Unknown (grouped_unknown before after (answers_unknown before after t was))

  -- so it is of each, whatever it answers
  abbrev pub IsAdded : Bool → Type 0
  IsAdded fails = (batch : List Entry) × (more : List Entry) × (replied : List Taken)
      × TurnAdds (group_of before) (group_of after) fails batch more replied

  abbrev failing : KeeperFault → Result Counts KeeperFault
  failing fault = Err fault

  added_by : (state : D → DiskState) (fault : KeeperFault)
      → (fault ≡ Journal Disk) ⊎ (fault ≡ Journal Broken)
      → TurnsOnce state choice before after (failing fault) → IsAdded true
  added_by state fault (inl is) once =
      let t = fails_of state choice before after (failing fault) once.commits (ap failing is)
      (once.fails (ap failing is)) in
      (_, _, _, doubt_adds t)
  added_by state fault (inr is) once =
      let was = once.commits.is.broken.0 (ap failing is) in
      (_, _, _, unknown_adds was (once.rests (ap failing is)))

  pub added : (state : D → DiskState) (result : Result Counts KeeperFault)
      → TurnsOnce state choice before after result → IsAdded (is_err result)
  added state (Ok counts) once =
      let t = turns_of state choice before after (Ok counts) once.commits once.turns in
      (_, _, _, safe_adds counts t)
  added state (Err fault) once = added_by state fault once.commits.is.causes once

-- A turn that makes nothing safe leaves what was.
same_safe : {D : Type 0} {base : RegisterState} {after : GroupState D} {safe : List Entry}
    (replied : List Taken) → History base after (safe ++ []) replied → History base after safe replied
same_safe {D} {base} {after} {safe} replied h =
    subst (λ (es : List Entry). History base after es replied) (append-nil safe) h

module _ {D : Type 0} {base : RegisterState} {before after : GroupState D} {safe : List Entry}
    {given : List Taken} where
  pub failed : History base before safe given → (t : LeavesInDoubt before after)
      → History base after safe (given ++ with_replies t.may.0.commands (unknowns t.may.0.commands))
  failed h t = same_safe _ (Turned h (InDoubt t))

  pub turned_while_broken : History base before safe given → (t : AnswersUnknown before after)
      → History base after safe (given ++ with_replies t.commands (unknowns t.commands))
  turned_while_broken h t = same_safe _ (Turned h (Unknown t))
