-- What can happen to a group in one step, whether a clerk makes it or the flusher of its two parts.
use Rattle.std.specs.Prelude.{ℕ, ◌≡◌, ◌⊎◌, ◌<◌, Bool, true, false, List, [], length}
use Rattle.lift_base.specs.declared.history.Entry.{Entry}
use Rattle.lift_base.specs.declared.command.Reply.{Reply}
use Rattle.lift_register.specs.Register.{register_of}
use Rattle.lift_desk.specs.Seats.{view_at}
use Rattle.lift_policy.specs.declared.command.Command.{Command}
use Rattle.lift_policy.specs.Eligible.{any_eligible}
use Rattle.lift_policy.specs.Step.{State}
use Rattle.lift_policy.specs.Run.{Run, unknowns}
use Rattle.lift_keeper.specs.Keeper.{KeeperView}
use Rattle.lift_world.specs.declared.event.Taken.{Taken}
use Rattle.lift_world.specs.Turns.{with_replies}
use Rattle.lift_clerk.specs.TakenAndAnswered.{AreApart, TakesAndAnswers}
use Rattle.lift_clerk.specs.Clerk.{ClerkState}
use Rattle.lift_clerk.specs.Turn.{without_batch}

-- a clerk, whatever its policy is
abbrev pub GroupState : Type 0 → Type 0
GroupState D = ClerkState D (Unit {0})

abbrev pub group_of : {D P : Type 0} → ClerkState D P → GroupState D
group_of clerk = record {
  desk = clerk.desk;
  seat = clerk.seat;
  keeper = clerk.keeper;
  policy = tt;
}

-- While nothing has failed, the rules decide some commands on what the keeper shows, at most one of
-- each terminal. Whether they were asked is not said: what a crash leaves is shown of all of them.
pub record DecidesOn {D : Type 0} (keeper : KeeperView D) : Type 0 where
  pub commands : List Command
  pub replies : List Reply
  pub decided : State
  pub apart : AreApart commands
  pub was_whole : keeper.writer.is_broken ≡ false
  pub run : Run keeper.writer.plan any_eligible keeper.state commands replies decided
  pub shows : decided.register ≡ register_of keeper.writer.register decided.batch

-- Commands are decided, their batch is made safe, and then they have their replies, at the same
-- desk.
pub record TurnMakesSafe {D P : Type 0} (old new : ClerkState D P) : Type 0 where
  pub desk : new.desk ≡ old.desk
  pub decides : DecidesOn old.keeper
  pub answers : TakesAndAnswers old.seat new.seat decides.commands decides.replies
  pub state : new.keeper.state ≡ without_batch decides.decided
  pub safe : new.keeper.writer.register ≡ decides.decided.register
  pub is_whole : new.keeper.writer.is_broken ≡ false
  pub no_doubt : new.keeper.writer.doubt ≡ []
  pub same_plan : new.keeper.writer.plan ≡ old.keeper.writer.plan

-- The rules accept this batch on what the keeper shows, of commands that may have been asked.
abbrev pub MayAccept : {D : Type 0} → KeeperView D → List Entry → Type 0
MayAccept keeper batch = (decides : DecidesOn keeper) × (decides.decided.batch ≡ batch)

-- The rules accept a batch of some commands, and the device fails it, so that it is in doubt. Each
-- command is answered Unknown.
pub record LeavesInDoubt {D P : Type 0} (old new : ClerkState D P) : Type 0 where
  pub may : MayAccept old.keeper new.keeper.writer.doubt
  pub desk : new.desk ≡ old.desk
  pub answers : TakesAndAnswers old.seat new.seat may.0.commands (unknowns may.0.commands)
  pub some : 0 < length may.0.decided.batch
  pub breaks : new.keeper.writer.is_broken ≡ true
  pub same_register : new.keeper.writer.register ≡ old.keeper.writer.register
  pub same_plan : new.keeper.writer.plan ≡ old.keeper.writer.plan

-- After a fault each is answered Unknown, and what is safe or in doubt stays so.
pub record AnswersUnknown {D P : Type 0} (old new : ClerkState D P) : Type 0 where
  pub commands : List Command
  pub desk : new.desk ≡ old.desk
  pub answers : TakesAndAnswers old.seat new.seat commands (unknowns commands)
  pub was_broken : old.keeper.writer.is_broken ≡ true
  pub rests : new.keeper.writer ≡ old.keeper.writer

-- What a turn adds, and whether it fails: which batch is on its way in it, what is safe after it,
-- and which commands it answers, and how.
pub data TurnAdds {D : Type 0} (before after : GroupState D) : (fails : Bool)
    → (batch more : List Entry) → List Taken → Type 0 where
  -- It makes its batch safe, and then gives its replies.
  Safe : (t : TurnMakesSafe before after) → TurnAdds before after false t.decides.decided.batch
      t.decides.decided.batch (with_replies t.decides.commands t.decides.replies)
  -- The device fails it: its batch is in doubt, and nothing more is safe.
  InDoubt : (t : LeavesInDoubt before after) → TurnAdds before after true
      after.keeper.writer.doubt [] (with_replies t.may.0.commands (unknowns t.may.0.commands))
  -- It comes after a fault: there is what is in doubt.
  Unknown : (t : AnswersUnknown before after) → TurnAdds before after true
      before.keeper.writer.doubt [] (with_replies t.commands (unknowns t.commands))

-- Nothing is taken, answered or made safe, and the desk is the same. What a keeper shows stays while
-- nothing has failed; once something has, it is no matter.
pub record ClerkRests {D P : Type 0} (old new : ClerkState D P) : Type 0 where
  pub desk : new.desk ≡ old.desk
  pub words : (t : ℕ) → ((view_at new.seat t).taken ≡ (view_at old.seat t).taken)
      × ((view_at new.seat t).answered ≡ (view_at old.seat t).answered)
  pub state : new.keeper.writer.is_broken ≡ false → new.keeper.state ≡ old.keeper.state
  pub register : new.keeper.writer.register ≡ old.keeper.writer.register
  pub doubt : new.keeper.writer.doubt ≡ old.keeper.writer.doubt
  pub plan : new.keeper.writer.plan ≡ old.keeper.writer.plan
  pub broken : (new.keeper.writer.is_broken ≡ true)
      ⊎ (new.keeper.writer.is_broken ≡ old.keeper.writer.is_broken)

-- At most this batch is on its way to the device: the one in doubt, or one that the rules accept of
-- commands that may have been asked.
abbrev pub MayAdd : {D : Type 0} → KeeperView D → List Entry → Type 0
MayAdd keeper batch = (batch ≡ keeper.writer.doubt) ⊎ MayAccept keeper batch
