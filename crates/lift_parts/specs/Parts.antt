-- A clerk in two parts, and the parts together again.
use Rattle.std.specs.Prelude.{◌≡◌, ◌⊎◌, true, []}
use Rattle.lift_desk.specs.Seats.{OwesNothing, ahead_from, with_looks_of}
use Rattle.lift_clerk.specs.Clerk.{ClerkState}
use Rattle.lift_clerk.specs.Turn.{without_batch}
use Rattle.lift_parts.specs.Allocator.{AllocatorState}
use Rattle.lift_parts.specs.Flusher.{FlusherState}

-- the parts of a clerk, with nothing sent
pub record AreParts {D P : Type 0} (clerk : ClerkState D P) (a : AllocatorState P)
    (f : FlusherState D) : Type 0 where
  pub desks : (a.desk ≡ clerk.desk) × (f.desk ≡ clerk.desk)
  pub ahead : a.seat ≡ ahead_from clerk.seat
  pub seat : f.seat ≡ clerk.seat
  pub plan : a.plan ≡ clerk.keeper.writer.plan
  pub state : a.state ≡ without_batch clerk.keeper.state
  pub start : a.start ≡ a.state
  pub policy : a.policy ≡ clerk.policy
  pub writer : f.writer ≡ clerk.keeper.writer
  pub line : f.end.line ≡ a.end.line
  pub behind : f.end.state ≡ a.state
  pub nothing_sent : (a.end.sent ≡ []) × (a.end.gone ≡ []) × (f.end.received ≡ [])
      × (f.end.known ≡ []) × (a.hand ≡ [])

-- both are at the ends of one line, at one desk and of one building, as a split makes them and each
-- turn leaves them
pub record AreOfOne {D P : Type 0} (a : AllocatorState P) (f : FlusherState D) : Type 0 where
  pub line : f.end.line ≡ a.end.line
  pub desk : f.desk ≡ a.desk
  pub plan : f.writer.plan ≡ a.plan

-- The clerk of both parts: it shows all that was sent, and, where nothing has failed, all of that
-- is safe.
pub record IsRejoined {D P : Type 0} (a : AllocatorState P) (f : FlusherState D)
    (clerk : ClerkState D P) : Type 0 where
  pub desk : clerk.desk ≡ a.desk
  -- the flusher's seats, which count the looks of the allocator's too
  pub seat : clerk.seat ≡ with_looks_of a.seat f.seat
  pub state : clerk.keeper.state ≡ a.state
  pub writer : clerk.keeper.writer ≡ f.writer
  pub policy : clerk.policy ≡ a.policy
  -- the very batches, and not as many alone
  pub all_received : a.end.sent ≡ f.end.received
  pub nothing_in_hand : a.hand ≡ []
  pub all_answered : OwesNothing f.seat
  pub all_safe : (f.writer.is_broken ≡ true) ⊎ (a.state.register ≡ f.writer.register)
  -- what the flusher has received is all that the allocator decides on
  pub same_state : a.state ≡ f.end.state
