-- The part that takes and decides, ahead of the answers.
use Rattle.std.specs.Prelude.{ℕ, ◌≡◌, ◌≢◌, ◌≤◌, ◌+◌, ◌⊎◌, List, [], ◌∷◌, ◌++◌, length, true, false}
use Rattle.atomic_table.specs.Seated.{TableId}
use Rattle.lift_building.specs.Plan.{Plan}
use Rattle.lift_desk.specs.Seats.{ClerkPlace, IsClerkOf}
use Rattle.lift_policy.specs.Eligible.{Choice}
use Rattle.lift_policy.specs.Step.{State}
use Rattle.lift_policy.specs.Run.{Run}
use Rattle.lift_clerk.specs.declared.counts.Counts.{Counts}
use Rattle.lift_clerk.specs.Turn.{without_batch}
use Rattle.lift_clerk.specs.Visits.{Visit, AreLooksAt, commands_of, looked_at}
use Rattle.lift_parts.specs.Batch.{BatchState, next_turns, turns_of, commands_in}
use Rattle.lift_parts.specs.Batch.{replies_in, noted_in}
use Rattle.lift_parts.specs.Line.{SendState, Tries, tried, Begins, IsNextBatch, WasFull}
use Rattle.lift_parts.specs.Scan.{TakesAt, turns_in, words_of}

pub record AllocatorState (P : Type 0) : Type 0 where
  pub desk : List TableId
  -- its seats, ahead of those that answer
  pub seat : List ClerkPlace
  pub plan : Plan
  -- what it decides on, and what its decisions began on
  pub state : State
  pub start : State
  pub policy : P
  -- its end of the line
  pub end : SendState
  -- a batch that the line had no room for, if there is one
  pub hand : List BatchState

-- Each of these batches was decided by the rules on the state that those before it left: its
-- commands with their replies are a run, and its entries what that run accepted.
abbrev pub DecidesAlong : Plan → Choice → State → List BatchState → State → Type 0
DecidesAlong plan choice state [] last = last ≡ state
DecidesAlong plan choice state (batch ∷ batches) last =
    (decided : State) × Run plan choice state (commands_in batch.commands)
    (replies_in batch.commands) decided
    × (batch.entries ≡ decided.batch)
    × DecidesAlong plan choice (without_batch decided) batches last

-- where the batches go on from what was sent: after a batch in hand
abbrev pub GoesOnAfter : Plan → List TableId → State → List ℕ → List BatchState → State → List ℕ → Type 0
GoesOnAfter plan desk sent turns [] shown taken = (shown ≡ sent) × (taken ≡ turns)
GoesOnAfter plan desk sent turns (batch ∷ []) shown taken = IsNextBatch plan desk sent turns batch
    × (shown ≡ batch.after) × (taken ≡ next_turns batch)
GoesOnAfter plan desk sent turns (batch ∷ other ∷ batches) shown taken = ⊥

-- What is true of every allocator: what was sent, and then the batch in hand, is a run of the
-- rules.
pub record IsAllocator {P : Type 0} (choice : Choice) (a : AllocatorState P) : Type 0 where
  pub seated : IsClerkOf a.desk a.seat
  pub of_building : a.end.building ≡ a.plan
  pub at_desk : a.end.desk ≡ a.desk
  pub all_sealed : a.state.batch ≡ []
  pub decides : DecidesAlong a.plan choice a.start (a.end.sent ++ a.hand) a.state
  pub goes_on : GoesOnAfter a.plan a.desk a.end.state a.end.turns a.hand a.state
      (turns_of a.seat)
  -- each batch took a turn of some terminal
  pub few : length a.end.sent + length a.hand ≤ turns_in a.seat

-- The batch in hand was tried once, and refused, since the line was full at that try: nothing is
-- looked at, and the batch stays in hand.
pub record IsFullTurn {P : Type 0} (old new : AllocatorState P) (counts : Counts) : Type 0 where
  pub in_hand : old.hand ≢ []
  pub was_full : WasFull old.end
  pub same : new ≡ record old { end = record old.end { tries = tried old.end.tries true } }
  pub counted : (counts.taken ≡ 0) × (counts.accepted ≡ 0)

-- the tries of an end once a batch in hand was sent, if there is one
abbrev pub tries_after : List BatchState → Tries → Tries
tries_after [] tries = tries
tries_after (batch ∷ batches) tries = tried tries false

-- The batch in hand was sent, if there was one. Then each terminal was looked at once, and what was
-- asked there was decided, by rising terminal, each command with a note of the word that its look
-- took. Where something was taken it is one batch more, sent or in hand.
pub record IsScanTurn {P : Type 0} (choice : Choice) (old new : AllocatorState P)
    (counts : Counts) : Type 0 where
  pub visits : List Visit
  pub batch : BatchState
  pub decided : State
  pub each_once : length visits ≡ length old.desk
  pub takes : AreLooksAt TakesAt old.seat visits
  pub looked : new.seat ≡ looked_at old.seat visits
  pub commands : commands_in batch.commands ≡ commands_of 0 visits
  pub notes : noted_in batch.commands ≡ words_of visits
  pub run : Run old.plan choice old.state (commands_of 0 visits) (replies_in batch.commands) decided
  pub entries : batch.entries ≡ decided.batch
  pub after : new.state ≡ without_batch decided
  pub nothing : commands_of 0 visits ≡ [] → (new.end.sent ++ new.hand ≡ old.end.sent ++ old.hand)
      × (new.hand ≡ [])
  pub some : commands_of 0 visits ≢ []
      → new.end.sent ++ new.hand ≡ (old.end.sent ++ old.hand) ++ batch ∷ []
  pub sent : Begins (old.end.sent ++ old.hand) new.end.sent
  -- a batch stays in hand only where it was tried after that, and refused
  pub full : new.hand ≢ [] → WasFull new.end
  pub refused : new.hand ≢ [] → new.end.tries ≡ tried (tries_after old.hand old.end.tries) true
  pub same_place : (new.desk ≡ old.desk) × (new.plan ≡ old.plan) × (new.policy ≡ old.policy)
      × (new.start ≡ old.start) × (new.end.line ≡ old.end.line)
  pub taken : counts.taken ≡ length (commands_of 0 visits)
  pub accepted : counts.accepted ≡ length decided.batch
  pub later : Begins old.end.gone new.end.gone

abbrev pub IsAllocation : {P : Type 0} → Choice → (old new : AllocatorState P) → Counts → Type 0
IsAllocation choice old new counts = IsFullTurn old new counts ⊎ IsScanTurn choice old new counts
