-- What was received, and then what the line holds, is what was sent. One pass at most sends, and
-- one receives. Each batch goes on from the one before it.
use Rattle.std.specs.Prelude.{◌≡◌, ◌⊎◌, ℕ, true, false, List, [], ◌∷◌, ◌++◌, ◌<◌, ◌≤◌, length}
use mathlib.Core.Option.{some}
use lib.ListN.{get_elem?}
use Rattle.atomic_table.specs.Seated.{TableId}
use Rattle.lift_building.specs.Plan.{Plan}
use Rattle.lift_register.specs.Register.{empty}
use Rattle.lift_policy.specs.Step.{State}
use Rattle.lift_parts.specs.Batch.{BatchState, next_turns}
use Rattle.lift_base.specs.declared.limits.TheConstants.{MOST_BATCHES}
use Rattle.lift_relay.specs.declared.line.EndView.{EndView}
use Rattle.lift_parts.specs.Line.{most_batches, Begins, IsNextBatch, BatchesGoOn}

abbrev pub no_building : Plan
no_building = record { floors = 0; door_ms = 0; kiosks = []; flights = []; cars = [] }

abbrev pub no_state : State
no_state = record { register = empty; positions = []; batch = [] }

-- a pass of a line that hasn't begun, which has pushed these
abbrev pub opening : List BatchState → EndView
opening pushed = record {
  begun = false;
  sends = false;
  receives = false;
  sent = pushed;
  received = [];
  gone = [];
  known = [];
  building = no_building;
  desk = [];
  ahead = no_state;
  behind = no_state;
  turns_ahead = [];
  next_turns = [];
}

abbrev pub opening_view : EndView
opening_view = opening []

-- the pass once the line has begun with this batch
abbrev pub begun_with : BatchState → EndView
begun_with first = record (opening []) {
  begun = true;
  sends = true;
  receives = true;
  building = first.building;
  desk = first.desk;
  ahead = first.before;
  behind = first.before;
  turns_ahead = first.turns;
  next_turns = first.turns;
}

abbrev pub sending : EndView → EndView
sending v = record v { receives = false }

abbrev pub receiving : EndView → EndView
receiving v = record v { sends = false }

-- both passes in one, which knows what each of them knew
abbrev pub with_both_passes : EndView → EndView → EndView
with_both_passes v w = record v {
  receives = true;
  received = w.received;
  known = w.known;
  behind = w.behind;
  next_turns = w.next_turns;
}

-- the same, and each end is told where the other stands
abbrev pub told_both : EndView → EndView → EndView
told_both v w = record (with_both_passes v w) { gone = w.received; known = v.sent }

-- a pass that was taken in by another
abbrev pub spent_pass : EndView
spent_pass = record opening_view { begun = true }

-- what the line has seen so far
pub record LineLists : Type 0 where
  pub sender : ℕ
  pub receiver : ℕ
  pub sent : List BatchState
  pub received : List BatchState
  pub building : Plan
  pub desk : List TableId
  pub ahead : State
  pub behind : State
  pub turns_ahead : List ℕ
  pub next_turns : List ℕ

-- what this pass knows is so, of what it has the right to: to send, or to receive
pub record EndFits (l : LineLists) (pass : ℕ) (v : EndView) : Type 0 where
  pub begun : v.begun ≡ true
  pub sends : v.sends ≡ true → (pass ≡ l.sender) × (v.sent ≡ l.sent) × Begins v.gone l.received
      × (v.building ≡ l.building) × (v.desk ≡ l.desk) × (v.ahead ≡ l.ahead)
      × (v.turns_ahead ≡ l.turns_ahead)
  pub receives : v.receives ≡ true
      → (pass ≡ l.receiver) × (v.received ≡ l.received) × Begins v.known l.sent
      × (v.building ≡ l.building) × (v.desk ≡ l.desk) × (v.behind ≡ l.behind)
      × (v.next_turns ≡ l.next_turns)

-- What was received, and then these batches, which the line holds, is what was sent. They are four
-- at most, and each goes on from the one before it.
pub record IsLineInOrder (items : List BatchState) (views : List EndView) : Type 0 where
  pub lists : LineLists
  pub in_order : lists.sent ≡ lists.received ++ items
  pub few : length lists.sent ≤ most_batches
  pub goes_on : BatchesGoOn lists.building lists.desk lists.behind lists.next_turns items
      lists.ahead
      lists.turns_ahead
  pub fits : (pass : ℕ) (v : EndView) → get_elem? views pass ≡ some v → EndFits lists pass v
  pub four : length items ≤ MOST_BATCHES

-- the line is in order, or hasn't begun, and then one pass has pushed all that is there
abbrev pub IsLineSound : List BatchState → List EndView → Type 0
IsLineSound items views = (views ≡ opening items ∷ []) ⊎ IsLineInOrder items views

-- a batch is popped, and the line begins with it
pub record Begun (v : EndView) (batch : BatchState) (w : EndView) : Type 0 where
  pub only : v.sent ≡ batch ∷ []
  pub begins : w ≡ begun_with batch

-- before the line begins, the first batch is pushed, and then popped
abbrev pub Opened : EndView → BatchState → EndView → Type 0
Opened v batch w = ((v.sent ≡ []) × (w ≡ opening (batch ∷ []))) ⊎ Begun v batch w

-- one push: the batch comes after fewer than four others
pub record Sent (v : EndView) (batch : BatchState) (w : EndView) : Type 0 where
  pub begun : w.begun ≡ v.begun
  pub sends : w.sends ≡ v.sends
  pub receives : w.receives ≡ v.receives
  pub sent : w.sent ≡ v.sent ++ batch ∷ []
  pub building : w.building ≡ v.building
  pub desk : w.desk ≡ v.desk
  pub ahead : w.ahead ≡ batch.after
  pub turns : w.turns_ahead ≡ next_turns batch
  pub items : List BatchState
  pub few : length items < MOST_BATCHES
  pub before : w.sent ≡ w.gone ++ (items ++ batch ∷ [])
  pub later : Begins v.gone w.gone

-- one pop: the batch goes on from what was received
pub record Received (v : EndView) (batch : BatchState) (w : EndView) : Type 0 where
  pub begun : w.begun ≡ v.begun
  pub sends : w.sends ≡ v.sends
  pub receives : w.receives ≡ v.receives
  pub received : w.received ≡ v.received ++ batch ∷ []
  pub building : w.building ≡ v.building
  pub desk : w.desk ≡ v.desk
  pub next : IsNextBatch v.building v.desk v.behind v.next_turns batch
  pub behind : w.behind ≡ batch.after
  pub turns : w.next_turns ≡ next_turns batch
  pub known : Begins w.received w.known
  pub few : length w.received ≤ most_batches
  pub later : Begins v.known w.known

-- what was sent ends with what the line holds, and what was received by the last push is not among
-- it
pub record SentAllBut (v : EndView) (items : List BatchState) : Type 0 where
  pub received : List BatchState
  pub all : v.sent ≡ received ++ items
  pub later : Begins v.gone received

-- what was received begins what was sent, what the line holds goes on with it, and all that was
-- known to be sent is there
pub record ReceivedBefore (v : EndView) (items : List BatchState) : Type 0 where
  pub sent : List BatchState
  pub all : sent ≡ v.received ++ items
  pub later : Begins v.known sent

-- what the line holds, where one pass both sends and receives: just what was sent and not received,
-- at most four, each going on from the one before it
pub record HoldsUnreceived (v : EndView) (items : List BatchState) : Type 0 where
  pub all : v.sent ≡ v.received ++ items
  pub goes_on : BatchesGoOn v.building v.desk v.behind v.next_turns items v.ahead v.turns_ahead
  pub four : length items ≤ MOST_BATCHES
