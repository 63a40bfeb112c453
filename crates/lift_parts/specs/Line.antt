-- The two ends as contracts see them.
use Rattle.std.specs.Prelude.{◌≡◌, ℕ, Bool, true, false, not, List, [], ◌∷◌, ◌++◌, ◌<◌, ◌≤◌, ◌*◌, length}
use Rattle.atomic_table.specs.Seated.{TableId}
use Rattle.lift_base.specs.declared.limits.TheConstants.{MOST_BATCHES, MOST_TERMINALS}
use Rattle.lift_building.specs.Plan.{Plan}
use Rattle.lift_policy.specs.Step.{State}
use Rattle.lift_parts.specs.Batch.{BatchState, next_turns}

-- each batch takes a turn of some terminal, of which each has 1,048,575
abbrev pub most_batches : ℕ
most_batches = MOST_TERMINALS * 1048575

-- An end's tries on its line: whether it has made an odd number of them, and whether the last one
-- was refused. Each push or pop that is tried counts, and nothing else does.
pub record Tries : Type 0 where
  pub odd : Bool
  pub refused : Bool

abbrev pub no_tries : Tries
no_tries = record { odd = false; refused = false }

-- one try more, which was refused or went through
abbrev pub tried : Tries → Bool → Tries
tried tries refused = record { odd = not tries.odd; refused = refused }

-- the end that sends
pub record SendState : Type 0 where
  pub line : TableId
  pub sent : List BatchState
  -- what was received by the last push
  pub gone : List BatchState
  pub building : Plan
  pub desk : List TableId
  -- what decisions read after all that was sent, and the turns of the terminals
  pub state : State
  pub turns : List ℕ
  -- its pushes
  pub tries : Tries

-- the end that receives
pub record ReceiveState : Type 0 where
  pub line : TableId
  pub received : List BatchState
  -- what was sent by the last pop
  pub known : List BatchState
  pub building : Plan
  pub desk : List TableId
  -- what decisions read after all that was received, and the turns of the terminals
  pub state : State
  pub turns : List ℕ
  -- its pops
  pub tries : Tries

-- the second list goes on where the first ends
abbrev pub Begins : List BatchState → List BatchState → Type 0
Begins first whole = (rest : List BatchState) × (whole ≡ first ++ rest)

-- the batch was decided in this building, at this desk, on this state, and taken after these turns
pub record IsNextBatch (building : Plan) (desk : List TableId) (state : State)
    (turns : List ℕ) (batch : BatchState) : Type 0 where
  pub of_building : batch.building ≡ building
  pub at_desk : batch.desk ≡ desk
  pub on_state : batch.before ≡ state
  pub on_turns : batch.turns ≡ turns

-- each of these batches goes on from the state and the turns that those before it leave, from these
-- to those
abbrev pub BatchesGoOn : Plan → List TableId → State → List ℕ → List BatchState → State
    → List ℕ → Type 0
BatchesGoOn building desk first turns [] last ended = (first ≡ last) × (turns ≡ ended)
BatchesGoOn building desk first turns (batch ∷ batches) last ended =
    IsNextBatch building desk first turns batch
    × BatchesGoOn building desk batch.after (next_turns batch) batches last ended

-- a new line, which goes on from where this batch was decided
pub record IsLine (first : BatchState) (sender : SendState) (receiver : ReceiveState) : Type 0 where
  pub same : receiver.line ≡ sender.line
  pub sender_is : sender ≡ record {
    line = sender.line;
    sent = [];
    gone = [];
    building = first.building;
    desk = first.desk;
    state = first.before;
    turns = first.turns;
    tries = no_tries;
  }
  pub receiver_is : receiver ≡ record {
    line = receiver.line;
    received = [];
    known = [];
    building = first.building;
    desk = first.desk;
    state = first.before;
    turns = first.turns;
    tries = no_tries;
  }

-- the batch joins at the back, after fewer than four that weren't received
pub record SendsOne (old : SendState) (batch : BatchState) (new : SendState) : Type 0 where
  pub same : (new.line ≡ old.line) × (new.building ≡ old.building) × (new.desk ≡ old.desk)
  pub sends : new.sent ≡ old.sent ++ batch ∷ []
  pub state : new.state ≡ batch.after
  pub turns : new.turns ≡ next_turns batch
  pub items : List BatchState
  pub few : length items < MOST_BATCHES
  pub before : new.sent ≡ new.gone ++ (items ++ batch ∷ [])
  pub later : Begins old.gone new.gone
  pub tries : new.tries ≡ tried old.tries false

-- the batch leaves at the front, it goes on from what was received, and what comes after it was
-- sent
pub record ReceivesOne (old : ReceiveState) (batch : BatchState) (new : ReceiveState) : Type 0 where
  pub same : (new.line ≡ old.line) × (new.building ≡ old.building) × (new.desk ≡ old.desk)
  pub next : IsNextBatch old.building old.desk old.state old.turns batch
  pub receives : new.received ≡ old.received ++ batch ∷ []
  pub state : new.state ≡ batch.after
  pub turns : new.turns ≡ next_turns batch
  pub known : Begins new.received new.known
  pub few : length new.received ≤ most_batches
  pub later : Begins old.known new.known
  pub tries : new.tries ≡ tried old.tries false

-- at one moment since this end's last push four of these batches were in the line, and at least what
-- was received by that push had left it
pub record WasFull (s : SendState) : Type 0 where
  pub items : List BatchState
  pub four : length items ≡ MOST_BATCHES
  pub received : List BatchState
  pub all : s.sent ≡ received ++ items
  pub later : Begins s.gone received

-- The end tried once more to send, and was refused: at some moment since its last push the line was
-- full. That try alone changes anything.
pub record FindsNoRoom (old new : SendState) : Type 0 where
  pub tries : new ≡ record old { tries = tried old.tries true }
  pub was_full : WasFull old

-- It tried once more to receive, where the line was empty: at one moment since its last pop all that
-- had been sent had left it.
pub record FindsNone (old new : ReceiveState) : Type 0 where
  pub tries : new ≡ record old { tries = tried old.tries true }
  pub was_empty : Begins old.known old.received
