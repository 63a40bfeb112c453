-- What holds at each point of every run.
use Rattle.std.specs.Prelude.{ℕ, ◌≡◌, ◌≢◌, ◌<◌, ◌≤◌, ◌+◌, ◌⊎◌, true, false, List, [], ◌∷◌, ◌++◌}
use Rattle.std.specs.Prelude.{length, map, filter, count_by, All, Contains, IsTrue, Option, Some}
use Rattle.std.specs.Option.{option_to_list}
use Rattle.lift_base.specs.History.{terminal_of}
use Rattle.lift_base.specs.declared.history.Entry.{Entry}
use Rattle.lift_base.specs.declared.history.Entry.TheVariants.{Allot}
use Rattle.lift_base.specs.declared.history.Last.{Last}
use Rattle.lift_base.specs.declared.history.Row.{Row}
use Rattle.lift_building.specs.Plan.{Plan}
use Rattle.lift_register.specs.Prelude.{RegisterState, rows_of, last_of, kept_of, waiting_row}
use Rattle.lift_register.specs.Prelude.{register_of}
use Rattle.lift_register.specs.Fits.{IsPossibleLast}
use Rattle.lift_register.specs.Register.{Call, calls_of, status}
use Rattle.lift_register.specs.Status.{Done}
use Rattle.lift_stops.specs.StopList.{StopsInOrder}
use Rattle.lift_base.specs.declared.limits.TheConstants.{MOST_BATCHES, MOST_CARS, MOST_ENTRIES, MOST_TERMINALS}
use Rattle.lift_world.specs.declared.event.Kept.{Kept}
use Rattle.lift_world.specs.declared.event.Phase.TheVariants.{Idle}
use Rattle.lift_world.specs.declared.event.Power.TheVariants.{Running}
use Rattle.lift_world.specs.declared.event.Answer.{Answer}
use Rattle.lift_world.specs.declared.event.Taken.{Taken}
use Rattle.lift_world.specs.declared.event.Event.{Event}
use Rattle.lift_world.specs.declared.event.Event.TheVariants.{Ask, Take, Reopen}
use Rattle.lift_world.specs.World.{World, SealedBatch, no_batch, unplaced, outcome}
use Rattle.lift_world.specs.World.{may_keep, acknowledged, is_off, asks, is_taken_of, is_answer_to}
use Rattle.lift_world.specs.Next.{next, answer_of, unanswered}

-- a register of the building, with places for all cars and terminals: the building allows what
-- each terminal said last
pub record IsOfBuilding (building : Plan) (register : RegisterState) : Type 0 where
  pub row_count : length register.rows ≡ MOST_CARS
  pub last_count : length register.lasts ≡ MOST_TERMINALS
  pub lasts : (terminal : ℕ) (last : Last) → last_of register terminal ≡ Some last
      → IsPossibleLast building terminal last.content

-- the journal began with this entry as its terminal's last command
abbrev pub WasLast : RegisterState → Entry → Type 0
WasLast base entry = last_of base (terminal_of entry) ≡ Some (kept_of entry)

-- this entry is held: it is one of these, or the journal began with it
abbrev pub IsHeld : RegisterState → List Entry → Entry → Type 0
IsHeld base entries entry = Contains entries entry ⊎ WasLast base entry

-- the row is that of this call, whose passengers wait or are aboard
abbrev pub IsRowOf : Row → (kiosk number from to car party : ℕ) → Type 0
IsRowOf row kiosk number from to car party =
    record row { aboard = false } ≡ waiting_row kiosk number from to car party

-- the call is open as a row of that car, whose remaining stops stand in the car's list in order
-- wherever the car is
pub record IsOpenWith (base : RegisterState) (entries : List Entry)
    (kiosk number from to car party : ℕ) : Type 0 where
  pub row : Row
  pub is : IsRowOf row kiosk number from to car party
  pub is_open : Contains (rows_of (register_of base entries) car) row
  pub in_order : StopsInOrder (rows_of (register_of base entries) car) row

-- the call is done: it is one that the car had or was given, and counts as done
pub record IsDone (base : RegisterState) (entries : List Entry)
    (kiosk number from to car party : ℕ) : Type 0 where
  pub call : Call
  pub is : IsRowOf call.row kiosk number from to car party
  pub is_counted : Contains (calls_of base entries car) call
  pub is_done : status call ≡ Done

-- the call was done before: the journal began with its letter, and without a row of it at that car
pub record WasDone (base : RegisterState) (kiosk number from to car party : ℕ) : Type 0 where
  pub was_last : WasLast base (Allot kiosk number from to car party)
  pub no_row : (row : Row) → Contains (rows_of base car) row
      → ¬ IsRowOf row kiosk number from to car party

-- the letter that was shown for this call still names its car
abbrev pub StillNames : RegisterState → List Entry → Entry → Type 0
StillNames base entries (Allot kiosk number from to car party) =
    IsOpenWith base entries kiosk number from to car party
    ⊎ IsDone base entries kiosk number from to car party
    ⊎ WasDone base kiosk number from to car party
StillNames base entries other = Unit {0}

abbrev pub IsPrefixOf : List Entry → List Entry → Type 0
IsPrefixOf xs ys = (rest : List Entry) × (xs ++ rest ≡ ys)

-- What was accepted stays in its order. Each recovery gives a prefix of it, and a reopening keeps
-- the one that it recovers. A take adds at most one entry, and no other event changes it. The
-- building and what the journal began with never change.
pub record AcceptsInOrder (w : World) : Type 0 where
  pub prefixes : (kept : Kept) → IsTrue (may_keep w kept) → IsPrefixOf (outcome w kept) w.accepted
  pub reopenings : (kept : Kept) (after : World) → next w (Reopen kept) ≡ Some after
      → after.accepted ≡ outcome w kept
  pub takes : (terminal : ℕ) (letter : Option ℕ) (after : World)
      → next w (Take terminal letter) ≡ Some after
      → (entry : Option Entry) × (after.accepted ≡ w.accepted ++ option_to_list entry)
  pub others : (event : Event) (after : World)
      → ((terminal : ℕ) (letter : Option ℕ) → event ≢ Take terminal letter)
      → ((kept : Kept) → event ≢ Reopen kept) → next w event ≡ Some after
      → after.accepted ≡ w.accepted
  pub same_journal : (event : Event) (after : World) → next w event ≡ Some after
      → (after.building ≡ w.building) × (after.base ≡ w.base)

-- each recovery holds each acknowledged entry
abbrev pub RecoversAcknowledged : World → Type 0
RecoversAcknowledged w = (kept : Kept) → IsTrue (may_keep w kept)
    → All (IsHeld w.base (outcome w kept)) (acknowledged w)

-- and each letter that was shown
abbrev pub RecoversLetters : World → Type 0
RecoversLetters w = (kept : Kept) → IsTrue (may_keep w kept)
    → All (StillNames w.base (outcome w kept)) (acknowledged w)

-- what each terminal heard is, in order and each once, the first of what it was answered since the
-- last power cut
abbrev pub HearsInOrder : World → Type 0
HearsInOrder w = (terminal : ℕ)
    → (rest : List Answer) × (filter (is_answer_to terminal) w.heard ++ rest
    ≡ filter (is_answer_to terminal) w.answered)

-- what is sealed is a prefix of what is accepted
abbrev pub SealsAccepted : World → Type 0
SealsAccepted w = w.sealed ≤ length w.accepted

-- what was stored since the last power cut is, one for one and in order, the answers of the last
-- commands given
pub record StoresGiven (w : World) : Type 0 where
  pub before : List Taken
  pub since : List Taken
  pub given : w.given ≡ before ++ since
  pub answered : w.answered ≡ map answer_of since

-- at most five batches are queued, and at most four while something is taken
pub record QueuesFew (w : World) : Type 0 where
  pub queued : length w.queue ≤ MOST_BATCHES + 1
  pub in_hand : w.taken ≢ [] → length w.queue ≤ MOST_BATCHES

-- where no batch is being written, none is in flight or in doubt
abbrev pub FliesNothingWhileIdle : World → Type 0
FliesNothingWhileIdle w = w.phase ≡ Idle → w.flight ≡ no_batch

-- while running a reopening, wherever it is possible, unplaces the cars and changes nothing else
abbrev pub ReopensInPlace : World → Type 0
ReopensInPlace w = (kept : Kept) (after : World) → w.power ≡ Running
    → next w (Reopen kept) ≡ Some after → after ≡ record w { positions = unplaced }

-- no command is on its way
pub record HoldsNothing (w : World) : Type 0 where
  pub nothing_flies : w.flight.commands ≡ []
  pub nothing_queued : w.queue ≡ []
  pub nothing_taken : w.taken ≡ []
  pub nothing_due : w.due ≡ []

abbrev pub HoldsNothingWhileOff : World → Type 0
HoldsNothingWhileOff w = is_off w.power ≡ true → HoldsNothing w

-- a terminal was answered at most what it asked, those on their way counted too, of which there is
-- at most one; and it asked at most one more than it heard
pub record AsksOneByOne (w : World) (terminal : ℕ) : Type 0 where
  pub answered : count_by (is_answer_to terminal) w.answered + count_by (is_taken_of terminal)
      (unanswered w) ≤ count_by (asks terminal) w.asked
  pub one_on_its_way : count_by (is_taken_of terminal) (unanswered w) ≤ 1
  pub asked : count_by (asks terminal) w.asked ≤ count_by (is_answer_to terminal) w.heard + 1

abbrev pub AllAskOneByOne : World → Type 0
AllAskOneByOne w = (terminal : ℕ) → AsksOneByOne w terminal

-- an ask is of one of the terminals
abbrev pub IsOfTerminal : Event → Type 0
IsOfTerminal (Ask terminal number body) = terminal < MOST_TERMINALS
IsOfTerminal event = Unit {0}

-- no more commands are on their way than there are terminals, and so no batch holds more
pub record HoldsFew (w : World) : Type 0 where
  pub on_their_way : length (unanswered w) ≤ MOST_TERMINALS
  pub batches : All (λ (b : SealedBatch). length b.commands ≤ MOST_ENTRIES) (w.flight ∷ w.queue)
