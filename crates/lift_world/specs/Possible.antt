-- Which events are possible where.
use Rattle.std.specs.Prelude.{ℕ, ◌≡◌, ◌≢◌, ◌⊎◌, ◌<◌, ◌≤◌, ◌+◌, ◌*◌, Bool, true, false, List, []}
use Rattle.std.specs.Prelude.{◌∷◌, ◌++◌, length, map, filter, replicate, count_by, Contains, Option}
use Rattle.std.specs.Prelude.{Some, None, find, IsTrue}
use Rattle.std.specs.List.{AllByRecursion}
use Rattle.lift_base.specs.declared.command.Body.{Body}
use Rattle.lift_base.specs.declared.limits.TheConstants.{MOST_BATCHES}
use Rattle.lift_world.specs.declared.event.Kept.{Kept}
use Rattle.lift_world.specs.declared.event.Kept.TheVariants.{Safe, WithBatch}
use Rattle.lift_world.specs.declared.event.Phase.TheVariants.{Idle, Writing, Synced, GateWritten}
use Rattle.lift_world.specs.declared.event.Power.TheVariants.{Running, Broken, Off}
use Rattle.lift_world.specs.declared.event.Taken.{Taken}
use Rattle.lift_world.specs.declared.event.Answer.{Answer}
use Rattle.lift_world.specs.declared.event.Event.{Event}
use Rattle.lift_world.specs.declared.event.Event.TheVariants.{Ask, Take, Seal, Pull, Fold}
use Rattle.lift_world.specs.declared.event.Event.TheVariants.{Body as BodyWrite, FirstSync, Gate}
use Rattle.lift_world.specs.declared.event.Event.TheVariants.{SecondSync, Answer as Answering, Hear}
use Rattle.lift_world.specs.declared.event.Event.TheVariants.{Cut, Reopen}
use Rattle.lift_world.specs.World.{World, SealedBatch, no_batch, unplaced, is_off, is_taken_of}
use Rattle.lift_world.specs.World.{is_answer_to, asks, outcome, acknowledged}
use Rattle.lift_base.specs.declared.travel.Position.{Position}
use Rattle.lift_base.specs.declared.travel.Dir.{Dir}
use Rattle.lift_base.specs.declared.travel.Stop.{Stop}
use Rattle.lift_base.specs.declared.history.Entry.TheVariants.{Allot, Stop as Stopping}
use Rattle.lift_base.specs.declared.command.Body.TheVariants.{Call, Stop as StopBody}
use Rattle.lift_base.specs.declared.command.Reply.TheVariants.{Car, Stopped}
use Rattle.lift_policy.specs.Terminals.{kiosk_floor}
use Rattle.lift_world.specs.Next.{sectors_for_body, next, run, asking, unanswered, unknown_to}
use Rattle.lift_world.specs.Next.{writes_before_sync, in_phase, settling, hearing, cutting}
use Rattle.lift_world.specs.Next.{reopened, answering}

-- the power may fail at any moment and leave the safe list
abbrev pub CutsToSafe : World → Type 0
CutsToSafe w = next w (Cut Safe) ≡ Some (cutting w Safe)

-- it may leave the batch in flight too exactly where the batch's gate was written
pub record CutsWithBatch (w : World) : Type 0 where
  pub written : w.phase ≡ GateWritten → next w (Cut WithBatch) ≡ Some (cutting w WithBatch)
  pub unwritten : w.phase ≢ GateWritten → next w (Cut WithBatch) ≡ None

-- what a cut leaves: what was accepted, what of it is safe, the batch in doubt with its phase, and
-- what was given. All else is gone: the words, the queue, what was taken or due, and where the cars
-- are.
pub record IsCutTo (w : World) (kept : Kept) (after : World) : Type 0 where
  pub off : after.power ≡ Off kept
  pub same_accepted : after.accepted ≡ w.accepted
  pub same_safe : after.safe ≡ w.safe
  pub same_sealed : after.sealed ≡ w.sealed
  pub same_phase : after.phase ≡ w.phase
  pub in_doubt : after.flight ≡ record { commands = []; upto = w.flight.upto }
  pub same_given : after.given ≡ w.given
  pub nothing_asked : after.asked ≡ []
  pub nothing_answered : after.answered ≡ []
  pub nothing_heard : after.heard ≡ []
  pub nothing_queued : after.queue ≡ []
  pub nothing_taken : after.taken ≡ []
  pub nothing_due : after.due ≡ []
  pub no_car_placed : after.positions ≡ unplaced

-- whatever cut is possible leaves this
abbrev pub CutsGive : World → Type 0
CutsGive w = (kept : Kept) (after : World) → next w (Cut kept) ≡ Some after → IsCutTo w kept after

-- after a cut its own recovery is possible, which gives just what that cut left
pub record ReopensAfterCut (w : World) : Type 0 where
  pub opens : (kept : Kept) (after : World) → next w (Cut kept) ≡ Some after
      → next after (Reopen kept) ≡ Some (reopened after kept)
  pub gives : (kept : Kept) (after : World) → next w (Cut kept) ≡ Some after
      → (reopened after kept).accepted ≡ outcome w kept

-- until then only that recovery or a further cut
abbrev pub OnlyReopensAfterCut : World → Type 0
OnlyReopensAfterCut w = (last : Kept) (event : Event) (after : World) → w.power ≡ Off last
    → next w event ≡ Some after
    → ((kept : Kept) × (event ≡ Cut kept)) ⊎ (event ≡ Reopen last)

-- what a reopening leaves: the recovered list, all of it safe, no batch and no car placed. Each
-- command that was taken and not sealed gets Unknown, as those do that a fault made due; what
-- terminals asked and heard stays.
pub record IsReopened (w : World) (kept : Kept) (after : World) : Type 0 where
  pub running : after.power ≡ Running
  pub accepted : after.accepted ≡ outcome w kept
  pub all_safe : after.safe ≡ length (outcome w kept)
  pub all_sealed : after.sealed ≡ length (outcome w kept)
  pub idle : after.phase ≡ Idle
  pub nothing_flies : after.flight ≡ no_batch
  pub nothing_queued : after.queue ≡ []
  pub nothing_taken : after.taken ≡ []
  pub no_car_placed : after.positions ≡ unplaced
  pub answers_unknown : after.due ≡ w.due ++ map unknown_to w.taken
  pub same_asked : after.asked ≡ w.asked
  pub same_answered : after.answered ≡ w.answered
  pub same_heard : after.heard ≡ w.heard
  pub same_given : after.given ≡ w.given

-- after a fault a reopening is possible once no batch is queued, by the same rule as a cut
pub record ReopensAfterFault (w : World) : Type 0 where
  pub safe : w.power ≡ Broken → w.queue ≡ [] → next w (Reopen Safe) ≡ Some (reopened w Safe)
  pub with_batch : w.power ≡ Broken → w.queue ≡ [] → w.phase ≡ GateWritten
      → next w (Reopen WithBatch) ≡ Some (reopened w WithBatch)
  pub unwritten : w.power ≡ Broken → w.phase ≢ GateWritten → next w (Reopen WithBatch) ≡ None
  pub queued : (kept : Kept) → w.power ≡ Broken → w.queue ≢ [] → next w (Reopen kept) ≡ None
  pub drains : w.power ≡ Broken → (run (replicate (length w.queue) Pull) w).queue ≡ []

-- whatever reopening is possible, after a cut, after a fault or while running, leaves this
abbrev pub ReopeningsGive : World → Type 0
ReopeningsGive w = (kept : Kept) (after : World) → next w (Reopen kept) ≡ Some after
    → IsReopened w kept after

-- no batch is in flight or queued, and nothing is taken
pub record IsQuiet (w : World) : Type 0 where
  pub idle : w.phase ≡ Idle
  pub nothing_queued : w.queue ≡ []
  pub nothing_taken : w.taken ≡ []

-- while running a reopening is possible exactly there, with the safe list alone
pub record ReopensWhileQuiet (w : World) : Type 0 where
  pub safe : w.power ≡ Running → IsQuiet w → next w (Reopen Safe) ≡ Some (reopened w Safe)
  pub only_quiet : (kept : Kept) (after : World) → w.power ≡ Running
      → next w (Reopen kept) ≡ Some after → IsQuiet w
  pub only_safe : w.power ≡ Running → next w (Reopen WithBatch) ≡ None

-- a terminal may ask exactly where it has heard an answer to each of its asks
pub record AsksOnceHeard (w : World) : Type 0 where
  pub heard_all : (terminal number : ℕ) (body : Body) → is_off w.power ≡ false
      → count_by (asks terminal) w.asked ≡ count_by (is_answer_to terminal) w.heard
      → next w (Ask terminal number body)
      ≡ Some (asking w (record { terminal = terminal; number = number; body = body }))
  pub waits : (terminal number : ℕ) (body : Body)
      → count_by (asks terminal) w.asked ≢ count_by (is_answer_to terminal) w.heard
      → next w (Ask terminal number body) ≡ None

-- a terminal hears the first of the answers that it hasn't heard, exactly where there is one
pub record HearsTheNext (w : World) : Type 0 where
  pub hears : (terminal : ℕ) (answer : Answer) (later : List Answer) → is_off w.power ≡ false
      → filter (is_answer_to terminal) w.answered ≡ filter (is_answer_to terminal) w.heard ++ answer
      ∷ later → next w (Hear terminal) ≡ Some (hearing w answer)
  pub waits : (terminal : ℕ)
      → filter (is_answer_to terminal) w.answered ≡ filter (is_answer_to terminal) w.heard
      → next w (Hear terminal) ≡ None

-- the terminal can be looked at: no power failed, at most four batches are queued, and it has an
-- ask that isn't answered and wasn't taken
pub record CanBeLookedAt (w : World) (terminal : ℕ) : Type 0 where
  pub powered : is_off w.power ≡ false
  pub few_queued : length w.queue ≤ MOST_BATCHES
  pub asks_more : count_by (is_answer_to terminal) w.answered < count_by (asks terminal) w.asked
  pub not_taken : AllByRecursion (λ (c : Taken). c.terminal ≢ terminal) (unanswered w)

-- a take is possible only then
abbrev pub TakesNeedLooks : World → Type 0
TakesNeedLooks w = (terminal : ℕ) (letter : Option ℕ) (after : World)
    → next w (Take terminal letter) ≡ Some after → CanBeLookedAt w terminal

-- what was taken becomes the last batch of the queue, exactly where something was and the power is
-- on
pub record Seals (w : World) : Type 0 where
  pub seals : is_off w.power ≡ false → w.taken ≢ []
      → next w Seal ≡ Some (record w {
        queue = w.queue ++ record {
          commands = w.taken;
          upto = length w.accepted;
        } ∷ [];
        sealed = length w.accepted;
        taken = [];
      })
  pub nothing : w.taken ≡ [] → next w Seal ≡ None
  pub unpowered : is_off w.power ≡ true → next w Seal ≡ None

-- the first batch of the queue waits until none is in flight. One with entries is in flight then,
-- one without is due at once; after a fault each is due, and answered Unknown.
pub record PullsInTurn (w : World) : Type 0 where
  pub waits : w.power ≡ Running → w.phase ≢ Idle → next w Pull ≡ None
  pub nothing : w.queue ≡ [] → next w Pull ≡ None
  pub flies : (batch : SealedBatch) (rest : List SealedBatch) → w.power ≡ Running → w.phase ≡ Idle
      → w.queue ≡ batch ∷ rest → w.safe < batch.upto
      → next w Pull ≡ Some (record w { queue = rest; flight = batch; phase = Writing 0 })
  pub is_due : (batch : SealedBatch) (rest : List SealedBatch) → w.power ≡ Running → w.phase ≡ Idle
      → w.queue ≡ batch ∷ rest → batch.upto ≤ w.safe
      → next w Pull ≡ Some (record w { queue = rest; due = w.due ++ batch.commands })
  pub fails : (batch : SealedBatch) (rest : List SealedBatch) → w.power ≡ Broken
      → w.queue ≡ batch ∷ rest
      → next w Pull ≡ Some (record w { queue = rest; due = w.due ++ map unknown_to batch.commands })

-- a device call: one of a checkpoint or of a batch
abbrev pub is_device_call : Event → Bool
is_device_call Fold = true
is_device_call BodyWrite = true
is_device_call FirstSync = true
is_device_call Gate = true
is_device_call SecondSync = true
is_device_call event = false

-- Each device call has its phase, and only a running controller makes one. A checkpoint's calls
-- come before the batch is written; then the writes of its body and of the gate after it, one after
-- another; the first sync once all of these are made; the write of its gate; and the second sync,
-- which alone makes it safe. In its phase each can be made.
pub record CallsInOrder (w : World) : Type 0 where
  pub only_running : (call : Event) (after : World) → IsTrue (is_device_call call)
      → next w call ≡ Some after → w.power ≡ Running
  pub checkpoint : (after : World) → next w Fold ≡ Some after → (w.phase ≡ Writing 0) × (after ≡ w)
  pub body : (after : World) → next w BodyWrite ≡ Some after
      → (n : ℕ) × (w.phase ≡ Writing n) × (n < writes_before_sync w)
      × (after ≡ in_phase w (Writing (n + 1)))
  pub first_sync : (after : World) → next w FirstSync ≡ Some after
      → (w.phase ≡ Writing (writes_before_sync w)) × (after ≡ in_phase w Synced)
  pub gate : (after : World) → next w Gate ≡ Some after
      → (w.phase ≡ Synced) × (after ≡ in_phase w GateWritten)
  pub second_sync : (after : World) → next w SecondSync ≡ Some after
      → (w.phase ≡ GateWritten) × (after ≡ settling w)
  pub folds : w.power ≡ Running → w.phase ≡ Writing 0 → next w Fold ≡ Some w
  pub writes : (n : ℕ) → w.power ≡ Running → w.phase ≡ Writing n → n < writes_before_sync w
      → next w BodyWrite ≡ Some (in_phase w (Writing (n + 1)))
  pub syncs : w.power ≡ Running → w.phase ≡ Writing (writes_before_sync w)
      → next w FirstSync ≡ Some (in_phase w Synced)
  pub writes_gate : w.power ≡ Running → w.phase ≡ Synced
      → next w Gate ≡ Some (in_phase w GateWritten)
  pub settles : w.power ≡ Running → w.phase ≡ GateWritten → next w SecondSync ≡ Some (settling w)

-- a command that is due can be answered
abbrev pub AnswersDue : World → Type 0
AnswersDue w = (terminal : ℕ) (command : Taken) → is_off w.power ≡ false
    → find (is_taken_of terminal) w.due ≡ Some command
    → next w (Answering terminal) ≡ Some (answering w terminal command)

-- a command of that terminal which is due, answered with the reply that it gets
pub record IsAnswerDue (w : World) (terminal : ℕ) (after : World) : Type 0 where
  pub command : Taken
  pub is_due : Contains w.due command
  pub of_terminal : command.terminal ≡ terminal
  pub is : after ≡ answering w terminal command

-- nothing else is ever answered
abbrev pub AnswersOnlyDue : World → Type 0
AnswersOnlyDue w = (terminal : ℕ) (after : World) → next w (Answering terminal) ≡ Some after
    → IsAnswerDue w terminal after

-- the header and the records of a batch, sixteen bytes each, take this many sectors of 512 bytes,
-- and none of these is empty
pub record FillsSectors (count : ℕ) : Type 0 where
  pub enough : 16 * (1 + count) ≤ 512 * sectors_for_body count
  pub none_empty : 512 * sectors_for_body count < 16 * (1 + count) + 512

-- the reply that is stored is the one that the command was due with
abbrev pub StoresTheReply : World → Type 0
StoresTheReply w = (terminal : ℕ) (after : World) → next w (Answering terminal) ≡ Some after
    → (command : Taken) × Contains w.due command
    × (after.answered ≡ w.answered ++ record {
      terminal = command.terminal;
      number = command.number;
      reply = command.reply;
    } ∷ [])
    × (after.given ≡ w.given ++ command ∷ [])

-- no car has a position after a reopening
abbrev pub ReopeningsUnplace : World → Type 0
ReopeningsUnplace w = (kept : Kept) (after : World) → next w (Reopen kept) ≡ Some after
    → AllByRecursion (λ (p : Option Position). p ≡ None) after.positions

-- each `Car` and each `Stopped` that was given acknowledges its entry
abbrev pub AcknowledgesReplies : World → Type 0
AcknowledgesReplies w = (c : Taken) → Contains w.given c →
    ((to party car : ℕ) → c.body ≡ Call to party → c.reply ≡ Car car
    → Contains (acknowledged w)
    (Allot c.terminal c.number (kiosk_floor w.building c.terminal) to car party))
    × ((floor : ℕ) (dir : Dir) (stop : Option Stop) → c.body ≡ StopBody floor dir
    → c.reply ≡ Stopped stop → Contains (acknowledged w) (Stopping c.terminal c.number floor dir))

-- what was given stays given, whatever comes, power cuts too
abbrev pub GivenStays : World → Type 0
GivenStays w = (event : Event) (after : World) → next w event ≡ Some after
    → (later : List Taken) × (after.given ≡ w.given ++ later)
