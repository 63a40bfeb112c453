-- What a fault leaves, and what is answered after it.
use Rattle.std.specs.Prelude.{ℕ, ◌≡◌, ◌⊎◌, Bool, true, false, List, [], ◌++◌, map, All, Contains}
use Rattle.std.specs.Prelude.{Some, None, IsTrue}
use Rattle.std.specs.List.{AllByRecursion}
use Rattle.lift_base.specs.declared.command.Reply.TheVariants.{Unknown}
use Rattle.lift_world.specs.declared.event.Kept.{Kept}
use Rattle.lift_world.specs.declared.event.Phase.TheVariants.{Idle, Writing, Synced, GateWritten}
use Rattle.lift_world.specs.declared.event.Power.TheVariants.{Running, Broken}
use Rattle.lift_world.specs.declared.event.Taken.{Taken}
use Rattle.lift_world.specs.declared.event.Event.{Event}
use Rattle.lift_world.specs.declared.event.Event.TheVariants.{Fault, Cut, Reopen}
use Rattle.lift_world.specs.World.{World, no_batch}
use Rattle.lift_world.specs.Next.{next, run, unknown_to, failing}

-- a fault leaves the batch in doubt with its phase, and its commands get Unknown
pub record IsFailed (w after : World) : Type 0 where
  pub broken : after.power ≡ Broken
  pub in_doubt : after.flight ≡ record { commands = []; upto = w.flight.upto }
  pub answers_unknown : after.due ≡ w.due ++ map unknown_to w.flight.commands
  pub same_phase : after.phase ≡ w.phase
  pub same_safe : after.safe ≡ w.safe
  pub same_accepted : after.accepted ≡ w.accepted
  pub same_queue : after.queue ≡ w.queue
  pub same_taken : after.taken ≡ w.taken
  pub same_given : after.given ≡ w.given

-- A device call of a batch can fail while it is written, and while its gate is. So can one of a
-- reopening, while no batch is in flight; that breaks the controller and changes nothing else: no
-- batch is in doubt, and nothing is due by it.
pub record FaultsLeaveDoubt (w : World) : Type 0 where
  pub writing : (n : ℕ) → w.power ≡ Running → w.phase ≡ Writing n → next w Fault ≡ Some (failing w)
  pub gate : w.power ≡ Running → w.phase ≡ GateWritten → next w Fault ≡ Some (failing w)
  pub idle : w.power ≡ Running → w.phase ≡ Idle → w.flight ≡ no_batch
      → next w Fault ≡ Some (record w { power = Broken })
  pub synced : w.phase ≡ Synced → next w Fault ≡ None
  pub only_running : (after : World) → next w Fault ≡ Some after → w.power ≡ Running
  pub gives : (after : World) → next w Fault ≡ Some after → IsFailed w after

-- nothing but a fault breaks the controller
abbrev pub OnlyFaultsBreak : World → Type 0
OnlyFaultsBreak w = (event : Event) (after : World) → next w event ≡ Some after
    → after.power ≡ Broken → (w.power ≡ Broken) ⊎ (event ≡ Fault)

-- neither a cut nor a recovery
abbrev pub goes_on : Event → Bool
goes_on (Cut kept) = false
goes_on (Reopen kept) = false
goes_on event = true

-- the command was due in that world already, or it gets Unknown
abbrev pub WasDueOrUnknown : World → Taken → Type 0
WasDueOrUnknown w c = Contains w.due c ⊎ (c.reply ≡ Unknown)

-- what was answered since, and what is due now
pub record OnlyUnknownSince (w after : World) : Type 0 where
  pub later : List Taken
  pub given : after.given ≡ w.given ++ later
  pub answered : All (WasDueOrUnknown w) later
  pub due : All (WasDueOrUnknown w) after.due

-- From a fault on, whatever comes, nothing but Unknown is told of a command that wasn't due when
-- the fault came: not of those in flight, queued or taken then, nor of those taken later.
abbrev pub UnknownAfterFault : World → Type 0
UnknownAfterFault w = (failed : World) (events : List Event) → next w Fault ≡ Some failed
    → AllByRecursion (λ (e : Event). IsTrue (goes_on e)) events
    → OnlyUnknownSince w (run events failed)

-- And the reopening, when it comes, makes no other reply due.
abbrev pub UnknownOverReopening : World → Type 0
UnknownOverReopening w = (failed after : World) (events : List Event) (kept : Kept)
    → next w Fault ≡ Some failed → AllByRecursion (λ (e : Event). IsTrue (goes_on e)) events
    → next (run events failed) (Reopen kept) ≡ Some after → OnlyUnknownSince w after
