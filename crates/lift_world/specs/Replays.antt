-- What the machine in memory is: its view, and its register as that of its list.
use Rattle.std.specs.Prelude.{ℕ, ◌≡◌, Bool, List, [], ◌∷◌, ◌++◌, Option, Some, None, IsSome, true}
use Rattle.std.specs.Prelude.{false, Result, IfOk, OnErr}
use Rattle.lift_memory.specs.declared.memory.Memory.{Memory}
use Rattle.lift_base.specs.declared.travel.Position.{Position}
use Rattle.lift_base.specs.declared.history.Entry.{Entry}
use Rattle.lift_building.specs.Plan.{Plan}
use Rattle.lift_register.specs.Prelude.{RegisterState, empty, register_of, Fits, IsBalanced}
use Rattle.lift_policy.specs.declared.command.Command.{Command}
use Rattle.lift_world.specs.declared.event.Phase.{Phase}
use Rattle.lift_world.specs.declared.event.Power.{Power}
use Rattle.lift_world.specs.declared.event.Taken.{Taken}
use Rattle.lift_world.specs.declared.event.Answer.{Answer}
use Rattle.lift_world.specs.declared.event.Event.{Event}
use Rattle.lift_world.specs.declared.event.Event.TheVariants.{Ask, Take, Seal, Pull, Fold}
use Rattle.lift_world.specs.declared.event.Event.TheVariants.{Body as BodyWrite, FirstSync, Gate}
use Rattle.lift_world.specs.declared.event.Event.TheVariants.{SecondSync, Answer as Answering, Hear}
use Rattle.lift_world.specs.declared.event.Event.TheVariants.{Fault, Cut, Reopen}
use Rattle.lift_world.specs.World.{World, SealedBatch}
use Rattle.lift_world.specs.Next.{next}

-- each of these entries fits the register of the base and of those before it
abbrev pub FitAfter : Plan → RegisterState → List Entry → List Entry → Type 0
FitAfter building base before [] = Unit {0}
FitAfter building base before (entry ∷ entries) =
    Fits building (register_of base before) entry
    × FitAfter building base (before ++ entry ∷ []) entries

-- the register is that of the accepted entries, which fit
pub record IsTight (building : Plan) (base register : RegisterState)
    (accepted : List Entry) : Type 0 where
  pub fits : FitAfter building base [] accepted
  pub register_is : register ≡ register_of base accepted
  pub balanced : IsBalanced register

-- over an empty journal
abbrev pub view_of : Plan → List Entry → ℕ → ℕ → SealedBatch → Phase → List SealedBatch → Power
    → List (Option Position) → List Taken → List Taken → List Command → List Answer → List Answer
    → List Taken → World
view_of building accepted safe sealed flight phase queue power positions taken due asked answered
    heard given = record {
      building = building;
      base = empty;
      accepted = accepted;
      safe = safe;
      sealed = sealed;
      flight = flight;
      phase = phase;
      queue = queue;
      power = power;
      positions = positions;
      taken = taken;
      due = due;
      asked = asked;
      answered = answered;
      heard = heard;
      given = given;
    }

-- what a step answers and leaves: an event that isn't possible changes nothing
abbrev pub MovesTo : Option World → World → Bool → World → Type 0
MovesTo None old possible new = (possible ≡ false) × (new ≡ old)
MovesTo (Some w) old possible new = (possible ≡ true) × (new ≡ w)

abbrev pub Moves : World → Event → Bool → World → Type 0
Moves old event possible new = MovesTo (next old event) old possible new

-- Where memory may run out: only where the event is possible. The device's calls before the
-- second sync and a cut want none.
abbrev pub MayWant : World → Event → Type 0
MayWant w (Ask terminal number body) = IsSome (next w (Ask terminal number body))
MayWant w (Take terminal letter) = IsSome (next w (Take terminal letter))
MayWant w Seal = IsSome (next w Seal)
MayWant w Pull = IsSome (next w Pull)
MayWant w Fold = ⊥
MayWant w BodyWrite = ⊥
MayWant w FirstSync = ⊥
MayWant w Gate = ⊥
MayWant w SecondSync = IsSome (next w SecondSync)
MayWant w (Answering terminal) = IsSome (next w (Answering terminal))
MayWant w (Hear terminal) = IsSome (next w (Hear terminal))
MayWant w Fault = IsSome (next w Fault)
MayWant w (Cut kept) = ⊥
MayWant w (Reopen kept) = IsSome (next w (Reopen kept))

-- What one step answers and leaves: what the event comes to, or that memory ran out, which changes
-- nothing and is where it may be.
pub record Steps (old : World) (event : Event) (result : Result Bool Memory)
    (new : World) : Type 0 where
  pub ok : IfOk result (λ possible. Moves old event possible new)
  pub err : OnErr result (new ≡ old)
  pub wants : OnErr result (MayWant old event)
