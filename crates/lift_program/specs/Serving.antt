-- The serving of a group.
use Rattle.std.specs.Prelude.{ℕ, ◌≡◌, List, Some}
use Rattle.lift_base.specs.declared.history.Entry.{Entry}
use Rattle.lift_disk.specs.Disk.{DiskState}
use Rattle.lift_disk.specs.Starts.{StartsAfter}
use Rattle.lift_program.specs.Images.{CommandFiles}
use Rattle.lift_keeper.specs.Keeper.{KeeperView}
use Rattle.lift_register.specs.Register.{RegisterState}
use Rattle.lift_policy.specs.Choices.{IsShipped}
use Rattle.lift_policy.specs.Eligible.{Choice}
use Rattle.lift_policy.specs.Present.{IsDispatched, any_cars}
use Rattle.lift_policy.specs.declared.dispatching.Dispatching.{Dispatching}
use Rattle.lift_policy.specs.declared.policies.Shipped.{Shipped}
use Rattle.lift_world.specs.declared.event.Taken.{Taken}
use Rattle.lift_parts.specs.Allocator.{AllocatorState}
use Rattle.lift_parts.specs.Flusher.{FlusherState}
use Rattle.lift_serve.specs.Keeping.{HoldsLetters, KeepsOver, StartsFind}
use Rattle.lift_serve.specs.Open.{EndedState, IsReportOf}
use Rattle.lift_serve.specs.Ready.{IsNewGroup}
use Rattle.lift_serve.specs.Relaying.{HaveServed, ServingKeeps}
use Rattle.lift_program.specs.Faults.{served_fault}
use Rattle.lift_program.specs.Stages.{HasOpened, HasRecovered, RecoversKeeper, IsLeftAs}
use Rattle.lift_program.specs.declared.fault.Fault.{Fault}
use Rattle.lift_program.specs.declared.serve.Serving.{Serving}

-- The recovery opened a journal on the file that was there at this path, of a building that the text
-- describes which was read from its file; the socket that was asked for was had, and so many connections
-- are to end there. Both parts of a clerk with this policy stand ready over it at a new desk.
pub record IsReadyOver (files : CommandFiles) (image building : List ℕ) (port : ℕ)
    (policy : Dispatching Shipped) (sessions : ℕ)
    (a : AllocatorState (Dispatching Shipped)) (f : FlusherState files.image.Served)
    (terms : EndedState) : Type 0 where
  pub from : HasOpened files building (files.image.is_to_be_served image)
  pub keeper : KeeperView files.image.Served
  pub is_kept : RecoversKeeper files.image.served_state from.plan from.opened keeper
  pub group : IsNewGroup files.image.served_state policy keeper a f
  pub here : files.gives port (Some terms.listener)
  pub count : terms.sessions ≡ sessions

-- Of whatever letters the file holds that was found, if it is an honest device: where each image that a
-- crash may have left of it when it was opened keeps a prefix of what was accepted, over whatever
-- register the journal began with, and these answers.
abbrev pub OfItsLetters : (files : CommandFiles) → (image building : List ℕ)
    → HasOpened files building (files.image.is_to_be_served image)
    → (files.image.File → RegisterState → List Entry → List Taken → Type 0) → Type 0
OfItsLetters files image building from Holds =
    let found = files.image.found image from.opened from.fresh in
    (files.image.held found).is_honest → (base : RegisterState) (accepted : List Entry)
    (given : List Taken)
    → HoldsLetters files.image.Served from.plan base accepted given (files.image.held found)
    → Holds found base accepted given

-- a shipped policy's own choice; or, where absent cars come last, its choice of the eligible ones that
-- are present, as the word of the sessions was read, or of all
abbrev pub IsServedBy : Dispatching Shipped → Choice
IsServedBy = IsDispatched any_cars IsShipped

-- Both parts were served at this socket, and the serving ended so. What is reported is that the device
-- failed, exactly where it did, and else what the serving was refused. Connections have ended only where
-- so many have at this socket, and where nothing was refused they have. This is the device as it was left.
pub record IsServedOver {D : Type 0} (state : D → DiskState) (a : AllocatorState (Dispatching Shipped))
    (f : FlusherState D) (terms : EndedState) (serving : Serving D) : Type 0 where
  pub b : AllocatorState (Dispatching Shipped)
  pub g : FlusherState D
  pub is_left : g.writer.device ≡ serving.left
  pub ran : HaveServed IsServedBy state a b f g serving.end.fault
  pub keeps : ServingKeeps state f g
  pub reported : serving.fault ≡ served_fault g.writer.is_broken serving.end.fault
  pub reports : IsReportOf terms serving.end

-- All that this takes was had, and the building was served. Every letter is kept over power cuts: of the
-- letters of the file a crash at any moment until the end leaves a prefix of what was accepted, and with
-- them all that was answered until then. So the next start finds what this one takes, word for word, at
-- whatever moment the power goes.
pub record IsServing (files : CommandFiles) (image building : List ℕ) (port : ℕ)
    (policy : Dispatching Shipped) (sessions : ℕ)
    (serving : Serving files.image.Served) : Type 0 where
  pub a : AllocatorState (Dispatching Shipped)
  pub f : FlusherState files.image.Served
  pub terms : EndedState
  pub ready : IsReadyOver files image building port policy sessions a f terms
  pub served : IsServedOver files.image.served_state a f terms serving
  pub keeps : OfItsLetters files image building ready.from (λ found.
      KeepsOver files.image.served_state files.image.held ready.from.plan found f served.g)

-- The file at this path was opened, of a building that was read, and its group isn't served: the device
-- was left so. If the file is honest and holds these letters, the next start finds a file that holds
-- them, in the same words, at whatever moment the power goes (`cut`); and, where the recovery had given a
-- register, once all has ended (`next`).
pub record HasLeftLetters (files : CommandFiles) (image building : List ℕ) (fault : Fault)
    (left : files.image.Served) : Type 0 where
  pub is_left : IsLeftAs files building (files.image.is_to_be_served image) files.image.served_state
      fault left
  pub cut : OfItsLetters files image building is_left.from (λ found base accepted given.
      StartsFind files.image.Served files.image.held is_left.from.plan base accepted given
      (files.image.held found) (files.image.served_state left))
  pub next : HasRecovered is_left.from.plan (files.image.served_state is_left.from.opened)
      (files.image.served_state left)
      → OfItsLetters files image building is_left.from (λ found base accepted given.
      (after : files.image.File)
      → StartsAfter (files.image.served_state left) (files.image.held after)
      → HoldsLetters files.image.Served is_left.from.plan base accepted given
      (files.image.held after))
