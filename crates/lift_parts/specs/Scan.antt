-- One scan ahead of the answers: what each look found, and what was decided.
use Rattle.std.specs.Prelude.{ℕ, ◌≡◌, ◌<◌, ◌≤◌, ◌+◌, ◌^◌, nat_lt, if◌then◌else◌, List, [], ◌∷◌}
use Rattle.std.specs.Prelude.{length, map, filter, is_some, IsSome, IfSome, Some}
use Rattle.lift_building.specs.Plan.{Plan}
use Rattle.lift_desk.specs.declared.words.Ask.{Ask}
use Rattle.lift_desk.specs.Words.{turn_of, last_of}
use Rattle.lift_desk.specs.Spelled.{IsAsk}
use Rattle.lift_desk.specs.Steps.{with_taking}
use Rattle.lift_desk.specs.Seats.{ClerkPlace, TakesAheadOf, IsToldAhead}
use Rattle.lift_policy.specs.Eligible.{Choice}
use Rattle.lift_policy.specs.Step.{State}
use Rattle.lift_policy.specs.Run.{Run}
use Rattle.lift_clerk.specs.Visits.{Visit, Scans, commands_of}
use Rattle.lift_parts.specs.declared.taken.NotedCommand.{NotedCommand}
use Rattle.lift_parts.specs.Batch.{commands_in, replies_in, noted_in}

-- The look takes what its word says where that is later than all that was taken there before. A
-- look takes the last ask that the seat was told of, or a later one.
pub record TakesAt (place : ClerkPlace) (visit : Visit) : Type 0 where
  pub reads : TakesAheadOf place.view visit.word visit.found
  pub in_range : IfSome visit.found IsAsk
  pub turn : IsSome visit.found
      → turn_of (last_of (with_taking place.view visit.word).taken) < 2 ^ 20
  pub known : length place.view.told ≤ turn_of (last_of (with_taking place.view visit.word).taken)
  pub told : (ask : Ask) → IsToldAhead place.view ask
      → IsSome visit.found × (turn_of (last_of (with_taking place.view visit.word).taken)
      ≡ length place.view.told → visit.found ≡ Some ask)

-- the turn of the last ask that was taken at a place, of which there are 1,048,575
abbrev pub capped : ℕ → ℕ
capped turn = if nat_lt turn 1048576 then turn else 1048575

abbrev pub turn_at : ClerkPlace → ℕ
turn_at place = capped (turn_of (last_of place.view.taken))

-- how many turns were used, of all terminals
abbrev pub turns_in : List ClerkPlace → ℕ
turns_in [] = 0
turns_in (place ∷ places) = turn_at place + turns_in places

-- the words that these looks took, each where an ask was found
abbrev pub words_of : List Visit → List ℕ
words_of visits = map (λ (v : Visit). v.word) (filter (λ (v : Visit). is_some v.found) visits)

-- what these looks took was noted, and decided, each command on the state that the earlier ones left
pub record NotesAndDecides (choice : Choice) (plan : Plan) (before after : State)
    (taken : List NotedCommand) (visits : List Visit) : Type 0 where
  pub commands : commands_in taken ≡ commands_of 0 visits
  pub notes : noted_in taken ≡ words_of visits
  pub run : Run plan choice before (commands_in taken) (replies_in taken) after

-- a scan ahead of the answers, as far as n terminals
abbrev pub ScansAhead : Choice → Plan → List ClerkPlace → List ClerkPlace → State → State
    → List NotedCommand → ℕ → Type 0
ScansAhead choice plan places seat before after taken n =
    Scans TakesAt (NotesAndDecides choice plan before after taken) places seat n
