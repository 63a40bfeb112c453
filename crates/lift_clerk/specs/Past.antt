-- What has happened to a group and its terminals by now, in one world of the machine, and which
-- events each step is.
use Rattle.std.specs.Prelude.{ℕ, ◌≡◌, ◌⊎◌, true, false, List, [], ◌∷◌, ◌++◌, length, Option, Some}
use mathlib.Core.Logic.{inl, inr}
use Rattle.lift_base.specs.declared.history.Entry.{Entry}
use Rattle.lift_base.specs.declared.command.Reply.{Reply}
use Rattle.lift_building.specs.Plan.{IsBuilding}
use Rattle.lift_disk.specs.Disk.{Image}
use Rattle.lift_desk.specs.declared.view.TerminalView.{TerminalView}
use Rattle.lift_desk.specs.declared.words.Ask.{Ask}
use Rattle.lift_desk.specs.Rule.{no_asks}
use Rattle.lift_policy.specs.Run.{unknowns}
use Rattle.lift_policy.specs.Eligible.{Choice}
use Rattle.lift_keeper.specs.Images.{IsInDoubt}
use Rattle.lift_keeper.specs.Keeper.{KeeperView}
use Rattle.lift_world.specs.declared.event.Event.{Event}
use Rattle.lift_world.specs.declared.event.Event.TheVariants.{Ask as Asking, Hear, Fault, Cut, Reopen}
use Rattle.lift_world.specs.declared.event.Kept.{Kept}
use Rattle.lift_world.specs.declared.event.Phase.TheVariants.{GateWritten}
use Rattle.lift_world.specs.declared.event.Taken.{Taken}
use Rattle.lift_world.specs.World.{World, start, safe_list}
use Rattle.lift_world.specs.Next.{goes}
use Rattle.lift_world.specs.Turns.{with_replies, failed_events}
use Rattle.lift_world.specs.Headline.{IsOfBuilding}
use Rattle.lift_clerk.specs.declared.counts.Counts.{Counts}
use Rattle.lift_clerk.specs.Clerk.{ClerkState, IsToldAt}
use Rattle.lift_clerk.specs.Turn.{IsBrokenTurn}
use Rattle.lift_clerk.specs.Visits.{commands_of}
use Rattle.lift_clerk.specs.Machine.{Turns, TurnFails, ClerkReopens, Stays, IsNewClerk, kept_after}
use Rattle.lift_clerk.specs.Machine.{events_of_turn, events_while_broken}
use Rattle.lift_clerk.specs.Steps.{GroupState, group_of, TurnMakesSafe, LeavesInDoubt}
use Rattle.lift_clerk.specs.Steps.{AnswersUnknown, ClerkRests, MayAdd}
use Rattle.lift_clerk.specs.History.{History, BeginsOver}
use Rattle.lift_clerk.specs.Group.{Terminals, IsGroup, ChangesAt, TerminalAsks, TerminalHears}
use Rattle.lift_clerk.specs.Group.{IsRead, HearsAnswers, TakesAsks, WereAsked, ToldAnswersAreHeard}

-- The world is the group's and its terminals'. Its journal began with what the group's did, and just
-- what is safe and was given there is safe and was given in the group's history. Asks and answers may wait.
pub record IsPastOf {D : Type 0} (w : World) (group : GroupState D) (terminals : Terminals)
    (safe : List Entry) (given : List Taken) : Type 0 where
  pub shows : IsGroup w group terminals
  pub history : History w.base group safe given
  pub safe_is : safe_list w ≡ safe
  pub given_is : w.given ≡ given

-- These events, each possible in its place, lead to such a world.
pub record LeadsToPast {D : Type 0} (w : World) (events : List Event) (group : GroupState D)
    (terminals : Terminals) (safe : List Entry) (given : List Taken) : Type 0 where
  pub end : World
  pub possible : goes events w ≡ Some end
  pub past : IsPastOf end group terminals safe given

-- What a terminal does is this event, in each world that the group may be in.
abbrev pub IsEvent : {D : Type 0} → GroupState D → Terminals → Terminals → Event → Type 0
IsEvent group before after event = (w : World) (safe : List Entry) (given : List Taken)
    → IsPastOf w group before safe given → LeadsToPast w (event ∷ []) group after safe given

-- It is none.
abbrev pub IsNoEvent : {D : Type 0} → GroupState D → Terminals → Terminals → Type 0
IsNoEvent group before after = (w : World) (safe : List Entry) (given : List Taken)
    → IsPastOf w group before safe given → IsPastOf w group after safe given

-- What the group does is these events, in each world that it may be in, by some letters for its
-- replies, and however many calls a checkpoint makes. Each ask that it took was asked before, so no
-- terminal does anything. This batch is safe then after the rest, and just these commands have
-- their replies.
abbrev pub IsDoneBy : {D : Type 0} → GroupState D → GroupState D
    → (List (Option ℕ) → ℕ → List Event) → List Entry → List Taken → Type 0
IsDoneBy before after events batch replied =
    (w : World) (terminals : Terminals) (safe : List Entry) (given : List Taken)
    → IsPastOf w before terminals safe given → TakesAsks after terminals
    → (letters : List (Option ℕ))
    × ((folds : ℕ) → LeadsToPast w (events letters folds) after terminals (safe ++ batch)
    (given ++ replied))

-- A group begins at a new desk, over a journal that holds a register of the building.
abbrev pub PastsBegin : Type 0 → Type 0
PastsBegin D = (group : GroupState D) (terminals : Terminals)
    → IsBuilding group.keeper.writer.plan
    → IsOfBuilding group.keeper.writer.plan group.keeper.writer.register → IsNewClerk group
    → ((terminal : ℕ) → terminals terminal ≡ no_asks)
    → IsPastOf (start group.keeper.writer.plan group.keeper.writer.register) group terminals [] []

-- An ask that is stored is an ask of the machine, on whatever thread it is made.
abbrev pub AsksAreAsks : Type 0 → Type 0
AsksAreAsks D = (group : GroupState D) (before after : Terminals) (terminal : ℕ) (ask : Ask)
    → TerminalAsks before after terminal ask
    → IsEvent group before after (Asking terminal ask.number ask.body)

-- An answer that is heard is one that the machine's terminal hears: the next that was stored for
-- it.
abbrev pub HearsAreHears : Type 0 → Type 0
HearsAreHears D =
    (group : GroupState D) (before after : Terminals) (terminal word : ℕ) (reply : Reply)
    → TerminalHears before after terminal word (Some reply) → HearsAnswers group after terminal
    → IsEvent group before after (Hear terminal)

-- All else that a terminal reads or is told is no event.
abbrev pub ReadsAreNoEvents : Type 0 → Type 0
ReadsAreNoEvents D =
    (group : GroupState D) (before after : Terminals) (terminal : ℕ) (view : TerminalView)
    → ChangesAt before after terminal view → IsRead (before terminal) view
    → IsNoEvent group before after

-- A batch that is made safe is a turn of the machine.
abbrev pub BatchesAreTurns : Type 0 → Type 0
BatchesAreTurns D = (before after : GroupState D) (t : TurnMakesSafe before after)
    → IsDoneBy before after
    (λ letters folds. events_of_turn t.decides.commands letters folds (length t.decides.decided.batch))
    t.decides.decided.batch (with_replies t.decides.commands t.decides.replies)

-- One that the device fails is a turn that fails once its gate was written: whichever call it was,
-- a reopening or a crash may find all of it or nothing, as in that phase.
abbrev pub DoubtsAreFailures : Type 0 → Type 0
DoubtsAreFailures D = (before after : GroupState D) (t : LeavesInDoubt before after)
    → IsDoneBy before after (λ letters folds.
    failed_events t.may.0.commands letters folds GateWritten (length t.may.0.decided.batch)) []
    (with_replies t.may.0.commands (unknowns t.may.0.commands))

-- What is answered after a fault is a turn of the broken machine.
abbrev pub UnknownsAreBroken : Type 0 → Type 0
UnknownsAreBroken D = (before after : GroupState D) (t : AnswersUnknown before after)
    → IsDoneBy before after (λ letters folds. events_while_broken t.commands letters) []
    (with_replies t.commands (unknowns t.commands))

-- A reopening is one of the machine, which keeps what the register tells that it kept.
abbrev pub ReopeningsAreReopenings : Type 0 → Type 0
ReopeningsAreReopenings D = (w : World) (before after : GroupState D) (terminals : Terminals)
    (safe : List Entry) (given : List Taken)
    → IsPastOf w before terminals safe given → (r : ClerkReopens before after)
    → (kept : Kept) × LeadsToPast w (Reopen kept ∷ []) after terminals
    (kept_after safe before.keeper.writer.doubt r.one_of) given

-- Nothing that happens is no event: a telling, a refusal, a split of a clerk, a rejoining.
abbrev pub RestsAreNoEvents : Type 0 → Type 0
RestsAreNoEvents D = (w : World) (before after : GroupState D) (terminals : Terminals)
    (safe : List Entry) (given : List Taken)
    → IsPastOf w before terminals safe given → ClerkRests before after
    → after.keeper.writer.is_broken ≡ before.keeper.writer.is_broken
    → IsPastOf w after terminals safe given

-- Where the device failed it first, as in a reopening, it is a fault.
abbrev pub FirstFaultsAreFaults : Type 0 → Type 0
FirstFaultsAreFaults D = (w : World) (before after : GroupState D) (terminals : Terminals)
    (safe : List Entry) (given : List Taken)
    → IsPastOf w before terminals safe given → ClerkRests before after
    → before.keeper.writer.is_broken ≡ false → after.keeper.writer.is_broken ≡ true
    → LeadsToPast w (Fault ∷ []) after terminals safe given

-- the batch on its way was asked for, or is in doubt
abbrev pub MayBeAsked : {D : Type 0} (group : GroupState D) (terminals : Terminals)
    (batch : List Entry) → MayAdd group.keeper batch → Type 0
MayBeAsked group terminals batch (inl in_doubt) = Unit {0}
MayBeAsked group terminals batch (inr accepted) = WereAsked group terminals accepted.0.commands

-- where nothing but what is in doubt is on its way, no event comes before the cut
abbrev pub MayComeFirst : {D : Type 0} (keeper : KeeperView D) (batch : List Entry)
    → MayAdd keeper batch → List Event → Type 0
MayComeFirst keeper batch (inl in_doubt) events = events ≡ []
MayComeFirst keeper batch (inr accepted) events = Unit {0}

-- The power is cut at any moment, with at most this batch on its way, and a clerk begins over what
-- that left, at a new desk: it is a power cut of the machine and its recovery, maybe after events
-- of a turn in which nothing was answered.
abbrev pub CutsAreCuts : Type 0 → Type 0
CutsAreCuts D = (w : World) (before after : GroupState D) (terminals fresh : Terminals)
    (safe batch : List Entry) (given : List Taken) (image : Image)
    → IsPastOf w before terminals safe given
    → (may : MayAdd before.keeper batch) → MayBeAsked before terminals batch may
    → (doubt : IsInDoubt before.keeper.writer.plan before.keeper.writer.register batch image)
    → BeginsOver before.keeper.writer.plan image after
    → ((terminal : ℕ) → fresh terminal ≡ no_asks)
    → (events : List Event) × MayComeFirst before.keeper batch may events × (kept : Kept)
    × LeadsToPast w (events ++ Cut kept ∷ Reopen kept ∷ [])
    after fresh (kept_after safe batch doubt) given

-- A group's past goes on over all that can happen to it and its terminals, in any order.
pub record PastsGoOn (D : Type 0) : Type 0 where
  pub begins : PastsBegin D
  pub asks : AsksAreAsks D
  pub hears : HearsAreHears D
  pub heard : ToldAnswersAreHeard D
  pub reads : ReadsAreNoEvents D
  pub batches : BatchesAreTurns D
  pub doubts : DoubtsAreFailures D
  pub unknowns : UnknownsAreBroken D
  pub reopenings : ReopeningsAreReopenings D
  pub rests : RestsAreNoEvents D
  pub faults : FirstFaultsAreFaults D
  pub cuts : CutsAreCuts D

-- What the calls of a clerk are to its group, but for its turns. To tell it of asks is a rest, and so
-- is a reopening that is refused.
pub record CallsAreSteps (D P : Type 0) : Type 0 where
  pub tells : (before after : ClerkState D P) (terminal : ℕ) (words : List ℕ)
      → IsToldAt before after terminal words → ClerkRests (group_of before) (group_of after)
  pub refusals : (before after : ClerkState D P) → Stays before after
      → (after.keeper.writer.is_broken ≡ true)
      ⊎ (after.keeper.writer.is_broken ≡ before.keeper.writer.is_broken)
      → ClerkRests (group_of before) (group_of after)
  pub reopenings : (before after : ClerkState D P) → ClerkReopens before after
      → ClerkReopens (group_of before) (group_of after)

-- A clerk's turn that answers Ok is such a step, of its own commands and replies.
abbrev pub TurnGoesOn : {D P : Type 0} → Choice → ClerkState D P → ClerkState D P → Counts → Type 0
TurnGoesOn choice before after counts = (t : Turns choice before after counts)
    → IsDoneBy (group_of before) (group_of after) (λ letters folds.
    events_of_turn (commands_of 0 t.turn.visits) letters folds (length t.turn.decided.batch))
    t.turn.decided.batch (with_replies (commands_of 0 t.turn.visits) t.turn.replies)

-- So is one that the device fails: nothing more is safe.
abbrev pub FailureGoesOn : {D P : Type 0} → Choice → ClerkState D P → ClerkState D P → Type 0
FailureGoesOn choice before after = (t : TurnFails choice before after)
    → IsDoneBy (group_of before) (group_of after) (λ letters folds.
    failed_events (commands_of 0 t.turn.visits) letters folds GateWritten
    (length after.keeper.state.batch)) []
    (with_replies (commands_of 0 t.turn.visits) (unknowns (commands_of 0 t.turn.visits)))

-- And one of a broken clerk.
abbrev pub BrokenTurnGoesOn : {D P : Type 0} → ClerkState D P → ClerkState D P → Type 0
BrokenTurnGoesOn before after = (t : IsBrokenTurn before after)
    → IsDoneBy (group_of before) (group_of after)
    (λ letters folds. events_while_broken (commands_of 0 t.visits) letters) []
    (with_replies (commands_of 0 t.visits) (unknowns (commands_of 0 t.visits)))
