-- What a script's group is between two of its lines, what asks, turns and power cuts make of it,
-- and what they report: functions of the script.
use Rattle.std.specs.Prelude.{ℕ, suc, ◌+◌, ◌-◌, ◌==◌, Bool, true, false, not, ◌&&◌, ◌||◌, nat_le}
use Rattle.std.specs.Prelude.{if◌then◌else◌, map}
use Rattle.std.specs.Prelude.{List, [], ◌∷◌, ◌++◌, length, replicate, slice_index_or, slice_set}
use Rattle.std.specs.Prelude.{codes, Option, Some, None}
use Rattle.std.specs.Option.{is_some, option_map, option_map_or}
use Rattle.lift_base.specs.declared.command.Reply.{Reply}
use Rattle.lift_base.specs.declared.history.Entry.{Entry}
use Rattle.lift_base.specs.declared.limits.TheConstants.{LEAST_HALF, MOST_CARS}
use Rattle.lift_base.specs.declared.travel.Position.{Position}
use Rattle.lift_building.specs.Plan.{Plan}
use Rattle.lift_disk.specs.declared.outcome.Outcome.{Outcome}
use Rattle.lift_disk.specs.declared.outcome.Outcome.TheVariants.{Keep, Lose, Fill}
use Rattle.lift_journal.specs.Checkpoint.{sectors_for}
use Rattle.lift_journal.specs.Layout.{body_size}
use Rattle.lift_register.specs.Prelude.{RegisterState, empty, register_of}
use Rattle.lift_register.specs.Base.{base_records}
use Rattle.lift_policy.specs.declared.command.Command.{Command}
use Rattle.lift_policy.specs.Decision.{Decision, decision_by, etd_pick}
use Rattle.lift_policy.specs.Run.{unknowns}
use Rattle.lift_policy.specs.Step.{State}
use Rattle.lift_desk.specs.declared.words.Ask.{Ask}
use Rattle.lift_keeper.specs.Writer.{has_room, room_call_count, commit_call_count, commit_used}
use Rattle.lift_keeper.specs.Writer.{commit_second}
use Rattle.lift_clerk.specs.Visits.{command_at}
use Rattle.lift_replay.specs.Report.{told_text, turn_text, fault_text, heard_text}

-- how often a terminal has asked, and its ask that waits for the answer
pub record Asking : Type 0 where
  pub turns : ℕ
  pub waiting : Option Ask

-- a batch whose commit has failed, once it had made this many calls
pub record FailedBatch : Type 0 where
  pub made : ℕ
  pub batch : List Entry

-- what a recovery finds: a register, in this half, of which this many sectors are used
pub record Found : Type 0 where
  pub register : RegisterState
  pub is_in_second_half : Bool
  pub used : ℕ

pub record ScriptGroup : Type 0 where
  -- the calls that are safe, and where; while nothing has failed they are those that are shown
  pub safe : Found
  pub positions : List (Option Position)
  -- how many device calls still pass, where a fuse is set
  pub passing : Option ℕ
  pub failed : Option FailedBatch
  pub terminals : List Asking

-- the sectors of a half
abbrev pub half : ℕ
half = LEAST_HALF

abbrev pub unasked : Asking
unasked = record { turns = 0; waiting = None }

abbrev pub asking_at : List Asking → ℕ → Asking
asking_at terminals terminal = slice_index_or terminals terminal unasked

-- nobody has asked
abbrev pub new_terminals : Plan → List Asking
new_terminals plan = replicate (MOST_CARS + length plan.kiosks) unasked

abbrev pub stored : RegisterState → Bool → ℕ → Found
stored r second used = record { register = r; is_in_second_half = second; used = used }

-- the group that recovers it, at a new desk: no car has reported where it is
abbrev pub recovered : Plan → Found → ScriptGroup
recovered plan found = record {
  safe = found;
  positions = replicate MOST_CARS None;
  passing = None;
  failed = None;
  terminals = new_terminals plan;
}

-- over a formatted device
abbrev pub nothing_found : Found
nothing_found = stored empty false 0

abbrev pub first_group : Plan → ScriptGroup
first_group plan = recovered plan nothing_found

-- What is reported of a terminal that asks: nothing, or that it waits still, or that it has no turn
-- left.
abbrev pub ask_text : Asking → Command → List ℕ
ask_text asking c =
    if is_some asking.waiting then told_text c.terminal c.number (codes "WAITING")
    else if asking.turns == 1048575 then told_text c.terminal c.number (codes "SPENT") else []

-- how far it is then
abbrev pub asking_more : Asking → Ask → Asking
asking_more asking more =
    if is_some asking.waiting || asking.turns == 1048575 then asking
    else record { turns = suc asking.turns; waiting = Some more }

abbrev pub after_ask : List Asking → Command → List Asking
after_ask terminals c =
    slice_set terminals c.terminal
    (asking_more (asking_at terminals c.terminal) (record { number = c.number; body = c.body }))

abbrev pub after_asking : ScriptGroup → Command → ScriptGroup
after_asking g c = record g { terminals = after_ask g.terminals c }

-- the commands that wait, from this terminal on, by rising terminal
abbrev pub waiting_from : ℕ → List Asking → List Command
waiting_from terminal [] = []
waiting_from terminal (asking ∷ terminals) =
    command_at terminal asking.waiting ++ waiting_from (suc terminal) terminals

-- once each of them has heard its answer
abbrev pub having_heard : List Asking → List Asking
having_heard terminals = map (λ (asking : Asking). record asking { waiting = None }) terminals

abbrev pub decision_on : Plan → State → Command → Decision
decision_on plan state c = decision_by etd_pick plan state c.terminal c.number c.body

-- the state after these commands, each decided on what the earlier ones left, and the replies to
-- them
abbrev pub state_by : Plan → State → List Command → State
state_by plan state [] = state
state_by plan state (c ∷ commands) = state_by plan (decision_on plan state c).next commands

abbrev pub replies_by : Plan → State → List Command → List Reply
replies_by plan state [] = []
replies_by plan state (c ∷ commands) =
    (decision_on plan state c).reply ∷ replies_by plan (decision_on plan state c).next commands

-- what the terminals of these commands hear
abbrev pub heard_replies_text : List Command → List Reply → List ℕ
heard_replies_text (c ∷ commands) (reply ∷ replies) =
    heard_text c.terminal c.number reply ++ heard_replies_text commands replies
heard_replies_text _ _ = []

-- what decisions begin from
abbrev pub state_to_decide_on : ScriptGroup → State
state_to_decide_on g = record { register = g.safe.register; positions = g.positions; batch = [] }

abbrev pub waiting_commands : ScriptGroup → List Command
waiting_commands g = waiting_from 0 g.terminals

abbrev pub state_decided : Plan → ScriptGroup → State
state_decided plan g = state_by plan (state_to_decide_on g) (waiting_commands g)

-- how many device calls the turn's commit makes where none fails
abbrev pub calls_for : ScriptGroup → State → ℕ
calls_for g state = commit_call_count g.safe.register g.safe.used half (length state.batch)

-- the turn's batch is safe
abbrev pub after_turn : ScriptGroup → State → ScriptGroup
after_turn g state = record {
  safe = stored state.register
      (commit_second g.safe.is_in_second_half g.safe.used half (length state.batch))
      (commit_used g.safe.register g.safe.used half (length state.batch));
  positions = state.positions;
  passing = option_map (λ left. left - calls_for g state) g.passing;
  failed = None;
  terminals = having_heard g.terminals;
}

-- Or its commit has failed. It has made the calls that passed, and the one that failed.
abbrev pub after_failure : ScriptGroup → State → ScriptGroup
after_failure g state = record g {
  failed = Some (record { made = option_map_or suc g.passing 0; batch = state.batch });
  terminals = having_heard g.terminals;
}

-- whether the turn's commit doesn't fail: all of its calls pass
abbrev pub is_made : Plan → ScriptGroup → Bool
is_made plan g = option_map_or (nat_le (calls_for g (state_decided plan g))) g.passing true

-- a turn that failed with this fault: each command is answered Unknown
abbrev pub failed_turn_report : ScriptGroup → (fault : ℕ) → List ℕ
failed_turn_report g fault =
    fault_text (codes "turn") fault
    ++ heard_replies_text (waiting_commands g) (unknowns (waiting_commands g))

-- a turn, and one while something has failed
abbrev pub turn_report : Option FailedBatch → Plan → ScriptGroup → List ℕ
turn_report None plan g =
    if is_made plan g
    then turn_text (length (waiting_commands g)) (length (state_decided plan g).batch)
    ++ heard_replies_text (waiting_commands g)
    (replies_by plan (state_to_decide_on g) (waiting_commands g))
    else failed_turn_report g 1
turn_report (Some failed) plan g = failed_turn_report g 5

abbrev pub turned : Option FailedBatch → Plan → ScriptGroup → ScriptGroup
turned None plan g =
    if is_made plan g then after_turn g (state_decided plan g)
    else after_failure g (state_decided plan g)
turned (Some failed) plan g = record g { terminals = having_heard g.terminals }

-- A mark is written after this many calls, and then made safe. Whether a cut of a run that has failed
-- after so many leaves what is behind the mark: where it fills the mark's sector, that goes by its
-- byte, which marks it or unmarks it.
abbrev pub is_past : Outcome → (mark made : ℕ) → (unmarks : Bool) → Bool
is_past Keep mark made unmarks = nat_le (mark + 2) made
is_past Lose mark made unmarks = false
is_past (Fill byte) mark made unmarks =
    nat_le (mark + 1) made && (if byte == 165 then not unmarks else unmarks)

-- what is safe, once it is a checkpoint in the other half
abbrev pub folded : Found → Found
folded safe =
    stored safe.register (not safe.is_in_second_half)
    (sectors_for (length (base_records safe.register)))

-- once there is room for this many entries, and then with these
abbrev pub with_room : Found → ℕ → Found
with_room safe count = if has_room safe.used half count then safe else folded safe

abbrev pub with_batch : Found → List Entry → Found
with_batch room batch =
    stored (register_of room.register batch) room.is_in_second_half
    (room.used + (body_size (length batch) + 1))

-- within the checkpoint that the batch needs: the mark is the pick
abbrev pub in_folding : Outcome → Found → ℕ → Found
in_folding cut safe made =
    if is_past cut ((folded safe).used + 2) made safe.is_in_second_half then folded safe else safe

-- after it, this many calls within the append: the mark is the batch's gate
abbrev pub in_append : Outcome → Found → List Entry → ℕ → Found
in_append cut room batch made =
    if is_past cut (body_size (length batch) + 2) made false then with_batch room batch else room

abbrev pub room_for : Found → List Entry → ℕ
room_for safe batch = room_call_count safe.register safe.used half (length batch)

-- what a cut leaves
abbrev pub found_after_cut : Option FailedBatch → Outcome → Found → Found
found_after_cut None cut safe = safe
found_after_cut (Some s) cut safe =
    if nat_le s.made (room_for safe s.batch) then in_folding cut safe s.made
    else in_append cut (with_room safe (length s.batch)) s.batch (s.made - room_for safe s.batch)

abbrev pub left_by : Outcome → ScriptGroup → Found
left_by outcome g = found_after_cut g.failed outcome g.safe
