-- What a turn makes of a script's group.
use Rattle.std.proofs.Common.{◌≡◌, ◌⊎◌, ◌↔◌, ℕ, suc, ◌+◌, ◌-◌, ◌<◌, ◌≤◌, ◌==◌, Bool, true, false, cond, List, [], ◌∷◌, ◌++◌, length, Option, Some, None, refl, sym, ap, ◌∙◌, subst, inl, inr, arith}
use Rattle.std.specs.Prelude.{nat_le, not, ◌&&◌, codes, if◌then◌else◌, MatchBool}
use Rattle.std.specs.Option.{option_map, option_map_or}
use Rattle.std.proofs.lemmas.Bool.{cases_eq, false≢true, true≢false, eqb-true, eqb-false, ne_eqb, leb-true, le-leb}
use Rattle.std.proofs.lemmas.Bool.Decides.{leb_tells}
use Rattle.lift_base.specs.declared.command.Reply.{Reply}
use Rattle.lift_building.specs.Plan.{Plan}
use Rattle.lift_disk.specs.Disk.{DiskState, Image, MayLeave, IsFilled}
use Rattle.lift_disk.specs.Outcomes.{IsLeftBy}
use Rattle.lift_disk.specs.declared.outcome.Outcome.{Outcome}
use Rattle.lift_disk.specs.declared.outcome.Outcome.TheVariants.{Keep, Lose, Fill}
use Rattle.lift_journal.specs.Checkpoint.{sectors_for}
use Rattle.lift_journal.specs.Layout.{body_size}
use Rattle.lift_journal.specs.Armed.{NoneFails, LastFails}
use Rattle.lift_register.specs.Base.{base_records}
use Rattle.lift_desk.specs.Steps.{with_taking, with_told_answers, with_told_asks}
use mathlib.Core.List.{IsPrefix}
use Rattle.lift_desk.specs.Seats.{TerminalSeat, ClerkPlace, view_at}
use Rattle.lift_policy.specs.declared.command.Command.{Command}
use Rattle.lift_policy.specs.Choices.{IsEtdChoice}
use Rattle.lift_policy.specs.Decision.{decision_by, etd_pick}
use Rattle.lift_policy.specs.Laws.{StepsAreDecisions}
use Rattle.lift_policy.specs.Run.{Run, unknowns}
use Rattle.lift_policy.specs.Step.{State}
use Rattle.lift_keeper.specs.Cuts.{FailsAtMark}
use Rattle.lift_keeper.specs.Writer.{IsFailedCommit, FailsInAppend, commit_call_count, commit_used, commit_second, has_room}
use Rattle.lift_disk.specs.Faults.{FusedDisk, fuse_state_of}
use Rattle.lift_keeper.specs.Keeper.{KeeperView}
use Rattle.lift_clerk.specs.declared.counts.Counts.{Counts}
use Rattle.lift_clerk.specs.Turn.{IsTurn, IsFailedTurn, IsBrokenTurn, without_batch}
use Rattle.lift_clerk.specs.lemmas.Visiting.{length-served}
use Rattle.lift_clerk.specs.Visits.{Visit, LooksAndAnswers, commands_of as commands_at}
use Rattle.lift_replay.specs.Group.{Asking, asking_at, ScriptGroup, FailedBatch, Found, half, waiting_from, waiting_commands, having_heard, heard_replies_text, state_by, replies_by, state_to_decide_on, state_decided, calls_for, after_turn, after_failure, failed_turn_report, turned, turn_report, is_past, folded, with_room, with_batch, in_folding, in_append, room_for, found_after_cut}
use Rattle.lift_replay.specs.Report.{turn_text, fault_text}
use Rattle.lift_replay.specs.Terminals.{AllHear, AreTold, BothTold, seat_at, told_seat, waiting_count}
use Rattle.lift_replay.specs.Told.{ScriptClerk, OutcomeTells, TurnTells, HasCommitted, HasFailedCommit, device_of}
use Rattle.lift_replay.specs.Shows.{AreInStep, IsFound, IsFused, Stands, IsKeeperOf, Shows}
use Rattle.lift_replay.proofs.InStep.{AllFound, all_found, commands_found, finds_waiting, hear_all, looked_alone, told_alike, waiting_is}

le_of : (a b : ℕ) → nat_le a b ≡ true → a ≤ b
le_of a b e = leb-true a b e

past_of : (a b : ℕ) → nat_le a b ≡ false → b < a
past_of a b e = elim (leb_tells a b) [ inl below ↦ absurd (false≢true (sym e ∙ below.0)) | inr above ↦ above.1 ]

within : (a b : ℕ) → a ≤ b → nat_le a b ≡ true
within a b h = le-leb a b h

beyond : (a b : ℕ) → b < a → nat_le a b ≡ false
beyond a b h = elim (leb_tells a b) [ inl below ↦ absurd (let le = below.1 in omega (arith, le, h)) | inr above ↦ above.0 ]

-- a run under Etd is what is computed
pub run_is : StepsAreDecisions IsEtdChoice etd_pick → (plan : Plan) (state : State) (commands : List Command) (replies : List Reply) (next : State) → Run plan IsEtdChoice state commands replies next
    → (replies ≡ replies_by plan state commands) × (next ≡ state_by plan state commands)
run_is computed plan state [] [] next run = (refl, run)
run_is computed plan state [] (r ∷ replies) next run = absurd run
run_is computed plan state (c ∷ commands) [] next run = absurd run
run_is computed plan state (c ∷ commands) (r ∷ replies) next (mid, step, run) =
    let one = (computed plan state c.terminal c.number c.body r mid).0 step in
    let rest = run_is computed plan mid commands replies next run in (
      ap (λ x. x ∷ replies) one.0 ∙ ap (λ l. (decision_by etd_pick plan state c.terminal c.number c.body).reply ∷ l) (rest.0 ∙ ap (λ s. replies_by plan s commands) one.1),
      rest.1 ∙ ap (λ s. state_by plan s commands) one.1,
    )

pub same_length : (olds news : List TerminalSeat) (heard : List ℕ) → AllHear olds news heard → length news ≡ length olds
same_length [] [] heard hear = refl
same_length [] (new ∷ news) heard hear = absurd hear
same_length (old ∷ olds) [] heard hear = absurd hear
same_length (old ∷ olds) (new ∷ news) heard hear = ap suc (same_length olds news hear.1 hear.3)

heard_length : (terminals : List Asking) → length (having_heard terminals) ≡ length terminals
heard_length [] = refl
heard_length (a ∷ terminals) = ap suc (heard_length terminals)

-- what a turn takes and what is heard after it
pub record TakesAll (terminals : List Asking) (visits : List Visit) (replies : List Reply) (after : List TerminalSeat) (known : List ClerkPlace) (heard : List ℕ) : Type 0 where
  pub commands : commands_at 0 visits ≡ waiting_from 0 terminals
  pub text : heard ≡ heard_replies_text (waiting_from 0 terminals) replies
  pub in_step : AreInStep (having_heard terminals) after known

-- each terminal was told, or as many were taken as terminals wait
all_told : (taken : Option ℕ) (seats told : List TerminalSeat) (places known : List ClerkPlace) → AreTold taken seats told places known
    → ((i : ℕ) → i < length seats → BothTold (seat_at seats i) (seat_at told i) (view_at places i) (view_at known i)) ⊎ (taken ≡ Some (waiting_count seats))
all_told None seats told places known are = inl (λ i below. elim (are.each i below) [ inl both ↦ both | inr rests ↦ absurd (let e = rests.0 in cc) ])
all_told (Some n) seats told places known are = elim (cases_eq n (waiting_count seats)) [
  | inl same ↦ inr (ap Some same)
  | inr other ↦ inl (λ i below. elim (are.each i below) [ inl both ↦ both | inr rests ↦ absurd (other (let e = rests.0 in cc)) ])
]

pub takes_all : (terminals : List Asking) (seats told after : List TerminalSeat) (taken : Option ℕ) (places turned known : List ClerkPlace) (visits : List Visit) (replies : List Reply) (heard : List ℕ)
    → AreInStep terminals seats places → LooksAndAnswers places turned visits replies → ((n : ℕ) → taken ≡ Some n → n ≡ length (commands_at 0 visits)) → AreTold taken seats told turned known → AllHear told after heard
    → TakesAll terminals visits replies after known heard
takes_all terminals seats told after taken places turned known visits replies heard step serves counted knows hear =
    let seat : ℕ → _ = λ (i : ℕ). (seat_at seats i).view in
    let many : length visits ≡ length terminals = serves.each_once ∙ step.place_count in
    let found : AllFound visits terminals = elim (all_told taken seats told turned known knows) [
      | inl both ↦ all_found terminals places visits replies seat many step.place_count serves.finds step.each
          (λ i below. subst (λ l. IsPrefix (view_at l i).taken (seat_at seats i).view.asked) serves.stored (both i (omega (arith, below, step.seat_count))).in_order.taken)
      | inr as_many ↦ (finds_waiting 0 terminals places visits seat many step.place_count serves.finds step.each).1
          (sym (counted (waiting_count seats) as_many) ∙ waiting_is 0 terminals seats (λ i. view_at places i) step.seat_count step.each)
    ] in
    let commands = commands_found 0 visits terminals found in
    let alike : (i : ℕ) → i < length terminals → (seat_at told i ≡ told_seat (seat_at seats i) (view_at turned i)) × (view_at known i ≡ with_told_asks (view_at turned i) (seat i).asked) = λ i below.
    elim (knows.each i (omega (arith, below, step.seat_count))) [
      | inl both ↦ (both.hears, both.knows)
      | inr rests ↦ told_alike (asking_at terminals i).waiting (asking_at terminals i) (seat_at seats i) (seat_at told i) (view_at places i) (view_at turned i) (view_at known i) (step.each i below) refl rests.1
          (λ none. subst (λ l. (word : ℕ) × (view_at l i ≡ with_taking (view_at places i) word)) (sym serves.stored) (looked_alone i terminals places visits replies found step.place_count below none))
    ] in
    let all = hear_all 0 terminals places visits replies seat told after heard (λ i. view_at known i) found step.place_count (knows.count ∙ step.seat_count) serves.finds serves.in_range (serves.one_reply_each ∙ ap length commands) step.each
    (λ i below. ap (λ (s : TerminalSeat). s.view) (alike i below).0 ∙ ap (λ l. with_told_answers (seat_at seats i).view (view_at l i).answered) serves.stored)
    (λ i below. (alike i below).1 ∙ ap (λ l. with_told_asks (view_at l i) (seat_at seats i).view.asked) serves.stored)
    (λ i below. ap (λ (s : TerminalSeat). s.terminal) (alike i below).0 ∙ step.own i below ∙ omega arith)
    hear in
    let count = heard_length terminals in
    record {
      commands = commands;
      text = all.text;
      in_step = record {
        seat_count = same_length told after heard hear ∙ knows.count ∙ step.seat_count ∙ sym count;
        place_count = knows.place_count ∙ ap length serves.stored ∙ length-served places visits replies ∙ step.place_count ∙ sym count;
        own = λ i below. all.own i (omega (arith, below, count)) ∙ omega arith;
        each = λ i below. all.each i (omega (arith, below, count));
      };
    }

-- a run that a mark divides has failed: what each cut leaves
module _ (plan : Plan) (old new : DiskState) (P Q : Found) (unmarks : Bool) (offset mark made whole : ℕ) (honest : new.is_honest) (is : whole ≡ offset + mark)
    (stops : FailsAtMark (IsFound plan P) (IsFound plan Q) unmarks whole old new) (calls : new.calls ≡ old.calls + offset + made) (most : made ≤ mark + 2) where
  abbrev Past : Bool → Image → Type 0
  Past b image = IsFound plan (if b then Q else P) image

  -- before the mark's write a cut leaves what was there
  is_early : (outcome : Outcome) → made ≤ mark → is_past outcome mark made unmarks ≡ false
  is_early Keep early = beyond (mark + 2) made (omega (arith, early))
  is_early Lose early = refl
  is_early (Fill byte) early = ap (λ b. b && (if byte == 165 then not unmarks else unmarks)) (beyond (mark + 1) made (omega (arith, early)))

  marked : (b : Bool) (image : Image) → MatchBool b (IsFound plan P image) (IsFound plan Q image) → Past (not b) image
  marked true image found = found
  marked false image found = found

  unmarked : (b : Bool) (image : Image) → MatchBool b (IsFound plan Q image) (IsFound plan P image) → Past b image
  unmarked true image found = found
  unmarked false image found = found

  after_mark : (outcome : Outcome) (image : Image) → mark < made → IsLeftBy outcome new image → Past (is_past outcome mark made unmarks) image
  after_mark Keep image past left = kept (nat_le (mark + 2) made) refl
    where
      kept : (b : Bool) → nat_le (mark + 2) made ≡ b → Past b image
      kept true written = subst (IsFound plan Q) (sym left) (stops.keeps_new (let w = le_of (mark + 2) made written in omega (arith, calls, is, most, w)))
      kept false written = subst (IsFound plan P) (sym left) (stops.keeps_old (let w = past_of (mark + 2) made written in omega (arith, calls, is, past, w)))
  after_mark Lose image past left = subst (IsFound plan P) (sym left) (stops.loses (omega (arith, calls, is, past)))
  after_mark (Fill byte) image past left =
      subst (λ b. Past (b && (if byte == 165 then not unmarks else unmarks)) image) (sym (within (mark + 1) made (omega (arith, past)))) (filled (byte == 165) refl)
    where
      filled : (c : Bool) → (byte == 165) ≡ c → Past (if c then not unmarks else unmarks) image
      filled true e = subst (λ n. IsFilled n new image → Past (not unmarks) image) (sym (eqb-true byte 165 e)) (λ is_filled. marked unmarks image (stops.fills_mark (omega (arith, calls, is, past)) image is_filled)) left
      filled false e = unmarked unmarks image (stops.fills_other (omega (arith, calls, is, past)) byte image (eqb-false byte 165 e) left)

  pub left_at_mark : (outcome : Outcome) (image : Image) → IsLeftBy outcome new image → MayLeave new image → Past (is_past outcome mark made unmarks) image
  left_at_mark outcome image left may = elim (leb_tells made mark) [
    | inl below ↦ (let early = below.1 in subst (λ b. Past b image) (sym (is_early outcome early)) (stops.early (omega (arith, calls, is, early)) honest image may))
    | inr above ↦ after_mark outcome image above.1 left
  ]

-- what each cut leaves of a commit that has failed
module _ (plan : Plan) (g : ScriptGroup) (s : FailedBatch) (old new : DiskState) (honest : new.is_honest)
    (stops : IsFailedCommit plan half g.safe.is_in_second_half g.safe.used g.safe.register s.batch old new) (calls : new.calls ≡ old.calls + s.made) (some : 0 < length s.batch)
    (most : s.made ≤ commit_call_count g.safe.register g.safe.used half (length s.batch)) where
  abbrev room : Found
  room = with_room g.safe (length s.batch)

  room_is : (b : Bool) → has_room g.safe.used half (length s.batch) ≡ b → (room_for g.safe s.batch ≡ 0) ⊎ (room_for g.safe s.batch ≡ sectors_for (length (base_records g.safe.register)) + 4)
  room_is true e = inl (ap (λ c. cond c 0 (sectors_for (length (base_records g.safe.register)) + 4)) e)
  room_is false e = inr (ap (λ c. cond c 0 (sectors_for (length (base_records g.safe.register)) + 4)) e)

  all_calls : s.made ≤ room_for g.safe s.batch + (body_size (length s.batch) + 4)
  all_calls = subst (λ c. s.made ≤ cond c 0 (room_for g.safe s.batch + (body_size (length s.batch) + 4))) (ne_eqb (length s.batch) 0 (λ z. omega (arith, z, some))) most

  fold_left : (outcome : Outcome) (image : Image) → s.made ≤ room_for g.safe s.batch → IsLeftBy outcome new image → MayLeave new image → IsFound plan (in_folding outcome g.safe s.made) image
  fold_left outcome image early left may =
      let stop = stops.folding (omega (arith, calls, early)) in
      left_at_mark plan old new g.safe (folded g.safe) g.safe.is_in_second_half 0 (sectors_for (length (base_records g.safe.register)) + 2) s.made (sectors_for (length (base_records g.safe.register)) + 2) honest (omega arith) stop
      (omega (arith, calls)) (omega (arith, few)) outcome image left may
    where
      few : s.made ≤ sectors_for (length (base_records g.safe.register)) + 4
      few = elim (room_is (has_room g.safe.used half (length s.batch)) refl) [ inl none ↦ omega (arith, none, early) | inr some_room ↦ omega (arith, some_room, early) ]

  append_left : (outcome : Outcome) (image : Image) → room_for g.safe s.batch < s.made → IsLeftBy outcome new image → MayLeave new image
      → IsFound plan (in_append outcome room s.batch (s.made - room_for g.safe s.batch)) image
  append_left outcome image late left may =
      left_at_mark plan old new room (with_batch room s.batch) false
      (room_for g.safe s.batch) (body_size (length s.batch) + 2) (s.made - room_for g.safe s.batch) (room_for g.safe s.batch + (body_size (length s.batch) + 2)) honest refl
      (adds (has_room g.safe.used half (length s.batch)) (stops.adding (omega (arith, calls, late)))) (omega (arith, calls, late)) (omega (arith, all_calls, late)) outcome image left may
    where
      adds : (b : Bool)
          → FailsInAppend plan half (if b then g.safe.is_in_second_half else not g.safe.is_in_second_half) (if b then g.safe.used else sectors_for (length (base_records g.safe.register))) g.safe.register s.batch (room_for g.safe s.batch) old new
          → FailsAtMark (IsFound plan (if b then g.safe else folded g.safe)) (IsFound plan (with_batch (if b then g.safe else folded g.safe) s.batch)) false (room_for g.safe s.batch + (body_size (length s.batch) + 2)) old new
      adds true fails = fails
      adds false fails = fails

  pub cut_as : (outcome : Outcome) (image : Image) → IsLeftBy outcome new image → MayLeave new image → IsFound plan (found_after_cut (Some s) outcome g.safe) image
  cut_as outcome image left may = cases (nat_le s.made (room_for g.safe s.batch)) refl
    where
      cases : (b : Bool) → nat_le s.made (room_for g.safe s.batch) ≡ b
          → IsFound plan (if b then in_folding outcome g.safe s.made else in_append outcome room s.batch (s.made - room_for g.safe s.batch)) image
      cases true e = fold_left outcome image (le_of s.made (room_for g.safe s.batch) e) left may
      cases false e = append_left outcome image (past_of s.made (room_for g.safe s.batch) e) left may

-- whether so many calls pass a fuse, and how many are made where they don't
abbrev passes : Option ℕ → ℕ → Bool
passes passing need = option_map_or (nat_le need) passing true

abbrev calls_to_fail : Option ℕ → ℕ
calls_to_fail passing = option_map_or suc passing 0

-- whether a turn's commit passes the fuse
pub passes_all : (passing : Option ℕ) (need : ℕ) (old new : DiskState) → old.is_inert → IsFused passing old → new.calls ≡ old.calls + need → NoneFails old new → passes passing need ≡ true
passes_all None need old new inert fused calls none = refl
passes_all (Some left) need old new inert fused calls none = elim (leb_tells need left) [
  | inl below ↦ below.0
  | inr above ↦ absurd (
      let past = above.1 in
      let call : old.calls < old.calls + left + 1 = omega arith in
      none.armed inert (old.calls + left + 1) call (omega (arith, calls, past)) ((fused.armed (old.calls + left + 1) call).1 (omega arith)))
]

-- the fuse after it
pub fused_on : (passing : Option ℕ) (need : ℕ) (old new : DiskState) → passes passing need ≡ true → IsFused passing old → new.calls ≡ old.calls + need → NoneFails old new
    → ((call : ℕ) → new.calls < call → new.fails_at call ↔ old.fails_at call) → IsFused (option_map (λ left. left - need) passing) new
fused_on None need old new ok fused calls none keeps = record {
  armed = λ call past. ((λ f. (fused.armed call (omega (arith, past, calls))).0 ((keeps call past).0 f)), (λ f. absurd f));
  short = none.short ∙ fused.short;
}
fused_on (Some left) need old new ok fused calls none keeps =
    let fits = le_of need left ok in
    record {
      armed = λ call past. (
        (λ f. let at : old.calls + left < call = (fused.armed call (omega (arith, past, calls))).0 ((keeps call past).0 f) in omega (arith, at, calls, fits)),
        (λ at. (keeps call past).1 ((fused.armed call (omega (arith, past, calls))).1 (omega (arith, at, calls, fits)))),
      );
      short = none.short ∙ fused.short;
    }

-- or it has failed at the fuse
pub record FailsAtFuse (passing : Option ℕ) (need : ℕ) (old new : DiskState) : Type 0 where
  pub failed : passes passing need ≡ false
  pub calls : new.calls ≡ old.calls + calls_to_fail passing
  pub most : calls_to_fail passing ≤ need

pub stops_at : (passing : Option ℕ) (need : ℕ) (old new : DiskState) → old.is_inert → IsFused passing old → new.is_short ≡ false → new.calls ≤ old.calls + need → LastFails old new
    → FailsAtFuse passing need old new
stops_at passing need old new inert fused long most last = last_call passing fused (last.last inert)
  where
    last_call : (p : Option ℕ) → IsFused p old → old.fails_at new.calls × (new.is_short ≡ old.is_short) ⊎ ¬ old.fails_at new.calls × (new.is_short ≡ true) → FailsAtFuse p need old new
    last_call p f (inr short) = absurd (false≢true (sym long ∙ short.1))
    last_call None f (inl fails) = absurd ((f.armed new.calls last.some).0 fails.0)
    last_call (Some left) f (inl fails) =
        let past : old.calls + left < new.calls = (f.armed new.calls last.some).0 fails.0 in
        let call : old.calls < old.calls + left + 1 = omega arith in
        let here : new.calls ≡ old.calls + suc left = elim (leb_tells new.calls (old.calls + left + 1)) [
          | inl below ↦ (let le = below.1 in omega (arith, le, past))
          | inr above ↦ absurd (last.before inert (old.calls + left + 1) call (let lt = above.1 in omega (arith, lt)) ((f.armed (old.calls + left + 1) call).1 (omega arith)))
        ] in
        record { failed = beyond need left (omega (arith, past, most)); calls = here; most = omega (arith, here, most) }

pub with_terminals : (plan : Plan) (g : ScriptGroup) (keeper : KeeperView FusedDisk) (terminals : List Asking) (s : Option FailedBatch) → Stands s plan g keeper → Stands s plan (record g { terminals = terminals }) keeper
with_terminals plan g keeper terminals None stands = stands
with_terminals plan g keeper terminals (Some s) stands = stands

is_broken_not : (b : Bool) → b ≡ true → b ≡ false → ⊥
is_broken_not b yes_it no_it = true≢false (sym yes_it ∙ no_it)

-- A turn tells what is computed, and makes the group that is computed.
module _ (computed : StepsAreDecisions IsEtdChoice etd_pick) (plan : Plan) (g : ScriptGroup) (old new : ScriptClerk) (seats after : List TerminalSeat) (text : List ℕ)
    (shows : Shows plan g old seats) (outcome : OutcomeTells old new seats after text) (long : (device_of new).is_short ≡ false) where
  abbrev now : ScriptClerk
  now = outcome.turned

  same_keeper : new.keeper ≡ now.keeper
  same_keeper = ap (λ (c : ScriptClerk). c.keeper) outcome.rest

  abbrev Result : Option FailedBatch → Type 0
  Result s = (text ≡ turn_report s plan g) × IsKeeperOf plan (turned s plan g) now.keeper × AreInStep (turned s plan g).terminals after new.seat

  -- by whether the commit is made
  abbrev By : Bool → List ℕ
  By b = if b then turn_text (length (waiting_commands g)) (length (state_decided plan g).batch) ++ heard_replies_text (waiting_commands g) (replies_by plan (state_to_decide_on g) (waiting_commands g)) else failed_turn_report g 1

  abbrev Made : Bool → ScriptGroup
  Made b = if b then after_turn g (state_decided plan g) else after_failure g (state_decided plan g)

  long_now : (device_of now).is_short ≡ false
  long_now = subst (λ (k : KeeperView FusedDisk). (fuse_state_of k.writer.device).is_short ≡ false) same_keeper long

  went_well : (s : Option FailedBatch) → Stands s plan g old.keeper → (counts : Counts) → IsTurn IsEtdChoice old now counts → HasCommitted old now counts.accepted → outcome.head ≡ turn_text counts.taken counts.accepted → outcome.taken ≡ Some counts.taken → Result s
  went_well (Some s) stands counts turn made head took = absurd (is_broken_not old.keeper.writer.is_broken stands.0 made.was_whole)
  went_well None stands counts turn made head took =
      let takes = takes_all g.terminals seats outcome.told after outcome.taken old.seat now.seat new.seat turn.visits turn.replies outcome.heard shows.terminals turn.serves (λ n is. (let same = sym took ∙ is in cc) ∙ turn.taken) outcome.knows outcome.hear in
      let run = subst (λ cs. Run old.keeper.writer.plan IsEtdChoice old.keeper.state cs turn.replies turn.decided) takes.commands turn.run in
      let run_here = subst (λ (p : Plan). Run p IsEtdChoice old.keeper.state (waiting_commands g) turn.replies turn.decided) shows.keeper.same_plan run in
      let is = run_is computed plan (state_to_decide_on g) (waiting_commands g) turn.replies turn.decided (subst (λ s. Run plan IsEtdChoice s (waiting_commands g) turn.replies turn.decided) stands.1 run_here) in
      let accepted : counts.accepted ≡ length (state_decided plan g).batch = turn.accepted ∙ ap (λ (s : State). length s.batch) is.1 in
      let need : (device_of now).calls ≡ (device_of old).calls + calls_for g (state_decided plan g) =
      made.calls ∙ ap (λ r. (device_of old).calls + commit_call_count r old.keeper.writer.used old.keeper.writer.half counts.accepted) shows.keeper.register
      ∙ ap (λ u. (device_of old).calls + commit_call_count g.safe.register u old.keeper.writer.half counts.accepted) stands.2
      ∙ ap (λ h. (device_of old).calls + commit_call_count g.safe.register g.safe.used h counts.accepted) shows.keeper.half_is
      ∙ ap (λ n. (device_of old).calls + commit_call_count g.safe.register g.safe.used half n) accepted in
      let ok = passes_all g.passing (calls_for g (state_decided plan g)) (device_of old) (device_of now) tt stands.4 need made.none_fails in
      let kept : IsKeeperOf plan (after_turn g (state_decided plan g)) now.keeper = record {
        same_plan = outcome.place.plan ∙ shows.keeper.same_plan;
        half_is = outcome.place.half ∙ shows.keeper.half_is;
        register = made.register ∙ ap (λ (s : State). s.register) (turn.after ∙ ap without_batch is.1);
        stands = (
          made.whole,
          turn.after ∙ ap without_batch is.1,
          made.used ∙ ap (λ r. commit_used r old.keeper.writer.used old.keeper.writer.half counts.accepted) shows.keeper.register
              ∙ ap (λ u. commit_used g.safe.register u old.keeper.writer.half counts.accepted) stands.2
              ∙ ap (λ h. commit_used g.safe.register g.safe.used h counts.accepted) shows.keeper.half_is
              ∙ ap (λ n. commit_used g.safe.register g.safe.used half n) accepted,
          made.second ∙ ap (λ b. commit_second b old.keeper.writer.used old.keeper.writer.half counts.accepted) stands.3
              ∙ ap (λ u. commit_second g.safe.is_in_second_half u old.keeper.writer.half counts.accepted) stands.2
              ∙ ap (λ h. commit_second g.safe.is_in_second_half g.safe.used h counts.accepted) shows.keeper.half_is
              ∙ ap (λ n. commit_second g.safe.is_in_second_half g.safe.used half n) accepted,
          fused_on g.passing (calls_for g (state_decided plan g)) (device_of old) (device_of now) ok stands.4 need made.none_fails outcome.place.fuse,
        );
      } in
      let told : text ≡ By true =
      outcome.shown ∙ ap (λ l. l ++ outcome.heard) (head ∙ ap (λ n. turn_text n counts.accepted) (turn.taken ∙ ap length takes.commands) ∙ ap (turn_text (length (waiting_commands g))) accepted)
      ∙ ap (λ l. turn_text (length (waiting_commands g)) (length (state_decided plan g).batch) ++ l) (takes.text ∙ ap (heard_replies_text (waiting_commands g)) is.0) in (
        told ∙ ap By (sym ok),
        subst (λ b. IsKeeperOf plan (Made b) now.keeper) (sym ok) kept,
        subst (λ b. AreInStep (Made b).terminals after new.seat) (sym ok) takes.in_step,
      )

  commit_failed : (s : Option FailedBatch) → Stands s plan g old.keeper → IsFailedTurn IsEtdChoice old now → HasFailedCommit old now → outcome.head ≡ fault_text (codes "turn") 1 → outcome.taken ≡ None → Result s
  commit_failed (Some s) stands turn stop head none = absurd (is_broken_not old.keeper.writer.is_broken stands.0 stop.was_whole)
  commit_failed None stands turn stop head none =
      let takes = takes_all g.terminals seats outcome.told after outcome.taken old.seat now.seat new.seat turn.visits (unknowns (commands_at 0 turn.visits)) outcome.heard shows.terminals turn.serves (λ n is. absurd (let same = sym none ∙ is in cc)) outcome.knows outcome.hear in
      let run = subst (λ cs. Run old.keeper.writer.plan IsEtdChoice old.keeper.state cs turn.decided_so now.keeper.state) takes.commands turn.run in
      let run_here = subst (λ (p : Plan). Run p IsEtdChoice old.keeper.state (waiting_commands g) turn.decided_so now.keeper.state) shows.keeper.same_plan run in
      let is = run_is computed plan (state_to_decide_on g) (waiting_commands g) turn.decided_so now.keeper.state (subst (λ s. Run plan IsEtdChoice s (waiting_commands g) turn.decided_so now.keeper.state) stands.1 run_here) in
      let batch : now.keeper.state.batch ≡ (state_decided plan g).batch = ap (λ (s : State). s.batch) is.1 in
      let doubt : now.keeper.writer.doubt ≡ (state_decided plan g).batch = turn.doubt ∙ batch in
      let need : (device_of now).calls ≤ (device_of old).calls + calls_for g (state_decided plan g) =
      subst (λ n. (device_of now).calls ≤ (device_of old).calls + commit_call_count g.safe.register g.safe.used half n) (ap length batch)
      (subst (λ h. (device_of now).calls ≤ (device_of old).calls + commit_call_count g.safe.register g.safe.used h (length now.keeper.state.batch)) shows.keeper.half_is
      (subst (λ u. (device_of now).calls ≤ (device_of old).calls + commit_call_count g.safe.register u old.keeper.writer.half (length now.keeper.state.batch)) stands.2
      (subst (λ r. (device_of now).calls ≤ (device_of old).calls + commit_call_count r old.keeper.writer.used old.keeper.writer.half (length now.keeper.state.batch)) shows.keeper.register stop.calls))) in
      let fuse = stops_at g.passing (calls_for g (state_decided plan g)) (device_of old) (device_of now) tt stands.4 long_now need stop.last_fails in
      let stops : IsFailedCommit plan half g.safe.is_in_second_half g.safe.used g.safe.register (state_decided plan g).batch (device_of old) (device_of now) =
      subst (λ (p : Plan). IsFailedCommit p half g.safe.is_in_second_half g.safe.used g.safe.register (state_decided plan g).batch (device_of old) (device_of now)) shows.keeper.same_plan
      (subst (λ h. IsFailedCommit old.keeper.writer.plan h g.safe.is_in_second_half g.safe.used g.safe.register (state_decided plan g).batch (device_of old) (device_of now)) shows.keeper.half_is
      (subst (λ b. IsFailedCommit old.keeper.writer.plan old.keeper.writer.half b g.safe.used g.safe.register (state_decided plan g).batch (device_of old) (device_of now)) stands.3
      (subst (λ u. IsFailedCommit old.keeper.writer.plan old.keeper.writer.half old.keeper.writer.is_in_second_half u g.safe.register (state_decided plan g).batch (device_of old) (device_of now)) stands.2
      (subst (λ r. IsFailedCommit old.keeper.writer.plan old.keeper.writer.half old.keeper.writer.is_in_second_half old.keeper.writer.used r (state_decided plan g).batch (device_of old) (device_of now)) shows.keeper.register
      (subst (λ d. IsFailedCommit old.keeper.writer.plan old.keeper.writer.half old.keeper.writer.is_in_second_half old.keeper.writer.used old.keeper.writer.register d (device_of old) (device_of now)) doubt stop.fails))))) in
      let failed : FailedBatch = record { made = calls_to_fail g.passing; batch = (state_decided plan g).batch } in
      let kept : IsKeeperOf plan (after_failure g (state_decided plan g)) now.keeper = record {
        same_plan = outcome.place.plan ∙ shows.keeper.same_plan;
        half_is = outcome.place.half ∙ shows.keeper.half_is;
        register = stop.register ∙ shows.keeper.register;
        stands = (
          stop.broken,
          cut_as plan g failed (device_of old) (device_of now) tt stops fuse.calls (subst (λ b. 0 < length b) batch turn.some) fuse.most,
        );
      } in
      let told : text ≡ By false =
      outcome.shown ∙ ap (λ l. l ++ outcome.heard) head
      ∙ ap (λ l. fault_text (codes "turn") 1 ++ l) (takes.text ∙ ap (heard_replies_text (waiting_commands g)) (ap unknowns takes.commands)) in (
        told ∙ ap By (sym fuse.failed),
        subst (λ b. IsKeeperOf plan (Made b) now.keeper) (sym fuse.failed) kept,
        subst (λ b. AreInStep (Made b).terminals after new.seat) (sym fuse.failed) takes.in_step,
      )

  was_broken : (s : Option FailedBatch) → Stands s plan g old.keeper → old.keeper.writer.is_broken ≡ true → IsBrokenTurn old now → outcome.head ≡ fault_text (codes "turn") 5 → outcome.taken ≡ None → g.failed ≡ s → Result s
  was_broken None stands broken turn head none is = absurd (is_broken_not old.keeper.writer.is_broken broken stands.0)
  was_broken (Some s) stands broken turn head none is =
      let takes = takes_all g.terminals seats outcome.told after outcome.taken old.seat now.seat new.seat turn.visits (unknowns (commands_at 0 turn.visits)) outcome.heard shows.terminals turn.serves (λ n is. absurd (let same = sym none ∙ is in cc)) outcome.knows outcome.hear in
      let kept : IsKeeperOf plan (record g { terminals = having_heard g.terminals }) old.keeper = record {
        same_plan = shows.keeper.same_plan;
        half_is = shows.keeper.half_is;
        register = shows.keeper.register;
        stands = with_terminals plan g old.keeper (having_heard g.terminals) g.failed shows.keeper.stands;
      } in (
        outcome.shown ∙ ap (λ l. l ++ outcome.heard) head ∙ ap (λ l. fault_text (codes "turn") 5 ++ l) (takes.text ∙ ap (heard_replies_text (waiting_commands g)) (ap unknowns takes.commands)),
        subst (IsKeeperOf plan (record g { terminals = having_heard g.terminals })) (sym turn.rests) kept,
        takes.in_step,
      )

  by_turn : TurnTells old now outcome.taken outcome.head → Result g.failed
  by_turn (inl (counts, turn, made, head, took)) = went_well g.failed shows.keeper.stands counts turn made head took
  by_turn (inr (inl (turn, stop, head, none))) = commit_failed g.failed shows.keeper.stands turn stop head none
  by_turn (inr (inr (broken, turn, head, none))) = was_broken g.failed shows.keeper.stands broken turn head none refl

  pub turn_shows : (text ≡ turn_report g.failed plan g) × Shows plan (turned g.failed plan g) new after
  turn_shows =
      let result = by_turn outcome.tells in (
        result.0,
        record { keeper = subst (IsKeeperOf plan (turned g.failed plan g)) (sym same_keeper) result.1; terminals = result.2 },
      )
