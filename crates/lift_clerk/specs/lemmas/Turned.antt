-- A clerk's turn in the machine: terminals ask what was not asked yet, a scan takes it, and a flush
-- answers it.
use Rattle.std.proofs.Common.{ℕ, ◌≡◌, ◌≢◌, false, List, [], ◌∷◌, ◌++◌, length, map}
use Rattle.std.proofs.Common.{Option, refl, sym, ap, subst, ◌∙◌, arith, append_assoc}
use Rattle.std.specs.Prelude.{filter}
use Rattle.std.specs.List.{AllByRecursion}
use Rattle.std.proofs.Math.Seq.{drop-length}
use Rattle.std.proofs.lemmas.List.{append-nil, length-append}
use Rattle.std.proofs.lemmas.List.Elements.{filter-append}
use Rattle.std.proofs.lemmas.List.Sums.{length-filter}
use Rattle.lift_base.specs.declared.command.Reply.{Reply}
use Rattle.lift_base.specs.declared.history.Entry.{Entry}
use Rattle.lift_base.specs.declared.travel.Position.{Position}
use Rattle.lift_register.specs.Register.{RegisterState, register_of}
use Rattle.lift_register.specs.Joins.{RegistersJoin}
use Rattle.lift_desk.specs.Seats.{view_at}
use Rattle.lift_policy.specs.Eligible.{Choice, any_eligible}
use Rattle.lift_policy.specs.Step.{State}
use Rattle.lift_policy.specs.Run.{Run}
use Rattle.lift_policy.specs.declared.command.Command.{Command}
use Rattle.lift_keeper.specs.lemmas.Keepers.{nothing_after}
use Rattle.lift_world.specs.declared.event.Answer.{Answer}
use Rattle.lift_world.specs.declared.event.Event.{Event}
use Rattle.lift_world.specs.declared.event.Event.TheVariants.{Seal, Pull}
use Rattle.lift_world.specs.declared.event.Taken.{Taken}
use Rattle.lift_world.specs.World.{World, asks, is_answer_to, state_of, state_at, safe_list}
use Rattle.lift_world.specs.Asking.{asked_on}
use Rattle.lift_world.specs.Policies.{RunsAreAny}
use Rattle.lift_world.specs.Relay.{allocator_events, flusher_events}
use Rattle.lift_world.specs.Turns.{IsAtRest, with_replies, take_events, turn_events, device_calls}
use Rattle.lift_world.specs.lemmas.Goes.{joined}
use Rattle.lift_clerk.specs.Clerk.{ClerkState}
use Rattle.lift_clerk.specs.Turn.{without_batch}
use Rattle.lift_clerk.specs.Visits.{commands_of}
use Rattle.lift_clerk.specs.TakenAndAnswered.{TakesAndAnswers}
use Rattle.lift_clerk.specs.Steps.{DecidesOn, TurnMakesSafe}
use Rattle.lift_clerk.specs.declared.counts.Counts.{Counts}
use Rattle.lift_clerk.specs.Tied.{SentBatch, command_of, all_found, IsTied, LeadsTo}
use Rattle.lift_clerk.specs.Machine.{IsMachineOf, LooksAgree, WaitsNowhere, waiting_in, LeadsToClerk}
use Rattle.lift_clerk.specs.Machine.{events_of_turn, Turns, TurnsAreTurns}
use Rattle.lift_clerk.specs.Laws.{Laws}
use Rattle.lift_clerk.specs.lemmas.Lists.{answers_to, as_many}
use Rattle.lift_clerk.specs.lemmas.Served.{answers_of}
use Rattle.lift_clerk.specs.lemmas.Tied.{asked_more, reaches, same_tied, nothing_gathered, leads_both, empty_of}
use Rattle.lift_clerk.specs.lemmas.Standing.{fresh, fresh_none, fresh_all, Splits, splits_of, waiting_is, all_wait}
use Rattle.lift_clerk.specs.lemmas.Asked.{Asked, ask, resting, run_in}
use Rattle.lift_clerk.specs.lemmas.Allocated.{DecidesSo, allocation}
use Rattle.lift_clerk.specs.lemmas.Flushed.{Answers, answer_all, flush_safe}

-- the register of the accepted entries, and what decisions read, where all is safe
module _ (registers : RegistersJoin) where
  pub register_with : (w : World) (batch : List Entry) (register : RegisterState)
      → register_of w.base (safe_list w) ≡ register
      → register_of w.base (safe_list w ++ batch) ≡ register_of register batch
  register_with w batch register e =
      sym (registers w.base (safe_list w) batch) ∙ ap (λ (r : RegisterState). register_of r batch) e

pub state_is : (w : World) → IsAtRest w → (state : State)
    → register_of w.base w.accepted ≡ state.register → w.positions ≡ state.positions → [] ≡ state.batch
    → state_of w ≡ state
state_is w k state r p b =
    ap (λ (n : ℕ). state_at w.base w.accepted n w.positions) k.all_sealed
    ∙ ap (λ (xs : List Entry).
    record { register = register_of w.base w.accepted; positions = w.positions; batch = xs })
    (drop-length w.accepted ∙ b)
    ∙ ap (λ (ps : List (Option Position)).
    record { register = register_of w.base w.accepted; positions = ps; batch = state.batch }) p
    ∙ ap (λ (x : RegisterState).
    record { register = x; positions = state.positions; batch = state.batch }) r

pub without_none : (state : State) → state.batch ≡ [] → without_batch state ≡ state
without_none state none = ap (λ (xs : List Entry). record state { batch = xs }) (sym none)

-- commands with as many replies
pub held : (cs : List Command) (rs : List Reply) → length rs ≡ length cs → map command_of (with_replies cs rs) ≡ cs
held [] rs e = refl
held (c ∷ cs) [] e = absurd (omega arith)
held (c ∷ cs) (reply ∷ rs) e = ap (λ (ds : List Command). c ∷ ds) (held cs rs (omega arith))

module _ {D P : Type 0} (laws : Laws) (w : World) (before after : ClerkState D P) (m : IsMachineOf w before)
    (same_plan : after.keeper.writer.plan ≡ before.keeper.writer.plan) where
  -- a turn that took nothing
  pub rested : (rs : List Reply) → TakesAndAnswers before.seat after.seat [] rs
      → (after.keeper.writer.is_broken ≡ false → state_of w ≡ before.keeper.state → after.keeper.state ≡ before.keeper.state)
      → after.keeper.writer.register ≡ before.keeper.writer.register → after.keeper.writer.doubt ≡ before.keeper.writer.doubt
      → after.keeper.writer.is_broken ≡ before.keeper.writer.is_broken → LeadsToClerk w [] [] (safe_list w) after
  rested rs answers state register doubt broken = record {
    before = [];
    of_terminals = tt;
    end = w;
    possible = refl;
    same_base = refl;
    given_is = sym (append-nil w.given);
    safe_is = refl;
    waits = λ none. none;
    alone = λ none. (refl, refl, refl);
    shows = same_tied (record {
      ahead_is = λ t. (answers.grows t).taken ∙ append-nil (view_at before.seat t).taken;
      looked_is = λ t. (answers.grows t).taken ∙ append-nil (view_at before.seat t).taken;
      answered_is = λ t. (answers.grows t).answered ∙ append-nil (view_at before.seat t).answered;
      state_is = state;
      plan = same_plan;
      register = register;
      doubt = doubt;
      broken = broken;
    }) m;
  }

  module _ (cs : List Command) (some : cs ≢ []) (rs : List Reply) (answers : TakesAndAnswers before.seat after.seat cs rs)
      (agree : LooksAgree w cs) where
    pub asked : Asked w cs
    asked = ask laws w m.reached (splits_of m) (resting m) cs answers.apart

    abbrev pub w1 : World
    w1 = asked_on w (fresh w cs) asked.heard

    -- the scan
    pub scan : (batch : SentBatch) → map command_of batch.commands ≡ cs → (next : State)
        → (before.keeper.writer.is_broken ≡ false → DecidesSo w1 cs batch next)
        → (letters : List (Option ℕ)) × LeadsTo w1 (allocator_events cs letters) [] (safe_list w)
        (λ (v : World). IsTied v (λ (t : ℕ). (view_at after.seat t).taken) (view_at before.seat) next before.keeper.writer (batch ∷ []))
    scan batch same next decides =
        allocation laws (asked_more m (fresh w cs) asked.heard (reaches laws w m.reached asked.events w1 asked.possible refl refl))
        cs some (resting m).few (all_wait w (splits_of m) cs agree answers.apart) answers.apart
        (λ (t : ℕ). (view_at after.seat t).taken) (λ t. (answers.grows t).taken) batch same next decides

    -- what is told of it
    pub answers_are : (batch : SentBatch) → map command_of batch.commands ≡ cs → Answers batch (with_replies cs rs) (view_at before.seat) (view_at after.seat)
    answers_are batch same = record {
      commands = cs;
      are = same;
      replied_are = held cs rs answers.one_each;
      grows = answers.grows;
    }

    -- after all of it
    module _ (own : List Event) (safe : List Entry) (l : LeadsTo w1 own (with_replies cs rs) safe (λ (v : World). IsMachineOf v after)) where
      waits : WaitsNowhere w → WaitsNowhere l.end
      waits none t =
          let s : Splits l.end t = splits_of l.shows t in
          let old : Splits w t = splits_of m t in
          let told : List Answer = answers_to cs rs in
          let even = s.even in
          let old_even = old.even in
          let nothing : old.waiting ≡ [] = sym (waiting_is w t old) ∙ none t in
          waiting_is l.end t s
          ∙ empty_of s.waiting (omega (
            arith,
            ap length s.asked,
            length-append s.first s.waiting,
            ap (λ (cs : List Command). length (filter (asks t) cs)) l.same_asked,
            ap length (filter-append (asks t) w.asked (fresh w cs)),
            length-append (filter (asks t) w.asked) (filter (asks t) (fresh w cs)),
            ap length old.asked,
            length-append old.first old.waiting,
            ap length nothing,
            ap (λ (cs : List Command). length (filter (asks t) cs)) (fresh_all w none cs),
            as_many t cs rs answers.one_each,
            ap (λ (xs : List Answer). length (filter (is_answer_to t) xs)) l.answered_is,
            ap length (filter-append (is_answer_to t) w.answered told),
            length-append (filter (is_answer_to t) w.answered) (filter (is_answer_to t) told),
            length-filter (is_answer_to t) w.answered,
            length-filter (is_answer_to t) l.end.answered,
          ))

      alone : AllByRecursion (λ (c : Taken). waiting_in w c.terminal ≢ []) (with_replies cs rs)
          → (asked.events ≡ []) × (l.end.asked ≡ w.asked) × (l.end.heard ≡ w.heard)
      alone some =
          let none : fresh w cs ≡ [] = fresh_none w cs rs answers.one_each some in
          let still = asked.alone none in (
            still.0,
            l.same_asked ∙ ap (λ (xs : List Command). w.asked ++ xs) none ∙ append-nil w.asked,
            l.same_heard ∙ still.1,
          )

      pub follows : LeadsToClerk w own (with_replies cs rs) safe after
      follows = record {
        before = asked.events;
        of_terminals = asked.theirs;
        end = l.end;
        possible = joined asked.events own w w1 asked.possible ∙ l.possible;
        same_base = l.same_base;
        given_is = l.given_is;
        safe_is = l.safe_is;
        waits = waits;
        alone = alone;
        shows = l.shows;
      }

    -- the scan and then the flush
    pub leads_through : (letters : List (Option ℕ)) (batch : SentBatch) (next : State) (flush own : List Event) (safe : List Entry)
        → (k : LeadsTo w1 (allocator_events cs letters) [] (safe_list w)
        (λ (v : World). IsTied v (λ (t : ℕ). (view_at after.seat t).taken) (view_at before.seat) next before.keeper.writer (batch ∷ [])))
        → LeadsTo k.end flush (with_replies cs rs) safe (λ (v : World). IsMachineOf v after)
        → allocator_events cs letters ++ flush ≡ own → LeadsToClerk w own (with_replies cs rs) safe after
    leads_through letters batch next flush own safe k l e =
        subst (λ (es : List Event). LeadsToClerk w es (with_replies cs rs) safe after) e
        (follows (allocator_events cs letters ++ flush) safe
        (leads_both w1 (allocator_events cs letters) flush (with_replies cs rs) (safe_list w) safe
        (λ (v : World). IsTied v (λ (t : ℕ). (view_at after.seat t).taken) (view_at before.seat) next before.keeper.writer (batch ∷ []))
        (λ (v : World). IsMachineOf v after) k l))

  -- one that answers Ok
  module _ (whole : before.keeper.writer.is_broken ≡ false) (is_whole : after.keeper.writer.is_broken ≡ false) (no_doubt : after.keeper.writer.doubt ≡ []) where
    safe_turn : (cs : List Command) (rs : List Reply) (state : State) → TakesAndAnswers before.seat after.seat cs rs → LooksAgree w cs
        → Run w.building any_eligible (state_of w) cs rs state → after.keeper.state ≡ without_batch state
        → after.keeper.writer.register ≡ register_of before.keeper.writer.register state.batch
        → (letters : List (Option ℕ))
        × ((folds : ℕ) → LeadsToClerk w (events_of_turn cs letters folds (length state.batch)) (with_replies cs rs) (safe_list w ++ state.batch) after)
    safe_turn [] (reply ∷ rs) state answers agree run is register = absurd run
    safe_turn [] [] state answers agree run is register =
        let gathered = nothing_gathered w m.between in
        let none : state.batch ≡ [] = ap (λ (s : State). s.batch) run ∙ gathered in
        let same : register_of before.keeper.writer.register [] ≡ before.keeper.writer.register =
        ap (λ (r : RegisterState). register_of r []) (sym m.safe) ∙ nothing_after w.base (safe_list w) ∙ m.safe in (
          [],
          λ folds. subst (λ (es : List Entry). LeadsToClerk w [] [] es after) (sym (ap (λ (xs : List Entry). safe_list w ++ xs) none ∙ append-nil (safe_list w)))
              (rested [] answers (λ e q. is ∙ ap without_batch run ∙ without_none (state_of w) gathered ∙ q)
              (register ∙ ap (register_of before.keeper.writer.register) none ∙ same) (no_doubt ∙ sym (m.whole whole).no_doubt) (is_whole ∙ sym whole)),
        )
    safe_turn (c ∷ cs) rs state answers agree run is register =
        let all : List Command = c ∷ cs in
        let some : all ≢ [] = λ none. cc in
        let batch : SentBatch = record { commands = with_replies all rs; entries = state.batch } in
        let same : map command_of batch.commands ≡ all = held all rs answers.one_each in
        let decides : DecidesSo (w1 all some rs answers agree) all batch after.keeper.state =
        record { replies = rs; decided = state; run = run; commands = refl; entries = refl; after = is } in
        let k = scan all some rs answers agree batch same after.keeper.state (λ e. decides) in
        let f = flush_safe laws k.1.shows (view_at after.seat) after.keeper.state after.keeper.writer same_plan
        (answers_are all some rs answers agree batch same) whole is_whole register no_doubt refl in (
          k.0,
          λ folds.
              let flush : List Event = flusher_events all_found f.0 folds (length state.batch) in
              leads_through all some rs answers agree k.0 batch after.keeper.state flush (turn_events all k.0 folds (length state.batch)) (safe_list w ++ state.batch) k.1
              (subst (λ (es : List Entry). LeadsTo k.1.end flush (with_replies all rs) (es ++ state.batch) (λ (v : World). IsMachineOf v after)) k.1.safe_is (f.2 folds))
              (append_assoc (take_events all k.0) (Seal ∷ []) flush ∙ ap (λ (es : List Event). take_events all k.0 ++ (Seal ∷ Pull ∷ (device_calls folds (length state.batch) ++ es))) (answer_all all f.0.commands (f.1 ∙ same))),
        )

-- what a clerk's turn makes safe
abbrev pub makes_safe : {D P : Type 0} → (choice : Choice) → RunsAreAny choice
    → (before after : ClerkState D P) (counts : Counts) → Turns choice before after counts
    → TurnMakesSafe before after
makes_safe choice any before after counts t = record {
  desk = t.turn.desk;
  decides = record {
    commands = commands_of 0 t.turn.visits;
    replies = t.turn.replies;
    decided = t.turn.decided;
    apart = (answers_of before.seat after.seat t.turn.visits t.turn.replies t.turn.serves).apart;
    was_whole = t.was_whole;
    run = any before.keeper.writer.plan before.keeper.state (commands_of 0 t.turn.visits)
        t.turn.replies t.turn.decided t.turn.run;
    shows = t.turn.safe;
  };
  answers = answers_of before.seat after.seat t.turn.visits t.turn.replies t.turn.serves;
  state = t.turn.after;
  safe = t.safe ∙ ap (λ (s : State). s.register) t.turn.after;
  is_whole = t.is_whole;
  no_doubt = t.no_doubt;
  same_plan = t.same_plan;
}

-- what was decided on the keeper's state is decided on the machine's
pub decided_in : {D P : Type 0} → (w : World) (clerk : ClerkState D P) → IsMachineOf w clerk → (d : DecidesOn clerk.keeper)
    → Run w.building any_eligible (state_of w) d.commands d.replies d.decided
decided_in w clerk m d =
    run_in any_eligible (λ plan state cs rs next r. r) w clerk.keeper.writer.plan clerk.keeper.state d.commands d.replies d.decided m.building
    (m.whole d.was_whole).state_is d.run

-- A batch that is made safe is a turn of the machine.
pub batches_are_turns : {D P : Type 0} → Laws → (w : World) (before after : ClerkState D P)
    → (t : TurnMakesSafe before after) → IsMachineOf w before → LooksAgree w t.decides.commands
    → (letters : List (Option ℕ))
    × ((folds : ℕ) → LeadsToClerk w
    (events_of_turn t.decides.commands letters folds (length t.decides.decided.batch))
    (with_replies t.decides.commands t.decides.replies) (safe_list w ++ t.decides.decided.batch) after)
batches_are_turns laws w before after t m agree =
    let d = t.decides in
    safe_turn laws w before after m t.same_plan d.was_whole t.is_whole t.no_doubt d.commands d.replies d.decided t.answers agree
    (decided_in w before m d) t.state (t.safe ∙ d.shows)

pub turns_are_turns : {D P : Type 0} → Laws → (choice : Choice) → RunsAreAny choice
    → TurnsAreTurns D P choice
turns_are_turns laws choice any w before after counts t m agree =
    batches_are_turns laws w before after (makes_safe choice any before after counts t) m agree
