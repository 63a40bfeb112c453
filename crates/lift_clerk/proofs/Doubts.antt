-- Turns that fail, and turns of a broken clerk.
use Rattle.std.proofs.Common.{ℕ, ◌≡◌, ◌≢◌, ◌+◌, ◌<◌, true, false, List, [], ◌∷◌, ◌++◌, length, map, Option, refl, sym, ap, subst, ◌∙◌, arith, append_assoc}
use Rattle.std.specs.Prelude.{replicate}
use Rattle.lift_base.specs.declared.command.Reply.{Reply}
use Rattle.lift_base.specs.declared.history.Entry.{Entry}
use Rattle.lift_desk.specs.Seats.{view_at}
use Rattle.lift_policy.specs.Eligible.{Choice, any_eligible}
use Rattle.lift_policy.specs.Step.{State}
use Rattle.lift_policy.specs.Run.{Run, unknowns}
use Rattle.lift_policy.specs.declared.command.Command.{Command}
use Rattle.lift_keeper.specs.Writer.{WriterView}
use Rattle.lift_world.specs.declared.event.Event.{Event}
use Rattle.lift_world.specs.declared.event.Event.TheVariants.{Seal, Pull, Fold, Fault}
use Rattle.lift_world.specs.declared.event.Phase.TheVariants.{GateWritten}
use Rattle.lift_world.specs.declared.event.Taken.{Taken}
use Rattle.lift_world.specs.World.{World, state_of, safe_list}
use Rattle.lift_world.specs.Next.{unknown_to, sectors_for_body}
use Rattle.lift_world.specs.Policies.{RunsAreAny}
use Rattle.lift_world.specs.Turns.{with_replies, take_events, calls_to, failed_events, broken_events}
use Rattle.lift_world.specs.Relay.{failing_flush, broken_flush}
use Rattle.lift_clerk.specs.Machine.{IsMachineOf, LooksAgree, LeadsToClerk, events_while_broken, FailuresAreFailures, BrokenTurnsAreBroken}
use Rattle.lift_clerk.specs.Clerk.{ClerkState}
use Rattle.lift_clerk.specs.Turn.{without_batch}
use Rattle.lift_clerk.specs.TakenAndAnswered.{TakesAndAnswers}
use Rattle.lift_clerk.specs.Tied.{SentBatch, command_of, all_found, LeadsTo}
use Rattle.lift_clerk.specs.Steps.{LeavesInDoubt, AnswersUnknown}
use Rattle.lift_clerk.specs.Laws.{Laws}
use Rattle.lift_clerk.specs.lemmas.Adding.{leaves_in_doubt, answers_unknown}
use Rattle.lift_clerk.specs.lemmas.Tied.{not_both}
use Rattle.lift_clerk.specs.lemmas.Allocated.{DecidesSo, run_commands, nothing_decided}
use Rattle.lift_clerk.specs.lemmas.Flushed.{answer_all, unknown_same, flush_fails, flush_broken}
use Rattle.lift_clerk.specs.lemmas.Turned.{held, decided_in, rested, w1, scan, answers_are, leads_through}

-- Unknown to each
unknown_again : (cs : List Command) → map unknown_to (with_replies cs (unknowns cs)) ≡ with_replies cs (unknowns cs)
unknown_again [] = refl
unknown_again (c ∷ cs) = ap (λ (xs : List Taken). unknown_to (record { terminal = c.terminal; number = c.number; body = c.body; reply = Rattle.lift_base.specs.declared.command.Reply.TheVariants.Unknown }) ∷ xs) (unknown_again cs)

all_unknown : (cs : List Command) (rs : List Reply) → map command_of (with_replies cs rs) ≡ cs → length (unknowns cs) ≡ length cs → map unknown_to (with_replies cs rs) ≡ with_replies cs (unknowns cs)
all_unknown cs rs e long = unknown_same (with_replies cs rs) (with_replies cs (unknowns cs)) (e ∙ sym (held cs (unknowns cs) long)) ∙ unknown_again cs

module _ {D P : Type 0} (laws : Laws) (w : World) (before after : ClerkState D P) (m : IsMachineOf w before) where
  -- one that the device fails
  failed_turn : (cs : List Command) (rs : List Reply) (state : State) → after.keeper.writer.plan ≡ before.keeper.writer.plan → TakesAndAnswers before.seat after.seat cs (unknowns cs) → LooksAgree w cs
      → before.keeper.writer.is_broken ≡ false → after.keeper.writer.is_broken ≡ true → after.keeper.writer.register ≡ before.keeper.writer.register → after.keeper.writer.doubt ≡ state.batch
      → Run w.building any_eligible (state_of w) cs rs state → 0 < length state.batch
      → (letters : List (Option ℕ)) × ((folds : ℕ) → LeadsToClerk w (failed_events cs letters folds GateWritten (length state.batch)) (with_replies cs (unknowns cs)) (safe_list w) after)
  failed_turn [] rs state plan answers agree whole breaks register doubt run some = absurd (omega (arith, ap length (nothing_decided w [] rs state refl m.between run)))
  failed_turn (c ∷ cs) rs state plan answers agree whole breaks register doubt run some =
      let all : List Command = c ∷ cs in
      let any : all ≢ [] = λ none. cc in
      let batch : SentBatch = record { commands = with_replies all rs; entries = state.batch } in
      let same : map command_of batch.commands ≡ all = run_commands w.building any_eligible (state_of w) state all rs run in
      let decides : DecidesSo (w1 laws w before after m plan all any (unknowns all) answers agree) all batch (without_batch state) =
      record { replies = rs; decided = state; run = run; commands = refl; entries = refl; after = refl } in
      let k = scan laws w before after m plan all any (unknowns all) answers agree batch same (without_batch state) (λ e. decides) in
      let f = flush_fails laws k.1.shows (view_at after.seat) after.keeper.state after.keeper.writer plan (with_replies all (unknowns all)) (all_unknown all rs same answers.one_each)
      (answers_are laws w before after m plan all any (unknowns all) answers agree batch same) whole breaks register doubt (λ none. absurd (omega (arith, ap length none))) in (
        k.0,
        λ folds.
            let calls : List Event = calls_to (sectors_for_body (length state.batch) + 1) GateWritten in
            let flush : List Event = failing_flush all_found f.0 folds GateWritten (length state.batch) in
            leads_through laws w before after m plan all any (unknowns all) answers agree k.0 batch (without_batch state) flush (failed_events all k.0 folds GateWritten (length state.batch)) (safe_list w) k.1
            (subst (λ (es : List Entry). LeadsTo k.1.end flush (with_replies all (unknowns all)) es (λ (v : World). IsMachineOf v after)) k.1.safe_is (f.2 folds))
            (append_assoc (take_events all k.0) (Seal ∷ []) flush
            ∙ ap (λ (es : List Event). take_events all k.0 ++ (Seal ∷ Pull ∷ (replicate folds Fold ++ (calls ++ Fault ∷ es)))) (answer_all all f.0.commands (f.1 ∙ same))),
      )

  -- one of a broken clerk
  broken_turn : (cs : List Command) → TakesAndAnswers before.seat after.seat cs (unknowns cs) → LooksAgree w cs → before.keeper.writer.is_broken ≡ true → after.keeper.writer ≡ before.keeper.writer
      → (letters : List (Option ℕ)) × LeadsToClerk w (events_while_broken cs letters) (with_replies cs (unknowns cs)) (safe_list w) after
  broken_turn [] answers agree was rests = (
    [],
    rested laws w before after m (ap (λ (x : WriterView D). x.plan) rests) [] answers
        (λ e q. not_both before.keeper.writer.is_broken (ap (λ (x : WriterView D). x.is_broken) (sym rests) ∙ e) was)
        (ap (λ (x : WriterView D). x.register) rests) (ap (λ (x : WriterView D). x.doubt) rests) (ap (λ (x : WriterView D). x.is_broken) rests),
  )
  broken_turn (c ∷ cs) answers agree was rests =
      let all : List Command = c ∷ cs in
      let any : all ≢ [] = λ none. cc in
      let plan : after.keeper.writer.plan ≡ before.keeper.writer.plan = ap (λ (x : WriterView D). x.plan) rests in
      let batch : SentBatch = record { commands = with_replies all (unknowns all); entries = [] } in
      let same : map command_of batch.commands ≡ all = held all (unknowns all) answers.one_each in
      let k = scan laws w before after m plan all any (unknowns all) answers agree batch same after.keeper.state (λ e. not_both before.keeper.writer.is_broken e was) in
      let f = flush_broken laws k.1.shows (view_at after.seat) after.keeper.state after.keeper.writer plan (with_replies all (unknowns all)) (unknown_again all)
      (answers_are laws w before after m plan all any (unknowns all) answers agree batch same) was rests in (
        k.0,
        leads_through laws w before after m plan all any (unknowns all) answers agree k.0 batch after.keeper.state (broken_flush all_found f.0) (broken_events all k.0) (safe_list w) k.1
            (subst (λ (es : List Entry). LeadsTo k.1.end (broken_flush all_found f.0) (with_replies all (unknowns all)) es (λ (v : World). IsMachineOf v after)) k.1.safe_is (f.2 0))
            (append_assoc (take_events all k.0) (Seal ∷ []) (broken_flush all_found f.0) ∙ ap (λ (es : List Event). take_events all k.0 ++ (Seal ∷ Pull ∷ es)) (answer_all all f.0.commands (f.1 ∙ same))),
      )

-- A batch that the device fails is a failed turn of the machine.
pub failed_batches_are_failures : {D P : Type 0} → Laws → (w : World) (before after : ClerkState D P) → (t : LeavesInDoubt before after) → IsMachineOf w before → LooksAgree w t.may.0.commands
    → (letters : List (Option ℕ)) × ((folds : ℕ) → LeadsToClerk w (failed_events t.may.0.commands letters folds GateWritten (length t.may.0.decided.batch)) (with_replies t.may.0.commands (unknowns t.may.0.commands)) (safe_list w) after)
failed_batches_are_failures laws w before after t m agree =
    let d = t.may.0 in
    failed_turn laws w before after m d.commands d.replies d.decided t.same_plan t.answers agree d.was_whole t.breaks t.same_register (sym t.may.1) (decided_in w before m d) t.some

pub failures_are_failures : {D P : Type 0} → Laws → (choice : Choice) → RunsAreAny choice → FailuresAreFailures D P choice
failures_are_failures laws choice any w before after t m agree = failed_batches_are_failures laws w before after (leaves_in_doubt choice any before after t) m agree

-- What is answered after a fault is a turn of the broken machine.
pub unknowns_are_broken_turns : {D P : Type 0} → Laws → (w : World) (before after : ClerkState D P) → (t : AnswersUnknown before after) → IsMachineOf w before → LooksAgree w t.commands
    → (letters : List (Option ℕ)) × LeadsToClerk w (events_while_broken t.commands letters) (with_replies t.commands (unknowns t.commands)) (safe_list w) after
unknowns_are_broken_turns laws w before after t m agree = broken_turn laws w before after m t.commands t.answers agree t.was_broken t.rests

pub broken_turns_are_broken : {D P : Type 0} → Laws → BrokenTurnsAreBroken D P
broken_turns_are_broken laws w before after t was m agree = unknowns_are_broken_turns laws w before after (answers_unknown before after t was) m agree
