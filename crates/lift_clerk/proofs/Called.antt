-- What a running call is to its group's past.
use Rattle.std.proofs.Common.{◌≡◌, ℕ, suc, true, Option, Some, None, sym, ap, subst, ◌∙◌, length}
use Rattle.std.specs.Prelude.{Result, Ok, Err, IfOk, OnOk, IfSome, ◌↔◌}
use Rattle.lift_base.specs.declared.command.Body.{Body}
use Rattle.lift_base.specs.declared.command.Reply.{Reply}
use Rattle.lift_desk.specs.declared.seat.AskRefusal.{AskRefusal}
use Rattle.lift_desk.specs.declared.seat.AskRefusal.TheVariants.{Waiting}
use Rattle.lift_desk.specs.declared.view.TerminalView.{TerminalView}
use Rattle.lift_desk.specs.Words.{ask_word}
use Rattle.lift_desk.specs.Steps.{with_ask, with_hearing}
use Rattle.lift_desk.specs.Seats.{TerminalSeat, StoresAsk, HearsOf, Waits, seat_with}
use Rattle.lift_keeper.specs.declared.fault.KeeperFault.{KeeperFault}
use Rattle.lift_policy.specs.Eligible.{Choice}
use Rattle.lift_world.specs.declared.event.Event.TheVariants.{Ask as Asking, Hear}
use Rattle.lift_world.specs.Policies.{RunsAreAny}
use Rattle.lift_clerk.specs.declared.counts.Counts.{Counts}
use Rattle.lift_clerk.specs.Clerk.{ClerkState}
use Rattle.lift_clerk.specs.Steps.{GroupState, group_of}
use Rattle.lift_clerk.specs.Group.{AtSeat, TerminalAsks, TerminalHears, HearsAnswers, HeardNothing}
use Rattle.lift_clerk.specs.Past.{IsEvent, IsNoEvent, PastsGoOn, TurnGoesOn, FailureGoesOn, BrokenTurnGoesOn}
use Rattle.lift_clerk.specs.lemmas.Turned.{makes_safe}
use Rattle.lift_clerk.specs.lemmas.Grouped.{grouped_safe, grouped_doubt, grouped_unknown}
use Rattle.lift_clerk.specs.lemmas.Adding.{leaves_in_doubt, answers_unknown}

-- a clerk's turn
module _ {D P : Type 0} (law : PastsGoOn D) (choice : Choice) (any : RunsAreAny choice) (before after : ClerkState D P) where
  turn_on : (counts : Counts) → TurnGoesOn choice before after counts
  turn_on counts t = law.batches (group_of before) (group_of after) (grouped_safe before after (makes_safe choice any before after counts t))

  pub turns_on : (result : Result Counts KeeperFault) → IfOk result (λ counts. TurnGoesOn choice before after counts)
  turns_on (Ok counts) = turn_on counts
  turns_on (Err fault) = tt

  pub failure_on : FailureGoesOn choice before after
  failure_on t = law.doubts (group_of before) (group_of after) (grouped_doubt before after (leaves_in_doubt choice any before after t))

  pub broken_on : before.keeper.writer.is_broken ≡ true → BrokenTurnGoesOn before after
  broken_on was t = law.unknowns (group_of before) (group_of after) (grouped_unknown before after (answers_unknown before after t was))

-- a terminal's call
module _ {D : Type 0} (law : PastsGoOn D) (old new : TerminalSeat) where
  asked : (number : ℕ) (body : Body) → ¬ Waits old.view → StoresAsk old number body new → AtSeat old new (λ before after terminal. TerminalAsks before after terminal (record { number = number; body = body }))
  asked number body heard s before after was changes = record {
    heard_all = subst (λ (v : TerminalView). ¬ Waits v) (sym was) heard;
    in_range = s.in_range;
    stored = record {
      here = changes.here ∙ ap (λ (x : TerminalSeat). x.view) s.stored ∙ ap (λ (v : TerminalView). with_ask v (ask_word (suc (length v.asked)) number body)) (sym was);
      others = changes.others;
    };
  }

  pub ask_event : (number : ℕ) (body : Body) (result : Result (Unit {0}) AskRefusal) → ((result ≡ Err Waiting) ↔ Waits old.view) → OnOk result (StoresAsk old number body new)
      → OnOk result (AtSeat old new (λ before after terminal. (group : GroupState D) → IsEvent group before after (Asking terminal number body)))
  ask_event number body (Ok done) waiting s = λ before after was changes group.
      law.asks group before after old.terminal (record { number = number; body = body }) (asked number body (λ waits. let wrong : Ok done ≡ Err Waiting = waiting.1 waits in absurd (cc)) s before after was changes)
  ask_event number body (Err refusal) waiting s = tt

  abbrev Looked : Option Reply → Type 0
  Looked result = (word : ℕ) × (new ≡ seat_with old (with_hearing old.view word)) × HearsOf old.view word result

  heard : (word : ℕ) (result : Option Reply) → new ≡ seat_with old (with_hearing old.view word) → HearsOf old.view word result → AtSeat old new (λ before after terminal. TerminalHears before after terminal word result)
  heard word result is hears before after was changes = record {
    hears = subst (λ (v : TerminalView). HearsOf v word result) (sym was) hears;
    looked = record {
      here = changes.here ∙ ap (λ (x : TerminalSeat). x.view) is ∙ ap (λ (v : TerminalView). with_hearing v word) (sym was);
      others = changes.others;
    };
  }

  pub hear_event : (result : Option Reply) → Looked result
      → IfSome result (λ reply. AtSeat old new (λ before after terminal. (group : GroupState D) → HearsAnswers group after terminal → IsEvent group before after (Hear terminal)))
  hear_event (Some reply) l = λ before after was changes group front. law.hears group before after old.terminal l.0 reply (heard l.0 (Some reply) l.1 l.2 before after was changes) front
  hear_event None l = tt

  pub hear_nothing : (result : Option Reply) → Looked result → result ≡ None → AtSeat old new (λ before after terminal. (group : GroupState D) → IsNoEvent group before after)
  hear_nothing (Some reply) l e = absurd (cc)
  hear_nothing None l e = λ before after was changes group.
      (let h = heard l.0 None l.1 l.2 before after was changes in
      law.reads group before after old.terminal (with_hearing (before old.terminal) l.0) h.looked (HeardNothing l.0 h.hears))
