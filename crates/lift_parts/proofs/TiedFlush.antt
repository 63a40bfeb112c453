-- What a flusher's turn leads to.
use Rattle.std.proofs.Common.{ℕ, ◌≡◌, Bool, true, false, List, [], ◌∷◌, ◌++◌, length, map, refl, sym, ap, subst, ◌∙◌, append_assoc}
use Rattle.std.specs.Prelude.{filter, Result, is_ok}
use Rattle.std.specs.List.{AllByRecursion}
use Rattle.std.proofs.lemmas.List.{append_cancel_left}
use Rattle.lift_register.specs.Register.{RegisterState, register_of}
use Rattle.lift_desk.specs.Seats.{view_at}
use Rattle.lift_policy.specs.Step.{State}
use Rattle.lift_keeper.specs.Writer.{WriterView}
use Rattle.lift_keeper.specs.declared.fault.KeeperFault.{KeeperFault}
use Rattle.lift_world.specs.declared.event.Taken.{Taken}
use Rattle.lift_world.specs.World.{World, is_answer_to, asks}
use Rattle.lift_world.specs.Next.{answer_of}
use Rattle.lift_clerk.specs.TakenAndAnswered.{Grows}
use Rattle.lift_clerk.specs.Tied.{IsTied}
use Rattle.lift_clerk.specs.Laws.{Laws}
use Rattle.lift_clerk.specs.lemmas.Tied.{not_both, leads_so}
use Rattle.lift_clerk.specs.lemmas.Flushed.{Answers, flush_safe, flush_fails, flush_broken}
use Rattle.lift_parts.specs.declared.counts.FlushCounts.{FlushCounts}
use Rattle.lift_parts.specs.Batch.{BatchState, AreBelow, commands_in}
use Rattle.lift_parts.specs.Allocator.{AllocatorState}
use Rattle.lift_parts.specs.Flusher.{FlusherState, IsBatchTurn, AnswersBatch}
use Rattle.lift_parts.specs.Tie.{sent_as, IsRelayOf, ReceivesSent, FlushesAreFlushes, FailedFlushesAreFailures, BrokenFlushesAreBroken}
use Rattle.lift_parts.proofs.Answering.{held_of, held_is, commands_held, told_commands, answers_them, length-answers}

module _ {D P : Type 0} (w : World) (a : AllocatorState P) (f g : FlusherState D) (batch : BatchState) (result : Result FlushCounts KeeperFault) (t : IsBatchTurn f g batch result) (sent : ReceivesSent a g)
    (m : IsRelayOf w a f) where
  abbrev rest : List BatchState
  rest = sent.0

  waiting_is : m.waiting ≡ batch ∷ rest
  waiting_is =
      append_cancel_left f.end.received m.waiting (batch ∷ rest)
      (sym m.line ∙ sent.1 ∙ ap (λ (xs : List BatchState). xs ++ rest) t.receives.receives ∙ append_assoc f.end.received (batch ∷ []) rest)

  -- the batch received is the first on its way
  tied : IsTied w (λ (n : ℕ). (view_at a.seat n).taken) (view_at f.seat) a.state f.writer (map sent_as (batch ∷ rest))
  tied = subst (λ (xs : List BatchState). IsTied w (λ (n : ℕ). (view_at a.seat n).taken) (view_at f.seat) a.state f.writer (map sent_as xs)) waiting_is m.tied

  below : AllByRecursion (λ (b : BatchState). AreBelow (length f.seat) (commands_in b.commands)) (batch ∷ rest)
  below = subst (AllByRecursion (λ (b : BatchState). AreBelow (length f.seat) (commands_in b.commands))) waiting_is m.below

  answers : (is_safe : Bool) → is_ok result ≡ is_safe → Answers (sent_as batch) (held_of is_safe batch.commands) (view_at f.seat) (view_at g.seat)
  answers is_safe e = record {
    commands = commands_in batch.commands;
    are = commands_held batch.commands;
    replied_are = told_commands is_safe batch.commands;
    grows = λ n.
        subst (λ (xs : List Taken). Grows (view_at f.seat n) (view_at g.seat n) (filter (asks n) (commands_in batch.commands)) (filter (is_answer_to n) (map answer_of xs))) (held_is is_safe batch.commands)
        ((answers_them is_safe f.seat g.seat batch.commands below.0 t.apart (subst (λ (b : Bool). AnswersBatch b f.seat batch.commands g.seat) e t.answered)).grows n);
  }

  shown : (g.writer.is_broken ≡ false → g.writer.register ≡ g.end.state.register) → (end : World) → end.building ≡ w.building
      → IsTied end (λ (n : ℕ). (view_at a.seat n).taken) (view_at g.seat) a.state g.writer (map sent_as rest) → IsRelayOf end a g
  shown received end building k =
      let long : length g.seat ≡ length f.seat = length-answers (is_ok result) f.seat g.seat batch.commands t.answered in
      record {
        building = building ∙ m.building;
        seats = m.seats ∙ sym long;
        waiting = rest;
        line = sent.1;
        below = subst (λ (n : ℕ). AllByRecursion (λ (b : BatchState). AreBelow n (commands_in b.commands)) rest) (sym long) below.1;
        received = received;
        tied = k;
      }

pub flushes_are_flushes : {D P : Type 0} → Laws → FlushesAreFlushes D P
flushes_are_flushes laws w a f g batch counts t sent m =
    let x = t.turn in
    let register : g.writer.register ≡ register_of f.writer.register batch.entries =
    t.register ∙ ap (λ (s : State). s.register) x.receives.state ∙ x.decided.shows
    ∙ ap (λ (r : RegisterState). register_of r batch.entries) (ap (λ (s : State). s.register) x.receives.next.on_state ∙ sym (m.received t.was_whole)) in
    let k = flush_safe laws (tied w a f g batch _ x sent m) (view_at g.seat) a.state g.writer t.same_plan (answers w a f g batch _ x sent m true refl) t.was_whole t.is_whole register t.no_doubt refl in
    (k.0, λ folds. leads_so (k.2 folds) (shown w a f g batch _ x sent m (λ e. t.register)))

pub failed_flushes : {D P : Type 0} → Laws → FailedFlushesAreFailures D P
failed_flushes laws w a f g batch t sent m =
    let x = t.turn in
    let doubt = x.fails refl in
    let k = flush_fails laws (tied w a f g batch _ x sent m) (view_at g.seat) a.state g.writer t.same_plan (held_of false batch.commands) refl (answers w a f g batch _ x sent m false refl)
    t.was_whole t.breaks t.same_register doubt.0 doubt.1 in
    (k.0, λ folds. leads_so (k.2 folds) (shown w a f g batch _ x sent m (λ e. not_both g.writer.is_broken e t.breaks)))

pub broken_flushes_are_broken : {D P : Type 0} → Laws → BrokenFlushesAreBroken D P
broken_flushes_are_broken {D} laws w a f g batch t sent m =
    let x = t.turn in
    let k = flush_broken laws (tied w a f g batch _ x sent m) (view_at g.seat) a.state g.writer (ap (λ (v : WriterView D). v.plan) t.rests) (held_of false batch.commands) refl
    (answers w a f g batch _ x sent m false refl) t.was_broken t.rests in
    (k.0, leads_so (k.2 0) (shown w a f g batch _ x sent m (λ e. not_both g.writer.is_broken e (ap (λ (v : WriterView D). v.is_broken) t.rests ∙ t.was_broken))))
