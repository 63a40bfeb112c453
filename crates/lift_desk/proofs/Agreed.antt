-- The rule says this of any two seats of its table.
use Rattle.std.proofs.Common.{sym, ◌∙◌, subst}
use Rattle.atomic_table.specs.Table.{State}
use Rattle.lift_desk.specs.declared.view.View.{View}
use Rattle.lift_desk.specs.Rule.{IsInOrder, IsAhead, AreLastWords}
use Rattle.lift_desk.specs.Agree.{SeatsAgree}

pub agree : (s : State (Unit {0}) View) → AreLastWords s → SeatsAgree s
agree s r i j u v at_u at_v =
    let f = r.views i u at_u in
    let g = r.views j v at_v in
    record {
      in_order = λ asks answers.
          let a = f.asks asks in
          let b = g.answers answers in
          subst IsInOrder (λ k. record { asked = sym a.1 k; taken = sym b.1 k; answered = sym b.2 k; heard = sym a.2 k }) r.in_order;
      ahead = λ asks looks. subst (λ z. IsAhead z v.clerk.taken) (sym (f.asks asks).1) (g.looks_ahead looks).2;
      one_asks = λ one other. (f.asks one).0 ∙ sym (g.asks other).0;
      one_answers = λ one other. (f.answers one).0 ∙ sym (g.answers other).0;
      one_ahead = λ one other. (f.looks_ahead one).1 ∙ sym (g.looks_ahead other).1;
      lends = λ answers looks. (f.answers answers).3 ∙ (g.looks_ahead looks).0;
    }
