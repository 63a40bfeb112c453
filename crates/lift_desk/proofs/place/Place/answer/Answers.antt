use Rattle.std.proofs.Common.{◌≡◌, ℕ, suc, ◌+◌, ◌<◌, [], ◌∷◌, ◌++◌, length, true, true≢false, sym, ap, ◌∙◌, subst, arith}
use Rattle.std.proofs.lemmas.List.{length_push}
use Rattle.lift_desk.specs.declared.view.View.{View}
use Rattle.lift_desk.specs.Words.{turn_of, number_of, last_of}
use Rattle.lift_desk.specs.Steps.{at_clerk, with_answer}
use Rattle.lift_desk.proofs.Keeps.{answers_keep, owes_one}
use Rattle.lift_desk.specs.lemmas.WordLists.{last_of-push}
use Rattle.lift_desk.proofs.place.Place.answer.Goals as goal

pub store-requires-clause-keeps : goal.store-requires-clause-keeps
store-requires-clause-keeps g c id =
    let i = c.self.invariant in
    let m : View = c.self.inside.looker.view in
    let word : ℕ = c.reply_word-word.result in
    let seated : c.self.inside.looker.seated ≡ true = ap (λ p. p.seated) c.self.view_is ∙ c.requires.seated in
    let owed : length m.clerk.taken ≡ suc (length m.clerk.answered) =
    owes_one c.self.inside.owes _ _ i.owes i.even (subst (λ p. length p.view.answered < length p.view.taken) (sym c.self.view_is) c.requires.owes) in
    let turn : turn_of word ≡ turn_of (last_of m.clerk.taken) = c.reply_word-word.ensures.word.turn ∙ i.turn ∙ sym i.last_taken in
    let number : number_of word ≡ number_of (last_of m.clerk.taken) = c.reply_word-word.ensures.word.number ∙ i.number in
    answers_keep _ _ _ _ (i.answers seated) owed (λ k. (turn k, number k)) c.reply_word-word.ensures.word.spelled

pub invariant_of-self : goal.invariant_of-self
invariant_of-self g c =
    let i = c.self.invariant in
    let m : View = c.self.inside.looker.view in
    let word : ℕ = c.reply_word-word.result in
    let seated : c.self.inside.looker.seated ≡ true = ap (λ p. p.seated) c.self.view_is ∙ c.requires.seated in
    let v : View = c.store.new.self.view in
    let new : v ≡ at_clerk m (with_answer m.clerk word) = ap (λ me. me.0) c.store.ensures.tells in
    let taken : v.clerk.taken ≡ m.clerk.taken = ap (λ (v : View). v.clerk.taken) new in
    let answered : v.clerk.answered ≡ m.clerk.answered ++ word ∷ [] = ap (λ (v : View). v.clerk.answered) new in
    let one_more : length v.clerk.answered ≡ length m.clerk.answered + 1 = ap length answered ∙ length_push m.clerk.answered word in
    let same : length v.clerk.taken ≡ length m.clerk.taken = ap length taken in
    let owed : length m.clerk.taken ≡ suc (length m.clerk.answered) =
    owes_one c.self.inside.owes _ _ i.owes i.even (subst (λ p. length p.view.answered < length p.view.taken) (sym c.self.view_is) c.requires.owes) in
    let last_is : last_of v.clerk.answered ≡ word = ap last_of answered ∙ last_of-push m.clerk.answered word in record {
      answers = λ _. ap (λ (v : View). v.answers) new ∙ i.answers seated;
      in_order = ap (λ (v : View). v.looks_ahead) new ∙ i.in_order;
      no_answers_read = ap (λ (v : View). v.terminal.looks) new ∙ i.no_answers_read;
      lends = λ _. ap (λ (v : View). v.lends) new ∙ i.lends seated;
      turn = i.turn ∙ ap length (sym taken);
      last_taken = ap (λ l. turn_of (last_of l)) taken ∙ i.last_taken ∙ ap length (sym taken);
      in_range = i.in_range;
      number = i.number ∙ ap (λ l. number_of (last_of l)) (sym taken);
      owes = λ k. absurd (true≢false (sym k));
      even = λ _. omega arith;
      answered = sym last_is;
    }
