use Rattle.std.proofs.Common.{◌≡◌, ℕ, suc, ◌+◌, [], ◌∷◌, ◌++◌, length, true, true≢false, sym, ap, ◌∙◌, arith}
use Rattle.std.proofs.lemmas.List.{length_push}
use Rattle.lift_desk.specs.declared.view.View.{View}
use Rattle.lift_desk.specs.Words.{turn_of, number_of, last_of}
use Rattle.lift_desk.specs.Rule.{with_note}
use Rattle.lift_desk.specs.Steps.{at_clerk, with_taking, is_new_word}
use Rattle.lift_desk.proofs.Keeps.{looks_keep, lt_true, taken_more}
use Rattle.lift_desk.specs.lemmas.WordLists.{last_of-push}
use Rattle.lift_desk.proofs.place.Place.look.Goals as goal

pub load-word-requires-clause-keeps : goal.load-word-requires-clause-keeps
load-word-requires-clause-keeps g c id =
    let i = c.self.invariant in
    let read = c.read_note.ensures.1 in
    looks_keep _ _ _ (ap (λ l. l.view.answers) read ∙ i.answers (ap (λ p. p.seated) c.self.view_is ∙ c.requires.seated)) (ap (λ l. l.view.looks_ahead) read ∙ i.in_order)

pub invariant_of-self-2 : goal.invariant_of-self-2
invariant_of-self-2 g c =
    let i = c.self.invariant in
    let seated : c.self.inside.looker.seated ≡ true = ap (λ p. p.seated) c.self.view_is ∙ c.requires.seated in
    let m : View = c.self.inside.looker.view in
    let word : ℕ = c.load-word.result in
    let read = c.read_note.ensures in
    let noted : c.read_note.new.looker.view ≡ with_note m read.0 = ap (λ l. l.view) read.1 in
    let load = c.load-word.ensures.tells in
    let v : View = c.load-word.new.self.view in
    let new : v ≡ at_clerk (with_note m read.0) (with_taking m.clerk word) = ap (λ me. me.0) load.1 ∙ ap (λ (v : View). at_clerk v (with_taking v.clerk word)) noted in
    let turn : c.turn_of-turn.result ≡ turn_of word = c.turn_of-turn.ensures.turn in
    let was_turn : c.self.inside.turn ≡ turn_of (last_of m.clerk.taken) = i.turn ∙ sym i.last_taken in
    let later = c.if-turn-self.false in
    let fresh : is_new_word m.clerk word ≡ true = lt_true _ _ (omega arith) in
    let taken : v.clerk.taken ≡ m.clerk.taken ++ word ∷ [] = ap (λ (v : View). v.clerk.taken) new ∙ taken_more m.clerk word fresh in
    let answered : v.clerk.answered ≡ m.clerk.answered = ap (λ (v : View). v.clerk.answered) new in
    let one_more : length v.clerk.taken ≡ length m.clerk.taken + 1 = ap length taken ∙ length_push m.clerk.taken word in
    let same : length v.clerk.answered ≡ length m.clerk.answered = ap length answered in
    let told = load.2 (ap (λ (v : View). is_new_word v.clerk word) noted ∙ fresh) in
    let turn_is = told.1 ∙ ap (λ (v : View). suc (length v.clerk.taken)) noted in
    let even : length m.clerk.answered ≡ length m.clerk.taken = ap (λ (v : View). length v.clerk.answered) (sym noted) ∙ told.2 ∙ ap (λ (v : View). length v.clerk.taken) noted in
    let last_is : last_of v.clerk.taken ≡ word = ap last_of taken ∙ last_of-push m.clerk.taken word in record {
      answers = λ _. ap (λ (v : View). v.answers) new ∙ i.answers seated;
      in_order = ap (λ (v : View). v.looks_ahead) new ∙ i.in_order;
      no_answers_read = ap (λ (v : View). v.terminal.looks) new ∙ i.no_answers_read;
      lends = λ _. ap (λ (v : View). v.lends) new ∙ i.lends seated;
      turn = omega arith;
      last_taken = ap turn_of last_is ∙ omega arith;
      in_range = c.turn_of-turn.ensures.in_range;
      number = sym c.in_ok-ask.ensures.number ∙ ap number_of (sym last_is);
      owes = λ _. omega arith;
      even = λ k. absurd (true≢false k);
      answered = i.answered ∙ ap last_of (sym answered);
    }
