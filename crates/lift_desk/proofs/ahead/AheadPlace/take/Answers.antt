use Rattle.std.proofs.Common.{◌≡◌, ℕ, length, true, refl, sym, ap, ◌∙◌, arith}
use Rattle.lift_desk.specs.declared.view.View.{View}
use Rattle.lift_desk.specs.declared.view.ClerkView.{ClerkView}
use Rattle.lift_desk.specs.Words.{turn_of, last_of, ask_word}
use Rattle.lift_desk.specs.Steps.{at_clerk, with_taking, is_new_word}
use Rattle.lift_desk.specs.Seats.{ClerkPlace}
use Rattle.lift_desk.proofs.Keeps.{looks_ahead_keep, lt_true, taken_more}
use Rattle.lift_desk.specs.lemmas.WordLists.{last_of-push}
use Rattle.lift_desk.proofs.ahead.AheadPlace.take.Goals as goal

pub load-word-requires-clause-keeps : goal.load-word-requires-clause-keeps
load-word-requires-clause-keeps c id =
    looks_ahead_keep _ _ _ (c.self.invariant.ahead (ap (λ p. p.seated) c.self.view_is ∙ c.requires.seated)) c.self.invariant.silent

-- the word is the last that was taken, where it is new
last_taken : (v : ClerkView) (view : View) (m : View) (word : ℕ) → v ≡ m.clerk → view ≡ at_clerk m (with_taking m.clerk word) → is_new_word v word ≡ true → last_of view.clerk.taken ≡ word
last_taken v view m word same e fresh =
    ap (λ (v : View). last_of v.clerk.taken) e ∙ ap last_of (taken_more m.clerk word (ap (λ (v : ClerkView). is_new_word v word) (sym same) ∙ fresh)) ∙ last_of-push m.clerk.taken word

pub returns-clause-finds : goal.returns-clause-finds
returns-clause-finds c ask h =
    let i = c.self.invariant in
    let m : View = c.self.inside.looker.view in
    let word : ℕ = c.load-word.result in
    let load = c.load-word.ensures.tells in
    let new : c.load-word.new.self.view ≡ at_clerk m (with_taking m.clerk word) = ap (λ me. me.0) load.1 in
    let turn : c.turn_of-turn.result ≡ turn_of word = c.turn_of-turn.ensures.turn in
    let was_turn : c.self.inside.turn ≡ turn_of (last_of m.clerk.taken) = i.turn in
    let later = c.if-turn-self.false in
    let fresh : is_new_word m.clerk word ≡ true = lt_true _ _ (omega arith) in
    let last_is : turn_of (last_of c.load-word.new.self.view.clerk.taken) ≡ turn_of word = ap turn_of (last_taken m.clerk _ m word refl new fresh) in
    let told : c.args.self.now.view.told ≡ m.clerk.told = ap (λ (p : ClerkPlace). p.view.told) (sym c.self.view_is) in
    let many : length c.args.self.now.view.told ≡ length m.clerk.told = ap length told in
    let above = h.1 in (
      refl,
      λ same. c.in_ok-ask.ensures.known (length c.args.self.now.view.told) ask (omega arith) h.0 (load.4 (sym last_is ∙ same ∙ many) ∙ ap last_of (sym told) ∙ h.2),
    )

pub returns-clause-last : goal.returns-clause-last
returns-clause-last c =
    let i = c.self.invariant in
    let m : View = c.self.inside.looker.view in
    let word : ℕ = c.load-word.result in
    let new : c.load-word.new.self.view ≡ at_clerk m (with_taking m.clerk word) = ap (λ me. me.0) c.load-word.ensures.tells.1 in
    let turn : c.turn_of-turn.result ≡ turn_of word = c.turn_of-turn.ensures.turn in
    let was_turn : c.self.inside.turn ≡ turn_of (last_of m.clerk.taken) = i.turn in
    let later = c.if-turn-self.false in
    let fresh : is_new_word m.clerk word ≡ true = lt_true _ _ (omega arith) in
    let last_is : last_of c.load-word.new.self.view.clerk.taken ≡ word = last_taken m.clerk _ m word refl new fresh in
    last_is ∙ c.in_ok-ask.ensures.value ∙ ap (λ w. ask_word (turn_of w) c.in_ok-ask.ask.number c.in_ok-ask.ask.body) (sym last_is)
