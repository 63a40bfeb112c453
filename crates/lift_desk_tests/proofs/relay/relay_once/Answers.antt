use Rattle.std.proofs.Common.{◌≡◌, ℕ, zero, suc, ◌+◌, List, [], ◌∷◌, length, refl, sym, ap, ◌∙◌, arith}
use Rattle.std.proofs.lemmas.List.{length-map}
use Rattle.lift_desk.specs.declared.view.ClerkView.{ClerkView}
use Rattle.lift_desk.specs.Seats.{ClerkPlace, ahead_from, view_at}
use Rattle.lift_desk.specs.lemmas.Places.{looks_of_both, view_at-here, words_with_looks}
use Rattle.lift_desk_tests.proofs.relay.relay_once.Goals as goal

-- a seat ahead begins with no look
begins : (places : List ClerkPlace) (t : ℕ) → (view_at (ahead_from places) t).looks ≡ 0
begins [] t = refl
begins (p ∷ places) zero = refl
begins (p ∷ places) (suc t) = begins places t

pub returns-clause-looks : goal.returns-clause-looks
returns-clause-looks c =
    let t = c.args.terminal in
    let below = c.requires.terminal in
    let split = c.split-ahead.ensures in
    let ahead = c.take.new.ahead in
    let answer = c.look_and_answer-answered in
    let clerk = answer.new.clerk in
    let room : length c.split-ahead.result.0 ≡ length c.args.desk.now = sym (length-map c.split-ahead.result.0 (λ (p : ClerkPlace). p.table)) ∙ ap length split.stays in
    let many : length clerk ≡ length c.args.desk.now = sym (length-map clerk (λ (p : ClerkPlace). p.table)) ∙ ap length answer.ensures.stays in
    let none : (view_at c.split-ahead.result.0 t).looks ≡ 0 = ap (λ (l : List ClerkPlace). (view_at l t).looks) split.ahead ∙ begins c.args.clerk t in
    let first : (view_at ahead t).looks ≡ suc (view_at c.split-ahead.result.0 t).looks =
    ap (λ (l : List ClerkPlace). (view_at l t).looks) c.take.ensures.looked.1 ∙ ap (λ (v : ClerkView). v.looks) (view_at-here c.split-ahead.result.0 t _ (omega arith)) in
    let second = answer.ensures.looks in
    let was : (view_at c.split-ahead.result.1 t).looks ≡ (view_at c.args.clerk t).looks = ap (λ (l : List ClerkPlace). (view_at l t).looks) split.clerk in
    let both = ap (λ (l : List ClerkPlace). (view_at l t).looks) c.join.ensures.joined ∙ looks_of_both ahead clerk t (omega arith) in
    omega arith

pub returns-clause-answers : goal.returns-clause-answers
returns-clause-answers c =
    let t = c.args.terminal in
    let answer = c.look_and_answer-answered in
    ap (λ (l : List ClerkPlace). length (view_at l t).answered) c.join.ensures.joined ∙ ap length (words_with_looks c.take.new.ahead answer.new.clerk t).1
    ∙ answer.ensures.answers ∙ ap (λ (l : List ClerkPlace). length (view_at l t).answered + answer.result) c.split-ahead.ensures.clerk
