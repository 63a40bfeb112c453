-- A hearing at the desk, as the port knows it.
use Rattle.std.proofs.Common.{◌≡◌, ℕ, suc, ◌+◌, true, false, List, [], ◌∷◌, ◌++◌, map, length, refl, sym, ap, ◌∙◌, arith}
use Rattle.std.specs.Prelude.{Option, Some, None, nat_lt}
use Rattle.std.proofs.lemmas.Bool.Decides.{nat_tests}
use Rattle.std.proofs.lemmas.List.{map-append}
use Rattle.lift_base.specs.declared.command.Reply.{Reply}
use Rattle.lift_desk.specs.declared.view.TerminalView.{TerminalView}
use Rattle.lift_desk.specs.Words.{IsReply, number_of, last_of, reply_of}
use Rattle.lift_desk.specs.Steps.{with_hearing, is_awaited}
use Rattle.lift_desk.specs.Seats.{HearsOf, Waits}
use Rattle.lift_kiosk.specs.Port.{PortView}
use Rattle.lift_kiosk.specs.Hearing.{heard}
use Rattle.lift_kiosk.specs.Desk.{port_view, pending_of}
use Rattle.lift_desk.specs.lemmas.ReadBack.{reply_back}

rests_at : (v : TerminalView) → (Waits v → ⊥) → pending_of v ≡ None
rests_at v rests =
    let even : nat_lt (length v.heard) (length v.asked) ≡ false = grind (arith, nat_tests) in
    rw even refl

abbrev hearing : TerminalView → ℕ → TerminalView
hearing v word = record { asked = v.asked; heard = v.heard ++ word ∷ []; looks = suc v.looks; last = word; told = v.told }

heard_at : (v : TerminalView) (word : ℕ) → is_awaited v word ≡ true → with_hearing v word ≡ hearing v word
heard_at v word awaited = rw awaited refl

abbrev port_as : TerminalView → ℕ → Option ℕ → List Reply → ℕ → PortView
port_as v rests pending replies looks = record (port_view v rests) { pending = pending; heard = replies; looks = looks }

pub hears_reply : (v new : TerminalView) (rests_now word : ℕ) (reply : Reply) → new ≡ with_hearing v word → HearsOf v word (Some reply) → IsReply reply → (Waits new → ⊥) → port_view new rests_now ≡ heard (port_view v rests_now) reply
hears_reply v new rests_now word reply is hears range rests =
    let same : new ≡ hearing v word = is ∙ heard_at v word hears.0 in
    let pending : pending_of (hearing v word) ≡ None = ap pending_of (sym same) ∙ rests_at new rests in
    let last : reply_of word ≡ reply = ap reply_of hears.1 ∙ reply_back (length v.asked) (number_of (last_of v.asked)) reply range in
    let answers : map reply_of (v.heard ++ word ∷ []) ≡ map reply_of v.heard ++ reply ∷ [] = map-append reply_of v.heard (word ∷ []) ∙ ap (λ (r : Reply). map reply_of v.heard ++ r ∷ []) last in
    let looks : suc v.looks ≡ v.looks + 1 = omega arith in
    ap (λ (s : TerminalView). port_view s rests_now) same
    ∙ ap (λ (p : Option ℕ). port_as v rests_now p (map reply_of (v.heard ++ word ∷ [])) (suc v.looks)) pending
    ∙ ap (λ (replies : List Reply). port_as v rests_now None replies (suc v.looks)) answers
    ∙ ap (λ (n : ℕ). port_as v rests_now None (map reply_of v.heard ++ reply ∷ []) n) looks
