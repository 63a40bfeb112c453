-- Notes of what was taken, and the turns after it.
use Rattle.std.proofs.Common.{◌≡◌, ℕ, zero, suc, ◌<◌, List, [], ◌∷◌, ◌++◌, length, get_or, set, Option, Some, None, refl, sym, ap, ◌∙◌, subst, append-nil, arith}
use Rattle.std.specs.Prelude.{IfSome}
use Rattle.std.specs.Option.{option_to_list}
use Rattle.std.proofs.lemmas.List.{map-set, set-get_or, length-map}
use Rattle.atomic_table.specs.Seated.{TableId}
use Rattle.lift_desk.specs.declared.view.ClerkView.{ClerkView}
use Rattle.lift_desk.specs.declared.words.Ask.{Ask}
use Rattle.lift_desk.specs.Words.{turn_of, last_of, ask_word}
use Rattle.lift_desk.specs.Spelled.{IsAsk}
use Rattle.lift_desk.specs.Steps.{with_taking}
use Rattle.lift_desk.specs.Seats.{ClerkPlace, no_place, placed_at, view_at, clerk_with, TakesAheadOf, IsNoteOf}
use Rattle.lift_desk.specs.lemmas.Places.{view_at-here}
use Rattle.lift_desk.specs.lemmas.WordLists.{last_of-push}
use Rattle.lift_policy.specs.declared.command.Command.{Command}
use Rattle.lift_clerk.specs.Visits.{command_at}
use Rattle.lift_clerk.specs.lemmas.Visiting.{taken-new, taken-old}
use Rattle.lift_parts.specs.declared.taken.NotedCommand.{NotedCommand}
use Rattle.lift_parts.specs.Batch.{commands_in, noted_in, turns_of, turns_with, turns_after, IsNoted, AreNoted}
use Rattle.lift_parts.specs.Scan.{words_of}
use Rattle.lift_parts.specs.lemmas.Used.{below_is}
use Rattle.lift_relay.proofs.Flushed.{after_last}

noted_last : (desk : List TableId) (turns : List ℕ) (xs : List NotedCommand) (x : NotedCommand) → AreNoted desk turns xs → IsNoted desk (turns_after turns xs) x → AreNoted desk turns (xs ++ x ∷ [])
noted_last desk turns [] x all one = (one, tt)
noted_last desk turns (y ∷ xs) x all one = (all.0, noted_last desk (turns_with turns y) xs x all.1 one)

pub turns_at : (places : List ClerkPlace) (t : ℕ) → get_or (turns_of places) t 0 ≡ turn_of (last_of (view_at places t).taken)
turns_at [] t = refl
turns_at (p ∷ places) zero = refl
turns_at (p ∷ places) (suc t) = turns_at places t

turns_set : (places : List ClerkPlace) (t : ℕ) (v : ClerkView) → turns_of (clerk_with places t v) ≡ set (turns_of places) t (turn_of (last_of v.taken))
turns_set places t v = map-set (λ (p : ClerkPlace). turn_of (last_of p.view.taken)) places t (placed_at (get_or places t no_place).table v)

-- a look that found nothing new leaves the turns
turns_still : (places : List ClerkPlace) (t : ℕ) (v : ClerkView) → v.taken ≡ (view_at places t).taken → turns_of (clerk_with places t v) ≡ turns_of places
turns_still places t v same =
    turns_set places t v ∙ ap (λ n. set (turns_of places) t n) (ap (λ l. turn_of (last_of l)) same ∙ sym (turns_at places t)) ∙ set-get_or (turns_of places) t 0

-- what one look adds
pub noted_more : (desk : List TableId) (turns : List ℕ) (taken : List NotedCommand) (more : Option NotedCommand) (seat next : List ClerkPlace) (t word : ℕ) (found : Option Ask)
    → t < length seat → next ≡ clerk_with seat t (with_taking (view_at seat t) word) → TakesAheadOf (view_at seat t) word found → IfSome found IsAsk
    → IfSome found (λ (ask : Ask). last_of (view_at next t).taken ≡ ask_word (turn_of (last_of (view_at next t).taken)) ask.number ask.body)
    → IfSome more (λ (k : NotedCommand). IsNoteOf desk t k.note × (k.note.word ≡ last_of (view_at next t).taken))
    → commands_in (option_to_list more) ≡ command_at t found
    → AreNoted desk turns taken → turns_after turns taken ≡ turns_of seat
    → AreNoted desk turns (taken ++ option_to_list more) × (turns_after turns (taken ++ option_to_list more) ≡ turns_of next)
    × (noted_in (option_to_list more) ≡ words_of (record { word = word; found = found } ∷ []))
noted_more desk turns taken None seat next t word None inside is takes in_range last of same all used = (
  subst (AreNoted desk turns) (sym (append-nil taken)) all,
  ap (turns_after turns) (append-nil taken) ∙ used ∙ sym (turns_still seat t (with_taking (view_at seat t) word) (taken-old (view_at seat t) word takes)) ∙ ap turns_of (sym is),
  refl,
)
noted_more desk turns taken (Some k) seat next t word None inside is takes in_range last of same all used = absurd (cc)
noted_more desk turns taken None seat next t word (Some ask) inside is takes in_range last of same all used = absurd (cc)
noted_more desk turns taken (Some k) seat next t word (Some ask) inside is takes in_range last of same all used =
    let v : ClerkView = with_taking (view_at seat t) word in
    let here : view_at next t ≡ v = ap (λ l. view_at l t) is ∙ view_at-here seat t v inside in
    let word_is : last_of (view_at next t).taken ≡ word = ap (λ (w : ClerkView). last_of w.taken) here ∙ ap last_of (taken-new (view_at seat t) word takes.0) ∙ last_of-push (view_at seat t).taken word in
    let says : k.note.word ≡ word = of.1 ∙ word_is in
    let command : Command = record { terminal = t; number = ask.number; body = ask.body } in
    let is_command : k.command ≡ command = cc in
    let many = length-map seat (λ (p : ClerkPlace). turn_of (last_of p.view.taken)) in
    let above = below_is _ _ takes.0 in
    let before = turns_at seat t in
    let one : IsNoted desk (turns_of seat) (record { command = command; reply = k.reply; note = k.note }) = record {
      of_table = of.0;
      in_range = in_range;
      says = of.1 ∙ last ∙ ap (λ w. ask_word (turn_of w) ask.number ask.body) (sym of.1);
      counted = omega arith;
      later = subst (λ n. get_or (turns_of seat) t 0 < turn_of n) (sym says) (omega arith);
    } in
    let it : IsNoted desk (turns_of seat) k = subst (λ (c : Command). IsNoted desk (turns_of seat) (record { command = c; reply = k.reply; note = k.note })) (sym is_command) one in (
      noted_last desk turns taken k all (subst (λ l. IsNoted desk l k) (sym used) it),
      after_last turns taken k ∙ ap (λ l. turns_with l k) used
          ∙ ap (λ (p : ℕ × ℕ). set (turns_of seat) p.0 (turn_of p.1)) (λ i. (ap (λ (c : Command). c.terminal) is_command i, (of.1 ∙ ap (λ (w : ClerkView). last_of w.taken) here) i))
          ∙ sym (turns_set seat t v) ∙ ap turns_of (sym is),
      ap (λ (w : ℕ). w ∷ []) says,
    )
