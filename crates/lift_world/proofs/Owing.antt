-- What is on its way of a terminal grows by a take of it alone.
use Rattle.std.proofs.Common.{ℕ, ◌≡◌, ◌+◌, ◌≤◌, Bool, true, false, eqb, List, [], ◌∷◌, ◌++◌, length, map, Option, Some, refl, ap, subst, ◌∙◌, arith}
use Rattle.std.specs.Prelude.{reverse}
use Rattle.std.proofs.lemmas.Bool.{eqb-true}
use Rattle.std.proofs.lemmas.List.Concat.{flat_map-append}
use Rattle.lift_policy.specs.declared.command.Command.{Command}
use Rattle.lift_world.specs.declared.event.Taken.{Taken}
use Rattle.lift_world.specs.declared.event.Event.{Event}
use Rattle.lift_world.specs.declared.event.Event.TheVariants.{Take}
use Rattle.lift_policy.specs.Decision.{Decision}
use Rattle.lift_world.specs.World.{World, SealedBatch, asks, is_taken_of}
use Rattle.lift_world.specs.Next.{next, unknown_to, unanswered, deciding, may_take}
use Rattle.lift_world.specs.lemmas.Counted.{count_cons, count_both, owed, owed_unknown, owed_none, owed_parts, owed_others, in_queue, owed_to}
use Rattle.lift_world.specs.lemmas.Entries.{find_held}
use Rattle.lift_world.proofs.Given.{led}
use Rattle.lift_world.specs.lemmas.Looks.{can_be_looked_at}

module _ (terminal : ℕ) (most : ℕ) (w : World) (k : owed_to w terminal ≤ most) where
  first_owed : (batch : SealedBatch) (rest : List SealedBatch) → w.queue ≡ batch ∷ rest → owed terminal (in_queue w.queue) ≡ owed terminal batch.commands + owed terminal (in_queue rest)
  first_owed batch rest at = ap (λ (q : List SealedBatch). owed terminal (in_queue q)) at ∙ count_both (is_taken_of terminal) batch.commands (in_queue rest)

  -- a take of it, where one is possible, and one of another
  took_one : (t : ℕ) (command : Command) (d : Decision) (b : Bool) → eqb t terminal ≡ b → command.terminal ≡ t → may_take w t ≡ true → (t ≡ terminal → 1 ≤ most)
      → owed_to (deciding w command d) terminal ≤ most
  took_one t command d true e own may room =
      let new : Taken = record { terminal = command.terminal; number = command.number; body = command.body; reply = d.reply } in
      let here : t ≡ terminal = eqb-true t terminal e in
      let none = owed_none terminal (unanswered w) (can_be_looked_at w terminal (subst (λ (x : ℕ). may_take w x ≡ true) here may)).not_taken in
      let parts = owed_parts terminal w.due w.flight.commands (in_queue w.queue) w.taken in
      let both = count_both (is_taken_of terminal) w.taken (new ∷ []) in
      let one = count_cons (is_taken_of terminal) new true (ap (λ (x : ℕ). eqb x terminal) own ∙ e) [] in
      let some = room here in
      omega arith
  took_one t command d false e own may room =
      let new : Taken = record { terminal = command.terminal; number = command.number; body = command.body; reply = d.reply } in
      let both = count_both (is_taken_of terminal) w.taken (new ∷ []) in
      let none = count_cons (is_taken_of terminal) new false (ap (λ (x : ℕ). eqb x terminal) own ∙ e) [] in
      omega arith

  pub owes_on : (event : Event) (after : World) → ((letter : Option ℕ) → event ≡ Take terminal letter → 1 ≤ most) → next w event ≡ Some after → owed_to after terminal ≤ most
  owes_on event after room h =
      let zero_more : owed terminal [] ≡ 0 = refl in
      led (λ (x : World). owed_to x terminal ≤ most) w event after (record {
        stays = k;
        asked = λ command on may is. k;
        taken = λ t letter command d on may at made is_take.
            took_one t command d (eqb t terminal) refl (eqb-true command.terminal t (find_held (asks t) (reverse w.asked) command at).1) may
            (λ here. room letter (is_take ∙ ap (λ (x : ℕ). Take x letter) here));
        sealed = λ on some is_seal.
            let b : SealedBatch = record { commands = w.taken; upto = length w.accepted } in
            let q : owed terminal (in_queue (w.queue ++ b ∷ [])) ≡ owed terminal (in_queue w.queue) + owed terminal (in_queue (b ∷ [])) =
            ap (owed terminal) (flat_map-append (λ (x : SealedBatch). x.commands) w.queue (b ∷ [])) ∙ count_both (is_taken_of terminal) (in_queue w.queue) (in_queue (b ∷ [])) in
            let one = count_both (is_taken_of terminal) w.taken [] in
            omega arith;
        fails = λ batch rest on at broken.
            let q = first_owed batch rest at in
            let d = count_both (is_taken_of terminal) w.due (map unknown_to batch.commands) in
            let u = owed_unknown terminal batch.commands in
            omega arith;
        flies = λ batch rest on at idle more. let q = first_owed batch rest at in omega arith;
        lands = λ batch rest on at idle none.
            let q = first_owed batch rest at in
            let d = count_both (is_taken_of terminal) w.due batch.commands in
            omega arith;
        goes_on = λ phase on busy still. k;
        settled = λ on gate. let d = count_both (is_taken_of terminal) w.due w.flight.commands in omega arith;
        answered = λ t c on at. let less = owed_others terminal t c w.due at in omega arith;
        heard = λ a on. k;
        failed = λ on is.
            let d = count_both (is_taken_of terminal) w.due (map unknown_to w.flight.commands) in
            let u = owed_unknown terminal w.flight.commands in
            omega arith;
        cut = λ kept is_cut. omega arith;
        reopened = λ kept may is_reopen.
            let d = count_both (is_taken_of terminal) w.due (map unknown_to w.taken) in
            let u = owed_unknown terminal w.taken in
            omega arith;
      }) h
