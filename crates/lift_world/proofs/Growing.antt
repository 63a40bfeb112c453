-- What is accepted only grows by what is taken, and a reopening keeps a prefix of it.
use Rattle.std.proofs.Common.{ℕ, ◌≡◌, ◌≢◌, [], ◌∷◌, ◌++◌, drop, Some, None, refl, sym, ap, subst, ◌∙◌, inl, inr}
use Rattle.std.specs.Prelude.{Option, unwrap_or}
use Rattle.std.specs.Option.{option_to_list}
use Rattle.std.proofs.lemmas.List.{append-nil}
use Rattle.lift_base.specs.declared.history.Entry.{Entry}
use Rattle.lift_policy.specs.lemmas.Joins.{Step-joins}
use Rattle.lift_world.specs.declared.event.Kept.{Kept}
use Rattle.lift_world.specs.declared.event.Event.{Event}
use Rattle.lift_world.specs.declared.event.Event.TheVariants.{Take, Reopen}
use Rattle.lift_world.specs.World.{World, state_of}
use Rattle.lift_world.specs.Next.{next}
use Rattle.lift_world.specs.Headline.{AcceptsInOrder}
use Rattle.lift_world.specs.Tie.{IsStep, naming}
use Rattle.lift_world.specs.lemmas.Leads.{leads}
use Rattle.lift_world.specs.lemmas.Steps.{takes_are_steps}
use Rattle.lift_world.proofs.Consistent.{rest_of, rest_is, accepted_after}
use Rattle.lift_world.proofs.Possibilities.{reopenings_give}

-- at most one entry is added
Adds : World → World → Type 0
Adds w after = (entry : Option Entry) × (after.accepted ≡ w.accepted ++ option_to_list entry)

step_adds : (w after : World) (terminal : ℕ) (letter : Option ℕ) → IsStep w terminal letter after → Adds w after
unfolding Adds
step_adds w after terminal letter k =
    elim (Step-joins w.building (naming letter) (state_of w) k.command.terminal k.command.number k.command.body k.reply k.state k.step) [
      | inl none ↦ (None, ap (λ (x : World). x.accepted) k.decided ∙ accepted_after w [] k.state.batch (none.batch ∙ sym (append-nil (drop w.sealed w.accepted))))
      | inr one ↦ (Some one.0, ap (λ (x : World). x.accepted) k.decided ∙ accepted_after w (one.0 ∷ []) k.state.batch one.1.batch)
    ]

-- the journal stays
journal_stays : (w : World) (event : Event) (after : World) → next w event ≡ Some after → (after.building ≡ w.building) × (after.base ≡ w.base)
journal_stays w event after h =
    subst (λ (o : Option World). ((unwrap_or o w).building ≡ w.building) × ((unwrap_or o w).base ≡ w.base)) h
    (leads (λ (v : World). (v.building ≡ w.building) × (v.base ≡ w.base)) w event (record {
      stays = (refl, refl);
      asked = λ command on may is. (refl, refl);
      taken = λ terminal letter command d on may at made is. (refl, refl);
      sealed = λ on some is. (refl, refl);
      fails = λ batch rest on at broken. (refl, refl);
      flies = λ batch rest on at idle more. (refl, refl);
      lands = λ batch rest on at idle none. (refl, refl);
      goes_on = λ phase on busy still. (refl, refl);
      settled = λ on gate. (refl, refl);
      answered = λ terminal c on at. (refl, refl);
      heard = λ a on. (refl, refl);
      failed = λ on is. (refl, refl);
      cut = λ kept is. (refl, refl);
      reopened = λ kept may is. (refl, refl);
    }))

stays_accepted : (w : World) (event : Event) (after : World) → ((terminal : ℕ) (letter : Option ℕ) → event ≢ Take terminal letter) → ((kept : Kept) → event ≢ Reopen kept)
    → next w event ≡ Some after → after.accepted ≡ w.accepted
stays_accepted w event after no_take no_reopening h =
    subst (λ (o : Option World). (unwrap_or o w).accepted ≡ w.accepted) h
    (leads (λ (v : World). v.accepted ≡ w.accepted) w event (record {
      stays = refl;
      asked = λ command on may is. refl;
      taken = λ terminal letter command d on may at made is. absurd (no_take terminal letter is);
      sealed = λ on some is. refl;
      fails = λ batch rest on at broken. refl;
      flies = λ batch rest on at idle more. refl;
      lands = λ batch rest on at idle none. refl;
      goes_on = λ phase on busy still. refl;
      settled = λ on gate. refl;
      answered = λ terminal c on at. refl;
      heard = λ a on. refl;
      failed = λ on is. refl;
      cut = λ kept is. refl;
      reopened = λ kept may is. absurd (no_reopening kept is);
    }))

pub accepts_in_order : (w : World) → AcceptsInOrder w
unfolding Adds
accepts_in_order w = record {
  prefixes = λ kept may. (rest_of w kept, rest_is w kept);
  takes = λ terminal letter after h. step_adds w after terminal letter (takes_are_steps w terminal letter after h);
  reopenings = λ kept after h. (reopenings_give w kept after h).accepted;
  others = stays_accepted w;
  same_journal = journal_stays w;
}
