-- What was answered is given, and stays so; and what breaks the controller.
use Rattle.std.proofs.Common.{ℕ, ◌≡◌, ◌⊎◌, List, [], ◌∷◌, ◌++◌, Option, Some, refl, sym, ap, subst, ◌∙◌, inl, inr, append_assoc}
use Rattle.std.specs.Prelude.{unwrap_or}
use Rattle.std.proofs.lemmas.List.{append-nil, map-append}
use Rattle.lift_building.specs.Plan.{Plan}
use Rattle.lift_register.specs.Register.{RegisterState}
use Rattle.lift_world.specs.declared.event.Answer.{Answer}
use Rattle.lift_world.specs.declared.event.Taken.{Taken}
use Rattle.lift_world.specs.declared.event.Event.{Event}
use Rattle.lift_world.specs.declared.event.Event.TheVariants.{Fault}
use Rattle.lift_world.specs.declared.event.Power.TheVariants.{Broken}
use Rattle.lift_world.specs.World.{World, start}
use Rattle.lift_world.specs.Next.{run, next, answering, answer_of}
use Rattle.lift_world.specs.Headline.{StoresGiven}
use Rattle.lift_world.specs.Possible.{GivenStays}
use Rattle.lift_world.specs.Faults.{OnlyFaultsBreak}
use Rattle.lift_world.specs.lemmas.Leads.{Leads, leads}

-- an event that is possible leads to what it leaves
pub led : (P : World → Type 0) (w : World) (event : Event) (after : World) → Leads P w event → next w event ≡ Some after → P after
led P w event after k h = subst P (ap (λ (o : Option World). unwrap_or o w) h) (leads P w event k)

abbrev Grows : World → World → Type 0
Grows w x = (later : List Taken) × (x.given ≡ w.given ++ later)

pub given_stays : (w : World) → GivenStays w
given_stays w event after h =
    let same : Grows w w = ([], sym (append-nil w.given)) in
    led (Grows w) w event after (record {
      stays = same;
      asked = λ command on may is. same;
      taken = λ terminal letter command d on may at made is_take. same;
      sealed = λ on some is_seal. same;
      fails = λ batch rest on at broken. same;
      flies = λ batch rest on at idle more. same;
      lands = λ batch rest on at idle none. same;
      goes_on = λ phase on busy still. same;
      settled = λ on gate. same;
      answered = λ terminal c on at. (c ∷ [], refl);
      heard = λ a on. same;
      failed = λ on is. same;
      cut = λ kept is_cut. same;
      reopened = λ kept may is_reopen. same;
    }) h

abbrev Breaks : World → Event → World → Type 0
Breaks w event x = x.power ≡ Broken → (w.power ≡ Broken) ⊎ (event ≡ Fault)

pub only_faults_break : (w : World) → OnlyFaultsBreak w
only_faults_break w event after h =
    led (Breaks w event) w event after (record {
      stays = λ b. inl b;
      asked = λ command on may is b. inl b;
      taken = λ terminal letter command d on may at made is_take b. inl b;
      sealed = λ on some is_seal b. inl b;
      fails = λ batch rest on at broken b. inl b;
      flies = λ batch rest on at idle more b. inl b;
      lands = λ batch rest on at idle none b. inl b;
      goes_on = λ phase on busy still b. inl b;
      settled = λ on gate b. inl b;
      answered = λ terminal c on at b. inl b;
      heard = λ a on b. inl b;
      failed = λ on is b. inr is;
      cut = λ kept is_cut b. cc;
      reopened = λ kept may is_reopen b. cc;
    }) h

answering_stores : (w : World) (terminal : ℕ) (c : Taken) → StoresGiven w → StoresGiven (answering w terminal c)
answering_stores w terminal c k = record {
  before = k.before;
  since = k.since ++ c ∷ [];
  given = ap (λ (cs : List Taken). cs ++ c ∷ []) k.given ∙ append_assoc k.before k.since (c ∷ []);
  answered = ap (λ (xs : List Answer). xs ++ answer_of c ∷ []) k.answered ∙ sym (map-append answer_of k.since (c ∷ []));
}

same_words : (w x : World) → x.given ≡ w.given → x.answered ≡ w.answered → StoresGiven w → StoresGiven x
same_words w x g a k = record { before = k.before; since = k.since; given = g ∙ k.given; answered = a ∙ k.answered }

stores : (w : World) (event : Event) → StoresGiven w → StoresGiven (unwrap_or (next w event) w)
stores w event k = leads StoresGiven w event (record {
  stays = k;
  asked = λ command on may is. same_words w _ refl refl k;
  taken = λ terminal letter command d on may at made is_take. same_words w _ refl refl k;
  sealed = λ on some is_seal. same_words w _ refl refl k;
  fails = λ batch rest on at broken. same_words w _ refl refl k;
  flies = λ batch rest on at idle more. same_words w _ refl refl k;
  lands = λ batch rest on at idle none. same_words w _ refl refl k;
  goes_on = λ phase on busy still. same_words w _ refl refl k;
  settled = λ on gate. same_words w _ refl refl k;
  answered = λ terminal c on at. answering_stores w terminal c k;
  heard = λ a on. same_words w _ refl refl k;
  failed = λ on is. same_words w _ refl refl k;
  cut = λ kept is_cut. record { before = w.given; since = []; given = sym (append-nil w.given); answered = refl };
  reopened = λ kept may is_reopen. same_words w _ refl refl k;
})

pub run_stores : (events : List Event) (w : World) → StoresGiven w → StoresGiven (run events w)
run_stores [] w k = k
run_stores (event ∷ events) w k = run_stores events (unwrap_or (next w event) w) (stores w event k)

pub start_stores : (building : Plan) (base : RegisterState) → StoresGiven (start building base)
start_stores building base = record { before = []; since = []; given = refl; answered = refl }
