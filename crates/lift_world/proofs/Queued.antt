-- How many batches are queued, and that a cut leaves no command on its way.
use Rattle.std.proofs.Common.{◌≡◌, ◌≢◌, ◌+◌, false, List, [], ◌∷◌, length, refl, sym, ap, ◌∙◌, arith}
use Rattle.std.specs.Prelude.{unwrap_or}
use Rattle.std.proofs.lemmas.Bool.{false≢true}
use Rattle.std.proofs.lemmas.List.{length-append}
use Rattle.lift_building.specs.Plan.{Plan}
use Rattle.lift_register.specs.Register.{RegisterState}
use Rattle.lift_world.specs.declared.event.Taken.{Taken}
use Rattle.lift_world.specs.declared.event.Event.{Event}
use Rattle.lift_world.specs.World.{World, SealedBatch, start, is_off}
use Rattle.lift_world.specs.Next.{run, next, is_empty}
use Rattle.lift_world.specs.Headline.{QueuesFew, HoldsNothingWhileOff}
use Rattle.lift_world.specs.lemmas.Leads.{leads, running_on}
use Rattle.lift_world.specs.lemmas.Looks.{can_be_looked_at}

not_none : (cs : List Taken) → is_empty cs ≡ false → cs ≢ []
not_none cs some none = false≢true (sym some ∙ ap is_empty none)

queues_rest : (w x : World) (batch : SealedBatch) (rest : List SealedBatch) → QueuesFew w → w.queue ≡ batch ∷ rest → x.queue ≡ rest → x.taken ≡ w.taken → QueuesFew x
queues_rest w x batch rest k at q t =
    let longer : length w.queue ≡ length rest + 1 = ap length at ∙ omega arith in
    let same : length x.queue ≡ length rest = ap length q in
    record { queued = (let f = k.queued in omega arith); in_hand = λ some. (let f = k.in_hand (λ none. some (t ∙ none)) in omega arith) }

queues_same : (w x : World) → QueuesFew w → x.queue ≡ w.queue → x.taken ≡ w.taken → QueuesFew x
queues_same w x k q t =
    let same : length x.queue ≡ length w.queue = ap length q in
    record { queued = (let f = k.queued in omega arith); in_hand = λ some. (let f = k.in_hand (λ none. some (t ∙ none)) in omega arith) }

queues_none : (x : World) → x.queue ≡ [] → QueuesFew x
queues_none x q =
    let none : length x.queue ≡ 0 = ap length q in
    record { queued = omega arith; in_hand = λ some. omega arith }

queues : (w : World) (event : Event) → QueuesFew w → QueuesFew (unwrap_or (next w event) w)
queues w event k = leads QueuesFew w event (record {
  stays = k;
  asked = λ command on may is. queues_same w _ k refl refl;
  taken = λ terminal letter command d on may at made is_take.
      let few = (can_be_looked_at w terminal may).few_queued in
      record { queued = omega arith; in_hand = λ some. few };
  sealed = λ on some is_seal.
      let few = k.in_hand (not_none w.taken some) in
      let one = length-append w.queue (record { commands = w.taken; upto = length w.accepted } ∷ []) in
      record { queued = omega arith; in_hand = λ more. absurd (more refl) };
  fails = λ batch rest on at broken. queues_rest w _ batch rest k at refl refl;
  flies = λ batch rest on at idle more. queues_rest w _ batch rest k at refl refl;
  lands = λ batch rest on at idle none. queues_rest w _ batch rest k at refl refl;
  goes_on = λ phase on busy still. queues_same w _ k refl refl;
  settled = λ on gate. queues_same w _ k refl refl;
  answered = λ terminal c on at. queues_same w _ k refl refl;
  heard = λ a on. queues_same w _ k refl refl;
  failed = λ on is. queues_same w _ k refl refl;
  cut = λ kept is_cut. queues_none _ refl;
  reopened = λ kept may is_reopen. queues_none _ refl;
})

pub run_queues : (events : List Event) (w : World) → QueuesFew w → QueuesFew (run events w)
run_queues [] w k = k
run_queues (event ∷ events) w k = run_queues events (unwrap_or (next w event) w) (queues w event k)

pub start_queues : (building : Plan) (base : RegisterState) → QueuesFew (start building base)
start_queues building base = queues_none (start building base) refl

-- while the power is on
powered : (w x : World) → is_off w.power ≡ false → x.power ≡ w.power → HoldsNothingWhileOff x
powered w x on same off = absurd (false≢true (sym on ∙ ap is_off (sym same) ∙ off))

holds : (w : World) (event : Event) → HoldsNothingWhileOff w → HoldsNothingWhileOff (unwrap_or (next w event) w)
holds w event k = leads HoldsNothingWhileOff w event (record {
  stays = k;
  asked = λ command on may is. powered w _ on refl;
  taken = λ terminal letter command d on may at made is_take. powered w _ on refl;
  sealed = λ on some is_seal. powered w _ on refl;
  fails = λ batch rest on at broken. powered w _ on refl;
  flies = λ batch rest on at idle more. powered w _ (running_on w.power on) refl;
  lands = λ batch rest on at idle none. powered w _ (running_on w.power on) refl;
  goes_on = λ phase on busy still. powered w _ on refl;
  settled = λ on gate. powered w _ on refl;
  answered = λ terminal c on at. powered w _ on refl;
  heard = λ a on. powered w _ on refl;
  failed = λ on is off. absurd (false≢true off);
  cut = λ kept is_cut off. record { nothing_flies = refl; nothing_queued = refl; nothing_taken = refl; nothing_due = refl };
  reopened = λ kept may is_reopen off. absurd (false≢true off);
})

pub run_holds : (events : List Event) (w : World) → HoldsNothingWhileOff w → HoldsNothingWhileOff (run events w)
run_holds [] w k = k
run_holds (event ∷ events) w k = run_holds events (unwrap_or (next w event) w) (holds w event k)

pub start_holds_nothing : (building : Plan) (base : RegisterState) → HoldsNothingWhileOff (start building base)
start_holds_nothing building base off = absurd (false≢true off)
