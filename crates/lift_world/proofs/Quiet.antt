-- Between batches: none is in flight, and a reopening unplaces the cars alone.
use Rattle.std.proofs.Common.{◌≡◌, false, cond, List, [], ◌∷◌, ◌++◌, length, refl, sym, ap, subst, ◌∙◌}
use Rattle.std.specs.Prelude.{unwrap_or}
use Rattle.std.proofs.Math.Seq.{take-length}
use Rattle.std.proofs.lemmas.Bool.{false≢true}
use Rattle.std.proofs.lemmas.List.{append-nil}
use Rattle.lift_base.specs.declared.history.Entry.{Entry}
use Rattle.lift_building.specs.Plan.{Plan}
use Rattle.lift_register.specs.Register.{RegisterState}
use Rattle.lift_world.specs.declared.event.Kept.TheVariants.{Safe, WithBatch}
use Rattle.lift_world.specs.declared.event.Taken.{Taken}
use Rattle.lift_world.specs.declared.event.Phase.{Phase}
use Rattle.lift_world.specs.declared.event.Phase.TheVariants.{Idle, Writing}
use Rattle.lift_world.specs.declared.event.Power.TheVariants.{Running}
use Rattle.lift_world.specs.declared.event.Event.{Event}
use Rattle.lift_world.specs.World.{World, SealedBatch, start, unplaced, is_idle, is_off, is_running}
use Rattle.lift_world.specs.Next.{run, next, reopened, may_reopen}
use Rattle.lift_world.specs.Headline.{FliesNothingWhileIdle, ReopensInPlace}
use Rattle.lift_world.specs.Possible.{IsQuiet}
use Rattle.lift_world.specs.Relay.{last_end, flown, IsQueueInOrder}
use Rattle.lift_world.specs.Turns.{IsAtRest}
use Rattle.lift_world.specs.lemmas.Leads.{leads}
use Rattle.lift_world.specs.lemmas.Ordered.{queue_in_order}
use Rattle.lift_world.proofs.Possibilities.{reopens_while_quiet, when_some}
use Rattle.lift_world.proofs.Turns.{at_rest, is_at_rest}

busy : {A : Type 0} (phase : Phase) → is_idle phase ≡ false → phase ≡ Idle → A
busy phase still idle = absurd (false≢true (sym still ∙ ap is_idle idle))

flies_nothing : (w : World) (event : Event) → FliesNothingWhileIdle w → FliesNothingWhileIdle (unwrap_or (next w event) w)
flies_nothing w event k = leads FliesNothingWhileIdle w event (record {
  stays = k;
  asked = λ command on may is. k;
  taken = λ terminal letter command d on may at made is_take. k;
  sealed = λ on some is_seal. k;
  fails = λ batch rest on at broken. k;
  flies = λ batch rest on at idle more wrote. busy (Writing 0) refl wrote;
  lands = λ batch rest on at idle none. k;
  goes_on = λ phase on was still idle. busy phase still idle;
  settled = λ on gate idle. refl;
  answered = λ terminal c on at. k;
  heard = λ a on. k;
  failed = λ on is idle. ap (λ (b : SealedBatch). record { commands = []; upto = b.upto }) (k idle);
  cut = λ kept is_cut idle. ap (λ (b : SealedBatch). record { commands = []; upto = b.upto }) (k idle);
  reopened = λ kept may is_reopen idle. refl;
})

run_flies_nothing : (events : List Event) (w : World) → FliesNothingWhileIdle w → FliesNothingWhileIdle (run events w)
run_flies_nothing [] w k = k
run_flies_nothing (event ∷ events) w k = run_flies_nothing events (unwrap_or (next w event) w) (flies_nothing w event k)

pub flies_nothing_while_idle : (building : Plan) (base : RegisterState) (events : List Event) → FliesNothingWhileIdle (run events (start building base))
flies_nothing_while_idle building base events = run_flies_nothing events (start building base) (λ idle. refl)

-- while the power is on all that is accepted is sealed, where nothing is taken
abbrev pub SealsAllTaken : World → Type 0
SealsAllTaken w = is_off w.power ≡ false → w.taken ≡ [] → w.sealed ≡ length w.accepted

one_taken : {A : Type 0} (cs : List Taken) (c : Taken) → cs ++ c ∷ [] ≡ [] → A
one_taken [] c h = cc
one_taken (d ∷ cs) c h = cc

seals_all : (w : World) (event : Event) → SealsAllTaken w → SealsAllTaken (unwrap_or (next w event) w)
seals_all w event k = leads SealsAllTaken w event (record {
  stays = k;
  asked = λ command on may is. k;
  taken = λ terminal letter command d on may at made is_take still none. one_taken w.taken _ none;
  sealed = λ on some is_seal still none. refl;
  fails = λ batch rest on at broken. k;
  flies = λ batch rest on at idle more. k;
  lands = λ batch rest on at idle none. k;
  goes_on = λ phase on was still. k;
  settled = λ on gate. k;
  answered = λ terminal c on at. k;
  heard = λ a on. k;
  failed = λ on is still none. k on none;
  cut = λ kept is_cut still none. absurd (false≢true (sym still));
  reopened = λ kept may is_reopen still none. refl;
})

run_seals_all : (events : List Event) (w : World) → SealsAllTaken w → SealsAllTaken (run events w)
run_seals_all [] w k = k
run_seals_all (event ∷ events) w k = run_seals_all events (unwrap_or (next w event) w) (seals_all w event k)

module _ (w : World) (order : IsQueueInOrder w) (flies : FliesNothingWhileIdle w) (seals : SealsAllTaken w) (on : w.power ≡ Running) where
  -- but for what is due it is a world at rest
  rests_but_due : IsQuiet w → IsAtRest (record w { due = [] })
  rests_but_due quiet =
      let sealed : w.sealed ≡ length w.accepted = seals (ap is_off on) quiet.nothing_taken in
      let safe : w.safe ≡ w.sealed =
      ap (λ (p : Phase). cond (is_idle p) w.safe w.flight.upto) (sym quiet.idle) ∙ ap (λ (q : List SealedBatch). last_end (flown w) q) (sym quiet.nothing_queued) ∙ order.ends (ap is_running on) in
      record {
        running = ap is_running on;
        idle = quiet.idle;
        nothing_flies = flies quiet.idle;
        nothing_queued = quiet.nothing_queued;
        nothing_taken = quiet.nothing_taken;
        nothing_due = refl;
        all_sealed = sealed;
        all_safe = safe ∙ sealed;
      }

  unplaces_alone : IsQuiet w → reopened w Safe ≡ record w { positions = unplaced }
  unplaces_alone quiet =
      subst (λ (v : World). reopened v Safe ≡ record v { positions = unplaced }) (ap (λ (v : World). record v { due = w.due }) (is_at_rest (record w { due = [] }) (rests_but_due quiet)))
      (ap (λ (xs : List Entry). record (at_rest w) { accepted = xs; safe = length xs; sealed = length xs; positions = unplaced; due = w.due ++ [] }) (take-length w.accepted)
      ∙ ap (λ (cs : List Taken). record (at_rest w) { positions = unplaced; due = cs }) (append-nil w.due))

  in_place : ReopensInPlace w
  in_place Safe after _ h =
      sym (when_some (may_reopen w w.power Safe) (reopened w Safe) after h).1 ∙ unplaces_alone ((reopens_while_quiet w).only_quiet Safe after on h)
  in_place WithBatch after _ h = let none = (reopens_while_quiet w).only_safe on in cc

pub reopens_in_place : (building : Plan) (base : RegisterState) (events : List Event) → ReopensInPlace (run events (start building base))
reopens_in_place building base events kept after on h =
    in_place (run events (start building base)) (queue_in_order building base events) (flies_nothing_while_idle building base events) (run_seals_all events (start building base) (λ still none. refl)) on kept after on h
