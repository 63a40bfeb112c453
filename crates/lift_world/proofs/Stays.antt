-- Each part stays where it is over what the others do, and what holds at each point of every run is kept by every event.
use Rattle.std.proofs.Common.{ℕ, ◌≡◌, ◌≢◌, ◌+◌, ◌≤◌, Bool, true, false, not, eqb, List, [], ◌∷◌, ◌++◌, length, Option, Some, refl, sym, ap, subst, ◌∙◌, arith}
use Rattle.std.specs.Prelude.{IsTrue, unwrap_or}
use Rattle.std.specs.List.{AllByRecursion}
use Rattle.std.proofs.lemmas.Bool.{false≢true, eqb-true}
use Rattle.lift_world.specs.declared.event.Taken.{Taken}
use Rattle.lift_world.specs.declared.event.Phase.{Phase}
use Rattle.lift_world.specs.declared.event.Event.{Event}
use Rattle.lift_world.specs.declared.event.Event.TheVariants.{Ask, Take, Seal, Pull, Fold, Body as BodyWrite, FirstSync, Gate, SecondSync, Answer as Answering, Hear, Fault, Cut, Reopen}
use Rattle.lift_world.specs.World.{World, SealedBatch, is_off, is_idle, is_taken_of}
use Rattle.lift_world.specs.Next.{next, asking, sealing, hearing, next_answer, unanswered, is_empty, may_ask, may_seal}
use Rattle.lift_world.specs.Faults.{goes_on}
use Rattle.lift_world.specs.Headline.{HearsInOrder}
use Rattle.lift_world.specs.Turns.{IsAtRest}
use Rattle.lift_world.specs.Relay.{AreApart, EndInOrder, last_end, flown, IsBetweenScans, is_flushers}
use Rattle.lift_world.specs.Stays.{StaysBetweenScans, StaysBetweenFlushes, StaysBrokenBetween, StaysInOrder, HearsOnInOrder, AsksOnOneByOne, RestsInOrder}
use Rattle.lift_world.proofs.Possibilities.{when_some}
use Rattle.lift_world.specs.lemmas.Steps.{if_from, mapped}
use Rattle.lift_world.proofs.Given.{led}
use Rattle.lift_world.specs.lemmas.Heard.{hears}
use Rattle.lift_world.specs.lemmas.Counted.{count_cons, owed, owed_none, owed_parts, in_queue, Balances, balances}
use Rattle.lift_world.proofs.Owing.{owes_on}
use Rattle.lift_world.specs.lemmas.Ordered.{ordered_from, ordered_next, are_apart}
use Rattle.lift_world.proofs.Ahead.{took}

-- the allocator
scans_same : (w x : World) → IsBetweenScans w → x.taken ≡ w.taken → x.sealed ≡ w.sealed → x.accepted ≡ w.accepted → IsBetweenScans x
scans_same w x k taken sealed accepted = record { nothing_taken = taken ∙ k.nothing_taken; all_sealed = sealed ∙ k.all_sealed ∙ ap length (sym accepted) }

pub stays_between_scans : (w : World) → StaysBetweenScans w
stays_between_scans w event after k no_take h = led IsBetweenScans w event after (record {
  stays = k;
  asked = λ command on may is. scans_same w _ k refl refl refl;
  taken = λ terminal letter command d on may at made is. absurd (no_take terminal letter is);
  sealed = λ on some is. absurd (false≢true (sym some ∙ ap is_empty k.nothing_taken));
  fails = λ batch rest on at broken. scans_same w _ k refl refl refl;
  flies = λ batch rest on at idle more. scans_same w _ k refl refl refl;
  lands = λ batch rest on at idle none. scans_same w _ k refl refl refl;
  goes_on = λ phase on busy still. scans_same w _ k refl refl refl;
  settled = λ on gate. scans_same w _ k refl refl refl;
  answered = λ terminal c on at. scans_same w _ k refl refl refl;
  heard = λ a on. scans_same w _ k refl refl refl;
  failed = λ on is. scans_same w _ k refl refl refl;
  cut = λ kept is. record { nothing_taken = refl; all_sealed = k.all_sealed };
  reopened = λ kept may is. record { nothing_taken = refl; all_sealed = refl };
}) h

-- what the flusher's place is read from
record Leaves (w x : World) : Type 0 where
  pub same_power : x.power ≡ w.power
  pub same_phase : x.phase ≡ w.phase
  pub same_flight : x.flight ≡ w.flight

left_as : (w made after : World) → made ≡ after → Leaves w made → Leaves w after
left_as w made after is k = subst (Leaves w) is k

others_leave : (w : World) (event : Event) (after : World) → is_flushers event ≡ false → IsTrue (goes_on event) → next w event ≡ Some after → Leaves w after
others_leave w (Ask terminal number body) after isnt on h =
    let s = when_some (may_ask w terminal) (asking w (record { terminal = terminal; number = number; body = body })) after h in
    left_as w _ after s.1 (record { same_power = refl; same_phase = refl; same_flight = refl })
others_leave w (Take terminal letter) after isnt on h = left_as w _ after (took w terminal letter after h).is (record { same_power = refl; same_phase = refl; same_flight = refl })
others_leave w Seal after isnt on h = left_as w _ after (when_some (may_seal w) (sealing w) after h).1 (record { same_power = refl; same_phase = refl; same_flight = refl })
others_leave w Pull after isnt on h = absurd (false≢true (sym isnt))
others_leave w Fold after isnt on h = absurd (false≢true (sym isnt))
others_leave w BodyWrite after isnt on h = absurd (false≢true (sym isnt))
others_leave w FirstSync after isnt on h = absurd (false≢true (sym isnt))
others_leave w Gate after isnt on h = absurd (false≢true (sym isnt))
others_leave w SecondSync after isnt on h = absurd (false≢true (sym isnt))
others_leave w (Answering terminal) after isnt on h = absurd (false≢true (sym isnt))
others_leave w (Hear terminal) after isnt on h =
    let a = mapped (hearing w) (next_answer w terminal) after (if_from (not (is_off w.power)) _ after h).1 in
    left_as w _ after a.2 (record { same_power = refl; same_phase = refl; same_flight = refl })
others_leave w Fault after isnt on h = absurd (false≢true (sym isnt))
others_leave w (Cut kept) after isnt on h = absurd (false≢true on)
others_leave w (Reopen kept) after isnt on h = absurd (false≢true on)

pub stays_between_flushes : (w : World) → StaysBetweenFlushes w
stays_between_flushes w event after k isnt on h =
    let left = others_leave w event after isnt on h in
    record { running = left.same_power ∙ k.running; idle = left.same_phase ∙ k.idle; nothing_flies = left.same_flight ∙ k.nothing_flies }

pub stays_broken_between : (w : World) → StaysBrokenBetween w
stays_broken_between w event after k isnt on h =
    let left = others_leave w event after isnt on h in
    record { broken = left.same_power ∙ k.broken; nothing_flies = ap (λ (b : SealedBatch). b.commands) left.same_flight ∙ k.nothing_flies }

-- of commands that are apart a terminal has at most one
one_by : (terminal : ℕ) (c : Taken) (cs : List Taken) (b : Bool) → eqb c.terminal terminal ≡ b → AllByRecursion (λ (d : Taken). d.terminal ≢ c.terminal) cs → owed terminal cs ≤ 1 → owed terminal (c ∷ cs) ≤ 1
one_by terminal c cs true e apart rest =
    let a = count_cons (is_taken_of terminal) c true e cs in
    let none = owed_none terminal cs (subst (λ (t : ℕ). AllByRecursion (λ (d : Taken). d.terminal ≢ t) cs) (eqb-true c.terminal terminal e) apart) in
    omega arith
one_by terminal c cs false e apart rest = let a = count_cons (is_taken_of terminal) c false e cs in omega arith

apart_one : (terminal : ℕ) (cs : List Taken) → AreApart cs → owed terminal cs ≤ 1
apart_one terminal [] h = let none : owed terminal [] ≡ 0 = refl in omega arith
apart_one terminal (c ∷ cs) h = one_by terminal c cs (eqb c.terminal terminal) refl h.0 (apart_one terminal cs h.1)

-- one at most on its way stays one at most
one_stays : (terminal : ℕ) (w : World) (event : Event) (after : World) → owed terminal (unanswered w) ≤ 1 → next w event ≡ Some after → owed terminal (unanswered after) ≤ 1
one_stays terminal w event after k h =
    let before = owed_parts terminal w.due w.flight.commands (in_queue w.queue) w.taken in
    let now = owed_parts terminal after.due after.flight.commands (in_queue after.queue) after.taken in
    let owes = owes_on terminal 1 w (omega arith) event after (λ letter is. omega arith) h in
    omega arith

pub stays_in_order : (w : World) → StaysInOrder w
stays_in_order w event after k h =
    let o = ordered_next w event after (ordered_from w k) h in
    record {
      safe_first = o.safe_first;
      in_order = o.in_order;
      ends = o.ends;
      doubt = o.doubt;
      all_accepted = o.accepted;
      apart = are_apart (unanswered after) (λ terminal. one_stays terminal w event after (apart_one terminal (unanswered w) k.apart) h);
    }

pub hears_on_in_order : (w : World) → HearsOnInOrder w
hears_on_in_order w event after k h = subst HearsInOrder (ap (λ (o : Option World). unwrap_or o w) h) (hears w event k)

pub asks_on_one_by_one : (w : World) → AsksOnOneByOne w
asks_on_one_by_one w terminal event after k h =
    let answered = k.answered in
    let before = owed_parts terminal w.due w.flight.commands (in_queue w.queue) w.taken in
    let now = owed_parts terminal after.due after.flight.commands (in_queue after.queue) after.taken in
    let b : Balances after terminal =
    subst (λ (x : World). Balances x terminal) (ap (λ (o : Option World). unwrap_or o w) h) (balances terminal w event (record { answers = omega arith; hears = k.asked })) in
    let answers = b.answers in
    record { answered = omega arith; one_on_its_way = one_stays terminal w event after k.one_on_its_way h; asked = b.hears }

-- at rest
rests : (w : World) (rest : IsAtRest w) (queue : List SealedBatch) → queue ≡ [] → EndInOrder w.safe queue w.sealed × (last_end w.safe queue ≡ w.sealed)
rests w rest [] none = let a = rest.all_sealed in let b = rest.all_safe in (omega arith, b ∙ sym a)
rests w rest (batch ∷ queue) none = cc

pub rests_in_order : (w : World) → RestsInOrder w
rests_in_order w rest =
    let is : flown w ≡ w.safe = ap (λ (p : Phase). Rattle.std.proofs.Common.cond (is_idle p) w.safe w.flight.upto) rest.idle in
    let queue = rests w rest w.queue rest.nothing_queued in
    let none : unanswered w ≡ [] =
    ap (λ (cs : List Taken). cs ++ w.flight.commands ++ in_queue w.queue ++ w.taken) rest.nothing_due
    ∙ ap (λ (b : SealedBatch). b.commands ++ in_queue w.queue ++ w.taken) rest.nothing_flies
    ∙ ap (λ (q : List SealedBatch). in_queue q ++ w.taken) rest.nothing_queued
    ∙ rest.nothing_taken in
    let a = rest.all_sealed in
    let no_flight : w.flight.upto ≡ 0 = ap (λ (b : SealedBatch). b.upto) rest.nothing_flies in
    record {
      safe_first = omega arith;
      in_order = subst (λ (n : ℕ). EndInOrder n w.queue w.sealed) (sym is) queue.0;
      ends = λ on. subst (λ (n : ℕ). last_end n w.queue ≡ w.sealed) (sym is) queue.1;
      doubt = omega arith;
      all_accepted = omega arith;
      apart = subst AreApart (sym none) tt;
    }
