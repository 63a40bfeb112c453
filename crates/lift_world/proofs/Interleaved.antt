-- The flusher's events among all others.
use Rattle.std.proofs.Common.{ℕ, ◌≡◌, ◌≢◌, ◌+◌, ◌≤◌, Bool, true, false, not, ◌||◌, cond, List, [], ◌∷◌, ◌++◌, length, Option, Some, None, refl, sym, ap, subst, ◌∙◌, arith}
use Rattle.std.specs.Prelude.{IsTrue, IsSome, unwrap_or, count_by, option_map, option_and_then}
use Rattle.std.specs.List.{AllByRecursion}
use Rattle.std.proofs.lemmas.Bool.{false≢true, and_parts, and_from, not-true, not_from_false}
use Rattle.std.proofs.lemmas.List.{append-nil, length-append}
use Rattle.lift_world.specs.declared.event.Taken.{Taken}
use Rattle.lift_world.specs.declared.event.Event.{Event}
use Rattle.lift_world.specs.declared.event.Event.TheVariants.{Ask, Take, Seal, Pull, Fold, Body as BodyWrite, FirstSync, Gate, SecondSync, Answer as Answering, Hear, Fault, Cut, Reopen}
use Rattle.lift_world.specs.declared.event.Phase.TheVariants.{Writing, Synced, GateWritten}
use Rattle.lift_world.specs.Decided.{when}
use Rattle.lift_world.specs.World.{World, SealedBatch, is_off}
use Rattle.lift_world.specs.Next.{next, goes, deciding, sealing, pulled, in_phase, settling, failing, answering, is_empty, may_seal, may_pull, may_fail}
use Rattle.lift_world.specs.Beside.{with_words, is_of_terminals}
use Rattle.lift_world.specs.Faults.{goes_on}
use Rattle.lift_world.specs.Relay.{is_flushers}
use Rattle.lift_world.specs.Among.{flushers_part, others_part, is_pull, is_beside, FlusherMightComeFirst, StandAmong, GoesAmong, FlusherGoesAmong}
use Rattle.lift_world.specs.lemmas.Decisions.{some_is}
use Rattle.lift_world.proofs.Possibilities.{when_some, answers_only_due}
use Rattle.lift_world.specs.lemmas.Goes.{one, joined, goes-append}
use Rattle.lift_world.specs.lemmas.Steps.{if_from, then_from, mapped}
use Rattle.lift_world.proofs.Given.{led}
use Rattle.lift_world.proofs.Calls.{calls_in_order}
use Rattle.lift_world.specs.lemmas.Counted.{count_cons, count_filter}
use Rattle.lift_world.proofs.Beside.{passes_words, Keeps, keeps_words, ask_later, hear_later}
use Rattle.lift_world.specs.lemmas.Ordered.{Ordered, ordered_from, ordered_next}
use Rattle.lift_world.proofs.Ahead.{passes, took, flusher_passes_seals}
use Rattle.lift_world.proofs.Scans.{taken_as}

-- What terminals and the flusher do leaves what decisions read, and what was taken.
pub record Untouched (w x : World) : Type 0 where
  pub same_building : x.building ≡ w.building
  pub same_base : x.base ≡ w.base
  pub same_accepted : x.accepted ≡ w.accepted
  pub same_sealed : x.sealed ≡ w.sealed
  pub same_positions : x.positions ≡ w.positions
  pub same_taken : x.taken ≡ w.taken
  pub stays_on : is_off w.power ≡ false → is_off x.power ≡ false

not_beside : {A : Type 0} (event other : Event) → IsTrue (is_beside event) → event ≡ other → is_beside other ≡ false → A
not_beside event other is e isnt = absurd (false≢true (sym isnt ∙ subst (λ (x : Event). IsTrue (is_beside x)) e is))

pub untouched : (w : World) (event : Event) (after : World) → IsTrue (is_beside event) → next w event ≡ Some after → Untouched w after
untouched w event after is h =
    led (Untouched w) w event after (record {
      stays = record { same_building = refl; same_base = refl; same_accepted = refl; same_sealed = refl; same_positions = refl; same_taken = refl; stays_on = λ p. p };
      asked = λ command on may e. record { same_building = refl; same_base = refl; same_accepted = refl; same_sealed = refl; same_positions = refl; same_taken = refl; stays_on = λ p. p };
      taken = λ terminal letter command d on may at made e. not_beside event (Take terminal letter) is e refl;
      sealed = λ on some e. not_beside event Seal is e refl;
      fails = λ batch rest on at broken. record { same_building = refl; same_base = refl; same_accepted = refl; same_sealed = refl; same_positions = refl; same_taken = refl; stays_on = λ p. p };
      flies = λ batch rest on at idle more. record { same_building = refl; same_base = refl; same_accepted = refl; same_sealed = refl; same_positions = refl; same_taken = refl; stays_on = λ p. p };
      lands = λ batch rest on at idle none. record { same_building = refl; same_base = refl; same_accepted = refl; same_sealed = refl; same_positions = refl; same_taken = refl; stays_on = λ p. p };
      goes_on = λ phase on busy still. record { same_building = refl; same_base = refl; same_accepted = refl; same_sealed = refl; same_positions = refl; same_taken = refl; stays_on = λ p. p };
      settled = λ on gate. record { same_building = refl; same_base = refl; same_accepted = refl; same_sealed = refl; same_positions = refl; same_taken = refl; stays_on = λ p. p };
      answered = λ terminal c on at. record { same_building = refl; same_base = refl; same_accepted = refl; same_sealed = refl; same_positions = refl; same_taken = refl; stays_on = λ p. p };
      heard = λ a on. record { same_building = refl; same_base = refl; same_accepted = refl; same_sealed = refl; same_positions = refl; same_taken = refl; stays_on = λ p. p };
      failed = λ on e. record { same_building = refl; same_base = refl; same_accepted = refl; same_sealed = refl; same_positions = refl; same_taken = refl; stays_on = λ p. refl };
      cut = λ kept e. not_beside event (Cut kept) is e refl;
      reopened = λ kept may e. not_beside event (Reopen kept) is e refl;
    }) h

or_right : (a b : Bool) → b ≡ true → (a || b) ≡ true
or_right true b h = refl
or_right false b h = h

not_flushers : {A : Type 0} (event other : Event) → IsTrue (is_flushers event) → event ≡ other → is_flushers other ≡ false → A
not_flushers event other is e isnt = absurd (false≢true (sym isnt ∙ subst (λ (x : Event). IsTrue (is_flushers x)) e is))

no_cut : (event : Event) → IsTrue (is_flushers event) → (kept : Rattle.lift_world.specs.declared.event.Kept.Kept) → event ≡ Cut kept → ⊥
no_cut event is kept e = not_flushers event (Cut kept) is e refl

-- its words stay
same_words : (w before : World) (event : Event) → IsTrue (is_flushers event) → next w event ≡ Some before → before ≡ with_words before w.asked w.heard
same_words w before event is h =
    some_is before (with_words before w.asked w.heard)
    (sym h ∙ passes_words w w.asked w.heard event is ∙ ap (option_map (λ (x : World). with_words x w.asked w.heard)) h)

pub pulls_some : (w after : World) → next w Pull ≡ Some after → w.queue ≢ []
pulls_some w after h none =
    let p = (if_from (may_pull w) (pulled w w.queue) after h).1 in
    let q : pulled w [] ≡ Some after = ap (pulled w) (sym none) ∙ p in
    cc

-- What others do passes through all that the flusher does: after it the flusher's events are possible just where they are
-- before it, and after them it is.
pub record Through (other : Event) (w after : World) : Type 0 where
  pub does : World → World
  pub is : does w ≡ after
  pub passes : (event : Event) → IsTrue (is_flushers event) → (event ≡ Pull → w.queue ≢ []) → next after event ≡ option_map does (next w event)
  pub still : (event : Event) (before : World) → IsTrue (is_flushers event) → next w event ≡ Some before → next before other ≡ Some (does before)
  pub no_shorter : length w.queue ≤ length after.queue

unmoved : (w : World) → Keeps w w
unmoved w = (λ p. p, ([], sym (append-nil w.answered)))

-- the words of a terminal
words_through : (other : Event) (w after : World) → after ≡ with_words w after.asked after.heard
    → ((before : World) → Keeps w before → next (with_words before w.asked w.heard) other ≡ Some (with_words before after.asked after.heard)) → Through other w after
words_through other w after is later = record {
  does = λ x. with_words x after.asked after.heard;
  is = sym is;
  passes = λ event flushers some. ap (λ (x : World). next x event) is ∙ passes_words w after.asked after.heard event flushers;
  still = λ event before flushers h.
      ap (λ (x : World). next x other) (same_words w before event flushers h) ∙ later before (keeps_words w event before (no_cut event flushers) h);
  no_shorter = let same : length after.queue ≡ length w.queue = ap (λ (x : World). length x.queue) is in omega arith;
}

seal_through : (w after : World) → next w Seal ≡ Some after → Through Seal w after
seal_through w after h =
    let s = when_some (may_seal w) (sealing w) after h in
    record {
      does = sealing;
      is = s.1;
      passes = λ event is some. ap (λ (x : World). next x event) (sym s.1) ∙ flusher_passes_seals w event is some;
      still = λ event before is m.
          let u = untouched w event before (or_right (is_of_terminals event) (is_flushers event) is) m in
          let both = and_parts (not (is_off w.power)) (not (is_empty w.taken)) s.0 in
          ap (λ (b : Bool). when b (sealing before)) (and_from (not (is_off before.power)) (not (is_empty before.taken)) (not_from_false (is_off before.power) (u.stays_on (not-true (is_off w.power) both.0)))
          (ap (λ (cs : List Taken). not (is_empty cs)) u.same_taken ∙ both.1));
      no_shorter = let l = length-append w.queue (record { commands = w.taken; upto = length w.accepted } ∷ []) in let q : length after.queue ≡ length (sealing w).queue = ap (λ (x : World). length x.queue) (sym s.1) in omega arith;
    }

take_through : (terminal : ℕ) (letter : Option ℕ) (w after : World) → Ordered w → next w (Take terminal letter) ≡ Some after → Through (Take terminal letter) w after
take_through terminal letter w after order h =
    let t = took w terminal letter after h in
    record {
      does = λ x. deciding x t.command t.decision;
      is = t.is;
      passes = λ event is some. ap (λ (x : World). next x event) (sym t.is) ∙ passes w t.decision.next (taken_as t.command t.decision.reply ∷ []) event order is;
      still = λ event before is m. t.still event before is m;
      no_shorter = let q : length after.queue ≡ length w.queue = ap (λ (x : World). length x.queue) (sym t.is) in omega arith;
    }

through : (other : Event) (w after : World) → Ordered w → IsTrue (goes_on other) → is_flushers other ≡ false → next w other ≡ Some after → Through other w after
through (Ask terminal number body) w after order on is h =
    words_through (Ask terminal number body) w after (ask_later w w w.asked w.heard (unmoved w) terminal number body after h).0
    (λ before k. (ask_later w before w.asked w.heard k terminal number body after h).1)
through (Take terminal letter) w after order on is h = take_through terminal letter w after order h
through Seal w after order on is h = seal_through w after h
through Pull w after order on is h = absurd (false≢true (sym is))
through Fold w after order on is h = absurd (false≢true (sym is))
through BodyWrite w after order on is h = absurd (false≢true (sym is))
through FirstSync w after order on is h = absurd (false≢true (sym is))
through Gate w after order on is h = absurd (false≢true (sym is))
through SecondSync w after order on is h = absurd (false≢true (sym is))
through (Answering terminal) w after order on is h = absurd (false≢true (sym is))
through (Hear terminal) w after order on is h =
    words_through (Hear terminal) w after (hear_later w w w.asked w.heard (unmoved w) terminal after h).0
    (λ before k. (hear_later w before w.asked w.heard k terminal after h).1)
through Fault w after order on is h = absurd (false≢true (sym is))
through (Cut kept) w after order on is h = absurd (false≢true on)
through (Reopen kept) w after order on is h = absurd (false≢true on)

-- how many batches the queue loses
pull_after : (w after : World) → next w Pull ≡ Some after → length w.queue ≤ 1 + length after.queue
pull_after w after h =
    led (λ (x : World). length w.queue ≤ 1 + length x.queue) w Pull after (record {
      stays = omega arith;
      asked = λ command on may e. cc;
      taken = λ terminal letter command d on may at made e. cc;
      sealed = λ on some e. cc;
      fails = λ batch rest on at broken. one_less batch rest at;
      flies = λ batch rest on at idle more. one_less batch rest at;
      lands = λ batch rest on at idle none. one_less batch rest at;
      goes_on = λ phase on busy still. omega arith;
      settled = λ on gate. omega arith;
      answered = λ terminal c on at. omega arith;
      heard = λ a on. omega arith;
      failed = λ on e. cc;
      cut = λ kept e. cc;
      reopened = λ kept may e. cc;
    }) h
  where
    one_less : (batch : SealedBatch) (rest : List SealedBatch) → w.queue ≡ batch ∷ rest → length w.queue ≤ 1 + length rest
    one_less batch rest at = let l : length w.queue ≡ length rest + 1 = ap length at ∙ omega arith in omega arith

no_less : (w after made : World) → after ≡ made → made.queue ≡ w.queue → length w.queue ≤ 0 + length after.queue
no_less w after made is same = let l : length after.queue ≡ length w.queue = ap (λ (x : World). length x.queue) is ∙ ap length same in omega arith

pub queue_after : (w : World) (event : Event) (after : World) → IsTrue (is_flushers event) → next w event ≡ Some after → length w.queue ≤ cond (is_pull event) 1 0 + length after.queue
queue_after w (Ask terminal number body) after is h = absurd (false≢true is)
queue_after w (Take terminal letter) after is h = absurd (false≢true is)
queue_after w Seal after is h = absurd (false≢true is)
queue_after w Pull after is h = pull_after w after h
queue_after w Fold after is h = no_less w after w ((calls_in_order w).checkpoint after h).1 refl
queue_after w BodyWrite after is h = let b = (calls_in_order w).body after h in no_less w after (in_phase w (Writing (b.0 + 1))) b.3 refl
queue_after w FirstSync after is h = no_less w after (in_phase w Synced) ((calls_in_order w).first_sync after h).1 refl
queue_after w Gate after is h = no_less w after (in_phase w GateWritten) ((calls_in_order w).gate after h).1 refl
queue_after w SecondSync after is h = no_less w after (settling w) ((calls_in_order w).second_sync after h).1 refl
queue_after w (Answering terminal) after is h = let a = answers_only_due w terminal after h in no_less w after (answering w terminal a.command) a.is refl
queue_after w (Hear terminal) after is h = absurd (false≢true is)
queue_after w Fault after is h = no_less w after (failing w) (sym (when_some (may_fail w) (failing w) after h).1) refl
queue_after w (Cut kept) after is h = absurd (false≢true is)
queue_after w (Reopen kept) after is h = absurd (false≢true is)

-- the flusher's events alone
abbrev AllFlushers : List Event → Type 0
AllFlushers events = AllByRecursion (λ (e : Event). IsTrue (is_flushers e)) events

keep_flusher : (b : Bool) (e : Event) (events : List Event) → is_flushers e ≡ b → AllFlushers events → AllFlushers (cond b (e ∷ events) events)
keep_flusher true e events is h = (is, h)
keep_flusher false e events is h = h

flushers_only : (events : List Event) → AllFlushers (flushers_part events)
flushers_only [] = tt
flushers_only (e ∷ events) = keep_flusher (is_flushers e) e (flushers_part events) refl (flushers_only events)

-- a pull among few finds a batch
queued_first : (w : World) (e : Event) (events : List Event) → count_by is_pull (e ∷ events) ≤ length w.queue → e ≡ Pull → w.queue ≢ []
queued_first w e events few is none =
    let counts = count_cons is_pull e true (ap is_pull is) events in
    let empty : length w.queue ≡ 0 = ap length none in
    absurd (omega arith)

module _ (other : Event) (on : IsTrue (goes_on other)) (isnt : is_flushers other ≡ false) where
  -- what another did before an event of the flusher it might have done after it
  swapped : (e : Event) (w taken after : World) → Ordered w → IsTrue (is_flushers e) → (e ≡ Pull → w.queue ≢ []) → next w other ≡ Some taken → next taken e ≡ Some after
      → (before : World) × (next w e ≡ Some before) × (next before other ≡ Some after)
  swapped e w taken after order is some h g =
      let t = through other w taken order on isnt h in
      let m = mapped t.does (next w e) after (sym (t.passes e is some) ∙ g) in
      (m.0, m.1, t.still e m.0 is m.1 ∙ ap (λ (x : World). Some x) m.2)

  -- and before a list of them
  goes_after : (events : List Event) (w taken after : World) → Ordered w → AllFlushers events → count_by is_pull events ≤ length w.queue
      → next w other ≡ Some taken → goes events taken ≡ Some after → (before : World) × (goes events w ≡ Some before) × (next before other ≡ Some after)
  goes_after [] w taken after order are few h g = (w, refl, h ∙ g)
  goes_after (e ∷ events) w taken after order are few h g =
      let x = then_from (goes events) (next taken e) after g in
      let m = swapped e w taken x.0 order are.0 (queued_first w e events few) h x.1 in
      let counts = count_cons is_pull e (is_pull e) refl events in
      let left = queue_after w e m.0 are.0 m.1 in
      let rest = goes_after events m.0 x.0 after (ordered_next w e m.0 order m.1) are.1 (omega arith) m.2 x.2 in
      (rest.0, one e events w m.0 m.1 ∙ rest.1, rest.2)

  moved_after : (his theirs : List Event) (w taken after : World) → Ordered w → AllFlushers his → count_by is_pull his ≤ length w.queue
      → next w other ≡ Some taken → goes (his ++ theirs) taken ≡ Some after → goes (his ++ other ∷ theirs) w ≡ Some after
  moved_after his theirs w taken after order are few h g =
      let m = then_from (goes theirs) (goes his taken) after (sym (goes-append his theirs taken) ∙ g) in
      let d = goes_after his w taken m.0 order are few h m.1 in
      joined his (other ∷ theirs) w d.0 d.1 ∙ one other theirs d.0 m.0 d.2 ∙ m.2

  -- what the flusher can do alone it can do after it
  goes_before : (events : List Event) (w taken made : World) → Ordered w → AllFlushers events → next w other ≡ Some taken → goes events w ≡ Some made
      → (after : World) × (goes events taken ≡ Some after) × (next made other ≡ Some after)
  goes_before [] w taken made order are h g = (taken, refl, ap (λ (o : Option World). option_and_then (λ (x : World). next x other) o) (sym g) ∙ h)
  goes_before (e ∷ events) w taken made order are h g =
      let t = through other w taken order on isnt h in
      let x = then_from (goes events) (next w e) made g in
      let y = t.passes e are.0 (λ is. pulls_some w x.0 (ap (next w) (sym is) ∙ x.1)) ∙ ap (option_map t.does) x.1 in
      let rest = goes_before events x.0 (t.does x.0) made (ordered_next w e x.0 order x.1) are.1 (t.still e x.0 are.0 x.1) x.2 in
      (rest.0, one e events taken (t.does x.0) y ∙ rest.1, rest.2)

abbrev AllGoOn : List Event → Type 0
AllGoOn events = AllByRecursion (λ (e : Event). IsTrue (goes_on e)) events

-- one event more in front
comes_first : (e : Event) (events : List Event) (w after : World) (b : Bool) → is_flushers e ≡ b → Ordered w → IsTrue (goes_on e) → count_by is_pull (e ∷ events) ≤ length w.queue → goes (e ∷ events) w ≡ Some after
    → ((x : World) → Ordered x → count_by is_pull events ≤ length x.queue → goes events x ≡ Some after → goes (flushers_part events ++ others_part events) x ≡ Some after)
    → goes (cond b (e ∷ flushers_part events) (flushers_part events) ++ cond (not b) (e ∷ others_part events) (others_part events)) w ≡ Some after
comes_first e events w after true is order on few h rest =
    let t = then_from (goes events) (next w e) after h in
    let counts = count_cons is_pull e (is_pull e) refl events in
    let left = queue_after w e t.0 is t.1 in
    one e (flushers_part events ++ others_part events) w t.0 t.1 ∙ rest t.0 (ordered_next w e t.0 order t.1) (omega arith) t.2
comes_first e events w after false isnt order on few h rest =
    let t = then_from (goes events) (next w e) after h in
    let counts = count_cons is_pull e (is_pull e) refl events in
    let fewer = count_filter is_pull is_flushers events in
    let longer = (through e w t.0 order on isnt t.1).no_shorter in
    moved_after e on isnt (flushers_part events) (others_part events) w t.0 after order (flushers_only events) (omega arith) t.1
    (rest t.0 (ordered_next w e t.0 order t.1) (omega arith) t.2)

all_come_first : (events : List Event) (w after : World) → Ordered w → AllGoOn events → count_by is_pull events ≤ length w.queue → goes events w ≡ Some after
    → goes (flushers_part events ++ others_part events) w ≡ Some after
all_come_first [] w after order on few h = h
all_come_first (e ∷ events) w after order on few h =
    comes_first e events w after (is_flushers e) refl order on.0 few h (λ x o f g. all_come_first events x after o on.1 f g)

pub flusher_might_come_first : (w : World) → FlusherMightComeFirst w
flusher_might_come_first w events after order on few h = all_come_first events w after (ordered_from w order) on few h

some_from : (o : Option World) → IsSome o → (x : World) × (o ≡ Some x)
some_from None h = absurd (false≢true h)
some_from (Some x) h = (x, refl)

-- one event more among the others
goes_among : (e : Event) (events : List Event) (w made : World) (b : Bool) → is_flushers e ≡ b → Ordered w → goes (cond b (e ∷ flushers_part events) (flushers_part events)) w ≡ Some made
    → StandAmong w (e ∷ events) → ((x y : World) → Ordered x → goes (flushers_part events) x ≡ Some y → StandAmong x events → GoesAmong events x y) → GoesAmong (e ∷ events) w made
goes_among e events w made true is order g s rest =
    let t = then_from (goes (flushers_part events)) (next w e) made g in
    let r = rest t.0 made (ordered_next w e t.0 order t.1) t.2 (subst (λ (o : Option World). StandAmong (unwrap_or o w) events) t.1 s.1) in
    record {
      after = r.after;
      possible = one e events w t.0 t.1 ∙ r.possible;
      same = ap (λ (b : Bool). goes (cond (not b) (e ∷ others_part events) (others_part events)) made) is ∙ r.same;
    }
goes_among e events w made false isnt order g s rest =
    let p = s.0 isnt in
    let t = some_from (next w e) p.1 in
    let d = goes_before e p.0 isnt (flushers_part events) w t.0 made order (flushers_only events) t.1 g in
    let r = rest t.0 d.0 (ordered_next w e t.0 order t.1) d.1 (subst (λ (o : Option World). StandAmong (unwrap_or o w) events) t.1 s.1) in
    record {
      after = r.after;
      possible = one e events w t.0 t.1 ∙ r.possible;
      same = ap (λ (b : Bool). goes (cond (not b) (e ∷ others_part events) (others_part events)) made) isnt ∙ one e (others_part events) made d.0 d.2 ∙ r.same;
    }

all_go_among : (events : List Event) (w made : World) → Ordered w → goes (flushers_part events) w ≡ Some made → StandAmong w events → GoesAmong events w made
all_go_among [] w made order g s = record { after = w; possible = refl; same = sym g }
all_go_among (e ∷ events) w made order g s = goes_among e events w made (is_flushers e) refl order g s (λ x y o h k. all_go_among events x y o h k)

pub flusher_goes_among : (w : World) → FlusherGoesAmong w
flusher_goes_among w events made order g s = all_go_among events w made (ordered_from w order) g s
