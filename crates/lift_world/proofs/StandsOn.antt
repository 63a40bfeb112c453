-- An ask stands as soon as it is made, and until it is taken.
use Rattle.std.proofs.Common.{ℕ, ◌≡◌, ◌≢◌, ◌+◌, ◌<◌, ◌≤◌, Bool, true, false, not, cond, eqb, List, [], ◌∷◌, ◌++◌, length, Some, refl, sym, ap, subst, ◌∙◌, arith}
use Rattle.std.specs.Prelude.{filter, find, reverse, count_by}
use Rattle.std.proofs.lemmas.Bool.{and_parts, not-true, eqb-true, eq-eqb, ne_eqb}
use Rattle.std.proofs.lemmas.List.{append-nil}
use Rattle.std.proofs.lemmas.List.Elements.{filter-append}
use Rattle.lift_policy.specs.declared.command.Command.{Command}
use Rattle.lift_world.specs.declared.event.Answer.{Answer}
use Rattle.lift_world.specs.declared.event.Kept.{Kept}
use Rattle.lift_world.specs.declared.event.Taken.{Taken}
use Rattle.lift_world.specs.declared.event.Event.{Event}
use Rattle.lift_world.specs.declared.event.Event.TheVariants.{Ask, Cut}
use Rattle.lift_world.specs.World.{World, SealedBatch, is_off, asks, is_answer_to, is_taken_of}
use Rattle.lift_world.specs.Next.{next, asking, deciding, sealing, in_phase, settling, failing, answering, answer_of, hearing, reopened, may_ask, unanswered}
use Rattle.lift_world.specs.Headline.{HearsInOrder}
use Rattle.lift_world.specs.Among.{StandsAsk, AsksStandAtOnce, AsksStandOn, LooksFindAsks, SealsAloneQueue}
use Rattle.lift_world.proofs.Possibilities.{when_some}
use Rattle.lift_world.specs.lemmas.Counted.{count_cons, count_both, heard_few, owed, owed_none, owed_parts, owed_others, in_queue, owed_to}
use Rattle.lift_world.proofs.Given.{led}
use Rattle.lift_world.specs.lemmas.Looks.{can_be_looked_at, may_be_taken}
use Rattle.lift_world.specs.lemmas.Ordered.{none_owed}
use Rattle.lift_world.proofs.Owing.{owes_on}
use Rattle.lift_world.proofs.Beside.{same_last}
use Rattle.lift_world.proofs.Standing.{finds_ask, count_other}

-- what an ask that is possible tells
pub record Asked (w : World) (command : Command) (after : World) : Type 0 where
  pub powered : is_off w.power ≡ false
  pub heard_all : count_by (asks command.terminal) w.asked ≡ count_by (is_answer_to command.terminal) w.heard
  pub is : asking w command ≡ after

asked_one : (w : World) (command : Command) (after : World) → next w (Ask command.terminal command.number command.body) ≡ Some after → Asked w command after
asked_one w command after h =
    let terminal : ℕ = command.terminal in
    let s = when_some (may_ask w terminal) (asking w command) after h in
    let both = and_parts (not (is_off w.power)) (eqb (count_by (asks terminal) w.asked) (count_by (is_answer_to terminal) w.heard)) s.0 in
    record { powered = not-true (is_off w.power) both.0; heard_all = eqb-true (count_by (asks terminal) w.asked) (count_by (is_answer_to terminal) w.heard) both.1; is = s.1 }

pub asks_stand_at_once : (w : World) → AsksStandAtOnce w
asks_stand_at_once w terminal number body after hears k h =
    let command : Command = record { terminal = terminal; number = number; body = body } in
    let a = asked_one w command after h in
    let heard_all = a.heard_all in
    let heard = heard_few w terminal hears in
    let answered = k.answered in
    let both = count_both (asks terminal) w.asked (command ∷ []) in
    let one = count_cons (asks terminal) command true (eq-eqb terminal terminal refl) [] in
    let none : count_by (asks terminal) [] ≡ 0 = refl in
    subst (λ (x : World). StandsAsk x terminal command) a.is
    (record { powered = a.powered; asks_more = omega arith; not_taken = none_owed terminal (unanswered w) (omega arith); asked_last = finds_ask w.asked command [] tt })

-- what a look reads of the words
record Words (terminal : ℕ) (command : Command) (x : World) : Type 0 where
  pub powered : is_off x.power ≡ false
  pub asks_more : count_by (is_answer_to terminal) x.answered < count_by (asks terminal) x.asked
  pub asked_last : find (asks terminal) (reverse x.asked) ≡ Some command

module _ (w : World) (terminal : ℕ) (command : Command) (hears : HearsInOrder w) (k : StandsAsk w terminal command) where
  nothing_owed : owed_to w terminal ≡ 0
  nothing_owed =
      let none = owed_none terminal (unanswered w) k.not_taken in
      let parts = owed_parts terminal w.due w.flight.commands (in_queue w.queue) w.taken in
      omega arith

  -- the terminal itself can't ask
  other_asks : (other : Command) → may_ask w other.terminal ≡ true → Words terminal command (asking w other)
  other_asks other may =
      let all = eqb-true (count_by (asks other.terminal) w.asked) (count_by (is_answer_to other.terminal) w.heard) (and_parts (not (is_off w.power)) _ may).1 in
      let waits = k.asks_more in
      let heard = heard_few w terminal hears in
      let apart : terminal ≢ other.terminal = λ e.
      let here : count_by (asks terminal) w.asked ≡ count_by (is_answer_to terminal) w.heard =
      subst (λ (t : ℕ). count_by (asks t) w.asked ≡ count_by (is_answer_to t) w.heard) (sym e) all in
      absurd (omega arith) in
      let counts = count_other terminal other w.asked apart in
      let same : filter (asks terminal) (w.asked ++ other ∷ []) ≡ filter (asks terminal) w.asked =
      filter-append (asks terminal) w.asked (other ∷ [])
      ∙ ap (λ (b : Bool). filter (asks terminal) w.asked ++ cond b (other ∷ []) []) (ne_eqb other.terminal terminal (λ e. apart (sym e))) ∙ append-nil (filter (asks terminal) w.asked) in
      record { powered = k.powered; asks_more = omega arith; asked_last = same_last (asks terminal) (w.asked ++ other ∷ []) w.asked same ∙ k.asked_last }

  -- nor is it answered, because nothing of it is due
  other_answered : (t : ℕ) (c : Taken) → find (is_taken_of t) w.due ≡ Some c → Words terminal command (answering w t c)
  other_answered t c at =
      let none = nothing_owed in
      let less = owed_others terminal t c w.due at in
      let both = count_both (is_answer_to terminal) w.answered (answer_of c ∷ []) in
      let same : count_by (is_answer_to terminal) (answer_of c ∷ []) ≡ owed terminal (c ∷ []) = refl in
      let waits = k.asks_more in
      record { powered = k.powered; asks_more = omega arith; asked_last = k.asked_last }

  keeps : (x : World) → is_off x.power ≡ false → x.asked ≡ w.asked → x.answered ≡ w.answered → Words terminal command x
  keeps x on asked answered = record {
    powered = on;
    asks_more =
        let a : count_by (asks terminal) x.asked ≡ count_by (asks terminal) w.asked = ap (λ (cs : List Command). count_by (asks terminal) cs) asked in
        let b : count_by (is_answer_to terminal) x.answered ≡ count_by (is_answer_to terminal) w.answered = ap (λ (xs : List Answer). count_by (is_answer_to terminal) xs) answered in
        let waits = k.asks_more in
        omega arith;
    asked_last = ap (λ (cs : List Command). find (asks terminal) (reverse cs)) asked ∙ k.asked_last;
  }

  words_stay : (event : Event) (after : World) → ((kept : Kept) → event ≢ Cut kept) → next w event ≡ Some after → Words terminal command after
  words_stay event after no_cut h = led (Words terminal command) w event after (record {
    stays = keeps w k.powered refl refl;
    asked = λ other on may is. other_asks other may;
    taken = λ t letter c d on may at made is. keeps (deciding w c d) on refl refl;
    sealed = λ on some is. keeps (sealing w) on refl refl;
    fails = λ batch rest on at broken. keeps _ on refl refl;
    flies = λ batch rest on at idle more. keeps _ k.powered refl refl;
    lands = λ batch rest on at idle none. keeps _ k.powered refl refl;
    goes_on = λ phase on busy still. keeps (in_phase w phase) on refl refl;
    settled = λ on gate. keeps (settling w) on refl refl;
    answered = λ t c on at. other_answered t c at;
    heard = λ a on. keeps (hearing w a) on refl refl;
    failed = λ on is. keeps (failing w) refl refl refl;
    cut = λ kept is. absurd (no_cut kept is);
    reopened = λ kept may is. keeps (reopened w kept) refl refl refl;
  }) h

pub asks_stand_on : (w : World) → AsksStandOn w
asks_stand_on w terminal command event after hears k no_take no_cut h =
    let none = nothing_owed w terminal command hears k in
    let owed_now = owes_on terminal 0 w (omega arith) event after (λ letter is. absurd (no_take letter is)) h in
    let parts = owed_parts terminal after.due after.flight.commands (in_queue after.queue) after.taken in
    let words = words_stay w terminal command hears k event after no_cut h in
    record { powered = words.powered; asks_more = words.asks_more; not_taken = none_owed terminal (unanswered after) (omega arith); asked_last = words.asked_last }

pub looks_find_asks : (w : World) (terminal : ℕ) (command : Command) → LooksFindAsks w terminal command
looks_find_asks w terminal command = record {
  stands = λ finds.
      let can = can_be_looked_at w terminal finds.0 in
      record { powered = can.powered; asks_more = can.asks_more; not_taken = can.not_taken; asked_last = finds.1 };
  few_queued = λ finds. (can_be_looked_at w terminal finds.0).few_queued;
  finds = λ k few. (may_be_taken w terminal (record { powered = k.powered; few_queued = few; asks_more = k.asks_more; not_taken = k.not_taken }), k.asked_last);
}

-- a queue without its first batch
shorter : (w : World) (batch : SealedBatch) (rest : List SealedBatch) → w.queue ≡ batch ∷ rest → length rest ≤ length w.queue
shorter w batch rest at = let l : length w.queue ≡ length rest + 1 = ap length at ∙ omega arith in omega arith

pub seals_alone_queue : (w : World) → SealsAloneQueue w
seals_alone_queue w event after no_seal h =
    let same : length w.queue ≤ length w.queue = omega arith in
    led (λ (x : World). length x.queue ≤ length w.queue) w event after (record {
      stays = same;
      asked = λ command on may is. same;
      taken = λ terminal letter command d on may at made is. same;
      sealed = λ on some is. absurd (no_seal is);
      fails = λ batch rest on at broken. shorter w batch rest at;
      flies = λ batch rest on at idle more. shorter w batch rest at;
      lands = λ batch rest on at idle none. shorter w batch rest at;
      goes_on = λ phase on busy still. same;
      settled = λ on gate. same;
      answered = λ terminal c on at. same;
      heard = λ a on. same;
      failed = λ on is. same;
      cut = λ kept is. omega arith;
      reopened = λ kept may is. omega arith;
    }) h
