-- What terminals do passes through what the controller does.
use Rattle.std.proofs.Common.{ℕ, zero, suc, ◌≡◌, ◌+◌, Bool, true, false, not, ◌&&◌, cond, eqb, List, [], ◌∷◌, ◌++◌, length, Option, Some, None, refl, sym, ap, subst, ◌∙◌, append_assoc}
use Rattle.std.specs.Prelude.{IsTrue, unwrap_or, filter, find, reverse, count_by, slice_get, nat_lt, option_map, option_and_then}
use Rattle.std.proofs.lemmas.Bool.{false≢true, and_parts, not-true}
use Rattle.std.proofs.lemmas.List.{append-nil, reverse-append}
use Rattle.std.proofs.lemmas.List.Elements.{filter-append}
use Rattle.std.proofs.lemmas.List.Sums.{length-filter}
use Rattle.lift_base.specs.declared.limits.TheConstants.{MOST_BATCHES}
use Rattle.lift_policy.specs.declared.command.Command.{Command}
use Rattle.lift_world.specs.declared.event.Answer.{Answer}
use Rattle.lift_world.specs.declared.event.Kept.{Kept}
use Rattle.lift_world.specs.declared.event.Kept.TheVariants.{Safe, WithBatch}
use Rattle.lift_world.specs.declared.event.Phase.TheVariants.{Writing, Synced, GateWritten}
use Rattle.lift_world.specs.declared.event.Power.{Power}
use Rattle.lift_world.specs.declared.event.Power.TheVariants.{Running, Broken, Off}
use Rattle.lift_world.specs.declared.event.Event.{Event}
use Rattle.lift_world.specs.declared.event.Event.TheVariants.{Ask, Take, Seal, Pull, Fold, Body as BodyWrite, FirstSync, Gate, SecondSync, Answer as Answering, Hear, Fault, Cut, Reopen}
use Rattle.lift_policy.specs.Decision.{Decision}
use Rattle.lift_world.specs.Decided.{when, decided}
use Rattle.lift_world.specs.World.{World, SealedBatch, is_running, is_broken, is_off, is_synced, is_gate_written, written, asks, is_taken_of, is_answer_to, state_of}
use Rattle.lift_world.specs.Next.{next, goes, asking, taking, deciding, sealing, pulled, in_phase, settling, failing, answering, hearing, next_answer, reopened, unanswered, may_ask, may_take, may_seal, may_pull, may_write, may_sync, may_fail, may_reopen}
use Rattle.lift_world.specs.Relay.{is_flushers}
use Rattle.lift_world.specs.Beside.{is_of_terminals, terminals_part, own_part, with_words, StandBeside, PassesThrough, TerminalsPass}
use Rattle.lift_world.specs.lemmas.Steps.{then_from, if_from, mapped}
use Rattle.lift_world.proofs.Possibilities.{when_some}
use Rattle.lift_world.proofs.Given.{led}
use Rattle.lift_world.specs.lemmas.Goes.{one}

-- the first that passes is the first of those that pass
first : {A : Type 0} → List A → Option A
first [] = None
first (x ∷ xs) = Some x

module _ {A : Type 0} (p : A → Bool) where
  first_by : (x : A) (b : Bool) (xs : List A) → find p xs ≡ first (filter p xs) → cond b (Some x) (find p xs) ≡ first (cond b (x ∷ filter p xs) (filter p xs))
  unfolding first
  first_by x true xs h = refl
  first_by x false xs h = h

  find_first : (xs : List A) → find p xs ≡ first (filter p xs)
  unfolding first
  find_first [] = refl
  find_first (x ∷ xs) = first_by x (p x) xs (find_first xs)

  reverse_one : (x : A) (b : Bool) → cond b (x ∷ []) [] ≡ reverse (cond b (x ∷ []) [])
  reverse_one x true = refl
  reverse_one x false = refl

  filter_reverse : (xs : List A) → filter p (reverse xs) ≡ reverse (filter p xs)
  filter_reverse [] = refl
  filter_reverse (x ∷ xs) =
      ap (filter p) (reverse-append (x ∷ []) xs) ∙ filter-append p (reverse xs) (x ∷ [])
      ∙ ap (λ (ys : List A). ys ++ filter p (x ∷ [])) (filter_reverse xs)
      ∙ ap (λ (ys : List A). reverse (filter p xs) ++ ys) (reverse_one x (p x))
      ∙ sym (reverse-append (filter p (x ∷ [])) (filter p xs)) ∙ ap reverse (sym (filter-append p (x ∷ []) xs))

  -- what passes says what the last one is, and how many there are
  pub same_last : (xs ys : List A) → filter p xs ≡ filter p ys → find p (reverse xs) ≡ find p (reverse ys)
  same_last xs ys e =
      find_first (reverse xs) ∙ ap first (filter_reverse xs ∙ ap reverse e ∙ sym (filter_reverse ys)) ∙ sym (find_first (reverse ys))

  same_count : (xs ys : List A) → filter p xs ≡ filter p ys → count_by p xs ≡ count_by p ys
  same_count xs ys e = sym (length-filter p xs) ∙ ap length e ∙ length-filter p ys

-- a function passes into each form
module _ (f : World → World) where
  pub lift_when : (b : Bool) (x : World) → when b (f x) ≡ option_map f (when b x)
  lift_when true x = refl
  lift_when false x = refl

  pub lift_then : (test : ℕ → Bool) (made : ℕ → World) (o : Option ℕ) → option_and_then (λ n. when (test n) (f (made n))) o ≡ option_map f (option_and_then (λ n. when (test n) (made n)) o)
  lift_then test made None = refl
  lift_then test made (Some n) = lift_when (test n) (made n)

  pub lift_if : {A : Type 0} (b : Bool) (made : A → World) (o : Option A) → cond b (option_map (λ (x : A). f (made x)) o) None ≡ option_map f (cond b (option_map made o) None)
  lift_if true made None = refl
  lift_if true made (Some x) = refl
  lift_if false made o = refl

  pub lift_pull : (broken more : Bool) (x y z : World) → cond broken (f x) (cond more (f y) (f z)) ≡ f (cond broken x (cond more y z))
  lift_pull true more x y z = refl
  lift_pull false true x y z = refl
  lift_pull false false x y z = refl

  pub lift_cond : (b : Bool) (o p : Option World) → o ≡ option_map f p → cond b o None ≡ option_map f (cond b p None)
  lift_cond true o p h = h
  lift_cond false o p h = refl

  lift_take : (b : Bool) (made : Command → Decision → World) (decides : Command → Option Decision) (o : Option Command)
      → cond b (option_and_then (λ c. option_map (λ (d : Decision). f (made c d)) (decides c)) o) None ≡ option_map f (cond b (option_and_then (λ c. option_map (made c) (decides c)) o) None)
  lift_take true made decides None = refl
  lift_take true made decides (Some c) = lift_if true (made c) (decides c)
  lift_take false made decides o = refl

-- What the controller does neither looks at the words of terminals nor changes them, save the asks of one that is looked at.
module _ (w : World) (asked : List Command) (heard : List Answer) where
  abbrev on_words : World → World
  on_words x = with_words x asked heard

  lift_pulled : (queue : List SealedBatch) → pulled (on_words w) queue ≡ option_map on_words (pulled w queue)
  lift_pulled [] = refl
  lift_pulled (batch ∷ rest) = ap (λ (x : World). Some x) (lift_pull on_words (is_broken w.power) (nat_lt w.safe batch.upto) _ _ _)

  lift_reopen : (kept : Kept) (p : Power) → when (may_reopen (on_words w) p kept) (reopened (on_words w) kept) ≡ option_map on_words (when (may_reopen w p kept) (reopened w kept))
  lift_reopen Safe Running = lift_when on_words (may_reopen w Running Safe) (reopened w Safe)
  lift_reopen Safe Broken = lift_when on_words (may_reopen w Broken Safe) (reopened w Safe)
  lift_reopen Safe (Off last) = lift_when on_words (may_reopen w (Off last) Safe) (reopened w Safe)
  lift_reopen WithBatch Running = lift_when on_words (may_reopen w Running WithBatch) (reopened w WithBatch)
  lift_reopen WithBatch Broken = lift_when on_words (may_reopen w Broken WithBatch) (reopened w WithBatch)
  lift_reopen WithBatch (Off last) = lift_when on_words (may_reopen w (Off last) WithBatch) (reopened w WithBatch)

  abbrev taking_from : ℕ → Option ℕ → ℕ → Option Command → Option World
  taking_from terminal letter count found =
      cond ((not (is_off w.power) && Rattle.std.specs.Prelude.nat_le (length w.queue) MOST_BATCHES) && (nat_lt (count_by (is_answer_to terminal) w.answered) count && not (Rattle.std.specs.List.list_any (is_taken_of terminal) (unanswered w))))
      (option_and_then (taking (on_words w) letter) found) None

  take_beside : (terminal : ℕ) (letter : Option ℕ) → filter (asks terminal) asked ≡ filter (asks terminal) w.asked → next (on_words w) (Take terminal letter) ≡ option_map on_words (next w (Take terminal letter))
  take_beside terminal letter same =
      ap (λ (n : ℕ). taking_from terminal letter n (find (asks terminal) (reverse asked))) (same_count (asks terminal) asked w.asked same)
      ∙ ap (taking_from terminal letter (count_by (asks terminal) w.asked)) (same_last (asks terminal) asked w.asked same)
      ∙ lift_take on_words (may_take w terminal) (deciding w) (λ (c : Command). decided w.building (state_of w) c.terminal c.number c.body letter) (find (asks terminal) (reverse w.asked))

  -- so the flusher's events are possible beside any words, and leave them
  pub passes_words : (event : Event) → IsTrue (is_flushers event) → next (on_words w) event ≡ option_map on_words (next w event)
  passes_words (Ask terminal number body) is = absurd (false≢true is)
  passes_words (Take terminal letter) is = absurd (false≢true is)
  passes_words Seal is = absurd (false≢true is)
  passes_words Pull is = lift_cond on_words (may_pull w) (pulled (on_words w) w.queue) (pulled w w.queue) (lift_pulled w.queue)
  passes_words Fold is = lift_then on_words (λ n. is_running w.power && eqb n 0) (λ n. w) (written w.phase)
  passes_words BodyWrite is = lift_then on_words (may_write w) (λ n. in_phase w (Writing (n + 1))) (written w.phase)
  passes_words FirstSync is = lift_then on_words (may_sync w) (λ n. in_phase w Synced) (written w.phase)
  passes_words Gate is = lift_when on_words (is_running w.power && is_synced w.phase) (in_phase w GateWritten)
  passes_words SecondSync is = lift_when on_words (is_running w.power && is_gate_written w.phase) (settling w)
  passes_words (Answering terminal) is = lift_if on_words (not (is_off w.power)) (answering w terminal) (find (is_taken_of terminal) w.due)
  passes_words (Hear terminal) is = absurd (false≢true is)
  passes_words Fault is = lift_when on_words (may_fail w) (failing w)
  passes_words (Cut kept) is = absurd (false≢true is)
  passes_words (Reopen kept) is = absurd (false≢true is)

-- power that is on stays on, and what was answered stays answered
abbrev pub Keeps : World → World → Type 0
Keeps w x = (is_off w.power ≡ false → is_off x.power ≡ false) × ((more : List Answer) × (x.answered ≡ w.answered ++ more))

pub keeps_words : (w : World) (event : Event) (after : World) → ((kept : Kept) → event ≡ Cut kept → ⊥) → next w event ≡ Some after → Keeps w after
keeps_words w event after no_cut h =
    let same : (more : List Answer) × (w.answered ≡ w.answered ++ more) = ([], sym (append-nil w.answered)) in
    led (Keeps w) w event after (record {
      stays = (λ p. p, same);
      asked = λ command on may is. (λ p. p, same);
      taken = λ terminal letter command d on may at made is_take. (λ p. p, same);
      sealed = λ on some is_seal. (λ p. p, same);
      fails = λ batch rest on at broken. (λ p. p, same);
      flies = λ batch rest on at idle more. (λ p. p, same);
      lands = λ batch rest on at idle none. (λ p. p, same);
      goes_on = λ phase on busy still. (λ p. p, same);
      settled = λ on gate. (λ p. p, same);
      answered = λ terminal c on at. (λ p. p, (Rattle.lift_world.specs.Next.answer_of c ∷ [], refl));
      heard = λ a on. (λ p. p, same);
      failed = λ on is. (λ p. refl, same);
      cut = λ kept is. absurd (no_cut kept is);
      reopened = λ kept may is_reopen. (λ p. refl, same);
    }) h

keeps_on : (w x y : World) → Keeps w x → Keeps x y → Keeps w y
keeps_on w x y a b =
    (λ p. b.0 (a.0 p), (a.1.0 ++ b.1.0, b.1.1 ∙ ap (λ (xs : List Answer). xs ++ b.1.0) a.1.1 ∙ append_assoc w.answered a.1.0 b.1.0))

get_more : {A : Type 0} (xs ys : List A) (n : ℕ) (x : A) → slice_get xs n ≡ Some x → slice_get (xs ++ ys) n ≡ Some x
get_more [] ys n x h = cc
get_more (z ∷ xs) ys zero x h = h
get_more (z ∷ xs) ys (suc n) x h = get_more xs ys n x h

-- What a terminal does is possible later too, and leaves the same words.
abbrev Later : World → World → List Command → List Answer → Event → World → Type 0
Later w made asked heard event x = (x ≡ with_words w x.asked x.heard) × (next (with_words made asked heard) event ≡ Some (with_words made x.asked x.heard))

module _ (w made : World) (asked : List Command) (heard : List Answer) (keeps : Keeps w made) where
  pub ask_later : (terminal number : ℕ) (body : Rattle.lift_base.specs.declared.command.Body.Body) (x : World) → next (with_words w asked heard) (Ask terminal number body) ≡ Some x
      → Later w made asked heard (Ask terminal number body) x
  ask_later terminal number body x h =
      let command : Command = record { terminal = terminal; number = number; body = body } in
      let s = when_some (may_ask (with_words w asked heard) terminal) (asking (with_words w asked heard) command) x h in
      let same : Bool = eqb (count_by (asks terminal) asked) (count_by (is_answer_to terminal) heard) in
      let both = and_parts (not (is_off w.power)) same s.0 in
      let later : World = asking (with_words made asked heard) command in
      subst (λ (y : World). Later w made asked heard (Ask terminal number body) y) s.1 (
        refl,
        ap (λ (b : Bool). when (not b && same) later) (keeps.0 (not-true (is_off w.power) both.0)) ∙ ap (λ (b : Bool). when b later) both.1,
      )

  pub hear_later : (terminal : ℕ) (x : World) → next (with_words w asked heard) (Hear terminal) ≡ Some x → Later w made asked heard (Hear terminal) x
  hear_later terminal x h =
      let p = is_answer_to terminal in
      let n : ℕ = count_by p heard in
      let powered = if_from (not (is_off w.power)) (option_map (hearing (with_words w asked heard)) (next_answer (with_words w asked heard) terminal)) x h in
      let a = mapped (hearing (with_words w asked heard)) (next_answer (with_words w asked heard) terminal) x powered.1 in
      let more = keeps.1 in
      let still : slice_get (filter p made.answered) n ≡ Some a.0 =
      ap (λ (xs : List Answer). slice_get (filter p xs) n) more.1 ∙ ap (λ (xs : List Answer). slice_get xs n) (filter-append p w.answered more.0)
      ∙ get_more (filter p w.answered) (filter p more.0) n a.0 a.1 in
      subst (λ (y : World). Later w made asked heard (Hear terminal) y) a.2 (
        refl,
        ap (λ (b : Bool). cond (not b) (option_map (hearing (with_words made asked heard)) (slice_get (filter p made.answered) n)) None) (keeps.0 (not-true (is_off w.power) powered.0))
            ∙ ap (option_map (hearing (with_words made asked heard))) still,
      )

pub record Passed (asked : List Command) (heard : List Answer) (events : List Event) (w made : World) : Type 0 where
  pub passes : PassesThrough asked heard events w made
  pub keeps : Keeps w made

module _ (made : World) (asked : List Command) (heard : List Answer) where
  nothing_passes : (w : World) → w ≡ made → Passed asked heard [] w made
  nothing_passes w e = record {
    passes = record {
      after = with_words w asked heard;
      possible = refl;
      same = ap (λ (x : World). Some (with_words x asked heard)) (sym e);
      only_words = ap (λ (x : World). with_words x asked heard) e;
    };
    keeps = subst (Keeps w) e (λ p. p, ([], sym (append-nil w.answered)));
  }

  -- an event of the controller
  own_passes : (e : Event) (events : List Event) (w : World) → is_of_terminals e ≡ false → ((kept : Kept) → e ≡ Cut kept → ⊥)
      → next (with_words w asked heard) e ≡ option_map (λ (x : World). with_words x asked heard) (next w e) → goes (own_part (e ∷ events)) w ≡ Some made
      → StandBeside (unwrap_or (next w e) w) asked heard events
      → ((x : World) → goes (own_part events) x ≡ Some made → StandBeside x asked heard events → Passed asked heard events x made) → Passed asked heard (e ∷ events) w made
  own_passes e events w is no_cut blind g s rest =
      let own : own_part (e ∷ events) ≡ e ∷ own_part events = ap (λ (b : Bool). cond (not b) (e ∷ own_part events) (own_part events)) is in
      let theirs : terminals_part (e ∷ events) ≡ terminals_part events = ap (λ (b : Bool). cond b (e ∷ terminals_part events) (terminals_part events)) is in
      let t = then_from (goes (own_part events)) (next w e) made (ap (λ (es : List Event). goes es w) (sym own) ∙ g) in
      let r = rest t.0 t.2 (subst (λ (o : Option World). StandBeside (unwrap_or o w) asked heard events) t.1 s) in
      record {
        passes = record {
          after = r.passes.after;
          possible = one e events (with_words w asked heard) (with_words t.0 asked heard) (blind ∙ ap (option_map (λ (x : World). with_words x asked heard)) t.1) ∙ r.passes.possible;
          same = ap (λ (es : List Event). goes es (with_words made asked heard)) theirs ∙ r.passes.same;
          only_words = r.passes.only_words;
        };
        keeps = keeps_on w t.0 made (keeps_words w e t.0 no_cut t.1) r.keeps;
      }

  -- an event of a terminal
  theirs_passes : (e : Event) (events : List Event) (w x : World) → is_of_terminals e ≡ true → next (with_words w asked heard) e ≡ Some x
      → (Keeps w made → Later w made asked heard e x) → Passed x.asked x.heard events w made → Passed asked heard (e ∷ events) w made
  theirs_passes e events w x is h later r =
      let theirs : terminals_part (e ∷ events) ≡ e ∷ terminals_part events = ap (λ (b : Bool). cond b (e ∷ terminals_part events) (terminals_part events)) is in
      let l = later r.keeps in
      record {
        passes = record {
          after = r.passes.after;
          possible = one e events (with_words w asked heard) x h ∙ ap (goes events) l.0 ∙ r.passes.possible;
          same = ap (λ (es : List Event). goes es (with_words made asked heard)) theirs
              ∙ one e (terminals_part events) (with_words made asked heard) (with_words made x.asked x.heard) l.1 ∙ r.passes.same;
          only_words = r.passes.only_words;
        };
        keeps = r.keeps;
      }

all_pass : (events : List Event) (w made : World) (asked : List Command) (heard : List Answer) → goes (own_part events) w ≡ Some made → StandBeside w asked heard events → Passed asked heard events w made
all_pass [] w made asked heard g s = nothing_passes made asked heard w (Rattle.lift_world.specs.lemmas.Decisions.some_is w made g)
all_pass (Ask terminal number body ∷ events) w made asked heard g s =
    theirs_passes made asked heard (Ask terminal number body) events w s.0 refl s.1 (λ k. ask_later w made asked heard k terminal number body s.0 s.1) (all_pass events w made s.0.asked s.0.heard g s.2)
all_pass (Hear terminal ∷ events) w made asked heard g s =
    theirs_passes made asked heard (Hear terminal) events w s.0 refl s.1 (λ k. hear_later w made asked heard k terminal s.0 s.1) (all_pass events w made s.0.asked s.0.heard g s.2)
all_pass (Take terminal letter ∷ events) w made asked heard g s =
    own_passes made asked heard (Take terminal letter) events w refl (λ kept is. cc) (take_beside w asked heard terminal letter s.0) g s.1 (λ x h k. all_pass events x made asked heard h k)
all_pass (Seal ∷ events) w made asked heard g s =
    own_passes made asked heard Seal events w refl (λ kept is. cc) (lift_when (on_words w asked heard) (may_seal w) (sealing w)) g s (λ x h k. all_pass events x made asked heard h k)
all_pass (Pull ∷ events) w made asked heard g s =
    own_passes made asked heard Pull events w refl (λ kept is. cc) (passes_words w asked heard Pull refl) g s (λ x h k. all_pass events x made asked heard h k)
all_pass (Fold ∷ events) w made asked heard g s =
    own_passes made asked heard Fold events w refl (λ kept is. cc) (passes_words w asked heard Fold refl) g s (λ x h k. all_pass events x made asked heard h k)
all_pass (BodyWrite ∷ events) w made asked heard g s =
    own_passes made asked heard BodyWrite events w refl (λ kept is. cc) (passes_words w asked heard BodyWrite refl) g s (λ x h k. all_pass events x made asked heard h k)
all_pass (FirstSync ∷ events) w made asked heard g s =
    own_passes made asked heard FirstSync events w refl (λ kept is. cc) (passes_words w asked heard FirstSync refl) g s (λ x h k. all_pass events x made asked heard h k)
all_pass (Gate ∷ events) w made asked heard g s =
    own_passes made asked heard Gate events w refl (λ kept is. cc) (passes_words w asked heard Gate refl) g s (λ x h k. all_pass events x made asked heard h k)
all_pass (SecondSync ∷ events) w made asked heard g s =
    own_passes made asked heard SecondSync events w refl (λ kept is. cc) (passes_words w asked heard SecondSync refl) g s (λ x h k. all_pass events x made asked heard h k)
all_pass (Answering terminal ∷ events) w made asked heard g s =
    own_passes made asked heard (Answering terminal) events w refl (λ kept is. cc) (passes_words w asked heard (Answering terminal) refl) g s (λ x h k. all_pass events x made asked heard h k)
all_pass (Fault ∷ events) w made asked heard g s =
    own_passes made asked heard Fault events w refl (λ kept is. cc) (passes_words w asked heard Fault refl) g s (λ x h k. all_pass events x made asked heard h k)
all_pass (Cut kept ∷ events) w made asked heard g s = absurd s
all_pass (Reopen kept ∷ events) w made asked heard g s =
    own_passes made asked heard (Reopen kept) events w refl (λ k is. cc) (lift_reopen w asked heard kept w.power) g s (λ x h k. all_pass events x made asked heard h k)

pub terminals_pass : (w : World) → TerminalsPass w
terminals_pass w asked heard events made g s = (all_pass events w made asked heard g s).passes
