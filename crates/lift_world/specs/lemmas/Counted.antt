-- How many asks, answers and commands on their way a terminal has.
use Rattle.std.proofs.Common.{ℕ, ◌≡◌, ◌≢◌, ◌+◌, ◌≤◌, Bool, true, false, not, cond, eqb, List, []}
use Rattle.std.proofs.Common.{◌∷◌, ◌++◌, length, map, Some, refl, sym, ap, subst, ◌∙◌, arith}
use Rattle.std.specs.Prelude.{unwrap_or, filter, find, count_by, reverse}
use Rattle.std.specs.List.{AllByRecursion, flat_map}
use Rattle.std.proofs.lemmas.Bool.{and_parts, eqb-true, ne_eqb}
use Rattle.std.proofs.lemmas.List.{length-append}
use Rattle.std.proofs.lemmas.List.Concat.{flat_map-append}
use Rattle.std.proofs.lemmas.List.Sums.{length-filter, sum_by-append, sum_by-cons}
use Rattle.lift_building.specs.Plan.{Plan}
use Rattle.lift_register.specs.Register.{RegisterState}
use Rattle.lift_policy.specs.declared.command.Command.{Command}
use Rattle.lift_world.specs.declared.event.Taken.{Taken}
use Rattle.lift_world.specs.declared.event.Event.{Event}
use Rattle.lift_world.specs.World.{World, SealedBatch, start, is_off, asks, is_taken_of}
use Rattle.lift_world.specs.World.{is_answer_to}
use Rattle.lift_world.specs.Next.{run, next, others, unanswered, unknown_to, answering, answer_of}
use Rattle.lift_world.specs.Next.{may_take, deciding}
use Rattle.lift_policy.specs.Decision.{Decision}
use Rattle.lift_world.specs.Headline.{HearsInOrder, AllAskOneByOne}
use Rattle.lift_world.specs.lemmas.Decisions.{some_is}
use Rattle.lift_world.specs.lemmas.Entries.{find_held}
use Rattle.lift_world.specs.lemmas.Heard.{run_hears, start_hears}
use Rattle.lift_world.specs.lemmas.Leads.{leads}
use Rattle.lift_world.specs.lemmas.Looks.{can_be_looked_at}

module _ {A : Type 0} (p : A → Bool) where
  abbrev one_if : A → ℕ
  one_if x = cond (p x) 1 0

  pub count_cons : (x : A) (b : Bool) → p x ≡ b → (xs : List A)
      → count_by p (x ∷ xs) ≡ cond b 1 0 + count_by p xs
  count_cons x b e xs = sum_by-cons one_if x xs ∙ ap (λ (c : Bool). cond c 1 0 + count_by p xs) e

  pub count_both : (xs ys : List A) → count_by p (xs ++ ys) ≡ count_by p xs + count_by p ys
  count_both xs ys = sum_by-append one_if xs ys

  -- a filter drops some
  count_kept : (q : A → Bool) (x : A) (b : Bool) (xs ys : List A) → count_by p ys ≤ count_by p xs
      → count_by p (cond b (x ∷ ys) ys) ≤ count_by p (x ∷ xs)
  count_kept q x true xs ys le = let a = count_cons x (p x) refl xs in let b =
      count_cons x (p x) refl ys in omega arith
  count_kept q x false xs ys le = let a = count_cons x (p x) refl xs in omega arith

  pub count_filter : (q : A → Bool) (xs : List A) → count_by p (filter q xs) ≤ count_by p xs
  count_filter q [] = omega arith
  count_filter q (x ∷ xs) = count_kept q x (q x) xs (filter q xs) (count_filter q xs)

module _ (terminal : ℕ) where
  abbrev pub owed : List Taken → ℕ
  owed cs = count_by (is_taken_of terminal) cs

  pub owed_unknown : (cs : List Taken) → owed (map unknown_to cs) ≡ owed cs
  owed_unknown [] = refl
  owed_unknown (c ∷ cs) =
      let a = count_cons (is_taken_of terminal) c (eqb c.terminal terminal) refl cs in
      let b = count_cons (is_taken_of terminal) (unknown_to c) (eqb c.terminal terminal) refl
      (map unknown_to cs) in
      b ∙ ap (λ (n : ℕ). cond (eqb c.terminal terminal) 1 0 + n) (owed_unknown cs) ∙ sym a

  pub owed_none : (cs : List Taken) → AllByRecursion (λ (c : Taken). c.terminal ≢ terminal) cs
      → owed cs ≡ 0
  owed_none [] h = refl
  owed_none (c ∷ cs) h =
      let a = count_cons (is_taken_of terminal) c false (ne_eqb c.terminal terminal h.0) cs in
      let r = owed_none cs h.1 in
      omega arith

  -- the four lists of those on their way
  pub owed_parts : (due flying queued taken : List Taken)
      → owed (due ++ flying ++ queued ++ taken)
      ≡ owed due + (owed flying + (owed queued + owed taken))
  owed_parts due flying queued taken =
      let a = count_both (is_taken_of terminal) due flying in
      let b = count_both (is_taken_of terminal) (due ++ flying) queued in
      let c = count_both (is_taken_of terminal) (due ++ flying ++ queued) taken in
      omega arith

  -- an answer drops what it answers
  owed_drop : (other : ℕ) (c x : Taken) (b : Bool) (xs : List Taken) → is_taken_of other x ≡ b
      → (find (is_taken_of other) xs ≡ Some c → owed (others other xs) + owed (c ∷ []) ≤ owed xs)
      → cond b (Some x) (find (is_taken_of other) xs) ≡ Some c
      → owed (cond (not b) (x ∷ others other xs) (others other xs)) + owed (c ∷ []) ≤ owed (x ∷ xs)
  owed_drop other c x true xs e rest h =
      let same : owed (x ∷ []) ≡ owed (c ∷ []) =
      ap (λ (y : Taken). owed (y ∷ [])) (some_is x c h) in
      let less = count_filter (is_taken_of terminal) (λ (y : Taken).
      not (is_taken_of other y)) xs in
      let a = count_cons (is_taken_of terminal) x (eqb x.terminal terminal) refl xs in
      let b = count_cons (is_taken_of terminal) x (eqb x.terminal terminal) refl [] in
      let none : owed [] ≡ 0 = refl in
      omega arith
  owed_drop other c x false xs e rest h =
      let r = rest h in
      let a = count_cons (is_taken_of terminal) x (eqb x.terminal terminal) refl xs in
      let b = count_cons (is_taken_of terminal) x (eqb x.terminal terminal) refl
      (others other xs) in
      omega arith

  pub owed_others : (other : ℕ) (c : Taken) (xs : List Taken) → find (is_taken_of other) xs ≡ Some c
      → owed (others other xs) + owed (c ∷ []) ≤ owed xs
  owed_others other c [] h = cc
  owed_others other c (x ∷ xs) h =
      owed_drop other c x (is_taken_of other x) xs refl (λ g. owed_others other c xs g) h

abbrev pub in_queue : List SealedBatch → List Taken
in_queue queue = flat_map (λ (b : SealedBatch). b.commands) queue

-- what a terminal was answered and is owed, it asked; and it asked at most one more than it heard
abbrev pub asked_by : World → ℕ → ℕ
asked_by w terminal = count_by (asks terminal) w.asked

abbrev heard_by : World → ℕ → ℕ
heard_by w terminal = count_by (is_answer_to terminal) w.heard

abbrev pub answered_by : World → ℕ → ℕ
answered_by w terminal = count_by (is_answer_to terminal) w.answered

abbrev pub owed_to : World → ℕ → ℕ
owed_to w terminal = owed terminal w.due
    + (owed terminal w.flight.commands + (owed terminal (in_queue w.queue) + owed terminal w.taken))

pub record Balances (w : World) (terminal : ℕ) : Type 0 where
  pub answers : answered_by w terminal + owed_to w terminal ≤ asked_by w terminal
  pub hears : asked_by w terminal ≤ heard_by w terminal + 1

module _ (w : World) (terminal : ℕ) (k : Balances w terminal) where
  asked_more : (c : Command) (b : Bool) → eqb c.terminal terminal ≡ b
      → asked_by w c.terminal ≡ heard_by w c.terminal
      → Balances (record w { asked = w.asked ++ c ∷ [] }) terminal
  asked_more c true e same =
      let both = count_both (asks terminal) w.asked (c ∷ []) in
      let one : count_by (asks terminal) (c ∷ []) ≡ 1 = count_cons (asks terminal) c true e [] in
      let here : asked_by w terminal ≡ heard_by w terminal =
      subst (λ (t : ℕ). asked_by w t ≡ heard_by w t) (eqb-true c.terminal terminal e) same in
      record { answers = (let a = k.answers in omega arith); hears = omega arith }
  asked_more c false e same =
      let both = count_both (asks terminal) w.asked (c ∷ []) in
      let none : count_by (asks terminal) (c ∷ []) ≡ 0 = count_cons (asks terminal) c false e [] in
      record {
        answers = (let a = k.answers in omega arith);
        hears = (let h = k.hears in omega arith);
      }

  took : (t : ℕ) (command : Command) (d : Decision) (b : Bool) → eqb command.terminal terminal ≡ b
      → command.terminal ≡ t → may_take w t ≡ true → Balances (deciding w command d) terminal
  took t command d true e own may =
      let new : Taken = record {
        terminal = command.terminal;
        number = command.number;
        body = command.body;
        reply = d.reply;
      } in
      let here : t ≡ terminal = sym own ∙ eqb-true command.terminal terminal e in
      let look = can_be_looked_at w terminal (subst (λ (x : ℕ). may_take w x ≡ true) here may) in
      let none = owed_none terminal (unanswered w) look.not_taken in
      let parts = owed_parts terminal w.due w.flight.commands (in_queue w.queue) w.taken in
      let both = count_both (is_taken_of terminal) w.taken (new ∷ []) in
      let one : owed terminal (new ∷ []) ≡ 1 = count_cons (is_taken_of terminal) new true e [] in
      let more = look.asks_more in
      record { answers = omega arith; hears = k.hears }
  took t command d false e own may =
      let new : Taken = record {
        terminal = command.terminal;
        number = command.number;
        body = command.body;
        reply = d.reply;
      } in
      let both = count_both (is_taken_of terminal) w.taken (new ∷ []) in
      let zero_more : owed terminal (new ∷ []) ≡ 0 =
      count_cons (is_taken_of terminal) new false e [] in
      record { answers = (let a = k.answers in omega arith); hears = k.hears }

  -- whatever is owed no more than before
  owes : (x : World) → x.asked ≡ w.asked → x.heard ≡ w.heard → x.answered ≡ w.answered
      → owed_to x terminal ≤ owed_to w terminal → Balances x terminal
  owes x asked heard answered le =
      let a : asked_by x terminal ≡ asked_by w terminal = ap (count_by (asks terminal)) asked in
      let h : heard_by x terminal ≡ heard_by w terminal =
      ap (count_by (is_answer_to terminal)) heard in
      let s : answered_by x terminal ≡ answered_by w terminal =
      ap (count_by (is_answer_to terminal)) answered in
      record {
        answers = (let b = k.answers in omega arith);
        hears = (let b = k.hears in omega arith);
      }

  queue_is : (batch : SealedBatch) (rest : List SealedBatch) → w.queue ≡ batch ∷ rest
      → owed terminal (in_queue w.queue)
      ≡ owed terminal batch.commands + owed terminal (in_queue rest)
  queue_is batch rest at =
      ap (λ (q : List SealedBatch). owed terminal (in_queue q)) at ∙ count_both
      (is_taken_of terminal) batch.commands (in_queue rest)

  answered_one : (t : ℕ) (c : Taken) → find (is_taken_of t) w.due ≡ Some c
      → Balances (answering w t c) terminal
  answered_one t c at =
      let both = count_both (is_answer_to terminal) w.answered (answer_of c ∷ []) in
      let less = owed_others terminal t c w.due at in
      let same : count_by (is_answer_to terminal) (answer_of c ∷ []) ≡ owed terminal (c ∷ []) =
      refl in
      record { answers = (let a = k.answers in omega arith); hears = k.hears }

pub balances : (terminal : ℕ) (w : World) (event : Event) → Balances w terminal
    → Balances (unwrap_or (next w event) w) terminal
balances terminal w event k =
    let zero_more : owed terminal [] ≡ 0 = refl in
    leads (λ (x : World). Balances x terminal) w event (record {
      stays = k;
      asked = λ command on may is.
          asked_more w terminal k command (eqb command.terminal terminal) refl
          (eqb-true _ _ (and_parts (not (is_off w.power)) _ may).1);
      taken = λ t letter command d on may at made is_take.
          took w terminal k t command d (eqb command.terminal terminal) refl
          (eqb-true command.terminal t (find_held (asks t) (reverse w.asked) command at).1) may;
      sealed = λ on some is_seal.
          let b : SealedBatch = record { commands = w.taken; upto = length w.accepted } in
          let q : owed terminal (in_queue (w.queue ++ b ∷ []))
          ≡ owed terminal (in_queue w.queue) + owed terminal (in_queue (b ∷ [])) =
          ap (owed terminal) (flat_map-append (λ (x : SealedBatch). x.commands) w.queue (b ∷ [])) ∙
          count_both (is_taken_of terminal) (in_queue w.queue) (in_queue (b ∷ [])) in
          let one = count_both (is_taken_of terminal) w.taken [] in
          owes w terminal k _ refl refl refl (omega arith);
      fails = λ batch rest on at broken.
          let q = queue_is w terminal k batch rest at in
          let d = count_both (is_taken_of terminal) w.due (map unknown_to batch.commands) in
          let u = owed_unknown terminal batch.commands in
          owes w terminal k _ refl refl refl (omega arith);
      flies = λ batch rest on at idle more. let q = queue_is w terminal k batch rest at in
          owes w terminal k _ refl refl refl (omega arith);
      lands = λ batch rest on at idle none.
          let q = queue_is w terminal k batch rest at in
          let d = count_both (is_taken_of terminal) w.due batch.commands in
          owes w terminal k _ refl refl refl (omega arith);
      goes_on = λ phase on busy still. owes w terminal k _ refl refl refl (omega arith);
      settled = λ on gate. let d = count_both (is_taken_of terminal) w.due w.flight.commands in
          owes w terminal k _ refl refl refl (omega arith);
      answered = λ t c on at. answered_one w terminal k t c at;
      heard = λ a on. let more = count_both (is_answer_to terminal) w.heard (a ∷ []) in
          record { answers = k.answers; hears = (let h = k.hears in omega arith) };
      failed = λ on is.
          let d = count_both (is_taken_of terminal) w.due (map unknown_to w.flight.commands) in
          let u = owed_unknown terminal w.flight.commands in
          owes w terminal k _ refl refl refl (omega arith);
      cut = λ kept is_cut. record { answers = omega arith; hears = omega arith };
      reopened = λ kept may is_reopen.
          let d = count_both (is_taken_of terminal) w.due (map unknown_to w.taken) in
          let u = owed_unknown terminal w.taken in
          owes w terminal k _ refl refl refl (omega arith);
    })

run_balances : (terminal : ℕ) (events : List Event) (w : World) → Balances w terminal
    → Balances (run events w) terminal
run_balances terminal [] w k = k
run_balances terminal (event ∷ events) w k =
    run_balances terminal events (unwrap_or (next w event) w) (balances terminal w event k)

-- what was heard was answered
pub heard_few : (w : World) (terminal : ℕ) → HearsInOrder w
    → heard_by w terminal ≤ answered_by w terminal
heard_few w terminal k =
    let rest = k terminal in
    let a = length-filter (is_answer_to terminal) w.heard in
    let b = length-filter (is_answer_to terminal) w.answered in
    let l = length-append (filter (is_answer_to terminal) w.heard) rest.0 in
    let whole : length (filter (is_answer_to terminal) w.heard ++ rest.0)
    ≡ length (filter (is_answer_to terminal) w.answered) = ap length rest.1 in
    omega arith

pub all_ask_one_by_one : (building : Plan) (base : RegisterState) (events : List Event)
    → AllAskOneByOne (run events (start building base))
all_ask_one_by_one building base events terminal =
    let w : World = run events (start building base) in
    let k : Balances w terminal =
    run_balances terminal events (start building base) (record {
      answers = omega arith;
      hears = omega arith;
    }) in
    let parts = owed_parts terminal w.due w.flight.commands (in_queue w.queue) w.taken in
    let few = heard_few w terminal (run_hears events (start building base) (start_hears building base)) in
    let a = k.answers in
    let h = k.hears in
    record { answered = omega arith; one_on_its_way = omega arith; asked = h }
