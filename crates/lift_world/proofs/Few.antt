-- No more commands are on their way than there are terminals.
use Rattle.std.proofs.Common.{ℕ, zero, suc, ◌≡◌, ◌+◌, ◌<◌, ◌≤◌, Bool, true, false, not, cond, eqb, List, [], ◌∷◌, ◌++◌, length, All, refl, subst, inl, inr, arith}
use Rattle.std.specs.Prelude.{unwrap_or, count_by}
use Rattle.std.specs.List.{AllByRecursion}
use Rattle.std.proofs.lemmas.Bool.{eqb-true, eq-eqb, cases_lt}
use Rattle.std.proofs.lemmas.List.{length-append}
use Rattle.std.proofs.lemmas.List.Elements.{All-nil, All-cons}
use Rattle.lift_building.specs.Plan.{Plan}
use Rattle.lift_register.specs.Register.{RegisterState}
use Rattle.lift_base.specs.declared.limits.TheConstants.{MOST_ENTRIES, MOST_TERMINALS}
use Rattle.lift_policy.specs.declared.command.Command.{Command}
use Rattle.lift_world.specs.declared.event.Taken.{Taken}
use Rattle.lift_world.specs.declared.event.Event.{Event}
use Rattle.lift_world.specs.World.{World, SealedBatch, start, asks, is_taken_of}
use Rattle.lift_world.specs.Next.{run, next, others, unanswered}
use Rattle.lift_world.specs.Headline.{IsOfTerminal, HoldsFew}
use Rattle.lift_world.specs.lemmas.Counted.{count_cons, count_both, count_filter, owed, in_queue, asked_by, all_ask_one_by_one}
use Rattle.lift_world.specs.lemmas.Leads.{leads}

-- a terminal's commands, and the others
pub record Splits (n : ℕ) (cs rest : List Taken) : Type 0 where
  pub whole : length cs ≡ owed n cs + length rest
  pub none : owed n rest ≡ 0

splits_cons : (n : ℕ) (c : Taken) (b : Bool) (cs rest : List Taken) → eqb c.terminal n ≡ b → Splits n cs rest → Splits n (c ∷ cs) (cond (not b) (c ∷ rest) rest)
splits_cons n c true cs rest e k =
    let a = count_cons (is_taken_of n) c true e cs in
    record { whole = (let w = k.whole in omega arith); none = k.none }
splits_cons n c false cs rest e k =
    let a = count_cons (is_taken_of n) c false e cs in
    let b = count_cons (is_taken_of n) c false e rest in
    record { whole = (let w = k.whole in omega arith); none = (let z = k.none in omega arith) }

splits : (n : ℕ) (cs : List Taken) → Splits n cs (others n cs)
splits n [] = record { whole = refl; none = refl }
splits n (c ∷ cs) = splits_cons n c (eqb c.terminal n) cs (others n cs) refl (splits n cs)

-- at most one of each terminal, and none from some terminal on
pigeons : (n : ℕ) (cs : List Taken) → ((t : ℕ) → owed t cs ≤ 1) → ((t : ℕ) → n ≤ t → owed t cs ≤ 0) → length cs ≤ n
pigeons zero [] one none = omega arith
pigeons zero (c ∷ cs) one none =
    let here = none c.terminal (omega arith) in
    let a = count_cons (is_taken_of c.terminal) c true (eq-eqb c.terminal c.terminal refl) cs in
    absurd (omega arith)
pigeons (suc n) cs one none =
    let rest : List Taken = others n cs in
    let k : Splits n cs rest = splits n cs in
    let less : (t : ℕ) → owed t rest ≤ owed t cs = λ t. count_filter (is_taken_of t) (λ (c : Taken). not (is_taken_of n c)) cs in
    let few : length rest ≤ n =
    pigeons n rest (λ t. let l = less t in let o = one t in omega arith) (λ t le. elim (cases_lt n t) [
      | inl above ↦ (let l = less t in let o = none t (omega arith) in omega arith)
      | inr below ↦ (let same : n ≡ t = omega arith in subst (λ (x : ℕ). owed x rest ≤ 0) same (let z = k.none in omega arith))
    ]) in
    let w = k.whole in
    let o = one n in
    omega arith

-- no ask is of a terminal beyond
beyond : (terminal : ℕ) (w : World) (event : Event) → MOST_TERMINALS ≤ terminal → IsOfTerminal event → asked_by w terminal ≡ 0 → asked_by (unwrap_or (next w event) w) terminal ≡ 0
beyond terminal w event above of_terminal k =
    leads (λ (x : World). asked_by x terminal ≡ 0) w event (record {
      stays = k;
      asked = λ command on may is. asked_one command (eqb command.terminal terminal) refl (subst IsOfTerminal is of_terminal);
      taken = λ t letter command d on may at made is_take. k;
      sealed = λ on some is_seal. k;
      fails = λ batch rest on at broken. k;
      flies = λ batch rest on at idle more. k;
      lands = λ batch rest on at idle none. k;
      goes_on = λ phase on busy still. k;
      settled = λ on gate. k;
      answered = λ t c on at. k;
      heard = λ a on. k;
      failed = λ on is. k;
      cut = λ kept is_cut. refl;
      reopened = λ kept may is_reopen. k;
    })
  where
    asked_one : (command : Command) (b : Bool) → eqb command.terminal terminal ≡ b → command.terminal < MOST_TERMINALS → count_by (asks terminal) (w.asked ++ command ∷ []) ≡ 0
    asked_one command true e below = let same = eqb-true command.terminal terminal e in absurd (omega arith)
    asked_one command false e below =
        let both = count_both (asks terminal) w.asked (command ∷ []) in
        let none : count_by (asks terminal) (command ∷ []) ≡ 0 = count_cons (asks terminal) command false e [] in
        omega arith

run_beyond : (terminal : ℕ) (events : List Event) (w : World) → MOST_TERMINALS ≤ terminal → AllByRecursion IsOfTerminal events → asked_by w terminal ≡ 0 → asked_by (run events w) terminal ≡ 0
run_beyond terminal [] w above all k = k
run_beyond terminal (event ∷ events) w above all k = run_beyond terminal events (unwrap_or (next w event) w) above all.1 (beyond terminal w event above all.0 k)

queue_few : (queue : List SealedBatch) → length (in_queue queue) ≤ MOST_TERMINALS → All (λ (b : SealedBatch). length b.commands ≤ MOST_ENTRIES) queue
queue_few [] few = All-nil (λ (b : SealedBatch). length b.commands ≤ MOST_ENTRIES)
queue_few (b ∷ queue) few =
    let whole = length-append b.commands (in_queue queue) in
    All-cons (λ (x : SealedBatch). length x.commands ≤ MOST_ENTRIES) b queue (omega arith) (queue_few queue (omega arith))

pub holds_few : (building : Plan) (base : RegisterState) (events : List Event) → AllByRecursion IsOfTerminal events → HoldsFew (run events (start building base))
holds_few building base events all =
    let w : World = run events (start building base) in
    let few : length (unanswered w) ≤ MOST_TERMINALS =
    pigeons MOST_TERMINALS (unanswered w) (λ t. (all_ask_one_by_one building base events t).one_on_its_way) (λ t above.
    let k = (all_ask_one_by_one building base events t).answered in
    let none = run_beyond t events (start building base) above all refl in
    omega arith) in
    let a = length-append w.due w.flight.commands in
    let b = length-append (w.due ++ w.flight.commands) (in_queue w.queue) in
    let c = length-append (w.due ++ w.flight.commands ++ in_queue w.queue) w.taken in
    record {
      on_their_way = few;
      batches = All-cons (λ (x : SealedBatch). length x.commands ≤ MOST_ENTRIES) w.flight w.queue (omega arith) (queue_few w.queue (omega arith));
    }
