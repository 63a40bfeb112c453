-- What the terminals hear.
use Rattle.std.proofs.Common.{ℕ, zero, suc, ◌≡◌, ◌+◌, Bool, true, false, not, ◌&&◌, cond, eqb, List}
use Rattle.std.proofs.Common.{[], ◌∷◌, ◌++◌, length, Some, refl, sym, ap, subst, ◌∙◌, append_assoc}
use Rattle.std.specs.Prelude.{unwrap_or, option_and_then, option_map, filter, slice_get, count_by}
use Rattle.std.specs.Prelude.{find, reverse}
use Rattle.std.proofs.lemmas.Bool.{eqb-true}
use Rattle.std.proofs.lemmas.List.Elements.{filter-append}
use Rattle.std.proofs.lemmas.List.Sums.{length-filter}
use Rattle.std.proofs.lemmas.List.{append-nil}
use Rattle.lift_building.specs.Plan.{Plan}
use Rattle.lift_register.specs.Register.{RegisterState}
use Rattle.lift_world.specs.declared.event.Event.{Event}
use Rattle.lift_world.specs.declared.event.Event.TheVariants.{Ask, Take, Seal, Pull, Fold}
use Rattle.lift_world.specs.declared.event.Event.TheVariants.{Body as BodyWrite, FirstSync, Gate}
use Rattle.lift_world.specs.declared.event.Event.TheVariants.{SecondSync, Answer as Answering, Hear}
use Rattle.lift_world.specs.declared.event.Event.TheVariants.{Fault, Cut, Reopen}
use Rattle.lift_world.specs.declared.event.Answer.{Answer}
use Rattle.lift_world.specs.declared.event.Taken.{Taken}
use Rattle.lift_world.specs.declared.event.Phase.TheVariants.{Writing, Synced, GateWritten}
use Rattle.lift_world.specs.Decided.{when, decided}
use Rattle.lift_world.specs.World.{World, SealedBatch, start, is_answer_to, is_taken_of, asks}
use Rattle.lift_world.specs.World.{written, is_running, is_broken, is_off, is_synced}
use Rattle.lift_world.specs.World.{is_gate_written, state_of, may_keep}
use Rattle.lift_world.specs.Next.{run, next, next_answer, hearing, answering, answer_of, asking}
use Rattle.lift_world.specs.Next.{taking, deciding, sealing, pulled, in_phase, settling, failing}
use Rattle.lift_world.specs.Next.{cutting, reopened, unknown_to, may_ask, may_take, may_seal}
use Rattle.lift_world.specs.Next.{may_pull, may_write, may_sync, may_fail, may_reopen}
use Rattle.lift_world.specs.Headline.{HearsInOrder}
use Rattle.lift_world.specs.lemmas.Moves.{hold_when, hold_if, hold_then, hold_map}

-- the element after a prefix
after_front : {A : Type 0} (xs ys : List A) (x : A) → slice_get (xs ++ ys) (length xs) ≡ Some x
    → (rest : List A) × (ys ≡ x ∷ rest)
after_front [] [] x h = cc
after_front [] (y ∷ ys) x h = let e : y ≡ x = cc in (ys, rw e refl)
after_front (z ∷ xs) ys x h = after_front xs ys x h

passes_by : {A : Type 0} (p : A → Bool) (y x : A) (b : Bool) (zs : List A) (n : ℕ) → p y ≡ b
    → ((m : ℕ) → slice_get zs m ≡ Some x → p x ≡ true) → slice_get (cond b (y ∷ zs) zs) n ≡ Some x
    → p x ≡ true
passes_by p y x true zs zero q rest h = let e : y ≡ x = cc in subst (λ z. p z ≡ true) e q
passes_by p y x true zs (suc n) q rest h = rest n h
passes_by p y x false zs n q rest h = rest n h

pub passes : {A : Type 0} (p : A → Bool) (xs : List A) (x : A) (n : ℕ)
    → slice_get (filter p xs) n ≡ Some x → p x ≡ true
passes p [] x n h = cc
passes p (y ∷ xs) x n h = passes_by p y x (p y) (filter p xs) n refl (λ m g. passes p xs x m g) h

hearing_keeps : (w : World) (terminal : ℕ) (a : Answer) → HearsInOrder w
    → next_answer w terminal ≡ Some a → HearsInOrder (hearing w a)
hearing_keeps w terminal a k at other = by_terminal (eqb a.terminal other) refl
  where
    by_terminal : (b : Bool) → eqb a.terminal other ≡ b
        → (rest : List Answer) × (filter (is_answer_to other) (w.heard ++ a ∷ []) ++ rest
        ≡ filter (is_answer_to other) w.answered)
    by_terminal false q =
        let old = k other in
        let same : filter (is_answer_to other) (w.heard ++ a ∷ [])
        ≡ filter (is_answer_to other) w.heard =
        filter-append (is_answer_to other) w.heard (a ∷ []) ∙ ap (λ (b : Bool).
        filter (is_answer_to other) w.heard ++ cond b (a ∷ []) []) q ∙ append-nil
        (filter (is_answer_to other) w.heard) in
        (old.0, ap (λ (xs : List Answer). xs ++ old.0) same ∙ old.1)
    by_terminal true q =
        let old = k other in
        let own : eqb a.terminal terminal ≡ true =
        passes (is_answer_to terminal) w.answered a
        (count_by (is_answer_to terminal) w.heard) at in
        let e : terminal ≡ other =
        sym (eqb-true a.terminal terminal own) ∙ eqb-true a.terminal other q in
        let here : slice_get (filter (is_answer_to other) w.answered)
        (count_by (is_answer_to other) w.heard) ≡ Some a =
        subst (λ (t : ℕ). slice_get (filter (is_answer_to t) w.answered)
        (count_by (is_answer_to t) w.heard) ≡ Some a) e at in
        let first : slice_get (filter (is_answer_to other) w.heard ++ old.0)
        (length (filter (is_answer_to other) w.heard)) ≡ Some a =
        ap (slice_get (filter (is_answer_to other) w.heard ++ old.0))
        (length-filter (is_answer_to other) w.heard)
        ∙ ap (λ (xs : List Answer).
        slice_get xs (count_by (is_answer_to other) w.heard)) old.1 ∙ here in
        let more = after_front (filter (is_answer_to other) w.heard) old.0 a first in
        let grown : filter (is_answer_to other) (w.heard ++ a ∷ [])
        ≡ filter (is_answer_to other) w.heard ++ a ∷ [] =
        filter-append (is_answer_to other) w.heard (a ∷ []) ∙ ap (λ (b : Bool).
        filter (is_answer_to other) w.heard ++ cond b (a ∷ []) []) q in (
          more.0,
          ap (λ (xs : List Answer).
              xs ++ more.0) grown ∙ append_assoc (filter (is_answer_to other) w.heard)
              (a ∷ []) more.0
              ∙ ap (λ (xs : List Answer).
              filter (is_answer_to other) w.heard ++ xs) (sym more.1) ∙ old.1,
        )

answering_hears : (w : World) (terminal : ℕ) (c : Taken) → HearsInOrder w
    → HearsInOrder (answering w terminal c)
answering_hears w terminal c k other =
    let old = k other in
    let new : Answer = answer_of c in (
      old.0 ++ filter (is_answer_to other) (new ∷ []),
      sym (append_assoc (filter (is_answer_to other) w.heard) old.0
          (filter (is_answer_to other) (new ∷ [])))
          ∙ ap (λ (xs : List Answer). xs ++ filter (is_answer_to other) (new ∷ [])) old.1 ∙ sym
          (filter-append (is_answer_to other) w.answered (new ∷ [])),
    )

pulling_hears : (w : World) (batch : SealedBatch) (rest : List SealedBatch) (broken more : Bool)
    → HearsInOrder w
    → HearsInOrder (cond broken (record w {
      queue = rest;
      due = w.due ++ Rattle.std.specs.Prelude.map unknown_to batch.commands;
    })
    (cond more (record w { queue = rest; flight = batch; phase = Writing 0 })
    (record w { queue = rest; due = w.due ++ batch.commands })))
pulling_hears w batch rest true more k = k
pulling_hears w batch rest false true k = k
pulling_hears w batch rest false false k = k

pulled_hears : (w : World) (queue : List SealedBatch) → HearsInOrder w
    → HearsInOrder (unwrap_or (pulled w queue) w)
pulled_hears w [] k = k
pulled_hears w (batch ∷ rest) k =
    pulling_hears w batch rest (is_broken w.power)
    (Rattle.std.specs.Prelude.nat_lt w.safe batch.upto) k

pub hears : (w : World) (event : Event) → HearsInOrder w → HearsInOrder (unwrap_or (next w event) w)
hears w (Ask terminal number body) k =
    hold_when HearsInOrder w
    (asking w (record { terminal = terminal; number = number; body = body })) (may_ask w terminal) k
    (λ _. k)
hears w (Take terminal letter) k =
    hold_if HearsInOrder w (option_and_then (taking w letter)
    (find (asks terminal) (reverse w.asked))) (may_take w terminal) k
    (λ _. hold_then HearsInOrder w (taking w letter) (find (asks terminal) (reverse w.asked)) k
    (λ command _.
    hold_map HearsInOrder w (deciding w command)
    (decided w.building (state_of w) command.terminal command.number command.body letter) k
    (λ d at. k)))
hears w Seal k = hold_when HearsInOrder w (sealing w) (may_seal w) k (λ _. k)
hears w Pull k = hold_if HearsInOrder w (pulled w w.queue) (may_pull w) k (λ _.
    pulled_hears w w.queue k)
hears w Fold k = hold_then HearsInOrder w (λ n.
    when (is_running w.power && eqb n 0) w) (written w.phase) k (λ n _.
    hold_when HearsInOrder w w (is_running w.power && eqb n 0) k (λ _. k))
hears w BodyWrite k = hold_then HearsInOrder w (λ n.
    when (may_write w n) (in_phase w (Writing (n + 1)))) (written w.phase) k (λ n _.
    hold_when HearsInOrder w (in_phase w (Writing (n + 1))) (may_write w n) k (λ _. k))
hears w FirstSync k = hold_then HearsInOrder w (λ n.
    when (may_sync w n) (in_phase w Synced)) (written w.phase) k (λ n _.
    hold_when HearsInOrder w (in_phase w Synced) (may_sync w n) k (λ _. k))
hears w Gate k = hold_when HearsInOrder w (in_phase w GateWritten)
    (is_running w.power && is_synced w.phase) k (λ _. k)
hears w SecondSync k = hold_when HearsInOrder w (settling w)
    (is_running w.power && is_gate_written w.phase) k (λ _. k)
hears w (Answering terminal) k =
    hold_if HearsInOrder w (option_map (answering w terminal) (find (is_taken_of terminal) w.due))
    (not (is_off w.power)) k
    (λ _. hold_map HearsInOrder w (answering w terminal) (find (is_taken_of terminal) w.due) k
    (λ c at. answering_hears w terminal c k))
hears w (Hear terminal) k =
    hold_if HearsInOrder w (option_map (hearing w) (next_answer w terminal))
    (not (is_off w.power)) k
    (λ _. hold_map HearsInOrder w (hearing w) (next_answer w terminal) k (λ a at.
    hearing_keeps w terminal a k at))
hears w Fault k = hold_when HearsInOrder w (failing w) (may_fail w) k (λ _. k)
hears w (Cut kept) k = hold_when HearsInOrder w (cutting w kept) (may_keep w kept) k (λ _ t.
    ([], refl))
hears w (Reopen kept) k =
    hold_when HearsInOrder w (reopened w kept) (may_reopen w w.power kept) k (λ _. k)

pub run_hears : (events : List Event) (w : World) → HearsInOrder w → HearsInOrder (run events w)
run_hears [] w k = k
run_hears (event ∷ events) w k = run_hears events (unwrap_or (next w event) w) (hears w event k)

pub start_hears : (building : Plan) (base : RegisterState) → HearsInOrder (start building base)
start_hears building base terminal = ([], refl)
