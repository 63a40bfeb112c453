-- What turns are made of: the calls of a batch, and answers.
use Rattle.std.proofs.Common.{ℕ, zero, suc, ◌≡◌, ◌≢◌, ◌+◌, ◌≤◌, Bool, true, false, not, ◌&&◌, cond, eqb, List, [], ◌∷◌, ◌++◌, length, map, replicate, Some, refl, sym, ap, ◌∙◌, arith, append_assoc}
use Rattle.std.specs.List.{AllByRecursion}
use Rattle.std.proofs.lemmas.Bool.{false≢true, eq-eqb, ne_eqb, lt-ltb}
use Rattle.lift_base.specs.declared.command.Reply.{Reply}
use Rattle.lift_policy.specs.Step.{State}
use Rattle.lift_policy.specs.declared.command.Command.{Command}
use Rattle.lift_world.specs.declared.event.Event.{Event}
use Rattle.lift_world.specs.declared.event.Event.TheVariants.{Fold, Body as BodyWrite, FirstSync, Gate, SecondSync, Answer as Answering, Fault}
use Rattle.lift_world.specs.declared.event.Taken.{Taken}
use Rattle.lift_world.specs.declared.event.Answer.{Answer}
use Rattle.lift_world.specs.declared.event.Phase.{Phase}
use Rattle.lift_world.specs.declared.event.Phase.TheVariants.{Idle, Writing, Synced, GateWritten}
use Rattle.lift_world.specs.declared.event.Power.{Power}
use Rattle.lift_world.specs.declared.event.Power.TheVariants.{Running, Broken, Off}
use Rattle.lift_world.specs.Decided.{when}
use Rattle.lift_world.specs.World.{World, SealedBatch, no_batch, is_running, batch_in_flight}
use Rattle.lift_world.specs.Next.{goes, next, in_phase, settling, unknown_to, failing, others, sectors_for_body}
use Rattle.lift_world.specs.Turns.{AreFound, IsAtRest, with_replies, answer_events, calls_to, MayFailIn}
use Rattle.lift_world.specs.Relay.{AreApart}
use Rattle.lift_world.specs.lemmas.Goes.{one}

may : {A : Type 0} (b c : Bool) (x : A) → b ≡ true → c ≡ true → when (b && c) x ≡ Some x
may b c x p q = ap (λ (y : Bool). when (y && c) x) p ∙ ap (λ (y : Bool). when y x) q

module _ (w : World) (on : is_running w.power ≡ true) where
  -- a checkpoint's calls change nothing
  pub folded : (folds : ℕ) (events : List Event) → goes (replicate folds Fold ++ events) (in_phase w (Writing 0)) ≡ goes events (in_phase w (Writing 0))
  folded zero events = refl
  folded (suc folds) events = one Fold (replicate folds Fold ++ events) (in_phase w (Writing 0)) (in_phase w (Writing 0)) (may (is_running w.power) true _ on refl) ∙ folded folds events

  -- this many writes, from some on
  wrote : (n m : ℕ) (events : List Event) → m + n ≤ sectors_for_body (length (batch_in_flight w)) + 1 → goes (replicate n BodyWrite ++ events) (in_phase w (Writing m)) ≡ goes events (in_phase w (Writing (m + n)))
  wrote zero m events le = ap (λ (k : ℕ). goes events (in_phase w (Writing k))) (omega arith)
  wrote (suc n) m events le =
      one BodyWrite (replicate n BodyWrite ++ events) (in_phase w (Writing m)) (in_phase w (Writing (m + 1))) (may (is_running w.power) _ _ on (lt-ltb m (sectors_for_body (length (batch_in_flight w)) + 1) (omega arith)))
      ∙ wrote n (m + 1) events (omega arith) ∙ ap (λ (k : ℕ). goes events (in_phase w (Writing k))) (omega arith)

  synced : (events : List Event) → goes (FirstSync ∷ events) (in_phase w (Writing (sectors_for_body (length (batch_in_flight w)) + 1))) ≡ goes events (in_phase w Synced)
  synced events = one FirstSync events (in_phase w (Writing (sectors_for_body (length (batch_in_flight w)) + 1))) (in_phase w Synced) (may (is_running w.power) _ _ on (eq-eqb (sectors_for_body (length (batch_in_flight w)) + 1) (sectors_for_body (length (batch_in_flight w)) + 1) refl))

  gate : (events : List Event) → goes (Gate ∷ events) (in_phase w Synced) ≡ goes events (in_phase w GateWritten)
  gate events = one Gate events (in_phase w Synced) (in_phase w GateWritten) (may (is_running w.power) true _ on refl)

  pub reached : (phase : Phase) (events : List Event) → MayFailIn (sectors_for_body (length (batch_in_flight w)) + 1) phase → goes (calls_to (sectors_for_body (length (batch_in_flight w)) + 1) phase ++ events) (in_phase w (Writing 0)) ≡ goes events (in_phase w phase)
  reached Idle events h = absurd h
  reached (Writing n) events h = let le : 0 + n ≤ sectors_for_body (length (batch_in_flight w)) + 1 = omega (arith, h) in wrote n 0 events le ∙ ap (λ (k : ℕ). goes events (in_phase w (Writing k))) (omega arith)
  reached Synced events h = absurd h
  reached GateWritten events h =
      ap (λ (es : List Event). goes es (in_phase w (Writing 0))) (append_assoc (replicate (sectors_for_body (length (batch_in_flight w)) + 1) BodyWrite) (FirstSync ∷ Gate ∷ []) events)
      ∙ wrote (sectors_for_body (length (batch_in_flight w)) + 1) 0 (FirstSync ∷ Gate ∷ events) (omega arith)
      ∙ ap (λ (k : ℕ). goes (FirstSync ∷ Gate ∷ events) (in_phase w (Writing k))) (omega arith) ∙ synced (Gate ∷ events) ∙ gate events

  pub made_safe : (events : List Event) → goes (SecondSync ∷ events) (in_phase w GateWritten) ≡ goes events (settling w)
  made_safe events = one SecondSync events (in_phase w GateWritten) (settling w) (may (is_running w.power) true _ on refl)

  pub fails : (phase : Phase) → MayFailIn (sectors_for_body (length (batch_in_flight w)) + 1) phase → next (in_phase w phase) Fault ≡ Some (failing (in_phase w phase))
  fails Idle h = absurd h
  fails (Writing n) h = may (is_running w.power) true _ on refl
  fails Synced h = absurd h
  fails GateWritten h = may (is_running w.power) true _ on refl

pub keep_one : {A : Type 0} (b : Bool) (x : A) (xs : List A) → b ≡ false → cond (not b) (x ∷ xs) xs ≡ x ∷ xs
keep_one false x xs e = refl
keep_one true x xs e = absurd (false≢true (sym e))

drop_one : {A : Type 0} (b : Bool) (x : A) (xs : List A) → b ≡ true → cond (not b) (x ∷ xs) xs ≡ xs
drop_one true x xs e = refl
drop_one false x xs e = absurd (false≢true e)

others-apart : (terminal : ℕ) (cs : List Taken) → AllByRecursion (λ (d : Taken). d.terminal ≢ terminal) cs → others terminal cs ≡ cs
others-apart terminal [] h = refl
others-apart terminal (c ∷ cs) h = keep_one (eqb c.terminal terminal) c (others terminal cs) (ne_eqb c.terminal terminal h.0) ∙ ap (λ (xs : List Taken). c ∷ xs) (others-apart terminal cs h.1)

pub others-first : (c : Taken) (cs : List Taken) → AllByRecursion (λ (d : Taken). d.terminal ≢ c.terminal) cs → others c.terminal (c ∷ cs) ≡ cs
others-first c cs h = drop_one (eqb c.terminal c.terminal) c (others c.terminal cs) (eq-eqb c.terminal c.terminal refl) ∙ others-apart c.terminal cs h

-- the world with these commands left to answer, and those answered
abbrev pub answering_on : World → List Taken → List Answer → List Taken → World
answering_on w left answered given = record w { due = left; answered = answered; given = given }

abbrev pub terminals_of : List Taken → List Event
terminals_of [] = []
terminals_of (c ∷ cs) = Answering c.terminal ∷ terminals_of cs

-- replies for as many commands
abbrev pub SameLength : List Command → List Reply → Type 0
SameLength [] [] = Unit {0}
SameLength (c ∷ commands) (reply ∷ replies) = SameLength commands replies
SameLength [] (reply ∷ replies) = ⊥
SameLength (c ∷ commands) [] = ⊥

pub answers_of : (commands : List Command) (replies : List Reply) → SameLength commands replies → answer_events commands ≡ terminals_of (with_replies commands replies)
answers_of [] [] h = refl
answers_of [] (reply ∷ replies) h = absurd h
answers_of (c ∷ commands) [] h = absurd h
answers_of (c ∷ commands) (reply ∷ replies) h = ap (λ (es : List Event). Answering c.terminal ∷ es) (answers_of commands replies h)

pub unknown_terminals : (cs : List Taken) → terminals_of (map unknown_to cs) ≡ terminals_of cs
unknown_terminals [] = refl
unknown_terminals (c ∷ cs) = ap (λ (es : List Event). Answering c.terminal ∷ es) (unknown_terminals cs)

apart_with : (terminal : ℕ) (commands : List Command) (replies : List Reply) → AllByRecursion (λ (d : Command). d.terminal ≢ terminal) commands → AllByRecursion (λ (d : Taken). d.terminal ≢ terminal) (with_replies commands replies)
apart_with terminal [] replies h = tt
apart_with terminal (c ∷ commands) [] h = tt
apart_with terminal (c ∷ commands) (reply ∷ replies) h = (h.0, apart_with terminal commands replies h.1)

pub all_apart : (w : World) (commands : List Command) (replies : List Reply) → AreFound w commands → AreApart (with_replies commands replies)
all_apart w [] replies h = tt
all_apart w (c ∷ commands) [] h = tt
all_apart w (c ∷ commands) (reply ∷ replies) h = (apart_with c.terminal commands replies h.1, all_apart w commands replies h.2)

unknown_with : (terminal : ℕ) (cs : List Taken) → AllByRecursion (λ (d : Taken). d.terminal ≢ terminal) cs → AllByRecursion (λ (d : Taken). d.terminal ≢ terminal) (map unknown_to cs)
unknown_with terminal [] h = tt
unknown_with terminal (c ∷ cs) h = (h.0, unknown_with terminal cs h.1)

pub unknown_apart : (cs : List Taken) → AreApart cs → AreApart (map unknown_to cs)
unknown_apart [] h = tt
unknown_apart (c ∷ cs) h = (unknown_with c.terminal cs h.0, unknown_apart cs h.1)

pub same_length : (building : Rattle.lift_building.specs.Plan.Plan) (s next : State) (commands : List Command) (replies : List Reply) → Rattle.lift_policy.specs.Run.Run building Rattle.lift_policy.specs.Eligible.any_eligible s commands replies next → SameLength commands replies
same_length building s next [] [] r = tt
same_length building s next [] (reply ∷ replies) r = absurd r
same_length building s next (c ∷ commands) [] r = absurd r
same_length building s next (c ∷ commands) (reply ∷ replies) r = same_length building r.0 next commands replies r.2

-- a world at rest, with what that means put in
abbrev pub at_rest : World → World
at_rest w = record w { safe = length w.accepted; sealed = length w.accepted; flight = no_batch; phase = Idle; queue = []; power = Running; taken = []; due = [] }

pub runs : (p : Power) → is_running p ≡ true → p ≡ Running
runs Running h = refl
runs Broken h = absurd (false≢true h)
runs (Off kept) h = absurd (false≢true h)

pub is_at_rest : (w : World) → IsAtRest w → at_rest w ≡ w
is_at_rest w k =
    ap (λ (n : ℕ). record (at_rest w) { safe = n }) (sym k.all_safe) ∙ ap (λ (n : ℕ). record (at_rest w) { safe = w.safe; sealed = n }) (sym k.all_sealed)
    ∙ ap (λ (b : SealedBatch). record (at_rest w) { safe = w.safe; sealed = w.sealed; flight = b }) (sym k.nothing_flies)
    ∙ ap (λ (p : Phase). record w { phase = p; queue = []; power = Running; taken = []; due = [] }) (sym k.idle)
    ∙ ap (λ (q : List SealedBatch). record w { queue = q; power = Running; taken = []; due = [] }) (sym k.nothing_queued)
    ∙ ap (λ (p : Power). record w { power = p; taken = []; due = [] }) (sym (runs w.power k.running))
    ∙ ap (λ (xs : List Taken). record w { taken = xs; due = [] }) (sym k.nothing_taken) ∙ ap (λ (xs : List Taken). record w { due = xs }) (sym k.nothing_due)
