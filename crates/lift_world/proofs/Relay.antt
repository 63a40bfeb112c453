-- The turns of an allocator and of a flusher are lists of events.
use Rattle.std.proofs.Common.{ℕ, zero, suc, ◌≡◌, ◌≢◌, ◌+◌, ◌-◌, ◌<◌, ◌≤◌, Bool, true, false, not, cond, eqb, List, [], ◌∷◌, ◌++◌, length, map, take, drop, replicate, Option, Some, None, refl, sym, ap, subst, ◌∙◌, arith, append_assoc}
use Rattle.std.specs.Prelude.{find, option_map}
use Rattle.std.specs.List.{AllByRecursion, flat_map}
use Rattle.std.proofs.Math.Seq.{take-length}
use Rattle.std.proofs.lemmas.Bool.{eq-eqb, ne_eqb, lt-ltb, le-ltb}
use Rattle.std.proofs.lemmas.List.{append-nil, length-drop, length-take-le}
use Rattle.lift_base.specs.declared.history.Entry.{Entry}
use Rattle.lift_base.specs.declared.command.Reply.{Reply}
use Rattle.lift_policy.specs.Step.{State}
use Rattle.lift_policy.specs.declared.command.Command.{Command}
use Rattle.lift_world.specs.declared.event.Event.{Event}
use Rattle.lift_world.specs.declared.event.Event.TheVariants.{Take, Seal, Pull, Fold, SecondSync, Answer as Answering, Fault}
use Rattle.lift_world.specs.declared.event.Taken.{Taken}
use Rattle.lift_world.specs.declared.event.Answer.{Answer}
use Rattle.lift_world.specs.declared.event.Phase.{Phase}
use Rattle.lift_world.specs.declared.event.Phase.TheVariants.{Idle, Writing, GateWritten}
use Rattle.lift_world.specs.declared.event.Power.{Power}
use Rattle.lift_world.specs.declared.event.Power.TheVariants.{Running, Broken}
use Rattle.lift_world.specs.World.{World, SealedBatch, no_batch, batch_in_flight, is_idle, is_running, is_off, is_taken_of}
use Rattle.lift_world.specs.Next.{goes, next, in_phase, failing, unknown_to, sectors_for_body, unanswered, others, answering, answer_of, sealing}
use Rattle.lift_world.specs.Turns.{with_replies, scanned, take_events, calls_to, device_calls, MayFailIn}
use Rattle.lift_world.specs.Relay.{AreApart, EndInOrder, last_end, flown, IsQueueInOrder, allocated, AllocationsAreEvents, FullQueueWaits, IsBetweenScans, IsBetweenFlushes, events_of_answers, answered_of, left_unanswered, flusher_events, flushed, FlushesAreEvents, failing_flush, flush_failed, FailedFlushesAreEvents, IsBrokenBetween, broken_flush, flushed_broken, BrokenFlushesAreEvents, TurnsMeet, PartsMeet}
use Rattle.lift_world.specs.lemmas.Goes.{one, joined}
use Rattle.lift_world.specs.lemmas.Ordered.{end_above}
use Rattle.lift_world.proofs.Scans.{runs_are_takes, taken_as}
use Rattle.lift_world.specs.lemmas.Looks.{can_be_looked_at, takes_need_looks}
use Rattle.lift_world.proofs.Possibilities.{seals}
use Rattle.lift_world.proofs.Turns.{runs, folded, reached, made_safe, fails, keep_one, others-first, answering_on, terminals_of, unknown_terminals, unknown_apart}

pub answers_map : (cs : List Taken) → events_of_answers cs ≡ terminals_of cs
answers_map [] = refl
answers_map (c ∷ cs) = ap (λ (es : List Event). Answering c.terminal ∷ es) (answers_map cs)

-- a prefix of commands that are apart
others_front : (terminal : ℕ) (xs ys : List Taken) → AllByRecursion (λ (d : Taken). d.terminal ≢ terminal) (xs ++ ys) → AllByRecursion (λ (d : Taken). d.terminal ≢ terminal) xs
others_front terminal [] ys h = tt
others_front terminal (x ∷ xs) ys h = (h.0, others_front terminal xs ys h.1)

apart_front : (xs ys : List Taken) → AreApart (xs ++ ys) → AreApart xs
apart_front [] ys h = tt
apart_front (x ∷ xs) ys h = (others_front x.terminal xs ys h.0, apart_front xs ys h.1)

-- the commands of the queue's first batch are apart, also from those that are due
first_apart : (w : World) (batch : SealedBatch) (rest : List SealedBatch) → w.flight.commands ≡ [] → w.queue ≡ batch ∷ rest → AreApart (unanswered w) → AreApart (w.due ++ batch.commands)
first_apart w batch rest flying at h =
    let later : List Taken = flat_map (λ (b : SealedBatch). b.commands) rest in
    let queued : List Taken = flat_map (λ (b : SealedBatch). b.commands) w.queue in
    let is : unanswered w ≡ ((w.due ++ batch.commands) ++ later) ++ w.taken =
    ap (λ (cs : List Taken). (w.due ++ cs) ++ queued ++ w.taken) flying ∙ ap (λ (cs : List Taken). cs ++ queued ++ w.taken) (append-nil w.due)
    ∙ ap (λ (q : List SealedBatch). w.due ++ flat_map (λ (b : SealedBatch). b.commands) q ++ w.taken) at
    ∙ ap (λ (cs : List Taken). cs ++ w.taken) (sym (append_assoc w.due batch.commands later)) in
    apart_front (w.due ++ batch.commands) later (apart_front ((w.due ++ batch.commands) ++ later) w.taken (subst AreApart is h))

-- what is due before a command stays, and its terminal has none of it
before_all : (terminal : ℕ) (front : List Taken) (c : Taken) (cs : List Taken) → AllByRecursion (λ (d : Taken). d.terminal ≢ terminal) (front ++ c ∷ cs)
    → (c.terminal ≢ terminal) × AllByRecursion (λ (d : Taken). d.terminal ≢ terminal) (front ++ cs)
before_all terminal [] c cs h = h
before_all terminal (x ∷ front) c cs h = let rest = before_all terminal front c cs h.1 in (rest.0, (h.0, rest.1))

apart_without : (front : List Taken) (c : Taken) (cs : List Taken) → AreApart (front ++ c ∷ cs) → AreApart (front ++ cs)
apart_without [] c cs h = h.1
apart_without (x ∷ front) c cs h = ((before_all x.terminal front c cs h.0).1, apart_without front c cs h.1)

found_later : (front : List Taken) (c : Taken) (cs : List Taken) → AreApart (front ++ c ∷ cs) → find (is_taken_of c.terminal) (front ++ c ∷ cs) ≡ Some c
found_later [] c cs h = ap (λ (b : Bool). cond b (Some c) (find (is_taken_of c.terminal) cs)) (eq-eqb c.terminal c.terminal refl)
found_later (x ∷ front) c cs h =
    let other = (before_all x.terminal front c cs h.0).0 in
    ap (λ (b : Bool). cond b (Some x) (find (is_taken_of c.terminal) (front ++ c ∷ cs))) (ne_eqb x.terminal c.terminal (λ e. other (sym e))) ∙ found_later front c cs h.1

others-behind : (front : List Taken) (c : Taken) (cs : List Taken) → AreApart (front ++ c ∷ cs) → others c.terminal (front ++ c ∷ cs) ≡ front ++ cs
others-behind [] c cs h = others-first c cs h.0
others-behind (x ∷ front) c cs h =
    let other = (before_all x.terminal front c cs h.0).0 in
    keep_one (eqb x.terminal c.terminal) x (others c.terminal (front ++ c ∷ cs)) (ne_eqb x.terminal c.terminal (λ e. other (sym e)))
    ∙ ap (λ (xs : List Taken). x ∷ xs) (others-behind front c cs h.1)

module _ (w : World) (on : is_off w.power ≡ false) where
  -- one answer
  answered_after : (front : List Taken) (c : Taken) (cs : List Taken) (answered : List Answer) (given : List Taken) → AreApart (front ++ c ∷ cs)
      → next (answering_on w (front ++ c ∷ cs) answered given) (Answering c.terminal) ≡ Some (answering_on w (front ++ cs) (answered ++ answer_of c ∷ []) (given ++ c ∷ []))
  answered_after front c cs answered given apart =
      let v = answering_on w (front ++ c ∷ cs) answered given in
      ap (λ (b : Bool). cond (not b) (option_map (answering v c.terminal) (find (is_taken_of c.terminal) (front ++ c ∷ cs))) None) on
      ∙ ap (option_map (answering v c.terminal)) (found_later front c cs apart)
      ∙ ap (λ (xs : List Taken). Some (record v { due = xs; answered = answered ++ answer_of c ∷ []; given = given ++ c ∷ [] })) (others-behind front c cs apart)

  abbrev Gives : (ℕ → Bool) → List Taken → List Taken → List Answer → List Taken → List Taken → List Taken → Type 0
  Gives gave front cs answered given now left =
      goes (terminals_of now) (answering_on w (front ++ cs) answered given) ≡ Some (answering_on w (front ++ left) (answered ++ map answer_of now) (given ++ now))

  -- those that the look gave are answered, and the rest stays due
  gives_by : (gave : ℕ → Bool) (front : List Taken) (c : Taken) (cs : List Taken) (answered : List Answer) (given : List Taken) (b : Bool) → AreApart (front ++ c ∷ cs)
      → (AreApart (front ++ cs) → Gives gave front cs (answered ++ answer_of c ∷ []) (given ++ c ∷ []) (answered_of gave cs) (left_unanswered gave cs))
      → (AreApart ((front ++ c ∷ []) ++ cs) → Gives gave (front ++ c ∷ []) cs answered given (answered_of gave cs) (left_unanswered gave cs))
      → Gives gave front (c ∷ cs) answered given (cond b (c ∷ answered_of gave cs) (answered_of gave cs)) (cond (not b) (c ∷ left_unanswered gave cs) (left_unanswered gave cs))
  gives_by gave front c cs answered given true apart first later =
      let now = answered_of gave cs in
      let left = left_unanswered gave cs in
      one (Answering c.terminal) (terminals_of now) (answering_on w (front ++ c ∷ cs) answered given) (answering_on w (front ++ cs) (answered ++ answer_of c ∷ []) (given ++ c ∷ []))
      (answered_after front c cs answered given apart)
      ∙ first (apart_without front c cs apart)
      ∙ ap (λ (xs : List Answer). Some (answering_on w (front ++ left) xs ((given ++ c ∷ []) ++ now))) (append_assoc answered (answer_of c ∷ []) (map answer_of now))
      ∙ ap (λ (xs : List Taken). Some (answering_on w (front ++ left) (answered ++ map answer_of (c ∷ now)) xs)) (append_assoc given (c ∷ []) now)
  gives_by gave front c cs answered given false apart first later =
      let now = answered_of gave cs in
      let left = left_unanswered gave cs in
      ap (λ (xs : List Taken). goes (terminals_of now) (answering_on w xs answered given)) (sym (append_assoc front (c ∷ []) cs))
      ∙ later (subst AreApart (sym (append_assoc front (c ∷ []) cs)) apart)
      ∙ ap (λ (xs : List Taken). Some (answering_on w xs (answered ++ map answer_of now) (given ++ now))) (append_assoc front (c ∷ []) left)

  gives : (gave : ℕ → Bool) (cs front : List Taken) (answered : List Answer) (given : List Taken) → AreApart (front ++ cs) → Gives gave front cs answered given (answered_of gave cs) (left_unanswered gave cs)
  gives gave [] front answered given apart =
      ap (λ (xs : List Answer). Some (answering_on w (front ++ []) xs given)) (sym (append-nil answered)) ∙ ap (λ (xs : List Taken). Some (answering_on w (front ++ []) (answered ++ []) xs)) (sym (append-nil given))
  gives gave (c ∷ cs) front answered given apart =
      gives_by gave front c cs answered given (gave c.terminal) apart (gives gave cs front (answered ++ answer_of c ∷ []) (given ++ c ∷ [])) (gives gave cs (front ++ c ∷ []) answered given)

-- Unknown is told of the same commands
unknown_if : (b : Bool) (c : Taken) (xs : List Taken) → cond b (unknown_to c ∷ map unknown_to xs) (map unknown_to xs) ≡ map unknown_to (cond b (c ∷ xs) xs)
unknown_if true c xs = refl
unknown_if false c xs = refl

unknown_answered : (gave : ℕ → Bool) (cs : List Taken) → answered_of gave (map unknown_to cs) ≡ map unknown_to (answered_of gave cs)
unknown_answered gave [] = refl
unknown_answered gave (c ∷ cs) =
    ap (λ (xs : List Taken). cond (gave c.terminal) (unknown_to c ∷ xs) xs) (unknown_answered gave cs) ∙ unknown_if (gave c.terminal) c (answered_of gave cs)

unknown_left : (gave : ℕ → Bool) (cs : List Taken) → left_unanswered gave (map unknown_to cs) ≡ map unknown_to (left_unanswered gave cs)
unknown_left gave [] = refl
unknown_left gave (c ∷ cs) =
    ap (λ (xs : List Taken). cond (not (gave c.terminal)) (unknown_to c ∷ xs) xs) (unknown_left gave cs) ∙ unknown_if (not (gave c.terminal)) c (left_unanswered gave cs)

unknown_all : (terminal : ℕ) (front cs : List Taken) → AllByRecursion (λ (d : Taken). d.terminal ≢ terminal) (front ++ cs) → AllByRecursion (λ (d : Taken). d.terminal ≢ terminal) (front ++ map unknown_to cs)
unknown_all terminal [] [] h = tt
unknown_all terminal [] (c ∷ cs) h = (h.0, unknown_all terminal [] cs h.1)
unknown_all terminal (x ∷ front) cs h = (h.0, unknown_all terminal front cs h.1)

unknown_after : (front cs : List Taken) → AreApart (front ++ cs) → AreApart (front ++ map unknown_to cs)
unknown_after [] cs h = unknown_apart cs h
unknown_after (x ∷ front) cs h = (unknown_all x.terminal front cs h.0, unknown_after front cs h.1)

-- Unknown to those that the look gave
unknown_gives : (gave : ℕ → Bool) (w : World) (cs front : List Taken) (answered : List Answer) (given : List Taken) → is_off w.power ≡ false → AreApart (front ++ cs)
    → goes (events_of_answers (answered_of gave cs)) (answering_on w (front ++ map unknown_to cs) answered given)
    ≡ Some (answering_on w (front ++ map unknown_to (left_unanswered gave cs)) (answered ++ map answer_of (map unknown_to (answered_of gave cs))) (given ++ map unknown_to (answered_of gave cs)))
unknown_gives gave w cs front answered given on apart =
    let x : World = answering_on w (front ++ map unknown_to cs) answered given in
    let now = unknown_answered gave cs in
    let left = map unknown_to (left_unanswered gave cs) in
    ap (λ (es : List Event). goes es x) (answers_map (answered_of gave cs) ∙ sym (unknown_terminals (answered_of gave cs)) ∙ ap terminals_of (sym now))
    ∙ gives w on gave (map unknown_to cs) front answered given (unknown_after front cs apart)
    ∙ ap (λ (xs : List Taken). Some (answering_on w (front ++ xs) (answered ++ map answer_of (answered_of gave (map unknown_to cs))) (given ++ answered_of gave (map unknown_to cs)))) (unknown_left gave cs)
    ∙ ap (λ (xs : List Taken). Some (answering_on w (front ++ left) (answered ++ map answer_of xs) (given ++ xs))) now

-- where the queue's first batch ends
pub record FirstEnds (w : World) (batch : SealedBatch) : Type 0 where
  pub above : w.safe ≤ batch.upto
  pub within : batch.upto ≤ length w.accepted

first_ends : (w : World) (batch : SealedBatch) (rest : List SealedBatch) → IsQueueInOrder w → w.queue ≡ batch ∷ rest → FirstEnds w batch
first_ends w batch rest k at =
    let o = subst (λ (q : List SealedBatch). EndInOrder (flown w) q w.sealed) at k.in_order in
    let low = o.0 in
    let high = end_above batch.upto rest w.sealed o.1 in
    let s = k.safe_first in
    let a = k.all_accepted in
    record { above = omega arith; within = omega arith }

module _ (w : World) (gave : ℕ → Bool) (batch : SealedBatch) (rest : List SealedBatch) where
  -- a world between two turns of the flusher, with what that means put in
  abbrev between : World
  between = record w { power = Running; phase = Idle; flight = no_batch; queue = batch ∷ rest }

  is_between : IsBetweenFlushes w → w.queue ≡ batch ∷ rest → between ≡ w
  is_between k at =
      ap (λ (p : Power). record between { power = p }) (sym k.running) ∙ ap (λ (p : Phase). record between { power = w.power; phase = p }) (sym k.idle)
      ∙ ap (λ (b : SealedBatch). record w { flight = b; queue = batch ∷ rest }) (sym k.nothing_flies) ∙ ap (λ (q : List SealedBatch). record w { queue = q }) (sym at)

  -- the batch in flight, and safe
  abbrev flying : World
  flying = record w { power = Running; phase = Idle; flight = batch; queue = rest }

  abbrev landed : World
  landed = record w { power = Running; phase = Idle; flight = no_batch; safe = batch.upto; due = w.due ++ batch.commands; queue = rest }

  abbrev count : ℕ
  count = batch.upto - w.safe

  writes_are : batch.upto ≤ length w.accepted → sectors_for_body (length (batch_in_flight flying)) + 1 ≡ sectors_for_body count + 1
  writes_are within =
      let l = length-drop w.safe w.accepted in
      ap (λ (n : ℕ). sectors_for_body n + 1) (length-take-le count (drop w.safe w.accepted) (omega arith))

  flies : (events : List Event) → w.safe < batch.upto → goes (Pull ∷ events) between ≡ goes events (in_phase flying (Writing 0))
  flies events more =
      ap (λ (b : Bool). goes events (cond b (in_phase flying (Writing 0)) (record between { queue = rest; due = w.due ++ batch.commands }))) (lt-ltb w.safe batch.upto more)

  lands : (events : List Event) → w.safe ≤ batch.upto → batch.upto ≤ w.safe → goes (Pull ∷ events) between ≡ goes events landed
  lands events above below =
      let same : w.safe ≡ batch.upto = omega arith in
      ap (λ (b : Bool). goes events (cond b (in_phase flying (Writing 0)) (record between { queue = rest; due = w.due ++ batch.commands }))) (le-ltb w.safe batch.upto below)
      ∙ ap (λ (n : ℕ). goes events (record landed { safe = n })) same

  written : (folds : ℕ) (events : List Event) → batch.upto ≤ length w.accepted
      → goes ((replicate folds Fold ++ (calls_to (sectors_for_body count + 1) GateWritten ++ SecondSync ∷ [])) ++ events) (in_phase flying (Writing 0)) ≡ goes events landed
  written folds events within =
      let calls = calls_to (sectors_for_body count + 1) GateWritten in
      ap (λ (es : List Event). goes es (in_phase flying (Writing 0))) (append_assoc (replicate folds Fold) (calls ++ SecondSync ∷ []) events)
      ∙ folded flying refl folds ((calls ++ SecondSync ∷ []) ++ events)
      ∙ ap (λ (es : List Event). goes es (in_phase flying (Writing 0))) (append_assoc calls (SecondSync ∷ []) events)
      ∙ ap (λ (n : ℕ). goes (calls_to n GateWritten ++ SecondSync ∷ events) (in_phase flying (Writing 0))) (sym (writes_are within))
      ∙ reached flying refl GateWritten (SecondSync ∷ events) tt ∙ made_safe flying refl events

  by_count : (folds : ℕ) (events : List Event) (n : ℕ) → w.safe ≤ batch.upto → batch.upto ≤ length w.accepted → count ≡ n
      → goes (Pull ∷ (device_calls folds n ++ events)) between ≡ goes events landed
  by_count folds events zero above within q = lands events above (omega arith)
  by_count folds events (suc n) above within q =
      flies (device_calls folds (suc n) ++ events) (omega arith)
      ∙ ap (λ (b : Bool). goes (cond b [] (replicate folds Fold ++ (calls_to (sectors_for_body (suc n) + 1) GateWritten ++ SecondSync ∷ [])) ++ events) (in_phase flying (Writing 0))) (ne_eqb (suc n) 0 (λ e. absurd (omega arith)))
      ∙ ap (λ (m : ℕ). goes ((replicate folds Fold ++ (calls_to (sectors_for_body m + 1) GateWritten ++ SecondSync ∷ [])) ++ events) (in_phase flying (Writing 0))) (sym q)
      ∙ written folds events within

  flush_at : (folds : ℕ) → FirstEnds w batch → AreApart (w.due ++ batch.commands) → goes (flusher_events gave batch folds count) between ≡ Some (flushed between gave batch rest)
  flush_at folds ends apart =
      ap (λ (es : List Event). goes (Pull ∷ (device_calls folds count ++ es)) between) (answers_map (answered_of gave batch.commands))
      ∙ by_count folds (terminals_of (answered_of gave batch.commands)) count ends.above ends.within refl ∙ gives landed refl gave batch.commands w.due w.answered w.given apart

  -- where a device call fails
  abbrev lost : Phase → World
  lost phase = record w { power = Broken; phase = phase; flight = record { commands = []; upto = batch.upto }; due = w.due ++ map unknown_to batch.commands; queue = rest }

  fall_at : (folds : ℕ) (phase : Phase) → batch.upto ≤ length w.accepted → w.safe < batch.upto → MayFailIn (sectors_for_body count + 1) phase → AreApart (w.due ++ batch.commands)
      → goes (failing_flush gave batch folds phase count) between ≡ Some (flush_failed between gave batch rest phase)
  fall_at folds phase within more fail apart =
      let answers = events_of_answers (answered_of gave batch.commands) in
      let there : MayFailIn (sectors_for_body (length (batch_in_flight flying)) + 1) phase = subst (λ (n : ℕ). MayFailIn n phase) (sym (writes_are within)) fail in
      flies (replicate folds Fold ++ (calls_to (sectors_for_body count + 1) phase ++ Fault ∷ answers)) more
      ∙ folded flying refl folds (calls_to (sectors_for_body count + 1) phase ++ Fault ∷ answers)
      ∙ ap (λ (n : ℕ). goes (calls_to n phase ++ Fault ∷ answers) (in_phase flying (Writing 0))) (sym (writes_are within))
      ∙ reached flying refl phase (Fault ∷ answers) there
      ∙ one Fault answers (in_phase flying phase) (failing (in_phase flying phase)) (fails flying refl phase there)
      ∙ unknown_gives gave (lost phase) batch.commands w.due w.answered w.given refl apart

  -- after a fault
  abbrev broken_between : World
  broken_between = record w { power = Broken; queue = batch ∷ rest }

  is_broken_between : IsBrokenBetween w → w.queue ≡ batch ∷ rest → broken_between ≡ w
  is_broken_between k at =
      ap (λ (p : Power). record broken_between { power = p }) (sym k.broken) ∙ ap (λ (q : List SealedBatch). record w { queue = q }) (sym at)

  broken_at : AreApart (w.due ++ batch.commands) → goes (broken_flush gave batch) broken_between ≡ Some (flushed_broken broken_between gave batch rest)
  broken_at apart = unknown_gives gave (record broken_between { queue = rest; due = w.due ++ map unknown_to batch.commands }) batch.commands w.due w.answered w.given refl apart

-- where the queue's first batch ends within what is accepted, and its commands are apart
pub flushes_where : (w : World) (gave : ℕ → Bool) (batch : SealedBatch) (rest : List SealedBatch) (folds : ℕ) → IsBetweenFlushes w → FirstEnds w batch → AreApart (w.due ++ batch.commands) → w.queue ≡ batch ∷ rest
    → goes (flusher_events gave batch folds (batch.upto - w.safe)) w ≡ Some (flushed w gave batch rest)
flushes_where w gave batch rest folds k ends apart at =
    subst (λ (v : World). goes (flusher_events gave batch folds (batch.upto - w.safe)) v ≡ Some (flushed v gave batch rest)) (is_between w gave batch rest k at)
    (flush_at w gave batch rest folds ends apart)

pub fails_where : (w : World) (gave : ℕ → Bool) (batch : SealedBatch) (rest : List SealedBatch) (folds : ℕ) (phase : Phase) → IsBetweenFlushes w → FirstEnds w batch → w.safe < batch.upto
    → MayFailIn (sectors_for_body (batch.upto - w.safe) + 1) phase → AreApart (w.due ++ batch.commands) → w.queue ≡ batch ∷ rest
    → goes (failing_flush gave batch folds phase (batch.upto - w.safe)) w ≡ Some (flush_failed w gave batch rest phase)
fails_where w gave batch rest folds phase k ends more fail apart at =
    subst (λ (v : World). goes (failing_flush gave batch folds phase (batch.upto - w.safe)) v ≡ Some (flush_failed v gave batch rest phase)) (is_between w gave batch rest k at)
    (fall_at w gave batch rest folds phase ends.within more fail apart)

pub broken_where : (w : World) (gave : ℕ → Bool) (batch : SealedBatch) (rest : List SealedBatch) → IsBrokenBetween w → AreApart (w.due ++ batch.commands) → w.queue ≡ batch ∷ rest
    → goes (broken_flush gave batch) w ≡ Some (flushed_broken w gave batch rest)
broken_where w gave batch rest k apart at =
    subst (λ (v : World). goes (broken_flush gave batch) v ≡ Some (flushed_broken v gave batch rest)) (is_broken_between w gave batch rest k at) (broken_at w gave batch rest apart)

pub flushes_are_events : (w : World) → FlushesAreEvents w
flushes_are_events w gave batch rest folds k order at =
    flushes_where w gave batch rest folds k (first_ends w batch rest order at) (first_apart w batch rest (ap (λ (b : SealedBatch). b.commands) k.nothing_flies) at order.apart) at

pub failed_flushes_are_events : (w : World) → FailedFlushesAreEvents w
failed_flushes_are_events w gave batch rest folds phase k order at more fail =
    fails_where w gave batch rest folds phase k (first_ends w batch rest order at) more fail (first_apart w batch rest (ap (λ (b : SealedBatch). b.commands) k.nothing_flies) at order.apart) at

pub broken_flushes_are_events : (w : World) → BrokenFlushesAreEvents w
broken_flushes_are_events w gave batch rest k order at = broken_where w gave batch rest k (first_apart w batch rest k.nothing_flies at order.apart) at

-- an allocator's turn
some_more : (xs : List Taken) (c : Taken) (cs : List Taken) → xs ≡ [] → xs ++ c ∷ cs ≢ []
some_more xs c cs none e = let is : c ∷ cs ≡ [] = sym (ap (λ (ys : List Taken). ys ++ c ∷ cs) none) ∙ e in cc

-- its seal
pub seals_scan : (w : World) (command : Command) (commands : List Command) (reply : Reply) (replies : List Reply) (state : State) → is_off w.power ≡ false → w.taken ≡ []
    → next (scanned w (command ∷ commands) (reply ∷ replies) state) Seal ≡ Some (sealing (scanned w (command ∷ commands) (reply ∷ replies) state))
seals_scan w command commands reply replies state on none =
    (seals (scanned w (command ∷ commands) (reply ∷ replies) state)).seals on (some_more w.taken (taken_as command reply) (with_replies commands replies) none)

-- a scan that began with nothing taken, sealed
pub sealed_scan : (w : World) (commands : List Command) (replies : List Reply) (state : State) → IsBetweenScans w → sealing (scanned w commands replies state) ≡ allocated w commands replies state
sealed_scan w commands replies state k =
    let looked : List Taken = with_replies commands replies in
    let front : take w.sealed w.accepted ≡ w.accepted = ap (λ (n : ℕ). take n w.accepted) k.all_sealed ∙ take-length w.accepted in
    ap (λ (es : List Entry). record w {
      accepted = es ++ state.batch;
      sealed = length (es ++ state.batch);
      positions = state.positions;
      queue = w.queue ++ record { commands = w.taken ++ looked; upto = length (es ++ state.batch) } ∷ [];
      taken = [];
    }) front
    ∙ ap (λ (cs : List Taken). record w {
      accepted = w.accepted ++ state.batch;
      sealed = length (w.accepted ++ state.batch);
      positions = state.positions;
      queue = w.queue ++ record { commands = cs ++ looked; upto = length (w.accepted ++ state.batch) } ∷ [];
      taken = [];
    }) k.nothing_taken
    ∙ ap (λ (cs : List Taken). record (allocated w commands replies state) { taken = cs }) (sym k.nothing_taken)

pub allocations_are_events : (w : World) → AllocationsAreEvents w
allocations_are_events w command commands reply replies state k found r =
    let sealed_all = k.all_sealed in
    let s = runs_are_takes w (command ∷ commands) (reply ∷ replies) state (omega arith) found r in
    let x : World = scanned w (command ∷ commands) (reply ∷ replies) state in
    let on = (can_be_looked_at w command.terminal found.0.0).powered in (
      s.0,
      joined (take_events (command ∷ commands) s.0) (Seal ∷ []) w x s.1
          ∙ one Seal [] x (sealing x) (seals_scan w command commands reply replies state on k.nothing_taken)
          ∙ ap (λ (y : World). Some y) (sealed_scan w (command ∷ commands) (reply ∷ replies) state k),
    )

none_from : (o : Option World) → ((x : World) → o ≡ Some x → ⊥) → o ≡ None
none_from None h = refl
none_from (Some x) h = absurd (h x refl)

pub full_queue_waits : (w : World) → FullQueueWaits w
full_queue_waits w terminal letter many =
    none_from (next w (Take terminal letter)) (λ x h. let few = (takes_need_looks w terminal letter x h).few_queued in omega arith)

pub turns_meet : (w : World) → TurnsMeet w
turns_meet w = record {
  scanned = λ commands replies state k. record { nothing_taken = k.nothing_taken; all_sealed = refl };
  scanned_beside = λ commands replies state k. record { running = k.running; idle = k.idle; nothing_flies = k.nothing_flies };
  wrote = λ gave batch rest k. record { running = k.running; idle = k.idle; nothing_flies = k.nothing_flies };
  wrote_beside = λ gave batch rest k. record { nothing_taken = k.nothing_taken; all_sealed = k.all_sealed };
  fell = λ gave batch rest phase k. record { broken = refl; nothing_flies = refl };
  fell_beside = λ gave batch rest phase k. record { nothing_taken = k.nothing_taken; all_sealed = k.all_sealed };
  stayed = λ gave batch rest k. record { broken = k.broken; nothing_flies = k.nothing_flies };
  stayed_beside = λ gave batch rest k. record { nothing_taken = k.nothing_taken; all_sealed = k.all_sealed };
}

-- nothing queued or in flight: all that is sealed is safe
all_is_safe : (w : World) → IsQueueInOrder w → w.power ≡ Running → w.phase ≡ Idle → w.queue ≡ [] → w.safe ≡ w.sealed
all_is_safe w order running idle none =
    sym (ap (λ (p : Phase). cond (is_idle p) w.safe w.flight.upto) idle)
    ∙ subst (λ (q : List SealedBatch). last_end (flown w) q ≡ w.sealed) none (order.ends (ap is_running running))

pub parts_meet : (w : World) → PartsMeet w
parts_meet w = record {
  split = λ k. (
    record { nothing_taken = k.nothing_taken; all_sealed = k.all_sealed },
    record { running = runs w.power k.running; idle = k.idle; nothing_flies = k.nothing_flies },
  );
  rejoined = λ order scans flushes none answered. record {
    running = ap is_running flushes.running;
    idle = flushes.idle;
    nothing_flies = flushes.nothing_flies;
    nothing_queued = none;
    nothing_taken = scans.nothing_taken;
    nothing_due = answered;
    all_sealed = scans.all_sealed;
    all_safe = all_is_safe w order flushes.running flushes.idle none ∙ scans.all_sealed;
  };
  split_broken = λ k. (
    record { nothing_taken = k.nothing_taken; all_sealed = k.all_sealed },
    record { broken = k.broken; nothing_flies = k.nothing_flies },
  );
  rejoined_broken = λ order scans flushes none answered. record {
    broken = flushes.broken;
    nothing_flies = flushes.nothing_flies;
    nothing_queued = none;
    nothing_taken = scans.nothing_taken;
    nothing_due = answered;
    all_sealed = scans.all_sealed;
    safe_in_range = let first = order.safe_first in let last = end_above (flown w) w.queue w.sealed order.in_order in let all = order.all_accepted in omega arith;
    doubt_in_range = let doubt = order.doubt in let all = order.all_accepted in omega arith;
  };
}
