-- What a flush leads to: the first batch on its way is answered.
use Rattle.std.proofs.Common.{ℕ, zero, suc, ◌≡◌, ◌≢◌, ◌+◌, ◌-◌, ◌<◌, ◌≤◌, Bool, true, false, cond, eqb, List, [], ◌∷◌, ◌++◌, length, map, take, drop, Some, refl, sym, ap, subst, ◌∙◌, arith, append_assoc}
use Rattle.std.specs.Prelude.{filter, replicate}
use Rattle.std.proofs.Math.Seq.{take-append_seam, drop-append_seam}
use Rattle.std.proofs.lemmas.List.{append-nil, length-append}
use Rattle.std.proofs.lemmas.List.Elements.{filter-append}
use Rattle.std.proofs.lemmas.List.Sums.{length-filter}
use mathlib.Core.List.{map-append}
use Rattle.lift_base.specs.declared.history.Entry.{Entry}
use Rattle.lift_register.specs.Register.{RegisterState, register_of}
use Rattle.lift_desk.specs.declared.view.ClerkView.{ClerkView}
use Rattle.lift_desk.specs.Spelled.{ask_words}
use Rattle.lift_policy.specs.Step.{State}
use Rattle.lift_policy.specs.declared.command.Command.{Command}
use Rattle.lift_keeper.specs.Writer.{WriterView}
use Rattle.lift_world.specs.declared.event.Answer.{Answer}
use Rattle.lift_world.specs.declared.event.Event.{Event}
use Rattle.lift_world.specs.declared.event.Event.TheVariants.{Pull, Body as BodyWrite, FirstSync, Gate, Answer as Answering}
use Rattle.lift_world.specs.declared.event.Phase.{Phase}
use Rattle.lift_world.specs.declared.event.Phase.TheVariants.{Writing, Synced, GateWritten}
use Rattle.lift_world.specs.declared.event.Power.{Power}
use Rattle.lift_world.specs.declared.event.Power.TheVariants.{Broken}
use Rattle.lift_world.specs.declared.event.Taken.{Taken}
use Rattle.lift_world.specs.World.{World, SealedBatch, asks, is_answer_to, safe_list}
use Rattle.lift_world.specs.Next.{goes, in_phase, sectors_for_body, writes_before_sync, answer_of, unknown_to}
use Rattle.lift_world.specs.Relay.{answered_of, left_unanswered, events_of_answers, flushed, flush_failed, flusher_events, failing_flush, broken_flush}
use Rattle.lift_world.specs.Turns.{answer_events, calls_to}
use Rattle.lift_world.specs.lemmas.Goes.{one}
use Rattle.lift_clerk.specs.TakenAndAnswered.{Grows, answer_words, ask_of}
use Rattle.lift_clerk.specs.Tied.{SentBatch, entries_sent, command_of, queued_in, on_way, AreQueued, AreDecided, ShowsBoth, RunsWhole, RunsBroken, IsTied, LeadsTo, all_found}
use Rattle.lift_clerk.specs.Laws.{Laws}
use Rattle.lift_clerk.specs.lemmas.Tied.{not_both, order, reaches, safe_long}
use Rattle.lift_clerk.specs.lemmas.Words.{asks_both, asks_count, answers_both, answers_long}

-- ---- what the machine answers
all_answered : (cs : List Taken) → answered_of all_found cs ≡ cs
all_answered [] = refl
all_answered (c ∷ cs) = ap (λ (xs : List Taken). c ∷ xs) (all_answered cs)

none_left : (cs : List Taken) → left_unanswered all_found cs ≡ []
none_left [] = refl
none_left (c ∷ cs) = none_left cs

answers_map : (cs : List Taken) → events_of_answers cs ≡ answer_events (map command_of cs)
answers_map [] = refl
answers_map (c ∷ cs) = ap (λ (es : List Event). Answering c.terminal ∷ es) (answers_map cs)

-- as events they are those of a whole turn
pub answer_all : (cs : List Command) (held : List Taken) → map command_of held ≡ cs → events_of_answers (answered_of all_found held) ≡ answer_events cs
answer_all cs held e = ap events_of_answers (all_answered held) ∙ answers_map held ∙ ap answer_events e

-- Unknown, whatever was decided
abbrev unknown_held : Command → Taken
unknown_held c = record { terminal = c.terminal; number = c.number; body = c.body; reply = Rattle.lift_base.specs.declared.command.Reply.TheVariants.Unknown }

unknown_of : (cs : List Taken) → map unknown_to cs ≡ map unknown_held (map command_of cs)
unknown_of [] = refl
unknown_of (c ∷ cs) = ap (λ (xs : List Taken). unknown_to c ∷ xs) (unknown_of cs)

pub unknown_same : (xs ys : List Taken) → map command_of xs ≡ map command_of ys → map unknown_to xs ≡ map unknown_to ys
unknown_same xs ys e = unknown_of xs ∙ ap (map unknown_held) e ∙ sym (unknown_of ys)

-- as many answers as commands
one_more : (c : Taken) (cs : List Command) (answers : List Answer) (b : Bool) → length cs ≡ length answers → length (cond b (command_of c ∷ cs) cs) ≡ length (cond b (answer_of c ∷ answers) answers)
one_more c cs answers true e = ap suc e
one_more c cs answers false e = e

as_many : (t : ℕ) (cs : List Taken) → length (filter (asks t) (map command_of cs)) ≡ length (filter (is_answer_to t) (map answer_of cs))
as_many t [] = refl
as_many t (c ∷ cs) = one_more c (filter (asks t) (map command_of cs)) (filter (is_answer_to t) (map answer_of cs)) (eqb c.terminal t) (as_many t cs)

-- ---- the first batch of the queue
pub record First (batch : SentBatch) (rest : List SentBatch) (queue : List SealedBatch) : Type 0 where
  pub q : SealedBatch
  pub qs : List SealedBatch
  pub at : queue ≡ q ∷ qs
  pub same : map command_of q.commands ≡ map command_of batch.commands
  pub rests : AreQueued rest qs

first_queued : (batch : SentBatch) (rest : List SentBatch) (queue : List SealedBatch) → AreQueued (batch ∷ rest) queue → First batch rest queue
first_queued batch rest [] k = absurd k
first_queued batch rest (q ∷ qs) k = record { q = q; qs = qs; at = refl; same = k.0; rests = k.1 }

-- its commands are given these answers, whichever are told
pub record Answers (batch : SentBatch) (replied : List Taken) (behind later : ℕ → ClerkView) : Type 0 where
  pub commands : List Command
  pub are : map command_of batch.commands ≡ commands
  pub replied_are : map command_of replied ≡ commands
  pub grows : (t : ℕ) → Grows (behind t) (later t) (filter (asks t) commands) (filter (is_answer_to t) (map answer_of replied))

not_none : (xs : List Entry) → xs ≢ [] → 0 < length xs
not_none [] some = absurd (some refl)
not_none (x ∷ xs) some = omega arith

module _ {D : Type 0} {w : World} {ahead : ℕ → List ℕ} {behind : ℕ → ClerkView} {state : State} {old : WriterView D} {batch : SentBatch} {rest : List SentBatch}
    (laws : Laws) (m : IsTied w ahead behind state old (batch ∷ rest)) where
  pub first : First batch rest w.queue
  first = first_queued batch rest w.queue m.queue

  abbrev pub q : SealedBatch
  q = first.q

  -- Unknown to each, whatever was decided
  unknown_are : (replied : List Taken) → map unknown_to batch.commands ≡ replied → map unknown_to (answered_of all_found q.commands) ≡ replied
  unknown_are replied replied_is = ap (map unknown_to) (all_answered q.commands) ∙ unknown_same q.commands batch.commands first.same ∙ replied_is

  -- while nothing has failed
  module _ (k : RunsWhole w state old (batch ∷ rest)) where
    decided : (q.commands ≡ batch.commands) × (q.upto ≡ length (safe_list w) + length batch.entries) × AreDecided (length (safe_list w) + length batch.entries) rest first.qs
    decided = subst (AreDecided (length (safe_list w)) (batch ∷ rest)) first.at k.decided

    accepted_is : w.accepted ≡ (safe_list w ++ batch.entries) ++ entries_sent rest
    accepted_is = k.accepted ∙ sym (append_assoc (safe_list w) batch.entries (entries_sent rest))

    ends_at : q.upto ≡ length (safe_list w ++ batch.entries)
    ends_at = decided.1 ∙ sym (length-append (safe_list w) batch.entries)

    now_safe : take q.upto w.accepted ≡ safe_list w ++ batch.entries
    now_safe = ap (λ (x : ℕ × List Entry). take x.0 x.1) (λ i. (ends_at i, accepted_is i)) ∙ take-append_seam (safe_list w ++ batch.entries) (entries_sent rest)

    count_is : q.upto - w.safe ≡ length batch.entries
    count_is = let long = safe_long laws w m.reached in omega (arith, decided.1)

    pub in_doubt : take (q.upto - w.safe) (drop w.safe w.accepted) ≡ batch.entries
    in_doubt =
        let long = safe_long laws w m.reached in
        ap (λ (n : ℕ). take n (drop w.safe w.accepted)) count_is
        ∙ ap (λ (x : ℕ × List Entry). take (length batch.entries) (drop x.0 x.1)) (λ i. (sym long i, k.accepted i))
        ∙ ap (take (length batch.entries)) (drop-append_seam (safe_list w) (batch.entries ++ entries_sent rest)) ∙ take-append_seam batch.entries (entries_sent rest)

    -- up to the write of its gate nothing is answered
    abbrev pub at_gate : World
    at_gate = record w { queue = first.qs; flight = q; phase = GateWritten }

    abbrev pulled : World
    pulled = record w { queue = first.qs; flight = q; phase = Writing 0 }

    writes : (n i : ℕ) (events : List Event) → i + n ≤ writes_before_sync pulled → goes (replicate n BodyWrite ++ events) (in_phase pulled (Writing i)) ≡ goes events (in_phase pulled (Writing (i + n)))
    writes zero i events le = ap (λ (j : ℕ). goes events (in_phase pulled (Writing j))) (omega arith)
    writes (suc n) i events le =
        one BodyWrite (replicate n BodyWrite ++ events) (in_phase pulled (Writing i)) (in_phase pulled (Writing (i + 1))) ((laws.calls (in_phase pulled (Writing i))).writes i k.between.running refl (omega arith))
        ∙ writes n (i + 1) events (omega arith) ∙ ap (λ (j : ℕ). goes events (in_phase pulled (Writing j))) (omega arith)

    pub to_gate : batch.entries ≢ [] → goes (Pull ∷ calls_to (sectors_for_body (length batch.entries) + 1) GateWritten) w ≡ Some at_gate
    to_gate some =
        let more = not_none batch.entries some in
        let count = count_is in
        let n : ℕ = writes_before_sync pulled in
        one Pull (calls_to (sectors_for_body (length batch.entries) + 1) GateWritten) w pulled ((laws.pulls w).flies q first.qs k.between.running k.between.idle first.at (omega arith))
        ∙ ap (λ (xs : List Entry). goes (calls_to (sectors_for_body (length xs) + 1) GateWritten) pulled) (sym in_doubt)
        ∙ writes n 0 (FirstSync ∷ Gate ∷ []) (omega arith)
        ∙ ap (λ (j : ℕ). goes (FirstSync ∷ Gate ∷ []) (in_phase pulled (Writing j))) (let same : 0 + n ≡ n = omega arith in same)
        ∙ one FirstSync (Gate ∷ []) (in_phase pulled (Writing n)) (in_phase pulled Synced) ((laws.calls (in_phase pulled (Writing n))).syncs k.between.running refl)
        ∙ one Gate [] (in_phase pulled Synced) at_gate ((laws.calls (in_phase pulled Synced)).writes_gate k.between.running refl)

  module _ (later : ℕ → ClerkView) (next : State) (new : WriterView D) (same_plan : new.plan ≡ old.plan) where
    -- the words, once the commands are answered
    module _ (replied : List Taken) (a : Answers batch replied behind later) (end : World) (asked : end.asked ≡ w.asked) (queue : end.queue ≡ first.qs) (answers : end.answered ≡ w.answered ++ map answer_of replied) where
      abbrev here : ℕ → List Command
      here t = filter (asks t) a.commands

      abbrev told_here : ℕ → List Answer
      told_here t = filter (is_answer_to t) (map answer_of replied)

      way_is : (t : ℕ) → on_way w t ≡ here t ++ on_way end t
      way_is t =
          ap (λ (xs : List SealedBatch). filter (asks t) (queued_in xs)) first.at
          ∙ filter-append (asks t) (map command_of first.q.commands) (queued_in first.qs)
          ∙ ap (λ (x : List Command × List SealedBatch). filter (asks t) x.0 ++ filter (asks t) (queued_in x.1)) (λ i. ((first.same ∙ a.are) i, sym queue i))

      words : (t : ℕ) → ShowsBoth end t (ahead t) (later t)
      words t =
          let k = m.words t in
          let new : List Command = here t in
          let gr = a.grows t in
          let all : k.first ++ on_way w t ≡ (k.first ++ new) ++ on_way end t = ap (λ (xs : List Command). k.first ++ xs) (way_is t) ∙ sym (append_assoc k.first new (on_way end t)) in
          let old : List Answer = filter (is_answer_to t) w.answered in
          let now : filter (is_answer_to t) end.answered ≡ old ++ told_here t =
          ap (filter (is_answer_to t)) answers ∙ filter-append (is_answer_to t) w.answered (map answer_of replied) in
          let lt : suc (length (behind t).taken) ≡ 1 + length (map ask_of k.first) = omega (arith, ap length k.looked, asks_count 1 (map ask_of k.first)) in
          let la : suc (length (behind t).answered) ≡ 1 + length old = omega (arith, ap length k.answered, answers_long 1 old) in
          let even = k.even in
          record {
            first = k.first ++ new;
            waiting = k.waiting;
            asked = ap (filter (asks t)) asked ∙ k.asked ∙ ap (λ (xs : List Command). xs ++ k.waiting) all;
            taken = k.taken ∙ ap (λ (xs : List Command). ask_words 1 (map ask_of xs)) all;
            looked = gr.taken ∙ ap (λ (xs : List ℕ). xs ++ ask_words (suc (length (behind t).taken)) (map ask_of new)) k.looked
                ∙ ap (λ (n : ℕ). ask_words 1 (map ask_of k.first) ++ ask_words n (map ask_of new)) lt
                ∙ sym (asks_both 1 (map ask_of k.first) (map ask_of new)) ∙ ap (ask_words 1) (sym (map-append ask_of k.first new));
            answered = gr.answered ∙ ap (λ (xs : List ℕ). xs ++ answer_words (suc (length (behind t).answered)) (told_here t)) k.answered
                ∙ ap (λ (n : ℕ). answer_words 1 old ++ answer_words n (told_here t)) la
                ∙ sym (answers_both 1 old (told_here t)) ∙ ap (answer_words 1) (sym now);
            even = omega (
              arith,
              length-append k.first new,
              as_many t replied,
              ap (λ (cs : List Command). length (filter (asks t) cs)) a.replied_are,
              ap length now,
              length-append old (told_here t),
              length-filter (is_answer_to t) end.answered,
              length-filter (is_answer_to t) w.answered,
            );
          }

    -- what a flush leaves, whichever it is: what is so of each
    module _ (replied : List Taken) (a : Answers batch replied behind later) (safe : ℕ) (flight : SealedBatch) (phase : Phase) (power : Power) (due given : List Taken) (given_is : given ≡ replied) where
      abbrev left : World
      left = record w {
        safe = safe;
        flight = flight;
        phase = phase;
        power = power;
        queue = first.qs;
        due = due;
        answered = w.answered ++ map answer_of given;
        given = w.given ++ given;
      }

      leads : (events : List Event) (entries : List Entry) → goes events w ≡ Some left → safe_list left ≡ entries → due ≡ [] → register_of w.base (safe_list left) ≡ new.register
          → (new.is_broken ≡ false → RunsWhole left next new rest) → (new.is_broken ≡ true → RunsBroken left new) → LeadsTo w events replied entries (λ (v : World). IsTied v ahead later next new rest)
      leads events entries possible safe_is none register whole broken =
          let answered : left.answered ≡ w.answered ++ map answer_of replied = ap (λ (xs : List Taken). w.answered ++ map answer_of xs) given_is in
          record {
            end = left;
            possible = possible;
            given_is = ap (λ (xs : List Taken). w.given ++ xs) given_is;
            safe_is = safe_is;
            same_building = refl;
            same_base = refl;
            answered_is = answered;
            same_asked = refl;
            same_heard = refl;
            shows = record {
              building = m.building ∙ sym same_plan;
              reached = reaches laws w m.reached events left possible refl refl;
              between = record { nothing_taken = m.between.nothing_taken; all_sealed = m.between.all_sealed };
              nothing_due = none;
              safe = register;
              queue = first.rests;
              words = words replied a left refl refl answered;
              whole = whole;
              broken = broken;
            };
          }

    -- while nothing has failed
    module _ (k : RunsWhole w state old (batch ∷ rest)) where
      -- it is made safe
      made_safe : Answers batch batch.commands behind later → new.is_broken ≡ false → new.register ≡ register_of old.register batch.entries → new.doubt ≡ [] → next ≡ state → (folds : ℕ)
          → LeadsTo w (flusher_events all_found q folds (length batch.entries)) batch.commands (safe_list w ++ batch.entries) (λ (v : World). IsTied v ahead later next new rest)
      made_safe a whole register no_doubt same folds =
          leads batch.commands a q.upto w.flight w.phase w.power (w.due ++ left_unanswered all_found q.commands) (answered_of all_found q.commands) (all_answered q.commands ∙ (decided k).0)
          (flusher_events all_found q folds (length batch.entries)) (safe_list w ++ batch.entries)
          (subst (λ (n : ℕ). goes (flusher_events all_found q folds n) w ≡ Some (flushed w all_found q first.qs)) (count_is k) (laws.flushes w all_found q first.qs folds k.between (order laws w m.reached) first.at))
          (now_safe k) (ap (λ (xs : List Taken). w.due ++ xs) (none_left q.commands) ∙ append-nil w.due ∙ m.nothing_due)
          (ap (register_of w.base) (now_safe k) ∙ sym (laws.registers w.base (safe_list w) batch.entries) ∙ ap (λ (r : RegisterState). register_of r batch.entries) m.safe ∙ sym register)
          (λ e. record {
            between = record { running = k.between.running; idle = k.between.idle; nothing_flies = k.between.nothing_flies };
            state_is = k.state_is ∙ sym same;
            accepted = (accepted_is k) ∙ ap (λ (xs : List Entry). xs ++ entries_sent rest) (sym (now_safe k));
            decided = subst (λ (n : ℕ). AreDecided n rest first.qs) (sym (length-append (safe_list w) batch.entries) ∙ ap length (sym (now_safe k))) (decided k).2;
            no_doubt = no_doubt;
          })
          (λ e. not_both new.is_broken whole e)

      -- the device fails it
      left_in_doubt : (replied : List Taken) → map unknown_to batch.commands ≡ replied → Answers batch replied behind later → new.is_broken ≡ true → new.register ≡ old.register → new.doubt ≡ batch.entries → batch.entries ≢ [] → (folds : ℕ)
          → LeadsTo w (failing_flush all_found q folds GateWritten (length batch.entries)) replied (safe_list w) (λ (v : World). IsTied v ahead later next new rest)
      left_in_doubt replied replied_is a breaks register doubt some folds =
          let more = not_none batch.entries some in
          let count = (count_is k) in
          leads replied a w.safe (record { commands = []; upto = q.upto }) GateWritten Broken (w.due ++ map unknown_to (left_unanswered all_found q.commands)) (map unknown_to (answered_of all_found q.commands)) (unknown_are replied replied_is)
          (failing_flush all_found q folds GateWritten (length batch.entries)) (safe_list w)
          (subst (λ (n : ℕ). goes (failing_flush all_found q folds GateWritten n) w ≡ Some (flush_failed w all_found q first.qs GateWritten)) count
          (laws.failed_flushes w all_found q first.qs folds GateWritten k.between (order laws w m.reached) first.at (omega arith) tt))
          refl (ap (λ (xs : List Taken). w.due ++ map unknown_to xs) (none_left q.commands) ∙ append-nil w.due ∙ m.nothing_due) (m.safe ∙ sym register) (λ e. not_both new.is_broken e breaks)
          (λ e. record { between = record { broken = refl; nothing_flies = refl }; doubt = (in_doubt k) ∙ sym doubt; may_be_kept = λ more. refl })

    abbrev Led : (SealedBatch → ℕ → List Event) → List Taken → List Entry → Type 0
    Led events given safe = (p : SealedBatch) × (map command_of p.commands ≡ map command_of batch.commands) × ((folds : ℕ) → LeadsTo w (events p folds) given safe (λ (v : World). IsTied v ahead later next new rest))

    pub flush_safe : Answers batch batch.commands behind later → old.is_broken ≡ false → new.is_broken ≡ false → new.register ≡ register_of old.register batch.entries → new.doubt ≡ [] → next ≡ state
        → Led (λ p folds. flusher_events all_found p folds (length batch.entries)) batch.commands (safe_list w ++ batch.entries)
    flush_safe a was whole register none same = (q, first.same, λ folds. made_safe (m.whole was) a whole register none same folds)

    pub flush_fails : (replied : List Taken) → map unknown_to batch.commands ≡ replied → Answers batch replied behind later → old.is_broken ≡ false → new.is_broken ≡ true → new.register ≡ old.register → new.doubt ≡ batch.entries
        → batch.entries ≢ [] → Led (λ p folds. failing_flush all_found p folds GateWritten (length batch.entries)) replied (safe_list w)
    flush_fails replied is a was breaks register doubt some = (q, first.same, λ folds. left_in_doubt (m.whole was) replied is a breaks register doubt some folds)

    -- after a fault
    pub flush_broken : (replied : List Taken) → map unknown_to batch.commands ≡ replied → Answers batch replied behind later → old.is_broken ≡ true → new ≡ old → Led (λ p folds. broken_flush all_found p) replied (safe_list w)
    flush_broken replied is a was same =
        let kb : RunsBroken w old = m.broken was in (
          q,
          first.same,
          λ folds. leads replied a w.safe w.flight w.phase w.power (w.due ++ map unknown_to (left_unanswered all_found q.commands)) (map unknown_to (answered_of all_found q.commands)) (unknown_are replied is) (broken_flush all_found q)
              (safe_list w) (laws.broken_flushes w all_found q first.qs kb.between (order laws w m.reached) first.at) refl
              (ap (λ (xs : List Taken). w.due ++ map unknown_to xs) (none_left q.commands) ∙ append-nil w.due ∙ m.nothing_due) (m.safe ∙ ap (λ (v : WriterView D). v.register) (sym same))
              (λ e. not_both new.is_broken e (ap (λ (v : WriterView D). v.is_broken) same ∙ was))
              (λ e. record {
                between = record { broken = kb.between.broken; nothing_flies = kb.between.nothing_flies };
                doubt = kb.doubt ∙ ap (λ (v : WriterView D). v.doubt) (sym same);
                may_be_kept = λ some. kb.may_be_kept (λ none. some (ap (λ (v : WriterView D). v.doubt) same ∙ none));
              }),
        )
