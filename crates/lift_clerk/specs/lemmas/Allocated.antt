-- What a scan that took something leads to: its batch joins those on their way.
use Rattle.std.proofs.Common.{ℕ, suc, ◌≡◌, ◌≢◌, ◌+◌, ◌≤◌, Bool, true, false, List, [], ◌∷◌, ◌++◌, length, map, take, Option, Some, refl, sym, ap, subst, ◌∙◌, arith, append_assoc}
use Rattle.std.specs.Prelude.{filter}
use Rattle.std.proofs.Math.Seq.{take-length, drop-length}
use Rattle.std.proofs.lemmas.List.{append-nil, length-append}
use Rattle.std.proofs.lemmas.List.Elements.{filter-append}
use Rattle.std.proofs.lemmas.List.Concat.{flat_map-append}
use mathlib.Core.List.{map-append}
use Rattle.lift_base.specs.declared.limits.TheConstants.{MOST_BATCHES}
use Rattle.lift_base.specs.declared.command.Reply.{Reply}
use Rattle.lift_base.specs.declared.history.Entry.{Entry}
use Rattle.lift_building.specs.Plan.{Plan}
use Rattle.lift_register.specs.Register.{RegisterState, register_of}
use Rattle.lift_desk.specs.declared.view.ClerkView.{ClerkView}
use Rattle.lift_desk.specs.Spelled.{ask_words}
use Rattle.lift_policy.specs.Eligible.{Choice, any_eligible}
use Rattle.lift_policy.specs.Step.{State}
use Rattle.lift_policy.specs.Run.{Run}
use Rattle.lift_policy.specs.declared.command.Command.{Command}
use Rattle.lift_keeper.specs.Writer.{WriterView}
use Rattle.lift_world.specs.World.{World, SealedBatch, asks, state_of, safe_list}
use Rattle.lift_world.specs.Next.{goes}
use Rattle.lift_world.specs.Relay.{IsBetweenScans, allocated, allocator_events}
use Rattle.lift_world.specs.Turns.{AreFound, with_replies}
use Rattle.lift_world.specs.lemmas.Steps.{GoesOn, state_goes_on, steps_go_on}
use Rattle.lift_clerk.specs.TakenAndAnswered.{AreApart, ask_of}
use Rattle.lift_clerk.specs.Turn.{without_batch}
use Rattle.lift_clerk.specs.Tied.{SentBatch, entries_sent, command_of, queued_in, on_way, AreQueued, AreDecided, ShowsBoth, RunsWhole, IsTied, LeadsTo}
use Rattle.lift_clerk.specs.Laws.{Laws}
use Rattle.lift_clerk.specs.lemmas.Tied.{not_both, reaches, safe_stays, doubt_stays, nothing_gathered, is_queued}
use Rattle.lift_clerk.specs.lemmas.Found.{AllWait, found, waits}
use Rattle.lift_clerk.specs.lemmas.Words.{asks_both, asks_count}

-- ---- the queue grows by one
queued_more : (batches : List SentBatch) (queue : List SealedBatch) (b : SentBatch) (q : SealedBatch) → AreQueued batches queue → map command_of q.commands ≡ map command_of b.commands
    → AreQueued (batches ++ b ∷ []) (queue ++ q ∷ [])
queued_more [] [] b q k same = (same, tt)
queued_more [] (p ∷ queue) b q k same = absurd k
queued_more (c ∷ batches) [] b q k same = absurd k
queued_more (c ∷ batches) (p ∷ queue) b q k same = (k.0, queued_more batches queue b q k.1 same)

decided_more : (from : ℕ) (batches : List SentBatch) (queue : List SealedBatch) (b : SentBatch) (q : SealedBatch) → AreDecided from batches queue → q.commands ≡ b.commands
    → q.upto ≡ from + length (entries_sent batches) + length b.entries → AreDecided from (batches ++ b ∷ []) (queue ++ q ∷ [])
decided_more from [] [] b q k same ends = (same, omega arith, tt)
decided_more from [] (p ∷ queue) b q k same ends = absurd k
decided_more from (c ∷ batches) [] b q k same ends = absurd k
decided_more from (c ∷ batches) (p ∷ queue) b q k same ends =
    (k.0, k.1, decided_more (from + length c.entries) batches queue b q k.2 same (omega (arith, length-append c.entries (entries_sent batches))))

-- ---- a run's commands, with their replies
pub run_commands : (plan : Plan) (choice : Choice) (state next : State) (cs : List Command) (rs : List Reply) → Run plan choice state cs rs next → map command_of (with_replies cs rs) ≡ cs
run_commands plan choice state next [] rs r = refl
run_commands plan choice state next (c ∷ cs) [] r = absurd r
run_commands plan choice state next (c ∷ cs) (reply ∷ rs) r = ap (λ (ds : List Command). c ∷ ds) (run_commands plan choice r.0 next cs rs r.2)

-- of no commands nothing is decided
pub nothing_decided : (w : World) (cs : List Command) (rs : List Reply) (state : State) → cs ≡ [] → IsBetweenScans w → Run w.building any_eligible (state_of w) cs rs state → state.batch ≡ []
nothing_decided w [] [] state e k r = ap (λ (s : State). s.batch) r ∙ nothing_gathered w k
nothing_decided w [] (reply ∷ rs) state e k r = absurd r
nothing_decided w (c ∷ cs) rs state e k r = absurd (cc)

-- the register of the decided state is that of all that is accepted then
runs_go_on : (plan : Plan) (choice : Choice) (base : RegisterState) (prefix : List Entry) (state next : State) (cs : List Command) (rs : List Reply) → GoesOn base prefix state → Run plan choice state cs rs next → GoesOn base prefix next
runs_go_on plan choice base prefix state next [] [] k r = subst (GoesOn base prefix) (sym r) k
runs_go_on plan choice base prefix state next [] (reply ∷ rs) k r = absurd r
runs_go_on plan choice base prefix state next (c ∷ cs) [] k r = absurd r
runs_go_on plan choice base prefix state next (c ∷ cs) (reply ∷ rs) k r =
    runs_go_on plan choice base prefix r.0 next cs rs (steps_go_on plan choice base prefix state c.terminal c.number c.body reply r.0 k r.1) r.2

register_is : (w : World) (choice : Choice) (cs : List Command) (rs : List Reply) (state : State) → IsBetweenScans w → Run w.building choice (state_of w) cs rs state
    → register_of w.base (w.accepted ++ state.batch) ≡ state.register
register_is w choice cs rs state k r =
    let front : take w.sealed w.accepted ≡ w.accepted = ap (λ (n : ℕ). take n w.accepted) k.all_sealed ∙ take-length w.accepted in
    ap (λ (xs : List Entry). register_of w.base (xs ++ state.batch)) (sym front)
    ∙ sym (runs_go_on w.building choice w.base (take w.sealed w.accepted) (state_of w) state cs rs (state_goes_on w) r)

-- ---- the events
allocates : Laws → (w : World) (cs : List Command) (rs : List Reply) (state : State) → cs ≢ [] → IsBetweenScans w → AreFound w cs → Run w.building any_eligible (state_of w) cs rs state
    → (letters : List (Option ℕ)) × (goes (allocator_events cs letters) w ≡ Some (allocated w cs rs state))
allocates laws w [] rs state some k are r = absurd (some refl)
allocates laws w (c ∷ cs) [] state some k are r = absurd r
allocates laws w (c ∷ cs) (reply ∷ rs) state some k are r = laws.allocations w c cs reply rs state k are r

-- the rules decide these commands on the world's state, and this batch has what they decide
pub record DecidesSo (w : World) (cs : List Command) (batch : SentBatch) (next : State) : Type 0 where
  pub replies : List Reply
  pub decided : State
  pub run : Run w.building any_eligible (state_of w) cs replies decided
  pub commands : batch.commands ≡ with_replies cs replies
  pub entries : batch.entries ≡ decided.batch
  pub after : next ≡ without_batch decided

module _ {D : Type 0} {w : World} {ahead : ℕ → List ℕ} {behind : ℕ → ClerkView} {state : State} {writer : WriterView D} {sent : List SentBatch}
    (laws : Laws) (m : IsTied w ahead behind state writer sent) (cs : List Command) (some : cs ≢ [])
    (room : length w.queue ≤ MOST_BATCHES) (wait : AllWait m.words cs) (apart : AreApart cs)
    (after : ℕ → List ℕ) (grows : (t : ℕ) → after t ≡ ahead t ++ ask_words (suc (length (ahead t))) (map ask_of (filter (asks t) cs)))
    (batch : SentBatch) (same : map command_of batch.commands ≡ cs) (next : State) where
  module _ (rs : List Reply) (decided : State) (run : Run w.building any_eligible (state_of w) cs rs decided) where
    abbrev end : World
    end = allocated w cs rs decided

    abbrev here : ℕ → List Command
    here t = filter (asks t) cs

    held : map command_of (with_replies cs rs) ≡ cs
    held = run_commands w.building any_eligible (state_of w) decided cs rs run

    way_is : (t : ℕ) → on_way end t ≡ on_way w t ++ here t
    way_is t =
        ap (filter (asks t)) (flat_map-append (λ (q : SealedBatch). map command_of q.commands) w.queue (record { commands = with_replies cs rs; upto = length (w.accepted ++ decided.batch) } ∷ [])
        ∙ ap (λ (xs : List Command). queued_in w.queue ++ xs) (append-nil (map command_of (with_replies cs rs)) ∙ held))
        ∙ filter-append (asks t) (queued_in w.queue) cs

    words : (t : ℕ) → ShowsBoth end t (after t) (behind t)
    words t =
        let k = m.words t in
        let rest = waits m.words t cs wait apart in
        let fa : List Command = k.first ++ on_way w t in
        let more : k.first ++ on_way end t ≡ fa ++ here t = ap (λ (xs : List Command). k.first ++ xs) (way_is t) ∙ sym (append_assoc k.first (on_way w t) (here t)) in
        let count : suc (length (ahead t)) ≡ 1 + length (map ask_of fa) = omega (arith, ap length k.taken, asks_count 1 (map ask_of fa)) in
        record {
          first = k.first;
          waiting = rest.0;
          asked = k.asked ∙ ap (λ (xs : List Command). fa ++ xs) rest.1 ∙ sym (append_assoc fa (here t) rest.0) ∙ ap (λ (xs : List Command). xs ++ rest.0) (sym more);
          taken = grows t
              ∙ ap (λ (xs : List ℕ). xs ++ ask_words (suc (length (ahead t))) (map ask_of (here t))) k.taken
              ∙ ap (λ (i : ℕ). ask_words 1 (map ask_of fa) ++ ask_words i (map ask_of (here t))) count
              ∙ sym (asks_both 1 (map ask_of fa) (map ask_of (here t))) ∙ ap (ask_words 1) (sym (map-append ask_of fa (here t)) ∙ ap (map ask_of) (sym more));
          looked = k.looked;
          answered = k.answered;
          even = k.even;
        }

    leads : (letters : List (Option ℕ)) → goes (allocator_events cs letters) w ≡ Some end → (writer.is_broken ≡ false → RunsWhole end next writer (sent ++ batch ∷ []))
        → LeadsTo w (allocator_events cs letters) [] (safe_list w) (λ (v : World). IsTied v after behind next writer (sent ++ batch ∷ []))
    leads letters possible whole = record {
      end = end;
      possible = possible;
      given_is = sym (append-nil w.given);
      safe_is = safe_stays laws w m.reached decided.batch;
      same_building = refl;
      same_base = refl;
      answered_is = sym (append-nil w.answered);
      same_asked = refl;
      same_heard = refl;
      shows = record {
        building = m.building;
        reached = reaches laws w m.reached (allocator_events cs letters) end possible refl refl;
        between = record { nothing_taken = m.between.nothing_taken; all_sealed = refl };
        nothing_due = m.nothing_due;
        safe = ap (register_of w.base) (safe_stays laws w m.reached decided.batch) ∙ m.safe;
        queue = queued_more sent w.queue batch (record { commands = with_replies cs rs; upto = length (w.accepted ++ decided.batch) }) m.queue (held ∙ sym same);
        words = words;
        whole = whole;
        broken = λ e. let k = m.broken e in record {
          between = record { broken = k.between.broken; nothing_flies = k.between.nothing_flies };
          doubt = doubt_stays laws w m.reached decided.batch ∙ k.doubt;
          may_be_kept = k.may_be_kept;
        };
      };
    }

  whole_here : writer.is_broken ≡ false → (d : DecidesSo w cs batch next) → RunsWhole (allocated w cs d.replies d.decided) next writer (sent ++ batch ∷ [])
  whole_here e d =
      let k = m.whole e in
      let registers = register_is w any_eligible cs d.replies d.decided m.between d.run in
      let now : List Entry = w.accepted ++ d.decided.batch in
      let entries : entries_sent (sent ++ batch ∷ []) ≡ entries_sent sent ++ d.decided.batch =
      flat_map-append (λ (x : SentBatch). x.entries) sent (batch ∷ []) ∙ ap (λ (xs : List Entry). entries_sent sent ++ xs) (append-nil batch.entries ∙ d.entries) in
      let safe = safe_stays laws w m.reached d.decided.batch in
      record {
        between = record { running = k.between.running; idle = k.between.idle; nothing_flies = k.between.nothing_flies };
        state_is = ap (λ (x : RegisterState × List Entry). record { register = x.0; positions = d.decided.positions; batch = x.1 }) (λ i. (registers i, drop-length now i)) ∙ sym d.after;
        accepted = ap (λ (xs : List Entry). xs ++ d.decided.batch) k.accepted ∙ append_assoc (safe_list w) (entries_sent sent) d.decided.batch
            ∙ ap (λ (x : List Entry × List Entry). x.0 ++ x.1) (λ i. (sym safe i, sym entries i));
        decided = subst (λ (n : ℕ). AreDecided n (sent ++ batch ∷ []) (w.queue ++ record { commands = with_replies cs d.replies; upto = length now } ∷ [])) (ap length (sym safe))
            (decided_more (length (safe_list w)) sent w.queue batch (record { commands = with_replies cs d.replies; upto = length now }) k.decided (sym d.commands)
            (omega (arith, length-append w.accepted d.decided.batch, ap length k.accepted, length-append (safe_list w) (entries_sent sent), ap length d.entries)));
        no_doubt = k.no_doubt;
      }

  are : AreFound w cs
  are = found m.words laws m.reached (is_queued m) cs room wait apart

  -- while nothing has failed it is decided by the rules; after a fault what is decided is no matter
  by_state : (writer.is_broken ≡ false → DecidesSo w cs batch next) → (b : Bool) → writer.is_broken ≡ b
      → (letters : List (Option ℕ)) × LeadsTo w (allocator_events cs letters) [] (safe_list w) (λ (v : World). IsTied v after behind next writer (sent ++ batch ∷ []))
  by_state decides false e =
      let d = decides e in
      let made = allocates laws w cs d.replies d.decided some m.between are d.run in
      (made.0, leads d.replies d.decided d.run made.0 made.1 (λ whole. whole_here e d))
  by_state decides true e =
      let h = laws.decided w.building (state_of w) cs in
      let made = allocates laws w cs h.0 h.1 some m.between are h.2 in
      (made.0, leads h.0 h.1 h.2 made.0 made.1 (λ whole. not_both writer.is_broken whole e))

  pub allocation : (writer.is_broken ≡ false → DecidesSo w cs batch next)
      → (letters : List (Option ℕ)) × LeadsTo w (allocator_events cs letters) [] (safe_list w) (λ (v : World). IsTied v after behind next writer (sent ++ batch ∷ []))
  allocation decides = by_state decides writer.is_broken refl
