-- What a world of a group shows, and what stays where nothing or a terminal's event happens.
use Rattle.std.proofs.Common.{ℕ, ◌≡◌, ◌-◌, ◌≤◌, Bool, true, false, List, [], ◌∷◌, ◌++◌, length, map, take, drop, Some, refl, sym, ap, subst, ◌∙◌, arith, append_assoc}
use Rattle.std.specs.Prelude.{filter, count_by}
use Rattle.std.specs.List.{flat_map}
use Rattle.std.proofs.Math.Seq.{take-length, drop-length}
use Rattle.std.proofs.lemmas.Bool.{false≢true}
use Rattle.std.proofs.lemmas.List.{append-nil, take-append-le, length-take-le, drop-append-le, length-drop}
use Rattle.std.proofs.lemmas.List.Elements.{filter-append}
use mathlib.Core.List.{map-append}
use Rattle.lift_base.specs.declared.history.Entry.{Entry}
use Rattle.lift_register.specs.Register.{register_of}
use Rattle.lift_desk.specs.declared.view.ClerkView.{ClerkView}
use Rattle.lift_desk.specs.Spelled.{ask_words}
use Rattle.lift_policy.specs.Step.{State}
use Rattle.lift_policy.specs.declared.command.Command.{Command}
use Rattle.lift_keeper.specs.Writer.{WriterView}
use Rattle.lift_world.specs.declared.event.Answer.{Answer}
use Rattle.lift_world.specs.declared.event.Event.{Event}
use Rattle.lift_world.specs.declared.event.Taken.{Taken}
use Rattle.lift_world.specs.World.{World, SealedBatch, start, asks, is_answer_to, is_off, state_of, safe_list, batch_in_flight}
use Rattle.lift_world.specs.Next.{run, goes, unanswered, answer_of}
use Rattle.lift_world.specs.Beside.{with_words}
use Rattle.lift_world.specs.Headline.{HearsInOrder, AllAskOneByOne}
use Rattle.lift_world.specs.Relay.{IsQueueInOrder, IsBetweenScans, flown}
use Rattle.lift_world.specs.Turns.{IsAtRest, IsBrokenAtRest}
use Rattle.lift_world.specs.lemmas.Goes.{joined}
use Rattle.lift_world.specs.lemmas.Ordered.{end_above}
use Rattle.lift_clerk.specs.TakenAndAnswered.{answer_words, ask_of}
use Rattle.lift_clerk.specs.Tied.{SentBatch, command_of, queued_in, on_way, AreQueued, AreDecided, ShowsBoth, IsReached, IsTied, LeadsTo}
use Rattle.lift_clerk.specs.Laws.{Laws}

module _ (laws : Laws) (w : World) (reached : IsReached w) where
  pub order : IsQueueInOrder w
  order = subst IsQueueInOrder reached.1 (laws.in_order w.building w.base reached.0)

  pub hears : HearsInOrder w
  hears = subst HearsInOrder reached.1 (laws.hears w.building w.base reached.0)

  pub one_by_one : AllAskOneByOne w
  one_by_one = subst AllAskOneByOne reached.1 (laws.one_by_one w.building w.base reached.0)

  pub reaches : (events : List Event) (end : World) → goes events w ≡ Some end
      → end.building ≡ w.building → end.base ≡ w.base → IsReached end
  reaches events end e b s = (
    reached.0 ++ events,
    ap (λ x. run (reached.0 ++ events) (start x end.base)) b ∙ ap (λ x. run (reached.0 ++ events) (start w.building x)) s ∙ laws.joined
        (start w.building w.base) reached.0 events ∙ ap (run events) reached.1 ∙ laws.possible w events end
        e,
  )

  -- how far the accepted entries are safe, or in doubt
  safe_within : w.safe ≤ length w.accepted
  safe_within =
      let k = order in
      let first = k.safe_first in
      let last = end_above (flown w) w.queue w.sealed k.in_order in
      let all = k.all_accepted in
      omega arith

  doubt_within : w.flight.upto ≤ length w.accepted
  doubt_within = let k = order in let doubt = k.doubt in let all = k.all_accepted in omega arith

  pub safe_stays : (batch : List Entry) → take w.safe (w.accepted ++ batch) ≡ safe_list w
  safe_stays batch = take-append-le w.safe w.accepted batch safe_within

  pub safe_long : length (safe_list w) ≡ w.safe
  safe_long = length-take-le w.safe w.accepted safe_within

  pub doubt_stays : (batch : List Entry) → take (w.flight.upto - w.safe) (drop w.safe (w.accepted ++ batch)) ≡ batch_in_flight w
  doubt_stays batch =
      let l = length-drop w.safe w.accepted in
      let upto = doubt_within in
      ap (take (w.flight.upto - w.safe)) (drop-append-le w.safe w.accepted batch safe_within)
      ∙ take-append-le (w.flight.upto - w.safe) (drop w.safe w.accepted) batch (omega arith)

pub not_both : {A : Type 0} (b : Bool) → b ≡ false → b ≡ true → A
not_both b isnt is = absurd (false≢true (sym isnt ∙ is))

-- two lists of events, one after the other
pub leads_both : (w : World) (xs ys : List Event) (given : List Taken) (mid safe : List Entry) (IsMid IsSo : World → Type 0) (k : LeadsTo w xs [] mid IsMid) → LeadsTo k.end ys given safe IsSo
    → LeadsTo w (xs ++ ys) given safe IsSo
leads_both w xs ys given mid safe IsMid IsSo k l = record {
  end = l.end;
  possible = joined xs ys w k.end k.possible ∙ l.possible;
  given_is = l.given_is ∙ ap (λ (ts : List Taken). ts ++ given) (k.given_is ∙ append-nil w.given);
  safe_is = l.safe_is;
  same_building = l.same_building ∙ k.same_building;
  same_base = l.same_base ∙ k.same_base;
  answered_is = l.answered_is ∙ ap (λ (xs : List Answer). xs ++ map answer_of given) (k.answered_is ∙ append-nil w.answered);
  same_asked = l.same_asked ∙ k.same_asked;
  same_heard = l.same_heard ∙ k.same_heard;
  shows = l.shows;
}

-- what is so at the end may be said in another way
pub leads_so : {w : World} {events : List Event} {given : List Taken} {safe : List Entry} {IsSo Other : World → Type 0} → (k : LeadsTo w events given safe IsSo)
    → ((end : World) → end.building ≡ w.building → IsSo end → Other end) → LeadsTo w events given safe Other
leads_so k other = record {
  end = k.end;
  possible = k.possible;
  given_is = k.given_is;
  safe_is = k.safe_is;
  same_building = k.same_building;
  same_base = k.same_base;
  answered_is = k.answered_is;
  same_asked = k.same_asked;
  same_heard = k.same_heard;
  shows = other k.end k.same_building k.shows;
}

pub empty_of : {A : Type 0} (xs : List A) → length xs ≡ 0 → xs ≡ []
empty_of [] e = refl
empty_of (x ∷ xs) e = absurd (omega arith)

-- what is sealed isn't gathered any more
pub nothing_gathered : (w : World) → IsBetweenScans w → (state_of w).batch ≡ []
nothing_gathered w k = ap (λ (n : ℕ). drop n w.accepted) k.all_sealed ∙ drop-length w.accepted

-- ---- what is on its way
abbrev pub flat : List SealedBatch → List Taken
flat queue = flat_map (λ (q : SealedBatch). q.commands) queue

pub queued_is : (queue : List SealedBatch) → queued_in queue ≡ map command_of (flat queue)
queued_is [] = refl
queued_is (q ∷ queue) = ap (λ (cs : List Command). map command_of q.commands ++ cs) (queued_is queue) ∙ sym (map-append command_of q.commands (flat queue))

pub none_queued : (w : World) (t : ℕ) → w.queue ≡ [] → on_way w t ≡ []
none_queued w t none = ap (λ (q : List SealedBatch). filter (asks t) (queued_in q)) none

-- the power is on, and all that is unanswered is queued
pub record OnlyQueued (w : World) : Type 0 where
  pub on : is_off w.power ≡ false
  pub all : unanswered w ≡ flat w.queue

only_queued : (w : World) → w.due ≡ [] → w.flight.commands ≡ [] → w.taken ≡ [] → unanswered w ≡ flat w.queue
only_queued w d f t =
    ap (λ (xs : List Taken). xs ++ w.flight.commands ++ flat w.queue ++ w.taken) d
    ∙ ap (λ (xs : List Taken). xs ++ flat w.queue ++ w.taken) f
    ∙ ap (λ (xs : List Taken). flat w.queue ++ xs) t ∙ append-nil (flat w.queue)

module _ {D : Type 0} {w : World} {ahead : ℕ → List ℕ} {behind : ℕ → ClerkView} {state : State} {writer : WriterView D} {sent : List SentBatch}
    (m : IsTied w ahead behind state writer sent) where
  pub is_queued : OnlyQueued w
  is_queued = by_state writer.is_broken refl
    where
      by_state : (b : Bool) → writer.is_broken ≡ b → OnlyQueued w
      by_state false e =
          let k = (m.whole e).between in
          record { on = ap is_off k.running; all = only_queued w m.nothing_due (ap (λ (b : SealedBatch). b.commands) k.nothing_flies) m.between.nothing_taken }
      by_state true e =
          let k = (m.broken e).between in
          record { on = ap is_off k.broken; all = only_queued w m.nothing_due k.nothing_flies m.between.nothing_taken }

  -- what terminals ask and hear changes nothing else
  abbrev pub asked_more : (more : List Command) (heard : List Answer) → IsReached (with_words w (w.asked ++ more) heard) → IsTied (with_words w (w.asked ++ more) heard) ahead behind state writer sent
  asked_more more heard reached = record {
    building = m.building;
    reached = reached;
    between = record { nothing_taken = m.between.nothing_taken; all_sealed = m.between.all_sealed };
    nothing_due = m.nothing_due;
    safe = m.safe;
    queue = m.queue;
    words = λ t. let k = m.words t in record {
      first = k.first;
      waiting = k.waiting ++ filter (asks t) more;
      asked = filter-append (asks t) w.asked more ∙ ap (λ (cs : List Command). cs ++ filter (asks t) more) k.asked ∙ append_assoc (k.first ++ on_way w t) k.waiting (filter (asks t) more);
      taken = k.taken;
      looked = k.looked;
      answered = k.answered;
      even = k.even;
    };
    whole = λ e. let k = m.whole e in record {
      between = record { running = k.between.running; idle = k.between.idle; nothing_flies = k.between.nothing_flies };
      state_is = k.state_is;
      accepted = k.accepted;
      decided = k.decided;
      no_doubt = k.no_doubt;
    };
    broken = λ e. let k = m.broken e in record {
      between = record { broken = k.between.broken; nothing_flies = k.between.nothing_flies };
      doubt = k.doubt;
      may_be_kept = k.may_be_kept;
    };
  }

-- words that are the same show the same
pub same_words : (w end : World) (t : ℕ) (ahead after : List ℕ) (behind later : ClerkView) → end.asked ≡ w.asked → end.answered ≡ w.answered → end.queue ≡ w.queue → after ≡ ahead
    → later.taken ≡ behind.taken → later.answered ≡ behind.answered → ShowsBoth w t ahead behind → ShowsBoth end t after later
same_words w end t ahead after behind later a s q taken looked answered k =
    let way : on_way end t ≡ on_way w t = ap (λ (xs : List SealedBatch). filter (asks t) (queued_in xs)) q in
    record {
      first = k.first;
      waiting = k.waiting;
      asked = ap (filter (asks t)) a ∙ k.asked ∙ ap (λ (cs : List Command). (k.first ++ cs) ++ k.waiting) (sym way);
      taken = taken ∙ k.taken ∙ ap (λ (cs : List Command). ask_words 1 (map ask_of (k.first ++ cs))) (sym way);
      looked = looked ∙ k.looked;
      answered = answered ∙ k.answered ∙ ap (λ (xs : List Answer). answer_words 1 (filter (is_answer_to t) xs)) (sym s);
      even = k.even ∙ ap (count_by (is_answer_to t)) (sym s);
    }

-- what else shows the same is tied too
pub record ShowsSame {D : Type 0} (w : World) (ahead after : ℕ → List ℕ) (behind later : ℕ → ClerkView) (state next : State) (old new : WriterView D) : Type 0 where
  pub ahead_is : (t : ℕ) → after t ≡ ahead t
  pub looked_is : (t : ℕ) → (later t).taken ≡ (behind t).taken
  pub answered_is : (t : ℕ) → (later t).answered ≡ (behind t).answered
  pub state_is : new.is_broken ≡ false → state_of w ≡ state → next ≡ state
  pub plan : new.plan ≡ old.plan
  pub register : new.register ≡ old.register
  pub doubt : new.doubt ≡ old.doubt
  pub broken : new.is_broken ≡ old.is_broken

pub same_tied : {D : Type 0} {w : World} {ahead after : ℕ → List ℕ} {behind later : ℕ → ClerkView} {state next : State} {old new : WriterView D} {sent : List SentBatch}
    → ShowsSame w ahead after behind later state next old new → IsTied w ahead behind state old sent → IsTied w after later next new sent
same_tied {D} {w} {ahead} {after} {behind} {later} {state} {next} {old} {new} {sent} s m = record {
  building = m.building ∙ sym s.plan;
  reached = m.reached;
  between = m.between;
  nothing_due = m.nothing_due;
  safe = m.safe ∙ sym s.register;
  queue = m.queue;
  words = λ t. same_words w w t (ahead t) (after t) (behind t) (later t) refl refl refl (s.ahead_is t) (s.looked_is t) (s.answered_is t) (m.words t);
  whole = λ e. let k = m.whole (sym s.broken ∙ e) in record {
    between = k.between;
    state_is = k.state_is ∙ sym (s.state_is e k.state_is);
    accepted = k.accepted;
    decided = k.decided;
    no_doubt = s.doubt ∙ k.no_doubt;
  };
  broken = λ e. let k = m.broken (sym s.broken ∙ e) in record {
    between = k.between;
    doubt = k.doubt ∙ sym s.doubt;
    may_be_kept = λ some. k.may_be_kept (λ none. some (s.doubt ∙ none));
  };
}

-- ---- a group with nothing on its way
queue_none : (queue : List SealedBatch) → AreQueued [] queue → queue ≡ []
queue_none [] k = refl
queue_none (q ∷ queue) k = absurd k

module _ {D : Type 0} {w : World} {ahead : ℕ → List ℕ} {behind : ℕ → ClerkView} {state : State} {writer : WriterView D} (m : IsTied w ahead behind state writer []) where
  pub nothing_queued : w.queue ≡ []
  nothing_queued = queue_none w.queue m.queue

  pub asked_here : (t : ℕ) → filter (asks t) w.asked ≡ (m.words t).first ++ (m.words t).waiting
  asked_here t =
      let k = m.words t in
      k.asked ∙ ap (λ (cs : List Command). cs ++ k.waiting) (ap (λ (cs : List Command). k.first ++ cs) (none_queued w t nothing_queued) ∙ append-nil k.first)

  pub rests : Laws → writer.is_broken ≡ false → IsAtRest w
  rests laws e = (laws.parts w).rejoined (order laws w m.reached) m.between (m.whole e).between nothing_queued m.nothing_due

  pub rests_broken : Laws → writer.is_broken ≡ true → IsBrokenAtRest w
  rests_broken laws e = (laws.parts w).rejoined_broken (order laws w m.reached) m.between (m.broken e).between nothing_queued m.nothing_due

pub safe_all : (w : World) → IsAtRest w → safe_list w ≡ w.accepted
safe_all w k = ap (λ (n : ℕ). take n w.accepted) k.all_safe ∙ take-length w.accepted

-- a world at rest is of a whole clerk that shows it, and one after a fault of a broken one
module _ {D : Type 0} (laws : Laws) (w : World) (view : ℕ → ClerkView) (state : State) (writer : WriterView D) (building : w.building ≡ writer.plan) (reached : IsReached w)
    (safe : register_of w.base (safe_list w) ≡ writer.register) (words : (t : ℕ) → ShowsBoth w t (view t).taken (view t)) where
  pub tied_at_rest : IsAtRest w → writer.is_broken ≡ false → state_of w ≡ state → writer.doubt ≡ [] → IsTied w (λ t. (view t).taken) view state writer []
  tied_at_rest k whole is none = record {
    building = building;
    reached = reached;
    between = ((laws.parts w).split k).0;
    nothing_due = k.nothing_due;
    safe = safe;
    queue = subst (AreQueued []) (sym k.nothing_queued) tt;
    words = words;
    whole = λ e. record {
      between = ((laws.parts w).split k).1;
      state_is = is;
      accepted = sym (safe_all w k) ∙ sym (append-nil (safe_list w));
      decided = subst (AreDecided (length (safe_list w)) []) (sym k.nothing_queued) tt;
      no_doubt = none;
    };
    broken = λ e. not_both writer.is_broken whole e;
  }

  pub tied_broken : IsBrokenAtRest w → writer.is_broken ≡ true → batch_in_flight w ≡ [] → writer.doubt ≡ [] → IsTied w (λ t. (view t).taken) view state writer []
  tied_broken k broken none no_doubt = record {
    building = building;
    reached = reached;
    between = ((laws.parts w).split_broken k).0;
    nothing_due = k.nothing_due;
    safe = safe;
    queue = subst (AreQueued []) (sym k.nothing_queued) tt;
    words = words;
    whole = λ e. not_both writer.is_broken e broken;
    broken = λ e. record { between = ((laws.parts w).split_broken k).1; doubt = none ∙ sym no_doubt; may_be_kept = λ some. absurd (some no_doubt) };
  }
