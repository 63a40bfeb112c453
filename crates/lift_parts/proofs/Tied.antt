-- What the worlds of the two parts show, where nothing happens.
use Rattle.std.proofs.Common.{ℕ, zero, suc, ◌≡◌, false, List, [], ◌∷◌, ◌++◌, length, map, refl, sym, ap, subst, ◌∙◌, arith}
use Rattle.std.proofs.lemmas.List.{append-nil, length-append, length-map}
use Rattle.lift_desk.specs.Spelled.{ask_words}
use Rattle.lift_desk.specs.Seats.{ClerkPlace, view_at, ahead_from}
use Rattle.lift_desk.specs.lemmas.Places.{words_with_looks}
use Rattle.lift_policy.specs.Step.{State}
use Rattle.lift_policy.specs.declared.command.Command.{Command}
use Rattle.lift_keeper.specs.Writer.{WriterView}
use Rattle.lift_world.specs.World.{World, state_of}
use Rattle.lift_clerk.specs.TakenAndAnswered.{ask_of}
use Rattle.lift_clerk.specs.Tied.{IsTied}
use Rattle.lift_clerk.specs.Laws.{Laws}
use Rattle.lift_clerk.specs.lemmas.Between.{terminals_keep}
use Rattle.lift_clerk.specs.lemmas.Tied.{none_queued, nothing_queued, nothing_gathered, same_tied}
use Rattle.lift_clerk.specs.lemmas.Turned.{without_none}
use Rattle.lift_parts.specs.Batch.{BatchState}
use Rattle.lift_parts.specs.Allocator.{AllocatorState}
use Rattle.lift_parts.specs.Flusher.{FlusherState}
use Rattle.lift_parts.specs.Tie.{sent_as, IsRelayOf, SplitsAreNoEvents, RejoiningsAreNoEvents, FullTurnsAreNoEvents, EmptyTurnsAreNoEvents, SendingsAreNoEvents, TellingsAreNoEvents, TerminalsPreserveParts}

view_ahead : (clerk : List ClerkPlace) (t : ℕ) → (view_at (ahead_from clerk) t).taken ≡ (view_at clerk t).taken
view_ahead [] t = refl
view_ahead (p ∷ clerk) zero = refl
view_ahead (p ∷ clerk) (suc t) = view_ahead clerk t

-- a clerk is two parts with nothing on its way
pub splits_are_no_events : {D P : Type 0} → SplitsAreNoEvents D P
splits_are_no_events {D} w clerk a f p is m = record {
  building = m.building ∙ sym p.plan;
  seats = ap (λ (s : List ClerkPlace). length s) p.ahead ∙ length-map clerk.seat _ ∙ ap (λ (s : List ClerkPlace). length s) (sym p.seat);
  waiting = [];
  line = ap (λ (q : List BatchState × List BatchState × List BatchState). (q.0 ++ q.1)) (λ i. (p.nothing_sent.0 i, p.nothing_sent.4 i, [])) ∙ sym (append-nil f.end.received ∙ p.nothing_sent.2);
  below = tt;
  received = is.safe;
  tied = same_tied (record {
    ahead_is = λ t. ap (λ (s : List ClerkPlace). (view_at s t).taken) p.ahead ∙ view_ahead clerk.seat t;
    looked_is = λ t. ap (λ (s : List ClerkPlace). (view_at s t).taken) p.seat;
    answered_is = λ t. ap (λ (s : List ClerkPlace). (view_at s t).answered) p.seat;
    state_is = λ e q. p.state ∙ without_none clerk.keeper.state (ap (λ (s : State). s.batch) (sym q) ∙ nothing_gathered w m.between);
    plan = ap (λ (v : WriterView D). v.plan) p.writer;
    register = ap (λ (v : WriterView D). v.register) p.writer;
    doubt = ap (λ (v : WriterView D). v.doubt) p.writer;
    broken = ap (λ (v : WriterView D). v.is_broken) p.writer;
  }) m;
}

-- another allocator that shows the same, which may have decided nothing, after a fault too
pub shown_same : {D P : Type 0} (w : World) (a b : AllocatorState P) (f : FlusherState D) → b.plan ≡ a.plan → (f.writer.is_broken ≡ false → state_of w ≡ a.state → b.state ≡ a.state) → length b.seat ≡ length a.seat
    → b.end.sent ++ b.hand ≡ a.end.sent ++ a.hand → ((t : ℕ) → (view_at b.seat t).taken ≡ (view_at a.seat t).taken) → IsRelayOf w a f → IsRelayOf w b f
shown_same w a b f plan state seats sent taken m = record {
  building = m.building ∙ sym plan;
  seats = seats ∙ m.seats;
  waiting = m.waiting;
  line = sent ∙ m.line;
  below = m.below;
  received = m.received;
  tied = same_tied (record { ahead_is = taken; looked_is = λ t. refl; answered_is = λ t. refl; state_is = state; plan = refl; register = refl; doubt = refl; broken = refl }) m.tied;
}

-- what is tried and refused shows nothing
pub full_turns : {D P : Type 0} → FullTurnsAreNoEvents D P
full_turns {D} {P} w a b f counts t m =
    shown_same w a b f (ap (λ (x : AllocatorState P). x.plan) t.same) (λ e q. ap (λ (x : AllocatorState P). x.state) t.same) (ap (λ (x : AllocatorState P). length x.seat) t.same)
    (ap (λ (x : AllocatorState P). x.end.sent ++ x.hand) t.same) (λ n. ap (λ (x : AllocatorState P). (view_at x.seat n).taken) t.same) m

pub empty_turns : {D P : Type 0} → EmptyTurnsAreNoEvents D P
empty_turns {D} {P} w a f g result t m =
    subst (λ (x : FlusherState D). IsRelayOf w a x) (sym t.same)
    (record { building = m.building; seats = m.seats; waiting = m.waiting; line = m.line; below = m.below; received = m.received; tied = m.tied })

pub sendings : {D P : Type 0} → SendingsAreNoEvents D P
sendings {D} {P} w a b f s m =
    shown_same w a b f (ap (λ (x : AllocatorState P). x.plan) s.same) (λ e q. ap (λ (x : AllocatorState P). x.state) s.same) (ap (λ (x : AllocatorState P). length x.seat) s.same)
    (ap (λ (hand : List BatchState). b.end.sent ++ hand) (ap (λ (x : AllocatorState P). x.hand) s.same) ∙ append-nil b.end.sent ∙ s.sent)
    (λ t. ap (λ (x : AllocatorState P). (view_at x.seat t).taken) s.same) m

-- told where the other stands, each part shows the same
pub tellings : {D P : Type 0} → TellingsAreNoEvents D P
tellings {D} {P} w a b f g t m =
    subst (λ (x : AllocatorState P × FlusherState D). IsRelayOf w x.0 x.1) (λ i. (sym t.allocator i, sym t.flusher i))
    (record { building = m.building; seats = m.seats; waiting = m.waiting; line = m.line; below = m.below; received = m.received; tied = m.tied })

-- nor do terminals change more
pub terminals_keep_parts : {D P : Type 0} → Laws → TerminalsPreserveParts D P
terminals_keep_parts laws w end a f event own e m = record {
  building = (terminals_keep laws w end event own e m.tied).building ∙ sym m.tied.building ∙ m.building;
  seats = m.seats;
  waiting = m.waiting;
  line = m.line;
  below = m.below;
  received = m.received;
  tied = terminals_keep laws w end event own e m.tied;
}

-- what was sent was received
none_waits : (sent hand received waiting : List BatchState) → sent ++ hand ≡ received ++ waiting → hand ≡ [] → length sent ≡ length received → waiting ≡ []
none_waits sent hand received [] e none same = refl
none_waits sent hand received (b ∷ waiting) e none same =
    absurd (omega (arith, ap length e, ap length none, length-append sent hand, length-append received (b ∷ waiting)))

pub rejoinings : {D P : Type 0} → RejoiningsAreNoEvents D P
rejoinings {D} w a f clerk r m =
    let none : m.waiting ≡ [] = none_waits a.end.sent a.hand f.end.received m.waiting m.line r.nothing_in_hand (ap length r.all_received) in
    let tied = subst (λ (xs : List BatchState). IsTied w (λ (t : ℕ). (view_at a.seat t).taken) (view_at f.seat) a.state f.writer (map sent_as xs)) none m.tied in
    same_tied (record {
      ahead_is = λ t.
          let k = tied.words t in
          ap (λ (s : List ClerkPlace). (view_at s t).taken) r.seat ∙ (words_with_looks a.seat f.seat t).0 ∙ k.looked
          ∙ ap (λ (cs : List Command). ask_words 1 (map ask_of cs)) (sym (ap (λ (cs : List Command). k.first ++ cs) (none_queued w t (nothing_queued tied)) ∙ append-nil k.first)) ∙ sym k.taken;
      looked_is = λ t. ap (λ (s : List ClerkPlace). (view_at s t).taken) r.seat ∙ (words_with_looks a.seat f.seat t).0;
      answered_is = λ t. ap (λ (s : List ClerkPlace). (view_at s t).answered) r.seat ∙ (words_with_looks a.seat f.seat t).1;
      state_is = λ e q. r.state;
      plan = ap (λ (v : WriterView D). v.plan) r.writer;
      register = ap (λ (v : WriterView D). v.register) r.writer;
      doubt = ap (λ (v : WriterView D). v.doubt) r.writer;
      broken = ap (λ (v : WriterView D). v.is_broken) r.writer;
    }) tied
