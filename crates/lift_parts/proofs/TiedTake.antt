-- What a scan that took something leads to.
use Rattle.std.proofs.Common.{ℕ, suc, ◌≡◌, ◌≢◌, ◌≤◌, List, [], ◌∷◌, ◌++◌, length, map, Option, refl, sym, ap, subst, ◌∙◌, arith, append_assoc}
use Rattle.std.specs.List.{AllByRecursion}
use Rattle.std.proofs.lemmas.List.{length-append, length-map}
use mathlib.Core.List.{map-append}
use Rattle.lift_base.specs.declared.limits.TheConstants.{MOST_BATCHES}
use Rattle.lift_base.specs.declared.command.Reply.{Reply}
use Rattle.lift_desk.specs.Seats.{ClerkPlace, view_at}
use Rattle.lift_policy.specs.Eligible.{Choice}
use Rattle.lift_policy.specs.declared.command.Command.{Command}
use Rattle.lift_world.specs.World.{World, SealedBatch, safe_list}
use Rattle.lift_world.specs.Policies.{RunsAreAny}
use Rattle.lift_world.specs.Relay.{allocator_events}
use Rattle.lift_world.specs.Turns.{with_replies}
use Rattle.lift_clerk.specs.Visits.{commands_of, looked_at}
use Rattle.lift_clerk.specs.declared.counts.Counts.{Counts}
use Rattle.lift_clerk.specs.Tied.{SentBatch, AreQueued, IsTied}
use Rattle.lift_clerk.specs.Laws.{Laws}
use Rattle.lift_clerk.specs.lemmas.Served.{all_apart}
use Rattle.lift_clerk.specs.lemmas.Asked.{run_in}
use Rattle.lift_clerk.specs.lemmas.Looking.{length-looked}
use Rattle.lift_clerk.specs.lemmas.Tied.{leads_so}
use Rattle.lift_clerk.specs.lemmas.Found.{AllWait}
use Rattle.lift_clerk.specs.lemmas.Allocated.{allocation}
use Rattle.lift_parts.proofs.Answering.{commands_held, with_replies_as}
use Rattle.lift_parts.specs.Batch.{BatchState, AreBelow, commands_in, replies_in}
use Rattle.lift_parts.specs.Allocator.{AllocatorState, IsScanTurn}
use Rattle.lift_parts.specs.Flusher.{FlusherState}
use Rattle.lift_parts.specs.Tie.{sent_as, IsRelayOf, LeadsOn, TakesAsked, AllTakesAsked, HasRoom, ScansAreAllocations}
use Rattle.lift_parts.proofs.TiedScan.{Reads, looks_from, left, below}

-- where the line has room for the scan's batch it had room before
queued_long : (batches : List SentBatch) (queue : List SealedBatch) → AreQueued batches queue → length queue ≡ length batches
queued_long [] [] k = refl
queued_long [] (q ∷ queue) k = absurd k
queued_long (b ∷ batches) [] k = absurd k
queued_long (b ∷ batches) (q ∷ queue) k = ap suc (queued_long batches queue k.1)

few_before : {D P : Type 0} (choice : Choice) (w : World) (a b : AllocatorState P) (f : FlusherState D) (counts : Counts) (t : IsScanTurn choice a b counts) → HasRoom b f → IsRelayOf w a f → length w.queue ≤ MOST_BATCHES
few_before choice w a b f counts t room m =
    let long = queued_long (map sent_as m.waiting) w.queue m.tied.queue in
    omega (
      arith,
      length-map m.waiting sent_as,
      ap length m.line,
      length-append f.end.received m.waiting,
      ap length t.sent.1,
      length-append (a.end.sent ++ a.hand) t.sent.0,
    )

below_more : (count : ℕ) (batches : List BatchState) (b : BatchState) → AllByRecursion (λ (x : BatchState). AreBelow count (commands_in x.commands)) batches → AreBelow count (commands_in b.commands)
    → AllByRecursion (λ (x : BatchState). AreBelow count (commands_in x.commands)) (batches ++ b ∷ [])
below_more count [] b all one = (one, tt)
below_more count (x ∷ batches) b all one = (all.0, below_more count batches b all.1 one)

module _ {D P : Type 0} (laws : Laws) (choice : Choice) (any : RunsAreAny choice) (w : World) (a b : AllocatorState P) (f : FlusherState D) (counts : Counts) (t : IsScanTurn choice a b counts)
    (some : commands_of 0 t.visits ≢ []) (few : length w.queue ≤ MOST_BATCHES) (m : IsRelayOf w a f)
    (looks : Reads a.seat t.visits × AllWait m.tied.words (commands_of 0 t.visits)) where
  abbrev cs : List Command
  cs = commands_of 0 t.visits

  abbrev replies : List Reply
  replies = replies_in t.batch.commands

  shown : (end : World) → end.building ≡ w.building → IsTied end (λ (n : ℕ). (view_at b.seat n).taken) (view_at f.seat) b.state f.writer (map sent_as m.waiting ++ sent_as t.batch ∷ []) → IsRelayOf end b f
  shown end building k = record {
    building = building ∙ m.building ∙ sym t.same_place.1;
    seats = ap (λ (s : List ClerkPlace). length s) t.looked ∙ length-looked a.seat t.visits ∙ m.seats;
    waiting = m.waiting ++ t.batch ∷ [];
    line = t.some some ∙ ap (λ (xs : List BatchState). xs ++ t.batch ∷ []) m.line ∙ append_assoc f.end.received m.waiting (t.batch ∷ []);
    below = below_more (length f.seat) m.waiting t.batch m.below (subst (AreBelow (length f.seat)) (sym t.commands) (below (length f.seat) 0 a.seat t.visits (let s = m.seats in omega arith) t.takes));
    received = m.received;
    tied = subst (IsTied end (λ (n : ℕ). (view_at b.seat n).taken) (view_at f.seat) b.state f.writer) (sym (map-append sent_as m.waiting (t.batch ∷ []))) k;
  }

  pub allocates : (letters : List (Option ℕ)) × LeadsOn w (allocator_events cs letters) [] (safe_list w) b f
  allocates =
      let k = allocation laws m.tied cs some few looks.1 (all_apart 0 t.visits)
      (λ (n : ℕ). (view_at b.seat n).taken) (λ n. ap (λ (s : List ClerkPlace). (view_at s n).taken) t.looked ∙ left a.seat t.visits 0 looks.0 n n (omega arith))
      (sent_as t.batch) (commands_held t.batch.commands ∙ t.commands) b.state
      (λ e. record {
        replies = replies;
        decided = t.decided;
        run = run_in choice any w a.plan a.state cs replies t.decided m.building (m.tied.whole e).state_is t.run;
        commands = sym (ap (λ (xs : List Command). with_replies xs replies) (sym t.commands) ∙ with_replies_as t.batch.commands);
        entries = t.entries;
        after = t.after;
      }) in
      (k.0, leads_so k.1 shown)

-- by the desk's rule each look finds what was asked
pub looks_asked : {D P : Type 0} (laws : Laws) (choice : Choice) (w : World) (a b : AllocatorState P) (f : FlusherState D) (counts : Counts) (t : IsScanTurn choice a b counts)
    (m : IsRelayOf w a f) → AllTakesAsked w.asked b.seat
    → Reads a.seat t.visits × AllWait m.tied.words (commands_of 0 t.visits)
looks_asked laws choice w a b f counts t m asked =
    looks_from laws w m.tied.reached (view_at a.seat) (view_at f.seat) m.tied.words 0 a.seat t.visits
    (λ k n e. let same : k ≡ n = omega arith in ap (view_at a.seat) same) t.takes
    (λ k n e. let same : n ≡ k = omega arith in subst (TakesAsked w.asked n) (ap (λ (s : List ClerkPlace). view_at s n) t.looked ∙ ap (view_at (looked_at a.seat t.visits)) same) (asked n))

pub scans_are_allocations : {D P : Type 0} → Laws → (choice : Choice) → RunsAreAny choice → ScansAreAllocations D P choice
scans_are_allocations laws choice any w a b f counts t some asked room m =
    allocates laws choice any w a b f counts t some (few_before choice w a b f counts t room m) m (looks_asked laws choice w a b f counts t m asked)
