-- What crashes leave, and the letters that it shows.
use Rattle.std.proofs.Common.{ℕ, suc, ◌≡◌, ◌≢◌, ◌+◌, inl, inr, Bool, true, false, List, [], ◌∷◌, ◌++◌, length, map, Some, refl, sym, ap, subst, ◌∙◌}
use Rattle.std.specs.Prelude.{IsTrue, All, filter}
use Rattle.std.specs.List.{flat_map}
use Rattle.std.proofs.lemmas.List.{append-nil}
use Rattle.lift_base.specs.declared.history.Entry.{Entry}
use Rattle.lift_building.specs.Plan.{Plan, IsBuilding}
use Rattle.lift_disk.specs.Disk.{Image}
use Rattle.lift_desk.specs.Spelled.{ask_words}
use Rattle.lift_desk.specs.Seats.{view_at}
use Rattle.lift_keeper.specs.Images.{IsImageOf, IsInDoubt}
use Rattle.lift_register.specs.Register.{RegisterState, register_of}
use Rattle.lift_policy.specs.Eligible.{any_eligible}
use Rattle.lift_policy.specs.Run.{Run}
use Rattle.lift_policy.specs.declared.command.Command.{Command}
use Rattle.lift_world.specs.declared.event.Event.{Event}
use Rattle.lift_world.specs.declared.event.Event.TheVariants.{Pull, Cut, Reopen}
use Rattle.lift_world.specs.declared.event.Kept.{Kept}
use Rattle.lift_world.specs.declared.event.Kept.TheVariants.{Safe, WithBatch}
use Rattle.lift_world.specs.declared.event.Phase.TheVariants.{GateWritten}
use Rattle.lift_world.specs.declared.event.Taken.{Taken}
use Rattle.lift_world.specs.World.{World, state_of, safe_list, batch_in_flight, may_keep, outcome, acknowledged, acknowledged_in, asks}
use Rattle.lift_world.specs.Next.{goes, sectors_for_body}
use Rattle.lift_world.specs.Asking.{asked_on}
use Rattle.lift_world.specs.Headline.{IsHeld, IsOfBuilding, StillNames, RecoversAcknowledged, RecoversLetters}
use Rattle.lift_world.specs.Relay.{allocator_events}
use Rattle.lift_world.specs.Turns.{calls_to, with_replies}
use Rattle.lift_world.specs.lemmas.Goes.{joined}
use Rattle.lift_keeper.specs.lemmas.Keepers.{nothing_after}
use Rattle.lift_clerk.specs.Clerk.{ClerkState}
use Rattle.lift_clerk.specs.Turn.{without_batch}
use Rattle.lift_clerk.specs.TakenAndAnswered.{ask_of}
use Rattle.lift_clerk.specs.Tied.{SentBatch, IsReached, RunsBroken}
use Rattle.lift_clerk.specs.Machine.{LooksAgree, IsMachineOf, WaitsNowhere, kept_after}
use Rattle.lift_clerk.specs.History.{BeginsOver}
use Rattle.lift_clerk.specs.Laws.{Laws}
use Rattle.lift_clerk.specs.Steps.{DecidesOn, MayAdd}
use Rattle.lift_clerk.specs.lemmas.Tied.{reaches, asked_more}
use Rattle.lift_clerk.specs.lemmas.Allocated.{allocation, run_commands, nothing_decided}
use Rattle.lift_clerk.specs.lemmas.Flushed.{at_gate, to_gate, in_doubt}
use Rattle.lift_clerk.specs.lemmas.Standing.{fresh, splits_of, all_wait}
use Rattle.lift_clerk.specs.lemmas.Asked.{Asked, ask, resting}
use Rattle.lift_clerk.specs.lemmas.Turned.{register_with, decided_in}
use Rattle.lift_clerk.specs.lemmas.Reopened.{begins_after_cut}

-- some power cut now would keep these entries, and the image reads as their register
pub record IsKept (w : World) (entries : List Entry) (left : Image) : Type 0 where
  pub kept : Kept
  pub may_be_kept : IsTrue (may_keep w kept)
  pub outcome_is : outcome w kept ≡ entries
  pub reads : IsImageOf w.building (register_of w.base entries) left

-- these events lead to where it would, and nothing was answered in them
pub record IsCutAt (w : World) (entries : List Entry) (left : Image) : Type 0 where
  pub before : List Event
  pub there : World
  pub possible : goes before w ≡ Some there
  pub same_building : there.building ≡ w.building
  pub same_base : there.base ≡ w.base
  pub given_is : there.given ≡ w.given
  pub reached : IsReached there
  pub keeps : IsKept there entries left

cut_now : (w : World) (entries : List Entry) (left : Image) → IsReached w → IsKept w entries left → IsCutAt w entries left
cut_now w entries left reached k = record { before = []; there = w; possible = refl; same_building = refl; same_base = refl; given_is = refl; reached = reached; keeps = k }

kept_safe : (w : World) (plan : Plan) (register : RegisterState) (left : Image) → w.building ≡ plan → register_of w.base (safe_list w) ≡ register → IsImageOf plan register left → IsKept w (safe_list w) left
kept_safe w plan register left b r reads = record {
  kept = Safe;
  may_be_kept = refl;
  outcome_is = refl;
  reads = subst (λ (p : Plan). IsImageOf p (register_of w.base (safe_list w)) left) (sym b) (subst (λ (x : RegisterState). IsImageOf plan x left) (sym r) reads);
}

kept_with_batch : (w : World) (plan : Plan) (register : RegisterState) (left : Image) → w.building ≡ plan → IsTrue (may_keep w WithBatch) → register_of w.base (safe_list w ++ batch_in_flight w) ≡ register
    → IsImageOf plan register left → IsKept w (safe_list w ++ batch_in_flight w) left
kept_with_batch w plan register left b may r reads = record {
  kept = WithBatch;
  may_be_kept = may;
  outcome_is = refl;
  reads = subst (λ (p : Plan). IsImageOf p (register_of w.base (safe_list w ++ batch_in_flight w)) left) (sym b) (subst (λ (x : RegisterState). IsImageOf plan x left) (sym r) reads);
}

-- with no batch it is the register of what is safe
kept_without : (w : World) (plan : Plan) (old : RegisterState) (batch : List Entry) (left : Image) → w.building ≡ plan → register_of w.base (safe_list w) ≡ old → batch ≡ []
    → IsImageOf plan (register_of old batch) left → IsKept w (safe_list w ++ batch) left
kept_without w plan old batch left b safe none reads =
    subst (λ (xs : List Entry). IsKept w xs left) (sym (append-nil (safe_list w)) ∙ ap (λ (xs : List Entry). safe_list w ++ xs) (sym none))
    (kept_safe w plan (register_of old batch) left b
    (sym (nothing_after w.base (safe_list w)) ∙ ap (λ (x : RegisterState). register_of x []) safe ∙ ap (register_of old) (sym none)) reads)

module _ {D P : Type 0} (laws : Laws) (w : World) (clerk : ClerkState D P) (left : Image) (m : IsMachineOf w clerk) where
  abbrev plan : Plan
  plan = clerk.keeper.writer.plan

  abbrev doubt : List Entry
  doubt = clerk.keeper.writer.doubt

  by_doubt : (br : RunsBroken w clerk.keeper.writer) (batch : List Entry) → doubt ≡ batch → IsImageOf plan (register_of clerk.keeper.writer.register doubt) left → IsKept w (safe_list w ++ doubt) left
  by_doubt br [] d reads = kept_without w plan clerk.keeper.writer.register doubt left m.building m.safe d reads
  by_doubt br (x ∷ xs) d reads =
      subst (λ (ys : List Entry). IsKept w (safe_list w ++ ys) left) br.doubt (kept_with_batch w plan (register_of clerk.keeper.writer.register doubt) left m.building
      (br.may_be_kept (λ none. let wrong : x ∷ xs ≡ [] = sym d ∙ none in cc))
      (ap (λ (ys : List Entry). register_of w.base (safe_list w ++ ys)) br.doubt ∙ register_with laws.registers w doubt clerk.keeper.writer.register m.safe) reads)

  by_state : (b : Bool) → clerk.keeper.writer.is_broken ≡ b → (either : IsInDoubt plan clerk.keeper.writer.register doubt left) → IsKept w (kept_after (safe_list w) doubt either) left
  by_state false e (inl reads) = kept_safe w plan clerk.keeper.writer.register left m.building m.safe reads
  by_state false e (inr reads) = kept_without w plan clerk.keeper.writer.register doubt left m.building m.safe (m.whole e).no_doubt reads
  by_state true e (inl reads) = kept_safe w plan clerk.keeper.writer.register left m.building m.safe reads
  by_state true e (inr reads) = by_doubt (m.broken e) doubt refl reads

-- with nothing on its way but what is in doubt
pub crashes_are_cuts : {D P : Type 0} → Laws → (w : World) (clerk : ClerkState D P) (batch : List Entry) (left : Image) → IsMachineOf w clerk → batch ≡ clerk.keeper.writer.doubt
    → (doubt : IsInDoubt clerk.keeper.writer.plan clerk.keeper.writer.register batch left) → IsKept w (kept_after (safe_list w) batch doubt) left
crashes_are_cuts laws w clerk batch left m same =
    subst (λ (xs : List Entry). (doubt : IsInDoubt clerk.keeper.writer.plan clerk.keeper.writer.register xs left) → IsKept w (kept_after (safe_list w) xs doubt) left) (sym same)
    (λ doubt. by_state laws w clerk left m clerk.keeper.writer.is_broken refl doubt)

-- with a batch that the rules accept
module _ {D P : Type 0} (laws : Laws) (w : World) (clerk : ClerkState D P) (left : Image) (d : DecidesOn clerk.keeper) (m : IsMachineOf w clerk) (agree : LooksAgree w d.commands) where
  abbrev cs : List Command
  cs = d.commands

  abbrev batch : SentBatch
  batch = record { commands = with_replies cs d.replies; entries = d.decided.batch }

  asked : Asked w cs
  asked = ask laws w m.reached (splits_of m) (resting m) cs d.apart

  abbrev w1 : World
  w1 = asked_on w (fresh w cs) asked.heard

  abbrev takes : ℕ → List ℕ
  takes t = (view_at clerk.seat t).taken ++ ask_words (suc (length (view_at clerk.seat t).taken)) (map ask_of (filter (asks t) cs))

  run : Run w.building any_eligible (state_of w) cs d.replies d.decided
  run = decided_in w clerk m d

  -- scanned, and up to its gate
  to_its_gate : d.decided.batch ≢ [] → IsImageOf clerk.keeper.writer.plan (register_of clerk.keeper.writer.register d.decided.batch) left → IsCutAt w (safe_list w ++ d.decided.batch) left
  to_its_gate some reads =
      let k = allocation laws (asked_more m (fresh w cs) asked.heard (reaches laws w m.reached asked.events w1 asked.possible refl refl)) cs (λ none. some (nothing_decided w cs d.replies d.decided none m.between run))
      (resting m).few (all_wait w (splits_of m) cs agree d.apart) d.apart takes (λ t. refl) batch (run_commands w.building any_eligible (state_of w) d.decided cs d.replies run) (without_batch d.decided)
      (λ e. record { replies = d.replies; decided = d.decided; run = run; commands = refl; entries = refl; after = refl }) in
      let l = k.1 in
      let whole = l.shows.whole d.was_whole in
      let there : World = at_gate laws l.shows whole in
      let calls : List Event = Pull ∷ calls_to (sectors_for_body (length d.decided.batch) + 1) GateWritten in
      let events : List Event = asked.events ++ (allocator_events cs k.0 ++ calls) in
      let possible : goes events w ≡ Some there =
      joined asked.events (allocator_events cs k.0 ++ calls) w w1 asked.possible ∙ joined (allocator_events cs k.0) calls w1 l.end l.possible ∙ to_gate laws l.shows whole some in
      let kept : safe_list there ++ batch_in_flight there ≡ safe_list w ++ d.decided.batch =
      ap (λ (xs : List Entry). xs ++ batch_in_flight there) l.safe_is ∙ ap (λ (xs : List Entry). safe_list w ++ xs) (in_doubt laws l.shows whole) in
      record {
        before = events;
        there = there;
        possible = possible;
        same_building = l.same_building;
        same_base = l.same_base;
        given_is = l.given_is ∙ append-nil w.given;
        reached = reaches laws w m.reached events there possible l.same_building l.same_base;
        keeps = subst (λ (xs : List Entry). IsKept there xs left) kept
            (kept_with_batch there clerk.keeper.writer.plan (register_of clerk.keeper.writer.register d.decided.batch) left (l.same_building ∙ m.building) refl
            (ap (λ (b : RegisterState). register_of b (safe_list there ++ batch_in_flight there)) l.same_base ∙ ap (register_of w.base) kept ∙ register_with laws.registers w d.decided.batch clerk.keeper.writer.register m.safe)
            reads);
      }

  by_batch : (entries : List Entry) → d.decided.batch ≡ entries → IsImageOf clerk.keeper.writer.plan (register_of clerk.keeper.writer.register d.decided.batch) left → IsCutAt w (safe_list w ++ d.decided.batch) left
  by_batch [] e reads = cut_now w (safe_list w ++ d.decided.batch) left m.reached (kept_without w clerk.keeper.writer.plan clerk.keeper.writer.register d.decided.batch left m.building m.safe e reads)
  by_batch (x ∷ xs) e reads = to_its_gate (λ none. let wrong : x ∷ xs ≡ [] = sym e ∙ none in cc) reads

  pub crashes_within : (doubt : IsInDoubt clerk.keeper.writer.plan clerk.keeper.writer.register d.decided.batch left) → IsCutAt w (kept_after (safe_list w) d.decided.batch doubt) left
  crashes_within (inl reads) = cut_now w (safe_list w) left m.reached (kept_safe w clerk.keeper.writer.plan clerk.keeper.writer.register left m.building m.safe reads)
  crashes_within (inr reads) = by_batch d.decided.batch refl reads

-- Whatever batch is on its way, a power cut keeps what the image tells of it.
abbrev pub Agrees : {D P : Type 0} → World → (clerk : ClerkState D P) (batch : List Entry) → MayAdd clerk.keeper batch → Type 0
Agrees w clerk waits (inl same) = Unit {0}
Agrees w clerk waits (inr a) = LooksAgree w a.0.commands

pub cuts_at : {D P : Type 0} → Laws → (w : World) (clerk : ClerkState D P) (batch : List Entry) (left : Image) → IsMachineOf w clerk → (may : MayAdd clerk.keeper batch) → Agrees w clerk batch may
    → (doubt : IsInDoubt clerk.keeper.writer.plan clerk.keeper.writer.register batch left) → IsCutAt w (kept_after (safe_list w) batch doubt) left
cuts_at laws w clerk waits left m (inl same) agrees = λ doubt. cut_now w (kept_after (safe_list w) waits doubt) left m.reached (crashes_are_cuts laws w clerk waits left m same doubt)
cuts_at laws w clerk waits left m (inr a) agrees =
    subst (λ (xs : List Entry). (doubt : IsInDoubt clerk.keeper.writer.plan clerk.keeper.writer.register xs left) → IsCutAt w (kept_after (safe_list w) xs doubt) left) a.1
    (crashes_within laws w clerk left a.0 m agrees)

-- the image shows each entry that was acknowledged, and each letter
pub record ShowsGiven (plan : Plan) (base : RegisterState) (entries : List Entry) (given : List Taken) (left : Image) : Type 0 where
  pub reads : IsImageOf plan (register_of base entries) left
  pub holds : All (IsHeld base entries) (flat_map (acknowledged_in plan) given)
  pub letters : All (StillNames base entries) (flat_map (acknowledged_in plan) given)

pub cuts_show_letters : Laws → (w : World) (entries : List Entry) (left : Image) → IsBuilding w.building → IsOfBuilding w.building w.base → IsReached w → IsKept w entries left
    → ShowsGiven w.building w.base entries w.given left
cuts_show_letters laws w entries left sound of reached k = record {
  reads = k.reads;
  holds = subst (λ (xs : List Entry). All (IsHeld w.base xs) (acknowledged w)) k.outcome_is
      (subst (λ (v : World). RecoversAcknowledged v) reached.1 (laws.acknowledged w.building w.base reached.0 sound of) k.kept k.may_be_kept);
  letters = subst (λ (xs : List Entry). All (StillNames w.base xs) (acknowledged w)) k.outcome_is
      (subst (λ (v : World). RecoversLetters v) reached.1 (laws.letters w.building w.base reached.0 sound of) k.kept k.may_be_kept);
}

-- a clerk that begins over what the cut left
pub begins_after_crash : {D P : Type 0} → Laws → (w : World) (clerk : ClerkState D P) (plan : Plan) (entries : List Entry) (image : Image) → IsReached w → w.building ≡ plan
    → (k : IsKept w entries image) → BeginsOver plan image clerk
    → (after : World) × (goes (Cut k.kept ∷ Reopen k.kept ∷ []) w ≡ Some after) × (after.given ≡ w.given) × (after.base ≡ w.base) × IsMachineOf after clerk × (safe_list after ≡ entries) × WaitsNowhere after
begins_after_crash laws w clerk plan entries image reached building k over =
    let reads : IsImageOf plan (register_of w.base entries) image = subst (λ (p : Plan). IsImageOf p (register_of w.base entries) image) building k.reads in
    let b = begins_after_cut laws w clerk k.kept reached (building ∙ sym over.same_plan) k.may_be_kept over.begins (sym (over.only (register_of w.base entries) reads) ∙ ap (register_of w.base) (sym k.outcome_is)) in
    (b.0, b.1, b.2, b.3, b.4, b.5 ∙ k.outcome_is, b.6)
