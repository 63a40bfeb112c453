-- What a power cut leaves, and what an empty journal gives.
use Rattle.std.proofs.Common.{◌≡◌, ◌∙◌, ℕ, zero, suc, ◌+◌, List, [], ◌∷◌, length, take, drop, replicate, Option, Some, None, false, inl, inr, refl, sym, ap, subst, arith, length-append}
use Rattle.std.proofs.lemmas.Bool.{false≢true}
use Rattle.std.proofs.lemmas.List.{length-map, length-replicate}
use Rattle.std.proofs.lemmas.List.Concat.{flat_map-cons}
use Rattle.atomic_table.specs.Seated.{TableId}
use Rattle.std.specs.Prelude.{slice_get}
use Rattle.lift_base.specs.declared.limits.TheConstants.{LEAST_HALF, MOST_CARS}
use Rattle.lift_base.specs.declared.history.Shape.{Shape}
use Rattle.lift_desk.specs.Rule.{no_asks, no_answers}
use Rattle.lift_desk.specs.Seats.{TerminalSeat, seats_from, clerk_of, view_at, placed_at}
use Rattle.lift_decider.specs.Decider.{starting}
use Rattle.lift_journal.specs.Layout.{Batch, Holds, IsChain, Picks, records_of, used, start_of}
use Rattle.lift_journal.specs.Armed.{LastFails}
use Rattle.lift_journal.specs.declared.fault.JournalFault.TheVariants.{Disk}
use Rattle.lift_keeper.specs.declared.fault.KeeperFault.{KeeperFault}
use Rattle.lift_keeper.specs.declared.fault.KeeperFault.TheVariants.{Journal}
use Rattle.lift_keeper.specs.Images.{IsImageOf, IsImageIn}
use Rattle.lift_keeper.specs.Calls.{OpensByCalls, RefusedCalls, FailsBy}
use Rattle.lift_keeper.specs.Reopening.{Reopens, RefusesReopening}
use Rattle.lift_replay.specs.Group.{ScriptGroup, Found, FailedBatch, half, left_by, nothing_found, recovered, asking_at, unasked, new_terminals}
use Rattle.lift_replay.specs.Group.{found_after_cut as left_as}
use Rattle.lift_replay.specs.Shows.{IsFound, IsInStep, AreInStep, Stands, IsKeeperOf, Shows}
use Rattle.lift_replay.specs.Told.{ScriptClerk}
use Rattle.lift_replay.specs.Terminals.{seat_at}
use Rattle.lift_replay.proofs.Hearing.{count_from, own_from}
use Rattle.lift_building.specs.Plan.{Plan, shape_of}
use Rattle.lift_disk.specs.Disk.{Image, DiskState, IsUnchanged, IsUnarmed, MayLeave, LeavesNow}
use Rattle.lift_disk.specs.Faults.{FusedDisk, fuse_state_of}
use Rattle.lift_disk.specs.Outcomes.{IsLeftBy, IsCut, state_of}
use Rattle.lift_disk.specs.declared.memory.MemDisk.{MemDisk}
use Rattle.lift_disk.specs.declared.outcome.Outcome.{Outcome}
use Rattle.lift_disk.specs.declared.outcome.Outcome.TheVariants.{Keep, Lose, Fill}
use Rattle.lift_journal.specs.Journal.{ReadsAs}
use Rattle.lift_keeper.specs.Keeper.{KeeperView}
use Rattle.lift_register.specs.Register.{RegisterState, cars, terminals}

-- what was found is what the image reads as
pub found_reads : (plan : Plan) (found : Found) (image : Image) → IsFound plan found image → IsImageOf plan found.register image
found_reads plan found image is = is.found

-- a device in memory that was not armed to fail does not
pub never_fails : (old new : DiskState) → old.is_inert → IsUnarmed old → new.is_short ≡ false → LastFails old new → ⊥
never_fails old new inert unarmed long last = elim (last.last inert) [
  | inl fails ↦ unarmed new.calls last.some fails.0
  | inr short ↦ false≢true (sym long ∙ short.1)
]

-- so an opening over it is not refused where it reads as a register
pub never_refused : (plan : Plan) (old new : FusedDisk) (fault : KeeperFault) → IsUnarmed (fuse_state_of old)
    → (register : RegisterState) × IsImageOf plan register (fuse_state_of old).image → RefusesReopening plan (fuse_state_of old) (fuse_state_of new) fault
    → RefusedCalls (fuse_state_of old) (fuse_state_of new) fault → ⊥
never_refused plan old new fault unarmed (register, reads) refuses calls =
    let of_disk : fault ≡ Journal Disk = refuses.good tt register (subst (IsImageOf plan register) (sym (calls.image tt tt)) reads) in
    never_fails (fuse_state_of old) (fuse_state_of new) tt unarmed refl (subst (λ f. FailsBy f (fuse_state_of old) (fuse_state_of new)) of_disk calls.armed)

pub left_unchanged : (outcome : Outcome) (old new : DiskState) (left : Image) → IsUnchanged old new → IsLeftBy outcome new left → IsLeftBy outcome old left
left_unchanged Keep old new left same is = is ∙ same.image
left_unchanged Lose old new left same is = is ∙ same.synced
left_unchanged (Fill byte) old new left same is = record {
  size = rw (sym same.image) is.size;
  loose = λ i below loose. is.loose i (rw same.image below) ((same.loose i).1 loose);
  others = λ i firm. rw (sym same.image) (is.others i (λ loose. firm ((same.loose i).0 loose)));
}

pub may_unchanged : (old new : DiskState) (image : Image) → IsUnchanged old new → MayLeave new image → MayLeave old image
may_unchanged old new image same may = record {
  size = may.size ∙ ap length same.image;
  others = λ i firm. may.others i (λ loose. firm ((same.loose i).0 loose)) ∙ ap (λ l. slice_get l i) same.image;
}

-- a crash might have left what a cut leaves
pub cut_may : (device taken : FusedDisk) (inner left : MemDisk) → taken ≡ device → IsUnchanged (fuse_state_of taken) (state_of inner) → IsCut (state_of inner) (state_of left)
    → MayLeave (fuse_state_of device) (state_of left).image
cut_may device taken inner left is same cut =
    subst (λ d. MayLeave (fuse_state_of d) (state_of left).image) is (may_unchanged (fuse_state_of taken) (state_of inner) (state_of left).image same cut.left)

-- the keeper that recovers what was found shows just that
pub kept_of : (plan : Plan) (f : Found) (disk : FusedDisk) (keeper : KeeperView FusedDisk) → IsFound plan f (fuse_state_of disk).image
    → Reopens plan (fuse_state_of disk) (fuse_state_of keeper.writer.device) keeper.writer.register keeper.writer.half keeper.writer.is_in_second_half keeper.writer.used
    → OpensByCalls fuse_state_of (fuse_state_of disk) keeper.writer → (fuse_state_of keeper.writer.device).image ≡ (fuse_state_of disk).image → IsUnarmed (fuse_state_of keeper.writer.device) → keeper.state ≡ starting keeper.writer.register
    → keeper.writer.plan ≡ plan → (keeper.writer.is_broken ≡ false) × (keeper.writer.doubt ≡ []) → IsKeeperOf plan (recovered plan f) keeper
kept_of plan f disk keeper found opens calls image unarmed state of_plan whole =
    let here : IsImageIn plan half f.is_in_second_half f.used f.register (fuse_state_of keeper.writer.device).image = subst (IsFound plan f) (sym image) found in
    let is = calls.found tt half f.is_in_second_half f.used f.register (subst (λ (p : Plan). IsImageIn p half f.is_in_second_half f.used f.register (fuse_state_of keeper.writer.device).image) (sym of_plan) here) in
    let same = opens.only tt f.register (found_reads plan f (fuse_state_of keeper.writer.device).image here) in
    record {
      same_plan = of_plan;
      half_is = sym is.0;
      register = sym same;
      stands = (
        whole.0,
        state ∙ ap starting (sym same),
        sym is.2,
        sym is.1,
        record { armed = λ call past. ((λ fails. unarmed call past fails), (λ fails. absurd fails)); short = refl },
      );
    }

-- what a cut leaves of a clerk that shows a group
pub left_found : (plan : Plan) (g : ScriptGroup) (keeper : KeeperView FusedDisk) (outcome : Outcome) (image : Image) (s : Option FailedBatch) → g.failed ≡ s → Stands s plan g keeper
    → keeper.writer.plan ≡ plan → keeper.writer.half ≡ half → keeper.writer.register ≡ g.safe.register
    → (keeper.writer.is_broken ≡ false → LeavesNow (fuse_state_of keeper.writer.device) (IsImageIn keeper.writer.plan keeper.writer.half keeper.writer.is_in_second_half keeper.writer.used keeper.writer.register))
    → IsLeftBy outcome (fuse_state_of keeper.writer.device) image → MayLeave (fuse_state_of keeper.writer.device) image → IsFound plan (left_by outcome g) image
left_found plan g keeper outcome image (Some s) is stands of_plan half_is register placed left may = stands.1 outcome image left may
left_found plan g keeper outcome image None is stands of_plan half_is register placed left may =
    let there : IsImageIn keeper.writer.plan keeper.writer.half keeper.writer.is_in_second_half keeper.writer.used keeper.writer.register image = placed stands.0 tt image may in
    subst (λ x. IsFound plan (left_as x outcome g.safe) image) (sym is)
    (subst (λ (p : Plan). IsImageIn p half g.safe.is_in_second_half g.safe.used g.safe.register image) of_plan
    (subst (λ h. IsImageIn keeper.writer.plan h g.safe.is_in_second_half g.safe.used g.safe.register image) half_is
    (subst (λ b. IsImageIn keeper.writer.plan keeper.writer.half b g.safe.used g.safe.register image) stands.3
    (subst (λ u. IsImageIn keeper.writer.plan keeper.writer.half keeper.writer.is_in_second_half u g.safe.register image) stands.2
    (subst (λ r. IsImageIn keeper.writer.plan keeper.writer.half keeper.writer.is_in_second_half keeper.writer.used r image) register there)))))

-- no batch without records
none_used : (shape : Shape) (batches : List Batch) (image : Image) → Holds shape batches image → records_of batches ≡ [] → 0 ≡ used batches
none_used shape [] image holds none = refl
none_used shape (batch ∷ batches) image holds none = absurd (some_record (take shape.half (drop (start_of shape.half image) image)) holds.chain)
  where
    some_record : (sectors : Image) → IsChain (batch ∷ batches) 1 sectors → ⊥
    some_record [] chain = absurd chain
    some_record (gate ∷ rest) chain = let some = chain.1.some in omega (arith, some, length-append batch.records (records_of batches), ap length (sym (flat_map-cons (λ (b : Batch). b.records) batch batches) ∙ none))

-- an empty journal
pub empty_found : (plan : Plan) (image : Image) → ReadsAs (shape_of plan LEAST_HALF) [] [] image → Picks false image → IsFound plan nothing_found image
unfolding cars terminals
empty_found plan image reads picks = record {
  found = record {
    half = half;
    base = [];
    entries = [];
    reads = reads;
    is = record { base_fits = tt; entries_fit = tt; is = refl };
  };
  sectors = refl;
  picks = picks;
  counts = none_used (shape_of plan LEAST_HALF) reads.batches image reads.holds reads.joined;
}

-- at a new desk nobody has asked
first_seats : (k : ℕ) (desk : List TableId) (t : ℕ) → (seat_at (seats_from k desk) t).view ≡ no_asks
first_seats k [] t = refl
first_seats k (table ∷ desk) zero = refl
first_seats k (table ∷ desk) (suc t) = first_seats (suc k) desk t

first_places : (desk : List TableId) (t : ℕ) → view_at (clerk_of desk) t ≡ no_answers
first_places [] t = refl
first_places (table ∷ desk) zero = refl
first_places (table ∷ desk) (suc t) = first_places desk t

first_askings : (n t : ℕ) → asking_at (replicate n unasked) t ≡ unasked
first_askings zero t = refl
first_askings (suc n) zero = refl
first_askings (suc n) (suc t) = first_askings n t

pub new_in_step : (plan : Plan) (desk : List TableId) → length desk ≡ MOST_CARS + length plan.kiosks → AreInStep (new_terminals plan) (seats_from 0 desk) (clerk_of desk)
new_in_step plan desk count =
    let many : length (new_terminals plan) ≡ MOST_CARS + length plan.kiosks = length-replicate (MOST_CARS + length plan.kiosks) unasked in
    record {
      seat_count = count_from 0 desk ∙ count ∙ sym many;
      place_count = length-map desk (λ (table : TableId). placed_at table no_answers) ∙ count ∙ sym many;
      own = λ t below. own_from 0 desk t (omega (arith, below, many, count, count_from 0 desk)) ∙ omega arith;
      each = λ t below.
          subst (λ a. IsInStep a (seat_at (seats_from 0 desk) t).view (view_at (clerk_of desk) t)) (sym (first_askings (MOST_CARS + length plan.kiosks) t))
          (subst (λ v. IsInStep unasked v (view_at (clerk_of desk) t)) (sym (first_seats 0 desk t))
          (subst (λ v. IsInStep unasked no_asks v) (sym (first_places desk t)) (record { turns = refl; told = refl; told_answers = refl; heard = refl; even = refl; waits = refl })));
    }

pub new_shows : (plan : Plan) (g : ScriptGroup) (keeper : KeeperView FusedDisk) (clerk : ScriptClerk) (seats : List TerminalSeat) (desk : List TableId) → IsKeeperOf plan g keeper → g.terminals ≡ new_terminals plan
    → clerk.keeper ≡ keeper → clerk.seat ≡ clerk_of desk → seats ≡ seats_from 0 desk → length desk ≡ MOST_CARS + length plan.kiosks → Shows plan g clerk seats
new_shows plan g keeper clerk seats desk kept new keeper_is clerk_is seats_is count = record {
  keeper = subst (IsKeeperOf plan g) (sym keeper_is) kept;
  terminals = subst (λ l. AreInStep l seats clerk.seat) (sym new)
      (subst (λ l. AreInStep (new_terminals plan) l clerk.seat) (sym seats_is) (subst (λ l. AreInStep (new_terminals plan) (seats_from 0 desk) l) (sym clerk_is) (new_in_step plan desk count)));
}
