-- What a journal stands for once a checkpoint is in the place of its batches.
use Rattle.std.proofs.Common.{◌≡◌, ◌⊎◌, ◌<◌, ◌≤◌, ◌+◌, ◌-◌, ◌*◌, inl, inr, ⊎_elim, ℕ, Bool, true, not, nat_lt, cond, List, length, sym, ◌∙◌, ap, subst, arith}
use Rattle.lift_base.specs.declared.limits.TheConstants.{LEAST_HALF, MOST_ENTRIES}
use Rattle.lift_base.specs.declared.history.Shape.{Shape}
use Rattle.lift_register.specs.Register.{RegisterState}
use Rattle.lift_register.specs.Base.{base_records}
use Rattle.lift_register.specs.WellFormed.{IsWellFormed}
use Rattle.lift_disk.specs.Disk.{DiskState, Image, ChangesWithin, LeavesOnly, IsSynced}
use Rattle.lift_disk.specs.lemmas.Moments.{leaves_weaker}
use Rattle.lift_journal.specs.Layout.{is_marked, sector_at, start_of, Holds, HoldsIn}
use Rattle.lift_journal.specs.Steps.{IsInRange}
use Rattle.lift_journal.specs.Journal.{HasNextPlace, StandsAt, JournalHolds}
use Rattle.lift_journal.specs.Checkpoint.{batch_count, checkpoint_of, sectors_for}
use Rattle.lift_journal.specs.Failed.{IsFailedCheckpoint}
use Rattle.lift_journal.specs.Switch.{IsOtherHalf, HasWritten, IsFailedWriting}
use Rattle.lift_journal.proofs.Checkpoints.{checkpoint_sound}
use Rattle.lift_journal.specs.lemmas.Folding.{length_batches, used_checkpoint}
use Rattle.lift_journal.proofs.Seeing.{bodies_few}
use Rattle.lift_journal.proofs.Picking.{checkpoint_in, checkpoint_fails}
use Rattle.lift_journal.proofs.Standing.{stands_in, stands_seen}
use Rattle.lift_journal.proofs.Switching.{switched}

-- where the other half begins
pub other_inside : (size : ℕ) (shape : Shape) (start gate number other : ℕ) (pick : List ℕ) → HasNextPlace size shape start gate number → IsOtherHalf shape.half start other pick → (2 ≤ other) × (other + shape.half ≤ size) × (other ≤ 1000002)
other_inside size shape start gate number other pick place is =
    ⊎_elim (λ a. (omega (arith, a.1), omega (arith, a.1, place.inside), omega (arith, a.1, place.within.half.1)))
    (λ b. (omega (arith, b.1), omega (arith, b.1, place.inside), omega (arith, b.1))) is

pub other_place : (old_size size : ℕ) (shape : Shape) (start gate number other last count : ℕ) (pick : List ℕ) (records : ℕ) → HasNextPlace old_size shape start gate number → IsOtherHalf shape.half start other pick
    → size ≡ old_size → last ≡ other + sectors_for records → last < other + LEAST_HALF → count ≡ batch_count records → 1 ≤ records → HasNextPlace size shape other last (count + 1)
other_place old_size size shape start gate number other last count pick records place is same at below counted some = record {
  within = place.within;
  inside = omega (arith, place.inside, same);
  halves = ⊎_elim (λ a. inr a.1) (λ b. inl b.1) is;
  low = omega (arith, at);
  below = omega (arith, below, place.within.half.0);
  some = omega arith;
  counts =
      let low = (other_inside old_size shape start gate number other pick place is).0 in
      omega (arith, low, at, counted, some, bodies_few (records - MOST_ENTRIES * (batch_count records - 1)));
}

module _ (shape : Shape) (start gate number other : ℕ) (pick : List ℕ) (old : DiskState) (register : RegisterState) (place : HasNextPlace old.size shape start gate number)
    (is_other : IsOtherHalf shape.half start other pick) (formed : IsWellFormed register) where
  halves : (stands : StandsAt shape start gate number old) → ((start_of shape.half old.image ≡ 2) × (other ≡ shape.half + 2)) ⊎ ((start_of shape.half old.image ≡ shape.half + 2) × (other ≡ 2))
  halves stands =
      ⊎_elim (λ a. inl (sym stands.starts ∙ a.0, a.1))
      (λ b. inr (sym stands.starts ∙ ⊎_elim (λ first. absurd (b.0 first)) (λ second. second) place.halves, b.1)) is_other

  -- a crash at any moment leaves the batches from before in their half, or the checkpoint in the other one
  pub replace_in : (new : DiskState) (stands : StandsAt shape start gate number old)
      → ((end : ℕ) → other + LEAST_HALF ≤ end → end ≤ old.size → (old.is_honest → IsSynced old)
      → LeavesOnly old new (λ left. ChangesWithin (IsInRange other (other + LEAST_HALF)) old.image left ⊎ HasWritten other end (checkpoint_of (base_records register)) old.image left))
      → LeavesOnly old new (λ left. HoldsIn shape (nat_lt 2 start) stands.batches left ⊎ HoldsIn shape (not (nat_lt 2 start)) (checkpoint_of (base_records register)) left)
  replace_in new stands leaves =
      let inside = other_inside old.size shape start gate number other pick place is_other in
      leaves_weaker old new _ (λ left. HoldsIn shape (nat_lt 2 start) stands.batches left ⊎ HoldsIn shape (not (nat_lt 2 start)) (checkpoint_of (base_records register)) left)
      (λ _. checkpoint_in shape (nat_lt 2 start) stands.batches (checkpoint_of (base_records register)) other old stands.holds (halves stands) (checkpoint_sound register formed)
      (stands_in shape start gate number old stands))
      (leaves (other + shape.half) (omega (arith, place.within.half.0)) inside.1 (λ _. stands.synced))

  -- the half that is picked then
  pub replace_second : nat_lt 2 other ≡ not (nat_lt 2 start)
  replace_second =
      let half = place.within.half.0 in
      ⊎_elim (λ a. grind (arith, half, a.0, a.1)) (λ b. ⊎_elim (λ first. absurd (b.0 first)) (λ second. grind (arith, half, second, b.1)) place.halves) is_other

  replace_pick : is_marked pick ≡ nat_lt 2 other
  replace_pick =
      let half = place.within.half.0 in
      ⊎_elim (λ a. ap is_marked a.2 ∙ sym (let there : nat_lt 2 other ≡ true = grind (arith, half, a.1) in there)) (λ b. ap is_marked b.2 ∙ sym (ap (nat_lt 2) b.1)) is_other

  -- by the number of calls, what a cut then leaves
  pub replace_fails : (new : DiskState) (stands : StandsAt shape start gate number old)
      → IsFailedWriting other (other + shape.half) (checkpoint_of (base_records register)) (sectors_for (length (base_records register))) pick old new
      → IsFailedCheckpoint shape (nat_lt 2 start) stands.batches (checkpoint_of (base_records register)) (sectors_for (length (base_records register))) old new
  replace_fails new stands stops =
      checkpoint_fails shape (nat_lt 2 start) stands.batches (checkpoint_of (base_records register)) other old stands.holds (halves stands) (checkpoint_sound register formed)
      (stands_in shape start gate number old stands) new (sectors_for (length (base_records register))) pick (replace_pick ∙ replace_second) stops

  module _ (image : Image) (stands : StandsAt shape start gate number old) (written : HasWritten other (other + shape.half) (checkpoint_of (base_records register)) old.image image) (picked : sector_at image 0 ≡ pick) where
    pub replace_starts : start_of shape.half image ≡ other
    replace_starts =
        ⊎_elim (λ a. ap (λ (s : List ℕ). cond (is_marked s) (shape.half + 2) 2) (picked ∙ a.2) ∙ sym a.1)
        (λ b. ap (λ (s : List ℕ). cond (is_marked s) (shape.half + 2) 2) (picked ∙ b.2) ∙ sym b.1) is_other

    pub replace_holds : Holds shape (checkpoint_of (base_records register)) image
    replace_holds = switched shape stands.batches (checkpoint_of (base_records register)) other old.image stands.holds (halves stands) image (checkpoint_sound register formed) written replace_starts

  pub replace_stands : (new : DiskState) (last : ℕ) → IsSynced new → (stands : StandsAt shape start gate number old) → HasWritten other (other + shape.half) (checkpoint_of (base_records register)) old.image new.image → sector_at new.image 0 ≡ pick
      → 1 ≤ length (base_records register) → last ≡ other + sectors_for (length (base_records register))
      → StandsAt shape other last (batch_count (length (base_records register)) + 1) new
  replace_stands new last synced stands written picked some at =
      let records = base_records register in
      let starts = replace_starts new.image stands written picked in
      record {
        batches = checkpoint_of records;
        synced = synced;
        holds = replace_holds new.image stands written picked;
        starts = sym starts;
        at = omega (arith, at, starts, used_checkpoint records some);
        counts = omega (arith, length_batches (batch_count (length records)) records);
      }

  pub replace_seen : {D : Type 0} (state : D → DiskState) (device : D) (count last : ℕ) (is_broken : Bool) (failures_at_opening : ℕ) → IsSynced (state device) → (stands : StandsAt shape start gate number old)
      → HasWritten other (other + shape.half) (checkpoint_of (base_records register)) old.image (state device).image → sector_at (state device).image 0 ≡ pick → 1 ≤ length (base_records register)
      → last ≡ other + sectors_for (length (base_records register)) → count ≡ batch_count (length (base_records register))
      → JournalHolds state (record { device = device; shape = shape; is_in_second_half = nat_lt 2 other; used = last - other; number = count + 1; failures_at_opening = failures_at_opening; is_broken = is_broken }) (checkpoint_of (base_records register))
  unfolding replace_stands
  replace_seen {D} state device count last is_broken failures_at_opening synced stands written picked some at counted =
      subst (λ n. JournalHolds state (record { device = device; shape = shape; is_in_second_half = nat_lt 2 other; used = last - other; number = n + 1; failures_at_opening = failures_at_opening; is_broken = is_broken }) (checkpoint_of (base_records register)))
      (sym counted)
      (stands_seen state device shape other last (batch_count (length (base_records register)) + 1) is_broken failures_at_opening (replace_stands (state device) last synced stands written picked some at))
