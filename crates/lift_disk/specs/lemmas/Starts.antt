-- What is kept by what holds the same, and by what a start finds.
use Rattle.std.proofs.Common.{◌↔◌, ◌∙◌, inl, inr, ⊎_elim, ℕ, length, slice_get, sym, subst, ap, arith}
use Rattle.lift_disk.specs.Disk.{DiskState, Image, LeavesNow, LeavesOnly, MayLeave}
use Rattle.lift_disk.specs.Holding.{HoldsTheSame}
use Rattle.lift_disk.specs.Starts.{StartsAfter, StartsFrom}

iff_then : {A B C : Type 0} → B ↔ A → C ↔ B → C ↔ A
iff_then first second = (λ c. first.0 (second.0 c), λ a. second.1 (first.1 a))

-- what holds the same as another one holds the same as that did
pub holds_then : (old mid new : DiskState) → HoldsTheSame old mid → HoldsTheSame mid new
    → HoldsTheSame old new
holds_then old mid new first second = record {
  size = second.size ∙ first.size;
  image = second.image ∙ first.image;
  synced = second.synced ∙ first.synced;
  loose = λ i. iff_then (first.loose i) (second.loose i);
  steady = iff_then first.steady second.steady;
  written = λ i bytes. iff_then (first.written i bytes) (second.written i bytes);
  moment = second.moment ∙ first.moment;
  left_since = λ t left. iff_then (first.left_since t left) (second.left_since t left);
}

-- a crash may leave the same of it
pub same_left : (old new : DiskState) (left : Image) → HoldsTheSame old new → MayLeave new left
    → MayLeave old left
same_left old new left same is = record {
  size = is.size ∙ ap length same.image;
  others = λ i not. is.others i (λ loose. not ((same.loose i).0 loose)) ∙ ap (λ (image : Image).
      slice_get image i) same.image;
}

pub same_leaves : (old new : DiskState) (P : Image → Type 0) → old.is_honest → HoldsTheSame old new
    → LeavesNow old P → LeavesNow new P
same_leaves old new P honest same leaves is left may =
    leaves honest left (same_left old new left same may)

-- a run on what holds the same began before it
pub leaves_from : (old mid new : DiskState) (P : Image → Type 0) → old.is_honest → mid.is_honest
    → HoldsTheSame old mid → LeavesOnly mid new P → LeavesOnly old new P
leaves_from old mid new P honest honest2 same leaves = record {
  honest = (λ _. honest, λ _. leaves.honest.1 honest2);
  later = λ _. omega (arith, same.moment, leaves.later honest2);
  each = λ _ left is. leaves.each honest2 left (subst (λ (t : ℕ).
      new.left_since t left) (sym same.moment) is);
  before = λ _ t left le is. ⊎_elim (λ was. inl ((same.left_since t left).0 was)) (λ has.
      inr has) (leaves.before honest2 t left (omega (arith, le, same.moment)) is);
}

-- what a start finds where a run was cut off has what each of the run's images has
pub starts_keep : (old last found : DiskState) (P : Image → Type 0) → old.is_honest
    → LeavesOnly old last P → StartsFrom last old.moment found → LeavesNow found P
starts_keep old last found P honest leaves starts is left may =
    leaves.each honest left (starts is left may)

-- and where it had ended, what each has that is left then
pub starts_keep_now : (last found : DiskState) (P : Image → Type 0) → last.is_honest
    → LeavesNow last P → StartsAfter last found → LeavesNow found P
starts_keep_now last found P honest leaves starts is left may =
    leaves honest left (starts is left may)
