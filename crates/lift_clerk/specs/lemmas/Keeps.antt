-- What a crash leaves of what is safe, and what is kept by that.
use Rattle.std.proofs.Common.{◌≡◌, inl, inr, List, [], ◌++◌, refl, sym, subst, ◌∙◌, append_assoc}
use Rattle.std.proofs.lemmas.List.{append-nil}
use mathlib.Core.List.{IsPrefix}
use Rattle.lift_base.specs.declared.history.Entry.{Entry}
use Rattle.lift_building.specs.Plan.{Plan}
use Rattle.lift_disk.specs.Disk.{DiskState, Image, LeavesNow}
use Rattle.lift_register.specs.Register.{RegisterState}
use Rattle.lift_keeper.specs.Images.{IsInDoubt}
use Rattle.lift_world.specs.declared.event.Taken.{Taken}
use Rattle.lift_clerk.specs.Steps.{GroupState}
use Rattle.lift_clerk.specs.History.{History}
use Rattle.lift_clerk.specs.Keeping.{CrashesKeep, ImageKeeps, KeepsAll, KeepsEither, KeepsPrefix}
use Rattle.lift_clerk.specs.Keeping.{LeavesSafe}

-- of what is safe followed by what is on its way
pub either_front : {D : Type 0} (plan : Plan) (base : RegisterState) (safe batch : List Entry) (given : List Taken)
    (left : Image) → KeepsEither D plan base safe batch given left
    → KeepsPrefix D plan base (safe ++ batch) given left
either_front plan base safe batch given left (inl keeps) = (safe, (batch, refl), keeps)
either_front plan base safe batch given left (inr keeps) =
    (safe ++ batch, ([], append-nil (safe ++ batch)), keeps)

-- what keeps all answers until now keeps those that were given first
pub keeps_first : {D : Type 0} (plan other : Plan) (base : RegisterState) (safe batch : List Entry) (given now : List Taken)
    (left : Image) → other ≡ plan → IsPrefix given now → KeepsEither D other base safe batch now left
    → KeepsAll D plan base given left
keeps_first {D} plan other base safe batch given now left same front (inl keeps) =
    (safe, now, front, subst (λ (p : Plan). ImageKeeps D p base safe now left) same keeps)
keeps_first {D} plan other base safe batch given now left same front (inr keeps) =
    (safe ++ batch, now, front, subst (λ (p : Plan). ImageKeeps D p base (safe ++ batch) now left) same keeps)

-- and so does what keeps these and more
pub keeps_fewer : {D : Type 0} (plan other : Plan) (base : RegisterState) (given more : List Taken)
    (left : Image) → other ≡ plan → KeepsAll D other base (given ++ more) left
    → KeepsAll D plan base given left
keeps_fewer {D} plan other base given more left same kept = (
  kept.0,
  kept.1,
  (more ++ kept.2.0, sym (append_assoc given more kept.2.0) ∙ kept.2.1),
  subst (λ (p : Plan). ImageKeeps D p base kept.0 kept.1 left) same kept.3,
)

module _ {D : Type 0} (law : CrashesKeep D) (base : RegisterState) (group : GroupState D) (safe : List Entry)
    (given : List Taken) (h : History base group safe given) where
  in_doubt : (left : Image)
      → IsInDoubt group.keeper.writer.plan group.keeper.writer.register group.keeper.writer.doubt left
      → KeepsEither D group.keeper.writer.plan base safe group.keeper.writer.doubt given left
  in_doubt left (inl without) =
      inl (law base group safe group.keeper.writer.doubt given left h (inl refl) (inl without))
  in_doubt left (inr whole) =
      inr (law base group safe group.keeper.writer.doubt given left h (inl refl) (inr whole))

  -- between two calls
  pub kept_now : (disk : DiskState) → LeavesSafe group.keeper.writer disk
      → LeavesNow disk
      (KeepsEither D group.keeper.writer.plan base safe group.keeper.writer.doubt given)
  kept_now disk leaves = λ honest left may. in_doubt left (leaves honest left may)
