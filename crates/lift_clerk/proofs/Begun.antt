-- Clerks that begin.
use Rattle.std.proofs.Common.{◌≡◌, false, List, [], refl, sym, ap, subst, ◌∙◌}
use Rattle.atomic_table.specs.Seated.{TableId}
use Rattle.lift_building.specs.Plan.{Plan, IsBuilding}
use Rattle.lift_disk.specs.Disk.{Image}
use Rattle.lift_register.specs.Register.{RegisterState}
use Rattle.lift_register.specs.WellFormed.{IsWellFormed}
use Rattle.lift_register.specs.Belongs.{BelongsTo}
use Rattle.lift_desk.specs.Seats.{ClerkPlace, clerk_of}
use Rattle.lift_policy.specs.Step.{State}
use Rattle.lift_decider.specs.Decider.{starting}
use Rattle.lift_keeper.specs.Images.{IsImageOf}
use Rattle.lift_keeper.specs.Keeper.{KeeperView}
use Rattle.lift_world.specs.Headline.{IsOfBuilding}
use Rattle.lift_clerk.specs.Clerk.{ClerkState}
use Rattle.lift_clerk.specs.Machine.{IsNewClerk}
use Rattle.lift_clerk.specs.Steps.{group_of}
use Rattle.lift_clerk.specs.History.{History, Began, BeginsOver}
use Rattle.lift_clerk.specs.lemmas.Grouped.{grouped_begins}

module _ {D P : Type 0} (desk : List TableId) (seat : List ClerkPlace) (keeper : KeeperView D) (policy : P) (clerk : ClerkState D P)
    (is : clerk ≡ record { desk = desk; seat = seat; keeper = keeper; policy = policy }) (unused : seat ≡ clerk_of desk) (state : keeper.state ≡ starting keeper.writer.register)
    (is_whole : keeper.writer.is_broken ≡ false) (no_doubt : keeper.writer.doubt ≡ []) where
  begins : IsNewClerk clerk
  begins = subst (λ (c : ClerkState D P). IsNewClerk c) (sym is) (record { seat = unused; state = state; is_whole = is_whole; no_doubt = no_doubt })

  -- as every register is that a writer shows
  of_building : IsWellFormed keeper.writer.register → BelongsTo keeper.writer.plan keeper.writer.register → IsOfBuilding keeper.writer.plan keeper.writer.register
  of_building lawful belongs = record { row_count = lawful.row_count; last_count = lawful.last_count; lasts = belongs.lasts }

  pub first : IsBuilding keeper.writer.plan → IsWellFormed keeper.state.register → BelongsTo keeper.writer.plan keeper.state.register
      → History clerk.keeper.writer.register (group_of clerk) [] []
  first sound lawful belongs =
      let shown : keeper.state.register ≡ keeper.writer.register = ap (λ (s : State). s.register) state in
      Began (subst (λ (c : ClerkState D P). IsBuilding c.keeper.writer.plan) (sym is) sound)
      (subst (λ (c : ClerkState D P). IsOfBuilding c.keeper.writer.plan c.keeper.writer.register) (sym is) (of_building (subst IsWellFormed shown lawful) (subst (BelongsTo keeper.writer.plan) shown belongs)))
      (grouped_begins clerk begins) refl

  pub begins_over : (plan : Plan) (image : Image) → keeper.writer.plan ≡ plan → IsImageOf plan keeper.writer.register image → ((other : RegisterState) → IsImageOf plan other image → other ≡ keeper.writer.register) → BeginsOver plan image (group_of clerk)
  begins_over plan image same reads only = record {
    begins = grouped_begins clerk begins;
    same_plan = ap (λ (c : ClerkState D P). c.keeper.writer.plan) is ∙ same;
    reads = subst (λ (c : ClerkState D P). IsImageOf plan c.keeper.writer.register image) (sym is) reads;
    only = λ other so. only other so ∙ ap (λ (c : ClerkState D P). c.keeper.writer.register) (sym is);
  }
