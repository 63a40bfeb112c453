use Rattle.std.proofs.Common.{◌≡◌, ap, subst, refl, false, ◌∙◌}
use Rattle.lift_disk.specs.Disk.{LeavesNow}
use Rattle.lift_disk.specs.Outcomes.{IsLeftBy, state_of}
use Rattle.lift_keeper.specs.Images.{IsImageIn}
use Rattle.lift_disk.specs.Faults.{FusedDisk, fuse_state_of}
use Rattle.lift_keeper.specs.Keeper.{KeeperView}
use Rattle.lift_replay.proofs.Recovered.{left_unchanged, cut_may, left_found}
use Rattle.lift_replay.proofs.station.Station.cut.Goals as goal

pub returns-clause-left : goal.returns-clause-left
returns-clause-left c =
    let device : c.into_disk.result ≡ c.args.self.clerk.keeper.writer.device =
    c.into_disk.ensures ∙ ap (λ (keeper : KeeperView FusedDisk). keeper.writer.device) c.into_parts-seat.ensures.keeper in
    let image = (state_of c.cut.result).image in
    subst (λ d. IsLeftBy c.args.outcome (fuse_state_of d) image) device
    (left_unchanged c.args.outcome (fuse_state_of c.into_disk.result) (state_of c.into_inner.result) image c.into_inner.ensures.same c.cut.ensures.image)

pub returns-clause-found : goal.returns-clause-found
returns-clause-found c =
    let device : c.into_disk.result ≡ c.args.self.clerk.keeper.writer.device =
    c.into_disk.ensures ∙ ap (λ (keeper : KeeperView FusedDisk). keeper.writer.device) c.into_parts-seat.ensures.keeper in
    let image = (state_of c.cut.result).image in
    let left : IsLeftBy c.args.outcome (fuse_state_of c.args.self.clerk.keeper.writer.device) image =
    subst (λ d. IsLeftBy c.args.outcome (fuse_state_of d) image) device
    (left_unchanged c.args.outcome (fuse_state_of c.into_disk.result) (state_of c.into_inner.result) image c.into_inner.ensures.same c.cut.ensures.image) in
    let may = cut_may c.args.self.clerk.keeper.writer.device c.into_disk.result c.into_inner.result c.cut.result device c.into_inner.ensures.same c.cut.ensures.cut in
    let placed = subst (λ (k : KeeperView FusedDisk). k.writer.is_broken ≡ false → LeavesNow (fuse_state_of k.writer.device) (IsImageIn k.writer.plan k.writer.half k.writer.is_in_second_half k.writer.used k.writer.register)) c.keeper.ensures.value
    (subst (λ r. c.keeper.result.now.writer.is_broken ≡ false → LeavesNow (fuse_state_of c.keeper.result.now.writer.device) (IsImageIn c.keeper.result.now.writer.plan c.keeper.result.now.writer.half c.keeper.result.now.writer.is_in_second_half c.keeper.result.now.writer.used r))
    c.safe_register-placed.ensures.value c.safe_register-placed.ensures.placed) in
    λ g shows. left_found c.args.self.building.now g c.args.self.clerk.keeper c.args.outcome image g.failed refl shows.keeper.stands shows.keeper.same_plan shows.keeper.half_is shows.keeper.register placed left may
