use Rattle.std.proofs.Common.{◌≡◌, false, subst}
use Rattle.lift_disk.specs.Disk.{LeavesNow}
use Rattle.lift_keeper.specs.Images.{IsImageIn}
use Rattle.lift_keeper.specs.Keeper.{KeeperView}
use Rattle.lift_keeper.proofs.keeper.Keeper.safe_register.Goals as goal

pub returns-clause-placed : goal.returns-clause-placed
returns-clause-placed g c =
    subst (λ (k : KeeperView g.row.D.Denot). k.writer.is_broken ≡ false → LeavesNow (g.D.Disk.state k.writer.device)
    (IsImageIn k.writer.plan k.writer.half k.writer.is_in_second_half k.writer.used c.register.result.now)) c.self.view_is c.register.ensures.placed
