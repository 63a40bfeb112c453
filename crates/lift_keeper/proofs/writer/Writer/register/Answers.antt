use Rattle.std.proofs.Common.{◌≡◌, false, subst}
use Rattle.lift_disk.specs.Disk.{LeavesNow}
use Rattle.lift_keeper.specs.Images.{IsImageIn}
use Rattle.lift_keeper.specs.Writer.{WriterView}
use Rattle.lift_keeper.proofs.Writers.{placed_of}
use Rattle.lift_keeper.proofs.writer.Writer.register.Goals as goal

pub returns-clause-placed : goal.returns-clause-placed
returns-clause-placed g c =
    let w = c.self.inside in
    subst (λ (v : WriterView g.row.D.Denot). v.is_broken ≡ false → LeavesNow (g.D.Disk.state v.device) (IsImageIn v.plan v.half v.is_in_second_half v.used w.register)) c.self.view_is
    (placed_of w.building.now w.journal w.register w.doubt.value.items (g.D.Disk.state w.at_opening.value.device).failures w.is_broken (g.D.Disk.state w.journal.device) c.self.invariant)
