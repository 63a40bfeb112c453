use Rattle.lift_keeper.proofs.Writers.{armed_writer}
use Rattle.lift_keeper.proofs.writer.Writer.arm.Goals as goal

pub invariant_of-self : goal.invariant_of-self
invariant_of-self g c =
    armed_writer c.self.inside.building.now c.self.inside.journal c.self.inside.register c.self.inside.doubt.value.items (g.D.Disk.state c.self.inside.at_opening.value.device).failures c.self.inside.is_broken
    (g.D.Disk.state c.self.inside.journal.device) c.self.invariant c.arm.new.self (g.D.Disk.state c.arm.new.self.device) c.arm.ensures.rest.0 c.arm.ensures.second c.arm.ensures.rest.1 c.arm.ensures.rest.3 c.arm.ensures.same
