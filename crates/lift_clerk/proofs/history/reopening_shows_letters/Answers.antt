use Rattle.std.proofs.Common.{inl, refl}
use Rattle.lift_clerk.specs.Steps.{group_of}
use Rattle.lift_clerk.proofs.Histories.{moments_stand}
use Rattle.lift_clerk.proofs.history.reopening_shows_letters.Goals as goal

pub returns-clause-moments : goal.returns-clause-moments
returns-clause-moments g c =
    let before = c.args.clerk.now in
    let after = c.reopen_once.new.clerk in
    moments_stand c.histories_are_runs.ensures.kept (group_of before) before.keeper.writer.doubt (inl refl) (g.D.Disk.state before.keeper.writer.device) (g.D.Disk.state after.keeper.writer.device)
    c.reopen_once.ensures.reopening.recovers.any_moment
