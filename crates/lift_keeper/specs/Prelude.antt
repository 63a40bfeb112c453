-- The names of a keeper and of a writer that their contracts and those of the layers above cite,
-- passed on from one place. Declares nothing.
pub use Rattle.lift_keeper.specs.Images.{IsImageOf, IsImageIn, IsInDoubt}
pub use Rattle.lift_keeper.specs.Commits.{CommitLeaves, Commits, CommitsTo}
pub use Rattle.lift_keeper.specs.Recovers.{Recovers}
pub use Rattle.lift_keeper.specs.Reopening.{Reopens, WriterOpens, RefusesReopening}
pub use Rattle.lift_keeper.specs.Calls.{CommitCalls, OpensByCalls, RefusedCalls, ReopeningCalls}
