use Rattle.std.proofs.Common.{rules, ◌≢◌}
use Rattle.clap.specs.Words.{kind_of}
use Rattle.clap.specs.declared.error.kind.ErrorKind.TheVariants.{OutOfMemory}
use Rattle.lift_program.proofs.Commands.{are_matches, refused}
use Rattle.lift_program.proofs.refused.matches_of.Goals as goal

pub returns-in-Ok-try_get_matches_from-clause-taken : goal.returns-in-Ok-try_get_matches_from-clause-taken
returns-in-Ok-try_get_matches_from-clause-taken g c =
    let found = c.in-Ok-try_get_matches_from in
    are_matches _ _ found.matches c.in-Ok.ensures found.ensures.kinds found.ensures.matches

pub returns-clause-other : goal.returns-clause-other
returns-clause-other g c =
    let short : kind_of c.in-Err.error ≢ OutOfMemory = search rules in
    λ request asks. refused _ _ c.in-Err.error request c.in-Ok.ensures c.in-Err.ensures.kinds short asks
