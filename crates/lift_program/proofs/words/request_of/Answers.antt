use Rattle.std.proofs.Common.{rules}
use Rattle.lift_program.proofs.Commands.{some_asked, none_asked}
use Rattle.lift_program.proofs.words.request_of.Goals as goal

pub returns-in-Some-clause-asked : goal.returns-in-Some-clause-asked
returns-in-Some-clause-asked g c = some_asked _ c.in-Some.matches c.found_in.result (search rules) c.found_in.ensures.some

pub returns-in-Some-clause-other : goal.returns-in-Some-clause-other
returns-in-Some-clause-other g c = none_asked _ c.in-Some.matches c.found_in.result (search rules) c.found_in.ensures.none
