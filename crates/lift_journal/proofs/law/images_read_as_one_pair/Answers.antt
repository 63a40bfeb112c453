use Rattle.lift_journal.proofs.Pairs.{pair_unique}
use Rattle.lift_journal.proofs.law.images_read_as_one_pair.Goals as goal

pub returns : goal.returns
returns c = pair_unique
