use Rattle.lift_desk.proofs.Keeps.{begins}
use Rattle.lift_desk.proofs.looker.Looker.open.Goals as goal

pub table_of_words-requires : goal.table_of_words-requires
table_of_words-requires c = begins
