use Rattle.lift_register.proofs.Follows.{rows_follow}
use Rattle.lift_register.proofs.joins.rows_follow_their_stops.Goals as goal

pub returns : goal.returns
returns c = rows_follow
