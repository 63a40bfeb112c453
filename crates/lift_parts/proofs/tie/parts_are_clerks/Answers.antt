use Rattle.lift_parts.proofs.GoesOn.{splits_go_on, joined_go_on, splits_keep_pasts, joined_keep_pasts}
use Rattle.lift_parts.proofs.tie.parts_are_clerks.Goals as goal

pub returns-clause-split : goal.returns-clause-split
returns-clause-split g c = splits_go_on

pub returns-clause-joined : goal.returns-clause-joined
returns-clause-joined g c = joined_go_on

pub returns-clause-split_past : goal.returns-clause-split_past
returns-clause-split_past g c = splits_keep_pasts c.pasts_go_on.ensures

pub returns-clause-joined_past : goal.returns-clause-joined_past
returns-clause-joined_past g c = joined_keep_pasts c.pasts_go_on.ensures
