use Rattle.std.proofs.Common.{rules}
use Rattle.lift_kiosk.specs.lemmas.Lines.{keeps_no_more, keeps_one_more}
use Rattle.lift_kiosk.proofs.line.Line.push.Goals as goal

pub returns-then-is_full : goal.returns-then-is_full
returns-then-is_full c line so_far = keeps_no_more line _ c.args.byte _ (search rules) so_far

pub returns-else-is_full : goal.returns-else-is_full
returns-else-is_full c line so_far = keeps_one_more line _ _ c.args.byte _ (search rules) c.push.ensures.items so_far
