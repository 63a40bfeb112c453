use Rattle.std.proofs.Common.{◌++◌, ◌∷◌, [], if◌then◌else◌}
use Rattle.lift_base.specs.declared.travel.Halt.{Halt}
use Rattle.lift_cost.proofs.ways.Ways.end_at.Goals as goal

pub later_at_end-requires-clause-short : goal.later_at_end-requires-clause-short
later_at_end-requires-clause-short c = c.stop_at-ways.ensures.short 2 c.requires.short

pub returns-clause-on : goal.returns-clause-on
returns-clause-on c =
    let at = c.stop_at-ways.ensures.on in
    let halt : Halt = c.args.halt.now in
    record {
      before = at.before;
      is_there = at.is_there;
      behind = c.stop_at-ways.result.2.now;
      split = at.split;
      on = λ start made made_with none on. c.later_at_end.ensures.value start ((made ++ at.before) ++ (if at.is_there then halt ∷ [] else [])) ((made_with ++ at.before) ++ halt ∷ []) (at.on start made made_with none on);
      arrives_at = at.arrives_at;
    }
