use Rattle.std.proofs.Common.{◌∙◌}
use Rattle.lift_program.proofs.Stages.{has_no_image, has_no_keeper, is_opened}
use Rattle.lift_program.proofs.invocation.ready.keeping.keeper_in.Goals as goal

pub returns-in-Ok-open-clause-opened : goal.returns-in-Ok-open-clause-opened
returns-in-Ok-open-clause-opened g c =
    let opens = c.in-Ok-open.ensures.opens in
    record {
      opened = c.over.result;
      fresh = is_opened _ _ _ _ _ _ c.in-Ok.file _ c.args.path.now c.over.ensures.below c.over.ensures.calls (c.over.ensures.failures ∙ c.in-Ok.ensures.failures) c.in-Ok.ensures.calls c.in-Ok.ensures.measured c.over.ensures.honest c.over.ensures.held;
      is_kept = record { recovers = opens.reopens; starts = c.in-Ok-open.ensures.state; whole = opens.whole.0; no_doubt = opens.whole.1; own = opens.plan };
    }

pub returns-in-Err-clause-failure : goal.returns-in-Err-clause-failure
returns-in-Err-clause-failure g c =
    has_no_image _ _ c.in-Err.cause _ c.refused-fault.ensures.same c.refused-fault.ensures.fault c.refused-fault.ensures.caused c.in-Err.ensures.refused

pub returns-in-Err-open-clause-failure : goal.returns-in-Err-open-clause-failure
returns-in-Err-open-clause-failure g c =
    has_no_keeper _ _ c.args.building.now c.over.result c.in-Err-open.disk _ c.in-Err-open.fault c.new.ensures
    (is_opened _ _ _ _ _ _ c.in-Ok.file _ c.args.path.now c.over.ensures.below c.over.ensures.calls (c.over.ensures.failures ∙ c.in-Ok.ensures.failures) c.in-Ok.ensures.calls c.in-Ok.ensures.measured c.over.ensures.honest c.over.ensures.held)
    c.in-Err-open.ensures.refused
