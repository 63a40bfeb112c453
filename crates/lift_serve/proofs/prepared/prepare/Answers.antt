use Rattle.std.proofs.Common.{arith}
use Rattle.std.proofs.lemmas.Grind.{common_steps}
use Rattle.lift_serve.proofs.Relayings.{leaves_safe}
use Rattle.lift_serve.proofs.prepared.prepare.Goals as goal

pub returns-in-Ok-split_for-clause-group : goal.returns-in-Ok-split_for-clause-group
returns-in-Ok-split_for-clause-group g c = record {
  clerk = c.new-2.result;
  begins = grind (arith, common_steps);
  unused = grind (arith, common_steps);
  policy_is = grind (arith, common_steps);
  seats = grind (arith, common_steps);
  leaves = leaves_safe g.D.Disk.state c.args.keeper c.safe_register-safe.result.now c.safe_register-safe.ensures.value c.safe_register-safe.ensures.safe c.safe_register-safe.ensures.in_doubt;
  parts = c.in-Ok-split_for.ensures.parts;
  first = c.in-Ok-split_for.ensures.flusher;
  goes_on = c.in-Ok-split_for.ensures.history;
}

pub returns-in-Ok-split_for-clause-lobby : goal.returns-in-Ok-split_for-clause-lobby
returns-in-Ok-split_for-clause-lobby g c = record {
  desk_is = grind (arith, common_steps);
  all = grind (arith, common_steps);
}
