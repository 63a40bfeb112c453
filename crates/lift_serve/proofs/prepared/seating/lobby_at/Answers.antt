use Rattle.std.proofs.Common.{arith}
use Rattle.std.proofs.lemmas.Grind.{common_steps}
use Rattle.lift_serve.proofs.Places.{is_lobby}
use Rattle.lift_serve.proofs.prepared.seating.lobby_at.Goals as goal

pub new-requires : goal.new-requires
new-requires c = is_lobby c.args.register.now c.args.desk.now _ (grind (arith, common_steps))
