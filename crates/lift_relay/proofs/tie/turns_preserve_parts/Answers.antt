use Rattle.lift_relay.proofs.Ran.{turns_keep}
use Rattle.lift_relay.proofs.tie.turns_preserve_parts.Goals as goal

pub returns : goal.returns
returns g c = λ policy. turns_keep (g.P.Policy.chooses policy) g.D.Disk.state
