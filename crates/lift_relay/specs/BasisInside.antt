-- What is seen of what decisions read.
use Rattle.std.specs.Prelude.{[]}
use Rattle.lift_policy.specs.Step.{State}
use Rattle.lift_decider.specs.Decider.{state_of}
use Rattle.lift_relay.specs.declared.basis.Basis.TheInside.{Inside}

abbrev pub seen : Inside → State
seen b = state_of b.register.value b.schedules.value []
