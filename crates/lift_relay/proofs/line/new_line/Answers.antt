use Rattle.std.proofs.Common.{ap, refl}
use Rattle.lift_relay.specs.declared.line.EndView.{EndView}
use Rattle.lift_relay.specs.Rule.{opening_view}
use Rattle.lift_relay.proofs.Moves.{names, named, starts, begun, ends}
use Rattle.lift_relay.proofs.line.new_line.Goals as goal

pub passed_queue-requires-clause-pushes : goal.passed_queue-requires-clause-pushes
passed_queue-requires-clause-pushes c = names _ _ opening_view _ refl

pub passed_queue-requires-clause-pops : goal.passed_queue-requires-clause-pops
passed_queue-requires-clause-pops c w push = starts _ _ _ (named _ _ push)

pub another-other-requires-clause-rule : goal.another-other-requires-clause-rule
another-other-requires-clause-rule c =
    let went = c.in_ok-queue.ensures.went in
    let is = begun _ _ _ _ went.2 went.3 in
    ends _ _ (ap (λ (v : EndView). v.begun) is) (ap (λ (v : EndView). v.sends) is) (ap (λ (v : EndView). v.receives) is)
