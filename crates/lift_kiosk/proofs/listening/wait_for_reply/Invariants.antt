use Rattle.std.proofs.Common.{◌≡◌}
use Rattle.lift_kiosk.specs.Hearing.{looked}
use Rattle.lift_kiosk.proofs.listening.wait_for_reply.Given as goal

-- no look has found an answer so far
abbrev pub invariant-loop : goal.invariant-loop
invariant-loop g l = record {
  looks : g.P.Port.view l.port ≡ looked (g.P.Port.view l.fn.port) l.counter;
  stays : g.P.Port.place l.port ≡ g.P.Port.place l.fn.port;
}
