use Rattle.std.proofs.Common.{◌≡◌, length, Option, ap, sym, ◌∙◌, arith}
use Rattle.std.specs.Option.{option_to_list}
use Rattle.lift_parts.specs.Batch.{BatchState}
use Rattle.lift_relay.proofs.Allocated.{few_sent}
use Rattle.lift_relay.proofs.allocator.Allocator.send_hand.Goals as goal

pub send-requires-clause-few : goal.send-requires-clause-few
send-requires-clause-few g c =
    let s = c.self.inside in
    let one : length (option_to_list s.hand) ≡ 1 = ap (λ (h : Option BatchState). length (option_to_list h)) (sym c.take.ensures.value ∙ c.in-Some.is) in
    few_sent s.scanner.desk s.scanner.seat (length s.end.sent) c.self.invariant.seated (let count = c.terminals-terminals.ensures.count in omega arith) (let few = c.self.invariant.few in omega arith)
