use Rattle.std.proofs.Common.{refl, ap, ◌∙◌}
use Rattle.std.specs.Option.{option_to_list}
use Rattle.lift_parts.specs.Allocator.{AllocatorState}
use Rattle.lift_relay.proofs.Allocated.{ahead, turned}
use Rattle.lift_relay.proofs.allocator.Allocator.send_and_scan.Goals as goal

pub invariant_of-self : goal.invariant_of-self
invariant_of-self g c =
    let s = c.self.inside in
    ahead g.P.Policy.chooses s.scanner c.scan-batch.new.self s.end (option_to_list s.hand) c.scan-batch.result.0 c.scan-batch.result.1 c.replace-none.new.dest c.self.invariant
    (ap (λ (v : AllocatorState g.row.P.Denot). v.hand) c.self.view_is ∙ (c.if-not-send_hand.ensures.sent refl).none) c.scan-batch.ensures c.replace-none.ensures.after

pub returns : goal.returns
returns g c =
    let s = c.self.inside in
    turned g.P.Policy.chooses c.args.self.now c.send_hand.new.self c.send_hand-sent.new.self s.scanner c.scan-batch.new.self s.end (option_to_list s.hand) c.scan-batch.result.0 _ c.scan-batch.result.1 c.replace-none.new.dest c.send_hand-sent.result
    c.self.view_is (c.if-not-send_hand.ensures.sent refl) c.scan-batch.ensures c.replace-none.ensures.after c.send_hand-sent.ensures.sent c.send_hand-sent.ensures.full
