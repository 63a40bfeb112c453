use Rattle.std.proofs.Common.{sym, ap, ◌∙◌, subst}
use Rattle.lift_parts.specs.Allocator.{AllocatorState}
use Rattle.lift_parts.specs.Turns.{NoMore, AllocatorTurns}
use Rattle.lift_parts.specs.lemmas.Paired.{same_policy, turns_more}
use Rattle.lift_relay.proofs.pair.allocate.Goals as goal

pub loop-init : goal.loop-init
loop-init g c =
    let e = c.begin-gated.ensures in
    record {
      turns = subst (λ (a : AllocatorState g.row.P.Denot). AllocatorTurns (g.P.Policy.chooses c.args.allocator.policy) c.args.allocator a) (sym e.same) NoMore;
      policy = ap (λ (a : AllocatorState g.row.P.Denot). a.policy) e.same;
      closes = e.closes;
    }

pub loop-preserved : goal.loop-preserved
loop-preserved g c =
    let i = c.loop.invariant in
    let chooses = g.P.Policy.chooses in
    let old = c.loop.gated.allocator in
    let new = c.turn.new.self.allocator in
    let counts = c.turn.ensures.turns.0 in
    let turn = c.turn.ensures.turns.1 in
    record {
      turns = turns_more chooses c.args.allocator old new counts i.policy i.turns turn;
      policy = same_policy (chooses old.policy) old new counts turn ∙ i.policy;
      closes = c.turn.ensures.closes;
    }
