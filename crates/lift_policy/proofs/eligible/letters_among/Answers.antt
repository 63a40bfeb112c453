use Rattle.std.proofs.Common.{◌∙◌, ap, sym, arith, Some, None, lit<, append-nil}
use Rattle.lift_policy.specs.Eligible.{is_eligible}
use Rattle.lift_policy.proofs.Letters.{letters_more, few_so_far, eligible_so_far}
use Rattle.lift_policy.proofs.eligible.letters_among.Goals as goal
use Rattle.lift_policy.proofs.eligible.letters_among.Goals.{in-Some, in-None}

pub push-requires : goal.push-requires
push-requires c = (lit< tt, few_so_far (is_eligible c.args.building.now c.args.view.now c.args.call.now) c.loop-index.letters.items c.loop-index.index c.loop-index.invariant (omega arith))

pub loop-index-preserved : goal.loop-index-preserved
loop-index-preserved c =
    elim c.match-eligible_at.branch [
      | in-Some w ↦ letters_more (is_eligible c.args.building.now c.args.view.now c.args.call.now) c.loop-index.letters.items _ c.loop-index.index (Some w.in-Some.car)
          c.loop-index.invariant w.in-Some.ensures (ap (λ v. v.items) w.letters-is ∙ w.push.ensures.items)
      | in-None w ↦ letters_more (is_eligible c.args.building.now c.args.view.now c.args.call.now) c.loop-index.letters.items _ c.loop-index.index None
          c.loop-index.invariant w.in-None.ensures (ap (λ v. v.items) w.letters-is ∙ sym (append-nil _))
    ]

pub returns : goal.returns
returns c =
    eligible_so_far c.args.building.now c.args.view.now c.args.call.now c.loop-index.letters.items c.loop-index.index (omega arith) (omega arith) c.loop-index.invariant
