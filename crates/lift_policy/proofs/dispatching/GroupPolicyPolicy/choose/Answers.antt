use Rattle.std.proofs.Common.{ℕ, List, subst}
use Rattle.std.specs.Prelude.{Contains}
use Rattle.lift_policy.specs.lemmas.Present.{present_first_contains}
use Rattle.lift_policy.proofs.dispatching.GroupPolicyPolicy.choose.Goals as goal

pub returns-clause-member : goal.returns-clause-member
returns-clause-member g c =
    let P : List ℕ → Type 0 = λ letters. Contains letters c.choose-2.result in
    present_first_contains c.present-present.result c.args.among c.choose-2.result (subst P c.present_first.ensures c.choose-2.ensures.member)
