use Rattle.std.proofs.Common.{◌≡◌, ap, sym, List, ℕ, length}
use Rattle.std.proofs.lemmas.Bool.{both_ways, eq-eqb}
use Rattle.lift_policy.proofs.Letters.{letters_of}
use Rattle.lift_policy.proofs.eligible.Eligible.among.Goals as goal

pub invariant_of-result : goal.invariant_of-result
invariant_of-result c =
    letters_of c.args.building.now c.args.view.now c.args.call c.letters_among-letters.result.items c.letters_among-letters.ensures (λ e. let n : length c.letters_among-letters.result.items ≡ 0 = ap (λ (xs : List ℕ). length xs) e in absurd (both_ways _ (sym c.if-is_empty.ensures) (eq-eqb _ 0 n)))
