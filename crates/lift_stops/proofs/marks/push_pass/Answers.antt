use Rattle.std.proofs.Common.{◌≡◌, ◌++◌, ℕ, List, map, ap, sym, ◌∙◌}
use Rattle.std.proofs.lemmas.List.{append-nil}
use Rattle.lift_stops.specs.Marks.{marked, halt_on}
use Rattle.lift_stops.proofs.Marked.{marked-none}
use Rattle.lift_stops.proofs.marks.push_pass.Goals as goal

pub returns : goal.returns
returns c =
    let none : c.loop-left.left ≡ 0 = c.loop-left-test.false in
    sym (append-nil c.loop-left.halts.items)
    ∙ ap (λ (xs : List ℕ). c.loop-left.halts.items ++ map (halt_on c.args.pass c.args.dir) xs) (sym (ap (marked c.args.dir) none ∙ marked-none c.args.dir))
    ∙ c.loop-left.invariant.listed
