use Rattle.std.proofs.Common.{List, ℕ, subst, sym}
use Rattle.lift_building.specs.Arrivals.{AreArrivals}
use Rattle.lift_building.specs.lemmas.Times.{arrivals_are, arrivals_end}
use Rattle.lift_building.proofs.building.Building.arrivals.Goals as goal

pub returns-clause-laws : goal.returns-clause-laws
returns-clause-laws c =
    let plan = c.args.self.now in
    let floor = c.args.position.floor in
    let Laws : List ℕ → Type 0 = λ times. AreArrivals plan floor c.args.halts.now times in
    subst Laws (sym (arrivals_end plan c.loop-halt.floor c.loop-halt.leaves c.loop-halt.halt-index c.args.halts.now c.loop-halt.arrivals.items _ c.loop-halt-test.false c.loop-halt.invariant.so_far)) (arrivals_are plan floor c.args.halts.now)
