use Rattle.std.proofs.Common.{◌≡◌, ◌++◌, List, Some, slice_get, subst}
use Rattle.lift_base.specs.declared.travel.Dir.{Dir}
use Rattle.lift_base.specs.declared.travel.Pass.TheVariants.{Second}
use Rattle.lift_base.specs.declared.travel.Halt.{Halt}
use Rattle.lift_stops.specs.Marks.{halts_marked, set_in}
use Rattle.lift_stops.proofs.Marked.{first_of_second, first_of_third, first_of_none}
use Rattle.lift_stops.proofs.marks.Marks.first_halt.Goals as goal

pub returns-then-second-ne0 : goal.returns-then-second-ne0
returns-then-second-ne0 c =
    first_of_second c.args.self.now c.args.dir c.first_in-then-second-ne0.result c.if-first-ne0.false
    (subst (λ (dir : Dir). (others : List Halt) → Some c.first_in-then-second-ne0.result ≡ slice_get (halts_marked Second dir (set_in c.args.self.now Second) ++ others) 0) c.reverse.ensures c.first_in-then-second-ne0.ensures)

pub returns-then-third-ne0 : goal.returns-then-third-ne0
returns-then-third-ne0 c = first_of_third c.args.self.now c.args.dir c.first_in-then-third-ne0.result c.if-first-ne0.false c.if-second-ne0.false c.first_in-then-third-ne0.ensures

pub returns-else-third-ne0 : goal.returns-else-third-ne0
returns-else-third-ne0 c = first_of_none c.args.self.now c.args.dir c.if-first-ne0.false c.if-second-ne0.false c.if-third-ne0.false
