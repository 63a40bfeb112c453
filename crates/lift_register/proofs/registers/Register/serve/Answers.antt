use Rattle.std.proofs.Common.{◌≡◌, ◌+◌, ◌≤◌, subst, sym, length, arith}
use Rattle.lift_base.specs.declared.limits.TheConstants.{MOST_DONE}
use Rattle.lift_register.specs.Rows.{row_lists}
use Rattle.lift_register.specs.Register.{RegisterState, rows_of}
use Rattle.lift_register.specs.Steps.{ended_by}
use Rattle.lift_register.specs.lemmas.HistoryLemmas.{state_of}
use Rattle.lift_register.specs.lemmas.KeptLemmas.{IsWellFormed-stop}
use Rattle.lift_register.proofs.registers.Register.serve.Goals as goal

pub invariant_of-self : goal.invariant_of-self
invariant_of-self c =
    let register : RegisterState = state_of (row_lists c.self.inside.rows) c.self.inside.lasts c.self.inside.done in
    let ended : c.in-Some.ended ≡ ended_by c.args.stop.now register c.args.car = omega (arith, c.in-Some.ensures.ended) in
    rw (c.serve_car.ensures.rows, ended) (IsWellFormed-stop register c.args.car c.args.stop.now c.self.invariant c.serve_car.ensures.car (subst (λ (r : RegisterState). r.done + length (rows_of r c.args.car) ≤ MOST_DONE) (sym c.self.view_is) c.requires.countable))

pub returns-in-Some-clause-lawful : goal.returns-in-Some-clause-lawful
returns-in-Some-clause-lawful c =
    let register : RegisterState = state_of (row_lists c.self.inside.rows) c.self.inside.lasts c.self.inside.done in
    let ended : c.in-Some.ended ≡ ended_by c.args.stop.now register c.args.car = omega (arith, c.in-Some.ensures.ended) in
    rw (c.serve_car.ensures.rows, ended) (IsWellFormed-stop register c.args.car c.args.stop.now c.self.invariant c.serve_car.ensures.car (subst (λ (r : RegisterState). r.done + length (rows_of r c.args.car) ≤ MOST_DONE) (sym c.self.view_is) c.requires.countable))
