use Rattle.std.proofs.Common.{subst, sym, arith}
use Rattle.lift_register.specs.WellFormed.{IsWellFormed}
use Rattle.lift_register.specs.Balanced.{IsBalanced}
use Rattle.lift_register.specs.Belongs.{BelongsTo}
use Rattle.lift_register.specs.lemmas.Laws.{IsWellFormed-empty, IsBalanced-empty, BelongsTo-empty}
use Rattle.lift_register.proofs.ReadLemmas.{empty-made}
use Rattle.lift_register.proofs.registers.Register.empty.Goals as goal

pub invariant_of-result : goal.invariant_of-result
invariant_of-result c = subst IsWellFormed (sym (empty-made c.default.result c.default.ensures.long (λ i e within. c.default.ensures.at i e (omega (arith, c.default.ensures.long))))) IsWellFormed-empty

pub returns-clause-value : goal.returns-clause-value
returns-clause-value c = empty-made c.default.result c.default.ensures.long (λ i e within. c.default.ensures.at i e (omega (arith, c.default.ensures.long)))

pub returns-clause-lawful : goal.returns-clause-lawful
returns-clause-lawful c = subst IsWellFormed (sym (returns-clause-value c)) IsWellFormed-empty

pub returns-clause-balanced : goal.returns-clause-balanced
returns-clause-balanced c = subst IsBalanced (sym (returns-clause-value c)) IsBalanced-empty

pub returns-clause-belongs : goal.returns-clause-belongs
returns-clause-belongs c plan = subst (BelongsTo plan) (sym (returns-clause-value c)) (BelongsTo-empty plan)
