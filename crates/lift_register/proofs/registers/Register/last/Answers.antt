use Rattle.std.proofs.Common.{None, ◌∙◌, arith}
use Rattle.lift_base.specs.Records.{IsRecord}
use Rattle.lift_base.specs.declared.history.Last.{Last}
use Rattle.lift_base.specs.declared.history.Record.TheVariants.{Last as LastRecord}
use Rattle.lift_register.proofs.ReadLemmas.{IfSome-known, get_or-default}
use Rattle.lift_register.proofs.registers.Register.last.Goals as goal

pub returns-clause-written : goal.returns-clause-written
returns-clause-written c =
    IfSome-known _ (λ (last : Last). IsRecord (LastRecord c.args.terminal last))
    (λ last same. rw (← c.get.ensures.value) (c.self.invariant.lasts c.get.result last (get_or-default c.self.inside.lasts c.get.result None c.index-self-get.result (omega (arith, c.self.invariant.last_count, c.get.ensures.in_range)) ∙ same)))
