use Rattle.std.proofs.Common.{◌-◌, refl, inl, inr, arith}
use Rattle.lift_disk.proofs.span.Span.with.Goals as goal

pub returns-then-self-clause-shortest : goal.returns-then-self-clause-shortest
returns-then-self-clause-shortest c = λ from end all.
    let here = all c.args.sector (inr refl) in
    (here.0, omega (arith, here.1))

pub returns-clause-shortest : goal.returns-clause-shortest
returns-clause-shortest c = λ from end all.
    let here = all c.args.sector (inr refl) in
    let first = all c.args.self.from (inl (omega arith, omega (arith, c.requires, c.if-self.false))) in
    let last = all (c.args.self.end - 1) (inl (omega (arith, c.requires, c.if-self.false), omega (arith, c.requires, c.if-self.false))) in
    (omega (arith, here.0, first.0, c.min.ensures), omega (arith, here.1, last.1, c.max.ensures))
