use Rattle.std.proofs.Common.{arith, subst, refl, suc, Some, None, ◌+◌, drop, inl, inr}
use Rattle.lift_base.proofs.Bytes.{front_grows, front_within, rest_is}
use Rattle.lift_base.proofs.text.output.put_all.Goals as goal

pub loop-written-preserved : goal.loop-written-preserved
loop-written-preserved g c =
    record {
      so_far = front_grows _ _ _ c.args.bytes.now c.loop-written.written c.in-Some.count c.loop-written.invariant.so_far c.in-Some.ensures.bytes;
      within = front_within c.args.bytes.now c.loop-written.written c.in-Some.count c.loop-written.invariant.within c.in-Some.ensures.bound;
      each = (
        suc c.loop-written.invariant.each.0,
        (
          c.loop-written.writer,
          c.loop-written.written,
          c.in-Some.count,
          c.loop-written.invariant.each.1,
          subst (λ rest. g.W.Outflow.gives c.loop-written.writer rest (Some c.in-Some.count) c.take.new.self) (rest_is c.args.bytes.now c.loop-written.written) c.in-Some.ensures.gives,
          omega (arith, c.in-Some.count-test),
          refl,
        ),
      );
    }

pub returns-in-Some-eq0-clause-each_so_far : goal.returns-in-Some-eq0-clause-each_so_far
returns-in-Some-eq0-clause-each_so_far g c =
    let so_far = c.loop-written.invariant.each in
    let rest = c.args.bytes.now in
    let none : g.W.Outflow.gives c.loop-written.writer (drop c.loop-written.written rest) (Some 0) c.take.new.self =
    subst (λ n. g.W.Outflow.gives c.loop-written.writer (drop c.loop-written.written rest) (Some n) c.take.new.self) c.in-Some-eq0.field-0-test
    (subst (λ bytes. g.W.Outflow.gives c.loop-written.writer bytes (Some c.in-Some-eq0.field-0) c.take.new.self) (rest_is rest c.loop-written.written) c.in-Some-eq0.ensures.gives) in
    (0 + so_far.0 + 1, (so_far.0, c.loop-written.writer, so_far.1, inr none, refl))

pub returns-in-None-clause-each_so_far : goal.returns-in-None-clause-each_so_far
returns-in-None-clause-each_so_far g c =
    let so_far = c.loop-written.invariant.each in
    let rest = c.args.bytes.now in
    let failed : g.W.Outflow.gives c.loop-written.writer (drop c.loop-written.written rest) None c.take.new.self =
    subst (λ bytes. g.W.Outflow.gives c.loop-written.writer bytes None c.take.new.self) (rest_is rest c.loop-written.written) c.in-None.ensures.gives in
    (0 + so_far.0 + 1, (so_far.0, c.loop-written.writer, so_far.1, inl failed, refl))
