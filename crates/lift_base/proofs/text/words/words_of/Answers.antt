use Rattle.std.proofs.Common.{arith, rules}
use Rattle.lift_base.specs.lemmas.Words.{all_read, one_more, too_many}
use Rattle.lift_base.proofs.text.words.words_of.Goals as goal

pub returns-in-None-clause-some : goal.returns-in-None-clause-some
returns-in-None-clause-some c =
    rw c.push.ensures.items (all_read c.args.line.now c.loop.rest.now c.loop.words.items c.loop.rest c.loop.invariant.apart c.loop.invariant.joined c.in-None.ensures.none)

pub loop-preserved : goal.loop-preserved
loop-preserved c =
    let more = one_more _ c.loop.rest.now c.in-Some.behind.now c.loop.words.items c.in-Some.word c.loop.invariant.apart c.loop.invariant.joined c.in-Some.ensures.cut c.in-Some.ensures.first in
    record {
      text = search rules;
      count = search rules;
      apart = rw c.push-in-Some.ensures.items more.0;
      joined = rw c.push-in-Some.ensures.items more.1;
    }

pub returns-clause-none : goal.returns-clause-none
returns-clause-none c words read =
    let more = too_many c.args.line.now c.loop.rest.now c.loop.words.items words c.loop.invariant.apart c.loop.invariant.joined read in
    omega (arith, more, c.loop.invariant.count, c.loop-test.false)
