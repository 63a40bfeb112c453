use Rattle.std.proofs.Common.{◌≡◌, ◌<◌, ◌≤◌, ◌+◌, ◌∙◌, true, length, vec_len, ap, sym, subst, refl, inl, arith, rules, suc, Ok, Err}
use Rattle.std.specs.Io.KnownBytes.{Consumes, IsAtEnd}
use Rattle.std.proofs.KnownBytes.{Consumes-trans}
use Rattle.lift_replay.proofs.Taken.{all_taken, came_more, each_more, each_on, grew_more, handed_on, taken_more}
use Rattle.lift_replay.proofs.input.read_all.Goals.{then-not-branch-via-then-not-branch, then-not-branch-via-else-not-branch+then-len-most}
use Rattle.lift_replay.proofs.input.read_all.Goals as goal

pub returns-in_err-read_some-clause-reads : goal.returns-in_err-read_some-clause-reads
returns-in_err-read_some-clause-reads g c =
    let last = c.read_some.ensures.one_call in
    let room : length c.loop.bytes.items ≤ c.args.most = search rules in
    record {
      taken = taken_more g.R.Read.remaining c.args.most c.args.input.now c.loop.input c.read_some.new.input c.loop.bytes.items c.loop.invariant.taken last;
      each_call = each_more g.R.Read.remaining c.args.most c.args.input.now c.loop.input c.read_some.new.input c.loop.bytes.items room c.loop.invariant.each last;
      few_calls = omega (arith, last.1.0, c.loop.invariant.calls);
    }

pub returns-then-not-branch-clause-reads : goal.returns-then-not-branch-clause-reads
returns-then-not-branch-clause-reads g c =
    let last = c.read_some.ensures.one_call in
    let room : length c.loop.bytes.items ≤ c.args.most = search rules in
    record {
      taken = taken_more g.R.Read.remaining c.args.most c.args.input.now c.loop.input c.read_some.new.input c.loop.bytes.items c.loop.invariant.taken last;
      each_call = each_more g.R.Read.remaining c.args.most c.args.input.now c.loop.input c.read_some.new.input c.loop.bytes.items room c.loop.invariant.each last;
      few_calls = omega (arith, last.1.0, c.loop.invariant.calls);
    }

pub returns-then-not-branch-clause-gives : goal.returns-then-not-branch-clause-gives
returns-then-not-branch-clause-gives g c =
    let gave = c.in_ok-read_some.ensures.gave in
    let new = c.read_some.new.input in
    let items = c.read_some.new.bytes.items in
    let count : length items ≡ vec_len c.read_some.new.bytes = search rules in
    let bound : vec_len c.read_some.new.bytes ≤ c.args.most + 1 = search rules in
    let front = subst (Consumes (g.R.Read.remaining c.args.input.now.reader) (g.R.Read.remaining new.reader)) (sym gave.1) (Consumes-trans _ _ _ c.loop.bytes.items gave.0 c.loop.invariant.taken gave.2) in
    let ends : length items ≤ c.args.most → (new.ended ≡ true) × IsAtEnd (g.R.Read.remaining new.reader) = λ short. elim c.then-not-branch.branch [
      | then-not-branch-via-then-not-branch w ↦ search rules
      | then-not-branch-via-else-not-branch+then-len-most w ↦ absurd (omega (arith, count, short))
    ] in
    record {
      front = front;
      few = omega (arith, count, bound);
      whole = λ short. all_taken _ _ items front (ends short).1;
      ended = ends;
      unfailed = c.in_ok-read_some.ensures.ok ∙ c.loop.invariant.unhurt;
    }

pub loop-preserved : goal.loop-preserved
loop-preserved g c =
    let gave = c.in_ok-read_some.ensures.gave in
    let count : length c.loop.bytes.items ≡ vec_len c.loop.bytes = search rules in
    let more : length c.read_some.new.bytes.items ≡ vec_len c.read_some.new.bytes = search rules in
    let grows : vec_len c.loop.bytes < vec_len c.read_some.new.bytes = search rules in
    let came : c.read_some.result ≡ Ok true = search rules in
    let one = c.read_some.ensures.one came in
    record {
      taken = subst (Consumes (g.R.Read.remaining c.args.input.now.reader) (g.R.Read.remaining c.read_some.new.input.reader)) (sym gave.1)
          (Consumes-trans _ _ _ c.loop.bytes.items gave.0 c.loop.invariant.taken gave.2);
      came = came_more _ _ _ c.loop.bytes.items c.in_ok-read_some.ensures.came.0 c.read_some.new.bytes.items c.loop.invariant.came c.in_ok-read_some.ensures.came.2 c.in_ok-read_some.ensures.came.1;
      room = search rules;
      calls = c.read_some.ensures.one_call.1.0 ∙ ap (λ n. n + 1) c.loop.invariant.calls;
      each = each_on g.R.Read.remaining _ _ c.args.input.now c.loop.input c.read_some.new.input c.loop.bytes.items c.read_some.new.bytes.items count more grows
          c.loop.invariant.each c.read_some.ensures.one_call.1.0 gave;
      told = (suc c.loop.invariant.told.0, (c.loop.input.reader, one.0, one.1, c.loop.invariant.told.1, one.2, one.3));
      unhurt = c.in_ok-read_some.ensures.ok ∙ c.loop.invariant.unhurt;
      unended = search rules;
    }

pub returns-clause-reads : goal.returns-clause-reads
returns-clause-reads g c =
    let room : length c.loop.bytes.items ≤ c.args.most = search rules in
    record {
      taken = (c.loop.bytes.items, omega (arith, room), c.loop.invariant.taken);
      each_call = (c.loop.invariant.each.0, c.loop.bytes.items, c.loop.input, c.loop.invariant.each.1, room, inl refl);
      few_calls = omega (arith, c.loop.invariant.calls);
    }

pub returns-in_err-read_some-clause-fails : goal.returns-in_err-read_some-clause-fails
returns-in_err-read_some-clause-fails g c =
    handed_on _ c.from_residual.result _ _ c.from_residual.ensures.1 (λ is. let failed = c.in_err-read_some.ensures.one_err (ap Err is) in inl (c.loop.input.reader, failed.0, c.loop.invariant.told, failed.1))

pub returns-then-not-branch-clause-came : goal.returns-then-not-branch-clause-came
returns-then-not-branch-clause-came g c =
    let came = c.in_ok-read_some.ensures.came in
    came_more _ _ _ c.loop.bytes.items came.0 c.read_some.new.bytes.items c.loop.invariant.came came.2 came.1

pub returns-then-not-branch-clause-grew : goal.returns-then-not-branch-clause-grew
returns-then-not-branch-clause-grew g c = grew_more _ _ _ c.loop.bytes.items c.loop.invariant.came c.read_some.ensures.grew

pub returns-in_err-read_some-clause-grew : goal.returns-in_err-read_some-clause-grew
returns-in_err-read_some-clause-grew g c = grew_more _ _ _ c.loop.bytes.items c.loop.invariant.came c.read_some.ensures.grew

pub returns-clause-grew : goal.returns-clause-grew
returns-clause-grew g c = (c.loop.bytes.items, c.loop.invariant.came)
