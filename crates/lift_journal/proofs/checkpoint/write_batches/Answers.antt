use Rattle.std.proofs.Common.{◌≡◌, ◌+◌, ◌*◌, ◌++◌, List, length, replicate, All, sym, ◌∙◌, ap, subst, arith}
use Rattle.std.proofs.lemmas.List.{take-replicate}
use Rattle.std.proofs.lemmas.Result.{err_from_is_err_and}
use Rattle.lift_base.specs.declared.limits.TheConstants.{MOST_ENTRIES}
use Rattle.lift_base.specs.declared.history.Record.{Record}
use Rattle.lift_base.specs.Records.{IsLawful}
use Rattle.lift_disk.specs.lemmas.Moments.{runs_then}
use Rattle.lift_register.specs.Base.{base_records}
use Rattle.lift_journal.specs.Layout.{Batch, new_batch, body_size, used, IsBody}
use Rattle.lift_journal.specs.Walk.{Reaches}
use Rattle.lift_journal.specs.Checkpoint.{in_batches, batch_count, sectors_for}
use Rattle.lift_journal.proofs.Bases.{base_in_order}
use Rattle.lift_journal.proofs.Checkpoints.{Drafted, drafted_touched, drafted_more, lawful_part, next_size, next_room, draft_makes_front, used_most, used_within}
use Rattle.lift_journal.specs.lemmas.Folding.{used_checkpoint}
use Rattle.lift_journal.specs.Calls.{batch_body, draft_calls, MakesPrefix}
use Rattle.lift_journal.proofs.Following.{err_follows}
use Rattle.lift_journal.specs.lemmas.Telling.{fails_then, err_ends}
use Rattle.lift_journal.proofs.Seeing.{bodies_few}
use Rattle.lift_journal.proofs.checkpoint.write_batches.Goals as goal

pub put_body-body-requires-clause-lawful : goal.put_body-body-requires-clause-lawful
put_body-body-requires-clause-lawful g c =
    subst (All IsLawful) (sym c.base_batch-batch.ensures) (lawful_part (MOST_ENTRIES * c.loop-index.index) (base_records c.args.register.now) c.base_len-count.ensures.records)

pub put_body-body-requires-clause-blank : goal.put_body-body-requires-clause-blank
put_body-body-requires-clause-blank g c =
    let n = c.body_count-bodies.result in
    let is : n ≡ body_size (length c.base_batch-batch.result.items) = c.body_count-bodies.ensures ∙ ap body_size c.len.ensures.value in
    take-replicate (512 * n) 1024 0 (omega (arith, is, bodies_few (length c.base_batch-batch.result.items))) ∙ ap (λ k. replicate (512 * k) 0) is

pub write_open_batch-requires-clause-there : goal.write_open_batch-requires-clause-there
write_open_batch-requires-clause-there g c =
    let items = c.base_batch-batch.result.items in
    let is : c.body_count-bodies.result ≡ body_size (length items) = c.body_count-bodies.ensures ∙ ap body_size c.len.ensures.value in
    let long = next_size c.loop-index.index c.body_count-bodies.result items c.put_body-body.result.now c.put_body-body.ensures.exact is in
    let room = next_room c.args.start c.loop-index.gate c.loop-index.index c.body_count-bodies.result c.batches_for-index-end.result (base_records c.args.register.now) items c.loop-index.invariant.at c.loop-index-test.true c.batches_for-index-end.ensures.limit is in
    omega (arith, long, room, c.requires.there, c.loop-index.invariant.runs.size)

pub write_open_batch-requires-clause-fits : goal.write_open_batch-requires-clause-fits
write_open_batch-requires-clause-fits g c =
    let items = c.base_batch-batch.result.items in
    let is : c.body_count-bodies.result ≡ body_size (length items) = c.body_count-bodies.ensures ∙ ap body_size c.len.ensures.value in
    let long = next_size c.loop-index.index c.body_count-bodies.result items c.put_body-body.result.now c.put_body-body.ensures.exact is in
    let room = next_room c.args.start c.loop-index.gate c.loop-index.index c.body_count-bodies.result c.batches_for-index-end.result (base_records c.args.register.now) items c.loop-index.invariant.at c.loop-index-test.true c.batches_for-index-end.ensures.limit is in
    omega (arith, long, room, c.requires.fits)

pub returns-in_err-write_open_batch-clause-touched : goal.returns-in_err-write_open_batch-clause-touched
returns-in_err-write_open_batch-clause-touched g c =
    let items = c.base_batch-batch.result.items in
    let records = base_records c.args.register.now in
    let is : c.body_count-bodies.result ≡ body_size (length items) = c.body_count-bodies.ensures ∙ ap body_size c.len.ensures.value in
    let long = next_size c.loop-index.index c.body_count-bodies.result items c.put_body-body.result.now c.put_body-body.ensures.exact is in
    let room = next_room c.args.start c.loop-index.gate c.loop-index.index c.body_count-bodies.result c.batches_for-index-end.result records items c.loop-index.invariant.at c.loop-index-test.true c.batches_for-index-end.ensures.limit is in
    drafted_touched (g.D.Disk.state c.args.disk.now) (g.D.Disk.state c.loop-index.disk) (g.D.Disk.state c.write_open_batch.new.disk) c.args.start c.loop-index.gate c.loop-index.index records c.loop-index.invariant
    (length c.put_body-body.result.now) (omega (arith, long, room)) c.write_open_batch.ensures.touched

pub overflow_add-gate-in-loop-index : goal.overflow_add-gate-in-loop-index
overflow_add-gate-in-loop-index g c =
    let items = c.base_batch-batch.result.items in
    let is : c.body_count-bodies.result ≡ body_size (length items) = c.body_count-bodies.ensures ∙ ap body_size c.len.ensures.value in
    let room = next_room c.args.start c.loop-index.gate c.loop-index.index c.body_count-bodies.result c.batches_for-index-end.result (base_records c.args.register.now) items c.loop-index.invariant.at c.loop-index-test.true c.batches_for-index-end.ensures.limit is in
    omega (arith, room, c.requires.fits)

pub loop-index-preserved : goal.loop-index-preserved
loop-index-preserved g c =
    let items = c.base_batch-batch.result.items in
    let records = base_records c.args.register.now in
    let old = g.D.Disk.state c.args.disk.now in
    let now = g.D.Disk.state c.loop-index.disk in
    let new = g.D.Disk.state c.write_open_batch.new.disk in
    let n = c.body_count-bodies.result in
    let k = c.loop-index.index in
    let body = c.put_body-body.result.now in
    let is : n ≡ body_size (length items) = c.body_count-bodies.ensures ∙ ap body_size c.len.ensures.value in
    let long = next_size k n items c.put_body-body.result.now c.put_body-body.ensures.exact is in
    let room = next_room c.args.start c.loop-index.gate k n c.batches_for-index-end.result records items c.loop-index.invariant.at c.loop-index-test.true c.batches_for-index-end.ensures.limit is in
    subst (λ m. Drafted old new c.args.start (c.loop-index.gate + (m + 1)) (k + 1) records) long
    (drafted_more old now new c.args.start c.loop-index.gate k records c.loop-index.invariant body (omega (arith, long, room)) (long ∙ is ∙ ap (λ (l : List Record). body_size (length l)) c.base_batch-batch.ensures)
    (subst (λ (b : Batch). IsBody (k + 1) b body) (ap new_batch c.base_batch-batch.ensures) c.put_body-body.ensures.spelled) (base_in_order c.args.register.now c.base_len-count.ensures.lawful)
    c.write_open_batch.ensures.runs c.in_ok-write_open_batch.ensures.made.calls c.in_ok-write_open_batch.ensures.made.writes c.in_ok-write_open_batch.ensures.cause.ok c.in_ok-write_open_batch.ensures.armed.ok
    (c.put_body-body.ensures.exact ∙ ap (batch_body (k + 1)) (ap new_batch c.base_batch-batch.ensures)) c.in_ok-write_open_batch.ensures.follows.all c.write_open_batch.ensures.touched c.in_ok-write_open_batch.ensures.written (g.met.D.Disk.whole c.loop-index.disk))

pub returns-clause-gate : goal.returns-clause-gate
returns-clause-gate g c =
    let records = base_records c.args.register.now in
    let all : c.loop-index.index ≡ batch_count (length records) =
    omega (arith, c.loop-index-test.false, c.loop-index.auto.index-end, c.batches_for-index-end.ensures.value, ap batch_count c.base_len-count.ensures.value) in
    let taken : used (in_batches c.loop-index.index records) ≡ sectors_for (length records) =
    ap (λ m. used (in_batches m records)) all ∙ used_checkpoint records (omega (arith, c.base_len-count.ensures.value, c.base_len-count.ensures.limit.0)) in
    let few = used_most c.loop-index.index records in (
      omega (arith, c.loop-index.invariant.at, taken),
      omega (arith, c.loop-index.invariant.at, few, c.loop-index.auto.index-end, c.batches_for-index-end.ensures.limit),
    )

pub returns-clause-reached : goal.returns-clause-reached
returns-clause-reached g c honest steady end high inside =
    let records = base_records c.args.register.now in
    let all : c.loop-index.index ≡ batch_count (length records) =
    omega (arith, c.loop-index-test.false, c.loop-index.auto.index-end, c.batches_for-index-end.ensures.value, ap batch_count c.base_len-count.ensures.value) in
    subst (λ m. Reaches (g.D.Disk.state c.loop-index.disk).image c.args.start end c.loop-index.gate (in_batches m records)) all (c.loop-index.invariant.reached honest steady end high inside)

pub returns-in_err-write_open_batch-clause-performs : goal.returns-in_err-write_open_batch-clause-performs
returns-in_err-write_open_batch-clause-performs g c =
    let items = c.base_batch-batch.result.items in
    let records = base_records c.args.register.now in
    let old = g.D.Disk.state c.args.disk.now in
    let now = g.D.Disk.state c.loop-index.disk in
    let new = g.D.Disk.state c.write_open_batch.new.disk in
    let so_far = c.loop-index.invariant in
    let n = c.body_count-bodies.result in
    let k = c.loop-index.index in
    let fault = err_from_is_err_and c.from_residual.result c.from_residual.ensures.1 in
    let is : n ≡ body_size (length items) = c.body_count-bodies.ensures ∙ ap body_size c.len.ensures.value in
    let long = next_size k n items c.put_body-body.result.now c.put_body-body.ensures.exact is in
    let all : c.batches_for-index-end.result ≡ batch_count (length records) = c.batches_for-index-end.ensures.value ∙ ap batch_count c.base_len-count.ensures.value in
    let within = used_within k c.batches_for-index-end.result n records items c.loop-index-test.true all (omega (arith, c.base_len-count.ensures.value, c.base_len-count.ensures.limit.0)) c.base_batch-batch.ensures is in
    let made = c.write_open_batch.ensures.made in
    record {
      runs = runs_then old now new so_far.runs c.write_open_batch.ensures.runs;
      cause = record { ok = rw fault.1 tt; err = rw fault.1 (omega (arith, so_far.failures, c.in_err-write_open_batch.ensures.cause.err)) };
      armed = err_ends _ c.from_residual.result old new c.from_residual.ensures.1 (fails_then old now new so_far.runs so_far.armed c.in_err-write_open_batch.ensures.armed.err);
      made = record {
        calls = rw fault.1 tt;
        writes = rw fault.1 tt;
        most_calls = omega (arith, made.most_calls, so_far.calls, within, long);
        most_writes = omega (arith, made.most_writes, so_far.writes, within, long);
      };
      follows = err_follows _ c.from_residual.result old new (draft_calls c.args.start 1 (in_batches (batch_count (length records)) records)) c.from_residual.ensures.1
          (subst (λ m. MakesPrefix (draft_calls c.args.start 1 (in_batches m records)) old new) all
          (draft_makes_front old now new c.args.start c.loop-index.gate k c.batches_for-index-end.result records c.put_body-body.result.now so_far.at
          (c.put_body-body.ensures.exact ∙ ap (batch_body (k + 1)) (ap new_batch c.base_batch-batch.ensures)) c.loop-index-test.true so_far.trace c.in_err-write_open_batch.ensures.follows.front));
    }

pub returns-clause-performs : goal.returns-clause-performs
returns-clause-performs g c =
    let records = base_records c.args.register.now in
    let so_far = c.loop-index.invariant in
    let all : c.loop-index.index ≡ batch_count (length records) =
    omega (arith, c.loop-index-test.false, c.loop-index.auto.index-end, c.batches_for-index-end.ensures.value, ap batch_count c.base_len-count.ensures.value) in
    let taken : used (in_batches c.loop-index.index records) ≡ sectors_for (length records) =
    ap (λ m. used (in_batches m records)) all ∙ used_checkpoint records (omega (arith, c.base_len-count.ensures.value, c.base_len-count.ensures.limit.0)) in
    record {
      runs = so_far.runs;
      cause = record { ok = so_far.failures; err = tt };
      armed = record { ok = so_far.armed; err = tt };
      made = record {
        calls = omega (arith, so_far.calls, taken);
        writes = omega (arith, so_far.writes, taken);
        most_calls = omega (arith, so_far.calls, taken);
        most_writes = omega (arith, so_far.writes, taken);
      };
      follows = record {
        all = subst (λ m. (g.D.Disk.state c.loop-index.disk).trace ≡ (g.D.Disk.state c.args.disk.now).trace ++ draft_calls c.args.start 1 (in_batches m records)) all so_far.trace;
        front = tt;
      };
    }

pub returns-clause-placed : goal.returns-clause-placed
returns-clause-placed g c =
    let records = base_records c.args.register.now in
    let all : c.loop-index.index ≡ batch_count (length records) =
    omega (arith, c.loop-index-test.false, c.loop-index.auto.index-end, c.batches_for-index-end.ensures.value, ap batch_count c.base_len-count.ensures.value) in
    c.loop-index.invariant.at ∙ ap (λ m. c.args.start + used (in_batches m records)) all
