use Rattle.std.proofs.Common.{◌≡◌, ◌*◌, length, replicate, ap, arith}
use Rattle.lift_journal.specs.Layout.{body_size}
use Rattle.lift_journal.proofs.Seeing.{bodies_few}
use Rattle.lift_journal.proofs.device.write_records.Goals as goal

pub put_body-requires-else-body_count-eq1-clause-blank : goal.put_body-requires-else-body_count-eq1-clause-blank
put_body-requires-else-body_count-eq1-clause-blank g c =
    let two : 2 ≡ body_size (length c.args.batch.now.items) = omega (arith, c.body_count.ensures, ap body_size c.len.ensures.value, c.if-body_count-eq1.false, bodies_few (length c.args.batch.now.items)) in
    ap (λ k. replicate (512 * k) 0) two
