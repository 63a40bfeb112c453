use Rattle.std.proofs.Common.{refl}
use Rattle.lift_car.proofs.Letters.{number_alone}
use Rattle.lift_car.proofs.lines.session.Goals as goal

pub returns-clause-converses : goal.returns-clause-converses
returns-clause-converses g c =
    let told = c.converse-end.ensures.converses in
    record {
      session = number_alone c.args.limits c.converse-end.result _ _ told.session refl;
      calls = told.calls;
      late = told.late;
      spent = told.spent;
      closed = told.closed;
      unwritten = told.unwritten;
      failed = told.failed;
      counted = record { read = told.counted.read; found = told.counted.found; wrote = told.counted.wrote };
    }
