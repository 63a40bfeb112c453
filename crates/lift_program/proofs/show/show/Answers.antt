use Rattle.std.proofs.Common.{rules, arith, ◌≡◌, Err, ap, inr}
use Rattle.lift_disk.specs.Below.{below, buffered_state_of}
use Rattle.lift_program.specs.Showing.{RecoversRegister}
use Rattle.lift_program.specs.Unwritten.{unwritten_state_of}
use Rattle.lift_program.specs.declared.fault.Role.TheVariants.{Image as OfImage, Output}
use Rattle.lift_program.proofs.Flushing.{building_no_network, file_no_network}
use Rattle.lift_program.proofs.Stages.{output_left, output_report}
use Rattle.lift_program.proofs.show.show.Goals as goal

pub returns-in-Ok-write_rows-clause-shown : goal.returns-in-Ok-write_rows-clause-shown
returns-in-Ok-write_rows-clause-shown g c =
    let state = unwritten_state_of g.I.Listed.ListedFile.holds in
    let opened = c.in-Ok-image_to_show.disk in
    let left = c.left_by.result in
    let writer = c.in-Ok-open.keeper.writer in
    let recovers : RecoversRegister c.in-Ok.building (buffered_state_of state opened) (buffered_state_of state left) c.register.result.now =
    record { half = writer.half; is_in_second_half = writer.is_in_second_half; used = writer.used; reopens = rw (c.left_by.ensures, c.register.ensures.value, c.in-Ok-open.ensures.state) c.in-Ok-open.ensures.opens.reopens; lawful = search rules; belongs = search rules; balanced = search rules } in
    let same : (state (below left)).failures ≡ (state (below opened)).failures = recovers.reopens.failures in
    record {
      from = record { plan = c.in-Ok.building; described = c.in-Ok.ensures.found; opened = opened; fresh = c.in-Ok-image_to_show.ensures.opened };
      shows = record { register = c.register.result.now; recovers = recovers; written = c.in-Ok-write_rows.ensures.written };
      only_read = record { unwritten = (below left).unwritten; unhurt = omega (arith, same, c.in-Ok-image_to_show.ensures.opened.unhurt) };
    }

pub returns-in-Err-open-clause-failure : goal.returns-in-Err-open-clause-failure
returns-in-Err-open-clause-failure g c =
    let refused = c.in-Err-open.ensures.refused in
    rw c.new-in-Err-open.ensures (record {
      from = record { plan = c.in-Ok.building; described = c.in-Ok.ensures.found; opened = c.in-Ok-image_to_show.disk; fresh = c.in-Ok-image_to_show.ensures.opened };
      cause = refused;
      moments = refused.moments;
      unwritten = refused.writes;
    })

pub returns-clause-failure : goal.returns-clause-failure
returns-clause-failure g c =
    let opens = c.in-Ok-open.ensures.opens in
    output_left _ _ _ _ c.in-Ok.building c.in-Ok-open.keeper _ c.in-Err-write_rows.fault c.in-Ok.ensures.found (record {
      opened = c.in-Ok-image_to_show.disk;
      fresh = c.in-Ok-image_to_show.ensures.opened;
      is_kept = record { recovers = opens.reopens; starts = c.in-Ok-open.ensures.state; whole = opens.whole.0; no_doubt = opens.whole.1; own = opens.plan };
    }) c.left_by-in-Err-write_rows.ensures c.in-Err-write_rows.ensures.fault

pub returns-clause-front : goal.returns-clause-front
returns-clause-front g c =
    let state = buffered_state_of (unwritten_state_of g.I.Listed.ListedFile.holds) in
    let opened = c.in-Ok-image_to_show.disk in
    let left = c.left_by-in-Err-write_rows.result in
    let writer = c.in-Ok-open.keeper.writer in
    let recovers : RecoversRegister c.in-Ok.building (state opened) (state left) c.register.result.now =
    record { half = writer.half; is_in_second_half = writer.is_in_second_half; used = writer.used; reopens = rw (c.left_by-in-Err-write_rows.ensures, c.register.ensures.value, c.in-Ok-open.ensures.state) c.in-Ok-open.ensures.opens.reopens; lawful = search rules; belongs = search rules; balanced = search rules } in
    inr (record {
      from = record { plan = c.in-Ok.building; described = c.in-Ok.ensures.found; opened = opened; fresh = c.in-Ok-image_to_show.ensures.opened };
      left = left;
      front = record { register = c.register.result.now; recovers = recovers; written = c.in-Err-write_rows.ensures.front };
    })

pub returns-clause-report : goal.returns-clause-report
returns-clause-report g c =
    let told = c.in-Err-write_rows.ensures in
    output_report _ c.in-Err-write_rows.fault c.left_by-in-Err-write_rows.result _ _ (λ is. told.failed (ap Err is)) told.unwritten told.fault

pub returns-in-Err-clause-portless : goal.returns-in-Err-clause-portless
returns-in-Err-clause-portless g c = building_no_network _ _ _ c.in-Err.ensures.fault

pub returns-in-Err-image_to_show-clause-portless : goal.returns-in-Err-image_to_show-clause-portless
returns-in-Err-image_to_show-clause-portless g c = file_no_network OfImage _ c.in-Err-image_to_show.ensures.no_image.is_fault

pub returns-clause-portless : goal.returns-clause-portless
returns-clause-portless g c = file_no_network Output _ c.in-Err-write_rows.ensures.fault
