use Rattle.std.proofs.Common.{◌∙◌, refl, false, arith, inl, inr}
use Rattle.std.proofs.lemmas.List.{length_push}
use Rattle.lift_car.specs.Drive.{HaltsBeside, last_stop, standing}
use Rattle.lift_car.proofs.Runs.{run_more, tells_last, tells_along, late_drive, spent_drive}
use Rattle.lift_car.proofs.driving.drive.Goals as goal

pub returns-in-Err-clause-drive : goal.returns-in-Err-clause-drive
returns-in-Err-clause-drive g c =
    let so_far = c.loop.invariant.run in (
      c.errand.new.arrived,
      inr (record {
        opening = c.bring_in-opening.result;
        begun = standing c.last_after_opening-last.result false (g.P.Port.view c.bring_in-opening.new.port) c.args.car.now;
        replies = so_far.0;
        stood = standing c.loop.last c.loop.arrived (g.P.Port.view c.loop.port) c.loop.car;
        opens = c.bring_in-opening.ensures.opened;
        ready = c.in_default.not-StillWaits;
        first = c.last_after_opening-last.ensures;
        placing = refl;
        parked = refl;
        runs = so_far.2;
        ends = inr (omega (arith, so_far.1), c.in-Err.ensures.end);
        number = c.in-Err.ensures.number;
        stays = c.in-Err.ensures.parked;
        tells = tells_along g.C.Car.stands _ _ _ (last_stop so_far.0) (tells_last g.C.Car.stands g.C.Car.goes (HaltsBeside g.P.Port.view g.C.Halts.halts) _ so_far.0 _ _ so_far.2) c.in-Err.ensures.parked;
      }),
    )

pub returns-in-Err-clause-late : goal.returns-in-Err-clause-late
returns-in-Err-clause-late g c =
    let so_far = c.loop.invariant.run in
    late_drive g.C.Car.stands g.C.Car.goes (HaltsBeside g.P.Port.view g.C.Halts.halts) c.args.limits.looks c.bring_in-opening.result _ so_far.0 c.in-Err.end _ _ _ c.bring_in-opening.ensures.opened so_far.2 c.in-Err.ensures.end

pub returns-in-Err-clause-spent : goal.returns-in-Err-clause-spent
returns-in-Err-clause-spent g c = spent_drive g.C.Car.stands c.args.limits.looks c.in-Err.end _ _ c.in-Err.ensures.end

pub loop-preserved : goal.loop-preserved
loop-preserved g c =
    let so_far = c.loop.invariant.run in
    let done = c.in-Ok.ensures.ok in
    record {
      free = c.in-Ok.ensures.free;
      stays = c.in-Ok.ensures.stays ∙ c.loop.invariant.stays;
      run = (_, omega (arith, so_far.1, length_push so_far.0 done.0), run_more g.C.Car.stands g.C.Car.goes (HaltsBeside g.P.Port.view g.C.Halts.halts) _ so_far.0 done.0 _ _ _ so_far.2 done.1 done.2);
    }

pub returns-clause-drive : goal.returns-clause-drive
returns-clause-drive g c =
    let so_far = c.loop.invariant.run in (
      c.loop.arrived,
      inr (record {
        opening = c.bring_in-opening.result;
        begun = standing c.last_after_opening-last.result false (g.P.Port.view c.bring_in-opening.new.port) c.args.car.now;
        replies = so_far.0;
        stood = standing c.loop.last c.loop.arrived (g.P.Port.view c.loop.port) c.loop.car;
        opens = c.bring_in-opening.ensures.opened;
        ready = c.in_default.not-StillWaits;
        first = c.last_after_opening-last.ensures;
        placing = refl;
        parked = refl;
        runs = so_far.2;
        ends = inl (omega (arith, so_far.1), refl, refl);
        number = refl;
        stays = refl;
        tells = tells_last g.C.Car.stands g.C.Car.goes (HaltsBeside g.P.Port.view g.C.Halts.halts) _ so_far.0 _ _ so_far.2;
      }),
    )
