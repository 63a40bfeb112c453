use Rattle.std.proofs.Common.{◌+◌, ◌-◌, arith, refl, ap}
use Rattle.lift_journal.proofs.Refusals.{refused_at}
use Rattle.lift_journal.proofs.Standing.{opens, picks_synced}
use Rattle.lift_journal.proofs.Following.{opening_at}
use Rattle.lift_journal.proofs.journal.Journal.open_with.Goals as goal

pub returns-in-Ok-clause-opens : goal.returns-in-Ok-clause-opens
returns-in-Ok-clause-opens g c =
    let place = c.in-Ok.place in
    let old = g.D.Disk.state c.args.disk in
    let new = g.D.Disk.state c.find_place.new.disk in
    let found = c.in-Ok.ensures.finds in
    let well = c.in-Ok.ensures.examines.ok in
    record {
      opens = opens old new place.shape place.start place.gate place.number
          c.find_place.ensures.examines.only well.failures well.armed (λ honest. (found.stands honest).synced) found.stands;
      whole = refl;
      failures_at_opening = ap (λ (d : g.row.D.Denot). (g.D.Disk.state d).failures) c.of-at_opening.ensures;
      half = picks_synced place.shape place.start place.gate place.number new
          (λ honest_new. found.stands (c.find_place.ensures.examines.only.runs.honest.0 honest_new));
      calls = opening_at old new place.shape.half place.start (place.gate - place.start + 1)
          (omega (arith, found.place.within.half.0)) found.place.halves found.calls;
    }

pub returns-in-Err-clause-refused : goal.returns-in-Err-clause-refused
returns-in-Err-clause-refused g c =
    let old = g.D.Disk.state c.args.disk in
    let new = g.D.Disk.state c.find_place.new.disk in
    refused_at c.in-Err.fault old new c.find_place.ensures.examines.only c.in-Err.ensures.refused c.in-Err.ensures.fixed c.in-Err.ensures.examines.err c.in-Err.ensures.behind
