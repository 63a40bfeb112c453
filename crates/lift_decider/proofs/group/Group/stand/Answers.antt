use Rattle.std.proofs.Common.{◌≡◌, ◌∙◌, get_or, refl, arith}
use Rattle.lift_register.specs.Register.{rows_of}
use Rattle.lift_stops.specs.Schedule.{ScheduleState}
use Rattle.lift_decider.proofs.Changes.{taken_rows, if_some}
use Rattle.lift_decider.proofs.Inside.{room_at, stood}
use Rattle.lift_decider.proofs.group.Group.stand.Goals as goal

pub stand-requires : goal.stand-requires
stand-requires c = record {
  own = if_some (λ (s : ScheduleState). s.rows ≡ rows_of c.self.inside.register c.args.car) (get_or c.self.inside.schedules c.from-place.result c.index-self-place.result)
      (taken_rows c.self.inside.register c.self.inside.schedules c.from-place.result c.args.car c.index-self-place.result _
      (c.from-place.ensures ∙ c.get.ensures.value) (room_at c.args.self.now c.self.inside.register c.self.inside.schedules c.self.inside.batch.items c.from-place.result c.self.view_is c.requires.cars (omega (arith, c.from-place.ensures, c.get.ensures.in_range))) refl c.self.invariant.0);
}

pub returns-clause-state : goal.returns-clause-state
returns-clause-state c =
    stood c.args.self.now c.self.inside.register c.self.inside.schedules c.self.inside.batch.items c.from-place.result c.args.car c.stand.new.schedule c.args.position (rows_of c.self.inside.register c.args.car)
    c.self.view_is (c.from-place.ensures ∙ c.get.ensures.value) c.stand.ensures.schedule
