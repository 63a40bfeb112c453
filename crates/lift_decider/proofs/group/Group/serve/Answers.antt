use Rattle.std.proofs.Common.{◌≡◌, ◌∙◌, ◌<◌, ◌∷◌, [], get_or, slice_index_or, List, length, refl, sym, ap, subst, arith}
use Rattle.std.specs.List.{flat_map}
use Rattle.lift_base.specs.declared.limits.TheConstants.{MOST_ENTRIES}
use Rattle.lift_base.specs.History.{row_after}
use Rattle.lift_base.specs.declared.history.Entry.TheVariants.{Stop}
use Rattle.lift_base.specs.declared.history.Row.{Row}
use Rattle.lift_register.specs.Register.{RegisterState, rows_of, register_of}
use Rattle.lift_stops.specs.Schedule.{ScheduleState, position_after}
use Rattle.lift_policy.specs.Step.{State, accepting}
use Rattle.lift_policy.specs.Laws.{IsStateIn}
use Rattle.lift_decider.specs.Decider.{IsBatch}
use Rattle.lift_decider.proofs.Changes.{own_again, taken_rows, if_some, made_rows, rows_of-stop, rows_of-other_stop}
use Rattle.lift_decider.proofs.Inside.{room_at, accepted_stood, accepting_inside, standing_inside, batch_push}
use Rattle.lift_decider.proofs.group.Group.serve.Goals as goal

pub serve-requires : goal.serve-requires
serve-requires c = record {
  own = if_some (λ (s : ScheduleState). flat_map (row_after c.args.stop) s.rows ≡ rows_of c.join-changes.new.register c.args.car) (get_or c.self.inside.schedules c.from-place.result c.index-self-place.result)
      (λ s h. ap (λ (rows : List Row). flat_map (row_after c.args.stop) rows)
      (taken_rows c.self.inside.register c.self.inside.schedules c.from-place.result c.args.car c.index-self-place.result _
      (c.from-place.ensures ∙ c.get.ensures.value) (room_at c.args.self.now c.self.inside.register c.self.inside.schedules c.self.inside.batch.items c.from-place.result c.self.view_is c.requires.inside.cars (omega (arith, c.from-place.ensures, c.get.ensures.in_range))) refl c.self.invariant.0 s h)
      ∙ sym (rows_of-stop c.self.inside.register c.args.car c.args.number c.args.stop.floor c.args.stop.dir c.join-changes.ensures.was (omega (arith, c.get.ensures.in_range, c.get.ensures.value)))
      ∙ ap (λ (r : RegisterState). rows_of r c.args.car) (sym c.join-changes.ensures.value));
  unchanged = λ no. if_some (λ (s : ScheduleState). s.rows ≡ rows_of c.join-changes.new.register c.args.car) (get_or c.self.inside.schedules c.from-place.result c.index-self-place.result)
      (λ s h. taken_rows c.self.inside.register c.self.inside.schedules c.from-place.result c.args.car c.index-self-place.result _
      (c.from-place.ensures ∙ c.get.ensures.value) (room_at c.args.self.now c.self.inside.register c.self.inside.schedules c.self.inside.batch.items c.from-place.result c.self.view_is c.requires.inside.cars (omega (arith, c.from-place.ensures, c.get.ensures.in_range))) refl c.self.invariant.0 s h
      ∙ ap (λ (rows : List (List Row)). slice_index_or rows c.args.car []) (sym (c.join-changes.ensures.unchanged no)));
}

pub invariant_of-self : goal.invariant_of-self
invariant_of-self c = (
  own_again c.self.inside.register c.join-changes.new.register c.self.inside.schedules c.from-place.result c.args.car c.serve.new.schedule
      (c.from-place.ensures ∙ c.get.ensures.value) (room_at c.args.self.now c.self.inside.register c.self.inside.schedules c.self.inside.batch.items c.from-place.result c.self.view_is c.requires.inside.cars (omega (arith, c.from-place.ensures, c.get.ensures.in_range)))
      (λ k other. ap (λ (r : RegisterState). rows_of r k) c.join-changes.ensures.value
      ∙ rows_of-other_stop c.self.inside.register c.args.car c.args.number c.args.stop.floor c.args.stop.dir c.join-changes.ensures.was (omega (arith, c.get.ensures.in_range, c.get.ensures.value)) k other)
      (λ s h. made_rows c.serve.new.schedule s (position_after c.args.stop) (rows_of c.join-changes.new.register c.args.car) c.serve.ensures.schedule h) c.self.invariant.0,
  subst IsBatch (sym c.join-changes.ensures.batch)
      (batch_push c.self.inside.batch.items (Stop c.args.car c.args.number c.args.stop.floor c.args.stop.dir) c.self.invariant.1
      (subst (λ (s : State). length s.batch < MOST_ENTRIES) (sym c.self.view_is) c.requires.room) c.join-changes.ensures.written),
)

pub returns-clause-state : goal.returns-clause-state
returns-clause-state c =
    accepted_stood c.args.self.now c.self.inside.register c.join-changes.new.register c.self.inside.schedules c.self.inside.batch.items c.join-changes.new.batch.items
    (Stop c.args.car c.args.number c.args.stop.floor c.args.stop.dir) c.from-place.result c.args.car c.serve.new.schedule (position_after c.args.stop) (rows_of c.join-changes.new.register c.args.car)
    c.self.view_is c.join-changes.ensures.value c.join-changes.ensures.batch (c.from-place.ensures ∙ c.get.ensures.value) c.serve.ensures.schedule

pub returns-clause-inside : goal.returns-clause-inside
returns-clause-inside c lt =
    let entry = Stop c.args.car c.args.number c.args.stop.floor c.args.stop.dir in
    subst (IsStateIn c.args.building.now) (sym (returns-clause-state c))
    (standing_inside c.args.building.now (accepting c.args.self.now entry) c.args.car c.args.stop.floor c.args.stop.dir lt
    (accepting_inside c.args.building.now c.args.self.now entry c.join-changes.new.register (c.join-changes.ensures.value ∙ ap (λ (s : State). register_of s.register (entry ∷ [])) c.self.view_is)
    c.join-changes.ensures.lawful c.join-changes.ensures.inside.belongs c.join-changes.ensures.inside.balanced c.requires.inside))
