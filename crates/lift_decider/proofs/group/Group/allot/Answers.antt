use Rattle.std.proofs.Common.{◌≡◌, ◌∙◌, ◌<◌, ◌≤◌, ◌∷◌, ◌++◌, [], get_or, List, length, refl, sym, ap, subst, arith}
use Rattle.lift_base.specs.declared.limits.TheConstants.{MOST_CARS, MOST_ENTRIES, MOST_ROWS, MOST_TERMINALS}
use Rattle.lift_base.specs.declared.history.Entry.{Entry}
use Rattle.lift_base.specs.declared.history.Entry.TheVariants.{Allot}
use Rattle.lift_base.specs.declared.history.Row.{Row}
use Rattle.lift_register.specs.Register.{RegisterState, rows_of, register_of}
use Rattle.lift_stops.specs.Schedule.{ScheduleState}
use Rattle.lift_policy.specs.Step.{State}
use Rattle.lift_policy.specs.Laws.{IsStateIn}
use Rattle.lift_decider.specs.Decider.{IsBatch}
use Rattle.lift_decider.proofs.Changes.{own_again, taken_rows, if_some, with_row-rows, rows_of-allot, rows_of-other_allot}
use Rattle.lift_decider.proofs.Inside.{room_at, accepted_with, accepting_inside, batch_push}
use Rattle.lift_decider.proofs.group.Group.allot.Goals as goal

-- the entry that allots a row is the one that its values spell
allots : (row waiting : Row) (entry : Entry) → entry ≡ Allot row.kiosk row.number row.from row.to row.car row.party → row ≡ waiting
    → entry ≡ Allot waiting.kiosk waiting.number waiting.from waiting.to waiting.car waiting.party
allots row waiting entry e is = e ∙ ap (λ (r : Row). Allot r.kiosk r.number r.from r.to r.car r.party) is

pub insert-requires : goal.insert-requires
insert-requires c = record {
  few = if_some (λ (s : ScheduleState). length s.rows ≤ MOST_ROWS) (get_or c.self.inside.schedules c.from-place.result c.index-self-place.result)
      (λ s h. let e = taken_rows c.self.inside.register c.self.inside.schedules c.from-place.result c.args.car c.index-self-place.result _
      (c.from-place.ensures ∙ c.get-2.ensures.value) (room_at c.args.self.now c.self.inside.register c.self.inside.schedules c.self.inside.batch.items c.from-place.result c.self.view_is c.requires.inside.cars (omega (arith, c.from-place.ensures, c.get-2.ensures.in_range))) refl c.self.invariant.0 s h in
      omega (arith, ap (λ (rows : List Row). length rows) e, c.join.ensures.was.few_rows c.args.car));
}

pub invariant_of-self : goal.invariant_of-self
invariant_of-self c =
    let terminal = c.args.command.now.terminal in
    let number = c.args.command.now.number in
    let call = c.args.call.now in
    let entry_is = allots _ _ _ c.allotment-entry.ensures c.row_of-row.ensures in
    let value = c.join.ensures.value ∙ ap (λ (e : Entry). register_of c.self.inside.register (e ∷ [])) entry_is in
    let is_kiosk : terminal < MOST_TERMINALS = omega (arith, c.get.ensures.in_range, c.get.ensures.value) in
    let is_car : c.args.car < MOST_CARS = omega (arith, c.get-2.ensures.in_range, c.get-2.ensures.value) in
    let at : c.from-place.result ≡ c.args.car = c.from-place.ensures ∙ c.get-2.ensures.value in
    let bound : c.from-place.result < length c.self.inside.schedules = (room_at c.args.self.now c.self.inside.register c.self.inside.schedules c.self.inside.batch.items c.from-place.result c.self.view_is c.requires.inside.cars (omega (arith, c.from-place.ensures, c.get-2.ensures.in_range))) in (
      own_again c.self.inside.register c.join.new.register c.self.inside.schedules c.from-place.result c.args.car c.insert.new.schedule at bound
          (λ k other. ap (λ (r : RegisterState). rows_of r k) value
          ∙ rows_of-other_allot c.self.inside.register terminal number call.from call.to c.args.car call.party c.join.ensures.was is_kiosk is_car k other)
          (λ s h. with_row-rows c.row_of-row.result (get_or c.self.inside.schedules c.from-place.result c.index-self-place.result) (rows_of c.self.inside.register c.args.car)
          (taken_rows c.self.inside.register c.self.inside.schedules c.from-place.result c.args.car c.index-self-place.result _ at bound refl c.self.invariant.0)
          s (sym c.insert.ensures ∙ h)
          ∙ ap (λ (row : Row). rows_of c.self.inside.register c.args.car ++ row ∷ []) c.row_of-row.ensures
          ∙ sym (rows_of-allot c.self.inside.register terminal number call.from call.to c.args.car call.party c.join.ensures.was is_kiosk is_car)
          ∙ ap (λ (r : RegisterState). rows_of r c.args.car) (sym value)) c.self.invariant.0,
      subst IsBatch (sym c.join.ensures.batch)
          (batch_push c.self.inside.batch.items c.allotment-entry.result c.self.invariant.1
          (subst (λ (s : State). length s.batch < MOST_ENTRIES) (sym c.self.view_is) c.requires.room) c.join.ensures.written),
    )

pub returns-clause-state : goal.returns-clause-state
returns-clause-state c =
    let entry = Allot c.args.command.now.terminal c.args.command.now.number c.args.call.now.from c.args.call.now.to c.args.car c.args.call.now.party in
    let entry_is = allots _ _ _ c.allotment-entry.ensures c.row_of-row.ensures in
    let value = c.join.ensures.value ∙ ap (λ (e : Entry). register_of c.self.inside.register (e ∷ [])) entry_is in
    accepted_with c.args.self.now c.self.inside.register c.join.new.register c.self.inside.schedules c.self.inside.batch.items c.join.new.batch.items
    entry c.from-place.result c.insert.new.schedule _ c.index-self-place.result c.row_of-row.result
    c.self.view_is value (c.join.ensures.batch ∙ ap (λ (e : Entry). c.self.inside.batch.items ++ e ∷ []) entry_is) c.insert.ensures refl

pub returns-clause-inside : goal.returns-clause-inside
returns-clause-inside c =
    let entry = Allot c.args.command.now.terminal c.args.command.now.number c.args.call.now.from c.args.call.now.to c.args.car c.args.call.now.party in
    let entry_is = allots _ _ _ c.allotment-entry.ensures c.row_of-row.ensures in
    let value = c.join.ensures.value ∙ ap (λ (e : Entry). register_of c.self.inside.register (e ∷ [])) entry_is in
    subst (IsStateIn c.args.building.now) (sym (returns-clause-state c))
    (accepting_inside c.args.building.now c.args.self.now entry c.join.new.register (value ∙ ap (λ (s : State). register_of s.register (entry ∷ [])) c.self.view_is)
    c.join.ensures.lawful c.join.ensures.inside.belongs c.join.ensures.inside.balanced c.requires.inside)
