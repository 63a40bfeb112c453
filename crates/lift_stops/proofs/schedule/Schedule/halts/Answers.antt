use Rattle.std.proofs.Common.{ap, sym, subst, ◌∙◌, List, length, arith}
use Rattle.std.specs.List.{All}
use Rattle.lift_base.specs.declared.travel.Halt.{Halt}
use Rattle.lift_stops.specs.StopList.{HasFloors}
use Rattle.lift_stops.specs.Parts.{AllDiffer}
use Rattle.lift_stops.specs.Schedule.{ScheduleState}
use Rattle.lift_stops.specs.lemmas.Listed.{stops_differ}
use Rattle.lift_stops.specs.lemmas.Halts.{stop_list-own}
use Rattle.lift_stops.proofs.Marked.{short}
use Rattle.lift_stops.proofs.schedule.Schedule.halts.Goals as goal

pub returns-then-self-clause-count : goal.returns-then-self-clause-count
returns-then-self-clause-count c =
    let listed = c.self.invariant.listed c.if-self.true in
    let fields = c.self.inside in
    let long = ap (λ (halts : List Halt). length halts) (c.copy_of.ensures ∙ c.deref.ensures.0 ∙ listed.listed) in
    let same = ap (λ (s : ScheduleState). length s.rows) c.self.view_is in
    omega (arith, long, same, short fields.rows.items fields.position listed.floors)

pub returns-then-self-clause-differ : goal.returns-then-self-clause-differ
returns-then-self-clause-differ c =
    let listed = c.self.invariant.listed c.if-self.true in
    let fields = c.self.inside in
    subst AllDiffer (sym (c.copy_of.ensures ∙ c.deref.ensures.0 ∙ listed.listed)) (stops_differ fields.rows.items fields.position)

pub returns-then-self-clause-in_order : goal.returns-then-self-clause-in_order
returns-then-self-clause-in_order c row member apart position =
    let listed = c.self.invariant.listed c.if-self.true in
    let floors : All HasFloors c.args.self.now.rows = subst (λ (s : ScheduleState). All HasFloors s.rows) c.self.view_is listed.floors in
    let own : HasFloors row = rw (← member.2) (floors member.0 row member.1) in
    stop_list-own c.args.self.now.rows row position member apart own
