use Rattle.std.proofs.Common.{arith, ap, sym, ◌∙◌, List, length}
use Rattle.std.proofs.lemmas.List.{length_push}
use Rattle.std.proofs.lemmas.List.Elements.{All-push}
use Rattle.lift_base.specs.declared.travel.Halt.{Halt}
use Rattle.lift_stops.specs.StopList.{HasFloors}
use Rattle.lift_stops.specs.Leaving.{HasParty}
use Rattle.lift_stops.specs.Schedule.{ScheduleState}
use Rattle.lift_stops.proofs.Marked.{short}
use Rattle.lift_stops.proofs.schedule.Schedule.insert.Goals as goal
use Rattle.lift_stops.proofs.schedule.Schedule.insert.Goals.{then-self, else-self}

pub insert_row-requires : goal.insert_row-requires
insert_row-requires c =
    let listed = c.self.invariant.listed c.if-self.true in
    let long = ap (λ (halts : List Halt). length halts) listed.listed in
    let few = ap (λ (s : ScheduleState). length s.rows) c.self.view_is in
    omega (arith, long, few, short c.self.inside.rows.items c.self.inside.position listed.floors)

pub invariant_of-self : goal.invariant_of-self
invariant_of-self c =
    let rows = c.self.inside.rows.items in
    let long = length_push rows c.args.row in
    let few = ap (λ (s : ScheduleState). length s.rows) c.self.view_is in
    rw c.push.ensures.items (elim c.if-self.branch [
      | then-self w ↦ rw w.self-inside-is (record {
        few = omega (arith, long, few);
        listed = λ is.
            let listed = c.self.invariant.listed w.if-self.true in
            record {
              listed = w.insert_row.ensures.halts rows listed.listed;
              floors = All-push HasFloors rows c.args.row listed.floors w.insert_row.ensures.floors;
              parties = All-push HasParty rows c.args.row listed.parties w.add.ensures.party;
              leaving = w.add.ensures.added rows c.self.inside.position (omega (arith, few)) w.pass_of.ensures listed.leaving;
            };
      })
      | else-self w ↦ rw w.self-inside-is (record {
        few = omega (arith, long, few);
        listed = λ is. let clash = sym w.if-self.false ∙ is in absurd cc;
      })
    ])
