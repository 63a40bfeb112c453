use Rattle.std.proofs.Common.{sym, ◌∙◌}
use Rattle.lift_stops.specs.Schedule.{PassesStay}
use Rattle.lift_stops.proofs.Kept.{same_stops, same_table}
use Rattle.lift_stops.proofs.schedule.Schedule.stand_at.Goals as goal
use Rattle.lift_stops.proofs.schedule.Schedule.stand_at.Goals.{then-self+then-not-passes_stay, else-self, else-self-via-then-self+else-not-passes_stay, else-self-via-else-self}

pub invariant_of-self : goal.invariant_of-self
invariant_of-self c =
    let rows = c.self.inside.rows.items in
    elim c.if-self.branch [
      | then-self+then-not-passes_stay w ↦ rw w.self-inside-is (record {
        few = c.self.invariant.few;
        listed = λ is. absurd cc;
      })
      | else-self w ↦ elim w.else-self.branch [
        | else-self-via-then-self+else-not-passes_stay v ↦ rw w.self-inside-is (record {
          few = c.self.invariant.few;
          listed = λ is.
              let listed = c.self.invariant.listed v.if-self.true in
              let keeps : PassesStay rows c.self.inside.position c.args.position = v.passes_stay.ensures rows (v.deref.ensures.0 ∙ listed.listed) listed.floors v.if-not-passes_stay.false in
              record {
                listed = listed.listed ∙ sym (same_stops rows c.self.inside.position c.args.position keeps);
                floors = listed.floors;
                parties = listed.parties;
                leaving = same_table rows c.self.inside.position c.args.position _ keeps listed.leaving;
              };
        })
        | else-self-via-else-self v ↦ rw w.self-inside-is (record {
          few = c.self.invariant.few;
          listed = λ is. let clash = sym v.if-self.false ∙ is in absurd cc;
        })
      ]
    ]
