use Rattle.std.proofs.Common.{rules, ◌≡◌, ◌+◌, ◌-◌, ◌++◌, ◌∙◌, nat_lt, List, arith, refl, sym, ap, subst}
use Rattle.lift_journal.specs.Journal.{JournalView}
use Rattle.lift_journal.specs.Opening.{Opens}
use Rattle.lift_journal.specs.Answers.{RefusesAt}
use Rattle.lift_journal.proofs.Refusals.{refused_at}
use Rattle.lift_journal.proofs.Standing.{opens, picks_synced}
use Rattle.lift_journal.specs.Calls.{half_start, opening_calls}
use Rattle.lift_journal.specs.Layout.{Batch, Holds}
use Rattle.lift_journal.specs.Visits.{TakesAll}
use Rattle.lift_journal.proofs.Following.{opening_at}
use Rattle.lift_journal.proofs.journal.Journal.reopen_from.Goals.{then-is_of_disk, else-is_of_disk}
use Rattle.lift_journal.proofs.journal.Journal.reopen_from.Goals as goal

pub returns-in-Ok-clause-reopens : goal.returns-in-Ok-clause-reopens
returns-in-Ok-clause-reopens g c =
    let place = c.in-Ok.place in
    let new = g.D.Disk.state c.find_place.new.disk in
    let found = c.in-Ok.ensures.finds in
    let well = c.in-Ok.ensures.examines.ok in
    let opened_from = subst (λ (v : JournalView g.row.D.Denot). Opens (g.D.Disk.state v.device) new place.shape (place.gate - place.start)) c.self.view_is
    (opens (g.D.Disk.state c.self.inside.device) new place.shape place.start place.gate place.number
    c.find_place.ensures.examines.only well.failures well.armed (λ honest. (found.stands honest).synced) found.stands) in
    let half = picks_synced place.shape place.start place.gate place.number new (λ honest_new. found.stands (c.find_place.ensures.examines.only.runs.honest.0 honest_new)) in
    let calls = subst (λ (v : JournalView g.row.D.Denot). new.trace ≡ (g.D.Disk.state v.device).trace ++ opening_calls (half_start (nat_lt 2 place.start) place.shape.half) (place.gate - place.start + 1)) c.self.view_is
    (opening_at (g.D.Disk.state c.self.inside.device) new place.shape.half place.start (place.gate - place.start + 1)
    (omega (arith, found.place.within.half.0)) found.place.halves found.calls) in
    search rules

pub returns-after-is_of_disk-clause-reopens : goal.returns-after-is_of_disk-clause-reopens
returns-after-is_of_disk-clause-reopens g c =
    let fault = c.in-Err.fault in
    let was = g.D.Disk.state c.args.self.now.device in
    let new = g.D.Disk.state c.find_place.new.disk in
    let seen : RefusesAt was new fault = subst (λ (v : JournalView g.row.D.Denot). RefusesAt (g.D.Disk.state v.device) new fault) c.self.view_is
    (refused_at fault (g.D.Disk.state c.self.inside.device) new c.find_place.ensures.examines.only c.in-Err.ensures.refused c.in-Err.ensures.fixed c.in-Err.ensures.examines.err c.in-Err.ensures.behind) in
    let after : (v : JournalView g.row.D.Denot) → c.if-is_of_disk.self ≡ v → v.device ≡ c.find_place.new.disk → RefusesAt was (g.D.Disk.state c.if-is_of_disk.self.device) fault =
    λ v is same. subst (λ (d : g.row.D.Denot). RefusesAt was (g.D.Disk.state d) fault) (sym (ap (λ (w : JournalView g.row.D.Denot). w.device) is ∙ same)) seen in
    let refused : RefusesAt was (g.D.Disk.state c.if-is_of_disk.self.device) fault =
    elim c.if-is_of_disk.branch [ then-is_of_disk w ↦ after _ w.self-is refl | else-is_of_disk w ↦ after _ w.self-is refl ] in
    search rules

pub returns-in-Ok-clause-shown : goal.returns-in-Ok-clause-shown
returns-in-Ok-clause-shown g c =
    let place = c.in-Ok.place in
    let new = g.D.Disk.state c.find_place.new.disk in
    subst (λ (v : JournalView g.row.D.Denot). (g.D.Disk.state v.device).is_honest → (batches : List Batch) → Holds place.shape batches new.image → TakesAll g.V.Visitor.takes c.args.visitor.now batches c.find_place.new.visitor) c.self.view_is c.in-Ok.ensures.shown
