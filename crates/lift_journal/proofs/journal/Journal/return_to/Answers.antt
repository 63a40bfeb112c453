use Rattle.std.proofs.Common.{◌≡◌, ◌<◌, ◌∙◌, sym, subst, true, false}
use Rattle.lift_disk.specs.Disk.{IsSynced}
use Rattle.lift_journal.specs.Journal.{JournalView, IsJournal}
use Rattle.lift_journal.specs.Steps.{ReadsOnly}
use Rattle.lift_journal.proofs.Standing.{stands_again}
use Rattle.lift_journal.proofs.journal.Journal.return_to.Goals.{then-self, else-self}
use Rattle.lift_journal.proofs.journal.Journal.return_to.Goals as goal

pub invariant_of-self : goal.invariant_of-self
invariant_of-self g c =
    let f = c.former.inside in
    let j = c.self.inside in
    let old = g.D.Disk.state f.device.value in
    let new = g.D.Disk.state j.device in
    let only : ReadsOnly old new =
    subst (λ (v : JournalView g.row.D.Denot). ReadsOnly old (g.D.Disk.state v.device)) (sym c.self.view_is)
    (subst (λ (v : JournalView g.row.D.Denot). ReadsOnly (g.D.Disk.state v.device) (g.D.Disk.state c.args.self.now.device)) (sym c.former.view_is) c.requires.reads) in
    let safe : j.is_broken ≡ false → new.is_honest → IsSynced new =
    subst (λ (v : JournalView g.row.D.Denot). v.is_broken ≡ false → (g.D.Disk.state v.device).is_honest → IsSynced (g.D.Disk.state v.device)) (sym c.self.view_is) c.requires.safe in
    let failed : j.is_broken ≡ true → old.failures < new.failures =
    subst (λ (v : JournalView g.row.D.Denot). v.is_broken ≡ true → old.failures < (g.D.Disk.state v.device).failures) (sym c.self.view_is)
    (subst (λ (v : JournalView g.row.D.Denot). c.args.self.now.is_broken ≡ true → (g.D.Disk.state v.device).failures < (g.D.Disk.state c.args.self.now.device).failures) (sym c.former.view_is) c.requires.failed) in
    let next : (j.is_broken ≡ true → c.if-self.self ≡ true) → (j.is_broken ≡ false → c.if-self.self ≡ f.is_broken) → IsJournal f.place c.if-self.self (g.D.Disk.state f.at_opening.value).failures new =
    stands_again f.place j.is_broken f.is_broken c.if-self.self (g.D.Disk.state f.at_opening.value).failures old new c.former.invariant only safe failed in
    elim c.if-self.branch [
      | then-self w ↦ next (λ is. w.self-is ∙ is) (λ isnt. absurd (cc (w.if-self.true, isnt)))
      | else-self w ↦ next (λ is. absurd (cc (is, w.if-self.false))) (λ _. w.self-is)
    ]
