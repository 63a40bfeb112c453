use Rattle.std.proofs.Common.{rules, ◌≡◌, ◌⊎◌, ◌∙◌, ⊎_elim, refl, subst}
use Rattle.lift_journal.specs.declared.fault.JournalFault.TheVariants.{Disk}
use Rattle.lift_keeper.specs.declared.fault.KeeperFault.TheVariants.{Journal}
use Rattle.lift_disk.specs.Disk.{LeavesNow, LeavesOnly}
use Rattle.lift_keeper.specs.Images.{IsImageOf, IsInDoubt}
use Rattle.lift_keeper.specs.Writer.{WriterView}
use Rattle.lift_register.specs.Register.{register_of}
use Rattle.lift_keeper.proofs.Writers.{opening_leaves, settled_one, failed_opening, refused_opening, refused_good, reopened_one}
use Rattle.lift_keeper.proofs.writer.Writer.reopen.Goals as goal

pub invariant_of-self-then-is_of_disk : goal.invariant_of-self-then-is_of_disk
invariant_of-self-then-is_of_disk g c =
    failed_opening c.self.inside.building.now c.self.inside.journal c.self.inside.register c.self.inside.doubt.value.items (g.D.Disk.state c.self.inside.at_opening.value.device).failures c.self.inside.is_broken
    (g.D.Disk.state c.self.inside.journal.device) c.self.invariant c.reopened.new.journal (g.D.Disk.state c.reopened.new.journal.device) c.in-Err.fault c.in-Err.ensures.refused c.in-Err.ensures.calls_before.runs.failures
    (g.met.D.Disk.counts_now c.reopened.new.journal.device) _ refl (c.is_of_disk.ensures.0 c.if-is_of_disk.true)

pub invariant_of-self-else-is_of_disk : goal.invariant_of-self-else-is_of_disk
invariant_of-self-else-is_of_disk g c =
    refused_opening c.self.inside.building.now c.self.inside.journal c.self.inside.register c.self.inside.doubt.value.items (g.D.Disk.state c.self.inside.at_opening.value.device).failures c.self.inside.is_broken
    (g.D.Disk.state c.self.inside.journal.device) c.self.invariant c.reopened.new.journal (g.D.Disk.state c.reopened.new.journal.device) c.in-Err.fault c.in-Err.ensures.refused c.in-Err.ensures.calls_before.runs.failures
    (g.met.D.Disk.counts_now c.reopened.new.journal.device) (λ is. cc (c.is_of_disk.ensures.1 is, c.if-is_of_disk.false))
    (λ whole. ⊎_elim (λ is. absurd (cc (c.is_of_disk.ensures.1 is, c.if-is_of_disk.false))) (λ same. same ∙ c.self.invariant.whole whole) c.in-Err.ensures.stays)

pub returns-in-Ok : goal.returns-in-Ok
returns-in-Ok g c =
    let w = c.self.inside in
    let new = g.D.Disk.state c.reopened.new.journal.device in
    let one_of = subst (λ (v : WriterView g.row.D.Denot). (g.D.Disk.state v.device).is_honest → (c.in-Ok.register ≡ v.register) ⊎ (c.in-Ok.register ≡ register_of v.register v.doubt)) c.self.view_is
    (reopened_one w.building.now w.journal w.register w.doubt.value.items (g.D.Disk.state w.at_opening.value.device).failures w.is_broken
    (g.D.Disk.state w.journal.device) c.self.invariant new c.in-Ok.register c.reopened.new.journal.shape.half c.reopened.new.journal.is_in_second_half c.reopened.new.journal.used c.in-Ok.ensures.opens) in
    let any_moment = subst (λ (v : WriterView g.row.D.Denot). LeavesOnly (g.D.Disk.state v.device) new (IsInDoubt v.plan v.register v.doubt)) c.self.view_is
    (opening_leaves w.building.now w.journal w.register w.doubt.value.items (g.D.Disk.state w.at_opening.value.device).failures w.is_broken (g.D.Disk.state w.journal.device) c.self.invariant new c.in-Ok.ensures.opens.moments) in
    search rules

pub returns-then-is_of_disk-clause-recovers : goal.returns-then-is_of_disk-clause-recovers
returns-then-is_of_disk-clause-recovers g c =
    let w = c.self.inside in
    let new = g.D.Disk.state c.reopened.new.journal.device in
    let good = subst (λ (v : WriterView g.row.D.Denot). (g.D.Disk.state v.device).is_honest → c.in-Err.fault ≡ Journal Disk) c.self.view_is
    (refused_good w.building.now w.journal w.register w.doubt.value.items (g.D.Disk.state w.at_opening.value.device).failures w.is_broken (g.D.Disk.state w.journal.device) c.self.invariant
    new c.in-Err.fault c.in-Err.ensures.refused (g.met.D.Disk.counts_now c.reopened.new.journal.device)) in
    let any_moment = subst (λ (v : WriterView g.row.D.Denot). LeavesOnly (g.D.Disk.state v.device) new (IsInDoubt v.plan v.register v.doubt)) c.self.view_is
    (opening_leaves w.building.now w.journal w.register w.doubt.value.items (g.D.Disk.state w.at_opening.value.device).failures w.is_broken (g.D.Disk.state w.journal.device) c.self.invariant new c.in-Err.ensures.refused.moments) in
    let settled = subst (λ (v : WriterView g.row.D.Denot). (new.trace ≡ (g.D.Disk.state v.device).trace)
    ⊎ ((g.D.Disk.state v.device).is_honest → LeavesNow new (IsImageOf v.plan v.register) ⊎ LeavesNow new (IsImageOf v.plan (register_of v.register v.doubt)))) c.self.view_is
    (settled_one w.building.now w.journal w.register w.doubt.value.items (g.D.Disk.state w.at_opening.value.device).failures w.is_broken (g.D.Disk.state w.journal.device) c.self.invariant new c.in-Err.fault c.in-Err.ensures.refused) in
    search rules

pub returns-else-is_of_disk : goal.returns-else-is_of_disk
returns-else-is_of_disk g c =
    let w = c.self.inside in
    let new = g.D.Disk.state c.reopened.new.journal.device in
    let good = subst (λ (v : WriterView g.row.D.Denot). (g.D.Disk.state v.device).is_honest → c.in-Err.fault ≡ Journal Disk) c.self.view_is
    (refused_good w.building.now w.journal w.register w.doubt.value.items (g.D.Disk.state w.at_opening.value.device).failures w.is_broken (g.D.Disk.state w.journal.device) c.self.invariant
    new c.in-Err.fault c.in-Err.ensures.refused (g.met.D.Disk.counts_now c.reopened.new.journal.device)) in
    let any_moment = subst (λ (v : WriterView g.row.D.Denot). LeavesOnly (g.D.Disk.state v.device) new (IsInDoubt v.plan v.register v.doubt)) c.self.view_is
    (opening_leaves w.building.now w.journal w.register w.doubt.value.items (g.D.Disk.state w.at_opening.value.device).failures w.is_broken (g.D.Disk.state w.journal.device) c.self.invariant new c.in-Err.ensures.refused.moments) in
    let settled = subst (λ (v : WriterView g.row.D.Denot). (new.trace ≡ (g.D.Disk.state v.device).trace)
    ⊎ ((g.D.Disk.state v.device).is_honest → LeavesNow new (IsImageOf v.plan v.register) ⊎ LeavesNow new (IsImageOf v.plan (register_of v.register v.doubt)))) c.self.view_is
    (settled_one w.building.now w.journal w.register w.doubt.value.items (g.D.Disk.state w.at_opening.value.device).failures w.is_broken (g.D.Disk.state w.journal.device) c.self.invariant new c.in-Err.fault c.in-Err.ensures.refused) in
    search rules
