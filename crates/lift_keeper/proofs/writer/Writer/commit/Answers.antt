use Rattle.std.proofs.Common.{rules, ◌≡◌, List, true, false, refl, sym, subst, arith}
use Rattle.lift_base.specs.declared.history.Entry.{Entry}
use Rattle.lift_disk.specs.Disk.{LeavesNow}
use Rattle.lift_register.specs.Register.{register_of}
use Rattle.lift_register.specs.Fits.{FitFrom}
use Rattle.lift_keeper.specs.Images.{IsImageOf, IsInDoubt}
use Rattle.lift_keeper.specs.Writer.{WriterView}
use Rattle.lift_keeper.proofs.Applying.{all_lawful}
use Rattle.lift_keeper.proofs.Guarding.{keeps_safe, now_after}
use Rattle.lift_keeper.proofs.Writers.{guards_of, safe_of, broken_writer, nothing_in, none_more, none_acknowledged}
use Rattle.lift_keeper.proofs.writer.Writer.commit.Goals as goal

pub put_records-requires : goal.put_records-requires
put_records-requires g c =
    let fit = subst (λ (v : WriterView g.row.D.Denot). v.is_broken ≡ false → FitFrom v.plan v.register c.args.batch.now.items) (sym c.self.view_is) c.requires.fits in
    record { lawful = all_lawful c.self.inside.building.now c.self.inside.register c.args.batch.now.items (fit c.if-self.false) }

pub returns-then-is_empty : goal.returns-then-is_empty
returns-then-is_empty g c =
    let w = c.self.inside in
    let batch = c.args.batch.now.items in
    let none = nothing_in batch (c.if-is_empty.ensures) in
    let register = subst (λ (v : WriterView g.row.D.Denot). v.register ≡ register_of v.register batch) c.self.view_is (none_more w.register batch c.self.invariant.lawful none) in
    let acknowledged = subst (λ (v : WriterView g.row.D.Denot). LeavesNow (g.D.Disk.state v.device) (IsImageOf v.plan (register_of v.register batch))) c.self.view_is
    (none_acknowledged w.building.now w.register batch (g.D.Disk.state w.journal.device) c.self.invariant.lawful none
    (safe_of w.building.now w.journal w.register w.doubt.value.items (g.D.Disk.state w.at_opening.value.device).failures w.is_broken (g.D.Disk.state w.journal.device) c.self.invariant c.if-self.false)) in
    search rules

pub returns-in-Ok : goal.returns-in-Ok
returns-in-Ok g c =
    let w = c.self.inside in
    let batch = c.args.batch.now.items in
    let old = g.D.Disk.state w.journal.device in
    let new = g.D.Disk.state c.store.new.journal.device in
    let guards = guards_of w.building.now w.journal w.register w.doubt.value.items (g.D.Disk.state w.at_opening.value.device).failures w.is_broken old c.self.invariant c.if-self.false in
    let fit = subst (λ (v : WriterView g.row.D.Denot). v.is_broken ≡ false → FitFrom v.plan v.register batch) (sym c.self.view_is) c.requires.fits in
    let acknowledged = subst (λ (v : WriterView g.row.D.Denot). LeavesNow new (IsImageOf v.plan (register_of v.register batch))) c.self.view_is
    (keeps_safe w.building.now c.store.new.journal.shape c.store.new.journal.is_in_second_half c.store.new.journal.used (register_of w.register batch) new
    (c.in-Ok.ensures.keeps w.building.now batch c.put_records.ensures.kept (fit c.if-self.false) guards)) in
    search rules

pub returns-in-Err : goal.returns-in-Err
returns-in-Err g c =
    let w = c.self.inside in
    let batch = c.args.batch.now.items in
    let old = g.D.Disk.state w.journal.device in
    let new = g.D.Disk.state c.store.new.journal.device in
    let guards = guards_of w.building.now w.journal w.register w.doubt.value.items (g.D.Disk.state w.at_opening.value.device).failures w.is_broken old c.self.invariant c.if-self.false in
    let fit = subst (λ (v : WriterView g.row.D.Denot). v.is_broken ≡ false → FitFrom v.plan v.register batch) (sym c.self.view_is) c.requires.fits in
    let in_doubt = subst (λ (v : WriterView g.row.D.Denot). LeavesNow new (IsInDoubt v.plan v.register batch)) c.self.view_is
    (now_after old new (IsInDoubt w.building.now w.register batch)
    (c.store.ensures.any_moment w.building.now batch c.put_records.ensures.kept (fit c.if-self.false) guards) (g.met.D.Disk.counts_now c.store.new.journal.device)) in
    search rules

pub invariant_of-self-in-Err : goal.invariant_of-self-in-Err
invariant_of-self-in-Err g c =
    let w = c.self.inside in
    let batch = c.args.batch.now.items in
    let old = g.D.Disk.state w.journal.device in
    let new = g.D.Disk.state c.store.new.journal.device in
    let guards = guards_of w.building.now w.journal w.register w.doubt.value.items (g.D.Disk.state w.at_opening.value.device).failures w.is_broken old c.self.invariant c.if-self.false in
    let fit = subst (λ (v : WriterView g.row.D.Denot). v.is_broken ≡ false → FitFrom v.plan v.register batch) (sym c.self.view_is) c.requires.fits in
    let leaves = now_after old new (IsInDoubt w.building.now w.register batch)
    (c.store.ensures.any_moment w.building.now batch c.put_records.ensures.kept (fit c.if-self.false) guards) (g.met.D.Disk.counts_now c.store.new.journal.device) in
    let kept : batch ≡ c.of.result.value.items = cc (c.of.ensures) in
    let failed = c.in-Err.ensures.breaks.failed (cc (c.in-Err.ensures.causes)) in
    broken_writer w.building.now c.store.new.journal w.register c.of.result.value.items (g.D.Disk.state w.at_opening.value.device).failures true new refl
    c.self.invariant.lawful c.self.invariant.belongs c.self.invariant.balanced (omega (arith, c.self.invariant.counted, failed))
    (subst (λ (l : List Entry). LeavesNow new (IsInDoubt w.building.now w.register l)) kept leaves)
