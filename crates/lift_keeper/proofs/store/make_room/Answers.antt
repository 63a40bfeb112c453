use Rattle.std.proofs.Common.{◌∙◌, sym}
use Rattle.lift_register.specs.Base.{base_records}
use Rattle.lift_journal.specs.Checkpoint.{checkpoint_of}
use Rattle.lift_journal.specs.lemmas.Folding.{checkpoint_records, used_base}
use Rattle.lift_journal.specs.lemmas.Putting.{puts_reads, put_lists, put_half, reads_base}
use Rattle.lift_keeper.proofs.Guarding.{ok_three, base_kinds, by_disk, replace_leaves, replace_keeps, replace_fails}
use Rattle.lift_keeper.proofs.store.make_room.Goals as goal

pub returns-clause-any_moment : goal.returns-clause-any_moment
returns-clause-any_moment g c plan guards =
    let journal = c.args.journal.now in
    let same = c.replace.ensures.calls.runs.honest in
    replace_leaves plan journal.shape journal.is_in_second_half journal.used c.args.register.now (g.D.Disk.state journal.device) guards (g.D.Disk.state c.replace.new.self.device) same
    (puts_reads g.D.Disk.state journal c.replace.new.self (base_records c.args.register.now) same c.replace.result (c.replace.ensures.becomes c.requires.whole)
    (base_kinds plan c.args.register.now guards.lawful guards.belongs guards.balanced))

pub returns-clause-keeps : goal.returns-clause-keeps
returns-clause-keeps g c =
    let journal = c.args.journal.now in
    let after = c.replace.new.self in
    let old = g.D.Disk.state journal.device in
    let new = g.D.Disk.state after.device in
    let register = c.args.register.now in
    let records = base_records register in
    let same = c.replace.ensures.calls.runs.honest in
    let puts = c.replace.ensures.becomes c.requires.whole in
    ok_three c.replace.result _ _ _ _ (λ holds picks used plan guards honest_new.
    replace_keeps plan journal.shape journal.is_in_second_half journal.used register old guards new after.shape after.is_in_second_half after.used
    (checkpoint_of records) same c.replace.ensures.breaks.shape holds
    (λ honest left leaves. reads_base after.shape records left (base_kinds plan register guards.lawful guards.belongs guards.balanced) (holds honest left leaves))
    (checkpoint_records records) picks (used ∙ sym (used_base register)) honest_new)
    (put_lists g.D.Disk.state journal after records same c.replace.result puts) (put_half g.D.Disk.state journal after records same c.replace.result puts) c.replace.ensures.goes.used

pub returns-clause-fails : goal.returns-clause-fails
returns-clause-fails g c =
    let journal = c.args.journal.now in
    let old = g.D.Disk.state journal.device in
    let records = base_records c.args.register.now in
    by_disk c.replace.result _ c.replace.ensures.causes (λ is. cc (c.replace.ensures.breaks.broken.0 is, c.requires.whole))
    (λ is plan guards honest inert.
    let keeps = guards.keeps honest in
    replace_fails plan journal.shape journal.is_in_second_half journal.used c.args.register.now old guards (g.D.Disk.state c.replace.new.self.device) (checkpoint_of records) honest (checkpoint_records records)
    (used_base c.args.register.now) (c.replace.ensures.fails is honest inert keeps.batches keeps.holds))
