use Rattle.lift_register.specs.Base.{base_records}
use Rattle.lift_journal.specs.lemmas.Putting.{puts_reads}
use Rattle.lift_keeper.proofs.Guarding.{base_kinds, replace_leaves}
use Rattle.lift_keeper.proofs.checkpoints.checkpoints_keep.Goals as goal

pub returns : goal.returns
returns g c plan register old new result guards runs becomes =
    replace_leaves plan old.shape old.is_in_second_half old.used register (g.D.Disk.state old.device) guards (g.D.Disk.state new.device) runs.honest
    (puts_reads g.D.Disk.state old new (base_records register) runs.honest result becomes
    (base_kinds plan register guards.lawful guards.belongs guards.balanced))
