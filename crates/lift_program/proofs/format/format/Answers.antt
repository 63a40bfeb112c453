use Rattle.std.proofs.Common.{[], refl, rules, subst}
use Rattle.lift_disk.specs.Files.{sector_file_state_of}
use Rattle.lift_journal.specs.Journal.{ReadsAs}
use Rattle.lift_journal.specs.Calls.{MakesPrefix, format_calls}
use Rattle.lift_journal.specs.declared.fault.JournalFault.TheVariants.{Disk}
use Rattle.lift_keeper.specs.declared.fault.KeeperFault.TheVariants.{Journal as OfJournal}
use Rattle.lift_program.specs.declared.fault.Fault.TheVariants.{Journal}
use Rattle.lift_program.proofs.Stages.{has_no_image, is_made, is_unformatted, reads_building}
use Rattle.lift_program.proofs.format.format.Goals as goal

pub returns-in-Ok-format-clause-made : goal.returns-in-Ok-format-clause-made
returns-in-Ok-format-clause-made g c =
    let left = c.format.new.disk in
    is_made _ c.args.image.now c.args.building.now c.in-Ok.building c.args.half c.in-Ok-create.disk left _ c.new-in-Ok-format.ensures c.in-Ok.ensures.found c.shape-shape.ensures.lawful
    (record { made = c.in-Ok-create.ensures.made; uncalled = c.in-Ok-create.ensures.calls }) c.in-Ok-format.ensures.performs.runs (search rules) (search rules) (search rules) (search rules) (search rules)
    (λ honest. subst (λ s. ReadsAs s [] [] (sector_file_state_of g.I.Listed.ListedFile.holds left).image) c.shape-shape.ensures.value (c.in-Ok-format.ensures.empty honest))
    c.in-Ok-format.ensures.synced

pub returns-in-Err-create-clause-failure : goal.returns-in-Err-create-clause-failure
returns-in-Err-create-clause-failure g c = (
  reads_building _ c.in-Ok.building c.in-Ok.ensures.found,
  has_no_image _ _ c.in-Err-create.cause _ c.refused-fault.ensures.same c.refused-fault.ensures.fault c.refused-fault.ensures.caused c.in-Err-create.ensures.refused,
)

pub returns-clause-failure : goal.returns-clause-failure
returns-clause-failure g c =
    let image = c.in-Ok-create.disk in
    let left = c.format.new.disk in
    let here = c.in-Err-format.ensures in
    let stops = subst (λ s. MakesPrefix (format_calls s) (sector_file_state_of g.I.Listed.ListedFile.holds image) (sector_file_state_of g.I.Listed.ListedFile.holds left)) c.shape-shape.ensures.value here.performs.follows.front in
    is_unformatted _ c.args.image.now c.args.building.now c.in-Ok.building c.args.half image left c.new-in-Err-format.result (Journal (OfJournal Disk)) c.new-in-Err-format.ensures c.in-Ok.ensures.found
    (record { made = c.in-Ok-create.ensures.made; uncalled = c.in-Ok-create.ensures.calls }) refl stops here.performs.runs here.performs.cause.err
