use Rattle.lift_disk.specs.Runs.{left_with, run_loose, with_run}
use Rattle.lift_disk.specs.lemmas.Moments.{changes_nothing}
use Rattle.lift_disk.proofs.buffered.Buffered.into_inner.Goals as goal

pub returns-clause-left : goal.returns-clause-left
returns-clause-left g c honest =
    let d = c.args.self in
    let disk = g.R.Disk.state d.device in
    left_with disk.is_loose disk.image (with_run d.from d.pending.items disk.image) disk.image
    (run_loose disk.is_loose d.pending.items d.from disk.image (d.announced honest)) (changes_nothing disk.is_loose disk.image)
