use Rattle.lift_program.proofs.AnyDevice.{holds_for_any, keeps_for_any}
use Rattle.lift_program.proofs.devices.letters_know_no_device.Goals as goal

pub returns-clause-images : goal.returns-clause-images
returns-clause-images g c = keeps_for_any

pub returns-clause-holds : goal.returns-clause-holds
returns-clause-holds g c = holds_for_any g.F.Disk.state
