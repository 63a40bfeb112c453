use Rattle.lift_serve.specs.lemmas.Made.{images_keep, made_keeps}
use Rattle.lift_serve.specs.lemmas.Opened.{turns_hand_on}
use Rattle.lift_serve.proofs.keeping.journals_keep.Goals as goal

pub returns-clause-images : goal.returns-clause-images
returns-clause-images g c = images_keep

pub returns-clause-made : goal.returns-clause-made
returns-clause-made g c = made_keeps g.M.Disk.state

pub returns-clause-turns : goal.returns-clause-turns
returns-clause-turns g c = turns_hand_on g.D.Disk.state g.M.Disk.state
