use Rattle.std.proofs.Common.{sym}
use Rattle.lift_register.specs.lemmas.EntryLemmas.{register_of-nothing}
use Rattle.lift_keeper.proofs.copies.apply_all.Goals as goal

pub loop-entry-init : goal.loop-entry-init
loop-entry-init c = record {
  value = sym (register_of-nothing c.args.register.now c.done-done.ensures.lawful);
  fit = c.requires.fits;
  lawful = c.done-done.ensures.lawful;
  balanced = c.requires.balanced;
  belongs = c.requires.belongs;
}
