use Rattle.std.proofs.Common.{[], List, ap, ◌∙◌}
use Rattle.lift_base.specs.declared.history.Entry.{Entry}
use Rattle.lift_register.specs.Register.{register_of, empty}
use Rattle.lift_world.proofs.Replayed.{fits_front}
use Rattle.lift_world.proofs.world.World.reopen.Goals as goal

pub replay-self-inside-requires : goal.replay-self-inside-requires
replay-self-inside-requires c = rw (c.deref-2.ensures.value, c.truncate.ensures.items) (fits_front c.self.inside.building.now empty [] c.self.inside.accepted.items c.recovered-count.result c.self.invariant.fits)

pub invariant_of-self-3 : goal.invariant_of-self-3
invariant_of-self-3 c = record {
  fits = rw c.truncate.ensures.items (fits_front c.self.inside.building.now empty [] c.self.inside.accepted.items c.recovered-count.result c.self.invariant.fits);
  register_is = c.replay-self-inside.ensures.value ∙ ap (λ (xs : List Entry). register_of empty xs) c.deref-2.ensures.value;
  balanced = c.replay-self-inside.ensures.balanced;
}
