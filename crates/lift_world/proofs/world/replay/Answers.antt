use Rattle.std.proofs.Common.{sym, subst, ◌∙◌, get_or}
use Rattle.lift_base.specs.declared.history.Entry.{Entry}
use Rattle.lift_register.specs.Register.{RegisterState, empty}
use Rattle.lift_register.specs.Fits.{Fits}
use Rattle.lift_register.specs.lemmas.EntryLemmas.{register_of-nothing}
use Rattle.lift_register.specs.lemmas.Laws.{IsWellFormed-empty}
use Rattle.lift_world.proofs.Replayed.{fits_at}
use Rattle.lift_world.proofs.world.replay.Goals as goal

pub loop-entry-init : goal.loop-entry-init
loop-entry-init c = record { value = c.empty-register.ensures.value ∙ sym (register_of-nothing empty IsWellFormed-empty); balanced = c.empty-register.ensures.balanced }

pub apply-requires-clause-fits : goal.apply-requires-clause-fits
apply-requires-clause-fits c =
    subst (λ (e : Entry). Fits c.args.building.now c.loop-entry.register e) (sym c.entry-item.is)
    (subst (λ (r : RegisterState). Fits c.args.building.now r (get_or c.args.entries.now c.loop-entry.entry-index c.entry-item.result)) (sym c.loop-entry.invariant.value)
    (fits_at c.args.building.now empty c.args.entries.now c.loop-entry.entry-index c.entry-item.result c.loop-entry-test.true c.requires))
