use Rattle.std.proofs.Common.{◌≡◌, true, Some, List, sym, ap, ◌∙◌}
use Rattle.std.specs.Prelude.{find, reverse}
use Rattle.lift_policy.specs.declared.command.Command.{Command}
use Rattle.lift_world.specs.World.{World, asks}
use Rattle.lift_world.specs.Next.{may_take}
use Rattle.lift_world.specs.lemmas.Steps.{taken_next}
use Rattle.lift_world.proofs.world.World.take.Goals as goal

pub returns-in-Some : goal.returns-in-Some
returns-in-Some c =
    let may : may_take c.args.self.now c.args.terminal ≡ true = sym c.may_take.ensures ∙ c.if-not-may_take.false in
    let asked = c.deref.ensures.value ∙ ap (λ (x : World). x.asked) c.self.view_is in
    let found : find (asks c.args.terminal) (reverse c.args.self.now.asked) ≡ Some c.in-Some.command =
    sym (c.in-Some.ensures ∙ ap (λ (xs : List Command). find (asks c.args.terminal) (reverse xs)) asked) in
    record {
      ok = simp (taken_next c.args.self.now c.args.terminal c.args.letter c.in-Some.command may found) c.take_command.ensures.ok;
      err = c.take_command.ensures.err;
      wants = simp (taken_next c.args.self.now c.args.terminal c.args.letter c.in-Some.command may found) c.take_command.ensures.wants;
    }
