use Rattle.std.proofs.Common.{◌≡◌, List, Option, sym, ap, ◌∙◌, subst}
use Rattle.std.specs.Prelude.{IsSome, IsTrue}
use Rattle.lift_base.specs.declared.history.Entry.{Entry}
use Rattle.lift_base.specs.declared.travel.Position.{Position}
use Rattle.lift_register.specs.Register.{register_of, empty}
use Rattle.lift_policy.specs.declared.command.Command.{Command}
use Rattle.lift_world.specs.Decided.{decided}
use Rattle.lift_world.specs.Carries.{CarriesDecision, state_with}
use Rattle.lift_world.specs.World.{World}
use Rattle.lift_world.specs.Next.{taking}
use Rattle.lift_world.specs.Replays.{view_of}
use Rattle.lift_world.proofs.Carried.{decided_both}
use Rattle.lift_world.proofs.world.World.is_decided.Goals as goal

pub returns : goal.returns
returns c =
    let i = c.self.inside in
    let w : World = view_of i.building.now i.accepted.items i.safe i.sealed i.flight i.phase i.queue.items i.power i.positions i.taken.items i.due.items i.asked.items i.answered.items i.heard.items i.given.items in
    let d = c.decide-decided in
    let copied : c.copy_from_slice.new.self ≡ i.positions = c.copy_from_slice.ensures.after in
    let command : Command = c.args.command.now in
    let carries : (batch : List Entry) → CarriesDecision (decided w.building (state_with c.replay-register.result w.positions batch) command.terminal command.number command.body c.args.letter) c.replay-register.result w.positions batch d.result d.new.register d.new.positions =
    subst (λ (ps : List (Option Position)). (batch : List Entry) → CarriesDecision (decided w.building (state_with c.replay-register.result ps batch) command.terminal command.number command.body c.args.letter) c.replay-register.result ps batch d.result d.new.register d.new.positions) copied d.ensures.carries in
    let both = decided_both w c.replay-register.result command c.args.letter
    (record { fits = c.self.invariant.fits; register_is = c.replay-register.ensures.value ∙ ap (λ (xs : List Entry). register_of empty xs) c.deref.ensures.value; balanced = c.replay-register.ensures.balanced })
    d.result d.new.register d.new.positions carries in
    subst (λ (v : World). (IsTrue c.is_some.result → IsSome (taking v c.args.letter command)) × (IsSome (taking v c.args.letter command) → IsTrue c.is_some.result)) c.self.view_is
    ((λ yes. both.0 (sym c.is_some.ensures ∙ yes)), (λ possible. c.is_some.ensures ∙ both.1 possible))
