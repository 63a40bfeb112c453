use Rattle.std.proofs.Common.{◌≡◌, sym, subst}
use Rattle.std.specs.Prelude.{IsSome}
use Rattle.lift_register.specs.Register.{RegisterState, empty}
use Rattle.lift_world.specs.World.{World}
use Rattle.lift_world.specs.Replays.{view_of, IsTight}
use Rattle.lift_world.specs.Next.{taking}
use Rattle.lift_world.proofs.Carried.{no_move, undecided, taken_on}
use Rattle.lift_world.proofs.world.World.take_command.Goals as goal

pub invariant_of-self-in_default-decide : goal.invariant_of-self-in_default-decide
invariant_of-self-in_default-decide c =
    let i = c.self.inside in
    let w : World = view_of i.building.now i.accepted.items i.safe i.sealed i.flight i.phase i.queue.items i.power i.positions i.taken.items i.due.items i.asked.items i.answered.items i.heard.items i.given.items in
    rw c.reserve_both.ensures.items.0 (subst (λ (r : RegisterState). IsTight i.building.now empty r i.accepted.items)
    (sym (undecided w i.register c.args.command c.args.letter c.self.invariant c.decide.result c.decide.new.register c.decide.new.positions c.decide.ensures.carries c.in_default-decide.is).1) c.self.invariant)

pub returns-in_default-decide-clause-ok : goal.returns-in_default-decide-clause-ok
returns-in_default-decide-clause-ok c =
    let i = c.self.inside in
    let w : World = view_of i.building.now i.accepted.items i.safe i.sealed i.flight i.phase i.queue.items i.power i.positions i.taken.items i.due.items i.asked.items i.answered.items i.heard.items i.given.items in
    rw (c.reserve_both.ensures.items.0, c.reserve_both.ensures.items.1, ← c.self.view_is)
    (undecided w i.register c.args.command c.args.letter c.self.invariant c.decide.result c.decide.new.register c.decide.new.positions c.decide.ensures.carries c.in_default-decide.is).0

pub invariant_of-self-2 : goal.invariant_of-self-2
invariant_of-self-2 c =
    let i = c.self.inside in
    let w : World = view_of i.building.now i.accepted.items i.safe i.sealed i.flight i.phase i.queue.items i.power i.positions i.taken.items i.due.items i.asked.items i.answered.items i.heard.items i.given.items in
    let on = taken_on w i.register c.args.command c.args.letter c.self.invariant c.decide.result c.decide.new.register c.decide.new.positions c.decide.ensures.carries c.in-Some.decided c.in-Some.is c.cars.ensures.lawful in
    rw (c.push_entry.ensures.items, c.reserve_both.ensures.items.0) (record { fits = on.1; register_is = on.2; balanced = c.decide.ensures.balanced })

pub returns-clause-ok : goal.returns-clause-ok
returns-clause-ok c =
    let i = c.self.inside in
    let w : World = view_of i.building.now i.accepted.items i.safe i.sealed i.flight i.phase i.queue.items i.power i.positions i.taken.items i.due.items i.asked.items i.answered.items i.heard.items i.given.items in
    rw (c.in-Ok.ensures.items, c.push_entry.ensures.items, c.reserve_both.ensures.items.0, c.reserve_both.ensures.items.1, ← c.self.view_is)
    (taken_on w i.register c.args.command c.args.letter c.self.invariant c.decide.result c.decide.new.register c.decide.new.positions c.decide.ensures.carries c.in-Some.decided c.in-Some.is c.cars.ensures.lawful).0

pub returns-then-not-is_decided-clause-ok : goal.returns-then-not-is_decided-clause-ok
returns-then-not-is_decided-clause-ok c =
    let i = c.self.inside in
    let w : World = view_of i.building.now c.reserve_both.new.first.items i.safe i.sealed i.flight i.phase i.queue.items i.power i.positions c.reserve_both.new.second.items i.due.items i.asked.items i.answered.items i.heard.items i.given.items in
    let same : w ≡ c.args.self.now = rw (c.reserve_both.ensures.items.0, c.reserve_both.ensures.items.1) c.self.view_is in
    no_move (taking c.args.self.now c.args.letter c.args.command) c.args.self.now w c.is_decided.result
    (λ possible. c.is_decided.ensures.1 (subst (λ (w : World). IsSome (taking w c.args.letter c.args.command)) (sym same) possible)) c.if-not-is_decided.true same

pub returns-in-Err-clause-wants : goal.returns-in-Err-clause-wants
returns-in-Err-clause-wants c =
    let i = c.self.inside in
    let w : World = view_of i.building.now c.reserve_both.new.first.items i.safe i.sealed i.flight i.phase i.queue.items i.power i.positions c.reserve_both.new.second.items i.due.items i.asked.items i.answered.items i.heard.items i.given.items in
    let same : w ≡ c.args.self.now = rw (c.reserve_both.ensures.items.0, c.reserve_both.ensures.items.1) c.self.view_is in
    subst (λ (w : World). IsSome (taking w c.args.letter c.args.command)) same (c.is_decided.ensures.0 c.if-not-is_decided.false)
