use Rattle.std.proofs.Common.{◌<◌, ◌+◌, ◌++◌, ℕ, List, ap, subst, arith}
use Rattle.std.proofs.lemmas.List.Elements.{recursion_from_All, All-from_recursion}
use Rattle.lift_base.specs.declared.travel.Halt.{Halt}
use Rattle.lift_building.specs.Plan.{Plan, flight_ms}
use Rattle.lift_cost.proofs.Earlier.{AllBelow}
use Rattle.lift_cost.proofs.Delayed.{below_after, still_short}
use Rattle.lift_cost.proofs.ways.Ways.stop_at.Goals as goal

pub arrives-arrives-requires : goal.arrives-arrives-requires
arrives-arrives-requires c = let short = c.make_all-ways.ensures.short 2 c.requires.short in let leaves = short.leaves in omega (arith, leaves)

pub make_if_there-ways-requires-clause-short : goal.make_if_there-ways-requires-clause-short
make_if_there-ways-requires-clause-short c = still_short _ 3 4 (omega arith) (c.make_all-ways.ensures.short 2 c.requires.short)

pub returns-clause-on : goal.returns-clause-on
returns-clause-on c =
    let plan : Plan = c.args.building.now in
    let before : List Halt = c.split_at-split.result.before.now in
    record {
      before = before;
      is_there = c.split_at-split.result.is_there;
      split = c.split_at-split.ensures;
      on = λ start made made_with none on. c.make_if_there-ways.ensures.on start (made ++ before) (made_with ++ before) none (c.make_all-ways.ensures.on start made made_with on);
      arrives_at = λ start made made_with on. (
          let there = c.make_all-ways.ensures.on start made made_with on in
          let floor = ap (λ f. flight_ms plan f c.args.halt.now.floor) there.floor_with in
          let leaves = there.leaves in
          omega (arith, c.arrives-arrives.ensures.value, leaves, floor));
    }

pub returns-clause-within : goal.returns-clause-within
returns-clause-within c =
    let floors : ℕ = c.args.building.now.floors in
    let split = c.split_at-split.ensures in
    let behind : List Halt = c.split_at-split.result.behind.now in
    let all : AllBelow floors c.args.halts.now = recursion_from_All (λ (halt : Halt). halt.floor < floors) c.args.halts.now c.requires.within in
    All-from_recursion (λ (halt : Halt). halt.floor < floors) behind (below_after floors _ behind (subst (λ (hs : List Halt). AllBelow floors hs) split.whole all))

pub returns-clause-short : goal.returns-clause-short
returns-clause-short c n short = still_short _ (n + 1 + 1) (n + 2) (omega arith) (c.make_if_there-ways.ensures.short (n + 1) (c.make_all-ways.ensures.short n short))
