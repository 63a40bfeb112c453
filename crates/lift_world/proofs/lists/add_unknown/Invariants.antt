use Rattle.std.proofs.Common.{◌≡◌, ◌≤◌, ◌++◌, ◌-◌, ◌+◌, length, map, take, vec_len, vec_capacity}
use Rattle.lift_world.specs.Next.{unknown_to}
use Rattle.lift_world.proofs.lists.add_unknown.Given as goal

abbrev pub invariant-loop-command : goal.invariant-loop-command
invariant-loop-command l = record {
  items : l.due.items ≡ l.fn.due.items ++ map unknown_to (take l.command-index l.commands);
  room : vec_len l.due + (length l.commands - l.command-index) ≤ vec_capacity l.due;
}
