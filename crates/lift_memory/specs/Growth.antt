-- How large an item may be for which room is asked.
use Rattle.std.specs.Prelude.{◌≤◌}
use Rattle.std.specs.Mem.{type_size}
use denote.RattleType.{RattleType}

-- A value of the type takes 16 KiB at most, so that 63 of them are 1 MiB, and it takes some room: of those that take none a list is
-- refused too many by their number, however much memory there is.
abbrev pub IsSmall : RattleType → Type 0
IsSmall R = (1 ≤ type_size R) × (type_size R ≤ 16384)
