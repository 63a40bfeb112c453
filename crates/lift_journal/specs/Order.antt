-- In which order records stand: first the open calls of a checkpoint by rising car, then the last
-- commands of its terminals by rising terminal, then its count of done calls; after it, or without
-- one, entries.
use Rattle.std.specs.Prelude.{◌<◌, ◌≤◌, List, [], ◌∷◌, Option, Some, None}
use Rattle.lift_base.specs.declared.history.Record.{Record}
use Rattle.lift_base.specs.declared.history.Record.TheVariants.{Entry, Row, Last, Done}

-- an accepted command
abbrev pub IsEntry : Record → Type 0
IsEntry (Entry entry) = Unit {0}
IsEntry _ = ⊥

-- a part of a checkpoint
abbrev pub IsOfBase : Record → Type 0
IsOfBase (Entry entry) = ⊥
IsOfBase _ = Unit {0}

-- the record may stand right after that one; any may stand first
abbrev pub MayFollow : Option Record → Record → Type 0
MayFollow None next = Unit {0}
MayFollow (Some (Row row)) (Row next) = row.car ≤ next.car
MayFollow (Some (Row row)) next = IsOfBase next
MayFollow (Some (Last terminal last)) (Last other next) = terminal < other
MayFollow (Some (Last terminal last)) (Done count) = Unit {0}
MayFollow (Some (Last terminal last)) _ = ⊥
MayFollow (Some _) next = IsEntry next

-- the records may stand in this order after that one
abbrev pub IsInOrderAfter : Option Record → List Record → Type 0
IsInOrderAfter last [] = Unit {0}
IsInOrderAfter last (next ∷ rest) = MayFollow last next × IsInOrderAfter (Some next) rest

-- the last of these records, or that one where there are none
abbrev pub last_record_after : Option Record → List Record → Option Record
last_record_after last [] = last
last_record_after last (next ∷ rest) = last_record_after (Some next) rest

-- a chain may end after it: a checkpoint that has begun has ended with its count of done calls
abbrev pub MayEnd : Option Record → Type 0
MayEnd (Some (Row row)) = ⊥
MayEnd (Some (Last terminal last)) = ⊥
MayEnd _ = Unit {0}
