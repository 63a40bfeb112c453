-- A law about images at rest.
use Rattle.std.specs.Prelude.{◌≡◌, List}
use Rattle.lift_base.specs.declared.history.Record.{Record}
use Rattle.lift_base.specs.declared.history.Shape.{Shape}
use Rattle.lift_disk.specs.Disk.{Image}
use Rattle.lift_journal.specs.Journal.{ReadsAs}

-- an image is a journal of one shape at most, and reads as one checkpoint and one list of entries
abbrev pub ReadsAsOnePair : Type 0
ReadsAsOnePair = (image : Image) (shape other : Shape) (base first entries rest : List Record)
    → ReadsAs shape base entries image → ReadsAs other first rest image
    → (shape ≡ other) × (base ≡ first) × (entries ≡ rest)
