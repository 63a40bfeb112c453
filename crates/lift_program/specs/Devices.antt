-- What is kept of letters, whatever the type of the device is.
use Rattle.std.specs.Prelude.{List}
use Rattle.lift_base.specs.declared.history.Entry.{Entry}
use Rattle.lift_building.specs.Plan.{Plan}
use Rattle.lift_disk.specs.Disk.{DiskState, Image}
use Rattle.lift_register.specs.Register.{RegisterState}
use Rattle.lift_clerk.specs.Keeping.{KeepsPrefix}
use Rattle.lift_serve.specs.Keeping.{HoldsLetters}
use Rattle.lift_world.specs.declared.event.Taken.{Taken}

-- What an image keeps to a group over devices of this type, it keeps to one over devices of another:
-- whoever begins over it goes on with the same history.
abbrev pub KeepsForAnyDevice : (D E : Type 0) → Type 0
KeepsForAnyDevice D E = D → (plan : Plan) (base : RegisterState) (accepted : List Entry)
    (given : List Taken) (left : Image) → KeepsPrefix D plan base accepted given left
    → KeepsPrefix E plan base accepted given left

-- So it is of the letters that a start finds.
abbrev pub HoldsForAnyDevice : {F : Type 0} → (D E : Type 0) → (held : F → DiskState) → Type 0
HoldsForAnyDevice {F} D E held = D → (plan : Plan) (base : RegisterState) (accepted : List Entry)
    (given : List Taken) (found : F) → HoldsLetters D plan base accepted given (held found)
    → HoldsLetters E plan base accepted given (held found)
