-- What a keeper of a script recovers.
use Rattle.std.specs.Prelude.{◌≡◌}
use Rattle.lift_building.specs.Plan.{Plan}
use Rattle.lift_disk.specs.Disk.{Image}
use Rattle.lift_register.specs.Register.{RegisterState}
use Rattle.lift_keeper.specs.Images.{IsImageOf}

-- the image reads as this register, and as no other
pub record ReadsOnlyAs (plan : Plan) (image : Image) (register : RegisterState) : Type 0 where
  pub reads : IsImageOf plan register image
  pub only : (other : RegisterState) → IsImageOf plan other image → other ≡ register
