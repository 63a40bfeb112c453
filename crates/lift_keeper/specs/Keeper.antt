-- What a keeper holds: what decisions read and change, and what is safe on its device.
use Rattle.std.specs.Prelude.{◌≡◌, Bool, false}
use Rattle.lift_building.specs.Plan.{Plan}
use Rattle.lift_register.specs.Prelude.{RegisterState, register_of, FitFrom}
use Rattle.lift_policy.specs.Step.{State}
use Rattle.lift_keeper.specs.Writer.{WriterView}

-- what a caller sees of a keeper over a device
pub record KeeperView (D : Type 0) : Type 0 where
  pub state : State
  pub writer : WriterView D

-- What is true of every keeper that isn't broken: its batch fits after what is safe, and the two
-- are what it shows.
pub record IsKeeper (plan : Plan) (state : State) (other : Plan) (safe : RegisterState)
    (is_broken : Bool) : Type 0 where
  pub of_building : other ≡ plan
  pub fits : is_broken ≡ false → FitFrom plan safe state.batch
  pub shows : is_broken ≡ false → state.register ≡ register_of safe state.batch
