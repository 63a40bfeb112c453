-- What an opening has found.
use Rattle.std.specs.Prelude.{◌≡◌, ◌+◌, ◌-◌, ◌++◌}
use Rattle.lift_disk.specs.Disk.{DiskState}
use Rattle.lift_journal.specs.declared.place.Place.{Place}
use Rattle.lift_journal.specs.Calls.{opening_calls}
use Rattle.lift_journal.specs.Journal.{HasNextPlace, StandsAt}

-- It was read up to the closing gate of the picked half and no farther, and of an honest device that
-- is where the next batch goes.
pub record FindsPlace (at : Place) (old new : DiskState) : Type 0 where
  pub place : HasNextPlace new.size at.shape at.start at.gate at.number
  pub stands : old.is_honest → StandsAt at.shape at.start at.gate at.number new
  pub calls : new.trace ≡ old.trace ++ opening_calls at.start (at.gate - at.start + 1)
