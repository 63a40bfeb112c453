-- What a start finds where a device was.
use Rattle.std.specs.Prelude.{ℕ}
use Rattle.lift_disk.specs.Disk.{DiskState, LeavesNow, MayLeave}

-- The device's last call was cut off, or had ended: each image that a crash may leave of what is found
-- is one that a crash might have left of the device at some moment since t.
abbrev pub StartsFrom : (last : DiskState) → (t : ℕ) → (found : DiskState) → Type 0
StartsFrom last t found = LeavesNow found (last.left_since t)

-- the same where it had ended
abbrev pub StartsAfter : (last found : DiskState) → Type 0
StartsAfter last found = LeavesNow found (MayLeave last)
