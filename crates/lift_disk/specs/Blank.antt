-- A device that was just made.
use Rattle.std.specs.Prelude.{◌≡◌, ℕ, [], false, replicate}
use Rattle.lift_disk.specs.Disk.{DiskState, IsSynced, IsUnarmed}

-- No call was made of it, and none failed.
pub record IsUncalledDisk (disk : DiskState) : Type 0 where
  pub calls : disk.calls ≡ 0
  pub writes : disk.writes ≡ 0
  pub trace : disk.trace ≡ []

-- So many sectors of zeros, all of them safe, on an honest device that fails no call by itself.
pub record IsBlankDisk (sectors : ℕ) (disk : DiskState) : Type 0 where
  pub zeros : disk.image ≡ replicate sectors (replicate 512 0)
  pub synced : IsSynced disk
  pub same : disk.synced ≡ disk.image
  pub honest : disk.is_honest
  pub inert : disk.is_inert
  pub unarmed : IsUnarmed disk
  pub short : disk.is_short ≡ false
  pub failures : disk.failures ≡ 0
  pub uncalled : IsUncalledDisk disk
