-- What is held of the sectors of a device in memory, each of which is in two places.
use Rattle.std.specs.Prelude.{ℕ, List, if◌then◌else◌, map}
use Rattle.lift_disk.specs.Disk.{Image}
use Rattle.lift_disk.specs.declared.two_places.TwoPlaces.{TwoPlaces}

-- what was written last
unfoldable pub now_in : TwoPlaces → List ℕ
now_in sector = if sector.is_last_second then sector.second else sector.first

-- what the last sync made safe
unfoldable pub safe_in : TwoPlaces → List ℕ
safe_in sector = if sector.is_safe_second then sector.second else sector.first

-- what was written last in each sector
abbrev pub all_now : List TwoPlaces → Image
all_now sectors = map now_in sectors

-- what the last sync made safe in each
abbrev pub all_safe : List TwoPlaces → Image
all_safe sectors = map safe_in sectors
