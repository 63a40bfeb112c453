-- What is said of a file that is only read.
use Rattle.std.specs.Prelude.{◌+◌}
use Rattle.lift_disk.specs.Disk.{DiskState}
use Rattle.lift_disk.specs.Files.{sector_file_state_of}
use Rattle.lift_disk.specs.declared.sectors.SectorFile.{SectorFile}
use Rattle.lift_disk.specs.declared.listed.ListedFile.{Ghosts as Listed}
use Rattle.lift_program.specs.declared.unwritten.UnwrittenFile.{UnwrittenFile}

-- the file itself
abbrev pub unwritten_file_of : {F : Type 0} {listing : Listed F} → UnwrittenFile F listing → SectorFile F listing
unwritten_file_of d = d.file

-- A file whose writes are refused, as by a failed call: all other calls are the file's.
abbrev pub unwritten_state_of : {F : Type 0} {listing : Listed F} → (F → DiskState)
    → UnwrittenFile F listing → DiskState
unwritten_state_of holds d = record (sector_file_state_of holds d.file) {
  failures = (sector_file_state_of holds d.file).failures + d.refused.count;
  calls = (sector_file_state_of holds d.file).calls + d.refused.count;
  writes = d.refused.count;
}
