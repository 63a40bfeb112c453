-- What the program says of a fault, and of words that it doesn't know.
use Rattle.std.specs.Prelude.{ℕ, Bool, true, false, List, [], ◌∷◌, ◌++◌, Option, Some, None, codes}
use Rattle.std.specs.Fmt.{decimal}
use Rattle.lift_building.specs.Text.{fault_number as building_number}
use Rattle.lift_building.specs.declared.fault.BuildingFault.{BuildingFault}
use Rattle.lift_building.specs.declared.fault.BuildingFault.TheVariants.{Detour, Memory as NoRoom}
use Rattle.lift_journal.specs.declared.fault.JournalFault.TheVariants.{Disk, Damaged}
use Rattle.lift_keeper.specs.Fault.{fault_number as journal_number}
use Rattle.lift_keeper.specs.declared.fault.KeeperFault.{KeeperFault}
use Rattle.lift_keeper.specs.declared.fault.KeeperFault.TheVariants.{Journal as OfJournal}
use Rattle.lift_keeper.specs.declared.fault.KeeperFault.TheVariants.{BadEntry}
use Rattle.lift_replay.specs.declared.script.ReplayFault.{ReplayFault}
use Rattle.lift_replay.specs.declared.script.ReplayFault.TheVariants.{Memory as NoMemory, Read}
use Rattle.lift_replay.specs.declared.script.ReplayFault.TheVariants.{Write}
use Rattle.lift_serve.specs.declared.serving.ServeFault.{ServeFault}
use Rattle.lift_serve.specs.declared.serving.ServeFault.TheVariants.{Thread as NoThread}
use Rattle.lift_serve.specs.declared.serving.ServeFault.TheVariants.{Memory as NoGrowth}
use Rattle.lift_program.specs.declared.fault.Role.TheVariants.{Input, Output}
use Rattle.lift_program.specs.declared.fault.Fault.{Fault}
use Rattle.lift_program.specs.declared.fault.Fault.TheVariants.{Building, Journal, File, Memory}
use Rattle.lift_program.specs.declared.fault.Fault.TheVariants.{Network, Thread}

-- a building's fault by its number, a detour with its three floors
abbrev pub building_fault_line : BuildingFault → List ℕ
building_fault_line (Detour from by to) =
    codes "liftd: building 6 " ++ decimal from ++ 32 ∷ decimal by ++ 32 ∷ decimal to
building_fault_line fault = codes "liftd: building " ++ decimal (building_number fault)

-- where in the journal a fault was found: damage has its sector, a record that doesn't fit its
-- place
abbrev pub place_text : KeeperFault → List ℕ
place_text (OfJournal (Damaged sector)) = 32 ∷ decimal sector
place_text (BadEntry place) = 32 ∷ decimal place
place_text _ = []

-- a journal's fault by its number, and where it was found
abbrev pub journal_text : KeeperFault → List ℕ
journal_text fault = codes "liftd: journal " ++ decimal (journal_number fault) ++ place_text fault

-- the line of a fault, without its end
abbrev pub fault_text : Fault → List ℕ
fault_text (Building fault) = building_fault_line fault
fault_text (Journal fault) = journal_text fault
fault_text (File role) = codes "liftd: file"
fault_text (Memory no_memory) = codes "liftd: memory"
fault_text Network = codes "liftd: network"
fault_text Thread = codes "liftd: thread"

-- the line of words that are those of no command
abbrev pub usage_text : List ℕ
usage_text = codes "liftd: usage"

-- a building that was refused for want of memory is that
abbrev pub of_building : BuildingFault → Fault
of_building (NoRoom no_memory) = Memory tt
of_building fault = Building fault

-- a script whose reading failed has failed for the standard input, one whose report could not be
-- written for the standard output
abbrev pub of_replay : ReplayFault → Fault
of_replay (NoMemory no_memory) = Memory tt
of_replay Read = File Input
of_replay Write = File Output

-- why a serving failed: for a device that failed, whatever else there was, and else for the first
-- fault of the rest
abbrev pub served_fault : (is_broken : Bool) → Option ServeFault → Option Fault
served_fault true fault = Some (Journal (OfJournal Disk))
served_fault false None = None
served_fault false (Some NoThread) = Some Thread
served_fault false (Some NoGrowth) = Some (Memory tt)
