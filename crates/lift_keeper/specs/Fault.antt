-- The numbers by which reports and fault lines name faults.
use Rattle.std.specs.Prelude.{ℕ}
use Rattle.lift_journal.specs.Fault.{fault_number as journal_number}
use Rattle.lift_keeper.specs.declared.fault.KeeperFault.{KeeperFault}
use Rattle.lift_keeper.specs.declared.fault.KeeperFault.TheVariants.{Journal, OtherBuilding}
use Rattle.lift_keeper.specs.declared.fault.KeeperFault.TheVariants.{BadEntry}

abbrev pub fault_number : KeeperFault → ℕ
fault_number (Journal fault) = journal_number fault
fault_number OtherBuilding = 6
fault_number (BadEntry place) = 7
