-- The numbers by which reports and fault lines name faults.
use Rattle.std.specs.Prelude.{ℕ}
use Rattle.lift_journal.specs.declared.fault.JournalFault.{JournalFault}
use Rattle.lift_journal.specs.declared.fault.JournalFault.TheVariants.{Disk, NotFormatted, Damaged}
use Rattle.lift_journal.specs.declared.fault.JournalFault.TheVariants.{Full, Broken}

abbrev pub fault_number : JournalFault → ℕ
fault_number Disk = 1
fault_number NotFormatted = 2
fault_number (Damaged sector) = 3
fault_number Full = 4
fault_number Broken = 5
