use Rattle.std.proofs.Common.{drop}
use Rattle.lift_journal.specs.Seen.{IsRecordsIn}
use Rattle.lift_journal.proofs.parse.read_records.Given as goal

abbrev pub invariant-loop-k : goal.invariant-loop-k
invariant-loop-k l = IsRecordsIn l.version (drop 16 l.text) l.k l.records.items
