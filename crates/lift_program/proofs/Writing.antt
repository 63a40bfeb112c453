-- What stays written.
use Rattle.std.proofs.Common.{Option, List, [], ℕ}
use Rattle.std.specs.Io.KnownBytes.{Keeps}
use Rattle.std.proofs.KnownBytes.{Appends-kept}
use Rattle.std.proofs.lemmas.List.{append-nil}
use Rattle.lift_replay.specs.Replaying.{ReportsPrefix, ReportsInput}
use Rattle.lift_replay.specs.declared.lines.Verdict.{Verdict}

-- the report of an input stays its report where a flush keeps it
pub kept_report : (input old mid new : Option (List ℕ)) (verdict : Verdict) → ReportsInput input old mid verdict → Keeps mid new → ReportsInput input old new verdict
kept_report input old mid new verdict told keeps = (told.0, told.1, (told.2.0, told.2.1, Appends-kept old mid new told.2.0 told.2.2 keeps))

-- all of a report is a prefix of it
pub report_front : (input old new : Option (List ℕ)) (verdict : Verdict) → ReportsInput input old new verdict → ReportsPrefix input old new
report_front input old new verdict told = (told.0, told.1, (told.2.0, verdict, told.2.1, (told.2.0, ([], append-nil told.2.0), told.2.2)))
