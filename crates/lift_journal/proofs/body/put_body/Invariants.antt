use Rattle.std.proofs.Common.{◌≡◌, ◌+◌, ◌*◌, ◌++◌, length, take, All}
use Rattle.std.specs.List.{flat_map}
use Rattle.lift_record.specs.Record.{spelling_of}
use Rattle.lift_record.specs.Header.{header_bytes}
use Rattle.lift_record.specs.declared.version.Version.TheVariants.{Two}
use Rattle.lift_journal.specs.Layout.{body_size, filled, IsRecordIn}
use Rattle.lift_journal.proofs.body.put_body.Given as goal

abbrev pub invariant-loop-content : goal.invariant-loop-content
invariant-loop-content l = record {
  at : l.at ≡ 16 + 16 * l.content-index;
  text : l.text ≡ filled (body_size (length l.records)) (header_bytes Two (length l.records) l.number ++ flat_map (spelling_of Two) (take l.content-index l.records));
  typed : All (IsRecordIn Two) (take l.content-index l.records);
}
