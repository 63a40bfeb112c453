use Rattle.std.proofs.Common.{◌≤◌, ◌+◌, length, string_bytes}
use denote.Text.{Utf8}
use denote.Shadow.{shadow}
use Rattle.lift_replay.proofs.Sources.{Above}
use Rattle.lift_replay.proofs.source.split_script.Given as goal

abbrev pub invariant-loop : goal.invariant-loop
invariant-loop l = record {
  text : shadow (Utf8 l.rest);
  above : Above l.text l.rest (string_bytes l.building);
  left : length l.rest + l.counter ≤ length l.text;
}
