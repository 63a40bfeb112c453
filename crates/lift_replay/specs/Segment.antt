-- How a segment of a run ends, between two power cuts.
use Rattle.lift_replay.specs.declared.lines.End.{End}
use Rattle.lift_replay.specs.declared.lines.End.TheVariants.{Run as Over, Cut as Power}
use Rattle.lift_replay.specs.declared.segment.SegmentEnd.{SegmentEnd}
use Rattle.lift_replay.specs.declared.segment.SegmentEnd.TheVariants.{Run, Cut}

-- a power cut ends the lines of a segment
abbrev pub IsPowerCut : End → Type 0
IsPowerCut (Over verdict) = ⊥
IsPowerCut (Power outcome) = Unit {0}

-- it is so where a power cut ended the segment
abbrev pub IfCut : SegmentEnd → Type 0 → Type 0
IfCut (Run verdict) P = Unit {0}
IfCut (Cut disk) P = P
