-- From line to line of a script.
use Rattle.std.proofs.Common.{◌≡◌, ℕ, List, [], ◌++◌, sym, ap, ◌∙◌, subst}
use Rattle.std.specs.Prelude.{Option}
use Rattle.std.proofs.lemmas.List.{append_assoc, append-nil}
use Rattle.std.specs.Io.KnownBytes.{Appends}
use Rattle.std.proofs.KnownBytes.{Appends-nil, Appends-trans}
use Rattle.lift_building.specs.Plan.{Plan}
use Rattle.lift_replay.specs.declared.lines.End.{End}
use Rattle.lift_replay.specs.declared.lines.End.TheVariants.{Run as Over, Cut as Power}
use Rattle.lift_replay.specs.declared.lines.Verdict.{Verdict}
use Rattle.lift_replay.specs.declared.segment.SegmentEnd.{SegmentEnd}
use Rattle.lift_replay.specs.declared.segment.SegmentEnd.TheVariants.{Run, Cut}
use Rattle.lift_disk.specs.Outcomes.{state_of}
use Rattle.lift_disk.specs.declared.memory.MemDisk.{MemDisk}
use Rattle.lift_disk.specs.declared.outcome.Outcome.{Outcome}
use Rattle.lift_desk.specs.Seats.{TerminalSeat}
use Rattle.lift_register.specs.Balanced.{open_count}
use Rattle.lift_replay.specs.Group.{ScriptGroup, Found, left_by, recovered}
use Rattle.lift_replay.specs.Running.{TellsLines, Continues, LinesEnd, SegmentEnds}
use Rattle.lift_replay.specs.Shows.{Shows, IsFound}
use Rattle.lift_replay.specs.Told.{ScriptClerk}
use Rattle.lift_replay.specs.Report.{Reports, cut_text}

pub reports_none : (old : Option (List ℕ)) (piece : List ℕ) → Reports old old piece piece []
reports_none old piece = record { written = []; appends = Appends-nil old; same = append-nil piece }

-- all of it is kept back
pub reports_kept : (old : Option (List ℕ)) (piece after added : List ℕ) → after ≡ piece ++ added → Reports old old piece after added
reports_kept old piece after added is = record { written = []; appends = Appends-nil old; same = sym is }

pub reports_put : (old new : Option (List ℕ)) (piece mid after added : List ℕ) → mid ≡ piece ++ added → (written : List ℕ) × Appends old new written × (mid ≡ written ++ after)
    → Reports old new piece after added
reports_put old new piece mid after added is put = record { written = put.0; appends = put.1; same = sym is ∙ put.2 }

pub reports_on : (old mid new : Option (List ℕ)) (piece next after added more : List ℕ) → Reports old mid piece next added → Reports mid new next after more
    → Reports old new piece after (added ++ more)
reports_on old mid new piece next after added more first second = record {
  written = first.written ++ second.written;
  appends = Appends-trans old mid new first.written second.written first.appends second.appends;
  same = sym (append_assoc piece added more) ∙ ap (λ l. l ++ more) first.same ∙ append_assoc first.written next more
      ∙ ap (λ l. first.written ++ l) second.same ∙ sym (append_assoc first.written second.written after);
}

-- what was kept back is written too
pub report_put : (old mid new : Option (List ℕ)) (piece after added : List ℕ) → piece ≡ [] → Reports old mid piece after added → Appends mid new after → Appends old new added
report_put old mid new piece after added none first last =
    let whole : added ≡ first.written ++ after = sym (ap (λ l. l ++ added) none) ∙ first.same in
    subst (Appends old new) (sym whole) (Appends-trans old mid new first.written after first.appends last)

-- lines that ended at a desk, after this text, with what a power cut leaves
pub cut_left : (plan : Plan) (count later : ℕ) (g : ScriptGroup) (script rest : List (List ℕ)) (outcome : Outcome) (clerk : ScriptClerk) (seats : List TerminalSeat) (end : End) (disk : MemDisk) (old mid new : Option (List ℕ)) (piece next after start : List ℕ)
    → end ≡ Power outcome → Reports old mid piece next start → (added : List ℕ) × LinesEnd plan count g script added later rest clerk seats end × Reports mid new next after added
    → ((h : ScriptGroup) → Shows plan h clerk seats → IsFound plan (left_by outcome h) (state_of disk).image)
    → (added : List ℕ) × SegmentEnds plan count g script added later rest (Cut disk) × Reports old new piece after (start ++ added)
cut_left plan count later g script rest outcome clerk seats end disk old mid new piece next after start is first (added, ends, reports) left =
    let power = subst (LinesEnd plan count g script added later rest clerk seats) is ends in (
      added,
      (left_by outcome power.0, left power.0 power.1, power.2),
      reports_on old mid new piece next after start added first reports,
    )

-- or with the run
pub run_told : (plan : Plan) (count later : ℕ) (g : ScriptGroup) (script rest : List (List ℕ)) (verdict : Verdict) (clerk : ScriptClerk) (seats : List TerminalSeat) (end : End) (old mid new : Option (List ℕ)) (piece next after start : List ℕ)
    → end ≡ Over verdict → Reports old mid piece next start → (added : List ℕ) × LinesEnd plan count g script added later rest clerk seats end × Reports mid new next after added
    → (added : List ℕ) × TellsLines plan count g script added verdict × Reports old new piece after (start ++ added)
run_told plan count later g script rest verdict clerk seats end old mid new piece next after start is first (added, ends, reports) =
    (added, subst (LinesEnd plan count g script added later rest clerk seats) is ends, reports_on old mid new piece next after start added first reports)

joined : (a b c d e : List ℕ) → (a ++ b) ++ ((c ++ d) ++ e) ≡ ((a ++ (b ++ c)) ++ d) ++ e
joined a b c d e = sym (append_assoc (a ++ b) (c ++ d) e) ∙ ap (λ l. l ++ e) (sym (append_assoc (a ++ b) c d) ∙ ap (λ l. l ++ d) (append_assoc a b c))

-- a segment after those before it
pub segment_more : (plan : Plan) (count later later2 : ℕ) (g : ScriptGroup) (found : Found) (script rest behind : List (List ℕ)) (before start : List ℕ) (end : SegmentEnd) (disk : MemDisk) (old mid new : Option (List ℕ)) (piece kept after : List ℕ)
    → end ≡ Cut disk → Continues plan count g script (before ++ start) later (recovered plan found) rest → Reports old mid piece kept before
    → (added : List ℕ) × SegmentEnds plan later (recovered plan found) rest added later2 behind end × Reports mid new kept after (start ++ added)
    → (all : List ℕ) × (last : Found) × IsFound plan last (state_of disk).image × Continues plan count g script (all ++ cut_text (open_count last.register)) later2 (recovered plan last) behind × Reports old new piece after all
segment_more plan count later later2 g found script rest behind before start end disk old mid new piece kept after is leads reports (added, ends, more) =
    let cut = subst (SegmentEnds plan later (recovered plan found) rest added later2 behind) is ends in
    let told : List ℕ = cut_text (open_count cut.0.register) in (
      before ++ (start ++ added),
      cut.0,
      cut.1,
      λ text verdict tells. subst (λ t. TellsLines plan count g script t verdict) (joined before start added told text) (leads ((added ++ told) ++ text) verdict (cut.2 text verdict tells)),
      reports_on old mid new piece kept after before (start ++ added) reports more,
    )

pub segment_last : (plan : Plan) (count later later2 : ℕ) (g : ScriptGroup) (found : Found) (script rest behind : List (List ℕ)) (before start : List ℕ) (end : SegmentEnd) (verdict : Verdict) (old mid new : Option (List ℕ)) (piece kept after : List ℕ)
    → end ≡ Run verdict → Continues plan count g script (before ++ start) later (recovered plan found) rest → Reports old mid piece kept before
    → (added : List ℕ) × SegmentEnds plan later (recovered plan found) rest added later2 behind end × Reports mid new kept after (start ++ added)
    → (all : List ℕ) × TellsLines plan count g script all verdict × Reports old new piece after all
segment_last plan count later later2 g found script rest behind before start end verdict old mid new piece kept after is leads reports (added, ends, more) = (
  before ++ (start ++ added),
  subst (λ t. TellsLines plan count g script t verdict) (append_assoc before start added) (leads added verdict (subst (SegmentEnds plan later (recovered plan found) rest added later2 behind) is ends)),
  reports_on old mid new piece kept after before (start ++ added) reports more,
)
