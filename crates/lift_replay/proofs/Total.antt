-- Each script has a report.
use Rattle.std.proofs.Common.{◌≡◌, ◌≢◌, ◌⊎◌, ℕ, suc, List, [], ◌∷◌, ◌++◌, length, All, refl, ap, subst, inl, inr}
use Rattle.std.specs.Prelude.{codes}
use Rattle.std.proofs.lemmas.Bool.{cases_Bool}
use Rattle.std.proofs.lemmas.Bool.Decides.{leb_tells}
use Rattle.std.proofs.lemmas.List.Elements.{All-nil, All-cons}
use Rattle.std.proofs.lemmas.Str.{IsUtf8-from_is_utf8, is_utf8-from_IsUtf8}
use Rattle.std.specs.Str.{is_utf8}
use Rattle.lift_building.specs.Plan.{Plan}
use Rattle.lift_replay.specs.declared.lines.Verdict.{Verdict}
use Rattle.lift_replay.specs.declared.lines.Verdict.TheVariants.{Good, Bad}
use Rattle.lift_replay.specs.Grammar.{IsKnown}
use Rattle.lift_replay.specs.Group.{ScriptGroup, first_group}
use Rattle.lift_replay.specs.Lines.{line_text, after}
use Rattle.lift_replay.specs.Reading.{most_bytes}
use Rattle.lift_replay.specs.Replaying.{IsPartsReport, IsTextReport, IsReport}
use Rattle.lift_replay.specs.Report.{bad_text, building_text}
use Rattle.lift_replay.specs.Running.{TellsLines}
use Rattle.std.specs.Str.Lines.{lines as lines_in}
use Rattle.lift_replay.specs.Source.{divider, ended}
use Rattle.lift_replay.proofs.Built.{faulty_or_says}
use Rattle.lift_replay.proofs.Found.{same}
use Rattle.lift_replay.proofs.Once.{spells_one}
use Rattle.lift_replay.proofs.Spelled.{asks_for, skipped, known}

pub lines_total : (plan : Plan) (count : ℕ) (g : ScriptGroup) (script : List (List ℕ)) → (text : List ℕ) × (verdict : Verdict) × TellsLines plan count g script text verdict
lines_total plan count g [] = ([], Good, (refl, refl))
lines_total plan count g (line ∷ lines) = elim (skipped line) [
  | inl skips ↦ (let rest = lines_total plan (suc count) g lines in (rest.0, rest.1, inl (skips, rest.2)))
  | inr other ↦ elim (asks_for line) [
    | inl asks ↦ elim (known plan asks.0) [
      | inl is ↦ (let rest = lines_total plan (suc count) (after plan g asks.0) lines in
          (line_text plan g asks.0 ++ rest.0, rest.1, inr (inl (asks.0, rest.0, other, asks.1, is, rest.2, refl))))
      | inr not ↦ (bad_text (suc count), Bad, inr (inr ((other, λ wanted spells known. not (subst (IsKnown plan) (spells_one line wanted asks.0 spells asks.1) known)), refl, refl)))
    ]
    | inr none ↦ (bad_text (suc count), Bad, inr (inr ((other, λ wanted spells known. none (wanted, spells)), refl, refl)))
  ]
]

abbrev IsOther : List ℕ → Type 0
IsOther line = line ≢ divider

divided : (lines : List (List ℕ)) → All IsOther lines ⊎ ((above : List (List ℕ)) × (script : List (List ℕ)) × (lines ≡ above ++ divider ∷ script) × All IsOther above)
divided [] = inl (All-nil IsOther)
divided (line ∷ lines) = elim (same line divider) [
  | inl is ↦ inr ([], lines, ap (λ l. l ∷ lines) is, All-nil IsOther)
  | inr other ↦ elim (divided lines) [
    | inl all ↦ inl (All-cons IsOther line lines other all)
    | inr found ↦ inr (line ∷ found.0, found.1, ap (λ l. line ∷ l) found.2, All-cons IsOther line found.0 other found.3)
  ]
]

parts_total : (building : List ℕ) (script : List (List ℕ)) → (report : List ℕ) × (verdict : Verdict) × IsPartsReport building script report verdict
parts_total building script = elim (faulty_or_says building) [
  | inl faulty ↦ (building_text faulty.0, Bad, inl ((faulty.0, faulty.1, faulty.2, refl), refl))
  | inr says ↦ (let told = lines_total says.0 0 (first_group says.0) script in (told.0, told.1, inr (says.0, (says.1, says.2), told.2)))
]

pub text_total : (text : List ℕ) → (report : List ℕ) × (verdict : Verdict) × IsTextReport text report verdict
text_total text = elim (divided (lines_in text)) [
  | inl all ↦ (codes "NO SCRIPT\n", Bad, inl (all, refl, refl))
  | inr found ↦ (let told = parts_total (ended found.0) found.1 in (
    told.0,
    told.1,
    inr (ended found.0, found.1, record { above = found.0; split = found.2; first = found.3; ends = refl }, told.2),
  ))
]

pub report_total : (bytes : List ℕ) → (report : List ℕ) × (verdict : Verdict) × IsReport bytes report verdict
report_total bytes = elim (leb_tells (length bytes) most_bytes) [
  | inr long ↦ (codes "TOO LONG\n", Bad, inl (long.1, refl, refl))
  | inl short ↦ elim (cases_Bool (is_utf8 bytes)) [
    | inl is ↦ (let told = text_total bytes in (told.0, told.1, inr (inr (short.1, IsUtf8-from_is_utf8 bytes is, told.2))))
    | inr not ↦ (codes "NOT TEXT\n", Bad, inr (inl (short.1, (λ text. (let is = is_utf8-from_IsUtf8 bytes text in cc)), refl, refl)))
  ]
]
