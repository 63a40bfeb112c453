use Rattle.std.proofs.Common.{sym, subst, ◌∙◌, inl, inr, refl, [], string_bytes, arith, get_or, ◌≢◌}
use Rattle.std.proofs.lemmas.List.{append-nil}
use Rattle.std.proofs.lemmas.Str.Pattern.{starts_char}
use Rattle.lift_replay.specs.Grammar.{IsKnown}
use Rattle.lift_replay.specs.Report.{bad_text}
use Rattle.lift_replay.proofs.Once.{spells_one}
use Rattle.lift_replay.proofs.Told.{empty_skipped, hash_skipped, not_skipped}
use Rattle.lift_replay.proofs.lines.push_line.Goals.{then-is_empty-via-then-is_empty, then-is_empty-via-else-is_empty+then-starts_with, in_default-via-in-Some+else-is_known, in_default-via-in_default}
use Rattle.lift_replay.proofs.lines.push_line.Goals as goal

pub returns-then-is_empty-clause-tells : goal.returns-then-is_empty-clause-tells
returns-then-is_empty-clause-tells c = (
  [],
  inl (
    elim c.then-is_empty.branch [
      | then-is_empty-via-then-is_empty w ↦ empty_skipped c.args.text.now (sym c.is_empty.ensures ∙ w.if-is_empty.true)
      | then-is_empty-via-else-is_empty+then-starts_with w ↦ hash_skipped c.args.text.now ((starts_char 35 c.args.text.now w.starts_with.result w.starts_with.ensures.cases (omega arith) (omega arith)).0 w.if-starts_with.true)
    ],
    refl,
    refl,
    record { clerk = refl; terminals = refl },
  ),
  sym (append-nil (string_bytes c.args.report.now)),
)

pub returns-in_ok-push_bad-in_default-clause-tells : goal.returns-in_ok-push_bad-in_default-clause-tells
returns-in_ok-push_bad-in_default-clause-tells c =
    let other : get_or c.args.text.now 0 0 ≢ 35 = λ hash. let begins = (starts_char 35 c.args.text.now c.starts_with.result c.starts_with.ensures.cases (omega arith) (omega arith)).1 hash in (let not = c.if-starts_with.false in cc) in (
      bad_text c.args.number,
      inr (inr (
        (
          not_skipped c.args.text.now (sym c.is_empty.ensures ∙ c.if-is_empty.false) other,
          elim c.in_default.branch [
            | in_default-via-in-Some+else-is_known w ↦ λ wanted spells known.
                let is = w.is_known.ensures.1 (subst (IsKnown c.args.station.now.building.now) (spells_one c.args.text.now wanted w.in-Some.line spells w.in-Some.ensures.some) known) in
                (let not = w.if-is_known.false in cc)
            | in_default-via-in_default w ↦ λ wanted spells known. w.in_default.ensures.none wanted spells
          ],
        ),
        refl,
        refl,
        record { clerk = refl; terminals = refl },
      )),
      c.in_ok-push_bad-in_default.ensures,
    )
