use Rattle.std.proofs.Common.{◌≢◌, List, ℕ, string_bytes, refl, sym, subst, inl, inr, rules}
use Rattle.std.specs.Prelude.{codes}
use Rattle.std.specs.Str.Lines.{lines as lines_in}
use Rattle.lift_replay.specs.Source.{IsScript, LacksDivider}
use Rattle.lift_replay.specs.Script.{SaysBuilding}
use Rattle.std.specs.Io.KnownBytes.{Appends}
use Rattle.lift_building.specs.Gives.{IsFirstFault}
use Rattle.lift_building.specs.declared.fault.BuildingFault.TheVariants.{Memory}
use Rattle.lift_replay.specs.Report.{building_text}
use Rattle.lift_replay.specs.Replaying.{IsTextReport, WritesPrefix}
use Rattle.lift_replay.specs.Writing.{gone_in}
use Rattle.lift_replay.specs.declared.lines.Verdict.TheVariants.{Bad}
use Rattle.lift_replay.proofs.Written.{err_so, on_err, text_unwritten}
use Rattle.lift_replay.proofs.Told.{if_ok, if_bad, on_ok}
use Rattle.lift_replay.specs.lemmas.Writes.{called_err}
use Rattle.lift_replay.proofs.script.run_text.Goals as goal

pub returns-in-Ok-clause-tells : goal.returns-in-Ok-clause-tells
returns-in-Ok-clause-tells g c =
    let script : IsScript c.args.text.now (string_bytes c.in-Some.building) (lines_in c.in-Some.lines.now) = search rules in
    let says : SaysBuilding (string_bytes c.in-Some.building) c.in-Ok.building = search rules in
    if_ok c.run_lines.result (λ verdict told. (told.0, inr (string_bytes c.in-Some.building, lines_in c.in-Some.lines.now, script, inr (c.in-Ok.building, says, told.1)), told.2)) c.run_lines.ensures.tells

pub returns-clause-tells : goal.returns-clause-tells
returns-clause-tells g c =
    let script : IsScript c.args.text.now (string_bytes c.in-Some.building) (lines_in c.in-Some.lines.now) = search rules in
    let first : c.in-Err.fault ≢ Memory (string_bytes c.in-Some.building) → IsFirstFault (string_bytes c.in-Some.building) c.in-Err.fault = λ other. search rules in
    if_bad (λ verdict. (report : List ℕ) × IsTextReport c.args.text.now report verdict × Appends (gone_in g.W.Outflow.sent c.args.writer.now) (gone_in g.W.Outflow.sent c.refuse_building.new.writer) report)
    c.refuse_building.result c.refuse_building.ensures.not_good
    (on_ok c.refuse_building.result (λ refused. (
      building_text c.in-Err.fault,
      inr (string_bytes c.in-Some.building, lines_in c.in-Some.lines.now, script, inl ((c.in-Err.fault, refused.0 (string_bytes c.in-Some.building), first (refused.0 (string_bytes c.in-Some.building)), refl), refl)),
      refused.1,
    )) c.refuse_building.ensures.bad)

pub returns-in_err-building-clause-front : goal.returns-in_err-building-clause-front
returns-in_err-building-clause-front g c = err_so c.from_residual.result (text_unwritten c.args.text.now _)

pub returns-in_default-clause-front : goal.returns-in_default-clause-front
returns-in_default-clause-front g c =
    let lacks : LacksDivider c.args.text.now = search rules in
    on_err c.refuse.result (λ front. (codes "NO SCRIPT\n", Bad, inl (lacks, refl, refl), front)) c.refuse.ensures.front

pub returns-in-Ok-clause-front : goal.returns-in-Ok-clause-front
returns-in-Ok-clause-front g c =
    let script : IsScript c.args.text.now (string_bytes c.in-Some.building) (lines_in c.in-Some.lines.now) = search rules in
    let says : SaysBuilding (string_bytes c.in-Some.building) c.in-Ok.building = search rules in
    on_err c.run_lines.result (λ told. (told.0, told.1, inr (string_bytes c.in-Some.building, lines_in c.in-Some.lines.now, script, inr (c.in-Ok.building, says, told.2)), told.3)) c.run_lines.ensures.front

pub returns-clause-front : goal.returns-clause-front
returns-clause-front g c =
    let script : IsScript c.args.text.now (string_bytes c.in-Some.building) (lines_in c.in-Some.lines.now) = search rules in
    let first : c.in-Err.fault ≢ Memory (string_bytes c.in-Some.building) → IsFirstFault (string_bytes c.in-Some.building) c.in-Err.fault = λ other. search rules in
    on_err c.refuse_building.result (λ refused. elim refused [
      | inl same ↦ subst (WritesPrefix (IsTextReport c.args.text.now) (gone_in g.W.Outflow.sent c.args.writer.now)) (sym same) (text_unwritten c.args.text.now _)
      | inr front ↦ (
        building_text c.in-Err.fault,
        Bad,
        inr (string_bytes c.in-Some.building, lines_in c.in-Some.lines.now, script, inl ((c.in-Err.fault, front.0 (string_bytes c.in-Some.building), first (front.0 (string_bytes c.in-Some.building)), refl), refl)),
        front.1,
      )
    ]) c.refuse_building.ensures.front

pub returns-in_err-building-clause-calls : goal.returns-in_err-building-clause-calls
returns-in_err-building-clause-calls g c = called_err g.W.Outflow.gives _ _ c.from_residual.result _ c.from_residual.ensures.1 (0, refl)
