use Rattle.lift_journal.specs.lemmas.Looking.{reads_then, well_then, cause_then}
use Rattle.std.proofs.Common.{◌≡◌, ◌⊎◌, ◌+◌, ◌-◌, [], ◌∷◌, inl, inr, refl, subst, sym, ap, ◌∙◌, arith}
use Rattle.lift_disk.specs.Trace.Access.{Read}
use Rattle.lift_journal.proofs.Ending.{ends_then}
use Rattle.std.specs.Prelude.{Bool, ℕ, if◌then◌else◌}
use Rattle.lift_journal.specs.Visits.{TakesBefore}
use Rattle.lift_journal.specs.Layout.{start_of}
use Rattle.lift_journal.proofs.Visiting.{taken_none, before_then}
use Rattle.lift_disk.specs.Disk.{IsSynced}
use Rattle.lift_journal.proofs.place.place_of.Goals.{then-is_in_second_half, else-is_in_second_half}
use Rattle.lift_journal.proofs.place.place_of.Goals as goal

pub returns-in-Ok-walk-clause-examines : goal.returns-in-Ok-walk-clause-examines
returns-in-Ok-walk-clause-examines g c =
    let old = g.D.Disk.state c.args.disk.now in
    let mid = g.D.Disk.state c.read_mark.new.disk in
    let new = g.D.Disk.state c.walk.new.disk in
    record {
      only = reads_then old mid new c.read_mark.ensures.looks.only c.walk.ensures.examines.only;
      ok = well_then old mid new c.read_mark.ensures.looks.only c.in-Ok.ensures.looks.ok c.in-Ok-walk.ensures.examines.ok;
      err = tt;
    }

pub returns-in-Err-clause-examines : goal.returns-in-Err-clause-examines
returns-in-Err-clause-examines g c =
    let old = g.D.Disk.state c.args.disk.now in
    let mid = g.D.Disk.state c.read_mark.new.disk in
    let new = g.D.Disk.state c.walk.new.disk in
    record {
      only = reads_then old mid new c.read_mark.ensures.looks.only c.walk.ensures.examines.only;
      ok = tt;
      err = cause_then c.in-Err.fault old mid new c.read_mark.ensures.looks.only c.in-Ok.ensures.looks.ok c.in-Err.ensures.examines.err;
    }

pub returns-in-Err-clause-behind : goal.returns-in-Err-clause-behind
returns-in-Err-clause-behind g c =
    let old = g.D.Disk.state c.args.disk.now in
    let mid = g.D.Disk.state c.read_mark.new.disk in
    let new = g.D.Disk.state c.walk.new.disk in
    let runs = c.read_mark.ensures.looks.only.runs in
    let well = c.in-Ok.ensures.looks.ok in
    let start = c.if-is_in_second_half.start in
    let end = start + c.args.shape.half in
    let halves : (start ≡ 2) ⊎ (start ≡ c.args.shape.half + 2) = elim c.if-is_in_second_half.branch [ then-is_in_second_half w ↦ inr w.start-is | else-is_in_second_half w ↦ inl w.start-is ] in
    inr (
      start,
      end,
      record { shape = c.args.shape; within = c.requires.within; inside = c.requires.room; starts = halves; ends = refl },
      ends_then c.in-Err.fault (Read 0 ∷ []) [] start end (mid.is_honest × IsSynced mid) (old.is_honest × IsSynced old) mid.image old.image old mid new c.in-Ok.ensures.read
          (λ known. (let kept = well.kept known.0 known.1 in ((runs.honest.1 known.0, kept.synced), kept.same))) c.in-Err.ensures.behind,
    )

pub returns-in_default-clause-shown_some : goal.returns-in_default-clause-shown_some
returns-in_default-clause-shown_some g c = taken_none g.V.Visitor.takes 1000000 c.args.visitor.now c.args.visitor.now (omega arith) refl

pub returns-in-Err-clause-shown_before : goal.returns-in-Err-clause-shown_before
returns-in-Err-clause-shown_before g c =
    let old = g.D.Disk.state c.args.disk.now in
    let mid = g.D.Disk.state c.read_mark.new.disk in
    let new = g.D.Disk.state c.walk.new.disk in
    let start = c.if-is_in_second_half.start in
    let half = c.args.shape.half in
    let takes = g.V.Visitor.takes in
    inr (λ honest synced.
    (let kept = c.in-Ok.ensures.looks.ok.kept honest synced in
    let begin : Bool → ℕ = λ b. if b then half + 2 else 2 in
    let marked = c.in-Ok.ensures.gives honest synced in
    let start_is : start ≡ start_of half old.image = elim c.if-is_in_second_half.branch [
      | then-is_in_second_half w ↦ w.start-is ∙ sym (ap begin (marked ∙ w.if-is_in_second_half.true))
      | else-is_in_second_half w ↦ w.start-is ∙ sym (ap begin (marked ∙ w.if-is_in_second_half.false))
    ] in
    subst (λ n. TakesBefore takes c.in-Err.fault (Read 0 ∷ []) n (n + half) old.image old new c.args.visitor.now c.walk.new.visitor) start_is
    (before_then takes c.in-Err.fault (Read 0 ∷ []) [] start (start + half) old.image mid.image old mid new c.args.visitor.now c.walk.new.visitor c.in-Ok.ensures.read kept.same
    (c.in-Err.ensures.shown_before (c.read_mark.ensures.looks.only.runs.honest.1 honest) kept.synced))))
