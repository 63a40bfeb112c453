use Rattle.std.proofs.Common.{◌+◌, ◌-◌, length, sym, subst, arith, Result, Ok, Err, OnOk}
use Rattle.std.specs.Prelude.{IfOk}
use Rattle.lift_disk.specs.Disk.{Image}
use Rattle.lift_journal.specs.Layout.{size_of}
use Rattle.lift_journal.specs.Walk.{IsBatchAt}
use Rattle.lift_journal.specs.lemmas.Looking.{looks_then, err_weaker}
use Rattle.lift_journal.proofs.Seeing.{bodies_few}
use Rattle.lift_journal.proofs.Following.{row_then, rows_then}
use Rattle.lift_journal.proofs.reads.look.Goals as goal

on_ok : {T E : Type 0} (r : Result T E) (P : Type 0) (Q : T → Type 0) → ((x : T) → P → Q x) → OnOk r P → IfOk r Q
on_ok (Ok x) P Q then is = then x is
on_ok (Err e) P Q then is = tt

pub returns-clause-looks : goal.returns-clause-looks
returns-clause-looks g c =
    looks_then c.read_body.result (g.D.Disk.state c.args.disk.now) (g.D.Disk.state c.read_sector.new.disk) (g.D.Disk.state c.read_body.new.disk)
    c.read_sector.ensures.looks.only c.in_ok-read_sector.ensures.looks.ok c.read_body.ensures.looks

pub returns-clause-damaged : goal.returns-clause-damaged
returns-clause-damaged g c =
    on_ok c.read_body.result _ _ (λ at row _. (
      row.0,
      row.1,
      omega (arith, row.2, c.requires.below),
      rows_then (g.D.Disk.state c.args.disk.now) (g.D.Disk.state c.read_sector.new.disk) (g.D.Disk.state c.read_body.new.disk) c.args.gate 1 row.0 (c.args.gate + 1) (omega arith)
          c.in_ok-read_sector.ensures.read row.3,
    )) c.read_body.ensures.row

pub returns-clause-unread : goal.returns-clause-unread
returns-clause-unread g c =
    err_weaker c.read_body.result _ _ (λ row.
    row_then (g.D.Disk.state c.args.disk.now) (g.D.Disk.state c.read_sector.new.disk) (g.D.Disk.state c.read_body.new.disk) c.args.gate 1 (c.args.gate + 1) 1 c.args.end (omega arith)
    c.in_ok-read_sector.ensures.read row) c.read_body.ensures.unread

pub returns-clause-unfinished : goal.returns-clause-unfinished
returns-clause-unfinished g c =
    let old = g.D.Disk.state c.args.disk.now in
    let mid = g.D.Disk.state c.read_sector.new.disk in
    let new = g.D.Disk.state c.read_body.new.disk in
    err_weaker c.read_body.result _ _ (λ unfinished honest synced batch there.
    (let kept = c.in_ok-read_sector.ensures.looks.ok.kept honest synced in
    let there_now = subst (λ (l : Image). IsBatchAt l c.args.gate c.args.end c.args.number batch) (sym kept.same) there in
    let behind = unfinished (c.read_sector.ensures.looks.only.runs.honest.1 honest) kept.synced batch there_now in
    let row = row_then old mid new c.args.gate 1 (c.args.gate + 1) (size_of batch - 1) c.args.end (omega arith) c.in_ok-read_sector.ensures.read behind in
    (row.0, omega (arith, row.1, bodies_few (length batch.records)), row.2, row.3))) c.read_body.ensures.unfinished
