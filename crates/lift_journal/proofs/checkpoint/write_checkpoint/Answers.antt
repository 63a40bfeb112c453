use Rattle.std.proofs.Common.{ℕ, Ok, ◌≡◌, ◌+◌, ◌++◌, length, subst, slice_set, slice_get, ◌∙◌, ap, arith}
use Rattle.std.proofs.lemmas.List.{length-set}
use Rattle.lift_disk.specs.Disk.{Image, ChangesWithin}
use Rattle.lift_base.specs.declared.limits.TheConstants.{LEAST_HALF}
use Rattle.lift_disk.specs.declared.disk.DiskFault.{DiskFault}
use Rattle.lift_disk.specs.lemmas.History.{set_other}
use Rattle.lift_register.specs.Base.{base_records}
use Rattle.lift_journal.specs.Layout.{sector_at, used}
use Rattle.lift_journal.specs.Steps.{IsInRange, unmarked}
use Rattle.lift_journal.specs.Checkpoint.{sectors_for}
use Rattle.lift_disk.specs.lemmas.Moments.{changes_more, changes_twice}
use Rattle.lift_journal.specs.lemmas.Looking.{err_any}
use Rattle.lift_journal.specs.Checkpoint.{checkpoint_of}
use Rattle.lift_journal.proofs.Appends.{sector_set}
use Rattle.lift_journal.proofs.Switching.{checkpoint_leaves, written_left, writing_fails}
use Rattle.lift_journal.specs.Calls.{Performs, draft_calls, puts}
use Rattle.lift_journal.proofs.Performing.{err_performed, err_performs, ok_performs, performs_then}
use Rattle.lift_journal.proofs.checkpoint.write_checkpoint.Goals as goal

pub returns-in_err-switch_half-clause-any_moment : goal.returns-in_err-switch_half-clause-any_moment
returns-in_err-switch_half-clause-any_moment g c end high inside synced =
    let old = g.D.Disk.state c.args.disk.now in
    let mid = g.D.Disk.state c.write_batches.new.disk in
    let touched = c.write_batches.ensures.touched (λ honest i is. absurd ((synced honest).none_loose i is)) in
    let was = c.write_batches.ensures.performs.runs.honest.0 in
    checkpoint_leaves old mid (g.D.Disk.state c.switch_half.new.disk) c.args.start end c.in_ok-gate.gate (checkpoint_of (base_records c.args.register.now))
    c.requires.first high inside (g.met.D.Disk.whole c.write_batches.new.disk) c.in_ok-gate.ensures.gate.1 touched
    (λ honest. c.in_ok-gate.ensures.reached honest (synced honest).steady end high inside)
    (c.switch_half.ensures.any_moment c.args.start (c.args.start + LEAST_HALF) (omega (arith, c.in_ok-gate.ensures.gate.0)) c.in_ok-gate.ensures.gate.1 touched.loose
    (λ honest. c.in_ok-gate.ensures.steady (was honest) (synced (was honest)).steady))

pub returns-clause-any_moment : goal.returns-clause-any_moment
returns-clause-any_moment g c end high inside synced =
    let old = g.D.Disk.state c.args.disk.now in
    let mid = g.D.Disk.state c.write_batches.new.disk in
    let touched = c.write_batches.ensures.touched (λ honest i is. absurd ((synced honest).none_loose i is)) in
    let was = c.write_batches.ensures.performs.runs.honest.0 in
    checkpoint_leaves old mid (g.D.Disk.state c.switch_half.new.disk) c.args.start end c.in_ok-gate.gate (checkpoint_of (base_records c.args.register.now))
    c.requires.first high inside (g.met.D.Disk.whole c.write_batches.new.disk) c.in_ok-gate.ensures.gate.1 touched
    (λ honest. c.in_ok-gate.ensures.reached honest (synced honest).steady end high inside)
    (c.switch_half.ensures.any_moment c.args.start (c.args.start + LEAST_HALF) (omega (arith, c.in_ok-gate.ensures.gate.0)) c.in_ok-gate.ensures.gate.1 touched.loose
    (λ honest. c.in_ok-gate.ensures.steady (was honest) (synced (was honest)).steady))

pub returns-clause-picked : goal.returns-clause-picked
returns-clause-picked g c honest synced =
    let mid = g.D.Disk.state c.write_batches.new.disk in
    let honest_mid = c.write_batches.ensures.performs.runs.honest.1 honest in
    let picked = c.in_ok-switch_half.ensures.picked honest_mid (c.in_ok-gate.ensures.steady honest synced.steady) in
    ap (λ (l : Image). sector_at l 0) picked.same
    ∙ sector_set (slice_set mid.image c.in_ok-gate.gate unmarked) 0 c.args.pick.now
    (omega (arith, length-set mid.image c.in_ok-gate.gate unmarked, g.met.D.Disk.whole c.write_batches.new.disk honest_mid, c.write_batches.ensures.performs.runs.size, c.requires.there))

pub returns-clause-written : goal.returns-clause-written
returns-clause-written g c end high inside honest synced =
    let old = g.D.Disk.state c.args.disk.now in
    let mid = g.D.Disk.state c.write_batches.new.disk in
    let new = g.D.Disk.state c.switch_half.new.disk in
    let honest_mid = c.write_batches.ensures.performs.runs.honest.1 honest in
    let touched = c.write_batches.ensures.touched (λ _ i is. absurd (synced.none_loose i is)) in
    let picked = c.in_ok-switch_half.ensures.picked honest_mid (c.in_ok-gate.ensures.steady honest synced.steady) in
    let closed = slice_set mid.image c.in_ok-gate.gate unmarked in
    let after : ChangesWithin (λ i. i ≡ 0) closed new.image = record {
      size = ap length picked.same ∙ length-set closed 0 c.args.pick.now;
      others = λ i other. ap (λ (l : Image). slice_get l i) picked.same ∙ set_other closed 0 i c.args.pick.now other;
    } in
    written_left c.args.start end c.in_ok-gate.gate (checkpoint_of (base_records c.args.register.now)) old.image mid.image new.image c.requires.first high
    (omega (arith, inside, c.write_batches.ensures.performs.runs.size, g.met.D.Disk.whole c.write_batches.new.disk honest_mid)) c.in_ok-gate.ensures.gate.1
    (c.in_ok-gate.ensures.reached honest synced.steady end high inside) (touched.within honest) after

pub returns-in_err-gate-clause-fails : goal.returns-in_err-gate-clause-fails
returns-in_err-gate-clause-fails g c =
    err_any c.from_residual.result _ (λ end high inside honest inert synced.
    let old = g.D.Disk.state c.args.disk.now in
    let new = g.D.Disk.state c.write_batches.new.disk in
    let changed = IsInRange c.args.start (c.args.start + LEAST_HALF) in
    let touched = c.write_batches.ensures.touched (λ _ i is. absurd (synced.none_loose i is)) in
    record {
      early = λ _ honest_new left leaves.
          changes_twice changed old.image new.image left (touched.within honest) (changes_more new.is_loose changed new.image left (touched.loose honest_new) leaves);
      late = λ more. absurd (omega (arith, more, c.write_batches.ensures.performs.made.most_calls));
    })

pub returns-in_err-switch_half-clause-fails : goal.returns-in_err-switch_half-clause-fails
returns-in_err-switch_half-clause-fails g c =
    err_any c.from_residual-in_err-switch_half.result _ (λ end high inside honest inert synced.
    let old = g.D.Disk.state c.args.disk.now in
    let mid = g.D.Disk.state c.write_batches.new.disk in
    let records = base_records c.args.register.now in
    let touched = c.write_batches.ensures.touched (λ _ i is. absurd (synced.none_loose i is)) in
    let runs = c.write_batches.ensures.performs.runs in
    let honest_mid = runs.honest.1 honest in
    writing_fails old mid (g.D.Disk.state c.switch_half.new.disk) c.args.start end c.in_ok-gate.gate (sectors_for (length records)) (checkpoint_of records) c.args.pick.now
    c.requires.first high (omega (arith, inside, runs.size, g.met.D.Disk.whole c.write_batches.new.disk honest_mid)) c.in_ok-gate.ensures.gate.1
    (touched.within honest) (c.in_ok-gate.ensures.reached honest synced.steady end high inside) c.in_ok-gate.ensures.performs.made.calls
    (c.in_err-switch_half.ensures.fails c.args.start (c.args.start + LEAST_HALF) (omega (arith, c.in_ok-gate.ensures.gate.0)) c.in_ok-gate.ensures.gate.1 touched.loose
    honest_mid (runs.inert.1 inert) (c.in_ok-gate.ensures.steady honest synced.steady)))

pub returns-in_err-gate-clause-performs : goal.returns-in_err-gate-clause-performs
returns-in_err-gate-clause-performs g c =
    let records = base_records c.args.register.now in
    let n = sectors_for (length records) in
    let batches = checkpoint_of records in
    err_performs _ c.from_residual.result (g.D.Disk.state c.args.disk.now) (g.D.Disk.state c.write_batches.new.disk) (draft_calls c.args.start 1 batches)
    (puts (c.args.start + used batches) unmarked ++ puts 0 c.args.pick.now) n (n + 4) n (n + 2) c.from_residual.ensures.1 c.in_err-gate.ensures.performs (omega arith) (omega arith)

pub returns-in_err-switch_half-clause-performs : goal.returns-in_err-switch_half-clause-performs
returns-in_err-switch_half-clause-performs g c =
    let old = g.D.Disk.state c.args.disk.now in
    let mid = g.D.Disk.state c.write_batches.new.disk in
    let new = g.D.Disk.state c.switch_half.new.disk in
    let records = base_records c.args.register.now in
    let n = sectors_for (length records) in
    let drafts = draft_calls c.args.start 1 (checkpoint_of records) in
    let switch = puts c.in_ok-gate.gate unmarked ++ puts 0 c.args.pick.now in
    subst (λ gate. Performs c.from_residual-in_err-switch_half.result (drafts ++ (puts gate unmarked ++ puts 0 c.args.pick.now)) (n + 4) (n + 2) old new) c.in_ok-gate.ensures.placed
    (err_performed _ c.from_residual-in_err-switch_half.result old new (drafts ++ switch) (n + 4) (n + 2) c.from_residual-in_err-switch_half.ensures.1
    (performs_then _ old mid new drafts switch n 4 n 2 c.in_ok-gate.ensures.performs c.in_err-switch_half.ensures.performs))

pub returns-clause-performs : goal.returns-clause-performs
returns-clause-performs g c =
    let old = g.D.Disk.state c.args.disk.now in
    let mid = g.D.Disk.state c.write_batches.new.disk in
    let new = g.D.Disk.state c.switch_half.new.disk in
    let records = base_records c.args.register.now in
    let n = sectors_for (length records) in
    let drafts = draft_calls c.args.start 1 (checkpoint_of records) in
    let switch = puts c.in_ok-gate.gate unmarked ++ puts 0 c.args.pick.now in
    subst (λ gate. Performs {T = ℕ} {E = DiskFault} (Ok c.in_ok-gate.gate) (drafts ++ (puts gate unmarked ++ puts 0 c.args.pick.now)) (n + 4) (n + 2) old new) c.in_ok-gate.ensures.placed
    (ok_performs old new (drafts ++ switch) (n + 4) (n + 2)
    (performs_then _ old mid new drafts switch n 4 n 2 c.in_ok-gate.ensures.performs c.in_ok-switch_half.ensures.performs))
