use Rattle.std.proofs.Common.{ℕ, List, ◌+◌, [], ◌∷◌, inr, refl, ap, ◌∙◌, arith, slice_set, subst}
use Rattle.std.proofs.lemmas.Result.{on_ok_weaker}
use Rattle.lift_disk.specs.lemmas.Moments.{sync_touches, touches_none, touches_then_write, touches_then_rest}
use Rattle.lift_journal.specs.Steps.{IsInRange}
use Rattle.lift_journal.specs.lemmas.Looking.{err_weaker}
use Rattle.lift_disk.specs.Trace.Access.{Write, Sync}
use Rattle.lift_journal.specs.Calls.{Performs, puts}
use Rattle.lift_journal.proofs.Performing.{performs_call, performs_then, err_performs}
use Rattle.lift_journal.proofs.device.open_gate.Goals as goal

pub returns-clause-touched : goal.returns-clause-touched
returns-clause-touched g c loose =
    let old = g.D.Disk.state c.args.disk.now in
    let mid = g.D.Disk.state c.write.new.self in
    let changed = IsInRange c.args.gate (c.args.gate + 1) in
    let written = touches_then_write changed old old mid (touches_none changed old loose (g.met.D.Disk.only_now c.args.disk.now))
    (g.met.D.Disk.only_now c.args.disk.now) c.write.ensures.access.goes_on c.args.gate c.write.ensures.touched (omega arith, omega arith) in
    touches_then_rest changed old mid (g.D.Disk.state c.sync.new.self) written (g.met.D.Disk.only_now c.write.new.self) c.sync.ensures.access.goes_on (sync_touches c.sync.result mid (g.D.Disk.state c.sync.new.self) c.sync.ensures.saves c.sync.ensures.leaves)

pub returns-clause-opened : goal.returns-clause-opened
returns-clause-opened g c =
    let old = g.D.Disk.state c.args.disk.now in
    on_ok_weaker c.sync.result (λ saves honest steady.
    let written = c.in_ok-write.ensures.stores.steady honest steady in
    let honest_then = c.write.ensures.access.goes_on.honest.1 honest in
    let safe = saves honest_then in
    record { synced = safe.synced; same = (safe.steady written.steady).same ∙ written.same ∙ ap (λ s. slice_set old.image c.args.gate s) c.mark.ensures }) c.sync.ensures.saves

pub returns-clause-misses : goal.returns-clause-misses
returns-clause-misses g c =
    let old = g.D.Disk.state c.args.disk.now in
    err_weaker c.sync.result _ _ (λ leaves honest inert.
    let honest_then = c.write.ensures.access.goes_on.honest.1 honest in
    let inert_then = c.write.ensures.access.goes_on.inert.1 inert in
    record {
      made = inr (
        omega (arith, c.write.ensures.access.goes_on.calls, c.sync.ensures.access.goes_on.calls),
        c.sync.ensures.image honest_then inert_then ∙ c.in_ok-write.ensures.stores.image honest inert ∙ ap (λ s. slice_set old.image c.args.gate s) c.mark.ensures,
      );
      synced = leaves.kept honest_then ∙ c.write.ensures.kept honest;
      loose = leaves.loose honest_then c.args.gate (((c.write.ensures.touched honest).loose c.args.gate).1 (inr refl));
    }) c.sync.ensures.leaves

pub returns-in_err-write-clause-performs : goal.returns-in_err-write-clause-performs
returns-in_err-write-clause-performs g c =
    let old = g.D.Disk.state c.args.disk.now in
    let new = g.D.Disk.state c.write.new.self in
    subst (λ (s : List ℕ). Performs c.from_residual.result (puts c.args.gate s) 2 1 old new) c.mark.ensures
    (err_performs _ c.from_residual.result old new (Write c.args.gate c.mark.result ∷ []) (Sync ∷ []) 1 2 1 1 c.from_residual.ensures.1
    (performs_call _ (Write c.args.gate c.mark.result) old new c.in_err-write.ensures.access)
    (omega arith) (omega arith))

pub returns-clause-performs : goal.returns-clause-performs
returns-clause-performs g c =
    let old = g.D.Disk.state c.args.disk.now in
    let mid = g.D.Disk.state c.write.new.self in
    let new = g.D.Disk.state c.sync.new.self in
    subst (λ (s : List ℕ). Performs c.sync.result (puts c.args.gate s) 2 1 old new) c.mark.ensures
    (performs_then c.sync.result old mid new (Write c.args.gate c.mark.result ∷ []) (Sync ∷ []) 1 1 1 0
    (performs_call _ (Write c.args.gate c.mark.result) old mid c.in_ok-write.ensures.access)
    (performs_call c.sync.result Sync mid new c.sync.ensures.access))
