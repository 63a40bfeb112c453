use Rattle.std.proofs.Common.{◌≡◌, ◌⊎◌, ◌+◌, ◌++◌, [], ◌∷◌, inl, ⊎_elim, ℕ, length, ◌∙◌, arith, ◌<◌, subst}
use Rattle.std.proofs.lemmas.Result.{on_ok_weaker, err_from_is_err_and}
use Rattle.lift_disk.specs.Disk.{Image, ChangesWithin, IsSynced}
use Rattle.lift_disk.specs.lemmas.Moments.{leaves_weaker, leaves_then, changes_more, changes_twice, touches_weaker, touches_then}
use Rattle.lift_journal.specs.Layout.{Holds}
use Rattle.lift_journal.specs.Steps.{IsInRange, marked, unmarked}
use Rattle.lift_journal.specs.lemmas.Chains.{holds_either}
use Rattle.lift_journal.proofs.Appends.{body_leaves, body_start, body_prepares, gate_opens, gate_start}
use Rattle.lift_journal.specs.lemmas.Looking.{err_any, err_weaker}
use Rattle.lift_journal.proofs.FailedAppends.{synced_image, fails_at_gate}
use Rattle.lift_disk.specs.Trace.Access.{Write, Sync}
use Rattle.lift_journal.specs.Calls.{Performs, writes_from, puts}
use Rattle.lift_journal.proofs.Performing.{performs_then, err_performs}
use Rattle.lift_journal.proofs.device.write_batch.Goals as goal

-- the sectors of a gate alone
at_gate : (gate : ℕ) (old new : Image) → ChangesWithin (IsInRange gate (gate + 1)) old new → ChangesWithin (λ i. i ≡ gate) old new
at_gate gate old new within = changes_more (IsInRange gate (gate + 1)) (λ i. i ≡ gate) old new (λ i is. omega (arith, is.0, is.1)) within

pub returns-in_err-store_after : goal.returns-in_err-store_after
returns-in_err-store_after g c =
    let old = g.D.Disk.state c.args.disk.now in
    let new = g.D.Disk.state c.store_after.new.disk in
    let gate = c.args.gate in
    let body = c.args.body.now in
    let n = length body in
    let changed = IsInRange (gate + 1) (gate + n + 2) in
    let touched = λ (synced : old.is_honest → IsSynced old). c.store_after.ensures.touched (λ honest i is. absurd ((synced honest).none_loose i is)) in
    let stored = writes_from (gate + 1) body ++ Write (gate + 1 + n) unmarked ∷ Sync ∷ [] in
    let fault = err_from_is_err_and c.from_residual.result c.from_residual.ensures.1 in
    record {
      writes = record {
        performs = err_performs _ c.from_residual.result old new stored (puts gate marked) (n + 2) (n + 4) (n + 1) (n + 2)
            c.from_residual.ensures.1 c.in_err-store_after.ensures.performs (omega arith) (omega arith);
        any_moment = λ shape batches batch ready.
            leaves_weaker old new (ChangesWithin changed old.image) (λ left. Holds shape batches left ⊎ Holds shape (batches ++ batch ∷ []) left)
            (λ honest left within. inl (body_leaves shape batches batch gate body old (ready honest) left within)) (touched (λ honest. (ready honest).synced)).moments;
        touched = λ synced. touches_weaker changed (IsInRange gate (gate + n + 2)) old new (λ i is. (omega (arith, is.0), is.1)) (touched synced);
        written = rw fault.1 tt;
        fails = err_any c.from_residual.result _ (λ shape batches batch honest inert ready.
            let safe = touched (λ _. ready.synced) in
            record {
              early = λ _ honest_new left leaves. body_leaves shape batches batch gate body old ready left
                  (changes_twice changed old.image new.image left (safe.within honest) (changes_more new.is_loose changed new.image left (safe.loose honest_new) leaves));
              late = λ more. absurd (omega (arith, more, c.store_after.ensures.performs.made.most_calls));
            });
      };
    }

pub returns : goal.returns
returns g c =
    let old = g.D.Disk.state c.args.disk.now in
    let mid = g.D.Disk.state c.store_after.new.disk in
    let new = g.D.Disk.state c.open_gate.new.disk in
    let gate = c.args.gate in
    let body = c.args.body.now in
    let n = length body in
    let changed = IsInRange (gate + 1) (gate + n + 2) in
    let was = c.store_after.ensures.performs.runs.honest in
    let touched = λ (synced : old.is_honest → IsSynced old). c.store_after.ensures.touched (λ honest i is. absurd ((synced honest).none_loose i is)) in
    let opened = λ (synced : mid.is_honest → IsSynced mid). c.open_gate.ensures.touched (λ honest i is. absurd ((synced honest).none_loose i is)) in
    let inside : mid.is_honest → gate < length mid.image =
    λ honest_mid. omega (arith, c.requires.there, c.store_after.ensures.performs.runs.size, g.met.D.Disk.whole c.store_after.new.disk honest_mid) in
    let stored = writes_from (gate + 1) body ++ Write (gate + 1 + n) unmarked ∷ Sync ∷ [] in
    let calls : n + 2 + 2 ≡ n + 4 = omega arith in
    let writes : n + 1 + 1 ≡ n + 2 = omega arith in
    record {
      writes = record {
        performs = subst (λ k. Performs c.open_gate.result (stored ++ puts gate marked) k (n + 2) old new) calls
            (subst (λ k. Performs c.open_gate.result (stored ++ puts gate marked) (n + 2 + 2) k old new) writes
            (performs_then c.open_gate.result old mid new stored (puts gate marked) (n + 2) 2 (n + 1) 1 c.in_ok-store_after.ensures.performs c.open_gate.ensures.performs));
        any_moment = λ shape batches batch ready.
            (let P : Image → Type 0 = λ left. Holds shape batches left ⊎ Holds shape (batches ++ batch ∷ []) left in
            let safe = touched (λ honest. (ready honest).synced) in
            let stored = λ (honest : mid.is_honest). c.in_ok-store_after.ensures.stored (was.0 honest) (ready (was.0 honest)).synced.steady in
            leaves_then old mid new P
            (leaves_weaker old mid (ChangesWithin changed old.image) P (λ honest left within. inl (body_leaves shape batches batch gate body old (ready honest) left within)) safe.moments)
            (leaves_weaker mid new (ChangesWithin (IsInRange gate (gate + 1)) mid.image) P
            (λ honest left within. holds_either shape batches batch mid.image left gate
            (body_prepares shape batches batch gate body old (ready (was.0 honest)) mid.image (safe.within (was.0 honest)) (stored honest).same)
            (at_gate gate mid.image left within)) (opened (λ honest. (stored honest).synced)).moments));
        touched = λ synced.
            (let all = IsInRange gate (gate + n + 2) in
            touches_then all old mid new (touches_weaker changed all old mid (λ i is. (omega (arith, is.0), is.1)) (touched synced))
            (touches_weaker (IsInRange gate (gate + 1)) all mid new (λ i is. (is.0, omega (arith, is.1)))
            (opened (λ honest. (c.in_ok-store_after.ensures.stored (was.0 honest) (synced (was.0 honest)).steady).synced))));
        written = on_ok_weaker c.open_gate.result (λ opened_at shape batches batch honest ready.
            let safe = (touched (λ _. ready.synced)).within honest in
            let stored = c.in_ok-store_after.ensures.stored honest ready.synced.steady in
            let prepared = body_prepares shape batches batch gate body old ready mid.image safe stored.same in
            let within = at_gate gate mid.image new.image ((opened (λ _. stored.synced)).within (was.1 honest)) in
            let after = opened_at (was.1 honest) stored.synced.steady in
            record {
              synced = after.synced;
              holds = gate_opens shape batches batch gate mid.image new.image prepared within (inside (was.1 honest)) after.same;
              from = gate_start shape batches batch gate mid.image new.image prepared within ∙ body_start shape batches batch gate body old ready mid.image safe;
            }) c.open_gate.ensures.opened;
        fails = err_weaker c.open_gate.result _ _ (λ misses shape batches batch honest inert ready.
            let stored = c.in_ok-store_after.ensures.stored honest ready.synced.steady in
            let prepared = body_prepares shape batches batch gate body old ready mid.image ((touched (λ _. ready.synced)).within honest) stored.same in
            let honest_mid = was.1 honest in
            let missed = misses honest_mid (c.store_after.ensures.performs.runs.inert.1 inert) in
            let safe = opened (λ _. stored.synced) in
            let made = c.in_ok-store_after.ensures.performs.made.calls in
            record {
              early = λ few. absurd (⊎_elim (λ failed. omega (arith, few, failed.0, made)) (λ written. omega (arith, few, written.0, made)) missed.made);
              late = λ _. fails_at_gate shape batches batch gate (n + 2) old mid new prepared made (synced_image mid stored.synced (g.met.D.Disk.may_lose c.store_after.new.disk honest_mid)) missed
                  (at_gate gate mid.image new.image (safe.within honest_mid))
                  (λ i is. (let there = safe.loose (c.open_gate.ensures.performs.runs.honest.1 honest_mid) i is in omega (arith, there.0, there.1))) (inside honest_mid);
            }) c.open_gate.ensures.misses;
      };
    }
