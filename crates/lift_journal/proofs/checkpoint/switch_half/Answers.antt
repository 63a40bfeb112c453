use Rattle.std.proofs.Common.{◌≡◌, ◌⊎◌, inl, inr, ⊎_elim, slice_set, ◌∙◌, ap, subst, arith}
use Rattle.std.proofs.lemmas.Result.{on_ok_weaker}
use Rattle.lift_disk.specs.Disk.{Image, ChangesWithin}
use Rattle.lift_disk.specs.lemmas.Moments.{leaves_weaker, leaves_then, leaves_if_honest, changes_more, changes_twice}
use Rattle.lift_journal.specs.Steps.{IsInRange, unmarked}
use Rattle.lift_journal.specs.lemmas.Looking.{err_any, err_weaker}
use Rattle.lift_journal.proofs.FailedAppends.{synced_image}
use Rattle.lift_journal.specs.Calls.{puts}
use Rattle.lift_journal.proofs.Performing.{performs_then, err_performs}
use Rattle.lift_journal.proofs.checkpoint.switch_half.Goals as goal

pub returns-in_err-put_sector-clause-any_moment : goal.returns-in_err-put_sector-clause-any_moment
returns-in_err-put_sector-clause-any_moment g c low high le lt loose steady =
    let old = g.D.Disk.state c.args.disk.now in
    leaves_weaker old (g.D.Disk.state c.put_sector.new.disk) (ChangesWithin (IsInRange low high) old.image)
    (λ left. ChangesWithin (IsInRange low high) old.image left ⊎ ChangesWithin (λ i. i ≡ 0) (slice_set old.image c.args.gate unmarked) left)
    (λ _ left within. inl within) (c.put_sector.ensures.touched low high le lt loose).moments

pub returns-clause-any_moment : goal.returns-clause-any_moment
returns-clause-any_moment g c low high le lt loose steady =
    let old = g.D.Disk.state c.args.disk.now in
    let mid = g.D.Disk.state c.put_sector.new.disk in
    let new = g.D.Disk.state c.put_sector-2.new.disk in
    let P : Image → Type 0 = λ left. ChangesWithin (IsInRange low high) old.image left ⊎ ChangesWithin (λ i. i ≡ 0) (slice_set old.image c.args.gate unmarked) left in
    let one = leaves_weaker old mid (ChangesWithin (IsInRange low high) old.image) P (λ _ left within. inl within) (c.put_sector.ensures.touched low high le lt loose).moments in
    let two = leaves_if_honest mid new P c.put_sector-2.ensures.performs.runs.honest (λ honest_mid.
    let honest = c.put_sector.ensures.performs.runs.honest.0 honest_mid in
    let stored = c.in_ok-put_sector.ensures.stored honest (steady honest) in
    let picked = c.put_sector-2.ensures.touched 0 1 (omega arith) (omega arith) (λ _ i is. absurd (stored.synced.none_loose i is)) in
    leaves_weaker mid new (ChangesWithin (IsInRange 0 1) mid.image) P
    (λ _ left within. inr (subst (λ (l : Image). ChangesWithin (λ i. i ≡ 0) l left) stored.same
    (changes_more (IsInRange 0 1) (λ i. i ≡ 0) mid.image left (λ i is. omega (arith, is.1)) within))) picked.moments) in
    leaves_then old mid new P one two

pub returns-clause-picked : goal.returns-clause-picked
returns-clause-picked g c =
    on_ok_weaker c.put_sector-2.result (λ put honest steady.
    let stored = c.in_ok-put_sector.ensures.stored honest steady in
    let after = put (c.put_sector.ensures.performs.runs.honest.1 honest) stored.synced.steady in
    record {
      synced = after.synced;
      same = after.same ∙ ap (λ (l : Image). slice_set l 0 c.args.pick.now) stored.same;
    }) c.put_sector-2.ensures.stored

pub returns-in_err-put_sector-clause-fails : goal.returns-in_err-put_sector-clause-fails
returns-in_err-put_sector-clause-fails g c =
    err_any c.from_residual.result _ (λ low high le lt loose honest inert steady.
    let old = g.D.Disk.state c.args.disk.now in
    let new = g.D.Disk.state c.put_sector.new.disk in
    let changed = IsInRange low high in
    let touched = c.put_sector.ensures.touched low high le lt loose in
    record {
      early = λ _ honest_new left leaves.
          changes_twice changed old.image new.image left (touched.within honest) (changes_more new.is_loose changed new.image left (touched.loose honest_new) leaves);
      late = λ more. absurd (omega (arith, more, c.put_sector.ensures.performs.made.most_calls));
    })

pub returns-clause-fails : goal.returns-clause-fails
returns-clause-fails g c =
    err_weaker c.put_sector-2.result _ _ (λ misses low high le lt loose honest inert steady.
    let old = g.D.Disk.state c.args.disk.now in
    let mid = g.D.Disk.state c.put_sector.new.disk in
    let calls = c.in_ok-put_sector.ensures.performs.made.calls in
    let stored = c.in_ok-put_sector.ensures.stored honest steady in
    let honest_mid = c.put_sector.ensures.performs.runs.honest.1 honest in
    let honest_new = c.put_sector-2.ensures.performs.runs.honest.1 honest_mid in
    let missed = misses honest_mid (c.put_sector.ensures.performs.runs.inert.1 inert) in
    let picked = c.put_sector-2.ensures.touched 0 1 (omega arith) (omega arith) (λ _ i is. absurd (stored.synced.none_loose i is)) in
    record {
      early = λ few. absurd (⊎_elim (λ failed. omega (arith, few, failed.0, calls)) (λ written. omega (arith, few, written.0, calls)) missed.made);
      late = λ _. record {
        made = ⊎_elim (λ failed. inl (omega (arith, failed.0, calls), failed.1 ∙ stored.same))
            (λ written. inr (omega (arith, written.0, calls), written.1 ∙ ap (λ (l : Image). slice_set l 0 c.args.pick.now) stored.same)) missed.made;
        synced = missed.synced ∙ synced_image mid stored.synced (g.met.D.Disk.may_lose c.put_sector.new.disk honest_mid) ∙ stored.same;
        loose = missed.loose;
        others = λ i is. (let there = picked.loose honest_new i is in omega (arith, there.1));
      };
    }) c.put_sector-2.ensures.misses

pub returns-in_err-put_sector-clause-performs : goal.returns-in_err-put_sector-clause-performs
returns-in_err-put_sector-clause-performs g c =
    err_performs _ c.from_residual.result (g.D.Disk.state c.args.disk.now) (g.D.Disk.state c.put_sector.new.disk)
    (puts c.args.gate unmarked) (puts 0 c.args.pick.now) 2 4 1 2 c.from_residual.ensures.1 c.in_err-put_sector.ensures.performs (omega arith) (omega arith)

pub returns-clause-performs : goal.returns-clause-performs
returns-clause-performs g c =
    performs_then c.put_sector-2.result (g.D.Disk.state c.args.disk.now) (g.D.Disk.state c.put_sector.new.disk) (g.D.Disk.state c.put_sector-2.new.disk)
    (puts c.args.gate unmarked) (puts 0 c.args.pick.now) 2 2 1 1 c.in_ok-put_sector.ensures.performs c.put_sector-2.ensures.performs
