use Rattle.std.proofs.Common.{◌≡◌, ℕ, ◌-◌, ◌≤◌, List, length, take, drop, get_or, ap, ◌∙◌, arith, subst}
use Rattle.std.proofs.lemmas.List.{take_all, length-drop}
use Rattle.std.specs.List.{flat_map}
use Rattle.lift_base.specs.declared.history.Row.{Row}
use Rattle.lift_base.specs.History.{row_after}
use Rattle.lift_base.proofs.Opening.{mapped_from, passes, passes_first, becomes_lent, goes_short}
use Rattle.lift_base.proofs.history.serve_rows.Goals as goal
use Rattle.lift_base.proofs.history.serve_rows.Goals.{in-Some, in-None}

pub loop-index-init : goal.loop-index-init
loop-index-init g c =
    let rows : List Row = c.args.rows.now.items in
    let lent = c.deref.ensures.0 in
    let limit : c.count_unchanged-index.result ≤ length rows = subst (λ (l : List Row). c.count_unchanged-index.result ≤ length l) lent c.count_unchanged-index.ensures.limit in
    record {
      still_open = passes_first (row_after c.args.stop.now) rows c.count_unchanged-index.result
          (subst (λ (l : List Row). flat_map (row_after c.args.stop.now) (take c.count_unchanged-index.result l) ≡ take c.count_unchanged-index.result l) lent c.count_unchanged-index.ensures.rows);
      fewer = omega arith;
      within = limit;
    }

-- what is after a place of a list, as a slice has it
rest_of : (rows lent : List Row) (i : ℕ) → lent ≡ rows → take (length lent - i) (drop i lent) ≡ drop i rows
rest_of rows lent i is = rw is (take_all (length rows - i) (drop i rows) (omega (arith, length-drop i rows)))

pub loop-index-preserved : goal.loop-index-preserved
loop-index-preserved g c =
    let after : Row → List Row = row_after c.args.stop.now in
    let xs : List Row = c.loop-index.rows.items in
    let i = c.loop-index.index in
    let k = c.count_unchanged-index-in-loop-index.result in
    let ys : List Row = c.match-after.rows.items in
    let j = c.match-after.index in
    let blank = c.index-deref-index.result in
    let at : blank ≡ get_or xs i blank = c.index-deref-index.is ∙ ap (λ (l : List Row). get_or l i blank) c.deref-in-loop-index.ensures.0 in
    let step : (mapped_from after xs i ≡ mapped_from after ys j) × (j ≤ length ys) × (length ys ≤ length xs) = elim c.match-after.branch [
      | in-Some w ↦ rw (w.rows-is, w.index-is) (becomes_lent after xs w.deref_mut.result.now i w.in-Some.row blank w.deref_mut.ensures.value (omega arith) (w.in-Some.ensures ∙ ap after at))
      | in-None w ↦ rw (w.rows-is, w.index-is, w.remove-gone.ensures.items) (goes_short after xs i blank (omega arith) (w.in-None.ensures ∙ ap after at))
    ] in
    let lent = rest_of ys c.deref-in-loop-index-2.result.now j c.deref-in-loop-index-2.ensures.0 in
    record {
      still_open = c.loop-index.invariant.still_open ∙ step.0
          ∙ passes after ys j k (subst (λ (l : List Row). flat_map after (take k l) ≡ take k l) lent c.count_unchanged-index-in-loop-index.ensures.rows);
      fewer = omega (arith, step.2, c.loop-index.invariant.fewer);
      within = (let limit = subst (λ (l : List Row). k ≤ length l) lent c.count_unchanged-index-in-loop-index.ensures.limit in omega (arith, limit, length-drop j ys, step.1));
    }
