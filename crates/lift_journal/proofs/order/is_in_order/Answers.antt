use Rattle.std.proofs.Common.{◌≡◌, ◌+◌, ◌-◌, ◌<◌, ◌≤◌, ℕ, zero, suc, List, [], ◌∷◌, length, take, get_or, sym, subst, ap, ◌∙◌, Option, Some, None, arith}
use Rattle.lift_base.specs.declared.history.Record.{Record}
use Rattle.lift_journal.specs.Order.{MayFollow, IsInOrderAfter, last_record_after}
use Rattle.lift_journal.specs.lemmas.Orders.{order_at, order_more, last_more}
use Rattle.lift_journal.proofs.order.is_in_order.Goals as goal

-- one record alone
order_one : (records : List Record) → IsInOrderAfter None (take 1 records)
order_one [] = tt
order_one (first ∷ records) = (tt, tt)

-- the record before a place is the last of those before it
before_is : (records : List Record) (k : ℕ) (blank : Record) → 1 ≤ k → k < length records
    → last_record_after None (take k records) ≡ Some (get_or records (k - 1) blank)
before_is records zero blank low below = absurd (omega arith)
before_is records (suc k) blank low below =
    let back : k ≡ suc k - 1 = omega arith in
    last_more None records k blank (omega arith) ∙ ap (λ n. Some (get_or records n blank)) back

pub loop-k-init : goal.loop-k-init
loop-k-init c = record { behind = omega arith; ordered = order_one c.args.records.now }

pub loop-k-preserved : goal.loop-k-preserved
loop-k-preserved c =
    let records = c.args.records.now in
    let k = c.loop-k.k in
    let inv = c.loop-k.invariant in
    let last = c.index-records-k.result in
    let next = c.index-records-k-in-loop-k.result in
    let more : suc k ≡ k + 1 = omega arith in
    let here : MayFollow (Some last) next = c.may_come_next.ensures.0 c.if-not-may_come_next.false in
    let there : MayFollow (last_record_after None (take k records)) (get_or records k next) =
    subst (λ (l : Option Record). MayFollow l (get_or records k next)) (ap (λ (r : Record). Some r) c.index-records-k.is ∙ sym (before_is records k last inv.behind c.loop-k-test.true))
    (subst (λ (r : Record). MayFollow (Some last) r) c.index-records-k-in-loop-k.is here) in
    record {
      behind = omega (arith, inv.behind);
      ordered = subst (λ n. IsInOrderAfter None (take n records)) more
          (order_more None records k next c.loop-k-test.true inv.ordered there);
    }

pub returns-then-not-may_come_next : goal.returns-then-not-may_come_next
returns-then-not-may_come_next c =
    let records = c.args.records.now in
    let k = c.loop-k.k in
    let inv = c.loop-k.invariant in
    let last = c.index-records-k.result in
    let next = c.index-records-k-in-loop-k.result in (
      λ is. absurd (cc is),
      λ order.
          let there : MayFollow (last_record_after None (take k records)) (get_or records k next) = order_at None records k next c.loop-k-test.true order in
          let here : MayFollow (Some last) next =
          subst (λ (r : Record). MayFollow (Some last) r) (sym c.index-records-k-in-loop-k.is)
          (subst (λ (l : Option Record). MayFollow l (get_or records k next)) (before_is records k last inv.behind c.loop-k-test.true ∙ sym (ap (λ (r : Record). Some r) c.index-records-k.is)) there) in
          sym c.if-not-may_come_next.true ∙ c.may_come_next.ensures.1 here,
    )
