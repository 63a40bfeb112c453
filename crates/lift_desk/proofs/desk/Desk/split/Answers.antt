use Rattle.std.proofs.Common.{◌≡◌, List, [], ◌∷◌, ◌++◌, length, sym, ap, ◌∙◌, subst, arith}
use Rattle.std.proofs.lemmas.List.{length_push}
use Rattle.lift_desk.specs.Seats.{AllSeated, ClerkPlace, ahead_from}
use Rattle.lift_desk.specs.lemmas.Places.{ahead_seated, ahead_at}
use Rattle.lift_desk.proofs.Parted.{next_table, one_more, one_more_ahead, none_left}
use Rattle.lift_desk.proofs.desk.Desk.split.Goals as goal

pub split-first-requires-clause-table : goal.split-first-requires-clause-table
split-first-requires-clause-table c =
    next_table (λ t. t.shared.table_id) c.self.inside.tables.items _ _ _ _ _ c.len.result _ c.loop-place.invariant.behind c.in-Some.ensures.steps c.len.ensures.value (c.requires ∙ sym c.self.view_is) c.index-table.ensures c.self.invariant.words

pub loop-place-preserved : goal.loop-place-preserved
loop-place-preserved c =
    let i = c.loop-place.invariant in
    let steps = c.in-Some.ensures.steps in
    let rest : List ClerkPlace = c.next.new.self in
    let first = c.push.ensures in
    let second = c.push-in-loop-place.ensures in
    let split = c.split-first.ensures in
    let one : length c.push.new.self.items ≡ length (c.loop-place.ahead.items ++ c.split-first.result.0 ∷ []) = ap length first.items in
    let other : length c.push-in-loop-place.new.self.items ≡ length (c.loop-place.behind.items ++ c.split-first.result.1 ∷ []) = ap length second.items in
    record {
      can_next = tt;
      is_finite = tt;
      behind = ap (λ (l : List ClerkPlace). l ++ rest) (second.items ∙ ap (λ (p : ClerkPlace). c.loop-place.behind.items ++ p ∷ []) split.same) ∙ one_more c.loop-place.behind.items _ rest _ _ i.behind steps;
      ahead = ap (λ (l : List ClerkPlace). l ++ ahead_from rest) first.items ∙ one_more_ahead c.loop-place.ahead.items _ rest _ _ _ i.ahead steps split.ahead;
      same = omega (arith, one, other, i.same, length_push c.loop-place.ahead.items c.split-first.result.0, length_push c.loop-place.behind.items c.split-first.result.1);
    }

pub invariant_of-result : goal.invariant_of-result
invariant_of-result c =
    subst AllSeated (sym (none_left _ _ _ c.loop-place.invariant.ahead (ap ahead_from c.in-None.ensures.steps.0))) (ahead_seated c.args.clerk)

pub returns-clause-stays : goal.returns-clause-stays
returns-clause-stays c =
    ahead_at c.args.self.now c.args.clerk c.loop-place.ahead.items (none_left _ _ _ c.loop-place.invariant.ahead (ap ahead_from c.in-None.ensures.steps.0)) c.requires
