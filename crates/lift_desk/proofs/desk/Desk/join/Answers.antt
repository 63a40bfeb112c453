use Rattle.std.proofs.Common.{◌≡◌, List, [], ◌∷◌, ◌++◌, length, sym, ap, ◌∙◌, subst, arith}
use Rattle.std.proofs.lemmas.List.{length_push}
use Rattle.lift_desk.specs.Seats.{AllSeated, ClerkPlace, IsClerkOf, with_looks_of}
use Rattle.lift_desk.specs.lemmas.Places.{with_looks_at, with_looks_seated}
use Rattle.lift_desk.proofs.Parted.{next_table, next_seated, next_some, next_one, one_more, one_more_joined, none_left, same_table, some_left}
use Rattle.lift_desk.proofs.desk.Desk.join.Goals as goal

pub unwrap-seat-requires : goal.unwrap-seat-requires
unwrap-seat-requires c =
    let i = c.loop-place.invariant in
    next_some c.next-in-loop-place.result c.loop-place.seats c.next-in-loop-place.new.self c.next-in-loop-place.ensures.steps
    (λ none. some_left c.args.self.now i.places.0 _ _ c.args.clerk c.in-Some.place i.ahead.0 c.args.ahead i.places.1 c.in-Some.ensures.steps
    (subst (λ (l : List ClerkPlace). i.ahead.0 ++ l ≡ c.args.ahead) none i.ahead.1) (i.ahead.2 ∙ sym i.places.2) c.requires.clerk c.requires.ahead)

pub join-requires-clause-table : goal.join-requires-clause-table
join-requires-clause-table c =
    let i = c.loop-place.invariant in
    next_table (λ t. t.shared.table_id) c.self.inside.tables.items i.places.0 _ _ _ _ c.len.result _ i.places.1 c.in-Some.ensures.steps (c.len.ensures.value ∙ sym i.places.2) (c.requires.clerk ∙ sym c.self.view_is) c.index-table.ensures c.self.invariant.words

pub join-requires-clause-seated : goal.join-requires-clause-seated
join-requires-clause-seated c =
    let i = c.loop-place.invariant in
    let steps = c.in-Some.ensures.steps in
    let before : List ClerkPlace = i.places.0 in
    let joined : List ClerkPlace = i.ahead.0 in
    let one = next_one c.next-in-loop-place.result c.unwrap-seat.result c.loop-place.seats c.next-in-loop-place.new.self c.unwrap-seat.ensures c.next-in-loop-place.ensures.steps in (
      next_seated before _ _ c.args.clerk c.in-Some.place i.places.1 steps (subst AllSeated c.clerk.view_is c.clerk.invariant),
      next_seated joined _ _ c.args.ahead c.unwrap-seat.result i.ahead.1 one (subst AllSeated c.ahead.view_is c.ahead.invariant),
      same_table c.args.self.now before _ _ c.args.clerk c.in-Some.place joined _ _ c.args.ahead c.unwrap-seat.result i.places.1 steps i.ahead.1 one (i.ahead.2 ∙ sym i.places.2) c.requires.clerk c.requires.ahead,
    )

pub loop-place-preserved : goal.loop-place-preserved
loop-place-preserved c =
    let i = c.loop-place.invariant in
    let steps = c.in-Some.ensures.steps in
    let before : List ClerkPlace = i.places.0 in
    let joined : List ClerkPlace = i.ahead.0 in
    let rest : List ClerkPlace = c.next.new.self in
    let place = c.in-Some.place in
    let seat = c.unwrap-seat.result in
    let one = next_one c.next-in-loop-place.result seat c.loop-place.seats c.next-in-loop-place.new.self c.unwrap-seat.ensures c.next-in-loop-place.ensures.steps in
    let items = c.push.ensures.items in
    let many : length c.push.new.self.items ≡ length (c.loop-place.whole.items ++ c.join.result ∷ []) = ap length items in
    record {
      can_next = tt;
      is_finite = tt;
      places = (before ++ place ∷ [], one_more before _ rest c.args.clerk place i.places.1 steps, omega (arith, many, i.places.2, length_push before place, length_push c.loop-place.whole.items c.join.result));
      ahead = (joined ++ seat ∷ [], one_more joined _ _ c.args.ahead seat i.ahead.1 one, omega (arith, many, i.ahead.2, length_push joined seat, length_push c.loop-place.whole.items c.join.result));
      whole = ap (λ (l : List ClerkPlace). l ++ with_looks_of c.next-in-loop-place.new.self rest) items ∙ one_more_joined c.loop-place.whole.items _ _ _ rest _ seat place c.join.result i.whole one steps c.join.ensures;
    }

-- with none left all have been joined
whole_is : (whole seats left ahead clerk : List ClerkPlace) → whole ++ with_looks_of seats left ≡ with_looks_of ahead clerk → left ≡ [] → whole ≡ with_looks_of ahead clerk
whole_is whole seats left ahead clerk e none = none_left whole (with_looks_of seats left) (with_looks_of ahead clerk) e (ap (with_looks_of seats) none)

pub invariant_of-result : goal.invariant_of-result
invariant_of-result c =
    let whole = whole_is c.loop-place.whole.items c.loop-place.seats _ c.args.ahead c.args.clerk c.loop-place.invariant.whole c.in-None.ensures.steps.0 in
    subst AllSeated (sym whole) (with_looks_seated c.args.ahead c.args.clerk (subst AllSeated c.clerk.view_is c.clerk.invariant))

pub returns-clause-stays : goal.returns-clause-stays
returns-clause-stays c =
    let whole = whole_is c.loop-place.whole.items c.loop-place.seats _ c.args.ahead c.args.clerk c.loop-place.invariant.whole c.in-None.ensures.steps.0 in
    subst (λ (l : List ClerkPlace). IsClerkOf c.args.self.now l) (sym whole) (with_looks_at c.args.self.now c.args.ahead c.args.clerk c.requires.clerk)
