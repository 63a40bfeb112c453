use Rattle.std.proofs.Common.{◌≡◌, List, [], ◌∷◌, ◌++◌, map, length, sym, ap, ◌∙◌, subst, arith, IfSome}
use Rattle.std.proofs.lemmas.List.{length-map, length_push}
use mathlib.Core.List.{map-append}
use Rattle.atomic_table.specs.Seated.{TableId}
use Rattle.lift_desk.specs.Rule.{no_answers, no_asks}
use Rattle.lift_desk.specs.Seats.{AllSeated, seats_from, clerk_of, placed_at, IsClerkOf, AreSeatsOf, OwesNothing, TerminalSeat, ClerkPlace}
use Rattle.lift_desk.specs.lemmas.Places.{seats_from-push, seats_at, clerk_at, clerk_seated, nothing_owed, AllOfTwo, two_more}
use Rattle.lift_desk.proofs.desk.Desk.open.Goals as goal

pub loop-t-preserved : goal.loop-t-preserved
loop-t-preserved c =
    let i = c.loop-t.invariant in
    let made = c.in_ok-table.ensures in
    let desk : List TableId = map (λ t. t.shared.table_id) c.loop-t.tables.items in
    let z : TableId = c.in_ok-table.table.shared.table_id in
    let tables = c.push_reserved.ensures in
    let seats = c.push_reserved-in-loop-t.ensures in
    let places = c.push.ensures in
    let more : map (λ t. t.shared.table_id) c.push_reserved.new.self.items ≡ desk ++ z ∷ [] = ap (map (λ t. t.shared.table_id)) tables.items ∙ map-append (λ t. t.shared.table_id) c.loop-t.tables.items (c.in_ok-table.table ∷ []) in
    let desk_length : length desk ≡ c.loop-t.t = length-map c.loop-t.tables.items (λ t. t.shared.table_id) ∙ i.count in
    let two : AllOfTwo desk = λ k h. i.words k (omega arith) in
    let terminal : c.unwrap-terminal.result ≡ c.loop-t.t = subst (λ o. IfSome o (λ t. t ≡ c.loop-t.t)) c.unwrap-terminal.ensures c.new.ensures.value in record {
      count = ap length tables.items ∙ length_push c.loop-t.tables.items c.in_ok-table.table ∙ omega arith;
      seat_count = ap length seats.items ∙ length_push c.loop-t.seats.items c.new-in-loop-t.result ∙ omega arith;
      place_count = ap length places.items ∙ length_push c.loop-t.places.items c.new-in-loop-t-2.result ∙ omega arith;
      room = omega arith;
      seat_room = omega arith;
      words = λ k h. subst AllOfTwo (sym more) (two_more desk z two made.words) k (omega (arith, length-map c.push_reserved.new.self.items (λ t. t.shared.table_id)));
      seats = seats.items ∙ ap (λ l. l ++ c.new-in-loop-t.result ∷ []) i.seats
          ∙ ap (λ (s : TerminalSeat). seats_from 0 desk ++ s ∷ []) (c.new-in-loop-t.ensures ∙ λ k. record { table = ap (λ l. l.table) made.seats.0 k; terminal = terminal k; view = no_asks })
          ∙ sym (seats_from-push 0 desk z c.loop-t.t (omega arith)) ∙ ap (seats_from 0) (sym more);
      places = places.items ∙ ap (λ l. l ++ c.new-in-loop-t-2.result ∷ []) i.places
          ∙ ap (λ (p : ClerkPlace). clerk_of desk ++ p ∷ []) (c.new-in-loop-t-2.ensures ∙ λ k. placed_at (ap (λ l. l.table) made.seats.1 k) no_answers)
          ∙ sym (map-append (λ (table : TableId). placed_at table no_answers) desk (z ∷ [])) ∙ ap clerk_of (sym more);
    }

pub invariant_of-result-2 : goal.invariant_of-result-2
invariant_of-result-2 c = subst AllSeated (sym c.loop-t.invariant.places) (clerk_seated (map (λ t. t.shared.table_id) c.loop-t.tables.items))

pub returns-clause-seats_at : goal.returns-clause-seats_at
returns-clause-seats_at c =
    let desk : List TableId = map (λ t. t.shared.table_id) c.loop-t.tables.items in
    subst (AreSeatsOf desk) (sym c.loop-t.invariant.seats) (seats_at desk)

pub returns-clause-clerk_at : goal.returns-clause-clerk_at
returns-clause-clerk_at c =
    let desk : List TableId = map (λ t. t.shared.table_id) c.loop-t.tables.items in
    subst (IsClerkOf desk) (sym c.loop-t.invariant.places) (clerk_at desk)

pub returns-clause-owes : goal.returns-clause-owes
returns-clause-owes c =
    let desk : List TableId = map (λ t. t.shared.table_id) c.loop-t.tables.items in
    subst OwesNothing (sym c.loop-t.invariant.places) (nothing_owed desk)
