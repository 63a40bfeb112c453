use Rattle.std.proofs.Common.{◌≡◌, length, map, sym, ap, ◌∙◌, arith}
use Rattle.std.proofs.lemmas.List.{length-map}
use Rattle.lift_desk.specs.Seats.{ClerkPlace}
use Rattle.lift_desk.specs.lemmas.Places.{seated_refill, stays_refill, table_at}
use Rattle.lift_desk.proofs.desk.Desk.answer.Goals as goal

pub invariant_of-clerk : goal.invariant_of-clerk
invariant_of-clerk g c = seated_refill _ _ _ _ c.deref_mut.ensures.value (ap (λ p. p.seated) c.answer.ensures.answered) c.clerk.invariant

pub answer-requires-clause-table : goal.answer-requires-clause-table
answer-requires-clause-table g c =
    let at : c.from-at.result ≡ c.args.terminal = c.from-at.ensures ∙ c.get.ensures.value in
    let there : length c.args.self.now ≡ length c.self.inside.tables.items = ap length (sym c.self.view_is) ∙ length-map c.self.inside.tables.items (λ t. t.shared.table_id) in
    let here = c.requires.terminal in
    table_at (λ t. t.shared.table_id) c.clerk.inside.places.items _ c.self.inside.tables.items c.from-at.result _ _
    c.deref_mut.ensures.value
    (ap (map (λ (p : ClerkPlace). p.table)) c.clerk.view_is ∙ c.requires.clerk ∙ sym c.self.view_is)
    (omega arith)
    c.index-table.ensures
    c.self.invariant.words

pub returns-clause-stays : goal.returns-clause-stays
returns-clause-stays g c =
    stays_refill _ _ _ _ _ _ c.deref_mut.ensures.value c.index-deref_mut-at.is (ap (λ (p : ClerkPlace). p.table) c.answer.ensures.answered ∙ ap (λ (p : ClerkPlace). p.table) (sym c.index-deref_mut-at.is)) (ap (map (λ (p : ClerkPlace). p.table)) c.clerk.view_is ∙ c.requires.clerk)
