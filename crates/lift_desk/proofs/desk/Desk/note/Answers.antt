use Rattle.std.proofs.Common.{◌≡◌, length, map, sym, ap, ◌∙◌, arith}
use Rattle.std.proofs.lemmas.List.{length-map}
use Rattle.lift_desk.specs.Seats.{ClerkPlace}
use Rattle.lift_desk.specs.lemmas.Places.{table_at}
use Rattle.lift_desk.proofs.desk.Desk.note.Goals as goal

pub note-requires-clause-table : goal.note-requires-clause-table
note-requires-clause-table c =
    let at : c.from-at.result ≡ c.args.terminal = c.from-at.ensures ∙ c.get.ensures.value in
    let there : length c.args.self.now ≡ length c.self.inside.tables.items = ap length (sym c.self.view_is) ∙ length-map c.self.inside.tables.items (λ t. t.shared.table_id) in
    let here = c.requires.terminal in
    table_at (λ t. t.shared.table_id) c.ahead.inside.places.items _ c.self.inside.tables.items c.from-at.result _ _
    c.deref_mut.ensures.value
    (ap (map (λ (p : ClerkPlace). p.table)) c.ahead.view_is ∙ c.requires.ahead ∙ sym c.self.view_is)
    (omega arith)
    c.index-table.ensures
    c.self.invariant.words
