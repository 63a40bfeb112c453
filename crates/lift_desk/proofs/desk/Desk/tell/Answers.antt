use Rattle.std.proofs.Common.{map, sym, ap, ◌∙◌}
use Rattle.lift_desk.specs.Seats.{ClerkPlace}
use Rattle.lift_desk.specs.lemmas.Places.{stays_refill}
use Rattle.lift_desk.proofs.desk.Desk.tell.Goals as goal

pub returns-clause-stays : goal.returns-clause-stays
returns-clause-stays g c =
    stays_refill _ _ _ _ _ _ c.deref_mut.ensures.value c.index-deref_mut-at.is (ap (λ (p : ClerkPlace). p.table) c.tell.ensures.place ∙ ap (λ (p : ClerkPlace). p.table) (sym c.index-deref_mut-at.is)) (ap (map (λ (p : ClerkPlace). p.table)) c.clerk.view_is ∙ c.requires.clerk)
