use Rattle.std.proofs.Common.{map, sym, ap, ◌∙◌}
use Rattle.lift_desk.specs.Seats.{ClerkPlace}
use Rattle.lift_desk.specs.lemmas.Places.{seated_refill, stays_refill}
use Rattle.lift_desk.proofs.desk.Desk.look_for.Goals as goal

pub invariant_of-clerk : goal.invariant_of-clerk
invariant_of-clerk g c = seated_refill _ _ _ _ c.deref_mut.ensures.value (ap (λ p. p.seated) c.look.ensures.looked.1) c.clerk.invariant

pub returns-clause-stays : goal.returns-clause-stays
returns-clause-stays g c =
    stays_refill _ _ _ _ _ _ c.deref_mut.ensures.value c.index-deref_mut-at.is (ap (λ (p : ClerkPlace). p.table) c.look.ensures.looked.1 ∙ ap (λ (p : ClerkPlace). p.table) (sym c.index-deref_mut-at.is)) (ap (map (λ (p : ClerkPlace). p.table)) c.clerk.view_is ∙ c.requires.clerk)
