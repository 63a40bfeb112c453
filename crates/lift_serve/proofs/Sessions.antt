-- A session more, after those of a place.
use Rattle.std.proofs.Common.{◌≡◌, ℕ, List, [], ◌∷◌, ◌++◌, ◌∙◌, refl, arith}
use Rattle.std.proofs.lemmas.Grind.{common_steps}
use Rattle.lift_base.specs.Output.{Sink}
use Rattle.lift_desk.specs.Rule.{no_asks}
use Rattle.lift_desk.specs.Seats.{IsSeatOf, TerminalSeat}
use Rattle.lift_kiosk.specs.Desk.{DeskPortState, place_of, port_view}
use Rattle.lift_kiosk.specs.Lines.{Source}
use Rattle.lift_kiosk.specs.Port.{PortView}
use Rattle.lift_kiosk.specs.Session.{standing}
use Rattle.lift_kiosk.specs.declared.terms.End.{End}
use Rattle.lift_kiosk.specs.declared.terms.LastLetter.{LastLetter}
use Rattle.lift_serve.specs.Visits.{AreVisits, HeldState, IsServedSeat, IsVisit, SessionVisit, Visits, unrested, view_of}

one_more : (terminal : ℕ) (last : LastLetter) (port : PortView) (vs : List SessionVisit) (last' : LastLetter) (port' : PortView) → AreVisits terminal last port vs last' port'
    → (v : SessionVisit) → v.before.last ≡ last' → v.before.port ≡ port' → IsVisit terminal v.end v.before v.after
    → AreVisits terminal last port (vs ++ v ∷ []) v.after.last (unrested v.after.port)
one_more terminal last port [] last' port' are v begins at visit = (begins ∙ are.0, at ∙ are.1, visit, (refl, refl))
one_more terminal last port (w ∷ ws) last' port' are v begins at visit =
    (are.0, are.1, are.2, one_more terminal w.after.last (unrested w.after.port) ws last' port' are.3 v begins at visit)

-- A session over a new port, whose seat is kept, and the place after it.
pub visited : (held : HeldState) (last' : LastLetter) (seat' : TerminalSeat) (end : End) (source source' : Source) (sink sink' : Sink) (first mid : DeskPortState) (terminal : ℕ)
    → first ≡ record { desk = held.desk; seat = held.seat; rests = 0 } → place_of mid ≡ place_of first → seat' ≡ mid.seat → terminal ≡ held.seat.terminal
    → IsVisit terminal end (standing held.last (port_view first.seat.view first.rests) source sink) (standing last' (port_view mid.seat.view mid.rests) source' sink')
    → IsSeatOf mid.desk seat' → IsServedSeat held
    → Visits held end (record { desk = held.desk; seat = seat'; last = last'; found = held.found }) source source' sink sink'
    × IsServedSeat (record { desk = held.desk; seat = seat'; last = last'; found = held.found })
visited held last' seat' end source source' sink sink' first mid terminal new stays is same visit seated served =
    let now : SessionVisit = record { end = end; before = standing held.last (view_of held.seat) source sink; after = standing last' (port_view seat'.view mid.rests) source' sink' } in
    let own : seat'.terminal ≡ held.seat.terminal = grind (arith, common_steps) in
    let made : IsVisit held.seat.terminal end now.before now.after = grind (arith, common_steps) in
    let more = one_more held.seat.terminal held.found (port_view no_asks 0) served.visits held.last (view_of held.seat) served.are_visits now refl refl made in (
      record { rests = mid.rests; visit = made; desk = refl; table = grind (arith, common_steps); terminal = own; found = refl },
      record {
        seated = grind (arith, common_steps);
        visits = served.visits ++ now ∷ [];
        are_visits = grind (arith, common_steps);
      },
    )
