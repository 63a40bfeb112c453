-- Runs of errands.
use Rattle.std.proofs.Common.{◌≡◌, ℕ, ◌≤◌, true, List, [], ◌∷◌, ◌++◌, refl, ap, subst, ◌∙◌, arith}
use Rattle.std.specs.Prelude.{Option, Some, None}
use Rattle.lift_base.specs.declared.travel.Position.{Position}
use Rattle.lift_base.specs.declared.travel.Stop.{Stop as StopAt}
use Rattle.lift_base.specs.declared.command.Reply.{Reply}
use Rattle.lift_kiosk.specs.declared.outcome.Opening.{Opening}
use Rattle.lift_kiosk.specs.declared.outcome.Outcome.TheVariants.{Answered}
use Rattle.lift_kiosk.specs.Port.{PortView}
use Rattle.lift_kiosk.specs.Session.{PortOpened}
use Rattle.lift_kiosk.specs.lemmas.Ends.{IsLate, looks_grow, opening_grows, not_answered}
use Rattle.lift_car.specs.declared.terms.Ending.{Ending}
use Rattle.lift_car.specs.declared.terms.Ending.TheVariants.{Late, Spent}
use Rattle.lift_car.specs.Drive.{Standing, LastAsk, ask_at, Errand, GoesOn, DoesErrands, GoesToStop, RestsWithoutStop, TellsStop, stop_in, last_stop, later_stop}

-- a run goes on by an errand
pub run_more : {C : Type 0} (stands : C → Position) (goes : C → StopAt → C → Type 0) (halts : C → PortView → C → Type 0) (looks : ℕ) (replies : List Reply) (reply : Reply) (before mid after : Standing C)
    → DoesErrands stands goes halts looks replies before mid → GoesOn reply → Errand stands goes halts looks reply mid after → DoesErrands stands goes halts looks (replies ++ reply ∷ []) before after
run_more stands goes halts looks [] reply before mid after so_far goes_on done = (after, subst (λ s. Errand stands goes halts looks reply s after) so_far done, goes_on, refl)
run_more stands goes halts looks (first ∷ replies) reply before mid after so_far goes_on done =
    (so_far.0, so_far.1, so_far.2, run_more stands goes halts looks replies reply so_far.0 mid after so_far.3 goes_on done)

tells_moved : {C : Type 0} (stands : C → Position) (goes : C → StopAt → C → Type 0) (halts : C → PortView → C → Type 0) (before mid after : C) (port : PortView) (later earlier : Option StopAt)
    → GoesToStop stands goes halts before earlier port mid → TellsStop stands mid later after → TellsStop stands before (later_stop later earlier) after
tells_moved stands goes halts before mid after port (Some stop) earlier moved tells = tells
tells_moved stands goes halts before mid after port None None moved tells = tells ∙ moved
tells_moved stands goes halts before mid after port None (Some stop) moved tells = ap stands tells ∙ moved.3

-- after a run the car says that it is at the last stop heard
pub tells_last : {C : Type 0} (stands : C → Position) (goes : C → StopAt → C → Type 0) (halts : C → PortView → C → Type 0) (looks : ℕ) (replies : List Reply) (before after : Standing C)
    → DoesErrands stands goes halts looks replies before after → TellsStop stands before.car (last_stop replies) after.car
tells_last stands goes halts looks [] before after run = ap (λ s. s.car) run
tells_last stands goes halts looks (reply ∷ replies) before after run =
    tells_moved stands goes halts before.car run.0.car after.car run.1.answered (last_stop replies) (stop_in reply) run.1.moves (tells_last stands goes halts looks replies run.0 after run.3)

pub tells_along : {C : Type 0} (stands : C → Position) (before mid after : C) (stop : Option StopAt) → TellsStop stands before stop mid → after ≡ mid → TellsStop stands before stop after
tells_along stands before mid after None tells stays = stays ∙ tells
tells_along stands before mid after (Some stop) tells stays = ap stands stays ∙ tells

rests_look : (stop : Option StopAt) (before after : PortView) → RestsWithoutStop stop before after → after.looks ≡ before.looks
rests_look None before after rests = ap (λ (v : PortView). v.looks) rests
rests_look (Some stop) before after rests = ap (λ (v : PortView). v.looks) rests

run_grows : {C : Type 0} (stands : C → Position) (goes : C → StopAt → C → Type 0) (halts : C → PortView → C → Type 0) (looks : ℕ) (replies : List Reply) (before after : Standing C)
    → DoesErrands stands goes halts looks replies before after → before.port.looks ≤ after.port.looks
run_grows stands goes halts looks [] before after run = omega (arith, ap (λ s. s.port.looks) run)
run_grows stands goes halts looks (reply ∷ replies) before after run =
    omega (
      arith,
      looks_grow looks before.port (Answered (ask_at before.arrived before.last (stands before.car)) reply) run.1.answered run.1.port,
      rests_look (stop_in reply) run.1.answered run.0.port run.1.rests,
      run_grows stands goes halts looks replies run.0 after run.3,
    )

-- a drive that ends late by its last ask awaits an answer
pub late_drive : {C : Type 0} (stands : C → Position) (goes : C → StopAt → C → Type 0) (halts : C → PortView → C → Type 0) (looks : ℕ) (opening : Opening) (first : PortView) (replies : List Reply) (end : Ending) (begun stood after : Standing C)
    → PortOpened looks first opening begun.port → DoesErrands stands goes halts looks replies begun stood → LastAsk stands looks end stood after → end ≡ Late → IsLate looks first after.port
late_drive stands goes halts looks opening first replies end begun stood after opened run last late =
    let asked = not_answered looks stood.port (ask_at stood.arrived stood.last (stands stood.car)) after.port (subst (λ e. LastAsk stands looks e stood after) late last) in
    (asked.0, omega (arith, asked.1, opening_grows looks first opening begun.port opened, run_grows stands goes halts looks replies begun stood run))

-- one that ends spent has no turn left
pub spent_drive : {C : Type 0} (stands : C → Position) (looks : ℕ) (end : Ending) (stood after : Standing C) → LastAsk stands looks end stood after → end ≡ Spent → (after.port.spent ≡ true) × (after.port.pending ≡ None)
spent_drive stands looks end stood after last spent =
    let did = subst (λ e. LastAsk stands looks e stood after) spent last in
    (ap (λ (v : PortView). v.spent) did.2 ∙ did.0, ap (λ (v : PortView). v.pending) did.2 ∙ did.1)
