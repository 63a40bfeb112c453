-- What a verdict tells of its command: where a car stands is in the building, and what is new fits.
use Rattle.std.proofs.Common.{◌≡◌, ℕ, ◌<◌, List, None, sym, ap, subst, ◌∙◌}
use Rattle.std.specs.Prelude.{Contains}
use Rattle.std.proofs.lemmas.Bool.{leb-false}
use Rattle.std.proofs.lemmas.List.Elements.{filter_passes}
use Rattle.lift_base.specs.declared.travel.Position.{Position}
use Rattle.lift_base.specs.declared.travel.Stop.{Stop as StopAt}
use Rattle.lift_base.specs.declared.history.Entry.TheVariants.{Allot, Stop as Stopping}
use Rattle.lift_base.specs.declared.command.Body.{Body}
use Rattle.lift_base.specs.declared.command.Body.TheVariants.{Call, Stop, Place}
use Rattle.lift_building.specs.Plan.{Plan}
use Rattle.lift_register.specs.Prelude.{Fits, cars}
use Rattle.lift_cost.specs.declared.call.NewCall.{NewCall}
use Rattle.lift_policy.specs.View.{ViewState}
use Rattle.lift_policy.specs.Eligible.{is_eligible, eligible_cars, AreEligible}
use Rattle.lift_policy.specs.Step.{State, floor_of, first_cause, view_of}
use Rattle.lift_policy.specs.Verdict.{IsVerdict}
use Rattle.lift_policy.specs.declared.verdict.Verdict.TheVariants.{RepeatedStop, Call as NewCalls}
use Rattle.lift_policy.specs.declared.verdict.Verdict.TheVariants.{Stop as Stops, Place as Places}
use Rattle.lift_policy.specs.lemmas.Steps.{NoCause, no_cause}
use Rattle.lift_policy.specs.lemmas.Joins.{call_fits, stop_fits}

-- all cars that may take a call are such cars
pub all_eligible : (plan : Plan) (view : ViewState) (call : NewCall) → AreEligible plan view call (eligible_cars plan view call)
unfolding eligible_cars
all_eligible plan view call = filter_passes (is_eligible plan view call) cars

pub are_eligible : (plan : Plan) (view : ViewState) (call : NewCall) (letters : List ℕ) → letters ≡ eligible_cars plan view call → AreEligible plan view call letters
are_eligible plan view call letters is = rw is (all_eligible plan view call)

module _ (plan : Plan) (state : State) (terminal number : ℕ) (body : Body) where
  clear : (said : Body) → None ≡ first_cause plan state terminal number body → body ≡ said → NoCause plan state terminal number said
  clear said none is = no_cause plan state terminal number said (subst (λ (b : Body). first_cause plan state terminal number b ≡ None) is (sym none))

  -- the floor of a command without a cause is in the building
  inside : (said : Body) → None ≡ first_cause plan state terminal number body → body ≡ said → floor_of said < plan.floors
  inside said none is = leb-false plan.floors (floor_of said) (clear said none is).floor

  pub repeat_inside : (car : ℕ) (at : Position) → IsVerdict plan state terminal number body (RepeatedStop car at) → at.floor < plan.floors
  repeat_inside car at h = inside (Stop at.floor at.dir) h.cause h.case.0

  pub place_inside : (car : ℕ) (at : Position) → IsVerdict plan state terminal number body (Places car at) → at.floor < plan.floors
  place_inside car at h = inside (Place at.floor at.dir) h.cause h.case.0

  -- a new call fits with each of its cars, and a new stop fits
  pub new_call_fits : (call : NewCall) (eligible : List ℕ) (car : ℕ) → IsVerdict plan state terminal number body (NewCalls call eligible) → Contains eligible car
      → Fits plan state.register (Allot terminal number call.from call.to car call.party)
  new_call_fits call eligible car h member =
      subst (λ (k : NewCall). Fits plan state.register (Allot terminal number k.from call.to car call.party)) (sym h.case.2)
      (call_fits plan state terminal number call.to call.party car (clear (Call call.to call.party) h.cause h.case.0) h.case.1 (subst (λ (xs : List ℕ). Contains xs car) h.case.3 member))

  pub new_stop_fits : (car : ℕ) (stop : StopAt) → IsVerdict plan state terminal number body (Stops car stop) → Fits plan state.register (Stopping car number stop.floor stop.dir)
  new_stop_fits car stop h =
      subst (λ (t : ℕ). Fits plan state.register (Stopping t number stop.floor stop.dir)) (sym h.case.2)
      (stop_fits plan state terminal number stop.floor stop.dir (clear (Stop stop.floor stop.dir) h.cause h.case.0) h.case.1)

  -- and each of its cars may take it
  pub new_call_eligible : (call : NewCall) (eligible : List ℕ) → IsVerdict plan state terminal number body (NewCalls call eligible) → AreEligible plan (view_of state) call eligible
  new_call_eligible call eligible h = are_eligible plan (view_of state) call eligible (h.case.3 ∙ ap (eligible_cars plan (view_of state)) (sym h.case.2))
