-- What a call would cost the cars that may take it.
use Rattle.std.proofs.Common.{◌≡◌, ℕ, ◌<◌, ◌≤◌, ◌++◌, Bool, true, false, cond, List, [], ◌∷◌, length, get_or, take, filter, All, refl, sym, ap, ◌∙◌, subst, arith}
use Rattle.std.proofs.lemmas.List.Elements.{All-nil, All-cons}
use Rattle.std.proofs.lemmas.List.{take_all}
use Rattle.std.specs.List.{flat_map}
use Rattle.lift_building.specs.Plan.{Plan}
use Rattle.lift_cost.specs.declared.call.NewCall.{NewCall}
use Rattle.lift_policy.specs.View.{ViewState}
use Rattle.lift_policy.specs.Eligible.{is_eligible, eligible_cars}
use Rattle.lift_replay.specs.Report.{cost_text}
use Rattle.lift_replay.specs.Query.{all_text}

one_more : (p : ℕ → Bool) (x : ℕ) (passed : List ℕ) (b : Bool) → p x ≡ b → All (λ y. p y ≡ true) passed → All (λ y. p y ≡ true) (cond b (x ∷ passed) passed)
one_more p x passed true e all = All-cons (λ y. p y ≡ true) x passed e all
one_more p x passed false e all = all

all_pass : (p : ℕ → Bool) (xs : List ℕ) → All (λ x. p x ≡ true) (filter p xs)
all_pass p [] = All-nil (λ x. p x ≡ true)
all_pass p (x ∷ xs) = one_more p x (filter p xs) (p x) refl (all_pass p xs)

all_eligible : (plan : Plan) (view : ViewState) (call : NewCall) → All (λ car. is_eligible plan view call car ≡ true) (eligible_cars plan view call)
unfolding eligible_cars
all_eligible plan view call = all_pass (is_eligible plan view call) _

pub eligible_at : (plan : Plan) (view : ViewState) (call : NewCall) (found : List ℕ) (k car : ℕ) → found ≡ eligible_cars plan view call → k < length found
    → car ≡ get_or found k car → is_eligible plan view call car ≡ true
eligible_at plan view call found k car are inside is =
    ap (is_eligible plan view call) is ∙ subst (All (λ other. is_eligible plan view call other ≡ true)) (sym are) (all_eligible plan view call) k car inside

-- the costs of all of them
pub prices_all : (cost : ℕ → ℕ) (before : List ℕ) (cars : List ℕ) (n : ℕ) → length cars ≤ n → 0 < length cars
    → before ++ flat_map (λ car. cost_text car (cost car)) (take n cars) ≡ before ++ all_text (λ car. cost_text car (cost car)) cars
prices_all cost before [] n past some = absurd (omega arith)
prices_all cost before (car ∷ cars) n past some = ap (λ list. before ++ flat_map (λ other. cost_text other (cost other)) list) (take_all n (car ∷ cars) past)
