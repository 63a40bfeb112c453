-- The cars that are present, of those that may take a call.
use Rattle.std.proofs.Common.{◌≡◌, ℕ, ◌+◌, ◌<◌, ◌≤◌, Bool, true, false, cond, List, [], ◌∷◌}
use Rattle.std.proofs.Common.{filter, length, arith}
use Rattle.std.specs.Prelude.{All, Contains}
use Rattle.std.proofs.lemmas.List.Elements.{All-contains, All-contains_itself, All-filter}
use Rattle.lift_building.specs.Plan.{Plan}
use Rattle.lift_cost.specs.declared.call.NewCall.{NewCall}
use Rattle.lift_policy.specs.View.{ViewState}
use Rattle.lift_policy.specs.Eligible.{AreEligible, AreLetters, Choice, Rise, is_eligible}
use Rattle.lift_policy.specs.Present.{AbsentLastWhere, IsDispatched, NamesPresent, is_in, or_all}
use Rattle.lift_policy.specs.Present.{present_first}
use Rattle.lift_policy.specs.declared.dispatching.Dispatching.{Dispatching}
use Rattle.lift_policy.specs.declared.presence.CarSet.{CarSet}

-- what is so of all is so of those that come first
all_or_all : (P : ℕ → Type 0) (some all : List ℕ) → All P some → All P all → All P (or_all some all)
all_or_all P [] all of_some of_all = of_all
all_or_all P (car ∷ some) all of_some of_all = of_some

pub all_present_first : (P : ℕ → Type 0) (present : CarSet) (letters : List ℕ) → All P letters
    → All P (present_first present letters)
all_present_first P present letters all =
    all_or_all P (filter (is_in present) letters) letters (All-filter (is_in present) P letters all) all

-- each of them may take the call
pub present_eligible : (plan : Plan) (view : ViewState) (call : NewCall) (present : CarSet)
    (letters among : List ℕ) → among ≡ present_first present letters
    → AreEligible plan view call letters → AreEligible plan view call among
present_eligible plan view call present letters among is all =
    rw is (all_present_first (λ car. is_eligible plan view call car ≡ true) present letters all)

-- each of them is one of all
pub present_first_contains : (present : CarSet) (letters : List ℕ) (car : ℕ)
    → Contains (present_first present letters) car → Contains letters car
present_first_contains present letters car is =
    All-contains (Contains letters) (present_first present letters) car
    (all_present_first (Contains letters) present letters (All-contains_itself letters)) is

pub absent_last_member : (tells : CarSet → Type 0) (choice : Choice)
    → ((plan : Plan) (view : ViewState) (call : NewCall) (eligible : List ℕ) (car : ℕ)
    → choice plan view call eligible car → Contains eligible car)
    → (plan : Plan) (view : ViewState) (call : NewCall) (eligible : List ℕ) (car : ℕ)
    → NamesPresent tells choice plan view call eligible car → Contains eligible car
absent_last_member tells choice members plan view call eligible car h =
    present_first_contains h.0 eligible car
    (members plan view call (present_first h.0 eligible) car h.2)

pub dispatched_member : {P : Type 0} (tells : CarSet → Type 0) (chooses : P → Choice)
    → ((policy : P) (plan : Plan) (view : ViewState) (call : NewCall) (eligible : List ℕ) (car : ℕ)
    → chooses policy plan view call eligible car → Contains eligible car)
    → (dispatching : Dispatching P) (plan : Plan) (view : ViewState) (call : NewCall)
    (eligible : List ℕ) (car : ℕ)
    → IsDispatched tells chooses dispatching plan view call eligible car → Contains eligible car
dispatched_member {P} tells chooses members dispatching plan view call eligible car h =
    at dispatching.absent_last h
  where
    at : (absent_last : Bool)
        → AbsentLastWhere absent_last tells (chooses dispatching.policy) plan view call eligible car
        → Contains eligible car
    at false is = members dispatching.policy plan view call eligible car is
    at true is = absent_last_member tells (chooses dispatching.policy) (members dispatching.policy)
        plan view call eligible car is

-- ---- by rising letter

Rise-lower : (low high : ℕ) (xs : List ℕ) → low ≤ high → Rise high xs → Rise low xs
Rise-lower low high [] le h = tt
Rise-lower low high (x ∷ xs) le h = let a = h.0 in (omega arith, h.1)

Rise-kept : (p : ℕ → Bool) (low : ℕ) (xs : List ℕ) → Rise low xs → Rise low (filter p xs)
Rise-kept p low [] h = tt
Rise-kept p low (x ∷ xs) h = at (p x) (Rise-kept p (x + 1) xs h.1)
  where
    at : (b : Bool) → Rise (x + 1) (filter p xs) → Rise low (cond b (x ∷ filter p xs) (filter p xs))
    at true later = (h.0, later)
    at false later = let a = h.0 in Rise-lower low (x + 1) (filter p xs) (omega arith) later

-- those that are present, where there are some
pub are_letters : (p : ℕ → Bool) (letters found : List ℕ) → found ≡ filter p letters
    → 0 < length found → AreLetters letters → AreLetters found
are_letters p letters found is some lawful =
    record { some = some; rising = rw is (Rise-kept p 0 letters lawful.rising) }
