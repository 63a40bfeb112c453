-- The eligible cars as a list that grows letter by letter.
use Rattle.std.proofs.Common.{◌≡◌, ℕ, zero, suc, ◌+◌, ◌-◌, ◌<◌, ◌≤◌, ◌&&◌, nat_le, Bool, true, false, cond, List, [], ◌∷◌, ◌++◌, length, filter, get_or, take, append-nil, refl, sym, ap, ◌∙◌, arith}
use Rattle.std.specs.List.{range_with_len}
use Rattle.std.specs.Prelude.{Option}
use Rattle.std.specs.Option.{option_to_list, is_some}
use Rattle.std.proofs.lemmas.List.Elements.{filter-append}
use Rattle.std.proofs.lemmas.List.{get_or_past, length-take-le}
use Rattle.lift_building.specs.Plan.{Plan, serves_floor, places_of}
use Rattle.lift_register.specs.Register.{cars, rows_of}
use Rattle.lift_register.specs.Prelude.{persons_of}
use Rattle.lift_base.specs.declared.limits.TheConstants.{MOST_CARS}
use Rattle.lift_cost.specs.declared.call.NewCall.{NewCall}
use Rattle.lift_policy.specs.View.{ViewState, position_of}
use Rattle.lift_policy.specs.Eligible.{is_eligible, eligible_cars, Rise, AreLetters}

range_suc : (a n : ℕ) → range_with_len a (suc n) ≡ range_with_len a n ++ (a + n) ∷ []
range_suc a zero = let e : a ≡ a + 0 = omega arith in ap (λ (x : ℕ). x ∷ []) e
range_suc a (suc n) =
    let e : a + 1 + n ≡ a + suc n = omega arith in
    ap (λ (xs : List ℕ). a ∷ xs) (range_suc (a + 1) n ∙ ap (λ (x : ℕ). range_with_len (a + 1) n ++ x ∷ []) e)

-- those that pass among one number more
pub filter-range_more : (p : ℕ → Bool) (n : ℕ) → filter p (range_with_len 0 (n + 1)) ≡ filter p (range_with_len 0 n) ++ cond (p n) (n ∷ []) []
filter-range_more p n =
    let e : n + 1 ≡ suc n = omega arith in
    let z : 0 + n ≡ n = omega arith in
    ap (λ (m : ℕ). filter p (range_with_len 0 m)) e ∙ ap (filter p) (range_suc 0 n) ∙ filter-append p (range_with_len 0 n) ((0 + n) ∷ [])
    ∙ ap (λ (m : ℕ). filter p (range_with_len 0 n) ++ cond (p m) (m ∷ []) []) z

length-filter_le : (p : ℕ → Bool) (a n : ℕ) → length (filter p (range_with_len a n)) ≤ n
length-filter_le p a zero = omega arith
length-filter_le p a (suc n) = at (p a) (length-filter_le p (a + 1) n)
  where
    at : (b : Bool) → length (filter p (range_with_len (a + 1) n)) ≤ n → length (cond b (a ∷ filter p (range_with_len (a + 1) n)) (filter p (range_with_len (a + 1) n))) ≤ suc n
    at true h = omega (arith, h)
    at false h = omega (arith, h)

pub few_so_far : (p : ℕ → Bool) (letters : List ℕ) (n : ℕ) → letters ≡ filter p (range_with_len 0 n) → n < MOST_CARS → length letters < MOST_CARS
few_so_far p letters n e h = let a = length-filter_le p 0 n in let b = ap (λ (xs : List ℕ). length xs) e in omega arith

-- one more number, which passes or not
pub letters_more : (p : ℕ → Bool) (letters more : List ℕ) (n : ℕ) (found : Option ℕ) → letters ≡ filter p (range_with_len 0 n)
    → option_to_list found ≡ cond (p n) (n ∷ []) [] → more ≡ letters ++ option_to_list found → more ≡ filter p (range_with_len 0 (n + 1))
letters_more p letters more n found so_far is new =
    new ∙ ap (λ (xs : List ℕ). xs ++ option_to_list found) so_far ∙ ap (λ (xs : List ℕ). filter p (range_with_len 0 n) ++ xs) is ∙ sym (filter-range_more p n)

Rise-weaker : (low : ℕ) (xs : List ℕ) → Rise (low + 1) xs → Rise low xs
Rise-weaker low [] h = tt
Rise-weaker low (x ∷ xs) h = (omega arith, h.1)

Rise-filter : (p : ℕ → Bool) (a n : ℕ) → Rise a (filter p (range_with_len a n))
Rise-filter p a zero = tt
Rise-filter p a (suc n) = at (p a) (Rise-filter p (a + 1) n)
  where
    at : (b : Bool) → Rise (a + 1) (filter p (range_with_len (a + 1) n)) → Rise a (cond b (a ∷ filter p (range_with_len (a + 1) n)) (filter p (range_with_len (a + 1) n)))
    at true h = (omega arith, h)
    at false h = Rise-weaker a _ h

pub eligible_cars-is : (plan : Plan) (view : ViewState) (call : NewCall) → eligible_cars plan view call ≡ filter (is_eligible plan view call) (range_with_len 0 MOST_CARS)
unfolding eligible_cars cars
eligible_cars-is plan view call = refl

pub eligible_cars-rise : (plan : Plan) (view : ViewState) (call : NewCall) → Rise 0 (eligible_cars plan view call)
unfolding eligible_cars cars
eligible_cars-rise plan view call = Rise-filter (is_eligible plan view call) 0 MOST_CARS

some_of : (letters : List ℕ) → (letters ≡ [] → ⊥) → 0 < length letters
some_of [] h = absurd (h refl)
some_of (x ∷ letters) h = omega arith

pub letters_of : (plan : Plan) (view : ViewState) (call : NewCall) (letters : List ℕ) → letters ≡ eligible_cars plan view call → (letters ≡ [] → ⊥) → AreLetters letters
letters_of plan view call letters e h = record { some = some_of letters h; rising = rw e (eligible_cars-rise plan view call) }

-- ---- the building has no car after its last one

-- no number from this one on passes
abbrev pub NoneFrom : (ℕ → Bool) → ℕ → Type 0
NoneFrom p low = (number : ℕ) → low ≤ number → p number ≡ false

lacking : (placed rest : Bool) → (placed && (false && rest)) ≡ false
lacking true rest = refl
lacking false rest = refl

pub none_after : (plan : Plan) (view : ViewState) (call : NewCall) → NoneFrom (is_eligible plan view call) (length plan.cars)
none_after plan view call car behind =
    let none : serves_floor plan car call.from ≡ false = ap (λ c. get_or c.served call.from false) (get_or_past plan.cars car (record { places = 0; served = [] }) behind) in
    rw none (lacking (is_some (position_of view.positions car)) (serves_floor plan car call.to && nat_le (persons_of (rows_of view.register car) + call.party) (places_of plan car)))

none_above : (p : ℕ → Bool) (n more : ℕ) → NoneFrom p n → filter p (range_with_len 0 n) ≡ filter p (range_with_len 0 (n + more))
none_above p n zero none = let e : n ≡ n + 0 = omega arith in ap (λ (m : ℕ). filter p (range_with_len 0 m)) e
none_above p n (suc more) none =
    let out : p (n + more) ≡ false = none (n + more) (omega arith) in
    let e : n + more + 1 ≡ n + suc more = omega arith in
    none_above p n more none
    ∙ sym (append-nil (filter p (range_with_len 0 (n + more))))
    ∙ ap (λ (b : Bool). filter p (range_with_len 0 (n + more)) ++ cond b ((n + more) ∷ []) []) (sym out)
    ∙ sym (filter-range_more p (n + more))
    ∙ ap (λ (m : ℕ). filter p (range_with_len 0 m)) e

-- those among the building's cars that may take a call are all that may
pub eligible_so_far : (plan : Plan) (view : ViewState) (call : NewCall) (letters : List ℕ) (n : ℕ) → n ≡ length plan.cars → n ≤ MOST_CARS
    → letters ≡ filter (is_eligible plan view call) (range_with_len 0 n) → letters ≡ eligible_cars plan view call
eligible_so_far plan view call letters n all few so_far =
    let p = is_eligible plan view call in
    let e : n + (MOST_CARS - n) ≡ MOST_CARS = omega arith in
    so_far
    ∙ none_above p n (MOST_CARS - n) (λ number h. none_after plan view call number (omega arith))
    ∙ ap (λ (m : ℕ). filter p (range_with_len 0 m)) e
    ∙ sym (eligible_cars-is plan view call)

-- ---- some of them

kept_le : (p : ℕ → Bool) (letters : List ℕ) → length (filter p letters) ≤ length letters
kept_le p [] = omega arith
kept_le p (x ∷ letters) = at (p x) (kept_le p letters)
  where
    at : (b : Bool) → length (filter p letters) ≤ length letters → length (cond b (x ∷ filter p letters) (filter p letters)) ≤ suc (length letters)
    at true h = omega (arith, h)
    at false h = omega (arith, h)

-- those kept of the first few are fewer than all
pub few_kept : (p : ℕ → Bool) (letters found : List ℕ) (i : ℕ) → found ≡ filter p (take i letters) → i < length letters → length letters ≤ MOST_CARS → length found < MOST_CARS
few_kept p letters found i is inside few =
    let a = kept_le p (take i letters) in
    let b = ap (λ (xs : List ℕ). length xs) is in
    let c : length (take i letters) ≡ i = length-take-le i letters (omega arith) in
    omega arith
