-- An accepted entry fits.
use Rattle.std.proofs.Common.{◌≡◌, ℕ, zero, suc, ◌<◌, Bool, true, false, not, cond, eqb, List, []}
use Rattle.std.proofs.Common.{◌∷◌, length, get_or, filter, refl, sym, ap, ◌∙◌, inl, inr, arith}
use Rattle.std.specs.Prelude.{Contains, MatchBool}
use Rattle.std.proofs.lemmas.Bool.{both_ways, and_parts, ltb-true, leb-true, eqb-true, eqb-false}
use Rattle.std.proofs.lemmas.Bool.{eq-eqb, and_from, cases_lt}
use Rattle.std.proofs.lemmas.List.{get_or_past}
use Rattle.lift_base.specs.History.{terminal_of, number_of}
use Rattle.lift_base.specs.Travel.{same_dir}
use Rattle.lift_base.specs.declared.limits.TheConstants.{FIRST_KIOSK}
use Rattle.lift_base.specs.declared.travel.Dir.{Dir}
use Rattle.lift_base.specs.declared.travel.Dir.TheVariants.{Up, Down}
use Rattle.lift_base.specs.declared.history.Entry.{Entry}
use Rattle.lift_base.specs.declared.history.Entry.TheVariants.{Allot, Stop as Stopping}
use Rattle.lift_base.specs.declared.command.Body.{Body}
use Rattle.lift_base.specs.declared.command.Body.TheVariants.{Call, Stop, Place}
use Rattle.lift_base.specs.declared.command.Reply.{Reply}
use Rattle.lift_building.specs.Plan.{Plan, CarPlan, serves_floor}
use Rattle.lift_register.specs.Prelude.{cars, kept_of, Fits}
use Rattle.lift_policy.specs.Terminals.{has_car, has_kiosk, kiosk_floor}
use Rattle.lift_policy.specs.Eligible.{Choice, is_eligible, eligible_cars}
use Rattle.lift_policy.specs.Step.{State, Step, Proceeds, Allots, Repeats, view_of, call_at}
use Rattle.lift_policy.specs.Step.{cars_for, is_new, is_same, accepting, with_car_at}
use Rattle.lift_policy.specs.Laws.{JoinsAtMostOne}
use Rattle.lift_policy.specs.lemmas.Steps.{NoCause, no_cause, HasStepped, has_stepped, Proceeded}
use Rattle.lift_policy.specs.lemmas.Steps.{WasRefused}

passes_by : (p : ℕ → Bool) (y : ℕ) (rest : List ℕ) (x : ℕ)
    → ((k : ℕ) → k < length rest → get_or rest k x ≡ x → p x ≡ true)
    → (b : Bool) → p y ≡ b → (k : ℕ) → k < length (cond b (y ∷ rest) rest)
    → get_or (cond b (y ∷ rest) rest) k x ≡ x → p x ≡ true
passes_by p y rest x later true is zero inside at = ap p (sym at) ∙ is
passes_by p y rest x later true is (suc k) inside at = later k (omega arith) at
passes_by p y rest x later false is k inside at = later k inside at

-- each element that a filter keeps passes
passes : (p : ℕ → Bool) (xs : List ℕ) (k x : ℕ) → k < length (filter p xs)
    → get_or (filter p xs) k x ≡ x → p x ≡ true
passes p [] k x inside at = absurd (omega arith)
passes p (y ∷ ys) k x inside at =
    passes_by p y (filter p ys) x (λ j. passes p ys j x) (p y) refl k inside at

-- each eligible car passes the test
pub eligible_passes : (plan : Plan) (state : State) (terminal to party car : ℕ)
    → Contains (cars_for plan state terminal to party) car
    → is_eligible plan (view_of state) (call_at plan terminal to party) car ≡ true
unfolding eligible_cars
eligible_passes plan state terminal to party car (k, inside, at) =
    passes (is_eligible plan (view_of state) (call_at plan terminal to party)) cars k car inside at

-- a car that serves a floor is one of the building's
pub serves_car : (plan : Plan) (car floor : ℕ) → serves_floor plan car floor ≡ true
    → car < length plan.cars
serves_car plan car floor h = elim (cases_lt car (length plan.cars)) [
  | inl lt ↦ lt
  | inr out ↦ absurd (both_ways (serves_floor plan car floor)
      (ap (λ (c : CarPlan). get_or c.served floor false)
      (get_or_past plan.cars car (record { places = 0; served = [] }) out)) h)
]

not_both : (b : Bool) → not b ≡ false → b ≡ true
not_both true h = refl
not_both false h = cc

-- a new call without a cause fits with each eligible car
pub call_fits : (plan : Plan) (state : State) (terminal number to party car : ℕ)
    → NoCause plan state terminal number (Call to party)
    → is_new state terminal number ≡ true → Contains (cars_for plan state terminal to party) car
    → Fits plan state.register (Allot terminal number (kiosk_floor plan terminal) to car party)
call_fits plan state terminal number to party car none new held =
    let kiosk = and_parts _ _ (not_both (has_kiosk plan terminal) none.kind) in
    let passed = and_parts _ _ (eligible_passes plan state terminal to party car held) in
    let room = and_parts _ _ passed.1 in
    let served = and_parts _ _ room.0 in (
      record {
        of_kiosk = (leb-true FIRST_KIOSK terminal kiosk.0, ltb-true _ _ kiosk.1);
        from_kiosk = refl;
        apart = eqb-false _ _ none.same;
        by_car = serves_car plan car to served.1;
        served_from = served.0;
        served_to = served.1;
      },
      eqb-true _ _ new,
      leb-true _ _ room.1,
    )

-- a new stop without a cause fits
pub stop_fits : (plan : Plan) (state : State) (car number floor : ℕ) (dir : Dir)
    → NoCause plan state car number (Stop floor dir)
    → is_new state car number ≡ true → Fits plan state.register (Stopping car number floor dir)
stop_fits plan state car number floor dir none new = (
  record {
    by_car = ltb-true _ _ (not_both (has_car plan car) none.kind);
    served = not_both (serves_floor plan car floor) none.served;
  },
  eqb-true _ _ new,
)

joined : (plan : Plan) (state next : State) (terminal number : ℕ) (body : Body) (entry : Entry)
    → terminal_of entry ≡ terminal → number_of entry ≡ number
    → is_same body (kept_of entry).content ≡ true → Fits plan state.register entry
    → next.register ≡ (accepting state entry).register
    → next.batch ≡ (accepting state entry).batch
    → JoinsAtMostOne plan state terminal number body next
joined plan state next terminal number body entry t n says fits register batch =
    inr (
      entry,
      record {
        of_terminal = t;
        of_number = n;
        says = says;
        fits = fits;
        register = register;
        batch = batch;
      },
    )

same_state : (plan : Plan) (state next : State) (terminal number : ℕ) (body : Body)
    → next.register ≡ state.register → next.batch ≡ state.batch
    → JoinsAtMostOne plan state terminal number body next
same_state plan state next terminal number body register batch =
    inl (record { register = register; batch = batch })

call_joins : (plan : Plan) (choice : Choice) (state next : State) (terminal number to party : ℕ)
    (reply : Reply) (b : Bool)
    → NoCause plan state terminal number (Call to party) → is_new state terminal number ≡ b
    → MatchBool b (Allots plan choice state terminal number to party reply next)
    (Repeats state terminal number to party reply next)
    → JoinsAtMostOne plan state terminal number (Call to party) next
call_joins plan choice state next terminal number to party reply true none new
    (car, held, chosen, told, is) =
    joined plan state next terminal number (Call to party)
    (Allot terminal number (kiosk_floor plan terminal) to car party) refl refl
    (and_from (eqb to to) (eqb party party) (eq-eqb to to refl) (eq-eqb party party refl))
    (call_fits plan state terminal number to party car none new held)
    (ap (λ (s : State). s.register) is) (ap (λ (s : State). s.batch) is)
call_joins plan choice state next terminal number to party reply false none new
    (from, car, kept, told, is) =
    same_state plan state next terminal number (Call to party) (ap (λ (s : State). s.register) is)
    (ap (λ (s : State). s.batch) is)

same_dir-refl : (dir : Dir) → same_dir dir dir ≡ true
same_dir-refl Up = refl
same_dir-refl Down = refl

stop_joins : (plan : Plan) (state next : State) (car number floor : ℕ) (dir : Dir) (b : Bool)
    → NoCause plan state car number (Stop floor dir)
    → is_new state car number ≡ b
    → next ≡ with_car_at (cond b (accepting state (Stopping car number floor dir)) state) car floor
    dir → JoinsAtMostOne plan state car number (Stop floor dir) next
stop_joins plan state next car number floor dir true none new is =
    joined plan state next car number (Stop floor dir) (Stopping car number floor dir) refl refl
    (and_from (eqb floor floor) (same_dir dir dir) (eq-eqb floor floor refl)
    (same_dir-refl dir)) (stop_fits plan state car number floor dir none new)
    (ap (λ (s : State). s.register) is) (ap (λ (s : State). s.batch) is)
stop_joins plan state next car number floor dir false none new is =
    same_state plan state next car number (Stop floor dir) (ap (λ (s : State). s.register) is)
    (ap (λ (s : State). s.batch) is)

proceeds_joins : (plan : Plan) (choice : Choice) (state : State) (terminal number : ℕ) (body : Body)
    (reply : Reply) (next : State)
    → NoCause plan state terminal number body
    → Proceeds plan choice state terminal number body reply next
    → JoinsAtMostOne plan state terminal number body next
proceeds_joins plan choice state terminal number (Call to party) reply next none h =
    call_joins plan choice state next terminal number to party reply
    (is_new state terminal number) none refl h
proceeds_joins plan choice state terminal number (Stop floor dir) reply next none h =
    stop_joins plan state next terminal number floor dir
    (is_new state terminal number) none refl h.0
proceeds_joins plan choice state terminal number (Place floor dir) reply next none h =
    same_state plan state next terminal number (Place floor dir)
    (ap (λ (s : State). s.register) h.0) (ap (λ (s : State). s.batch) h.0)

stepped_joins : (plan : Plan) (choice : Choice) (state : State) (terminal number : ℕ) (body : Body)
    (reply : Reply) (next : State)
    → HasStepped plan choice state terminal number body reply next
    → JoinsAtMostOne plan state terminal number body next
stepped_joins plan choice state terminal number body reply next (Proceeded none h) =
    proceeds_joins plan choice state terminal number body reply next
    (no_cause plan state terminal number body none) h
stepped_joins plan choice state terminal number body reply next (WasRefused reason cause told is) =
    same_state plan state next terminal number body (ap (λ (s : State). s.register) is)
    (ap (λ (s : State). s.batch) is)

-- one decision adds one entry that fits, or none
pub Step-joins : (plan : Plan) (choice : Choice) (state : State) (terminal number : ℕ) (body : Body)
    (reply : Reply) (next : State)
    → Step plan choice state terminal number body reply next
    → JoinsAtMostOne plan state terminal number body next
Step-joins plan choice state terminal number body reply next h =
    stepped_joins plan choice state terminal number body reply next
    (has_stepped plan choice state terminal number body reply next h)
