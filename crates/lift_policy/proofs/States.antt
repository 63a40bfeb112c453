-- What decisions keep of the program's states, and what their replies tell.
use Rattle.std.proofs.Common.{◌≡◌, ℕ, zero, suc, ◌<◌, Bool, true, false, cond, eqb, leb, List, [], ◌∷◌, length, get_or, set, refl, sym, ap, subst, ◌∙◌, inl, inr, arith}
use Rattle.std.specs.Prelude.{Option, Some, None, MatchBool}
use Rattle.std.proofs.Math.ListN.{length-set}
use Rattle.std.proofs.lemmas.Bool.{and_parts, eqb-true, leb-false}
use Rattle.lift_base.specs.Travel.{same_dir}
use Rattle.lift_base.specs.History.{terminal_of, number_of}
use Rattle.lift_base.specs.declared.history.Record.TheVariants.{Entry as EntryRecord}
use Rattle.lift_base.specs.Records.{IsTyped, IsTypedCommand}
use Rattle.lift_base.specs.declared.limits.TheConstants.{MOST_CARS, MOST_TERMINALS}
use Rattle.lift_base.specs.declared.travel.Dir.{Dir}
use Rattle.lift_base.specs.declared.travel.Dir.TheVariants.{Up, Down}
use Rattle.lift_base.specs.declared.travel.Position.{Position}
use Rattle.lift_base.specs.declared.history.Entry.{Entry}
use Rattle.lift_base.specs.declared.history.Entry.TheVariants.{Allot, Stop as Stopping}
use Rattle.lift_base.specs.declared.history.Content.{Content}
use Rattle.lift_base.specs.declared.history.Content.TheVariants.{Letter, Stopped as StoppedAt}
use Rattle.lift_base.specs.declared.command.Body.{Body}
use Rattle.lift_base.specs.declared.command.Body.TheVariants.{Call, Stop, Place}
use Rattle.lift_base.specs.declared.command.Reply.{Reply}
use Rattle.lift_base.specs.declared.command.Reply.TheVariants.{Car, Stopped, Placed, Refused, Unknown}
use Rattle.lift_building.specs.Plan.{Plan, IsBuilding}
use Rattle.lift_building.specs.lemmas.Getters.{serves_within, places_short}
use Rattle.lift_register.specs.Register.{RegisterState, register_of, last_of, last_after, kept_of}
use Rattle.lift_register.specs.Fits.{Fits}
use Rattle.lift_register.specs.WellFormed.{IsWellFormed}
use Rattle.lift_register.specs.Belongs.{BelongsTo}
use Rattle.lift_register.specs.Balanced.{IsBalanced}
use Rattle.lift_register.specs.lemmas.Sums.{get_or-on_terminals}
use Rattle.lift_register.specs.lemmas.EntryLemmas.{last_after-own}
use Rattle.lift_register.specs.lemmas.Laws.{IsWellFormed-entry, IsBalanced-entry, BelongsTo-entry}
use Rattle.lift_policy.specs.Terminals.{kiosk_floor}
use Rattle.lift_policy.specs.View.{position_of}
use Rattle.lift_policy.specs.Eligible.{Choice}
use Rattle.lift_policy.specs.Step.{State, Step, Proceeds, Allots, Repeats, is_new, is_same, accepting, with_car_at}
use Rattle.lift_policy.specs.Laws.{JoinsAtMostOne, IsTypedBody, IsStateIn, TellsLastCommand}
use Rattle.lift_policy.specs.lemmas.Steps.{NoCause, no_cause, repeated, HasStepped, has_stepped, Proceeded, WasRefused}
use Rattle.lift_policy.specs.lemmas.Joins.{Step-joins}

-- an entry that keeps a typed command is typed
typed : (plan : Plan) (state : State) (terminal number : ℕ) (body : Body) (entry : Entry) → IsBuilding plan → IsTypedCommand terminal number → IsTypedBody body
    → terminal_of entry ≡ terminal → number_of entry ≡ number → is_same body (kept_of entry).content ≡ true → Fits plan state.register entry → IsTyped (EntryRecord entry)
typed plan state terminal number (Call to party) (Allot k n f t c p) lawful command body at numbered says fits =
    let parts = and_parts (eqb t to) (eqb p party) says in
    let persons : p ≡ party = eqb-true p party parts.1 in
    let from_in = (serves_within plan c f lawful fits.0.served_from).1 in
    let to_in = (serves_within plan c t lawful fits.0.served_to).1 in
    let floors = lawful.limits.few_floors in
    let cars = lawful.limits.few_cars in
    let by = fits.0.by_car in
    let range = body.1 in (
      record { terminal_range = let h = command.terminal_range in omega arith; number_range = let h = command.number_range in omega arith },
      record { from_range = omega arith; to_range = omega arith; car_range = omega arith; party_range = (omega arith, omega arith) },
    )
typed plan state terminal number (Call to party) (Stopping c n f d) lawful command body at numbered says fits = cc
typed plan state terminal number (Stop floor dir) (Allot k n f t c p) lawful command body at numbered says fits = cc
typed plan state terminal number (Stop floor dir) (Stopping c n f d) lawful command body at numbered says fits =
    let floor_in = (serves_within plan c f lawful fits.0.served).1 in
    let floors = lawful.limits.few_floors in
    let cars = lawful.limits.few_cars in
    let by = fits.0.by_car in
    (record { terminal_range = let h = command.terminal_range in omega arith; number_range = let h = command.number_range in omega arith }, omega arith, omega arith)
typed plan state terminal number (Place floor dir) entry lawful command body at numbered says fits = cc

-- the register that a decision leaves
pub record IsRegisterIn (plan : Plan) (register : RegisterState) : Type 0 where
  pub lawful : IsWellFormed register
  pub belongs : BelongsTo plan register
  pub balanced : IsBalanced register

registered : (plan : Plan) (state : State) (terminal number : ℕ) (body : Body) (next : State) → IsBuilding plan → IsTypedCommand terminal number → IsTypedBody body
    → IsRegisterIn plan state.register → JoinsAtMostOne plan state terminal number body next → IsRegisterIn plan next.register
registered plan state terminal number body next building command typed_body is (inl none) = subst (IsRegisterIn plan) (sym none.register) is
registered plan state terminal number body next building command typed_body is (inr (entry, joins)) =
    let written = typed plan state terminal number body entry building command typed_body joins.of_terminal joins.of_number joins.says joins.fits in
    subst (IsRegisterIn plan) (sym joins.register) (record {
      lawful = IsWellFormed-entry plan state.register entry (λ car. places_short plan car building) is.lawful is.balanced written joins.fits;
      belongs = BelongsTo-entry plan state.register entry is.lawful is.belongs written joins.fits;
      balanced = IsBalanced-entry plan state.register entry is.lawful is.balanced written joins.fits;
    })

-- the cars stand at the building's floors
pub record ArePositionsIn (plan : Plan) (positions : List (Option Position)) : Type 0 where
  pub here : (car : ℕ) (position : Position) → position_of positions car ≡ Some position → position.floor < plan.floors
  pub cars : length positions ≡ MOST_CARS

pub set_here : (plan : Plan) (positions : List (Option Position)) (car : ℕ) (p : Position) → p.floor < plan.floors
    → ((k : ℕ) (q : Position) → get_or positions k None ≡ Some q → q.floor < plan.floors)
    → (k : ℕ) (q : Position) → get_or (set positions car (Some p)) k None ≡ Some q → q.floor < plan.floors
set_here plan [] car p lt here k q at = here k q at
set_here plan (o ∷ positions) zero p lt here zero q at = let e : p ≡ q = cc in let f : p.floor ≡ q.floor = ap (λ (x : Position). x.floor) e in omega arith
set_here plan (o ∷ positions) zero p lt here (suc k) q at = here (suc k) q at
set_here plan (o ∷ positions) (suc car) p lt here zero q at = here zero q at
set_here plan (o ∷ positions) (suc car) p lt here (suc k) q at = set_here plan positions car p lt (λ j r e. here (suc j) r e) k q at

stands : (plan : Plan) (state : State) (car floor : ℕ) (dir : Dir) → leb plan.floors floor ≡ false → ArePositionsIn plan state.positions
    → ArePositionsIn plan (with_car_at state car floor dir).positions
stands plan state car floor dir inside is = record {
  here = set_here plan state.positions car (record { floor = floor; dir = dir }) (leb-false plan.floors floor inside) is.here;
  cars = length-set state.positions car (Some (record { floor = floor; dir = dir })) ∙ is.cars;
}

stops : (plan : Plan) (state : State) (car number floor : ℕ) (dir : Dir) (b : Bool) → leb plan.floors floor ≡ false → ArePositionsIn plan state.positions
    → ArePositionsIn plan (with_car_at (cond b (accepting state (Stopping car number floor dir)) state) car floor dir).positions
stops plan state car number floor dir true inside is = stands plan state car floor dir inside is
stops plan state car number floor dir false inside is = stands plan state car floor dir inside is

same_positions : (plan : Plan) (state next : State) → next.positions ≡ state.positions → ArePositionsIn plan state.positions → ArePositionsIn plan next.positions
same_positions plan state next e is = subst (ArePositionsIn plan) (sym e) is

call_keeps : (plan : Plan) (choice : Choice) (state next : State) (terminal number to party : ℕ) (reply : Reply) (b : Bool)
    → MatchBool b (Allots plan choice state terminal number to party reply next) (Repeats state terminal number to party reply next)
    → next.positions ≡ state.positions
call_keeps plan choice state next terminal number to party reply true (car, held, chosen, told, is) = ap (λ (s : State). s.positions) is
call_keeps plan choice state next terminal number to party reply false (from, car, kept, told, is) = ap (λ (s : State). s.positions) is

placed : (plan : Plan) (choice : Choice) (state : State) (terminal number : ℕ) (body : Body) (reply : Reply) (next : State)
    → NoCause plan state terminal number body → Proceeds plan choice state terminal number body reply next → ArePositionsIn plan state.positions → ArePositionsIn plan next.positions
placed plan choice state terminal number (Call to party) reply next none h is =
    same_positions plan state next (call_keeps plan choice state next terminal number to party reply (is_new state terminal number) h) is
placed plan choice state terminal number (Stop floor dir) reply next none h is =
    subst (λ (s : State). ArePositionsIn plan s.positions) (sym h.0) (stops plan state terminal number floor dir (is_new state terminal number) none.floor is)
placed plan choice state terminal number (Place floor dir) reply next none h is =
    subst (λ (s : State). ArePositionsIn plan s.positions) (sym h.0) (stands plan state terminal floor dir none.floor is)

stepped_places : (plan : Plan) (choice : Choice) (state : State) (terminal number : ℕ) (body : Body) (reply : Reply) (next : State)
    → HasStepped plan choice state terminal number body reply next → ArePositionsIn plan state.positions → ArePositionsIn plan next.positions
stepped_places plan choice state terminal number body reply next (Proceeded none h) is =
    placed plan choice state terminal number body reply next (no_cause plan state terminal number body none) h is
stepped_places plan choice state terminal number body reply next (WasRefused reason cause told e) is =
    same_positions plan state next (ap (λ (s : State). s.positions) e) is

-- each decision of a building makes a state of the building of such a state
pub Step-keeps : (plan : Plan) (choice : Choice) (state : State) (terminal number : ℕ) (body : Body) (reply : Reply) (next : State)
    → IsBuilding plan → IsTypedCommand terminal number → IsTypedBody body → IsStateIn plan state
    → Step plan choice state terminal number body reply next → IsStateIn plan next
Step-keeps plan choice state terminal number body reply next building command typed_body is h =
    let r = registered plan state terminal number body next building command typed_body
    (record { lawful = is.possible.register; belongs = is.possible.belongs; balanced = is.balanced }) (Step-joins plan choice state terminal number body reply next h) in
    let p = stepped_places plan choice state terminal number body reply next (has_stepped plan choice state terminal number body reply next h)
    (record { here = is.possible.here; cars = is.cars }) in
    record { possible = record { register = r.lawful; belongs = r.belongs; here = p.here }; balanced = r.balanced; cars = p.cars }

tells_refused : (plan : Plan) (register : RegisterState) (terminal number : ℕ) (body : Body) (reason : _) → TellsLastCommand plan register terminal number body (Refused reason)
tells_refused plan register terminal number (Call to party) reason = tt
tells_refused plan register terminal number (Stop floor dir) reason = tt
tells_refused plan register terminal number (Place floor dir) reason = tt

tells_place : (plan : Plan) (register : RegisterState) (terminal number floor : ℕ) (dir : Dir) (reply : Reply) → TellsLastCommand plan register terminal number (Place floor dir) reply
tells_place plan register terminal number floor dir (Car car) = tt
tells_place plan register terminal number floor dir (Stopped next) = tt
tells_place plan register terminal number floor dir (Placed next) = tt
tells_place plan register terminal number floor dir (Refused reason) = tt
tells_place plan register terminal number floor dir Unknown = tt

-- the last entry of a terminal is what the register keeps of it
pub last_of-entry : (register : RegisterState) (entry : Entry) (terminal : ℕ) → terminal_of entry ≡ terminal → terminal < MOST_TERMINALS
    → last_of (register_of register (entry ∷ [])) terminal ≡ Some (kept_of entry)
last_of-entry register entry terminal of inside =
    get_or-on_terminals (last_after register (entry ∷ [])) terminal None inside
    ∙ ap (λ (t : ℕ). last_after register (entry ∷ []) t) (sym of) ∙ last_after-own register entry

same_dir-is : (d e : Dir) → same_dir d e ≡ true → d ≡ e
same_dir-is Up Up h = refl
same_dir-is Up Down h = cc
same_dir-is Down Up h = cc
same_dir-is Down Down h = refl

call_tells : (plan : Plan) (choice : Choice) (state next : State) (terminal number to party : ℕ) (reply : Reply) (b : Bool) → terminal < MOST_TERMINALS → BelongsTo plan state.register
    → MatchBool b (Allots plan choice state terminal number to party reply next) (Repeats state terminal number to party reply next)
    → TellsLastCommand plan next.register terminal number (Call to party) reply
call_tells plan choice state next terminal number to party reply true inside belongs (car, held, chosen, told, is) =
    subst (λ (r : Reply). TellsLastCommand plan next.register terminal number (Call to party) r) (sym told)
    (ap (λ (s : State). last_of s.register terminal) is
    ∙ last_of-entry state.register (Allot terminal number (kiosk_floor plan terminal) to car party) terminal refl inside)
call_tells plan choice state next terminal number to party reply false inside belongs (from, car, kept, told, is) =
    let at : from ≡ kiosk_floor plan terminal = (belongs.lasts terminal (record { number = number; content = Letter from to car party }) kept).from_kiosk in
    subst (λ (r : Reply). TellsLastCommand plan next.register terminal number (Call to party) r) (sym told)
    (ap (λ (s : State). last_of s.register terminal) is ∙ kept ∙ ap (λ (f : ℕ). Some (record { number = number; content = Letter f to car party })) at)

kept_stop : (register : RegisterState) (terminal number floor n : ℕ) (dir : Dir) (content : Content) → last_of register terminal ≡ Some (record { number = n; content = content })
    → n ≡ number → is_same (Stop floor dir) content ≡ true → last_of register terminal ≡ Some (record { number = number; content = StoppedAt floor dir })
kept_stop register terminal number floor n dir (Letter from to car party) found e same = cc
kept_stop register terminal number floor n dir (StoppedAt f d) found e same =
    let parts = and_parts (eqb f floor) (same_dir d dir) same in
    let a : f ≡ floor = eqb-true f floor parts.0 in
    let b : d ≡ dir = same_dir-is d dir parts.1 in cc

stop_tells : (plan : Plan) (state : State) (terminal number floor : ℕ) (dir : Dir) (b : Bool) → terminal < MOST_TERMINALS → NoCause plan state terminal number (Stop floor dir) → is_new state terminal number ≡ b
    → last_of (with_car_at (cond b (accepting state (Stopping terminal number floor dir)) state) terminal floor dir).register terminal
    ≡ Some (record { number = number; content = StoppedAt floor dir })
stop_tells plan state terminal number floor dir true inside none new = last_of-entry state.register (Stopping terminal number floor dir) terminal refl inside
stop_tells plan state terminal number floor dir false inside none new =
    let again = repeated plan state terminal number (Stop floor dir) refl none new in
    kept_stop state.register terminal number floor again.last.number dir again.last.content again.found again.number_is again.same

tells : (plan : Plan) (choice : Choice) (state : State) (terminal number : ℕ) (body : Body) (reply : Reply) (next : State) → terminal < MOST_TERMINALS → BelongsTo plan state.register
    → NoCause plan state terminal number body → Proceeds plan choice state terminal number body reply next → TellsLastCommand plan next.register terminal number body reply
tells plan choice state terminal number (Call to party) reply next inside belongs none h =
    call_tells plan choice state next terminal number to party reply (is_new state terminal number) inside belongs h
tells plan choice state terminal number (Stop floor dir) reply next inside belongs none h =
    subst (λ (r : Reply). TellsLastCommand plan next.register terminal number (Stop floor dir) r) (sym h.1)
    (ap (λ (s : State). last_of s.register terminal) h.0 ∙ stop_tells plan state terminal number floor dir (is_new state terminal number) inside none refl)
tells plan choice state terminal number (Place floor dir) reply next inside belongs none h = tells_place plan next.register terminal number floor dir reply

stepped_tells : (plan : Plan) (choice : Choice) (state : State) (terminal number : ℕ) (body : Body) (reply : Reply) (next : State) → terminal < MOST_TERMINALS → BelongsTo plan state.register
    → HasStepped plan choice state terminal number body reply next → TellsLastCommand plan next.register terminal number body reply
stepped_tells plan choice state terminal number body reply next inside belongs (Proceeded none h) =
    tells plan choice state terminal number body reply next inside belongs (no_cause plan state terminal number body none) h
stepped_tells plan choice state terminal number body reply next inside belongs (WasRefused reason cause told is) =
    subst (λ (r : Reply). TellsLastCommand plan next.register terminal number body r) (sym told) (tells_refused plan next.register terminal number body reason)

-- a `Car` or a `Stopped` tells of what the register then keeps
pub Step-tells : (plan : Plan) (choice : Choice) (state : State) (terminal number : ℕ) (body : Body) (reply : Reply) (next : State)
    → terminal < MOST_TERMINALS → BelongsTo plan state.register → Step plan choice state terminal number body reply next → TellsLastCommand plan next.register terminal number body reply
Step-tells plan choice state terminal number body reply next inside belongs h =
    stepped_tells plan choice state terminal number body reply next inside belongs (has_stepped plan choice state terminal number body reply next h)
