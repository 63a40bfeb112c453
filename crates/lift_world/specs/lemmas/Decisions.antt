-- What a decision leaves: the register as it was or with one entry more, which has what the reply
-- tells of.
use Rattle.std.proofs.Common.{ℕ, ◌≡◌, ◌≢◌, ◌-◌, ◌<◌, ◌≤◌, Bool, true, false}
use Rattle.std.proofs.Common.{◌||◌, cond, eqb, ltb, leb, List, [], ◌∷◌, ◌++◌, length, drop, Option}
use Rattle.std.proofs.Common.{Some, None, All, refl, sym, ap, subst, ◌∙◌, inl, inr, arith}
use Rattle.std.specs.Prelude.{Contains, is_none, option_and_then, option_map, IsTrue}
use Rattle.std.specs.Option.{option_map_or}
use Rattle.std.proofs.lemmas.Bool.{false≢true, not-false, and_parts}
use Rattle.std.proofs.lemmas.Bool.{ltb-true, eqb-true}
use Rattle.std.proofs.lemmas.Bool.{eq-eqb, cases_lt}
use Rattle.std.proofs.lemmas.List.Folds.{list_any_at}
use Rattle.std.proofs.lemmas.List.{append-nil, get_or_past}
use Rattle.std.proofs.lemmas.List.Elements.{Contains-push, Contains-append_left}
use Rattle.std.proofs.lemmas.List.Elements.{Contains-append_right, All-nil, All-cons, All-contains}
use Rattle.lift_base.specs.History.{terminal_of}
use Rattle.lift_base.specs.declared.limits.TheConstants.{FIRST_KIOSK, MOST_CARS, MOST_FLOORS, MOST_TERMINALS}
use Rattle.lift_base.specs.declared.travel.Dir.{Dir}
use Rattle.lift_base.specs.declared.travel.Dir.TheVariants.{Up, Down}
use Rattle.lift_base.specs.declared.travel.Position.{Position}
use Rattle.lift_base.specs.declared.history.Entry.{Entry}
use Rattle.lift_base.specs.declared.history.Entry.TheVariants.{Allot, Stop as Stopping}
use Rattle.lift_base.specs.declared.history.Last.{Last}
use Rattle.lift_base.specs.declared.command.Body.{Body}
use Rattle.lift_base.specs.declared.command.Body.TheVariants.{Call, Stop, Place}
use Rattle.lift_base.specs.declared.command.Reason.{Reason}
use Rattle.lift_base.specs.declared.command.Reply.TheVariants.{Car, Stopped, Placed, Refused}
use Rattle.lift_base.specs.declared.command.Reply.TheVariants.{Unknown}
use Rattle.lift_base.specs.Travel.{same_dir}
use Rattle.lift_building.specs.Plan.{Plan, IsBuilding, car_at, serves_floor}
use Rattle.lift_register.specs.Prelude.{RegisterState, last_of, last_number, kept_of}
use Rattle.lift_register.specs.Prelude.{register_of, Fits}
use Rattle.lift_register.specs.Fits.{IsPossibleCall}
use Rattle.lift_register.specs.lemmas.HistoryLemmas.{register_of-append}
use Rattle.lift_policy.specs.Terminals.{kiosk_floor, has_kiosk, has_car}
use Rattle.lift_policy.specs.Step.{State, first_cause, is_new, is_same, is_kept}
use Rattle.lift_policy.specs.Step.{accepting, with_car_at, next_from, cars_for}
use Rattle.lift_policy.specs.lemmas.Steps.{NoCause, no_cause, is_last, kept_at, kept_some}
use Rattle.lift_policy.specs.lemmas.Joins.{serves_car, call_fits, stop_fits}
use Rattle.lift_policy.specs.Decision.{Decision}
use Rattle.lift_world.specs.Decided.{when, letter_in, kept_letter, is_among, allotted}
use Rattle.lift_world.specs.Decided.{repeated, proceeded, decided, decided_after}
use Rattle.lift_world.specs.World.{acknowledged_by, state_at}
use Rattle.lift_world.specs.Headline.{IsHeld, WasLast, IsOfBuilding}
use Rattle.lift_world.specs.Replays.{FitAfter}
use Rattle.lift_world.specs.lemmas.Entries.{kept_entry}

pub true_of : (b : Bool) → IsTrue b → b ≡ true
true_of true h = refl
true_of false h = h

-- a possible entry: a call from its kiosk's floor to another one, both below 64, with one of the
-- cars
pub record IsPossible (building : Plan) (kiosk number from to car : ℕ) : Type 0 where
  pub of_kiosk : from ≡ kiosk_floor building kiosk
  pub from_below : from < MOST_FLOORS
  pub to_below : to < MOST_FLOORS
  pub apart : from ≢ to
  pub car_below : car < MOST_CARS

abbrev pub IsAllotted : Plan → Entry → Type 0
IsAllotted building (Allot kiosk number from to car party) =
    IsPossible building kiosk number from to car
IsAllotted building (Stopping car number floor dir) = Unit {0}

same_dir-true : (d e : Dir) → same_dir d e ≡ true → d ≡ e
same_dir-true Up Up h = refl
same_dir-true Up Down h = cc
same_dir-true Down Up h = cc
same_dir-true Down Down h = refl

-- the kept letter is that of an entry
call_held : (building : Plan) (P : Entry → Type 0) (terminal number to party car : ℕ) (l : Last)
    (e : Entry) → P e → terminal_of e ≡ terminal → kept_of e ≡ l
    → number ≡ l.number → is_same (Call to party) l.content ≡ true → letter_in l.content ≡ Some car
    → IsAllotted building e → P
    (Allot terminal number (kiosk_floor building terminal) to car party)
call_held building P terminal number to party car l
    (Allot k n f t c p) held at is num same letter good =
    let n_is : n ≡ l.number = ap (λ (x : Last). x.number) is in
    let both = and_parts (eqb t to) (eqb p party)
    (ap (λ (x : Last). is_same (Call to party) x.content) is ∙ same) in
    let t_is : t ≡ to = eqb-true t to both.0 in
    let p_is : p ≡ party = eqb-true p party both.1 in
    let c_is : Some c ≡ Some car = ap (λ (x : Last). letter_in x.content) is ∙ letter in
    let f_is : f ≡ kiosk_floor building terminal =
    good.of_kiosk ∙ ap (λ x. kiosk_floor building x) at in
    let whole : Allot k n f t c p
    ≡ Allot terminal number (kiosk_floor building terminal) to car party = cc in
    subst P whole held
call_held building P terminal number to party car l
    (Stopping k n f d) held at is num same letter good =
    let none : None ≡ Some car = ap (λ (x : Last). letter_in x.content) is ∙ letter in cc

stop_held : (P : Entry → Type 0) (terminal number floor : ℕ) (dir : Dir) (l : Last) (e : Entry)
    → P e → terminal_of e ≡ terminal → kept_of e ≡ l
    → number ≡ l.number → is_same (Stop floor dir) l.content ≡ true
    → P (Stopping terminal number floor dir)
stop_held P terminal number floor dir l (Allot k n f t c p) held at is num same =
    absurd (false≢true (ap (λ (x : Last). is_same (Stop floor dir) x.content) is ∙ same))
stop_held P terminal number floor dir l (Stopping k n f d) held at is num same =
    let both = and_parts (eqb f floor) (same_dir d dir)
    (ap (λ (x : Last). is_same (Stop floor dir) x.content) is ∙ same) in
    let n_is : n ≡ l.number = ap (λ (x : Last). x.number) is in
    let f_is : f ≡ floor = eqb-true f floor both.0 in
    let d_is : d ≡ dir = same_dir-true d dir both.1 in
    let whole : Stopping k n f d ≡ Stopping terminal number floor dir = cc in
    subst P whole held

acknowledged-refused : (building : Plan) (terminal number : ℕ) (body : Body) (reason : Reason)
    → acknowledged_by building terminal number body (Refused reason) ≡ []
acknowledged-refused building terminal number (Call to party) reason = refl
acknowledged-refused building terminal number (Stop floor dir) reason = refl
acknowledged-refused building terminal number (Place floor dir) reason = refl

pub acknowledged-unknown : (building : Plan) (terminal number : ℕ) (body : Body)
    → acknowledged_by building terminal number body Unknown ≡ []
acknowledged-unknown building terminal number (Call to party) = refl
acknowledged-unknown building terminal number (Stop floor dir) = refl
acknowledged-unknown building terminal number (Place floor dir) = refl

one_held : (P : Entry → Type 0) (e : Entry) → P e → All P (e ∷ [])
one_held P e h = All-cons P e [] h (All-nil P)

none_held : (P : Entry → Type 0) (told : List Entry) → told ≡ [] → All P told
none_held P told h = subst (λ (x : List Entry). All P x) (sym h) (All-nil P)

pub some_is : {X : Type 0} (x y : X) → Some x ≡ Some y → x ≡ y
some_is x y h = cc

-- the letters of a list are its elements
among_at : (car x : ℕ) (xs : List ℕ) (b : Bool) → eqb x car ≡ b → (b || is_among car xs) ≡ true
    → (is_among car xs ≡ true → Contains xs car) → Contains (x ∷ xs) car
among_at car x xs true q g later =
    subst (λ (y : ℕ). Contains (x ∷ xs) y) (eqb-true x car q)
    (Contains-append_left (x ∷ []) xs x (Contains-push [] x))
among_at car x xs false q g later = Contains-append_right (x ∷ []) xs car (later g)

pub among_held : (car : ℕ) (xs : List ℕ) → is_among car xs ≡ true → Contains xs car
among_held car [] h = cc
among_held car (x ∷ xs) h = among_at car x xs (eqb x car) refl h (λ g. among_held car xs g)

pub held_among : (car : ℕ) (xs : List ℕ) → Contains xs car → is_among car xs ≡ true
held_among car xs h = list_any_at (λ (c : ℕ).
    eqb c car) xs h.0 car h.1 (ap (λ (c : ℕ). eqb c car) h.2 ∙ eq-eqb car car refl)

-- a served floor is one of the building's
pub served_floor : (building : Plan) (car floor : ℕ) → IsBuilding building
    → serves_floor building car floor ≡ true → floor < building.floors
served_floor building car floor sound h =
    let is_car = sound.limits.cars car (record { places = 0; served = [] })
    (serves_car building car floor h) in
    elim (cases_lt floor (length (car_at building car).served)) [
      | inl below ↦ (let e = is_car.length in omega arith)
      | inr above ↦ absurd (false≢true
          (sym (get_or_past (car_at building car).served floor false above) ∙ h))
    ]

-- what a decision leaves: the register with what was added, which fits it, and which has what the
-- reply tells of
pub record DecidesWell (building : Plan) (base : RegisterState) (accepted : List Entry)
    (sealed terminal number : ℕ) (body : Body) (decision : Decision) : Type 0 where
  pub added : List Entry
  pub register : decision.next.register ≡ register_of base (accepted ++ added)
  pub batch : decision.next.batch ≡ drop sealed accepted ++ added
  pub few : length added ≤ 1
  pub fits : FitAfter building base accepted added
  pub acknowledged : ((e : Entry) → IsHeld base accepted e → IsAllotted building e)
      → All (IsHeld base (accepted ++ added)) (acknowledged_by building terminal number body decision.reply)

-- a possible call is of its kiosk, between floors below 64
call_allotted : (building : Plan) (kiosk number from to car party : ℕ) → IsBuilding building
    → IsPossibleCall building kiosk from to car
    → IsAllotted building (Allot kiosk number from to car party)
call_allotted building kiosk number from to car party sound possible =
    let few = sound.limits.few_floors in
    let few_cars = sound.limits.few_cars in
    let from_in = served_floor building car from sound
    (true_of (serves_floor building car from) possible.served_from) in
    let to_in = served_floor building car to sound
    (true_of (serves_floor building car to) possible.served_to) in
    let in_cars = possible.by_car in
    record {
      of_kiosk = possible.from_kiosk;
      from_below = omega arith;
      to_below = omega arith;
      apart = possible.apart;
      car_below = omega arith;
    }

-- each entry that fits is possible
pub fits_allotted : (building : Plan) (register : RegisterState) (e : Entry) → IsBuilding building
    → Fits building register e → IsAllotted building e
fits_allotted building register (Allot kiosk number from to car party) sound fits =
    call_allotted building kiosk number from to car party sound fits.0
fits_allotted building register (Stopping car number floor dir) sound fits = tt

-- so is each one that the journal began with
last_allotted : (building : Plan) (base : RegisterState) (e : Entry) → IsBuilding building
    → IsOfBuilding building base → WasLast base e → IsAllotted building e
last_allotted building base (Allot kiosk number from to car party) sound of was =
    call_allotted building kiosk number from to car party sound
    (of.lasts kiosk (kept_of (Allot kiosk number from to car party)) was)
last_allotted building base (Stopping car number floor dir) sound of was = tt

pub held_allotted : (building : Plan) (base : RegisterState) (entries : List Entry)
    → IsBuilding building → IsOfBuilding building base → All (IsAllotted building) entries
    → (e : Entry) → IsHeld base entries e → IsAllotted building e
held_allotted building base entries sound of all e (inl among) =
    All-contains (IsAllotted building) entries e all among
held_allotted building base entries sound of all e (inr was) =
    last_allotted building base e sound of was

kiosk_below : (building : Plan) (terminal : ℕ) → IsBuilding building
    → has_kiosk building terminal ≡ true → terminal < MOST_TERMINALS
kiosk_below building terminal sound h =
    let parts = and_parts (leb FIRST_KIOSK terminal) (ltb (terminal - FIRST_KIOSK) (length building.kiosks)) h in
    let at = ltb-true (terminal - FIRST_KIOSK) (length building.kiosks) parts.1 in
    let few = sound.limits.few_kiosks in
    omega arith

car_below : (building : Plan) (terminal : ℕ) → IsBuilding building
    → has_car building terminal ≡ true → terminal < MOST_TERMINALS
car_below building terminal sound h =
    let at = ltb-true terminal (length building.cars) h in
    let few = sound.limits.few_cars in
    omega arith

module _ (building : Plan) (sound : IsBuilding building) (base : RegisterState) (accepted : List Entry) (sealed : ℕ)
    (positions : List (Option Position)) (terminal number : ℕ) where
  abbrev here : State
  here = state_at base accepted sealed positions

  -- a decision whose register and told entries are these
  grown : (body : Body) (entry : Entry) (d : Decision) → Fits building here.register entry
      → d.next.register ≡ register_of here.register (entry ∷ [])
      → d.next.batch ≡ here.batch ++ entry ∷ []
      → acknowledged_by building terminal number body d.reply ≡ entry ∷ []
      → DecidesWell building base accepted sealed terminal number body d
  grown body entry d fits register batch told = record {
    added = entry ∷ [];
    register = register ∙ register_of-append base accepted (entry ∷ []);
    batch = batch;
    few = omega arith;
    fits = (fits, tt);
    acknowledged = λ all. subst (λ (x : List Entry). All (IsHeld base (accepted ++ entry ∷ [])) x) (sym told)
        (one_held (IsHeld base (accepted ++ entry ∷ [])) entry (inl (Contains-push accepted entry)));
  }

  stays : (body : Body) (d : Decision) → d.next.register ≡ here.register → d.next.batch ≡ here.batch
      → (((e : Entry) → IsHeld base accepted e → IsAllotted building e)
      → All (IsHeld base accepted) (acknowledged_by building terminal number body d.reply))
      → DecidesWell building base accepted sealed terminal number body d
  stays body d register batch told = record {
    added = [];
    register = register ∙ ap (λ (xs : List Entry). register_of base xs) (sym (append-nil accepted));
    batch = batch ∙ sym (append-nil (drop sealed accepted));
    few = omega arith;
    fits = tt;
    acknowledged = λ all. subst (λ (r : List Entry).
        All (IsHeld base r) (acknowledged_by building terminal number body d.reply))
        (sym (append-nil accepted)) (told all);
  }

  new_call : (to party car : ℕ) (d : Decision) (b : Bool)
      → NoCause building here terminal number (Call to party) → is_new here terminal number ≡ true
      → is_among car (cars_for building here terminal to party) ≡ b
      → when b (record {
        reply = Car car;
        next = accepting here (Allot terminal number (kiosk_floor building terminal) to car party);
      }) ≡ Some d
      → DecidesWell building base accepted sealed terminal number (Call to party) d
  new_call to party car d true clear new el h =
      subst (DecidesWell building base accepted sealed terminal number (Call to party)) (some_is _ d h)
      (grown (Call to party) (Allot terminal number (kiosk_floor building terminal) to car party)
      (record {
        reply = Car car;
        next = accepting here (Allot terminal number (kiosk_floor building terminal) to car party);
      }) (call_fits building here terminal number to party car clear new
      (among_held car (cars_for building here terminal to party) el)) refl refl refl)
  new_call to party car d false clear new el h = cc

  letter_known : (to party : ℕ) (letter : Option ℕ) (d : Decision)
      → NoCause building here terminal number (Call to party) → is_new here terminal number ≡ true
      → option_and_then (allotted building here terminal number to party) letter ≡ Some d
      → DecidesWell building base accepted sealed terminal number (Call to party) d
  letter_known to party None d clear new h = cc
  letter_known to party (Some car) d clear new h =
      new_call to party car d (is_among car (cars_for building here terminal to party)) clear new
      refl h

  kept_call : (to party : ℕ) (d : Decision) (o : Option Last)
      → NoCause building here terminal number (Call to party) → is_new here terminal number ≡ false
      → last_of here.register terminal ≡ o
      → option_map (λ car. record { reply = Car car; next = here }) (kept_letter o) ≡ Some d
      → DecidesWell building base accepted sealed terminal number (Call to party) d
  kept_call to party d None clear new at h = cc
  kept_call to party d (Some l) clear new at h = by_letter (letter_in l.content) refl h
    where
      by_letter : (o : Option ℕ) → letter_in l.content ≡ o
          → option_map (λ car. record { reply = Car car; next = here }) o ≡ Some d
          → DecidesWell building base accepted sealed terminal number (Call to party) d
      by_letter None q h = cc
      by_letter (Some car) q h =
          let same_number = is_last number (last_number here.register terminal) clear.old clear.gap
          new in
          let last_is : last_number here.register terminal ≡ l.number =
          ap (λ (x : Option Last). option_map_or (λ (y : Last). y.number) x 0) at in
          let kept : is_kept here.register terminal (Call to party) ≡ true =
          kept_at number (last_number here.register terminal) _ clear.other same_number.0
          same_number.1 in
          let same : is_same (Call to party) l.content ≡ true =
          sym (ap (λ (x : Option Last).
          option_map_or (λ (y : Last). is_same (Call to party) y.content) x false) at) ∙ kept in
          let k = kept_entry base accepted terminal l
          (kiosk_below building terminal sound
          (not-false (has_kiosk building terminal) clear.kind)) at in
          subst (DecidesWell building base accepted sealed terminal number (Call to party))
          (some_is _ d h)
          (stays (Call to party) (record { reply = Car car; next = here }) refl refl
          (λ all. one_held (IsHeld base accepted) _
          (call_held building (IsHeld base accepted) terminal number to party car l k.entry k.held
          k.terminal_is k.kept_is (same_number.0 ∙ last_is) same q (all k.entry k.held))))

  call_well : (to party : ℕ) (letter : Option ℕ) (d : Decision) (b : Bool)
      → NoCause building here terminal number (Call to party) → is_new here terminal number ≡ b
      → cond b (option_and_then (allotted building here terminal number to party) letter)
      (cond (is_none letter) (repeated here terminal) None) ≡ Some d
      → DecidesWell building base accepted sealed terminal number (Call to party) d
  call_well to party letter d true clear new h = letter_known to party letter d clear new h
  call_well to party None d false clear new h =
      kept_call to party d (last_of here.register terminal) clear new refl h
  call_well to party (Some car) d false clear new h = cc

  stop_at : (floor : ℕ) (dir : Dir) (b : Bool)
      → NoCause building here terminal number (Stop floor dir) → is_new here terminal number ≡ b
      → DecidesWell building base accepted sealed terminal number (Stop floor dir) (record {
        reply = Stopped (next_from
            (with_car_at (cond b (accepting here (Stopping terminal number floor dir)) here)
            terminal
            floor dir) terminal floor dir);
        next = with_car_at (cond b (accepting here (Stopping terminal number floor dir)) here)
            terminal
            floor dir;
      })
  stop_at floor dir true clear new =
      grown (Stop floor dir) (Stopping terminal number floor dir) _
      (stop_fits building here terminal number floor dir clear new) refl refl refl
  stop_at floor dir false clear new = stays (Stop floor dir) _ refl refl (λ all.
      let same_number = is_last number (last_number here.register terminal) clear.old clear.gap
      new in
      let kept : is_kept here.register terminal (Stop floor dir) ≡ true =
      kept_at number (last_number here.register terminal) _ clear.other same_number.0
      same_number.1 in
      let l = kept_some (last_of here.register terminal) (Stop floor dir) kept in
      let k = kept_entry base accepted terminal l.0
      (car_below building terminal sound (not-false (has_car building terminal) clear.kind))
      l.1 in
      let last_is : last_number here.register terminal ≡ l.0.number =
      ap (λ (x : Option Last). option_map_or (λ (y : Last). y.number) x 0) l.1 in
      one_held (IsHeld base accepted) _ (stop_held (IsHeld base accepted) terminal number floor dir l.0
      k.entry k.held k.terminal_is k.kept_is (same_number.0 ∙ last_is) l.2))

  proceeds_well : (body : Body) (letter : Option ℕ) (d : Decision)
      → NoCause building here terminal number body
      → proceeded building here terminal number body letter ≡ Some d
      → DecidesWell building base accepted sealed terminal number body d
  proceeds_well (Call to party) letter d clear h =
      call_well to party letter d (is_new here terminal number) clear refl h
  proceeds_well (Stop floor dir) None d clear h =
      subst (DecidesWell building base accepted sealed terminal number (Stop floor dir)) (some_is _ d h)
      (stop_at floor dir (is_new here terminal number) clear refl)
  proceeds_well (Stop floor dir) (Some car) d clear h = cc
  proceeds_well (Place floor dir) None d clear h =
      subst (DecidesWell building base accepted sealed terminal number (Place floor dir)) (some_is _ d h)
      (stays (Place floor dir)
      (record {
        reply = Placed (next_from (with_car_at here terminal floor dir) terminal floor dir);
        next = with_car_at here terminal floor dir;
      }) refl refl (λ all. All-nil (IsHeld base accepted)))
  proceeds_well (Place floor dir) (Some car) d clear h = cc

  decides_after : (body : Body) (letter : Option ℕ) (d : Decision) (o : Option Reason)
      → first_cause building here terminal number body ≡ o
      → decided_after o building here terminal number body letter ≡ Some d
      → DecidesWell building base accepted sealed terminal number body d
  decides_after body letter d None q h =
      proceeds_well body letter d (no_cause building here terminal number body q) h
  decides_after body None d (Some reason) q h =
      subst (DecidesWell building base accepted sealed terminal number body) (some_is _ d h)
      (stays body (record { reply = Refused reason; next = here }) refl refl (λ all.
      none_held (IsHeld base accepted) _ (acknowledged-refused building terminal number body reason)))
  decides_after body (Some car) d (Some reason) q h = cc

  pub decides_well : (body : Body) (letter : Option ℕ) (d : Decision)
      → decided building here terminal number body letter ≡ Some d
      → DecidesWell building base accepted sealed terminal number body d
  decides_well body letter d h =
      decides_after body letter d (first_cause building here terminal number body) refl h
