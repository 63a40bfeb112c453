-- Each letter that was shown still names its car.
use Rattle.std.proofs.Common.{ℕ, ◌≡◌, ◌<◌, ◌⊎◌, Bool, true, false, ◌&&◌, eqb, List, [], ◌∷◌, refl, sym, ap, subst, inl, inr, ◌∙◌, arith}
use Rattle.std.specs.Prelude.{Contains}
use Rattle.std.proofs.lemmas.Bool.{false≢true, and_parts, eqb-true, eq-eqb}
use Rattle.std.proofs.lemmas.List.Elements.{All-weaker, Contains-append_right, Contains-append_cases}
use Rattle.lift_base.specs.declared.limits.TheConstants.{MOST_FLOORS}
use Rattle.lift_base.specs.declared.history.Entry.{Entry}
use Rattle.lift_base.specs.declared.history.Entry.TheVariants.{Allot, Stop as Stopping}
use Rattle.lift_base.specs.declared.history.Row.{Row}
use Rattle.lift_building.specs.Plan.{Plan}
use Rattle.lift_register.specs.Register.{RegisterState, rows_of, waiting_row, register_of}
use Rattle.lift_stops.specs.StopList.{StopsInOrder}
use Rattle.lift_stops.specs.lemmas.Listed.{stops_in_order}
use Rattle.lift_world.specs.World.{World, outcome, acknowledged}
use Rattle.lift_world.specs.Headline.{IsHeld, WasLast, IsRowOf, StillNames, RecoversLetters}
use Rattle.lift_world.specs.lemmas.Entries.{open_or_done, call_of_entry, call_of_row, head_of, only_one, IsRow, IsDoneCall}
use Rattle.lift_world.specs.lemmas.Decisions.{IsAllotted, held_allotted}
use Rattle.lift_world.proofs.Consistent.{IsConsistent, recovers_acknowledged, outcome_fits, fit_allotted}

module _ (building : Plan) (base : RegisterState) (entries : List Entry) (kiosk number from to car party : ℕ) (good : IsAllotted building (Allot kiosk number from to car party)) where
  -- the call's stops stand in order in its car's list
  in_order : (r : IsRow base entries car (waiting_row kiosk number from to car party)) → StopsInOrder (rows_of (register_of base entries) car) r.row
  in_order r =
      let from_is : r.row.from ≡ from = ap (λ (x : Row). x.from) r.is in
      let to_is : r.row.to ≡ to = ap (λ (x : Row). x.to) r.is in
      stops_in_order (rows_of (register_of base entries) car) r.row r.held (λ e. good.apart (sym from_is ∙ e ∙ to_is)) (subst (λ n. n < MOST_FLOORS) (sym from_is) good.from_below)
      (subst (λ n. n < MOST_FLOORS) (sym to_is) good.to_below)

  still_call : IsRow base entries car (waiting_row kiosk number from to car party) ⊎ IsDoneCall base entries car (waiting_row kiosk number from to car party)
      → StillNames base entries (Allot kiosk number from to car party)
  still_call (inl r) = inl (record { row = r.row; is = r.is; is_open = r.held; in_order = in_order r })
  still_call (inr d) = inr (inl (record { call = d.call; is = d.is; is_counted = d.held; is_done = d.done }))

-- whether the row is that of the call
same_row : Row → (kiosk number from to car party : ℕ) → Bool
same_row row kiosk number from to car party =
    eqb row.kiosk kiosk && (eqb row.number number && (eqb row.from from && (eqb row.to to && (eqb row.car car && eqb row.party party))))

eqb_same : (n : ℕ) → eqb n n ≡ true
eqb_same n = eq-eqb n n refl

module _ (kiosk number from to car party : ℕ) where
  abbrev IsIts : Row → Type 0
  IsIts row = IsRowOf row kiosk number from to car party

  is_same : same_row (waiting_row kiosk number from to car party) kiosk number from to car party ≡ true
  unfolding same_row
  is_same = rw (eqb_same kiosk, eqb_same number, eqb_same from, eqb_same to, eqb_same car, eqb_same party) refl

  row_by : (row : Row) (b : Bool) → same_row row kiosk number from to car party ≡ b → IsIts row ⊎ ¬ IsIts row
  unfolding same_row
  row_by row true q =
      let a = and_parts (eqb row.kiosk kiosk) _ q in
      let b = and_parts (eqb row.number number) _ a.1 in
      let c = and_parts (eqb row.from from) _ b.1 in
      let d = and_parts (eqb row.to to) _ c.1 in
      let e = and_parts (eqb row.car car) _ d.1 in
      let k : row.kiosk ≡ kiosk = eqb-true row.kiosk kiosk a.0 in
      let n : row.number ≡ number = eqb-true row.number number b.0 in
      let f : row.from ≡ from = eqb-true row.from from c.0 in
      let t : row.to ≡ to = eqb-true row.to to d.0 in
      let l : row.car ≡ car = eqb-true row.car car e.0 in
      let p : row.party ≡ party = eqb-true row.party party e.1 in
      inl cc
  row_by row false q = inr (λ is. false≢true (sym q ∙ ap (λ (x : Row). same_row x kiosk number from to car party) is ∙ is_same))

  row_or_not : (row : Row) → IsIts row ⊎ ¬ IsIts row
  row_or_not row = row_by row (same_row row kiosk number from to car party) refl

  -- one of these rows is of the call, or none
  abbrev HasIts : List Row → Type 0
  HasIts rows = ((row : Row) × Contains rows row × IsIts row) ⊎ ((row : Row) → Contains rows row → ¬ IsIts row)

  has_by : (r : Row) (rows : List Row) → IsIts r ⊎ ¬ IsIts r → HasIts rows → HasIts (r ∷ rows)
  has_by r rows (inl is) later = inl (r, head_of r rows, is)
  has_by r rows (inr other) (inl later) = inl (later.0, Contains-append_right (r ∷ []) rows later.0 later.1, later.2)
  has_by r rows (inr other) (inr none) = inr (λ row h is. elim (Contains-append_cases (r ∷ []) rows row h) [
    | inl one ↦ other (subst IsIts (sym (only_one r row one)) is)
    | inr rest ↦ none row rest is
  ])

  has_its : (rows : List Row) → HasIts rows
  has_its [] = inr (λ row h is. let n = h.1 in omega arith)
  has_its (r ∷ rows) = has_by r rows (row_or_not r) (has_its rows)

-- the journal began with its letter: its row stood there, or it was done
module _ (building : Plan) (base : RegisterState) (entries : List Entry) (kiosk number from to car party : ℕ) (good : IsAllotted building (Allot kiosk number from to car party)) where
  was_by : WasLast base (Allot kiosk number from to car party) → HasIts kiosk number from to car party (rows_of base car) → StillNames base entries (Allot kiosk number from to car party)
  was_by was (inl row) =
      still_call building base entries kiosk number from to car party good
      (open_or_done base entries car (waiting_row kiosk number from to car party) good.car_below
      (call_of_row base entries car row.0 (waiting_row kiosk number from to car party) row.1 row.2))
  was_by was (inr none) = inr (inr (record { was_last = was; no_row = none }))

  still_held : IsHeld base entries (Allot kiosk number from to car party) → StillNames base entries (Allot kiosk number from to car party)
  still_held (inl among) =
      still_call building base entries kiosk number from to car party good
      (open_or_done base entries car (waiting_row kiosk number from to car party) good.car_below
      (call_of_entry base entries kiosk number from to car party among))
  still_held (inr was) = was_by was (has_its kiosk number from to car party (rows_of base car))

pub still_names : (building : Plan) (base : RegisterState) (entries : List Entry) (e : Entry) → ((e : Entry) → IsHeld base entries e → IsAllotted building e) → IsHeld base entries e → StillNames base entries e
still_names building base entries (Allot kiosk number from to car party) all h =
    still_held building base entries kiosk number from to car party (all (Allot kiosk number from to car party) h) h
still_names building base entries (Stopping car number floor dir) all h = tt

pub recovers_letters : (w : World) → IsConsistent w → RecoversLetters w
recovers_letters w k kept may =
    let all = held_allotted w.building w.base (outcome w kept) k.sound k.of_building
    (fit_allotted w.building w.base [] (outcome w kept) k.sound (outcome_fits w kept k.fit)) in
    All-weaker (IsHeld w.base (outcome w kept)) (StillNames w.base (outcome w kept))
    (λ e h. still_names w.building w.base (outcome w kept) e all h) (acknowledged w) (recovers_acknowledged w k kept may)
