-- What a list of entries leaves in its register.
use Rattle.std.proofs.Common.{ℕ, ◌≡◌, ◌-◌, ◌<◌, ◌⊎◌, Bool, true, false, cond, eqb, List, [], ◌∷◌}
use Rattle.std.proofs.Common.{length, Option, Some, None, refl, sym, ap, subst, ◌∙◌, inl, inr}
use Rattle.std.proofs.Common.{arith}
use Rattle.std.specs.Prelude.{Contains, find, reverse, filter, map}
use Rattle.std.specs.List.{flat_map}
use Rattle.std.specs.Option.{option_map_or}
use Rattle.std.proofs.lemmas.Bool.{false≢true, eqb-true, eq-eqb}
use Rattle.std.proofs.lemmas.List.{length-reverse, get_or-reverse}
use Rattle.std.proofs.lemmas.List.Elements.{Contains-push, Contains-append_left}
use Rattle.std.proofs.lemmas.List.Elements.{Contains-append_right, Contains-append_cases}
use Rattle.std.proofs.lemmas.List.Elements.{Contains-push_cases}
use Rattle.lift_base.specs.declared.limits.TheConstants.{MOST_CARS, MOST_TERMINALS}
use Rattle.lift_base.specs.History.{terminal_of}
use Rattle.lift_base.specs.declared.history.Entry.{Entry}
use Rattle.lift_base.specs.declared.history.Entry.TheVariants.{Allot, Stop as Stopping}
use Rattle.lift_base.specs.declared.history.Content.{Content}
use Rattle.lift_base.specs.declared.history.Content.TheVariants.{Letter, Stopped}
use Rattle.lift_base.specs.declared.history.Last.{Last}
use Rattle.lift_base.specs.declared.history.Row.{Row}
use Rattle.lift_building.specs.Plan.{Plan}
use Rattle.lift_register.specs.Register.{RegisterState, Call, calls_in, calls_of, calls_before}
use Rattle.lift_register.specs.Register.{rows_after, last_after, done_among}
use Rattle.lift_register.specs.Register.{is_of_car, open_part, status, rows_of, last_of}
use Rattle.lift_register.specs.Register.{is_of_terminal, kept_of, register_of, waiting_row}
use Rattle.lift_register.specs.Status.{Status, Waiting, Aboard, Done, row_with}
use Rattle.lift_register.specs.lemmas.HistoryLemmas.{rows_of-register_of, last_of-register_of}
use Rattle.lift_register.specs.lemmas.HistoryLemmas.{same_state}
use Rattle.lift_register.specs.lemmas.EntryLemmas.{rows_after-nothing, done-nothing}
use Rattle.lift_register.specs.lemmas.Sums.{list_on_cars, list_on_terminals, nothing_over_cars}
use Rattle.lift_world.specs.Headline.{IsHeld, IsOfBuilding}

-- what a search finds
found_at : {A : Type 0} (p : A → Bool) (y x : A) (b : Bool) (rest : Option A) → p y ≡ b
    → cond b (Some y) rest ≡ Some x → (P : Type 0) → (y ≡ x → p x ≡ true → P) → (rest ≡ Some x → P)
    → P
found_at p y x true rest q h P here there = let e : y ≡ x = cc in
    here e (subst (λ z. p z ≡ true) e q)
found_at p y x false rest q h P here there = there h

pub head_of : {A : Type 0} (x : A) (xs : List A) → Contains (x ∷ xs) x
head_of x xs = Contains-append_left (x ∷ []) xs x (Contains-push [] x)

pub find_held : {A : Type 0} (p : A → Bool) (xs : List A) (x : A) → find p xs ≡ Some x
    → Contains xs x × (p x ≡ true)
find_held p [] x h = cc
find_held p (y ∷ ys) x h = found_at p y x (p y) (find p ys) refl h _
    (λ e q. (subst (λ z. Contains (y ∷ ys) z) e (head_of y ys), q))
    (λ g. let r = find_held p ys x g in (Contains-append_right (y ∷ []) ys x r.0, r.1))

pub reverse_held : {A : Type 0} (xs : List A) (x : A) → Contains (reverse xs) x → Contains xs x
reverse_held xs x h =
    let below : h.0 < length xs = omega (arith, h.1, length-reverse xs) in
    (length xs - 1 - h.0, omega arith, sym (get_or-reverse xs h.0 x below) ∙ h.2)

-- before any entry there is what the journal began with
pub over_nothing : (building : Plan) (base : RegisterState) → IsOfBuilding building base
    → register_of base [] ≡ base
over_nothing building base of =
    same_state _ _ _ _ _ _
    (sym (list_on_cars (rows_after base []) base.rows [] of.row_count (λ k below.
    sym (rows_after-nothing base k))))
    (sym (list_on_terminals (last_after base []) base.lasts None of.last_count
    (λ k below. refl)))
    (omega (
      arith,
      nothing_over_cars (λ k. done_among (calls_of base [] k)) (λ k. done-nothing base k),
    ))

-- what is held is held among more
pub held_more : (base : RegisterState) (xs ys : List Entry)
    → ((e : Entry) → Contains xs e → Contains ys e)
    → (e : Entry) → IsHeld base xs e → IsHeld base ys e
held_more base xs ys more e (inl among) = inl (more e among)
held_more base xs ys more e (inr was) = inr was

-- what was kept of an entry
pub record IsKeptEntry (base : RegisterState) (entries : List Entry) (terminal : ℕ)
    (last : Last) : Type 0 where
  pub entry : Entry
  pub held : IsHeld base entries entry
  pub terminal_is : terminal_of entry ≡ terminal
  pub kept_is : kept_of entry ≡ last

kept_before : (base : RegisterState) (entries : List Entry) (terminal number : ℕ) (content : Content)
    → last_of base terminal ≡ Some (record { number = number; content = content })
    → IsKeptEntry base entries terminal (record { number = number; content = content })
kept_before base entries terminal number (Letter from to car party) h = record {
  entry = Allot terminal number from to car party;
  held = inr h;
  terminal_is = refl;
  kept_is = refl;
}
kept_before base entries terminal number (Stopped floor dir) h = record {
  entry = Stopping terminal number floor dir;
  held = inr h;
  terminal_is = refl;
  kept_is = refl;
}

kept_by : (base : RegisterState) (entries : List Entry) (terminal : ℕ) (l : Last)
    (o : Option Entry) → find (is_of_terminal terminal) (reverse entries) ≡ o
    → option_map_or (λ entry. Some (kept_of entry)) o (last_of base terminal) ≡ Some l
    → IsKeptEntry base entries terminal l
kept_by base entries terminal l None q h = kept_before base entries terminal l.number l.content h
kept_by base entries terminal l (Some e) q h =
    let f = find_held (is_of_terminal terminal) (reverse entries) e q in
    record {
      entry = e;
      held = inl (reverse_held entries e f.0);
      terminal_is = eqb-true (terminal_of e) terminal f.1;
      kept_is = cc;
    }

-- a terminal's last command is that of one of the entries, or the one that the base has of it
pub kept_entry : (base : RegisterState) (entries : List Entry) (terminal : ℕ) (l : Last)
    → terminal < MOST_TERMINALS → last_of (register_of base entries) terminal ≡ Some l
    → IsKeptEntry base entries terminal l
kept_entry base entries terminal l below h =
    kept_by base entries terminal l (find (is_of_terminal terminal) (reverse entries)) refl
    (sym (last_of-register_of base entries terminal below) ∙ h)

pub only_one : {A : Type 0} (x y : A) → Contains (x ∷ []) y → x ≡ y
only_one x y h = elim (Contains-push_cases [] x y h) [
  | inl none ↦ absurd (let n = none.1 in
      omega arith)
  | inr e ↦ e
]

-- each allotted call is among the calls of its car
pub record IsCall (entries : List Entry) (row : Row) : Type 0 where
  pub call : Call
  pub is : call.row ≡ row
  pub held : Contains (calls_in entries) call

call_further : (e : Entry) (later : List Entry) (row : Row) → IsCall later row
    → IsCall (e ∷ later) row
call_further (Allot k n f t c p) later row r =
    record {
      call = r.call;
      is = r.is;
      held = Contains-append_right (_ ∷ []) (calls_in later) r.call r.held;
    }
call_further (Stopping c n f d) later row r = record { call = r.call; is = r.is; held = r.held }

pub call_held : (entries : List Entry) (kiosk number from to car party : ℕ)
    → Contains entries (Allot kiosk number from to car party)
    → IsCall entries (waiting_row kiosk number from to car party)
call_held [] kiosk number from to car party h = absurd (let n = h.1 in omega arith)
call_held (e ∷ later) kiosk number from to car party h =
    elim (Contains-append_cases (e ∷ []) later (Allot kiosk number from to car party) h) [
      | inl first ↦ subst (λ (x : Entry).
          IsCall (x ∷ later) (waiting_row kiosk number from to car party))
          (sym (only_one e (Allot kiosk number from to car party) first))
          (record {
            call = record { row = waiting_row kiosk number from to car party; later = later };
            is = refl;
            held = head_of _ (calls_in later);
          })
      | inr rest ↦ call_further e later (waiting_row kiosk number from to car party)
          (call_held later kiosk number from to car party rest)
    ]

keep_first : {A : Type 0} (b : Bool) (x : A) (xs : List A) → b ≡ true
    → Contains (cond b (x ∷ xs) xs) x
keep_first true x xs h = head_of x xs
keep_first false x xs h = absurd (false≢true h)

keep_later : {A : Type 0} (b : Bool) (y x : A) (xs : List A) → Contains xs x
    → Contains (cond b (y ∷ xs) xs) x
keep_later true y x xs h = Contains-append_right (y ∷ []) xs x h
keep_later false y x xs h = h

pub filter_held : {A : Type 0} (p : A → Bool) (xs : List A) (x : A) → Contains xs x → p x ≡ true
    → Contains (filter p xs) x
filter_held p [] x h q = h
filter_held p (y ∷ ys) x h q = elim (Contains-append_cases (y ∷ []) ys x h) [
  | inl first ↦ (let e = only_one y x first in
      subst (λ z. Contains (cond (p y) (y ∷ filter p ys) (filter p ys)) z) e
      (keep_first (p y) y (filter p ys) (ap p e ∙ q)))
  | inr rest ↦ keep_later (p y) y x (filter p ys) (filter_held p ys x rest q)
]

pub map_held : {A B : Type 0} (f : A → B) (xs : List A) (x : A) → Contains xs x
    → Contains (map f xs) (f x)
map_held f [] x h = absurd (let n = h.1 in omega arith)
map_held f (y ∷ ys) x h = elim (Contains-append_cases (y ∷ []) ys x h) [
  | inl first ↦ subst (λ z. Contains (f y ∷ map f ys) (f z)) (only_one y x first)
      (head_of (f y) (map f ys))
  | inr rest ↦ Contains-append_right (f y ∷ []) (map f ys) (f x) (map_held f ys x rest)
]

pub flat_map_held : {A B : Type 0} (f : A → List B) (xs : List A) (x : A) (y : B) → Contains xs x
    → Contains (f x) y → Contains (flat_map f xs) y
flat_map_held f [] x y h k = absurd (let n = h.1 in omega arith)
flat_map_held f (z ∷ zs) x y h k = elim (Contains-append_cases (z ∷ []) zs x h) [
  | inl first ↦ Contains-append_left (f z) (flat_map f zs) y
      (subst (λ v. Contains (f v) y) (sym (only_one z x first)) k)
  | inr rest ↦ Contains-append_right (f z) (flat_map f zs) y (flat_map_held f zs x y rest k)
]

-- a call that isn't done has a row
pub record HasRow (call : Call) : Type 0 where
  row : Row
  is : record row { aboard = false } ≡ record call.row { aboard = false }
  held : Contains (open_part call) row

open_by : (call : Call) (s : Status) → status call ≡ s → HasRow call ⊎ (s ≡ Done)
open_by call Waiting q =
    inl (record {
      row = record call.row { aboard = false };
      is = refl;
      held = subst (λ (t : Status).
          Contains (row_with call.row t) (record call.row { aboard = false })) (sym q)
          (head_of (record call.row { aboard = false }) []);
    })
open_by call Aboard q = inl (record {
  row = record call.row { aboard = true };
  is = refl;
  held = subst (λ (t : Status).
      Contains (row_with call.row t) (record call.row { aboard = true })) (sym q)
      (head_of (record call.row { aboard = true }) []);
})
open_by call Done q = inr refl

-- a call of the car is open there or done
pub record IsCallOf (base : RegisterState) (entries : List Entry) (car : ℕ) (made : Row) : Type 0 where
  pub call : Call
  pub is : record call.row { aboard = false } ≡ made
  pub held : Contains (calls_of base entries car) call

pub record IsRow (base : RegisterState) (entries : List Entry) (car : ℕ) (made : Row) : Type 0 where
  pub row : Row
  pub is : record row { aboard = false } ≡ made
  pub held : Contains (rows_of (register_of base entries) car) row

pub record IsDoneCall (base : RegisterState) (entries : List Entry) (car : ℕ)
    (made : Row) : Type 0 where
  pub call : Call
  pub is : record call.row { aboard = false } ≡ made
  pub held : Contains (calls_of base entries car) call
  pub done : status call ≡ Done

module _ (base : RegisterState) (entries : List Entry) (car : ℕ) (made : Row) (below : car < MOST_CARS) where
  open_or_done_by : (c : IsCallOf base entries car made) → HasRow c.call ⊎ (status c.call ≡ Done)
      → IsRow base entries car made ⊎ IsDoneCall base entries car made
  open_or_done_by c (inr done) =
      inr (record { call = c.call; is = c.is; held = c.held; done = done })
  open_or_done_by c (inl r) = inl (record {
    row = r.row;
    is = r.is ∙ c.is;
    held = subst (λ (rows : List Row). Contains rows r.row)
        (sym (rows_of-register_of base entries car below))
        (flat_map_held open_part (calls_of base entries car) c.call r.row c.held r.held);
  })

  pub open_or_done : IsCallOf base entries car made
      → IsRow base entries car made ⊎ IsDoneCall base entries car made
  open_or_done c = open_or_done_by c (open_by c.call (status c.call) refl)

-- an allotted call is one of its car
pub call_of_entry : (base : RegisterState) (entries : List Entry)
    (kiosk number from to car party : ℕ)
    → Contains entries (Allot kiosk number from to car party)
    → IsCallOf base entries car (waiting_row kiosk number from to car party)
call_of_entry base entries kiosk number from to car party h =
    let c = call_held entries kiosk number from to car party h in
    let own : is_of_car car c.call ≡ true =
    ap (λ (x : Row). eqb x.car car) c.is ∙ eq-eqb car car refl in
    record {
      call = c.call;
      is = ap (λ (x : Row). let y : Row = record x { aboard = false } in y) c.is;
      held = Contains-append_right (calls_before (rows_of base car) entries)
          (filter (is_of_car car) (calls_in entries)) c.call
          (filter_held (is_of_car car) (calls_in entries) c.call c.held own);
    }

-- so is one whose row stood there before
pub call_of_row : (base : RegisterState) (entries : List Entry) (car : ℕ) (row made : Row)
    → Contains (rows_of base car) row → record row { aboard = false } ≡ made
    → IsCallOf base entries car made
call_of_row base entries car row made h is = record {
  call = record { row = row; later = entries };
  is = is;
  held = Contains-append_left (calls_before (rows_of base car) entries)
      (filter (is_of_car car) (calls_in entries)) (record { row = row; later = entries })
      (map_held (λ (r : Row). let c : Call = record { row = r; later = entries } in c)
      (rows_of base car) row h);
}
