-- The stops of a car make a call's row what its status says.
use Rattle.std.proofs.Common.{◌≡◌, ◌≢◌, ℕ, ◌==◌, Bool, false, if◌then◌else◌, List, [], ◌∷◌, refl, sym, ap, subst, ◌∙◌, inl, inr}
use Rattle.std.specs.List.{flat_map}
use Rattle.std.proofs.lemmas.Bool.{cases_Bool, eqb-true, eq-eqb}
use Rattle.std.proofs.lemmas.List.{append-nil}
use Rattle.std.proofs.lemmas.Grind.{flat_map-append}
use Rattle.lift_base.specs.History.{row_after}
use Rattle.lift_base.specs.declared.travel.Dir.{Dir}
use Rattle.lift_base.specs.declared.history.Entry.{Entry}
use Rattle.lift_base.specs.declared.history.Entry.TheVariants.{Allot, Stop}
use Rattle.lift_base.specs.declared.history.Row.{Row}
use Rattle.lift_register.specs.Status.{status_of, row_with}
use Rattle.lift_register.specs.Register.{Call, open_part, calls_before}
use Rattle.lift_register.specs.Follows.{row_left_by, rows_left_by, RowsFollow}
use Rattle.lift_register.specs.lemmas.EntryLemmas.{rows-nothing, open_part-allot, open_part-stop, status-other}
use Rattle.lift_register.specs.lemmas.HistoryLemmas.{open_part-then, calls_before-rows-append}

differ_from : (one other : ℕ) → (one == other) ≡ false → one ≢ other
differ_from one other unlike same = let alike = eq-eqb one other same in absurd (let both = sym unlike ∙ alike in cc)

-- one entry
stop_after : (row : Row) (car number floor : ℕ) (dir : Dir) → row_left_by (Stop car number floor dir) row ≡ row_with row (status_of row (Stop car number floor dir ∷ []))
stop_after row car number floor dir =
    elim (cases_Bool (row.car == car)) [
      | inl own ↦ (
          let this = subst (λ (c : ℕ). row_with row (status_of row (Stop c number floor dir ∷ [])) ≡ row_after (record { floor = floor; dir = dir }) row) (eqb-true row.car car own) (open_part-stop row number floor dir) in
          ap (λ (b : Bool). if b then row_after (record { floor = floor; dir = dir }) row else row ∷ []) own ∙ sym this)
      | inr other ↦ (
          ap (λ (b : Bool). if b then row_after (record { floor = floor; dir = dir }) row else row ∷ []) other
          ∙ sym (status-other row car number floor dir (differ_from row.car car other)))
    ]

one_later : (row : Row) (entry : Entry) → row_left_by entry row ≡ row_with row (status_of row (entry ∷ []))
one_later row (Allot kiosk number from to car party) = sym (open_part-allot row kiosk number from to car party)
one_later row (Stop car number floor dir) = stop_after row car number floor dir

-- a row's part after an entry and others is that of the rows after the entry
part_then : (row : Row) (entry : Entry) (later : List Entry) → open_part (record { row = row; later = entry ∷ later }) ≡ flat_map open_part (calls_before (row_left_by entry row) later)
part_then row entry later =
    let call : Call = record { row = row; later = entry ∷ [] } in
    open_part-then call later ∙ ap (λ (rows : List Row). flat_map open_part (calls_before rows later)) (sym (one_later row entry))

parts_then : (rows : List Row) (entry : Entry) (later : List Entry) → flat_map open_part (calls_before rows (entry ∷ later)) ≡ flat_map open_part (calls_before (flat_map (row_left_by entry) rows) later)
parts_then [] entry later = refl
parts_then (row ∷ rows) entry later =
    rw (part_then row entry later, parts_then rows entry later, calls_before-rows-append (row_left_by entry row) (flat_map (row_left_by entry) rows) later, flat_map-append open_part (calls_before (row_left_by entry row) later) (calls_before (flat_map (row_left_by entry) rows) later)) refl

all_after : (entries : List Entry) (rows : List Row) → rows_left_by entries rows ≡ flat_map open_part (calls_before rows entries)
all_after [] rows = sym (rows-nothing rows)
all_after (entry ∷ later) rows = all_after later (flat_map (row_left_by entry) rows) ∙ sym (parts_then rows entry later)

pub rows_follow : RowsFollow
rows_follow row entries = all_after entries (row ∷ []) ∙ append-nil (row_with row (status_of row entries))
