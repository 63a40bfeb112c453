-- Halts that a stop list has a place for, and doesn't have.
use Rattle.std.proofs.Common.{◌≡◌, ◌≢◌, ◌<◌, ◌||◌, Bool, true, false, List, [], ◌∷◌, ◌++◌, refl, sym, ap, subst, ◌∙◌, append_assoc, append-nil, if◌then◌else◌, inl, inr}
use Rattle.std.proofs.lemmas.Bool.{cases_Bool}
use Rattle.lift_base.specs.declared.limits.TheConstants.{MOST_FLOORS}
use Rattle.lift_base.specs.declared.travel.Halt.{Halt}
use Rattle.lift_base.specs.declared.travel.Position.{Position}
use Rattle.lift_base.specs.declared.history.Row.{Row}
use Rattle.lift_building.specs.Plan.{Plan, IsBuilding}
use Rattle.lift_stops.specs.StopList.{same_halt, halt_at, is_needed, all_halts, stop_list}
use Rattle.lift_stops.specs.Parts.{has_halt, AllDiffer}
use Rattle.lift_stops.specs.Insertion.{put, rank_of, IsSplit}
use Rattle.lift_stops.specs.Leaving.{leaving_at}
use Rattle.lift_stops.specs.lemmas.Halts.{put-halt}
use Rattle.lift_stops.specs.lemmas.Listed.{same_itself, halts_differ, differ_kept, stops_differ}
use Rattle.lift_cost.specs.Calls.{AreWithin}
use Rattle.lift_cost.proofs.Leaving.{nobody_leaves_elsewhere}
use Rattle.lift_cost.proofs.Putting.{stops_with_waiting}

-- ---- lists whose halts differ

pub has_halt-append : (x : Halt) (hs gs : List Halt) → has_halt x (hs ++ gs) ≡ (has_halt x hs || has_halt x gs)
has_halt-append x [] gs = refl
has_halt-append x (h ∷ hs) gs = ap (λ b. same_halt h x || b) (has_halt-append x hs gs) ∙ regroup (same_halt h x) (has_halt x hs) (has_halt x gs)
  where
    regroup : (a b c : Bool) → (a || (b || c)) ≡ ((a || b) || c)
    regroup true b c = refl
    regroup false b c = refl

pub either_missing : (a b : Bool) → a ≡ false → b ≡ false → (a || b) ≡ false
either_missing true b no_a no_b = absurd cc
either_missing false b no_a no_b = no_b

second_missing : (a b : Bool) → (a || b) ≡ false → b ≡ false
second_missing true b e = absurd cc
second_missing false b e = e

first_missing : (a b : Bool) → (a || b) ≡ false → a ≡ false
first_missing true b e = absurd cc
first_missing false b e = refl

-- a halt of halts that differ is not among the others
pub missing_around : (x : Halt) (before behind : List Halt) → AllDiffer (before ++ x ∷ behind) → has_halt x (before ++ behind) ≡ false
missing_around x [] behind differ = differ.0 x (same_itself x)
missing_around x (h ∷ hs) behind differ =
    let rest = missing_around x hs behind differ.1 in
    let other : same_halt h x ≡ false = elim (cases_Bool (same_halt h x)) [
      | inl same ↦ absurd (
          let none : has_halt x (hs ++ x ∷ behind) ≡ false = differ.0 x same in
          let parts = sym (has_halt-append x hs (x ∷ behind)) ∙ none in
          let here : (same_halt x x || has_halt x behind) ≡ false = second_missing (has_halt x hs) (has_halt x (x ∷ behind)) parts in
          let itself = first_missing (same_halt x x) (has_halt x behind) here in
          let is = same_itself x in
          cc)
      | inr other ↦ other
    ] in
    either_missing (same_halt h x) (has_halt x (hs ++ behind)) other rest

-- ---- stop lists

with_halt-differs : (rows : List Row) (position : Position) (x : Halt) → x.floor < MOST_FLOORS → AllDiffer (put (rank_of position.dir) x (stop_list rows position))
unfolding stop_list
with_halt-differs rows position x low = subst (λ (halts : List Halt). AllDiffer halts) (sym (put-halt position.dir (is_needed rows position) x low)) (differ_kept _ (all_halts position.dir) (halts_differ position.dir))

-- a list that is split where the element isn't
pub parted : {X : Type 0} (before behind : List X) (x : X) (is_there : Bool) → is_there ≡ false → before ++ (if is_there then x ∷ [] else []) ++ behind ≡ before ++ behind
parted before behind x true gone = absurd cc
parted before behind x false gone = ap (λ xs. xs ++ behind) (append-nil before)

-- a halt that isn't where a stop list is split at it is nowhere in that list
pub missing_where_split : (rows : List Row) (position : Position) (halts before behind : List Halt) (x : Halt) (is_there : Bool) → x.floor < MOST_FLOORS → halts ≡ stop_list rows position → is_there ≡ false
    → IsSplit (rank_of position.dir) x halts before is_there behind → has_halt x halts ≡ false
missing_where_split rows position halts before behind x is_there low halts-are gone split =
    let whole : halts ≡ before ++ behind = split.whole ∙ parted before behind x is_there gone in
    let with-it : put (rank_of position.dir) x (stop_list rows position) ≡ before ++ x ∷ behind = rw halts-are at split.with_it in
    let differ : AllDiffer (before ++ x ∷ behind) = subst (λ (hs : List Halt). AllDiffer hs) with-it (with_halt-differs rows position x low) in
    ap (has_halt x) whole ∙ missing_around x before behind differ

missing_with_first : (x a : Halt) (a_there : Bool) (before rest : List Halt) → has_halt x (before ++ a ∷ rest) ≡ false → has_halt x (before ++ (if a_there then a ∷ [] else []) ++ rest) ≡ false
missing_with_first x a true before rest missing = ap (has_halt x) (append_assoc before (a ∷ []) rest) ∙ missing
missing_with_first x a false before rest missing =
    let parts = sym (has_halt-append x before (a ∷ rest)) ∙ missing in
    let later = second_missing (has_halt x before) (has_halt x (a ∷ rest)) parts in
    ap (λ hs. has_halt x (hs ++ rest)) (append-nil before) ∙ has_halt-append x before rest
    ∙ either_missing (has_halt x before) (has_halt x rest) (first_missing (has_halt x before) (has_halt x (a ∷ rest)) parts) (second_missing (same_halt a x) (has_halt x rest) later)

-- the same of where the passengers of a call leave, at which is split what stands after where they board
pub missing_where_split_after : (rows : List Row) (row : Row) (position : Position) (halts before rest middle behind : List Halt) (boards leaves : Halt) (boards_there leaves_there : Bool) → row.aboard ≡ false → row.from ≢ row.to → row.from < MOST_FLOORS → row.to < MOST_FLOORS
    → halts ≡ stop_list rows position → boards ≡ halt_at position row row.from → leaves ≡ halt_at position row row.to → leaves_there ≡ false
    → IsSplit (rank_of position.dir) boards halts before boards_there rest → IsSplit (rank_of position.dir) leaves rest middle leaves_there behind → has_halt leaves halts ≡ false
missing_where_split_after rows row position halts before rest middle behind boards leaves boards_there leaves_there waits apart from-low to-low halts-are boards-is leaves-is gone first second =
    let stops = stops_with_waiting rows row position halts before rest middle behind boards leaves boards_there leaves_there waits apart from-low to-low halts-are boards-is leaves-is first second in
    let grouped : stop_list (rows ++ row ∷ []) position ≡ (before ++ boards ∷ middle) ++ leaves ∷ behind = stops ∙ sym (append_assoc before (boards ∷ middle) (leaves ∷ behind)) in
    let differ : AllDiffer ((before ++ boards ∷ middle) ++ leaves ∷ behind) = subst (λ (hs : List Halt). AllDiffer hs) grouped (stops_differ (rows ++ row ∷ []) position) in
    let missing : has_halt leaves (before ++ boards ∷ (middle ++ behind)) ≡ false = ap (has_halt leaves) (sym (append_assoc before (boards ∷ middle) behind)) ∙ missing_around leaves (before ++ boards ∷ middle) behind differ in
    let rest-is : rest ≡ middle ++ behind = second.whole ∙ parted middle behind leaves leaves_there gone in
    let whole : halts ≡ before ++ (if boards_there then boards ∷ [] else []) ++ (middle ++ behind) = first.whole ∙ ap (λ (hs : List Halt). before ++ (if boards_there then boards ∷ [] else []) ++ hs) rest-is in
    ap (has_halt leaves) whole ∙ missing_with_first leaves boards boards_there before (middle ++ behind) missing

-- ---- nobody leaves there

-- a new call's passengers board at a halt that the car makes for nobody else
pub nobody_leaves_where_split : (plan : Plan) (position : Position) (rows : List Row) (halts before behind : List Halt) (x : Halt) (is_there : Bool) → IsBuilding plan → AreWithin plan.floors rows → x.floor < MOST_FLOORS → halts ≡ stop_list rows position → is_there ≡ false
    → IsSplit (rank_of position.dir) x halts before is_there behind → leaving_at rows position x ≡ 0
nobody_leaves_where_split plan position rows halts before behind x is_there lawful inside low halts-are gone split =
    nobody_leaves_elsewhere plan position rows halts x lawful inside halts-are (missing_where_split rows position halts before behind x is_there low halts-are gone split)

-- they leave at one that it makes for nobody else
pub nobody_leaves_where_split_after : (plan : Plan) (position : Position) (rows : List Row) (row : Row) (halts before rest middle behind : List Halt) (boards leaves : Halt) (boards_there leaves_there : Bool) → IsBuilding plan → AreWithin plan.floors rows
    → row.aboard ≡ false → row.from ≢ row.to → row.from < MOST_FLOORS → row.to < MOST_FLOORS → halts ≡ stop_list rows position → boards ≡ halt_at position row row.from → leaves ≡ halt_at position row row.to → leaves_there ≡ false
    → IsSplit (rank_of position.dir) boards halts before boards_there rest → IsSplit (rank_of position.dir) leaves rest middle leaves_there behind → leaving_at rows position leaves ≡ 0
nobody_leaves_where_split_after plan position rows row halts before rest middle behind boards leaves boards_there leaves_there lawful inside waits apart from-low to-low halts-are boards-is leaves-is gone first second =
    nobody_leaves_elsewhere plan position rows halts leaves lawful inside halts-are
    (missing_where_split_after rows row position halts before rest middle behind boards leaves boards_there leaves_there waits apart from-low to-low halts-are boards-is leaves-is gone first second)
