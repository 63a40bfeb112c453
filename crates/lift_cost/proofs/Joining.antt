-- What a new call adds, by a way with it beside one without it.
use Rattle.std.proofs.Common.{◌≡◌, ◌≢◌, ℕ, ◌+◌, ◌*◌, ◌<◌, true, false, List, [], ◌∷◌, ◌++◌, refl, sym, ap, subst, ◌∙◌, arith, append_assoc, if◌then◌else◌}
use Rattle.std.proofs.lemmas.List.Sums.{sum_by_push}
use Rattle.lift_base.specs.declared.limits.TheConstants.{MOST_FLOORS}
use Rattle.lift_base.specs.declared.travel.Halt.{Halt}
use Rattle.lift_base.specs.declared.travel.Position.{Position}
use Rattle.lift_base.specs.declared.history.Row.{Row}
use Rattle.lift_building.specs.Plan.{Plan, flight_ms, IsBuilding}
use Rattle.lift_building.specs.Arrivals.{arrivals_from}
use Rattle.lift_stops.specs.StopList.{same_halt, halt_at, stop_list}
use Rattle.lift_stops.specs.Parts.{has_halt, AllDiffer}
use Rattle.lift_stops.specs.Insertion.{rank_of}
use Rattle.lift_stops.specs.lemmas.Listed.{same_itself, stops_differ}
use Rattle.lift_cost.specs.Cost.{moment_at, arrival_at, etd}
use Rattle.lift_cost.specs.Ways.{weighted, floor_after, leaves_after}
use Rattle.lift_cost.specs.Delays.{AreOpen, GoesToEnd, IsOnWays, AddsTimes, HaltsAt, persons_in}
use Rattle.lift_cost.specs.declared.ways.Ways.{Ways}
use Rattle.lift_cost.proofs.Earlier.{not_here, or_right}
use Rattle.lift_cost.proofs.Leaving.{AreLow, weighted-by_table, stops_low, total_etd-weighted, others_etd-weighted}
use Rattle.lift_cost.proofs.Putting.{stops_with_waiting, stops_with_staying}
use Rattle.lift_cost.proofs.Missing.{nobody_leaves_where_split, nobody_leaves_where_split_after}

-- ---- when a car is at a halt

has_after : (x : Halt) (hs behind : List Halt) → has_halt x (hs ++ x ∷ behind) ≡ true
has_after x [] behind = rw (same_itself x) refl
has_after x (h ∷ hs) behind = or_right (same_halt h x) (has_halt x (hs ++ x ∷ behind)) (has_after x hs behind)

pub moment_after : (plan : Plan) (floor leaves : ℕ) (hs : List Halt) (x : Halt) (behind : List Halt) → AllDiffer (hs ++ x ∷ behind)
    → moment_at x (hs ++ x ∷ behind) (arrivals_from plan floor leaves (hs ++ x ∷ behind)) ≡ leaves_after plan floor leaves hs + flight_ms plan (floor_after floor hs) x.floor
moment_after plan floor leaves [] x behind differ = rw (same_itself x) refl
moment_after plan floor leaves (h ∷ hs) x behind differ =
    let other : same_halt h x ≡ false = not_here h x (hs ++ x ∷ behind) differ.0 (has_after x hs behind) in
    rw other (moment_after plan h.floor (leaves + flight_ms plan floor h.floor + plan.door_ms) hs x behind differ.1)

-- ---- what joins

-- by all halts with the call and without it
joins_by : (plan : Plan) (position : Position) (rows : List Row) (row : Row) (halts with_it made_with behind : List Halt) (table : List ℕ) (leaves : Halt) (later arrives : ℕ) → AreOpen plan position rows halts table
    → stop_list (rows ++ row ∷ []) position ≡ with_it → with_it ≡ made_with ++ leaves ∷ behind → leaves ≡ halt_at position row row.to
    → weighted plan (persons_in table) position.floor 0 with_it ≡ weighted plan (persons_in table) position.floor 0 halts + later
    → arrives ≡ leaves_after plan position.floor 0 made_with + flight_ms plan (floor_after position.floor made_with) leaves.floor
    → AddsTimes plan position rows row later arrives
unfolding etd
joins_by plan position rows row halts with_it made_with behind table leaves later arrives are with-is parts leaves-is sums arrives-is =
    let first = weighted-by_table plan position rows table position.floor 0 halts are.leaving (subst (λ (hs : List Halt). AreLow hs) (sym are.listed) (stops_low rows position)) in
    let second = weighted-by_table plan position rows table position.floor 0 with_it are.leaving (subst (λ (hs : List Halt). AreLow hs) with-is (stops_low (rows ++ row ∷ []) position)) in
    let without = total_etd-weighted plan position rows halts are.listed in
    let others = others_etd-weighted plan position rows row with_it (sym with-is) in
    let differ : AllDiffer (made_with ++ leaves ∷ behind) = subst (λ (hs : List Halt). AllDiffer hs) (with-is ∙ parts) (stops_differ (rows ++ row ∷ []) position) in
    let there : arrival_at plan position.floor (made_with ++ leaves ∷ behind) leaves ≡ arrives = moment_after plan position.floor 0 made_with leaves behind differ ∙ sym arrives-is in
    let own : arrives ≡ arrival_at plan position.floor (stop_list (rows ++ row ∷ []) position) (halt_at position row row.to) =
    sym there ∙ ap (λ (hs : List Halt). arrival_at plan position.floor hs leaves) (sym (with-is ∙ parts)) ∙ ap (λ (h : Halt). arrival_at plan position.floor (stop_list (rows ++ row ∷ []) position) h) leaves-is in
    let all = sum_by_push (λ (r : Row). r.party * etd plan position (rows ++ row ∷ []) r) rows row in
    let weighs : row.party * arrives ≡ row.party * etd plan position (rows ++ row ∷ []) row = ap (λ time. row.party * time) own in
    record { added = omega (arith, first, second, without, others, sums, all, weighs); own = own }

-- ---- lists in parts

two_joined : (before middle behind : List Halt) (a b : Halt) → (((before ++ a ∷ []) ++ middle) ++ b ∷ []) ++ behind ≡ before ++ a ∷ (middle ++ b ∷ behind)
two_joined before middle behind a b =
    append_assoc ((before ++ a ∷ []) ++ middle) (b ∷ []) behind ∙ append_assoc (before ++ a ∷ []) middle (b ∷ behind) ∙ append_assoc before (a ∷ []) (middle ++ b ∷ behind)

all_parts : (halts before rest middle behind own other : List Halt) → halts ≡ (before ++ own) ++ rest → rest ≡ (middle ++ other) ++ behind → (((before ++ own) ++ middle) ++ other) ++ behind ≡ halts
all_parts halts before rest middle behind own other whole rest-whole =
    ap (λ hs. hs ++ behind) (append_assoc (before ++ own) middle other) ∙ append_assoc (before ++ own) (middle ++ other) behind ∙ ap (λ hs. (before ++ own) ++ hs) (sym rest-whole) ∙ sym whole

-- a call of passengers who ride from one floor to another
pub apart_joins : (plan : Plan) (position : Position) (rows : List Row) (row : Row) (halts rest : List Halt) (table : List ℕ) (boards leaves : Halt) (ways after : Ways) (boards_at later arrives : ℕ) → IsBuilding plan → AreOpen plan position rows halts table
    → row.aboard ≡ false → row.from ≢ row.to → row.from < MOST_FLOORS → row.to < MOST_FLOORS → boards ≡ halt_at position row row.from → leaves ≡ halt_at position row row.to
    → IsOnWays plan (persons_in table) position.floor [] [] ways → HaltsAt plan (persons_in table) (rank_of position.dir) halts rest boards ways after boards_at → GoesToEnd plan (persons_in table) (rank_of position.dir) rest leaves after later arrives
    → AddsTimes plan position rows row later arrives
apart_joins plan position rows row halts rest table boards leaves ways after boards_at later arrives lawful are waits apart from-low to-low boards-is leaves-is sets_out first second =
    let before : List Halt = first.before in
    let own : List Halt = if first.is_there then boards ∷ [] else [] in
    let middle : List Halt = second.before in
    let other : List Halt = if second.is_there then leaves ∷ [] else [] in
    let made_with : List Halt = (before ++ boards ∷ []) ++ middle in
    let boards-low : boards.floor < MOST_FLOORS = subst (λ (h : Halt). h.floor < MOST_FLOORS) (sym boards-is) from-low in
    let leaves-low : leaves.floor < MOST_FLOORS = subst (λ (h : Halt). h.floor < MOST_FLOORS) (sym leaves-is) to-low in
    let nobody : first.is_there ≡ false → persons_in table boards ≡ 0 =
    λ gone. are.leaving.at_each boards boards-low ∙ nobody_leaves_where_split plan position rows halts before rest boards first.is_there lawful are.within boards-low are.listed gone first.split in
    let none : second.is_there ≡ false → persons_in table leaves ≡ 0 =
    λ gone. are.leaving.at_each leaves leaves-low
    ∙ nobody_leaves_where_split_after plan position rows row halts before rest middle second.behind boards leaves first.is_there second.is_there lawful are.within waits apart from-low to-low are.listed boards-is leaves-is gone first.split second.split in
    let on = first.on position.floor [] [] nobody sets_out in
    let sums = second.on position.floor (before ++ own) (before ++ boards ∷ []) none on in
    let with-is = stops_with_waiting rows row position halts before rest middle second.behind boards leaves first.is_there second.is_there waits apart from-low to-low are.listed boards-is leaves-is first.split second.split in
    joins_by plan position rows row halts ((made_with ++ leaves ∷ []) ++ second.behind) made_with second.behind table leaves later arrives are (with-is ∙ sym (two_joined before middle second.behind boards leaves))
    (append_assoc made_with (leaves ∷ []) second.behind) leaves-is
    (sums ∙ ap (λ (hs : List Halt). weighted plan (persons_in table) position.floor 0 hs + later) (all_parts halts before rest middle second.behind own other first.split.whole second.split.whole))
    (second.arrives_at position.floor (before ++ own) (before ++ boards ∷ []) on)

-- one of passengers who leave where they board
pub staying_joins : (plan : Plan) (position : Position) (rows : List Row) (row : Row) (halts : List Halt) (table : List ℕ) (leaves : Halt) (ways : Ways) (later arrives : ℕ) → IsBuilding plan → AreOpen plan position rows halts table
    → row.aboard ≡ false → row.from ≡ row.to → row.from < MOST_FLOORS → row.to < MOST_FLOORS → leaves ≡ halt_at position row row.to
    → IsOnWays plan (persons_in table) position.floor [] [] ways → GoesToEnd plan (persons_in table) (rank_of position.dir) halts leaves ways later arrives
    → AddsTimes plan position rows row later arrives
staying_joins plan position rows row halts table leaves ways later arrives lawful are waits stays from-low to-low leaves-is sets_out ends =
    let before : List Halt = ends.before in
    let leaves-low : leaves.floor < MOST_FLOORS = subst (λ (h : Halt). h.floor < MOST_FLOORS) (sym leaves-is) to-low in
    let nobody : ends.is_there ≡ false → persons_in table leaves ≡ 0 =
    λ gone. are.leaving.at_each leaves leaves-low ∙ nobody_leaves_where_split plan position rows halts before ends.behind leaves ends.is_there lawful are.within leaves-low are.listed gone ends.split in
    let sums = ends.on position.floor [] [] nobody sets_out in
    let with-is = stops_with_staying rows row position halts before ends.behind leaves ends.is_there waits stays from-low to-low are.listed leaves-is ends.split in
    joins_by plan position rows row halts ((before ++ leaves ∷ []) ++ ends.behind) before ends.behind table leaves later arrives are (with-is ∙ sym (append_assoc before (leaves ∷ []) ends.behind))
    (append_assoc before (leaves ∷ []) ends.behind) leaves-is
    (sums ∙ ap (λ (hs : List Halt). weighted plan (persons_in table) position.floor 0 hs + later) (sym ends.split.whole))
    (ends.arrives_at position.floor [] [] sets_out)
