-- A call's kiosk, number and car change no time.
use Rattle.std.proofs.Common.{◌≡◌, ℕ, ◌+◌, ◌*◌, List, [], ◌∷◌, ◌++◌, refl, sym, ap, ◌∙◌, arith, sum_by}
use Rattle.std.proofs.lemmas.List.Elements.{filter_agree}
use Rattle.std.proofs.lemmas.List.Sums.{sum_by-cons, sum_by_push}
use Rattle.lift_base.specs.declared.travel.Halt.{Halt}
use Rattle.lift_base.specs.declared.travel.Position.{Position}
use Rattle.lift_base.specs.declared.history.Row.{Row}
use Rattle.lift_building.specs.Plan.{Plan}
use Rattle.lift_stops.specs.StopList.{halt_at, is_needed, all_halts, stop_list}
use Rattle.lift_stops.specs.lemmas.Halts.{one_more}
use Rattle.lift_cost.specs.declared.call.NewCall.{NewCall}
use Rattle.lift_cost.specs.Cost.{arrival_at, etd, new_call_row, with_new_call}
use Rattle.lift_cost.specs.Laws.{taken_row, TimesStayOnceTaken, TotalsStayOnceTaken}

stops_stay : (position : Position) (rows : List Row) (call : NewCall) (kiosk number car : ℕ) → stop_list (rows ++ taken_row kiosk number car call ∷ []) position ≡ stop_list (with_new_call rows call) position
unfolding stop_list
stops_stay position rows call kiosk number car =
    filter_agree (is_needed (rows ++ taken_row kiosk number car call ∷ []) position) (is_needed (with_new_call rows call) position)
    (λ h. sym (one_more rows (taken_row kiosk number car call) position h) ∙ one_more rows (new_call_row call) position h) (all_halts position.dir)

pub times_stay : TimesStayOnceTaken
unfolding etd
times_stay plan position rows call kiosk number car row =
    ap (λ (halts : List Halt). arrival_at plan position.floor halts (halt_at position row row.to)) (stops_stay position rows call kiosk number car)

own_stays : (plan : Plan) (position : Position) (rows : List Row) (call : NewCall) (kiosk number car : ℕ) → etd plan position rows (taken_row kiosk number car call) ≡ etd plan position rows (new_call_row call)
unfolding etd
own_stays plan position rows call kiosk number car = refl

same_sum : (times more : Row → ℕ) → ((row : Row) → times row ≡ more row) → (rows : List Row) → sum_by (λ (row : Row). row.party * times row) rows ≡ sum_by (λ (row : Row). row.party * more row) rows
same_sum times more each [] = refl
same_sum times more each (row ∷ rows) =
    let first = sum_by-cons (λ (r : Row). r.party * times r) row rows in
    let second = sum_by-cons (λ (r : Row). r.party * more r) row rows in
    let here = ap (λ n. row.party * n) (each row) in
    let rest = same_sum times more each rows in
    omega (arith, first, second, here, rest)

pub totals_stay : TotalsStayOnceTaken
totals_stay plan position rows call kiosk number car =
    let taken : Row = taken_row kiosk number car call in
    let new : Row = new_call_row call in
    let first = sum_by_push (λ (row : Row). row.party * etd plan position (rows ++ taken ∷ []) row) rows taken in
    let second = sum_by_push (λ (row : Row). row.party * etd plan position (with_new_call rows call) row) rows new in
    let others = same_sum (etd plan position (rows ++ taken ∷ [])) (etd plan position (with_new_call rows call)) (times_stay plan position rows call kiosk number car) rows in
    let own = times_stay plan position rows call kiosk number car taken ∙ own_stays plan position (with_new_call rows call) call kiosk number car in
    let weighs = ap (λ n. call.party * n) own in
    omega (arith, first, second, others, weighs)
