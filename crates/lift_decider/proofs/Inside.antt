-- What changes keep.
use Rattle.std.proofs.Common.{◌≡◌, ℕ, zero, suc, ◌<◌, List, [], ◌∷◌, ◌++◌, length, set, get_or, Option, Some, None, refl, sym, ap, subst, ◌∙◌, arith}
use Rattle.std.proofs.Math.ListN.{length-set}
use Rattle.std.proofs.lemmas.List.{length-append, length-map}
use Rattle.std.specs.Prelude.{option_map}
use Rattle.lift_base.specs.declared.history.Row.{Row}
use Rattle.std.proofs.lemmas.List.Elements.{All-push}
use Rattle.std.specs.Prelude.{replicate}
use Rattle.lift_base.specs.declared.history.Record.TheVariants.{Entry as EntryRecord}
use Rattle.lift_base.specs.Records.{IsRecord}
use Rattle.lift_base.specs.declared.limits.TheConstants.{MOST_CARS, MOST_ENTRIES}
use Rattle.lift_base.specs.declared.travel.Dir.{Dir}
use Rattle.lift_base.specs.declared.travel.Position.{Position}
use Rattle.lift_base.specs.declared.history.Entry.{Entry}
use Rattle.lift_building.specs.Plan.{Plan}
use Rattle.lift_register.specs.Register.{RegisterState, register_of}
use Rattle.lift_register.specs.WellFormed.{IsWellFormed}
use Rattle.lift_register.specs.Belongs.{BelongsTo}
use Rattle.lift_register.specs.Balanced.{IsBalanced}
use Rattle.lift_stops.specs.Schedule.{ScheduleState}
use Rattle.lift_policy.specs.View.{positions_of}
use Rattle.lift_policy.specs.Step.{State, accepting, with_car_at}
use Rattle.lift_policy.specs.Laws.{IsStateIn}
use Rattle.lift_decider.specs.Decider.{IsBatch, state_of}
use Rattle.lift_decider.specs.Schedules.{with_row}
use Rattle.lift_decider.proofs.Changes.{set_here, positions_at, positions_kept}

pub standing_inside : (plan : Plan) (state : State) (car floor : ℕ) (dir : Dir) → floor < plan.floors → IsStateIn plan state → IsStateIn plan (with_car_at state car floor dir)
standing_inside plan state car floor dir lt is = record {
  possible = record {
    register = is.possible.register;
    belongs = is.possible.belongs;
    here = set_here plan state.positions car (record { floor = floor; dir = dir }) lt is.possible.here;
  };
  balanced = is.balanced;
  cars = length-set state.positions car (Some (record { floor = floor; dir = dir })) ∙ is.cars;
}

pub accepting_inside : (plan : Plan) (state : State) (entry : Entry) (register : RegisterState) → register ≡ register_of state.register (entry ∷ [])
    → IsWellFormed register → BelongsTo plan register → IsBalanced register → IsStateIn plan state → IsStateIn plan (accepting state entry)
accepting_inside plan state entry register e lawful belongs balanced is = record {
  possible = record { register = subst IsWellFormed e lawful; belongs = subst (BelongsTo plan) e belongs; here = is.possible.here };
  balanced = subst IsBalanced e balanced;
  cars = is.cars;
}

pub same_state : (r s : RegisterState) (p q : List (Option Position)) (b d : List Entry) → r ≡ s → p ≡ q → b ≡ d
    → ◌≡◌ {A = State} (record { register = r; positions = p; batch = b }) (record { register = s; positions = q; batch = d })
same_state r s p q b d e f g = rw (e, f, g) refl

-- an entry that can be written joins a batch that has room
pub batch_push : (entries : List Entry) (entry : Entry) → IsBatch entries → length entries < MOST_ENTRIES → IsRecord (EntryRecord entry) → IsBatch (entries ++ entry ∷ [])
batch_push entries entry is room written = record {
  limit = omega (arith, length-append entries (entry ∷ []));
  written = All-push (λ (e : Entry). IsRecord (EntryRecord e)) entries entry is.written written;
}

-- the state after a car stands somewhere, of its parts
pub stood : (s : State) (r : RegisterState) (schedules : List (Option ScheduleState)) (b : List Entry) (i car : ℕ) (o : Option ScheduleState) (p : Position) (rows : List Row)
    → state_of r schedules b ≡ s → i ≡ car → o ≡ Some (record { position = p; rows = rows }) → state_of r (set schedules i o) b ≡ with_car_at s car p.floor p.dir
stood s r schedules b i car o p rows is at here =
    subst (λ (x : State). state_of r (set schedules i o) b ≡ with_car_at x car p.floor p.dir) is
    (same_state r r (positions_of (set schedules i o)) (set (positions_of schedules) car (Some p)) b b refl (positions_at schedules i car o p rows at here) refl)

-- and after an entry that its car's stop is
pub accepted_stood : (s : State) (r q : RegisterState) (schedules : List (Option ScheduleState)) (b d : List Entry) (entry : Entry) (i car : ℕ) (o : Option ScheduleState) (p : Position) (rows : List Row)
    → state_of r schedules b ≡ s → q ≡ register_of r (entry ∷ []) → d ≡ b ++ entry ∷ [] → i ≡ car → o ≡ Some (record { position = p; rows = rows })
    → state_of q (set schedules i o) d ≡ with_car_at (accepting s entry) car p.floor p.dir
accepted_stood s r q schedules b d entry i car o p rows is e f at here =
    subst (λ (x : State). state_of q (set schedules i o) d ≡ with_car_at (accepting x entry) car p.floor p.dir) is
    (same_state q (register_of r (entry ∷ [])) (positions_of (set schedules i o)) (set (positions_of schedules) car (Some p)) d (b ++ entry ∷ []) e (positions_at schedules i car o p rows at here) f)

-- and after one that is a new call
pub accepted_with : (s : State) (r q : RegisterState) (schedules : List (Option ScheduleState)) (b d : List Entry) (entry : Entry) (i : ℕ) (o taken default : Option ScheduleState) (row : Row)
    → state_of r schedules b ≡ s → q ≡ register_of r (entry ∷ []) → d ≡ b ++ entry ∷ [] → o ≡ with_row row taken → taken ≡ get_or schedules i default
    → state_of q (set schedules i o) d ≡ accepting s entry
accepted_with s r q schedules b d entry i o taken default row is e f with_it was =
    subst (λ (x : State). state_of q (set schedules i o) d ≡ accepting x entry) is
    (same_state q (register_of r (entry ∷ [])) (positions_of (set schedules i o)) (positions_of schedules) d (b ++ entry ∷ []) e (positions_kept schedules i o taken default row with_it was) f)

-- each car has a place among the schedules
pub room_at : (s : State) (r : RegisterState) (schedules : List (Option ScheduleState)) (b : List Entry) (i : ℕ) → state_of r schedules b ≡ s → length s.positions ≡ MOST_CARS → i < MOST_CARS → i < length schedules
room_at s r schedules b i is cars lt =
    let count : length (positions_of schedules) ≡ MOST_CARS = subst (λ (x : State). length x.positions ≡ MOST_CARS) (sym is) cars in
    omega (arith, count, length-map schedules (option_map (λ (x : ScheduleState). x.position)))

-- no car has a schedule
pub all_none : (schedules : List (Option ScheduleState)) (n : ℕ) → length schedules ≡ n → ((i : ℕ) (d : Option ScheduleState) → i < n → get_or schedules i d ≡ None)
    → schedules ≡ replicate n None
all_none [] zero long each = refl
all_none [] (suc n) long each = absurd (omega arith)
all_none (o ∷ schedules) zero long each = absurd (omega arith)
all_none (o ∷ schedules) (suc n) long each =
    ap (λ (p : Option ScheduleState). p ∷ schedules) (each 0 None (omega arith))
    ∙ ap (λ (l : List (Option ScheduleState)). None ∷ l) (all_none schedules n (omega arith) (λ i d lt. each (suc i) d (omega arith)))
