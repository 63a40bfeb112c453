-- One decision, once the car of a new call is named.
use Rattle.std.specs.List.{list_any}
use Rattle.std.specs.Prelude.{ℕ, ◌==◌, List, Bool, if◌then◌else◌, is_none, Option, Some, None}
use Rattle.std.specs.Prelude.{option_map, option_and_then}
use Rattle.lift_base.specs.declared.history.Entry.TheVariants.{Allot}
use Rattle.lift_base.specs.declared.history.Content.{Content}
use Rattle.lift_base.specs.declared.history.Content.TheVariants.{Letter, Stopped as StoppedAt}
use Rattle.lift_base.specs.declared.history.Last.{Last}
use Rattle.lift_base.specs.declared.command.Body.{Body}
use Rattle.lift_base.specs.declared.command.Body.TheVariants.{Call, Stop, Place}
use Rattle.lift_base.specs.declared.command.Reason.{Reason}
use Rattle.lift_base.specs.declared.command.Reply.{Reply}
use Rattle.lift_base.specs.declared.command.Reply.TheVariants.{Car, Stopped, Placed, Refused}
use Rattle.lift_building.specs.Plan.{Plan}
use Rattle.lift_register.specs.Register.{last_of}
use Rattle.lift_policy.specs.Terminals.{kiosk_floor}
use Rattle.lift_policy.specs.Decision.{Decision}
use Rattle.lift_policy.specs.Step.{State, cars_for, is_new, first_cause, accepting, with_car_at}
use Rattle.lift_policy.specs.Step.{stopping, next_from}

abbrev pub when : {A : Type 0} → Bool → A → Option A
when {A} test value = if test then Some value else None

-- the letter that was kept of a call
abbrev pub letter_in : Content → Option ℕ
letter_in (Letter from to car party) = Some car
letter_in (StoppedAt floor dir) = None

abbrev pub kept_letter : Option Last → Option ℕ
kept_letter last = option_and_then (λ (l : Last). letter_in l.content) last

-- the letter is one of these
abbrev pub is_among : ℕ → List ℕ → Bool
is_among car eligible = list_any (λ (c : ℕ). c == car) eligible

-- a new call goes to this car, where it is eligible
abbrev pub allotted : Plan → State → ℕ → ℕ → ℕ → ℕ → ℕ → Option Decision
allotted building state terminal number to party car =
    when (is_among car (cars_for building state terminal to party))
    (record {
      reply = Car car;
      next = accepting state (Allot terminal number (kiosk_floor building terminal) to car party);
    })

-- a repeated call gets its kept letter
abbrev pub repeated : State → ℕ → Option Decision
repeated state terminal =
    option_map (λ car. record { reply = Car car; next = state })
    (kept_letter (last_of state.register terminal))

-- a command without a cause of refusal
abbrev pub proceeded : Plan → State → ℕ → ℕ → Body → Option ℕ → Option Decision
proceeded building state terminal number (Call to party) letter =
    if is_new state terminal number
    then option_and_then (allotted building state terminal number to party) letter
    else (if is_none letter then repeated state terminal else None)
proceeded building state terminal number (Stop floor dir) letter =
    when (is_none letter)
    (record {
      reply = Stopped
          (next_from (stopping state terminal number floor dir) terminal floor dir);
      next = stopping state terminal number floor dir;
    })
proceeded building state terminal number (Place floor dir) letter =
    when (is_none letter)
    (record {
      reply = Placed (next_from (with_car_at state terminal floor dir) terminal floor dir);
      next = with_car_at state terminal floor dir;
    })

abbrev pub decided_after : Option Reason → Plan → State → ℕ → ℕ → Body → Option ℕ → Option Decision
decided_after (Some reason) building state terminal number body letter =
    when (is_none letter) (record { reply = Refused reason; next = state })
decided_after None building state terminal number body letter =
    proceeded building state terminal number body letter

-- the decision, where this letter fits it: an eligible car for a new call, none for any other
-- command
abbrev pub decided : Plan → State → ℕ → ℕ → Body → Option ℕ → Option Decision
decided building state terminal number body letter =
    decided_after (first_cause building state terminal number body) building state terminal number
    body letter
