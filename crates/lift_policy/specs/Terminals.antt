-- Which terminals a building has. A car's terminal has the car's number, and the kiosks' terminals
-- begin at 16.
use Rattle.std.specs.Prelude.{ℕ, ◌-◌, ◌&&◌, Bool, nat_lt, nat_le, length}
use Rattle.lift_base.specs.declared.limits.TheConstants.{FIRST_KIOSK}
use Rattle.lift_building.specs.Plan.{Plan, kiosk_floor_of}

abbrev pub has_car : Plan → ℕ → Bool
has_car plan terminal = nat_lt terminal (length plan.cars)

abbrev pub has_kiosk : Plan → ℕ → Bool
has_kiosk plan terminal = nat_le FIRST_KIOSK terminal && nat_lt (terminal - FIRST_KIOSK) (length plan.kiosks)

-- the floor at which the kiosk of this terminal stands
abbrev pub kiosk_floor : Plan → ℕ → ℕ
kiosk_floor plan terminal = kiosk_floor_of plan (terminal - FIRST_KIOSK)
