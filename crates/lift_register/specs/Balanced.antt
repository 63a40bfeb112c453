-- That no call was lost: each one that a kiosk numbered is open or done.
use Rattle.std.specs.Prelude.{ℕ, ◌≡◌, ◌+◌, length, sum_by}
use Rattle.lift_register.specs.Register.{RegisterState, rows_of, last_number, cars, kiosk_terminals}

-- how many calls are open
abbrev pub open_count : RegisterState → ℕ
open_count register = sum_by (λ car. length (rows_of register car)) cars

-- how many calls the kiosks have numbered
abbrev pub numbered_calls : RegisterState → ℕ
numbered_calls register = sum_by (last_number register) kiosk_terminals

abbrev pub IsBalanced : RegisterState → Type 0
IsBalanced register = register.done + open_count register ≡ numbered_calls register
