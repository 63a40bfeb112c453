-- The two steps that entries make: a new call, and a stop of a car before it is kept as the car's
-- last command.
use Rattle.std.specs.Prelude.{ℕ, ◌+◌, ◌-◌, length, slice_set}
use Rattle.std.specs.List.{flat_map}
use Rattle.lift_base.specs.declared.travel.Stop.{Stop as CarStop}
use Rattle.lift_base.specs.History.{row_after}
use Rattle.lift_base.specs.declared.history.Content.TheVariants.{Letter}
use Rattle.lift_base.specs.declared.history.Record.TheVariants.{
  Row as RowRecord,
  Last as LastRecord,
}
use Rattle.lift_base.specs.declared.history.Row.{Row}
use Rattle.lift_register.specs.Register.{RegisterState, rows_of}
use Rattle.lift_register.specs.Base.{with_record}

-- one row more, and the kiosk's last command
abbrev pub with_call : RegisterState → Row → RegisterState
with_call register row =
    with_record (with_record register (RowRecord row)) (LastRecord row.kiosk (record {
      number = row.number;
      content = Letter row.from row.to row.car row.party;
    }))

-- how many of a car's calls a stop ends
abbrev pub ended_by : CarStop → RegisterState → ℕ → ℕ
ended_by stop register car =
    length (rows_of register car) - length (flat_map (row_after stop) (rows_of register car))

abbrev pub with_stop : RegisterState → ℕ → CarStop → RegisterState
with_stop register car stop = record register {
  rows = slice_set register.rows car (flat_map (row_after stop) (rows_of register car));
  done = register.done + ended_by stop register car;
}
