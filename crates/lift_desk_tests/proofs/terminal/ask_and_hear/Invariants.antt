use Rattle.std.proofs.Common.{◌≡◌, ℕ, ◌+◌, [], ◌∷◌, ◌++◌}
use Rattle.lift_desk.specs.Seats.{IsSeatOf, Waits}
use Rattle.lift_desk.specs.Words.{number_of, last_of}
use Rattle.lift_desk_tests.specs.Visit.{asked_word}
use Rattle.lift_desk_tests.proofs.terminal.ask_and_hear.Given as goal

abbrev pub invariant-loop : goal.invariant-loop
invariant-loop l = record {
  stays : IsSeatOf l.desk l.seat;
  asked : l.seat.view.asked ≡ l.fn.seat.view.asked ++ asked_word l.fn.seat.view l.fn.number l.fn.body ∷ [];
  number : number_of (last_of l.seat.view.asked) ≡ l.fn.number;
  heard : l.seat.view.heard ≡ l.fn.seat.view.heard;
  waits : Waits l.seat.view;
  looks : l.seat.view.looks ≡ l.fn.seat.view.looks + l.counter;
}
