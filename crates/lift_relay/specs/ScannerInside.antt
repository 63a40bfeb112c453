-- What is seen of a scanner.
use Rattle.std.specs.Prelude.{◌≡◌, []}
use Rattle.lift_desk.specs.Seats.{IsClerkOf}
use Rattle.lift_relay.specs.Scanner.{ScannerState}
use Rattle.lift_relay.specs.declared.deciding.Scanner.TheInside.{Inside}

abbrev pub seen : {P : Type 0} → Inside P → ScannerState P
seen s = record {
  desk = s.desk.now;
  seat = s.parts.seat;
  plan = s.parts.decider.plan;
  state = s.parts.decider.state;
  start = s.start.value.state;
  policy = s.parts.policy;
}

pub record IsScanner {P : Type 0} (s : Inside P) : Type 0 where
  pub seated : IsClerkOf s.desk.now s.parts.seat
  pub all_sealed : s.parts.decider.state.batch ≡ []
