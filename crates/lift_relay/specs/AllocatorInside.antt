-- What is seen of an allocator, and how it sends its batch in hand.
use Rattle.std.specs.Prelude.{◌≡◌, []}
use Rattle.std.specs.Option.{option_to_list}
use Rattle.lift_parts.specs.Allocator.{AllocatorState, tries_after}
use Rattle.lift_parts.specs.Line.{Begins}
use Rattle.lift_parts.specs.Turns.{IsSending}
use Rattle.lift_relay.specs.declared.allocator.Allocator.TheInside.{Inside}

abbrev pub seen : {P : Type 0} → Inside P → AllocatorState P
seen a = record {
  desk = a.scanner.desk;
  seat = a.scanner.seat;
  plan = a.scanner.plan;
  state = a.scanner.state;
  start = a.scanner.start;
  policy = a.scanner.policy;
  end = a.end;
  hand = option_to_list a.hand;
}

-- the batch in hand, if there is one, went through at one try
pub record SendsHand {P : Type 0} (old new : AllocatorState P) : Type 0 where
  pub none : new.hand ≡ []
  pub sends : IsSending old new
  pub later : Begins old.end.gone new.end.gone
  pub tries : new.end.tries ≡ tries_after old.hand old.end.tries
