-- How a car is driven: it asks, waits for the answer, and goes to the stop that it heard.
use Rattle.std.specs.Prelude.{ℕ, ◌≡◌, ◌≢◌, ◌<◌, ◌+◌, ◌⊎◌, Bool, true, false, List, [], ◌∷◌, length}
use Rattle.std.specs.Prelude.{Option, Some, None, nat_lt, if◌then◌else◌}
use Rattle.lift_base.specs.declared.travel.Position.{Position}
use Rattle.lift_base.specs.declared.travel.Stop.{Stop as StopAt}
use Rattle.lift_base.specs.declared.command.Body.TheVariants.{Stop, Place}
use Rattle.lift_base.specs.declared.command.Reply.{Reply}
use Rattle.lift_base.specs.declared.command.Reply.TheVariants.{Car, Stopped, Placed, Refused}
use Rattle.lift_base.specs.declared.command.Reply.TheVariants.{Unknown}
use Rattle.lift_desk.specs.declared.words.Ask.{Ask}
use Rattle.lift_kiosk.specs.declared.terms.Limits.{Limits}
use Rattle.lift_kiosk.specs.declared.outcome.Opening.{Opening}
use Rattle.lift_kiosk.specs.declared.outcome.Opening.TheVariants.{Free, BroughtIn, StillWaits}
use Rattle.lift_kiosk.specs.declared.outcome.Outcome.TheVariants.{Answered, NotAnswered}
use Rattle.lift_kiosk.specs.declared.outcome.Outcome.TheVariants.{Refused as NotTaken}
use Rattle.lift_kiosk.specs.Port.{PortView}
use Rattle.lift_kiosk.specs.Hearing.{rested}
use Rattle.lift_kiosk.specs.Session.{PortDid, PortOpened}
use Rattle.lift_car.specs.declared.terms.Ending.{Ending}
use Rattle.lift_car.specs.declared.terms.Ending.TheVariants.{Limit, Late, Spent}
use Rattle.lift_car.specs.declared.terms.Ending.TheVariants.{Refused as EndRefused}
use Rattle.lift_car.specs.declared.terms.Ending.TheVariants.{Unknown as EndUnknown}

-- where a car stands in its drive: the number of its last stop, whether it went to a stop that it
-- has not reported, its port, and the car itself
pub record Standing (C : Type 0) : Type 0 where
  pub last : ℕ
  pub arrived : Bool
  pub port : PortView
  pub car : C

abbrev pub standing : {C : Type 0} → ℕ → Bool → PortView → C → Standing C
standing last arrived port car = record { last = last; arrived = arrived; port = port; car = car }

-- What it asks: it reports the stop that it went to with its next number, else it reports its
-- place, with number 0.
abbrev pub ask_at : (arrived : Bool) → (last : ℕ) → Position → Ask
ask_at true last position = record { number = last + 1; body = Stop position.floor position.dir }
ask_at false last position = record { number = 0; body = Place position.floor position.dir }

-- the stop that an answer names
abbrev pub stop_in : Reply → Option StopAt
stop_in (Car car) = None
stop_in (Stopped next) = next
stop_in (Placed next) = next
stop_in (Refused reason) = None
stop_in Unknown = None

-- A stop that is taken is the last one, where its number is above.
abbrev pub last_after : (last number : ℕ) → Reply → ℕ
last_after last number (Car car) = last
last_after last number (Stopped next) = if nat_lt last number then number else last
last_after last number (Placed next) = last
last_after last number (Refused reason) = last
last_after last number Unknown = last

abbrev pub position_at : StopAt → Position
position_at stop = record { floor = stop.floor; dir = stop.dir }

abbrev pub has_stop : Option StopAt → Bool
has_stop None = false
has_stop (Some stop) = true

-- It halts beside its port, which is seen so.
abbrev pub HaltsBeside : {C P : Type 0} → (view : P → PortView) → (halts : C → P → C → Type 0)
    → (before : C) → PortView → (after : C) → Type 0
HaltsBeside view halts before seen after =
    (port : _) × (view port ≡ seen) × halts before port after

-- It goes to this stop, once, and halts there while its port is so; or it stays.
abbrev pub GoesToStop : {C : Type 0} → (stands : C → Position) → (goes : C → StopAt → C → Type 0)
    → (halts : C → PortView → C → Type 0)
    → (before : C) → Option StopAt → PortView → (after : C) → Type 0
GoesToStop stands goes halts before None port after = after ≡ before
GoesToStop stands goes halts before (Some stop) port after =
    (there : _) × goes before stop there × halts there port after
    × (stands after ≡ position_at stop)

-- Where no stop was heard the port rests once.
abbrev pub RestsWithoutStop : Option StopAt → (before after : PortView) → Type 0
RestsWithoutStop None before after = after ≡ rested before
RestsWithoutStop (Some stop) before after = after ≡ before

-- a refusal and Unknown end the drive
abbrev pub GoesOn : Reply → Type 0
GoesOn (Car car) = Unit {0}
GoesOn (Stopped next) = Unit {0}
GoesOn (Placed next) = Unit {0}
GoesOn (Refused reason) = ⊥
GoesOn Unknown = ⊥

-- and why it ended
abbrev pub EndsWith : Reply → Ending → Type 0
EndsWith (Car car) end = ⊥
EndsWith (Stopped next) end = ⊥
EndsWith (Placed next) end = ⊥
EndsWith (Refused reason) end = end ≡ EndRefused reason
EndsWith Unknown end = end ≡ EndUnknown

-- It asks, hears this answer, and goes to the answer's stop before anything else is asked, or rests.
pub record Errand {C : Type 0} (stands : C → Position) (goes : C → StopAt → C
    → Type 0) (halts : C → PortView → C
    → Type 0) (looks : ℕ) (reply : Reply) (before after : Standing C) : Type 0 where
  pub room : before.arrived ≡ true → before.last < 16777215
  pub answered : PortView
  pub port : PortDid looks before.port
      (Answered (ask_at before.arrived before.last (stands before.car)) reply) answered
  pub rests : RestsWithoutStop (stop_in reply) answered after.port
  pub last : after.last ≡ last_after before.last
      (ask_at before.arrived before.last (stands before.car)).number reply
  pub moves : GoesToStop stands goes halts before.car (stop_in reply) answered after.car
  pub arrived : after.arrived ≡ has_stop (stop_in reply)

-- one errand after another
abbrev pub DoesErrands : {C : Type 0} → (stands : C → Position) → (goes : C → StopAt → C → Type 0)
    → (halts : C → PortView → C → Type 0)
    → (looks : ℕ) → List Reply → Standing C → Standing C → Type 0
DoesErrands stands goes halts looks [] before after = after ≡ before
DoesErrands stands goes halts looks (reply ∷ replies) before after =
    (mid : Standing _) × Errand stands goes halts looks reply before mid × GoesOn reply
    × DoesErrands stands goes halts looks replies mid after

-- Why it asks no more, or what came of its last ask; the car stays.
abbrev pub LastAsk : {C : Type 0} → (stands : C → Position) → (looks : ℕ) → Ending
    → (before after : Standing C) → Type 0
LastAsk stands looks Limit before after = (before.arrived ≡ true) × (before.last ≡ 16777215)
    × (after.port ≡ before.port)
LastAsk stands looks Late before after =
    PortDid looks before.port (NotAnswered (ask_at before.arrived before.last (stands before.car)))
    after.port
LastAsk stands looks Spent before after =
    PortDid looks before.port (NotTaken (ask_at before.arrived before.last (stands before.car)))
    after.port
LastAsk stands looks (EndRefused reason) before after =
    PortDid looks before.port
    (Answered (ask_at before.arrived before.last (stands before.car)) (Refused reason)) after.port
LastAsk stands looks EndUnknown before after =
    PortDid looks before.port
    (Answered (ask_at before.arrived before.last (stands before.car)) Unknown) after.port

-- the last command follows an answer that is brought in, too
abbrev pub last_opened : ℕ → Opening → ℕ
last_opened last Free = last
last_opened last (BroughtIn number reply) = last_after last number reply
last_opened last StillWaits = last

-- the last stop that the answers name
abbrev pub later_stop : (later earlier : Option StopAt) → Option StopAt
later_stop None earlier = earlier
later_stop (Some stop) earlier = Some stop

abbrev pub last_stop : List Reply → Option StopAt
last_stop [] = None
last_stop (reply ∷ replies) = later_stop (last_stop replies) (stop_in reply)

-- the car says that it is at this stop, or it is where it was
abbrev pub TellsStop : {C : Type 0} → (stands : C → Position) → (before : C) → Option StopAt
    → (after : C)
    → Type 0
TellsStop stands before None after = after ≡ before
TellsStop stands before (Some stop) after = stands after ≡ position_at stop

-- A drive that brought an earlier answer in, if one was pending: it heard these answers to its own
-- asks, and ended since it may ask no more, or by its last ask.
pub record Drives {C : Type 0} (stands : C → Position) (goes : C → StopAt → C
    → Type 0) (halts : C → PortView → C → Type 0) (limits : Limits) (end : Ending) (before after : Standing C) : Type 0 where
  pub opening : Opening
  pub begun : Standing C
  pub replies : List Reply
  pub stood : Standing C
  pub opens : PortOpened limits.looks before.port opening begun.port
  pub ready : opening ≢ StillWaits
  pub first : begun.last ≡ last_opened before.last opening
  pub placing : begun.arrived ≡ false
  pub parked : begun.car ≡ before.car
  pub runs : DoesErrands stands goes halts limits.looks replies begun stood
  pub ends : ((length replies ≡ limits.lines) × (end ≡ Limit) × (after ≡ stood))
      ⊎ ((length replies < limits.lines) × LastAsk stands limits.looks end stood after)
  pub number : after.last ≡ stood.last
  pub stays : after.car ≡ stood.car
  pub tells : TellsStop stands before.car (last_stop replies) after.car

-- The answer to an earlier ask was not heard.
pub record WaitsStill {C : Type 0} (limits : Limits) (end : Ending)
    (before after : Standing C) : Type 0 where
  pub late : end ≡ Late
  pub port : PortOpened limits.looks before.port StillWaits after.port
  pub number : after.last ≡ before.last
  pub stays : after.car ≡ before.car

abbrev pub IsDrive : {C : Type 0} → (stands : C → Position) → (goes : C → StopAt → C → Type 0)
    → (halts : C → PortView → C → Type 0) → Limits → Ending → (before after : Standing C) → Type 0
IsDrive stands goes halts limits end before after = WaitsStill limits end before after
    ⊎ Drives stands goes halts limits end before after
