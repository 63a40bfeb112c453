-- A terminal's sessions, one after the other.
use Rattle.std.specs.Prelude.{ℕ, ◌≡◌, Bool, true, false, nat_lt, List, [], ◌∷◌, Option, Some, None}
use Rattle.lift_desk.specs.Rule.{no_asks}
use Rattle.atomic_table.specs.Seated.{TableId}
use Rattle.lift_base.specs.Output.{Sink}
use Rattle.lift_base.specs.declared.history.Content.{Content}
use Rattle.lift_base.specs.declared.history.Content.TheVariants.{Letter, Stopped}
use Rattle.lift_base.specs.declared.history.Last.{Last}
use Rattle.lift_desk.specs.Seats.{IsSeatOf, TerminalSeat}
use Rattle.lift_kiosk.specs.Desk.{port_view}
use Rattle.lift_kiosk.specs.Lines.{Source}
use Rattle.lift_kiosk.specs.Kiosk.{WantsCall, keeps_letter}
use Rattle.lift_kiosk.specs.Port.{PortView}
use Rattle.lift_kiosk.specs.Session.{Converses, Standing, standing}
use Rattle.lift_base.specs.declared.limits.TheConstants.{FIRST_KIOSK}
use Rattle.lift_kiosk.specs.declared.terms.End.{End}
use Rattle.lift_kiosk.specs.declared.terms.LastLetter.{LastLetter}
use Rattle.lift_kiosk.specs.declared.terms.Limits.{Limits}
use Rattle.lift_car.specs.Lines.{WantsMove, keeps_stop}

-- nobody has asked at the seat
abbrev pub IsNewSeat : TerminalSeat → Type 0
IsNewSeat seat = seat.view ≡ no_asks

-- what a session may use at most: lines answered, looks for each answer, calls of the reader
abbrev pub limits : Limits
limits = record { lines = 1000000; looks = 60000; reads = 100000000 }

abbrev pub IsVisitAs : (is_car : Bool) → End → (before after : Standing) → Type 0
IsVisitAs true end before after = Converses WantsMove keeps_stop limits end before after
IsVisitAs false end before after = Converses WantsCall keeps_letter limits end before after

-- a session of the terminal: those of the cars come first
abbrev pub IsVisit : (terminal : ℕ) → End → (before after : Standing) → Type 0
IsVisit terminal end before after = IsVisitAs (nat_lt terminal FIRST_KIOSK) end before after

-- one session: why it ended, and where it stood before and after
pub record SessionVisit : Type 0 where
  pub end : End
  pub before : Standing
  pub after : Standing

-- a port that is made anew over the same seat
abbrev pub unrested : PortView → PortView
unrested port = record port { rests = 0 }

-- Each session began where the one before it ended, with the last command and the seat alike.
abbrev pub AreVisits : (terminal : ℕ) → LastLetter → PortView → List SessionVisit → LastLetter
    → PortView
    → Type 0
AreVisits terminal last port [] last' port' = (last' ≡ last) × (port' ≡ port)
AreVisits terminal last port (v ∷ vs) last' port' = (v.before.last ≡ last) × (v.before.port ≡ port)
    × IsVisit terminal v.end v.before v.after
    × AreVisits terminal v.after.last (unrested v.after.port) vs last' port'

-- a terminal's place: its desk's tables, its seat, the last command that is known, and the one that
-- the recovery found
pub record HeldState : Type 0 where
  pub desk : List TableId
  pub seat : TerminalSeat
  pub last : LastLetter
  pub found : LastLetter

-- a new port over the seat
abbrev pub view_of : TerminalSeat → PortView
view_of seat = port_view seat.view 0

-- The seat is of the desk, and what is known came from what the recovery found, at a new seat, by
-- sessions one after the other.
pub record IsServedSeat (held : HeldState) : Type 0 where
  pub seated : IsSeatOf held.desk held.seat
  pub visits : List SessionVisit
  pub are_visits : AreVisits held.seat.terminal held.found (port_view no_asks 0) visits held.last
      (view_of held.seat)

-- A session of the place, which ended so: from what was known, over this reader and this writer.
-- The seat stays its desk's and its terminal's.
pub record Visits (held : HeldState) (end : End) (held' : HeldState) (source source' : Source)
    (sink sink' : Sink) : Type 0 where
  pub rests : ℕ
  pub visit : IsVisit held.seat.terminal end (standing held.last (view_of held.seat) source sink)
      (standing held'.last (port_view held'.seat.view rests) source' sink')
  pub desk : held'.desk ≡ held.desk
  pub table : held'.seat.table ≡ held.seat.table
  pub terminal : held'.seat.terminal ≡ held.seat.terminal
  pub found : held'.found ≡ held.found

-- the letter that a call got; a stop has none
abbrev pub letter_in : Content → Option ℕ
letter_in (Letter from to car party) = Some car
letter_in (Stopped floor dir) = None

-- what is known of a terminal's last command; the number is 0 where there was none
abbrev pub known_of : Option Last → LastLetter
known_of None = record { number = 0; letter = None }
known_of (Some last) = record { number = last.number; letter = letter_in last.content }
