-- Where seats wait, and what is known of one that doesn't.
use Rattle.std.specs.Prelude.{ℕ, ◌≡◌, Bool, List, map, Option, Some, IfSome, length, slice_get}
use Rattle.atomic_table.specs.Seated.{TableId}
use Rattle.lift_desk.specs.Seats.{TerminalSeat}
use Rattle.lift_register.specs.Register.{RegisterState, last_of}
use Rattle.lift_serve.specs.Visits.{HeldState, known_of}

-- a lobby: its desk's tables, and the places of the desk's terminals, by terminal; the seat of a
-- place may be out
pub record LobbyState : Type 0 where
  pub desk : List TableId
  pub places : List (Option HeldState)

-- the terminal whose seat was asked for, the desk of the lobby that was asked, and whether the seat was
-- out there; else the desk has no such terminal
pub record NoSeatState : Type 0 where
  pub desk : List TableId
  pub terminal : ℕ
  pub is_out : Bool

-- each of these is of its place
abbrev pub StandEach : {X : Type 0} → (IsOf : X → ℕ → Type 0) → List X → Type 0
StandEach {X} IsOf all = (place : ℕ) (one : X) → slice_get all place ≡ Some one → IsOf one place

-- each seat that waits is that of its place's terminal
abbrev pub AreAtTheirPlaces : List (Option HeldState) → Type 0
AreAtTheirPlaces =
    StandEach (λ seat place. IfSome seat (λ (held : HeldState). held.seat.terminal ≡ place))

-- There is a place for each terminal of the desk, and each seat that waits is that of its place's
-- terminal.
pub record IsLobbyOf (desk : List TableId) (places : List (Option HeldState)) : Type 0 where
  pub own : AreAtTheirPlaces places
  pub all : length places ≡ length desk

-- a new seat's place, with what a register has of its terminal's last command
abbrev pub found_at : RegisterState → List TableId → TerminalSeat → HeldState
found_at register desk seat =
    record {
      desk = desk;
      seat = seat;
      last = known_of (last_of register seat.terminal);
      found = known_of (last_of register seat.terminal);
    }

-- each of these seats, at its place
abbrev pub found_seats : RegisterState → List TableId → List TerminalSeat → List (Option HeldState)
found_seats register desk seats =
    map (λ (seat : TerminalSeat). Some (found_at register desk seat)) seats

-- each pager is that of its place's terminal
abbrev pub AreInOrder : List ℕ → Type 0
AreInOrder = StandEach (λ terminal place. terminal ≡ place)
