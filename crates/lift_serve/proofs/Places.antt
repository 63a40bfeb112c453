-- Seats and pagers that stand by terminal.
use Rattle.std.proofs.Common.{◌≡◌, ℕ, suc, zero, List, [], ◌∷◌, ◌++◌, ap, refl, ◌∙◌, length, length-set, subst, arith}
use Rattle.std.specs.Prelude.{Option, Some, None, slice_get, slice_set, ◌+◌}
use Rattle.std.proofs.lemmas.Grind.{common_steps}
use Rattle.std.proofs.lemmas.List.{set-get_or}
use Rattle.std.proofs.lemmas.Option.{gets, get_or_from_slice_get, slice_get-map}
use Rattle.atomic_table.specs.Seated.{TableId}
use Rattle.lift_desk.specs.Seats.{TerminalSeat, seats_from}
use Rattle.lift_register.specs.Register.{RegisterState}
use Rattle.lift_serve.specs.Lobby.{IsLobbyOf, found_seats, found_at}
use Rattle.lift_serve.specs.Visits.{HeldState, IsNewSeat}

pub is_at_its_place : (desk : List TableId) (places : List (Option HeldState)) (at : ℕ) (held : HeldState) → IsLobbyOf desk places → slice_get places at ≡ Some (Some held)
    → held.seat.terminal ≡ at
is_at_its_place desk places at held lobby is = lobby.own at (Some held) is

pub own_place : (desk : List TableId) (places : List (Option HeldState)) (at : ℕ) (held : HeldState) → IsLobbyOf desk places → held.seat.terminal ≡ at
    → IsLobbyOf desk (slice_set places at (Some held))
own_place desk places at held lobby own = record { own = λ place seat is. grind (arith, common_steps, gets); all = length-set places at (Some held) ∙ lobby.all }

pub nothing_taken : (places : List (Option HeldState)) (at : ℕ) → slice_get places at ≡ Some None → slice_set places at None ≡ places
nothing_taken places at is = subst (λ (p : Option HeldState). slice_set places at p ≡ places) (get_or_from_slice_get places at None None is) (set-get_or places at None)

-- the seats of a desk are new, and stand by terminal
seats_stand : (first : ℕ) (desk : List TableId) (place : ℕ) (seat : TerminalSeat) → slice_get (seats_from first desk) place ≡ Some seat
    → (seat.terminal ≡ first + place) × IsNewSeat seat
seats_stand first [] place seat is = cc
seats_stand first (table ∷ desk) zero seat is = grind arith
seats_stand first (table ∷ desk) (suc place) seat is = grind (arith, seats_stand (suc first) desk place seat is)

as_many : (first : ℕ) (desk : List TableId) → length (seats_from first desk) ≡ length desk
as_many first [] = refl
as_many first (table ∷ tables) = ap suc (as_many (suc first) tables)

pub next_is_new : (desk : List TableId) (before : List TerminalSeat) (seat : TerminalSeat) (rest : List TerminalSeat) → before ++ seat ∷ rest ≡ seats_from 0 desk → IsNewSeat seat
next_is_new desk before seat rest split = grind (arith, common_steps, gets, seats_stand 0 desk (length before) seat)

-- the next seat's place is after those that were received
pub next_place : (register : RegisterState) (desk : List TableId) (before : List TerminalSeat) (seat : TerminalSeat) (rest : List TerminalSeat) (held : HeldState) (places : List (Option HeldState))
    → before ++ seat ∷ rest ≡ seats_from 0 desk → held ≡ found_at register desk seat → places ≡ found_seats register desk before → held.seat.terminal ≡ length places
next_place register desk before seat rest held places split is are = grind (arith, common_steps, gets, seats_stand 0 desk (length before) seat)

-- all of them are a lobby
pub is_lobby : (register : RegisterState) (desk : List TableId) (places : List (Option HeldState)) → places ≡ found_seats register desk (seats_from 0 desk) → IsLobbyOf desk places
is_lobby register desk places are = record {
  own = λ place seat is. grind (arith, common_steps, gets, slice_get-map, seats_stand 0 desk place);
  all = grind (arith, common_steps, as_many 0 desk);
}
