-- What a clerk holds: its seats at a desk, its keeper, and the policy that names cars.
use Rattle.std.specs.Prelude.{ℕ, ◌≡◌, ◌⊎◌, Bool, true, List, []}
use Rattle.atomic_table.specs.Seated.{TableId}
use Rattle.lift_base.specs.declared.history.Entry.{Entry}
use Rattle.lift_desk.specs.Seats.{ClerkPlace, IsClerkOf, OwesNothing, view_at, clerk_with}
use Rattle.lift_desk.specs.Steps.{with_told_asks}
use Rattle.lift_keeper.specs.Keeper.{KeeperView}

-- what a caller sees of a clerk over a device, with a policy
pub record ClerkState (D P : Type 0) : Type 0 where
  pub desk : List TableId
  pub seat : List ClerkPlace
  pub keeper : KeeperView D
  pub policy : P

-- What is true of every clerk between its turns: its seats are the desk's, each ask that it took is
-- answered, and nothing waits for a commit, unless the keeper is broken.
pub record IsClerk (desk : List TableId) (seat : List ClerkPlace) (batch : List Entry)
    (is_broken : Bool) : Type 0 where
  pub seated : IsClerkOf desk seat
  pub answered : OwesNothing seat
  pub empty_batch : (batch ≡ []) ⊎ (is_broken ≡ true)

-- The clerk was told that these words were asked at a terminal, and nothing else changed.
abbrev pub IsToldAt : {D P : Type 0} → ClerkState D P → ClerkState D P → ℕ → List ℕ → Type 0
IsToldAt old new terminal words =
    new ≡ record old {
      seat = clerk_with old.seat terminal
          (with_told_asks (view_at old.seat terminal) words);
    }
