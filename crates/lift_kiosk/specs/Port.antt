-- A terminal's port, as contracts see it.
use Rattle.std.specs.Prelude.{◌≡◌, ℕ, Bool, List, [], ◌∷◌, ◌++◌, Option, Some}
use Rattle.atomic_table.specs.Seated.{TableId}
use Rattle.lift_base.specs.declared.command.Reply.{Reply}
use Rattle.lift_desk.specs.declared.words.Ask.{Ask}

-- which seat a port has: its desk's tables, its own one, and its terminal
pub record PortPlace : Type 0 where
  pub desk : List TableId
  pub table : TableId
  pub terminal : ℕ

pub record PortView : Type 0 where
  pub pending : Option ℕ  -- the number of the ask whose answer was not heard
  pub spent : Bool  -- no turn is left for a further ask
  pub asked : List Ask  -- every ask that was stored
  pub heard : List Reply  -- every answer that was heard
  pub looks : ℕ  -- how often it looked for one
  pub rests : ℕ  -- how often it rested

-- one ask more was stored, and waits for its answer
pub record AsksOne (before : PortView) (ask : Ask) (after : PortView) : Type 0 where
  pub pending : after.pending ≡ Some ask.number
  pub asked : after.asked ≡ before.asked ++ ask ∷ []
  pub heard : after.heard ≡ before.heard
  pub looks : after.looks ≡ before.looks
  pub rests : after.rests ≡ before.rests
