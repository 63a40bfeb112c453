-- What an opening makes of the batches of a journal that it reads, and the register that this
-- gives.
use Rattle.std.specs.Prelude.{◌≡◌, ◌≢◌, ◌<◌, ◌⊎◌, ℕ, Bool, true, false, List}
use Rattle.lift_base.specs.declared.history.Record.{Record}
use Rattle.lift_base.specs.declared.history.Shape.{Shape}
use Rattle.lift_building.specs.Plan.{Plan, shape_of}
use Rattle.lift_register.specs.Prelude.{RegisterState, BelongsTo, IsBalanced, IsWellFormed}
use Rattle.lift_keeper.specs.declared.fault.KeeperFault.{KeeperFault}
use Rattle.lift_keeper.specs.declared.fault.KeeperFault.TheVariants.{Journal, OtherBuilding}
use Rattle.lift_keeper.specs.declared.fault.KeeperFault.TheVariants.{BadEntry}
use Rattle.lift_keeper.specs.Recovery.{RecoveryState, beginning, AllPass, all_passed, EndsAtMisfit}

-- what was taken in of the batches so far
pub record ReadingState : Type 0 where
  pub recovery : RecoveryState
  -- a record couldn't be taken, and none after it is
  pub is_over : Bool

-- before the first batch
abbrev pub reading_from : Plan → ReadingState
reading_from plan = record { recovery = beginning plan; is_over = false }

-- more records than a journal has room for
abbrev pub most_records : ℕ
most_records = 4000000000

-- What one batch makes of it: its records are taken, up to the first that can't be. Once there is
-- one, nothing more is.
pub record ReadsBatch (old : ReadingState) (records : List Record)
    (new : ReadingState) : Type 0 where
  pub plan : new.recovery.plan ≡ old.recovery.plan
  pub rests : old.is_over ≡ true → new ≡ old
  pub passes : old.is_over ≡ false → new.is_over ≡ false
      → AllPass old.recovery records × (new.recovery ≡ all_passed old.recovery records)
  pub ends : old.is_over ≡ false → new.is_over ≡ true
      → EndsAtMisfit old.recovery new.recovery records ⊎ (most_records < old.recovery.taken)

-- what it gives at the end of the chain: no checkpoint is open
pub record GivesAtEnd (reading : ReadingState) (register : RegisterState) : Type 0 where
  pub whole : reading.is_over ≡ false
  pub closed : reading.recovery.is_open ≡ false
  pub same : register ≡ reading.recovery.register
  pub lawful : IsWellFormed register
  pub belongs : BelongsTo reading.recovery.plan register
  pub balanced : IsBalanced register

-- why it gives none: the building comes first, then the first record that doesn't fit
abbrev pub GivesNone : KeeperFault → Plan → Shape → ReadingState → Type 0
GivesNone (Journal fault) plan shape reading = ⊥
GivesNone OtherBuilding plan shape reading = shape ≢ shape_of plan shape.half
GivesNone (BadEntry place) plan shape reading = (shape ≡ shape_of plan shape.half)
    × (place ≡ reading.recovery.taken)
    × ((reading.is_over ≡ true) ⊎ (reading.recovery.is_open ≡ true))
