-- What a phase is not.
use Rattle.std.proofs.Common.{ℕ, ◌≡◌, true, false, Some, refl}
use Rattle.std.proofs.lemmas.Bool.{false≢true}
use Rattle.lift_world.specs.declared.event.Phase.{Phase}
use Rattle.lift_world.specs.declared.event.Phase.TheVariants.{Idle, Writing, Synced, GateWritten}
use Rattle.lift_world.specs.World.{is_idle, is_synced, is_gate_written, written}

pub not_idle : (phase : Phase) → is_gate_written phase ≡ true → is_idle phase ≡ false
not_idle Idle h = absurd (false≢true h)
not_idle (Writing n) h = absurd (false≢true h)
not_idle Synced h = absurd (false≢true h)
not_idle GateWritten h = refl

pub not_idle_synced : (phase : Phase) → is_synced phase ≡ true → is_idle phase ≡ false
not_idle_synced Idle h = absurd (false≢true h)
not_idle_synced (Writing n) h = absurd (false≢true h)
not_idle_synced Synced h = refl
not_idle_synced GateWritten h = absurd (false≢true h)

pub writing_busy : (phase : Phase) (n : ℕ) → written phase ≡ Some n → is_idle phase ≡ false
writing_busy Idle n h = cc
writing_busy (Writing m) n h = refl
writing_busy Synced n h = refl
writing_busy GateWritten n h = refl
