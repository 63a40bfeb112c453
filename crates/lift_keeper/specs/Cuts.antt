-- What each cut leaves of a run that has failed.
use Rattle.std.specs.Prelude.{◌≡◌, ◌≢◌, ◌<◌, ◌≤◌, ◌+◌, ℕ, Bool, MatchBool}
use Rattle.lift_disk.specs.Disk.{DiskState, Image, IsFilled, LeavesNow}

-- The run turns images with P into images with Q by a mark, which it writes after this many calls
-- and then makes safe. The device has failed a call, and changed no byte in it. Until the mark's
-- write every cut leaves P. The run may also take the mark away: then P has it.
pub record FailsAtMark (P Q : Image → Type 0) (unmarks : Bool) (made : ℕ) (old new : DiskState)
    : Type 0 where
  pub early : new.calls ≤ old.calls + made → LeavesNow new P
  -- a cut that keeps: P where the mark's write failed, Q where its sync did
  pub keeps_old : new.calls ≡ old.calls + made + 1 → P new.image
  pub keeps_new : new.calls ≡ old.calls + made + 2 → Q new.image
  -- a cut that loses
  pub loses : old.calls + made < new.calls → P new.synced
  -- a cut that fills: by whether its byte is the mark
  pub fills_mark : old.calls + made < new.calls → (left : Image) → IsFilled 165 new left
      → MatchBool unmarks (P left) (Q left)
  pub fills_other : old.calls + made < new.calls → (byte : ℕ) (left : Image) → byte ≢ 165
      → IsFilled byte new left → MatchBool unmarks (Q left) (P left)
