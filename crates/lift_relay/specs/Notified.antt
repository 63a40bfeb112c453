-- Who is notified that a device fails.
use Rattle.std.specs.Prelude.{◌≡◌, Bool, true, false}

-- A writer that wasn't broken is, and the witness was notified, once; else it is as it was.
abbrev pub FailureNotified : {V : Type 0} → (is_notified : V → V → Type 0) → (was_broken is_broken : Bool)
    → (old new : V) → Type 0
FailureNotified is_notified false true old new = is_notified old new
FailureNotified is_notified _ _ old new = new ≡ old
