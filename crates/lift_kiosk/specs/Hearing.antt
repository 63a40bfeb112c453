-- How an answer is waited for.
use Rattle.std.specs.Prelude.{◌≡◌, ℕ, ◌+◌, ◌<◌, [], ◌∷◌, ◌++◌, Option, Some, None}
use Rattle.lift_base.specs.declared.command.Reply.{Reply}
use Rattle.lift_kiosk.specs.Port.{PortView}

-- a look that found no answer
abbrev pub missed : PortView → PortView
missed before = record before { looks = before.looks + 1 }

-- a rest
abbrev pub rested : PortView → PortView
rested before = record before { rests = before.rests + 1 }

-- so many looks that found no answer, and a rest after each
abbrev pub looked : PortView → ℕ → PortView
looked before looks = record before { looks = before.looks + looks; rests = before.rests + looks }

-- a look that found this answer
abbrev pub heard : PortView → Reply → PortView
heard before reply = record before {
  pending = None;
  heard = before.heard ++ reply ∷ [];
  looks = before.looks + 1;
}

-- The port looked until an answer came, at most so many times, and rested after each look that
-- found none. Where none came, all of these looks were made.
abbrev pub WaitsForReply : (limit : ℕ) → (before : PortView) → Option Reply → (after : PortView)
    → Type 0
WaitsForReply limit before None after = after ≡ looked before limit
WaitsForReply limit before (Some reply) after = (misses : ℕ) × (misses < limit)
    × (after ≡ heard (looked before misses) reply)
