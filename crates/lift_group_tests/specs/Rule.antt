-- When a device fails that can be armed to fail once, or from then on.
use Rattle.std.specs.Prelude.{◌≡◌, ◌+◌, ◌<◌, ◌⊎◌, ℕ}
use Rattle.std.proofs.Common.{arith}
use Rattle.lift_disk.specs.Faults.{CountsDown}

-- Armed with less than a million it fails every call after so many. Armed with so many more it fails the last of them alone.
abbrev pub OnceOrOn : ℕ → ℕ → ℕ → Type 0
OnceOrOn armed made call = (made + armed < call) ⊎ (made + armed ≡ call + 1000000)

pub once_or_on_counts_down : CountsDown OnceOrOn
once_or_on_counts_down left made call later =
    (λ fails. grind (arith, fails, later), λ fails. grind (arith, fails, later))
