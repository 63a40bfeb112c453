-- Numbers as they are written.
use Rattle.std.proofs.Common.{◌≡◌, ℕ, ◌+◌, ◌<◌, ◌≤◌, ◌/◌, ◌%◌, List, [], ◌∷◌, ◌++◌, length, sym, ap, ◌∙◌, arith}
use Rattle.std.specs.Fmt.{decimal}
use Rattle.std.proofs.lemmas.Fmt.{decimal_step, length-decimal-le}
use Rattle.std.proofs.lemmas.List.{length-append}
use mathlib.Core.List.{append_assoc}

pub last_digit : (text mid new : List ℕ) (n : ℕ) → 10 ≤ n → n < 16777216 → mid ≡ text ++ decimal (n / 10) → new ≡ mid ++ (48 + n % 10) ∷ [] → new ≡ text ++ decimal n
last_digit text mid new n some small front all =
    all ∙ ap (λ (t : List ℕ). t ++ (48 + n % 10) ∷ []) front ∙ append_assoc text (decimal (n / 10)) ((48 + n % 10) ∷ [])
    ∙ ap (λ (t : List ℕ). text ++ t) (sym (decimal_step n some (omega arith)))

pub few_digits : (text new : List ℕ) (n : ℕ) → n < 100 → new ≡ text ++ decimal n → length new ≤ length text + 2
few_digits text new n small all = omega (arith, ap length all, length-append text (decimal n), length-decimal-le 2 n (omega arith) (omega arith) (omega arith))

pub eight_digits : (text new : List ℕ) (n : ℕ) → n < 16777216 → new ≡ text ++ decimal n → length new ≤ length text + 8
eight_digits text new n small all = omega (arith, ap length all, length-append text (decimal n), length-decimal-le 8 n (omega arith) (omega arith) (omega arith))
