-- Numbers of one digit, pushed without a formatter.
use Rattle.std.proofs.Common.{◌≡◌, ◌∙◌, ◌<◌, ◌+◌, ◌++◌, [], ◌∷◌, ℕ, List, ap, sym, decimal}
use Rattle.std.specs.Prelude.{Result, Ok, Err, OnOk}
use Rattle.std.proofs.lemmas.Fmt.{decimal_digit}

-- a number of one digit is pushed as that digit
pub digit_pushed : {T E : Type 0} (result : Result T E) (old new : List ℕ) (number digit : ℕ) → number < 10
    → OnOk result (new ≡ old ++ digit ∷ []) → digit ≡ 48 + number → OnOk result (new ≡ old ++ decimal number)
digit_pushed (Ok x) old new number digit small is at =
    is ∙ ap (λ l. old ++ l) (ap (λ (d : ℕ). d ∷ []) at ∙ sym (decimal_digit number small))
digit_pushed (Err e) old new number digit small is at = tt
