-- A plain word of digits is what is printed of its number.
use Rattle.std.proofs.Common.{◌≡◌, ◌≢◌, ℕ, ◌+◌, ◌^◌, ◌≤◌, ◌<◌, true, List, [], ◌∷◌, ◌++◌, ◌%◌}
use Rattle.std.proofs.Common.{length, get_or, Result, Ok, Err, refl, sym, ap, subst, ◌∙◌, rules}
use Rattle.std.proofs.Common.{arith, inl, inr}
use Rattle.std.specs.Fmt.{decimal}
use Rattle.std.specs.Str.{all_ascii_digits}
use Rattle.std.specs.Str.Parse.{ParsesUnsigned, digits_value}
use Rattle.std.proofs.lemmas.Bool.{cases_lt}
use Rattle.std.proofs.lemmas.Result.{OkIff-at_ok}
use Rattle.std.proofs.lemmas.Str.Parse.{IsNumeralModel, numerals_by_value, parse_plain}
use Rattle.std.proofs.lemmas.Fmt.{decimal_nonempty, decimal_by_steps, first_decimal, decimal_digit}
use Rattle.std.proofs.lemmas.Fmt.{decimal-digits_value, parse-decimal}
use Rattle.std.specs.List.{AllByRecursion}
use Rattle.std.proofs.lemmas.List.Elements.{All-from_recursion}
use Rattle.lift_base.specs.Text.{IsPlain}

own : IsNumeralModel (λ ds. all_ascii_digits ds ≡ true) (digits_value 10)
own = numerals_by_value _ (search rules)

pub printed_is_plain : (n : ℕ) → n < 2 ^ 32 → IsPlain (decimal n)
printed_is_plain n small =
    elim (cases_lt n 1) [
      | inl none ↦
          (let printed : decimal n ≡ 48 ∷ [] = decimal_digit n (omega arith) ∙ ap (λ k.
          (48 + k) ∷ []) (let k : n ≡ 0 = omega arith in k) in
          subst IsPlain (sym printed) (record {
            some = omega arith;
            unsigned = λ e. omega arith;
            shortest = λ _. refl;
          }))
      | inr some ↦
          (let first = first_decimal n some (omega arith) in
          record {
            some = decimal_nonempty n (omega arith);
            unsigned = λ e. omega arith;
            shortest = λ e. absurd (omega arith);
          })
    ]

pub plain_is_printed : {E : Type 0} (word : List ℕ) (r : Result ℕ E) (n : ℕ) → IsPlain word
    → ParsesUnsigned 32 10 word r → r ≡ Ok n → word ≡ decimal n
plain_is_printed word r n plain parses ok =
    let read = OkIff-at_ok r _ (digits_value 10 word) n
    (parse_plain own 32 word r parses plain.unsigned) ok in
    sym (ap decimal read.1 ∙ decimal-digits_value own word read.0.0 plain.some plain.shortest
    (omega (arith, read.0.2)))

pub no_other : {E : Type 0} (word : List ℕ) (r : Result ℕ E) (e : E) (n : ℕ)
    → ParsesUnsigned 32 10 word r → r ≡ Err e → n < 2 ^ 32 → word ≢ decimal n
no_other word r e n parses failed small same =
    let ok = parse-decimal 32 n word r small (omega arith) same parses in
    cc

pub not_plain : (word : List ℕ) (n : ℕ) → (IsPlain word → ⊥) → n < 2 ^ 32 → word ≢ decimal n
not_plain word n rough small same = rough (subst IsPlain (sym same) (printed_is_plain n small))

digits_pushed : (ds : List ℕ) (b : ℕ) → AllByRecursion (λ b. 48 ≤ b) ds → 48 ≤ b
    → AllByRecursion (λ b. 48 ≤ b) (ds ++ (b ∷ []))
digits_pushed [] b each le = (le, tt)
digits_pushed (d ∷ ds) b each le = (each.0, digits_pushed ds b each.1 le)

pub digits_only : (n : ℕ) → n < 2 ^ 64 → AllByRecursion (λ b. 48 ≤ b) (decimal n)
digits_only n small = decimal_by_steps (λ _ ds. AllByRecursion (λ b. 48 ≤ b) ds) (λ n lt.
    (omega arith, tt)) (λ n ds le so_far.
    digits_pushed ds (48 + n % 10) so_far (omega arith)) n small

-- what is printed of a number has no space
pub no_space : (n : ℕ) → n < 2 ^ 32 → (i : ℕ) → i < length (decimal n) → get_or (decimal n) i 0 ≢ 32
no_space n small i lt same = let digit =
    All-from_recursion (λ b. 48 ≤ b) (decimal n) (digits_only n (omega arith)) i 0 lt in omega arith
