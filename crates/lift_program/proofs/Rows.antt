-- What the rows of `format` and `show` say of their words.
use Rattle.std.proofs.Common.{◌≡◌, ◌<◌, ◌^◌, Bool, true, false, Option, Some, None, List, ℕ, Bor, codes, option_map, ap, sym, subst, ◌∙◌, arith}
use Rattle.std.specs.Prelude.{IfNone}
use Rattle.std.specs.Fmt.{decimal}
use Rattle.std.proofs.lemmas.Fmt.{decimal_injective}
use Rattle.clap.specs.Words.{Row, Text, first_of, first_value, rows_of}
use Rattle.clap.specs.declared.parser.matches.Found.{Found}
use Rattle.clap.proofs.WalkLemmas.{first_value-rows}
use Rattle.lift_base.specs.declared.limits.TheConstants.{LEAST_HALF}
use Rattle.lift_base.specs.lemmas.Words.{same_text, other_text}
use Rattle.std.specs.Str.{bytes_eq}
use Rattle.lift_program.specs.Words.{AsksNothing, IsAbsentLast, IsCount, IsFormat, IsHalf, IsOver, IsServe, IsShow}
use Rattle.lift_policy.specs.declared.dispatching.Dispatching.{Dispatching}
use Rattle.lift_policy.specs.declared.policies.Shipped.{Shipped}
use Rattle.lift_program.specs.declared.words.Request.TheVariants.{Replay, Format, Show, Serve}

pub if_none : {A : Type 0} (r : Option A) (P : Type 0) → P → IfNone r P
if_none None P p = p
if_none (Some x) P p = tt

-- the value that a getter gives
pub text_in : (f : Found) (id : Text) (given is : Option (Bor Text)) → option_map (λ s. s.now) given ≡ first_value f id → given ≡ is
    → first_of id (rows_of f) ≡ option_map (λ s. s.now) is
text_in f id given is same given_is = sym (first_value-rows f id) ∙ sym same ∙ ap (option_map (λ s. s.now)) given_is

pub no_image : (rows : List Row) → first_of (codes "image") rows ≡ None → (image building : Text) → IsOver rows image building → ⊥
no_image rows none image building is = let bad = sym is.0 ∙ none in cc

pub no_building : (rows : List Row) → first_of (codes "building") rows ≡ None → (image building : Text) → IsOver rows image building → ⊥
no_building rows none image building is = let bad = sym is.1 ∙ none in cc

-- the words after a command ask for nothing where they don't ask for what it does
pub no_format : (rows : List Row) → ((image building : Bor Text) (half : ℕ) → IsFormat rows (Format image building half) → ⊥) → AsksNothing (IsFormat rows)
no_format rows none Replay is = is
no_format rows none (Show image building) is = is
no_format rows none (Serve image building port sessions policy) is = is
no_format rows none (Format image building half) is = none image building half is

pub no_serve : (rows : List Row) → ((image building : Bor Text) (port sessions : ℕ) (policy : Dispatching Shipped) → IsServe rows (Serve image building port sessions policy) → ⊥) → AsksNothing (IsServe rows)
no_serve rows none Replay is = is
no_serve rows none (Format image building half) is = is
no_serve rows none (Show image building) is = is
no_serve rows none (Serve image building port sessions policy) is = none image building port sessions policy is

pub no_files_to_show : (rows : List Row) → ((image building : Text) → IsOver rows image building → ⊥) → AsksNothing (IsShow rows)
no_files_to_show rows none Replay is = is
no_files_to_show rows none (Format image building half) is = is
no_files_to_show rows none (Serve image building port sessions policy) is = is
no_files_to_show rows none (Show image building) is = none image.now building.now is

-- a number below the least half spells no other one
pub too_small : (word : Option Text) (text : Text) (number : ℕ) → word ≡ Some text → text ≡ decimal number → number < LEAST_HALF → (half : ℕ) → IsHalf word half → ⊥
too_small word text number same spelled small half is = go (subst (λ w. IsHalf w half) same is)
  where
    go : IsHalf (Some text) half → ⊥
    go said = let equal = decimal_injective number half (omega arith) (omega (arith, said)) (sym spelled ∙ said.0) in omega (arith, equal, said, small)

-- nought is no count
pub no_count : (most : ℕ) (word : Option Text) (text : Text) (number : ℕ) → most < 2 ^ 32 → word ≡ Some text → text ≡ decimal number → number < 1 → (count : ℕ) → IsCount most word count → ⊥
no_count most word text number small same spelled none count is = go (subst (λ w. IsCount most w count) same is)
  where
    go : IsCount most (Some text) count → ⊥
    go said = let equal = decimal_injective number count (omega arith) (omega (arith, said, small)) (sym spelled ∙ said.0) in omega (arith, equal, said, none)

-- whether a word is `true`
pub there_if : (word : Text) (there : Bool) → there ≡ bytes_eq word (codes "true") → IsAbsentLast (Some word) there
there_if word true is = ap Some (same_text word (codes "true") (sym is))
there_if word false is = λ same. other_text word (codes "true") (sym is) cc

pub not_there : IsAbsentLast None false
not_there = λ same. cc
