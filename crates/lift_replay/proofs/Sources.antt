-- The first line of a text.
use Rattle.std.proofs.Common.{◌≡◌, ◌≢◌, ℕ, ◌<◌, ◌==◌, Bool, false, cond, List, [], ◌∷◌, ◌++◌, length, All, refl, sym, ap, ◌∙◌, arith}
use Rattle.std.proofs.lemmas.Bool.{ne_eqb}
use Rattle.std.proofs.lemmas.List.{append_assoc, flat_map_more}
use Rattle.std.proofs.lemmas.List.Elements.{All-append, All-cons, All-nil}
use Rattle.std.proofs.lemmas.List.Splits.{slice_split_none, slice_split_at, length-slice_split}
use Rattle.std.specs.List.{slice_split}
use Rattle.std.specs.Str.Lines.{lines, lines_of_parts, strip_carriage_return}
use Rattle.lift_replay.specs.Source.{divider, ended}

abbrev is_end : ℕ → Bool
is_end b = b == 10

no_end : (xs : List ℕ) → All (λ b. b ≢ 10) xs → All (λ b. is_end b ≡ false) xs
no_end xs free k d inside = ne_eqb _ 10 (free k d inside)

-- a text with no end of a line is one line
pub last_line : (text : List ℕ) → 0 < length text → All (λ b. b ≢ 10) text → lines text ≡ text ∷ lines []
last_line text some free =
    ap lines_of_parts (slice_split_none is_end text (no_end text free)) ∙ ap (λ t. cond t [] (text ∷ [])) (ne_eqb (length text) 0 (λ z. omega arith))

more_parts : (x : List ℕ) (parts : List (List ℕ)) → 0 < length parts → lines_of_parts (x ∷ parts) ≡ strip_carriage_return x ∷ lines_of_parts parts
more_parts x [] some = absurd (omega arith)
more_parts x (y ∷ more) some = refl

-- what stands before the first end of a line is the first line
pub cut_line : (text line behind : List ℕ) → text ≡ line ++ (10 ∷ behind) → All (λ b. b ≢ 10) line → lines text ≡ strip_carriage_return line ∷ lines behind
cut_line text line behind is free =
    ap lines is ∙ ap lines_of_parts (slice_split_at is_end line 10 behind (no_end line free) refl)
    ∙ more_parts line (slice_split is_end behind) (omega (arith, length-slice_split is_end behind))

-- so far no line is a divider
abbrev pub Above : (text rest building : List ℕ) → Type 0
Above text rest building = (above : List (List ℕ)) × (lines text ≡ above ++ lines rest) × All (λ line. line ≢ divider) above × (building ≡ ended above)

pub none_above : (text : List ℕ) → Above text text []
none_above text = ([], refl, All-nil (λ line. line ≢ divider), refl)

pub one_above : (text rest behind line building more : List ℕ) → Above text rest building → lines rest ≡ line ∷ lines behind → line ≢ divider
    → more ≡ building ++ (line ++ 10 ∷ []) → Above text behind more
one_above text rest behind line building more before first other is = (
  before.0 ++ line ∷ [],
  before.1 ∙ ap (λ below. before.0 ++ below) first ∙ sym (append_assoc before.0 (line ∷ []) (lines behind)),
  All-append (λ l. l ≢ divider) before.0 (line ∷ []) before.2 (All-cons (λ l. l ≢ divider) line [] other (All-nil (λ l. l ≢ divider))),
  is ∙ ap (λ so_far. so_far ++ (line ++ 10 ∷ [])) before.3 ∙ flat_map_more (λ (l : List ℕ). l ++ 10 ∷ []) [] before.0 line,
)
