-- Which words spell a move.
use Rattle.std.proofs.Common.{◌≡◌, ℕ, ◌≤◌, ◌<◌, List, [], ◌∷◌, length, codes, sym, ap, subst, arith}
use Rattle.std.specs.Prelude.{Option, Some, None, IfSome, IfNone}
use Rattle.std.specs.Str.{IsAscii}
use Rattle.std.proofs.lemmas.Fmt.{IsAscii-decimal}
use Rattle.std.proofs.lemmas.Str.Ascii.{IsAscii-nil}
use Rattle.std.proofs.lemmas.Option.{IfSome_then}
use Rattle.lift_base.specs.declared.travel.Dir.{Dir}
use Rattle.lift_base.specs.declared.travel.Dir.TheVariants.{Up, Down}
use Rattle.lift_base.specs.Text.{AreWords, dir_text}
use Rattle.lift_base.specs.lemmas.Words.{one_reading}
use Rattle.lift_base.specs.lemmas.Texts.{none_weaker}
use Rattle.lift_kiosk.specs.Lines.{AreAscii}
use Rattle.lift_kiosk.specs.declared.dialect.Wanted.{Wanted}
use Rattle.lift_kiosk.specs.declared.dialect.Wanted.TheVariants.{Ask as Asks, NoFloor}
use Rattle.lift_kiosk.specs.lemmas.Words.{ascii_with}
use Rattle.lift_car.specs.declared.lines.Move.{Move}
use Rattle.lift_car.specs.Lines.{IsMove, IsNumber, SpellsMove, WantsMove, move_words}

pub moves_alike : (r : Option Move) (words others : List (List ℕ)) → words ≡ others → IfSome r (λ found. IsMove others found) → IfSome r (λ found. IsMove words found)
moves_alike r words others same found = IfSome_then r found (λ m is. subst (λ (w : List (List ℕ)). IsMove w m) (sym same) is)

pub no_move_line : {A : Type 0} (r : Option A) (line : List ℕ) (words : List (List ℕ)) → AreWords line words
    → IfNone r ((found : Move) → IsMove words found → ⊥) → IfNone r ((found : Move) → SpellsMove line found → ⊥)
no_move_line r line words are none =
    none_weaker r _ _ (λ refuses found spells.
    refuses found (subst (λ (w : List (List ℕ)). IsMove w found) (one_reading line spells.words words spells.spaced are) spells.moves)) none

place_is_ascii : IsAscii (codes "PLACE")
place_is_ascii =
    ascii_with 80 (76 ∷ 65 ∷ 67 ∷ 69 ∷ []) (omega arith) (ascii_with 76 (65 ∷ 67 ∷ 69 ∷ []) (omega arith) (ascii_with 65 (67 ∷ 69 ∷ []) (omega arith)
    (ascii_with 67 (69 ∷ []) (omega arith) (ascii_with 69 [] (omega arith) IsAscii-nil))))

stop_is_ascii : IsAscii (codes "STOP")
stop_is_ascii =
    ascii_with 83 (84 ∷ 79 ∷ 80 ∷ []) (omega arith) (ascii_with 84 (79 ∷ 80 ∷ []) (omega arith) (ascii_with 79 (80 ∷ []) (omega arith) (ascii_with 80 [] (omega arith) IsAscii-nil)))

dir_is_ascii : (dir : Dir) → IsAscii (dir_text dir)
dir_is_ascii Up = ascii_with 117 (112 ∷ []) (omega arith) (ascii_with 112 [] (omega arith) IsAscii-nil)
dir_is_ascii Down =
    ascii_with 100 (111 ∷ 119 ∷ 110 ∷ []) (omega arith) (ascii_with 111 (119 ∷ 110 ∷ []) (omega arith) (ascii_with 119 (110 ∷ []) (omega arith) (ascii_with 110 [] (omega arith) IsAscii-nil)))

few_words : (number : Option ℕ) (floor : ℕ) (dir : Dir) → IsNumber number → floor < 1000 → (length (move_words number floor dir) ≤ 4) × AreAscii (move_words number floor dir)
few_words None floor dir small low = (omega arith, (place_is_ascii, (IsAscii-decimal floor (omega arith), (dir_is_ascii dir, tt))))
few_words (Some number) floor dir small low =
    (omega arith, (stop_is_ascii, (IsAscii-decimal number (omega arith), (IsAscii-decimal floor (omega arith), (dir_is_ascii dir, tt)))))

-- a line that spells a move has at most four words, all of them in ASCII
pub move_has_words : (line : List ℕ) → ((words : List (List ℕ)) → AreWords line words → AreAscii words → length line ≤ 64 → 6 < length words)
    → (found : Move) → SpellsMove line found → ⊥
move_has_words line none found spells =
    let words = few_words found.number found.floor found.dir spells.moves.number_range spells.moves.floor_range in
    let same = spells.moves.spelled in
    let many = none spells.words spells.spaced (subst AreAscii (sym same) words.1) spells.short in
    omega (arith, many, words.0, ap (λ (w : List (List ℕ)). length w) same)

-- what is wanted is spelled as a move
pub wants_a_move : (line : List ℕ) → ((found : Move) → SpellsMove line found → ⊥) → (wanted : Wanted) → WantsMove line wanted → ⊥
wants_a_move line none (Asks ask) wants = none wants.0 wants.1
wants_a_move line none NoFloor wants = none wants.0 wants.1
