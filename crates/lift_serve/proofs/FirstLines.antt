-- Which words name a terminal.
use Rattle.std.proofs.Common.{◌≡◌, ℕ, ◌≤◌, ◌<◌, List, [], ◌∷◌, length, get_or, codes, Bor, true, ap, ◌∙◌, arith, rules}
use Rattle.std.specs.Prelude.{Option, IfSome, IfNone}
use Rattle.std.specs.Str.{bytes_eq}
use Rattle.std.proofs.lemmas.Fmt.{IsAscii-decimal}
use Rattle.std.proofs.lemmas.Grind.{common_steps}
use Rattle.std.proofs.lemmas.Option.{IfSome_then}
use Rattle.std.proofs.lemmas.Str.Ascii.{IsAscii-cons, IsAscii-nil}
use Rattle.lift_base.specs.declared.limits.TheConstants.{MOST_CARS, MOST_KIOSKS}
use Rattle.lift_base.specs.Text.{AreWords}
use Rattle.lift_base.specs.lemmas.Words.{one_reading, same_text}
use Rattle.lift_base.specs.lemmas.Texts.{none_weaker, pair, texts}
use Rattle.lift_kiosk.specs.Lines.{AreAscii}
use Rattle.lift_serve.specs.FirstLine.{AreTerminalWords, IsKioskWord, SpeaksFor}

-- two words of which the first is this one
pub pair_of : (words : List (Bor (List ℕ))) (d : Bor (List ℕ)) (first : List ℕ) → 2 ≤ length words → length words < 3
    → bytes_eq (get_or words 0 d).now first ≡ true → texts words ≡ first ∷ (get_or words 1 d).now ∷ []
pair_of words d first some few same =
    pair words d some few ∙ ap (λ (word : List ℕ). word ∷ (get_or words 1 d).now ∷ []) (same_text _ first same)

-- the words of a kiosk name no car
pub kiosk_none : (r : Option ℕ) (cars kiosks : ℕ) (words : List (List ℕ)) (word : List ℕ) → words ≡ codes "KIOSK" ∷ word ∷ []
    → IfNone r ((terminal : ℕ) → IsKioskWord kiosks word terminal → ⊥) → IfNone r ((terminal : ℕ) → AreTerminalWords cars kiosks words terminal → ⊥)
kiosk_none r cars kiosks words word is none = none_weaker r _ _ (λ refuses terminal names. refuses terminal (grind arith)) none

pub line_some : (r : Option ℕ) (cars kiosks : ℕ) (line : List ℕ) (words : List (List ℕ)) → AreWords line words → length line ≤ 64
    → IfSome r (λ terminal. AreTerminalWords cars kiosks words terminal) → IfSome r (λ terminal. SpeaksFor cars kiosks line terminal)
line_some r cars kiosks line words are short some = IfSome_then r some (λ terminal names. record { short = short; words = words; spaced = are; names = names })

pub line_none : (r : Option ℕ) (cars kiosks : ℕ) (line : List ℕ) (words : List (List ℕ)) → AreWords line words
    → IfNone r ((terminal : ℕ) → AreTerminalWords cars kiosks words terminal → ⊥) → IfNone r ((terminal : ℕ) → SpeaksFor cars kiosks line terminal → ⊥)
line_none r cars kiosks line words are none =
    none_weaker r _ _ (λ refuses terminal speaks. let same = one_reading line words speaks.words are speaks.spaced in refuses terminal (search rules)) none

-- the words that name a terminal are two, in ASCII
few_words : (cars kiosks : ℕ) (words : List (List ℕ)) (terminal : ℕ) → cars ≤ MOST_CARS → kiosks ≤ MOST_KIOSKS → AreTerminalWords cars kiosks words terminal
    → (length words ≤ 2) × AreAscii words
few_words cars kiosks words terminal few many names = grind (arith, common_steps, IsAscii-cons, IsAscii-nil, IsAscii-decimal)

pub names_few_words : (cars kiosks : ℕ) (line : List ℕ) → cars ≤ MOST_CARS → kiosks ≤ MOST_KIOSKS
    → ((words : List (List ℕ)) → AreWords line words → AreAscii words → length line ≤ 64 → 6 < length words)
    → (terminal : ℕ) → SpeaksFor cars kiosks line terminal → ⊥
names_few_words cars kiosks line few many none terminal speaks =
    let words = few_words cars kiosks speaks.words terminal few many speaks.names in
    let long = none speaks.words speaks.spaced words.1 speaks.short in
    omega (arith, long, words.0)
