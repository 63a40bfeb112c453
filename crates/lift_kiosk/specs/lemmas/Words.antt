-- A line of ASCII words.
use Rattle.std.proofs.Common.{ℕ, suc, ◌<◌, List, [], ◌∷◌, sym, subst, arith}
use Rattle.std.specs.Str.{IsAscii, IsUtf8}
use Rattle.std.proofs.lemmas.Str.{IsAscii-append, IsUtf8-from_ascii}
use Rattle.std.proofs.lemmas.Str.Ascii.{IsAscii-nil}
use Rattle.lift_base.specs.Text.{AreWords, spaced}
use Rattle.lift_kiosk.specs.Lines.{AreAscii}

pub ascii_with : (byte : ℕ) (bytes : List ℕ) → byte < 128 → IsAscii bytes → IsAscii (byte ∷ bytes)
ascii_with byte bytes small rest Prim.Native.Nat.zero = small
ascii_with byte bytes small rest (suc i) = rest i

spaced_is_ascii : (words : List (List ℕ)) → AreAscii words → IsAscii (spaced words)
spaced_is_ascii [] each = IsAscii-nil
spaced_is_ascii (word ∷ []) each = each.0
spaced_is_ascii (word ∷ other ∷ words) each =
    IsAscii-append word (32 ∷ spaced (other ∷ words)) each.0
    (ascii_with 32 (spaced (other ∷ words)) (omega arith)
    (spaced_is_ascii (other ∷ words) each.1))

-- a line of ASCII words is a text
pub words_make_text : (line : List ℕ) (words : List (List ℕ)) → AreWords line words → AreAscii words
    → IsUtf8 line
words_make_text line words are each =
    IsUtf8-from_ascii line (subst IsAscii (sym are.joined) (spaced_is_ascii words each))
