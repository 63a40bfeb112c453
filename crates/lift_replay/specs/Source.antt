-- The lines of a script's text, each without its end: a line feed, with a carriage return before it
-- or none.
use Rattle.std.specs.Prelude.{ℕ, ◌≡◌, ◌≢◌, All, List, [], ◌∷◌, ◌++◌, codes}
use Rattle.std.specs.List.{flat_map}
use Rattle.std.specs.Str.Lines.{lines as lines_in}

-- the line that stands between the building and the script's own lines
abbrev pub divider : List ℕ
divider = codes "---"

-- these lines, each with its end
abbrev pub ended : List (List ℕ) → List ℕ
ended lines = flat_map (λ line. line ++ 10 ∷ []) lines

-- A text is a script: its lines up to the first divider are the building's, and those after it are
-- carried out.
pub record IsScript (text building : List ℕ) (script : List (List ℕ)) : Type 0 where
  pub above : List (List ℕ)
  pub split : lines_in text ≡ above ++ divider ∷ script
  pub first : All (λ line. line ≢ divider) above
  pub ends : building ≡ ended above

-- no line of the text is a divider
abbrev pub LacksDivider : List ℕ → Type 0
LacksDivider text = All (λ line. line ≢ divider) (lines_in text)
