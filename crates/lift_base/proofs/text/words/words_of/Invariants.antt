use Rattle.std.proofs.Common.{◌≡◌, [], ◌∷◌, ◌++◌, map, length}
use Rattle.std.specs.List.{AllByRecursion}
use denote.Text.{Utf8}
use denote.Shadow.{shadow}
use Rattle.lift_base.specs.Text.{HasNoSpace, spaced}
use Rattle.lift_base.proofs.text.words.words_of.Given as goal

-- the words so far and the rest are the line
abbrev pub invariant-loop : goal.invariant-loop
invariant-loop l = record {
  text : shadow (Utf8 l.rest);
  count : length l.words.items ≡ l.counter;
  apart : AllByRecursion HasNoSpace (map (λ word. word.now) l.words.items);
  joined : l.line ≡ spaced (map (λ word. word.now) l.words.items ++ l.rest ∷ []);
}
