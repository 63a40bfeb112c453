-- How the lines of a session come and go.
use Rattle.std.specs.Prelude.{◌≡◌, ◌≢◌, ◌≤◌, ℕ, ◌+◌, Bool, true, List, [], ◌∷◌, ◌++◌, length, take}
use Rattle.std.specs.Prelude.{nat_lt, Option}
use Rattle.std.specs.List.{AllByRecursion}
use Rattle.std.specs.Str.{IsAscii}
use Rattle.lift_base.specs.Input.{InputState}
use Rattle.lift_kiosk.specs.declared.line.NoLine.{NoLine}
use Rattle.lift_kiosk.specs.declared.line.NoLine.TheVariants.{AtEnd, NoCalls, Fault}
use Rattle.lift_kiosk.specs.declared.terms.End.{End}
use Rattle.lift_kiosk.specs.declared.terms.End.TheVariants.{Closed, Limit, ReadFault}
use Rattle.std.specs.Io.KnownBytes.{Consumes, IsAtEnd, Keeps}

-- a reader: how often it was called, how many calls failed and how many found the end, whether any
-- did, all bytes that came, and what it has left, where it tells that
pub record Source : Type 0 where
  pub calls : ℕ
  pub failures : ℕ
  pub ends : ℕ
  pub failed : Bool
  pub ended : Bool
  pub came : List ℕ
  pub left : Option (List ℕ)

-- these bytes came, one at each call
pub record GivesBytes (bytes : List ℕ) (before after : Source) : Type 0 where
  pub calls : after.calls ≡ before.calls + length bytes
  pub failures : after.failures ≡ before.failures
  pub ends : after.ends ≡ before.ends
  pub failed : after.failed ≡ before.failed
  pub ended : after.ended ≡ before.ended
  pub came : after.came ≡ before.came ++ bytes
  pub left : Consumes before.left after.left bytes

-- one call found the end
pub record FindsEnd (before after : Source) : Type 0 where
  pub calls : after.calls ≡ before.calls + 1
  pub failures : after.failures ≡ before.failures
  pub ends : after.ends ≡ before.ends + 1
  pub failed : after.failed ≡ before.failed
  pub ended : after.ended ≡ true
  pub came : after.came ≡ before.came
  pub left : Consumes before.left after.left []
  pub nothing : IsAtEnd after.left

-- one call failed
pub record FailsOnce (before after : Source) : Type 0 where
  pub calls : after.calls ≡ before.calls + 1
  pub failures : after.failures ≡ before.failures + 1
  pub ends : after.ends ≡ before.ends
  pub failed : after.failed ≡ true
  pub ended : after.ended ≡ before.ended
  pub came : after.came ≡ before.came
  pub left : Keeps before.left after.left

abbrev pub HasNoFeed : List ℕ → Type 0
HasNoFeed bytes = AllByRecursion (λ byte. byte ≢ 10) bytes

-- a line came, and its line feed
pub record GivesLine (line : List ℕ) (before after : Source) : Type 0 where
  pub whole : HasNoFeed line
  pub bytes : GivesBytes (line ++ 10 ∷ []) before after

-- less than a line came
pub record GivesPart (part : List ℕ) (before after : Source) : Type 0 where
  pub whole : HasNoFeed part
  pub bytes : GivesBytes part before after

abbrev pub AreAscii : List (List ℕ) → Type 0
AreAscii words = AllByRecursion IsAscii words

-- what a session's line may have, its end apart
abbrev pub IsShortLine : List ℕ → Type 0
IsShortLine line = length line ≤ 64

-- what is kept of a line: its first 65 bytes, and whether there are more
pub record Buffers65 (line kept : List ℕ) (longer : Bool) : Type 0 where
  pub front : kept ≡ take 65 line
  pub more : longer ≡ nat_lt 65 (length line)

-- a counted reader as a source
abbrev pub source_of : {R : Type 0} → (remaining : R → Option (List ℕ)) → InputState R → Source
source_of remaining input =
    record {
      calls = input.calls;
      failures = input.failures;
      ends = input.ends;
      failed = input.failed;
      ended = input.ended;
      came = input.came;
      left = remaining input.reader;
    }

-- why a session ends where no line came
abbrev pub IsEndWithoutLine : NoLine → End → Type 0
IsEndWithoutLine AtEnd end = end ≡ Closed
IsEndWithoutLine NoCalls end = end ≡ Limit
IsEndWithoutLine Fault end = end ≡ ReadFault
