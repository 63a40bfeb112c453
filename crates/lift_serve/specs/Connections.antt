-- What comes of a connection.
use Rattle.std.specs.Prelude.{ℕ, ◌≡◌, ◌≤◌, ◌+◌, ◌⊎◌, Option, true, false, List, [], ◌∷◌, ◌++◌, codes, length}
use Rattle.std.specs.Str.Lines.{strip_carriage_return}
use Rattle.lift_base.specs.Output.{Sink, Takes, TakesPrefix}
use Rattle.lift_kiosk.specs.Lines.{FailsOnce, FindsEnd, GivesLine, GivesPart, Source}
use Rattle.lift_kiosk.specs.declared.line.NoLine.{NoLine as LineMissing}
use Rattle.lift_kiosk.specs.declared.line.NoLine.TheVariants.{AtEnd, NoCalls, Fault}
use Rattle.lift_serve.specs.FirstLine.{SpeaksFor}
use Rattle.lift_serve.specs.Visits.{HeldState, IsServedSeat, Visits}
use Rattle.lift_serve.specs.declared.attending.Outcome.{Outcome}
use Rattle.lift_serve.specs.declared.attending.Outcome.TheVariants.{NoLine, Bad, Busy, Unseated}
use Rattle.lift_serve.specs.declared.attending.Outcome.TheVariants.{Visited}

-- all of these bytes were written, or a prefix of them, before which the writer failed
abbrev pub IsSaid : List ℕ → (before after : Sink) → Type 0
IsSaid bytes before after = Takes bytes before after
    ⊎ ((count : ℕ) × TakesPrefix count bytes before after)

-- a reader that was not called, with what it has left where it says that
abbrev pub new_source : Option (List ℕ) → Source
new_source left =
    record {
      calls = 0;
      failures = 0;
      ends = 0;
      failed = false;
      ended = false;
      came = [];
      left = left;
    }

-- a writer that was not called, with what is in it where it says that
abbrev pub new_sink : Option (List ℕ) → Sink
new_sink written =
    record { calls = 0; failures = 0; failed = false; gone = []; written = written }

-- how often the reader is called at most for a first line
abbrev pub first_reads : ℕ
first_reads = 100000000

-- the reader was called so often at most
abbrev pub CallsUpTo : (calls : ℕ) → (before after : Source) → Type 0
CallsUpTo calls before after = after.calls ≤ before.calls + calls

-- the first line was read, and it names this terminal of the building
pub record Names (cars kiosks : ℕ) (terminal : ℕ) (before after : Source) : Type 0 where
  pub line : List ℕ
  pub read : GivesLine line before after
  pub few : CallsUpTo first_reads before after
  pub speaks : SpeaksFor cars kiosks (strip_carriage_return line) terminal

-- the first line was read, and it names no terminal of the building
pub record NamesNone (cars kiosks : ℕ) (before after : Source) : Type 0 where
  pub line : List ℕ
  pub read : GivesLine line before after
  pub few : CallsUpTo first_reads before after
  pub none : (terminal : ℕ) → SpeaksFor cars kiosks (strip_carriage_return line) terminal → ⊥

-- Reading ended without a line, within so many calls, and for this reason: the end was found, or a
-- call failed, or all of the calls were used.
abbrev pub EndsWithoutLine : (calls : ℕ) → LineMissing → (before after : Source) → Type 0
EndsWithoutLine calls AtEnd before after = (part : List ℕ) × (mid : Source)
    × GivesPart part before mid × FindsEnd mid after × CallsUpTo calls before after
EndsWithoutLine calls Fault before after = (part : List ℕ) × (mid : Source)
    × GivesPart part before mid × FailsOnce mid after × CallsUpTo calls before after
EndsWithoutLine calls NoCalls before after = (part : List ℕ) × GivesPart part before after
    × (after.calls ≡ before.calls + calls)

-- Nothing is written where no line came; BAD where it names no terminal, or one that the lobby's
-- desk hasn't; BUSY where the seat of the one that it names was taken out; else there was a session
-- of it, and the seat was put back as the session left it.
abbrev pub Attends : (cars kiosks : ℕ) → Outcome → (source source' : Source) → (sink sink' : Sink)
    → Type 0
Attends cars kiosks (NoLine ticket reason) source source' sink sink' =
    EndsWithoutLine first_reads reason source source' × (sink' ≡ sink)
Attends cars kiosks (Bad ticket) source source' sink sink' = NamesNone cars kiosks source source'
    × IsSaid (codes "BAD" ++ 10 ∷ []) sink sink'
Attends cars kiosks (Busy no_seat) source source' sink sink' =
    Names cars kiosks no_seat.terminal source source' × (no_seat.is_out ≡ true)
    × IsSaid (codes "BUSY" ++ 10 ∷ []) sink sink'
Attends cars kiosks (Unseated no_seat) source source' sink sink' =
    Names cars kiosks no_seat.terminal source source' × (no_seat.is_out ≡ false)
    × (length no_seat.desk ≤ no_seat.terminal) × IsSaid (codes "BAD" ++ 10 ∷ []) sink sink'
Attends cars kiosks (Visited held' end) source source' sink sink' = (terminal : ℕ) × (mid : Source)
    × Names cars kiosks terminal source mid
    × (held : HeldState) × IsServedSeat held × (held.seat.terminal ≡ terminal)
    × Visits held end held' mid source' sink sink'
