-- A whole session follows from what comes to it.
use Rattle.std.specs.Prelude.{◌≡◌, ◌<◌, ◌⊎◌, ℕ, ◌+◌, List, [], ◌++◌, length, take, Option, Some}
use Rattle.std.specs.Prelude.{None}
use mathlib.Core.Logic.{inl, inr}
use Rattle.std.specs.Io.KnownBytes.{Appends}
use Rattle.lift_base.specs.declared.command.Reply.{Reply}
use Rattle.lift_kiosk.specs.declared.dialect.Wanted.{Wanted}
use Rattle.lift_kiosk.specs.declared.outcome.Opening.{Opening}
use Rattle.lift_kiosk.specs.declared.outcome.Opening.TheVariants.{Free, BroughtIn, StillWaits}
use Rattle.lift_kiosk.specs.declared.outcome.Outcome.TheVariants.{NotAnswered, Refused}
use Rattle.lift_kiosk.specs.declared.terms.End.{End}
use Rattle.lift_kiosk.specs.declared.terms.End.TheVariants.{Closed, Limit, Late, Spent, ReadFault}
use Rattle.lift_kiosk.specs.declared.terms.End.TheVariants.{WriteFault}
use Rattle.lift_kiosk.specs.declared.terms.LastLetter.{LastLetter}
use Rattle.lift_kiosk.specs.declared.terms.Limits.{Limits}
use Rattle.lift_kiosk.specs.Session.{Standing, LastStep, EndsAtOnce, IsSession, answer_line}
use Rattle.lift_kiosk.specs.Session.{opening_line}
use Rattle.lift_kiosk.specs.Determined.{given, lines_of, all_given, answers_text}

-- what came last to a session
pub data LastCame : Type 0 where
  -- no answer to the ask of an earlier session
  NoAnswer : LastCame
  -- the writer took so many bytes of the first line, and no more
  FirstLineCut : ℕ → LastCame
  -- nothing: all lines that it may answer were answered
  NothingMore : LastCame
  -- less than a line, and the reader's end
  ReaderEnded : List ℕ → LastCame
  -- less than a line, and the reader's failure
  ReaderFailed : List ℕ → LastCame
  -- less than a line within all calls of the reader
  CallsUsed : List ℕ → LastCame
  -- a line, what the port gave for it, and how many bytes of the answer the writer took, where it
  -- did not take all
  LastLine : List ℕ → List (Option (Option Reply)) → Option ℕ → LastCame

-- what came to a session: the port's answer to the ask of an earlier session, where one was
-- pending; the lines after which it went on, with what the port gave for them; and what came last
pub record Came : Type 0 where
  pub brought : Option (Option Reply)
  pub lines : List (List ℕ)
  pub given : List (Option (Option Reply))
  pub last : LastCame

abbrev pub brought_by : Opening → Option (Option Reply)
brought_by Free = None
brought_by (BroughtIn number reply) = Some (Some reply)
brought_by StillWaits = Some None

-- as many bytes of a line as the writer took
abbrev pub cut_to : Option ℕ → List ℕ → List ℕ
cut_to None line = line
cut_to (Some count) line = take count line

-- a session that ended with its first line
abbrev pub came_first : (keeps : LastLetter → ℕ → Reply
    → LastLetter) (limits : Limits) (end : End) (before after : Standing)
    → EndsAtOnce keeps limits end before after → Came
came_first keeps limits Late before after first =
    record { brought = Some None; lines = []; given = []; last = NoAnswer }
came_first keeps limits WriteFault before after first =
    record { brought = brought_by first.0; lines = []; given = []; last = FirstLineCut first.2 }
came_first keeps limits Closed before after first = elim first [ ]
came_first keeps limits Limit before after first = elim first [ ]
came_first keeps limits Spent before after first = elim first [ ]
came_first keeps limits ReadFault before after first = elim first [ ]

abbrev pub first_text : (keeps : LastLetter → ℕ → Reply
    → LastLetter) (limits : Limits) (end : End) (before after : Standing)
    → EndsAtOnce keeps limits end before after → List ℕ
first_text keeps limits Late before after first = opening_line after.last StillWaits
first_text keeps limits WriteFault before after first =
    take first.2 (opening_line after.last first.0)
first_text keeps limits Closed before after first = []
first_text keeps limits Limit before after first = []
first_text keeps limits Spent before after first = []
first_text keeps limits ReadFault before after first = []

-- one that ended by its last step
abbrev pub came_last : (wants : List ℕ → Wanted → Type 0) (keeps : LastLetter → ℕ → Reply
    → LastLetter) (limits : Limits) (calls : ℕ) (end : End) (before after : Standing)
    → LastStep wants keeps limits calls end before after → LastCame
came_last wants keeps limits calls Closed before after step = ReaderEnded step.0
came_last wants keeps limits calls ReadFault before after step = ReaderFailed step.0
came_last wants keeps limits calls Limit before after step = CallsUsed step.0
came_last wants keeps limits calls Late before after step =
    LastLine step.0 (given (NotAnswered step.1)) None
came_last wants keeps limits calls Spent before after step =
    LastLine step.0 (given (Refused step.1)) None
came_last wants keeps limits calls WriteFault before after step =
    LastLine step.0 (given step.1) (Some step.3)

abbrev pub last_text : (wants : List ℕ → Wanted → Type 0) (keeps : LastLetter → ℕ → Reply
    → LastLetter) (limits : Limits) (calls : ℕ) (end : End) (before after : Standing)
    → LastStep wants keeps limits calls end before after → List ℕ
last_text wants keeps limits calls Closed before after step = []
last_text wants keeps limits calls ReadFault before after step = []
last_text wants keeps limits calls Limit before after step = []
last_text wants keeps limits calls Late before after step = answer_line (NotAnswered step.1)
last_text wants keeps limits calls Spent before after step = answer_line (Refused step.1)
last_text wants keeps limits calls WriteFault before after step = take step.3 (answer_line step.1)

-- the lines' end: all that it may answer, or a last step
abbrev pub SessionLinesEnd : (wants : List ℕ → Wanted → Type 0)
    → (keeps : LastLetter → ℕ → Reply → LastLetter) → Limits → (calls : ℕ) → End → (count : ℕ)
    → (answered after : Standing) → Type 0
SessionLinesEnd wants keeps limits calls end count answered after =
    ((count ≡ limits.lines) × (end ≡ Limit) × (after ≡ answered))
    ⊎ ((count < limits.lines) × LastStep wants keeps limits calls end answered after)

abbrev pub came_after : (wants : List ℕ → Wanted → Type 0) (keeps : LastLetter → ℕ → Reply
    → LastLetter) (limits : Limits) (calls : ℕ) (end : End) (count : ℕ) (answered after : Standing)
    → SessionLinesEnd wants keeps limits calls end count answered after → LastCame
came_after wants keeps limits calls end count answered after (inl all) = NothingMore
came_after wants keeps limits calls end count answered after (inr step) =
    came_last wants keeps limits calls end answered after step.1

abbrev pub text_after : (wants : List ℕ → Wanted → Type 0) (keeps : LastLetter → ℕ → Reply
    → LastLetter) (limits : Limits) (calls : ℕ) (end : End) (count : ℕ) (answered after : Standing)
    → SessionLinesEnd wants keeps limits calls end count answered after → List ℕ
text_after wants keeps limits calls end count answered after (inl all) = []
text_after wants keeps limits calls end count answered after (inr step) =
    last_text wants keeps limits calls end answered after step.1

-- what came to a session
abbrev pub came_to : (wants : List ℕ → Wanted → Type 0) (keeps : LastLetter → ℕ → Reply
    → LastLetter) (limits : Limits) (end : End) (before after : Standing)
    → IsSession wants keeps limits end before after → Came
came_to wants keeps limits end before after (inl first) =
    came_first keeps limits end before after first
came_to wants keeps limits end before after (inr behind) = record {
  brought = brought_by behind.opening;
  lines = lines_of behind.lines.exchanges;
  given = all_given behind.lines.exchanges;
  last = came_after wants keeps limits (before.source.calls + limits.reads) end
      (length behind.lines.exchanges) behind.lines.answered after behind.lines.ends;
}

-- what a session wrote
abbrev pub text_of : (wants : List ℕ → Wanted → Type 0) (keeps : LastLetter → ℕ → Reply
    → LastLetter) (limits : Limits) (end : End) (before after : Standing)
    → IsSession wants keeps limits end before after → List ℕ
text_of wants keeps limits end before after (inl first) =
    first_text keeps limits end before after first
text_of wants keeps limits end before after (inr behind) =
    opening_line behind.greeted.last behind.opening ++ answers_text behind.lines.exchanges
    ++ text_after wants keeps limits (before.source.calls + limits.reads) end
    (length behind.lines.exchanges) behind.lines.answered after behind.lines.ends

-- Two sessions that know the same last command, whose ports await the answer to the same ask, and
-- to which the same comes: they end alike, know the same last command then, and wrote the same.
abbrev pub SessionsDetermine : (wants : List ℕ → Wanted → Type 0)
    → (keeps : LastLetter → ℕ → Reply → LastLetter) → Type 0
SessionsDetermine wants keeps =
    (limits : Limits) (one_end other_end : End) (one one_after other other_after : Standing)
    (first : IsSession wants keeps limits one_end one one_after)
    (second : IsSession wants keeps limits other_end other other_after)
    → one.last ≡ other.last → one.port.pending ≡ other.port.pending
    → came_to wants keeps limits one_end one one_after first
    ≡ came_to wants keeps limits other_end other other_after second
    → (one_end ≡ other_end) × (one_after.last ≡ other_after.last)
    × (text_of wants keeps limits one_end one one_after first
    ≡ text_of wants keeps limits other_end other other_after second)

-- all that a session writes, from its first line to its last byte
abbrev pub SessionsAreWritten : (wants : List ℕ → Wanted → Type 0)
    → (keeps : LastLetter → ℕ → Reply → LastLetter) → Type 0
SessionsAreWritten wants keeps =
    (limits : Limits) (end : End) (before after : Standing)
    (session : IsSession wants keeps limits end before after)
    → Appends before.sink.written after.sink.written
    (text_of wants keeps limits end before after session)
