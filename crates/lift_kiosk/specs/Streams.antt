-- A whole session follows from what its port, its reader and its writer gave, whatever the session
-- made of it.
use Rattle.std.specs.Prelude.{◌≡◌, ℕ, List, [], ◌∷◌, ◌++◌, Option, Some, None}
use Rattle.std.specs.List.{flat_map}
use Rattle.lift_base.specs.declared.command.Reply.{Reply}
use Rattle.lift_kiosk.specs.declared.dialect.Wanted.{Wanted}
use Rattle.lift_kiosk.specs.declared.terms.End.{End}
use Rattle.lift_kiosk.specs.declared.terms.LastLetter.{LastLetter}
use Rattle.lift_kiosk.specs.declared.terms.Limits.{Limits}
use Rattle.lift_kiosk.specs.Session.{Standing, IsSession}
use Rattle.lift_kiosk.specs.Whole.{LastCame, NoAnswer, FirstLineCut, NothingMore, ReaderEnded}
use Rattle.lift_kiosk.specs.Whole.{ReaderFailed, CallsUsed, LastLine, Came, came_to, text_of}

-- how the last call of the reader went
pub data LastRead : Type 0 where
  -- it gave a byte, or there was no call
  GaveByte : LastRead
  -- it found the end
  GaveEnd : LastRead
  -- it failed
  GaveFault : LastRead

-- what a session's surroundings gave it, in the order in which each of them gave it
pub record Streams : Type 0 where
  pub brought : Option (Option Reply)  -- the port, for an earlier session's ask, where one waited
  pub bytes : List ℕ  -- all bytes of the reader
  pub read : LastRead
  pub given : List (Option (Option Reply))  -- the port, for the session's own asks
  pub cut : Option ℕ  -- how many bytes of the last line the writer took, where it did not take all

-- lines with their line feeds, and what came after the last of them
abbrev pub lines_read : List (List ℕ) → (behind : List ℕ) → List ℕ
lines_read [] behind = behind
lines_read (line ∷ lines) behind = line ++ 10 ∷ lines_read lines behind

abbrev pub bytes_that_came_last : LastCame → List ℕ
bytes_that_came_last NoAnswer = []
bytes_that_came_last (FirstLineCut count) = []
bytes_that_came_last NothingMore = []
bytes_that_came_last (ReaderEnded part) = part
bytes_that_came_last (ReaderFailed part) = part
bytes_that_came_last (CallsUsed part) = part
bytes_that_came_last (LastLine line gave cut) = line ++ 10 ∷ []

abbrev pub last_read : LastCame → LastRead
last_read NoAnswer = GaveByte
last_read (FirstLineCut count) = GaveByte
last_read NothingMore = GaveByte
last_read (ReaderEnded part) = GaveEnd
last_read (ReaderFailed part) = GaveFault
last_read (CallsUsed part) = GaveByte
last_read (LastLine line gave cut) = GaveByte

abbrev pub last_given : LastCame → List (Option (Option Reply))
last_given NoAnswer = []
last_given (FirstLineCut count) = []
last_given NothingMore = []
last_given (ReaderEnded part) = []
last_given (ReaderFailed part) = []
last_given (CallsUsed part) = []
last_given (LastLine line gave cut) = gave

abbrev pub last_cut : LastCame → Option ℕ
last_cut NoAnswer = None
last_cut (FirstLineCut count) = Some count
last_cut NothingMore = None
last_cut (ReaderEnded part) = None
last_cut (ReaderFailed part) = None
last_cut (CallsUsed part) = None
last_cut (LastLine line gave cut) = cut

-- where the lines end, and which of them came last, isn't said
abbrev pub streams_of : Came → Streams
streams_of came = record {
  brought = came.brought;
  bytes = lines_read came.lines (bytes_that_came_last came.last);
  read = last_read came.last;
  given = came.given ++ last_given came.last;
  cut = last_cut came.last;
}

-- Two sessions that know the same last command, whose ports await the answer to the same ask, and
-- to which port, reader and writer give the same: they end alike, know the same last command then,
-- and wrote the same.
abbrev pub StreamsDetermine : (wants : List ℕ → Wanted → Type 0)
    → (keeps : LastLetter → ℕ → Reply → LastLetter) → Type 0
StreamsDetermine wants keeps =
    (limits : Limits) (one_end other_end : End) (one one_after other other_after : Standing)
    (first : IsSession wants keeps limits one_end one one_after)
    (second : IsSession wants keeps limits other_end other other_after)
    → one.last ≡ other.last → one.port.pending ≡ other.port.pending
    → streams_of (came_to wants keeps limits one_end one one_after first)
    ≡ streams_of (came_to wants keeps limits other_end other other_after second)
    → (one_end ≡ other_end) × (one_after.last ≡ other_after.last)
    × (text_of wants keeps limits one_end one one_after first
    ≡ text_of wants keeps limits other_end other other_after second)

-- the answers that the port gave, where it gave any
abbrev pub heard_in : Option (Option Reply) → List Reply
heard_in None = []
heard_in (Some None) = []
heard_in (Some (Some reply)) = reply ∷ []

-- all answers of the port: the one that was brought in, and those to the session's own asks
abbrev pub answers_heard : Streams → List Reply
answers_heard streams = heard_in streams.brought ++ flat_map heard_in streams.given

-- What is said of a session is what there was of it: its bytes are those that came of the reader while
-- it ran, its text is what the writer took, and its answers are those that the port heard.
pub record IsOfStreams (before after : Standing) (streams : Streams) (text : List ℕ) : Type 0 where
  pub came : after.source.came ≡ before.source.came ++ streams.bytes
  pub gone : after.sink.gone ≡ before.sink.gone ++ text
  pub heard : after.port.heard ≡ before.port.heard ++ answers_heard streams

abbrev pub StreamsAreOfSessions : (wants : List ℕ → Wanted → Type 0)
    → (keeps : LastLetter → ℕ → Reply → LastLetter) → Type 0
StreamsAreOfSessions wants keeps =
    (limits : Limits) (end : End) (before after : Standing)
    (session : IsSession wants keeps limits end before after)
    → IsOfStreams before after (streams_of (came_to wants keeps limits end before after session))
    (text_of wants keeps limits end before after session)
