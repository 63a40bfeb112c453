-- A session: lines in, what the port gives, lines out. What a kind of terminal means by its lines
-- (`wants`), and which replies become its last command (`keeps`), are the kind's own.
use Rattle.std.specs.Prelude.{◌≡◌, ◌≢◌, ℕ, ◌+◌, ◌<◌, ◌≤◌, ◌⊎◌, true, List, [], ◌∷◌, ◌++◌, codes}
use Rattle.std.specs.Prelude.{length}
use Rattle.std.specs.Prelude.{Option, Some, None, nat_lt, if◌then◌else◌}
use Rattle.std.specs.Fmt.{decimal}
use Rattle.std.specs.Str.Lines.{strip_carriage_return}
use Rattle.lift_base.specs.Text.{letter_text, reply_text}
use Rattle.lift_base.specs.Input.{InputState}
use Rattle.lift_base.specs.Output.{OutputState, Sink, Takes, TakesPrefix, sink_of}
use Rattle.lift_base.specs.declared.command.Reply.{Reply}
use Rattle.lift_desk.specs.declared.words.Ask.{Ask}
use Rattle.lift_kiosk.specs.declared.terms.LastLetter.{LastLetter}
use Rattle.lift_kiosk.specs.declared.terms.Limits.{Limits}
use Rattle.lift_kiosk.specs.declared.terms.End.{End}
use Rattle.lift_kiosk.specs.declared.terms.End.TheVariants.{Closed, Limit, Late, Spent, ReadFault}
use Rattle.lift_kiosk.specs.declared.terms.End.TheVariants.{WriteFault}
use Rattle.lift_kiosk.specs.declared.dialect.Wanted.{Wanted}
use Rattle.lift_kiosk.specs.declared.dialect.Wanted.TheVariants.{Ask as Asks, NoFloor}
use Rattle.lift_kiosk.specs.declared.outcome.Opening.{Opening}
use Rattle.lift_kiosk.specs.declared.outcome.Opening.TheVariants.{Free, BroughtIn, StillWaits}
use Rattle.lift_kiosk.specs.declared.outcome.Outcome.{Outcome}
use Rattle.lift_kiosk.specs.declared.outcome.Outcome.TheVariants.{Malformed, OffFloors, Answered}
use Rattle.lift_kiosk.specs.declared.outcome.Outcome.TheVariants.{NotAnswered, Refused}
use Rattle.lift_kiosk.specs.Port.{PortView, AsksOne}
use Rattle.lift_kiosk.specs.Hearing.{WaitsForReply}
use Rattle.lift_kiosk.specs.Lines.{Source, GivesLine, GivesPart, FindsEnd, FailsOnce, source_of}

-- where a session stands: the last command that it knows, its port, its reader and its writer
pub record Standing : Type 0 where
  pub last : LastLetter
  pub port : PortView
  pub source : Source
  pub sink : Sink

abbrev pub standing : LastLetter → PortView → Source → Sink → Standing
standing last port source sink = record { last = last; port = port; source = source; sink = sink }

-- the same over a reader, a writer and a port, by what these tell of themselves
abbrev pub standing_of : {R W P : Type 0} → (remaining : R → Option (List ℕ))
    → (contents : W → Option (List ℕ)) → (view : P → PortView) → InputState R → OutputState W → P
    → LastLetter → Standing
standing_of remaining contents view reader writer port last =
    standing last (view port) (source_of remaining reader) (sink_of contents writer)

-- this command where its number is above the last one's, or else the last one
abbrev pub later : LastLetter → ℕ → Option ℕ → LastLetter
later last number letter =
    if nat_lt last.number number then record { number = number; letter = letter } else last

-- the last command, as the greeting says it
abbrev pub letter_part : Option ℕ → List ℕ
letter_part None = []
letter_part (Some letter) = 32 ∷ letter_text letter

abbrev pub greeting_text : LastLetter → List ℕ
greeting_text last = codes "READY " ++ decimal last.number ++ letter_part last.letter

-- What the session answers to a line, without the line feed.
abbrev pub answer_text : Outcome → List ℕ
answer_text Malformed = codes "BAD"
answer_text OffFloors = codes "NO 1"
answer_text (Answered ask reply) = reply_text reply
answer_text (NotAnswered ask) = codes "LATE"
answer_text (Refused ask) = codes "SPENT"

-- what it says first: LATE in place of the greeting where the answer to an earlier ask was not
-- heard
abbrev pub opening_text : LastLetter → Opening → List ℕ
opening_text last Free = greeting_text last
opening_text last (BroughtIn number reply) = greeting_text last
opening_text last StillWaits = codes "LATE"

-- What comes of a line is what it asks for: BAD exactly for what spells nothing, no ask for a floor
-- that no building has.
abbrev pub Means : (wants : List ℕ → Wanted → Type 0) → List ℕ → Outcome → Type 0
Means wants line Malformed = (wanted : Wanted) → wants line wanted → ⊥
Means wants line OffFloors = wants line NoFloor
Means wants line (Answered ask reply) = wants line (Asks ask)
Means wants line (NotAnswered ask) = wants line (Asks ask)
Means wants line (Refused ask) = wants line (Asks ask)

-- What the port did: it stored the ask and was looked at for the answer, or it has no turn left and
-- stored nothing.
abbrev pub PortDid : (looks : ℕ) → (before : PortView) → Outcome → (after : PortView) → Type 0
PortDid looks before Malformed after = after ≡ before
PortDid looks before OffFloors after = after ≡ before
PortDid looks before (Answered ask reply) after = (asking : PortView) × AsksOne before ask asking
    × WaitsForReply looks asking (Some reply) after
PortDid looks before (NotAnswered ask) after = (asking : PortView) × AsksOne before ask asking
    × WaitsForReply looks asking None after
PortDid looks before (Refused ask) after = (before.spent ≡ true) × (before.pending ≡ None)
    × (after ≡ before)

-- what came of this ask
abbrev pub IsOf : Ask → Outcome → Type 0
IsOf ask Malformed = ⊥
IsOf ask OffFloors = ⊥
IsOf ask (Answered other reply) = other ≡ ask
IsOf ask (NotAnswered other) = other ≡ ask
IsOf ask (Refused other) = other ≡ ask

-- The last command follows the answers that were heard.
abbrev pub last_after : (keeps : LastLetter → ℕ → Reply → LastLetter) → LastLetter → Outcome
    → LastLetter
last_after keeps last Malformed = last
last_after keeps last OffFloors = last
last_after keeps last (Answered ask reply) = keeps last ask.number reply
last_after keeps last (NotAnswered ask) = last
last_after keeps last (Refused ask) = last

-- A line and what came of it: the line is read, and the port does what it asks for.
pub record Exchanges (wants : List ℕ → Wanted → Type 0) (keeps : LastLetter → ℕ → Reply
    → LastLetter) (limits : Limits) (line : List ℕ) (outcome : Outcome)
    (before after : Standing) : Type 0 where
  pub read : GivesLine line before.source after.source
  pub means : Means wants (strip_carriage_return line) outcome
  pub port : PortDid limits.looks before.port outcome after.port
  pub last : after.last ≡ last_after keeps before.last outcome

-- the answer and its line feed
abbrev pub answer_line : Outcome → List ℕ
answer_line outcome = answer_text outcome ++ 10 ∷ []

-- A line that is answered.
pub record AnswersLine (wants : List ℕ → Wanted → Type 0) (keeps : LastLetter → ℕ → Reply
    → LastLetter) (limits : Limits) (line : List ℕ) (outcome : Outcome)
    (before after : Standing) : Type 0 where
  pub exchange : Exchanges wants keeps limits line outcome before after
  pub wrote : Takes (answer_line outcome) before.sink after.sink

-- LATE and SPENT end the session
abbrev pub GoesOn : Outcome → Type 0
GoesOn Malformed = Unit {0}
GoesOn OffFloors = Unit {0}
GoesOn (Answered ask reply) = Unit {0}
GoesOn (NotAnswered ask) = ⊥
GoesOn (Refused ask) = ⊥

abbrev pub EndsWith : Outcome → End → Type 0
EndsWith Malformed end = ⊥
EndsWith OffFloors end = ⊥
EndsWith (Answered ask reply) end = ⊥
EndsWith (NotAnswered ask) end = end ≡ Late
EndsWith (Refused ask) end = end ≡ Spent

-- line after line, each answered before the next is read
abbrev pub AnswersLines : (wants : List ℕ → Wanted → Type 0)
    → (keeps : LastLetter → ℕ → Reply → LastLetter)
    → Limits → List (List ℕ × Outcome) → Standing → Standing → Type 0
AnswersLines wants keeps limits [] before after = after ≡ before
AnswersLines wants keeps limits (x ∷ xs) before after =
    (mid : Standing) × AnswersLine wants keeps limits x.0 x.1 before mid × GoesOn x.1
    × AnswersLines wants keeps limits xs mid after

-- What the port did at the start: where an ask of an earlier session was not heard, it was looked
-- at for the answer.
abbrev pub PortOpened : (looks : ℕ) → (before : PortView) → Opening → (after : PortView) → Type 0
PortOpened looks before Free after = (before.pending ≡ None) × (after ≡ before)
PortOpened looks before (BroughtIn number reply) after = (before.pending ≡ Some number)
    × WaitsForReply looks before (Some reply) after
PortOpened looks before StillWaits after = (before.pending ≢ None)
    × WaitsForReply looks before None after

-- The last command follows an answer that is brought in too.
abbrev pub last_opened : (keeps : LastLetter → ℕ → Reply → LastLetter) → LastLetter → Opening
    → LastLetter
last_opened keeps last Free = last
last_opened keeps last (BroughtIn number reply) = keeps last number reply
last_opened keeps last StillWaits = last

-- The start: the port, and nothing is read.
pub record SessionOpens (keeps : LastLetter → ℕ → Reply
    → LastLetter) (limits : Limits) (opening : Opening) (before after : Standing) : Type 0 where
  pub port : PortOpened limits.looks before.port opening after.port
  pub last : after.last ≡ last_opened keeps before.last opening
  pub source : after.source ≡ before.source

abbrev pub opening_line : LastLetter → Opening → List ℕ
opening_line last opening = opening_text last opening ++ 10 ∷ []

-- The session ends with its first line: the answer to an earlier ask was not heard, or the writer
-- failed.
abbrev pub EndsAtOnce : (keeps : LastLetter → ℕ → Reply → LastLetter) → Limits → End
    → (before after : Standing) → Type 0
EndsAtOnce keeps limits Late before after = SessionOpens keeps limits StillWaits before after
    × Takes (opening_line after.last StillWaits) before.sink after.sink
EndsAtOnce keeps limits WriteFault before after =
    (opening : Opening) × SessionOpens keeps limits opening before after × (count : ℕ)
    × TakesPrefix count (opening_line after.last opening) before.sink after.sink
EndsAtOnce keeps limits Closed before after = ⊥
EndsAtOnce keeps limits Limit before after = ⊥
EndsAtOnce keeps limits Spent before after = ⊥
EndsAtOnce keeps limits ReadFault before after = ⊥

-- less than a line was read, and nothing else was done
pub record StopsInLine (part : List ℕ) (before : Standing) (mid : Source)
    (after : Standing) : Type 0 where
  pub read : GivesPart part before.source mid
  pub port : after.port ≡ before.port
  pub last : after.last ≡ before.last
  pub sink : after.sink ≡ before.sink

-- What ends a session before so many lines are answered, where the reader may be called up to this
-- count: the reader's end, its failure or that count, less than a line after the last one; or a
-- line whose answer ends it, or whose answer the writer failed to take.
abbrev pub LastStep : (wants : List ℕ → Wanted → Type 0)
    → (keeps : LastLetter → ℕ → Reply → LastLetter) → Limits → (calls : ℕ) → End
    → (before after : Standing) → Type 0
LastStep wants keeps limits calls Closed before after = (part : List ℕ) × (mid : Source)
    × StopsInLine part before mid after × FindsEnd mid after.source
LastStep wants keeps limits calls ReadFault before after = (part : List ℕ) × (mid : Source)
    × StopsInLine part before mid after × FailsOnce mid after.source
LastStep wants keeps limits calls Limit before after =
    (part : List ℕ) × StopsInLine part before after.source after × (after.source.calls ≡ calls)
LastStep wants keeps limits calls Late before after =
    (line : List ℕ) × (ask : Ask)
    × AnswersLine wants keeps limits line (NotAnswered ask) before after
LastStep wants keeps limits calls Spent before after =
    (line : List ℕ) × (ask : Ask) × AnswersLine wants keeps limits line (Refused ask) before after
LastStep wants keeps limits calls WriteFault before after =
    (line : List ℕ) × (outcome : Outcome) × Exchanges wants keeps limits line outcome before after
    × (count : ℕ)
    × TakesPrefix count (answer_line outcome) before.sink after.sink

-- It answered these lines, and ended since these were all that it may answer, or by its last step.
pub record EndsLines (wants : List ℕ → Wanted → Type 0) (keeps : LastLetter → ℕ → Reply
    → LastLetter) (limits : Limits) (calls : ℕ) (end : End) (before after : Standing) : Type 0 where
  pub exchanges : List (List ℕ × Outcome)
  pub answered : Standing
  pub runs : AnswersLines wants keeps limits exchanges before answered
  pub ends : ((length exchanges ≡ limits.lines) × (end ≡ Limit) × (after ≡ answered))
      ⊎ ((length exchanges < limits.lines) × LastStep wants keeps limits calls end answered after)

-- A session that greeted, and then answered lines.
pub record EndsAfter (wants : List ℕ → Wanted → Type 0) (keeps : LastLetter → ℕ → Reply
    → LastLetter) (limits : Limits) (end : End) (before after : Standing) : Type 0 where
  pub opening : Opening
  pub greeted : Standing
  pub opens : SessionOpens keeps limits opening before greeted
  pub greets : Takes (opening_line greeted.last opening) before.sink greeted.sink
  pub ready : opening ≢ StillWaits
  pub lines : EndsLines wants keeps limits (before.source.calls + limits.reads) end greeted after

-- From the first state the session may come to the last one, and end so.
abbrev pub IsSession : (wants : List ℕ → Wanted → Type 0)
    → (keeps : LastLetter → ℕ → Reply → LastLetter) → Limits → End → (before after : Standing)
    → Type 0
IsSession wants keeps limits end before after = EndsAtOnce keeps limits end before after
    ⊎ EndsAfter wants keeps limits end before after

-- how many calls of the reader have failed after a session that ended so, by how many had before
abbrev pub failed_reads : End → ℕ → ℕ
failed_reads Closed before = before
failed_reads Limit before = before
failed_reads Late before = before
failed_reads Spent before = before
failed_reads ReadFault before = before + 1
failed_reads WriteFault before = before

-- how many have found its end
abbrev pub ends_found : End → ℕ → ℕ
ends_found Closed before = before + 1
ends_found Limit before = before
ends_found Late before = before
ends_found Spent before = before
ends_found ReadFault before = before
ends_found WriteFault before = before

-- and how many calls of the writer have failed, or taken nothing
abbrev pub failed_writes : End → ℕ → ℕ
failed_writes Closed before = before
failed_writes Limit before = before
failed_writes Late before = before
failed_writes Spent before = before
failed_writes ReadFault before = before
failed_writes WriteFault before = before + 1

-- what the end of a session says of its reader and its writer: which call of them failed, and
-- whether one found the end
pub record EndsAsCalled (end : End) (before after : Standing) : Type 0 where
  pub read : after.source.failures ≡ failed_reads end before.source.failures
  pub found : after.source.ends ≡ ends_found end before.source.ends
  pub wrote : after.sink.failures ≡ failed_writes end before.sink.failures

-- A session, and what its end says. It called the reader as often as the limits say at most. One
-- that ends late awaits an answer and has made all looks for it; one that ends spent has no turn
-- left; one that ends closed found the reader's end; one that ends with a fault saw one call of the
-- reader or of the writer fail, and no other session did.
pub record Converses (wants : List ℕ → Wanted → Type 0) (keeps : LastLetter → ℕ → Reply
    → LastLetter) (limits : Limits) (end : End) (before after : Standing) : Type 0 where
  pub session : IsSession wants keeps limits end before after
  pub calls : after.source.calls ≤ before.source.calls + limits.reads
  pub late : end ≡ Late → (after.port.pending ≢ None)
      × (before.port.looks + limits.looks ≤ after.port.looks)
  pub spent : end ≡ Spent → (after.port.spent ≡ true) × (after.port.pending ≡ None)
  pub closed : end ≡ Closed → after.source.ended ≡ true
  pub unwritten : end ≡ WriteFault → after.sink.failed ≡ true
  pub failed : end ≡ ReadFault → after.source.failed ≡ true
  pub counted : EndsAsCalled end before after
