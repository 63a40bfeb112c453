-- How the program ends, and what it says of it.
use Rattle.std.specs.Prelude.{ℕ, ◌≡◌, ◌≢◌, ◌⊎◌, ◌<◌, ◌+◌, ◌*◌, List, [], ◌∷◌, ◌++◌, Option, Some, None}
use Rattle.std.specs.Prelude.{◌≤◌, Result, Ok, Err, IfOk, IfErr, OnOk, OnErr, Bool, true, false, cond, codes}
use Rattle.std.specs.Fmt.{decimal}
use Rattle.std.specs.Io.KnownBytes.{Appends}
use Rattle.std.specs.declared.net.tcp.TcpListener.{TcpListener as Listener}
use Rattle.clap.specs.Words.{Text}
use Rattle.lift_base.specs.Input.{InputState}
use Rattle.lift_base.specs.Output.{OutputState, OutputTally}
use Rattle.lift_building.specs.Plan.{shape_of}
use Rattle.lift_disk.specs.Disk.{RunsOn}
use Rattle.lift_journal.specs.Calls.{MakesPrefix, format_calls}
use Rattle.lift_journal.specs.declared.fault.JournalFault.TheVariants.{Disk}
use Rattle.lift_keeper.specs.declared.fault.KeeperFault.TheVariants.{Journal as OfJournal}
use Rattle.lift_register.specs.Register.{empty}
use Rattle.lift_serve.specs.Keeping.{HoldsLetters}
use Rattle.lift_replay.specs.declared.lines.Verdict.{Verdict}
use Rattle.lift_replay.specs.declared.lines.Verdict.TheVariants.{Good, Bad}
use Rattle.lift_replay.specs.Reading.{IsInputRead}
use Rattle.lift_replay.specs.Replaying.{ReportsPrefix, ReportsInput}
use Rattle.lift_replay.specs.Replaying.{ReportsPrefixOfWhatCame, ReportsWhatCame}
use Rattle.lift_replay.specs.Writing.{GoesInto, gone_in}
use Rattle.lift_program.specs.Faults.{fault_text, usage_text}
use Rattle.lift_program.specs.Output.{IsFlushed, IsWrittenOrFailed, SaysText, WasTaken}
use Rattle.lift_program.specs.Output.{WriterHasFailed}
use Rattle.lift_program.specs.Serving.{HasLeftLetters, IsServing}
use Rattle.lift_program.specs.Images.{CommandFiles}
use Rattle.lift_program.specs.Showing.{IsShown, ShowsPart, WritesFront}
use Rattle.lift_program.specs.Stages.{HasOpened, IsFailure}
use Rattle.lift_program.specs.Stages.{IsServingFailure, IsShowingFailure, fault_in}
use Rattle.lift_program.specs.Words.{AskForRequest, AsksForHelp, help_text}
use Rattle.lift_program.specs.declared.fault.Fault.{Fault}
use Rattle.lift_program.specs.declared.fault.Fault.TheVariants.{Journal, File, Memory}
use Rattle.lift_program.specs.declared.fault.Fault.TheVariants.{Network}
use Rattle.lift_program.specs.declared.fault.Role.{Role}
use Rattle.lift_program.specs.declared.fault.Role.TheVariants.{Input, Output}
use Rattle.lift_program.specs.declared.end.End.{End}
use Rattle.lift_program.specs.declared.end.End.TheVariants.{Replayed, Formatted, Shown, Served}
use Rattle.lift_program.specs.declared.end.End.TheVariants.{OtherWords, NoWords}
use Rattle.lift_program.specs.declared.leftover.Failure.{Failure}
use Rattle.lift_program.specs.declared.leftover.Failure.TheVariants.{Opened}
use Rattle.lift_program.specs.declared.serve.Serving.{Serving}
use Rattle.lift_program.specs.declared.words.Request.{Request}
use Rattle.lift_program.specs.declared.words.Request.TheVariants.{Replay, Format, Show, Serve}

-- what is reported: why the command has failed, or what a serving was refused that ended
abbrev pub reported : {M S V F O : Type 0} → End M S V F O → Option Fault
reported (Replayed (Err fault) unused) = Some fault
reported (Formatted (Err failure)) = Some (fault_in failure)
reported (Shown (Err failure)) = Some (fault_in failure)
reported (Served (Err failure)) = Some (fault_in failure)
reported (Served (Ok serving)) = serving.fault
reported (NoWords no_memory unused) = Some (Memory tt)
reported _ = None

-- 1 for a fault
abbrev pub status_for : Option Fault → ℕ
status_for None = 0
status_for (Some fault) = 1

-- 0 where all was done, 1 for a bad script or a fault, 2 for other words
abbrev pub exit_status_of : {M S V F O : Type 0} → End M S V F O → ℕ
exit_status_of (Replayed (Ok Bad) unused) = 1
exit_status_of (OtherWords unused) = 2
exit_status_of end = status_for (reported end)

-- the line of a fault, none where there is none
abbrev pub line_for : Option Fault → Option (List ℕ)
line_for None = None
line_for (Some fault) = Some (fault_text fault ++ 10 ∷ [])

-- the line on standard error, none where there is nothing to report
abbrev pub line_of : {M S V F O : Type 0} → End M S V F O → Option (List ℕ)
line_of (OtherWords unused) = Some (usage_text ++ 10 ∷ [])
line_of end = line_for (reported end)

-- whether what a serving has failed for was reported at once: that its device failed
abbrev pub is_reported_at_once : Option Fault → Bool
is_reported_at_once (Some (Journal fault)) = true
is_reported_at_once _ = false

-- whether the line was written before the end, while the building was served
abbrev pub was_reported : {M S V F O : Type 0} → End M S V F O → Bool
was_reported (Served (Ok serving)) = is_reported_at_once serving.fault
was_reported end = false

-- the line that is written before the end, and the one at it: none where it was written before
abbrev pub line_at_once : {M S V F O : Type 0} → End M S V F O → Option (List ℕ)
line_at_once end = cond (was_reported end) (line_of end) None

abbrev pub line_at_end : {M S V F O : Type 0} → End M S V F O → Option (List ℕ)
line_at_end end = cond (was_reported end) None (line_of end)

-- This line was written, if there is one, or a prefix of it and then the writer failed; and nothing
-- else.
abbrev pub TellsLine : {E : Type 0} → (contents : E → Option (List ℕ)) → Option (List ℕ)
    → (old new : OutputState E) → Type 0
TellsLine contents None old new = new ≡ old
TellsLine contents (Some line) old new = IsWrittenOrFailed contents old new line

-- that a device failed was reported
abbrev pub IsFailureReported : {E : Type 0} → (contents : E → Option (List ℕ))
    → (old new : OutputState E) → Type 0
IsFailureReported contents old new =
    IsWrittenOrFailed contents old new (fault_text (Journal (OfJournal Disk)) ++ 10 ∷ [])

-- an end of a command over these files
abbrev pub EndOver : CommandFiles → Type 0
EndOver files = End files.image.Made files.image.Shown files.image.Served files.image.File
    files.image.Opener

-- An empty journal with so many sectors in a half was made on the image that was made at this path,
-- of a building that was read: by five calls, three of them writes, of which none failed. Where the
-- image was honest it still is, and there a serving begins with nothing to lose: each image that a
-- crash may leave from now on keeps the answers of nobody, and no entry.
pub record IsMadeWith (files : CommandFiles) (image building : List ℕ) (half : ℕ)
    (left : files.image.Made) : Type 0 where
  pub from : HasOpened files building (files.image.is_just_made image (2 + 2 * half))
  pub made : (files.image.made_state left).trace ≡ format_calls (shape_of from.plan half)
  pub size : (files.image.made_state left).size ≡ 2 + 2 * half
  pub calls : (files.image.made_state left).calls ≡ 5
  pub writes : (files.image.made_state left).writes ≡ 3
  pub failures : (files.image.made_state left).failures ≡ 0
  pub honest : (files.image.made_state from.opened).is_honest
      → (files.image.made_state left).is_honest
  pub keeps : HoldsLetters files.image.Served from.plan empty [] [] (files.image.made_state left)

-- a file in this role, or want of memory
abbrev pub IsFileFault : Role → Fault → Type 0
IsFileFault role fault = (fault ≡ File role) ⊎ (fault ≡ Memory tt)

-- the standard input, the standard output, or want of memory
abbrev pub IsReplayFault : Fault → Type 0
IsReplayFault (File Input) = Unit {0}
IsReplayFault (File Output) = Unit {0}
IsReplayFault (Memory no_memory) = Unit {0}
IsReplayFault _ = ⊥

-- An image was made at this path for a building that was read, and the journal couldn't be made on it:
-- the calls by which that is done were made up to one that failed, and the image was left so.
pub record IsUnformatted (files : CommandFiles) (image building : List ℕ) (half : ℕ)
    (fault : Fault) (left : files.image.Made) : Type 0 where
  pub from : HasOpened files building (files.image.is_just_made image (2 + 2 * half))
  pub is_fault : fault ≡ Journal (OfJournal Disk)
  pub front : MakesPrefix (format_calls (shape_of from.plan half))
      (files.image.made_state from.opened) (files.image.made_state left)
  pub runs : RunsOn (files.image.made_state from.opened) (files.image.made_state left)
  pub failed : (files.image.made_state from.opened).failures < (files.image.made_state left).failures

-- why no journal was made, and how its image, its file or what was to open it was left
abbrev pub IsUnmade : (files : CommandFiles) → (image building : List ℕ) → (half : ℕ)
    → Failure files.image.Made files.image.File files.image.Opener → Type 0
IsUnmade files image building half = IsFailure files building
    (files.image.is_unmade image (2 + 2 * half)) (IsUnformatted files image building half)

-- a reader of which no call was made yet
abbrev pub uncalled : {R : Type 0} → R → InputState R
uncalled reader =
    record {
      reader = reader;
      calls = 0;
      failures = 0;
      ends = 0;
      failed = false;
      ended = false;
      came = [];
    }

-- no call of the reader was made yet
abbrev pub IsUncalled : {R : Type 0} → InputState R → Type 0
IsUncalled old = (old.calls ≡ 0) × (old.failed ≡ false) × (old.ended ≡ false)

-- What was written is the report of the input, with this verdict; or a prefix of it.
abbrev pub ReportsAll : (input before after : Option (List ℕ)) → Result Verdict Fault → Type 0
ReportsAll input before after (Ok verdict) = ReportsInput input before after verdict
ReportsAll input before after (Err fault) = ReportsPrefix input before after

-- What was written is the report of the bytes that came of a reader, with this verdict; or a prefix of
-- it.
abbrev pub ReportsAllThatCame : (came came' : List ℕ) → (before after : Option (List ℕ))
    → Result Verdict Fault → Type 0
ReportsAllThatCame came came' before after (Ok verdict) =
    ReportsWhatCame came came' before after verdict
ReportsAllThatCame came came' before after (Err fault) =
    ReportsPrefixOfWhatCame came came' before after

-- How the output was called for a script, by its end: where all was done each call took a byte, and a
-- flush after them passed that on; where the output is the fault the last call, or that flush, failed;
-- out of memory none but that flush; and where the script couldn't be read there was none.
abbrev pub IsCalledFor : {W : Type 0} → (gives : W → List ℕ → Option ℕ → W → Type 0)
    → (flushes : W → Bool → W → Type 0) → (old new : W) → Result Verdict Fault → Type 0
IsCalledFor gives flushes old new (Ok verdict) = IsFlushed gives flushes old new
IsCalledFor gives flushes old new (Err (File Output)) = WriterHasFailed gives flushes old new
IsCalledFor gives flushes old new (Err (Memory no_memory)) = WasTaken gives flushes old new
IsCalledFor gives flushes old new (Err fault) = new ≡ old

-- A script was carried out so, over whatever reader and writer: what the writer's calls took is the
-- report of the bytes that came, or a prefix of it, and that is what was added to a writer which tells
-- what is in it.
pub record IsCarriedOut {W : Type 0} (sent : W → OutputTally) (contents : W → Option (List ℕ))
    (gives : W → List ℕ → Option ℕ → W → Type 0) (flushes : W → Bool → W → Type 0)
    (came came' : List ℕ) (old new : W) (outcome : Result Verdict Fault) : Type 0 where
  pub report : ReportsAllThatCame came came' (gone_in sent old) (gone_in sent new) outcome
  pub goes : GoesInto sent contents old new
  pub called : IsCalledFor gives flushes old new outcome

-- so it was, where the end is that of a script
abbrev pub IsScriptEnd : {M S V F O W : Type 0} → (sent : W → OutputTally)
    → (contents : W → Option (List ℕ)) → (gives : W → List ℕ → Option ℕ → W → Type 0)
    → (flushes : W → Bool → W → Type 0) → (came came' : List ℕ) → (old new : W)
    → End M S V F O → Type 0
IsScriptEnd sent contents gives flushes came came' old new (Replayed outcome unused) =
    IsCarriedOut sent contents gives flushes came came' old new outcome
IsScriptEnd sent contents gives flushes came came' old new end = Unit {0}

-- A script couldn't be read: a call of its reader failed, or all were used and its end was not
-- found.
abbrev pub IsUnread : {R : Type 0} → InputState R → Type 0
IsUnread new = (new.failed ≡ true) ⊎ ((new.calls ≡ 2097152) × (new.ended ≡ false))

-- How a script has left its input: a good one was read to its end; one that failed for the standard
-- input could not be read, and one that failed for the standard output was.
pub record IsScriptRead {R : Type 0} (remaining : R → Option (List ℕ)) (outcome : Result Verdict Fault)
    (old new : InputState R) : Type 0 where
  pub good : outcome ≡ Ok Good → new.ended ≡ true
  pub unread : outcome ≡ Err (File Input) → IsUnread new
  pub read : outcome ≡ Err (File Output) → IsInputRead remaining old new
  pub few_calls : new.calls ≤ 2097152

-- how the input is left, by the end: nothing but a script reads it
abbrev pub IsInputLeft : {M S V F O R : Type 0} → (remaining : R → Option (List ℕ))
    → End M S V F O → (old new : InputState R) → Type 0
IsInputLeft remaining (Replayed outcome unused) old new = IsScriptRead remaining outcome old new
IsInputLeft remaining end old new = new ≡ old

-- what is said where a port is served
abbrev pub serving_text : ℕ → List ℕ
serving_text port = codes "serving " ++ decimal port ++ 10 ∷ []

-- Nothing was written; or a socket was had, and what says that this port is served was written, or a
-- prefix of it.
abbrev pub MaySay : (gives : Option Listener → Type 0) → ℕ → (before after : Option (List ℕ)) → Type 0
MaySay gives port before after = (after ≡ before)
    ⊎ ((listener : Listener) × gives (Some listener) × WritesFront before after (serving_text port))

-- What a request may come to. A script was carried out, or why not, and
-- what was to open an image is left. A journal was made, or why not. Open calls were shown; or why not,
-- which is no port, and how much of them was written. A group was served on this port until so many
-- connections had ended; or why not, which is the port only where a socket there was refused, and
-- something was written only where one was had.
abbrev pub IsEndFor : (files : CommandFiles) → Request
    → (before after : Option (List ℕ)) → EndOver files → Type 0
IsEndFor files Replay before after (Replayed outcome unused) =
    IfErr outcome IsReplayFault × (unused ≡ files.image.opener)
IsEndFor files (Format image building half) before after (Formatted outcome) =
    IfOk outcome (IsMadeWith files image.now building.now half)
    × IfErr outcome (IsUnmade files image.now building.now half)
IsEndFor files (Show image building) before after (Shown outcome) =
    IfOk outcome (λ left. IsShown files image.now building.now left before after)
    × IfErr outcome (IsShowingFailure files image.now building.now)
    × IfErr outcome (λ failure. fault_in failure ≢ Network)
    × OnErr outcome (ShowsPart files image.now building.now before after)
IsEndFor files (Serve image building port sessions policy) before after (Served outcome) =
    IfOk outcome (λ serving. (serving.port ≡ port)
    × IsServing files image.now building.now port policy sessions serving)
    × IfErr outcome (IsServingFailure files image.now building.now)
    × IfErr outcome (λ failure. fault_in failure ≡ Network → files.gives port None)
    × OnErr outcome (MaySay (files.gives port) port before after)
IsEndFor files request before after end = ⊥

-- What these words come to: an end of what they ask for; want of memory for them; or, where they ask
-- for nothing, other words. In these two nothing was asked of an image.
abbrev pub IsEndOf : (files : CommandFiles) → List Text
    → (before after : Option (List ℕ)) → EndOver files → Type 0
IsEndOf files words before after (OtherWords unused) =
    ((request : Request) → AskForRequest words request → ⊥) × (unused ≡ files.image.opener)
IsEndOf files words before after (NoWords no_memory unused) = unused ≡ files.image.opener
IsEndOf files words before after end = (request : Request) × AskForRequest words request
    × IsEndFor files request before after end

-- What is kept of a group that was to be served: every letter; and what is left of one that wasn't, once
-- its image was opened.
abbrev pub KeepsFor : (files : CommandFiles) → Request
    → Result (Serving files.image.Served)
    (Failure files.image.Served files.image.File files.image.Opener) → Type 0
KeepsFor files (Serve image building port sessions policy) (Ok serving) =
    IsServing files image.now building.now port policy sessions serving
KeepsFor files (Serve image building port sessions policy) (Err (Opened fault left)) =
    HasLeftLetters files image.now building.now fault left
KeepsFor files (Serve image building port sessions policy) (Err failure) = Unit {0}
KeepsFor files request outcome = ⊥

-- A group that was served has kept every letter, and one that was not has left them.
abbrev pub KeepsIfServed : (files : CommandFiles) → List Text
    → EndOver files → Type 0
KeepsIfServed files words (Served outcome) =
    (request : Request) × AskForRequest words request × KeepsFor files request outcome
KeepsIfServed files words end = Unit {0}

-- What a command over an image has written that failed: nothing, or its output has failed. Where that is
-- the fault it has; out of memory it may have, once the image was opened.
abbrev pub IsReportOfFailure : {D F O : Type 0} → (has_failed : Type 0) → Failure D F O
    → (before after : Option (List ℕ)) → Type 0
IsReportOfFailure has_failed (Opened (File Output) left) before after = has_failed
IsReportOfFailure has_failed (Opened (Memory no_memory) left) before after =
    (after ≡ before) ⊎ has_failed
IsReportOfFailure has_failed failure before after = after ≡ before

-- What was written for words that ask for nothing: how the program is called, where they ask for help,
-- and else nothing.
pub record IsAnswered (words : List Text) (is_flushed has_failed : Type 0)
    (before after : Option (List ℕ)) : Type 0 where
  pub help : AsksForHelp words → SaysText help_text is_flushed has_failed before after
  pub quiet : ¬ AsksForHelp words → after ≡ before

-- What was written, by the end, and passed on where all was done: of a script the report of the input,
-- or a prefix of it (how, see `IsScriptEnd`); of a journal that is made nothing; of one that is shown see
-- `IsShown`; of a serving what says so; and for words that ask for nothing what answers them.
abbrev pub IsOutputOf : {M S V F O : Type 0} → (is_flushed has_failed : Type 0)
    → (input : Option (List ℕ)) → List Text → End M S V F O → (before after : Option (List ℕ))
    → Type 0
IsOutputOf is_flushed has_failed input words (Replayed outcome unused) before after =
    ReportsAll input before after outcome
IsOutputOf is_flushed has_failed input words (Shown outcome) before after = OnOk outcome is_flushed
    × IfErr outcome (λ failure. IsReportOfFailure has_failed failure before after)
IsOutputOf is_flushed has_failed input words (Served outcome) before after =
    IfOk outcome (λ serving. is_flushed × Appends before after (serving_text serving.port))
    × IfErr outcome (λ failure. IsReportOfFailure has_failed failure before after)
IsOutputOf is_flushed has_failed input words (OtherWords unused) before after =
    IsAnswered words is_flushed has_failed before after
IsOutputOf is_flushed has_failed input words end before after = after ≡ before
