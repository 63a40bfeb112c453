-- A prefix of what the lines report.
use Rattle.std.proofs.Common.{◌≡◌, ℕ, List, [], ◌++◌, take, drop, take-append-drop, refl, sym, ap, ◌∙◌, subst}
use Rattle.std.specs.Prelude.{Option, Some, None, Result, Ok, Err, OnErr, IfOk, IfSome}
use Rattle.std.proofs.lemmas.List.{append_assoc, append-nil}
use Rattle.std.specs.Io.KnownBytes.{Appends}
use Rattle.std.proofs.KnownBytes.{Appends-nil, Appends-trans}
use Rattle.lift_building.specs.Plan.{Plan}
use Rattle.lift_replay.specs.declared.lines.Verdict.{Verdict}
use Rattle.lift_replay.specs.Group.{ScriptGroup}
use Rattle.lift_replay.specs.Replaying.{IsReport, IsTextReport, WritesPrefix, ReportsPrefix}
use Rattle.lift_replay.specs.Report.{AppendsPrefix, Reports, ReportsPart}
use Rattle.lift_replay.specs.Running.{TellsLines, TellsPart, TellsPartAfter, Continues}
use Rattle.lift_replay.proofs.Total.{lines_total, text_total, report_total}

pub on_err : {T E P Q : Type 0} (result : Result T E) → (P → Q) → OnErr result P → OnErr result Q
on_err (Ok x) f h = tt
on_err (Err e) f h = f h

pub err_so : {T E P : Type 0} (result : Result T E) → P → OnErr result P
err_so (Ok x) is = tt
err_so (Err e) is = is

pub ok_so : {T E : Type 0} {P Q : T → Type 0} (result : Result T E) → ((value : T) → P value → Q value) → IfOk result P → IfOk result Q
ok_so (Ok x) f h = f x h
ok_so (Err e) f h = tt

-- nothing was written
pub no_front : (old : Option (List ℕ)) (text : List ℕ) → AppendsPrefix old old text
no_front old text = ([], (text, refl), Appends-nil old)

-- of all bytes some were written
pub taken_front : (old new : Option (List ℕ)) (n : ℕ) (text : List ℕ) → Appends old new (take n text) → AppendsPrefix old new text
taken_front old new n text appends = (take n text, (drop n text, take-append-drop n text), appends)

pub written_front : (old new : Option (List ℕ)) (n : ℕ) (text bytes : List ℕ) → Appends old new (take n bytes) → bytes ≡ text → AppendsPrefix old new text
written_front old new n text bytes appends is = taken_front old new n text (subst (λ t. Appends old new (take n t)) is appends)

-- nothing was reported
pub no_part : (old : Option (List ℕ)) (piece all : List ℕ) → ReportsPart old old piece piece all
no_part old piece all = record { written = []; appends = Appends-nil old; front = (all, refl) }

-- all of it was
pub whole_part : (old new : Option (List ℕ)) (piece after all : List ℕ) → Reports old new piece after all → ReportsPart old new piece after all
whole_part old new piece after all reports = record { written = reports.written; appends = reports.appends; front = ([], append-nil (reports.written ++ after) ∙ sym reports.same) }

-- a writer took a prefix of the piece, which is empty then
pub torn_part : (old new : Option (List ℕ)) (n : ℕ) (piece after all : List ℕ) → Appends old new (take n piece) → after ≡ [] → ReportsPart old new piece after all
torn_part old new n piece after all appends none = record {
  written = take n piece;
  appends = appends;
  front = (
    drop n piece ++ all,
    ap (λ l. (take n piece ++ l) ++ (drop n piece ++ all)) none ∙ ap (λ l. l ++ (drop n piece ++ all)) (append-nil (take n piece))
        ∙ sym (append_assoc (take n piece) (drop n piece) all) ∙ ap (λ l. l ++ all) (take-append-drop n piece),
  );
}

-- a writer took a prefix of the piece, to which all of it had been added
pub torn_told : (old new : Option (List ℕ)) (n : ℕ) (piece mid after told : List ℕ) → mid ≡ piece ++ told → Appends old new (take n mid) → after ≡ [] → ReportsPart old new piece after told
torn_told old new n piece mid after told is appends none = record {
  written = take n mid;
  appends = appends;
  front = (drop n mid, ap (λ l. (take n mid ++ l) ++ drop n mid) none ∙ ap (λ l. l ++ drop n mid) (append-nil (take n mid)) ∙ take-append-drop n mid ∙ is);
}

-- a prefix of what goes on after what was reported
pub more_part : (old mid new : Option (List ℕ)) (piece next after added more : List ℕ) → Reports old mid piece next added → ReportsPart mid new next after more → ReportsPart old new piece after (added ++ more)
more_part old mid new piece next after added more first second = record {
  written = first.written ++ second.written;
  appends = Appends-trans old mid new first.written second.written first.appends second.appends;
  front = (
    second.front.0,
    ap (λ l. l ++ second.front.0) (append_assoc first.written second.written after) ∙ append_assoc first.written (second.written ++ after) second.front.0
        ∙ ap (λ l. first.written ++ l) second.front.1 ∙ sym (append_assoc first.written next more) ∙ ap (λ l. l ++ more) (sym first.same) ∙ append_assoc piece added more,
  );
}

-- the lines have told nothing yet
pub tells_none : (plan : Plan) (count : ℕ) (g : ScriptGroup) (script : List (List ℕ)) (old : Option (List ℕ)) (piece : List ℕ) → TellsPart plan count g script old old piece piece
tells_none plan count g script old piece = let told = lines_total plan count g script in (told.0, told.1, told.2, no_part old piece told.0)

-- the writer took a prefix of the piece
pub tells_torn : (plan : Plan) (count : ℕ) (g : ScriptGroup) (script : List (List ℕ)) (old new : Option (List ℕ)) (n : ℕ) (piece after : List ℕ) → Appends old new (take n piece) → after ≡ []
    → TellsPart plan count g script old new piece after
tells_torn plan count g script old new n piece after appends none =
    let told = lines_total plan count g script in (told.0, told.1, told.2, torn_part old new n piece after told.0 appends none)

-- the later lines reported a prefix
pub tells_more : (plan : Plan) (count later : ℕ) (g next : ScriptGroup) (script rest : List (List ℕ)) (old mid new : Option (List ℕ)) (piece kept after text : List ℕ)
    → Continues plan count g script text later next rest → Reports old mid piece kept text → TellsPart plan later next rest mid new kept after → TellsPart plan count g script old new piece after
tells_more plan count later g next script rest old mid new piece kept after text leads reports (more, verdict, tells, part) =
    (text ++ more, verdict, leads more verdict tells, more_part old mid new piece kept after text more reports part)

-- what was kept back was written, or a prefix of it
pub tells_put : (plan : Plan) (count : ℕ) (g : ScriptGroup) (script : List (List ℕ)) (old mid new : Option (List ℕ)) (piece after : List ℕ) → piece ≡ [] → TellsPart plan count g script old mid piece after
    → AppendsPrefix mid new after → WritesPrefix (TellsLines plan count g script) old new
tells_put plan count g script old mid new piece after none (all, verdict, tells, part) (put, (rest, is), appends) = (
  all,
  verdict,
  tells,
  (
    part.written ++ put,
    (
      rest ++ part.front.0,
      append_assoc part.written put (rest ++ part.front.0) ∙ ap (λ l. part.written ++ l) (sym (append_assoc put rest part.front.0)) ∙ ap (λ l. part.written ++ (l ++ part.front.0)) is
          ∙ sym (append_assoc part.written after part.front.0) ∙ part.front.1 ∙ ap (λ l. l ++ all) none,
    ),
    Appends-trans old mid new part.written put part.appends appends,
  ),
)

-- all was told, and the last piece was torn
pub tells_all : (plan : Plan) (count : ℕ) (g : ScriptGroup) (script : List (List ℕ)) (old new : Option (List ℕ)) (piece after : List ℕ) (verdict : Verdict)
    → (all : List ℕ) × TellsLines plan count g script all verdict × Reports old new piece after all → TellsPart plan count g script old new piece after
tells_all plan count g script old new piece after verdict (all, tells, reports) = (all, verdict, tells, whole_part old new piece after all reports)

-- all was reported, or a prefix of it
pub tells_either : {E : Type 0} (plan : Plan) (count : ℕ) (g : ScriptGroup) (script : List (List ℕ)) (old new : Option (List ℕ)) (piece after : List ℕ) (result : Result Verdict E)
    → IfOk result (λ verdict. (all : List ℕ) × TellsLines plan count g script all verdict × Reports old new piece after all) → OnErr result (TellsPart plan count g script old new piece after)
    → TellsPart plan count g script old new piece after
tells_either plan count g script old new piece after (Ok verdict) tells front = tells_all plan count g script old new piece after verdict tells
tells_either plan count g script old new piece after (Err fault) tells front = front

pub text_unwritten : (text : List ℕ) (old : Option (List ℕ)) → WritesPrefix (IsTextReport text) old old
text_unwritten text old = let told = text_total text in (told.0, told.1, told.2, no_front old told.0)

-- the input of a reader
pub input_of : Option (List ℕ) → List ℕ
input_of None = []
input_of (Some all) = all

input_is : (input : Option (List ℕ)) → IfSome input (λ all. input_of input ≡ all)
unfolding input_of
input_is None = tt
input_is (Some all) = refl

pub input_unwritten : (input old : Option (List ℕ)) → ReportsPrefix input old old
input_unwritten input old = let told = report_total (input_of input) in (input_of input, input_is input, (told.0, told.1, told.2, no_front old told.0))

-- a prefix of a text is one of a longer text
pub longer_part : (old new : Option (List ℕ)) (piece after all more : List ℕ) → ReportsPart old new piece after all → ReportsPart old new piece after (all ++ more)
longer_part old new piece after all more part = record {
  written = part.written;
  appends = part.appends;
  front = (
    part.front.0 ++ more,
    sym (append_assoc (part.written ++ after) part.front.0 more) ∙ ap (λ l. l ++ more) part.front.1 ∙ append_assoc piece all more,
  );
}

-- the text before them was reported, or a prefix of it
pub after_none : (start : List ℕ) (plan : Plan) (count : ℕ) (g : ScriptGroup) (script : List (List ℕ)) (old : Option (List ℕ)) (piece : List ℕ) → TellsPartAfter start plan count g script old old piece piece
after_none start plan count g script old piece = let told = lines_total plan count g script in (told.0, told.1, told.2, no_part old piece (start ++ told.0))

pub after_part : (start : List ℕ) (plan : Plan) (count : ℕ) (g : ScriptGroup) (script : List (List ℕ)) (old new : Option (List ℕ)) (piece after : List ℕ) → ReportsPart old new piece after start
    → TellsPartAfter start plan count g script old new piece after
after_part start plan count g script old new piece after part = let told = lines_total plan count g script in (told.0, told.1, told.2, longer_part old new piece after start told.0 part)

-- all of that was, and a prefix of what they report
pub after_whole : (start : List ℕ) (plan : Plan) (count : ℕ) (g : ScriptGroup) (script : List (List ℕ)) (old mid new : Option (List ℕ)) (piece next after : List ℕ) → Reports old mid piece next start
    → TellsPart plan count g script mid new next after → TellsPartAfter start plan count g script old new piece after
after_whole start plan count g script old mid new piece next after first (all, verdict, tells, part) = (all, verdict, tells, more_part old mid new piece next after start all first part)

-- the later segment reported a prefix
pub tells_after : (start : List ℕ) (plan : Plan) (count later : ℕ) (g next : ScriptGroup) (script rest : List (List ℕ)) (old mid new : Option (List ℕ)) (piece kept after text : List ℕ)
    → Continues plan count g script (text ++ start) later next rest → Reports old mid piece kept text → TellsPartAfter start plan later next rest mid new kept after → TellsPart plan count g script old new piece after
tells_after start plan count later g next script rest old mid new piece kept after text leads reports (all, verdict, tells, part) = (
  text ++ (start ++ all),
  verdict,
  subst (λ t. TellsLines plan count g script t verdict) (append_assoc text start all) (leads all verdict tells),
  more_part old mid new piece kept after text (start ++ all) reports part,
)

-- all of it was written
pub whole_front : (old new : Option (List ℕ)) (text : List ℕ) → Appends old new text → AppendsPrefix old new text
whole_front old new text whole = (text, ([], append-nil text), whole)

-- what came has some report, of which nothing was written
pub came_unwritten : (came : List ℕ) (old : Option (List ℕ)) → WritesPrefix (IsReport came) old old
came_unwritten came old = let told = report_total came in (told.0, told.1, told.2, no_front old told.0)
