-- What the end of a session tells of the port and of the reader.
use Rattle.std.proofs.Common.{◌≡◌, ◌≢◌, ℕ, ◌+◌, ◌≤◌, true, List, [], ◌∷◌, sym, ap, subst, ◌∙◌}
use Rattle.std.proofs.Common.{arith, inl, inr}
use Rattle.std.specs.Prelude.{Some, None}
use Rattle.lift_base.specs.declared.command.Reply.{Reply}
use Rattle.lift_kiosk.specs.declared.terms.LastLetter.{LastLetter}
use Rattle.lift_kiosk.specs.declared.terms.Limits.{Limits}
use Rattle.lift_kiosk.specs.declared.terms.End.{End}
use Rattle.lift_kiosk.specs.declared.terms.End.TheVariants.{Closed, Late, Spent, ReadFault}
use Rattle.lift_kiosk.specs.declared.terms.End.TheVariants.{WriteFault, Limit}
use Rattle.lift_kiosk.specs.declared.dialect.Wanted.{Wanted}
use Rattle.lift_kiosk.specs.declared.outcome.Opening.{Opening}
use Rattle.lift_kiosk.specs.declared.outcome.Opening.TheVariants.{Free, BroughtIn, StillWaits}
use Rattle.lift_kiosk.specs.declared.outcome.Outcome.{Outcome}
use Rattle.lift_kiosk.specs.declared.outcome.Outcome.TheVariants.{Malformed, OffFloors, Answered}
use Rattle.lift_kiosk.specs.declared.outcome.Outcome.TheVariants.{NotAnswered, Refused}
use Rattle.lift_desk.specs.declared.words.Ask.{Ask}
use Rattle.lift_kiosk.specs.Port.{PortView}
use Rattle.lift_base.specs.Output.{Sink, Takes}
use Rattle.lift_kiosk.specs.Lines.{Source}
use Rattle.lift_kiosk.specs.Session.{Standing, PortDid, PortOpened, AnswersLines, LastStep}
use Rattle.lift_kiosk.specs.Session.{EndsLines, SessionOpens, opening_line, Converses}
use Rattle.lift_kiosk.specs.Session.{EndsAsCalled, ends_found, failed_reads, failed_writes}

-- no line takes looks back
pub looks_grow : (looks : ℕ) (before : PortView) (outcome : Outcome) (after : PortView)
    → PortDid looks before outcome after → before.looks ≤ after.looks
looks_grow looks before Malformed after did = omega (arith, ap (λ (v : PortView). v.looks) did)
looks_grow looks before OffFloors after did = omega (arith, ap (λ (v : PortView). v.looks) did)
looks_grow looks before (Answered ask reply) after did =
    omega (arith, did.1.looks, ap (λ (v : PortView). v.looks) did.2.2)
looks_grow looks before (NotAnswered ask) after did =
    omega (arith, did.1.looks, ap (λ (v : PortView). v.looks) did.2)
looks_grow looks before (Refused ask) after did =
    omega (arith, ap (λ (v : PortView). v.looks) did.2)

run_grows : (wants : List ℕ → Wanted → Type 0) (keeps : LastLetter → ℕ → Reply
    → LastLetter) (limits : Limits) (xs : List (List ℕ × Outcome)) (before after : Standing)
    → AnswersLines wants keeps limits xs before after → before.port.looks ≤ after.port.looks
run_grows wants keeps limits [] before after run =
    omega (arith, ap (λ (s : Standing). s.port.looks) run)
run_grows wants keeps limits (x ∷ xs) before after run =
    omega (
      arith,
      looks_grow limits.looks before.port x.1 run.0.port run.1.exchange.port,
      run_grows
          wants keeps limits xs run.0 after run.3,
    )

pub opening_grows : (looks : ℕ) (before : PortView) (opening : Opening) (after : PortView)
    → PortOpened looks before opening after → before.looks ≤ after.looks
opening_grows looks before Free after did = omega (arith, ap (λ (v : PortView). v.looks) did.1)
opening_grows looks before (BroughtIn number reply) after did =
    omega (arith, ap (λ (v : PortView). v.looks) did.1.2)
opening_grows looks before StillWaits after did =
    omega (arith, ap (λ (v : PortView). v.looks) did.1)

-- an answer is awaited, and all looks for it were made
abbrev pub IsLate : ℕ → PortView → PortView → Type 0
IsLate looks before after = (after.pending ≢ None) × (before.looks + looks ≤ after.looks)

pub not_answered : (looks : ℕ) (before : PortView) (ask : Ask) (after : PortView)
    → PortDid looks before (NotAnswered ask) after → IsLate looks before after
not_answered looks before ask after did =
    let waits : after.pending ≡ Some ask.number =
    ap (λ (v : PortView). v.pending) did.2 ∙ did.1.pending in (
      λ none. (let both = sym waits ∙ none in
          cc),
      omega (arith, did.1.looks, ap (λ (v : PortView). v.looks) did.2),
    )

late_step : (wants : List ℕ → Wanted → Type 0) (keeps : LastLetter → ℕ → Reply
    → LastLetter) (limits : Limits) (calls : ℕ) (before after : Standing)
    → LastStep wants keeps limits calls Late before after
    → IsLate limits.looks before.port after.port
late_step wants keeps limits calls before after step =
    not_answered limits.looks before.port step.1 after.port step.2.exchange.port

-- a session that ends late after its opening awaits an answer
pub late_lines : (wants : List ℕ → Wanted → Type 0) (keeps : LastLetter → ℕ → Reply
    → LastLetter) (limits : Limits) (calls : ℕ) (end : End) (opening : Opening) (first : PortView)
    (before after : Standing)
    → PortOpened limits.looks first opening before.port
    → EndsLines wants keeps limits calls end before after → end ≡ Late
    → IsLate limits.looks first after.port
late_lines wants keeps limits calls end opening first before after opened lines late =
    elim lines.ends [
      | inl all ↦ absurd (let both = sym all.1 ∙ late in cc)
      | inr step ↦
          (let last = late_step wants keeps limits calls lines.answered after
          (subst (λ e. LastStep wants keeps limits calls e lines.answered after) late step.1) in (
            last.0,
            omega (
              arith,
              last.1,
              opening_grows limits.looks first opening before.port
                  opened,
              run_grows wants keeps limits lines.exchanges before lines.answered lines.runs,
            ),
          ))
    ]

-- one that ends spent has no turn left
pub spent_lines : (wants : List ℕ → Wanted → Type 0) (keeps : LastLetter → ℕ → Reply
    → LastLetter) (limits : Limits) (calls : ℕ) (end : End) (before after : Standing)
    → EndsLines wants keeps limits calls end before after → end ≡ Spent
    → (after.port.spent ≡ true) × (after.port.pending ≡ None)
spent_lines wants keeps limits calls end before after lines spent =
    elim lines.ends [
      | inl all ↦ absurd (let both = sym all.1 ∙ spent in cc)
      | inr step ↦
          (let last = subst (λ e. LastStep wants keeps limits calls e lines.answered after) spent
          step.1 in
          let same = last.2.exchange.port.2 in (
            ap (λ (v : PortView). v.spent) same ∙ last.2.exchange.port.0,
            ap (λ (v : PortView).
                v.pending) same ∙ last.2.exchange.port.1,
          ))
    ]

-- one that ends closed found the reader's end
pub closed_lines : (wants : List ℕ → Wanted → Type 0) (keeps : LastLetter → ℕ → Reply
    → LastLetter) (limits : Limits) (calls : ℕ) (end : End) (before after : Standing)
    → EndsLines wants keeps limits calls end before after → end ≡ Closed → after.source.ended ≡ true
closed_lines wants keeps limits calls end before after lines closed =
    elim lines.ends [
      | inl all ↦ absurd (let both = sym all.1 ∙ closed in cc)
      | inr step ↦ (let last = subst (λ e.
          LastStep wants keeps limits calls e lines.answered after) closed step.1 in last.3.ended)
    ]

-- one that ends with a fault of the reader saw a call fail
pub failed_lines : (wants : List ℕ → Wanted → Type 0) (keeps : LastLetter → ℕ → Reply
    → LastLetter) (limits : Limits) (calls : ℕ) (end : End) (before after : Standing)
    → EndsLines wants keeps limits calls end before after → end ≡ ReadFault
    → after.source.failed ≡ true
failed_lines wants keeps limits calls end before after lines failed =
    elim lines.ends [
      | inl all ↦ absurd (let both = sym all.1 ∙ failed in cc)
      | inr step ↦ (let last = subst (λ e.
          LastStep wants keeps limits calls e lines.answered after) failed step.1 in last.3.failed)
    ]

-- one that ends with a fault of the writer saw a call fail
pub unwritten_lines : (wants : List ℕ → Wanted → Type 0) (keeps : LastLetter → ℕ → Reply
    → LastLetter) (limits : Limits) (calls : ℕ) (end : End) (before after : Standing)
    → EndsLines wants keeps limits calls end before after → end ≡ WriteFault
    → after.sink.failed ≡ true
unwritten_lines wants keeps limits calls end before after lines failed =
    elim lines.ends [
      | inl all ↦ absurd (let both = sym all.1 ∙ failed in cc)
      | inr step ↦ (let last = subst (λ e.
          LastStep wants keeps limits calls e lines.answered after) failed step.1 in last.4.failed)
    ]

-- no line that is answered has a call that failed, or found the end
pub record NoneFailed (before after : Standing) : Type 0 where
  pub read : after.source.failures ≡ before.source.failures
  pub found : after.source.ends ≡ before.source.ends
  pub wrote : after.sink.failures ≡ before.sink.failures

run_counts : (wants : List ℕ → Wanted → Type 0) (keeps : LastLetter → ℕ → Reply
    → LastLetter) (limits : Limits) (xs : List (List ℕ × Outcome)) (before after : Standing)
    → AnswersLines wants keeps limits xs before after → NoneFailed before after
run_counts wants keeps limits [] before after run = record {
  read = ap (λ (s : Standing). s.source.failures) run;
  found = ap (λ (s : Standing). s.source.ends) run;
  wrote = ap (λ (s : Standing). s.sink.failures) run;
}
run_counts wants keeps limits (x ∷ xs) before after run =
    let rest = run_counts wants keeps limits xs run.0 after run.3 in
    let line = run.1.exchange.read.bytes in
    record {
      read = rest.read ∙ line.failures;
      found = rest.found ∙ line.ends;
      wrote = rest.wrote ∙ run.1.wrote.failures;
    }

step_counts : (wants : List ℕ → Wanted → Type 0) (keeps : LastLetter → ℕ → Reply
    → LastLetter) (limits : Limits) (calls : ℕ) (end : End) (before after : Standing)
    → LastStep wants keeps limits calls end before after → EndsAsCalled end before after
step_counts wants keeps limits calls Closed before after step = record {
  read = step.3.failures ∙ step.2.read.bytes.failures;
  found = step.3.ends ∙ ap (λ (n : ℕ). n + 1) step.2.read.bytes.ends;
  wrote = ap (λ (s : Sink). s.failures) step.2.sink;
}
step_counts wants keeps limits calls ReadFault before after step = record {
  read = step.3.failures ∙ ap (λ (n : ℕ). n + 1) step.2.read.bytes.failures;
  found = step.3.ends ∙ step.2.read.bytes.ends;
  wrote = ap (λ (s : Sink). s.failures) step.2.sink;
}
step_counts wants keeps limits calls Limit before after step = record {
  read = step.1.read.bytes.failures;
  found = step.1.read.bytes.ends;
  wrote = ap (λ (s : Sink). s.failures) step.1.sink;
}
step_counts wants keeps limits calls Late before after step = record {
  read = step.2.exchange.read.bytes.failures;
  found = step.2.exchange.read.bytes.ends;
  wrote = step.2.wrote.failures;
}
step_counts wants keeps limits calls Spent before after step = record {
  read = step.2.exchange.read.bytes.failures;
  found = step.2.exchange.read.bytes.ends;
  wrote = step.2.wrote.failures;
}
step_counts wants keeps limits calls WriteFault before after step = record {
  read = step.2.read.bytes.failures;
  found = step.2.read.bytes.ends;
  wrote = step.4.failures;
}

-- an end after calls of which none failed
counts_after : (end : End) (before mid after : Standing) → NoneFailed before mid
    → EndsAsCalled end mid after → EndsAsCalled end before after
counts_after end before mid after none ends = record {
  read = ends.read ∙ ap (failed_reads end) none.read;
  found = ends.found ∙ ap (ends_found end) none.found;
  wrote = ends.wrote ∙ ap (failed_writes end) none.wrote;
}

lines_count : (wants : List ℕ → Wanted → Type 0) (keeps : LastLetter → ℕ → Reply
    → LastLetter) (limits : Limits) (calls : ℕ) (end : End) (before after : Standing)
    → EndsLines wants keeps limits calls end before after → EndsAsCalled end before after
lines_count wants keeps limits calls end before after lines =
    let none = run_counts wants keeps limits lines.exchanges before lines.answered lines.runs in
    counts_after end before lines.answered after none (elim lines.ends [
      | inl all ↦ subst (λ e. EndsAsCalled e lines.answered after) (sym all.1) (record {
        read = ap (λ (s : Standing). s.source.failures) all.2;
        found = ap (λ (s : Standing). s.source.ends) all.2;
        wrote = ap (λ (s : Standing). s.sink.failures) all.2;
      })
      | inr step ↦ step_counts wants keeps limits calls end lines.answered after step.1
    ])

-- what lines after a greeting tell of the whole session
pub after_greeting : (wants : List ℕ → Wanted → Type 0) (keeps : LastLetter → ℕ → Reply
    → LastLetter) (limits : Limits) (end : End) (opening : Opening)
    (before greeted after : Standing)
    → SessionOpens keeps limits opening before greeted
    → Takes (opening_line greeted.last opening) before.sink greeted.sink
    → opening ≢ StillWaits
    → EndsLines wants keeps limits (before.source.calls + limits.reads) end greeted after
    → after.source.calls ≤ before.source.calls + limits.reads
    → Converses wants keeps limits end before after
after_greeting wants keeps limits end opening before greeted after opens greets ready lines
    within =
    let calls : ℕ = before.source.calls + limits.reads in
    record {
      session = inr
          (record {
            opening = opening;
            greeted = greeted;
            opens = opens;
            greets = greets;
            ready = ready;
            lines = lines;
          });
      calls = within;
      late = late_lines wants keeps limits calls end opening before.port greeted after opens.port
          lines;
      spent = spent_lines wants keeps limits calls end greeted after lines;
      closed = closed_lines wants keeps limits calls end greeted after lines;
      unwritten = unwritten_lines wants keeps limits calls end greeted after lines;
      failed = failed_lines wants keeps limits calls end greeted after lines;
      counted = counts_after end before greeted after (record {
        read = ap (λ (s : Source). s.failures) opens.source;
        found = ap (λ (s : Source). s.ends) opens.source;
        wrote = greets.failures;
      }) (lines_count wants keeps limits calls end greeted after lines);
    }
