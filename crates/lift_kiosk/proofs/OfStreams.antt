-- What came, what went and what was heard in a session is what is said of it.
use Rattle.std.proofs.Common.{◌≡◌, ℕ, ◌+◌, List, [], ◌∷◌, ◌++◌, length, sym, ap, ◌∙◌, inl, inr, append_assoc}
use Rattle.std.specs.Prelude.{Option}
use Rattle.std.specs.List.{flat_map}
use Rattle.std.proofs.lemmas.List.{append-nil}
use Rattle.std.proofs.lemmas.List.Concat.{flat_map-append}
use Rattle.lift_base.specs.declared.command.Reply.{Reply}
use Rattle.lift_base.specs.Output.{Sink}
use Rattle.lift_kiosk.specs.declared.dialect.Wanted.{Wanted}
use Rattle.lift_kiosk.specs.declared.outcome.Opening.{Opening}
use Rattle.lift_kiosk.specs.declared.outcome.Opening.TheVariants.{Free, BroughtIn, StillWaits}
use Rattle.lift_kiosk.specs.declared.outcome.Outcome.{Outcome}
use Rattle.lift_kiosk.specs.declared.outcome.Outcome.TheVariants.{Malformed, OffFloors, Answered, NotAnswered, Refused}
use Rattle.lift_kiosk.specs.declared.terms.End.{End}
use Rattle.lift_kiosk.specs.declared.terms.End.TheVariants.{Closed, Limit, Late, Spent, ReadFault, WriteFault}
use Rattle.lift_kiosk.specs.declared.terms.LastLetter.{LastLetter}
use Rattle.lift_kiosk.specs.declared.terms.Limits.{Limits}
use Rattle.lift_kiosk.specs.Lines.{Source}
use Rattle.lift_kiosk.specs.Port.{PortView}
use Rattle.lift_kiosk.specs.Session.{Standing, PortDid, PortOpened, AnswersLines, LastStep, EndsAtOnce, EndsAfter, IsSession, answer_line, opening_line}
use Rattle.lift_kiosk.specs.Determined.{given, lines_of, all_given, answers_text}
use Rattle.lift_kiosk.specs.Whole.{SessionLinesEnd, came_first, first_text, came_last, last_text, came_after, text_after, came_to, text_of, brought_by}
use Rattle.lift_kiosk.specs.Streams.{IsOfStreams, bytes_that_came_last, heard_in, last_given, lines_read, streams_of}

abbrev replies : List (Option (Option Reply)) → List Reply
replies gave = flat_map heard_in gave

-- what the port heard for a line
line_heard : (looks : ℕ) (before : PortView) (outcome : Outcome) (after : PortView) → PortDid looks before outcome after
    → after.heard ≡ before.heard ++ replies (given outcome)
line_heard looks before Malformed after did = ap (λ (v : PortView). v.heard) did ∙ sym (append-nil before.heard)
line_heard looks before OffFloors after did = ap (λ (v : PortView). v.heard) did ∙ sym (append-nil before.heard)
line_heard looks before (Answered ask reply) after did =
    ap (λ (v : PortView). v.heard) did.2.2 ∙ ap (λ (h : List Reply). h ++ reply ∷ []) did.1.heard
line_heard looks before (NotAnswered ask) after did =
    ap (λ (v : PortView). v.heard) did.2 ∙ did.1.heard ∙ sym (append-nil before.heard)
line_heard looks before (Refused ask) after did = ap (λ (v : PortView). v.heard) did.2 ∙ sym (append-nil before.heard)

-- and at the start
opening_heard : (looks : ℕ) (before : PortView) (opening : Opening) (after : PortView) → PortOpened looks before opening after
    → after.heard ≡ before.heard ++ heard_in (brought_by opening)
opening_heard looks before Free after did = ap (λ (v : PortView). v.heard) did.1 ∙ sym (append-nil before.heard)
opening_heard looks before (BroughtIn number reply) after did = ap (λ (v : PortView). v.heard) did.1.2
opening_heard looks before StillWaits after did = ap (λ (v : PortView). v.heard) did.1 ∙ sym (append-nil before.heard)

-- a list that grew twice
grew : {X : Type 0} (first mid last one two : List X) → mid ≡ first ++ one → last ≡ mid ++ two → last ≡ first ++ (one ++ two)
grew first mid last one two a b = b ∙ ap (λ l. l ++ two) a ∙ append_assoc first one two

module _ (wants : List ℕ → Wanted → Type 0) (keeps : LastLetter → ℕ → Reply → LastLetter) (limits : Limits) where
  run_came : (xs : List (List ℕ × Outcome)) (before after : Standing) (behind : List ℕ) → AnswersLines wants keeps limits xs before after
      → after.source.came ++ behind ≡ before.source.came ++ lines_read (lines_of xs) behind
  run_came [] before after behind run = ap (λ (s : Standing). s.source.came ++ behind) run
  run_came (x ∷ xs) before after behind run =
      let rest : List ℕ = lines_read (lines_of xs) behind in
      run_came xs run.0 after behind run.3 ∙ ap (λ (c : List ℕ). c ++ rest) run.1.exchange.read.bytes.came
      ∙ append_assoc before.source.came (x.0 ++ 10 ∷ []) rest ∙ ap (λ (t : List ℕ). before.source.came ++ t) (append_assoc x.0 (10 ∷ []) rest)

  run_gone : (xs : List (List ℕ × Outcome)) (before after : Standing) → AnswersLines wants keeps limits xs before after
      → after.sink.gone ≡ before.sink.gone ++ answers_text xs
  run_gone [] before after run = ap (λ (s : Standing). s.sink.gone) run ∙ sym (append-nil before.sink.gone)
  run_gone (x ∷ xs) before after run =
      grew before.sink.gone run.0.sink.gone after.sink.gone (answer_line x.1) (answers_text xs) run.1.wrote.gone (run_gone xs run.0 after run.3)

  run_heard : (xs : List (List ℕ × Outcome)) (before after : Standing) → AnswersLines wants keeps limits xs before after
      → after.port.heard ≡ before.port.heard ++ replies (all_given xs)
  run_heard [] before after run = ap (λ (s : Standing). s.port.heard) run ∙ sym (append-nil before.port.heard)
  run_heard (x ∷ xs) before after run =
      grew before.port.heard run.0.port.heard after.port.heard (replies (given x.1)) (replies (all_given xs))
      (line_heard limits.looks before.port x.1 run.0.port run.1.exchange.port) (run_heard xs run.0 after run.3)
      ∙ ap (λ (r : List Reply). before.port.heard ++ r) (sym (flat_map-append heard_in (given x.1) (all_given xs)))

  -- the last step
  record StepIs (bytes text : List ℕ) (heard : List Reply) (before after : Standing) : Type 0 where
    pub came : after.source.came ≡ before.source.came ++ bytes
    pub gone : after.sink.gone ≡ before.sink.gone ++ text
    pub heard_so : after.port.heard ≡ before.port.heard ++ heard

  nothing_gone : (before after : Sink) → after ≡ before → after.gone ≡ before.gone ++ []
  nothing_gone before after same = ap (λ (s : Sink). s.gone) same ∙ sym (append-nil before.gone)

  nothing_heard : (before after : PortView) → after ≡ before → after.heard ≡ before.heard ++ []
  nothing_heard before after same = ap (λ (v : PortView). v.heard) same ∙ sym (append-nil before.heard)

  step_is : (calls : ℕ) (end : End) (before after : Standing) (step : LastStep wants keeps limits calls end before after)
      → StepIs (bytes_that_came_last (came_last wants keeps limits calls end before after step)) (last_text wants keeps limits calls end before after step)
      (replies (last_given (came_last wants keeps limits calls end before after step))) before after
  step_is calls Closed before after step = record {
    came = step.3.came ∙ step.2.read.bytes.came;
    gone = nothing_gone before.sink after.sink step.2.sink;
    heard_so = nothing_heard before.port after.port step.2.port;
  }
  step_is calls ReadFault before after step = record {
    came = step.3.came ∙ step.2.read.bytes.came;
    gone = nothing_gone before.sink after.sink step.2.sink;
    heard_so = nothing_heard before.port after.port step.2.port;
  }
  step_is calls Limit before after step = record {
    came = step.1.read.bytes.came;
    gone = nothing_gone before.sink after.sink step.1.sink;
    heard_so = nothing_heard before.port after.port step.1.port;
  }
  step_is calls Late before after step = record {
    came = step.2.exchange.read.bytes.came;
    gone = step.2.wrote.gone;
    heard_so = line_heard limits.looks before.port (NotAnswered step.1) after.port step.2.exchange.port;
  }
  step_is calls Spent before after step = record {
    came = step.2.exchange.read.bytes.came;
    gone = step.2.wrote.gone;
    heard_so = line_heard limits.looks before.port (Refused step.1) after.port step.2.exchange.port;
  }
  step_is calls WriteFault before after step = record {
    came = step.2.read.bytes.came;
    gone = step.4.gone;
    heard_so = line_heard limits.looks before.port step.1 after.port step.2.port;
  }

  end_is : (calls : ℕ) (end : End) (count : ℕ) (answered after : Standing) (ends : SessionLinesEnd wants keeps limits calls end count answered after)
      → StepIs (bytes_that_came_last (came_after wants keeps limits calls end count answered after ends)) (text_after wants keeps limits calls end count answered after ends)
      (replies (last_given (came_after wants keeps limits calls end count answered after ends))) answered after
  end_is calls end count answered after (inl all) = record {
    came = ap (λ (s : Standing). s.source.came) all.2 ∙ sym (append-nil answered.source.came);
    gone = ap (λ (s : Standing). s.sink.gone) all.2 ∙ sym (append-nil answered.sink.gone);
    heard_so = ap (λ (s : Standing). s.port.heard) all.2 ∙ sym (append-nil answered.port.heard);
  }
  end_is calls end count answered after (inr step) = step_is calls end answered after step.1

  first_is : (end : End) (before after : Standing) (first : EndsAtOnce keeps limits end before after)
      → IsOfStreams before after (streams_of (came_first keeps limits end before after first)) (first_text keeps limits end before after first)
  first_is Late before after first = record {
    came = ap (λ (s : Source). s.came) first.0.source ∙ sym (append-nil before.source.came);
    gone = first.1.gone;
    heard = opening_heard limits.looks before.port StillWaits after.port first.0.port;
  }
  first_is WriteFault before after first = record {
    came = ap (λ (s : Source). s.came) first.1.source ∙ sym (append-nil before.source.came);
    gone = first.3.gone;
    heard = opening_heard limits.looks before.port first.0 after.port first.1.port ∙ ap (λ (r : List Reply). before.port.heard ++ r) (sym (append-nil (heard_in (brought_by first.0))));
  }
  first_is Closed before after first = absurd first
  first_is Limit before after first = absurd first
  first_is Spent before after first = absurd first
  first_is ReadFault before after first = absurd first

  behind_is : (end : End) (before after : Standing) (behind : EndsAfter wants keeps limits end before after)
      → IsOfStreams before after (streams_of (came_to wants keeps limits end before after (inr behind))) (text_of wants keeps limits end before after (inr behind))
  behind_is end before after behind =
      let calls : ℕ = before.source.calls + limits.reads in
      let xs = behind.lines.exchanges in
      let answered = behind.lines.answered in
      let last = end_is calls end (length xs) answered after behind.lines.ends in
      let came = came_after wants keeps limits calls end (length xs) answered after behind.lines.ends in
      let text = text_after wants keeps limits calls end (length xs) answered after behind.lines.ends in
      let brought = heard_in (brought_by behind.opening) in
      record {
        came = last.came ∙ run_came xs behind.greeted answered (bytes_that_came_last came) behind.lines.runs
            ∙ ap (λ (s : Source). s.came ++ lines_read (lines_of xs) (bytes_that_came_last came)) behind.opens.source;
        gone = grew before.sink.gone answered.sink.gone after.sink.gone (opening_line behind.greeted.last behind.opening ++ answers_text xs) text
            (grew before.sink.gone behind.greeted.sink.gone answered.sink.gone (opening_line behind.greeted.last behind.opening) (answers_text xs) behind.greets.gone (run_gone xs behind.greeted answered behind.lines.runs)) last.gone;
        heard = grew before.port.heard behind.greeted.port.heard after.port.heard brought (replies (all_given xs ++ last_given came))
            (opening_heard limits.looks before.port behind.opening behind.greeted.port behind.opens.port)
            (grew behind.greeted.port.heard answered.port.heard after.port.heard (replies (all_given xs)) (replies (last_given came)) (run_heard xs behind.greeted answered behind.lines.runs) last.heard_so
            ∙ ap (λ (r : List Reply). behind.greeted.port.heard ++ r) (sym (flat_map-append heard_in (all_given xs) (last_given came))));
      }

  pub is_of_streams : (end : End) (before after : Standing) (session : IsSession wants keeps limits end before after)
      → IsOfStreams before after (streams_of (came_to wants keeps limits end before after session)) (text_of wants keeps limits end before after session)
  is_of_streams end before after (inl first) = first_is end before after first
  is_of_streams end before after (inr behind) = behind_is end before after behind
