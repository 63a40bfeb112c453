-- What ends a session, what it wrote and what it knows then are functions of what came to it.
use Rattle.std.proofs.Common.{◌≡◌, ℕ, ◌+◌, Bool, true, false, List, [], ◌∷◌, ◌++◌, length, refl, sym, ◌∙◌, ap, subst, inl, inr}
use Rattle.std.specs.Prelude.{Option, Some, None, ◌⊎◌}
use Rattle.std.specs.Str.Lines.{strip_carriage_return}
use Rattle.std.specs.Io.KnownBytes.{Appends}
use Rattle.std.proofs.lemmas.Bool.{false≢true}
use Rattle.lift_base.specs.declared.command.Reply.{Reply}
use Rattle.lift_base.specs.Output.{Sink}
use Rattle.lift_kiosk.specs.declared.dialect.Wanted.{Wanted}
use Rattle.lift_kiosk.specs.declared.outcome.Opening.{Opening}
use Rattle.lift_kiosk.specs.declared.outcome.Opening.TheVariants.{Free, BroughtIn, StillWaits}
use Rattle.lift_kiosk.specs.declared.outcome.Outcome.{Outcome}
use Rattle.lift_kiosk.specs.declared.outcome.Outcome.TheVariants.{NotAnswered, Refused}
use Rattle.lift_kiosk.specs.declared.terms.End.{End}
use Rattle.lift_kiosk.specs.declared.terms.End.TheVariants.{Closed, Limit, Late, Spent, ReadFault, WriteFault}
use Rattle.lift_kiosk.specs.declared.terms.LastLetter.{LastLetter}
use Rattle.lift_kiosk.specs.declared.terms.Limits.{Limits}
use Rattle.lift_kiosk.specs.Port.{PortView}
use Rattle.lift_kiosk.specs.Session.{Standing, Means, PortOpened, LastStep, EndsAtOnce, EndsAfter, IsSession, last_after, last_opened, answer_line, opening_line}
use Rattle.lift_kiosk.specs.Determined.{given, answers_text}
use Rattle.lift_kiosk.specs.Whole.{LastCame, NoAnswer, FirstLineCut, NothingMore, ReaderEnded, ReaderFailed, CallsUsed, LastLine}
use Rattle.lift_kiosk.specs.Whole.{Came, SessionLinesEnd, brought_by, cut_to, came_first, first_text, came_last, last_text, came_after, text_after, came_to, text_of}
use Rattle.lift_kiosk.proofs.Determined.{outcome_is, exchanges_are, written_is, appends_then, appends_none}

abbrev end_for : List (Option (Option Reply)) → Option ℕ → End
end_for gave (Some count) = WriteFault
end_for [] None = Spent
end_for (None ∷ more) None = Spent
end_for (Some reply ∷ more) None = Late

abbrev end_by : LastCame → End
end_by NoAnswer = Late
end_by (FirstLineCut count) = WriteFault
end_by NothingMore = Limit
end_by (ReaderEnded part) = Closed
end_by (ReaderFailed part) = ReadFault
end_by (CallsUsed part) = Limit
end_by (LastLine line gave cut) = end_for gave cut

-- it ended with the first line
abbrev is_first : LastCame → Bool
is_first NoAnswer = true
is_first (FirstLineCut count) = true
is_first NothingMore = false
is_first (ReaderEnded part) = false
is_first (ReaderFailed part) = false
is_first (CallsUsed part) = false
is_first (LastLine line gave cut) = false

abbrev is_line : LastCame → Bool
is_line NoAnswer = false
is_line (FirstLineCut count) = false
is_line NothingMore = false
is_line (ReaderEnded part) = false
is_line (ReaderFailed part) = false
is_line (CallsUsed part) = false
is_line (LastLine line gave cut) = true

abbrev pub first_came : Option ℕ → LastCame
first_came None = NoAnswer
first_came (Some count) = FirstLineCut count

abbrev cut_in : LastCame → Option ℕ
cut_in NoAnswer = None
cut_in (FirstLineCut count) = Some count
cut_in NothingMore = None
cut_in (ReaderEnded part) = None
cut_in (ReaderFailed part) = None
cut_in (CallsUsed part) = None
cut_in (LastLine line gave cut) = None

cut_back : (cut : Option ℕ) → cut_in (first_came cut) ≡ cut
cut_back None = refl
cut_back (Some count) = refl

first_is_first : (cut : Option ℕ) → is_first (first_came cut) ≡ true
first_is_first None = refl
first_is_first (Some count) = refl

pub same_opening : (looks : ℕ) (one greeted other welcomed : PortView) (x y : Opening) → PortOpened looks one x greeted → PortOpened looks other y welcomed
    → one.pending ≡ other.pending → brought_by x ≡ brought_by y → x ≡ y
same_opening looks one greeted other welcomed Free Free a b waits same = refl
same_opening looks one greeted other welcomed Free (BroughtIn number reply) a b waits same = absurd (cc same)
same_opening looks one greeted other welcomed Free StillWaits a b waits same = absurd (cc same)
same_opening looks one greeted other welcomed (BroughtIn number reply) Free a b waits same = absurd (cc same)
same_opening looks one greeted other welcomed (BroughtIn number reply) (BroughtIn later answer) a b waits same =
    let numbers : Some number ≡ Some later = sym a.0 ∙ waits ∙ b.0 in
    let n : number ≡ later = cc numbers in
    let r : reply ≡ answer = cc same in
    ap (λ (m : ℕ). BroughtIn m reply) n ∙ ap (λ (s : Reply). BroughtIn later s) r
same_opening looks one greeted other welcomed (BroughtIn number reply) StillWaits a b waits same = absurd (cc same)
same_opening looks one greeted other welcomed StillWaits Free a b waits same = absurd (cc same)
same_opening looks one greeted other welcomed StillWaits (BroughtIn number reply) a b waits same = absurd (cc same)
same_opening looks one greeted other welcomed StillWaits StillWaits a b waits same = refl

-- no line came last
record Silent (came : LastCame) (text : List ℕ) (before after : Standing) : Type 0 where
  pub last : after.last ≡ before.last
  pub nothing : text ≡ []
  pub lineless : is_line came ≡ false

-- a line came last, and was answered as far as the writer took it
record Spoken (wants : List ℕ → Wanted → Type 0) (keeps : LastLetter → ℕ → Reply → LastLetter) (came : LastCame) (text : List ℕ) (before after : Standing) : Type 0 where
  pub line : List ℕ
  pub outcome : Outcome
  pub cut : Option ℕ
  pub came_so : came ≡ LastLine line (given outcome) cut
  pub means : Means wants (strip_carriage_return line) outcome
  pub last : after.last ≡ last_after keeps before.last outcome
  pub wrote : text ≡ cut_to cut (answer_line outcome)

-- it ended with its first line
pub record AtOnce (keeps : LastLetter → ℕ → Reply → LastLetter) (looks : ℕ) (end : End) (came : Came) (text : List ℕ) (before after : Standing) : Type 0 where
  pub opening : Opening
  pub cut : Option ℕ
  pub opened : PortOpened looks before.port opening after.port
  pub last : after.last ≡ last_opened keeps before.last opening
  pub wrote : text ≡ cut_to cut (opening_line after.last opening)
  pub came_so : came ≡ record { brought = brought_by opening; lines = []; given = []; last = first_came cut }
  pub ended : end_by (first_came cut) ≡ end

module _ (wants : List ℕ → Wanted → Type 0) (unique : (line : List ℕ) (one other : Wanted) → wants line one → wants line other → one ≡ other)
    (keeps : LastLetter → ℕ → Reply → LastLetter) (limits : Limits) where
  step_seen : (calls : ℕ) (end : End) (before after : Standing) (step : LastStep wants keeps limits calls end before after)
      → Silent (came_last wants keeps limits calls end before after step) (last_text wants keeps limits calls end before after step) before after
      ⊎ Spoken wants keeps (came_last wants keeps limits calls end before after step) (last_text wants keeps limits calls end before after step) before after
  step_seen calls Closed before after step = inl (record { last = step.2.last; nothing = refl; lineless = refl })
  step_seen calls ReadFault before after step = inl (record { last = step.2.last; nothing = refl; lineless = refl })
  step_seen calls Limit before after step = inl (record { last = step.1.last; nothing = refl; lineless = refl })
  step_seen calls Late before after step =
      inr (record { line = step.0; outcome = NotAnswered step.1; cut = None; came_so = refl; means = step.2.exchange.means; last = step.2.exchange.last; wrote = refl })
  step_seen calls Spent before after step =
      inr (record { line = step.0; outcome = Refused step.1; cut = None; came_so = refl; means = step.2.exchange.means; last = step.2.exchange.last; wrote = refl })
  step_seen calls WriteFault before after step =
      inr (record { line = step.0; outcome = step.1; cut = Some step.3; came_so = refl; means = step.2.means; last = step.2.last; wrote = refl })

  after_seen : (calls : ℕ) (end : End) (count : ℕ) (answered after : Standing) (ends : SessionLinesEnd wants keeps limits calls end count answered after)
      → Silent (came_after wants keeps limits calls end count answered after ends) (text_after wants keeps limits calls end count answered after ends) answered after
      ⊎ Spoken wants keeps (came_after wants keeps limits calls end count answered after ends) (text_after wants keeps limits calls end count answered after ends) answered after
  after_seen calls end count answered after (inl all) = inl (record { last = ap (λ (s : Standing). s.last) all.2; nothing = refl; lineless = refl })
  after_seen calls end count answered after (inr step) = step_seen calls end answered after step.1

  step_ends : (calls : ℕ) (end : End) (before after : Standing) (step : LastStep wants keeps limits calls end before after)
      → (end_by (came_last wants keeps limits calls end before after step) ≡ end) × (is_first (came_last wants keeps limits calls end before after step) ≡ false)
  step_ends calls Closed before after step = (refl, refl)
  step_ends calls ReadFault before after step = (refl, refl)
  step_ends calls Limit before after step = (refl, refl)
  step_ends calls Late before after step = (refl, refl)
  step_ends calls Spent before after step = (refl, refl)
  step_ends calls WriteFault before after step = (refl, refl)

  after_ends : (calls : ℕ) (end : End) (count : ℕ) (answered after : Standing) (ends : SessionLinesEnd wants keeps limits calls end count answered after)
      → (end_by (came_after wants keeps limits calls end count answered after ends) ≡ end) × (is_first (came_after wants keeps limits calls end count answered after ends) ≡ false)
  after_ends calls end count answered after (inl all) = (sym all.1, refl)
  after_ends calls end count answered after (inr step) = step_ends calls end answered after step.1

  same_spoken : (came more : LastCame) (text words : List ℕ) (one one_after other other_after : Standing)
      → Spoken wants keeps came text one one_after → Spoken wants keeps more words other other_after → one.last ≡ other.last → came ≡ more
      → (one_after.last ≡ other_after.last) × (text ≡ words)
  same_spoken came more text words one one_after other other_after a b last same =
      let lasts : LastLine a.line (given a.outcome) a.cut ≡ LastLine b.line (given b.outcome) b.cut = sym a.came_so ∙ same ∙ b.came_so in
      let line : a.line ≡ b.line = cc lasts in
      let gave : given a.outcome ≡ given b.outcome = cc lasts in
      let cut : a.cut ≡ b.cut = cc lasts in
      let means = subst (λ l. Means wants (strip_carriage_return l) a.outcome) line a.means in
      let outcome = outcome_is wants unique (strip_carriage_return b.line) a.outcome b.outcome means b.means gave in (
        a.last ∙ ap (λ (l : LastLetter). last_after keeps l a.outcome) last ∙ ap (last_after keeps other.last) outcome ∙ sym b.last,
        a.wrote ∙ ap (λ (c : Option ℕ). cut_to c (answer_line a.outcome)) cut ∙ ap (λ (o : Outcome). cut_to b.cut (answer_line o)) outcome ∙ sym b.wrote,
      )

  same_after : (came more : LastCame) (text words : List ℕ) (one one_after other other_after : Standing)
      → Silent came text one one_after ⊎ Spoken wants keeps came text one one_after → Silent more words other other_after ⊎ Spoken wants keeps more words other other_after
      → one.last ≡ other.last → came ≡ more → (one_after.last ≡ other_after.last) × (text ≡ words)
  same_after came more text words one one_after other other_after (inl a) (inl b) last same = (a.last ∙ last ∙ sym b.last, a.nothing ∙ sym b.nothing)
  same_after came more text words one one_after other other_after (inl a) (inr b) last same =
      absurd (false≢true (sym a.lineless ∙ ap is_line (same ∙ b.came_so)))
  same_after came more text words one one_after other other_after (inr a) (inl b) last same =
      absurd (false≢true (sym b.lineless ∙ ap is_line (sym same ∙ a.came_so)))
  same_after came more text words one one_after other other_after (inr a) (inr b) last same = same_spoken came more text words one one_after other other_after a b last same

  pub first_seen : (end : End) (before after : Standing) (first : EndsAtOnce keeps limits end before after)
      → AtOnce keeps limits.looks end (came_first keeps limits end before after first) (first_text keeps limits end before after first) before after
  first_seen Late before after first =
      record { opening = StillWaits; cut = None; opened = first.0.port; last = first.0.last; wrote = refl; came_so = refl; ended = refl }
  first_seen WriteFault before after first =
      record { opening = first.0; cut = Some first.2; opened = first.1.port; last = first.1.last; wrote = refl; came_so = refl; ended = refl }
  first_seen Closed before after first = absurd first
  first_seen Limit before after first = absurd first
  first_seen Spent before after first = absurd first
  first_seen ReadFault before after first = absurd first

  pub same_first : (one_end other_end : End) (came more : Came) (text words : List ℕ) (one one_after other other_after : Standing)
      → AtOnce keeps limits.looks one_end came text one one_after → AtOnce keeps limits.looks other_end more words other other_after
      → one.last ≡ other.last → one.port.pending ≡ other.port.pending → came ≡ more → (one_end ≡ other_end) × (one_after.last ≡ other_after.last) × (text ≡ words)
  same_first one_end other_end came more text words one one_after other other_after a b last waits same =
      let all = sym a.came_so ∙ same ∙ b.came_so in
      let opening = same_opening limits.looks one.port one_after.port other.port other_after.port a.opening b.opening a.opened b.opened waits (ap (λ (c : Came). c.brought) all) in
      let closes : first_came a.cut ≡ first_came b.cut = ap (λ (c : Came). c.last) all in
      let cut = sym (cut_back a.cut) ∙ ap cut_in closes ∙ cut_back b.cut in
      let known = a.last ∙ ap (λ (l : LastLetter). last_opened keeps l a.opening) last ∙ ap (last_opened keeps other.last) opening ∙ sym b.last in (
        sym a.ended ∙ ap end_by closes ∙ b.ended,
        known,
        a.wrote ∙ ap (λ (c : Option ℕ). cut_to c (opening_line one_after.last a.opening)) cut
            ∙ ap (λ (l : LastLetter). cut_to b.cut (opening_line l a.opening)) known ∙ ap (λ (o : Opening). cut_to b.cut (opening_line other_after.last o)) opening ∙ sym b.wrote,
      )

  not_both : (one_end other_end : End) (came : Came) (more : LastCame) (text : List ℕ) (one one_after : Standing)
      → AtOnce keeps limits.looks one_end came text one one_after → came.last ≡ more → is_first more ≡ false → ⊥
  not_both one_end other_end came more text one one_after a same later =
      false≢true (sym later ∙ ap is_first (sym same ∙ ap (λ (c : Came). c.last) a.came_so) ∙ first_is_first a.cut)

  same_lines : (one_end other_end : End) (one one_after other other_after : Standing) (a : EndsAfter wants keeps limits one_end one one_after) (b : EndsAfter wants keeps limits other_end other other_after)
      → one.last ≡ other.last → one.port.pending ≡ other.port.pending
      → came_to wants keeps limits one_end one one_after (inr a) ≡ came_to wants keeps limits other_end other other_after (inr b)
      → (one_end ≡ other_end) × (one_after.last ≡ other_after.last)
      × (text_of wants keeps limits one_end one one_after (inr a) ≡ text_of wants keeps limits other_end other other_after (inr b))
  same_lines one_end other_end one one_after other other_after a b last waits same =
      let calls = one.source.calls + limits.reads in
      let more = other.source.calls + limits.reads in
      let opening = same_opening limits.looks one.port a.greeted.port other.port b.greeted.port a.opening b.opening a.opens.port b.opens.port waits (ap (λ (c : Came). c.brought) same) in
      let known = a.opens.last ∙ ap (λ (l : LastLetter). last_opened keeps l a.opening) last ∙ ap (last_opened keeps other.last) opening ∙ sym b.opens.last in
      let lines = exchanges_are wants unique keeps limits a.lines.exchanges b.lines.exchanges a.greeted a.lines.answered b.greeted b.lines.answered a.lines.runs b.lines.runs known
      (ap (λ (c : Came). c.lines) same) (ap (λ (c : Came). c.given) same) in
      let closes = ap (λ (c : Came). c.last) same in
      let behind = same_after _ _ _ _ a.lines.answered one_after b.lines.answered other_after
      (after_seen calls one_end (length a.lines.exchanges) a.lines.answered one_after a.lines.ends)
      (after_seen more other_end (length b.lines.exchanges) b.lines.answered other_after b.lines.ends) lines.1 closes in
      let one_ends = after_ends calls one_end (length a.lines.exchanges) a.lines.answered one_after a.lines.ends in
      let other_ends = after_ends more other_end (length b.lines.exchanges) b.lines.answered other_after b.lines.ends in
      let greeting : opening_line a.greeted.last a.opening ≡ opening_line b.greeted.last b.opening =
      ap (λ (l : LastLetter). opening_line l a.opening) known ∙ ap (λ (o : Opening). opening_line b.greeted.last o) opening in
      let answers : answers_text a.lines.exchanges ≡ answers_text b.lines.exchanges = ap answers_text lines.0 in (
        sym one_ends.0 ∙ ap end_by closes ∙ other_ends.0,
        behind.0,
        ap (λ (t : List ℕ). t ++ answers_text a.lines.exchanges ++ text_after wants keeps limits calls one_end (length a.lines.exchanges) a.lines.answered one_after a.lines.ends) greeting
            ∙ ap (λ (t : List ℕ). opening_line b.greeted.last b.opening ++ t ++ text_after wants keeps limits calls one_end (length a.lines.exchanges) a.lines.answered one_after a.lines.ends) answers
            ∙ ap (λ (t : List ℕ). opening_line b.greeted.last b.opening ++ answers_text b.lines.exchanges ++ t) behind.1,
      )

  pub same_session : (one_end other_end : End) (one one_after other other_after : Standing)
      (first : IsSession wants keeps limits one_end one one_after) (second : IsSession wants keeps limits other_end other other_after)
      → one.last ≡ other.last → one.port.pending ≡ other.port.pending
      → came_to wants keeps limits one_end one one_after first ≡ came_to wants keeps limits other_end other other_after second
      → (one_end ≡ other_end) × (one_after.last ≡ other_after.last)
      × (text_of wants keeps limits one_end one one_after first ≡ text_of wants keeps limits other_end other other_after second)
  same_session one_end other_end one one_after other other_after (inl a) (inl b) last waits same =
      same_first one_end other_end _ _ _ _ one one_after other other_after (first_seen one_end one one_after a) (first_seen other_end other other_after b) last waits same
  same_session one_end other_end one one_after other other_after (inl a) (inr b) last waits same =
      absurd (not_both one_end other_end _ _ _ one one_after (first_seen one_end one one_after a) (ap (λ (c : Came). c.last) same)
      (after_ends (other.source.calls + limits.reads) other_end (length b.lines.exchanges) b.lines.answered other_after b.lines.ends).1)
  same_session one_end other_end one one_after other other_after (inr a) (inl b) last waits same =
      absurd (not_both other_end one_end _ _ _ other other_after (first_seen other_end other other_after b) (ap (λ (c : Came). c.last) (sym same))
      (after_ends (one.source.calls + limits.reads) one_end (length a.lines.exchanges) a.lines.answered one_after a.lines.ends).1)
  same_session one_end other_end one one_after other other_after (inr a) (inr b) last waits same = same_lines one_end other_end one one_after other other_after a b last waits same

  abbrev Wrote : Standing → Standing → List ℕ → Type 0
  Wrote before after text = Appends before.sink.written after.sink.written text

  nothing_written : (before after : Standing) → after.sink ≡ before.sink → Wrote before after []
  nothing_written before after same =
      subst (λ (s : Sink). Appends before.sink.written s.written []) (sym same) (appends_none wants unique keeps limits before.sink.written)

  step_written : (calls : ℕ) (end : End) (before after : Standing) (step : LastStep wants keeps limits calls end before after)
      → Wrote before after (last_text wants keeps limits calls end before after step)
  step_written calls Closed before after step = nothing_written before after step.2.sink
  step_written calls ReadFault before after step = nothing_written before after step.2.sink
  step_written calls Limit before after step = nothing_written before after step.1.sink
  step_written calls Late before after step = step.2.wrote.written
  step_written calls Spent before after step = step.2.wrote.written
  step_written calls WriteFault before after step = step.4.written

  after_written : (calls : ℕ) (end : End) (count : ℕ) (answered after : Standing) (ends : SessionLinesEnd wants keeps limits calls end count answered after)
      → Wrote answered after (text_after wants keeps limits calls end count answered after ends)
  after_written calls end count answered after (inl all) = nothing_written answered after (ap (λ (s : Standing). s.sink) all.2)
  after_written calls end count answered after (inr step) = step_written calls end answered after step.1

  first_written : (end : End) (before after : Standing) (first : EndsAtOnce keeps limits end before after) → Wrote before after (first_text keeps limits end before after first)
  first_written Late before after first = first.1.written
  first_written WriteFault before after first = first.3.written
  first_written Closed before after first = absurd first
  first_written Limit before after first = absurd first
  first_written Spent before after first = absurd first
  first_written ReadFault before after first = absurd first

  pub all_written : (end : End) (before after : Standing) (session : IsSession wants keeps limits end before after)
      → Wrote before after (text_of wants keeps limits end before after session)
  all_written end before after (inl first) = first_written end before after first
  all_written end before after (inr behind) =
      let lines = behind.lines in
      appends_then wants unique keeps limits before.sink.written lines.answered.sink.written after.sink.written _ _
      (appends_then wants unique keeps limits before.sink.written behind.greeted.sink.written lines.answered.sink.written _ _
      behind.greets.written (written_is wants unique keeps limits lines.exchanges behind.greeted lines.answered lines.runs))
      (after_written (before.source.calls + limits.reads) end (length lines.exchanges) lines.answered after lines.ends)
