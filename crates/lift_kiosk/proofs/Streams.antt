-- What a session does is a function of what its port, its reader and its writer gave.
use Rattle.std.proofs.Common.{◌≡◌, ◌≢◌, ℕ, ◌+◌, List, [], ◌∷◌, ◌++◌, length, refl, sym, ◌∙◌, ap, subst, append_assoc, inl, inr}
use Rattle.std.specs.Prelude.{Option, Some, None}
use Rattle.std.specs.List.{AllByRecursion}
use Rattle.std.specs.Str.Lines.{strip_carriage_return}
use Rattle.std.proofs.lemmas.List.{append-nil}
use Rattle.lift_base.specs.declared.command.Reply.{Reply}
use Rattle.lift_kiosk.specs.declared.dialect.Wanted.{Wanted}
use Rattle.lift_kiosk.specs.declared.outcome.Opening.{Opening}
use Rattle.lift_kiosk.specs.declared.outcome.Opening.TheVariants.{Free, BroughtIn, StillWaits}
use Rattle.lift_kiosk.specs.declared.outcome.Outcome.{Outcome}
use Rattle.lift_kiosk.specs.declared.outcome.Outcome.TheVariants.{Malformed, OffFloors, Answered, NotAnswered, Refused}
use Rattle.lift_kiosk.specs.declared.terms.End.{End}
use Rattle.lift_kiosk.specs.declared.terms.End.TheVariants.{Closed, Limit, Late, Spent, ReadFault, WriteFault}
use Rattle.lift_kiosk.specs.declared.terms.LastLetter.{LastLetter}
use Rattle.lift_kiosk.specs.declared.terms.Limits.{Limits}
use Rattle.lift_kiosk.specs.Lines.{HasNoFeed}
use Rattle.lift_kiosk.specs.Session.{Standing, Means, AnswersLines, GoesOn, LastStep, EndsAtOnce, EndsAfter, IsSession, last_after, last_opened, answer_line, opening_line}
use Rattle.lift_kiosk.specs.Determined.{given, lines_of, all_given, answers_text, last_after_lines}
use Rattle.lift_kiosk.specs.Whole.{Came, SessionLinesEnd, brought_by, cut_to, came_first, came_last, last_text, came_after, text_after, came_to, text_of}
use Rattle.lift_kiosk.specs.Streams.{LastRead, GaveByte, GaveEnd, GaveFault, Streams, lines_read, bytes_that_came_last, last_read, last_given, last_cut, streams_of}
use Rattle.lift_kiosk.proofs.Determined.{same_outcome, last_is}
use Rattle.lift_kiosk.proofs.Whole.{first_came, same_opening, first_seen, same_first}

abbrev Exchanged : Type 0
Exchanged = List ℕ × Outcome

-- a line ends at its first line feed
same_line : (one other rest more : List ℕ) → HasNoFeed one → HasNoFeed other → one ++ 10 ∷ rest ≡ other ++ 10 ∷ more → (one ≡ other) × (rest ≡ more)
same_line [] [] rest more a b is = let tails : rest ≡ more = cc is in (refl, tails)
same_line [] (y ∷ ys) rest more a b is = let feed : 10 ≡ y = cc is in absurd (b.0 (sym feed))
same_line (x ∷ xs) [] rest more a b is = let feed : x ≡ 10 = cc is in absurd (a.0 feed)
same_line (x ∷ xs) (y ∷ ys) rest more a b is =
    let byte : x ≡ y = cc is in
    let tails : xs ++ 10 ∷ rest ≡ ys ++ 10 ∷ more = cc is in
    let same = same_line xs ys rest more a.1 b.1 tails in
    (ap (λ (z : ℕ). z ∷ xs) byte ∙ ap (λ (l : List ℕ). y ∷ l) same.0, same.1)

feed_inside : (front rest : List ℕ) → HasNoFeed (front ++ 10 ∷ rest) → ⊥
feed_inside [] rest none = none.0 refl
feed_inside (x ∷ xs) rest none = feed_inside xs rest none.1

not_empty : (front rest : List ℕ) → front ++ 10 ∷ rest ≡ [] → ⊥
not_empty [] rest is = absurd (cc is)
not_empty (x ∷ xs) rest is = absurd (cc is)

same_reading : (lines others : List (List ℕ)) (part piece : List ℕ) → AllByRecursion (λ line. HasNoFeed line) lines → AllByRecursion (λ line. HasNoFeed line) others
    → HasNoFeed part → HasNoFeed piece → lines_read lines part ≡ lines_read others piece → lines ≡ others
same_reading [] [] part piece a b c d is = refl
same_reading [] (m ∷ ms) part piece a b c d is = absurd (feed_inside m (lines_read ms piece) (subst (λ bytes. HasNoFeed bytes) is c))
same_reading (l ∷ ls) [] part piece a b c d is = absurd (feed_inside l (lines_read ls part) (subst (λ bytes. HasNoFeed bytes) (sym is) d))
same_reading (l ∷ ls) (m ∷ ms) part piece a b c d is =
    let same = same_line l m (lines_read ls part) (lines_read ms piece) a.0 b.0 is in
    ap (λ (line : List ℕ). line ∷ ls) same.0 ∙ ap (λ (lines : List (List ℕ)). m ∷ lines) (same_reading ls ms part piece a.1 b.1 c d same.1)

a_line_was_read : (lines : List (List ℕ)) (line : List ℕ) → lines_read lines (line ++ 10 ∷ []) ≡ [] → ⊥
a_line_was_read [] line is = not_empty line [] is
a_line_was_read (l ∷ ls) line is = not_empty l (lines_read ls (line ++ 10 ∷ [])) is

given_join : (xs ys : List Exchanged) → all_given (xs ++ ys) ≡ all_given xs ++ all_given ys
given_join [] ys = refl
given_join (x ∷ xs) ys =
    ap (λ (l : List (Option (Option Reply))). given x.1 ++ l) (given_join xs ys) ∙ sym (append_assoc (given x.1) (all_given xs) (all_given ys))

read_join : (xs ys : List Exchanged) (part : List ℕ) → lines_read (lines_of (xs ++ ys)) part ≡ lines_read (lines_of xs) (lines_read (lines_of ys) part)
read_join [] ys part = refl
read_join (x ∷ xs) ys part = ap (λ (l : List ℕ). x.0 ++ 10 ∷ l) (read_join xs ys part)

last_join : (keeps : LastLetter → ℕ → Reply → LastLetter) (last : LastLetter) (xs ys : List Exchanged)
    → last_after_lines keeps last (xs ++ ys) ≡ last_after_lines keeps (last_after_lines keeps last xs) ys
last_join keeps last [] ys = refl
last_join keeps last (x ∷ xs) ys = last_join keeps (last_after keeps last x.1) xs ys

-- what is written for lines, of which the last one's answer may be cut
abbrev cut_answers : Option ℕ → List Exchanged → List ℕ
cut_answers cut [] = []
cut_answers cut (x ∷ []) = cut_to cut (answer_line x.1)
cut_answers cut (x ∷ y ∷ ys) = answer_line x.1 ++ cut_answers cut (y ∷ ys)

text_join : (cut : Option ℕ) (xs : List Exchanged) (y : Exchanged) → answers_text xs ++ cut_to cut (answer_line y.1) ≡ cut_answers cut (xs ++ y ∷ [])
text_join cut [] y = refl
text_join cut (x ∷ []) y = ap (λ (l : List ℕ). l ++ cut_to cut (answer_line y.1)) (append-nil (answer_line x.1))
text_join cut (x ∷ z ∷ zs) y =
    append_assoc (answer_line x.1) (answers_text (z ∷ zs)) (cut_to cut (answer_line y.1)) ∙ ap (λ (l : List ℕ). answer_line x.1 ++ l) (text_join cut (z ∷ zs) y)

text_all : (xs : List Exchanged) → answers_text xs ≡ cut_answers None xs
text_all [] = refl
text_all (x ∷ []) = append-nil (answer_line x.1)
text_all (x ∷ z ∷ zs) = ap (λ (l : List ℕ). answer_line x.1 ++ l) (text_all (z ∷ zs))

abbrev ends_at : Outcome → End → End
ends_at Malformed end = end
ends_at OffFloors end = end
ends_at (Answered ask reply) end = end
ends_at (NotAnswered ask) end = Late
ends_at (Refused ask) end = Spent

abbrev ends_in : List Exchanged → End
ends_in [] = Limit
ends_in (x ∷ xs) = ends_at x.1 (ends_in xs)

abbrev ends_for : LastRead → Option ℕ → List Exchanged → End
ends_for GaveEnd cut xs = Closed
ends_for GaveFault cut xs = ReadFault
ends_for GaveByte None xs = ends_in xs
ends_for GaveByte (Some count) xs = WriteFault

goes_on : (outcome : Outcome) (end : End) → GoesOn outcome → ends_at outcome end ≡ end
goes_on Malformed end on = refl
goes_on OffFloors end on = refl
goes_on (Answered ask reply) end on = refl
goes_on (NotAnswered ask) end on = absurd on
goes_on (Refused ask) end on = absurd on

not_waiting : (opening : Opening) → opening ≢ StillWaits → Some None ≡ brought_by opening → ⊥
not_waiting Free ready is = absurd (cc is)
not_waiting (BroughtIn number reply) ready is = absurd (cc is)
not_waiting StillWaits ready is = ready refl

first_cut : (cut : Option ℕ) → last_cut (first_came cut) ≡ cut
first_cut None = refl
first_cut (Some count) = refl

module _ (wants : List ℕ → Wanted → Type 0) (unique : (line : List ℕ) (one other : Wanted) → wants line one → wants line other → one ≡ other)
    (keeps : LastLetter → ℕ → Reply → LastLetter) (limits : Limits) where
  -- a whole line, and what came of it
  abbrev IsFine : Exchanged → Type 0
  IsFine x = HasNoFeed x.0 × Means wants (strip_carriage_return x.0) x.1

  abbrev AreFine : List Exchanged → Type 0
  AreFine xs = AllByRecursion (λ x. IsFine x) xs

  lines_are : (xs : List Exchanged) → AreFine xs → AllByRecursion (λ line. HasNoFeed line) (lines_of xs)
  lines_are [] fine = tt
  lines_are (x ∷ xs) fine = (fine.0.0, lines_are xs fine.1)

  same_outcomes : (ones others : List Exchanged) → AreFine ones → AreFine others → lines_of ones ≡ lines_of others → all_given ones ≡ all_given others → ones ≡ others
  same_outcomes [] [] a b lines gave = refl
  same_outcomes [] (y ∷ ys) a b lines gave = absurd (cc lines)
  same_outcomes (x ∷ xs) [] a b lines gave = absurd (cc lines)
  same_outcomes (x ∷ xs) (y ∷ ys) a b lines gave =
      let line : x.0 ≡ y.0 = cc lines in
      let more : lines_of xs ≡ lines_of ys = cc lines in
      let meant : Means wants (strip_carriage_return y.0) x.1 = subst (λ l. Means wants (strip_carriage_return l) x.1) line a.0.1 in
      let same = same_outcome wants unique (strip_carriage_return y.0) x.1 y.1 (all_given xs) (all_given ys) meant b.0.1 gave in
      let rest = same_outcomes xs ys a.1 b.1 more same.1 in
      let outcome = same.0 in
      let heads : x ≡ y = ap (λ (l : List ℕ). (l, x.1)) line ∙ ap (λ (o : Outcome). (y.0, o)) outcome in
      cc (heads, rest)

  fine_join : (xs ys : List Exchanged) (before after : Standing) → AnswersLines wants keeps limits xs before after → AreFine ys → AreFine (xs ++ ys)
  fine_join [] ys before after run fine = fine
  fine_join (x ∷ xs) ys before after run fine = ((run.1.exchange.read.whole, run.1.exchange.means), fine_join xs ys run.0 after run.3 fine)

  fine_all : (xs : List Exchanged) (before after : Standing) → AnswersLines wants keeps limits xs before after → AreFine xs
  fine_all [] before after run = tt
  fine_all (x ∷ xs) before after run = ((run.1.exchange.read.whole, run.1.exchange.means), fine_all xs run.0 after run.3)

  ends_join : (xs ys : List Exchanged) (before after : Standing) → AnswersLines wants keeps limits xs before after → ends_in (xs ++ ys) ≡ ends_in ys
  ends_join [] ys before after run = refl
  ends_join (x ∷ xs) ys before after run = goes_on x.1 (ends_in (xs ++ ys)) run.2 ∙ ends_join xs ys run.0 after run.3

  ends_all : (xs : List Exchanged) (before after : Standing) → AnswersLines wants keeps limits xs before after → ends_in xs ≡ Limit
  ends_all [] before after run = refl
  ends_all (x ∷ xs) before after run = goes_on x.1 (ends_in xs) run.2 ∙ ends_all xs run.0 after run.3

  -- all of a session after its greeting, by its lines and the last of them
  record Follows (end : End) (known : LastLetter) (bytes : List ℕ) (read : LastRead) (gave : List (Option (Option Reply))) (cut : Option ℕ) (text : List ℕ) (after : LastLetter) : Type 0 where
    pub whole : List Exchanged
    pub fine : AreFine whole
    pub part : List ℕ
    pub unfinished : HasNoFeed part
    pub bytes_are : bytes ≡ lines_read (lines_of whole) part
    pub given_are : gave ≡ all_given whole
    pub last : after ≡ last_after_lines keeps known whole
    pub wrote : text ≡ cut_answers cut whole
    pub ended : end ≡ ends_for read cut whole
    pub cut_line : (count : ℕ) → cut ≡ Some count → bytes ≢ []

  silent : (xs : List Exchanged) (before answered : Standing) → AnswersLines wants keeps limits xs before answered → (part : List ℕ) → HasNoFeed part
      → (end : End) (read : LastRead) → end ≡ ends_for read None xs → (after : Standing) → after.last ≡ answered.last
      → Follows end before.last (lines_read (lines_of xs) part) read (all_given xs ++ []) None (answers_text xs ++ []) after.last
  silent xs before answered run part unfinished end read ended after last = record {
    whole = xs;
    fine = fine_all xs before answered run;
    part = part;
    unfinished = unfinished;
    bytes_are = refl;
    given_are = append-nil (all_given xs);
    last = last ∙ last_is wants unique keeps limits xs before answered run;
    wrote = append-nil (answers_text xs) ∙ text_all xs;
    ended = ended;
    cut_line = λ count is. absurd (cc is);
  }

  spoken : (xs : List Exchanged) (before answered : Standing) → AnswersLines wants keeps limits xs before answered → (line : List ℕ) (outcome : Outcome) → IsFine (line, outcome)
      → (end : End) (cut : Option ℕ) → end ≡ ends_for GaveByte cut (xs ++ (line, outcome) ∷ []) → (after : Standing) → after.last ≡ last_after keeps answered.last outcome
      → Follows end before.last (lines_read (lines_of xs) (line ++ 10 ∷ [])) GaveByte (all_given xs ++ given outcome) cut (answers_text xs ++ cut_to cut (answer_line outcome)) after.last
  spoken xs before answered run line outcome fine end cut ended after last = record {
    whole = xs ++ (line, outcome) ∷ [];
    fine = fine_join xs ((line, outcome) ∷ []) before answered run (fine, tt);
    part = [];
    unfinished = tt;
    bytes_are = sym (read_join xs ((line, outcome) ∷ []) []);
    given_are = ap (λ (l : List (Option (Option Reply))). all_given xs ++ l) (sym (append-nil (given outcome))) ∙ sym (given_join xs ((line, outcome) ∷ []));
    last = last ∙ ap (λ (l : LastLetter). last_after keeps l outcome) (last_is wants unique keeps limits xs before answered run) ∙ sym (last_join keeps before.last xs ((line, outcome) ∷ []));
    wrote = text_join cut xs (line, outcome);
    ended = ended;
    cut_line = λ count is nothing. a_line_was_read (lines_of xs) line nothing;
  }

  abbrev FollowsStep : (calls : ℕ) (end : End) (xs : List Exchanged) (before answered after : Standing) → LastStep wants keeps limits calls end answered after → Type 0
  FollowsStep calls end xs before answered after step =
      let came = came_last wants keeps limits calls end answered after step in
      Follows end before.last (lines_read (lines_of xs) (bytes_that_came_last came)) (last_read came) (all_given xs ++ last_given came) (last_cut came)
      (answers_text xs ++ last_text wants keeps limits calls end answered after step) after.last

  step_follows : (calls : ℕ) (end : End) (xs : List Exchanged) (before answered after : Standing) → AnswersLines wants keeps limits xs before answered
      → (step : LastStep wants keeps limits calls end answered after) → FollowsStep calls end xs before answered after step
  step_follows calls Closed xs before answered after run step = silent xs before answered run step.0 step.2.read.whole Closed GaveEnd refl after step.2.last
  step_follows calls ReadFault xs before answered after run step = silent xs before answered run step.0 step.2.read.whole ReadFault GaveFault refl after step.2.last
  step_follows calls Limit xs before answered after run step =
      silent xs before answered run step.0 step.1.read.whole Limit GaveByte (sym (ends_all xs before answered run)) after step.1.last
  step_follows calls Late xs before answered after run step =
      spoken xs before answered run step.0 (NotAnswered step.1) (step.2.exchange.read.whole, step.2.exchange.means) Late None
      (sym (ends_join xs ((step.0, NotAnswered step.1) ∷ []) before answered run)) after step.2.exchange.last
  step_follows calls Spent xs before answered after run step =
      spoken xs before answered run step.0 (Refused step.1) (step.2.exchange.read.whole, step.2.exchange.means) Spent None
      (sym (ends_join xs ((step.0, Refused step.1) ∷ []) before answered run)) after step.2.exchange.last
  step_follows calls WriteFault xs before answered after run step =
      spoken xs before answered run step.0 step.1 (step.2.read.whole, step.2.means) WriteFault (Some step.3) refl after step.2.last

  abbrev FollowsLines : (calls : ℕ) (end : End) (xs : List Exchanged) (before answered after : Standing) → SessionLinesEnd wants keeps limits calls end (length xs) answered after → Type 0
  FollowsLines calls end xs before answered after ends =
      let came = came_after wants keeps limits calls end (length xs) answered after ends in
      Follows end before.last (lines_read (lines_of xs) (bytes_that_came_last came)) (last_read came) (all_given xs ++ last_given came) (last_cut came)
      (answers_text xs ++ text_after wants keeps limits calls end (length xs) answered after ends) after.last

  lines_follow : (calls : ℕ) (end : End) (xs : List Exchanged) (before answered after : Standing) → AnswersLines wants keeps limits xs before answered
      → (ends : SessionLinesEnd wants keeps limits calls end (length xs) answered after) → FollowsLines calls end xs before answered after ends
  lines_follow calls end xs before answered after run (inl all) =
      silent xs before answered run [] tt end GaveByte (all.1 ∙ sym (ends_all xs before answered run)) after (ap (λ (s : Standing). s.last) all.2)
  lines_follow calls end xs before answered after run (inr step) = step_follows calls end xs before answered after run step.1

  same_follows : (one_end other_end : End) (one other : LastLetter) (bytes others : List ℕ) (read reads : LastRead) (gave gives : List (Option (Option Reply))) (cut cuts : Option ℕ)
      (text words : List ℕ) (one_after other_after : LastLetter)
      → Follows one_end one bytes read gave cut text one_after → Follows other_end other others reads gives cuts words other_after
      → one ≡ other → bytes ≡ others → read ≡ reads → gave ≡ gives → cut ≡ cuts → (one_end ≡ other_end) × (one_after ≡ other_after) × (text ≡ words)
  same_follows one_end other_end one other bytes others read reads gave gives cut cuts text words one_after other_after a b last bytes_same read_same gave_same cut_same =
      let lines = same_reading (lines_of a.whole) (lines_of b.whole) a.part b.part (lines_are a.whole a.fine) (lines_are b.whole b.fine) a.unfinished b.unfinished
      (sym a.bytes_are ∙ bytes_same ∙ b.bytes_are) in
      let whole = same_outcomes a.whole b.whole a.fine b.fine lines (sym a.given_are ∙ gave_same ∙ b.given_are) in (
        a.ended ∙ ap (λ (r : LastRead). ends_for r cut a.whole) read_same ∙ ap (λ (c : Option ℕ). ends_for reads c a.whole) cut_same
            ∙ ap (λ (xs : List Exchanged). ends_for reads cuts xs) whole ∙ sym b.ended,
        a.last ∙ ap (λ (l : LastLetter). last_after_lines keeps l a.whole) last ∙ ap (λ (xs : List Exchanged). last_after_lines keeps other xs) whole ∙ sym b.last,
        a.wrote ∙ ap (λ (c : Option ℕ). cut_answers c a.whole) cut_same ∙ ap (λ (xs : List Exchanged). cut_answers cuts xs) whole ∙ sym b.wrote,
      )

  not_first : (end : End) (before after : Standing) (first : EndsAtOnce keeps limits end before after) (streams : Streams) (opening : Opening) → opening ≢ StillWaits
      → ((count : ℕ) → streams.cut ≡ Some count → streams.bytes ≢ []) → streams.brought ≡ brought_by opening
      → streams_of (came_first keeps limits end before after first) ≡ streams → ⊥
  not_first Late before after first streams opening ready line brought same = not_waiting opening ready (ap (λ (s : Streams). s.brought) same ∙ brought)
  not_first WriteFault before after first streams opening ready line brought same =
      line first.2 (sym (ap (λ (s : Streams). s.cut) same)) (sym (ap (λ (s : Streams). s.bytes) same))
  not_first Closed before after first streams opening ready line brought same = absurd first
  not_first Limit before after first streams opening ready line brought same = absurd first
  not_first Spent before after first streams opening ready line brought same = absurd first
  not_first ReadFault before after first streams opening ready line brought same = absurd first

  abbrev FollowsAll : (end : End) (before after : Standing) → EndsAfter wants keeps limits end before after → Type 0
  FollowsAll end before after behind = FollowsLines (before.source.calls + limits.reads) end behind.lines.exchanges behind.greeted behind.lines.answered after behind.lines.ends

  all_follow : (end : End) (before after : Standing) (behind : EndsAfter wants keeps limits end before after) → FollowsAll end before after behind
  all_follow end before after behind =
      lines_follow (before.source.calls + limits.reads) end behind.lines.exchanges behind.greeted behind.lines.answered after behind.lines.runs behind.lines.ends

  abbrev came_at_once : Option (Option Reply) → Option ℕ → Came
  came_at_once brought cut = record { brought = brought; lines = []; given = []; last = first_came cut }

  pub same_streams : (one_end other_end : End) (one one_after other other_after : Standing)
      (first : IsSession wants keeps limits one_end one one_after) (second : IsSession wants keeps limits other_end other other_after)
      → one.last ≡ other.last → one.port.pending ≡ other.port.pending
      → streams_of (came_to wants keeps limits one_end one one_after first) ≡ streams_of (came_to wants keeps limits other_end other other_after second)
      → (one_end ≡ other_end) × (one_after.last ≡ other_after.last)
      × (text_of wants keeps limits one_end one one_after first ≡ text_of wants keeps limits other_end other other_after second)
  same_streams one_end other_end one one_after other other_after (inl a) (inl b) last waits same =
      let x = first_seen wants unique keeps limits one_end one one_after a in
      let y = first_seen wants unique keeps limits other_end other other_after b in
      let streams = ap streams_of (sym x.came_so) ∙ same ∙ ap streams_of y.came_so in
      let brought : brought_by x.opening ≡ brought_by y.opening = ap (λ (s : Streams). s.brought) streams in
      let cuts : last_cut (first_came x.cut) ≡ last_cut (first_came y.cut) = ap (λ (s : Streams). s.cut) streams in
      let cut = sym (first_cut x.cut) ∙ cuts ∙ first_cut y.cut in
      same_first wants unique keeps limits one_end other_end _ _ _ _ one one_after other other_after x y last waits
      (x.came_so ∙ ap (λ (r : Option (Option Reply)). came_at_once r x.cut) brought ∙ ap (λ (c : Option ℕ). came_at_once (brought_by y.opening) c) cut ∙ sym y.came_so)
  same_streams one_end other_end one one_after other other_after (inl a) (inr b) last waits same =
      absurd (not_first one_end one one_after a _ b.opening b.ready (all_follow other_end other other_after b).cut_line refl same)
  same_streams one_end other_end one one_after other other_after (inr a) (inl b) last waits same =
      absurd (not_first other_end other other_after b _ a.opening a.ready (all_follow one_end one one_after a).cut_line refl (sym same))
  same_streams one_end other_end one one_after other other_after (inr a) (inr b) last waits same =
      let opening = same_opening limits.looks one.port a.greeted.port other.port b.greeted.port a.opening b.opening a.opens.port b.opens.port waits (ap (λ (s : Streams). s.brought) same) in
      let known = a.opens.last ∙ ap (λ (l : LastLetter). last_opened keeps l a.opening) last ∙ ap (last_opened keeps other.last) opening ∙ sym b.opens.last in
      let greeting : opening_line a.greeted.last a.opening ≡ opening_line b.greeted.last b.opening =
      ap (λ (l : LastLetter). opening_line l a.opening) known ∙ ap (λ (o : Opening). opening_line b.greeted.last o) opening in
      let calls = one.source.calls + limits.reads in
      let ended = text_after wants keeps limits calls one_end (length a.lines.exchanges) a.lines.answered one_after a.lines.ends in
      let other_ended = text_after wants keeps limits (other.source.calls + limits.reads) other_end (length b.lines.exchanges) b.lines.answered other_after b.lines.ends in
      let all = same_follows one_end other_end _ _ _ _ _ _ _ _ _ _ _ _ one_after.last other_after.last (all_follow one_end one one_after a) (all_follow other_end other other_after b) known
      (ap (λ (s : Streams). s.bytes) same) (ap (λ (s : Streams). s.read) same) (ap (λ (s : Streams). s.given) same) (ap (λ (s : Streams). s.cut) same) in (
        all.0,
        all.1,
        append_assoc (opening_line a.greeted.last a.opening) (answers_text a.lines.exchanges) ended
            ∙ ap (λ (t : List ℕ). t ++ (answers_text a.lines.exchanges ++ ended)) greeting ∙ ap (λ (t : List ℕ). opening_line b.greeted.last b.opening ++ t) all.2
            ∙ sym (append_assoc (opening_line b.greeted.last b.opening) (answers_text b.lines.exchanges) other_ended),
      )
