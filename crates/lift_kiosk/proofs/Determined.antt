-- What comes of lines is a function of them and of what the port gives.
use Rattle.std.proofs.Common.{◌≡◌, ℕ, List, [], ◌∷◌, ◌++◌, Option, Some, None, refl, sym, ◌∙◌, ap, subst, append_assoc}
use Rattle.std.specs.Str.Lines.{strip_carriage_return}
use Rattle.std.specs.Io.KnownBytes.{Appends}
use Rattle.lift_base.specs.declared.command.Reply.{Reply}
use Rattle.lift_desk.specs.declared.words.Ask.{Ask}
use Rattle.lift_kiosk.specs.declared.dialect.Wanted.{Wanted}
use Rattle.lift_kiosk.specs.declared.dialect.Wanted.TheVariants.{Ask as Asks, NoFloor}
use Rattle.lift_kiosk.specs.declared.outcome.Outcome.{Outcome}
use Rattle.lift_kiosk.specs.declared.outcome.Outcome.TheVariants.{Malformed, OffFloors, Answered, NotAnswered, Refused}
use Rattle.lift_kiosk.specs.declared.terms.LastLetter.{LastLetter}
use Rattle.lift_kiosk.specs.declared.terms.Limits.{Limits}
use Rattle.std.proofs.lemmas.List.{append-nil}
use Rattle.lift_kiosk.specs.Session.{Standing, Means, AnswersLines, answer_line}
use Rattle.lift_kiosk.specs.Determined.{given, lines_of, all_given, answers_text, last_after_lines}

module _ (wants : List ℕ → Wanted → Type 0) (unique : (line : List ℕ) (one other : Wanted) → wants line one → wants line other → one ≡ other) where
  no_floor : (line : List ℕ) (ask : Ask) → wants line NoFloor → wants line (Asks ask) → ⊥
  no_floor line ask a b = let same : NoFloor ≡ Asks ask = unique line NoFloor (Asks ask) a b in absurd cc

  one_ask : (line : List ℕ) (ask other : Ask) → wants line (Asks ask) → wants line (Asks other) → ask ≡ other
  one_ask line ask other a b = let same : Asks ask ≡ Asks other = unique line (Asks ask) (Asks other) a b in cc

  -- a line, and what the port gives from then on
  pub same_outcome : (line : List ℕ) (one other : Outcome) (later more : List (Option (Option Reply))) → Means wants line one → Means wants line other
      → given one ++ later ≡ given other ++ more → (one ≡ other) × (later ≡ more)
  same_outcome line Malformed Malformed later more a b is = (refl, is)
  same_outcome line Malformed OffFloors later more a b is = absurd (a NoFloor b)
  same_outcome line Malformed (Answered ask reply) later more a b is = absurd (a (Asks ask) b)
  same_outcome line Malformed (NotAnswered ask) later more a b is = absurd (a (Asks ask) b)
  same_outcome line Malformed (Refused ask) later more a b is = absurd (a (Asks ask) b)
  same_outcome line OffFloors Malformed later more a b is = absurd (b NoFloor a)
  same_outcome line OffFloors OffFloors later more a b is = (refl, is)
  same_outcome line OffFloors (Answered ask reply) later more a b is = absurd (no_floor line ask a b)
  same_outcome line OffFloors (NotAnswered ask) later more a b is = absurd (no_floor line ask a b)
  same_outcome line OffFloors (Refused ask) later more a b is = absurd (no_floor line ask a b)
  same_outcome line (Answered ask reply) Malformed later more a b is = absurd (b (Asks ask) a)
  same_outcome line (Answered ask reply) OffFloors later more a b is = absurd (no_floor line ask b a)
  same_outcome line (Answered ask reply) (Answered other answer) later more a b is =
      let asks = one_ask line ask other a b in
      let replies : reply ≡ answer = cc is in
      let rest : later ≡ more = cc is in
      (ap (λ (x : Ask). Answered x reply) asks ∙ ap (λ (r : Reply). Answered other r) replies, rest)
  same_outcome line (Answered ask reply) (NotAnswered other) later more a b is = absurd (cc is)
  same_outcome line (Answered ask reply) (Refused other) later more a b is = absurd (cc is)
  same_outcome line (NotAnswered ask) Malformed later more a b is = absurd (b (Asks ask) a)
  same_outcome line (NotAnswered ask) OffFloors later more a b is = absurd (no_floor line ask b a)
  same_outcome line (NotAnswered ask) (Answered other answer) later more a b is = absurd (cc is)
  same_outcome line (NotAnswered ask) (NotAnswered other) later more a b is =
      let rest : later ≡ more = cc is in
      (ap (λ (x : Ask). NotAnswered x) (one_ask line ask other a b), rest)
  same_outcome line (NotAnswered ask) (Refused other) later more a b is = absurd (cc is)
  same_outcome line (Refused ask) Malformed later more a b is = absurd (b (Asks ask) a)
  same_outcome line (Refused ask) OffFloors later more a b is = absurd (no_floor line ask b a)
  same_outcome line (Refused ask) (Answered other answer) later more a b is = absurd (cc is)
  same_outcome line (Refused ask) (NotAnswered other) later more a b is = absurd (cc is)
  same_outcome line (Refused ask) (Refused other) later more a b is =
      let rest : later ≡ more = cc is in
      (ap (λ (x : Ask). Refused x) (one_ask line ask other a b), rest)

  nothing_after : (o : Outcome) → given o ++ [] ≡ given o
  nothing_after o = append-nil (given o)

  pub outcome_is : (line : List ℕ) (one other : Outcome) → Means wants line one → Means wants line other → given one ≡ given other → one ≡ other
  outcome_is line one other a b is = (same_outcome line one other [] [] a b (nothing_after one ∙ is ∙ sym (nothing_after other))).0

  module _ (keeps : LastLetter → ℕ → Reply → LastLetter) (limits : Limits) where
    pub same_exchanges : (ones others : List (List ℕ × Outcome)) (a after b behind : Standing) → AnswersLines wants keeps limits ones a after → AnswersLines wants keeps limits others b behind
        → lines_of ones ≡ lines_of others → all_given ones ≡ all_given others → ones ≡ others
    same_exchanges [] [] a after b behind first second lines gave = refl
    same_exchanges [] (y ∷ ys) a after b behind first second lines gave = absurd (cc lines)
    same_exchanges (x ∷ xs) [] a after b behind first second lines gave = absurd (cc lines)
    same_exchanges (x ∷ xs) (y ∷ ys) a after b behind first second lines gave =
        let line : x.0 ≡ y.0 = cc lines in
        let more : lines_of xs ≡ lines_of ys = cc lines in
        let meant : Means wants (strip_carriage_return y.0) x.1 = subst (λ l. Means wants (strip_carriage_return l) x.1) line first.1.exchange.means in
        let same = same_outcome (strip_carriage_return y.0) x.1 y.1 (all_given xs) (all_given ys) meant second.1.exchange.means gave in
        let rest = same_exchanges xs ys first.0 after second.0 behind first.3 second.3 more same.1 in
        let outcome = same.0 in
        let heads : x ≡ y = ap (λ (l : List ℕ). (l, x.1)) line ∙ ap (λ (o : Outcome). (y.0, o)) outcome in
        cc (heads, rest)

    pub last_is : (ones : List (List ℕ × Outcome)) (a after : Standing) → AnswersLines wants keeps limits ones a after → after.last ≡ last_after_lines keeps a.last ones
    last_is [] a after run = ap (λ (s : Standing). s.last) run
    last_is (x ∷ xs) a after run = last_is xs run.0 after run.3 ∙ ap (λ (l : LastLetter). last_after_lines keeps l xs) run.1.exchange.last

    pub exchanges_are : (ones others : List (List ℕ × Outcome)) (a after b behind : Standing) → AnswersLines wants keeps limits ones a after → AnswersLines wants keeps limits others b behind
        → a.last ≡ b.last → lines_of ones ≡ lines_of others → all_given ones ≡ all_given others → (ones ≡ others) × (after.last ≡ behind.last)
    exchanges_are ones others a after b behind first second last lines gave =
        let same = same_exchanges ones others a after b behind first second lines gave in
        (same, last_is ones a after first ∙ ap (λ (l : LastLetter). last_after_lines keeps l ones) last ∙ ap (last_after_lines keeps b.last) same ∙ sym (last_is others b behind second))

    pub appends_then : (first second third : Option (List ℕ)) (bytes more : List ℕ) → Appends first second bytes → Appends second third more → Appends first third (bytes ++ more)
    appends_then None second third bytes more a b = tt
    appends_then (Some xs) None third bytes more a b = absurd a
    appends_then (Some xs) (Some ys) None bytes more a b = absurd b
    appends_then (Some xs) (Some ys) (Some zs) bytes more a b = b ∙ ap (λ (l : List ℕ). l ++ more) a ∙ append_assoc xs bytes more

    pub appends_none : (known : Option (List ℕ)) → Appends known known []
    appends_none None = tt
    appends_none (Some xs) = sym (append-nil xs)

    pub written_is : (ones : List (List ℕ × Outcome)) (a after : Standing) → AnswersLines wants keeps limits ones a after → Appends a.sink.written after.sink.written (answers_text ones)
    written_is [] a after run = subst (λ (s : Standing). Appends a.sink.written s.sink.written []) (sym run) (appends_none a.sink.written)
    written_is (x ∷ xs) a after run =
        appends_then a.sink.written run.0.sink.written after.sink.written (answer_line x.1) (answers_text xs) run.1.wrote.written (written_is xs run.0 after run.3)
