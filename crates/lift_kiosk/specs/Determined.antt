-- What a session does by its lines and what its port gives.
use Rattle.std.specs.Prelude.{◌≡◌, ℕ, List, [], ◌∷◌, Option, Some, None, map}
use Rattle.std.specs.List.{flat_map}
use Rattle.std.specs.Io.KnownBytes.{Appends}
use Rattle.lift_base.specs.declared.command.Reply.{Reply}
use Rattle.lift_kiosk.specs.declared.dialect.Wanted.{Wanted}
use Rattle.lift_kiosk.specs.declared.outcome.Outcome.{Outcome}
use Rattle.lift_kiosk.specs.declared.outcome.Outcome.TheVariants.{Malformed, OffFloors, Answered}
use Rattle.lift_kiosk.specs.declared.outcome.Outcome.TheVariants.{NotAnswered, Refused}
use Rattle.lift_kiosk.specs.declared.terms.LastLetter.{LastLetter}
use Rattle.lift_kiosk.specs.declared.terms.Limits.{Limits}
use Rattle.lift_kiosk.specs.Session.{Standing, Means, AnswersLines, last_after, answer_line}

-- What the port gave for an ask: an answer, none within its looks (Some None), or no turn (None).
-- Where a line asks nothing it gave nothing.
abbrev pub given : Outcome → List (Option (Option Reply))
given Malformed = []
given OffFloors = []
given (Answered ask reply) = Some (Some reply) ∷ []
given (NotAnswered ask) = Some None ∷ []
given (Refused ask) = None ∷ []

abbrev pub lines_of : List (List ℕ × Outcome) → List (List ℕ)
lines_of exchanges = map (λ x. x.0) exchanges

abbrev pub all_given : List (List ℕ × Outcome) → List (Option (Option Reply))
all_given exchanges = flat_map (λ x. given x.1) exchanges

-- all that is written for these lines
abbrev pub answers_text : List (List ℕ × Outcome) → List ℕ
answers_text exchanges = flat_map (λ x. answer_line x.1) exchanges

-- the last command after these lines
abbrev pub last_after_lines : (keeps : LastLetter → ℕ → Reply → LastLetter) → LastLetter
    → List (List ℕ × Outcome) → LastLetter
last_after_lines keeps last [] = last
last_after_lines keeps last (x ∷ xs) = last_after_lines keeps (last_after keeps last x.1) xs

-- a line asks for one thing at most
abbrev pub AsksForOneThing : (wants : List ℕ → Wanted → Type 0) → Type 0
AsksForOneThing wants = (line : List ℕ) (one other : Wanted) → wants line one → wants line other
    → one ≡ other

-- what comes of a line follows from it and from what the port gives for it
abbrev pub LineDetermines : (wants : List ℕ → Wanted → Type 0) → Type 0
LineDetermines wants = (line : List ℕ) (one other : Outcome) → Means wants line one
    → Means wants line other → given one ≡ given other → one ≡ other

-- Two sessions that know the same last command do the same for the same lines and the same answers
-- of the port, and know the same last command after them.
abbrev pub LinesDetermine : (wants : List ℕ → Wanted → Type 0)
    → (keeps : LastLetter → ℕ → Reply → LastLetter) → Type 0
LinesDetermine wants keeps =
    (limits : Limits) (ones others : List (List ℕ × Outcome))
    (one one_after other other_after : Standing)
    → AnswersLines wants keeps limits ones one one_after
    → AnswersLines wants keeps limits others other other_after
    → one.last ≡ other.last → lines_of ones ≡ lines_of others → all_given ones ≡ all_given others
    → (ones ≡ others) × (one_after.last ≡ other_after.last)

-- what is written for lines follows from what came of them
abbrev pub OutcomesAreWritten : (wants : List ℕ → Wanted → Type 0)
    → (keeps : LastLetter → ℕ → Reply → LastLetter) → Type 0
OutcomesAreWritten wants keeps =
    (limits : Limits) (exchanges : List (List ℕ × Outcome)) (before after : Standing)
    → AnswersLines wants keeps limits exchanges before after
    → Appends before.sink.written after.sink.written (answers_text exchanges)
