-- What a session did, piece by piece.
use Rattle.std.proofs.Common.{◌≡◌, ◌≢◌, ◌+◌, ◌<◌, ◌≤◌, ℕ, List, [], ◌∷◌, ◌++◌, length, refl, sym, subst, arith, inl, inr}
use Rattle.std.proofs.lemmas.List.{length_push}
use Rattle.lift_base.specs.Output.{Takes}
use Rattle.lift_base.specs.declared.command.Reply.{Reply}
use Rattle.lift_kiosk.specs.declared.dialect.Wanted.{Wanted}
use Rattle.lift_kiosk.specs.declared.outcome.Opening.{Opening}
use Rattle.lift_kiosk.specs.declared.outcome.Opening.TheVariants.{StillWaits}
use Rattle.lift_kiosk.specs.declared.outcome.Outcome.{Outcome}
use Rattle.lift_kiosk.specs.declared.outcome.Outcome.TheVariants.{Malformed, OffFloors, Answered, NotAnswered, Refused}
use Rattle.lift_kiosk.specs.declared.terms.LastLetter.{LastLetter}
use Rattle.lift_kiosk.specs.declared.terms.Limits.{Limits}
use Rattle.lift_kiosk.specs.declared.terms.End.{End}
use Rattle.lift_kiosk.specs.declared.terms.End.TheVariants.{Limit}
use Rattle.lift_kiosk.specs.Session.{Standing, GoesOn, EndsWith, AnswersLines, AnswersLine, LastStep, SessionOpens, Converses, opening_line}
use Rattle.lift_kiosk.specs.lemmas.Ends.{after_greeting}

pub ends_so : (wants : List ℕ → Wanted → Type 0) (keeps : LastLetter → ℕ → Reply → LastLetter) (limits : Limits) (calls : ℕ) (end : End) (line : List ℕ) (outcome : Outcome) (before after : Standing)
    → EndsWith outcome end → AnswersLine wants keeps limits line outcome before after → LastStep wants keeps limits calls end before after
ends_so wants keeps limits calls end line Malformed before after ends done = absurd ends
ends_so wants keeps limits calls end line OffFloors before after ends done = absurd ends
ends_so wants keeps limits calls end line (Answered ask reply) before after ends done = absurd ends
ends_so wants keeps limits calls end line (NotAnswered ask) before after ends done =
    subst (λ e. LastStep wants keeps limits calls e before after) (sym ends) (line, ask, done)
ends_so wants keeps limits calls end line (Refused ask) before after ends done =
    subst (λ e. LastStep wants keeps limits calls e before after) (sym ends) (line, ask, done)

-- a run goes on by a line
pub run_more : (wants : List ℕ → Wanted → Type 0) (keeps : LastLetter → ℕ → Reply → LastLetter) (limits : Limits) (xs : List (List ℕ × Outcome)) (line : List ℕ) (outcome : Outcome) (before mid after : Standing)
    → AnswersLines wants keeps limits xs before mid → GoesOn outcome → AnswersLine wants keeps limits line outcome mid after → AnswersLines wants keeps limits (xs ++ (line, outcome) ∷ []) before after
run_more wants keeps limits [] line outcome before mid after so_far goes done =
    (after, subst (λ (s : Standing). AnswersLine wants keeps limits line outcome s after) so_far done, goes, refl)
run_more wants keeps limits (x ∷ xs) line outcome before mid after so_far goes done =
    (so_far.0, so_far.1, so_far.2, run_more wants keeps limits xs line outcome so_far.0 mid after so_far.3 goes done)

-- a session that greeted, and answered so many lines
pub record HasAnswered (wants : List ℕ → Wanted → Type 0) (keeps : LastLetter → ℕ → Reply → LastLetter) (limits : Limits) (count : ℕ) (before after : Standing) : Type 0 where
  pub opening : Opening
  pub greeted : Standing
  pub opens : SessionOpens keeps limits opening before greeted
  pub greets : Takes (opening_line greeted.last opening) before.sink greeted.sink
  pub ready : opening ≢ StillWaits
  pub exchanges : List (List ℕ × Outcome)
  pub count_is : length exchanges ≡ count
  pub runs : AnswersLines wants keeps limits exchanges greeted after

module _ (wants : List ℕ → Wanted → Type 0) (keeps : LastLetter → ℕ → Reply → LastLetter) (limits : Limits) (count : ℕ) (before mid : Standing)
    (so_far : HasAnswered wants keeps limits count before mid) where
  pub answers_more : (line : List ℕ) (outcome : Outcome) (after : Standing) → GoesOn outcome → AnswersLine wants keeps limits line outcome mid after
      → HasAnswered wants keeps limits (count + 1) before after
  answers_more line outcome after goes done = record {
    opening = so_far.opening;
    greeted = so_far.greeted;
    opens = so_far.opens;
    greets = so_far.greets;
    ready = so_far.ready;
    exchanges = so_far.exchanges ++ (line, outcome) ∷ [];
    count_is = omega (arith, so_far.count_is, length_push so_far.exchanges (line, outcome));
    runs = run_more wants keeps limits so_far.exchanges line outcome so_far.greeted mid after so_far.runs goes done;
  }

  -- it has answered all that it may
  pub ends_full : count ≡ limits.lines → mid.source.calls ≤ before.source.calls + limits.reads → Converses wants keeps limits Limit before mid
  ends_full all within =
      after_greeting wants keeps limits Limit so_far.opening before so_far.greeted mid so_far.opens so_far.greets so_far.ready
      (record {
        exchanges = so_far.exchanges;
        answered = mid;
        runs = so_far.runs;
        ends = inl (omega (arith, so_far.count_is, all), refl, refl);
      }) within

  -- a step ends it before
  pub ends_early : (end : End) (after : Standing) → count < limits.lines → LastStep wants keeps limits (before.source.calls + limits.reads) end mid after
      → after.source.calls ≤ before.source.calls + limits.reads → Converses wants keeps limits end before after
  ends_early end after fewer step within =
      after_greeting wants keeps limits end so_far.opening before so_far.greeted after so_far.opens so_far.greets so_far.ready
      (record {
        exchanges = so_far.exchanges;
        answered = mid;
        runs = so_far.runs;
        ends = inr (omega (arith, so_far.count_is, fewer), step);
      }) within
