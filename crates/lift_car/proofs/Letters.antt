-- In a car's session no letter is ever kept.
use Rattle.std.proofs.Common.{◌≡◌, ℕ, ◌+◌, Bool, true, false, List, [], ◌∷◌, refl, sym, ap, subst, inl, inr}
use Rattle.std.specs.Prelude.{Option, None, nat_lt, if◌then◌else◌}
use Rattle.lift_base.specs.declared.command.Reply.{Reply}
use Rattle.lift_base.specs.declared.command.Reply.TheVariants.{Car, Stopped, Placed, Refused, Unknown}
use Rattle.lift_kiosk.specs.declared.terms.LastLetter.{LastLetter}
use Rattle.lift_kiosk.specs.declared.terms.Limits.{Limits}
use Rattle.lift_kiosk.specs.declared.terms.End.{End}
use Rattle.lift_kiosk.specs.declared.terms.End.TheVariants.{Closed, Limit, Late, Spent, ReadFault, WriteFault}
use Rattle.lift_kiosk.specs.declared.outcome.Opening.{Opening}
use Rattle.lift_kiosk.specs.declared.outcome.Opening.TheVariants.{Free, BroughtIn, StillWaits}
use Rattle.lift_kiosk.specs.declared.outcome.Outcome.{Outcome}
use Rattle.lift_kiosk.specs.declared.outcome.Outcome.TheVariants.{Malformed, OffFloors, Answered, NotAnswered, Refused as NotTaken}
use Rattle.lift_kiosk.specs.Session.{Standing, AnswersLines, LastStep, EndsAtOnce, EndsLines, IsSession, last_after, last_opened}
use Rattle.lift_car.specs.Lines.{WantsMove, keeps_stop, stop_numbered}

abbrev HasNone : LastLetter → Type 0
HasNone last = last.letter ≡ None

chosen : (b : Bool) (number : ℕ) (last : LastLetter) → HasNone last → HasNone (if b then record { number = number; letter = None } else last)
chosen true number last none = refl
chosen false number last none = none

kept : (last : LastLetter) (number : ℕ) (reply : Reply) → HasNone last → HasNone (keeps_stop last number reply)
kept last number (Car car) none = none
kept last number (Stopped next) none = chosen (nat_lt last.number number) number last none
kept last number (Placed next) none = none
kept last number (Refused reason) none = none
kept last number Unknown none = none

after_line : (last : LastLetter) (outcome : Outcome) → HasNone last → HasNone (last_after keeps_stop last outcome)
after_line last Malformed none = none
after_line last OffFloors none = none
after_line last (Answered ask reply) none = kept last ask.number reply none
after_line last (NotAnswered ask) none = none
after_line last (NotTaken ask) none = none

after_opening : (last : LastLetter) (opening : Opening) → HasNone last → HasNone (last_opened keeps_stop last opening)
after_opening last Free none = none
after_opening last (BroughtIn number reply) none = kept last number reply none
after_opening last StillWaits none = none

follows : (last new : LastLetter) → last ≡ new → HasNone new → HasNone last
follows last new same none = subst HasNone (sym same) none

after_run : (limits : Limits) (xs : List (List ℕ × Outcome)) (before after : Standing) → AnswersLines WantsMove keeps_stop limits xs before after → HasNone before.last → HasNone after.last
after_run limits [] before after run none = subst (λ (s : Standing). HasNone s.last) (sym run) none
after_run limits (x ∷ xs) before after run none =
    after_run limits xs run.0 after run.3 (follows run.0.last _ run.1.exchange.last (after_line before.last x.1 none))

after_step : (limits : Limits) (calls : ℕ) (end : End) (before after : Standing) → LastStep WantsMove keeps_stop limits calls end before after → HasNone before.last → HasNone after.last
after_step limits calls Closed before after step none = follows after.last before.last step.2.last none
after_step limits calls ReadFault before after step none = follows after.last before.last step.2.last none
after_step limits calls Limit before after step none = follows after.last before.last step.1.last none
after_step limits calls Late before after step none = follows after.last _ step.2.exchange.last (after_line before.last (NotAnswered step.1) none)
after_step limits calls Spent before after step none = follows after.last _ step.2.exchange.last (after_line before.last (NotTaken step.1) none)
after_step limits calls WriteFault before after step none = follows after.last _ step.2.last (after_line before.last step.1 none)

after_first : (limits : Limits) (end : End) (before after : Standing) → EndsAtOnce keeps_stop limits end before after → HasNone before.last → HasNone after.last
after_first limits Late before after step none = follows after.last _ step.0.last (after_opening before.last StillWaits none)
after_first limits WriteFault before after step none = follows after.last _ step.1.last (after_opening before.last step.0 none)
after_first limits Closed before after step none = absurd step
after_first limits Limit before after step none = absurd step
after_first limits Spent before after step none = absurd step
after_first limits ReadFault before after step none = absurd step

after_lines : (limits : Limits) (calls : ℕ) (end : End) (before after : Standing) → EndsLines WantsMove keeps_stop limits calls end before after → HasNone before.last → HasNone after.last
after_lines limits calls end before after lines none =
    let ran = after_run limits lines.exchanges before lines.answered lines.runs none in
    elim lines.ends [
      | inl all ↦ subst (λ (s : Standing). HasNone s.last) (sym all.2) ran
      | inr step ↦ after_step limits calls end lines.answered after step.1 ran
    ]

after_session : (limits : Limits) (end : End) (before after : Standing) → IsSession WantsMove keeps_stop limits end before after → HasNone before.last → HasNone after.last
after_session limits end before after (inl first) none = after_first limits end before after first none
after_session limits end before after (inr behind) none =
    after_lines limits (before.source.calls + limits.reads) end behind.greeted after behind.lines (follows behind.greeted.last _ behind.opens.last (after_opening before.last behind.opening none))

-- so the last command is its number alone
pub number_alone : (limits : Limits) (end : End) (before after : Standing) → IsSession WantsMove keeps_stop limits end before after → before.last.letter ≡ None
    → IsSession WantsMove keeps_stop limits end before (record after { last = stop_numbered after.last.number })
number_alone limits end before after session none =
    let same : after.last ≡ stop_numbered after.last.number =
    ap (λ (letter : Option ℕ). let l : LastLetter = record { number = after.last.number; letter = letter } in l) (after_session limits end before after session none) in
    subst (λ (last : LastLetter). IsSession WantsMove keeps_stop limits end before (record after { last = last })) same session
