use Rattle.std.proofs.Common.{◌≡◌, false, not, sym, ap, ◌∙◌, refl, inl, inr}
use denote.Enum.Bare.{sameb}
use Rattle.lift_base.specs.contracts.travel.Dir.{the_type}
use Rattle.lift_base.specs.declared.travel.Dir.{Dir}
use Rattle.lift_base.specs.declared.travel.Dir.TheVariants.{Up, Down}
use Rattle.lift_base.specs.declared.travel.Pass.TheVariants.{First}
use Rattle.lift_base.specs.declared.travel.Halt.{Halt}
use Rattle.lift_stops.proofs.Kept.{keeps}
use Rattle.lift_stops.proofs.schedule.passes_stay.Goals as goal

same_dirs : (a b : Dir) → not (sameb the_type a b) ≡ false → a ≡ b
same_dirs Up Up same = refl
same_dirs Up Down same = absurd cc
same_dirs Down Up same = absurd cc
same_dirs Down Down same = refl

pub returns-in-None : goal.returns-in-None
returns-in-None c rows listed floors holds =
    keeps rows c.args.position.now c.args.next.now c.args.halts.now (same_dirs _ _ (sym c.ne.ensures ∙ c.if-ne.false)) (sym c.is_ahead.ensures ∙ c.if-not-is_ahead.false) listed floors
    (λ h some is. let none = c.in-None.ensures.value ∙ some in absurd cc)

pub returns-in-First : goal.returns-in-First
returns-in-First c rows listed floors holds =
    keeps rows c.args.position.now c.args.next.now c.args.halts.now (same_dirs _ _ (sym c.ne.ensures ∙ c.if-ne.false)) (sym c.is_ahead.ensures ∙ c.if-not-is_ahead.false) listed floors
    (λ h some is.
    let same : c.in-Some.halt.now ≡ h = (let heads = c.in-Some.ensures.value ∙ some in cc) in
    rw (← same) (sym c.is_ahead-in-First.ensures ∙ holds))

pub returns-in-Second : goal.returns-in-Second
returns-in-Second c rows listed floors holds =
    keeps rows c.args.position.now c.args.next.now c.args.halts.now (same_dirs _ _ (sym c.ne.ensures ∙ c.if-ne.false)) (sym c.is_ahead.ensures ∙ c.if-not-is_ahead.false) listed floors
    (λ h some is.
    let same : c.in-Some.halt.now ≡ h = (let heads = c.in-Some.ensures.value ∙ some in cc) in
    let first : c.in-Some.halt.now.pass ≡ First = ap (λ (x : Halt). x.pass) same ∙ is in
    elim c.in-Second.is [
      | inl second ↦ (let clash = sym first ∙ second in absurd cc)
      | inr third ↦ (let clash = sym first ∙ third in absurd cc)
    ])
