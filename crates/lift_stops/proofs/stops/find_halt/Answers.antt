use Rattle.std.proofs.Common.{◌<◌, ◌≤◌, arith, sym, ap, ◌∙◌, length, refl, ◌≡◌, ◌≢◌, ◌==◌, ◌&&◌, true, get_or}
use Rattle.std.proofs.lemmas.Bool.{ltb-false, eqb-false, eqb-true}
use denote.Enum.Bare.{sameb}
use Rattle.lift_base.specs.contracts.travel.Pass.{the_type}
use Rattle.lift_base.specs.declared.limits.TheConstants.{MOST_FLOORS}
use Rattle.lift_base.specs.declared.travel.Pass.{Pass}
use Rattle.lift_base.specs.declared.travel.Pass.TheVariants.{First, Second, Third}
use Rattle.lift_base.specs.declared.travel.Dir.{Dir}
use Rattle.lift_base.specs.declared.travel.Halt.{Halt}
use Rattle.lift_stops.specs.Insertion.{rank_of}
use Rattle.lift_stops.specs.StopList.{same_pass, same_halt}
use Rattle.lift_stops.specs.lemmas.Insertion.{get_or-default, put-insert, put-same}
use Rattle.lift_stops.specs.lemmas.Halts.{same_ranks}
use Rattle.lift_stops.specs.lemmas.Listed.{halts_equal}
use Rattle.lift_stops.proofs.stops.find_halt.Goals as goal

pass_test : (a b : Pass) → sameb the_type a b ≡ same_pass a b
pass_test First First = refl
pass_test First Second = refl
pass_test First Third = refl
pass_test Second First = refl
pass_test Second Second = refl
pass_test Second Third = refl
pass_test Third First = refl
pass_test Third Second = refl
pass_test Third Third = refl

-- what the test of halts says of their ranks
ranks : (dir : Dir) (halt other : Halt) → halt.floor < MOST_FLOORS → other.floor < MOST_FLOORS → (rank_of dir halt == rank_of dir other) ≡ (sameb the_type other.pass halt.pass && other.floor == halt.floor)
ranks dir halt other low other-low = same_ranks dir halt other low other-low ∙ ap (λ b. b && other.floor == halt.floor) (sym (pass_test other.pass halt.pass))

pub returns-then-eq-clause-found : goal.returns-then-eq-clause-found
returns-then-eq-clause-found c =
    let dir : Dir = c.args.dir in
    let halt : Halt = c.args.halt.now in
    let other : Halt = c.index-halts-i.result in
    let same : (sameb the_type other.pass halt.pass && other.floor == halt.floor) ≡ true = sym c.eq.ensures ∙ c.if-eq.true in
    let equal : rank_of dir halt ≡ rank_of dir other = eqb-true _ _ (ranks dir halt other c.comes_before.ensures.floors.1 c.comes_before.ensures.floors.0 ∙ same) in
    let alike : same_halt other halt ≡ true = ap (λ b. b && other.floor == halt.floor) (sym (pass_test other.pass halt.pass)) ∙ same in
    let here : get_or c.args.halts.now c.loop-i.i halt ≡ halt = get_or-default c.args.halts.now c.loop-i.i halt other (omega arith) ∙ sym c.index-halts-i.is ∙ halts_equal other halt alike in (
      omega arith,
      here,
      put-same (rank_of dir) halt c.args.halts.now c.loop-i.i (omega arith) c.loop-i.invariant
          (λ d. rw (get_or-default c.args.halts.now c.loop-i.i d other (omega arith), ← c.index-halts-i.is) (sym equal)),
    )

pub returns-else-eq-clause-missing : goal.returns-else-eq-clause-missing
returns-else-eq-clause-missing c =
    let dir : Dir = c.args.dir in
    let halt : Halt = c.args.halt.now in
    let other : Halt = c.index-halts-i.result in
    let no_lower : rank_of dir halt ≤ rank_of dir other = ltb-false _ _ (sym c.comes_before.ensures.order ∙ c.if-not-comes_before.true) in
    let differ : rank_of dir halt ≢ rank_of dir other = eqb-false _ _ (ranks dir halt other c.comes_before.ensures.floors.1 c.comes_before.ensures.floors.0 ∙ sym c.eq.ensures ∙ c.if-eq.false) in
    let lower : rank_of dir halt < rank_of dir other = omega (arith, no_lower, differ) in (
      omega arith,
      put-insert (rank_of dir) halt c.args.halts.now c.loop-i.i (omega arith) c.loop-i.invariant
          (λ d within. rw (get_or-default c.args.halts.now c.loop-i.i d other within, ← c.index-halts-i.is) lower),
    )

pub returns-clause-missing : goal.returns-clause-missing
returns-clause-missing c =
    (omega arith, put-insert (rank_of c.args.dir) c.args.halt.now c.args.halts.now (length c.args.halts.now) (omega arith) (λ k d below. c.loop-i.invariant k d (omega (arith, below))) (λ d within. absurd (omega (arith, within))))
