-- What turns while broken change.
use Rattle.std.proofs.Common.{ℕ, ◌≡◌, ◌-◌, ◌≤◌, List, ◌++◌, length, map, take, drop, refl, ap, ◌∙◌, arith}
use Rattle.std.proofs.lemmas.List.{length-append, length-drop, take-append-le, drop-append-le}
use Rattle.lift_base.specs.declared.history.Entry.{Entry}
use Rattle.lift_policy.specs.Step.{State}
use Rattle.lift_policy.specs.declared.command.Command.{Command}
use Rattle.lift_world.specs.declared.event.Kept.{Kept}
use Rattle.lift_world.specs.declared.event.Kept.TheVariants.{Safe, WithBatch}
use Rattle.lift_world.specs.World.{World, may_keep, outcome}
use Rattle.lift_world.specs.Next.{reopened, answer_of}
use Rattle.lift_world.specs.Turns.{IsBrokenAtRest, with_unknown, turned_broken, ChangesAnswersAlone, BrokenTurnsChangeNothing}

-- nothing else changes
module _ (w : World) (commands : List Command) (state : State) (k : IsBrokenAtRest w) where
  same_front : (n : ℕ) → n ≤ length w.accepted → take n (w.accepted ++ state.batch) ≡ take n w.accepted
  same_front n le = take-append-le n w.accepted state.batch le

  same_batch : take (w.flight.upto - w.safe) (drop w.safe (w.accepted ++ state.batch)) ≡ take (w.flight.upto - w.safe) (drop w.safe w.accepted)
  same_batch =
      let l = length-drop w.safe w.accepted in
      let a = k.safe_in_range in
      let b = k.doubt_in_range in
      ap (λ (xs : List Entry). take (w.flight.upto - w.safe) xs) (drop-append-le w.safe w.accepted state.batch k.safe_in_range)
      ∙ take-append-le (w.flight.upto - w.safe) (drop w.safe w.accepted) state.batch (omega arith)

  outcome_same : (kept : Kept) → outcome (turned_broken w commands state) kept ≡ outcome w kept
  outcome_same Safe = same_front w.safe k.safe_in_range
  outcome_same WithBatch =
      ap (λ (xs : List Entry). xs ++ take (w.flight.upto - w.safe) (drop w.safe (w.accepted ++ state.batch))) (same_front w.safe k.safe_in_range)
      ∙ ap (λ (xs : List Entry). take w.safe w.accepted ++ xs) same_batch

  choice_same : (kept : Kept) → may_keep (turned_broken w commands state) kept ≡ may_keep w kept
  choice_same Safe = refl
  choice_same WithBatch = refl

  pub answers_alone : ChangesAnswersAlone w commands (turned_broken w commands state)
  answers_alone = record {
    same_outcome = outcome_same;
    same_choice = choice_same;
    same_reopened = λ kept. ap (λ (xs : List Entry). record (reopened w kept) { accepted = xs; safe = length xs; sealed = length xs; answered = w.answered ++ map answer_of (with_unknown commands); given = w.given ++ with_unknown commands }) (outcome_same kept);
  }

  pub rests_broken : IsBrokenAtRest (turned_broken w commands state)
  rests_broken =
      let l = length-append w.accepted state.batch in
      let a = k.safe_in_range in
      let b = k.doubt_in_range in
      record {
        broken = k.broken;
        nothing_flies = k.nothing_flies;
        nothing_queued = k.nothing_queued;
        nothing_taken = k.nothing_taken;
        nothing_due = k.nothing_due;
        all_sealed = refl;
        safe_in_range = omega arith;
        doubt_in_range = omega arith;
      }

pub broken_turns_change_nothing : (w : World) → BrokenTurnsChangeNothing w
broken_turns_change_nothing w commands state k = answers_alone w commands state k
