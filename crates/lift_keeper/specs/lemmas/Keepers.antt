-- What is true of a keeper after each of its calls.
use Rattle.std.proofs.Common.{◌≡◌, ⊎_elim, ℕ, Bool, false, List, [], ◌∷◌, sym, ◌∙◌, ap, subst}
use Rattle.std.proofs.lemmas.List.{append-nil}
use Rattle.lift_base.specs.declared.history.Entry.{Entry}
use Rattle.lift_base.specs.declared.command.Body.{Body}
use Rattle.lift_building.specs.Plan.{Plan}
use Rattle.lift_register.specs.Prelude.{RegisterState, register_of, Fits, FitFrom, IsWellFormed}
use Rattle.lift_register.specs.lemmas.EntryLemmas.{register_of-nothing}
use Rattle.lift_register.specs.lemmas.HistoryLemmas.{register_of-append}
use Rattle.lift_register.specs.lemmas.Laws.{FitFrom-append}
use Rattle.lift_policy.specs.Laws.{JoinsAtMostOne}
use Rattle.lift_policy.specs.Step.{State}
use Rattle.lift_keeper.specs.Keeper.{IsKeeper}

-- nothing is in the batch
pub keeper_without_batch : (plan : Plan) (state : State) (other : Plan) (safe : RegisterState)
    (is_broken : Bool) → other ≡ plan → state.batch ≡ [] → register_of safe [] ≡ safe
    → (is_broken ≡ false → state.register ≡ safe) → IsKeeper plan state other safe is_broken
keeper_without_batch plan state other safe is_broken of_building none same shows = record {
  of_building = of_building;
  fits = λ _. subst (FitFrom plan safe) (sym none) tt;
  shows = λ whole. shows whole ∙ sym same ∙ ap (register_of safe) (sym none);
}

-- a register with entries is one of no more
pub nothing_after : (register : RegisterState) (batch : List Entry)
    → register_of (register_of register batch) [] ≡ register_of register batch
nothing_after register batch =
    register_of-append register batch [] ∙ ap (register_of register) (append-nil batch)

pub nothing_more : (register same : RegisterState) → same ≡ register → IsWellFormed same
    → register_of register [] ≡ register
nothing_more register same is lawful =
    subst (λ (r : RegisterState). register_of r [] ≡ r) is (register_of-nothing same lawful)

-- a decision
pub decided_keeper : (plan : Plan) (state next : State) (other after : Plan) (safe : RegisterState)
    (is_broken : Bool) (terminal number : ℕ) (body : Body)
    → IsKeeper plan state other safe is_broken
    → register_of safe [] ≡ safe → after ≡ other
    → JoinsAtMostOne other state terminal number body next
    → IsKeeper plan next after safe is_broken
decided_keeper plan state next other after safe is_broken terminal number body keeper same is
    joins =
    ⊎_elim
    (λ none. record {
      of_building = is ∙ keeper.of_building;
      fits = λ whole. subst (FitFrom plan safe) (sym none.batch) (keeper.fits whole);
      shows = λ whole. none.register ∙ keeper.shows whole ∙ ap (register_of safe) (sym none.batch);
    })
    (λ one.
    let entry = one.0 in
    let join = one.1 in
    record {
      of_building = is ∙ keeper.of_building;
      fits = λ whole.
          (let here : Fits plan (register_of safe state.batch) entry = subst (λ (p : Plan).
          Fits p (register_of safe state.batch) entry) keeper.of_building
          (subst (λ (r : RegisterState). Fits other r entry) (keeper.shows whole) join.fits) in
          subst (FitFrom plan safe) (sym join.batch)
          (FitFrom-append plan safe state.batch (entry ∷ []) same (keeper.fits whole)
          (here, tt)));
      shows = λ whole.
          join.register ∙ ap (λ (r : RegisterState).
          register_of r (entry ∷ [])) (keeper.shows whole) ∙ register_of-append safe state.batch
          (entry ∷ [])
          ∙ ap (register_of safe) (sym join.batch);
    })
    joins
