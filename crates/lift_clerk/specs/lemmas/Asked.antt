-- The worlds between calls, and what terminals do first.
use Rattle.lift_clerk.specs.TakenAndAnswered.{AreApart}
use Rattle.std.proofs.Common.{ℕ, ◌≡◌, ◌≤◌, false, List, [], ◌∷◌, ◌++◌, length}
use Rattle.std.proofs.Common.{Some, refl, sym, ap, subst, ◌∙◌, arith}
use Rattle.std.specs.Prelude.{IsTrue}
use Rattle.std.specs.List.{AllByRecursion}
use Rattle.std.proofs.lemmas.List.{append-nil}
use Rattle.lift_base.specs.declared.limits.TheConstants.{MOST_BATCHES}
use Rattle.lift_base.specs.declared.command.Reply.{Reply}
use Rattle.lift_building.specs.Plan.{Plan}
use Rattle.lift_desk.specs.declared.view.ClerkView.{ClerkView}
use Rattle.lift_policy.specs.Eligible.{Choice, any_eligible}
use Rattle.lift_policy.specs.Step.{State}
use Rattle.lift_policy.specs.Run.{Run}
use Rattle.lift_policy.specs.declared.command.Command.{Command}
use Rattle.lift_keeper.specs.Writer.{WriterView}
use Rattle.lift_world.specs.declared.event.Answer.{Answer}
use Rattle.lift_world.specs.declared.event.Event.{Event}
use Rattle.lift_world.specs.World.{World, state_of, is_off}
use Rattle.lift_world.specs.Next.{goes, unanswered}
use Rattle.lift_world.specs.Asking.{asked_on}
use Rattle.lift_world.specs.Beside.{is_of_terminals}
use Rattle.lift_world.specs.Policies.{RunsAreAny}
use Rattle.lift_clerk.specs.Tied.{IsReached, IsTied}
use Rattle.lift_clerk.specs.Laws.{Laws}
use Rattle.lift_clerk.specs.lemmas.Tied.{hears, is_queued, nothing_queued, flat}
use Rattle.lift_clerk.specs.lemmas.Standing.{fresh, Splits, fresh_answered}

-- nothing is on its way
pub record IsResting (w : World) : Type 0 where
  pub nothing : unanswered w ≡ []
  pub on : is_off w.power ≡ false
  pub few : length w.queue ≤ MOST_BATCHES

pub resting : {D : Type 0} {w : World} {ahead : ℕ → List ℕ} {behind : ℕ → ClerkView} {state : State}
    {writer : WriterView D} → IsTied w ahead behind state writer [] → IsResting w
resting m =
    let k = is_queued m in
    let none = nothing_queued m in
    record { nothing = k.all ∙ ap flat none; on = k.on; few = omega (arith, ap length none) }

-- a run of the keeper is one of the machine
pub run_in : (choice : Choice) → RunsAreAny choice
    → (w : World) (plan : Plan) (state : State) (cs : List Command) (rs : List Reply)
    (after : State) → w.building ≡ plan → state_of w ≡ state
    → Run plan choice state cs rs after → Run w.building any_eligible (state_of w) cs rs after
run_in choice any w plan state cs rs after b s r =
    any w.building (state_of w) cs rs after
    (subst (λ (p : Plan). Run p choice (state_of w) cs rs after) (sym b)
    (subst (λ (x : State). Run plan choice x cs rs after) (sym s) r))

-- what terminals ask first, of these commands
pub record Asked (w : World) (cs : List Command) : Type 0 where
  pub events : List Event
  pub theirs : AllByRecursion (λ (e : Event). IsTrue (is_of_terminals e)) events
  pub heard : List Answer
  pub possible : goes events w ≡ Some (asked_on w (fresh w cs) heard)
  pub alone : fresh w cs ≡ [] → (events ≡ []) × (heard ≡ w.heard)

module _ (laws : Laws) (w : World) (reached : IsReached w) (splits : (t : ℕ) → Splits w t) (k : IsResting w) (cs : List Command)
    (apart : AreApart cs) where
  by_fresh : (xs : List Command) → fresh w cs ≡ xs → Asked w cs
  by_fresh [] none = record {
    events = [];
    heard = w.heard;
    theirs = tt;
    possible = ap (λ (xs : List Command). Some (record w { asked = xs }))
        (sym (ap (λ (xs : List Command). w.asked ++ xs) none ∙ append-nil w.asked));
    alone = λ none. (refl, refl);
  }
  by_fresh (c ∷ rest) some =
      let s = laws.asks w (fresh w cs) k.on k.few (hears laws w reached) (fresh_answered w splits k.nothing cs apart) in
      record {
        events = s.0;
        heard = s.1;
        theirs = s.2;
        possible = s.3;
        alone = λ none. (let wrong : c ∷ rest ≡ [] = sym some ∙ none in cc);
      }

  pub ask : Asked w cs
  ask = by_fresh (fresh w cs) refl
