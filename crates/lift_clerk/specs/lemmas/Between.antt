-- What terminals do between two calls.
use Rattle.std.proofs.Common.{ℕ, ◌≡◌, Bool, true, false, not, cond, List, [], ◌∷◌, ◌++◌, Option}
use Rattle.std.proofs.Common.{Some, None, refl, sym, ap, subst, ◌∙◌}
use Rattle.std.specs.Prelude.{IsTrue, option_map, unwrap_or}
use Rattle.std.proofs.lemmas.Bool.{false≢true}
use Rattle.std.proofs.lemmas.List.{append-nil}
use Rattle.lift_desk.specs.declared.view.ClerkView.{ClerkView}
use Rattle.lift_policy.specs.Step.{State}
use Rattle.lift_policy.specs.declared.command.Command.{Command}
use Rattle.lift_keeper.specs.Writer.{WriterView}
use Rattle.lift_world.specs.declared.event.Answer.{Answer}
use Rattle.lift_world.specs.declared.event.Event.{Event}
use Rattle.lift_world.specs.declared.event.Event.TheVariants.{Ask, Take, Seal, Pull, Fold, Body as BodyWrite, FirstSync, Gate, SecondSync, Answer as Answering, Hear, Fault, Cut, Reopen}
use Rattle.lift_world.specs.Decided.{when}
use Rattle.lift_world.specs.World.{World, is_off}
use Rattle.lift_world.specs.Next.{next, hearing, next_answer, may_ask, asking}
use Rattle.lift_world.specs.Beside.{is_of_terminals, with_words}
use Rattle.lift_world.specs.lemmas.Goes.{one}
use Rattle.lift_clerk.specs.Tied.{SentBatch, IsTied}
use Rattle.lift_clerk.specs.Laws.{Laws}
use Rattle.lift_clerk.specs.lemmas.Tied.{asked_more, reaches}

-- the world is as before but for these asks, and for what was heard
record AsksOn (w end : World) : Type 0 where
  more : List Command
  heard : List Answer
  is : end ≡ with_words w (w.asked ++ more) heard

asked_one : (w end : World) (b : Bool) (c : Command) → when b (asking w c) ≡ Some end → AsksOn w end
asked_one w end true c e = record { more = c ∷ []; heard = w.heard; is = ap (λ (o : Option World). unwrap_or o w) (sym e) }
asked_one w end false c e = cc

heard_one : (w end : World) (b : Bool) (o : Option Answer) → cond b (option_map (hearing w) o) None ≡ Some end → AsksOn w end
heard_one w end true (Some a) e = record {
  more = [];
  heard = w.heard ++ a ∷ [];
  is = ap (λ (o : Option World). unwrap_or o w) (sym e)
      ∙ ap (λ (cs : List Command). with_words w cs (w.heard ++ a ∷ [])) (sym (append-nil w.asked));
}
heard_one w end true None e = cc
heard_one w end false o e = cc

asks_on : (w end : World) (event : Event) → IsTrue (is_of_terminals event) → next w event ≡ Some end → AsksOn w end
asks_on w end (Ask terminal number body) own e = asked_one w end (may_ask w terminal) (record { terminal = terminal; number = number; body = body }) e
asks_on w end (Hear terminal) own e = heard_one w end (not (is_off w.power)) (next_answer w terminal) e
asks_on w end (Take terminal letter) own e = absurd (false≢true own)
asks_on w end Seal own e = absurd (false≢true own)
asks_on w end Pull own e = absurd (false≢true own)
asks_on w end Fold own e = absurd (false≢true own)
asks_on w end BodyWrite own e = absurd (false≢true own)
asks_on w end FirstSync own e = absurd (false≢true own)
asks_on w end Gate own e = absurd (false≢true own)
asks_on w end SecondSync own e = absurd (false≢true own)
asks_on w end (Answering terminal) own e = absurd (false≢true own)
asks_on w end Fault own e = absurd (false≢true own)
asks_on w end (Cut kept) own e = absurd (false≢true own)
asks_on w end (Reopen kept) own e = absurd (false≢true own)

-- what a group is tied to stays so
pub terminals_keep : {D : Type 0} {ahead : ℕ → List ℕ} {behind : ℕ → ClerkView} {state : State} {writer : WriterView D} {sent : List SentBatch} → Laws → (w end : World) (event : Event)
    → IsTrue (is_of_terminals event) → next w event ≡ Some end → IsTied w ahead behind state writer sent → IsTied end ahead behind state writer sent
terminals_keep {D} {ahead} {behind} {state} {writer} {sent} laws w end event own e m =
    let a = asks_on w end event own e in
    let v : World = with_words w (w.asked ++ a.more) a.heard in
    subst (λ (v : World). IsTied v ahead behind state writer sent) (sym a.is)
    (asked_more m a.more a.heard (reaches laws w m.reached (event ∷ []) v (one event [] w v (e ∙ ap (λ (v : World). Some v) a.is)) refl refl))
