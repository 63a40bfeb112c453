-- Lists of events that are all possible.
use Rattle.std.proofs.Common.{◌≡◌, List, [], ◌∷◌, ◌++◌, Option, Some, None, refl, ap, ◌∙◌}
use Rattle.std.specs.Prelude.{unwrap_or, option_and_then}
use Rattle.lift_world.specs.declared.event.Event.{Event}
use Rattle.lift_world.specs.World.{World}
use Rattle.lift_world.specs.Next.{next, run, goes}
use Rattle.lift_world.specs.Beside.{GoesAreRuns, EventsJoin}
use Rattle.lift_world.specs.lemmas.Steps.{then_from}

-- one event that is possible
pub one : (e : Event) (events : List Event) (w x : World) → next w e ≡ Some x
    → goes (e ∷ events) w ≡ goes events x
one e events w x h = ap (option_and_then (goes events)) h

then_twice : (xs ys : List Event) (o : Option World)
    → ((w : World) → goes (xs ++ ys) w ≡ option_and_then (goes ys) (goes xs w))
    → option_and_then (goes (xs ++ ys)) o ≡ option_and_then (goes ys) (option_and_then (goes xs) o)
then_twice xs ys None h = refl
then_twice xs ys (Some w) h = h w

pub goes-append : (xs ys : List Event) (w : World)
    → goes (xs ++ ys) w ≡ option_and_then (goes ys) (goes xs w)
goes-append [] ys w = refl
goes-append (e ∷ xs) ys w = then_twice xs ys (next w e) (goes-append xs ys)

-- the second part goes on where the first one ends
pub joined : (xs ys : List Event) (w x : World) → goes xs w ≡ Some x → goes (xs ++ ys) w ≡ goes ys x
joined xs ys w x h = goes-append xs ys w ∙ ap (option_and_then (goes ys)) h

pub goes_are_runs : (w : World) → GoesAreRuns w
goes_are_runs w [] after h = cc
goes_are_runs w (e ∷ events) after h =
    let t = then_from (goes events) (next w e) after h in
    ap (λ (o : Option World). run events (unwrap_or o w)) t.1 ∙ goes_are_runs t.0 events after t.2

pub runs_join : (w : World) → EventsJoin w
runs_join w [] later = refl
runs_join w (e ∷ events) later = runs_join (unwrap_or (next w e) w) events later
