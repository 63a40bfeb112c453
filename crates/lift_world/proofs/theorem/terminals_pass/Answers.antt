use Rattle.std.proofs.Common.{ℕ, ◌≡◌, ◌≢◌, false, List, ◌∷◌, Option, refl, sym}
use Rattle.std.specs.Prelude.{unwrap_or}
use Rattle.std.proofs.lemmas.Bool.{false≢true}
use Rattle.lift_policy.specs.declared.command.Command.{Command}
use Rattle.lift_world.specs.declared.event.Answer.{Answer}
use Rattle.lift_world.specs.declared.event.Kept.{Kept}
use Rattle.lift_world.specs.declared.event.Event.{Event}
use Rattle.lift_world.specs.declared.event.Event.TheVariants.{Ask, Take, Hear, Cut}
use Rattle.lift_world.specs.World.{World}
use Rattle.lift_world.specs.Next.{next}
use Rattle.lift_world.specs.Beside.{is_of_terminals, StandBeside, TerminalsStandBeside}
use Rattle.lift_world.specs.lemmas.Goes.{goes_are_runs, runs_join}
use Rattle.lift_world.proofs.Beside.{terminals_pass}
use Rattle.lift_world.proofs.theorem.terminals_pass.Goals as goal

-- whatever else the controller does
own_stands : (w : World) (asked : List Command) (heard : List Answer) (event : Event) (events : List Event) → is_of_terminals event ≡ false
    → ((terminal : ℕ) (letter : Option ℕ) → event ≢ Take terminal letter) → ((kept : Kept) → event ≢ Cut kept)
    → StandBeside (unwrap_or (next w event) w) asked heard events → StandBeside w asked heard (event ∷ events)
own_stands w asked heard (Ask terminal number body) events own take cut s = absurd (false≢true (sym own))
own_stands w asked heard (Hear terminal) events own take cut s = absurd (false≢true (sym own))
own_stands w asked heard (Take terminal letter) events own take cut s = absurd (take terminal letter refl)
own_stands w asked heard (Cut kept) events own take cut s = absurd (cut kept refl)
own_stands w asked heard event events own take cut s = s

stand_beside : (w : World) → TerminalsStandBeside w
stand_beside w = record {
  asks = λ terminal number body after h. (after, h, tt);
  hears = λ terminal after h. (after, h, tt);
  nothing = λ asked heard. tt;
  asks_on = λ asked heard terminal number body events after h s. (after, h, s);
  hears_on = λ asked heard terminal events after h s. (after, h, s);
  takes_on = λ asked heard terminal letter events same s. (same, s);
  goes_on = λ asked heard event events own take cut s. own_stands w asked heard event events own take cut s;
}

pub returns : goal.returns
returns c w = record {
  possible = goes_are_runs w;
  joined = runs_join w;
  beside = terminals_pass w;
  stand = stand_beside w;
}
