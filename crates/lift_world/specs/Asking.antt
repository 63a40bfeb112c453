-- How asks come to stand: a turn's commands may be any that terminals can ask.
use Rattle.std.specs.Prelude.{◌≡◌, ◌≢◌, ◌≤◌, false, Some, List, [], ◌∷◌, ◌++◌, length, count_by}
use Rattle.std.specs.Prelude.{IsTrue}
use Rattle.std.specs.List.{AllByRecursion}
use Rattle.lift_base.specs.declared.limits.TheConstants.{MOST_BATCHES}
use Rattle.lift_policy.specs.declared.command.Command.{Command}
use Rattle.lift_world.specs.declared.event.Answer.{Answer}
use Rattle.lift_world.specs.declared.event.Taken.{Taken}
use Rattle.lift_world.specs.declared.event.Event.{Event}
use Rattle.lift_world.specs.World.{World, is_off, is_answer_to, asks}
use Rattle.lift_world.specs.Next.{goes, unanswered}
use Rattle.lift_world.specs.Headline.{HearsInOrder}
use Rattle.lift_world.specs.Beside.{is_of_terminals}
use Rattle.lift_world.specs.Turns.{AreFound}

-- of no terminal two commands; each terminal was answered all that it asked, and nothing of it is
-- on its way
abbrev pub AreAnswered : World → List Command → Type 0
AreAnswered w [] = Unit {0}
AreAnswered w (c ∷ commands) =
    (count_by (asks c.terminal) w.asked ≡ count_by (is_answer_to c.terminal) w.answered)
    × AllByRecursion (λ (t : Taken). t.terminal ≢ c.terminal) (unanswered w)
    × AllByRecursion (λ (d : Command). d.terminal ≢ c.terminal) commands × AreAnswered w commands

-- the world in which these are asked too, after so much was heard
abbrev pub asked_on : World → List Command → List Answer → World
asked_on w commands heard = record w { asked = w.asked ++ commands; heard = heard }

-- Whatever these commands are, their terminals can hear their answers and ask them, and then the
-- asks stand. Nobody else does anything.
abbrev pub AsksStand : World → Type 0
AsksStand w = (commands : List Command) → is_off w.power ≡ false → length w.queue ≤ MOST_BATCHES
    → HearsInOrder w → AreAnswered w commands
    → (events : List Event) × (heard : List Answer)
    × AllByRecursion (λ (e : Event). IsTrue (is_of_terminals e)) events
    × (goes events w ≡ Some (asked_on w commands heard))
    × AreFound (asked_on w commands heard) commands
