use Rattle.lift_world.specs.World.{start}
use Rattle.lift_world.specs.Next.{run}
use Rattle.lift_world.specs.lemmas.Heard.{run_hears, start_hears}
use Rattle.lift_world.proofs.Given.{run_stores, start_stores}
use Rattle.lift_world.proofs.Lawful.{accepts_records}
use Rattle.lift_world.specs.lemmas.Ordered.{queue_in_order}
use Rattle.lift_world.proofs.Queued.{run_queues, start_queues, run_holds, start_holds_nothing}
use Rattle.lift_world.specs.lemmas.Counted.{all_ask_one_by_one}
use Rattle.lift_world.proofs.Few.{holds_few}
use Rattle.lift_world.proofs.Short.{holds_few_entries}
use Rattle.lift_world.proofs.Quiet.{flies_nothing_while_idle, reopens_in_place}
use Rattle.lift_world.proofs.Sealed.{run_seals, start_seals}
use Rattle.lift_world.proofs.Consistent.{start_holds, run_keeps, recovers_acknowledged, accepts_fitting}
use Rattle.lift_world.proofs.Growing.{accepts_in_order}
use Rattle.lift_world.proofs.Letters.{recovers_letters}
use Rattle.lift_world.proofs.theorem.every_run.Goals as goal

pub returns-clause-prefix : goal.returns-clause-prefix
returns-clause-prefix c building base events = accepts_in_order (run events (start building base))

pub returns-clause-acknowledged : goal.returns-clause-acknowledged
returns-clause-acknowledged c building base events sound of =
    recovers_acknowledged (run events (start building base)) (run_keeps events (start building base) (start_holds building base sound of))

pub returns-clause-letters : goal.returns-clause-letters
returns-clause-letters c building base events sound of =
    recovers_letters (run events (start building base)) (run_keeps events (start building base) (start_holds building base sound of))

pub returns-clause-few : goal.returns-clause-few
returns-clause-few c building base events of_terminals = holds_few building base events of_terminals

pub returns-clause-accepted : goal.returns-clause-accepted
returns-clause-accepted c building base events sound of =
    accepts_fitting (run events (start building base)) (run_keeps events (start building base) (start_holds building base sound of))

pub returns-clause-written : goal.returns-clause-written
returns-clause-written c building base events sound typed = accepts_records building base events sound typed

pub returns-clause-few_entries : goal.returns-clause-few_entries
returns-clause-few_entries c building base events of_terminals = holds_few_entries building base events of_terminals

pub returns-clause-orderly : goal.returns-clause-orderly
returns-clause-orderly c building base events = record {
  heard = run_hears events (start building base) (start_hears building base);
  sealed = run_seals events (start building base) (start_seals building base);
  shown = run_stores events (start building base) (start_stores building base);
  in_order = queue_in_order building base events;
  queued = run_queues events (start building base) (start_queues building base);
  off = run_holds events (start building base) (start_holds_nothing building base);
  asked = all_ask_one_by_one building base events;
  idle = flies_nothing_while_idle building base events;
  in_place = reopens_in_place building base events;
}
