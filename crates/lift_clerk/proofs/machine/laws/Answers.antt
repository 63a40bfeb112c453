use Rattle.lift_clerk.proofs.machine.laws.Goals as goal

pub returns : goal.returns
returns c = record {
  asks = λ w. (c.turns_are_events.ensures.turns w).asks;
  looks = c.parts_interleave.ensures.looks;
  allocations = λ w. (c.relays_are_events.ensures w).allocations;
  flushes = λ w. (c.relays_are_events.ensures w).flushes;
  failed_flushes = λ w. (c.relays_are_events.ensures w).failures;
  broken_flushes = λ w. (c.relays_are_events.ensures w).broken;
  parts = λ w. (c.relays_are_events.ensures w).parts;
  in_order = λ building base events. (c.every_run.ensures.orderly building base events).in_order;
  decided = c.turns_are_events.ensures.decided;
  hears = λ building base events. (c.every_run.ensures.orderly building base events).heard;
  one_by_one = λ building base events. (c.every_run.ensures.orderly building base events).asked;
  starts = c.turns_end_at_rest.ensures.start;
  running_reopenings = λ w. (c.turns_end_at_rest.ensures.ends w).running_reopenings;
  failed_reopenings = λ w. (c.turns_end_at_rest.ensures.ends w).failed_reopenings;
  reopenings = λ w. (c.turns_end_at_rest.ensures.ends w).reopenings;
  cuts = λ w. (c.turns_end_at_rest.ensures.ends w).cuts;
  after_cut = λ w. (c.events_are_possible.ensures.events w).reopening;
  pulls = λ w. (c.events_are_possible.ensures.events w).pulls;
  calls = λ w. (c.events_are_possible.ensures.events w).calls;
  acknowledged = c.every_run.ensures.acknowledged;
  letters = c.every_run.ensures.letters;
  possible = λ w. (c.terminals_pass.ensures w).possible;
  joined = λ w. (c.terminals_pass.ensures w).joined;
  registers = c.registers_join.ensures.joins;
}
