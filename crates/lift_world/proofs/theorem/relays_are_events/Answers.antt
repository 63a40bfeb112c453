use Rattle.lift_world.proofs.Relay.{allocations_are_events, full_queue_waits, flushes_are_events, failed_flushes_are_events, broken_flushes_are_events, turns_meet, parts_meet}
use Rattle.lift_world.proofs.Ahead.{flusher_passes_scans, flusher_comes_first, flusher_passes_seals}
use Rattle.lift_world.proofs.theorem.relays_are_events.Goals as goal

pub returns : goal.returns
returns c w = record {
  allocations = allocations_are_events w;
  full = full_queue_waits w;
  flushes = flushes_are_events w;
  failures = failed_flushes_are_events w;
  broken = broken_flushes_are_events w;
  ends = turns_meet w;
  parts = parts_meet w;
  beside = flusher_passes_scans w;
  first = flusher_comes_first w;
  seals = flusher_passes_seals w;
}
