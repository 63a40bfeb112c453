use Rattle.lift_world.proofs.Outcomes.{outcomes_stay, gates_offer_batches, syncs_keep_batches, reopenings_keep_one}
use Rattle.lift_world.proofs.theorem.outcomes_move.Goals as goal

pub returns : goal.returns
returns c w = record {
  kept = outcomes_stay w;
  gate = gates_offer_batches w;
  second_sync = syncs_keep_batches w;
  reopening = reopenings_keep_one w;
}
