-- What is sealed is a prefix of what is accepted.
use Rattle.std.proofs.Common.{◌+◌, Bool, true, false, not, ◌&&◌, cond, eqb, ltb, List, [], ◌∷◌, ◌++◌, map, take, arith}
use Rattle.std.specs.Prelude.{unwrap_or, option_and_then, option_map, find, reverse}
use Rattle.std.proofs.lemmas.List.{length-append, length-take-le}
use Rattle.lift_building.specs.Plan.{Plan}
use Rattle.lift_register.specs.Register.{RegisterState}
use Rattle.lift_policy.specs.declared.command.Command.{Command}
use Rattle.lift_world.specs.declared.event.Event.{Event}
use Rattle.lift_world.specs.declared.event.Event.TheVariants.{Ask, Take, Seal, Pull, Fold, Body as BodyWrite, FirstSync, Gate, SecondSync, Answer as Answering, Hear, Fault, Cut, Reopen}
use Rattle.lift_world.specs.declared.event.Phase.TheVariants.{Writing, Synced, GateWritten}
use Rattle.lift_policy.specs.Decision.{Decision}
use Rattle.lift_world.specs.Decided.{when, decided}
use Rattle.lift_world.specs.World.{World, SealedBatch, start, is_taken_of, asks, written, is_running, is_broken, is_off, is_synced, is_gate_written, state_of, may_keep}
use Rattle.lift_world.specs.Next.{run, next, next_answer, hearing, answering, asking, taking, deciding, sealing, pulled, in_phase, settling, failing, cutting, reopened, unknown_to, may_ask, may_take, may_seal, may_pull, may_write, may_sync, may_fail, may_reopen}
use Rattle.lift_world.specs.Headline.{SealsAccepted}
use Rattle.lift_world.specs.lemmas.Moves.{hold_when, hold_if, hold_then, hold_map}

deciding_seals : (w : World) (command : Command) (d : Decision) → SealsAccepted w → SealsAccepted (deciding w command d)
deciding_seals w command d k =
    let front = length-take-le w.sealed w.accepted k in
    let whole = length-append (take w.sealed w.accepted) d.next.batch in
    omega arith

pulling_seals : (w : World) (batch : SealedBatch) (rest : List SealedBatch) (broken more : Bool) → SealsAccepted w
    → SealsAccepted (cond broken (record w { queue = rest; due = w.due ++ map unknown_to batch.commands })
    (cond more (record w { queue = rest; flight = batch; phase = Writing 0 }) (record w { queue = rest; due = w.due ++ batch.commands })))
pulling_seals w batch rest true more k = k
pulling_seals w batch rest false true k = k
pulling_seals w batch rest false false k = k

pulled_seals : (w : World) (queue : List SealedBatch) → SealsAccepted w → SealsAccepted (unwrap_or (pulled w queue) w)
pulled_seals w [] k = k
pulled_seals w (batch ∷ rest) k = pulling_seals w batch rest (is_broken w.power) (ltb w.safe batch.upto) k

seals : (w : World) (event : Event) → SealsAccepted w → SealsAccepted (unwrap_or (next w event) w)
seals w (Ask terminal number body) k = hold_when SealsAccepted w (asking w (record { terminal = terminal; number = number; body = body })) (may_ask w terminal) k (λ _. k)
seals w (Take terminal letter) k = hold_if SealsAccepted w (option_and_then (taking w letter) (find (asks terminal) (reverse w.asked))) (may_take w terminal) k
    (λ _. hold_then SealsAccepted w (taking w letter) (find (asks terminal) (reverse w.asked)) k (λ command _.
    hold_map SealsAccepted w (deciding w command) (decided w.building (state_of w) command.terminal command.number command.body letter) k (λ d _. deciding_seals w command d k)))
seals w Seal k = hold_when SealsAccepted w (sealing w) (may_seal w) k (λ _. omega arith)
seals w Pull k = hold_if SealsAccepted w (pulled w w.queue) (may_pull w) k (λ _. pulled_seals w w.queue k)
seals w Fold k = hold_then SealsAccepted w (λ n. when (is_running w.power && eqb n 0) w) (written w.phase) k (λ n _. hold_when SealsAccepted w w (is_running w.power && eqb n 0) k (λ _. k))
seals w BodyWrite k = hold_then SealsAccepted w (λ n. when (may_write w n) (in_phase w (Writing (n + 1)))) (written w.phase) k (λ n _. hold_when SealsAccepted w (in_phase w (Writing (n + 1))) (may_write w n) k (λ _. k))
seals w FirstSync k = hold_then SealsAccepted w (λ n. when (may_sync w n) (in_phase w Synced)) (written w.phase) k (λ n _. hold_when SealsAccepted w (in_phase w Synced) (may_sync w n) k (λ _. k))
seals w Gate k = hold_when SealsAccepted w (in_phase w GateWritten) (is_running w.power && is_synced w.phase) k (λ _. k)
seals w SecondSync k = hold_when SealsAccepted w (settling w) (is_running w.power && is_gate_written w.phase) k (λ _. k)
seals w (Answering terminal) k = hold_if SealsAccepted w (option_map (answering w terminal) (find (is_taken_of terminal) w.due)) (not (is_off w.power)) k
    (λ _. hold_map SealsAccepted w (answering w terminal) (find (is_taken_of terminal) w.due) k (λ c _. k))
seals w (Hear terminal) k = hold_if SealsAccepted w (option_map (hearing w) (next_answer w terminal)) (not (is_off w.power)) k
    (λ _. hold_map SealsAccepted w (hearing w) (next_answer w terminal) k (λ a _. k))
seals w Fault k = hold_when SealsAccepted w (failing w) (may_fail w) k (λ _. k)
seals w (Cut kept) k = hold_when SealsAccepted w (cutting w kept) (may_keep w kept) k (λ _. k)
seals w (Reopen kept) k = hold_when SealsAccepted w (reopened w kept) (may_reopen w w.power kept) k (λ _. omega arith)

pub run_seals : (events : List Event) (w : World) → SealsAccepted w → SealsAccepted (run events w)
run_seals [] w k = k
run_seals (event ∷ events) w k = run_seals events (unwrap_or (next w event) w) (seals w event k)

pub start_seals : (building : Plan) (base : RegisterState) → SealsAccepted (start building base)
start_seals building base = omega arith
