use Rattle.lift_parts.proofs.Tied.{splits_are_no_events, rejoinings, full_turns, empty_turns, sendings, tellings, terminals_keep_parts}
use Rattle.lift_parts.proofs.TiedScan.{have_room, nothing_taken}
use Rattle.lift_parts.proofs.TiedTake.{scans_are_allocations}
use Rattle.lift_parts.proofs.TiedFlush.{flushes_are_flushes, failed_flushes, broken_flushes_are_broken}
use Rattle.lift_parts.proofs.tie.relays_are_the_machines.Goals as goal

pub returns-clause-split : goal.returns-clause-split
returns-clause-split g c = splits_are_no_events

pub returns-clause-rejoined : goal.returns-clause-rejoined
returns-clause-rejoined g c = rejoinings

pub returns-clause-idle : goal.returns-clause-idle
returns-clause-idle g c policy = record { full = full_turns; empty = empty_turns; nothing = nothing_taken (g.P.Policy.chooses policy) }

pub returns-clause-sent : goal.returns-clause-sent
returns-clause-sent g c = sendings

pub returns-clause-told : goal.returns-clause-told
returns-clause-told g c = tellings

pub returns-clause-terminals : goal.returns-clause-terminals
returns-clause-terminals g c = terminals_keep_parts c.machine_laws.ensures.laws

pub returns-clause-queued : goal.returns-clause-queued
returns-clause-queued g c = λ a f q. have_room a f q

pub returns-clause-scans : goal.returns-clause-scans
returns-clause-scans g c policy = scans_are_allocations c.machine_laws.ensures.laws (g.P.Policy.chooses policy) (c.machine_laws.ensures.covered policy)

pub returns-clause-flushes : goal.returns-clause-flushes
returns-clause-flushes g c = flushes_are_flushes c.machine_laws.ensures.laws

pub returns-clause-failures : goal.returns-clause-failures
returns-clause-failures g c = failed_flushes c.machine_laws.ensures.laws

pub returns-clause-broken : goal.returns-clause-broken
returns-clause-broken g c = broken_flushes_are_broken c.machine_laws.ensures.laws
