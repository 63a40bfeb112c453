use Rattle.lift_keeper.specs.lemmas.Committed.{safe_register}
use Rattle.lift_parts.specs.lemmas.Received.{entries_between, commits_to}
use Rattle.lift_parts.specs.lemmas.TiedTurns.{flushes_of}
use Rattle.lift_relay.proofs.tie.turn_flusher_once.Goals as goal

pub returns-clause-flushes : goal.returns-clause-flushes
returns-clause-flushes g c =
    let f = c.args.flusher.now in
    let after = c.turn.new.self in
    let e = c.turn.ensures.turn in
    flushes_of f after e.commits.same.0 c.turn.result e.turns e.commits.broken (safe_register g.D.Disk.state f.writer (entries_between f.end after.end) after.end.state.register after.writer c.turn.result (commits_to g.D.Disk.state f after c.turn.result e)) e.commits.stays
