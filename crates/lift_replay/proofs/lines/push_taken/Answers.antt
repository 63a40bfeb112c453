use Rattle.std.proofs.Common.{◌≡◌, ap, ◌∙◌, inl, refl, Err}
use Rattle.std.specs.Prelude.{codes}
use Rattle.lift_disk.specs.Faults.{fuse_state_of}
use Rattle.lift_journal.specs.declared.fault.JournalFault.TheVariants.{Disk}
use Rattle.lift_keeper.specs.declared.fault.KeeperFault.TheVariants.{Journal}
use Rattle.lift_keeper.specs.lemmas.Committed.{safe_register}
use Rattle.lift_replay.specs.Told.{HasCommitted}
use Rattle.lift_replay.specs.Report.{fault_text, turn_text}
use Rattle.lift_replay.proofs.Told.{fault_tells, is_whole}
use Rattle.lift_replay.proofs.lines.push_taken.Goals as goal

pub returns-in_ok-push_turn-in-Ok-clause-tells : goal.returns-in_ok-push_turn-in-Ok-clause-tells
returns-in_ok-push_turn-in-Ok-clause-tells c =
    let before = c.args.clerk.now in
    let after = c.turn.new.self in
    let old = before.keeper.writer in
    let counts = c.in-Ok.counts in
    let e = c.in-Ok.ensures.commits in
    let made = c.in-Ok.ensures.calls in
    let committed : HasCommitted before after counts.accepted = record {
      was_whole = is_whole _ (λ broken. let err = c.turn.ensures.commits.is.broken.1 broken in let ok = c.in-Ok.is in cc);
      whole = e.is.stays.0;
      register = safe_register fuse_state_of old counts.accepted after.keeper.state.register after.keeper.writer _ e;
      calls = made.made.calls;
      used = made.used;
      second = made.second;
      none_fails = made.none_fails (λ is. cc);
    } in
    (turn_text counts.taken counts.accepted, inl (counts, c.in-Ok.ensures.turns, committed, refl, refl), c.in_ok-push_turn-in-Ok.ensures)

pub returns-in_ok-push_fault-in-Err-clause-tells : goal.returns-in_ok-push_fault-in-Err-clause-tells
returns-in_ok-push_fault-in-Err-clause-tells c =
    let before = c.args.clerk.now in
    let after = c.turn.new.self in
    let old = before.keeper.writer in
    let e = c.in-Err.ensures.commits in
    let t = c.turn.ensures.commits in
    let tells = fault_tells before after c.in-Err.fault c.number.result c.number.ensures e.is.causes
    (λ disk. c.turn.ensures.fails (c.in-Err.is ∙ ap Err disk))
    (λ disk.
    let failed : c.turn.result ≡ Err (Journal Disk) = c.in-Err.is ∙ ap Err disk in
    record {
      was_whole = is_whole _ (λ broken. let err = t.is.broken.1 broken in cc);
      broken = e.is.breaks;
      register = e.is.unmoved;
      calls = c.in-Err.ensures.calls.made.most_calls;
      fails = c.turn.ensures.calls.fails failed tt tt;
      last_fails = c.turn.ensures.calls.last_fails failed;
    })
    (λ broken. t.is.broken.0 (c.in-Err.is ∙ ap Err broken)) c.turn.ensures.rests in
    (fault_text (codes "turn") c.number.result, tells, c.in_ok-push_fault-in-Err.ensures)
