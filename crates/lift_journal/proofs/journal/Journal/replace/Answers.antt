use Rattle.std.proofs.Common.{◌⊎◌, ◌≡◌, ◌+◌, not, nat_lt, List, length, sym, ◌∙◌, ap, subst, arith}
use Rattle.lift_disk.specs.Disk.{LeavesNow, LeavesOnly}
use Rattle.lift_register.specs.Base.{base_records}
use Rattle.lift_journal.specs.Layout.{Batch, Holds, HoldsIn}
use Rattle.lift_journal.specs.Checkpoint.{batch_count, checkpoint_of, sectors_for}
use Rattle.lift_journal.specs.Journal.{JournalView, JournalHolds, StandsAt}
use Rattle.lift_journal.specs.Failed.{IsFailedCheckpoint}
use Rattle.lift_journal.proofs.Replacing.{replace_in, replace_fails, replace_seen, other_inside, other_place, replace_stands}
use Rattle.lift_journal.proofs.Standing.{same_batches, stands_seen}
use Rattle.lift_journal.proofs.journal.Journal.replace.Goals as goal

pub invariant_of-self : goal.invariant_of-self
invariant_of-self g c =
    let j = c.self.inside in
    let old = g.D.Disk.state j.device in
    let new = g.D.Disk.state c.write_checkpoint.new.disk in
    let register = c.args.register.now in
    let records = base_records register in
    let other = c.other_half-start.result.0 in
    let pick = c.other_half-start.result.1 in
    let place = c.self.invariant.place in
    let half = place.within.half.0 in
    let inside = other_inside old.size j.place.shape j.place.start j.place.gate j.place.number other pick place c.other_half-start.ensures in
    let batches : c.batches_for-batches.result ≡ batch_count (length records) = c.batches_for-batches.ensures.value ∙ ap batch_count c.base_len.ensures.value in
    let some = c.base_len.ensures.limit.0 in
    let long = c.base_len.ensures.value in
    record {
      place = other_place old.size new.size j.place.shape j.place.start j.place.gate j.place.number other c.in-Ok.gate c.batches_for-batches.result pick (length records) place c.other_half-start.ensures
          c.write_checkpoint.ensures.performs.runs.size c.in-Ok.ensures.gate.0 c.in-Ok.ensures.gate.1 batches (omega (arith, some, long));
      counted = omega (arith, c.self.invariant.counted, c.in-Ok.ensures.performs.cause.ok);
      failed = λ broken. absurd (cc (broken, c.if-self.false));
      stands = λ whole honest_new.
          (let honest = c.write_checkpoint.ensures.performs.runs.honest.0 honest_new in
          let stands = c.self.invariant.stands c.if-self.false honest in
          subst (λ n. StandsAt j.place.shape other c.in-Ok.gate (n + 1) new) (let same : batch_count (length records) ≡ c.batches_for-batches.result = omega (arith, batches) in same)
          (replace_stands j.place.shape j.place.start j.place.gate j.place.number other pick old register place c.other_half-start.ensures c.base_len.ensures.lawful new c.in-Ok.gate (c.in-Ok.ensures.synced honest stands.synced) stands
          (c.in-Ok.ensures.written (other + j.place.shape.half) (omega (arith, half)) inside.1 honest stands.synced) (c.in-Ok.ensures.picked honest stands.synced) (omega (arith, some, long)) c.in-Ok.ensures.gate.0));
    }

pub returns-in-Err-clause-becomes : goal.returns-in-Err-clause-becomes
returns-in-Err-clause-becomes g c _ honest_seen =
    let j = c.self.inside in
    let old = g.D.Disk.state j.device in
    let new = g.D.Disk.state c.write_checkpoint.new.disk in
    let register = c.args.register.now in
    let records = base_records register in
    let other = c.other_half-start.result.0 in
    let pick = c.other_half-start.result.1 in
    let place = c.self.invariant.place in
    let honest : old.is_honest = subst (λ (v : JournalView g.row.D.Denot). (g.D.Disk.state v.device).is_honest) (sym c.self.view_is) honest_seen in
    let at = c.self.invariant.stands c.if-self.false honest in
    record {
      batches = at.batches;
      held = subst (λ (v : JournalView g.row.D.Denot). JournalHolds g.D.Disk.state v at.batches) c.self.view_is (stands_seen g.D.Disk.state j.device j.place.shape j.place.start j.place.gate j.place.number j.is_broken (g.D.Disk.state j.at_opening.value).failures at);
      any_moment = subst (λ (v : JournalView g.row.D.Denot). LeavesOnly (g.D.Disk.state v.device) new (λ left. HoldsIn v.shape v.is_in_second_half at.batches left ⊎ HoldsIn v.shape (not v.is_in_second_half) (checkpoint_of records) left)) c.self.view_is
          (replace_in j.place.shape j.place.start j.place.gate j.place.number other pick old register place c.other_half-start.ensures c.base_len.ensures.lawful new at c.write_checkpoint.ensures.any_moment);
      done = tt;
    }

pub returns-in-Ok-clause-becomes : goal.returns-in-Ok-clause-becomes
returns-in-Ok-clause-becomes g c _ honest_seen =
    let j = c.self.inside in
    let old = g.D.Disk.state j.device in
    let new = g.D.Disk.state c.write_checkpoint.new.disk in
    let register = c.args.register.now in
    let records = base_records register in
    let other = c.other_half-start.result.0 in
    let pick = c.other_half-start.result.1 in
    let place = c.self.invariant.place in
    let honest : old.is_honest = subst (λ (v : JournalView g.row.D.Denot). (g.D.Disk.state v.device).is_honest) (sym c.self.view_is) honest_seen in
    let at = c.self.invariant.stands c.if-self.false honest in
    record {
      batches = at.batches;
      held = subst (λ (v : JournalView g.row.D.Denot). JournalHolds g.D.Disk.state v at.batches) c.self.view_is (stands_seen g.D.Disk.state j.device j.place.shape j.place.start j.place.gate j.place.number j.is_broken (g.D.Disk.state j.at_opening.value).failures at);
      any_moment = subst (λ (v : JournalView g.row.D.Denot). LeavesOnly (g.D.Disk.state v.device) new (λ left. HoldsIn v.shape v.is_in_second_half at.batches left ⊎ HoldsIn v.shape (not v.is_in_second_half) (checkpoint_of records) left)) c.self.view_is
          (replace_in j.place.shape j.place.start j.place.gate j.place.number other pick old register place c.other_half-start.ensures c.base_len.ensures.lawful new at c.write_checkpoint.ensures.any_moment);
      done =
          (let inside = other_inside old.size j.place.shape j.place.start j.place.gate j.place.number other pick place c.other_half-start.ensures in
          let batches : c.batches_for-batches.result ≡ batch_count (length records) = c.batches_for-batches.ensures.value ∙ ap batch_count c.base_len.ensures.value in
          replace_seen j.place.shape j.place.start j.place.gate j.place.number other pick old register place c.other_half-start.ensures c.base_len.ensures.lawful g.D.Disk.state c.write_checkpoint.new.disk
          c.batches_for-batches.result c.in-Ok.gate _ _ (c.in-Ok.ensures.synced honest at.synced) at (c.in-Ok.ensures.written (other + j.place.shape.half) (omega (arith, place.within.half.0)) inside.1 honest at.synced)
          (c.in-Ok.ensures.picked honest at.synced) (omega (arith, c.base_len.ensures.limit.0, c.base_len.ensures.value)) c.in-Ok.ensures.gate.0 batches);
    }

pub returns-in-Err-clause-fails : goal.returns-in-Err-clause-fails
returns-in-Err-clause-fails g c _ =
    let j = c.self.inside in
    let old = g.D.Disk.state j.device in
    let new = g.D.Disk.state c.write_checkpoint.new.disk in
    let register = c.args.register.now in
    let records = base_records register in
    let other = c.other_half-start.result.0 in
    let pick = c.other_half-start.result.1 in
    let place = c.self.invariant.place in
    let inside = other_inside old.size j.place.shape j.place.start j.place.gate j.place.number other pick place c.other_half-start.ensures in
    let stands = c.self.invariant.stands c.if-self.false in
    let stopped = λ (honest : old.is_honest) (inert : old.is_inert) (batches : List Batch) (lists : LeavesNow old (Holds j.place.shape batches)).
    (let at = stands honest in
    let stops = c.in-Err.ensures.fails (other + j.place.shape.half) (omega (arith, place.within.half.0)) inside.1 honest inert at.synced in
    subst (λ (bs : List Batch). IsFailedCheckpoint j.place.shape (nat_lt 2 j.place.start) bs (checkpoint_of records) (sectors_for (length records)) old new)
    (same_batches j.place.shape j.place.start j.place.gate j.place.number old stands batches lists honest)
    (replace_fails j.place.shape j.place.start j.place.gate j.place.number other pick old register place c.other_half-start.ensures c.base_len.ensures.lawful new at stops)) in
    subst (λ (v : JournalView g.row.D.Denot). (g.D.Disk.state v.device).is_honest → (g.D.Disk.state v.device).is_inert → (batches : List Batch) → LeavesNow (g.D.Disk.state v.device) (Holds v.shape batches)
    → IsFailedCheckpoint v.shape v.is_in_second_half batches (checkpoint_of records) (sectors_for (length records)) (g.D.Disk.state v.device) new) c.self.view_is stopped
