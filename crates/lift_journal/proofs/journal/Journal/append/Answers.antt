use Rattle.std.proofs.Common.{◌⊎◌, ◌≡◌, ◌++◌, ◌+◌, ◌-◌, nat_lt, [], ◌∷◌, List, length, sym, ◌∙◌, ap, subst, arith}
use Rattle.lift_disk.specs.Disk.{LeavesNow, LeavesOnly}
use Rattle.lift_journal.specs.declared.fault.JournalFault.TheVariants.{Full}
use Rattle.lift_journal.specs.Layout.{Batch, new_batch, body_size, size_of, Holds, HoldsIn}
use Rattle.lift_journal.specs.Failed.{IsFailedAppend}
use Rattle.lift_journal.specs.Journal.{JournalView, JournalHolds}
use Rattle.lift_journal.specs.lemmas.Looking.{open_ok, open_err}
use Rattle.lift_journal.proofs.Standing.{append_picks, gate_high, ready, same_batches, stands_then, stands_seen, seen_then, leaves_in, becomes_none}
use Rattle.lift_journal.proofs.Seeing.{bodies_few}
use Rattle.lift_journal.proofs.Performing.{calls_seen, device_ok, device_err, performs_body}
use Rattle.lift_journal.specs.Calls.{half_start, append_calls, batch_body}
use Rattle.lift_journal.specs.Storing.{next_gate}
use Rattle.lift_journal.proofs.Following.{begins_at}
use Rattle.lift_journal.proofs.journal.Journal.append.Goals as goal

pub invariant_of-self-2 : goal.invariant_of-self-2
invariant_of-self-2 g c =
    let j = c.self.inside in
    let old = g.D.Disk.state j.device in
    let new = g.D.Disk.state c.write_records.new.disk in
    let items = c.args.batch.now.items in
    let batch : Batch = new_batch items in
    let is : c.body_count-bodies.result ≡ size_of batch = c.body_count-bodies.ensures ∙ ap body_size c.len.ensures.value in
    let few = bodies_few (length items) in
    let place = c.self.invariant.place in
    let quiet = open_ok c.write_records.result (new.failures ≡ old.failures) (sym c.is_err.ensures.value ∙ c.if-is_err.false) c.write_records.ensures.writes.performs.cause.ok in
    record {
      place = record {
        within = place.within;
        inside = omega (arith, place.inside, c.write_records.ensures.writes.performs.runs.size);
        halves = place.halves;
        low = omega (arith, place.low);
        below = omega (arith, place.low, c.if-used-bodies.false);
        some = omega (arith, place.some);
        counts = omega (arith, place.counts);
      };
      counted = omega (arith, c.self.invariant.counted, quiet);
      failed = λ broken. absurd (cc (broken, c.if-self.false));
      stands = λ whole honest_new.
          (let honest = c.write_records.ensures.writes.performs.runs.honest.0 honest_new in
          let stands = c.self.invariant.stands c.if-self.false honest in
          stands_then j.place.shape j.place.start j.place.gate j.place.number c.body_count-bodies.result old new batch stands is
          (open_ok c.write_records.result _ (sym c.is_err.ensures.value ∙ c.if-is_err.false) c.write_records.ensures.writes.written j.place.shape stands.batches batch honest
          (ready j.place.shape j.place.start j.place.gate j.place.number c.body_count-bodies.result old items stands is c.if-used-bodies.false c.write_records.ensures.spelled c.requires.entries)));
    }

pub returns-then-used-bodies-clause-becomes : goal.returns-then-used-bodies-clause-becomes
returns-then-used-bodies-clause-becomes g c _ honest_seen =
    let j = c.self.inside in
    let view = c.args.self.now in
    let honest : (g.D.Disk.state j.device).is_honest = subst (λ (v : JournalView g.row.D.Denot). (g.D.Disk.state v.device).is_honest) (sym c.self.view_is) honest_seen in
    let at = c.self.invariant.stands c.if-self.false honest in
    becomes_none g.D.Disk.state view view.is_in_second_half (λ bs. bs ++ new_batch c.args.batch.now.items ∷ []) Full at.batches
    (subst (λ (v : JournalView g.row.D.Denot). JournalHolds g.D.Disk.state v at.batches) c.self.view_is
    (stands_seen g.D.Disk.state j.device j.place.shape j.place.start j.place.gate j.place.number j.is_broken (g.D.Disk.state j.at_opening.value).failures at))
    (g.met.D.Disk.only_now view.device)

pub returns-then-is_err-clause-becomes : goal.returns-then-is_err-clause-becomes
returns-then-is_err-clause-becomes g c _ honest_seen =
    let j = c.self.inside in
    let old = g.D.Disk.state j.device in
    let new = g.D.Disk.state c.write_records.new.disk in
    let items = c.args.batch.now.items in
    let batch : Batch = new_batch items in
    let is : c.body_count-bodies.result ≡ size_of batch = c.body_count-bodies.ensures ∙ ap body_size c.len.ensures.value in
    let high = j.place.gate + length (batch_body j.place.number batch) + 2 in
    let honest : old.is_honest = subst (λ (v : JournalView g.row.D.Denot). (g.D.Disk.state v.device).is_honest) (sym c.self.view_is) honest_seen in
    let at = c.self.invariant.stands c.if-self.false honest in
    let before = ready j.place.shape j.place.start j.place.gate j.place.number c.body_count-bodies.result old items at is c.if-used-bodies.false c.write_records.ensures.spelled c.requires.entries in
    let holds = c.write_records.ensures.writes.any_moment j.place.shape at.batches batch (λ _. before) in
    let picks = append_picks j.place.shape j.place.start j.place.gate j.place.number high old new (gate_high old.size j.place.shape j.place.start j.place.gate j.place.number c.self.invariant.place) (c.self.invariant.stands c.if-self.false) c.write_records.ensures.writes.touched in
    record {
      batches = at.batches;
      held = subst (λ (v : JournalView g.row.D.Denot). JournalHolds g.D.Disk.state v at.batches) c.self.view_is (stands_seen g.D.Disk.state j.device j.place.shape j.place.start j.place.gate j.place.number j.is_broken (g.D.Disk.state j.at_opening.value).failures at);
      any_moment = subst (λ (v : JournalView g.row.D.Denot). LeavesOnly (g.D.Disk.state v.device) new (λ left. HoldsIn v.shape v.is_in_second_half at.batches left ⊎ HoldsIn v.shape v.is_in_second_half (at.batches ++ batch ∷ []) left)) c.self.view_is
          (leaves_in old new j.place.shape (nat_lt 2 j.place.start) at.batches (at.batches ++ batch ∷ []) holds picks);
      done = tt;
    }

pub returns-clause-becomes : goal.returns-clause-becomes
returns-clause-becomes g c _ honest_seen =
    let j = c.self.inside in
    let old = g.D.Disk.state j.device in
    let new = g.D.Disk.state c.write_records.new.disk in
    let items = c.args.batch.now.items in
    let batch : Batch = new_batch items in
    let is : c.body_count-bodies.result ≡ size_of batch = c.body_count-bodies.ensures ∙ ap body_size c.len.ensures.value in
    let high = j.place.gate + length (batch_body j.place.number batch) + 2 in
    let honest : old.is_honest = subst (λ (v : JournalView g.row.D.Denot). (g.D.Disk.state v.device).is_honest) (sym c.self.view_is) honest_seen in
    let at = c.self.invariant.stands c.if-self.false honest in
    let before = ready j.place.shape j.place.start j.place.gate j.place.number c.body_count-bodies.result old items at is c.if-used-bodies.false c.write_records.ensures.spelled c.requires.entries in
    let holds = c.write_records.ensures.writes.any_moment j.place.shape at.batches batch (λ _. before) in
    let picks = append_picks j.place.shape j.place.start j.place.gate j.place.number high old new (gate_high old.size j.place.shape j.place.start j.place.gate j.place.number c.self.invariant.place) (c.self.invariant.stands c.if-self.false) c.write_records.ensures.writes.touched in
    record {
      batches = at.batches;
      held = subst (λ (v : JournalView g.row.D.Denot). JournalHolds g.D.Disk.state v at.batches) c.self.view_is (stands_seen g.D.Disk.state j.device j.place.shape j.place.start j.place.gate j.place.number j.is_broken (g.D.Disk.state j.at_opening.value).failures at);
      any_moment = subst (λ (v : JournalView g.row.D.Denot). LeavesOnly (g.D.Disk.state v.device) new (λ left. HoldsIn v.shape v.is_in_second_half at.batches left ⊎ HoldsIn v.shape v.is_in_second_half (at.batches ++ batch ∷ []) left)) c.self.view_is
          (leaves_in old new j.place.shape (nat_lt 2 j.place.start) at.batches (at.batches ++ batch ∷ []) holds picks);
      done =
          (let settled = open_ok c.write_records.result _ (sym c.is_err.ensures.value ∙ c.if-is_err.false) c.write_records.ensures.writes.written j.place.shape at.batches batch honest before in
          seen_then g.D.Disk.state c.write_records.new.disk j.place.shape j.place.start j.place.gate j.place.number c.body_count-bodies.result _ _ old batch at is settled);
    }

pub returns-clause-calls : goal.returns-clause-calls
returns-clause-calls g c =
    let j = c.self.inside in
    let old = g.D.Disk.state j.device in
    let new = g.D.Disk.state c.write_records.new.disk in
    let batch = new_batch c.args.batch.now.items in
    let place = c.self.invariant.place in
    let gate : half_start (nat_lt 2 j.place.start) j.place.shape.half + (j.place.gate - j.place.start) ≡ j.place.gate = omega (arith, begins_at j.place.shape.half j.place.start (omega (arith, place.within.half.0)) place.halves, place.low) in
    let performed = performs_body c.write_records.result old new j.place.gate _ j.place.number batch (sym gate) c.write_records.ensures.writes.performs in
    calls_seen g.D.Disk.state (λ (v : JournalView g.row.D.Denot). append_calls (next_gate v) (batch_body v.number batch)) c.self.view_is
    (device_ok _ _ _ old new c.write_records.result (sym c.is_err.ensures.value ∙ c.if-is_err.false) performed)

pub returns-then-is_err-clause-calls : goal.returns-then-is_err-clause-calls
returns-then-is_err-clause-calls g c =
    let j = c.self.inside in
    let old = g.D.Disk.state j.device in
    let new = g.D.Disk.state c.write_records.new.disk in
    let batch = new_batch c.args.batch.now.items in
    let place = c.self.invariant.place in
    let gate : half_start (nat_lt 2 j.place.start) j.place.shape.half + (j.place.gate - j.place.start) ≡ j.place.gate = omega (arith, begins_at j.place.shape.half j.place.start (omega (arith, place.within.half.0)) place.halves, place.low) in
    let performed = performs_body c.write_records.result old new j.place.gate _ j.place.number batch (sym gate) c.write_records.ensures.writes.performs in
    calls_seen g.D.Disk.state (λ (v : JournalView g.row.D.Denot). append_calls (next_gate v) (batch_body v.number batch)) c.self.view_is
    (device_err _ _ _ old new c.write_records.result (sym c.is_err.ensures.value ∙ c.if-is_err.true) performed)

pub returns-then-is_err-clause-fails : goal.returns-then-is_err-clause-fails
returns-then-is_err-clause-fails g c _ =
    let j = c.self.inside in
    let old = g.D.Disk.state j.device in
    let new = g.D.Disk.state c.write_records.new.disk in
    let items = c.args.batch.now.items in
    let batch : Batch = new_batch items in
    let is : c.body_count-bodies.result ≡ size_of batch = c.body_count-bodies.ensures ∙ ap body_size c.len.ensures.value in
    let stands = c.self.invariant.stands c.if-self.false in
    let stopped = λ (honest : old.is_honest) (inert : old.is_inert) (batches : List Batch) (lists : LeavesNow old (Holds j.place.shape batches)).
    (let at = stands honest in
    let before = ready j.place.shape j.place.start j.place.gate j.place.number c.body_count-bodies.result old items at is c.if-used-bodies.false c.write_records.ensures.spelled c.requires.entries in
    let stops = open_err c.write_records.result _ (sym c.is_err.ensures.value ∙ c.if-is_err.true) c.write_records.ensures.writes.fails j.place.shape at.batches batch honest inert before in
    subst (λ (bs : List Batch). IsFailedAppend j.place.shape bs batch (size_of batch) old new) (same_batches j.place.shape j.place.start j.place.gate j.place.number old stands batches lists honest)
    (subst (λ n. IsFailedAppend j.place.shape at.batches batch n old new) before.size stops)) in
    subst (λ (v : JournalView g.row.D.Denot). (g.D.Disk.state v.device).is_honest → (g.D.Disk.state v.device).is_inert → (batches : List Batch) → LeavesNow (g.D.Disk.state v.device) (Holds v.shape batches)
    → IsFailedAppend v.shape batches batch (size_of batch) (g.D.Disk.state v.device) new) c.self.view_is stopped
