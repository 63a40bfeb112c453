use Rattle.std.proofs.Common.{◌≡◌, ◌+◌, List, Some, length, refl, ◌∙◌, ap, subst, arith}
use Rattle.lift_journal.specs.Layout.{Batch, Holds, used, body_size, size_of}
use Rattle.lift_journal.specs.Journal.{JournalView, CursorView, IsCursorIn, IsNext}
use Rattle.lift_journal.specs.Seen.{batch_of}
use Rattle.lift_journal.specs.declared.reads.AtGate.TheVariants.{Batch as BatchAt, Damaged, Closed}
use Rattle.lift_journal.proofs.Cursors.{none_next, some_next, next_is, not_closed, not_missing}
use Rattle.lift_journal.specs.lemmas.Unique.{holds_unique}
use Rattle.lift_journal.proofs.Walks.{seen_at}
use Rattle.lift_journal.proofs.journal.Journal.next.Goals as goal

pub returns-then-cursor-self-clause-gives : goal.returns-then-cursor-self-clause-gives
returns-then-cursor-self-clause-gives g c honest batches holds within =
    let j = c.self.inside in
    let image = (g.D.Disk.state j.device).image in
    let cursor : CursorView = record { skipped = c.cursor.inside.skipped; given = c.cursor.inside.given } in
    let made : (g.D.Disk.state j.device).is_honest → (batches : List Batch) → Holds j.place.shape batches image → IsCursorIn batches cursor → (cursor.given ≡ length batches) × (cursor ≡ cursor) =
    λ honest batches holds within.
    (let stands = c.self.invariant.stands c.if-self.false honest in
    let same = ap used (holds_unique j.place.shape stands.batches batches image stands.holds holds) in
    (none_next batches cursor within (omega (arith, c.if-cursor-self.true, stands.at, stands.starts, same)), refl)) in
    let gives = subst (λ (v : JournalView g.row.D.Denot). (g.D.Disk.state v.device).is_honest → (batches : List Batch) → Holds v.shape batches (g.D.Disk.state v.device).image
    → IsCursorIn batches c.args.cursor.now → (c.args.cursor.now.given ≡ length batches) × (c.args.cursor.now ≡ c.args.cursor.now)) c.self.view_is
    (subst (λ (w : CursorView). (g.D.Disk.state j.device).is_honest → (batches : List Batch) → Holds j.place.shape batches image → IsCursorIn batches w → (w.given ≡ length batches) × (w ≡ w))
    c.cursor.view_is made) in
    record { next = gives honest batches holds within; undamaged = λ s never. absurd (cc never) }

pub returns-in-Ok-Batch-clause-gives : goal.returns-in-Ok-Batch-clause-gives
returns-in-Ok-Batch-clause-gives g c honest batches holds within =
    let j = c.self.inside in
    let image = (g.D.Disk.state j.device).image in
    let cursor : CursorView = record { skipped = c.cursor.inside.skipped; given = c.cursor.inside.given } in
    let stored = c.look.new.stored in
    let behind : CursorView = record { skipped = c.cursor.inside.skipped + (1 + c.body_count.result); given = c.cursor.inside.given + 1 } in
    let made : (g.D.Disk.state j.device).is_honest → (batches : List Batch) → Holds j.place.shape batches image → IsCursorIn batches cursor → IsNext batches cursor behind (Some stored.records.items) =
    λ honest batches holds within.
    (let stands = c.self.invariant.stands c.if-self.false honest in
    let same = ap used (holds_unique j.place.shape stands.batches batches image stands.holds holds) in
    let lt = some_next batches cursor within (omega (arith, c.if-cursor-self.false, stands.at, stands.starts, same)) in
    let shows = seen_at image image (j.place.start + cursor.skipped) (j.place.start + j.place.shape.half) (cursor.given + 1) c.in-Ok-Batch.field-0 BatchAt c.look.new.stored refl c.in-Ok-Batch.field-0-is
    (c.in-Ok-Batch.ensures.seen honest stands.synced) in
    let size : c.body_count.result ≡ size_of (batch_of stored) = c.body_count.ensures ∙ ap body_size c.len.ensures.value in
    next_is j.place.shape batches image j.place.start cursor behind (batch_of stored) holds stands.starts within lt shows.1 (omega (arith, size)) refl) in
    let gives = subst (λ (v : JournalView g.row.D.Denot). (g.D.Disk.state v.device).is_honest → (batches : List Batch) → Holds v.shape batches (g.D.Disk.state v.device).image
    → IsCursorIn batches c.args.cursor.now → IsNext batches c.args.cursor.now behind (Some stored.records.items)) c.self.view_is
    (subst (λ (w : CursorView). (g.D.Disk.state j.device).is_honest → (batches : List Batch) → Holds j.place.shape batches image → IsCursorIn batches w → IsNext batches w behind (Some stored.records.items))
    c.cursor.view_is made) in
    record { next = gives honest batches holds within; undamaged = λ s never. absurd (cc never) }

pub returns-in-Ok-Damaged-clause-gives : goal.returns-in-Ok-Damaged-clause-gives
returns-in-Ok-Damaged-clause-gives g c honest batches holds within =
    let j = c.self.inside in
    let image = (g.D.Disk.state j.device).image in
    let cursor : CursorView = record { skipped = c.cursor.inside.skipped; given = c.cursor.inside.given } in
    let made : (g.D.Disk.state j.device).is_honest → (batches : List Batch) → Holds j.place.shape batches image → IsCursorIn batches cursor → ⊥ =
    λ honest batches holds within.
    (let stands = c.self.invariant.stands c.if-self.false honest in
    let same = ap used (holds_unique j.place.shape stands.batches batches image stands.holds holds) in
    let lt = some_next batches cursor within (omega (arith, c.if-cursor-self.false, stands.at, stands.starts, same)) in
    let shows = seen_at image image (j.place.start + cursor.skipped) (j.place.start + j.place.shape.half) (cursor.given + 1) c.in-Ok-Damaged.field-0 Damaged c.look.new.stored refl c.in-Ok-Damaged.field-0-is
    (c.in-Ok-Damaged.ensures.seen honest stands.synced) in
    not_missing j.place.shape batches image j.place.start cursor holds stands.starts within lt shows.1) in
    let never = subst (λ (v : JournalView g.row.D.Denot). (g.D.Disk.state v.device).is_honest → (batches : List Batch) → Holds v.shape batches (g.D.Disk.state v.device).image
    → IsCursorIn batches c.args.cursor.now → ⊥) c.self.view_is
    (subst (λ (w : CursorView). (g.D.Disk.state j.device).is_honest → (batches : List Batch) → Holds j.place.shape batches image → IsCursorIn batches w → ⊥) c.cursor.view_is made) in
    record { next = tt; undamaged = λ s _. never honest batches holds within }

pub returns-in-Ok-Closed-clause-gives : goal.returns-in-Ok-Closed-clause-gives
returns-in-Ok-Closed-clause-gives g c honest batches holds within =
    let j = c.self.inside in
    let image = (g.D.Disk.state j.device).image in
    let cursor : CursorView = record { skipped = c.cursor.inside.skipped; given = c.cursor.inside.given } in
    let made : (g.D.Disk.state j.device).is_honest → (batches : List Batch) → Holds j.place.shape batches image → IsCursorIn batches cursor → ⊥ =
    λ honest batches holds within.
    (let stands = c.self.invariant.stands c.if-self.false honest in
    let same = ap used (holds_unique j.place.shape stands.batches batches image stands.holds holds) in
    let lt = some_next batches cursor within (omega (arith, c.if-cursor-self.false, stands.at, stands.starts, same)) in
    let shows = seen_at image image (j.place.start + cursor.skipped) (j.place.start + j.place.shape.half) (cursor.given + 1) c.in-Ok-Closed.field-0 Closed c.look.new.stored refl c.in-Ok-Closed.field-0-is
    (c.in-Ok-Closed.ensures.seen honest stands.synced) in
    not_closed j.place.shape batches image j.place.start cursor holds stands.starts within lt shows) in
    let never = subst (λ (v : JournalView g.row.D.Denot). (g.D.Disk.state v.device).is_honest → (batches : List Batch) → Holds v.shape batches (g.D.Disk.state v.device).image
    → IsCursorIn batches c.args.cursor.now → ⊥) c.self.view_is
    (subst (λ (w : CursorView). (g.D.Disk.state j.device).is_honest → (batches : List Batch) → Holds j.place.shape batches image → IsCursorIn batches w → ⊥) c.cursor.view_is made) in
    record { next = tt; undamaged = λ s _. never honest batches holds within }
