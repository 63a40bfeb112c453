-- An image that holds batches is refused for a failed call alone.
use Rattle.std.proofs.Common.{◌≡◌, ◌⊎◌, ◌<◌, ◌≤◌, ◌+◌, ◌-◌, ⊎_elim, ℕ, suc, List, [], ◌∷◌, ◌++◌, length, take, drop, refl, sym, ◌∙◌, ap, subst, arith, add-zero, append_assoc, length-drop, length-take}
use Rattle.std.proofs.lemmas.List.{take-take, drop-drop, append-nil}
use Rattle.lift_base.specs.declared.history.Shape.{Shape}
use Rattle.lift_disk.specs.Disk.{DiskState, Image}
use Rattle.lift_record.specs.declared.version.Version.TheVariants.{One}
use Rattle.std.proofs.Common.{None}
use Rattle.lift_journal.specs.declared.fault.JournalFault.{JournalFault}
use Rattle.lift_journal.specs.declared.fault.JournalFault.TheVariants.{Disk, NotFormatted, Damaged, Full, Broken}
use Rattle.lift_journal.specs.Layout.{Batch, records_of, size_of, IsBody, IsChain, IsSound, used, sector_at, start_of, Holds}
use Rattle.lift_base.specs.declared.history.Record.{Record}
use Rattle.lift_journal.specs.Order.{IsInOrderAfter, MayEnd, last_record_after}
use Rattle.lift_journal.specs.Opening.{RefusedFor, FixesImage}
use Rattle.lift_journal.specs.Answers.{RefusesAt}
use Rattle.lift_journal.specs.RefusedOpening.{RefusedAfter}
use Rattle.lift_journal.specs.Steps.{ReadsOnly, HasItsCause}
use Rattle.lift_journal.specs.lemmas.Looking.{cause_armed}
use Rattle.lift_journal.specs.Walk.{AreFirstBatches, MayBeginChain, IsDamagedAt}
use Rattle.lift_journal.specs.lemmas.Chains.{chain_room, start_high}
use Rattle.lift_journal.specs.lemmas.Orders.{fall_front, order_front}
use Rattle.lift_journal.specs.lemmas.Unique.{body_unique, stamp_unique}
use Rattle.lift_journal.proofs.Walks.{from_here}

-- what a chain holds after its front
record Behind (batches others : List Batch) (number : ℕ) (sectors : Image) : Type 0 where
  pub rest : List Batch
  pub joined : others ≡ batches ++ rest
  pub chain : IsChain rest (number + length batches) (drop (used batches) sectors)

rest_of : (batches others : List Batch) (number : ℕ) (sectors : Image) → AreFirstBatches batches number sectors → IsChain others number sectors → Behind batches others number sectors
rest_of [] others number sectors front chain = record { rest = others; joined = refl; chain = subst (λ k. IsChain others k sectors) (sym (add-zero number)) chain }
rest_of (batch ∷ batches) others number [] front chain = absurd front
rest_of (batch ∷ batches) [] number (gate ∷ sectors) front chain = absurd (cc (front.0, chain))
rest_of (batch ∷ batches) (other ∷ others) number (gate ∷ sectors) front chain =
    let n = size_of batch in
    let same : batch ≡ other = body_unique number batch other sectors front.1 chain.1 in
    let next = rest_of batches others (number + 1) (drop n sectors) front.2 (subst (λ (b : Batch). IsChain others (number + 1) (drop (size_of b) sectors)) (sym same) chain.2) in
    let count : (number + 1) + length batches ≡ number + suc (length batches) = omega arith in
    record {
      rest = next.rest;
      joined = ap (λ (b : Batch). b ∷ others) (sym same) ∙ ap (λ (l : List Batch). batch ∷ l) next.joined;
      chain = subst (λ k. IsChain next.rest k (drop (n + used batches) sectors)) count
          (subst (λ (l : Image). IsChain next.rest ((number + 1) + length batches) l) (drop-drop (used batches) n sectors) next.chain);
    }

records_append : (batches more : List Batch) → records_of (batches ++ more) ≡ records_of batches ++ records_of more
records_append [] more = refl
records_append (batch ∷ batches) more =
    ap (λ (l : List Record). batch.records ++ l) (records_append batches more) ∙ sym (append_assoc batch.records (records_of batches) (records_of more))

-- a front of sound batches is sound
front_of : (batches more : List Batch) → IsSound (batches ++ more) → MayBeginChain batches
front_of batches more sound = record {
  versions = fall_front One batches more sound.versions;
  ordered = order_front None (records_of batches) (records_of more) (subst (IsInOrderAfter None) (records_append batches more) sound.ordered);
}

module _ (image : Image) (start end gate : ℕ) (batches : List Batch) (whole : end ≤ length image) (chain : IsChain batches 1 (take (end - start) (drop start image))) (sound : IsSound batches) (damaged : IsDamagedAt image start end gate) where
  found : Behind damaged.batches batches 1 (take (end - start) (drop start image))
  found = rest_of damaged.batches batches 1 (take (end - start) (drop start image)) damaged.reached.front chain

  refuted : (rest : List Batch) → batches ≡ damaged.batches ++ rest
      → IsChain rest (1 + length damaged.batches) (sector_at image gate ∷ take (end - start - used damaged.batches - 1) (drop (gate + 1) image)) → ⊥
  refuted [] joined closed =
      ⊎_elim (λ open_here. cc (closed, open_here.0))
      (λ ended. ended.1 (subst (λ (bs : List Batch). MayEnd (last_record_after None (records_of bs))) (joined ∙ append-nil damaged.batches) sound.complete)) damaged.broken
  refuted (batch ∷ rest) joined next =
      let n = size_of batch in
      let m = end - start - used damaged.batches - 1 in
      let room = chain_room rest (1 + length damaged.batches + 1) (drop n (take m (drop (gate + 1) image))) next.2 in
      let few : n < m = omega (arith, room, length-drop n (take m (drop (gate + 1) image)), length-take m (drop (gate + 1) image)) in
      let again : batches ≡ (damaged.batches ++ batch ∷ []) ++ rest = joined ∙ sym (append_assoc damaged.batches (batch ∷ []) rest) in
      ⊎_elim
      (λ open_here. open_here.1 batch
      (record {
        body = subst (IsBody (1 + length damaged.batches) batch) (take-take n m (drop (gate + 1) image) (omega (arith, few))) next.1;
        next = omega (arith, few, damaged.reached.at);
      })
      (front_of (damaged.batches ++ batch ∷ []) rest (subst IsSound again sound)))
      (λ ended. cc (ended.0, next.0)) damaged.broken

  -- where a sound chain stands no gate is damaged
  pub not_damaged : ⊥
  not_damaged =
      refuted found.rest found.joined
      (subst (IsChain found.rest (1 + length damaged.batches)) (from_here image start end gate damaged.batches damaged.reached damaged.below whole) found.chain)

half_from : (start half : ℕ) → start + half - start ≡ half
half_from start half = omega arith

pub good_refusal : (fault : JournalFault) (old new : DiskState) → RefusedFor fault old new → old.is_honest → (shape : Shape) (batches : List Batch) → Holds shape batches new.image → fault ≡ Disk
good_refusal Disk old new cause honest shape batches holds = refl
good_refusal NotFormatted old new cause honest shape batches holds = absurd ((cause.1 honest).2 shape holds.stamped)
good_refusal (Damaged sector) old new cause honest shape batches holds =
    let image = new.image in
    let was = cause.1 honest in
    let other = was.2 in
    let same : other ≡ shape = stamp_unique other shape image was.3 holds.stamped in
    let damaged : IsDamagedAt image (start_of shape.half image) (start_of shape.half image + shape.half) sector =
    subst (λ (s : Shape). IsDamagedAt image (start_of s.half image) (start_of s.half image + s.half) sector) same was.4 in
    let start = start_of shape.half image in
    absurd (not_damaged image start (start + shape.half) sector batches (omega (arith, holds.stamped.size, start_high shape.half image))
    (subst (λ k. IsChain batches 1 (take k (drop start image))) (sym (half_from start shape.half)) holds.chain) holds.sound damaged)
good_refusal Full old new cause honest shape batches holds = absurd cause
good_refusal Broken old new cause honest shape batches holds = absurd cause

-- an opening that was refused
pub refused_at : (fault : JournalFault) (old new : DiskState) → ReadsOnly old new → RefusedFor fault old new → (new.trace ≡ old.trace) ⊎ (old.is_honest → FixesImage old new) → HasItsCause fault old new → RefusedAfter fault old new → RefusesAt old new fault
refused_at fault old new only refused settled cause behind = record {
  refused = record {
    moments = only.touched.moments;
    runs = only.runs;
    writes = only.writes;
    image = only.image;
    saved = only.saved;
    cause = refused;
    fixed = settled;
    armed = cause_armed fault old new cause;
    good = good_refusal fault old new refused;
  };
  behind = behind;
}
