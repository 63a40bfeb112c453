-- The way along a chain.
use Rattle.std.proofs.Common.{◌≡◌, ◌<◌, ◌≤◌, ◌+◌, ◌-◌, inl, inr, ℕ, suc, List, [], ◌∷◌, ◌++◌, None, length, take, drop, sym, ◌∙◌, ap, subst, arith, add-zero, length-append}
use Rattle.std.proofs.lemmas.List.{take-take, drop-take, drop-drop, append-nil}
use Rattle.lift_base.specs.declared.history.Record.{Record}
use Rattle.lift_disk.specs.Disk.{DiskState, Image, IsSynced, LeavesNoOther}
use Rattle.lift_journal.specs.Steps.{ReadsOnly, ReadsWell}
use Rattle.lift_record.specs.declared.version.Version.TheVariants.{One}
use Rattle.lift_record.specs.Version.{version_number}
use Rattle.lift_journal.specs.Order.{last_record_after, MayEnd, IsInOrderAfter}
use Rattle.lift_journal.specs.Layout.{Batch, records_of, IsOpen, IsClosed, size_of, IsBody, IsChain, used, sector_at}
use Rattle.lift_journal.specs.Walk.{AreFirstBatches, IsBatchAt, MayBeginChain, version_after, Reaches, EndsAt, IsDamagedAt}
use Rattle.lift_journal.specs.declared.batch.Stored.{Stored}
use Rattle.lift_journal.specs.declared.walk.Front.{Front}
use Rattle.lift_journal.specs.ChainStep.{Passes, passed}
use Rattle.lift_journal.specs.declared.reads.AtGate.{AtGate}
use Rattle.lift_journal.specs.Seen.{batch_of, ShowsAt}
use Rattle.lift_journal.specs.Calls.{reads_from}
use Rattle.lift_journal.specs.lemmas.Looking.{reads_none, well_none}
use Rattle.lift_journal.specs.lemmas.Chains.{tail_is, from_gate, used_more}
use Rattle.lift_journal.specs.lemmas.Orders.{front_push, front_rises, front_order, version_push, last_push}
use Rattle.lift_journal.specs.lemmas.Unique.{body_unique}
use Rattle.lift_journal.proofs.Visiting.{IsShown, none_shown}

-- the batches before a front
pub record IsAtFront (image : Image) (start end : ℕ) (front : Front) (batches : List Batch) : Type 0 where
  pub reached : Reaches image start end front.gate batches
  pub counts : front.number ≡ 1 + length batches
  pub version_is : front.version ≡ version_after One batches
  pub last_is : front.last ≡ last_record_after None (records_of batches)

pub front_then : (batches more : List Batch) (number : ℕ) (sectors : Image) → AreFirstBatches batches number sectors → AreFirstBatches more (number + length batches) (drop (used batches) sectors) → AreFirstBatches (batches ++ more) number sectors
front_then [] more number sectors front behind = subst (λ k. AreFirstBatches more k sectors) (add-zero number) behind
front_then (batch ∷ batches) more number [] front behind = absurd front
front_then (batch ∷ batches) more number (gate ∷ rest) front behind =
    let n = size_of batch in
    let count : number + suc (length batches) ≡ (number + 1) + length batches = omega arith in
    let next = subst (λ (l : Image). AreFirstBatches more ((number + 1) + length batches) l) (sym (drop-drop (used batches) n rest)) (subst (λ k. AreFirstBatches more k (drop (n + used batches) rest)) count behind) in
    (front.0, front.1, front_then batches more (number + 1) (drop n rest) front.2 next)

pub chain_then : (batches more : List Batch) (number : ℕ) (sectors : Image) → AreFirstBatches batches number sectors → IsChain more (number + length batches) (drop (used batches) sectors) → IsChain (batches ++ more) number sectors
chain_then [] more number sectors front behind = subst (λ k. IsChain more k sectors) (add-zero number) behind
chain_then (batch ∷ batches) more number [] front behind = absurd front
chain_then (batch ∷ batches) more number (gate ∷ rest) front behind =
    let n = size_of batch in
    let count : number + suc (length batches) ≡ (number + 1) + length batches = omega arith in
    let next = subst (λ (l : Image). IsChain more ((number + 1) + length batches) l) (sym (drop-drop (used batches) n rest)) (subst (λ k. IsChain more k (drop (n + used batches) rest)) count behind) in
    (front.0, front.1, chain_then batches more (number + 1) (drop n rest) front.2 next)

pub reaches_start : (image : Image) (start end : ℕ) → Reaches image start end start []
reaches_start image start end = record { front = tt; sound = record { versions = tt; ordered = tt }; at = sym (add-zero start) }

module _ (image : Image) (start end gate : ℕ) (batches : List Batch) (reached : Reaches image start end gate batches) (below : gate < end) (whole : end ≤ length image) where
  -- the sectors from the gate on
  pub from_here : drop (used batches) (take (end - start) (drop start image)) ≡ sector_at image gate ∷ take (end - start - used batches - 1) (drop (gate + 1) image)
  from_here =
      let long : end - start - used batches ≡ suc (end - start - used batches - 1) = omega (arith, reached.at) in
      tail_is (end - start) start (used batches) image (omega (arith, reached.at))
      ∙ ap (λ k. take (end - start - used batches) (drop k image)) (sym reached.at)
      ∙ ap (λ k. take k (drop gate image)) long
      ∙ from_gate (end - start - used batches - 1) gate image (omega arith)

  pub reaches_more : (batch : Batch) → IsOpen (sector_at image gate) → IsBatchAt image gate end (1 + length batches) batch → MayBeginChain (batches ++ batch ∷ [])
      → Reaches image start end (gate + (1 + size_of batch)) (batches ++ batch ∷ [])
  reaches_more batch is_open there sound =
      let m = end - start - used batches - 1 in
      let body : take (size_of batch) (take m (drop (gate + 1) image)) ≡ take (size_of batch) (drop (gate + 1) image) =
      take-take (size_of batch) m (drop (gate + 1) image) (omega (arith, reached.at, there.next)) in
      let one : AreFirstBatches (batch ∷ []) (1 + length batches) (sector_at image gate ∷ take m (drop (gate + 1) image)) =
      (is_open, subst (IsBody (1 + length batches) batch) (sym body) there.body, tt) in
      record {
        front = front_then batches (batch ∷ []) 1 (take (end - start) (drop start image)) reached.front (subst (AreFirstBatches (batch ∷ []) (1 + length batches)) (sym from_here) one);
        sound = sound;
        at = omega (arith, reached.at, used_more batches batch);
      }

  pub reaches_end : IsClosed (sector_at image gate) → IsChain batches 1 (take (end - start) (drop start image))
  reaches_end closed =
      subst (λ (bs : List Batch). IsChain bs 1 (take (end - start) (drop start image))) (append-nil batches)
      (chain_then batches [] 1 (take (end - start) (drop start image)) reached.front (subst (IsChain [] (1 + length batches)) (sym from_here) closed))

-- how far a walk has come
pub record Walking {V : Type 0} (takes : V → List Record → V → Type 0) (was is : V) (old now : DiskState) (start end : ℕ) (front : Front) : Type 0 where
  pub low : start ≤ front.gate
  pub below : front.gate < end
  pub some : 1 ≤ front.number
  pub few : front.number ≤ front.gate
  pub only : ReadsOnly old now
  pub well : ReadsWell old now
  pub batches : List Batch
  pub shown : IsShown takes was is start front batches
  pub at : old.is_honest → IsSynced old → IsAtFront old.image start end front batches
  pub trace : now.trace ≡ old.trace ++ reads_from start (front.gate - start)

-- the first front
pub starts : (image : Image) (start end : ℕ) (front : Front) → front.gate ≡ start → front.number ≡ 1 → front.version ≡ One → front.last ≡ None → IsAtFront image start end front []
starts image start end front gate number version last = record {
  reached = subst (λ g. Reaches image start end g []) (sym gate) (reaches_start image start end);
  counts = number;
  version_is = version;
  last_is = last;
}

module _ (image : Image) (start end : ℕ) (front : Front) (batches : List Batch) (at : IsAtFront image start end front batches) (below : front.gate < end) (whole : end ≤ length image) where
  -- the next front
  pub goes_on : (next : Front) (stored : Stored) → IsOpen (sector_at image front.gate) → IsBatchAt image front.gate end front.number (batch_of stored) → Passes front stored
      → next ≡ passed front stored → IsAtFront image start end next (batches ++ batch_of stored ∷ [])
  goes_on next stored is_open there passes is =
      let batch = batch_of stored in
      let sound = front_push batches batch at.reached.sound (subst (λ v. version_number v ≤ version_number stored.version) at.version_is passes.rises)
      (subst (λ l. IsInOrderAfter l stored.records.items) at.last_is passes.ordered) in
      let now : IsAtFront image start end (passed front stored) (batches ++ batch ∷ []) = record {
        reached = reaches_more image start end front.gate batches at.reached below whole batch is_open (subst (λ n. IsBatchAt image front.gate end n batch) at.counts there) sound;
        counts = omega (arith, at.counts, length-append batches (batch ∷ []));
        version_is = sym (version_push One batches batch);
        last_is = ap (λ l. last_record_after l stored.records.items) at.last_is ∙ sym (last_push batches batch);
      } in
      subst (λ (f : Front). IsAtFront image start end f (batches ++ batch ∷ [])) (sym is) now

  pub ends : IsClosed (sector_at image front.gate) → MayEnd front.last → EndsAt image start end front.gate front.number
  ends closed may = record {
    batches = batches;
    chain = reaches_end image start end front.gate batches at.reached below whole closed;
    sound = record {
      versions = at.reached.sound.versions;
      ordered = at.reached.sound.ordered;
      complete = subst MayEnd at.last_is may;
    };
    at = at.reached.at;
    counts = at.counts;
  }

  -- the chain ends within a checkpoint
  pub ends_early : IsClosed (sector_at image front.gate) → ¬ MayEnd front.last → IsDamagedAt image start end front.gate
  ends_early closed not = record {
    batches = batches;
    below = below;
    reached = at.reached;
    broken = inr (closed, λ complete. not (subst MayEnd (sym at.last_is) complete));
  }

  -- no batch stands here
  pub none_here : IsOpen (sector_at image front.gate) → ((batch : Batch) → ¬ IsBatchAt image front.gate end front.number batch) → IsDamagedAt image start end front.gate
  none_here is_open none = record {
    batches = batches;
    below = below;
    reached = at.reached;
    broken = inl (is_open, λ batch there sound. none batch (subst (λ n. IsBatchAt image front.gate end n batch) (sym at.counts) there));
  }

  -- the batch here may not stand after those before it
  pub may_not : (stored : Stored) → IsOpen (sector_at image front.gate) → IsBatchAt image front.gate end front.number (batch_of stored) → ¬ Passes front stored → IsDamagedAt image start end front.gate
  may_not stored is_open there not = record {
    batches = batches;
    below = below;
    reached = at.reached;
    broken = inl (
      is_open,
      λ other is sound.
          let here = subst (λ n. IsBatchAt image front.gate end n (batch_of stored)) at.counts there in
          let same : other ≡ batch_of stored = body_unique (1 + length batches) other (batch_of stored) (drop (front.gate + 1) image) is.body here.body in
          let sound_here = subst (λ (b : Batch). MayBeginChain (batches ++ b ∷ [])) same sound in
          not (record {
            rises = subst (λ v. version_number v ≤ version_number stored.version) (sym at.version_is) (front_rises batches (batch_of stored) sound_here);
            ordered = subst (λ l. IsInOrderAfter l stored.records.items) (sym at.last_is) (front_order batches (batch_of stored) sound_here);
          }),
    );
  }

-- a front of the same sectors
pub front_same : (batches : List Batch) (number : ℕ) (old new : Image) → AreFirstBatches batches number old → take (used batches) new ≡ take (used batches) old → AreFirstBatches batches number new
front_same [] number old new front same = tt
front_same (batch ∷ batches) number [] new front same = absurd front
front_same (batch ∷ batches) number (gate ∷ rest) [] front same = absurd (cc same)
front_same (batch ∷ batches) number (gate ∷ rest) (first ∷ others) front same =
    let n = size_of batch in
    let gate_same : first ≡ gate = cc same in
    let rest_same : take (n + used batches) others ≡ take (n + used batches) rest = cc same in
    let body_same : take n others ≡ take n rest =
    sym (take-take n (n + used batches) others (omega arith)) ∙ ap (take n) rest_same ∙ take-take n (n + used batches) rest (omega arith) in
    let next_same : take (used batches) (drop n others) ≡ take (used batches) (drop n rest) =
    sym (drop-take n (used batches) others) ∙ ap (drop n) rest_same ∙ drop-take n (used batches) rest in
    (subst IsOpen (sym gate_same) front.0, subst (IsBody number batch) (sym body_same) front.1, front_same batches (number + 1) (drop n rest) (drop n others) front.2 next_same)

-- what a look has shown, of the image at the start
pub seen_at : (first mid : Image) (gate end number : ℕ) (at found : AtGate) (stored : Stored) → mid ≡ first → at ≡ found → ShowsAt mid gate end number at stored → ShowsAt first gate end number found stored
seen_at first mid gate end number at found stored same is shows =
    subst (λ (l : Image). ShowsAt l gate end number found stored) same (subst (λ (a : AtGate). ShowsAt mid gate end number a stored) is shows)

pub walk_begins : {V : Type 0} (takes : V → List Record → V → Type 0) (visitor : V) (disk : DiskState) (start end : ℕ) (front : Front) → LeavesNoOther disk → 1 ≤ start → start < end
    → front ≡ record { gate = start; number = 1; version = One; last = None } → Walking takes visitor visitor disk disk start end front
walk_begins takes visitor disk start end front only_now some below is =
    let gate : front.gate ≡ start = ap (λ (f : Front). f.gate) is in
    let number : front.number ≡ 1 = ap (λ (f : Front). f.number) is in
    record {
      low = omega (arith, gate);
      below = omega (arith, gate);
      some = omega (arith, number);
      few = omega (arith, gate, number);
      only = reads_none disk only_now;
      well = well_none disk;
      trace = sym (append-nil disk.trace) ∙ ap (λ n. disk.trace ++ reads_from start n) (let none : 0 ≡ front.gate - start = omega (arith, gate) in none);
      shown = none_shown takes visitor start front gate (ap (λ (f : Front). f.version) is) (ap (λ (f : Front). f.last) is);
      batches = [];
      at = λ honest synced. starts disk.image start end front gate number (ap (λ (f : Front). f.version) is) (ap (λ (f : Front). f.last) is);
    }
