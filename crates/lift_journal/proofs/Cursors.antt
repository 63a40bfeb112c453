-- The batches of a chain, one after another.
use Rattle.std.proofs.Common.{◌≡◌, ◌<◌, ◌≤◌, ◌+◌, ◌-◌, ⊎_elim, ℕ, zero, suc, List, [], ◌∷◌, Some, length, take, drop, get_or, refl, sym, ◌∙◌, ap, subst, arith, length-drop, length-take}
use Rattle.std.specs.Option.{option_map}
use Rattle.std.proofs.Math.Nat.{eq-or-lt_of_le}
use Rattle.std.proofs.lemmas.List.{take-take, take_all, drop-drop, drop_more}
use Rattle.std.proofs.lemmas.Option.{slice_get-get_or}
use Rattle.lift_base.specs.declared.history.Shape.{Shape}
use Rattle.lift_record.specs.declared.version.Version.TheVariants.{One}
use Rattle.lift_disk.specs.Disk.{Image}
use Rattle.lift_journal.specs.Layout.{Batch, IsOpen, IsClosed, size_of, IsBody, IsChain, used, sector_at, start_of, Holds}
use Rattle.lift_journal.specs.Journal.{CursorView, IsCursorIn, IsNext}
use Rattle.lift_journal.specs.Walk.{IsBatchAt}
use Rattle.lift_journal.specs.lemmas.Chains.{tail_is, from_gate, chain_room, start_high, used_below}
use Rattle.lift_journal.specs.lemmas.Unique.{body_unique}

abbrev pub blank : Batch
blank = record { version = One; records = [] }

pub used_take : (batches : List Batch) (k : ℕ) → k < length batches → used (take k batches) + suc (size_of (get_or batches k blank)) ≤ used batches
used_take [] k lt = absurd (omega arith)
used_take (batch ∷ batches) zero lt = omega arith
used_take (batch ∷ batches) (suc k) lt = omega (arith, used_take batches k (omega arith))

pub used_next : (batches : List Batch) (k : ℕ) → k < length batches → used (take (k + 1) batches) ≡ used (take k batches) + suc (size_of (get_or batches k blank))
used_next batches k lt =
    let more : suc k ≡ k + 1 = omega arith in
    subst (λ n. used (take n batches) ≡ used (take k batches) + suc (size_of (get_or batches k blank))) more (step batches k lt)
  where
    step : (batches : List Batch) (k : ℕ) → k < length batches → used (take (suc k) batches) ≡ used (take k batches) + suc (size_of (get_or batches k blank))
    step [] k lt = absurd (omega arith)
    step (batch ∷ batches) zero lt = omega arith
    step (batch ∷ batches) (suc k) lt = omega (arith, step batches k (omega arith))

-- the chain from one batch on
pub chain_drop : (batches : List Batch) (k number : ℕ) (sectors : Image) → k ≤ length batches → IsChain batches number sectors
    → IsChain (drop k batches) (number + k) (drop (used (take k batches)) sectors)
chain_drop batches zero number sectors le chain = subst (λ n. IsChain batches n sectors) (omega arith) chain
chain_drop [] (suc k) number sectors le chain = absurd (omega arith)
chain_drop (batch ∷ batches) (suc k) number [] le chain = absurd chain
chain_drop (batch ∷ batches) (suc k) number (gate ∷ rest) le chain =
    let n = size_of batch in
    let next = chain_drop batches k (number + 1) (drop n rest) (omega arith) chain.2 in
    let count : (number + 1) + k ≡ number + suc k = omega arith in
    subst (λ m. IsChain (drop k batches) m (drop (n + used (take k batches)) rest)) count
    (subst (λ (l : Image). IsChain (drop k batches) ((number + 1) + k) l) (drop-drop (used (take k batches)) n rest) next)

-- after its gate stands the batch at this place
pub record IsThere (image : Image) (gate end number : ℕ) (batch : Batch) : Type 0 where
  pub is_open : IsOpen (sector_at image gate)
  pub batch_at : IsBatchAt image gate end number batch

pub batch_there : (shape : Shape) (batches : List Batch) (image : Image) (start k : ℕ) → Holds shape batches image → start ≡ start_of shape.half image → k < length batches
    → IsThere image (start + used (take k batches)) (start + shape.half) (k + 1) (get_or batches k blank)
batch_there shape batches image start k holds starts lt =
    let u = used (take k batches) in
    let gate = start + u in
    let batch = get_or batches k blank in
    let n = size_of batch in
    let below : used batches < shape.half = used_below shape batches image image (start_of shape.half image + used batches) holds refl (record { size = refl; others = λ i _. refl }) in
    let room = used_take batches k lt in
    let m = shape.half - u - 1 in
    let inside : gate < length image = omega (arith, starts, start_high shape.half image, holds.stamped.size, below, room) in
    let sectors = take shape.half (drop (start_of shape.half image) image) in
    let chain = chain_drop batches k 1 sectors (omega arith) holds.chain in
    let here : drop u sectors ≡ sector_at image gate ∷ take m (drop (gate + 1) image) =
    tail_is shape.half (start_of shape.half image) u image (omega (arith, below, room)) ∙ ap (λ s. take (shape.half - u) (drop (s + u) image)) (sym starts)
    ∙ ap (λ j. take j (drop gate image)) (let more : shape.half - u ≡ suc m = omega (arith, below, room) in more) ∙ from_gate m gate image inside in
    let first : drop k batches ≡ batch ∷ drop (k + 1) batches = drop_more batches k blank lt in
    let parts : IsChain (batch ∷ drop (k + 1) batches) (1 + k) (sector_at image gate ∷ take m (drop (gate + 1) image)) =
    subst (λ (bs : List Batch). IsChain bs (1 + k) (sector_at image gate ∷ take m (drop (gate + 1) image))) first (subst (λ (l : Image). IsChain (drop k batches) (1 + k) l) here chain) in
    let next = chain_room (drop (k + 1) batches) ((1 + k) + 1) (drop n (take m (drop (gate + 1) image))) parts.2 in
    let small : n < m = omega (arith, next, length-drop n (take m (drop (gate + 1) image)), length-take m (drop (gate + 1) image)) in
    record {
      is_open = parts.0;
      batch_at = record {
        body = subst (λ j. IsBody j batch (take n (drop (gate + 1) image))) (let swap : 1 + k ≡ k + 1 = omega arith in swap)
            (subst (IsBody (1 + k) batch) (take-take n m (drop (gate + 1) image) (omega (arith, small))) parts.1);
        next = omega (arith, small, below, room);
      };
    }

-- at the end
pub none_next : (batches : List Batch) (cursor : CursorView) → IsCursorIn batches cursor → used batches ≤ cursor.skipped → cursor.given ≡ length batches
none_next batches cursor within past =
    ⊎_elim (λ same. same) (λ lt. absurd (omega (arith, used_take batches cursor.given lt, within.behind, past))) (eq-or-lt_of_le within.inside)

-- before the end
pub some_next : (batches : List Batch) (cursor : CursorView) → IsCursorIn batches cursor → cursor.skipped < used batches → cursor.given < length batches
some_next batches cursor within before =
    ⊎_elim (λ same. absurd (omega (arith, within.behind, before, ap used (ap (λ n. take n batches) same ∙ take_all (length batches) batches (omega arith))))) (λ lt. lt) (eq-or-lt_of_le within.inside)

-- what was read is the next batch
pub next_is : (shape : Shape) (batches : List Batch) (image : Image) (start : ℕ) (old new : CursorView) (found : Batch) → Holds shape batches image → start ≡ start_of shape.half image
    → IsCursorIn batches old → old.given < length batches → IsBatchAt image (start + old.skipped) (start + shape.half) (old.given + 1) found
    → new.skipped ≡ old.skipped + suc (size_of found) → new.given ≡ old.given + 1 → IsNext batches old new (Some found.records)
next_is shape batches image start old new found holds starts within lt there skipped given =
    let k = old.given in
    let batch = get_or batches k blank in
    let here = batch_there shape batches image start k holds starts lt in
    let at_gate = subst (λ u. IsBatchAt image (start + u) (start + shape.half) (k + 1) found) within.behind there in
    let same : batch ≡ found = body_unique (k + 1) batch found (drop (start + used (take k batches) + 1) image) here.batch_at.body at_gate.body in
    let size : size_of batch ≡ size_of found = ap size_of same in (
      ap (option_map (λ (b : Batch). b.records)) (slice_get-get_or batches k blank lt) ∙ ap (λ (b : Batch). Some b.records) same,
      given,
      record {
        inside = omega (arith, given, lt);
        behind = (let more : new.skipped ≡ used (take (k + 1) batches) = omega (arith, skipped, within.behind, used_next batches k lt, size) in more)
            ∙ ap (λ n. used (take n batches)) (sym given);
      },
    )

-- an open gate is there
pub not_closed : (shape : Shape) (batches : List Batch) (image : Image) (start : ℕ) (cursor : CursorView) → Holds shape batches image → start ≡ start_of shape.half image
    → IsCursorIn batches cursor → cursor.given < length batches → ¬ IsClosed (sector_at image (start + cursor.skipped))
not_closed shape batches image start cursor holds starts within lt closed =
    let here = batch_there shape batches image start cursor.given holds starts lt in
    let shut = subst (λ u. IsClosed (sector_at image (start + u))) within.behind closed in
    cc (shut, here.is_open)

pub not_missing : (shape : Shape) (batches : List Batch) (image : Image) (start : ℕ) (cursor : CursorView) → Holds shape batches image → start ≡ start_of shape.half image
    → IsCursorIn batches cursor → cursor.given < length batches → ¬ ((batch : Batch) → ¬ IsBatchAt image (start + cursor.skipped) (start + shape.half) (cursor.given + 1) batch)
not_missing shape batches image start cursor holds starts within lt none =
    let here = batch_there shape batches image start cursor.given holds starts lt in
    none (get_or batches cursor.given blank) (subst (λ u. IsBatchAt image (start + u) (start + shape.half) (cursor.given + 1) (get_or batches cursor.given blank)) (sym within.behind) here.batch_at)
