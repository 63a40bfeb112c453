-- Chains of batches, and which changes of an image leave them.
use Rattle.std.proofs.Common.{◌≡◌, ◌⊎◌, ◌<◌, ◌≤◌, ◌+◌, ◌*◌, inl, inr, ℕ, zero, suc, Bool, true}
use Rattle.std.proofs.Common.{false, List, [], ◌∷◌, ◌++◌, length, take, drop, slice_get, Some}
use Rattle.std.proofs.Common.{unwrap_or, refl, sym, ◌∙◌, ap, subst, arith, add-zero, length-drop}
use Rattle.std.proofs.Common.{length-take, cond, ◌-◌}
use Rattle.std.proofs.lemmas.List.{take-take, drop-drop, drop-take, drop_more, take_all, append-nil}
use Rattle.std.proofs.lemmas.Option.{unwrap_or-slice_get}
use Rattle.lift_disk.specs.Disk.{Image, ChangesWithin}
use Rattle.lift_journal.specs.Layout.{Batch, is_marked, IsOpen, IsClosed, size_of, IsBody, IsChain}
use Rattle.lift_journal.specs.Layout.{used, sector_at, start_of, IsStamped, IsSound, Holds}
use Rattle.lift_journal.specs.Layout.{IsAfter, IsPrepared}
use Rattle.lift_base.specs.declared.history.Shape.{Shape}

pub ends_any : (n m : ℕ) (sectors : Image) → IsChain [] n sectors → IsChain [] m sectors
ends_any n m [] end = end
ends_any n m (gate ∷ rest) end = end

pub same_first : (n : ℕ) (old new : Image) → take 1 new ≡ take 1 old → IsChain [] n old
    → IsChain [] n new
same_first n [] new same end = absurd end
same_first n (gate ∷ rest) [] same end = absurd (cc same)
same_first n (gate ∷ rest) (first ∷ others) same end = let e : first ≡ gate = cc same in
    subst IsClosed (sym e) end

-- Where the front stays as it is, other batches may stand after it.
pub chain_front : (batches more : List Batch) (number : ℕ) (old new : Image)
    → IsChain batches number old → take (used batches) new ≡ take (used batches) old
    → IsChain more (number + length batches) (drop (used batches) new)
    → IsChain (batches ++ more) number new
chain_front [] more number old new chain same behind =
    subst (λ k. IsChain more k new) (add-zero number) behind
chain_front (batch ∷ batches) more number [] new chain same behind = absurd chain
chain_front (batch ∷ batches) more number (gate ∷ rest) [] chain same behind = absurd (cc same)
chain_front (batch ∷ batches) more number (gate ∷ rest) (first ∷ others) chain same behind =
    let n = size_of batch in
    let gate_same : first ≡ gate = cc same in
    let rest_same : take (n + used batches) others ≡ take (n + used batches) rest = cc same in
    let body_same : take n others ≡ take n rest =
    sym (take-take n (n + used batches) others (omega arith)) ∙ ap (take n) rest_same ∙ take-take n
    (n + used batches) rest (omega arith) in
    let next_same : take (used batches) (drop n others) ≡ take (used batches) (drop n rest) =
    sym (drop-take n (used batches) others) ∙ ap (drop n) rest_same ∙ drop-take n
    (used batches) rest in
    let count : number + suc (length batches) ≡ (number + 1) + length batches = omega arith in
    let next = subst (λ (l : Image).
    IsChain more ((number + 1) + length batches) l) (sym (drop-drop (used batches) n others))
    (subst (λ k. IsChain more k (drop (n + used batches) others)) count behind) in (
      subst IsOpen (sym gate_same) chain.0,
      subst (IsBody number batch)
          (sym body_same) chain.1,
      chain_front batches more (number + 1) (drop n rest)
          (drop n others) chain.2 next_same next,
    )

-- after its batches a chain has a closed gate
pub chain_end : (batches : List Batch) (number : ℕ) (sectors : Image)
    → IsChain batches number sectors → IsChain [] 0 (drop (used batches) sectors)
chain_end [] number sectors chain = ends_any number 0 sectors chain
chain_end (batch ∷ batches) number [] chain = absurd chain
chain_end (batch ∷ batches) number (gate ∷ rest) chain =
    let n = size_of batch in
    subst (IsChain [] 0) (drop-drop (used batches) n rest)
    (chain_end batches (number + 1) (drop n rest) chain.2)

-- the same sectors, from one place on
pub window_same : (from count : ℕ) (old new : Image) → length new ≡ length old
    → ((i : ℕ) → from ≤ i → i < from + count → slice_get new i ≡ slice_get old i)
    → take count (drop from new) ≡ take count (drop from old)
window_same zero zero old new size same = refl
window_same zero (suc count) [] [] size same = refl
window_same zero (suc count) [] (n ∷ new) size same = absurd (omega arith)
window_same zero (suc count) (o ∷ old) [] size same = absurd (omega arith)
window_same zero (suc count) (o ∷ old) (n ∷ new) size same =
    let here : Some n ≡ Some o = same 0 (omega arith) (omega arith) in
    let first : n ≡ o = cc here in
    let rest = window_same zero count old new (omega arith) (λ i low high.
    same (suc i) (omega arith) (omega arith)) in
    cc (first, rest)
window_same (suc from) count [] [] size same = refl
window_same (suc from) count [] (n ∷ new) size same = absurd (omega arith)
window_same (suc from) count (o ∷ old) [] size same = absurd (omega arith)
window_same (suc from) count (o ∷ old) (n ∷ new) size same =
    window_same from count old new (omega arith) (λ i low high.
    same (suc i) (omega arith) (omega arith))

pub chain_room : (batches : List Batch) (number : ℕ) (sectors : Image)
    → IsChain batches number sectors → used batches < length sectors
chain_room [] number [] chain = absurd chain
chain_room [] number (gate ∷ rest) chain = omega arith
chain_room (batch ∷ batches) number [] chain = absurd chain
chain_room (batch ∷ batches) number (gate ∷ rest) chain =
    let n = size_of batch in
    omega (arith, chain_room batches (number + 1) (drop n rest) chain.2, length-drop n rest)

-- the sectors of a half from one of them on
pub tail_is : (half start skip : ℕ) (image : Image) → skip ≤ half
    → drop skip (take half (drop start image)) ≡ take (half - skip) (drop (start + skip) image)
tail_is half start skip image le =
    let whole : half ≡ skip + (half - skip) = omega arith in
    ap (λ n. drop skip (take n (drop start image))) whole ∙ drop-take skip (half - skip)
    (drop start image) ∙ ap (take (half - skip)) (drop-drop skip start image)

-- a gate and what stands after it
pub from_gate : (count gate : ℕ) (image : Image) → gate < length image
    → take (suc count) (drop gate image) ≡ sector_at image gate ∷ take count (drop (gate + 1) image)
from_gate count gate image within =
    ap (take (suc count)) (drop_more image gate [] within) ∙ ap (λ (s : List ℕ).
    s ∷ take count (drop (gate + 1) image)) (sym (unwrap_or-slice_get image gate []))

pub closed_at : (count gate : ℕ) (image : Image) → gate < length image → 1 ≤ count
    → IsClosed (sector_at image gate) → IsChain [] 0 (take count (drop gate image))
closed_at zero gate image within some closed = absurd (omega arith)
closed_at (suc count) gate image within some closed =
    subst (IsChain [] 0) (sym (from_gate count gate image within)) closed

pub start_low : (half : ℕ) (image : Image) → 2 ≤ start_of half image
start_low half image = by_mark (is_marked (sector_at image 0))
  where
    by_mark : (b : Bool) → 2 ≤ cond b (half + 2) 2
    by_mark true = omega arith
    by_mark false = omega arith

pub start_high : (half : ℕ) (image : Image) → start_of half image ≤ half + 2
start_high half image = by_mark (is_marked (sector_at image 0))
  where
    by_mark : (b : Bool) → cond b (half + 2) 2 ≤ half + 2
    by_mark true = omega arith
    by_mark false = omega arith

-- Sectors from the closed gate on may change: the front stays, and other batches may stand after
-- it.
module _ (shape : Shape) (batches : List Batch) (old new : Image) (gate : ℕ)
    (holds : Holds shape batches old) (at : gate ≡ start_of shape.half old + used batches)
    (within : ChangesWithin (λ i. gate ≤ i) old new) where
  low : 2 ≤ gate
  low = omega (arith, start_low shape.half old)

  below : (i : ℕ) → i < gate → slice_get new i ≡ slice_get old i
  below i lt = within.others i (λ le. omega arith)

  pub start_same : start_of shape.half new ≡ start_of shape.half old
  start_same = ap (λ o. cond (is_marked (unwrap_or o [])) (shape.half + 2) 2)
      (below 0 (omega (arith, low)))

  pub stamped_same : IsStamped shape new
  stamped_same = record {
    within = holds.stamped.within;
    size = subst (λ n. 2 * shape.half + 2 ≤ n) (sym within.size) holds.stamped.size;
    stamp = ap (λ o. unwrap_or o []) (below 1 (omega (arith, low))) ∙ holds.stamped.stamp;
  }

  pub used_below : used batches < shape.half
  used_below =
      let n = chain_room batches 1 (take shape.half (drop (start_of shape.half old) old))
      holds.chain in
      omega (arith, n, length-take shape.half (drop (start_of shape.half old) old))

  pub holds_front : (more : List Batch) → IsSound (batches ++ more)
      → IsChain more (1 + length batches) (take (shape.half - used batches) (drop gate new))
      → Holds shape (batches ++ more) new
  holds_front more sound behind =
      let start = start_of shape.half old in
      let u = used batches in
      let front : take u (take shape.half (drop start new))
      ≡ take u (take shape.half (drop start old)) =
      take-take u shape.half (drop start new) (omega (arith, used_below))
      ∙ window_same start u old new within.size (λ i from to. below i (omega arith))
      ∙ sym (take-take u shape.half (drop start old) (omega (arith, used_below))) in
      let tail : drop u (take shape.half (drop start new)) ≡ take (shape.half - u) (drop gate new) =
      tail_is shape.half start u new (omega (arith, used_below)) ∙ ap (λ n.
      take (shape.half - u) (drop n new)) (sym at) in
      let chain = chain_front batches more 1 (take shape.half (drop start old))
      (take shape.half (drop start new)) holds.chain front
      (subst (IsChain more (1 + length batches)) (sym tail) behind) in
      record {
        stamped = stamped_same;
        chain = subst (λ s. IsChain (batches ++ more) 1 (take shape.half (drop s new)))
            (sym start_same) chain;
        sound = sound;
      }

  -- where the gate is closed, the image holds what it held
  pub holds_closed : IsClosed (sector_at new gate) → Holds shape batches new
  holds_closed closed =
      let within_size : gate < length new =
      omega (arith, used_below, start_high shape.half old, holds.stamped.size, within.size) in
      let end = closed_at (shape.half - used batches) gate new within_size
      (omega (arith, used_below)) closed in
      subst (λ (bs : List Batch). Holds shape bs new) (append-nil batches)
      (holds_front [] (subst IsSound (sym (append-nil batches)) holds.sound)
      (ends_any 0 (1 + length batches) (take (shape.half - used batches) (drop gate new)) end))

head_closed : (count gate : ℕ) (image : Image) → IsChain [] 0 (take count (drop gate image))
    → IsClosed (sector_at image gate)
head_closed zero gate image chain = absurd chain
head_closed (suc count) zero [] chain = absurd chain
head_closed (suc count) zero (sector ∷ image) chain = chain
head_closed (suc count) (suc gate) [] chain = absurd chain
head_closed (suc count) (suc gate) (sector ∷ image) chain = head_closed (suc count) gate image chain

-- the closed gate after its batches
pub gate_closed : (shape : Shape) (batches : List Batch) (image : Image) (gate : ℕ)
    → Holds shape batches image → gate ≡ start_of shape.half image + used batches
    → IsClosed (sector_at image gate)
gate_closed shape batches image gate holds at =
    let sectors = take shape.half (drop (start_of shape.half image) image) in
    let room = chain_room batches 1 sectors holds.chain in
    let full = length-take shape.half (drop (start_of shape.half image) image) in
    let end = chain_end batches 1 sectors holds.chain in
    let tail = tail_is shape.half (start_of shape.half image) (used batches) image
    (omega (arith, room, full)) in
    let there = subst (IsChain [] 0)
    (tail ∙ ap (λ n. take (shape.half - used batches) (drop n image)) (sym at)) end in
    head_closed (shape.half - used batches) gate image there

-- What stands after the closed gate doesn't count.
pub holds_after : (shape : Shape) (batches : List Batch) (old new : Image) (gate : ℕ)
    → Holds shape batches old → gate ≡ start_of shape.half old + used batches
    → ChangesWithin (IsAfter gate) old new → Holds shape batches new
holds_after shape batches old new gate holds at within =
    let closed : IsClosed (sector_at new gate) =
    ap (λ o. is_marked (unwrap_or o [])) (within.others gate (λ lt. omega arith)) ∙ gate_closed
    shape batches old gate holds at in
    holds_closed shape batches old new gate holds at (record {
      size = within.size;
      others = λ i other. within.others i (λ lt. other (omega arith));
    }) closed

-- A batch stands after the closed gate, and a closed gate after it.
module _ (shape : Shape) (batches : List Batch) (batch : Batch) (old new : Image) (gate : ℕ)
    (prepared : IsPrepared shape batches batch gate old) (within : ChangesWithin (λ i.
    i ≡ gate) old new) where
  n : ℕ
  n = size_of batch

  from : ChangesWithin (λ i. gate ≤ i) old new
  from = record {
    size = within.size;
    others = λ i other.
        within.others i (λ same. other (omega arith));
  }

  -- Once the gate is open the batch counts.
  pub holds_opened : IsOpen (sector_at new gate) → Holds shape (batches ++ batch ∷ []) new
  unfolding n
  holds_opened is_open =
      let u = used batches in
      let start = start_of shape.half old in
      let high = start_high shape.half old in
      let gate_within : gate + 1 + n < length new =
      omega (arith, prepared.room, high, prepared.holds.stamped.size, within.size) in
      let m = shape.half - u - 1 in
      let long : shape.half - u ≡ suc m = omega (arith, prepared.room, prepared.at) in
      let split : take (shape.half - u) (drop gate new)
      ≡ sector_at new gate ∷ take m (drop (gate + 1) new) =
      ap (λ k. take k (drop gate new)) long ∙ from_gate m gate new (omega (arith, gate_within)) in
      let body : take n (take m (drop (gate + 1) new)) ≡ take n (drop (gate + 1) old) =
      take-take n m (drop (gate + 1) new) (omega (arith, prepared.room, prepared.at))
      ∙ window_same (gate + 1) n old new within.size (λ i low high.
      within.others i (λ same. omega arith)) in
      let behind : drop n (take m (drop (gate + 1) new)) ≡ take (m - n) (drop (gate + 1 + n) new) =
      tail_is m (gate + 1) n new (omega (arith, prepared.room, prepared.at)) in
      let next_closed : IsClosed (sector_at new (gate + 1 + n)) =
      ap (λ o. is_marked (unwrap_or o [])) (within.others (gate + 1 + n) (λ same.
      omega arith)) ∙ prepared.closed in
      let end = closed_at (m - n) (gate + 1 + n) new gate_within
      (omega (arith, prepared.room, prepared.at)) next_closed in
      let chain : IsChain (batch ∷ []) (1 + length batches)
      (sector_at new gate ∷ take m (drop (gate + 1) new)) = (
        is_open,
        subst (IsBody (1 + length batches) batch) (sym body) prepared.body,
        subst (IsChain [] ((1 + length batches) + 1)) (sym behind)
            (ends_any 0 ((1 + length batches) + 1) (take (m - n) (drop (gate + 1 + n) new)) end),
      ) in
      holds_front shape batches old new gate prepared.holds prepared.at from
      (batch ∷ []) prepared.sound
      (subst (IsChain (batch ∷ []) (1 + length batches)) (sym split) chain)

  -- Whatever is in the gate, the image holds the old batches, or the new one too.
  pub holds_either : Holds shape batches new ⊎ Holds shape (batches ++ batch ∷ []) new
  holds_either = by_mark (is_marked (sector_at new gate)) refl
    where
      by_mark : (b : Bool) → is_marked (sector_at new gate) ≡ b → Holds shape batches new
          ⊎ Holds shape (batches ++ batch ∷ []) new
      by_mark true is = inr (holds_opened is)
      by_mark false is = inl (holds_closed shape batches old new gate prepared.holds prepared.at
          from is)

-- nothing has changed
pub all_same : (changed : ℕ → Type 0) (old new : Image) → ((i : ℕ) → ¬ changed i)
    → ChangesWithin changed old new → new ≡ old
all_same changed old new none within =
    sym (take_all (length old) new (omega (arith, within.size)))
    ∙ window_same 0 (length old) old new within.size (λ i low high. within.others i (none i))
    ∙ take_all (length old) old (omega arith)

pub used_more : (batches : List Batch) (batch : Batch)
    → used (batches ++ batch ∷ []) ≡ used batches + suc (size_of batch)
used_more [] batch = omega arith
used_more (first ∷ batches) batch = let rest = used_more batches batch in omega (arith, rest)
