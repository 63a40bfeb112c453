-- One batch more.
use Rattle.std.proofs.Common.{◌≡◌, ◌<◌, ◌≤◌, ◌+◌, ℕ, List, [], ◌∷◌, ◌++◌, length, take, drop, slice_set, refl, sym, ◌∙◌, ap, subst, arith, append_assoc, length-append, length-take, length-drop}
use Rattle.std.proofs.lemmas.List.{take_at, drop_at, drop-set-add, take-set-le, get_or-set_same}
use Rattle.std.proofs.lemmas.Option.{unwrap_or-slice_get}
use Rattle.lift_disk.specs.Disk.{DiskState, Image, ChangesWithin}
use Rattle.lift_disk.specs.lemmas.Moments.{changes_more}
use Rattle.lift_journal.specs.Layout.{Batch, is_marked, IsClosed, IsBody, used, sector_at, start_of, Holds, IsAfter, IsPrepared}
use Rattle.lift_journal.specs.Steps.{overwritten, marked, unmarked, IsInRange, IsReady}
use Rattle.lift_base.specs.declared.history.Shape.{Shape}
use Rattle.lift_journal.specs.lemmas.Chains.{holds_after, start_same, start_high, holds_opened}

-- what was written stands there
pub overwritten_there : (image : Image) (first : ℕ) (sectors : Image) → first + length sectors ≤ length image → take (length sectors) (drop first (overwritten image first sectors)) ≡ sectors
overwritten_there image first sectors within =
    let rest = drop (first + length sectors) image in
    ap (λ (l : Image). take (length sectors) (drop first l)) (append_assoc (take first image) sectors rest)
    ∙ ap (take (length sectors)) (drop_at (take first image) (sectors ++ rest) first (omega (arith, length-take first image)))
    ∙ take_at sectors rest (length sectors) refl

pub length-overwritten : (image : Image) (first : ℕ) (sectors : Image) → first + length sectors ≤ length image → length (overwritten image first sectors) ≡ length image
length-overwritten image first sectors within =
    omega (arith, length-append (take first image ++ sectors) (drop (first + length sectors) image), length-append (take first image) sectors, length-take first image, length-drop (first + length sectors) image)

pub sector_set : (image : Image) (i : ℕ) (sector : List ℕ) → i < length image → sector_at (slice_set image i sector) i ≡ sector
sector_set image i sector within = unwrap_or-slice_get (slice_set image i sector) i [] ∙ get_or-set_same image i sector [] within

module _ (shape : Shape) (batches : List Batch) (batch : Batch) (gate : ℕ) (body : Image) (old : DiskState) (ready : IsReady shape batches batch gate body old) where
  n : ℕ
  n = length body

  room : gate + n + 2 ≤ length old.image
  unfolding n
  room = omega (arith, ready.room, ready.at, start_high shape.half old.image, ready.holds.stamped.size)

  behind : (new : Image) → ChangesWithin (IsInRange (gate + 1) (gate + n + 2)) old.image new → ChangesWithin (IsAfter gate) old.image new
  behind new within = changes_more (IsInRange (gate + 1) (gate + n + 2)) (IsAfter gate) old.image new (λ i is. omega (arith, is.0)) within

  -- while the body is written, the image holds the old batches
  pub body_leaves : (left : Image) → ChangesWithin (IsInRange (gate + 1) (gate + length body + 2)) old.image left → Holds shape batches left
  unfolding n
  body_leaves left within = holds_after shape batches old.image left gate ready.holds ready.at (behind left within)

  pub body_start : (left : Image) → ChangesWithin (IsInRange (gate + 1) (gate + length body + 2)) old.image left → start_of shape.half left ≡ start_of shape.half old.image
  unfolding n
  body_start left within =
      start_same shape batches old.image left gate ready.holds ready.at (changes_more (IsInRange (gate + 1) (gate + length body + 2)) (λ i. gate ≤ i) old.image left (λ i is. omega (arith, is.0)) within)

  -- and then it is prepared
  pub body_prepares : (new : Image) → ChangesWithin (IsInRange (gate + 1) (gate + length body + 2)) old.image new
      → new ≡ slice_set (overwritten old.image (gate + 1) body) (gate + 1 + length body) unmarked → IsPrepared shape batches batch gate new
  unfolding n
  body_prepares new within is =
      let base = overwritten old.image (gate + 1) body in
      let long = length-overwritten old.image (gate + 1) body (omega (arith, room)) in
      let there : take (length body) (drop (gate + 1) new) ≡ body =
      ap (λ (l : Image). take (length body) (drop (gate + 1) l)) is
      ∙ ap (take (length body)) (drop-set-add (gate + 1) base (length body) unmarked)
      ∙ take-set-le (length body) (drop (gate + 1) base) (length body) unmarked (omega arith)
      ∙ overwritten_there old.image (gate + 1) body (omega (arith, room)) in
      let next : sector_at new (gate + 1 + length body) ≡ unmarked =
      ap (λ (l : Image). sector_at l (gate + 1 + length body)) is ∙ sector_set base (gate + 1 + length body) unmarked (omega (arith, long, room)) in
      record {
        holds = body_leaves new within;
        at = ready.at ∙ ap (λ s. s + used batches) (sym (body_start new within));
        room = omega (arith, ready.room, ready.size);
        body = subst (λ k. IsBody (1 + length batches) batch (take k (drop (gate + 1) new))) ready.size (subst (IsBody (1 + length batches) batch) (sym there) ready.spelled);
        closed = subst (λ k. IsClosed (sector_at new (gate + 1 + k))) ready.size (ap is_marked next);
        sound = ready.sound;
      }

-- the gate is open
pub gate_opens : (shape : Shape) (batches : List Batch) (batch : Batch) (gate : ℕ) (old new : Image) → IsPrepared shape batches batch gate old → ChangesWithin (λ i. i ≡ gate) old new
    → gate < length old → new ≡ slice_set old gate marked → Holds shape (batches ++ batch ∷ []) new
gate_opens shape batches batch gate old new prepared within inside is =
    holds_opened shape batches batch old new gate prepared within
    (ap (λ (l : Image). is_marked (sector_at l gate)) is ∙ ap is_marked (sector_set old gate marked inside))

pub gate_start : (shape : Shape) (batches : List Batch) (batch : Batch) (gate : ℕ) (old new : Image) → IsPrepared shape batches batch gate old → ChangesWithin (λ i. i ≡ gate) old new
    → start_of shape.half new ≡ start_of shape.half old
gate_start shape batches batch gate old new prepared within =
    start_same shape batches old new gate prepared.holds prepared.at (changes_more (λ i. i ≡ gate) (λ i. gate ≤ i) old new (λ i is. omega (arith, is)) within)
