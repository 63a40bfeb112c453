-- What a journal that isn't broken stands for.
use Rattle.std.proofs.Common.{Err, ◌≡◌, ◌⊎◌, ◌≤◌, ◌<◌, ◌+◌, ◌-◌, inl, inr, ⊎_elim, ℕ, Bool, true, false, cond, nat_lt, List, [], ◌∷◌, ◌++◌, None, unwrap_or, All, refl, sym, ◌∙◌, ap, subst, arith, length-append}
use Rattle.std.proofs.lemmas.List.Elements.{All-from_recursion}
use Rattle.lift_base.specs.declared.history.Record.{Record}
use Rattle.lift_base.specs.declared.history.Shape.{Shape}
use Rattle.lift_disk.specs.Disk.{DiskState, Image, ChangesWithin, LeavesNow, LeavesNoOther, LeavesOnly, IsSynced, TouchesOnly}
use Rattle.lift_disk.specs.lemmas.Moments.{leaves_weaker, leaves_none, changes_nothing}
use Rattle.lift_journal.specs.Order.{IsEntry, IsOfBase}
use Rattle.lift_journal.specs.Layout.{Batch, new_batch, records_of, size_of, IsBody, is_marked, sector_at, Picks, start_of, Holds, HoldsIn, used}
use Rattle.lift_journal.specs.Steps.{IsInRange, IsReady, HoldsSafely, ReadsOnly}
use Rattle.lift_journal.specs.declared.place.Place.{Place}
use Rattle.lift_journal.specs.Journal.{ReadsAs, StandsFor, HasNextPlace, StandsAt, IsJournal, JournalView, JournalHolds}
use Rattle.lift_journal.specs.Becomes.{Becomes}
use Rattle.lift_journal.specs.declared.fault.JournalFault.{JournalFault}
use Rattle.lift_journal.specs.Opening.{Opens}
use Rattle.lift_journal.specs.Armed.{NoneFails}
use Rattle.lift_journal.specs.lemmas.Adding.{held_left}
use Rattle.lift_journal.specs.lemmas.Unique.{holds_unique, stamp_unique}
use Rattle.lift_journal.specs.lemmas.Chains.{all_same, used_more}
use Rattle.lift_journal.specs.lemmas.Orders.{order_parts, Parts, sound_push}
use Rattle.lift_journal.specs.Calls.{batch_body}
use Rattle.lift_journal.proofs.Texts.{length-batch_body}

-- the half of a journal by its first sector
second_is : (half start : ℕ) (b : Bool) → 1 ≤ half → start ≡ cond b (half + 2) 2 → nat_lt 2 start ≡ b
second_is half start true some is = grind (arith, some, is)
second_is half start false some is = ap (nat_lt 2) is

pub stands_in : (shape : Shape) (start gate number : ℕ) (disk : DiskState) → StandsAt shape start gate number disk → Picks (nat_lt 2 start) disk.image
stands_in shape start gate number disk at =
    sym (second_is shape.half start (is_marked (sector_at disk.image 0)) (omega (arith, at.holds.stamped.within.half.0)) at.starts)

-- what a caller sees of a journal that stands there
pub stands_seen : {D : Type 0} (state : D → DiskState) (device : D) (shape : Shape) (start gate number : ℕ) (is_broken : Bool) (failures_at_opening : ℕ) (stands : StandsAt shape start gate number (state device))
    → JournalHolds state (record { device = device; shape = shape; is_in_second_half = nat_lt 2 start; used = gate - start; number = number; failures_at_opening = failures_at_opening; is_broken = is_broken }) stands.batches
stands_seen state device shape start gate number is_broken failures_at_opening stands = record {
  safe = stands.synced;
  holds = record { holds = stands.holds; picks = stands_in shape start gate number (state device) stands };
  taken = omega (arith, stands.at, stands.starts);
  next = stands.counts;
}

-- images of these batches or of those, in the half that stays picked
pub leaves_in : (old new : DiskState) (shape : Shape) (is_in_second_half : Bool) (batches more : List Batch) → LeavesOnly old new (λ left. Holds shape batches left ⊎ Holds shape more left) → LeavesOnly old new (Picks is_in_second_half)
    → LeavesOnly old new (λ left. HoldsIn shape is_in_second_half batches left ⊎ HoldsIn shape is_in_second_half more left)
leaves_in old new shape is_in_second_half batches more holds picks = record {
  honest = holds.honest;
  later = holds.later;
  each = λ honest left is. both left (holds.each honest left is) (picks.each honest left is);
  before = λ honest t left le is.
      ⊎_elim (λ was. inl was) (λ has. ⊎_elim (λ was. inl was) (λ picked. inr (both left has picked)) (picks.before honest t left le is)) (holds.before honest t left le is);
}
  where
    both : (left : Image) → Holds shape batches left ⊎ Holds shape more left → Picks is_in_second_half left → HoldsIn shape is_in_second_half batches left ⊎ HoldsIn shape is_in_second_half more left
    both left has picked = ⊎_elim (λ was. inl (record { holds = was; picks = picked })) (λ now. inr (record { holds = now; picks = picked })) has

-- nothing becomes of them
pub becomes_none : {D T : Type 0} (state : D → DiskState) (journal : JournalView D) (is_in_second_half : Bool) (change : List Batch → List Batch) (fault : JournalFault) (batches : List Batch) → JournalHolds state journal batches
    → LeavesNoOther (state journal.device) → Becomes {T = T} state journal is_in_second_half change journal (Err fault)
becomes_none state journal is_in_second_half change fault batches held only_now = record {
  batches = batches;
  held = held;
  any_moment = leaves_none (state journal.device) _ only_now (λ _ left leaves. inl (held_left state journal batches held left leaves));
  done = tt;
}

-- a synced device leaves it picked
pub picks_synced : (shape : Shape) (start gate number : ℕ) (disk : DiskState) → (disk.is_honest → StandsAt shape start gate number disk) → LeavesNow disk (Picks (nat_lt 2 start))
picks_synced shape start gate number disk stands honest left leaves =
    let at = stands honest in
    let same : left ≡ disk.image = all_same disk.is_loose disk.image left at.synced.none_loose leaves in
    subst (Picks (nat_lt 2 start)) (sym same) (stands_in shape start gate number disk at)

-- the pick stands before every gate
pub gate_high : (size : ℕ) (shape : Shape) (start gate number : ℕ) → HasNextPlace size shape start gate number → 2 ≤ gate
gate_high size shape start gate number place = ⊎_elim (λ first. omega (arith, first, place.low)) (λ second. omega (arith, second, place.low)) place.halves

-- and so do changes after it
pub append_picks : (shape : Shape) (start gate number high : ℕ) (old new : DiskState) → 2 ≤ gate → (old.is_honest → StandsAt shape start gate number old)
    → ((old.is_honest → IsSynced old) → TouchesOnly (IsInRange gate high) old new) → LeavesOnly old new (Picks (nat_lt 2 start))
append_picks shape start gate number high old new low stands touched =
    leaves_weaker old new (ChangesWithin (IsInRange gate high) old.image) (Picks (nat_lt 2 start))
    (λ honest left within. ap (λ o. is_marked (unwrap_or o [])) (within.others 0 (λ is. omega (arith, is.0, low))) ∙ stands_in shape start gate number old (stands honest))
    (touched (λ honest. (stands honest).synced)).moments

-- what an image that holds batches reads as
pub holds_parts : (shape : Shape) (batches : List Batch) (image : Image) → Holds shape batches image → Parts (records_of batches)
holds_parts shape batches image holds = order_parts None (records_of batches) holds.sound.ordered

pub holds_reads : (shape : Shape) (batches : List Batch) (image : Image) (parts : Parts (records_of batches)) → Holds shape batches image → ReadsAs shape parts.base parts.entries image
holds_reads shape batches image parts holds = record {
  batches = batches;
  holds = holds;
  joined = parts.joined;
  is_base = All-from_recursion IsOfBase parts.base parts.is_base;
  are_entries = All-from_recursion IsEntry parts.entries parts.are_entries;
}

-- a synced device stands for what it is read as
pub stands_synced : (shape : Shape) (base entries : List Record) (disk : DiskState) → (disk.is_honest → IsSynced disk) → (disk.is_honest → ReadsAs shape base entries disk.image) → StandsFor shape base entries disk
stands_synced shape base entries disk synced reads honest left leaves =
    let same : left ≡ disk.image = all_same disk.is_loose disk.image left (synced honest).none_loose leaves in
    subst (ReadsAs shape base entries) (sym same) (reads honest)

-- a synced device leaves what it holds
pub holds_synced : (shape : Shape) (batches : List Batch) (disk : DiskState) → (disk.is_honest → IsSynced disk) → (disk.is_honest → Holds shape batches disk.image) → LeavesNow disk (Holds shape batches)
holds_synced shape batches disk synced holds honest left leaves =
    let same : left ≡ disk.image = all_same disk.is_loose disk.image left (synced honest).none_loose leaves in
    subst (Holds shape batches) (sym same) (holds honest)

-- batches and what they read as
pub joined_parts : (shape : Shape) (disk : DiskState) → disk.is_honest → (batches : List Batch) (base entries : List Record) → LeavesNow disk (Holds shape batches)
    → StandsFor shape base entries disk → records_of batches ≡ base ++ entries
joined_parts shape disk honest batches base entries holds stands =
    let here = changes_nothing disk.is_loose disk.image in
    let found = stands honest disk.image here in
    ap records_of (holds_unique shape batches found.batches disk.image (holds honest disk.image here) found.holds) ∙ found.joined

-- what an opening has found
pub opens : (old new : DiskState) (shape : Shape) (start gate number : ℕ) → ReadsOnly old new → new.failures ≡ old.failures → NoneFails old new → (old.is_honest → IsSynced new)
    → (old.is_honest → StandsAt shape start gate number new) → Opens old new shape (gate - start)
opens old new shape start gate number only failures armed synced stands = record {
  moments = only.touched.moments;
  runs = only.runs;
  writes = only.writes;
  failures = failures;
  armed = armed;
  synced = synced;
  image = only.image;
  saved = only.saved;
  seen = only.touched.within;
  holds = λ honest. (let at = stands honest in (at.batches, holds_synced shape at.batches new (λ _. synced honest) (λ _. at.holds), omega (arith, at.at, at.starts)));
  found = λ honest other batches holds.
      (let at = stands honest in
      let one : other ≡ shape = stamp_unique other shape new.image holds.stamped at.holds.stamped in
      let same = holds_unique shape at.batches batches new.image at.holds (subst (λ (s : Shape). Holds s batches new.image) one holds) in
      (one, omega (arith, at.at, at.starts, ap used same)));
  joined = λ honest. joined_parts shape new (only.runs.honest.1 honest);
  stands = λ honest.
      (let at = stands honest in
      let parts : Parts (records_of at.batches) = holds_parts shape at.batches new.image at.holds in
      (parts.base, parts.entries, stands_synced shape parts.base parts.entries new (λ _. synced honest) (λ _. holds_reads shape at.batches new.image parts at.holds)));
}

pub ready : (shape : Shape) (start gate number n : ℕ) (old : DiskState) (items : List Record) → (stands : StandsAt shape start gate number old) → n ≡ size_of (new_batch items) → gate - start + n + 2 ≤ shape.half
    → IsBody number (new_batch items) (batch_body number (new_batch items)) → All IsEntry items → IsReady shape stands.batches (new_batch items) gate (batch_body number (new_batch items)) old
ready shape start gate number n old items stands is room spelled kinds =
    let size = length-batch_body number (new_batch items) in
    record {
      synced = stands.synced;
      holds = stands.holds;
      at = stands.at;
      room = omega (arith, stands.starts, stands.at, room, is, size);
      spelled = subst (λ k. IsBody k (new_batch items) (batch_body number (new_batch items))) stands.counts spelled;
      size = size;
      sound = sound_push stands.batches items stands.holds.sound kinds;
    }

module _ (shape : Shape) (start gate number : ℕ) (old : DiskState) (stands : old.is_honest → StandsAt shape start gate number old) (batches : List Batch) (lists : LeavesNow old (Holds shape batches)) where
  -- the batches that it stands at are these
  pub same_batches : (honest : old.is_honest) → (stands honest).batches ≡ batches
  same_batches honest =
      let at = stands honest in
      holds_unique shape at.batches batches old.image at.holds (lists honest old.image (changes_nothing old.is_loose old.image))

pub stands_then : (shape : Shape) (start gate number n : ℕ) (old new : DiskState) (batch : Batch) → (stands : StandsAt shape start gate number old) → n ≡ size_of batch
    → HoldsSafely shape (stands.batches ++ batch ∷ []) (start_of shape.half old.image) new → StandsAt shape start (gate + (n + 1)) (number + 1) new
stands_then shape start gate number n old new batch stands is settled = record {
  batches = stands.batches ++ batch ∷ [];
  synced = settled.synced;
  holds = settled.holds;
  starts = stands.starts ∙ sym settled.from;
  at = omega (arith, stands.at, settled.from, used_more stands.batches batch, is);
  counts = omega (arith, stands.counts, length-append stands.batches (batch ∷ []));
}

pub seen_then : {D : Type 0} (state : D → DiskState) (device : D) (shape : Shape) (start gate number n : ℕ) (is_broken : Bool) (failures_at_opening : ℕ) (old : DiskState) (batch : Batch) (stands : StandsAt shape start gate number old)
    → n ≡ size_of batch → HoldsSafely shape (stands.batches ++ batch ∷ []) (start_of shape.half old.image) (state device)
    → JournalHolds state (record { device = device; shape = shape; is_in_second_half = nat_lt 2 start; used = gate + (n + 1) - start; number = number + 1; failures_at_opening = failures_at_opening; is_broken = is_broken }) (stands.batches ++ batch ∷ [])
unfolding stands_then
seen_then state device shape start gate number n is_broken failures_at_opening old batch stands is settled =
    stands_seen state device shape start (gate + (n + 1)) (number + 1) is_broken failures_at_opening (stands_then shape start gate number n old (state device) batch stands is settled)

-- Where it stood before calls that wrote nothing, none of which failed or of which it is told, it stands still.
pub stands_again : (at : Place) (now_broken before_broken is_broken : Bool) (failures_at_opening : ℕ) (old new : DiskState)
    → IsJournal at before_broken failures_at_opening old → ReadsOnly old new
    → (now_broken ≡ false → new.is_honest → IsSynced new) → (now_broken ≡ true → old.failures < new.failures)
    → (now_broken ≡ true → is_broken ≡ true) → (now_broken ≡ false → is_broken ≡ before_broken)
    → IsJournal at is_broken failures_at_opening new
stands_again at now_broken before_broken is_broken failures_at_opening old new was only safe failed breaks stays = record {
  place = subst (λ n. HasNextPlace n at.shape at.start at.gate at.number) (sym only.runs.size) was.place;
  counted = omega (arith, was.counted, only.runs.failures);
  failed = by_state now_broken refl;
  stands = λ whole honest_new. still now_broken refl whole honest_new;
}
  where
    by_state : (b : Bool) → now_broken ≡ b → is_broken ≡ true → failures_at_opening < new.failures
    by_state true is broken = omega (arith, was.counted, failed is)
    by_state false is broken = omega (arith, was.failed (sym (stays is) ∙ broken), only.runs.failures)

    still : (b : Bool) → now_broken ≡ b → is_broken ≡ false → new.is_honest → StandsAt at.shape at.start at.gate at.number new
    still true is whole honest_new = absurd (cc (breaks is, whole))
    still false is whole honest_new =
        let honest = only.runs.honest.0 honest_new in
        let stood = was.stands (sym (stays is) ∙ whole) honest in
        let same : new.image ≡ old.image = all_same old.is_loose old.image new.image stood.synced.none_loose (only.touched.within honest) in
        record {
          batches = stood.batches;
          synced = safe is honest_new;
          holds = subst (Holds at.shape stood.batches) (sym same) stood.holds;
          starts = stood.starts ∙ ap (start_of at.shape.half) (sym same);
          at = stood.at ∙ ap (λ (i : Image). start_of at.shape.half i + used stood.batches) (sym same);
          counts = stood.counts;
        }
