-- The batches of a checkpoint, one after another.
use Rattle.std.proofs.Common.{◌≡◌, ◌<◌, ◌≤◌, ◌+◌, ◌-◌, ◌*◌, ℕ, zero, suc, List, [], ◌∷◌, ◌++◌, None, length, take, drop, slice_get, slice_set, min, All, refl, sym, ◌∙◌, ap, subst, arith, append_assoc, length-take}
use Rattle.std.specs.Option.{option_to_list}
use Rattle.std.specs.List.{AllByRecursion}
use Rattle.std.proofs.lemmas.List.{append-nil, take-take, take-append-drop, take-append-le, drop-drop, drop-take, drop-set-lt, take-set-le, length-set}
use Rattle.std.proofs.lemmas.List.Elements.{recursion_from_All, All-from_recursion, All-take, All-drop}
use Rattle.lift_base.specs.declared.history.Record.{Record}
use Rattle.lift_base.specs.Records.{IsRecord, IsLawful}
use Rattle.lift_register.specs.Register.{RegisterState}
use Rattle.lift_register.specs.Base.{base_records}
use Rattle.lift_register.specs.WellFormed.{IsWellFormed}
use Rattle.lift_base.specs.declared.limits.TheConstants.{LEAST_HALF, MOST_ENTRIES}
use Rattle.lift_record.specs.declared.version.Version.{Version}
use Rattle.lift_record.specs.declared.version.Version.TheVariants.{One, Two}
use Rattle.lift_record.specs.Version.{version_number}
use Rattle.lift_disk.specs.Disk.{DiskState, Image, RunsOn, LooseWithin, TouchesOnly, IsSteadyAt, IsWhole}
use Rattle.lift_disk.specs.lemmas.Moments.{runs_then, touches_then}
use Rattle.lift_journal.specs.Order.{IsInOrderAfter, MayEnd, last_record_after}
use Rattle.lift_journal.specs.Layout.{Batch, new_batch, body_size, size_of, used, NeverFall, IsSound, IsBody, is_marked, IsOpen, sector_at}
use Rattle.lift_journal.specs.Steps.{overwritten, marked, IsInRange}
use Rattle.lift_journal.specs.Walk.{AreFirstBatches, MayBeginChain, Reaches}
use Rattle.lift_journal.specs.Checkpoint.{in_batches, batch_count, checkpoint_of, sectors_for}
use Rattle.lift_journal.specs.Armed.{NoneFails}
use Rattle.lift_disk.specs.Trace.{Access}
use Rattle.lift_disk.specs.Trace.Access.{Write}
use Rattle.lift_journal.specs.Calls.{batch_body, draft_calls, writes_from, MakesPrefix}
use Rattle.lift_journal.proofs.Following.{all_then, front_then, front_more}
use Rattle.lift_journal.specs.lemmas.Telling.{passes_then}
use Rattle.lift_journal.proofs.Appends.{overwritten_there, length-overwritten, sector_set}
use Rattle.lift_journal.proofs.Bases.{base_in_order, base_complete}
use Rattle.lift_journal.specs.lemmas.Chains.{used_more}
use Rattle.lift_journal.specs.lemmas.Folding.{batch_at, batches_more, records_in, length_batches, used_checkpoint, checkpoint_records}
use Rattle.lift_journal.specs.lemmas.Orders.{order_front}
use Rattle.lift_journal.proofs.Seeing.{bodies_few}
use Rattle.lift_journal.proofs.Texts.{length-batch_body}
use Rattle.lift_journal.proofs.Walks.{front_same, reaches_more}

-- the next record, if there is one
take_one : {X : Type 0} (xs : List X) (k : ℕ) → take k xs ++ option_to_list (slice_get xs k) ≡ take (suc k) xs
take_one [] zero = refl
take_one [] (suc k) = refl
take_one (x ∷ xs) zero = refl
take_one (x ∷ xs) (suc k) = ap (λ l. x ∷ l) (take_one xs k)

get_dropped : {X : Type 0} (from k : ℕ) (xs : List X) → slice_get (drop from xs) k ≡ slice_get xs (from + k)
get_dropped zero k xs = ap (slice_get xs) (let same : k ≡ 0 + k = omega arith in same)
get_dropped (suc from) k [] = refl
get_dropped (suc from) k (x ∷ xs) = get_dropped from k xs ∙ ap (slice_get (x ∷ xs)) (let same : suc (from + k) ≡ suc from + k = omega arith in same)

pub take_next : {X : Type 0} (xs : List X) (from k : ℕ) → take k (drop from xs) ++ option_to_list (slice_get xs (from + k)) ≡ take (suc k) (drop from xs)
take_next xs from k = ap (λ o. take k (drop from xs) ++ option_to_list o) (sym (get_dropped from k xs)) ∙ take_one (drop from xs) k

-- two fronts that are as long are one
pub take_as_far : {X : Type 0} (m n : ℕ) (xs : List X) → min m (length xs) ≡ min n (length xs) → take m xs ≡ take n xs
take_as_far zero zero xs same = refl
take_as_far zero (suc n) [] same = refl
take_as_far zero (suc n) (x ∷ xs) same = absurd (omega (arith, same))
take_as_far (suc m) zero [] same = refl
take_as_far (suc m) zero (x ∷ xs) same = absurd (omega (arith, same))
take_as_far (suc m) (suc n) [] same = refl
take_as_far (suc m) (suc n) (x ∷ xs) same = ap (λ l. x ∷ l) (take_as_far m n xs (omega (arith, same)))

pub used_most : (count : ℕ) (records : List Record) → used (in_batches count records) ≤ 3 * count
used_most zero records = omega arith
used_most (suc count) records = omega (arith, bodies_few (length (take MOST_ENTRIES records)), used_most count (drop MOST_ENTRIES records))

pub used_rises : (early late : ℕ) (records : List Record) → early ≤ late → used (in_batches early records) ≤ used (in_batches late records)
used_rises zero late records le = omega arith
used_rises (suc early) zero records le = absurd (omega arith)
used_rises (suc early) (suc late) records le = omega (arith, used_rises early late (drop MOST_ENTRIES records) (omega arith))

-- the next batch is one of them
pub used_within : (count end size : ℕ) (records items : List Record) → count < end → end ≡ batch_count (length records) → 1 ≤ length records → items ≡ take MOST_ENTRIES (drop (MOST_ENTRIES * count) records) → size ≡ body_size (length items)
    → used (in_batches count records) + (1 + size) ≤ sectors_for (length records)
used_within count end size records items below all some is sized =
    let batch : size ≡ size_of (batch_at count records) = sized ∙ ap (λ (l : List Record). body_size (length l)) is in
    omega (arith, batch, used_more (in_batches count records) (batch_at count records), ap used (batches_more count records), used_rises (suc count) (batch_count (length records)) records (omega (arith, below, all)), used_checkpoint records some)

never_fall : (version : Version) (count : ℕ) (records : List Record) → version_number version ≤ 2 → NeverFall version (in_batches count records)
never_fall version zero records low = tt
never_fall version (suc count) records low = (low, never_fall Two count (drop MOST_ENTRIES records) (omega arith))

order_take : (count : ℕ) (records : List Record) → IsInOrderAfter None records → IsInOrderAfter None (take count records)
order_take count records order = order_front None (take count records) (drop count records) (subst (IsInOrderAfter None) (sym (take-append-drop count records)) order)

pub sound_front : (count : ℕ) (records : List Record) → IsInOrderAfter None records → MayBeginChain (in_batches count records)
sound_front count records order = record {
  versions = never_fall One count records (omega arith);
  ordered = subst (IsInOrderAfter None) (sym (records_in count records)) (order_take (MOST_ENTRIES * count) records order);
}

pub checkpoint_sound : (register : RegisterState) → IsWellFormed register → IsSound (checkpoint_of (base_records register))
checkpoint_sound register formed =
    let records = base_records register in
    record {
      versions = never_fall One (batch_count (length records)) records (omega arith);
      ordered = subst (IsInOrderAfter None) (sym (checkpoint_records records)) (base_in_order register formed);
      complete = subst (λ (rs : List Record). MayEnd (last_record_after None rs)) (sym (checkpoint_records records)) (base_complete register);
    }

pub lawful_part : (from : ℕ) (records : List Record) → All IsRecord records → All IsLawful (take MOST_ENTRIES (drop from records))
lawful_part from records each =
    let part = take MOST_ENTRIES (drop from records) in
    All-from_recursion IsLawful part (both part (recursion_from_All IsRecord part (All-take IsRecord MOST_ENTRIES (drop from records) (All-drop IsRecord from records each))))
  where
    both : (part : List Record) → AllByRecursion IsRecord part → AllByRecursion IsLawful part
    both [] each = tt
    both (next ∷ part) each = (each.0.1, both part each.1)

-- The batches of a front stand wherever the sectors before its gate do.
pub reaches_same : (start end gate : ℕ) (batches : List Batch) (old new : Image) → Reaches old start end gate batches → gate < end → take gate new ≡ take gate old → Reaches new start end gate batches
reaches_same start end gate batches old new reached below same = record { front = front; sound = record { versions = reached.sound.versions; ordered = reached.sound.ordered }; at = reached.at }
  where
    window : (image : Image) → take (used batches) (drop start image) ≡ drop start (take gate image)
    window image = sym (ap (λ n. drop start (take n image)) reached.at ∙ drop-take start (used batches) image)

    front : AreFirstBatches batches 1 (take (end - start) (drop start new))
    front =
        let u = used batches in
        let short : u ≤ end - start = omega (arith, reached.at, below) in
        front_same batches 1 (take (end - start) (drop start old)) (take (end - start) (drop start new)) reached.front
        (take-take u (end - start) (drop start new) short ∙ window new ∙ ap (drop start) same ∙ sym (window old) ∙ sym (take-take u (end - start) (drop start old) short))

-- One batch more stands in a half that is being written.
module _ (start end gate : ℕ) (batches : List Batch) (batch : Batch) (body old new : Image) (reached : Reaches old start end gate batches) (whole : end ≤ length old)
    (room : gate + 1 + length body < end) (size : length body ≡ size_of batch) (spelled : IsBody (1 + length batches) batch body) (sound : MayBeginChain (batches ++ batch ∷ []))
    (is : new ≡ slice_set (overwritten old (gate + 1) body) gate marked) where
  base : Image
  base = overwritten old (gate + 1) body

  long : length base ≡ length old
  unfolding base
  long = length-overwritten old (gate + 1) body (omega (arith, room, whole))

  size_same : length new ≡ length old
  unfolding base
  size_same = ap length is ∙ length-set base gate marked ∙ long

  below : take gate new ≡ take gate old
  unfolding base
  below =
      let rest = body ++ drop (gate + 1 + length body) old in
      ap (take gate) is ∙ take-set-le gate base gate marked (omega arith)
      ∙ ap (take gate) (append_assoc (take (gate + 1) old) body (drop (gate + 1 + length body) old))
      ∙ take-append-le gate (take (gate + 1) old) rest (omega (arith, length-take (gate + 1) old, room, whole))
      ∙ take-take gate (gate + 1) old (omega arith)

  opened : IsOpen (sector_at new gate)
  unfolding base
  opened = ap (λ (l : Image). is_marked (sector_at l gate)) is ∙ ap is_marked (sector_set base gate marked (omega (arith, long, room, whole)))

  there : take (length body) (drop (gate + 1) new) ≡ body
  unfolding base
  there =
      ap (λ (l : Image). take (length body) (drop (gate + 1) l)) is ∙ ap (take (length body)) (drop-set-lt (gate + 1) base gate marked (omega arith))
      ∙ overwritten_there old (gate + 1) body (omega (arith, room, whole))

  pub reaches_next : Reaches new start end (gate + (1 + size_of batch)) (batches ++ batch ∷ [])
  reaches_next =
      reaches_more new start end gate batches (reaches_same start end gate batches old new reached (omega (arith, room)) below)
      (omega (arith, room)) (omega (arith, size_same, whole)) batch opened
      (record {
        body = subst (λ k. IsBody (1 + length batches) batch (take k (drop (gate + 1) new))) size (subst (IsBody (1 + length batches) batch) (sym there) spelled);
        next = omega (arith, room, size);
      }) sound

-- the calls that write some batches, and then others after them
draft_append : (gate number : ℕ) (first second : List Batch)
    → draft_calls gate number (first ++ second) ≡ draft_calls gate number first ++ draft_calls (gate + used first) (number + length first) second
draft_append gate number [] second =
    ap (λ g. draft_calls g number second) (let same : gate ≡ gate + 0 = omega arith in same)
    ∙ ap (λ n. draft_calls (gate + 0) n second) (let same : number ≡ number + 0 = omega arith in same)
draft_append gate number (batch ∷ first) second =
    let calls = writes_from (gate + 1) (batch_body number batch) ++ Write gate marked ∷ [] in
    let next = gate + (1 + size_of batch) in
    let done = draft_calls next (number + 1) first in
    ap (λ (l : List Access). calls ++ l) (draft_append next (number + 1) first second)
    ∙ sym (append_assoc calls done (draft_calls (next + used first) (number + 1 + length first) second))
    ∙ ap (λ g. (calls ++ done) ++ draft_calls g (number + 1 + length first) second) (let same : next + used first ≡ gate + suc (size_of batch + used first) = omega arith in same)
    ∙ ap (λ n. (calls ++ done) ++ draft_calls (gate + suc (size_of batch + used first)) n second) (let same : number + 1 + length first ≡ number + suc (length first) = omega arith in same)

batches_split : (count more : ℕ) (records : List Record) → in_batches (count + more) records ≡ in_batches count records ++ in_batches more (drop (MOST_ENTRIES * count) records)
batches_split zero more records =
    ap (λ n. in_batches n records) (let same : 0 + more ≡ more = omega arith in same)
    ∙ ap (λ n. in_batches more (drop n records)) (let same : 0 ≡ MOST_ENTRIES * 0 = omega arith in same)
batches_split (suc count) more records =
    let first : Batch = record { version = Two; records = take MOST_ENTRIES records } in
    let place : drop (MOST_ENTRIES * count) (drop MOST_ENTRIES records) ≡ drop (MOST_ENTRIES * suc count) records =
    drop-drop (MOST_ENTRIES * count) MOST_ENTRIES records ∙ ap (λ n. drop n records) (let sum : MOST_ENTRIES + MOST_ENTRIES * count ≡ MOST_ENTRIES * suc count = omega arith in sum) in
    ap (λ n. in_batches n records) (let same : suc count + more ≡ suc (count + more) = omega arith in same)
    ∙ ap (λ (l : List Batch). first ∷ l) (batches_split count more (drop MOST_ENTRIES records))
    ∙ ap (λ (l : List Record). first ∷ (in_batches count (drop MOST_ENTRIES records) ++ in_batches more l)) place

-- those of the next batch, whatever stands after it
draft_next : (start gate count : ℕ) (records : List Record) (tail : List Batch) (body : Image) → gate ≡ start + used (in_batches count records) → body ≡ batch_body (count + 1) (batch_at count records)
    → draft_calls start 1 (in_batches count records ++ batch_at count records ∷ tail)
    ≡ draft_calls start 1 (in_batches count records) ++ ((writes_from (gate + 1) body ++ Write gate marked ∷ []) ++ draft_calls (gate + (1 + size_of (batch_at count records))) (count + 1 + 1) tail)
draft_next start gate count records tail body at is =
    let batches = in_batches count records in
    let batch = batch_at count records in
    let done = draft_calls start 1 batches in
    draft_append start 1 batches (batch ∷ tail)
    ∙ ap (λ g. done ++ draft_calls g (1 + length batches) (batch ∷ tail)) (sym at)
    ∙ ap (λ n. done ++ draft_calls gate n (batch ∷ tail)) (let same : 1 + length batches ≡ count + 1 = omega (arith, length_batches count records) in same)
    ∙ ap (λ (b : Image). done ++ ((writes_from (gate + 1) b ++ Write gate marked ∷ []) ++ draft_calls (gate + (1 + size_of batch)) (count + 1 + 1) tail)) (sym is)

-- the calls of all batches, where one of the next fails
pub draft_makes_front : (old now new : DiskState) (start gate count end : ℕ) (records : List Record) (body : Image) → gate ≡ start + used (in_batches count records) → body ≡ batch_body (count + 1) (batch_at count records)
    → count < end → now.trace ≡ old.trace ++ draft_calls start 1 (in_batches count records) → MakesPrefix (writes_from (gate + 1) body ++ Write gate marked ∷ []) now new
    → MakesPrefix (draft_calls start 1 (in_batches end records)) old new
draft_makes_front old now new start gate count end records body at is below was front =
    let calls = writes_from (gate + 1) body ++ Write gate marked ∷ [] in
    let done = draft_calls start 1 (in_batches count records) in
    let tail = in_batches (end - count - 1) (drop MOST_ENTRIES (drop (MOST_ENTRIES * count) records)) in
    let rest = draft_calls (gate + (1 + size_of (batch_at count records))) (count + 1 + 1) tail in
    let whole : in_batches end records ≡ in_batches count records ++ batch_at count records ∷ tail =
    ap (λ n. in_batches n records) (let sum : end ≡ count + suc (end - count - 1) = omega (arith, below) in sum) ∙ batches_split count (suc (end - count - 1)) records in
    subst (λ (l : List Access). MakesPrefix l old new) (sym (ap (draft_calls start 1) whole ∙ draft_next start gate count records tail body at is))
    (front_then old now new done (calls ++ rest) was (front_more now new calls rest front))

-- From the start on this many batches of a checkpoint are written.
pub record Drafted (old now : DiskState) (start gate count : ℕ) (records : List Record) : Type 0 where
  pub runs : RunsOn old now
  pub calls : now.calls ≡ old.calls + used (in_batches count records)
  pub writes : now.writes ≡ old.writes + used (in_batches count records)
  pub failures : now.failures ≡ old.failures
  pub armed : NoneFails old now
  pub trace : now.trace ≡ old.trace ++ draft_calls start 1 (in_batches count records)
  pub touched : LooseWithin (IsInRange start (start + LEAST_HALF)) old → TouchesOnly (IsInRange start (start + LEAST_HALF)) old now
  pub at : gate ≡ start + used (in_batches count records)
  pub steady : old.is_honest → old.is_steady → now.is_steady
  pub reached : old.is_honest → old.is_steady → (end : ℕ) → start + LEAST_HALF ≤ end → end ≤ old.size → Reaches now.image start end gate (in_batches count records)

module _ (old now new : DiskState) (start gate count : ℕ) (records : List Record) (so_far : Drafted old now start gate count records) where
  -- the next batch touches no sector beyond
  pub drafted_touched : (size : ℕ) → gate + 1 + size ≤ start + LEAST_HALF
      → ((low high : ℕ) → low ≤ gate → gate + 1 + size ≤ high → LooseWithin (IsInRange low high) now → TouchesOnly (IsInRange low high) now new)
      → LooseWithin (IsInRange start (start + LEAST_HALF)) old → TouchesOnly (IsInRange start (start + LEAST_HALF)) old new
  drafted_touched size room touched loose =
      let before = so_far.touched loose in
      touches_then (IsInRange start (start + LEAST_HALF)) old now new before (touched start (start + LEAST_HALF) (omega (arith, so_far.at)) room before.loose)

  pub drafted_more : (body : Image) → gate + 1 + length body < start + LEAST_HALF → length body ≡ size_of (batch_at count records)
      → IsBody (count + 1) (batch_at count records) body → IsInOrderAfter None records
      → RunsOn now new → new.calls ≡ now.calls + (1 + length body) → new.writes ≡ now.writes + (1 + length body) → new.failures ≡ now.failures → NoneFails now new
      → body ≡ batch_body (count + 1) (batch_at count records) → new.trace ≡ now.trace ++ (writes_from (gate + 1) body ++ Write gate marked ∷ [])
      → ((low high : ℕ) → low ≤ gate → gate + 1 + length body ≤ high → LooseWithin (IsInRange low high) now → TouchesOnly (IsInRange low high) now new)
      → (now.is_honest → now.is_steady → IsSteadyAt (slice_set (overwritten now.image (gate + 1) body) gate marked) new)
      → IsWhole now
      → Drafted old new start (gate + (length body + 1)) (count + 1) records
  drafted_more body room size spelled order runs called wrote quiet armed exact made touched written whole_now =
      let batch = batch_at count records in
      let batches = in_batches count records in
      let more : in_batches (count + 1) records ≡ batches ++ batch ∷ [] =
      ap (λ n. in_batches n records) (let next : count + 1 ≡ suc count = omega arith in next) ∙ batches_more count records in
      record {
        runs = runs_then old now new so_far.runs runs;
        calls = omega (arith, called, so_far.calls, ap used more, used_more batches batch, size);
        writes = omega (arith, wrote, so_far.writes, ap used more, used_more batches batch, size);
        failures = quiet ∙ so_far.failures;
        armed = passes_then old now new so_far.runs so_far.armed armed;
        trace =
            let calls = writes_from (gate + 1) body ++ Write gate marked ∷ [] in
            let done = draft_calls start 1 batches in
            let listed : draft_calls start 1 (in_batches (count + 1) records) ≡ done ++ calls =
            ap (draft_calls start 1) more ∙ draft_next start gate count records [] body so_far.at exact ∙ ap (λ (l : List Access). done ++ l) (append-nil calls) in
            all_then old now new done calls so_far.trace made ∙ ap (λ (l : List Access). old.trace ++ l) (sym listed);
        touched = drafted_touched (length body) (omega (arith, room)) touched;
        at = omega (arith, so_far.at, ap used more, used_more batches batch, size);
        steady = λ honest steady. (written (so_far.runs.honest.1 honest) (so_far.steady honest steady)).steady;
        reached = λ honest steady end high inside.
            (let after = written (so_far.runs.honest.1 honest) (so_far.steady honest steady) in
            let next = reaches_next start end gate batches batch body now.image new.image (so_far.reached honest steady end high inside)
            (omega (arith, inside, whole_now (so_far.runs.honest.1 honest), so_far.runs.size)) (omega (arith, room, high)) size
            (subst (λ n. IsBody n batch body) (let number : count + 1 ≡ 1 + length batches = omega (arith, length_batches count records) in number) spelled)
            (subst MayBeginChain more (sound_front (count + 1) records order)) after.same in
            subst (λ g. Reaches new.image start end g (in_batches (count + 1) records)) (let place : gate + (1 + size_of batch) ≡ gate + (length body + 1) = omega (arith, size) in place)
            (subst (Reaches new.image start end (gate + (1 + size_of batch))) (sym more) next));
      }

-- the body of the next batch, of as many sectors as it takes
pub next_size : (count size : ℕ) (items : List Record) (body : Image) → body ≡ batch_body (count + 1) (new_batch items) → size ≡ body_size (length items) → length body ≡ size
next_size count size items body exact is = ap length exact ∙ length-batch_body (count + 1) (new_batch items) ∙ sym is

-- there is room for it
pub next_room : (start gate count size end : ℕ) (records items : List Record) → gate ≡ start + used (in_batches count records) → count < end → end ≤ 10 → size ≡ body_size (length items) → gate + 1 + size < start + LEAST_HALF
next_room start gate count size end records items at below few is = omega (arith, at, used_most count records, below, few, is, bodies_few (length items))
