-- What the batches of a journal make of a reading.
use Rattle.std.proofs.Common.{◌≡◌, ◌<◌, ◌≤◌, ◌+◌, ◌*◌, ◌⊎◌, ⊎_elim, ℕ, zero, suc, Bool, true, false, List, [], ◌∷◌, ◌++◌, Some, None, length, take, drop, get_or, refl, sym, ◌∙◌, ap, subst, arith}
use Rattle.std.specs.Prelude.{slice_get, All}
use Rattle.std.proofs.lemmas.List.Elements.{All-nil, All-cons, All-head, All-tail}
use Rattle.std.proofs.lemmas.Option.{get_or_from_slice_get, slice_get_within}
use Rattle.lift_base.specs.declared.limits.TheConstants.{MOST_ENTRIES}
use Rattle.lift_base.specs.declared.history.Record.{Record}
use Rattle.lift_base.specs.declared.history.Shape.{Shape}
use Rattle.lift_building.specs.Plan.{Plan}
use Rattle.lift_disk.specs.Disk.{Image}
use Rattle.lift_register.specs.Register.{RegisterState, empty}
use Rattle.lift_journal.specs.Layout.{Batch, records_of, Holds, IsChain, size_of, start_of, used}
use Rattle.lift_journal.specs.Order.{MayFollow, last_record_after}
use Rattle.lift_journal.specs.Visits.{TakesAll}
use Rattle.lift_journal.specs.lemmas.Chains.{used_below}
use Rattle.lift_journal.specs.lemmas.Orders.{order_at}
use Rattle.lift_keeper.specs.Reading.{ReadingState, ReadsBatch, reading_from, most_records}
use Rattle.lift_keeper.specs.Recovery.{RecordFits, with_all, IsFirstMisfit, RecoveryState, beginning, AllPass, all_passed, EndsAtMisfit}
use Rattle.lift_keeper.proofs.Recoveries.{pass_then, passed_then, register_passed, taken_passed, plan_passed, open_passed, fits_passed, passes_here, ended_closed, MakesRegister, is_unended}

pub not_true : (b : Bool) → (b ≡ true → ⊥) → b ≡ false
not_true false never = refl
not_true true never = absurd (never refl)

not_both : (b : Bool) → b ≡ true → b ≡ false → ⊥
not_both b is isnt = cc (is, isnt)

take_over : (first later : List Record) (n p : ℕ) → n ≡ length first + p → take n (first ++ later) ≡ first ++ take p later
take_over [] later n p e = let same : n ≡ p = omega arith in ap (λ k. take k later) same
take_over (x ∷ first) later zero p e = absurd (omega arith)
take_over (x ∷ first) later (suc n) p e = ap (λ (l : List Record). x ∷ l) (take_over first later n p (omega arith))

get_over : (first later : List Record) (n p : ℕ) → n ≡ length first + p → slice_get (first ++ later) n ≡ slice_get later p
get_over [] later n p e = let same : n ≡ p = omega arith in ap (slice_get later) same
get_over (x ∷ first) later zero p e = absurd (omega arith)
get_over (x ∷ first) later (suc n) p e = get_over first later n p (omega arith)

take_front : (first later : List Record) (p : ℕ) → p ≤ length first → take p (first ++ later) ≡ take p first
take_front first later zero le = refl
take_front [] later (suc p) le = absurd (omega arith)
take_front (x ∷ first) later (suc p) le = ap (λ (l : List Record). x ∷ l) (take_front first later p (omega arith))

get_front : (first later : List Record) (p : ℕ) (x : Record) → slice_get first p ≡ Some x → slice_get (first ++ later) p ≡ Some x
get_front [] later p x is = absurd (cc is)
get_front (y ∷ first) later zero x is = is
get_front (y ∷ first) later (suc p) x is = get_front first later p x is

length_front : (first : List Record) (p : ℕ) → p ≤ length first → length (take p first) ≡ p
length_front first zero le = refl
length_front [] (suc p) le = absurd (omega arith)
length_front (x ∷ first) (suc p) le = omega (arith, length_front first p (omega arith))

-- a record can't be taken in, whatever stands after it
stops_before : (old new : RecoveryState) (first later : List Record) → EndsAtMisfit old new first → EndsAtMisfit old new (first ++ later)
stops_before old new first later stops =
    let inside = slice_get_within first stops.place stops.misfit stops.there in
    let same : take stops.place (first ++ later) ≡ take stops.place first = take_front first later stops.place (omega (arith, inside)) in
    record {
      place = stops.place;
      misfit = stops.misfit;
      there = get_front first later stops.place stops.misfit stops.there;
      pass = subst (AllPass old) (sym same) stops.pass;
      same = stops.same ∙ ap (all_passed old) (sym same);
      fails = stops.fails;
    }

-- and whatever was taken in before it
stops_later : (old mid new : RecoveryState) (first later : List Record) → AllPass old first → mid ≡ all_passed old first → EndsAtMisfit mid new later → EndsAtMisfit old new (first ++ later)
stops_later old mid new first later pass is stops =
    let front = take stops.place later in
    let same : take (length first + stops.place) (first ++ later) ≡ first ++ front = take_over first later (length first + stops.place) stops.place refl in
    record {
      place = length first + stops.place;
      misfit = stops.misfit;
      there = get_over first later (length first + stops.place) stops.place refl ∙ stops.there;
      pass = subst (AllPass old) (sym same) (pass_then old first front pass (subst (λ (s : RecoveryState). AllPass s front) is stops.pass));
      same = stops.same ∙ ap (λ (s : RecoveryState). all_passed s front) is ∙ sym (passed_then old first front) ∙ ap (all_passed old) (sym same);
      fails = stops.fails;
    }

-- what these records have made of a reading
pub record Came (old : RecoveryState) (new : ReadingState) (records : List Record) : Type 0 where
  pub passes : new.is_over ≡ false → AllPass old records × (new.recovery ≡ all_passed old records)
  pub stops : new.is_over ≡ true → EndsAtMisfit old new.recovery records

came_over : (old : RecoveryState) (next new : ReadingState) (first later : List Record) → EndsAtMisfit old next.recovery first → next.is_over ≡ true → new ≡ next → Came old new (first ++ later)
came_over old next new first later stops is same = record {
  passes = λ isnt. absurd (not_both new.is_over (ap (λ (s : ReadingState). s.is_over) same ∙ is) isnt);
  stops = λ _. stops_before old new.recovery first later (subst (λ (s : ReadingState). EndsAtMisfit old s.recovery first) (sym same) stops);
}

came_on : (old : RecoveryState) (next new : ReadingState) (first later : List Record) → AllPass old first → next.recovery ≡ all_passed old first → Came next.recovery new later → Came old new (first ++ later)
came_on old next new first later pass is came = record {
  passes = λ isnt.
      let more = came.passes isnt in (
        pass_then old first later pass (subst (λ (s : RecoveryState). AllPass s later) is more.0),
        more.1 ∙ ap (λ (s : RecoveryState). all_passed s later) is ∙ sym (passed_then old first later),
      );
  stops = λ over. stops_later old next.recovery new.recovery first later pass is (came.stops over);
}

-- after a record that can't be taken in nothing is
rests_over : (old : ReadingState) (batches : List Batch) (new : ReadingState) → old.is_over ≡ true → TakesAll ReadsBatch old batches new → new ≡ old
rests_over old [] new is all = all
rests_over old (batch ∷ batches) new is all =
    let same = all.1.rests is in
    rests_over all.0 batches new (ap (λ (s : ReadingState). s.is_over) same ∙ is) all.2 ∙ same

pub plan_read : (old : ReadingState) (batches : List Batch) (new : ReadingState) → TakesAll ReadsBatch old batches new → new.recovery.plan ≡ old.recovery.plan
plan_read old [] new all = ap (λ (s : ReadingState). s.recovery.plan) all
plan_read old (batch ∷ batches) new all = plan_read all.0 batches new all.2 ∙ all.1.plan

abbrev IsSmall : Batch → Type 0
IsSmall batch = length batch.records ≤ MOST_ENTRIES

came_all : (old : ReadingState) (batches : List Batch) (new : ReadingState) → old.is_over ≡ false → old.recovery.taken + MOST_ENTRIES * length batches ≤ most_records → All IsSmall batches → TakesAll ReadsBatch old batches new
    → Came old.recovery new (records_of batches)
came_all old [] new whole few small all = record {
  passes = λ _. (tt, ap (λ (s : ReadingState). s.recovery) all);
  stops = λ over. absurd (not_both old.is_over (sym (ap (λ (s : ReadingState). s.is_over) all) ∙ over) whole);
}
came_all old (batch ∷ batches) new whole few small all =
    elim all.0.is_over as (λ (b : Bool). all.0.is_over ≡ b → Came old.recovery new (batch.records ++ records_of batches)) [
      | true ↦ λ is.
          ⊎_elim
          (λ stops. came_over old.recovery all.0 new batch.records (records_of batches) stops is (rests_over all.0 batches new is all.2))
          (λ many. absurd (omega (arith, many, few)))
          (all.1.ends whole is)
      | false ↦ λ is.
          let took = all.1.passes whole is in
          let count : all.0.recovery.taken ≡ old.recovery.taken + length batch.records = ap (λ (s : RecoveryState). s.taken) took.1 ∙ taken_passed old.recovery batch.records in
          let size : length batch.records ≤ MOST_ENTRIES = All-head IsSmall batch batches small in
          came_on old.recovery all.0 new batch.records (records_of batches) took.0 took.1
          (came_all all.0 batches new is (omega (arith, few, count, size)) (All-tail IsSmall batch batches small) all.2)
    ] refl

-- a half has not this many records
few_batches : (batches : List Batch) → length batches ≤ used batches
few_batches [] = omega arith
few_batches (batch ∷ batches) = omega (arith, few_batches batches)

small_batches : (batches : List Batch) (number : ℕ) (sectors : Image) → IsChain batches number sectors → All IsSmall batches
small_batches [] number sectors chain = All-nil IsSmall
small_batches (batch ∷ batches) number [] chain = absurd chain
small_batches (batch ∷ batches) number (gate ∷ rest) chain =
    All-cons IsSmall batch batches chain.1.few (small_batches batches (number + 1) (drop (size_of batch) rest) chain.2)

module _ (plan : Plan) (shape : Shape) (batches : List Batch) (image : Image) (reading : ReadingState) (holds : Holds shape batches image)
    (all : TakesAll ReadsBatch (reading_from plan) batches reading) where
  came : Came (beginning plan) reading (records_of batches)
  came =
      let below = used_below shape batches image image (start_of shape.half image + used batches) holds refl (record { size = refl; others = λ i _. refl }) in
      came_all (reading_from plan) batches reading refl (omega (arith, few_batches batches, below, holds.stamped.within.half))
      (small_batches batches 1 (take shape.half (drop (start_of shape.half image) image)) holds.chain) all

  pub makes : reading.is_over ≡ false → MakesRegister plan batches reading.recovery.register
  makes whole =
      let took = came.passes whole in
      record {
        fit = fits_passed (beginning plan) (records_of batches) took.0;
        is = ap (λ (s : RecoveryState). s.register) took.1 ∙ register_passed (beginning plan) (records_of batches);
      }

  closed : reading.is_over ≡ false → reading.recovery.is_open ≡ false
  closed whole =
      ap (λ (s : RecoveryState). s.is_open) (came.passes whole).1 ∙ open_passed (beginning plan) None (records_of batches) refl
      ∙ ended_closed (last_record_after None (records_of batches)) holds.sound.complete

  -- a record can't be taken
  misfits : reading.is_over ≡ true → IsFirstMisfit plan (records_of batches) reading.recovery.taken
  misfits over =
      let stops = came.stops over in
      let records = records_of batches in
      let state = reading.recovery in
      let inside : stops.place < length records = slice_get_within records stops.place stops.misfit stops.there in
      let place : state.taken ≡ stops.place =
      omega (arith, ap (λ (s : RecoveryState). s.taken) stops.same, taken_passed (beginning plan) (take stops.place records), length_front records stops.place (omega (arith, inside))) in
      let front = take state.taken records in
      let same : take stops.place records ≡ front = ap (λ n. take n records) (sym place) in
      let found : slice_get records state.taken ≡ Some stops.misfit = ap (slice_get records) place ∙ stops.there in
      let passes : AllPass (beginning plan) front = subst (AllPass (beginning plan)) same stops.pass in
      let state_at : state ≡ all_passed (beginning plan) front = stops.same ∙ ap (all_passed (beginning plan)) same in
      let may : MayFollow (last_record_after None front) (get_or records state.taken stops.misfit) =
      order_at None records state.taken stops.misfit (slice_get_within records state.taken stops.misfit found) holds.sound.ordered in
      let may_here : MayFollow (last_record_after None front) stops.misfit =
      subst (MayFollow (last_record_after None front)) (get_or_from_slice_get records state.taken stops.misfit stops.misfit found) may in
      let is_open : state.is_open ≡ is_unended (last_record_after None front) =
      ap (λ (s : RecoveryState). s.is_open) state_at ∙ open_passed (beginning plan) None front refl in
      let same_plan : state.plan ≡ plan = ap (λ (s : RecoveryState). s.plan) state_at ∙ plan_passed (beginning plan) front in
      let same_register : state.register ≡ with_all empty front = ap (λ (s : RecoveryState). s.register) state_at ∙ register_passed (beginning plan) front in
      record {
        fit = fits_passed (beginning plan) front passes;
        misfit = stops.misfit;
        there = found;
        fails = λ fits.
            let of_register : RecordFits plan state.register stops.misfit = subst (λ (r : RegisterState). RecordFits plan r stops.misfit) (sym same_register) fits in
            let of_plan : RecordFits state.plan state.register stops.misfit = subst (λ (q : Plan). RecordFits q state.register stops.misfit) (sym same_plan) of_register in
            stops.fails (passes_here state (last_record_after None front) stops.misfit is_open may_here of_plan);
      }

  -- no register: a record can't be taken, because the batches end no checkpoint that they have open
  pub none_made : (reading.is_over ≡ true) ⊎ (reading.recovery.is_open ≡ true) → IsFirstMisfit plan (records_of batches) reading.recovery.taken
  none_made none =
      elim reading.is_over as (λ (b : Bool). reading.is_over ≡ b → IsFirstMisfit plan (records_of batches) reading.recovery.taken) [
        | true ↦ λ is. misfits is
        | false ↦ λ is. ⊎_elim (λ over. absurd (not_both reading.is_over over is)) (λ open_still. absurd (not_both reading.recovery.is_open open_still (closed is))) none
      ] refl
