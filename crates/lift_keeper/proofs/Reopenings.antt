-- An opening of a journal, and the register that was read as it was opened.
use Rattle.std.proofs.Common.{◌≡◌, inr, ℕ, zero, suc, Bool, List, [], ◌∷◌, ◌++◌, Some, All, take, sym, ◌∙◌, ap, subst}
use Rattle.std.specs.Prelude.{slice_get}
use Rattle.std.proofs.lemmas.List.Elements.{All-head, All-tail}
use Rattle.lift_base.specs.declared.history.Record.{Record}
use Rattle.lift_base.specs.declared.history.Record.TheVariants.{Entry as EntryRecord, Row, Last, Done}
use Rattle.lift_base.specs.declared.history.Shape.{Shape}
use Rattle.lift_building.specs.Plan.{Plan, shape_of}
use Rattle.lift_disk.specs.Disk.{DiskState, Image, LeavesNow, MayLeave}
use Rattle.lift_disk.specs.lemmas.Moments.{changes_nothing}
use Rattle.lift_register.specs.Register.{RegisterState, register_of, empty}
use Rattle.lift_register.specs.Fits.{FitFrom}
use Rattle.lift_register.specs.Base.{with_records}
use Rattle.lift_register.specs.Belongs.{BelongsTo}
use Rattle.lift_journal.specs.declared.fault.JournalFault.{JournalFault}
use Rattle.lift_journal.specs.declared.fault.JournalFault.TheVariants.{Disk}
use Rattle.lift_journal.specs.RefusedOpening.{RefusedAfter}
use Rattle.lift_journal.specs.Calls.{opening_of}
use Rattle.lift_journal.specs.Journal.{ReadsAs}
use Rattle.lift_journal.specs.Layout.{Batch, records_of, Holds, Picks}
use Rattle.lift_journal.specs.Opening.{Opens, Refuses}
use Rattle.lift_journal.specs.Order.{IsEntry}
use Rattle.lift_journal.specs.Visits.{TakesAll}
use Rattle.lift_journal.specs.lemmas.Chains.{all_same}
use Rattle.lift_keeper.specs.declared.fault.KeeperFault.{KeeperFault}
use Rattle.lift_keeper.specs.declared.fault.KeeperFault.TheVariants.{Journal, OtherBuilding, BadEntry}
use Rattle.lift_keeper.specs.Calls.{ReadsAll, ReadsUntilRefused, FailsBy, OpeningCalls, RefusedCalls}
use Rattle.lift_keeper.specs.Images.{IsImageOf}
use Rattle.lift_keeper.specs.Reading.{ReadingState, ReadsBatch, reading_from, GivesAtEnd, GivesNone}
use Rattle.lift_keeper.specs.Recovery.{RecordFits, with_next, with_all, AllFit, IsFirstMisfit, entries_of, IsRegisterOf}
use Rattle.lift_keeper.specs.Reopening.{Reopens, ReadsNow, RefusedFor, RefusesReopening}
use Rattle.lift_keeper.specs.Writer.{HoldsRegister, Guards}
use Rattle.lift_keeper.proofs.Guarding.{keeps_safe, keeps_placed}
use Rattle.lift_keeper.proofs.Histories.{register_then}
use Rattle.lift_keeper.proofs.Recoveries.{fit_then, base_fits_all, base_makes_all, MakesRegister}
use Rattle.lift_keeper.proofs.Recovering.{makes, none_made}

-- records that all fit have no misfit
fit_at : (plan : Plan) (register : RegisterState) (records : List Record) (k : ℕ) (next : Record) → slice_get records k ≡ Some next → AllFit plan register records
    → RecordFits plan (with_all register (take k records)) next
fit_at plan register [] k next is fit = absurd (cc is)
fit_at plan register (first ∷ records) zero next is fit = let same : first ≡ next = cc is in subst (RecordFits plan register) same fit.0
fit_at plan register (first ∷ records) (suc k) next is fit = fit_at plan (with_next register first) records k next is fit.1

entries_fit_all : (plan : Plan) (register : RegisterState) (entries : List Record) → All IsEntry entries → FitFrom plan register (entries_of entries) → AllFit plan register entries
entries_fit_all plan register [] are fit = tt
entries_fit_all plan register (EntryRecord entry ∷ entries) are fit =
    (fit.0, entries_fit_all plan (register_of register (entry ∷ [])) entries (All-tail IsEntry (EntryRecord entry) entries are) fit.1)
entries_fit_all plan register (Row row ∷ entries) are fit = absurd (All-head IsEntry (Row row) entries are)
entries_fit_all plan register (Last terminal last ∷ entries) are fit = absurd (All-head IsEntry (Last terminal last) entries are)
entries_fit_all plan register (Done count ∷ entries) are fit = absurd (All-head IsEntry (Done count) entries are)

all_fit : (plan : Plan) (base entries : List Record) (register : RegisterState) → IsRegisterOf plan base entries register → All IsEntry entries → AllFit plan empty (base ++ entries)
all_fit plan base entries register is are =
    fit_then plan empty base entries (base_fits_all plan empty base is.base_fits)
    (subst (λ (r : RegisterState). AllFit plan r entries) (sym (base_makes_all plan empty base is.base_fits)) (entries_fit_all plan (with_records empty base) entries are is.entries_fit))

-- an image of a register has no misfit
image_fits : (plan : Plan) (register : RegisterState) (image : Image) (is : IsImageOf plan register image) (place : ℕ) → ¬ IsFirstMisfit plan (records_of is.reads.batches) place
image_fits plan register image is place misfit =
    let fit : AllFit plan empty (records_of is.reads.batches) = subst (AllFit plan empty) (sym is.reads.joined) (all_fit plan is.base is.entries register is.is is.reads.are_entries) in
    misfit.fails (fit_at plan empty (records_of is.reads.batches) place misfit.misfit misfit.there fit)

-- the calls of an opening of a journal, all of them
module _ (plan : Plan) (old new : DiskState) (shape : Shape) (taken : ℕ) (opens : Opens old new shape taken) (is_in_second_half : Bool) (picks : LeavesNow new (Picks is_in_second_half))
    (made : new.trace ≡ old.trace ++ opening_of shape.half is_in_second_half taken) where
  picked : old.is_honest → Picks is_in_second_half new.image
  picked honest = picks (opens.runs.honest.1 honest) new.image (changes_nothing new.is_loose new.image)

  pub opening_calls : OpeningCalls plan old new shape.half is_in_second_half taken
  opening_calls = record {
    runs = opens.runs;
    made = made;
    armed = opens.armed;
    image = opens.image;
    saved = opens.saved;
    found = λ honest half second count register is.
        (let same = opens.found honest (shape_of plan is.found.half) is.found.reads.batches is.found.reads.holds in (
          sym is.sectors ∙ ap (λ (s : Shape). s.half) same.0,
          sym is.picks ∙ picked honest,
          is.counts ∙ sym same.1,
        ));
  }

  all_read : ReadsAll old new
  all_read = record {
    half = shape.half;
    is_in_second_half = is_in_second_half;
    taken = taken;
    made = made;
    picks = picked;
    found = λ honest other batches holds. (let same = opens.found honest other batches holds in (sym (ap (λ (s : Shape). s.half) same.0), same.1));
  }

  -- where its register was refused
  module _ (reading : ReadingState) where
    stopped : (fault : KeeperFault) → GivesNone fault plan shape reading → ReadsUntilRefused fault old new
    stopped (Journal fault) none = absurd none
    stopped OtherBuilding none = all_read
    stopped (BadEntry place) none = all_read

    told_of : (fault : KeeperFault) → GivesNone fault plan shape reading → FailsBy fault old new
    told_of (Journal fault) none = absurd none
    told_of OtherBuilding none = opens.armed
    told_of (BadEntry place) none = opens.armed

    pub refused_calls : (fault : KeeperFault) → GivesNone fault plan shape reading → RefusedCalls old new fault
    refused_calls fault none = record {
      runs = opens.runs;
      made = stopped fault none;
      armed = told_of fault none;
      image = opens.image;
      saved = opens.saved;
    }

-- those of one that was refused
pub journal_calls : (old new : DiskState) (fault : JournalFault) → Refuses old new fault → RefusedAfter fault old new → RefusedCalls old new (Journal fault)
journal_calls old new fault refuses made = record {
  runs = refuses.runs;
  made = made;
  armed = refuses.armed;
  image = refuses.image;
  saved = refuses.saved;
}

module _ (plan : Plan) (old new : DiskState) (shape : Shape) (taken : ℕ) (opens : Opens old new shape taken) where
  here : MayLeave new new.image
  here = changes_nothing new.is_loose new.image

  left_same : old.is_honest → (left : Image) → MayLeave new left → left ≡ new.image
  left_same honest left leaves = all_same new.is_loose new.image left (opens.synced honest).none_loose leaves

  held : (honest : old.is_honest) → Holds shape (opens.holds honest).0 new.image
  held honest = (opens.holds honest).1 (opens.runs.honest.1 honest) new.image here

  -- what an image of a register says of what was opened
  image_shape : old.is_honest → (register : RegisterState) (is : IsImageOf plan register new.image) → shape_of plan is.half ≡ shape
  image_shape honest register is = (opens.found honest (shape_of plan is.half) is.reads.batches is.reads.holds).0

  module _ (reading : ReadingState) (shown : old.is_honest → (batches : List Batch) → Holds shape batches new.image → TakesAll ReadsBatch (reading_from plan) batches reading) where
    module _ (register : RegisterState) (of_building : shape ≡ shape_of plan shape.half) (gives : GivesAtEnd reading register) (is_in_second_half : Bool) (picks : LeavesNow new (Picks is_in_second_half)) where
      was : new.is_honest → old.is_honest
      was honest_new = opens.runs.honest.0 honest_new

      read_now : (honest : old.is_honest) → ReadsAs shape (opens.stands honest).0 (opens.stands honest).1 new.image
      read_now honest = (opens.stands honest).2 (opens.runs.honest.1 honest) new.image here

      is_read : old.is_honest → (base entries : List Record) → ReadsAs shape base entries new.image → IsRegisterOf plan base entries register
      is_read honest base entries read =
          register_then plan read.batches base entries register
          (subst (λ (r : RegisterState). MakesRegister plan read.batches r) (sym gives.same)
          (makes plan shape read.batches new.image reading read.holds (shown honest read.batches read.holds) gives.whole))
          read.joined read.is_base read.are_entries gives.lawful

      is_register : (honest : old.is_honest) → IsRegisterOf plan (opens.stands honest).0 (opens.stands honest).1 register
      is_register honest = is_read honest (opens.stands honest).0 (opens.stands honest).1 (read_now honest)

      only : old.is_honest → (other : RegisterState) → IsImageOf plan other new.image → other ≡ register
      only honest other is =
          let found = is_read honest is.base is.entries (subst (λ (s : Shape). ReadsAs s is.base is.entries new.image) (image_shape honest other is) is.reads) in
          is.is.is ∙ sym found.is

      kept : new.is_honest → HoldsRegister plan shape is_in_second_half taken register new
      kept honest_new =
          let honest = was honest_new in
          let held = opens.holds honest in
          record {
            of_building = of_building;
            batches = held.0;
            base = (opens.stands honest).0;
            entries = (opens.stands honest).1;
            holds = held.1;
            stands = (opens.stands honest).2;
            joined = opens.joined honest held.0 (opens.stands honest).0 (opens.stands honest).1 held.1 (opens.stands honest).2;
            is = is_register honest;
            picks = picks;
            counts = held.2;
          }

      pub guards : reading.recovery.plan ≡ plan → Guards plan shape is_in_second_half taken register new
      guards same_plan = record {
        lawful = gives.lawful;
        belongs = subst (λ (p : Plan). BelongsTo p register) same_plan gives.belongs;
        balanced = gives.balanced;
        keeps = kept;
      }

      pub reopens : Reopens plan old new register shape.half is_in_second_half taken
      reopens = record {
        moments = opens.moments;
        writes = opens.writes;
        failures = opens.failures;
        synced = opens.synced;
        seen = opens.seen;
        safe = keeps_safe plan shape is_in_second_half taken register new kept;
        only = only;
        placed = keeps_placed plan shape is_in_second_half taken register new kept;
      }

    -- a journal that has opened, and gives no register
    reads_now : (honest : old.is_honest) → ReadsNow old new shape (opens.holds honest).0
    reads_now honest = record { synced = opens.synced honest; seen = opens.seen honest; holds = held honest }

    misfit : old.is_honest → (batches : List Batch) → Holds shape batches new.image → (place : ℕ) → GivesNone (BadEntry place) plan shape reading → IsFirstMisfit plan (records_of batches) place
    misfit honest batches holds place none =
        subst (IsFirstMisfit plan (records_of batches)) (sym none.1) (none_made plan shape batches new.image reading holds (shown honest batches holds) none.2)

    cause_of : (fault : KeeperFault) → GivesNone fault plan shape reading → RefusedFor fault plan old new
    cause_of (Journal fault) none = absurd none
    cause_of OtherBuilding none = (opens.failures, λ honest. (shape, (opens.holds honest).0, reads_now honest, none))
    cause_of (BadEntry place) none = (
      opens.failures,
      λ honest.
          (let batches = (opens.holds honest).0 in (
            shape.half,
            batches,
            subst (λ (s : Shape). ReadsNow old new s batches) none.0 (reads_now honest),
            misfit honest batches (held honest) place none,
          )),
    )

    good_of : (fault : KeeperFault) → GivesNone fault plan shape reading → old.is_honest → (register : RegisterState) → IsImageOf plan register new.image → fault ≡ Journal Disk
    good_of (Journal fault) none honest register image = absurd none
    good_of OtherBuilding none honest register image =
        let same : shape_of plan image.half ≡ shape = image_shape honest register image in
        absurd (none (sym same ∙ ap (λ (s : Shape). shape_of plan s.half) same))
    good_of (BadEntry place) none honest register image =
        absurd (image_fits plan register new.image image place
        (misfit honest image.reads.batches (subst (λ (s : Shape). Holds s image.reads.batches new.image) (image_shape honest register image) image.reads.holds) place none))

    pub refused_reading : (fault : KeeperFault) → GivesNone fault plan shape reading → RefusesReopening plan old new fault
    refused_reading fault none = record {
      moments = opens.moments;
      writes = opens.writes;
      cause = cause_of fault none;
      fixed = inr (λ honest. record { none_loose = (opens.synced honest).none_loose; seen = opens.seen honest });
      good = good_of fault none;
    }

-- a journal that was refused
pub refused_journal : (plan : Plan) (old new : DiskState) (fault : JournalFault) → Refuses old new fault → RefusesReopening plan old new (Journal fault)
refused_journal plan old new fault refuses = record {
  moments = refuses.moments;
  writes = refuses.writes;
  cause = refuses.cause;
  fixed = refuses.fixed;
  good = λ honest register is. ap (λ (f : JournalFault). Journal f) (refuses.good honest (shape_of plan is.half) is.reads.batches is.reads.holds);
}
