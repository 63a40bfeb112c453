-- What was shown to a visitor on the way along a chain.
use Rattle.std.proofs.Common.{◌≡◌, ◌≤◌, ◌+◌, ◌-◌, ℕ, List, [], ◌∷◌, ◌++◌, None, length, All, refl, sym, ◌∙◌, ap, subst, arith, add-zero}
use Rattle.std.proofs.lemmas.List.Elements.{All-append, All-from_recursion}
use Rattle.std.proofs.lemmas.List.{append_assoc}
use Rattle.lift_base.specs.declared.history.Record.{Record}
use Rattle.lift_record.specs.declared.version.Version.TheVariants.{One}
use Rattle.lift_record.specs.Version.{version_number}
use Rattle.lift_journal.specs.Order.{last_record_after, IsInOrderAfter}
use Rattle.lift_journal.specs.Layout.{Batch, records_of, used, body_size}
use Rattle.lift_journal.specs.Walk.{MayBeginChain, version_after}
use Rattle.lift_journal.specs.Seen.{batch_of}
use Rattle.lift_journal.specs.declared.batch.Stored.{Stored}
use Rattle.lift_journal.specs.declared.walk.Front.{Front}
use Rattle.lift_journal.specs.ChainStep.{Passes, passed}
use Rattle.lift_journal.specs.Visits.{TakesAll, IsSized, HasTaken, TakesBefore}
use Rattle.lift_disk.specs.Disk.{DiskState, Image}
use Rattle.lift_disk.specs.Trace.{Access}
use Rattle.lift_journal.specs.Calls.{reads_from}
use Rattle.lift_journal.specs.declared.fault.JournalFault.{JournalFault}
use Rattle.lift_journal.specs.declared.fault.JournalFault.TheVariants.{Disk, NotFormatted, Damaged, Full, Broken}
use Rattle.lift_journal.specs.lemmas.Chains.{used_more}
use Rattle.lift_journal.specs.lemmas.Orders.{front_push, version_push, last_push}

-- the batches before a front, on any device
pub record IsShown {V : Type 0} (takes : V → List Record → V → Type 0) (was is : V) (start : ℕ) (front : Front) (batches : List Batch) : Type 0 where
  pub sound : MayBeginChain batches
  pub sized : All IsSized batches
  pub stands : front.gate ≡ start + used batches
  pub version_is : front.version ≡ version_after One batches
  pub last_is : front.last ≡ last_record_after None (records_of batches)
  pub taken : TakesAll takes was batches is

module _ {V : Type 0} (takes : V → List Record → V → Type 0) where
  -- one batch more
  pub takes_push : (batches : List Batch) (batch : Batch) (old mid new : V) → TakesAll takes old batches mid → takes mid batch.records new → TakesAll takes old (batches ++ batch ∷ []) new
  takes_push [] batch old mid new same step = (new, subst (λ (v : V). takes v batch.records new) same step, refl)
  takes_push (first ∷ batches) batch old mid new (next, one, rest) step = (next, one, takes_push batches batch next mid new rest step)

  pub none_shown : (visitor : V) (start : ℕ) (front : Front) → front.gate ≡ start → front.version ≡ One → front.last ≡ None → IsShown takes visitor visitor start front []
  none_shown visitor start front gate version last = record {
    sound = record { versions = tt; ordered = tt };
    sized = All-from_recursion IsSized [] tt;
    stands = gate ∙ sym (add-zero start);
    version_is = version;
    last_is = last;
    taken = refl;
  }

  pub more_shown : (was mid new : V) (start : ℕ) (front next : Front) (batches : List Batch) (stored : Stored) → IsShown takes was mid start front batches → IsSized (batch_of stored) → Passes front stored
      → takes mid stored.records.items new → next ≡ passed front stored → IsShown takes was new start next (batches ++ batch_of stored ∷ [])
  more_shown was mid new start front next batches stored shown sized passes step is =
      let batch = batch_of stored in
      let gate : next.gate ≡ front.gate + (1 + body_size (length stored.records.items)) = ap (λ (f : Front). f.gate) is in
      record {
        sound = front_push batches batch shown.sound (subst (λ v. version_number v ≤ version_number stored.version) shown.version_is passes.rises)
            (subst (λ l. IsInOrderAfter l stored.records.items) shown.last_is passes.ordered);
        sized = All-append IsSized batches (batch ∷ []) shown.sized (All-from_recursion IsSized (batch ∷ []) (sized, tt));
        stands = omega (arith, gate, shown.stands, used_more batches batch);
        version_is = ap (λ (f : Front). f.version) is ∙ sym (version_push One batches batch);
        last_is = ap (λ (f : Front). f.last) is ∙ ap (λ l. last_record_after l stored.records.items) shown.last_is ∙ sym (last_push batches batch);
        taken = takes_push batches batch was mid new shown.taken step;
      }

  -- nothing was shown
  pub taken_none : (sectors : ℕ) (was is : V) → 1 ≤ sectors → is ≡ was → HasTaken takes sectors was is
  taken_none sectors was is some same = record {
    batches = [];
    sound = record { versions = tt; ordered = tt };
    sized = All-from_recursion IsSized [] tt;
    few = some;
    taken = same;
  }

-- a half that was refused, told from before these calls
pub before_then : {V : Type 0} (takes : V → List Record → V → Type 0) (fault : JournalFault) (first rest : List Access) (start end : ℕ) (image other : Image) (old mid new : DiskState) (v w : V)
    → mid.trace ≡ old.trace ++ first → other ≡ image → TakesBefore takes fault rest start end other mid new v w → TakesBefore takes fault (first ++ rest) start end image old new v w
before_then takes Disk first rest start end image other old mid new v w at same taken =
    let here = subst (λ (l : Image). TakesBefore takes Disk rest start end l mid new v w) same taken in
    let reads : List Access = reads_from start (here.gate - start + here.more) in
    record {
      gate = here.gate;
      more = here.more;
      batches = here.batches;
      reached = here.reached;
      made = here.made ∙ ap (λ (l : List Access). l ++ (rest ++ reads)) at ∙ append_assoc old.trace first (rest ++ reads) ∙ ap (λ (l : List Access). old.trace ++ l) (sym (append_assoc first rest reads));
      unfinished = here.unfinished;
      taken = here.taken;
    }
before_then takes (Damaged sector) first rest start end image other old mid new v w at same taken = subst (λ (l : Image). TakesBefore takes (Damaged sector) rest start end l mid new v w) same taken
before_then takes NotFormatted first rest start end image other old mid new v w at same taken = taken
before_then takes Full first rest start end image other old mid new v w at same taken = taken
before_then takes Broken first rest start end image other old mid new v w at same taken = taken
