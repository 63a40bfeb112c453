-- What follows from what a journal holds, and from a batch that it adds.
use Rattle.std.proofs.Common.{◌≡◌, ◌⊎◌, ◌↔◌, inl, inr, ⊎_elim, List, [], ◌∷◌, ◌++◌, All, sym, ◌∙◌, ap, subst, append_assoc}
use Rattle.std.proofs.Common.{Result, Ok, Err}
use Rattle.std.specs.Prelude.{OnOk}
use Rattle.std.proofs.lemmas.List.Elements.{All-append}
use Rattle.lift_base.specs.declared.history.Record.{Record}
use Rattle.lift_base.specs.declared.history.Shape.{Shape}
use Rattle.lift_disk.specs.Disk.{DiskState, Image, LeavesNow, LeavesOnly, MayLeave}
use Rattle.lift_disk.specs.lemmas.Moments.{changes_nothing, leaves_weaker, leaves_if_honest}
use Rattle.lift_journal.specs.declared.fault.JournalFault.{JournalFault}
use Rattle.lift_journal.specs.Layout.{Batch, new_batch, Holds, HoldsIn, Picks}
use Rattle.lift_journal.specs.Order.{IsEntry}
use Rattle.lift_journal.specs.Journal.{JournalView, JournalHolds, ReadsAs, StandsFor}
use Rattle.lift_journal.specs.Becomes.{Becomes, AddsBatch}
use Rattle.lift_journal.specs.lemmas.Chains.{all_same}
use Rattle.lift_journal.specs.lemmas.Orders.{records_push}
use Rattle.lift_journal.specs.lemmas.Unique.{holds_unique}

module _ {D : Type 0} (state : D → DiskState) (journal : JournalView D) (batches : List Batch) (held : JournalHolds state journal batches) where
  -- a crash leaves just what it holds
  pub held_left : (left : Image) → MayLeave (state journal.device) left
      → HoldsIn journal.shape journal.is_in_second_half batches left
  held_left left leaves =
      let disk = state journal.device in
      let same : left ≡ disk.image = all_same disk.is_loose disk.image left held.safe.none_loose leaves in
      subst (HoldsIn journal.shape journal.is_in_second_half batches) (sym same) held.holds

  -- it holds no other batches
  pub held_same : (others : List Batch) → Holds journal.shape others (state journal.device).image → batches ≡ others
  held_same others holds = holds_unique journal.shape batches others (state journal.device).image held.holds.holds holds

-- more records after those that an image reads as
pub reads_more : (shape : Shape) (base entries records : List Record) (old new : Image) (found : ReadsAs shape base entries old) → All IsEntry records
    → Holds shape (found.batches ++ new_batch records ∷ []) new → ReadsAs shape base (entries ++ records) new
reads_more shape base entries records old new found kinds holds = record {
  batches = found.batches ++ new_batch records ∷ [];
  holds = holds;
  joined = records_push found.batches (new_batch records) ∙ ap (λ (l : List Record). l ++ records) found.joined ∙ append_assoc base entries records;
  is_base = found.is_base;
  are_entries = All-append IsEntry entries records found.are_entries kinds;
}

module _ {D T : Type 0} (state : D → DiskState) (old new : JournalView D) (records : List Record) (same : (state new.device).is_honest ↔ (state old.device).is_honest)
    (shape : new.shape ≡ old.shape) where
  -- the batches that are held are those that are known to be there
  one_list : (r : Result T JournalFault) (adds : Becomes state old old.is_in_second_half
      (λ bs. bs ++ new_batch records ∷ []) new r) (batches : List Batch)
      → (state old.device).is_honest
      → LeavesNow (state old.device) (Holds old.shape batches) → adds.batches ≡ batches
  one_list r adds batches honest lists =
      let disk = state old.device in
      held_same state old adds.batches adds.held batches (lists honest disk.image (changes_nothing disk.is_loose disk.image))

  -- at any moment these batches are left, or these and the new one
  pub adds_lists : (r : Result T JournalFault) → AddsBatch state old records new r
      → (batches : List Batch) → LeavesNow (state old.device) (Holds old.shape batches)
      → LeavesOnly (state old.device) (state new.device) (λ left. Holds old.shape batches left ⊎ Holds old.shape (batches ++ new_batch records ∷ []) left)
  adds_lists r adds batches lists =
      let P : Image → Type 0 = λ left. Holds old.shape batches left ⊎ Holds old.shape (batches ++ new_batch records ∷ []) left in
      leaves_if_honest (state old.device) (state new.device) P same (λ honest.
      let a = adds honest in
      let one = one_list r a batches honest lists in
      let Q : Image → Type 0 = λ left. HoldsIn old.shape old.is_in_second_half a.batches left
      ⊎ HoldsIn old.shape old.is_in_second_half (a.batches ++ new_batch records ∷ []) left in
      leaves_weaker (state old.device) (state new.device) Q P
      (λ _ left either. ⊎_elim (λ was. inl (subst (λ (bs : List Batch). Holds old.shape bs left) one was.holds))
      (λ more. inr (subst (λ (bs : List Batch). Holds old.shape (bs ++ new_batch records ∷ []) left) one more.holds)) either) a.any_moment)

  -- as records: these entries are left, or these and the new ones
  pub adds_reads : (r : Result T JournalFault) → AddsBatch state old records new r → All IsEntry records
      → (base entries : List Record) → StandsFor old.shape base entries (state old.device)
      → LeavesOnly (state old.device) (state new.device) (λ left. ReadsAs old.shape base entries left ⊎ ReadsAs old.shape base (entries ++ records) left)
  adds_reads r adds kinds base entries stands =
      let disk = state old.device in
      let P : Image → Type 0 = λ left. ReadsAs old.shape base entries left ⊎ ReadsAs old.shape base (entries ++ records) left in
      leaves_if_honest (state old.device) (state new.device) P same (λ honest.
      let a = adds honest in
      let found = stands honest disk.image (changes_nothing disk.is_loose disk.image) in
      let one = held_same state old a.batches a.held found.batches found.holds in
      let Q : Image → Type 0 = λ left. HoldsIn old.shape old.is_in_second_half a.batches left
      ⊎ HoldsIn old.shape old.is_in_second_half (a.batches ++ new_batch records ∷ []) left in
      leaves_weaker (state old.device) (state new.device) Q P
      (λ _ left either. ⊎_elim
      (λ was. inl (record { batches = found.batches; holds = subst (λ (bs : List Batch). Holds old.shape bs left) one was.holds; joined = found.joined; is_base = found.is_base; are_entries = found.are_entries }))
      (λ more. inr (reads_more old.shape base entries records disk.image left found kinds (subst (λ (bs : List Batch). Holds old.shape (bs ++ new_batch records ∷ []) left) one more.holds))) either) a.any_moment)

  -- the half that is picked stays so
  pub adds_half : (r : Result T JournalFault) → AddsBatch state old records new r
      → LeavesOnly (state old.device) (state new.device) (Picks old.is_in_second_half)
  adds_half r adds =
      leaves_if_honest (state old.device) (state new.device) (Picks old.is_in_second_half) same
      (λ honest.
      let a = adds honest in
      let Q : Image → Type 0 = λ left. HoldsIn old.shape old.is_in_second_half a.batches left
      ⊎ HoldsIn old.shape old.is_in_second_half (a.batches ++ new_batch records ∷ []) left in
      leaves_weaker (state old.device) (state new.device) Q (Picks old.is_in_second_half)
      (λ _ left either. ⊎_elim (λ was. was.picks) (λ more. more.picks) either) a.any_moment)

  -- at Ok each crash leaves these batches and the new one
  pub added_lists : (r : Result T JournalFault) → AddsBatch state old records new r
      → OnOk r ((batches : List Batch) → LeavesNow (state old.device) (Holds old.shape batches) → LeavesNow (state new.device) (Holds new.shape (batches ++ new_batch records ∷ [])))
  added_lists (Ok x) adds = λ batches lists honest_new left leaves.
      (let honest = same.0 honest_new in
      let a = adds honest in
      let kept = held_left state new (a.batches ++ new_batch records ∷ []) a.done left leaves in
      subst (λ (bs : List Batch). Holds new.shape (bs ++ new_batch records ∷ []) left) (one_list (Ok x) a batches honest lists) kept.holds)
  added_lists (Err e) adds = tt

  -- as records: these entries and the new ones
  pub added_reads : (r : Result T JournalFault) → AddsBatch state old records new r → All IsEntry records
      → OnOk r ((base entries : List Record) → StandsFor old.shape base entries (state old.device) → StandsFor new.shape base (entries ++ records) (state new.device))
  added_reads (Ok x) adds kinds = λ base entries stands honest_new left leaves.
      (let disk = state old.device in
      let honest = same.0 honest_new in
      let a = adds honest in
      let found = stands honest disk.image (changes_nothing disk.is_loose disk.image) in
      let kept = held_left state new (a.batches ++ new_batch records ∷ []) a.done left leaves in
      let one = held_same state old a.batches a.held found.batches found.holds in
      let holds = subst (λ (bs : List Batch). Holds new.shape (bs ++ new_batch records ∷ []) left) one kept.holds in
      subst (λ (s : Shape). ReadsAs s base (entries ++ records) left) (sym shape)
      (reads_more old.shape base entries records disk.image left found kinds (subst (λ (s : Shape). Holds s (found.batches ++ new_batch records ∷ []) left) shape holds)))
  added_reads (Err e) adds kinds = tt
