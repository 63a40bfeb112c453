-- What follows from a checkpoint that a journal puts in the place of its batches.
use Rattle.std.proofs.Common.{◌⊎◌, ◌↔◌, inl, inr, ⊎_elim, not, List, [], All, sym, ◌∙◌, subst, Result, Ok, Err}
use Rattle.std.specs.Prelude.{OnOk}
use Rattle.std.proofs.lemmas.List.{append-nil}
use Rattle.std.proofs.lemmas.List.Elements.{All-nil}
use Rattle.lift_base.specs.declared.history.Record.{Record}
use Rattle.lift_disk.specs.Disk.{DiskState, Image, IsSynced, LeavesNow, LeavesOnly}
use Rattle.lift_disk.specs.lemmas.Moments.{changes_nothing, leaves_weaker, leaves_if_honest}
use Rattle.lift_base.specs.declared.history.Shape.{Shape}
use Rattle.lift_journal.specs.declared.fault.JournalFault.{JournalFault}
use Rattle.lift_journal.specs.Checkpoint.{checkpoint_of}
use Rattle.lift_journal.specs.Layout.{Batch, Holds, HoldsIn, Picks}
use Rattle.lift_journal.specs.Order.{IsEntry, IsOfBase}
use Rattle.lift_journal.specs.Journal.{JournalView, ReadsAs, StandsFor}
use Rattle.lift_journal.specs.Becomes.{PutsCheckpoint}
use Rattle.lift_journal.specs.lemmas.Adding.{held_left, held_same}
use Rattle.lift_journal.specs.lemmas.Folding.{checkpoint_records}

-- an image that holds a checkpoint alone
pub reads_base : (shape : Shape) (base : List Record) (image : Image) → All IsOfBase base → Holds shape (checkpoint_of base) image → ReadsAs shape base [] image
reads_base shape base image kinds holds = record {
  batches = checkpoint_of base;
  holds = holds;
  joined = checkpoint_records base ∙ sym (append-nil base);
  is_base = kinds;
  are_entries = All-nil IsEntry;
}

module _ {D T : Type 0} (state : D → DiskState) (old new : JournalView D) (records : List Record) (same : (state new.device).is_honest ↔ (state old.device).is_honest) where
  -- at any moment these batches are left, or the checkpoint
  pub puts_lists : (r : Result T JournalFault) → PutsCheckpoint state old records new r
      → (batches : List Batch) → LeavesNow (state old.device) (Holds old.shape batches)
      → LeavesOnly (state old.device) (state new.device) (λ left. Holds old.shape batches left ⊎ Holds old.shape (checkpoint_of records) left)
  puts_lists r puts batches lists =
      let disk = state old.device in
      let P : Image → Type 0 = λ left. Holds old.shape batches left ⊎ Holds old.shape (checkpoint_of records) left in
      leaves_if_honest (state old.device) (state new.device) P same (λ honest.
      let p = puts honest in
      let one = held_same state old p.batches p.held batches (lists honest disk.image (changes_nothing disk.is_loose disk.image)) in
      let Q : Image → Type 0 = λ left. HoldsIn old.shape old.is_in_second_half p.batches left
      ⊎ HoldsIn old.shape (not old.is_in_second_half) (checkpoint_of records) left in
      leaves_weaker (state old.device) (state new.device) Q P
      (λ _ left either. ⊎_elim (λ was. inl (subst (λ (bs : List Batch). Holds old.shape bs left) one was.holds)) (λ now. inr now.holds) either) p.any_moment)

  -- as records: these entries are left, or the checkpoint alone
  pub puts_reads : (r : Result T JournalFault) → PutsCheckpoint state old records new r → All IsOfBase records
      → (base entries : List Record) → StandsFor old.shape base entries (state old.device)
      → LeavesOnly (state old.device) (state new.device) (λ left. ReadsAs old.shape base entries left ⊎ ReadsAs old.shape records [] left)
  puts_reads r puts kinds base entries stands =
      let disk = state old.device in
      let P : Image → Type 0 = λ left. ReadsAs old.shape base entries left ⊎ ReadsAs old.shape records [] left in
      leaves_if_honest (state old.device) (state new.device) P same (λ honest.
      let p = puts honest in
      let found = stands honest disk.image (changes_nothing disk.is_loose disk.image) in
      let one = held_same state old p.batches p.held found.batches found.holds in
      let Q : Image → Type 0 = λ left. HoldsIn old.shape old.is_in_second_half p.batches left
      ⊎ HoldsIn old.shape (not old.is_in_second_half) (checkpoint_of records) left in
      leaves_weaker (state old.device) (state new.device) Q P
      (λ _ left either. ⊎_elim
      (λ was. inl (record { batches = found.batches; holds = subst (λ (bs : List Batch). Holds old.shape bs left) one was.holds; joined = found.joined; is_base = found.is_base; are_entries = found.are_entries }))
      (λ now. inr (reads_base old.shape records left kinds now.holds)) either) p.any_moment)

  pub put_lists : (r : Result T JournalFault) → PutsCheckpoint state old records new r
      → OnOk r (LeavesNow (state new.device) (Holds new.shape (checkpoint_of records)))
  put_lists (Ok x) puts = λ honest_new left leaves. (held_left state new (checkpoint_of records) (puts (same.0 honest_new)).done left leaves).holds
  put_lists (Err e) puts = tt

  pub put_half : (r : Result T JournalFault) → PutsCheckpoint state old records new r
      → OnOk r (LeavesNow (state new.device) (Picks new.is_in_second_half))
  put_half (Ok x) puts = λ honest_new left leaves. (held_left state new (checkpoint_of records) (puts (same.0 honest_new)).done left leaves).picks
  put_half (Err e) puts = tt

  pub put_reads : (r : Result T JournalFault) → PutsCheckpoint state old records new r → All IsOfBase records
      → OnOk r (StandsFor new.shape records [] (state new.device))
  put_reads (Ok x) puts kinds = λ honest_new left leaves.
      reads_base new.shape records left kinds (held_left state new (checkpoint_of records) (puts (same.0 honest_new)).done left leaves).holds
  put_reads (Err e) puts kinds = tt

  -- and it is safe
  pub put_synced : (r : Result T JournalFault) → PutsCheckpoint state old records new r
      → OnOk r ((state new.device).is_honest → IsSynced (state new.device))
  put_synced (Ok x) puts = λ honest_new. (puts (same.0 honest_new)).done.safe
  put_synced (Err e) puts = tt
