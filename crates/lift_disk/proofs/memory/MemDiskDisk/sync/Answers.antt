use Rattle.std.proofs.Common.{◌++◌, [], ◌∷◌, ℕ, List, Bool, length, subst, refl, sym, ◌∙◌, ap, rules}
use Rattle.lift_disk.specs.Disk.{Image}
use Rattle.lift_disk.specs.Memory.{image_after, IsFlagged}
use Rattle.lift_disk.specs.Calls.{Call}
use Rattle.lift_disk.specs.Calls.Call.{Sync}
use Rattle.lift_disk.specs.Places.{all_now, all_safe}
use Rattle.lift_disk.specs.lemmas.Moments.{changes_nothing}
use Rattle.lift_disk.specs.lemmas.History.{image_after-more, none_flagged, sync_goes_on}
use Rattle.lift_disk.proofs.memory.MemDiskDisk.sync.Goals as goal

pub invariant_of-self : goal.invariant_of-self
invariant_of-self c =
    let m = c.args.self.now in
    record {
      recorded = ap (λ (l : List Call). image_after l c.note_sync.new.self.first) c.note_sync.ensures.1
          ∙ ap (λ (l : Image). image_after (m.history.calls ++ Sync c.loose.result.now ∷ []) l) c.note_sync.ensures.0
          ∙ image_after-more m.history.calls (Sync c.loose.result.now ∷ []) m.history.first
          ∙ m.recorded
          ∙ sym c.sync.ensures.now;
    }

pub returns-clause-access : goal.returns-clause-access
returns-clause-access c =
    let m = c.args.self.now in
    let now = all_now m.sectors.places.items in
    let safe = all_safe m.sectors.places.items in
    record {
      goes_on = rw c.sync.ensures.now (sync_goes_on m.history.first m.history.calls now safe m.sectors.loose.items m.is_steady m.failures.count m.calls.count m.writes.count m.trace.calls
          c.note_sync.new.self.first c.note_sync.new.self.calls (all_safe c.sync.new.self.places.items) c.sync.new.self.loose.items _ _ _
          m.recorded c.note_sync.ensures.0
          (c.note_sync.ensures.1 ∙ ap (λ (l : List Bool). m.history.calls ++ Sync l ∷ []) c.loose.ensures) c.next-self.ensures
          (λ i is. none_flagged (length m.sectors.loose.items) i (subst (λ (l : List Bool). IsFlagged l i) c.sync.ensures.loose is)));
      fault = search rules;
      armed = search rules;
      writes = search rules;
      recorded = search rules;
    }

pub returns-clause-saves : goal.returns-clause-saves
returns-clause-saves c honest =
    let m = c.args.self.now in
    let now = all_now m.sectors.places.items in
    let none : (i : ℕ) → ¬ IsFlagged c.sync.new.self.loose.items i =
    λ i is. none_flagged (length m.sectors.loose.items) i (subst (λ (l : List Bool). IsFlagged l i) c.sync.ensures.loose is) in
    rw c.sync.ensures.now (record {
      as_written = λ i bytes was. was;
      touched = record { loose = λ i is. absurd (none i is); within = changes_nothing (IsFlagged m.sectors.loose.items) now };
      synced = record { steady = refl; none_loose = none };
      steady = λ _. record { steady = refl; same = refl };
      saved = c.sync.ensures.safe;
    })
