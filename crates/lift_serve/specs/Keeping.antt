-- What a serving keeps, over power cuts, of all that was answered.
use Rattle.std.specs.Prelude.{ℕ, ◌≡◌, List, [], ◌++◌}
use mathlib.Core.List.{IsPrefix}
use Rattle.lift_base.specs.declared.history.Entry.{Entry}
use Rattle.lift_building.specs.Plan.{Plan, IsBuilding, shape_of}
use Rattle.lift_disk.specs.Disk.{DiskState, Image, IsSynced, LeavesNow, LeavesOnly}
use Rattle.lift_disk.specs.Starts.{StartsAfter, StartsFrom}
use Rattle.lift_register.specs.Register.{RegisterState, register_of, empty}
use Rattle.lift_journal.specs.Journal.{ReadsAs}
use Rattle.lift_keeper.specs.Images.{IsImageOf}
use Rattle.lift_world.specs.declared.event.Taken.{Taken}
use Rattle.lift_clerk.specs.Keeping.{KeepsAll, KeepsPrefix}
use Rattle.lift_parts.specs.Flusher.{FlusherState}
use Rattle.lift_parts.specs.Keeping.{HaveKept, KeepingTurns, NoneYet, OneKept}

-- What a start takes of the device that it finds, and a serving leaves to the next one. Had the journal
-- begun with this register, had these entries been accepted since and these commands been answered,
-- then each image that a crash may leave keeps a prefix of the entries, and all the answers.
abbrev pub HoldsLetters : (D : Type 0) → Plan → RegisterState → (accepted : List Entry)
    → (given : List Taken) → DiskState → Type 0
HoldsLetters D plan base accepted given device =
    LeavesNow device (KeepsPrefix D plan base accepted given)

-- Wherever the power goes between these two states of a device, a start finds one that holds these.
abbrev pub StartsFind : {F : Type 0} → (D : Type 0) → (held : F → DiskState) → Plan → RegisterState
    → (accepted : List Entry) → (given : List Taken) → (old new : DiskState) → Type 0
StartsFind {F} D held plan base accepted given old new = (after : F)
    → StartsFrom new old.moment (held after) → HoldsLetters D plan base accepted given (held after)

-- So it is of each of these turns, from the end of the one before it to its own: with what was safe
-- until then and the batch on its way, and with all that was answered until then.
abbrev pub TurnsHandOn : {D F : Type 0} {state : D → DiskState} {base : RegisterState}
    {last : DiskState} {f : FlusherState D} {safe : List Entry} {given : List Taken}
    {g : FlusherState D} {mid : List Entry} {now : List Taken}
    → (held : F → DiskState) → Plan → KeepingTurns state base last f safe given g mid now → Type 0
TurnsHandOn held plan NoneYet = Unit {0}
TurnsHandOn {D} {F} {state} {base} {g = h} held plan
    (OneKept {g = g} {mid = mid} {now = now} turns flush s kept) = TurnsHandOn held plan turns
    × StartsFind D held plan base (mid ++ s.batch) now (state g.writer.device) (state h.writer.device)

-- Whatever turns a flusher has made by any moment, whether or not they end, so it is.
abbrev pub EachTurnHandsOn : (D F : Type 0) → (D → DiskState) → (F → DiskState) → Type 0
EachTurnHandsOn D F state held = (base : RegisterState) (f g : FlusherState D) (safe mid : List Entry)
    (given now : List Taken) → (state f.writer.device).is_honest
    → (turns : KeepingTurns state base (state g.writer.device) f safe given g mid now)
    → TurnsHandOn held f.writer.plan turns

-- The building was served over a file that was found, and that holds these letters, by turns of a flusher
-- that began so and came to that. Then the next start finds one that holds all that was answered by then,
-- at whatever moment the power goes: in the recovery (`cut`), in each turn (`cuts`), and behind the last
-- one (`next`).
pub record KeepsOver {D F : Type 0} (state : D → DiskState) (held : F → DiskState) (plan : Plan) (found : F)
    (f g : FlusherState D) (base : RegisterState) (accepted : List Entry)
    (given : List Taken) : Type 0 where
  -- Each image that a crash at any moment until the end of the recovery may leave keeps a prefix of
  -- what was accepted, and all that was given before;
  pub recovery : LeavesOnly (held found) (state f.writer.device)
      (KeepsPrefix D plan base accepted given)
  -- the flusher begins with the register of such a prefix;
  pub safe : List Entry
  pub is_front : IsPrefix safe accepted
  pub register : f.writer.register ≡ register_of base safe
  -- at each moment of each turn all is kept that was safe and given before it, for a start that finds
  -- it so, and what the turns make safe and answer is added at the end;
  pub kept : HaveKept state base f g safe given
  pub cuts : TurnsHandOn held plan kept.turns
  -- from the end on each image keeps all that was answered, and a prefix of what is safe then and
  -- what is in doubt;
  pub now : HoldsLetters D plan base (kept.now_safe ++ g.writer.doubt) kept.now_given
      (state g.writer.device)
  -- and at no moment until the end is an answer lost that was given before.
  pub always : LeavesOnly (held found) (state g.writer.device) (KeepsAll D plan base given)
  -- So the next start finds what this one found, where the recovery was cut off,
  pub cut : StartsFind D held plan base accepted given (held found) (state f.writer.device)
  -- and all that was answered, where the serving had ended.
  pub next : (after : F) → StartsAfter (state g.writer.device) (held after)
      → HoldsLetters D plan base (kept.now_safe ++ g.writer.doubt) kept.now_given (held after)

-- It begins with nothing: an image that reads as a register of the building, whichever it is, keeps
-- the answers of nobody over that register.
abbrev pub ImagesKeep : Type 0 → Type 0
ImagesKeep D = (plan : Plan) (register : RegisterState) (image : Image) → IsBuilding plan
    → IsImageOf plan register image → KeepsPrefix D plan register [] [] image

-- So does each that a crash now may leave of a device on which a journal of the building was made.
abbrev pub MadeKeeps : (D M : Type 0) → (M → DiskState) → Type 0
MadeKeeps D M state = (plan : Plan) (half : ℕ) (made : M) → IsBuilding plan
    → ((state made).is_honest → ReadsAs (shape_of plan half) [] [] (state made).image)
    → ((state made).is_honest → IsSynced (state made))
    → HoldsLetters D plan empty [] [] (state made)
