-- How far a command came that is over a building and an image: its faults are looked for in this
-- order, the building's file, its text, the image's file, the journal, the port.
use Rattle.std.specs.Prelude.{ℕ, ◌≡◌, ◌≢◌, ◌≤◌, ◌+◌, ◌⊎◌, Bool, false, List, [], length, Option}
use Rattle.std.specs.Prelude.{Result, Ok, Err}
use Rattle.std.specs.Str.{IsUtf8}
use Rattle.std.specs.IoError.{error_kind}
use Rattle.std.specs.declared.io.Error.{Error}
use Rattle.std.specs.declared.io.ErrorKind.TheVariants.{OutOfMemory}
use Rattle.std.specs.Io.KnownBytes.{Consumes}
use Rattle.lift_building.specs.Describes.{IsTextOf}
use Rattle.lift_building.specs.Gives.{IsFirstFault}
use Rattle.lift_building.specs.Plan.{Plan}
use Rattle.lift_building.specs.declared.fault.BuildingFault.{BuildingFault}
use Rattle.lift_disk.specs.Disk.{DiskState, LeavesOnly, MayLeave}
use Rattle.lift_disk.specs.declared.file.FileFault.{FileFault}
use Rattle.lift_disk.specs.declared.file.FileFault.TheVariants.{Unclear, NotAFile, Unopened, Failed}
use Rattle.lift_program.specs.Images.{CommandFiles, ImageFiles, IsTextRead}
use Rattle.lift_decider.specs.Decider.{starting}
use Rattle.lift_keeper.specs.Keeper.{KeeperView}
use Rattle.lift_keeper.specs.Reopening.{RefusesReopening, Reopens}
use Rattle.lift_keeper.specs.declared.fault.KeeperFault.{KeeperFault}
use Rattle.lift_register.specs.Register.{RegisterState}
use Rattle.lift_replay.specs.Reading.{ReaderFails}
use Rattle.lift_program.specs.declared.fault.Fault.{Fault}
use Rattle.lift_program.specs.declared.fault.Fault.TheVariants.{Building, Journal, File, Memory}
use Rattle.lift_program.specs.declared.fault.Fault.TheVariants.{Network}
use Rattle.lift_program.specs.declared.leftover.Failure.{Failure}
use Rattle.lift_program.specs.declared.leftover.Failure.TheVariants.{NoBuilding, NoImage, Opened}
use Rattle.lift_program.specs.declared.fault.Role.{Role}
use Rattle.lift_program.specs.declared.fault.Role.TheVariants.{Building as OfBuilding}
use Rattle.lift_program.specs.declared.fault.Role.TheVariants.{Image as OfImage, Output}

-- a building's text has so many bytes at most
abbrev pub most_text : ℕ
most_text = 1048576

-- A call of this reader failed, which was the last, or it gave a byte more than a text may have.
abbrev pub GivesNoText : {R : Type 0} → (remaining : R → Option (List ℕ))
    → (gives : R → List ℕ → Option ℕ → R → Type 0) → (old new : R) → Type 0
GivesNoText remaining gives old new = ReaderFails gives old new
    ⊎ ((bytes : List ℕ) × (length bytes ≡ most_text + 1)
    × Consumes (remaining old) (remaining new) bytes)

-- the system didn't open the building's file, and not for want of memory
abbrev pub IsTextRefused : {R : Type 0} → (opens : Result R Error → Type 0) → Type 0
IsTextRefused opens = (error : Error) × opens (Err error) × (error_kind error ≢ OutOfMemory)

-- Why a building's file is no text: it wasn't opened; or what was opened gave none; or what it held
-- is no UTF-8.
abbrev pub IsNoText : {R : Type 0} → (opens : Result R Error → Type 0)
    → (remaining : R → Option (List ℕ)) → (gives : R → List ℕ → Option ℕ → R → Type 0) → Type 0
IsNoText {R} opens remaining gives = IsTextRefused opens
    ⊎ (((old : R) × (new : R) × opens (Ok old) × GivesNoText remaining gives old new)
    ⊎ ((text : List ℕ) × IsTextRead opens remaining text × ¬ IsUtf8 text))

-- a text within the bound was read, and it describes this building
pub record HasBuilding (is_text : List ℕ → Type 0) (plan : Plan) : Type 0 where
  pub text : List ℕ
  pub read : is_text text
  pub short : length text ≤ most_text
  pub described : IsTextOf text plan

-- a text within the bound was read, and this is its first fault
pub record HasNoBuilding (is_text : List ℕ → Type 0) (fault : BuildingFault) : Type 0 where
  pub text : List ℕ
  pub read : is_text text
  pub short : length text ≤ most_text
  pub first : IsFirstFault text fault

-- A building was read, and an image opened as such a device.
pub record HasOpened {D : Type 0} (files : CommandFiles) (building : List ℕ)
    (is_fresh : D → Type 0) : Type 0 where
  pub plan : Plan
  pub described : HasBuilding (files.is_text building) plan
  pub opened : D
  pub fresh : is_fresh opened

-- the recovery from an image that was opened, of this building, gave this keeper
pub record RecoversKeeper {D : Type 0} (state : D → DiskState) (plan : Plan) (opened : D)
    (keeper : KeeperView D) : Type 0 where
  pub recovers : Reopens plan (state opened) (state keeper.writer.device) keeper.writer.register
      keeper.writer.half keeper.writer.is_in_second_half keeper.writer.used
  pub starts : keeper.state ≡ starting keeper.writer.register
  pub whole : keeper.writer.is_broken ≡ false
  pub no_doubt : keeper.writer.doubt ≡ []
  pub own : keeper.writer.plan ≡ plan

-- an image was opened as such a device, and the recovery from it, of this building, gave this keeper
pub record HasKeeperOf {D : Type 0} (is_fresh : D → Type 0) (state : D → DiskState) (plan : Plan)
    (keeper : KeeperView D) : Type 0 where
  pub opened : D
  pub fresh : is_fresh opened
  pub is_kept : RecoversKeeper state plan opened keeper

-- an image was opened as such a device, and the recovery from it, of this building, was refused for
-- this, and left it so
pub record HasNoKeeperOf (D : Type 0) (is_fresh : D → Type 0) (state : D
    → DiskState) (plan : Plan) (fault : Fault) (left : D) : Type 0 where
  pub opened : D
  pub fresh : is_fresh opened
  pub refusal : KeeperFault
  pub is_refusal : fault ≡ Journal refusal
  pub refused : RefusesReopening plan (state opened) (state left) refusal

-- the building was read
abbrev pub ReadsBuilding : (is_text : List ℕ → Type 0) → Type 0
ReadsBuilding is_text = (plan : Plan) × HasBuilding is_text plan

-- the recovery gave a register of this building
abbrev pub HasRecovered : Plan → (old new : DiskState) → Type 0
HasRecovered plan old new = (register : RegisterState) × (half : ℕ) × (is_in_second_half : Bool)
    × (used : ℕ) × Reopens plan old new register half is_in_second_half used

-- Why a command went no further over a device that was opened: the recovery was refused for this; or
-- it gave a register, and then the port was refused, or the standard output failed, or memory was
-- wanting.
abbrev pub GoesNoFurther : Plan → (old new : DiskState) → Fault → Type 0
GoesNoFurther plan old new (Journal fault) = RefusesReopening plan old new fault
GoesNoFurther plan old new (File Output) = HasRecovered plan old new
GoesNoFurther plan old new (Memory no_memory) = HasRecovered plan old new
GoesNoFurther plan old new Network = HasRecovered plan old new
GoesNoFurther plan old new _ = ⊥

-- A building was read, and an image opened as such a device. The command has failed for this, and
-- left the device so: nothing was written, and each image that a crash at any moment since the
-- opening may leave is one that it might have left before. So what was kept is kept.
pub record IsLeftAs {D : Type 0} (files : CommandFiles) (building : List ℕ) (is_fresh : D → Type 0)
    (state : D → DiskState) (fault : Fault) (left : D) : Type 0 where
  pub from : HasOpened files building is_fresh
  pub cause : GoesNoFurther from.plan (state from.opened) (state left) fault
  pub moments : LeavesOnly (state from.opened) (state left) (MayLeave (state from.opened))
  pub unwritten : (state left).writes ≡ (state from.opened).writes

-- What no building is had for: its file, only where that is no text; want of memory; or its text's
-- first fault.
abbrev pub IsBuildingFault : (is_text : List ℕ → Type 0) → (is_no_text : Type 0) → Fault → Type 0
IsBuildingFault is_text is_no_text (Building fault) = HasNoBuilding is_text fault
IsBuildingFault is_text is_no_text (File OfBuilding) = is_no_text
IsBuildingFault is_text is_no_text (Memory no_memory) = Unit {0}
IsBuildingFault is_text is_no_text _ = ⊥

-- what the system's refusal of a file in this role comes to: want of memory where it said so, else
-- the file
abbrev pub IsSystemFault : Role → Error → Fault → Type 0
IsSystemFault role error fault = (error_kind error ≡ OutOfMemory → fault ≡ Memory tt)
    × (error_kind error ≢ OutOfMemory → fault ≡ File role)

-- the system refused this, and it comes to that
abbrev pub IsRefusedBySystem : Role → (refuses : Error → Type 0) → Fault → Type 0
IsRefusedBySystem role refuses fault = (error : Error) × refuses error
    × IsSystemFault role error fault

-- what a refused image comes to
abbrev pub IsImageFault : {F O : Type 0} → FileFault F O → Fault → Type 0
IsImageFault (Unclear error opener) fault = IsSystemFault OfImage error fault
IsImageFault (NotAFile opener) fault = fault ≡ File OfImage
IsImageFault (Unopened error) fault = IsSystemFault OfImage error fault
IsImageFault (Failed failed) fault = IsSystemFault OfImage failed.error fault

-- No image was had: the fault is its file, or want of memory where the system said that.
pub record HasNoImage {F O : Type 0} (is_refused : FileFault F O → Type 0) (fault : Fault)
    (cause : FileFault F O) : Type 0 where
  pub is_fault : (fault ≡ File OfImage) ⊎ (fault ≡ Memory tt)
  pub caused : IsImageFault cause fault
  pub refused : is_refused cause

-- the fault that a command over an image has failed for
abbrev pub fault_in : {D F O : Type 0} → Failure D F O → Fault
fault_in (NoBuilding fault unused) = fault
fault_in (NoImage fault cause) = fault
fault_in (Opened fault left) = fault

-- Why a command over an image has failed, and how it has left the image, its file or what was to open
-- it. The first of these that stands: no building was had; no image was had; or one was.
abbrev pub IsFailure : {D : Type 0} → (files : CommandFiles) → (building : List ℕ)
    → (is_refused : FileFault files.image.File files.image.Opener → Type 0)
    → (is_left : Fault → D → Type 0) → Failure D files.image.File files.image.Opener → Type 0
IsFailure files building is_refused is_left (NoBuilding fault unused) =
    IsBuildingFault (files.is_text building) (files.is_no_text building) fault
    × (unused ≡ files.image.opener)
IsFailure files building is_refused is_left (NoImage fault cause) =
    ReadsBuilding (files.is_text building) × HasNoImage is_refused fault cause
IsFailure files building is_refused is_left (Opened fault left) = is_left fault left

-- so it is of an image that was to be served
abbrev pub IsServingFailure : (files : CommandFiles) → (image building : List ℕ)
    → Failure files.image.Served files.image.File files.image.Opener → Type 0
IsServingFailure files image building = IsFailure files building (files.image.is_unserved image)
    (IsLeftAs files building (files.image.is_to_be_served image) files.image.served_state)

-- and of one that was to be shown
abbrev pub IsShowingFailure : (files : CommandFiles) → (image building : List ℕ)
    → Failure files.image.Shown files.image.File files.image.Opener → Type 0
IsShowingFailure files image building = IsFailure files building (files.image.is_unshown image)
    (IsLeftAs files building (files.image.is_to_be_shown image) files.image.shown_state)

-- What no keeper of this building is had for: no image was had, or the recovery was refused.
abbrev pub IsKeeperFailure : {D F O : Type 0} → (is_fresh : D → Type 0) → (state : D → DiskState)
    → (is_refused : FileFault F O → Type 0) → Plan → Failure D F O → Type 0
IsKeeperFailure is_fresh state is_refused plan (NoBuilding fault unused) = ⊥
IsKeeperFailure is_fresh state is_refused plan (NoImage fault cause) =
    HasNoImage is_refused fault cause
IsKeeperFailure {D} is_fresh state is_refused plan (Opened fault left) =
    HasNoKeeperOf D is_fresh state plan fault left

-- so it is of an image that was to be served
abbrev pub IsServingKeeperFailure : (files : ImageFiles) → (path : List ℕ) → Plan
    → Failure files.Served files.File files.Opener → Type 0
IsServingKeeperFailure files path =
    IsKeeperFailure (files.is_to_be_served path) files.served_state (files.is_unserved path)
