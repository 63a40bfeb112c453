-- What the faults of each stage are to a whole command.
use Rattle.std.proofs.Common.{◌≡◌, ◌≢◌, ◌<◌, ◌≤◌, ◌+◌, ◌⊎◌, ◌*◌, ℕ, List, [], Option, Some, length, false, refl, sym, ap, subst, ◌∙◌, inl, inr}
use Rattle.std.specs.Prelude.{Result, Ok, Err, IfErr}
use Rattle.std.specs.Str.{IsUtf8}
use Rattle.lift_building.specs.Describes.{IsTextOf}
use Rattle.lift_building.specs.Gives.{IsFirstFault}
use Rattle.lift_building.specs.Plan.{Plan, IsBuilding, shape_of}
use Rattle.lift_building.specs.declared.fault.BuildingFault.{BuildingFault}
use Rattle.lift_building.specs.declared.fault.BuildingFault.TheVariants.{NotToml, Missing, WrongType, OutOfRange, TableShape, Detour, Memory as NoRoom}
use Rattle.lift_disk.specs.Disk.{DiskState, IsSynced, RunsOn}
use Rattle.lift_journal.specs.Calls.{MakesPrefix, format_calls}
use Rattle.lift_journal.specs.Journal.{ReadsAs}
use Rattle.lift_keeper.specs.Writer.{WriterView}
use Rattle.lift_parts.specs.Allocator.{AllocatorState}
use Rattle.lift_parts.specs.Flusher.{FlusherState}
use Rattle.lift_policy.specs.declared.dispatching.Dispatching.{Dispatching}
use Rattle.lift_policy.specs.declared.policies.Shipped.{Shipped}
use Rattle.lift_serve.specs.Open.{EndedState}
use Rattle.lift_serve.specs.Ready.{IsNewGroup}
use Rattle.lift_serve.specs.lemmas.Made.{made_keeps}
use Rattle.lift_journal.specs.declared.fault.JournalFault.TheVariants.{Disk}
use Rattle.lift_keeper.specs.Keeper.{KeeperView}
use Rattle.lift_keeper.specs.Reopening.{RefusesReopening}
use Rattle.lift_keeper.specs.declared.fault.KeeperFault.{KeeperFault}
use Rattle.lift_keeper.specs.declared.fault.KeeperFault.TheVariants.{Journal as OfJournal}
use Rattle.std.specs.declared.fs.options.OpenOptions.{OpenOptions}
use Rattle.lift_disk.specs.FileCalls.{FileCall}
use Rattle.lift_disk.specs.Files.{IsMeasured, sector_file_state_of}
use Rattle.lift_disk.specs.Holding.{HoldsTheSame}
use Rattle.lift_program.specs.Unwritten.{unwritten_file_of, unwritten_state_of}
use Rattle.lift_program.specs.declared.unwritten.UnwrittenFile.{UnwrittenFile}
use Rattle.lift_disk.specs.lemmas.Starts.{holds_then}
use Rattle.lift_disk.specs.declared.file.FileFault.{FileFault}
use Rattle.lift_disk.specs.declared.listed.ListedFile.{Ghosts as Listed}
use Rattle.lift_disk.specs.declared.sectors.SectorFile.{SectorFile}
use Rattle.lift_program.specs.Images.{CommandFiles, IsOpened}
use Rattle.lift_program.specs.Ends.{IsFileFault, IsMadeWith, IsUnformatted, IsReportOfFailure}
use Rattle.lift_program.specs.Faults.{of_building}
use Rattle.std.specs.declared.net.tcp.TcpListener.{TcpListener as Listener}
use Rattle.lift_program.specs.Serving.{IsReadyOver}
use Rattle.lift_program.specs.Stages.{HasBuilding, HasKeeperOf, HasNoImage, HasNoKeeperOf, HasRecovered, IsBuildingFault, IsImageFault, IsLeftAs, IsFailure, IsKeeperFailure, ReadsBuilding, GoesNoFurther, most_text}
use Rattle.lift_program.specs.declared.leftover.Failure.{Failure}
use Rattle.lift_program.specs.declared.leftover.Failure.TheVariants.{NoBuilding, NoImage, Opened}
use Rattle.lift_program.specs.declared.fault.Fault.{Fault}
use Rattle.lift_program.specs.declared.fault.Fault.TheVariants.{Building, Journal, File, Memory, Network, Thread}
use Rattle.lift_program.specs.declared.fault.Role.TheVariants.{Building as OfBuilding, Image as OfImage, Input, Output}

-- the first fault of a text within the bound
pub first_fault : (text : List ℕ) (is_no_text : Type 0) (fault : BuildingFault) → length text ≤ most_text → (fault ≢ NoRoom text → IsFirstFault text fault) → IsBuildingFault (λ t. t ≡ text) is_no_text (of_building fault)
first_fault text is_no_text NotToml short first = record { text = text; read = refl; short = short; first = first (λ same. cc) }
first_fault text is_no_text (Missing field) short first = record { text = text; read = refl; short = short; first = first (λ same. cc) }
first_fault text is_no_text (WrongType field) short first = record { text = text; read = refl; short = short; first = first (λ same. cc) }
first_fault text is_no_text (OutOfRange field) short first = record { text = text; read = refl; short = short; first = first (λ same. cc) }
first_fault text is_no_text TableShape short first = record { text = text; read = refl; short = short; first = first (λ same. cc) }
first_fault text is_no_text (Detour i j k) short first = record { text = text; read = refl; short = short; first = first (λ same. cc) }
first_fault text is_no_text (NoRoom no_memory) short first = tt

-- none of them is the building's file
pub building_no_file : (fault : BuildingFault) → of_building fault ≢ File OfBuilding
building_no_file NotToml same = cc
building_no_file (Missing field) same = cc
building_no_file (WrongType field) same = cc
building_no_file (OutOfRange field) same = cc
building_no_file TableShape same = cc
building_no_file (Detour i j k) same = cc
building_no_file (NoRoom no_memory) same = cc

pub has_building : (plan : Plan) (text : List ℕ) → length text ≤ most_text → IsTextOf text plan → HasBuilding (λ t. t ≡ text) plan
has_building plan text short described = record { text = text; read = refl; short = short; described = described }

pub has_no_keeper : {D : Type 0} (is_fresh : D → Type 0) (state : D → DiskState) (plan : Plan) (opened left told : D) (refusal : KeeperFault) → told ≡ left → is_fresh opened
    → RefusesReopening plan (state opened) (state left) refusal → HasNoKeeperOf D is_fresh state plan (Journal refusal) told
has_no_keeper {D} is_fresh state plan opened left told refusal same fresh refused =
    subst (λ (d : D). HasNoKeeperOf D is_fresh state plan (Journal refusal) d) (sym same) (record { opened = opened; fresh = fresh; refusal = refusal; is_refusal = refl; refused = refused })

-- what the making of a journal leaves
pub is_made : (files : CommandFiles) (path building : List ℕ) (plan : Plan) (half : ℕ) (image left told : files.image.Made) → told ≡ left → HasBuilding (files.is_text building) plan → IsBuilding plan
    → files.image.is_just_made path (2 + 2 * half) image → RunsOn (files.image.made_state image) (files.image.made_state left)
    → (files.image.made_state left).trace ≡ format_calls (shape_of plan half)
    → (files.image.made_state left).size ≡ 2 + 2 * half → (files.image.made_state left).calls ≡ 5 → (files.image.made_state left).writes ≡ 3 → (files.image.made_state left).failures ≡ 0
    → ((files.image.made_state image).is_honest → ReadsAs (shape_of plan half) [] [] (files.image.made_state left).image)
    → ((files.image.made_state image).is_honest → IsSynced (files.image.made_state left))
    → IsMadeWith files path building half told
is_made files path building plan half image left told same has sound fresh runs made size calls writes failures reads synced =
    subst (λ (d : files.image.Made). IsMadeWith files path building half d) (sym same) (record {
      from = record { plan = plan; described = has; opened = image; fresh = fresh };
      made = made;
      size = size;
      calls = calls;
      writes = writes;
      failures = failures;
      honest = runs.honest.1;
      keeps = made_keeps files.image.made_state plan half left sound (λ is. reads (runs.honest.0 is)) (λ is. synced (runs.honest.0 is));
    })

-- the journal couldn't be made
pub is_unformatted : (files : CommandFiles) (path building : List ℕ) (plan : Plan) (half : ℕ) (image left told : files.image.Made) (fault : Fault) → told ≡ left → HasBuilding (files.is_text building) plan → files.image.is_just_made path (2 + 2 * half) image
    → fault ≡ Journal (OfJournal Disk) → MakesPrefix (format_calls (shape_of plan half)) (files.image.made_state image) (files.image.made_state left) → RunsOn (files.image.made_state image) (files.image.made_state left)
    → (files.image.made_state image).failures < (files.image.made_state left).failures → IsUnformatted files path building half fault told
is_unformatted files path building plan half image left told fault same has fresh is stops runs failed =
    subst (λ (d : files.image.Made). IsUnformatted files path building half fault d) (sym same)
    (record { from = record { plan = plan; described = has; opened = image; fresh = fresh }; is_fault = is; front = stops; runs = runs; failed = failed })

pub reads_building : (is_text : List ℕ → Type 0) (plan : Plan) → HasBuilding is_text plan → ReadsBuilding is_text
reads_building is_text plan has = (plan, has)

-- the fault of bytes that were read
bytes_refuse : (is_text : List ℕ → Type 0) (is_no_text : Type 0) (bytes : List ℕ) (fault : Fault) → is_text bytes → (¬ IsUtf8 bytes → is_no_text) → IsBuildingFault (λ t. t ≡ bytes) (¬ IsUtf8 bytes) fault → IsBuildingFault is_text is_no_text fault
bytes_refuse is_text is_no_text bytes (Building fault) read none is =
    record { text = bytes; read = read; short = subst (λ t. length t ≤ most_text) is.read is.short; first = subst (λ t. IsFirstFault t fault) is.read is.first }
bytes_refuse is_text is_no_text bytes (File OfBuilding) read none is = none is
bytes_refuse is_text is_no_text bytes (Memory no_memory) read none is = tt
bytes_refuse is_text is_no_text bytes (Journal fault) read none is = absurd is
bytes_refuse is_text is_no_text bytes (File OfImage) read none is = absurd is
bytes_refuse is_text is_no_text bytes (File Input) read none is = absurd is
bytes_refuse is_text is_no_text bytes (File Output) read none is = absurd is
bytes_refuse is_text is_no_text bytes Network read none is = absurd is
bytes_refuse is_text is_no_text bytes Thread read none is = absurd is

pub bytes_refused : {T : Type 0} (is_text : List ℕ → Type 0) (is_no_text : Type 0) (bytes : List ℕ) (result : Result T Fault) → is_text bytes → (¬ IsUtf8 bytes → is_no_text) → IfErr result (IsBuildingFault (λ t. t ≡ bytes) (¬ IsUtf8 bytes))
    → IfErr result (IsBuildingFault is_text is_no_text)
bytes_refused is_text is_no_text bytes (Ok value) read none is = tt
bytes_refused is_text is_no_text bytes (Err fault) read none is = bytes_refuse is_text is_no_text bytes fault read none is

-- a file that is refused gives no image
pub has_no_image : {F O : Type 0} (is_refused : FileFault F O → Type 0) (fault : Fault) (given cause : FileFault F O) → cause ≡ given → IsFileFault OfImage fault → IsImageFault given fault → is_refused given → HasNoImage is_refused fault cause
has_no_image {F} {O} is_refused fault given cause same is caused refused =
    subst (λ (c : FileFault F O). HasNoImage is_refused fault c) (sym same) (record { is_fault = is; caused = caused; refused = refused })

-- what is reported of a fault is that of one that it is
pub report_of : {D : Type 0} (has_failed : Type 0) (fault known : Fault) (left : D) (before after : Option (List ℕ)) → fault ≡ known → IsReportOfFailure {D = D} {F = Unit {0}} {O = Unit {0}} has_failed (Opened known left) before after
    → IsReportOfFailure {D = D} {F = Unit {0}} {O = Unit {0}} has_failed (Opened fault left) before after
report_of {D} has_failed fault known left before after is so = subst (λ (f : Fault). IsReportOfFailure {D = D} {F = Unit {0}} {O = Unit {0}} has_failed (Opened f left) before after) (sym is) so

-- all that a serving takes was had
pub is_ready : (files : CommandFiles) (image building : List ℕ) (plan standing : Plan) (keeper : KeeperView files.image.Served) (listener : Listener) (port : ℕ) (policy : Dispatching Shipped) (sessions : ℕ) (a : AllocatorState (Dispatching Shipped)) (f : FlusherState files.image.Served) (terms : EndedState)
    → standing ≡ plan → HasBuilding (files.is_text building) plan → HasKeeperOf (files.image.is_to_be_served image) files.image.served_state standing keeper → files.gives port (Some listener) → terms ≡ record { listener = listener; sessions = sessions }
    → IsNewGroup files.image.served_state policy keeper a f → IsReadyOver files image building port policy sessions a f terms
is_ready files image building plan standing keeper listener port policy sessions a f terms stands has kept here bound group = record {
  from = record { plan = standing; described = subst (HasBuilding (files.is_text building)) (sym stands) has; opened = kept.opened; fresh = kept.fresh };
  keeper = keeper;
  is_kept = kept.is_kept;
  group = group;
  here = subst (λ (t : EndedState). files.gives port (Some t.listener)) (sym bound) here;
  count = ap (λ (t : EndedState). t.sessions) bound;
}

-- the device of a group that is ready is that of its keeper
pub group_left : {D P : Type 0} (state : D → DiskState) (policy : P) (keeper : KeeperView D) (a : AllocatorState P) (f : FlusherState D) (left : D) → IsNewGroup state policy keeper a f → left ≡ f.writer.device → left ≡ keeper.writer.device
group_left {D} state policy keeper a f left group same = same ∙ ap (λ (w : WriterView D). w.device) (group.parts.writer ∙ ap (λ (k : KeeperView D). k.writer) group.begins)

-- which is whole
pub is_whole_yet : {D P : Type 0} (state : D → DiskState) (policy : P) (keeper : KeeperView D) (a : AllocatorState P) (f : FlusherState D) → IsNewGroup state policy keeper a f → keeper.writer.is_broken ≡ false → f.writer.is_broken ≡ false
is_whole_yet {D} state policy keeper a f group whole = ap (λ (w : WriterView D). w.is_broken) (group.parts.writer ∙ ap (λ (k : KeeperView D). k.writer) group.begins) ∙ whole

-- the building stands where it was put
pub stands_so : (is_text : List ℕ → Type 0) (plan standing : Plan) → standing ≡ plan → HasBuilding is_text plan → HasBuilding is_text standing
stands_so is_text plan standing same has = subst (HasBuilding is_text) (sym same) has

-- the recovery was refused, or no image could be opened
pub keeper_failure : {D : Type 0} (files : CommandFiles) (building : List ℕ) (is_fresh : D → Type 0) (state : D → DiskState) (is_refused : FileFault files.image.File files.image.Opener → Type 0) (plan : Plan) (failure : Failure D files.image.File files.image.Opener) → HasBuilding (files.is_text building) plan
    → IsKeeperFailure is_fresh state is_refused plan failure → IsFailure files building is_refused (IsLeftAs files building is_fresh state) failure
keeper_failure files building is_fresh state is_refused plan (NoBuilding fault unused) has never = absurd never
keeper_failure files building is_fresh state is_refused plan (NoImage fault cause) has is = ((plan, has), is)
keeper_failure files building is_fresh state is_refused plan (Opened fault left) has is = record {
  from = record { plan = plan; described = has; opened = is.opened; fresh = is.fresh };
  cause = subst (GoesNoFurther plan (state is.opened) (state left)) (sym is.is_refusal) is.refused;
  moments = is.refused.moments;
  unwritten = is.refused.writes;
}

-- after the recovery a command has failed for a known fault
pub kept_left : {D : Type 0} (files : CommandFiles) (building : List ℕ) (is_fresh : D → Type 0) (state : D → DiskState) (plan : Plan) (keeper : KeeperView D) (left : D) (fault known : Fault) → HasBuilding (files.is_text building) plan → HasKeeperOf is_fresh state plan keeper → left ≡ keeper.writer.device
    → fault ≡ known → ((old new : DiskState) → HasRecovered plan old new → GoesNoFurther plan old new known) → IsLeftAs files building is_fresh state fault left
kept_left {D} files building is_fresh state plan keeper left fault known has opened is same stops =
    let recovers = opened.is_kept.recovers in
    subst (λ (d : D). IsLeftAs files building is_fresh state fault d) (sym is) (record {
      from = record { plan = plan; described = has; opened = opened.opened; fresh = opened.fresh };
      cause = subst (GoesNoFurther plan _ _) (sym same) (stops _ _ (keeper.writer.register, keeper.writer.half, keeper.writer.is_in_second_half, keeper.writer.used, recovers));
      moments = recovers.moments;
      unwritten = recovers.writes;
    })

-- for the standard output, or want of memory
pub output_left : {D : Type 0} (files : CommandFiles) (building : List ℕ) (is_fresh : D → Type 0) (state : D → DiskState) (plan : Plan) (keeper : KeeperView D) (left : D) (fault : Fault) → HasBuilding (files.is_text building) plan → HasKeeperOf is_fresh state plan keeper → left ≡ keeper.writer.device
    → IsFileFault Output fault → IsLeftAs files building is_fresh state fault left
output_left files building is_fresh state plan keeper left fault has opened is (inl output) = kept_left files building is_fresh state plan keeper left fault (File Output) has opened is output (λ old new recovered. recovered)
output_left files building is_fresh state plan keeper left fault has opened is (inr memory) = kept_left files building is_fresh state plan keeper left fault (Memory tt) has opened is memory (λ old new recovered. recovered)

-- what the opening of a keeper has failed for: nothing was written, and it is neither the output nor the port
pub keeper_report : {D F O : Type 0} (is_fresh : D → Type 0) (state : D → DiskState) (is_refused : FileFault F O → Type 0) (plan : Plan) (has_failed : Type 0) (failure : Failure D F O) (written : Option (List ℕ))
    → IsKeeperFailure is_fresh state is_refused plan failure → IsReportOfFailure has_failed failure written written
keeper_report is_fresh state is_refused plan has_failed (NoBuilding fault unused) written never = absurd never
keeper_report is_fresh state is_refused plan has_failed (NoImage fault cause) written is = refl
keeper_report is_fresh state is_refused plan has_failed (Opened fault left) written is = report_of has_failed fault (Journal is.refusal) left written written is.is_refusal refl

-- what was written failed, or memory was wanting
pub output_report : {D : Type 0} (has_failed : Type 0) (fault : Fault) (left : D) (before after : Option (List ℕ)) → (fault ≡ File Output → has_failed) → (after ≡ before) ⊎ has_failed → IsFileFault Output fault
    → IsReportOfFailure {D = D} {F = Unit {0}} {O = Unit {0}} has_failed (Opened fault left) before after
output_report has_failed fault left before after failed unwritten (inl is) = report_of has_failed fault (File Output) left before after is (failed is)
output_report has_failed fault left before after failed unwritten (inr is) = report_of has_failed fault (Memory tt) left before after is unwritten

-- a file whose writes are refused holds what it would else
pub unwritten_holds : {F : Type 0} {listing : Listed F} (holds : F → DiskState) (d : UnwrittenFile F listing) → HoldsTheSame (sector_file_state_of holds (unwritten_file_of d)) (unwritten_state_of holds d)
unwritten_holds holds d = record {
  size = refl;
  image = refl;
  synced = refl;
  loose = λ i. (λ is. is, λ was. was);
  steady = (λ is. is, λ was. was);
  written = λ i bytes. (λ is. is, λ was. was);
  moment = refl;
  left_since = λ t left. (λ is. is, λ was. was);
}

-- an image that was opened, by the file below it
pub is_opened : {F : Type 0} {listing : Listed F} (opens : OpenOptions → List ℕ → Option F → Type 0) (gives : F → FileCall → F → Type 0) (holds : F → DiskState) (how : OpenOptions) (first : List FileCall) (image : DiskState) (file below : SectorFile F listing) (path : List ℕ) → below ≡ file → image.calls ≡ 0 → image.failures ≡ 0
    → (sector_file_state_of holds file).calls ≡ 0 → IsMeasured (opens how path) gives holds first file → ((sector_file_state_of holds file).is_honest → image.is_honest) → HoldsTheSame (sector_file_state_of holds file) image → IsOpened opens gives holds how first path image below
is_opened {F} {listing} opens gives holds how first image file below path same uncalled unhurt untouched measured honest held =
    subst (λ (f : SectorFile F listing). IsOpened opens gives holds how first path image f) (sym same) (record {
      uncalled = uncalled;
      unhurt = unhurt;
      untouched = untouched;
      measured = measured;
      honest = λ is. honest (measured.honest.1 is);
      held = λ is. holds_then (holds measured.file) (sector_file_state_of holds file) image (measured.held is) held;
    })
