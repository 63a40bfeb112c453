-- The calls of a file that have succeeded, in their order, and the calls of a device that they
-- stand for.
use Rattle.std.specs.Prelude.{◌≡◌, ◌⊎◌, ◌++◌, ◌+◌, ◌*◌, ◌==◌, [], ◌∷◌, ℕ, List, Result, OnOk}
use Rattle.std.specs.Prelude.{OnErr, Bool, true, false}
use Rattle.std.specs.Prelude.{refl, cond, IfOk}
use Rattle.std.specs.Coded.{Coded, code_by, coded×, coded_ℕ, coded_list}
use Rattle.lift_disk.specs.Runs.{joined}
use Rattle.lift_disk.specs.Trace.{Access}
use Rattle.lift_disk.specs.Trace.Access.{Read as ReadSector, Write as WriteSector}
use Rattle.lift_disk.specs.Trace.Access.{Sync as SyncSectors}

pub data FileCall : Type 0 where
  -- the offset in bytes, and the sectors that it gave, one after the other
  ReadSectors : ℕ → List (List ℕ) → FileCall
  -- the offset in bytes, and the sectors that it took
  WriteSectors : ℕ → List (List ℕ) → FileCall
  -- what was written is made safe, without the file's times
  SyncData : FileCall
  -- the file's length in bytes is set
  SetLength : ℕ → FileCall
  -- all of the file is made safe
  SyncAll : FileCall
  -- the file's length in bytes, which it answered
  GetLength : ℕ → FileCall
  -- what is read of it from now on is what its disk holds
  DropCached : FileCall
  -- the lock that one process has at a time
  Lock : FileCall
  -- its owner alone may read and write it from now on
  Restrict : FileCall

-- how the logic stores a call
abbrev pub to_parts : FileCall → ℕ × (ℕ × List (List ℕ))
to_parts (ReadSectors offset run) = (0, (offset, run))
to_parts (WriteSectors offset run) = (1, (offset, run))
to_parts SyncData = (2, (0, []))
to_parts (SetLength bytes) = (3, (bytes, []))
to_parts SyncAll = (4, (0, []))
to_parts (GetLength bytes) = (5, (bytes, []))
to_parts DropCached = (6, (0, []))
to_parts Lock = (7, (0, []))
to_parts Restrict = (8, (0, []))

abbrev pub of_parts : ℕ × (ℕ × List (List ℕ)) → FileCall
of_parts p = cond (p.0 == 0) (ReadSectors p.1.0 p.1.1)
    (cond (p.0 == 1) (WriteSectors p.1.0 p.1.1)
    (cond (p.0 == 2) SyncData
    (cond (p.0 == 3) (SetLength p.1.0)
    (cond (p.0 == 4) SyncAll
    (cond (p.0 == 5) (GetLength p.1.0)
    (cond (p.0 == 6) DropCached (cond (p.0 == 7) Lock Restrict)))))))

pub there_and_back : (call : FileCall) → of_parts (to_parts call) ≡ call
there_and_back (ReadSectors offset run) = refl
there_and_back (WriteSectors offset run) = refl
there_and_back SyncData = refl
there_and_back (SetLength bytes) = refl
there_and_back SyncAll = refl
there_and_back (GetLength bytes) = refl
there_and_back DropCached = refl
there_and_back Lock = refl
there_and_back Restrict = refl

abbrev pub file_calls_code : Coded (List FileCall)
file_calls_code = coded_list
    (code_by (ℕ × (ℕ × List (List ℕ)))
    (coded× coded_ℕ (coded× coded_ℕ (coded_list (coded_list coded_ℕ)))) to_parts of_parts
    there_and_back)

-- the calls of a file that stand for these of a device, but for what reads gave: a sector is 512
-- bytes, and what a write took is one piece
abbrev pub in_bytes : List Access → List FileCall
in_bytes [] = []
in_bytes (ReadSector sector ∷ calls) = ReadSectors (sector * 512) [] ∷ in_bytes calls
in_bytes (WriteSector sector bytes ∷ calls) =
    WriteSectors (sector * 512) (bytes ∷ []) ∷ in_bytes calls
in_bytes (SyncSectors ∷ calls) = SyncData ∷ in_bytes calls

-- these calls, but for what reads gave, and for what was dropped after a sync; what a write took is
-- one piece
abbrev pub without_bytes : List FileCall → List FileCall
without_bytes [] = []
without_bytes (ReadSectors offset run ∷ calls) = ReadSectors offset [] ∷ without_bytes calls
without_bytes (WriteSectors offset run ∷ calls) =
    WriteSectors offset (joined run ∷ []) ∷ without_bytes calls
without_bytes (SyncData ∷ calls) = SyncData ∷ without_bytes calls
without_bytes (SetLength bytes ∷ calls) = SetLength bytes ∷ without_bytes calls
without_bytes (SyncAll ∷ calls) = SyncAll ∷ without_bytes calls
without_bytes (GetLength bytes ∷ calls) = GetLength bytes ∷ without_bytes calls
without_bytes (DropCached ∷ calls) = without_bytes calls
without_bytes (Lock ∷ calls) = Lock ∷ without_bytes calls
without_bytes (Restrict ∷ calls) = Restrict ∷ without_bytes calls

-- Exactly one call of a file, this one: it succeeded, or it failed.
pub record IsOneCall {F T E : Type 0} (gives fails : F → FileCall → F → Type 0)
    (result : Result T E) (call : FileCall) (old new : F) : Type 0 where
  pub made : OnOk result (gives old call new)
  pub failed : OnErr result (fails old call new)

-- The same of a call that gives an answer: it succeeded with this one, or failed, whatever it would
-- have told.
pub record IsOneAnswer {F T E : Type 0} (gives fails : F → FileCall → F → Type 0)
    (result : Result T E) (call : T → FileCall) (old new : F) : Type 0 where
  pub made : IfOk result (λ answer. gives old (call answer) new)
  pub failed : OnErr result ((answer : T) → fails old (call answer) new)

-- These calls, one after the other, lead from one state to another.
abbrev pub LeadsBy : {F : Type 0} → (gives : F → FileCall → F → Type 0) → List FileCall
    → (old new : F) → Type 0
LeadsBy gives [] old new = new ≡ old
LeadsBy {F} gives (call ∷ calls) old new =
    (between : F) × gives old call between × LeadsBy gives calls between new

-- the calls of a file by which a device makes safe what was written: where it isn't known that no
-- call has failed, what is cached is dropped after the sync
abbrev pub sync_calls : Bool → List FileCall
sync_calls true = SyncData ∷ []
sync_calls false = SyncData ∷ DropCached ∷ []

-- One of these calls has failed, after those before it, and none was made after it.
abbrev pub FailsIn : {F : Type 0} → (gives fails : F → FileCall → F → Type 0)
    → List FileCall → (old new : F) → Type 0
FailsIn gives fails [] old new = ⊥
FailsIn {F} gives fails (call ∷ calls) old new = fails old call new
    ⊎ (between : F) × gives old call between × FailsIn gives fails calls between new

-- Just these calls, in their order, up to one that fails.
pub record AreCalls {F T E : Type 0} (gives fails : F → FileCall → F → Type 0)
    (result : Result T E) (calls : List FileCall) (old new : F) : Type 0 where
  pub made : OnOk result (LeadsBy gives calls old new)
  pub failed : OnErr result (FailsIn gives fails calls old new)

-- These calls more if all of them succeeded, else one failure more.
pub record MakesCalls {T E : Type 0} (result : Result T E) (calls : List FileCall)
    (old_calls new_calls : List FileCall) (old_failures new_failures : ℕ) : Type 0 where
  pub listed : OnOk result (new_calls ≡ old_calls ++ calls)
  pub unfailed : OnOk result (new_failures ≡ old_failures)
  pub unlisted : OnErr result (new_calls ≡ old_calls)
  pub failed : OnErr result (new_failures ≡ old_failures + 1)
