-- One call more of a device on a file, and of the file.
use Rattle.std.proofs.Common.{◌≡◌, ◌++◌, ◌*◌, [], ◌∷◌, ℕ, Bool, true, false, List, length, refl, sym, ◌∙◌, ap}
use Rattle.std.proofs.lemmas.Grind.{merely}
use Rattle.lift_disk.specs.Files.{HasReadBytes}
use Rattle.lift_disk.specs.Runs.{GivesRun, joined}
use Rattle.lift_disk.specs.Trace.{Access}
use Rattle.lift_disk.specs.Trace.Access.{Read as ReadSector, Write as WriteSector, Sync as SyncSectors}
use Rattle.lift_disk.specs.FileCalls.{FileCall, in_bytes, sync_calls, without_bytes}
use Rattle.lift_disk.specs.FileCalls.FileCall.{ReadSectors, WriteSectors, SyncData, SetLength, SyncAll, GetLength, DropCached, Lock, Restrict}

in_bytes-push : (calls : List Access) (call : Access) → in_bytes (calls ++ call ∷ []) ≡ in_bytes calls ++ in_bytes (call ∷ [])
in_bytes-push [] call = refl
in_bytes-push (ReadSector sector ∷ calls) call = ap (λ (l : List FileCall). ReadSectors (sector * 512) [] ∷ l) (in_bytes-push calls call)
in_bytes-push (WriteSector sector bytes ∷ calls) call = ap (λ (l : List FileCall). WriteSectors (sector * 512) (bytes ∷ []) ∷ l) (in_bytes-push calls call)
in_bytes-push (SyncSectors ∷ calls) call = ap (λ (l : List FileCall). SyncData ∷ l) (in_bytes-push calls call)

without_bytes-append : (calls more : List FileCall) → without_bytes (calls ++ more) ≡ without_bytes calls ++ without_bytes more
without_bytes-append [] more = refl
without_bytes-append (ReadSectors offset run ∷ calls) more = ap (λ (l : List FileCall). ReadSectors offset [] ∷ l) (without_bytes-append calls more)
without_bytes-append (WriteSectors offset run ∷ calls) more = ap (λ (l : List FileCall). WriteSectors offset (joined run ∷ []) ∷ l) (without_bytes-append calls more)
without_bytes-append (SyncData ∷ calls) more = ap (λ (l : List FileCall). SyncData ∷ l) (without_bytes-append calls more)
without_bytes-append (SetLength bytes ∷ calls) more = ap (λ (l : List FileCall). SetLength bytes ∷ l) (without_bytes-append calls more)
without_bytes-append (SyncAll ∷ calls) more = ap (λ (l : List FileCall). SyncAll ∷ l) (without_bytes-append calls more)
without_bytes-append (GetLength bytes ∷ calls) more = ap (λ (l : List FileCall). GetLength bytes ∷ l) (without_bytes-append calls more)
without_bytes-append (Lock ∷ calls) more = ap (λ (l : List FileCall). Lock ∷ l) (without_bytes-append calls more)
without_bytes-append (Restrict ∷ calls) more = ap (λ (l : List FileCall). Restrict ∷ l) (without_bytes-append calls more)
without_bytes-append (DropCached ∷ calls) more = without_bytes-append calls more

-- a sync of a device is one of its file, whatever is dropped after it
pub synced_once : (known : Bool) → without_bytes (sync_calls known) ≡ in_bytes (SyncSectors ∷ [])
synced_once true = refl
synced_once false = refl

pub more_calls : (calls after : List Access) (of_files filed : List FileCall) (call : Access) (more : List FileCall) → without_bytes of_files ≡ in_bytes calls → after ≡ calls ++ call ∷ [] → filed ≡ of_files ++ more
    → without_bytes more ≡ in_bytes (call ∷ []) → without_bytes filed ≡ in_bytes after
more_calls calls after of_files filed call more same then filed_more is =
    ap without_bytes filed_more ∙ without_bytes-append of_files more ∙ ap (λ (l : List FileCall). l ++ without_bytes more) same ∙ ap (λ (l : List FileCall). in_bytes calls ++ l) is
    ∙ sym (in_bytes-push calls call) ∙ ap in_bytes (sym then)

pub one_more : (calls after : List Access) (of_files filed : List FileCall) (call : Access) (of_file : FileCall) → without_bytes of_files ≡ in_bytes calls → after ≡ calls ++ call ∷ [] → filed ≡ of_files ++ of_file ∷ []
    → without_bytes (of_file ∷ []) ≡ in_bytes (call ∷ []) → without_bytes filed ≡ in_bytes after
one_more calls after of_files filed call of_file = more_calls calls after of_files filed call (of_file ∷ [])

-- the last call gave these sectors
pub given_run : (calls filed : List FileCall) (offset sector : ℕ) (run : List (List ℕ)) → offset ≡ sector * 512 → filed ≡ calls ++ ReadSectors offset run ∷ []
    → GivesRun (HasReadBytes filed) sector (length run) run
given_run calls filed offset sector run placed listed i bytes inside is =
    merely (record {
      before = calls;
      first = sector;
      run = run;
      after = [];
      listed = listed ∙ ap (λ n. calls ++ ReadSectors n run ∷ []) placed;
      behind = inside.0;
      here = is;
    })
