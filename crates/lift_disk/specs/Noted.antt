-- What a note adds to a list that only proofs read.
use Rattle.std.specs.Prelude.{◌++◌, [], ◌∷◌, List}
use Rattle.lift_disk.specs.declared.trace.Made.{Made}
use Rattle.lift_disk.specs.declared.trace.Made.TheVariants as made
use Rattle.lift_disk.specs.declared.file_calls.Called.{Called}
use Rattle.lift_disk.specs.declared.file_calls.Called.TheVariants as called
use Rattle.lift_disk.specs.declared.call.Change.{Change}
use Rattle.lift_disk.specs.declared.call.Change.TheVariants as change
use Rattle.lift_disk.specs.Trace.{Access}
use Rattle.lift_disk.specs.Trace.Access.{Read, Write, Sync}
use Rattle.lift_disk.specs.FileCalls.{FileCall}
use Rattle.lift_disk.specs.FileCalls.FileCall.{ReadSectors, WriteSectors, SyncData, SetLength, SyncAll}
use Rattle.lift_disk.specs.FileCalls.FileCall.{GetLength, DropCached, Lock, Restrict}
use Rattle.lift_disk.specs.Disk.{Image}
use Rattle.lift_disk.specs.Places.{all_now}
use Rattle.lift_disk.specs.Calls.{Call, writes_of}
use Rattle.lift_disk.specs.Calls.Call.{Sync as Synced}

abbrev pub access_of : Made → Access
access_of (made.Read place) = Read place
access_of (made.Write place bytes) = Write place bytes.now
access_of made.Sync = Sync

abbrev pub file_call_of : Called → FileCall
file_call_of (called.ReadSectors offset run) = ReadSectors offset run.now
file_call_of (called.WriteSectors offset run) = WriteSectors offset run.now
file_call_of called.SyncData = SyncData
file_call_of (called.SetLength bytes) = SetLength bytes
file_call_of called.SyncAll = SyncAll
file_call_of (called.GetLength bytes) = GetLength bytes
file_call_of called.DropCached = DropCached
file_call_of called.Lock = Lock
file_call_of called.Restrict = Restrict

abbrev pub first_after : Change → Image → Image
first_after (change.First sectors) first = all_now sectors.now
first_after (change.Write sector run) first = first
first_after (change.Sync loose) first = first

abbrev pub calls_after : Change → List Call → List Call
calls_after (change.First sectors) calls = []
calls_after (change.Write sector run) calls = calls ++ writes_of sector run.now
calls_after (change.Sync loose) calls = calls ++ Synced loose.now ∷ []
