-- What is accepted, and so what any recovery gives, can be written: each entry fits, and is a record
-- that the journal may hold.
use Rattle.std.specs.Prelude.{All}
use Rattle.lift_base.specs.declared.history.Record.TheVariants.{Entry as EntryRecord}
use Rattle.lift_base.specs.Records.{IsRecord, IsTypedCommand}
use Rattle.lift_base.specs.declared.history.Entry.{Entry}
use Rattle.lift_register.specs.Prelude.{FitFrom}
use Rattle.lift_policy.specs.Laws.{IsTypedBody}
use Rattle.lift_world.specs.declared.event.Event.{Event}
use Rattle.lift_world.specs.declared.event.Event.TheVariants.{Ask}
use Rattle.lift_world.specs.World.{World}

-- an ask is as its types hold it
abbrev pub IsTypedEvent : Event → Type 0
IsTypedEvent (Ask terminal number body) = IsTypedCommand terminal number × IsTypedBody body
IsTypedEvent event = Unit {0}

-- All that was accepted, safe or not, fits one after another: what a batch is asked for before its
-- first device call.
abbrev pub AcceptsFitting : World → Type 0
AcceptsFitting w = FitFrom w.building w.base w.accepted

-- and each of it is a record of the journal
abbrev pub AcceptsRecords : World → Type 0
AcceptsRecords w = All (λ (e : Entry). IsRecord (EntryRecord e)) w.accepted
