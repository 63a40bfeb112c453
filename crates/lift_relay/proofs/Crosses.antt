-- An allocator may go to another thread, where its policy may.
use denote.Builtin.{unit, Array}
use denote.RattleType.{RattleType}
use denote.Ref.{NamedLft}
use denote.Struct.Field.{row_field, shr_ref_field, u64-field, bool-field}
use denote.Param.{number}
use denote.Param.Send.{IsSend, IsSync, sendable, view_send, shr_send}
use denote.Param.SendFields.{declared_send, as_row_send}
use Rattle.std.proofs.Crossing.{crosses, Arc-send}
use Rattle.core.proofs.snapshot.Sent.{snapshot_send}
use Rattle.core.specs.contracts.option.Option as Option
use Rattle.core.specs.contracts.result.Result as RS
use Rattle.std.specs.contracts.alloc.Global as Global
use Rattle.std.specs.contracts.impls.GlobalAllocator.TheImpl as heap
use Rattle.std.specs.contracts.sync.Arc as Arc
use Rattle.arrayvec.specs.contracts.array_vec.ArrayVec as ArrayVec
use Rattle.arrayvec.proofs.array_vec.ArrayVec.TheSendSync as arrays
use Rattle.atomic_table.specs.contracts.shared.Seat as Seat
use Rattle.atomic_table.proofs.shared.Seat.TheSendSync as passes
use Rattle.crossbeam_queue.specs.contracts.array_queue.Doing as Doing
use Rattle.crossbeam_queue.specs.contracts.array_queue.Slotted as Slotted
use Rattle.crossbeam_queue.specs.contracts.array_queue.Turns as Turns
use Rattle.crossbeam_queue.specs.contracts.array_queue.TurnsTableRuleOptionDoingUnit.TheImpl as turns
use Rattle.crossbeam_queue.proofs.array_queue.Slotted.TheSendSync as queues
use Rattle.lift_base.specs.declared.limits.TheConstants.{MOST_CARS, MOST_ENTRIES}
use Rattle.lift_base.specs.contracts.history.Entry as Entry
use Rattle.lift_building.specs.contracts.building.Building as Building
use Rattle.lift_register.specs.contracts.registers.Register as Register
use Rattle.lift_stops.specs.contracts.schedule.Schedule as Schedule
use Rattle.lift_desk.specs.contracts.desk.Desk as Desk
use Rattle.lift_desk.specs.contracts.desk.TakeSeat as TakeSeat
use Rattle.lift_desk.proofs.desk.Desk.TheSendSync as desk_is
use Rattle.lift_desk.proofs.desk.TakeSeat.TheSendSync as seat_is
use Rattle.lift_decider.specs.contracts.decider.Decider as Decider
use Rattle.lift_decider.proofs.decider.Decider.TheSendSync as decider_is
use Rattle.lift_policy.specs.declared.policy.Policy.{Ghosts}
use Rattle.lift_parts.proofs.taken.NotedCommand.TheSendSync as taken_is
use Rattle.lift_parts.specs.contracts.taken.NotedCommand as NotedCommand
use Rattle.lift_relay.specs.contracts.basis.Basis as Basis
use Rattle.lift_relay.specs.contracts.basis.Basis.TheInside as basis_inside
use Rattle.lift_relay.specs.contracts.batch.Batch as Batch
use Rattle.lift_relay.specs.contracts.batch.Batch.TheInside as batch_inside
use Rattle.lift_relay.specs.contracts.line.EndView as EndView
use Rattle.lift_relay.specs.contracts.line.EndViewProtocolBatch.TheImpl as order
use Rattle.lift_relay.specs.contracts.line.SendEnd as SendEnd
use Rattle.lift_relay.specs.contracts.line.SendEnd.TheInside as end_inside
use Rattle.lift_relay.specs.contracts.side.Side as Side
use Rattle.lift_relay.specs.contracts.side.Side.TheInside as side_inside
use Rattle.lift_relay.specs.contracts.scan.AheadParts as AheadParts
use Rattle.lift_relay.specs.contracts.deciding.Scanner as Scanner
use Rattle.lift_relay.specs.contracts.deciding.Scanner.TheInside as scanner_inside
use Rattle.lift_relay.specs.contracts.allocator.Allocator as Allocator
use Rattle.lift_relay.specs.contracts.allocator.Allocator.TheInside as allocator_inside
use Rattle.lift_relay.specs.contracts.gate.AskingAllocator as Asking
use Rattle.lift_relay.specs.contracts.gate.AskingAllocator.TheInside as asking_inside
use Rattle.lift_relay.specs.contracts.gate.GatedAllocator as Gated

unit_send : IsSend unit
unit_send = search sendable depth 6

entry_send : IsSend Entry.the_row
entry_send = search (sendable, crosses) depth 20

basis_send : IsSend Basis.the_row
basis_send = view_send _ _ _ _ _ (declared_send basis_inside.the_type (snapshot_send Register.the_row, (snapshot_send (Array (Option.the_row Schedule.the_row) tt MOST_CARS), tt)))

pub batch_send : IsSend Batch.the_row
batch_send = view_send _ _ _ _ _ (declared_send batch_inside.the_type (
  as_row_send (ArrayVec.the_field NotedCommand.the_row (number MOST_ENTRIES) unit) (arrays.the_send NotedCommand.the_row (number MOST_ENTRIES) unit taken_is.the_send unit_send),
  (
    as_row_send (ArrayVec.the_field Entry.the_row (number MOST_ENTRIES) unit) (arrays.the_send Entry.the_row (number MOST_ENTRIES) unit entry_send unit_send),
    (
      snapshot_send Building.the_row,
      (as_row_send Basis.the_field basis_send, (as_row_send Basis.the_field basis_send, (snapshot_send Desk.the_row, (snapshot_send TakeSeat.the_row, tt)))),
    ),
  ),
))

option_send : (R : RattleType) → IsSend R → IsSend (Option.the_row R)
option_send R s = search (sendable, crosses) depth 12

abbrev doing : RattleType
doing = Doing.the_row Batch.the_row EndView.the_row

abbrev queue : RattleType
queue = Slotted.the_row (Option.the_row Batch.the_row) doing (Turns.the_row EndView.the_row) Global.the_row
    (turns.ghosts Batch.the_row EndView.the_row EndView.the_row order.ghosts turns.no_dict) heap.ghosts

queue_send : IsSend queue
queue_send = search (sendable, crosses, queues.the_send, option_send, batch_send) depth 12

queue_sync : IsSync queue
queue_sync = search (sendable, crosses, queues.the_sync, option_send, batch_send) depth 12

line_send : IsSend (Arc.the_row queue Global.the_row heap.ghosts)
line_send = Arc-send queue queue_send queue_sync

pass_send : IsSend (Seat.the_row (Option.the_row Batch.the_row) doing)
pass_send = passes.the_send (Option.the_row Batch.the_row) doing (option_send Batch.the_row batch_send)

side_send : IsSend (Side.the_row queue (Seat.the_row (Option.the_row Batch.the_row) doing))
side_send = view_send _ _ _ _ _ (declared_send (side_inside.the_type queue (Seat.the_row (Option.the_row Batch.the_row) doing)) (line_send, (pass_send, (as_row_send bool-field (search sendable depth 6), (as_row_send bool-field (search sendable depth 6), tt)))))

pub end_send : IsSend SendEnd.the_row
end_send = view_send _ _ _ _ _ (declared_send end_inside.the_type (as_row_send (Side.the_field queue (Seat.the_row (Option.the_row Batch.the_row) doing)) side_send, (as_row_send u64-field (search sendable depth 6), tt)))

parts_send : (b : NamedLft) (P : RattleType) → IsSend P → IsSend (AheadParts.the_row b P)
parts_send b P s = declared_send (AheadParts.the_type b P) (as_row_send TakeSeat.the_field seat_is.the_send, (as_row_send (Decider.the_field b) (decider_is.the_send b), (as_row_send (row_field P) s, tt)))

scanner_send : (d b : NamedLft) (P : RattleType) (h : Ghosts P.Denot) → IsSend P → IsSend (Scanner.the_row d b P h)
scanner_send d b P h s = view_send _ _ _ _ _ (declared_send (scanner_inside.the_type d b P h) (
  as_row_send (shr_ref_field d Desk.the_row tt) (shr_send d.mir d.lft Desk.the_row desk_is.the_sync),
  (parts_send b P s, (snapshot_send (Decider.the_row b), tt)),
))

allocator_send : (d b : NamedLft) (P : RattleType) (h : Ghosts P.Denot) → IsSend P → IsSend (Allocator.the_row d b P h)
allocator_send d b P h s = view_send _ _ _ _ _ (declared_send (allocator_inside.the_type d b P h) (
  as_row_send (Scanner.the_field d b P h) (scanner_send d b P h s),
  (as_row_send SendEnd.the_field end_send, (option_send Batch.the_row batch_send, tt)),
))

pub asking_send : (d b : NamedLft) (P : RattleType) (h : Ghosts P.Denot) → IsSend P → IsSend (Asking.the_row d b P h)
asking_send d b P h s = view_send _ _ _ _ _ (declared_send (asking_inside.the_type d b P h) (as_row_send (Allocator.the_field d b P h) (allocator_send d b P h s), tt))

gated_send : (d b : NamedLft) (P : RattleType) (h : Ghosts P.Denot) → IsSend P → IsSend (Gated.the_row d b P h)
gated_send d b P h s = declared_send (Gated.the_type d b P h) (as_row_send (Allocator.the_field d b P h) (allocator_send d b P h s), (as_row_send bool-field (search sendable depth 6), tt))

pub allocating_send : (d b : NamedLft) (P : RattleType) (h : Ghosts P.Denot) → IsSend P → IsSend (RS.the_row (Gated.the_row d b P h) (Asking.the_row d b P h))
allocating_send d b P h s = search (sendable, crosses, gated_send, asking_send) depth 12
