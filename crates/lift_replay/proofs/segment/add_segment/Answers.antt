use Rattle.std.proofs.Common.{◌≡◌, ◌+◌, ◌∙◌, ◌++◌, ℕ, List, length, ap, subst, sym, refl, rules, string_bytes}
use Rattle.atomic_table.specs.Seated.{TableId}
use Rattle.lift_base.specs.declared.limits.TheConstants.{MOST_CARS}
use Rattle.lift_building.specs.Plan.{Plan}
use Rattle.lift_desk.specs.Seats.{clerk_of, seats_from}
use Rattle.lift_disk.specs.Faults.{FusedDisk, fuse_state_of}
use Rattle.lift_keeper.specs.Keeper.{KeeperView}
use Rattle.lift_policy.specs.Step.{State}
use Rattle.lift_register.specs.Balanced.{open_count}
use Rattle.lift_replay.specs.Group.{ScriptGroup, recovered}
use Rattle.lift_replay.specs.Report.{Reports, start_text}
use Rattle.lift_replay.specs.Running.{SegmentEnds, TellsPartAfter}
use Rattle.lift_replay.specs.Shows.{Shows, IsFound, IsKeeperOf}
use Rattle.std.specs.Str.Lines.{lines as lines_in}
use Rattle.lift_replay.proofs.Recovered.{found_reads, kept_of, new_shows}
use Rattle.lift_replay.proofs.Written.{err_so, ok_so, on_err, after_none}
use Rattle.lift_replay.specs.lemmas.Writes.{pieces_memory}
use Rattle.lift_replay.specs.Writing.{gone_in}
use Rattle.lift_replay.proofs.segment.add_segment.Goals as goal

pub keeper_over-requires-clause-readable : goal.keeper_over-requires-clause-readable
keeper_over-requires-clause-readable g c =
    let (found, is) = c.requires.found in
    (found.register, found_reads c.args.building.now found (fuse_state_of c.new.result).image (subst (IsFound c.args.building.now found) (sym c.new.ensures.same.image) is))

pub returns-clause-tells : goal.returns-clause-tells
returns-clause-tells g c = ok_so c.run_station.result (λ end told found is.
    let plan : Plan = c.args.building.now in
    let desk : List TableId = c.in_ok-desk.desk in
    let count : length c.in_ok-desk.desk ≡ MOST_CARS + length c.args.building.now.kiosks = search rules in
    let kept : IsKeeperOf plan (recovered plan found) c.keeper_over.result = kept_of plan found c.new.result c.keeper_over.result (subst (IsFound plan found) (sym c.new.ensures.same.image) is)
    c.keeper_over.ensures.opens c.keeper_over.ensures.calls c.keeper_over.ensures.image c.keeper_over.ensures.unarmed c.keeper_over.ensures.state c.keeper_over.ensures.plan c.keeper_over.ensures.whole in
    let shows : Shows plan (recovered plan found) c.new-2.result.clerk c.new-2.result.terminals.seats.items =
    new_shows plan (recovered plan found) c.keeper_over.result c.new-2.result.clerk c.new-2.result.terminals.seats.items desk kept refl c.new-2.ensures.keeper
    (c.new-2.ensures.clerk ∙ c.in_ok-desk.ensures.clerk ∙ ap clerk_of c.in_ok-desk.desk-is) (c.new-2.ensures.seats ∙ ap (seats_from 0) c.in_ok-desk.desk-is) count in
    let calls : open_count c.new-2.result.clerk.keeper.state.register ≡ open_count found.register =
    ap (λ (k : KeeperView FusedDisk). open_count k.state.register) c.new-2.ensures.keeper ∙ ap (λ (s : State). open_count s.register) kept.stands.1 in
    subst (λ n. (added : List ℕ) × SegmentEnds plan c.args.lines.now.count (recovered plan found) (lines_in c.args.lines.now.rest.now) added c.run_station.new.lines.count (lines_in c.run_station.new.lines.rest.now) end
    × Reports (gone_in g.W.Outflow.sent c.args.writer.now) (gone_in g.W.Outflow.sent c.run_station.new.writer) (string_bytes c.args.piece.now) (string_bytes c.run_station.new.piece) (start_text c.args.is_after_cut n ++ added)) calls
    (subst (λ (p : Plan). (h : ScriptGroup) → Shows p h c.new-2.result.clerk c.new-2.result.terminals.seats.items
    → (added : List ℕ) × SegmentEnds p c.args.lines.now.count h (lines_in c.args.lines.now.rest.now) added c.run_station.new.lines.count (lines_in c.run_station.new.lines.rest.now) end
    × Reports (gone_in g.W.Outflow.sent c.args.writer.now) (gone_in g.W.Outflow.sent c.run_station.new.writer) (string_bytes c.args.piece.now) (string_bytes c.run_station.new.piece) (start_text c.args.is_after_cut (open_count c.new-2.result.clerk.keeper.state.register) ++ added))
    c.new-2.ensures.building told (recovered plan found) shows)) c.run_station.ensures.tells

pub returns-clause-front : goal.returns-clause-front
returns-clause-front g c = on_err c.run_station.result (λ front found is.
    let plan : Plan = c.args.building.now in
    let desk : List TableId = c.in_ok-desk.desk in
    let count : length c.in_ok-desk.desk ≡ MOST_CARS + length c.args.building.now.kiosks = search rules in
    let kept : IsKeeperOf plan (recovered plan found) c.keeper_over.result = kept_of plan found c.new.result c.keeper_over.result (subst (IsFound plan found) (sym c.new.ensures.same.image) is)
    c.keeper_over.ensures.opens c.keeper_over.ensures.calls c.keeper_over.ensures.image c.keeper_over.ensures.unarmed c.keeper_over.ensures.state c.keeper_over.ensures.plan c.keeper_over.ensures.whole in
    let shows : Shows plan (recovered plan found) c.new-2.result.clerk c.new-2.result.terminals.seats.items =
    new_shows plan (recovered plan found) c.keeper_over.result c.new-2.result.clerk c.new-2.result.terminals.seats.items desk kept refl c.new-2.ensures.keeper
    (c.new-2.ensures.clerk ∙ c.in_ok-desk.ensures.clerk ∙ ap clerk_of c.in_ok-desk.desk-is) (c.new-2.ensures.seats ∙ ap (seats_from 0) c.in_ok-desk.desk-is) count in
    let calls : open_count c.new-2.result.clerk.keeper.state.register ≡ open_count found.register =
    ap (λ (k : KeeperView FusedDisk). open_count k.state.register) c.new-2.ensures.keeper ∙ ap (λ (s : State). open_count s.register) kept.stands.1 in
    subst (λ n. TellsPartAfter (start_text c.args.is_after_cut n) plan c.args.lines.now.count (recovered plan found) (lines_in c.args.lines.now.rest.now) (gone_in g.W.Outflow.sent c.args.writer.now) (gone_in g.W.Outflow.sent c.run_station.new.writer) (string_bytes c.args.piece.now) (string_bytes c.run_station.new.piece)) calls
    (subst (λ (p : Plan). (h : ScriptGroup) → Shows p h c.new-2.result.clerk c.new-2.result.terminals.seats.items
    → TellsPartAfter (start_text c.args.is_after_cut (open_count c.new-2.result.clerk.keeper.state.register)) p c.args.lines.now.count h (lines_in c.args.lines.now.rest.now) (gone_in g.W.Outflow.sent c.args.writer.now) (gone_in g.W.Outflow.sent c.run_station.new.writer) (string_bytes c.args.piece.now) (string_bytes c.run_station.new.piece))
    c.new-2.ensures.building front (recovered plan found) shows)) c.run_station.ensures.front

pub returns-in_err-desk-clause-front : goal.returns-in_err-desk-clause-front
returns-in_err-desk-clause-front g c = err_so c.from_residual.result (λ found is. after_none _ c.args.building.now c.args.lines.now.count (recovered c.args.building.now found) (lines_in c.args.lines.now.rest.now) _ _)

pub returns-in_err-desk-clause-writes : goal.returns-in_err-desk-clause-writes
returns-in_err-desk-clause-writes g c = pieces_memory g.W.Outflow.gives _ _ _ c.from_residual.result c.from_residual.ensures.1 (0, refl)
