use Rattle.std.proofs.Common.{◌≡◌, ◌∙◌, ap, subst, refl, string_bytes, Bor}
use Rattle.lift_building.specs.Plan.{Plan}
use Rattle.lift_disk.specs.Faults.{FusedDisk}
use Rattle.lift_disk.specs.Outcomes.{state_of}
use Rattle.lift_keeper.specs.Keeper.{KeeperView}
use Rattle.lift_register.specs.Balanced.{open_count}
use Rattle.lift_replay.specs.Group.{ScriptGroup, left_by}
use Rattle.lift_replay.specs.Report.{Reports, ReportsPart, start_text}
use Rattle.lift_replay.specs.Shows.{Shows, IsFound}
use Rattle.std.specs.Str.Lines.{lines as lines_in}
use Rattle.lift_replay.proofs.Runs.{run_told, cut_left}
use Rattle.lift_replay.proofs.Written.{err_so, after_part, after_whole}
use Rattle.lift_replay.specs.lemmas.Writes.{takes_more, pieces_ok, pieces_after}
use Rattle.lift_replay.specs.Writing.{gone_in}
use Rattle.lift_replay.proofs.segment.run_station.Goals as goal

pub returns-in-Run-clause-tells : goal.returns-in-Run-clause-tells
returns-in-Run-clause-tells g c = λ group shows.
    let calls : c.open_count-calls.result ≡ open_count c.args.station.clerk.keeper.state.register =
    c.open_count-calls.ensures.count ∙ ap open_count c.register.ensures.value ∙ ap (λ (k : KeeperView FusedDisk). open_count k.state.register) c.keeper.ensures.value in
    let first = subst (λ n. Reports (gone_in g.W.Outflow.sent c.args.writer.now) (gone_in g.W.Outflow.sent c.add_cut.new.writer) (string_bytes c.args.piece.now) (string_bytes c.add_cut.new.piece) (start_text c.args.is_after_cut n)) calls c.in_ok-add_cut.ensures.reports in
    run_told c.args.station.building.now c.args.lines.now.count c.add_lines.new.lines.count group (lines_in c.args.lines.now.rest.now) (lines_in c.add_lines.new.lines.rest.now) c.in-Run.verdict
    c.add_lines.new.station.clerk c.add_lines.new.station.terminals.seats.items c.in_ok-verdict.field-0 _ _ _ _ _ _ _ c.in-Run.is first (c.in_ok-verdict.ensures.tells group shows)

pub returns-in-Cut-clause-tells : goal.returns-in-Cut-clause-tells
returns-in-Cut-clause-tells g c = λ group shows.
    let calls : c.open_count-calls.result ≡ open_count c.args.station.clerk.keeper.state.register =
    c.open_count-calls.ensures.count ∙ ap open_count c.register.ensures.value ∙ ap (λ (k : KeeperView FusedDisk). open_count k.state.register) c.keeper.ensures.value in
    let first = subst (λ n. Reports (gone_in g.W.Outflow.sent c.args.writer.now) (gone_in g.W.Outflow.sent c.add_cut.new.writer) (string_bytes c.args.piece.now) (string_bytes c.add_cut.new.piece) (start_text c.args.is_after_cut n)) calls c.in_ok-add_cut.ensures.reports in
    let there : c.add_lines.new.station.building.now ≡ c.args.station.building.now = ap (λ (b : Bor Plan). b.now) c.in_ok-verdict.ensures.building in
    let left = subst (λ (p : Plan). (h : ScriptGroup) → Shows p h c.add_lines.new.station.clerk c.add_lines.new.station.terminals.seats.items
    → IsFound p (left_by c.in-Cut.outcome h) (state_of c.cut.result).image) there c.cut.ensures.found in
    cut_left c.args.station.building.now c.args.lines.now.count c.add_lines.new.lines.count group (lines_in c.args.lines.now.rest.now) (lines_in c.add_lines.new.lines.rest.now) c.in-Cut.outcome
    c.add_lines.new.station.clerk c.add_lines.new.station.terminals.seats.items c.in_ok-verdict.field-0 c.cut.result _ _ _ _ _ _ _ c.in-Cut.is first (c.in_ok-verdict.ensures.tells group shows) left

pub returns-in_err-add_cut-clause-front : goal.returns-in_err-add_cut-clause-front
returns-in_err-add_cut-clause-front g c = err_so c.from_residual.result (λ group shows.
    let calls : c.open_count-calls.result ≡ open_count c.args.station.clerk.keeper.state.register =
    c.open_count-calls.ensures.count ∙ ap open_count c.register.ensures.value ∙ ap (λ (k : KeeperView FusedDisk). open_count k.state.register) c.keeper.ensures.value in
    after_part _ c.args.station.building.now c.args.lines.now.count group (lines_in c.args.lines.now.rest.now) _ _ _ _
    (subst (λ n. ReportsPart (gone_in g.W.Outflow.sent c.args.writer.now) (gone_in g.W.Outflow.sent c.add_cut.new.writer) (string_bytes c.args.piece.now) (string_bytes c.add_cut.new.piece) (start_text c.args.is_after_cut n)) calls c.in_err-add_cut.ensures.front))

pub returns-in_err-verdict-clause-front : goal.returns-in_err-verdict-clause-front
returns-in_err-verdict-clause-front g c = err_so c.from_residual-in_err-verdict.result (λ group shows.
    let calls : c.open_count-calls.result ≡ open_count c.args.station.clerk.keeper.state.register =
    c.open_count-calls.ensures.count ∙ ap open_count c.register.ensures.value ∙ ap (λ (k : KeeperView FusedDisk). open_count k.state.register) c.keeper.ensures.value in
    let first = subst (λ n. Reports (gone_in g.W.Outflow.sent c.args.writer.now) (gone_in g.W.Outflow.sent c.add_cut.new.writer) (string_bytes c.args.piece.now) (string_bytes c.add_cut.new.piece) (start_text c.args.is_after_cut n)) calls c.in_ok-add_cut.ensures.reports in
    after_whole _ c.args.station.building.now c.args.lines.now.count group (lines_in c.args.lines.now.rest.now) _ _ _ _ _ _ first (c.in_err-verdict.ensures.front group shows))

pub returns-in-Run-clause-writes : goal.returns-in-Run-clause-writes
returns-in-Run-clause-writes g c = pieces_ok g.W.Outflow.gives _ _ _ _ (takes_more g.W.Outflow.gives _ _ _ c.in_ok-add_cut.ensures.writes.calls c.in_ok-verdict.ensures.writes.calls)

pub returns-in-Cut-clause-writes : goal.returns-in-Cut-clause-writes
returns-in-Cut-clause-writes g c = pieces_ok g.W.Outflow.gives _ _ _ _ (takes_more g.W.Outflow.gives _ _ _ c.in_ok-add_cut.ensures.writes.calls c.in_ok-verdict.ensures.writes.calls)

pub returns-in_err-add_cut-clause-writes : goal.returns-in_err-add_cut-clause-writes
returns-in_err-add_cut-clause-writes g c = pieces_after g.W.Outflow.gives _ _ _ _ c.from_residual.result _ c.from_residual.ensures.1 (0, refl) c.in_err-add_cut.ensures.writes

pub returns-in_err-verdict-clause-writes : goal.returns-in_err-verdict-clause-writes
returns-in_err-verdict-clause-writes g c = pieces_after g.W.Outflow.gives _ _ _ _ c.from_residual-in_err-verdict.result _ c.from_residual-in_err-verdict.ensures.1 c.in_ok-add_cut.ensures.writes.calls c.in_err-verdict.ensures.writes
