use Rattle.std.proofs.Common.{◌≡◌, ◌<◌, ◌+◌, ◌++◌, ◌∙◌, Some, None, [], length, refl, sym, ap, subst, arith, string_bytes}
use Rattle.lift_base.specs.declared.limits.TheConstants.{MOST_CARS}
use Rattle.lift_building.specs.Plan.{Plan}
use Rattle.lift_policy.specs.Choices.{total_cost_at}
use Rattle.lift_replay.specs.Lines.{LineTells}
use Rattle.std.specs.Str.Lines.{lines as lines_in}
use Rattle.lift_replay.proofs.LineSteps.{line_goes_on, line_ends}
use Rattle.std.proofs.KnownBytes.{Appends-nil}
use Rattle.std.proofs.lemmas.List.{append-nil}
use Rattle.lift_replay.specs.Running.{TellsLines}
use Rattle.lift_replay.specs.declared.lines.Verdict.TheVariants.{Good}
use Rattle.lift_replay.proofs.Told.{end_tells_none}
use Rattle.lift_replay.proofs.Runs.{reports_none, reports_kept, reports_put, reports_on}
use Rattle.lift_replay.proofs.Written.{err_so, tells_more, tells_torn}
use Rattle.lift_replay.specs.lemmas.Writes.{fails_more, takes_more, pieces_ok, pieces_memory, pieces_failed}
use Rattle.lift_replay.proofs.segment.add_lines.Goals as goal

pub loop-init : goal.loop-init
loop-init g c = record {
  tells = λ group shows. ([], group, shows, (λ more verdict tells. tells), reports_none _ _);
  small = c.requires.small;
  called = (0, refl);
  left = omega arith;
  building = refl;
}

pub loop-preserved : goal.loop-preserved
loop-preserved g c =
    let tells = c.in_ok-end.ensures.tells in
    let piece_is : string_bytes c.add_line.new.piece ≡ string_bytes c.loop.piece ++ tells.0 = tells.2 in
    let same : c.loop.station.building.now ≡ c.args.station.now.building.now = λ i. (c.loop.invariant.building i).now in
    record {
      tells = λ group shows.
          (let before = c.loop.invariant.tells group shows in
          let number = c.next.new.self.count in
          let plan : Plan = c.args.station.now.building.now in
          let line : LineTells plan c.loop.station.clerk c.add_line.new.station.clerk c.loop.station.terminals.seats.items c.add_line.new.station.terminals.seats.items c.in-Some.line.now number None tells.0 =
          subst (λ n. LineTells plan c.loop.station.clerk c.add_line.new.station.clerk c.loop.station.terminals.seats.items c.add_line.new.station.terminals.seats.items c.in-Some.line.now n None tells.0) (sym c.in-Some.ensures.counted)
          (subst (λ p. LineTells p c.loop.station.clerk c.add_line.new.station.clerk c.loop.station.terminals.seats.items c.add_line.new.station.terminals.seats.items c.in-Some.line.now c.in-Some.number None tells.0) same
          (subst (λ end. LineTells c.loop.station.building.now c.loop.station.clerk c.add_line.new.station.clerk c.loop.station.terminals.seats.items c.add_line.new.station.terminals.seats.items c.in-Some.line.now c.in-Some.number end tells.0) c.in_default-end.is tells.1)) in
          let more = line_goes_on (c.decisions_are_computed.ensures total_cost_at) plan before.1 c.loop.station.clerk c.add_line.new.station.clerk c.loop.station.terminals.seats.items c.add_line.new.station.terminals.seats.items
          before.2 (subst (λ (p : Plan). length c.loop.station.terminals.seats.items ≡ MOST_CARS + length p.kiosks) same c.loop.station.count) refl
          c.args.lines.now.count c.loop.lines.count group (lines_in c.args.lines.now.rest.now) (lines_in c.loop.lines.rest.now) (lines_in c.next.new.self.rest.now) c.in-Some.line.now before.0 tells.0 number
          c.in-Some.ensures.first (c.in-Some.ensures.counted ∙ c.in-Some.ensures.number) before.3 line in (
            before.0 ++ tells.0,
            more.0,
            more.1,
            more.2,
            reports_on _ _ _ _ _ _ before.0 tells.0 before.4
                (reports_put _ _ (string_bytes c.loop.piece) (string_bytes c.add_line.new.piece) _ tells.0 piece_is c.in_ok-put_large_piece.ensures.ok),
          ));
      small = c.in_ok-put_large_piece.ensures.small;
      called = takes_more g.W.Outflow.gives _ _ _ c.loop.invariant.called c.in_ok-put_large_piece.ensures.each_call;
      left = omega (arith, c.loop.invariant.left, c.in-Some.ensures.shorter);
      building = c.in_ok-end.ensures.building ∙ c.loop.invariant.building;
    }

pub returns-in-Some-end-clause-tells : goal.returns-in-Some-end-clause-tells
returns-in-Some-end-clause-tells g c = λ group shows.
    let tells = c.in_ok-end.ensures.tells in
    let piece_is : string_bytes c.add_line.new.piece ≡ string_bytes c.loop.piece ++ tells.0 = tells.2 in
    let same : c.loop.station.building.now ≡ c.args.station.now.building.now = λ i. (c.loop.invariant.building i).now in
    (let before = c.loop.invariant.tells group shows in
    let number = c.next.new.self.count in
    let plan : Plan = c.args.station.now.building.now in
    let line : LineTells plan c.loop.station.clerk c.add_line.new.station.clerk c.loop.station.terminals.seats.items c.add_line.new.station.terminals.seats.items c.in-Some.line.now number (Some c.in-Some-end.end) tells.0 =
    subst (λ n. LineTells plan c.loop.station.clerk c.add_line.new.station.clerk c.loop.station.terminals.seats.items c.add_line.new.station.terminals.seats.items c.in-Some.line.now n (Some c.in-Some-end.end) tells.0) (sym c.in-Some.ensures.counted)
    (subst (λ p. LineTells p c.loop.station.clerk c.add_line.new.station.clerk c.loop.station.terminals.seats.items c.add_line.new.station.terminals.seats.items c.in-Some.line.now c.in-Some.number (Some c.in-Some-end.end) tells.0) same
    (subst (λ end. LineTells c.loop.station.building.now c.loop.station.clerk c.add_line.new.station.clerk c.loop.station.terminals.seats.items c.add_line.new.station.terminals.seats.items c.in-Some.line.now c.in-Some.number end tells.0) c.in-Some-end.is tells.1)) in
    let more = line_ends (c.decisions_are_computed.ensures total_cost_at) plan before.1 c.loop.station.clerk c.add_line.new.station.clerk c.loop.station.terminals.seats.items c.add_line.new.station.terminals.seats.items
    before.2 (subst (λ (p : Plan). length c.loop.station.terminals.seats.items ≡ MOST_CARS + length p.kiosks) same c.loop.station.count) refl
    c.args.lines.now.count c.loop.lines.count group (lines_in c.args.lines.now.rest.now) (lines_in c.loop.lines.rest.now) (lines_in c.next.new.self.rest.now) c.in-Some.line.now before.0 tells.0 number
    c.in-Some.ensures.first (c.in-Some.ensures.counted ∙ c.in-Some.ensures.number) before.3 c.in-Some-end.end line in (
      before.0 ++ tells.0,
      more,
      reports_on _ _ _ _ _ _ before.0 tells.0 before.4 (reports_kept _ (string_bytes c.loop.piece) (string_bytes c.add_line.new.piece) tells.0 piece_is),
    ))

pub returns-in-Some-end-clause-small : goal.returns-in-Some-end-clause-small
returns-in-Some-end-clause-small g c = λ other.
    let tells = c.in_ok-end.ensures.tells in
    let none : tells.0 ≡ [] = end_tells_none c.loop.station.building.now c.loop.station.clerk c.add_line.new.station.clerk c.loop.station.terminals.seats.items c.add_line.new.station.terminals.seats.items
    c.in-Some.line.now c.in-Some.number c.in-Some-end.end tells.0
    (subst (λ end. LineTells c.loop.station.building.now c.loop.station.clerk c.add_line.new.station.clerk c.loop.station.terminals.seats.items c.add_line.new.station.terminals.seats.items c.in-Some.line.now c.in-Some.number end tells.0) c.in-Some-end.is tells.1)
    other in
    let kept : string_bytes c.add_line.new.piece ≡ string_bytes c.loop.piece =
    tells.2 ∙ ap (λ bytes. string_bytes c.loop.piece ++ bytes) none ∙ append-nil (string_bytes c.loop.piece) in
    subst (λ bytes. length bytes < 32768) (sym kept) c.loop.invariant.small

pub returns-in_default-clause-tells : goal.returns-in_default-clause-tells
returns-in_default-clause-tells g c = λ group shows.
    let before = c.loop.invariant.tells group shows in
    let none : lines_in c.loop.lines.rest.now ≡ [] = ap lines_in c.in_default.ensures.over in (
      before.0,
      subst (λ t. TellsLines c.args.station.now.building.now c.args.lines.now.count group (lines_in c.args.lines.now.rest.now) t Good) (append-nil before.0)
          (before.3 [] Good (subst (λ l. TellsLines c.args.station.now.building.now c.loop.lines.count before.1 l [] Good) (sym none) (refl, refl))),
      before.4,
    )

pub returns-in_err-end-clause-front : goal.returns-in_err-end-clause-front
returns-in_err-end-clause-front g c = err_so c.from_residual.result (λ group shows.
    let before = c.loop.invariant.tells group shows in
    let plan : Plan = c.args.station.now.building.now in
    tells_more plan c.args.lines.now.count c.loop.lines.count group before.1 (lines_in c.args.lines.now.rest.now) (lines_in c.loop.lines.rest.now) _ _ _ _ _ _ before.0 before.3 before.4
    (tells_torn plan c.loop.lines.count before.1 (lines_in c.loop.lines.rest.now) _ _ 0 (string_bytes c.loop.piece) (string_bytes c.add_line.new.piece) (Appends-nil _) c.in_err-end.ensures.emptied))

pub returns-in_err-put_large_piece-clause-front : goal.returns-in_err-put_large_piece-clause-front
returns-in_err-put_large_piece-clause-front g c =
    let tells = c.in_ok-end.ensures.tells in
    let piece_is : string_bytes c.add_line.new.piece ≡ string_bytes c.loop.piece ++ tells.0 = tells.2 in
    let same : c.loop.station.building.now ≡ c.args.station.now.building.now = λ i. (c.loop.invariant.building i).now in
    err_so c.from_residual-in_err-put_large_piece.result (λ group shows.
    (let before = c.loop.invariant.tells group shows in
    let number = c.next.new.self.count in
    let plan : Plan = c.args.station.now.building.now in
    let line : LineTells plan c.loop.station.clerk c.add_line.new.station.clerk c.loop.station.terminals.seats.items c.add_line.new.station.terminals.seats.items c.in-Some.line.now number None tells.0 =
    subst (λ n. LineTells plan c.loop.station.clerk c.add_line.new.station.clerk c.loop.station.terminals.seats.items c.add_line.new.station.terminals.seats.items c.in-Some.line.now n None tells.0) (sym c.in-Some.ensures.counted)
    (subst (λ p. LineTells p c.loop.station.clerk c.add_line.new.station.clerk c.loop.station.terminals.seats.items c.add_line.new.station.terminals.seats.items c.in-Some.line.now c.in-Some.number None tells.0) same
    (subst (λ end. LineTells c.loop.station.building.now c.loop.station.clerk c.add_line.new.station.clerk c.loop.station.terminals.seats.items c.add_line.new.station.terminals.seats.items c.in-Some.line.now c.in-Some.number end tells.0) c.in_default-end.is tells.1)) in
    let more = line_goes_on (c.decisions_are_computed.ensures total_cost_at) plan before.1 c.loop.station.clerk c.add_line.new.station.clerk c.loop.station.terminals.seats.items c.add_line.new.station.terminals.seats.items
    before.2 (subst (λ (p : Plan). length c.loop.station.terminals.seats.items ≡ MOST_CARS + length p.kiosks) same c.loop.station.count) refl
    c.args.lines.now.count c.loop.lines.count group (lines_in c.args.lines.now.rest.now) (lines_in c.loop.lines.rest.now) (lines_in c.next.new.self.rest.now) c.in-Some.line.now before.0 tells.0 number
    c.in-Some.ensures.first (c.in-Some.ensures.counted ∙ c.in-Some.ensures.number) before.3 line in
    tells_more plan c.args.lines.now.count number group more.0 (lines_in c.args.lines.now.rest.now) (lines_in c.next.new.self.rest.now) _ _ _ _ _ _ (before.0 ++ tells.0) more.2
    (reports_on _ _ _ _ _ _ before.0 tells.0 before.4 (reports_kept _ (string_bytes c.loop.piece) (string_bytes c.add_line.new.piece) tells.0 piece_is))
    (tells_torn plan number more.0 (lines_in c.next.new.self.rest.now) _ _ _ (string_bytes c.add_line.new.piece) (string_bytes c.put_large_piece.new.piece)
    c.in_err-put_large_piece.ensures.front c.in_err-put_large_piece.ensures.emptied)))

pub returns-in_default-clause-writes : goal.returns-in_default-clause-writes
returns-in_default-clause-writes g c = pieces_ok g.W.Outflow.gives _ _ _ _ c.loop.invariant.called

pub returns-in-Some-end-clause-writes : goal.returns-in-Some-end-clause-writes
returns-in-Some-end-clause-writes g c = pieces_ok g.W.Outflow.gives _ _ _ _ c.loop.invariant.called

pub returns-in_err-end-clause-writes : goal.returns-in_err-end-clause-writes
returns-in_err-end-clause-writes g c = pieces_memory g.W.Outflow.gives _ _ _ c.from_residual.result c.from_residual.ensures.1 c.loop.invariant.called

pub returns-in_err-put_large_piece-clause-writes : goal.returns-in_err-put_large_piece-clause-writes
returns-in_err-put_large_piece-clause-writes g c = pieces_failed g.W.Outflow.gives _ _ _ c.from_residual-in_err-put_large_piece.result c.from_residual-in_err-put_large_piece.ensures.1
    (fails_more g.W.Outflow.gives _ _ _ c.loop.invariant.called c.in_err-put_large_piece.ensures.failed) c.in_err-put_large_piece.ensures.emptied
