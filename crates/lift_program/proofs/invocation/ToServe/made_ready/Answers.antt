use Rattle.std.proofs.Common.{◌∙◌, ap, inl, inr, refl}
use Rattle.lift_disk.specs.Below.{buffered_state_of}
use Rattle.lift_disk.specs.Files.{sector_file_state_of}
use Rattle.lift_keeper.specs.Keeper.{KeeperView}
use Rattle.lift_program.specs.Images.{CommandFiles, IsTextRead, image_files, local}
use Rattle.lift_program.specs.Stages.{IsNoText}
use Rattle.lift_program.specs.Unwritten.{unwritten_state_of}
use Rattle.lift_program.specs.declared.fault.Fault.TheVariants.{Memory, Network}
use Rattle.lift_program.specs.declared.fault.Role.TheVariants.{Output}
use Rattle.lift_program.proofs.Flushing.{building_no_network, file_no_network, keeper_failure_no_network}
use Rattle.lift_program.proofs.Stages.{group_left, is_ready, keeper_failure, keeper_report, kept_left, output_left, output_report, report_of, stands_so}
use Rattle.lift_program.proofs.invocation.ToServe.made_ready.Goals as goal

pub returns-clause-ready : goal.returns-clause-ready
returns-clause-ready g c =
    is_ready _ c.args.self.image.now c.args.self.building.now c.in-Ok.building c.insert-standing.result.now c.in-Ok-keeper_in.keeper c.in-Ok-listen_here.listening c.args.self.port c.args.self.policy c.args.self.sessions c.in-Ok-prepare.group.allocator c.in-Ok-prepare.group.flusher c.in-Ok-prepare.group.bound
    c.insert-standing.ensures.value c.in-Ok.ensures.found c.in-Ok-keeper_in.ensures.opened c.in-Ok-listen_here.ensures.here c.in-Ok-prepare.ensures.terms c.in-Ok-prepare.ensures.group

pub returns-in-Err-clause-refused : goal.returns-in-Err-clause-refused
returns-in-Err-clause-refused g c = λ same. absurd (building_no_network _ _ _ c.in-Err.ensures.fault same)

pub returns-in-Err-keeper_in-clause-refused : goal.returns-in-Err-keeper_in-clause-refused
returns-in-Err-keeper_in-clause-refused g c = λ same. absurd (keeper_failure_no_network _ _ _ c.insert-standing.result.now _ c.in-Err-keeper_in.ensures.failure same)

pub returns-in-Err-keeper_in-clause-failure : goal.returns-in-Err-keeper_in-clause-failure
returns-in-Err-keeper_in-clause-failure g c =
    let o = c.args.self.openers in
    let files : CommandFiles = record {
      image = image_files o.image (g.I.FileOpener.stands o.image) (g.I.FileOpener.opens o.image) (g.I.FileOpener.names o.image) (g.I.FileOpener.unnamed o.image) g.I.Listed.ListedFile.gives g.I.Listed.ListedFile.fails g.I.Listed.ListedFile.holds (buffered_state_of (sector_file_state_of g.I.Listed.ListedFile.holds)) (buffered_state_of (unwritten_state_of g.I.Listed.ListedFile.holds));
      is_text = λ path. IsTextRead (g.B.TextOpener.opens o.building path) g.B.Text.Read.remaining;
      is_no_text = λ path. IsNoText (g.B.TextOpener.opens o.building path) g.B.Text.Read.remaining g.B.TextOpener.reads;
      gives = g.L.Listens.gives o.socket local;
    } in
    keeper_failure files c.args.self.building.now _ _ _ c.insert-standing.result.now c.in-Err-keeper_in.failure (stands_so _ c.in-Ok.building c.insert-standing.result.now c.insert-standing.ensures.value c.in-Ok.ensures.found) c.in-Err-keeper_in.ensures.failure

pub returns-in-Err-listen_here-clause-refused : goal.returns-in-Err-listen_here-clause-refused
returns-in-Err-listen_here-clause-refused g c = λ same. c.in-Err-listen_here.ensures.refused

pub returns-in-Err-listen_here-clause-failure : goal.returns-in-Err-listen_here-clause-failure
returns-in-Err-listen_here-clause-failure g c =
    kept_left _ _ _ _ c.insert-standing.result.now c.in-Ok-keeper_in.keeper _ c.in-Err-listen_here.fault Network (stands_so _ c.in-Ok.building c.insert-standing.result.now c.insert-standing.ensures.value c.in-Ok.ensures.found) c.in-Ok-keeper_in.ensures.opened c.left_by.ensures c.in-Err-listen_here.ensures.fault (λ old new recovered. recovered)

pub returns-in-Err-prepare-clause-refused : goal.returns-in-Err-prepare-clause-refused
returns-in-Err-prepare-clause-refused g c = λ same. absurd (file_no_network Output _ (inr c.unprepared.ensures) same)

pub returns-in-Err-prepare-clause-failure : goal.returns-in-Err-prepare-clause-failure
returns-in-Err-prepare-clause-failure g c =
    output_left _ _ _ _ c.insert-standing.result.now c.in-Ok-keeper_in.keeper _ c.unprepared.result (stands_so _ c.in-Ok.building c.insert-standing.result.now c.insert-standing.ensures.value c.in-Ok.ensures.found) c.in-Ok-keeper_in.ensures.opened
    (c.left_by-in-Err-prepare.ensures ∙ ap (λ (k : KeeperView _). k.writer.device) c.in-Err-prepare.ensures.refused) (inr c.unprepared.ensures)

pub returns-in-Err-say-clause-refused : goal.returns-in-Err-say-clause-refused
returns-in-Err-say-clause-refused g c = λ same. absurd (file_no_network Output _ c.in-Err-say.ensures.fault same)

pub returns-in-Err-say-clause-failure : goal.returns-in-Err-say-clause-failure
returns-in-Err-say-clause-failure g c =
    output_left _ _ _ _ c.insert-standing.result.now c.in-Ok-keeper_in.keeper _ c.in-Err-say.fault (stands_so _ c.in-Ok.building c.insert-standing.result.now c.insert-standing.ensures.value c.in-Ok.ensures.found) c.in-Ok-keeper_in.ensures.opened (group_left _ c.args.self.policy c.in-Ok-keeper_in.keeper c.in-Ok-prepare.group.allocator c.in-Ok-prepare.group.flusher _ c.in-Ok-prepare.ensures.group c.left_unserved.ensures) c.in-Err-say.ensures.fault

pub returns-in-Err-keeper_in-clause-report : goal.returns-in-Err-keeper_in-clause-report
returns-in-Err-keeper_in-clause-report g c = keeper_report _ _ _ c.insert-standing.result.now _ c.in-Err-keeper_in.failure _ c.in-Err-keeper_in.ensures.failure

pub returns-in-Err-listen_here-clause-report : goal.returns-in-Err-listen_here-clause-report
returns-in-Err-listen_here-clause-report g c = report_of _ c.in-Err-listen_here.fault Network c.left_by.result _ _ c.in-Err-listen_here.ensures.fault refl

pub returns-in-Err-prepare-clause-report : goal.returns-in-Err-prepare-clause-report
returns-in-Err-prepare-clause-report g c = report_of _ c.unprepared.result (Memory tt) c.left_by-in-Err-prepare.result _ _ c.unprepared.ensures (inl refl)

pub returns-in-Err-say-clause-report : goal.returns-in-Err-say-clause-report
returns-in-Err-say-clause-report g c =
    output_report _ c.in-Err-say.fault c.left_unserved.result _ _ (λ is. c.in-Err-say.ensures.failed) (inr c.in-Err-say.ensures.failed) c.in-Err-say.ensures.fault

pub returns-in-Err-say-clause-front : goal.returns-in-Err-say-clause-front
returns-in-Err-say-clause-front g c = inr (c.in-Ok-listen_here.listening, c.in-Ok-listen_here.ensures.here, c.in-Err-say.ensures.front)
