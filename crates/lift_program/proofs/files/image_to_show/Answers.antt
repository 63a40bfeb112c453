use Rattle.std.proofs.Common.{ap, subst, sym, ◌∙◌}
use Rattle.lift_disk.specs.lemmas.Starts.{holds_then}
use Rattle.lift_disk.specs.Files.{sector_file_state_of}
use Rattle.lift_disk.specs.Holding.{HoldsTheSame}
use Rattle.lift_program.specs.Unwritten.{unwritten_file_of, unwritten_state_of}
use Rattle.lift_program.proofs.Stages.{has_no_image, is_opened, unwritten_holds}
use Rattle.lift_program.proofs.files.image_to_show.Goals as goal

pub returns-in-Ok-clause-opened : goal.returns-in-Ok-clause-opened
returns-in-Ok-clause-opened g c =
    is_opened (g.I.FileOpener.opens c.args.opener) g.I.Listed.ListedFile.gives g.I.Listed.ListedFile.holds _ _ _ c.in-Ok.file _ c.args.path.now
    (ap unwritten_file_of c.over-in-Ok.ensures.below ∙ c.over.ensures.file) c.over-in-Ok.ensures.calls (c.over-in-Ok.ensures.failures ∙ c.over.ensures.failures ∙ c.in-Ok.ensures.failures)
    c.in-Ok.ensures.calls c.in-Ok.ensures.measured
    (λ honest. c.over-in-Ok.ensures.honest (subst (λ f. (sector_file_state_of g.I.Listed.ListedFile.holds f).is_honest) (sym c.over.ensures.file) honest))
    (holds_then _ _ _ (subst (λ f. HoldsTheSame (sector_file_state_of g.I.Listed.ListedFile.holds f) (unwritten_state_of g.I.Listed.ListedFile.holds c.over.result)) c.over.ensures.file (unwritten_holds g.I.Listed.ListedFile.holds c.over.result)) c.over-in-Ok.ensures.held)

pub returns-in-Err-clause-no_image : goal.returns-in-Err-clause-no_image
returns-in-Err-clause-no_image g c =
    has_no_image _ _ c.in-Err.cause _ c.refused.ensures.same c.refused.ensures.fault c.refused.ensures.caused c.in-Err.ensures.refused
