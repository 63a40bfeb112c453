use Rattle.clap.specs.Words.{found_of, rows_of}
use Rattle.lift_program.proofs.Rows.{if_none, no_files_to_show}
use Rattle.lift_program.proofs.words.show_of.Goals as goal

pub returns-in_err-image-clause-none : goal.returns-in_err-image-clause-none
returns-in_err-image-clause-none c = if_none c.from_residual.result _ (no_files_to_show (rows_of (found_of c.args.matches.now)) c.in_err-image.ensures.none)
