use Rattle.lift_kiosk.specs.lemmas.Words.{words_make_text}
use Rattle.lift_kiosk.proofs.reading.words_in.Goals as goal

pub returns-in-Err-clause-none : goal.returns-in-Err-clause-none
returns-in-Err-clause-none c words are ascii short = absurd (c.in-Err.ensures.cases.0 (words_make_text c.args.line.now words are ascii))
