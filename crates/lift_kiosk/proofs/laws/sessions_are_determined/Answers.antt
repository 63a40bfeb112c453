use Rattle.lift_kiosk.proofs.Single.{one_thing}
use Rattle.lift_kiosk.proofs.laws.sessions_are_determined.Goals as goal

pub returns-clause-line : goal.returns-clause-line
returns-clause-line c = c.dialects_determine.ensures.line one_thing

pub returns-clause-lines : goal.returns-clause-lines
returns-clause-lines c = c.dialects_determine.ensures.lines one_thing

pub returns-clause-written : goal.returns-clause-written
returns-clause-written c = c.dialects_determine.ensures.written one_thing

pub returns-clause-whole : goal.returns-clause-whole
returns-clause-whole c = c.dialects_determine.ensures.whole one_thing

pub returns-clause-streams : goal.returns-clause-streams
returns-clause-streams c = c.dialects_determine.ensures.streams one_thing

pub returns-clause-text : goal.returns-clause-text
returns-clause-text c = c.dialects_determine.ensures.text one_thing
