use Rattle.lift_kiosk.proofs.Determined.{exchanges_are, written_is}
use Rattle.lift_kiosk.proofs.Whole.{same_session, all_written}
use Rattle.lift_kiosk.proofs.Streams.{same_streams}
use Rattle.lift_kiosk.proofs.OfStreams.{is_of_streams}
use Rattle.lift_kiosk.proofs.laws.dialects_determine.Goals as goal

pub returns-clause-lines : goal.returns-clause-lines
returns-clause-lines g c unique = exchanges_are g.T.Dialect.wants unique g.T.Dialect.keeps

pub returns-clause-written : goal.returns-clause-written
returns-clause-written g c unique = written_is g.T.Dialect.wants unique g.T.Dialect.keeps

pub returns-clause-whole : goal.returns-clause-whole
returns-clause-whole g c unique = same_session g.T.Dialect.wants unique g.T.Dialect.keeps

pub returns-clause-streams : goal.returns-clause-streams
returns-clause-streams g c unique = same_streams g.T.Dialect.wants unique g.T.Dialect.keeps

pub returns-clause-text : goal.returns-clause-text
returns-clause-text g c unique = all_written g.T.Dialect.wants unique g.T.Dialect.keeps

pub returns-clause-own : goal.returns-clause-own
returns-clause-own g c = is_of_streams g.T.Dialect.wants g.T.Dialect.keeps
