use Rattle.std.proofs.Common.{◌≡◌, ◌+◌, None}
use Rattle.lift_kiosk.specs.Session.{standing_of}
use Rattle.lift_kiosk.proofs.Sessions.{HasAnswered}
use Rattle.lift_kiosk.proofs.conversation.converse.Given as goal

-- it greeted, so many lines were answered so far, and the session goes on
abbrev pub invariant-loop : goal.invariant-loop
invariant-loop g l = record {
  free : (g.P.Port.view l.port).pending ≡ None;
  calls : l.reader.calls + l.left ≡ l.fn.reader.calls + l.limits.reads;
  stays : g.P.Port.place l.port ≡ g.P.Port.place l.fn.port;
  answered : HasAnswered g.T.Dialect.wants g.T.Dialect.keeps l.limits l.counter
      (standing_of g.R.Read.remaining g.W.Write.contents g.P.Port.view l.fn.reader l.fn.writer l.fn.port l.fn.last)
      (standing_of g.R.Read.remaining g.W.Write.contents g.P.Port.view l.reader l.writer l.port l.last);
}
