use Rattle.std.proofs.Common.{rules}
use Rattle.lift_kiosk.proofs.Sessions.{ends_so}
use Rattle.lift_kiosk.proofs.conversation.exchange.Goals as goal

pub returns-in-Some-clause-end : goal.returns-in-Some-clause-end
returns-in-Some-clause-end g c =
    let line = c.in-Ok.ensures.line in
    ends_so g.T.Dialect.wants g.T.Dialect.keeps c.args.limits.now _ c.in-Some.end line.0 c.outcome_of-outcome.result _ _ c.in-Some.ensures.some (record {
      exchange = record {
        read = line.2;
        means = c.outcome_of-outcome.ensures.means line.0 line.1;
        port = c.outcome_of-outcome.ensures.did;
        last = c.last_command_after.ensures;
      };
      wrote = search rules;
    })
