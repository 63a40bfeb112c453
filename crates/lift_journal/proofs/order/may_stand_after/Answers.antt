use Rattle.std.proofs.Common.{◌↔◌, IsTrue, Some, sym, subst}
use Rattle.lift_base.specs.declared.history.Record.{Record}
use Rattle.lift_journal.specs.Order.{MayFollow}
use Rattle.lift_journal.proofs.order.may_stand_after.Goals as goal

pub returns-in-Last : goal.returns-in-Last
returns-in-Last c =
    subst (λ (r : Record). IsTrue c.may_follow_last.result ↔ MayFollow (Some r) c.args.next.now) (sym c.in-Last.is) (c.may_follow_last.ensures c.in-Last.last)
