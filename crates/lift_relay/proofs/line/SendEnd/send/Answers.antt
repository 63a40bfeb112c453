use Rattle.std.proofs.Common.{sym, subst, length, ◌<◌}
use Rattle.lift_parts.specs.Line.{most_batches, SendState, IsNextBatch}
use Rattle.lift_relay.proofs.Moves.{sends, sender_learns}
use Rattle.lift_relay.proofs.line.SendEnd.send.Goals as goal

pub push-requires : goal.push-requires
push-requires g c =
    let i = c.self.invariant in (
      i.of_line,
      sends _ _ _ c.args.batch i.capacity i.begun i.sends (subst (λ (e : SendState). length e.sent < most_batches) (sym c.self.view_is) c.requires.few)
          (subst (λ (e : SendState). IsNextBatch e.building e.desk e.state e.turns c.args.batch) (sym c.self.view_is) c.requires.next),
      sender_learns _ _ i.begun i.sends,
    )
