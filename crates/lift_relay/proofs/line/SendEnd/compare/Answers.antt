use Rattle.std.proofs.Common.{refl, sym, ap, ◌∙◌}
use Rattle.lift_parts.specs.Line.{SendState, ReceiveState}
use Rattle.lift_relay.proofs.Moves.{joins, both_learn, ends}
use Rattle.lift_relay.proofs.line.SendEnd.compare.Goals as goal

pub meet-requires : goal.meet-requires
meet-requires c =
    let mine = c.self.invariant in
    let theirs = c.receiver.invariant in
    let same = ap (λ (x : ReceiveState). x.line) c.receiver.view_is ∙ c.requires.line ∙ sym (ap (λ (x : SendState). x.line) c.self.view_is) in (
      mine.of_line,
      (same ∙ mine.of_line.0, theirs.of_line.1),
      (joins _ _ _ _ mine.begun mine.sends theirs.receives, both_learn _ _ mine.begun mine.sends refl, ends _ _ mine.begun mine.sends refl),
    )
