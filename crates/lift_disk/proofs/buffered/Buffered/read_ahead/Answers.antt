use Rattle.std.proofs.Common.{◌-◌, arith, ◌∙◌}
use Rattle.lift_disk.proofs.Waiting.{held_read}
use Rattle.lift_disk.proofs.buffered.Buffered.read_ahead.Goals as goal

pub returns-clause-some : goal.returns-clause-some
returns-clause-some g c honest =
    let d = c.args.self.now in
    d.read honest c.args.sector (omega (arith, c.if-sector-self.false), omega (arith, c.if-self-place.false, c.if-sector-self.false))
    ∙ held_read d.ahead (c.args.sector - d.ahead_from) (omega (arith, c.if-self-place.false, d.count))

pub returns-clause-given : goal.returns-clause-given
returns-clause-given g c =
    let d = c.args.self.now in
    d.given c.args.sector _ (omega (arith, c.if-sector-self.false), omega (arith, c.if-self-place.false, c.if-sector-self.false))
    (held_read d.ahead (c.args.sector - d.ahead_from) (omega (arith, c.if-self-place.false, d.count)))
