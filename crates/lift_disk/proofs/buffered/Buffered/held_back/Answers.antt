use Rattle.std.proofs.Common.{◌<◌, ◌-◌, length, arith, ◌∙◌, sym, ap, ◌≡◌, slice_get}
use Rattle.lift_disk.proofs.Waiting.{run_inside, held_read}
use Rattle.lift_disk.proofs.buffered.Buffered.held_back.Goals as goal

pub returns-clause-some : goal.returns-clause-some
returns-clause-some g c honest =
    let d = c.args.self.now in
    let pending = d.pending.items in
    let image = (g.R.Disk.state d.device).image in
    let whole = g.met.R.Disk.whole d.device honest in
    let same : c.deref.result.now ≡ pending = search c.deref.ensures in
    let place : c.args.sector - d.from < length pending = omega (arith, c.if-len-place.false, c.len.ensures.value) in
    run_inside pending d.from image c.args.sector (omega (arith, c.if-sector-self.false), omega (arith, place)) (omega (arith, whole, d.inside))
    ∙ ap (λ l. slice_get l (c.args.sector - d.from)) (sym same) ∙ held_read c.deref.result.now (c.args.sector - d.from) (rw same place)
