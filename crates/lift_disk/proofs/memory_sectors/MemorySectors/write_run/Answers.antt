use Rattle.std.proofs.Common.{◌≡◌, ◌∙◌, sym, ap, length, arith}
use Rattle.lift_disk.specs.Memory.{IsFlagged}
use Rattle.lift_disk.specs.Places.{all_now, all_safe}
use Rattle.lift_disk.specs.Runs.{left_with, run_length, run_loose, with_run}
use Rattle.lift_disk.proofs.memory_sectors.MemorySectors.write_run.Goals as goal

pub invariant_of-self : goal.invariant_of-self
invariant_of-self c =
    let m = c.args.self.now in
    let now = all_now m.places.items in
    let loose = IsFlagged m.loose.items in
    let same : length (all_now c.write_sectors.new.sectors.items) ≡ length now =
    ap length c.write_sectors.ensures.now ∙ run_length c.args.run.now c.args.sector now in
    record {
      sized = m.sized ∙ sym same;
      fits = omega (arith, same, m.fits);
      spanned = m.spanned;
      order = m.order;
      bound = omega (arith, same, m.bound);
      kept = rw (c.write_sectors.ensures.now, c.write_sectors.ensures.safe)
          (left_with loose now (with_run c.args.sector c.args.run.now now) (all_safe m.places.items) (run_loose loose c.args.run.now c.args.sector now c.requires.announced) m.kept);
    }
