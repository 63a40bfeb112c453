use Rattle.std.proofs.Common.{◌<◌, length, refl, arith}
use Rattle.lift_disk.specs.Places.{all_now, all_safe}
use Rattle.lift_disk.specs.lemmas.History.{flagged_set, spoil_goes_on}
use Rattle.lift_disk.proofs.memory.MemDiskRunDisk.announce.Goals as goal

pub returns-clause-announced : goal.returns-clause-announced
returns-clause-announced c =
    let m = c.args.self.now in
    let now = all_now m.sectors.places.items in
    let safe = all_safe m.sectors.places.items in
    let flags = m.sectors.loose.items in
    let within : c.args.sector < length flags = omega (arith, m.sectors.sized, c.requires) in
    let failed = spoil_goes_on m.history.first m.history.calls now safe flags m.is_steady m.failures.count m.calls.count m.writes.count m.trace.calls
    c.args.sector m.is_steady _ _ m.writes.count within refl refl in
    rw (c.loosen.ensures.places, c.loosen.ensures.loose) (record {
      size = refl;
      failures = refl;
      calls = refl;
      writes = refl;
      trace = refl;
      honest = (λ h. h, λ h. h);
      inert = (λ h. h, λ h. h);
      short = refl;
      armed = λ call. (λ no. no, λ no. no);
      image = refl;
      synced = refl;
      loose = λ _ i. flagged_set flags c.args.sector i within;
      written = λ i bytes was. was;
      steady = λ steady. steady;
      time = λ honest. let t = failed.time honest in record { later = t.later; nothing_else = t.nothing_else; keeps = t.keeps };
    })
