use Rattle.std.proofs.Common.{◌≡◌, ◌<◌, ℕ, Option, Some, IfSome, length, refl, subst, arith}
use Rattle.lift_disk.specs.Places.{all_now, all_safe}
use Rattle.lift_disk.specs.lemmas.History.{spoil_goes_on, spoil_touches}
use Rattle.lift_disk.proofs.memory.MemDisk.spoil.Goals as goal

-- a sector that is named is there
named : (sector : Option ℕ) (i size : ℕ) → sector ≡ Some i → IfSome sector (λ s. s < size) → i < size
named sector i size is there = let at : IfSome (Some i) (λ s. s < size) = subst (λ (o : Option ℕ). IfSome o (λ s. s < size)) is there in at

pub returns-in-Some : goal.returns-in-Some
returns-in-Some c =
    let m = c.args.self.now in
    let now = all_now m.sectors.places.items in
    let safe = all_safe m.sectors.places.items in
    let loose = m.sectors.loose.items in
    let there = named c.args.sector c.in-Some.i (length now) c.in-Some.is c.requires in
    let within : c.in-Some.i < length loose = omega (arith, m.sectors.sized, there) in
    rw (c.loosen.ensures.places, c.loosen.ensures.loose) (record {
      goes_on = spoil_goes_on m.history.first m.history.calls now safe loose m.is_steady m.failures.count m.calls.count m.writes.count m.trace.calls
          c.in-Some.i _ _ _ _ within c.next-self.ensures c.next-self-2.ensures;
      counted = c.next-self.ensures;
      unsteady = λ is. cc is;
      touched = spoil_touches m.history.first m.history.calls now safe loose m.is_steady m.failures.count m.calls.count m.writes.count m.trace.calls
          c.args.sector c.in-Some.i _ _ _ _ c.in-Some.is within c.next-self-in-Some.ensures;
      image = refl;
      synced = refl;
      trace = refl;
      short = refl;
    })
