use Rattle.std.proofs.Common.{rules, [], ◌∷◌, ◌≡◌, ◌<◌, ◌*◌, ◌-◌, ◌+◌, ◌/◌, ℕ, List, min, replicate, take, ap, sym, ◌∙◌, subst, inl, arith}
use Rattle.std.proofs.lemmas.List.{take-replicate}
use Rattle.lift_disk.specs.FileCalls.{FileCall}
use Rattle.lift_disk.specs.FileCalls.FileCall.{WriteSectors}
use Rattle.lift_disk.specs.Traced.{IsMaking, file_of, zero_write, zero_writes}
use Rattle.lift_disk.specs.FileCalls.{FailsIn}
use Rattle.lift_disk.proofs.Synced.{fails_after, fails_until, in_err, making_then, one_zero_write, same_then}
use Rattle.lift_disk.proofs.traced.TracedFile.fill_with_zeros.Goals as goal

pub loop-i-preserved : goal.loop-i-preserved
loop-i-preserved g c =
    let count = c.min-count.result in
    let zero : List ℕ = replicate 512 0 in
    let is : count ≡ min 128 (c.args.sectors - c.loop-i.i * 128) = c.min-count.ensures in
    let run : take count (replicate 128 zero) ≡ replicate (min 128 (c.args.sectors - c.loop-i.i * 128)) zero = take-replicate count 128 zero (omega (arith, is)) ∙ ap (λ n. replicate n zero) is in
    let call : WriteSectors (c.from.result * 512) (take count (replicate 128 zero)) ≡ zero_write c.args.sectors c.loop-i.i =
    ap (λ n. WriteSectors (n * 512) (take count (replicate 128 zero))) c.from.ensures ∙ ap (WriteSectors (c.loop-i.i * 128 * 512)) run in
    let made = subst (λ (call : FileCall). IsMaking g.F.ListedFile.gives (call ∷ []) c.loop-i.self c.fill.new.self) call c.in_ok-fill.ensures.making in (
      subst (λ (calls : List FileCall). IsMaking g.F.ListedFile.gives calls c.args.self.now c.fill.new.self) (sym (one_zero_write c.args.sectors c.loop-i.i))
          (making_then g.F.ListedFile.gives (zero_writes c.args.sectors c.loop-i.i) (zero_write c.args.sectors c.loop-i.i ∷ []) c.args.self.now c.loop-i.self c.fill.new.self c.loop-i.invariant.0 made),
      same_then (g.F.ListedFile.holds (file_of c.args.self.now)) (g.F.ListedFile.holds (file_of c.loop-i.self)) (g.F.ListedFile.holds (file_of c.fill.new.self)) c.loop-i.invariant.1 c.fill.ensures.same,
    )

pub returns-in_err-fill-clause-failed : goal.returns-in_err-fill-clause-failed
returns-in_err-fill-clause-failed g c =
    let gives = g.F.ListedFile.gives in
    let fails = g.F.ListedFile.fails in
    let sectors = c.args.sectors in
    let i = c.loop-i.i in
    let old = file_of c.args.self.now in
    let mid = file_of c.loop-i.self in
    let new = file_of c.fill.new.self in
    let count = c.min-count.result in
    let zero : List ℕ = replicate 512 0 in
    let is : count ≡ min 128 (sectors - i * 128) = c.min-count.ensures in
    let run : take count (replicate 128 zero) ≡ replicate (min 128 (sectors - i * 128)) zero = take-replicate count 128 zero (omega (arith, is)) ∙ ap (λ n. replicate n zero) is in
    let call : WriteSectors (c.from.result * 512) (take count (replicate 128 zero)) ≡ zero_write sectors i =
    ap (λ n. WriteSectors (n * 512) (take count (replicate 128 zero))) c.from.ensures ∙ ap (WriteSectors (i * 128 * 512)) run in
    let failed : fails mid (zero_write sectors i) new = subst (λ (call : FileCall). fails mid call new) call c.in_err-fill.ensures.failed in
    let here : FailsIn gives fails (zero_writes sectors (i + 1)) old new =
    subst (λ (calls : List FileCall). FailsIn gives fails calls old new) (sym (one_zero_write sectors i))
    (fails_after gives fails (zero_writes sectors i) (zero_write sectors i ∷ []) old mid new c.loop-i.invariant.0.led (inl failed)) in
    let less : i < (sectors + 127) / 128 = search rules in
    let more = (sectors + 127) / 128 - (i + 1) in
    let whole : (sectors + 127) / 128 ≡ (i + 1) + more = omega (arith, less) in
    in_err c.from_residual.result (fails_until gives fails sectors (i + 1) more ((sectors + 127) / 128) old new whole here)
