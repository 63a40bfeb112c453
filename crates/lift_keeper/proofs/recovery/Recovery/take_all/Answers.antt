use Rattle.std.proofs.Common.{◌≡◌, ◌+◌, suc, take, get_or, sym, ap, subst, ◌∙◌, arith}
use Rattle.lift_base.specs.declared.history.Record.{Record}
use Rattle.lift_keeper.specs.Recovery.{RecoveryState, Passes, passed, AllPass, all_passed}
use Rattle.lift_keeper.proofs.Recoveries.{pass_more, passed_more}
use Rattle.lift_keeper.proofs.recovery.Recovery.take_all.Goals as goal

pub loop-content-preserved : goal.loop-content-preserved
loop-content-preserved c =
    let next = c.content-item.result in
    let records = c.args.records.now in
    let start = c.args.self.now in
    let k = c.loop-content.content-index in
    let inv = c.loop-content.invariant in
    let more : suc k ≡ k + 1 = omega arith in
    let here : Passes c.loop-content.self next = c.take.ensures.fits.0 c.if-not-take.false in
    let there : Passes (all_passed start (take k records)) (get_or records k next) =
    subst (λ (s : RecoveryState). Passes s (get_or records k next)) inv.same
    (subst (λ (r : Record). Passes c.loop-content.self r) c.content-item.is here) in
    let now : c.take.new.self ≡ passed c.loop-content.self next = c.take.ensures.passed c.if-not-take.false in
    let same : c.take.new.self ≡ all_passed start (take (suc k) records) =
    now ∙ ap (λ (r : Record). passed c.loop-content.self r) c.content-item.is ∙ ap (λ (s : RecoveryState). passed s (get_or records k next)) inv.same
    ∙ sym (passed_more start records k next c.loop-content-test.true) in
    record {
      pass = subst (λ n. AllPass start (take n records)) more (pass_more start records k next c.loop-content-test.true inv.pass there);
      same = same ∙ ap (λ n. all_passed start (take n records)) more;
      plan = ap (λ (s : RecoveryState). s.plan) now ∙ inv.plan;
      taken = ap (λ (s : RecoveryState). s.taken) now ∙ (let e : c.loop-content.self.taken + 1 ≡ start.taken + (k + 1) = omega (arith, inv.taken) in e);
    }
