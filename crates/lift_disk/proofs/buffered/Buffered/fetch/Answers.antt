use Rattle.std.proofs.Common.{◌≡◌, ◌∙◌, ℕ, List, ap, arith, length}
use Rattle.lift_disk.specs.Runs.{IsInRun, run_outside}
use Rattle.lift_disk.proofs.Waiting.{held_read}
use Rattle.lift_disk.proofs.buffered.Buffered.fetch.Goals as goal

kept_outside : (from from2 : ℕ) (run run2 : List (List ℕ)) (i : ℕ) → from2 ≡ from → run2 ≡ run → ¬ IsInRun from (length run) i → ¬ IsInRun from2 (length run2) i
kept_outside from from2 run run2 i same kept not inside = let long : length run2 ≡ length run = ap length kept in not (omega (arith, inside.0, same), omega (arith, inside.1, same, long))

pub returns-in-Some-read_ahead-clause-gives : goal.returns-in-Some-read_ahead-clause-gives
returns-in-Some-read_ahead-clause-gives g c honest =
    let d = c.args.self.now in
    run_outside d.pending.items d.from (g.R.Disk.state d.device).image c.args.sector c.in_default.ensures.none
    ∙ c.in-Some-read_ahead.ensures.some honest

pub returns-clause-gives : goal.returns-clause-gives
returns-clause-gives g c honest =
    let d = c.args.self.now in
    let m = c.look_ahead.new.self in
    let kept = c.in_ok-look_ahead.ensures.pending in
    run_outside m.pending.items m.from (g.R.Disk.state m.device).image c.args.sector
    (kept_outside d.from m.from d.pending.items m.pending.items c.args.sector kept.0 (ap (λ v. v.items) kept.1) c.in_default.ensures.none)
    ∙ c.in_ok-look_ahead.ensures.gives honest ∙ held_read m.ahead 0 (omega arith)
