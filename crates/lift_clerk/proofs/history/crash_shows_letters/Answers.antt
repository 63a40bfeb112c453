-- proofs/history/crash_shows_letters/Answers.antt
use Rattle.std.proofs.Common.{refl}
use Rattle.lift_clerk.specs.Steps.{group_of}
use Rattle.lift_clerk.specs.lemmas.Keeps.{kept_now}
use Rattle.lift_clerk.proofs.Moments.{safe_of, in_doubt_of, doubt_now, keeps_whole}
use Rattle.lift_clerk.proofs.history.crash_shows_letters.Goals as goal

pub returns-clause-now : goal.returns-clause-now
returns-clause-now g c =
    let clerk = c.args.clerk.now in
    let state = g.D.Disk.state in
    let leaves = doubt_now state clerk.keeper
    (safe_of state c.keeper.result.now clerk.keeper c.safe_register-safe.result.now c.keeper.ensures.value c.safe_register-safe.ensures.value c.safe_register-safe.ensures.safe)
    (in_doubt_of state c.keeper.result.now clerk.keeper c.safe_register-safe.result.now c.keeper.ensures.value c.safe_register-safe.ensures.value c.safe_register-safe.ensures.in_doubt)
    clerk.keeper.writer.is_broken refl in
    λ base safe given h. kept_now c.histories_are_runs.ensures.kept base (group_of clerk) safe given h (state clerk.keeper.writer.device) leaves

pub returns-clause-whole : goal.returns-clause-whole
returns-clause-whole g c =
    let clerk = c.args.clerk.now in
    let state = g.D.Disk.state in
    keeps_whole state c.histories_are_runs.ensures.kept clerk
    (safe_of state c.keeper.result.now clerk.keeper c.safe_register-safe.result.now c.keeper.ensures.value c.safe_register-safe.ensures.value c.safe_register-safe.ensures.safe)
