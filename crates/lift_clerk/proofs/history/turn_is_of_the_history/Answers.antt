-- proofs/history/turn_is_of_the_history/Answers.antt
use Rattle.std.proofs.Common.{refl}
use Rattle.lift_clerk.proofs.Moments.{safe_of, in_doubt_of, doubt_now, turn_advances}
use Rattle.lift_clerk.proofs.history.turn_is_of_the_history.Goals as goal

pub returns-clause-advances : goal.returns-clause-advances
returns-clause-advances g c =
    let before = c.args.clerk.now in
    let after = c.turn_once-turned.new.clerk in
    let result = c.turn_once-turned.result in
    let once = c.turn_once-turned.ensures.turn in
    let state = g.D.Disk.state in
    let own = after.keeper in
    turn_advances state c.histories_are_runs.ensures.kept before after result once.commits
    (doubt_now state own
    (safe_of state c.keeper.result.now own c.safe_register-safe.result.now c.keeper.ensures.value c.safe_register-safe.ensures.value c.safe_register-safe.ensures.safe)
    (in_doubt_of state c.keeper.result.now own c.safe_register-safe.result.now c.keeper.ensures.value c.safe_register-safe.ensures.value c.safe_register-safe.ensures.in_doubt)
    own.writer.is_broken refl)
    (g.P.Policy.chooses before.policy) (c.policies_are_covered.ensures.runs before.policy) once
