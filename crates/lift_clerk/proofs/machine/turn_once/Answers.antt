use Rattle.lift_clerk.proofs.machine.turn_once.Goals as goal

pub returns : goal.returns
returns g c =
    let told = c.turn.ensures in
    record {
      turn = record {
        turns = told.turns;
        fails = told.fails;
        rests = λ is. told.rests (told.commits.is.broken.0 is);
        commits = told.commits;
        calls = told.calls;
        kept = told.same;
      };
    }
