use Rattle.lift_file_tests.proofs.memory_file.made.Goals as goal

pub returns-in-Ok-clause-honest : goal.returns-in-Ok-clause-honest
returns-in-Ok-clause-honest g c =
    let made = c.in-Ok.ensures.made in
    (made.made.file, made.made.opened, λ honest. c.over.ensures.honest (made.honest.1 honest))
