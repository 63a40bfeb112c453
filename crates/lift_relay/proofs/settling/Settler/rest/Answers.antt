use Rattle.std.proofs.Common.{List, [], subst}
use Rattle.std.specs.Prelude.{Ok}
use Rattle.lift_base.specs.declared.history.Entry.{Entry}
use Rattle.lift_keeper.specs.Prelude.{Commits}
use Rattle.lift_keeper.specs.lemmas.Committed.{under_ok}
use Rattle.lift_relay.specs.Settler.{SettlerState}
use Rattle.lift_relay.proofs.settling.Settler.rest.Goals as goal

pub returns-clause-commits : goal.returns-clause-commits
returns-clause-commits g c =
    let safe = c.in_ok-_safe._safe in
    let made = subst (λ (b : List Entry). Commits g.D.Disk.state c.self.inside.writer b c.commit.new.self (Ok safe)) c.new.ensures c.in_ok-_safe.ensures.commits in
    subst (λ (v : SettlerState g.row.D.Denot). Commits g.D.Disk.state v.writer [] c.commit.new.self (Ok (record { batches = 0; answers = 0 }))) c.self.view_is (under_ok g.D.Disk.state _ _ _ safe _ made)
