use Rattle.lift_register.specs.lemmas.HistoryLemmas.{register_of-append}
use Rattle.lift_register.specs.lemmas.EntryLemmas.{register_of-nothing}
use Rattle.lift_register.specs.lemmas.Laws.{FitFrom-append, FitFrom-parts}
use Rattle.lift_register.proofs.joins.registers_join.Goals as goal

pub returns : goal.returns
returns c = record {
  joins = register_of-append;
  nothing = register_of-nothing;
  fitting = λ plan register first later lawful.
      let same = register_of-nothing register lawful in
      (FitFrom-parts plan register first later same, λ both. FitFrom-append plan register first later same both.0 both.1);
}
