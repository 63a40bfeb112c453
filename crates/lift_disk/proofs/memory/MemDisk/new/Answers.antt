use Rattle.std.proofs.Common.{◌∙◌, sym, ap, subst, refl, List, Bool, rules}
use Rattle.lift_disk.specs.Memory.{IsFlagged, image_after}
use Rattle.lift_disk.specs.Calls.{Call}
use Rattle.lift_disk.specs.Places.{all_now}
use Rattle.lift_disk.specs.lemmas.History.{none_flagged}
use Rattle.lift_disk.proofs.memory.MemDisk.new.Goals as goal

pub invariant_of-result : goal.invariant_of-result
invariant_of-result c = record {
  recorded = ap (λ (l : List Call). image_after l c.begin.result.first) c.begin.ensures.1 ∙ c.begin.ensures.0 ∙ ap (λ l. all_now l) c.as_slice.ensures;
}

pub returns : goal.returns
returns c = record {
  blank = record {
    zeros = c.in_ok-sectors.ensures.now;
    synced = record {
      steady = refl;
      none_loose = λ i is. none_flagged c.args.sectors i (subst (λ (l : List Bool). IsFlagged l i) c.in_ok-sectors.ensures.loose is);
    };
    same = c.in_ok-sectors.ensures.safe ∙ sym c.in_ok-sectors.ensures.now;
    honest = search rules;
    inert = search rules;
    unarmed = search rules;
    short = search rules;
    failures = search rules;
    uncalled = record { calls = search rules; writes = search rules; trace = search rules };
  };
}
