use Rattle.lift_clerk.specs.lemmas.Grouped.{grouped_rests, grouped_reopens}
use Rattle.lift_clerk.specs.lemmas.Reopened.{rests_of}
use Rattle.lift_clerk.proofs.Told.{tells_rest}
use Rattle.lift_clerk.proofs.group.calls_are_steps.Goals as goal

pub returns : goal.returns
returns g c = record {
  tells = λ before after t words is. grouped_rests before after (tells_rest before after t words is);
  refusals = λ before after s one. grouped_rests before after (rests_of before after s one);
  reopenings = λ before after r. grouped_reopens before after r;
}
