use Rattle.std.proofs.Common.{arith, rules, sym, ap, ◌∙◌, ◌++◌, ◌∷◌, [], string_bytes}
use Rattle.std.proofs.lemmas.List.{append_assoc}
use Rattle.lift_base.specs.lemmas.Words.{other_text}
use Rattle.lift_replay.specs.Source.{divider}
use Rattle.lift_replay.proofs.Sources.{one_above}
use Rattle.lift_replay.proofs.source.split_script.Goals as goal

pub loop-preserved : goal.loop-preserved
loop-preserved c = record {
  text = search rules;
  above = one_above c.args.text.now c.loop.rest.now c.in-Some.later.now c.in-Some.line.now (string_bytes c.loop.building) (string_bytes c.add_char.new.text) c.loop.invariant.above c.in-Some.ensures.first
      (other_text c.in-Some.line.now divider (sym c.eq.ensures ∙ c.if-eq.false))
      (c.in_ok-add_char.ensures.bytes ∙ ap (λ bytes. bytes ++ 10 ∷ []) c.in_ok-add.ensures.bytes ∙ append_assoc (string_bytes c.loop.building) c.in-Some.line.now (10 ∷ []));
  left = omega (arith, c.in-Some.ensures.shorter, c.loop.invariant.left);
}
