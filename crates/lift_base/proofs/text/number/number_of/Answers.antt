use Rattle.std.proofs.Common.{refl}
use Rattle.std.proofs.lemmas.Bool.{false≢true}
use Rattle.lift_base.specs.lemmas.Numbers.{plain_is_printed, no_other, not_plain}
use Rattle.lift_base.proofs.text.number.number_of.Goals as goal

pub returns-then-not-is_plain-clause-none : goal.returns-then-not-is_plain-clause-none
returns-then-not-is_plain-clause-none c n small = let plain = c.if-not-is_plain.ensures in not_plain c.args.word.now n (λ p. false≢true (plain.1 p)) small

pub returns-in-Ok-clause-some : goal.returns-in-Ok-clause-some
returns-in-Ok-clause-some c = let plain = c.if-not-is_plain.ensures in plain_is_printed c.args.word.now c.parse.result c.in-Ok.number (plain.0 refl) c.parse.ensures.value.0 c.in-Ok.is

pub returns-in-Err-clause-none : goal.returns-in-Err-clause-none
returns-in-Err-clause-none c n small = no_other c.args.word.now c.parse.result c.in-Err.field-0 n c.parse.ensures.value.0 c.in-Err.is small
