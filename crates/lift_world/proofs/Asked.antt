-- When terminals may ask, and what they hear.
use Rattle.std.proofs.Common.{ℕ, ◌≡◌, Bool, not, ◌&&◌, cond, eqb, List, [], ◌∷◌, ◌++◌, length, Option, Some, None, refl, sym, ap, ◌∙◌}
use Rattle.std.specs.Prelude.{filter, slice_get, count_by, option_map}
use Rattle.std.proofs.lemmas.Bool.{and_right, eq-eqb, ne_eqb}
use Rattle.std.proofs.lemmas.List.Sums.{length-filter}
use Rattle.lift_policy.specs.declared.command.Command.{Command}
use Rattle.lift_world.specs.declared.event.Answer.{Answer}
use Rattle.lift_world.specs.Decided.{when}
use Rattle.lift_world.specs.World.{World, is_off, is_answer_to, asks}
use Rattle.lift_world.specs.Next.{asking, hearing, next_answer}
use Rattle.lift_world.specs.Possible.{AsksOnceHeard, HearsTheNext}
use Rattle.lift_world.specs.lemmas.Moves.{never}

pub asks_once_heard : (w : World) → AsksOnceHeard w
asks_once_heard w = record {
  heard_all = λ terminal number body on same.
      let command : Command = record { terminal = terminal; number = number; body = body } in
      ap (λ (b : Bool). when (not b && eqb (count_by (asks terminal) w.asked) (count_by (is_answer_to terminal) w.heard)) (asking w command)) on
      ∙ ap (λ (b : Bool). when b (asking w command)) (eq-eqb (count_by (asks terminal) w.asked) (count_by (is_answer_to terminal) w.heard) same);
  waits = λ terminal number body apart.
      let command : Command = record { terminal = terminal; number = number; body = body } in
      ap (λ (b : Bool). when b (asking w command))
      (and_right (not (is_off w.power)) (eqb (count_by (asks terminal) w.asked) (count_by (is_answer_to terminal) w.heard)) (ne_eqb (count_by (asks terminal) w.asked) (count_by (is_answer_to terminal) w.heard) apart));
}

-- the element after a prefix, and none after the whole
pub at_front : {A : Type 0} (xs ys : List A) (x : A) → slice_get (xs ++ x ∷ ys) (length xs) ≡ Some x
at_front [] ys x = refl
at_front (z ∷ xs) ys x = at_front xs ys x

at_end : {A : Type 0} (xs : List A) → slice_get xs (length xs) ≡ None
at_end [] = refl
at_end (z ∷ xs) = at_end xs

module _ (w : World) (terminal : ℕ) where
  abbrev heard_by : List Answer
  heard_by = filter (is_answer_to terminal) w.heard

  next_is : (xs : List Answer) → filter (is_answer_to terminal) w.answered ≡ xs → next_answer w terminal ≡ slice_get xs (length heard_by)
  next_is xs e =
      ap (λ (n : ℕ). slice_get (filter (is_answer_to terminal) w.answered) n) (sym (length-filter (is_answer_to terminal) w.heard))
      ∙ ap (λ (ys : List Answer). slice_get ys (length heard_by)) e

pub hears_the_next : (w : World) → HearsTheNext w
hears_the_next w = record {
  hears = λ terminal answer later on e.
      ap (λ (b : Bool). cond (not b) (option_map (hearing w) (next_answer w terminal)) None) on
      ∙ ap (option_map (hearing w)) (next_is w terminal (filter (is_answer_to terminal) w.heard ++ answer ∷ later) e ∙ at_front (filter (is_answer_to terminal) w.heard) later answer);
  waits = λ terminal e.
      ap (λ (o : Option Answer). cond (not (is_off w.power)) (option_map (hearing w) o) None) (next_is w terminal (filter (is_answer_to terminal) w.heard) e ∙ at_end (filter (is_answer_to terminal) w.heard))
      ∙ never (not (is_off w.power));
}
