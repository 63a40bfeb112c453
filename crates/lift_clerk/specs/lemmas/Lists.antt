-- Lists of commands and answers.
use Rattle.std.proofs.Common.{ℕ, suc, ◌≡◌, ◌≢◌, Bool, true, false, cond, eqb, List, [], ◌∷◌, map}
use Rattle.std.proofs.Common.{length, refl, ap, ◌∙◌, arith}
use Rattle.std.specs.Prelude.{filter}
use Rattle.std.specs.List.{AllByRecursion}
use Rattle.std.proofs.lemmas.Bool.{ne_eqb}
use Rattle.lift_base.specs.declared.command.Reply.{Reply}
use Rattle.lift_policy.specs.declared.command.Command.{Command}
use Rattle.lift_world.specs.declared.event.Answer.{Answer}
use Rattle.lift_world.specs.World.{asks, is_answer_to}
use Rattle.lift_world.specs.Next.{answer_of}
use Rattle.lift_world.specs.Turns.{with_replies}

abbrev pub answers_to : List Command → List Reply → List Answer
answers_to cs rs = map answer_of (with_replies cs rs)

-- none of these commands is of this terminal
abbrev pub AreOthers : ℕ → List Command → Type 0
AreOthers terminal commands = AllByRecursion (λ (d : Command). d.terminal ≢ terminal) commands

-- of other terminals' commands, and of the answers to them, there is none to a terminal
pub no_asks : (t : ℕ) (cs : List Command) → AreOthers t cs → filter (asks t) cs ≡ []
no_asks t [] h = refl
no_asks t (c ∷ cs) h = ap (λ (b : Bool). cond b (c ∷ filter (asks t) cs) (filter (asks t) cs))
    (ne_eqb c.terminal t h.0) ∙ no_asks t cs h.1

pub no_answers : (t : ℕ) (cs : List Command) (rs : List Reply) → AreOthers t cs
    → filter (is_answer_to t) (answers_to cs rs) ≡ []
no_answers t [] rs h = refl
no_answers t (c ∷ cs) [] h = refl
no_answers t (c ∷ cs) (r ∷ rs) h =
    ap (λ (b : Bool). cond b (record { terminal = c.terminal; number = c.number; reply = r }
    ∷ filter (is_answer_to t) (answers_to cs rs)) (filter (is_answer_to t) (answers_to cs rs)))
    (ne_eqb c.terminal t h.0)
    ∙ no_answers t cs rs h.1

-- there are as many answers to a terminal as commands of it
one_more : (b : Bool) (c : Command) (answer : Answer) (cs : List Command) (answers : List Answer)
    → length cs ≡ length answers
    → length (cond b (c ∷ cs) cs) ≡ length (cond b (answer ∷ answers) answers)
one_more true c answer cs answers e = ap suc e
one_more false c answer cs answers e = e

pub as_many : (t : ℕ) (cs : List Command) (rs : List Reply) → length rs ≡ length cs
    → length (filter (asks t) cs) ≡ length (filter (is_answer_to t) (answers_to cs rs))
as_many t [] rs e = refl
as_many t (c ∷ cs) [] e = absurd (omega arith)
as_many t (c ∷ cs) (r ∷ rs) e =
    one_more (eqb c.terminal t) c (record { terminal = c.terminal; number = c.number; reply = r })
    (filter (asks t) cs) (filter (is_answer_to t) (answers_to cs rs))
    (as_many t cs rs (omega arith))
