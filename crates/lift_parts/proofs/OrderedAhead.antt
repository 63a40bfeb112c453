-- What the desk's rule says of a seat ahead of the clerk is what the machine's scan wants of it.
use Rattle.std.proofs.Common.{ℕ, List, subst}
use Rattle.atomic_table.specs.Table.{State}
use Rattle.lift_desk.specs.declared.view.TerminalView.{TerminalView}
use Rattle.lift_desk.specs.declared.view.ClerkView.{ClerkView}
use Rattle.lift_desk.specs.declared.view.View.{View}
use Rattle.lift_desk.specs.Rule.{IsAhead, AreLastWords}
use Rattle.lift_desk.specs.Agree.{SeatsAgree, KnowAtOnce}
use Rattle.lift_desk.specs.Seats.{view_at}
use Rattle.lift_desk.specs.lemmas.WordLists.{IsAhead-nothing}
use Rattle.lift_clerk.specs.lemmas.Seated.{taken_at}
use Rattle.lift_parts.specs.Tie.{RuleOrdersAhead}

is_ahead : ((s : State (Unit {0}) View) → AreLastWords s → SeatsAgree s) → (t : TerminalView) (c : ClerkView) → KnowAtOnce (λ v. v.looks_ahead) t c → IsAhead t.asked c.taken
is_ahead rule t c k =
    subst (λ (y : TerminalView × ClerkView). IsAhead y.0.asked y.1.taken) (λ i. (k.knows i, k.other_knows i)) ((rule k.table k.kept k.i k.j k.u k.v k.terminal_at k.other_at).ahead k.asks k.has)

pub orders_ahead : ((s : State (Unit {0}) View) → AreLastWords s → SeatsAgree s) → RuleOrdersAhead
orders_ahead rule w terminals places shows seen t = record {
  ahead = subst (λ (l : List ℕ). IsAhead l (view_at places t).taken) (shows t).asked (taken_at (IsAhead (terminals t).asked) (IsAhead-nothing (terminals t).asked) places t (λ h. is_ahead rule _ _ (seen t h)));
  in_range = (shows t).in_range;
}
