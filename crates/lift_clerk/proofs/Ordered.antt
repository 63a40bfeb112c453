-- What the desk's rule says of both seats of a terminal is what the laws want of them.
use Rattle.std.proofs.Common.{ℕ, List, subst}
use mathlib.Core.List.{IsPrefix}
use Rattle.atomic_table.specs.Table.{State}
use Rattle.lift_desk.specs.declared.view.TerminalView.{TerminalView}
use Rattle.lift_desk.specs.declared.view.ClerkView.{ClerkView}
use Rattle.lift_desk.specs.declared.view.View.{View}
use Rattle.lift_desk.specs.Rule.{IsInOrder, AreLastWords}
use Rattle.lift_desk.specs.Steps.{lists_of}
use Rattle.lift_desk.specs.Agree.{SeatsAgree, KnowAtOnce}
use Rattle.lift_desk.specs.lemmas.WordLists.{prefix_nil}
use Rattle.lift_clerk.specs.Group.{RuleOrders}
use Rattle.lift_clerk.specs.lemmas.Seated.{taken_at}

in_order : ((s : State (Unit {0}) View) → AreLastWords s → SeatsAgree s) → (t : TerminalView) (c : ClerkView) → KnowAtOnce (λ v. v.answers) t c → IsInOrder (lists_of t c)
in_order rule t c k =
    subst (λ (y : TerminalView × ClerkView). IsInOrder (lists_of y.0 y.1)) (λ i. (k.knows i, k.other_knows i)) ((rule k.table k.kept k.i k.j k.u k.v k.terminal_at k.other_at).in_order k.asks k.has)

pub orders : {D : Type 0} → ((s : State (Unit {0}) View) → AreLastWords s → SeatsAgree s) → RuleOrders D
orders rule group terminals seen = (
  λ t. taken_at (λ (l : List ℕ). IsPrefix l (terminals t).asked) (prefix_nil (terminals t).asked) group.seat t (λ h. (in_order rule _ _ (seen t h)).taken),
  λ t h. (in_order rule _ _ (seen t h)).heard,
)
