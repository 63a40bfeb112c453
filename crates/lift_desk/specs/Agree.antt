-- What the rule of one table says of any two of its seats, whoever holds them.
use Rattle.std.specs.Prelude.{◌≡◌, ℕ, Bool, true}
use mathlib.Core.Option.{some}
use lib.ListN.{get_elem?}
use Rattle.atomic_table.specs.Table.{State}
use Rattle.lift_desk.specs.declared.view.View.{View}
use Rattle.lift_desk.specs.declared.view.TerminalView.{TerminalView}
use Rattle.lift_desk.specs.declared.view.ClerkView.{ClerkView}
use Rattle.lift_desk.specs.Rule.{IsInOrder, IsAhead, AreLastWords}
use Rattle.lift_desk.specs.Steps.{lists_of}

-- The seats i and j, of which one knows u and the other v.
pub record Agree (i j : ℕ) (u v : View) : Type 0 where
  -- what the terminal asked and heard, and what the clerk took and answered of it, is in order
  pub in_order : u.asks ≡ true → v.answers ≡ true → IsInOrder (lists_of u.terminal v.clerk)
  -- each word that was taken ahead of the clerk was asked, in rising turns
  pub ahead : u.asks ≡ true → v.looks_ahead ≡ true → IsAhead u.terminal.asked v.clerk.taken
  -- one seat stores the asks, and one the answers
  pub one_asks : u.asks ≡ true → v.asks ≡ true → i ≡ j
  pub one_answers : u.answers ≡ true → v.answers ≡ true → i ≡ j
  -- one looks ahead, while the clerk's lends
  pub one_ahead : u.looks_ahead ≡ true → v.looks_ahead ≡ true → i ≡ j
  pub lends : u.answers ≡ true → v.looks_ahead ≡ true → u.lends ≡ true

-- So it is of any two seats while the rule holds.
abbrev pub SeatsAgree : State (Unit {0}) View → Type 0
SeatsAgree s = (i j : ℕ) (u v : View) → get_elem? s.views i ≡ some u → get_elem? s.views j ≡ some v
    → Agree i j u v

-- At one moment of a table, while its rule holds, the terminal's seat knows t, and the seat that has
-- this right knows c.
pub record KnowAtOnce (right : View → Bool) (t : TerminalView) (c : ClerkView) : Type 0 where
  pub table : State (Unit {0}) View
  pub kept : AreLastWords table
  pub i : ℕ
  pub j : ℕ
  pub u : View
  pub v : View
  pub terminal_at : get_elem? table.views i ≡ some u
  pub other_at : get_elem? table.views j ≡ some v
  pub asks : u.asks ≡ true
  pub has : right v ≡ true
  pub knows : u.terminal ≡ t
  pub other_knows : v.clerk ≡ c
