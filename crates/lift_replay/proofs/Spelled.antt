-- Whether a line asks for something, and whether the building knows it.
use Rattle.std.proofs.Common.{ℕ, List, [], ◌∷◌, refl, subst, inl, inr}
use Rattle.std.specs.Prelude.{codes}
use Rattle.std.proofs.lemmas.Bool.{cases_eq}
use Rattle.lift_base.specs.Text.{AreWords}
use Rattle.lift_building.specs.Plan.{Plan}
use Rattle.lift_replay.specs.declared.line.ScriptLine.{ScriptLine}
use Rattle.lift_replay.specs.declared.line.ScriptLine.TheVariants.{Ask, Turn, Show, Device}
use Rattle.lift_replay.specs.Grammar.{Spells, IsKnown, IsSkipped}
use Rattle.lift_replay.proofs.Asks.{Asks, ask_decided, known_ask}
use Rattle.lift_replay.proofs.DeviceActions.{Does, action_decided}
use Rattle.lift_replay.proofs.Found.{IsDecided, worded}
use Rattle.lift_replay.proofs.Queries.{Shows, query_decided, known_query}

pub asks_for : (line : List ℕ) → IsDecided ((wanted : ScriptLine) × Spells line wanted)
asks_for line = elim (ask_decided line) [
  | inl ask ↦ inl (Ask ask.0, ask.1)
  | inr no_ask ↦ elim (worded line (codes "turn") []) [
    | inl turn ↦ inl (Turn, (_, turn, refl))
    | inr no_turn ↦ elim (query_decided line) [
      | inl query ↦ inl (Show query.0, query.1)
      | inr no_query ↦ elim (action_decided line) [
        | inl action ↦ inl (Device action.0, action.1)
        | inr no_action ↦ inr (λ asks. none no_ask no_turn no_query no_action asks.0 asks.1)
      ]
    ]
  ]
]
  where
    none : (Asks line → ⊥) → (AreWords line (codes "turn" ∷ []) → ⊥) → (Shows line → ⊥) → (Does line → ⊥) → (wanted : ScriptLine) → Spells line wanted → ⊥
    none no_ask no_turn no_query no_action (Ask ask) s = no_ask (ask, s)
    none no_ask no_turn no_query no_action Turn s = no_turn (subst (AreWords line) s.2 s.1)
    none no_ask no_turn no_query no_action (Show query) s = no_query (query, s)
    none no_ask no_turn no_query no_action (Device action) s = no_action (action, s)

pub skipped : (line : List ℕ) → IsDecided (IsSkipped line)
skipped [] = inl tt
skipped (byte ∷ line) = cases_eq byte 35

pub known : (plan : Plan) (wanted : ScriptLine) → IsDecided (IsKnown plan wanted)
known plan (Ask ask) = known_ask plan ask
known plan Turn = inl tt
known plan (Show query) = known_query plan query
known plan (Device action) = inl tt
