use Rattle.std.proofs.Common.{rules, ◌≡◌, Bool, List, [], ◌∷◌, ℕ, refl, arith}
use Rattle.std.specs.Prelude.{not, ◌==◌, filter, map}
use Rattle.std.specs.Arc.{arc_value}
use Rattle.std.specs.declared.sync.Arc.{Arc}
use Rattle.std.proofs.lemmas.Fn.{filter_same}
use Rattle.std.proofs.lemmas.Grind.{common_steps}
use Rattle.lift_serve.specs.declared.socket.Peer.{Peer}
use Rattle.lift_serve.proofs.prepared.connections.Connections.leave.Goals as goal

abbrev number_of : {Z : Type 0} → Arc Peer Z → ℕ
number_of peer = (arc_value peer).number

-- a test of their numbers alone
numbers_left : {X : Type 0} (number : X → ℕ) (test : ℕ → Bool) (l : List X) → map number (filter (λ p. test (number p)) l) ≡ filter test (map number l)
numbers_left number test [] = refl
numbers_left number test (first ∷ l) = let rest = numbers_left number test l in grind (arith, common_steps)

pub returns-clause-left : goal.returns-clause-left
returns-clause-left c =
    let left = filter_same _ (λ p. not (number_of p == c.args.number)) _ (λ x b f' k. search rules) _ _ c.retain.ensures.filtered in
    let numbers = numbers_left number_of (λ n. not (n == c.args.number)) c.self.inside.open.items in
    grind (arith, common_steps)
