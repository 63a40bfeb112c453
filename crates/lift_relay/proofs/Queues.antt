-- What the line holds, by its two ends.
use Rattle.std.proofs.Common.{◌≡◌, ◌+◌, ◌≤◌, List, [], ◌∷◌, ◌++◌, length, refl, sym, ap, ◌∙◌, append-nil, length-append, arith, subst}
use Rattle.lift_base.specs.declared.limits.TheConstants.{MOST_BATCHES}
use Rattle.lift_parts.specs.Batch.{BatchState}
use Rattle.lift_parts.specs.Line.{SendState, ReceiveState, WasFull, BatchesGoOn}
use Rattle.lift_parts.specs.Queued.{Queued}

no_more : {A : Type 0} (xs ys : List A) → length xs ≡ length xs + length ys → ys ≡ []
no_more xs [] same = refl
no_more xs (y ∷ ys) same = absurd (omega arith)

-- as many were received as were sent
pub none_waits : (s : SendState) (r : ReceiveState) (q : Queued s r) → length s.sent ≡ length r.received → q.items ≡ []
none_waits s r q same = no_more r.received q.items (sym same ∙ ap length q.in_order ∙ length-append r.received q.items)

pub all_received : (s : SendState) (r : ReceiveState) → Queued s r → length s.sent ≡ length r.received → s.sent ≡ r.received
all_received s r q same = q.in_order ∙ ap (λ l. r.received ++ l) (none_waits s r q same) ∙ append-nil r.received

-- the two ends are at one state then
pub same_state : (s : SendState) (r : ReceiveState) → Queued s r → length s.sent ≡ length r.received → r.state ≡ s.state
same_state s r q same = (subst (λ (items : List BatchState). BatchesGoOn s.building s.desk r.state r.turns items s.state s.turns) (none_waits s r q same) q.goes_on).0

-- it was full of what had not left it
pub full_by : (s : SendState) → WasFull s → length s.gone + MOST_BATCHES ≤ length s.sent
full_by s full = omega (arith, full.four, ap length full.all, length-append full.received full.items, ap length full.later.1, length-append s.gone full.later.0)
