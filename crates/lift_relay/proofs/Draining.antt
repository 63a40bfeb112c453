-- A drain sends what was in hand, and takes nothing.
use Rattle.std.proofs.Common.{◌≡◌, ◌⊎◌, Bool, true, false, [], ◌++◌, refl, ap, inl, inr, sym, ◌∙◌}
use Rattle.std.proofs.lemmas.List.{append-nil}
use Rattle.lift_clerk.specs.declared.counts.Counts.{Counts}
use Rattle.lift_parts.specs.Line.{SendState, Tries}
use Rattle.lift_parts.specs.Allocator.{AllocatorState, IsFullTurn}
use Rattle.lift_policy.specs.Eligible.{Choice}
use Rattle.lift_parts.specs.Turns.{IsSending, AllocatorTurns, OneMore, HandSent}

module _ {P : Type 0} where
  sent_further : (a b c : AllocatorState P) → IsSending a b → IsSending b c → IsSending a c
  sent_further a b c first then =
      let none : b.hand ≡ [] = ap (λ (s : AllocatorState P). s.hand) first.same in
      record {
        sent = then.sent ∙ ap (λ h. b.end.sent ++ h) none ∙ append-nil b.end.sent ∙ first.sent;
        line = then.line ∙ first.line;
        same = then.same ∙ ap (λ (s : AllocatorState P). record s { end = c.end; hand = [] }) first.same;
      }

  -- the end alone tried in vain
  abbrev pub Waits : AllocatorState P → AllocatorState P → Type 0
  Waits a b = b ≡ record a { end = record a.end { tries = b.end.tries } }

  waits_on : (a b c : AllocatorState P) → Waits a b → Waits b c → Waits a c
  waits_on a b c first then = then ∙ ap (λ (s : AllocatorState P). record s { end = record s.end { tries = c.end.tries } }) first

  pub sent_on : (a b c : AllocatorState P) → Waits a b ⊎ IsSending a b → IsSending b c → IsSending a c
  sent_on a b c (inl same) then = record {
    sent = then.sent ∙ ap (λ (s : AllocatorState P). s.end.sent ++ s.hand) same;
    line = then.line ∙ ap (λ (s : AllocatorState P). s.end.line) same;
    same = then.same ∙ ap (λ (s : AllocatorState P). record s { end = c.end; hand = [] }) same;
  }
  sent_on a b c (inr first) then = sent_further a b c first then

  then_waits : (a b c : AllocatorState P) → Waits a b ⊎ IsSending a b → Waits b c → Waits a c ⊎ IsSending a c
  then_waits a b c (inl first) then = inl (waits_on a b c first then)
  then_waits a b c (inr first) then = inr (record {
    sent = ap (λ (s : AllocatorState P). s.end.sent) then ∙ first.sent;
    line = ap (λ (s : AllocatorState P). s.end.line) then ∙ first.line;
    same = then ∙ ap (λ (e : SendState). record b { end = e }) (sym (ap (λ (s : AllocatorState P). s.end) then)) ∙ ap (λ (s : AllocatorState P). record s { end = c.end }) first.same;
  })

  pub sends_on : (a b c : AllocatorState P) (sent : Bool) → Waits a b ⊎ IsSending a b
      → (sent ≡ true → IsSending b c) → (sent ≡ false → Waits b c) → Waits a c ⊎ IsSending a c
  sends_on a b c true before goes stays = inr (sent_on a b c before (goes refl))
  sends_on a b c false before goes stays = then_waits a b c before (stays refl)

  -- one try more to send it
  pub sending_more : (choice : Choice) (a b c : AllocatorState P) (sent : Bool) → AllocatorTurns choice a b
      → (sent ≡ true → (c.hand ≡ []) × IsSending b c) → (sent ≡ false → IsFullTurn b c (record { taken = 0; accepted = 0 })) → AllocatorTurns choice a c
  sending_more choice a b c true before goes stays = HandSent before (goes refl).1
  sending_more choice a b c false before goes stays = OneMore before (inl (stays refl))

  -- a turn that found the line full
  pub waits_by : {counts : Counts} (a b : AllocatorState P) → IsFullTurn a b counts → Waits a b
  waits_by a b full = full.same ∙ ap (λ (t : Tries). record a { end = record a.end { tries = t } }) (sym (ap (λ (s : AllocatorState P). s.end.tries) full.same))
