use Rattle.std.proofs.Common.{rules, ◌≡◌, ℕ, List, [], refl, sym, ap, ◌∙◌, subst}
use Rattle.lift_register.specs.Register.{RegisterState, register_of}
use Rattle.lift_register.specs.lemmas.EntryLemmas.{register_of-nothing}
use Rattle.lift_relay.proofs.Allocated.{based}
use Rattle.lift_desk.specs.Seats.{ClerkPlace, OwesNothing, ahead_from, with_looks_of}
use Rattle.lift_desk.specs.lemmas.Places.{with_no_looks}
use Rattle.lift_policy.specs.Eligible.{any_eligible}
use Rattle.lift_policy.specs.Step.{State}
use Rattle.lift_policy.specs.Run.{Run}
use Rattle.lift_parts.specs.declared.taken.NotedCommand.{NotedCommand}
use Rattle.lift_parts.specs.Batch.{BatchState, turns_of, commands_in, replies_in}
use Rattle.lift_parts.specs.Line.{ReceiveState}
use Rattle.lift_parts.specs.Flusher.{AllAnsweredBy}
use Rattle.lift_relay.proofs.Flushed.{answered_first}
use Rattle.lift_relay.proofs.relay.split_for.Goals as goal

pub new-flusher-requires-clause-all_answered : goal.new-flusher-requires-clause-all_answered
new-flusher-requires-clause-all_answered g c =
    let seat = c.into_parts-seat.result.0 in
    let split = c.split-ahead.ensures in
    let turns : turns_of (ahead_from seat) ≡ c.in-Ok.ends.1.turns =
    sym (ap turns_of (c.of-3.ensures ∙ split.ahead)) ∙ sym (ap (λ (b : BatchState). b.turns) c.new-first.ensures) ∙ sym (ap (λ (r : ReceiveState). r.turns) c.in-Ok.ensures.receiver_is) in
    subst (λ (p : List ClerkPlace × List ℕ). AllAnsweredBy p.0 p.1) (λ k. (sym split.clerk k, turns k)) (answered_first seat c.into_parts-seat.ensures.answered)

pub new-first-requires-clause-decided : goal.new-first-requires-clause-decided
new-first-requires-clause-decided g c =
    let now : State = record c.into_parts-seat.result.1.state { batch = [] } in
    let one : c.of.result ≡ now = c.of.ensures ∙ based now c.register.result.now c.positions.result.now c.register.ensures.value c.positions.ensures.positions refl in
    let two : c.of-2.result ≡ now = c.of-2.ensures ∙ based now c.register-2.result.now c.positions-2.result.now c.register-2.ensures.value c.positions-2.ensures.positions refl in
    let last : State = record c.of-2.result { batch = c.new-2.result.items } in
    let same : last ≡ c.of.result = (λ i. record (two i) { batch = c.new-2.ensures i }) ∙ sym one in
    let read : (s : State) → RegisterState = λ s. s.register in
    record {
      run = subst (λ (l : List NotedCommand). Run c.building.result.now any_eligible c.of.result (commands_in l) (replies_in l) last) (sym c.new.ensures) same;
      shows = ap read c.of-2.ensures ∙ c.register-2.ensures.value ∙ sym c.register.ensures.value ∙ sym (register_of-nothing c.register.result.now c.register.ensures.lawful)
          ∙ (λ i. register_of (sym (ap read c.of.ensures) i) (sym c.new-2.ensures i));
      sealed = (ap (λ (s : State). s.batch) c.of.ensures, ap (λ (s : State). s.batch) c.of-2.ensures);
    }

-- seats that looked at nothing are joined in, and the clerk's are as they were
unlooked : (ahead seat was joined : List ClerkPlace) → joined ≡ with_looks_of ahead seat → ahead ≡ ahead_from was → seat ≡ was → joined ≡ was
unlooked ahead seat was joined is first second = is ∙ (λ k. with_looks_of (first k) (second k)) ∙ with_no_looks was

pub new-requires-in-Err-clause-answered : goal.new-requires-in-Err-clause-answered
new-requires-in-Err-clause-answered g c =
    let split = c.split-ahead in
    subst OwesNothing (sym (unlooked split.result.0 split.result.1 c.into_parts-seat.result.0 c.join-seat.result c.join-seat.ensures.joined split.ensures.ahead split.ensures.clerk)) c.into_parts-seat.ensures.answered

pub returns-in-Err-clause-refused : goal.returns-in-Err-clause-refused
returns-in-Err-clause-refused g c =
    let split = c.split-ahead in
    let same : c.join-seat.result ≡ c.into_parts-seat.result.0 = unlooked split.result.0 split.result.1 c.into_parts-seat.result.0 c.join-seat.result c.join-seat.ensures.joined split.ensures.ahead split.ensures.clerk in
    search rules
