use Rattle.std.proofs.Common.{rules, ◌≡◌, [], length, sym, subst, ◌∙◌}
use Rattle.lift_parts.specs.Allocator.{AllocatorState}
use Rattle.lift_parts.specs.Flusher.{FlusherState}
use Rattle.lift_parts.specs.Parts.{IsRejoined}
use Rattle.lift_relay.proofs.Queues.{all_received, same_state}
use Rattle.lift_relay.proofs.relay.rejoin.Goals as goal

pub returns-clause-joined : goal.returns-clause-joined
returns-clause-joined g c =
    let a = c.compare.new.allocator in
    let f = c.compare.new.self in
    let counts : length a.end.sent ≡ length f.end.received = search rules in
    let none : a.hand ≡ [] = search rules in
    let joined : IsRejoined a f c.join.result = record {
      desk = search rules;
      seat = search rules;
      state = search rules;
      writer = search rules;
      policy = search rules;
      all_received = all_received a.end f.end c.compare.ensures.queued counts;
      nothing_in_hand = none;
      all_answered = search rules;
      all_safe = search rules;
      same_state = c.register.ensures.behind none ∙ sym (same_state a.end f.end c.compare.ensures.queued counts);
    } in
    subst (λ (p : AllocatorState g.row.P.Denot × FlusherState g.row.D.Denot). IsRejoined p.0 p.1 c.join.result)
    (λ i. (c.compare.ensures.allocator i, c.compare.ensures.flusher i)) joined

pub returns-clause-history : goal.returns-clause-history
returns-clause-history g c = λ base safe given h.
    let r = returns-clause-joined g c in
    c.parts_are_clerks.ensures.joined c.join.result c.args.flusher c.args.allocator.seat base safe given (r.desk ∙ sym c.requires.of_one.desk) r.seat r.writer (r.state ∙ r.same_state) h
