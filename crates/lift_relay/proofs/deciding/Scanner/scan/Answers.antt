use Rattle.std.proofs.Common.{◌≡◌, sym, ap, ◌∙◌, subst}
use Rattle.lift_decider.specs.Decider.{DeciderState}
use Rattle.lift_building.specs.Plan.{Plan}
use Rattle.lift_register.specs.Register.{register_of}
use Rattle.lift_policy.specs.Eligible.{any_eligible}
use Rattle.lift_policy.specs.Step.{State}
use Rattle.lift_policy.specs.Run.{Run}
use Rattle.lift_clerk.specs.Turn.{without_batch}
use Rattle.lift_world.specs.lemmas.Policies.{runs_are_any}
use Rattle.lift_parts.specs.Batch.{commands_in, replies_in}
use Rattle.lift_relay.proofs.deciding.Scanner.scan.Goals as goal

pub new-batch-requires-clause-decided : goal.new-batch-requires-clause-decided
new-batch-requires-clause-decided g c =
    let s = c.self.inside in
    let scans = c.scan-commands.ensures in
    let state = s.parts.decider.state in
    let decided = c.scan-commands.new.self.decider.state in
    let entries = c.seal-entries.ensures.batch in
    let plan : c.building.result.now ≡ s.parts.decider.plan = c.building.ensures ∙ ap (λ (d : DeciderState). d.plan) c.seal-entries.ensures.kept ∙ scans.takes.plan in
    let before : c.of_decider-before.result ≡ state = c.of_decider-before.ensures ∙ (λ i. record state { batch = sym c.self.invariant.all_sealed i }) in
    let after : c.of_decider-after.result ≡ without_batch decided = c.of_decider-after.ensures ∙ ap (λ (d : DeciderState). without_batch d.state) c.seal-entries.ensures.kept in
    let commands = commands_in c.scan-commands.result.items in
    let replies = replies_in c.scan-commands.result.items in
    record {
      run = subst (λ (p : Plan × State × State). Run p.0 any_eligible p.1 commands replies p.2) (λ i. (sym plan i, sym before i, record (sym after i) { batch = sym entries i }))
          (runs_are_any (g.P.Policy.chooses s.parts.policy) _ _ _ _ _ scans.takes.scans.found.run);
      shows = ap (λ (x : State). x.register) after ∙ scans.shows ∙ (λ i. register_of (sym before i).register (sym entries i));
      sealed = (ap (λ (x : State). x.batch) c.of_decider-before.ensures, ap (λ (x : State). x.batch) c.of_decider-after.ensures);
    }
