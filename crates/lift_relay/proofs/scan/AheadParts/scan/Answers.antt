use Rattle.std.proofs.Common.{length, refl, sym, ap, subst, arith}
use Rattle.std.proofs.lemmas.List.{length-map}
use Rattle.lift_keeper.specs.lemmas.Keepers.{nothing_more}
use Rattle.lift_clerk.specs.TakenAndAnswered.{AreApart}
use Rattle.lift_clerk.specs.lemmas.Served.{all_apart}
use Rattle.lift_parts.specs.declared.taken.NotedCommand.{NotedCommand}
use Rattle.lift_parts.specs.Batch.{AreBelow, commands_in, replies_in}
use Rattle.lift_parts.specs.Scan.{turns_in}
use Rattle.lift_parts.specs.lemmas.Used.{uses}
use Rattle.lift_relay.proofs.Scanned.{below, run-keeps}
use Rattle.lift_relay.proofs.scan.AheadParts.scan.Goals as goal

pub returns : goal.returns
returns g c =
    let old = c.args.self.now in
    let shown = c.register-shown.ensures in
    let taken = c.scan_desk.new.found.items in
    let scans = c.scan_desk.ensures.1.scans in
    let used = uses 0 old.seat scans.visits scans.looks in
    let keeps = run-keeps (g.P.Policy.chooses old.policy) c.decisions_preserve.ensures.joins old.decider.plan old.decider.state c.scan_desk.new.scanner.decider.state (commands_in taken) (replies_in taken)
    (nothing_more old.decider.state.register c.register-shown.result.now shown.value shown.lawful) c.requires.empty_batch scans.found.run in
    record {
      takes = c.scan_desk.ensures.1;
      fits = keeps.fits refl;
      shows = keeps.shows refl;
      uses = omega (arith, ap length scans.found.commands, length-map taken (λ (t : NotedCommand). t.command), ap turns_in scans.looked);
      below = subst (λ l. AreBelow (length c.args.desk.now) l) (sym scans.found.commands) (below 0 (length c.args.desk.now) scans.visits (omega (arith, scans.count)));
      apart = subst AreApart (sym scans.found.commands) (all_apart 0 scans.visits);
      policy = c.scan_desk.ensures.0;
    }
