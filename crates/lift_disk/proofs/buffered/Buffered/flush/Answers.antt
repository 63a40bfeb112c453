use Rattle.std.proofs.Common.{ℕ, List, length, ap, sym, ◌∙◌}
use Rattle.std.proofs.lemmas.Bool.{eqb-false}
use Rattle.lift_disk.proofs.Joined.{run_call}
use Rattle.lift_disk.proofs.Waiting.{rests_of, none_waits}
use Rattle.lift_disk.proofs.buffered.Buffered.flush.Goals as goal

pub returns-clause-rests : goal.returns-clause-rests
returns-clause-rests g c =
    let d = c.args.self.now in
    rests_of (g.R.Disk.state d.device) (g.R.Disk.state c.write_run-outcome.new.self) d.from d.from d.pending.items c.clear.new.self.items
    c.write_run-outcome.ensures.access.goes_on c.write_run-outcome.ensures.leaves
    d.announced (none_waits (g.R.Disk.state c.write_run-outcome.new.self) d.from c.clear.new.self.items c.clear.ensures)

pub returns-clause-made : goal.returns-clause-made
returns-clause-made g c =
    let d = c.args.self.now in
    let w = c.write_run-outcome in
    run_call w.result d.from d.pending.items (g.R.Disk.state d.device) (g.R.Disk.state w.new.self) (λ none. let some = eqb-false (length d.pending.items) 0 (sym c.is_empty.ensures ∙ c.if-is_empty.false) in some (ap (λ (run : List (List ℕ)). length run) none))
    w.ensures.access.goes_on.calls (rw (← c.as_slice.ensures.value) w.ensures.access.recorded)
