use Rattle.std.proofs.Common.{◌≡◌, ◌∙◌, ◌-◌, Err, Ok, min, take}
use Rattle.std.proofs.lemmas.Result.{err_from_is_err_and}
use Rattle.lift_disk.specs.Trace.Access.{Read}
use Rattle.lift_disk.proofs.Joined.{one_call}
use Rattle.lift_disk.proofs.Waiting.{rests_of}
use Rattle.lift_disk.proofs.buffered.Buffered.look_ahead.Goals as goal

pub returns-in_err-read_to_front-clause-rests : goal.returns-in_err-read_to_front-clause-rests
returns-in_err-read_to_front-clause-rests g c =
    let d = c.args.self.now in
    rests_of (g.R.Disk.state d.device) (g.R.Disk.state c.read_to_front.new.device) d.from d.from d.pending.items d.pending.items
    c.read_to_front.ensures.access.goes_on c.read_to_front.ensures.leaves d.announced
    (λ honest i not. d.announced (c.read_to_front.ensures.access.goes_on.honest.0 honest) i (λ was. not (c.read_to_front.ensures.leaves.loose (c.read_to_front.ensures.access.goes_on.honest.0 honest) i was)))

pub returns-clause-rests : goal.returns-clause-rests
returns-clause-rests g c =
    let d = c.args.self.now in
    rests_of (g.R.Disk.state d.device) (g.R.Disk.state c.read_to_front.new.device) d.from d.from d.pending.items d.pending.items
    c.read_to_front.ensures.access.goes_on c.read_to_front.ensures.leaves d.announced
    (λ honest i not. d.announced (c.read_to_front.ensures.access.goes_on.honest.0 honest) i (λ was. not (c.read_to_front.ensures.leaves.loose (c.read_to_front.ensures.access.goes_on.honest.0 honest) i was)))

pub returns-in_err-read_to_front-clause-asked : goal.returns-in_err-read_to_front-clause-asked
returns-in_err-read_to_front-clause-asked g c =
    let d = c.args.self.now in
    let r = c.read_to_front in
    let fault = err_from_is_err_and c.from_residual.result c.from_residual.ensures.1 in
    let count : c.min-count.result ≡ min ((g.R.Disk.state d.device).size - c.args.sector) 16 = search (c.min-count.ensures, c.sectors.ensures) in
    rw fault.1 (record {
      run = take c.min-count.result r.new.room;
      count = r.ensures.long ∙ count;
      asked = c.in_err-read_to_front.ensures.own;
      made = one_call (Err fault.0) (Read c.args.sector) (g.R.Disk.state d.device) (g.R.Disk.state r.new.device) r.ensures.access.goes_on.calls c.in_err-read_to_front.ensures.access.recorded;
    })

pub returns-clause-asked : goal.returns-clause-asked
returns-clause-asked g c =
    let d = c.args.self.now in
    let r = c.read_to_front in
    let count : c.min-count.result ≡ min ((g.R.Disk.state d.device).size - c.args.sector) 16 = search (c.min-count.ensures, c.sectors.ensures) in
    record {
      run = take c.min-count.result r.new.room;
      count = r.ensures.long ∙ count;
      asked = c.in_ok-read_to_front.ensures.own;
      made = one_call (Ok tt) (Read c.args.sector) (g.R.Disk.state d.device) (g.R.Disk.state r.new.device) r.ensures.access.goes_on.calls c.in_ok-read_to_front.ensures.access.recorded;
    }
