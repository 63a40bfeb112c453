use Rattle.std.proofs.Common.{ap, ◌∙◌, rules}
use Rattle.lift_disk.proofs.Waiting.{push_goes_on, push_touched, push_written, push_steady}
use Rattle.lift_disk.proofs.buffered.BufferedDisk.write.Goals as goal

pub returns-clause-access : goal.returns-clause-access
returns-clause-access g c =
    let d = c.args.self.now in
    let m = c.make_room.new.self in
    record {
      goes_on = rw c.push.ensures.items (push_goes_on (g.R.Disk.state d.device) (g.R.Disk.state m.device) d.from m.from c.args.sector d.pending.items m.pending.items c.args.bytes.now c.in_ok-make_room.ensures.opens c.in_ok-make_room.ensures.keeps c.in_ok-make_room.ensures.next m.announced
          d.calls.count m.calls.count d.writes.count m.writes.count d.trace.calls c.then-self.result.calls
          (ap (λ n. n.count) c.make_room.ensures.counts.0 ∙ c.next-self.ensures) c.in_ok-make_room.ensures.faults.ok);
      fault = search rules;
      armed = search rules;
      writes = search rules;
      recorded = search rules;
    }

pub returns-clause-touched : goal.returns-clause-touched
returns-clause-touched g c honest =
    let d = c.args.self.now in
    let m = c.make_room.new.self in
    rw c.push.ensures.items (push_touched (g.R.Disk.state d.device) (g.R.Disk.state m.device) d.from m.from c.args.sector d.pending.items m.pending.items c.args.bytes.now c.in_ok-make_room.ensures.opens c.in_ok-make_room.ensures.keeps c.in_ok-make_room.ensures.next m.announced
    d.calls.count m.calls.count d.writes.count m.writes.count d.trace.calls c.then-self.result.calls honest)

pub returns-clause-stores : goal.returns-clause-stores
returns-clause-stores g c =
    let d = c.args.self.now in
    let m = c.make_room.new.self in
    record {
      written = λ honest. rw c.push.ensures.items (push_written (g.R.Disk.state d.device) (g.R.Disk.state m.device) d.from m.from c.args.sector d.pending.items m.pending.items c.args.bytes.now c.in_ok-make_room.ensures.opens c.in_ok-make_room.ensures.keeps c.in_ok-make_room.ensures.next m.announced
          d.calls.count m.calls.count d.writes.count m.writes.count d.trace.calls c.then-self.result.calls honest);
      steady = λ honest steady. rw c.push.ensures.items (push_steady (g.R.Disk.state d.device) (g.R.Disk.state m.device) d.from m.from c.args.sector d.pending.items m.pending.items c.args.bytes.now c.in_ok-make_room.ensures.opens c.in_ok-make_room.ensures.keeps c.in_ok-make_room.ensures.next m.announced
          d.calls.count m.calls.count d.writes.count m.writes.count d.trace.calls c.then-self.result.calls honest steady);
      image = λ _ inert. absurd inert;
    }
