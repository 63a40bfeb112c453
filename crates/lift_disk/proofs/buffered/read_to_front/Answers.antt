use Rattle.std.proofs.Common.{arith, ◌∙◌, ◌≡◌, length, length-take-le}
use Rattle.lift_disk.proofs.Waiting.{given_front, held_front}
use Rattle.lift_disk.proofs.Synced.{on_ok}
use Rattle.lift_disk.proofs.buffered.read_to_front.Goals as goal

pub returns-clause-gives : goal.returns-clause-gives
returns-clause-gives g c =
    let r = c.read_run in
    let long : length r.new.run ≡ c.args.count = r.auto.run ∙ length-take-le c.args.count c.args.room.now (omega (arith, c.requires.count, c.told-room)) in
    on_ok r.result (λ gives honest. held_front (g.R.Disk.state r.new.self).image c.args.sector c.args.count r.new.run _ long (gives honest)) r.ensures.gives

pub returns-clause-given : goal.returns-clause-given
returns-clause-given g c =
    let r = c.read_run in
    let long : length r.new.run ≡ c.args.count = r.auto.run ∙ length-take-le c.args.count c.args.room.now (omega (arith, c.requires.count, c.told-room)) in
    on_ok r.result (given_front (g.R.RunDisk.has_read_bytes r.new.self) c.args.sector c.args.count r.new.run _ long) r.ensures.given
