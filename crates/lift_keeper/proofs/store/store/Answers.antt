use Rattle.std.proofs.Common.{◌≡◌, ◌∙◌, length, ap, arith}
use Rattle.lift_disk.specs.lemmas.Moments.{leaves_then, leaves_weaker}
use Rattle.lift_keeper.specs.Images.{IsImageOf, IsInDoubt}
use Rattle.lift_keeper.proofs.Guarding.{ok_five, append_leaves, append_keeps, in_doubt_of, guards_then, answers_then, now_after, by_disk_alone, disk_calls, append_fails, adding_fails}
use Rattle.std.proofs.lemmas.List.{length-map}
use Rattle.lift_base.specs.declared.history.Record.TheVariants.{Entry as EntryRecord}
use Rattle.lift_base.specs.declared.history.Shape.{Shape}
use Rattle.lift_journal.specs.Layout.{Picks, body_size}
use Rattle.lift_journal.specs.lemmas.Adding.{adds_reads, adds_half, added_reads, added_lists}
use Rattle.lift_keeper.proofs.store.store.Goals as goal

pub returns-clause-any_moment : goal.returns-clause-any_moment
returns-clause-any_moment g c plan batch kept fit guards =
    let journal = c.args.journal.now in
    let middle = c.make_room.new.journal in
    let old = g.D.Disk.state journal.device in
    let mid = g.D.Disk.state middle.device in
    let new = g.D.Disk.state c.append.new.self.device in
    let register = c.args.register.now in
    let then = guards_then plan journal.shape middle.shape journal.is_in_second_half middle.is_in_second_half journal.used middle.used register old mid guards (c.in_ok-make_room.ensures.keeps plan guards) in
    leaves_then old mid new (IsInDoubt plan register batch)
    (leaves_weaker old mid (IsImageOf plan register) (IsInDoubt plan register batch) (in_doubt_of plan register batch old) (c.make_room.ensures.any_moment plan guards))
    (append_leaves plan middle.shape middle.is_in_second_half middle.used register mid then batch c.args.records.now.items kept fit new c.append.ensures.calls.runs.honest
    (adds_reads g.D.Disk.state middle c.append.new.self c.args.records.now.items c.append.ensures.calls.runs.honest c.append.ensures.breaks.shape c.append.result
    (c.append.ensures.becomes c.in_ok-make_room.ensures.breaks.stays) c.requires.entries))

pub returns-clause-keeps : goal.returns-clause-keeps
returns-clause-keeps g c =
    let journal = c.args.journal.now in
    let middle = c.make_room.new.journal in
    let after = c.append.new.self in
    let old = g.D.Disk.state journal.device in
    let mid = g.D.Disk.state middle.device in
    let new = g.D.Disk.state after.device in
    let register = c.args.register.now in
    let same = c.append.ensures.calls.runs.honest in
    let adds = c.append.ensures.becomes c.in_ok-make_room.ensures.breaks.stays in
    let picks = now_after mid new (Picks middle.is_in_second_half) (adds_half g.D.Disk.state middle after c.args.records.now.items same c.append.ensures.breaks.shape c.append.result adds) (g.met.D.Disk.counts_now after.device) in
    ok_five c.append.result _ _ _ _ _ _ (λ acknowledged listed used second stays plan batch kept fit guards honest_new.
    append_keeps plan middle.shape middle.is_in_second_half middle.used register mid
    (guards_then plan journal.shape middle.shape journal.is_in_second_half middle.is_in_second_half journal.used middle.used register old mid guards (c.in_ok-make_room.ensures.keeps plan guards))
    batch c.args.records.now.items kept fit new after.shape after.is_in_second_half after.used same c.append.ensures.breaks.shape acknowledged listed second picks used honest_new)
    (added_reads g.D.Disk.state middle after c.args.records.now.items same c.append.ensures.breaks.shape c.append.result adds c.requires.entries)
    (added_lists g.D.Disk.state middle after c.args.records.now.items same c.append.ensures.breaks.shape c.append.result adds) c.append.ensures.goes.used c.append.ensures.goes.second c.append.ensures.breaks.stays

pub returns-clause-armed : goal.returns-clause-armed
returns-clause-armed g c =
    answers_then c.append.result (g.D.Disk.state c.args.journal.now.device) (g.D.Disk.state c.make_room.new.journal.device) (g.D.Disk.state c.append.new.self.device)
    c.make_room.ensures.runs c.in_ok-make_room.ensures.armed.ok c.append.ensures.calls.armed

pub returns-clause-fails : goal.returns-clause-fails
returns-clause-fails g c =
    let journal = c.args.journal.now in
    let middle = c.make_room.new.journal in
    let after = c.append.new.self in
    let old = g.D.Disk.state journal.device in
    let mid = g.D.Disk.state middle.device in
    let new = g.D.Disk.state after.device in
    let register = c.args.register.now in
    let records = c.args.records.now.items in
    let room = c.in_ok-make_room.ensures in
    let count : c.len.result ≡ length records = c.len.ensures.value in
    let same = c.append.ensures.calls.runs.honest in
    let picks = now_after mid new (Picks middle.is_in_second_half)
    (adds_half g.D.Disk.state middle after records same c.append.ensures.breaks.shape c.append.result (c.append.ensures.becomes room.breaks.stays)) (g.met.D.Disk.counts_now after.device) in
    by_disk_alone c.append.result _ c.append.ensures.refuses.causes
    (λ is. absurd (omega (arith, (c.append.ensures.refuses.full.0 is).1, room.room, ap body_size count)))
    (λ is. cc (c.append.ensures.breaks.broken.0 is, room.breaks.stays))
    (λ is plan batch kept fit guards honest inert.
    let then = guards_then plan journal.shape middle.shape journal.is_in_second_half middle.is_in_second_half journal.used middle.used register old mid guards (room.keeps plan guards) in
    let honest_mid = c.make_room.ensures.runs.honest.1 honest in
    let inert_mid = c.make_room.ensures.runs.inert.1 inert in
    let honest_new = same.1 honest_mid in
    let keeps = then.keeps honest_mid in
    adding_fails plan journal.shape.half journal.is_in_second_half journal.used register batch old mid new c.len.result middle.shape.half middle.is_in_second_half middle.used
    (count ∙ ap length kept ∙ length-map batch EntryRecord) (ap (λ (s : Shape). s.half) c.make_room.ensures.breaks.shape) room.second room.used room.made.calls (disk_calls c.append.result mid new is c.append.ensures.calls.armed)
    (append_fails plan middle.shape middle.is_in_second_half middle.used register mid then batch records kept fit new honest_mid honest_new c.requires.entries picks (g.met.D.Disk.may_lose after.device)
    (c.append.ensures.fails is honest_mid inert_mid keeps.batches keeps.holds)))
