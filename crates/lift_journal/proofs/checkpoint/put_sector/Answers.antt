use Rattle.std.proofs.Common.{[], ◌∷◌, arith}
use Rattle.lift_disk.specs.Trace.Access.{Write, Sync}
use Rattle.lift_journal.proofs.Performing.{performs_call, performs_then, err_performs}
use Rattle.lift_journal.proofs.checkpoint.put_sector.Goals as goal

pub returns-in_err-write-clause-performs : goal.returns-in_err-write-clause-performs
returns-in_err-write-clause-performs g c =
    let old = g.D.Disk.state c.args.disk.now in
    let new = g.D.Disk.state c.write.new.self in
    err_performs _ c.from_residual.result old new (Write c.args.sector c.args.bytes.now ∷ []) (Sync ∷ []) 1 2 1 1 c.from_residual.ensures.1
    (performs_call _ (Write c.args.sector c.args.bytes.now) old new c.in_err-write.ensures.access)
    (omega arith) (omega arith)

pub returns-clause-performs : goal.returns-clause-performs
returns-clause-performs g c =
    let old = g.D.Disk.state c.args.disk.now in
    let mid = g.D.Disk.state c.write.new.self in
    let new = g.D.Disk.state c.sync.new.self in
    performs_then c.sync.result old mid new (Write c.args.sector c.args.bytes.now ∷ []) (Sync ∷ []) 1 1 1 0
    (performs_call _ (Write c.args.sector c.args.bytes.now) old mid c.in_ok-write.ensures.access)
    (performs_call c.sync.result Sync mid new c.sync.ensures.access)
