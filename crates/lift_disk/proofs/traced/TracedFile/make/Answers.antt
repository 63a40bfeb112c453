use Rattle.std.proofs.Common.{rules, [], ◌∷◌, ◌+◌, ◌*◌, ◌/◌, ◌++◌, inl}
use Rattle.lift_disk.specs.FileCalls.{FailsIn}
use Rattle.lift_disk.specs.FileCalls.FileCall.{Lock, Restrict, SetLength, SyncAll}
use Rattle.lift_disk.specs.Traced.{IsMaking, file_of, zero_writes}
use Rattle.lift_disk.proofs.Synced.{fails_after, fails_before, in_err, making_then, on_err, on_ok}
use Rattle.lift_disk.proofs.traced.TracedFile.make.Goals as goal

pub returns-in_err-fill_with_zeros-clause-failed : goal.returns-in_err-fill_with_zeros-clause-failed
returns-in_err-fill_with_zeros-clause-failed g c =
    let gives = g.F.ListedFile.gives in
    let fails = g.F.ListedFile.fails in
    let old = c.args.self.now in
    let sectors = c.args.sectors in
    let zeros = zero_writes sectors ((sectors + 127) / 128) in
    let locked : IsMaking gives (Lock ∷ []) old c.lock.new.self = search rules in
    let restricted : IsMaking gives (Restrict ∷ []) c.lock.new.self c.restrict.new.self = search rules in
    let emptied : IsMaking gives (SetLength 0 ∷ []) c.restrict.new.self c.set_length.new.self = search rules in
    let sized : IsMaking gives (SetLength (sectors * 512) ∷ []) c.set_length.new.self c.set_length-2.new.self = search rules in
    let first = making_then gives (Lock ∷ []) (Restrict ∷ SetLength 0 ∷ SetLength (sectors * 512) ∷ []) old c.lock.new.self c.set_length-2.new.self locked
    (making_then gives (Restrict ∷ []) (SetLength 0 ∷ SetLength (sectors * 512) ∷ []) c.lock.new.self c.restrict.new.self c.set_length-2.new.self restricted
    (making_then gives (SetLength 0 ∷ []) (SetLength (sectors * 512) ∷ []) c.restrict.new.self c.set_length.new.self c.set_length-2.new.self emptied sized)) in
    let failed : FailsIn gives fails zeros (file_of c.set_length-2.new.self) (file_of c.fill_with_zeros.new.self) = search rules in
    in_err c.from_residual-in_err-fill_with_zeros.result
    (fails_after gives fails (Lock ∷ Restrict ∷ SetLength 0 ∷ SetLength (sectors * 512) ∷ []) (zeros ++ SyncAll ∷ []) (file_of old) (file_of c.set_length-2.new.self) (file_of c.fill_with_zeros.new.self) first.led
    (fails_before gives fails zeros (SyncAll ∷ []) (file_of c.set_length-2.new.self) (file_of c.fill_with_zeros.new.self) failed))

pub returns-in_err-set_length-2-clause-failed : goal.returns-in_err-set_length-2-clause-failed
returns-in_err-set_length-2-clause-failed g c =
    let gives = g.F.ListedFile.gives in
    let fails = g.F.ListedFile.fails in
    let old = c.args.self.now in
    let sectors = c.args.sectors in
    let zeros = zero_writes sectors ((sectors + 127) / 128) in
    let locked : IsMaking gives (Lock ∷ []) old c.lock.new.self = search rules in
    let restricted : IsMaking gives (Restrict ∷ []) c.lock.new.self c.restrict.new.self = search rules in
    let emptied : IsMaking gives (SetLength 0 ∷ []) c.restrict.new.self c.set_length.new.self = search rules in
    let first = making_then gives (Lock ∷ []) (Restrict ∷ SetLength 0 ∷ []) old c.lock.new.self c.set_length.new.self locked
    (making_then gives (Restrict ∷ []) (SetLength 0 ∷ []) c.lock.new.self c.restrict.new.self c.set_length.new.self restricted emptied) in
    let failed : fails (file_of c.set_length.new.self) (SetLength (sectors * 512)) (file_of c.set_length-2.new.self) = search rules in
    in_err _
    (fails_after gives fails (Lock ∷ Restrict ∷ SetLength 0 ∷ []) (SetLength (sectors * 512) ∷ zeros ++ SyncAll ∷ []) (file_of old) (file_of c.set_length.new.self) (file_of c.set_length-2.new.self) first.led (inl failed))

pub returns-clause-making : goal.returns-clause-making
returns-clause-making g c =
    let gives = g.F.ListedFile.gives in
    let old = c.args.self.now in
    let sectors = c.args.sectors in
    let zeros = zero_writes sectors ((sectors + 127) / 128) in
    let locked : IsMaking gives (Lock ∷ []) old c.lock.new.self = search rules in
    let restricted : IsMaking gives (Restrict ∷ []) c.lock.new.self c.restrict.new.self = search rules in
    let emptied : IsMaking gives (SetLength 0 ∷ []) c.restrict.new.self c.set_length.new.self = search rules in
    let sized : IsMaking gives (SetLength (sectors * 512) ∷ []) c.set_length.new.self c.set_length-2.new.self = search rules in
    let filled : IsMaking gives zeros c.set_length-2.new.self c.fill_with_zeros.new.self = search rules in
    on_ok c.sync_all.result
    (λ safe. making_then gives (Lock ∷ []) (Restrict ∷ SetLength 0 ∷ SetLength (sectors * 512) ∷ zeros ++ SyncAll ∷ []) old c.lock.new.self c.sync_all.new.self locked
    (making_then gives (Restrict ∷ []) (SetLength 0 ∷ SetLength (sectors * 512) ∷ zeros ++ SyncAll ∷ []) c.lock.new.self c.restrict.new.self c.sync_all.new.self restricted
    (making_then gives (SetLength 0 ∷ []) (SetLength (sectors * 512) ∷ zeros ++ SyncAll ∷ []) c.restrict.new.self c.set_length.new.self c.sync_all.new.self emptied
    (making_then gives (SetLength (sectors * 512) ∷ []) (zeros ++ SyncAll ∷ []) c.set_length.new.self c.set_length-2.new.self c.sync_all.new.self sized
    (making_then gives zeros (SyncAll ∷ []) c.set_length-2.new.self c.fill_with_zeros.new.self c.sync_all.new.self filled safe)))))
    c.sync_all.ensures.making

pub returns-clause-failed : goal.returns-clause-failed
returns-clause-failed g c =
    let gives = g.F.ListedFile.gives in
    let fails = g.F.ListedFile.fails in
    let old = c.args.self.now in
    let sectors = c.args.sectors in
    let zeros = zero_writes sectors ((sectors + 127) / 128) in
    let locked : IsMaking gives (Lock ∷ []) old c.lock.new.self = search rules in
    let restricted : IsMaking gives (Restrict ∷ []) c.lock.new.self c.restrict.new.self = search rules in
    let emptied : IsMaking gives (SetLength 0 ∷ []) c.restrict.new.self c.set_length.new.self = search rules in
    let sized : IsMaking gives (SetLength (sectors * 512) ∷ []) c.set_length.new.self c.set_length-2.new.self = search rules in
    let filled : IsMaking gives zeros c.set_length-2.new.self c.fill_with_zeros.new.self = search rules in
    let first = making_then gives (Lock ∷ []) (Restrict ∷ SetLength 0 ∷ SetLength (sectors * 512) ∷ zeros) old c.lock.new.self c.fill_with_zeros.new.self locked
    (making_then gives (Restrict ∷ []) (SetLength 0 ∷ SetLength (sectors * 512) ∷ zeros) c.lock.new.self c.restrict.new.self c.fill_with_zeros.new.self restricted
    (making_then gives (SetLength 0 ∷ []) (SetLength (sectors * 512) ∷ zeros) c.restrict.new.self c.set_length.new.self c.fill_with_zeros.new.self emptied
    (making_then gives (SetLength (sectors * 512) ∷ []) zeros c.set_length.new.self c.set_length-2.new.self c.fill_with_zeros.new.self sized filled))) in
    on_err c.sync_all.result
    (λ failed. fails_after gives fails (Lock ∷ Restrict ∷ SetLength 0 ∷ SetLength (sectors * 512) ∷ zeros) (SyncAll ∷ []) (file_of old) (file_of c.fill_with_zeros.new.self) (file_of c.sync_all.new.self) first.led (inl failed))
    c.sync_all.ensures.failed
