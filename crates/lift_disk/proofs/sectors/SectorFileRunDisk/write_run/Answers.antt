use Rattle.std.proofs.Common.{◌*◌, [], ◌∷◌, sym, ◌∙◌, ap, arith, ◌≡◌, rules}
use Rattle.lift_disk.specs.Trace.Access.{Write}
use Rattle.lift_disk.specs.FileCalls.FileCall.{WriteSectors}
use Rattle.lift_disk.specs.lemmas.History.{ok_items}
use Rattle.lift_disk.proofs.Synced.{stays_known}
use Rattle.lift_disk.proofs.Traces.{one_more}
use Rattle.lift_disk.proofs.OnFile.{at_sectors, err_items, file_goes_on, file_leaves, file_stores}
use Rattle.lift_disk.specs.Holding.{WritesRun}
use Rattle.lift_disk.specs.Runs.{Rests, joined}
use Rattle.lift_disk.specs.Traced.{file_of}
use Rattle.lift_disk.proofs.sectors.SectorFileRunDisk.write_run.Goals as goal

pub invariant_of-self-2 : goal.invariant_of-self-2
invariant_of-self-2 g c =
    let r = c.write_sectors in
    let d = c.args.self.now in
    let old = g.F.ListedFile.holds (file_of d.file) in
    let new = g.F.ListedFile.holds (file_of r.new.self) in
    let did : old.is_honest × (old.size ≡ d.sectors) → WritesRun c.args.sector c.args.run.now old new =
    λ honest. at_sectors old _ _ _ d.sectors (ok_items r.result c.is_err.ensures.value c.if-is_err.false r.ensures.held.made) c.offset_of.ensures c.requires.inside honest (c.requires.announced honest) in
    record {
      at_offsets = one_more d.trace.calls c.then-self.result.calls d.file.calls.calls r.new.self.calls.calls
          (Write c.from.result c.as_flattened.result.now) (WriteSectors c.offset_of.result c.args.run.now) d.at_offsets c.then-self.ensures
          (ok_items r.result c.is_err.ensures.value c.if-is_err.false r.ensures.traced.made.listed)
          (ap (λ n. WriteSectors n (joined c.args.run.now ∷ []) ∷ []) (c.offset_of.ensures ∙ ap (λ s. s * 512) (sym c.from.ensures)) ∙ ap (λ l. WriteSectors (c.from.result * 512) (l ∷ []) ∷ []) (sym c.as_flattened.ensures.value));
      steady = stays_known d.is_steady d.sectors old new r.ensures.held.same (λ honest sized steady. ((did (honest, sized)).steady steady).steady) d.steady;
    }

pub returns-then-is_err-clause-access : goal.returns-then-is_err-clause-access
returns-then-is_err-clause-access g c =
    let r = c.write_sectors in
    let d = c.args.self.now in
    let old = g.F.ListedFile.holds (file_of d.file) in
    let new = g.F.ListedFile.holds (file_of r.new.self) in
    let did : old.is_honest × (old.size ≡ d.sectors) → Rests old new =
    λ honest. at_sectors old _ _ _ d.sectors (err_items r.result c.is_err.ensures.value c.if-is_err.true r.ensures.held.failed) c.offset_of.ensures c.requires.inside honest (c.requires.announced honest) in
    record {
      goes_on = file_goes_on old new d.sectors _ _ _ _ _ _ _ _ c.next-self.ensures (omega (arith, (err_items r.result c.is_err.ensures.value c.if-is_err.true r.ensures.traced.made.failed))) r.ensures.held.same did;
      fault = search rules;
      armed = search rules;
      writes = search rules;
      recorded = search rules;
    }

pub returns-then-is_err-clause-leaves : goal.returns-then-is_err-clause-leaves
returns-then-is_err-clause-leaves g c =
    let r = c.write_sectors in
    let d = c.args.self.now in
    let old = g.F.ListedFile.holds (file_of d.file) in
    let new = g.F.ListedFile.holds (file_of r.new.self) in
    let did : old.is_honest × (old.size ≡ d.sectors) → Rests old new =
    λ honest. at_sectors old _ _ _ d.sectors (err_items r.result c.is_err.ensures.value c.if-is_err.true r.ensures.held.failed) c.offset_of.ensures c.requires.inside honest (c.requires.announced honest) in
    file_leaves old new d.sectors _ _ _ _ _ _ _ _ did

pub returns-clause-access : goal.returns-clause-access
returns-clause-access g c =
    let r = c.write_sectors in
    let d = c.args.self.now in
    let old = g.F.ListedFile.holds (file_of d.file) in
    let new = g.F.ListedFile.holds (file_of r.new.self) in
    let did : old.is_honest × (old.size ≡ d.sectors) → WritesRun c.args.sector c.args.run.now old new =
    λ honest. at_sectors old _ _ _ d.sectors (ok_items r.result c.is_err.ensures.value c.if-is_err.false r.ensures.held.made) c.offset_of.ensures c.requires.inside honest (c.requires.announced honest) in
    record {
      goes_on = file_goes_on old new d.sectors _ _ _ _ _ _ _ _ c.next-self.ensures (omega (arith, (ok_items r.result c.is_err.ensures.value c.if-is_err.false r.ensures.traced.made.unfailed))) r.ensures.held.same (λ honest. (did honest).rests);
      fault = search rules;
      armed = search rules;
      writes = search rules;
      recorded = search rules;
    }

pub returns-clause-leaves : goal.returns-clause-leaves
returns-clause-leaves g c =
    let r = c.write_sectors in
    let d = c.args.self.now in
    let old = g.F.ListedFile.holds (file_of d.file) in
    let new = g.F.ListedFile.holds (file_of r.new.self) in
    let did : old.is_honest × (old.size ≡ d.sectors) → WritesRun c.args.sector c.args.run.now old new =
    λ honest. at_sectors old _ _ _ d.sectors (ok_items r.result c.is_err.ensures.value c.if-is_err.false r.ensures.held.made) c.offset_of.ensures c.requires.inside honest (c.requires.announced honest) in
    file_leaves old new d.sectors _ _ _ _ _ _ _ _ (λ honest. (did honest).rests)

pub returns-clause-stores : goal.returns-clause-stores
returns-clause-stores g c =
    let r = c.write_sectors in
    let d = c.args.self.now in
    let old = g.F.ListedFile.holds (file_of d.file) in
    let new = g.F.ListedFile.holds (file_of r.new.self) in
    let did : old.is_honest × (old.size ≡ d.sectors) → WritesRun c.args.sector c.args.run.now old new =
    λ honest. at_sectors old _ _ _ d.sectors (ok_items r.result c.is_err.ensures.value c.if-is_err.false r.ensures.held.made) c.offset_of.ensures c.requires.inside honest (c.requires.announced honest) in
    file_stores old new d.sectors _ _ _ _ _ _ _ _ c.args.sector c.args.run.now did
