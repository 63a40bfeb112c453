use Rattle.std.proofs.Common.{arith, ◌*◌, [], ◌∷◌, sym, ◌∙◌, ap, ◌≡◌, rules}
use Rattle.lift_disk.specs.Trace.Access.{Read}
use Rattle.lift_disk.specs.FileCalls.FileCall.{ReadSectors}
use Rattle.lift_disk.specs.lemmas.History.{ok_items}
use Rattle.lift_disk.proofs.Synced.{stays_known}
use Rattle.lift_disk.proofs.Traces.{given_run, one_more}
use Rattle.lift_disk.proofs.OnFile.{at_sectors, file_goes_on, file_keeps, file_leaves}
use Rattle.lift_disk.specs.Holding.{ReadsRun}
use Rattle.lift_disk.specs.Traced.{file_of}
use Rattle.lift_disk.proofs.sectors.SectorFileRunDisk.read_run.Goals as goal

pub invariant_of-self-2 : goal.invariant_of-self-2
invariant_of-self-2 g c =
    let r = c.read_sectors in
    let d = c.args.self.now in
    let old = g.F.ListedFile.holds (file_of d.file) in
    let new = g.F.ListedFile.holds (file_of r.new.self) in
    let did : old.is_honest × (old.size ≡ d.sectors) → ReadsRun c.args.sector r.new.run old new =
    at_sectors old _ _ _ d.sectors (ok_items r.result c.is_err.ensures.value c.if-is_err.false r.ensures.held.made) c.offset_of.ensures (omega (arith, c.requires, r.auto.run)) in
    record {
      at_offsets = one_more d.trace.calls c.then-self.result.calls d.file.calls.calls r.new.self.calls.calls
          (Read c.from.result) (ReadSectors c.offset_of.result r.new.run) d.at_offsets c.then-self.ensures
          (ok_items r.result c.is_err.ensures.value c.if-is_err.false r.ensures.traced.made.listed)
          (ap (λ n. ReadSectors n [] ∷ []) (c.offset_of.ensures ∙ ap (λ s. s * 512) (sym c.from.ensures)));
      steady = stays_known d.is_steady d.sectors old new r.ensures.held.same (λ honest sized steady. ((did (honest, sized)).keeps.steady honest steady).steady) d.steady;
    }

pub returns-clause-access : goal.returns-clause-access
returns-clause-access g c =
    let r = c.read_sectors in
    let d = c.args.self.now in
    let old = g.F.ListedFile.holds (file_of d.file) in
    let new = g.F.ListedFile.holds (file_of r.new.self) in
    let did : old.is_honest × (old.size ≡ d.sectors) → ReadsRun c.args.sector r.new.run old new =
    at_sectors old _ _ _ d.sectors (ok_items r.result c.is_err.ensures.value c.if-is_err.false r.ensures.held.made) c.offset_of.ensures (omega (arith, c.requires, r.auto.run)) in
    record {
      goes_on = file_goes_on old new d.sectors _ _ _ _ _ _ _ _ c.next-self.ensures (omega (arith, (ok_items r.result c.is_err.ensures.value c.if-is_err.false r.ensures.traced.made.unfailed))) r.ensures.held.same (λ honest. (did honest).rests);
      fault = search rules;
      armed = search rules;
      writes = search rules;
      recorded = search rules;
    }

pub returns-clause-leaves : goal.returns-clause-leaves
returns-clause-leaves g c =
    let r = c.read_sectors in
    let d = c.args.self.now in
    let old = g.F.ListedFile.holds (file_of d.file) in
    let new = g.F.ListedFile.holds (file_of r.new.self) in
    let did : old.is_honest × (old.size ≡ d.sectors) → ReadsRun c.args.sector r.new.run old new =
    at_sectors old _ _ _ d.sectors (ok_items r.result c.is_err.ensures.value c.if-is_err.false r.ensures.held.made) c.offset_of.ensures (omega (arith, c.requires, r.auto.run)) in
    file_leaves old new d.sectors _ _ _ _ _ _ _ _ (λ honest. (did honest).rests)

pub returns-clause-keeps : goal.returns-clause-keeps
returns-clause-keeps g c =
    let r = c.read_sectors in
    let d = c.args.self.now in
    let old = g.F.ListedFile.holds (file_of d.file) in
    let new = g.F.ListedFile.holds (file_of r.new.self) in
    let did : old.is_honest × (old.size ≡ d.sectors) → ReadsRun c.args.sector r.new.run old new =
    at_sectors old _ _ _ d.sectors (ok_items r.result c.is_err.ensures.value c.if-is_err.false r.ensures.held.made) c.offset_of.ensures (omega (arith, c.requires, r.auto.run)) in
    file_keeps old new d.sectors _ _ _ _ _ _ _ _ (λ honest. (did honest).keeps)

pub returns-clause-gives : goal.returns-clause-gives
returns-clause-gives g c honest =
    let r = c.read_sectors in
    let d = c.args.self.now in
    let old = g.F.ListedFile.holds (file_of d.file) in
    let new = g.F.ListedFile.holds (file_of r.new.self) in
    let did : ReadsRun c.args.sector r.new.run old new =
    at_sectors old _ _ _ d.sectors (ok_items r.result c.is_err.ensures.value c.if-is_err.false r.ensures.held.made) c.offset_of.ensures (omega (arith, c.requires, r.auto.run)) honest in
    did.gives

pub returns-clause-given : goal.returns-clause-given
returns-clause-given g c =
    let r = c.read_sectors in
    given_run c.args.self.now.file.calls.calls r.new.self.calls.calls c.offset_of.result c.args.sector r.new.run c.offset_of.ensures
    (ok_items r.result c.is_err.ensures.value c.if-is_err.false r.ensures.traced.made.listed)
