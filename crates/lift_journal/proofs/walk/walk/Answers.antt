use Rattle.std.proofs.Common.{◌≡◌, ◌≤◌, ◌+◌, ◌-◌, ◌++◌, ◌∙◌, List, [], ◌∷◌, take, drop, length, refl, ap, sym, subst, arith}
use Rattle.lift_disk.specs.Disk.{Image}
use Rattle.lift_journal.specs.Walk.{IsDamagedAt, IsBatchAt}
use Rattle.lift_journal.specs.declared.walk.Front.{Front}
use Rattle.lift_journal.specs.declared.reads.AtGate.TheVariants.{Closed, Batch, Damaged}
use Rattle.lift_journal.proofs.Visiting.{more_shown}
use Rattle.lift_journal.specs.Visits.{TakesAll}
use Rattle.lift_journal.specs.Seen.{batch_of}
use Rattle.lift_journal.specs.lemmas.Unique.{chain_unique}
use Rattle.lift_journal.proofs.Walks.{walk_begins, goes_on, reaches_end, ends, ends_early, none_here, may_not, seen_at}
use Rattle.lift_journal.specs.lemmas.Looking.{reads_then, well_then, failed_then}
use Rattle.lift_journal.proofs.Seeing.{bodies_few}
use Rattle.lift_journal.specs.Layout.{body_size, Batch as BatchValue}
use Rattle.lift_journal.specs.Calls.{reads_from}
use Rattle.lift_journal.proofs.Following.{rows_then, rows_same}
use Rattle.lift_journal.proofs.walk.walk.Goals as goal

pub loop-front-init : goal.loop-front-init
loop-front-init g c =
    walk_begins g.V.Visitor.takes c.args.visitor.now (g.D.Disk.state c.args.disk.now) c.args.start c.args.end c.at-front.result (g.met.D.Disk.only_now c.args.disk.now) c.requires.first c.requires.below c.at-front.ensures

pub loop-front-preserved : goal.loop-front-preserved
loop-front-preserved g c =
    let old = g.D.Disk.state c.args.disk.now in
    let mid = g.D.Disk.state c.loop-front.disk in
    let new = g.D.Disk.state c.look.new.disk in
    let inv = c.loop-front.invariant in
    let front = c.loop-front.front in
    let stored = c.look.new.stored in
    let fits = c.in-Ok-Batch.ensures.fits c.in-Ok-Batch.field-0-is in
    let is = c.pass.ensures.passed c.if-not-pass.false in
    let gate = ap (λ (f : Front). f.gate) is in
    let number = ap (λ (f : Front). f.number) is in
    let passes = c.pass.ensures.may.0 c.if-not-pass.false in
    let next = c.pass.new.self in
    record {
      low = omega (arith, inv.low, gate);
      below = omega (arith, gate, fits.below);
      some = omega (arith, number);
      few = omega (arith, inv.few, gate, number);
      only = reads_then old mid new inv.only c.look.ensures.looks.only;
      well = well_then old mid new inv.only inv.well c.in-Ok-Batch.ensures.looks.ok;
      trace =
          let more = 1 + body_size (length stored.records.items) in
          let place : (front.gate - c.args.start) + more ≡ (front.gate + more) - c.args.start = omega (arith, inv.low) in
          subst (λ (f : Front). new.trace ≡ old.trace ++ reads_from c.args.start (f.gate - c.args.start)) (sym is)
          (rows_then old mid new c.args.start (front.gate - c.args.start) more front.gate (omega (arith, inv.low)) inv.trace (c.in-Ok-Batch.ensures.whole c.in-Ok-Batch.field-0-is)
          ∙ ap (λ n. old.trace ++ reads_from c.args.start n) place);
      batches = inv.batches ++ batch_of stored ∷ [];
      shown = more_shown g.V.Visitor.takes c.args.visitor.now c.loop-front.visitor c.visit.new.self c.args.start front next inv.batches stored inv.shown (fits.some, fits.few) passes c.visit.ensures is;
      at = λ honest synced.
          let before = inv.well.kept honest synced in
          let shows = seen_at old.image mid.image front.gate c.args.end front.number c.in-Ok-Batch.field-0 Batch c.look.new.stored before.same c.in-Ok-Batch.field-0-is
          (c.in-Ok-Batch.ensures.seen (inv.only.runs.honest.1 honest) before.synced) in
          let whole : c.args.end ≤ length old.image = omega (arith, c.requires.inside, g.met.D.Disk.whole c.args.disk.now honest) in
          goes_on old.image c.args.start c.args.end front inv.batches (inv.at honest synced) inv.below whole next stored shows.0 shows.1 passes is;
    }

pub returns-in-Err-clause-examines : goal.returns-in-Err-clause-examines
returns-in-Err-clause-examines g c =
    let old = g.D.Disk.state c.args.disk.now in
    let mid = g.D.Disk.state c.loop-front.disk in
    let new = g.D.Disk.state c.look.new.disk in
    let inv = c.loop-front.invariant in
    record {
      only = reads_then old mid new inv.only c.look.ensures.looks.only;
      ok = tt;
      err = failed_then old mid new inv.only inv.well c.in-Err.ensures.looks.err;
    }

pub returns-in-Ok-Damaged-clause-examines : goal.returns-in-Ok-Damaged-clause-examines
returns-in-Ok-Damaged-clause-examines g c =
    let old = g.D.Disk.state c.args.disk.now in
    let mid = g.D.Disk.state c.loop-front.disk in
    let new = g.D.Disk.state c.look.new.disk in
    let inv = c.loop-front.invariant in
    record {
      only = reads_then old mid new inv.only c.look.ensures.looks.only;
      ok = tt;
      err = well_then old mid new inv.only inv.well c.in-Ok-Damaged.ensures.looks.ok;
    }

pub returns-in-Ok-Damaged-clause-damaged : goal.returns-in-Ok-Damaged-clause-damaged
returns-in-Ok-Damaged-clause-damaged g c s is honest synced =
    let old = g.D.Disk.state c.args.disk.now in
    let mid = g.D.Disk.state c.loop-front.disk in
    let inv = c.loop-front.invariant in
    let front = c.loop-front.front in
    let before = inv.well.kept honest synced in
    let shows = seen_at old.image mid.image front.gate c.args.end front.number c.in-Ok-Damaged.field-0 Damaged c.look.new.stored before.same c.in-Ok-Damaged.field-0-is
    (c.in-Ok-Damaged.ensures.seen (inv.only.runs.honest.1 honest) before.synced) in
    let whole : c.args.end ≤ length old.image = omega (arith, c.requires.inside, g.met.D.Disk.whole c.args.disk.now honest) in
    let here : front.gate ≡ s = cc is in
    subst (λ k. IsDamagedAt old.image c.args.start c.args.end k) here
    (none_here old.image c.args.start c.args.end front inv.batches (inv.at honest synced) inv.below whole shows.0 shows.1)

pub returns-in-Ok-Closed-clause-examines : goal.returns-in-Ok-Closed-clause-examines
returns-in-Ok-Closed-clause-examines g c =
    let old = g.D.Disk.state c.args.disk.now in
    let mid = g.D.Disk.state c.loop-front.disk in
    let new = g.D.Disk.state c.look.new.disk in
    let inv = c.loop-front.invariant in
    record {
      only = reads_then old mid new inv.only c.look.ensures.looks.only;
      ok = tt;
      err = well_then old mid new inv.only inv.well c.in-Ok-Closed.ensures.looks.ok;
    }

pub returns-in-Ok-Closed-clause-damaged : goal.returns-in-Ok-Closed-clause-damaged
returns-in-Ok-Closed-clause-damaged g c s is honest synced =
    let old = g.D.Disk.state c.args.disk.now in
    let mid = g.D.Disk.state c.loop-front.disk in
    let inv = c.loop-front.invariant in
    let front = c.loop-front.front in
    let before = inv.well.kept honest synced in
    let shows = seen_at old.image mid.image front.gate c.args.end front.number c.in-Ok-Closed.field-0 Closed c.look.new.stored before.same c.in-Ok-Closed.field-0-is
    (c.in-Ok-Closed.ensures.seen (inv.only.runs.honest.1 honest) before.synced) in
    let whole : c.args.end ≤ length old.image = omega (arith, c.requires.inside, g.met.D.Disk.whole c.args.disk.now honest) in
    let here : front.gate ≡ s = cc is in
    subst (λ k. IsDamagedAt old.image c.args.start c.args.end k) here
    (ends_early old.image c.args.start c.args.end front inv.batches (inv.at honest synced) inv.below whole shows (λ may. absurd (cc (c.may_end.ensures.1 may, c.if-may_end.false))))

pub returns-then-may_end-clause-examines : goal.returns-then-may_end-clause-examines
returns-then-may_end-clause-examines g c =
    let old = g.D.Disk.state c.args.disk.now in
    let mid = g.D.Disk.state c.loop-front.disk in
    let new = g.D.Disk.state c.look.new.disk in
    let inv = c.loop-front.invariant in
    record {
      only = reads_then old mid new inv.only c.look.ensures.looks.only;
      ok = well_then old mid new inv.only inv.well c.in-Ok-Closed.ensures.looks.ok;
      err = tt;
    }

pub returns-then-may_end-clause-found : goal.returns-then-may_end-clause-found
returns-then-may_end-clause-found g c honest synced =
    let old = g.D.Disk.state c.args.disk.now in
    let mid = g.D.Disk.state c.loop-front.disk in
    let inv = c.loop-front.invariant in
    let front = c.loop-front.front in
    let before = inv.well.kept honest synced in
    let shows = seen_at old.image mid.image front.gate c.args.end front.number c.in-Ok-Closed.field-0 Closed c.look.new.stored before.same c.in-Ok-Closed.field-0-is
    (c.in-Ok-Closed.ensures.seen (inv.only.runs.honest.1 honest) before.synced) in
    let whole : c.args.end ≤ length old.image = omega (arith, c.requires.inside, g.met.D.Disk.whole c.args.disk.now honest) in
    ends old.image c.args.start c.args.end front inv.batches (inv.at honest synced) inv.below whole shows (c.may_end.ensures.0 c.if-may_end.true)

pub returns-then-not-pass-clause-examines : goal.returns-then-not-pass-clause-examines
returns-then-not-pass-clause-examines g c =
    let old = g.D.Disk.state c.args.disk.now in
    let mid = g.D.Disk.state c.loop-front.disk in
    let new = g.D.Disk.state c.look.new.disk in
    let inv = c.loop-front.invariant in
    record {
      only = reads_then old mid new inv.only c.look.ensures.looks.only;
      ok = tt;
      err = well_then old mid new inv.only inv.well c.in-Ok-Batch.ensures.looks.ok;
    }

pub returns-then-not-pass-clause-damaged : goal.returns-then-not-pass-clause-damaged
returns-then-not-pass-clause-damaged g c s is honest synced =
    let old = g.D.Disk.state c.args.disk.now in
    let mid = g.D.Disk.state c.loop-front.disk in
    let inv = c.loop-front.invariant in
    let front = c.loop-front.front in
    let stored = c.look.new.stored in
    let before = inv.well.kept honest synced in
    let shows = seen_at old.image mid.image front.gate c.args.end front.number c.in-Ok-Batch.field-0 Batch c.look.new.stored before.same c.in-Ok-Batch.field-0-is
    (c.in-Ok-Batch.ensures.seen (inv.only.runs.honest.1 honest) before.synced) in
    let whole : c.args.end ≤ length old.image = omega (arith, c.requires.inside, g.met.D.Disk.whole c.args.disk.now honest) in
    let here : front.gate ≡ s = cc is in
    subst (λ k. IsDamagedAt old.image c.args.start c.args.end k) here
    (may_not old.image c.args.start c.args.end front inv.batches (inv.at honest synced) inv.below whole stored shows.0 shows.1 (λ passes. absurd (cc (c.pass.ensures.may.1 passes, c.if-not-pass.true))))

pub returns-in-Err-clause-behind : goal.returns-in-Err-clause-behind
returns-in-Err-clause-behind g c =
    let inv = c.loop-front.invariant in
    let front = c.loop-front.front in
    let row = c.in-Err.ensures.unread in
    record {
      gate = front.gate;
      more = row.0;
      low = inv.low;
      few = row.1;
      inside = row.2;
      made = rows_then (g.D.Disk.state c.args.disk.now) (g.D.Disk.state c.loop-front.disk) (g.D.Disk.state c.look.new.disk) c.args.start (front.gate - c.args.start) row.0 front.gate
          (omega (arith, inv.low)) inv.trace row.3;
      reached = λ known. (inv.batches, (inv.at known.0 known.1).reached);
    }

pub returns-in-Ok-Damaged-clause-behind : goal.returns-in-Ok-Damaged-clause-behind
returns-in-Ok-Damaged-clause-behind g c =
    let inv = c.loop-front.invariant in
    let front = c.loop-front.front in
    let row = c.in-Ok-Damaged.ensures.damaged c.in-Ok-Damaged.field-0-is in
    record {
      more = row.0;
      low = inv.low;
      few = row.1;
      inside = row.2;
      made = rows_then (g.D.Disk.state c.args.disk.now) (g.D.Disk.state c.loop-front.disk) (g.D.Disk.state c.look.new.disk) c.args.start (front.gate - c.args.start) (1 + row.0) front.gate
          (omega (arith, inv.low)) inv.trace row.3;
      damaged = λ known. returns-in-Ok-Damaged-clause-damaged g c front.gate refl known.0 known.1;
    }

pub returns-in-Ok-Closed-clause-behind : goal.returns-in-Ok-Closed-clause-behind
returns-in-Ok-Closed-clause-behind g c =
    let inv = c.loop-front.invariant in
    let front = c.loop-front.front in
    record {
      more = 0;
      low = inv.low;
      few = omega arith;
      inside = omega (arith, inv.below);
      made = rows_then (g.D.Disk.state c.args.disk.now) (g.D.Disk.state c.loop-front.disk) (g.D.Disk.state c.look.new.disk) c.args.start (front.gate - c.args.start) 1 front.gate
          (omega (arith, inv.low)) inv.trace (c.in-Ok-Closed.ensures.closed c.in-Ok-Closed.field-0-is);
      damaged = λ known. returns-in-Ok-Closed-clause-damaged g c front.gate refl known.0 known.1;
    }

pub returns-then-not-pass-clause-behind : goal.returns-then-not-pass-clause-behind
returns-then-not-pass-clause-behind g c =
    let inv = c.loop-front.invariant in
    let front = c.loop-front.front in
    let stored = c.look.new.stored in
    let fits = c.in-Ok-Batch.ensures.fits c.in-Ok-Batch.field-0-is in
    let few = bodies_few (length stored.records.items) in
    record {
      more = body_size (length stored.records.items);
      low = inv.low;
      few = omega (arith, few);
      inside = omega (arith, fits.below);
      made = rows_then (g.D.Disk.state c.args.disk.now) (g.D.Disk.state c.loop-front.disk) (g.D.Disk.state c.look.new.disk) c.args.start (front.gate - c.args.start) (1 + body_size (length stored.records.items)) front.gate
          (omega (arith, inv.low)) inv.trace (c.in-Ok-Batch.ensures.whole c.in-Ok-Batch.field-0-is);
      damaged = λ known. returns-then-not-pass-clause-damaged g c front.gate refl known.0 known.1;
    }

pub returns-then-may_end-clause-whole : goal.returns-then-may_end-clause-whole
returns-then-may_end-clause-whole g c =
    let inv = c.loop-front.invariant in
    rows_then (g.D.Disk.state c.args.disk.now) (g.D.Disk.state c.loop-front.disk) (g.D.Disk.state c.look.new.disk) c.args.start (c.loop-front.front.gate - c.args.start) 1 c.loop-front.front.gate
    (omega (arith, inv.low)) inv.trace (c.in-Ok-Closed.ensures.closed c.in-Ok-Closed.field-0-is)

pub returns-then-may_end-clause-shown : goal.returns-then-may_end-clause-shown
returns-then-may_end-clause-shown g c honest synced batches chain =
    let old = g.D.Disk.state c.args.disk.now in
    let mid = g.D.Disk.state c.loop-front.disk in
    let inv = c.loop-front.invariant in
    let front = c.loop-front.front in
    let before = inv.well.kept honest synced in
    let shows = seen_at old.image mid.image front.gate c.args.end front.number c.in-Ok-Closed.field-0 Closed c.look.new.stored before.same c.in-Ok-Closed.field-0-is
    (c.in-Ok-Closed.ensures.seen (inv.only.runs.honest.1 honest) before.synced) in
    let whole : c.args.end ≤ length old.image = omega (arith, c.requires.inside, g.met.D.Disk.whole c.args.disk.now honest) in
    let found = reaches_end old.image c.args.start c.args.end front.gate inv.batches (inv.at honest synced).reached inv.below whole shows in
    let same = chain_unique inv.batches batches 1 (take (c.args.end - c.args.start) (drop c.args.start old.image)) found chain in
    subst (λ (bs : List BatchValue). TakesAll g.V.Visitor.takes c.args.visitor.now bs c.loop-front.visitor) same inv.shown.taken

pub returns-in-Err-clause-shown_before : goal.returns-in-Err-clause-shown_before
returns-in-Err-clause-shown_before g c honest synced =
    let old = g.D.Disk.state c.args.disk.now in
    let mid = g.D.Disk.state c.loop-front.disk in
    let new = g.D.Disk.state c.look.new.disk in
    let inv = c.loop-front.invariant in
    let front = c.loop-front.front in
    let row = c.in-Err.ensures.unread in
    let at = inv.at honest synced in
    let kept = inv.well.kept honest synced in
    record {
      gate = front.gate;
      more = row.0;
      batches = inv.batches;
      reached = at.reached;
      made = rows_then old mid new c.args.start (front.gate - c.args.start) row.0 front.gate (omega (arith, inv.low)) inv.trace row.3;
      unfinished = λ batch there.
          let here = subst (λ n. IsBatchAt old.image front.gate c.args.end n batch) (sym at.counts) there in
          let few = c.in-Err.ensures.unfinished (inv.only.runs.honest.1 honest) kept.synced batch (subst (λ (l : Image). IsBatchAt l front.gate c.args.end front.number batch) (sym kept.same) here) in
          omega (arith, few.1, rows_same mid.trace front.gate row.0 few.0 (sym row.3 ∙ few.3));
      taken = inv.shown.taken;
    }
