use Rattle.std.proofs.Common.{◌≡◌, ◌+◌, ◌-◌, ◌++◌, sym, subst, ap, ◌∙◌, refl, Result, Ok, Err}
use Rattle.std.specs.Prelude.{IfOk}
use Rattle.lift_base.specs.declared.history.Shape.{Shape}
use Rattle.lift_disk.specs.Disk.{DiskState, IsSynced, Image}
use Rattle.lift_journal.specs.declared.fault.JournalFault.{JournalFault}
use Rattle.lift_journal.specs.ChainStep.{IsOfChain}
use Rattle.lift_journal.specs.Layout.{Holds, IsStamped}
use Rattle.lift_journal.specs.declared.place.Place.{Place}
use Rattle.lift_journal.specs.Calls.{reads_from}
use Rattle.lift_journal.specs.Found.{FindsPlace}
use Rattle.lift_journal.specs.Journal.{HasNextPlace, StandsAt}
use Rattle.lift_journal.specs.Steps.{ReadsOnly, ReadsWell}
use Rattle.lift_journal.specs.lemmas.Looking.{reads_then, well_then, examines_then, cause_then, if_err_weaker, if_err_both, open_ok}
use Rattle.lift_journal.proofs.Refusing.{refused_stamp}
use Rattle.std.proofs.Common.{[], ◌∷◌, arith}
use Rattle.lift_disk.specs.Trace.Access.{Read, Sync}
use Rattle.lift_journal.specs.RefusedOpening.{RefusedAfter}
use Rattle.lift_journal.proofs.Following.{all_then, if_ok_weaker}
use Rattle.lift_journal.proofs.Ending.{image_stays, stamp_after, half_after}
use Rattle.lift_journal.proofs.Visiting.{taken_none}
use Rattle.lift_journal.proofs.Showing.{stamp_shown, half_shown}
use Rattle.lift_journal.proofs.place.find_place.Goals as goal

-- what the reading of a half has found is what the opening has found
found : (r : Result Place JournalFault) (old mid new : DiskState) (shape : Shape) → IfOk r (λ at. HasNextPlace new.size at.shape at.start at.gate at.number)
    → IfOk r (λ at. mid.is_honest → IsSynced mid → IsStamped shape mid.image → StandsAt at.shape at.start at.gate at.number new)
    → IfOk r (λ at. new.trace ≡ mid.trace ++ Read 0 ∷ reads_from at.start (at.gate - at.start + 1)) → (old.is_honest → mid.is_honest × IsSynced mid × IsStamped shape mid.image)
    → mid.trace ≡ old.trace ++ Sync ∷ Read 1 ∷ [] → IfOk r (λ at. FindsPlace at old new)
found (Ok at) old mid new shape place stands read known traced = record {
  place = place;
  stands = λ honest. (let is = known honest in stands is.0 is.1 is.2);
  calls = all_then old mid new (Sync ∷ Read 1 ∷ []) (Read 0 ∷ reads_from at.start (at.gate - at.start + 1)) traced read;
}
found (Err fault) old mid new shape place stands read known traced = tt

pub returns-in-Err-clause-examines : goal.returns-in-Err-clause-examines
returns-in-Err-clause-examines g c =
    let old = g.D.Disk.state c.args.disk.now in
    let mid = g.D.Disk.state c.sync_device.new.disk in
    let new = g.D.Disk.state c.read_shape.new.disk in
    let well : ReadsWell old mid = open_ok c.sync_device.result (ReadsWell old mid) (sym c.is_err.ensures.value ∙ c.if-is_err.false) c.sync_device.ensures.looks.ok in
    record {
      only = reads_then old mid new c.sync_device.ensures.looks.only c.read_shape.ensures.examines.only;
      ok = tt;
      err = cause_then c.in-Err.fault old mid new c.sync_device.ensures.looks.only well c.in-Err.ensures.examines.err;
    }

pub returns-clause-examines : goal.returns-clause-examines
returns-clause-examines g c =
    let old = g.D.Disk.state c.args.disk.now in
    let mid = g.D.Disk.state c.sync_device.new.disk in
    let read = g.D.Disk.state c.read_shape.new.disk in
    let new = g.D.Disk.state c.place_of.new.disk in
    let well : ReadsWell old mid = open_ok c.sync_device.result (ReadsWell old mid) (sym c.is_err.ensures.value ∙ c.if-is_err.false) c.sync_device.ensures.looks.ok in
    let only : ReadsOnly old read = reads_then old mid read c.sync_device.ensures.looks.only c.read_shape.ensures.examines.only in
    let both : ReadsWell old read = well_then old mid read c.sync_device.ensures.looks.only well c.in-Ok.ensures.examines.ok in
    examines_then c.place_of.result old read new only both c.place_of.ensures.examines

pub returns-clause-finds : goal.returns-clause-finds
returns-clause-finds g c =
    let old = g.D.Disk.state c.args.disk.now in
    let mid = g.D.Disk.state c.sync_device.new.disk in
    let read = g.D.Disk.state c.read_shape.new.disk in
    let new = g.D.Disk.state c.place_of.new.disk in
    let first = c.sync_device.ensures.looks.only in
    let synced = open_ok c.sync_device.result (mid.trace ≡ old.trace ++ Sync ∷ []) (sym c.is_err.ensures.value ∙ c.if-is_err.false) c.sync_device.ensures.recorded.ok in
    let safe : old.is_honest → IsSynced mid = open_ok c.sync_device.result (old.is_honest → IsSynced mid) (sym c.is_err.ensures.value ∙ c.if-is_err.false) c.sync_device.ensures.synced in
    found c.place_of.result old read new c.in-Ok.shape c.place_of.ensures.place c.place_of.ensures.stands c.place_of.ensures.read
    (λ honest. (let honest_mid = first.runs.honest.1 honest in
    let kept = c.in-Ok.ensures.examines.ok.kept honest_mid (safe honest) in
    (c.read_shape.ensures.examines.only.runs.honest.1 honest_mid, kept.synced, subst (λ (l : Image). IsStamped c.in-Ok.shape l) (sym kept.same) (c.in-Ok.ensures.stamped.2 honest_mid (safe honest)))))
    (all_then old mid read (Sync ∷ []) (Read 1 ∷ []) synced c.in-Ok.ensures.read)

pub returns-in-Err-clause-refused : goal.returns-in-Err-clause-refused
returns-in-Err-clause-refused g c =
    let old = g.D.Disk.state c.args.disk.now in
    let mid = g.D.Disk.state c.sync_device.new.disk in
    let well : ReadsWell old mid = open_ok c.sync_device.result (ReadsWell old mid) (sym c.is_err.ensures.value ∙ c.if-is_err.false) c.sync_device.ensures.looks.ok in
    let synced : old.is_honest → IsSynced mid = open_ok c.sync_device.result (old.is_honest → IsSynced mid) (sym c.is_err.ensures.value ∙ c.if-is_err.false) c.sync_device.ensures.synced in
    refused_stamp c.in-Err.fault old mid (g.D.Disk.state c.read_shape.new.disk) c.sync_device.ensures.looks.only well.failures synced c.in-Err.ensures.examines.err c.in-Err.ensures.causes
    (λ same. c.in-Err.ensures.not_formatted (ap (λ (f : JournalFault). Err f) same))

pub returns-in-Err-clause-behind : goal.returns-in-Err-clause-behind
returns-in-Err-clause-behind g c =
    let old = g.D.Disk.state c.args.disk.now in
    let mid = g.D.Disk.state c.sync_device.new.disk in
    let new = g.D.Disk.state c.read_shape.new.disk in
    let synced = open_ok c.sync_device.result (mid.trace ≡ old.trace ++ Sync ∷ []) (sym c.is_err.ensures.value ∙ c.if-is_err.false) c.sync_device.ensures.recorded.ok in
    stamp_after c.in-Err.fault old mid new synced c.sync_device.ensures.looks.only.runs.size c.in-Err.ensures.behind

pub returns-clause-behind : goal.returns-clause-behind
returns-clause-behind g c =
    let old = g.D.Disk.state c.args.disk.now in
    let mid = g.D.Disk.state c.sync_device.new.disk in
    let read = g.D.Disk.state c.read_shape.new.disk in
    let new = g.D.Disk.state c.place_of.new.disk in
    let first = c.sync_device.ensures.looks.only in
    let second = c.read_shape.ensures.examines.only in
    let synced = open_ok c.sync_device.result (mid.trace ≡ old.trace ++ Sync ∷ []) (sym c.is_err.ensures.value ∙ c.if-is_err.false) c.sync_device.ensures.recorded.ok in
    let safe : old.is_honest → IsSynced mid = open_ok c.sync_device.result (old.is_honest → IsSynced mid) (sym c.is_err.ensures.value ∙ c.if-is_err.false) c.sync_device.ensures.synced in
    let traced : read.trace ≡ old.trace ++ Sync ∷ Read 1 ∷ [] = all_then old mid read (Sync ∷ []) (Read 1 ∷ []) synced c.in-Ok.ensures.read in
    if_err_weaker c.place_of.result _ (λ fault. RefusedAfter fault old new)
    (λ fault _ behind. half_after fault old read new traced (second.runs.size ∙ first.runs.size) c.place_of.ensures.examines.only
    (λ honest. (let honest_mid = first.runs.honest.1 honest in (second.runs.honest.1 honest_mid, (c.in-Ok.ensures.examines.ok.kept honest_mid (safe honest)).synced))) behind) c.place_of.ensures.behind

pub returns-then-is_err-clause-shown_some : goal.returns-then-is_err-clause-shown_some
returns-then-is_err-clause-shown_some g c = taken_none g.V.Visitor.takes 1000000 c.args.visitor.now c.args.visitor.now (omega arith) refl

pub returns-in-Err-clause-shown_some : goal.returns-in-Err-clause-shown_some
returns-in-Err-clause-shown_some g c = taken_none g.V.Visitor.takes 1000000 c.args.visitor.now c.args.visitor.now (omega arith) refl

pub returns-clause-shown : goal.returns-clause-shown
returns-clause-shown g c =
    let mid = g.D.Disk.state c.sync_device.new.disk in
    let read = g.D.Disk.state c.read_shape.new.disk in
    let new = g.D.Disk.state c.place_of.new.disk in
    let first = c.sync_device.ensures.looks.only in
    let second = c.read_shape.ensures.examines.only in
    let safe = open_ok c.sync_device.result ((g.D.Disk.state c.args.disk.now).is_honest → IsSynced mid) (sym c.is_err.ensures.value ∙ c.if-is_err.false) c.sync_device.ensures.synced in
    if_ok_weaker c.place_of.result _ _
    (λ place all honest batches holds.
    (let honest_mid = first.runs.honest.1 honest in
    let honest_read = second.runs.honest.1 honest_mid in
    let synced = (c.in-Ok.ensures.examines.ok.kept honest_mid (safe honest)).synced in
    all honest_read synced batches (subst (λ (l : Image). Holds place.shape batches l) (sym (image_stays read new c.place_of.ensures.examines.only honest_read synced)) holds)))
    c.place_of.ensures.shown

pub returns-in-Err-clause-shown_before : goal.returns-in-Err-clause-shown_before
returns-in-Err-clause-shown_before g c =
    let old = g.D.Disk.state c.args.disk.now in
    let mid = g.D.Disk.state c.sync_device.new.disk in
    let new = g.D.Disk.state c.read_shape.new.disk in
    let synced = open_ok c.sync_device.result (mid.trace ≡ old.trace ++ Sync ∷ []) (sym c.is_err.ensures.value ∙ c.if-is_err.false) c.sync_device.ensures.recorded.ok in
    stamp_shown g.V.Visitor.takes c.in-Err.fault old mid new c.args.visitor.now synced c.in-Err.ensures.behind

pub returns-clause-shown_before : goal.returns-clause-shown_before
returns-clause-shown_before g c =
    let old = g.D.Disk.state c.args.disk.now in
    let mid = g.D.Disk.state c.sync_device.new.disk in
    let read = g.D.Disk.state c.read_shape.new.disk in
    let new = g.D.Disk.state c.place_of.new.disk in
    let first = c.sync_device.ensures.looks.only in
    let second = c.read_shape.ensures.examines.only in
    let synced = open_ok c.sync_device.result (mid.trace ≡ old.trace ++ Sync ∷ []) (sym c.is_err.ensures.value ∙ c.if-is_err.false) c.sync_device.ensures.recorded.ok in
    let safe : old.is_honest → IsSynced mid = open_ok c.sync_device.result (old.is_honest → IsSynced mid) (sym c.is_err.ensures.value ∙ c.if-is_err.false) c.sync_device.ensures.synced in
    let traced : read.trace ≡ old.trace ++ Sync ∷ Read 1 ∷ [] = all_then old mid read (Sync ∷ []) (Read 1 ∷ []) synced c.in-Ok.ensures.read in
    if_err_weaker c.place_of.result _ _
    (λ fault _ both. half_shown g.V.Visitor.takes fault old read new c.in-Ok.shape c.args.visitor.now c.place_of.new.visitor both.0 traced c.place_of.ensures.examines.only
    (λ honest. (let honest_mid = first.runs.honest.1 honest in
    let kept = c.in-Ok.ensures.examines.ok.kept honest_mid (safe honest) in
    (second.runs.honest.1 honest_mid, kept.synced, subst (λ (l : Image). IsStamped c.in-Ok.shape l) (sym kept.same) (c.in-Ok.ensures.stamped.2 honest_mid (safe honest))))) both.1)
    (if_err_both c.place_of.result IsOfChain _ c.place_of.ensures.causes c.place_of.ensures.shown_before)
