use Rattle.std.proofs.Common.{◌≡◌, ◌+◌, ◌-◌, ◌∙◌, ap, ℕ, List, [], slice_set, take, length, refl, sym, subst, arith}
use Rattle.std.proofs.lemmas.List.{get_or-set_same}
use Rattle.std.proofs.lemmas.Option.{unwrap_or-slice_get}
use Rattle.lift_record.specs.Header.{IsHeaderSpelling}
use Rattle.lift_disk.specs.Disk.{Image}
use Rattle.lift_journal.specs.Layout.{sector_at, size_of}
use Rattle.lift_journal.specs.Seen.{ShowsBody}
use Rattle.lift_journal.specs.Walk.{IsBatchAt}
use Rattle.lift_journal.specs.Calls.{HasRead}
use Rattle.lift_journal.specs.lemmas.Looking.{looks_then, ok_weaker, err_weaker, both_on_err}
use Rattle.lift_journal.proofs.Seeing.{no_header}
use Rattle.lift_journal.proofs.Following.{row_then, if_ok_weaker}
use Rattle.lift_journal.proofs.reads.read_body.Goals as goal

-- what was read, as it stands in the buffer
in_buffer : (image now : Image) (sector : ℕ) (body : Image) (first : List ℕ) → length body ≡ 2 → now ≡ image → sector_at image sector ≡ first
    → sector_at now sector ≡ sector_at (slice_set body 0 first) 0
in_buffer image now sector body first two same is =
    ap (λ (l : Image). sector_at l sector) same ∙ is ∙ sym (unwrap_or-slice_get (slice_set body 0 first) 0 [] ∙ get_or-set_same body 0 first [] (omega (arith, two)))

pub read_rest-requires-clause-header : goal.read_rest-requires-clause-header
read_rest-requires-clause-header g c =
    let is = unwrap_or-slice_get (slice_set c.args.stored.now.body 0 c.read_sector.new.buffer) 0 [] in
    subst (λ (l : List ℕ). IsHeaderSpelling (take 16 l) c.in-Some.header) (sym is) ((c.in-Some.ensures c.in-Some.header).0 refl).0

pub returns-in-None-clause-seen : goal.returns-in-None-clause-seen
returns-in-None-clause-seen g c honest synced =
    let image = (g.D.Disk.state c.args.disk.now).image in
    let whole : length image ≡ (g.D.Disk.state c.args.disk.now).size = g.met.D.Disk.whole c.args.disk.now honest in
    no_header image c.args.gate c.args.end c.args.number c.read_sector.new.buffer (c.in_ok-read_sector.ensures.gives honest synced) c.read_sector.ensures.length
    (omega (arith, whole, c.requires.inside)) c.requires.numbered (omega arith)
    (λ header spelled numbered. (let here = subst (λ (l : List ℕ). IsHeaderSpelling (take 16 l) header) (sym (get_or-set_same c.args.stored.now.body 0 c.read_sector.new.buffer [] (omega arith))) spelled in
    absurd (cc ((c.in-None.ensures header).1 (here, numbered)))))

pub returns-in-Some-clause-looks : goal.returns-in-Some-clause-looks
returns-in-Some-clause-looks g c =
    looks_then c.read_rest.result (g.D.Disk.state c.args.disk.now) (g.D.Disk.state c.read_sector.new.disk) (g.D.Disk.state c.read_rest.new.disk)
    c.read_sector.ensures.looks.only c.in_ok-read_sector.ensures.looks.ok c.read_rest.ensures.looks

pub returns-in-Some-clause-seen : goal.returns-in-Some-clause-seen
returns-in-Some-clause-seen g c =
    let old = g.D.Disk.state c.args.disk.now in
    let mid = g.D.Disk.state c.read_sector.new.disk in
    let stored = c.read_rest.new.stored in
    if_ok_weaker c.read_rest.result _ _ (λ at shows honest synced.
    (let kept = c.in_ok-read_sector.ensures.looks.ok.kept honest synced in
    let numbered = ((c.in-Some.ensures c.in-Some.header).0 refl).1 in
    let here = in_buffer old.image mid.image (c.args.gate + 1) c.args.stored.now.body c.read_sector.new.buffer (omega arith) kept.same (c.in_ok-read_sector.ensures.gives honest synced) in
    subst (λ n. ShowsBody old.image c.args.gate c.args.end n at stored) numbered
    (subst (λ (l : Image). ShowsBody l c.args.gate c.args.end c.in-Some.header.number at stored) kept.same
    (shows (c.read_sector.ensures.looks.only.runs.honest.1 honest) kept.synced here)))) c.read_rest.ensures.seen

pub returns-in-Some-clause-row : goal.returns-in-Some-clause-row
returns-in-Some-clause-row g c =
    ok_weaker c.read_rest.result _ _ (λ row. row_then (g.D.Disk.state c.args.disk.now) (g.D.Disk.state c.read_sector.new.disk) (g.D.Disk.state c.read_rest.new.disk)
    (c.args.gate + 1) 1 (c.args.gate + 2) 1 c.args.end (omega arith) c.in_ok-read_sector.ensures.read row) c.read_rest.ensures.row

pub returns-in-Some-clause-unread : goal.returns-in-Some-clause-unread
returns-in-Some-clause-unread g c =
    err_weaker c.read_rest.result _ _ (λ row. row_then (g.D.Disk.state c.args.disk.now) (g.D.Disk.state c.read_sector.new.disk) (g.D.Disk.state c.read_rest.new.disk)
    (c.args.gate + 1) 1 (c.args.gate + 2) 0 c.args.end (omega arith) c.in_ok-read_sector.ensures.read row) c.read_rest.ensures.unread

pub returns-in-Some-clause-unfinished : goal.returns-in-Some-clause-unfinished
returns-in-Some-clause-unfinished g c =
    let old = g.D.Disk.state c.args.disk.now in
    let mid = g.D.Disk.state c.read_sector.new.disk in
    let new = g.D.Disk.state c.read_rest.new.disk in
    let gate = c.args.gate in
    let end = c.args.end in
    err_weaker c.read_rest.result _ _ (λ both honest synced batch there.
    (let kept = c.in_ok-read_sector.ensures.looks.ok.kept honest synced in
    let numbered = ((c.in-Some.ensures c.in-Some.header).0 refl).1 in
    let here = in_buffer old.image mid.image (gate + 1) c.args.stored.now.body c.read_sector.new.buffer (omega arith) kept.same (c.in_ok-read_sector.ensures.gives honest synced) in
    let there_now = subst (λ (l : Image). IsBatchAt l gate end c.in-Some.header.number batch) (sym kept.same) (subst (λ n. IsBatchAt old.image gate end n batch) (sym numbered) there) in
    let two = both.1 (c.read_sector.ensures.looks.only.runs.honest.1 honest) kept.synced here batch there_now in
    let one : 1 + 0 ≡ size_of batch - 1 = omega (arith, two) in
    subst (λ n. HasRead (gate + 1) n end old new) one (row_then old mid new (gate + 1) 1 (gate + 2) 0 end (omega arith) c.in_ok-read_sector.ensures.read both.0)))
    (both_on_err c.read_rest.result _ _ c.read_rest.ensures.unread c.read_rest.ensures.unfinished)
