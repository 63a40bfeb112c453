use Rattle.std.proofs.Common.{◌≡◌, ◌++◌, List, ℕ, drop, length, nat_eq, true, refl, sym, ◌∙◌, ap, subst, arith}
use Rattle.std.proofs.lemmas.Bool.{eqb-true}
use Rattle.lift_journal.specs.Layout.{Batch, body_size, sector_at}
use Rattle.lift_journal.specs.Seen.{IsTailOf}
use Rattle.lift_journal.specs.lemmas.Looking.{err_any}
use Rattle.lift_journal.proofs.Seeing.{no_next, batch_there, no_records, same_count}
use Rattle.lift_journal.proofs.Texts.{text_of_sectors}
use Rattle.lift_journal.proofs.reads.read_rest.Goals as goal

pub returns-then-bodies-end-clause-seen : goal.returns-then-bodies-end-clause-seen
returns-then-bodies-end-clause-seen g c honest synced is =
    let image = (g.D.Disk.state c.args.disk.now).image in
    let whole : length image ≡ (g.D.Disk.state c.args.disk.now).size = g.met.D.Disk.whole c.args.disk.now honest in
    no_next image c.args.gate c.args.end c.args.header.number (sector_at c.args.stored.now.body 0) is c.requires.whole (omega (arith, whole, c.requires.inside)) c.args.header c.requires.header refl
    (omega (arith, c.if-bodies-end.true, c.body_count-bodies.ensures, c.requires.below))

pub returns-clause-seen : goal.returns-clause-seen
returns-clause-seen g c honest synced is =
    let image = (g.D.Disk.state c.args.disk.now).image in
    let whole : length image ≡ (g.D.Disk.state c.args.disk.now).size = g.met.D.Disk.whole c.args.disk.now honest in
    let few = c.body_count-bodies.ensures in
    let both : c.as_flattened-text.result.now ≡ sector_at c.args.stored.now.body 0 ++ c.read_second.new.buffer = c.as_flattened-text.ensures.value ∙ text_of_sectors c.args.stored.now.body c.read_second.new.buffer (omega arith) in
    let batch : Batch = record { version = c.args.header.version; records = c.parse.new.records.items } in
    batch_there image c.args.gate c.args.end c.args.header.number (sector_at c.args.stored.now.body 0) is c.requires.whole (omega (arith, whole, c.requires.inside)) c.args.header c.requires.header refl
    c.read_second.new.buffer c.read_second.ensures.length
    (λ two. c.in_ok-read_second.ensures.gives (ap (λ k. nat_eq k 2) (few ∙ two)) honest synced)
    (λ one. c.in_ok-read_second.ensures.blank (ap (λ k. nat_eq k 2) (few ∙ one)))
    (omega (arith, c.if-bodies-end.false, few, c.requires.below))
    batch refl (c.parse.ensures.some c.if-not-parse.false).0
    (subst (λ (l : List ℕ). IsTailOf c.args.header.version batch.records (drop 16 l)) both (c.parse.ensures.some c.if-not-parse.false).1)

pub returns-then-not-parse-clause-seen : goal.returns-then-not-parse-clause-seen
returns-then-not-parse-clause-seen g c honest synced is =
    let image = (g.D.Disk.state c.args.disk.now).image in
    let whole : length image ≡ (g.D.Disk.state c.args.disk.now).size = g.met.D.Disk.whole c.args.disk.now honest in
    let few = c.body_count-bodies.ensures in
    let both : c.as_flattened-text.result.now ≡ sector_at c.args.stored.now.body 0 ++ c.read_second.new.buffer = c.as_flattened-text.ensures.value ∙ text_of_sectors c.args.stored.now.body c.read_second.new.buffer (omega arith) in
    no_records image c.args.gate c.args.end c.args.header.number (sector_at c.args.stored.now.body 0) is c.requires.whole (omega (arith, whole, c.requires.inside)) c.args.header c.requires.header refl
    c.read_second.new.buffer c.read_second.ensures.length
    (λ two. c.in_ok-read_second.ensures.gives (ap (λ k. nat_eq k 2) (few ∙ two)) honest synced)
    (λ one. c.in_ok-read_second.ensures.blank (ap (λ k. nat_eq k 2) (few ∙ one)))
    (omega (arith, c.if-bodies-end.false, few, c.requires.below))
    (λ records counted tail. c.parse.ensures.none c.if-not-parse.true records counted (subst (λ (l : List ℕ). IsTailOf c.args.header.version records (drop 16 l)) (sym both) tail))

pub returns-in_err-read_second-clause-unfinished : goal.returns-in_err-read_second-clause-unfinished
returns-in_err-read_second-clause-unfinished g c =
    err_any c.from_residual.result _ (λ honest synced is batch there.
    (let image = (g.D.Disk.state c.args.disk.now).image in
    let whole : length image ≡ (g.D.Disk.state c.args.disk.now).size = g.met.D.Disk.whole c.args.disk.now honest in
    let count = same_count image c.args.gate c.args.end c.args.header.number (sector_at c.args.stored.now.body 0) is c.requires.whole (omega (arith, whole, c.requires.inside)) c.args.header c.requires.header refl batch there in
    let wanted : nat_eq c.body_count-bodies.result 2 ≡ true = c.in_err-read_second.ensures.wanted in
    let two : c.body_count-bodies.result ≡ 2 = eqb-true c.body_count-bodies.result 2 wanted in
    ap body_size (sym count) ∙ sym c.body_count-bodies.ensures ∙ two))
