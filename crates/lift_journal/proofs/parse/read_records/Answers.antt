use Rattle.std.proofs.Common.{◌≡◌, ◌+◌, ◌*◌, ℕ, List, take, drop, get_or, sym, subst, ap, ◌∙◌, arith, length-drop}
use Rattle.std.proofs.lemmas.List.{drop-drop}
use Rattle.lift_base.specs.declared.history.Record.TheVariants.{Done}
use Rattle.lift_record.specs.Record.{spelling_of}
use Rattle.lift_journal.specs.Layout.{IsRecordIn}
use Rattle.lift_journal.specs.Seen.{IsRecordsIn}
use Rattle.lift_journal.proofs.Texts.{record_at, records_more}
use Rattle.lift_journal.proofs.parse.read_records.Goals as goal

-- the bytes of record k
piece_is : (text : List ℕ) (k : ℕ) → take 16 (drop (16 + 16 * k) text) ≡ take 16 (drop (16 * k) (drop 16 text))
piece_is text k = ap (take 16) (sym (drop-drop (16 * k) 16 text))

pub loop-k-preserved : goal.loop-k-preserved
loop-k-preserved c =
    let text = c.args.text.now in
    let pushed = c.push_next.ensures.pushed c.if-not-push_next.false in
    let spells = pushed.1 in
    let same : take 16 (drop (16 * c.loop-k.k) (drop 16 text)) ≡ spelling_of c.args.version pushed.0 =
    sym (piece_is text c.loop-k.k) ∙ spells.spelled in
    subst (IsRecordsIn c.args.version (drop 16 text) (c.loop-k.k + 1)) (sym pushed.2)
    (records_more c.args.version (drop 16 text) c.loop-k.k c.loop-k.records.items pushed.0 c.loop-k.invariant
    (record { is_record = (spells.typed, spells.lawful); sayable = spells.sayable })
    (omega (arith, length-drop 16 text, c.requires.whole, c.loop-k-test.true, c.requires.few)) same)

pub returns-then-not-push_next-clause-none : goal.returns-then-not-push_next-clause-none
returns-then-not-push_next-clause-none c _ records there =
    let text = c.args.text.now in
    let next = get_or records c.loop-k.k (Done 0) in
    let lawful : IsRecordIn c.args.version next = there.lawful c.loop-k.k (Done 0) (omega (arith, there.counted, c.loop-k-test.true)) in
    let spelled : take 16 (drop (16 + 16 * c.loop-k.k) text) ≡ spelling_of c.args.version next =
    piece_is text c.loop-k.k ∙ record_at c.args.version (drop 16 text) c.args.count c.loop-k.k records (Done 0) there c.loop-k-test.true in
    c.push_next.ensures.none c.if-not-push_next.true next (record {
      typed = lawful.is_record.0;
      lawful = lawful.is_record.1;
      sayable = lawful.sayable;
      spelled = spelled;
    })
