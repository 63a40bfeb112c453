use Rattle.std.proofs.Common.{◌≡◌, ◌+◌, ◌++◌, [], ◌∷◌, refl, List, ℕ, All, length, take, sym, subst, ◌∙◌, ap, arith, length-append, length-take}
use Rattle.std.proofs.lemmas.List.{take_all, take_more, flat_map_more}
use Rattle.std.proofs.lemmas.List.Elements.{All-more}
use Rattle.std.specs.List.{flat_map}
use Rattle.lift_base.specs.declared.history.Record.{Record}
use Rattle.lift_record.specs.Record.{spelling_of}
use Rattle.lift_record.specs.Header.{header_bytes}
use Rattle.lift_record.specs.declared.version.Version.TheVariants.{Two}
use Rattle.lift_record.specs.lemmas.Spellings.{length-header_bytes}
use Rattle.lift_journal.specs.Layout.{new_batch, body_size, filled, IsBody, IsRecordIn}
use Rattle.lift_journal.specs.Calls.{batch_body}
use Rattle.lift_journal.proofs.Texts.{put_more, sectors_cut, body_of_batch}
use Rattle.lift_journal.specs.lemmas.Unique.{length-spellings}
use Rattle.lift_journal.proofs.body.put_body.Goals as goal

pub loop-content-preserved : goal.loop-content-preserved
loop-content-preserved c =
    let records = c.as_slice-records.result.now in
    let k = c.loop-content.content-index in
    let sectors = body_size (length records) in
    let header = header_bytes Two (length records) c.args.number in
    let done = header ++ flat_map (spelling_of Two) (take k records) in
    let next = c.content-item.result in
    let size : length done ≡ c.loop-content.at =
    omega (arith, length-append header (flat_map (spelling_of Two) (take k records)), length-header_bytes Two (length records) c.args.number, length-spellings Two (take k records), length-take k records) in
    let more : done ++ spelling_of Two next ≡ header ++ flat_map (spelling_of Two) (take (k + 1) records) =
    flat_map_more (spelling_of Two) header (take k records) next ∙ ap (λ (l : List Record). header ++ flat_map (spelling_of Two) l) (sym (take_more records k next c.loop-content-test.true ∙ ap (λ (r : Record). take k records ++ r ∷ []) (sym c.content-item.is))) in
    record {
      at = omega (arith, c.loop-content.invariant.at);
      text = c.put-in-loop-content.ensures
          ∙ put_more sectors done c.loop-content.text c.encode.result c.loop-content.at (length c.encode.result) size refl c.loop-content.invariant.text
          ∙ ap (λ (l : List ℕ). filled sectors (done ++ l)) c.encode.ensures.bytes ∙ ap (filled sectors) more;
      typed = All-more (IsRecordIn Two) records k next c.loop-content-test.true c.loop-content.invariant.typed
          (subst (IsRecordIn Two) c.content-item.is (record { is_record = (c.encode.ensures.in_grammar.typed, c.encode.ensures.in_grammar.lawful); sayable = c.encode.ensures.in_grammar.sayable }));
    }

pub returns-clause-exact : goal.returns-clause-exact
returns-clause-exact c =
    let records = c.as_slice-records.result.now in
    let all : take c.loop-content.content-index records ≡ records = take_all c.loop-content.content-index records c.loop-content-test.false in
    c.as_chunks.ensures.front
    ∙ sectors_cut c.args.number (new_batch records) c.loop-content.text (omega arith)
    (c.loop-content.invariant.text ∙ ap (λ (l : List Record). filled (body_size (length records)) (header_bytes Two (length records) c.args.number ++ flat_map (spelling_of Two) l)) all)
    ∙ ap (λ (l : List Record). batch_body c.args.number (new_batch l)) c.as_slice-records.ensures.value

pub returns-clause-spelled : goal.returns-clause-spelled
returns-clause-spelled c =
    let records = c.as_slice-records.result.now in
    let all = take_all c.loop-content.content-index records c.loop-content-test.false ∙ c.as_slice-records.ensures.value in
    subst (IsBody c.args.number (new_batch c.args.batch.now.items)) (sym (returns-clause-exact c))
    (body_of_batch c.args.number c.args.batch.now.items c.requires.some (omega (arith, ap length c.as_slice-records.ensures.value)) (subst (All (IsRecordIn Two)) all c.loop-content.invariant.typed))
