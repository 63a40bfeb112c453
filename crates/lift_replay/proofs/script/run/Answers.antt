use Rattle.std.proofs.Common.{◌≡◌, ◌≤◌, ◌<◌, ◌∙◌, length, refl, inl, inr, sym, subst, rules}
use Rattle.std.specs.Prelude.{[], codes}
use Rattle.std.proofs.KnownBytes.{Appends-nil}
use Rattle.std.specs.Str.{IsUtf8}
use Rattle.lift_replay.specs.Reading.{most_bytes}
use Rattle.lift_replay.specs.Replaying.{IsTextReport, ReportsInput, ReportsWhatCame}
use Rattle.lift_replay.specs.declared.lines.Verdict.TheVariants.{Bad}
use Rattle.lift_replay.specs.Writing.{GoesInto, gone_in}
use Rattle.lift_replay.specs.lemmas.Writes.{called_counts, called_goes, held}
use Rattle.lift_replay.proofs.Written.{came_unwritten, input_unwritten, ok_so, on_err}
use Rattle.lift_replay.proofs.Taken.{long_input}
use Rattle.lift_replay.proofs.Told.{if_bad, on_ok}
use Rattle.lift_replay.proofs.script.run.Goals as goal

pub returns-in-Err-clause-front : goal.returns-in-Err-clause-front
returns-in-Err-clause-front g c = input_unwritten _ _

pub returns-then-len-gt-MOST_BYTES-clause-report : goal.returns-then-len-gt-MOST_BYTES-clause-report
returns-then-len-gt-MOST_BYTES-clause-report g c =
    let goes : GoesInto g.W.Outflow.sent g.W.Outflow.contents c.args.writer.now c.refuse.new.writer = called_goes g.W.Outflow.gives g.W.Outflow.sent g.met.W.Outflow.counts g.W.Outflow.contents g.met.W.Outflow.holds _ _ c.refuse.result c.refuse.ensures.calls in
    let long : most_bytes < length c.in-Ok.bytes.items = search rules in
    let all = long_input most_bytes _ _ c.in-Ok.bytes.items c.in-Ok.ensures.gives.front long in
    if_bad (λ verdict. ReportsInput (g.R.Read.remaining c.args.input.now.reader) (g.W.Outflow.contents c.args.writer.now) (g.W.Outflow.contents c.refuse.new.writer) verdict)
    c.refuse.result c.refuse.ensures.not_good
    (on_ok c.refuse.result (λ wrote. (all.0, all.1, (codes "TOO LONG\n", inl (all.2, refl, refl), held g.W.Outflow.sent g.W.Outflow.contents _ _ _ goes wrote))) c.refuse.ensures.bad)

pub returns-then-len-gt-MOST_BYTES-clause-front : goal.returns-then-len-gt-MOST_BYTES-clause-front
returns-then-len-gt-MOST_BYTES-clause-front g c =
    let goes : GoesInto g.W.Outflow.sent g.W.Outflow.contents c.args.writer.now c.refuse.new.writer = called_goes g.W.Outflow.gives g.W.Outflow.sent g.met.W.Outflow.counts g.W.Outflow.contents g.met.W.Outflow.holds _ _ c.refuse.result c.refuse.ensures.calls in
    let long : most_bytes < length c.in-Ok.bytes.items = search rules in
    let all = long_input most_bytes _ _ c.in-Ok.bytes.items c.in-Ok.ensures.gives.front long in
    on_err c.refuse.result (λ front. (all.0, all.1, (codes "TOO LONG\n", Bad, inl (all.2, refl, refl), (front.0, front.1, held g.W.Outflow.sent g.W.Outflow.contents _ _ _ goes front.2)))) c.refuse.ensures.front

pub returns-in-Ok-from_utf8-clause-front : goal.returns-in-Ok-from_utf8-clause-front
returns-in-Ok-from_utf8-clause-front g c =
    let goes : GoesInto g.W.Outflow.sent g.W.Outflow.contents c.args.writer.now c.run_text.new.writer = called_goes g.W.Outflow.gives g.W.Outflow.sent g.met.W.Outflow.counts g.W.Outflow.contents g.met.W.Outflow.holds _ _ c.run_text.result c.run_text.ensures.calls in
    let few : length c.in-Ok.bytes.items ≤ most_bytes = search rules in
    let input = c.in-Ok.ensures.gives.whole few in
    let same : c.in-Ok-from_utf8.text.now ≡ c.in-Ok.bytes.items = c.in-Ok-from_utf8.ensures.cases.0 ∙ c.deref.ensures.value in
    let utf8 : IsUtf8 c.in-Ok.bytes.items = subst IsUtf8 c.deref.ensures.value c.in-Ok-from_utf8.ensures.cases.1 in
    on_err c.run_text.result (λ told. (c.in-Ok.bytes.items, input, (told.0, told.1, inr (inr (few, utf8, subst (λ t. IsTextReport t told.0 told.1) same told.2)), (told.3.0, told.3.1, held g.W.Outflow.sent g.W.Outflow.contents _ _ _ goes told.3.2)))) c.run_text.ensures.front

pub returns-clause-report : goal.returns-clause-report
returns-clause-report g c =
    let goes : GoesInto g.W.Outflow.sent g.W.Outflow.contents c.args.writer.now c.refuse-in-Err-from_utf8.new.writer = called_goes g.W.Outflow.gives g.W.Outflow.sent g.met.W.Outflow.counts g.W.Outflow.contents g.met.W.Outflow.holds _ _ c.refuse-in-Err-from_utf8.result c.refuse-in-Err-from_utf8.ensures.calls in
    let few : length c.in-Ok.bytes.items ≤ most_bytes = search rules in
    let input = c.in-Ok.ensures.gives.whole few in
    let no_text : ¬ IsUtf8 c.in-Ok.bytes.items = λ text. c.in-Err-from_utf8.ensures.cases.0 (subst IsUtf8 (sym c.deref.ensures.value) text) in
    if_bad (λ verdict. ReportsInput (g.R.Read.remaining c.args.input.now.reader) (g.W.Outflow.contents c.args.writer.now) (g.W.Outflow.contents c.refuse-in-Err-from_utf8.new.writer) verdict)
    c.refuse-in-Err-from_utf8.result c.refuse-in-Err-from_utf8.ensures.not_good
    (on_ok c.refuse-in-Err-from_utf8.result (λ wrote. (c.in-Ok.bytes.items, input, (codes "NOT TEXT\n", inr (inl (few, no_text, refl, refl)), held g.W.Outflow.sent g.W.Outflow.contents _ _ _ goes wrote))) c.refuse-in-Err-from_utf8.ensures.bad)

pub returns-clause-front : goal.returns-clause-front
returns-clause-front g c =
    let goes : GoesInto g.W.Outflow.sent g.W.Outflow.contents c.args.writer.now c.refuse-in-Err-from_utf8.new.writer = called_goes g.W.Outflow.gives g.W.Outflow.sent g.met.W.Outflow.counts g.W.Outflow.contents g.met.W.Outflow.holds _ _ c.refuse-in-Err-from_utf8.result c.refuse-in-Err-from_utf8.ensures.calls in
    let few : length c.in-Ok.bytes.items ≤ most_bytes = search rules in
    let input = c.in-Ok.ensures.gives.whole few in
    let no_text : ¬ IsUtf8 c.in-Ok.bytes.items = λ text. c.in-Err-from_utf8.ensures.cases.0 (subst IsUtf8 (sym c.deref.ensures.value) text) in
    on_err c.refuse-in-Err-from_utf8.result (λ front. (c.in-Ok.bytes.items, input, (codes "NOT TEXT\n", Bad, inr (inl (few, no_text, refl, refl)), (front.0, front.1, held g.W.Outflow.sent g.W.Outflow.contents _ _ _ goes front.2)))) c.refuse-in-Err-from_utf8.ensures.front

pub returns-in-Ok-from_utf8-clause-report : goal.returns-in-Ok-from_utf8-clause-report
returns-in-Ok-from_utf8-clause-report g c =
    let goes : GoesInto g.W.Outflow.sent g.W.Outflow.contents c.args.writer.now c.run_text.new.writer = called_goes g.W.Outflow.gives g.W.Outflow.sent g.met.W.Outflow.counts g.W.Outflow.contents g.met.W.Outflow.holds _ _ c.run_text.result c.run_text.ensures.calls in
    let few : length c.in-Ok.bytes.items ≤ most_bytes = search rules in
    let input = c.in-Ok.ensures.gives.whole few in
    let same : c.in-Ok-from_utf8.text.now ≡ c.in-Ok.bytes.items = c.in-Ok-from_utf8.ensures.cases.0 ∙ c.deref.ensures.value in
    let utf8 : IsUtf8 c.in-Ok.bytes.items = subst IsUtf8 c.deref.ensures.value c.in-Ok-from_utf8.ensures.cases.1 in
    ok_so c.run_text.result (λ verdict told. (c.in-Ok.bytes.items, input, (told.0, inr (inr (few, utf8, subst (λ t. IsTextReport t told.0 verdict) same told.1)), held g.W.Outflow.sent g.W.Outflow.contents _ _ _ goes told.2))) c.run_text.ensures.tells

pub returns-in-Err-clause-came_front : goal.returns-in-Err-clause-came_front
returns-in-Err-clause-came_front g c =
    let grew = c.read_all.ensures.grew in
    (grew.0, grew.1, came_unwritten grew.0 (gone_in g.W.Outflow.sent c.args.writer.now))

pub returns-then-len-gt-MOST_BYTES-clause-came : goal.returns-then-len-gt-MOST_BYTES-clause-came
returns-then-len-gt-MOST_BYTES-clause-came g c =
    let long : most_bytes < length c.in-Ok.bytes.items = search rules in
    if_bad (λ verdict. ReportsWhatCame c.args.input.now.came c.read_all.new.input.came (gone_in g.W.Outflow.sent c.args.writer.now) (gone_in g.W.Outflow.sent c.refuse.new.writer) verdict)
    c.refuse.result c.refuse.ensures.not_good
    (on_ok c.refuse.result (λ wrote. (c.in-Ok.bytes.items, c.in-Ok.ensures.came, (codes "TOO LONG\n", inl (long, refl, refl), wrote))) c.refuse.ensures.bad)

pub returns-then-len-gt-MOST_BYTES-clause-came_front : goal.returns-then-len-gt-MOST_BYTES-clause-came_front
returns-then-len-gt-MOST_BYTES-clause-came_front g c =
    let long : most_bytes < length c.in-Ok.bytes.items = search rules in
    on_err c.refuse.result (λ front. (c.in-Ok.bytes.items, c.in-Ok.ensures.came, (codes "TOO LONG\n", Bad, inl (long, refl, refl), front))) c.refuse.ensures.front

pub returns-in-Ok-from_utf8-clause-came : goal.returns-in-Ok-from_utf8-clause-came
returns-in-Ok-from_utf8-clause-came g c =
    let few : length c.in-Ok.bytes.items ≤ most_bytes = search rules in
    let same : c.in-Ok-from_utf8.text.now ≡ c.in-Ok.bytes.items = c.in-Ok-from_utf8.ensures.cases.0 ∙ c.deref.ensures.value in
    let utf8 : IsUtf8 c.in-Ok.bytes.items = subst IsUtf8 c.deref.ensures.value c.in-Ok-from_utf8.ensures.cases.1 in
    ok_so c.run_text.result (λ verdict told. (c.in-Ok.bytes.items, c.in-Ok.ensures.came, (told.0, inr (inr (few, utf8, subst (λ t. IsTextReport t told.0 verdict) same told.1)), told.2))) c.run_text.ensures.tells

pub returns-in-Ok-from_utf8-clause-came_front : goal.returns-in-Ok-from_utf8-clause-came_front
returns-in-Ok-from_utf8-clause-came_front g c =
    let few : length c.in-Ok.bytes.items ≤ most_bytes = search rules in
    let same : c.in-Ok-from_utf8.text.now ≡ c.in-Ok.bytes.items = c.in-Ok-from_utf8.ensures.cases.0 ∙ c.deref.ensures.value in
    let utf8 : IsUtf8 c.in-Ok.bytes.items = subst IsUtf8 c.deref.ensures.value c.in-Ok-from_utf8.ensures.cases.1 in
    on_err c.run_text.result (λ told. (c.in-Ok.bytes.items, c.in-Ok.ensures.came, (told.0, told.1, inr (inr (few, utf8, subst (λ t. IsTextReport t told.0 told.1) same told.2)), told.3))) c.run_text.ensures.front

pub returns-clause-came : goal.returns-clause-came
returns-clause-came g c =
    let few : length c.in-Ok.bytes.items ≤ most_bytes = search rules in
    let no_text : ¬ IsUtf8 c.in-Ok.bytes.items = λ text. c.in-Err-from_utf8.ensures.cases.0 (subst IsUtf8 (sym c.deref.ensures.value) text) in
    if_bad (λ verdict. ReportsWhatCame c.args.input.now.came c.read_all.new.input.came (gone_in g.W.Outflow.sent c.args.writer.now) (gone_in g.W.Outflow.sent c.refuse-in-Err-from_utf8.new.writer) verdict)
    c.refuse-in-Err-from_utf8.result c.refuse-in-Err-from_utf8.ensures.not_good
    (on_ok c.refuse-in-Err-from_utf8.result (λ wrote. (c.in-Ok.bytes.items, c.in-Ok.ensures.came, (codes "NOT TEXT\n", inr (inl (few, no_text, refl, refl)), wrote))) c.refuse-in-Err-from_utf8.ensures.bad)

pub returns-clause-came_front : goal.returns-clause-came_front
returns-clause-came_front g c =
    let few : length c.in-Ok.bytes.items ≤ most_bytes = search rules in
    let no_text : ¬ IsUtf8 c.in-Ok.bytes.items = λ text. c.in-Err-from_utf8.ensures.cases.0 (subst IsUtf8 (sym c.deref.ensures.value) text) in
    on_err c.refuse-in-Err-from_utf8.result (λ front. (c.in-Ok.bytes.items, c.in-Ok.ensures.came, (codes "NOT TEXT\n", Bad, inr (inl (few, no_text, refl, refl)), front))) c.refuse-in-Err-from_utf8.ensures.front

pub returns-then-len-gt-MOST_BYTES-clause-failures : goal.returns-then-len-gt-MOST_BYTES-clause-failures
returns-then-len-gt-MOST_BYTES-clause-failures g c = called_counts g.W.Outflow.gives g.W.Outflow.sent g.met.W.Outflow.counts _ _ c.refuse.result c.refuse.ensures.calls

pub returns-in-Ok-from_utf8-clause-failures : goal.returns-in-Ok-from_utf8-clause-failures
returns-in-Ok-from_utf8-clause-failures g c = called_counts g.W.Outflow.gives g.W.Outflow.sent g.met.W.Outflow.counts _ _ c.run_text.result c.run_text.ensures.calls

pub returns-clause-failures : goal.returns-clause-failures
returns-clause-failures g c = called_counts g.W.Outflow.gives g.W.Outflow.sent g.met.W.Outflow.counts _ _ c.refuse-in-Err-from_utf8.result c.refuse-in-Err-from_utf8.ensures.calls

pub returns-then-len-gt-MOST_BYTES-clause-goes : goal.returns-then-len-gt-MOST_BYTES-clause-goes
returns-then-len-gt-MOST_BYTES-clause-goes g c = called_goes g.W.Outflow.gives g.W.Outflow.sent g.met.W.Outflow.counts g.W.Outflow.contents g.met.W.Outflow.holds _ _ c.refuse.result c.refuse.ensures.calls

pub returns-in-Ok-from_utf8-clause-goes : goal.returns-in-Ok-from_utf8-clause-goes
returns-in-Ok-from_utf8-clause-goes g c = called_goes g.W.Outflow.gives g.W.Outflow.sent g.met.W.Outflow.counts g.W.Outflow.contents g.met.W.Outflow.holds _ _ c.run_text.result c.run_text.ensures.calls

pub returns-clause-goes : goal.returns-clause-goes
returns-clause-goes g c = called_goes g.W.Outflow.gives g.W.Outflow.sent g.met.W.Outflow.counts g.W.Outflow.contents g.met.W.Outflow.holds _ _ c.refuse-in-Err-from_utf8.result c.refuse-in-Err-from_utf8.ensures.calls

pub returns-in-Err-clause-goes : goal.returns-in-Err-clause-goes
returns-in-Err-clause-goes g c = ([], Appends-nil _, Appends-nil _)
