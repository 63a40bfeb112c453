use Rattle.std.proofs.Common.{◌≡◌, ℕ, ◌+◌, ◌<◌, ◌∙◌, All, List, ◌∷◌, drop, length, get_or, sym, ap, subst, arith}
use Rattle.std.proofs.lemmas.List.{drop_more, drop_all}
use Rattle.std.proofs.lemmas.List.Elements.{All-cons, All-nil}
use Rattle.lift_base.specs.declared.command.Reply.{Reply}
use Rattle.lift_desk.specs.Words.{IsReply}
use Rattle.lift_desk.specs.Seats.{ClerkPlace, view_at, clerk_with}
use Rattle.lift_clerk.specs.declared.answering.DueAnswer.{DueAnswer}
use Rattle.lift_clerk.specs.Answering.{AreOwed, terminals_in, stored_reply, stored_replies, with_answers, with_reply_to_last}
use Rattle.lift_clerk.specs.lemmas.Stored.{owed-else}
use Rattle.lift_clerk.proofs.answering.store_all.Goals as goal

-- the next answer, and those after it
next : (answers items : List DueAnswer) (n : ℕ) (a : DueAnswer) → items ≡ answers → n < length answers → a ≡ get_or items n a → drop n answers ≡ a ∷ drop (n + 1) answers
next answers items n a same inside is =
    drop_more answers n a inside ∙ ap (λ (x : DueAnswer). x ∷ drop (n + 1) answers) (ap (λ (l : List DueAnswer). get_or l n a) (sym same) ∙ sym is)

pub answer-requires : goal.answer-requires
answer-requires g c =
    let i = c.loop-place.invariant in
    let answers = c.args.answers.now.items in
    let a = c.index-deref-place.result in
    let end = c.len-place-end.ensures.value in
    let is = next answers c.deref.result.now c.loop-place.place a c.deref.ensures.0 (omega arith) c.index-deref-place.is in
    let owed = subst (λ (l : List DueAnswer). AreOwed c.args.desk.now c.loop-place.seat (terminals_in l)) is i.owed in
    (omega arith, (i.seated, (owed.0, owed.1)))

pub loop-place-preserved : goal.loop-place-preserved
loop-place-preserved g c =
    let i = c.loop-place.invariant in
    let is_safe = c.args.is_safe in
    let answers = c.args.answers.now.items in
    let a = c.index-deref-place.result in
    let now = c.loop-place.seat in
    let rest = drop (c.loop-place.place + 1) answers in
    let end = c.len-place-end.ensures.value in
    let is = next answers c.deref.result.now c.loop-place.place a c.deref.ensures.0 (omega arith) c.index-deref-place.is in
    let owed = subst (λ (l : List DueAnswer). AreOwed c.args.desk.now now (terminals_in l)) is i.owed in
    let view = with_reply_to_last (view_at now a.terminal) (stored_reply is_safe a.reply) in
    let stored : c.answer.new.clerk ≡ clerk_with now a.terminal view =
    c.answer.ensures.answered ∙ ap (λ (r : Reply). clerk_with now a.terminal (with_reply_to_last (view_at now a.terminal) r)) c.stored.ensures in
    record {
      owed = subst (λ (l : List ClerkPlace). AreOwed c.args.desk.now l (terminals_in rest)) (sym stored) (owed-else c.args.desk.now now a.terminal view (terminals_in rest) owed.2 owed.3);
      stored = ap (λ (l : List ClerkPlace). with_answers is_safe l rest) stored ∙ ap (λ (l : List DueAnswer). with_answers is_safe now l) (sym is) ∙ i.stored;
      in_range = λ all. i.in_range (subst (λ (l : List DueAnswer). All IsReply (stored_replies is_safe l)) (sym is)
          (All-cons IsReply (stored_reply is_safe a.reply) (stored_replies is_safe rest) (subst IsReply c.stored.ensures c.answer.ensures.in_range) all));
      seated = c.answer.ensures.stays;
    }

pub returns-clause-stored : goal.returns-clause-stored
returns-clause-stored g c =
    let end = c.len-place-end.ensures.value in
    let ended = c.loop-place-test.false in
    ap (λ (l : List DueAnswer). with_answers c.args.is_safe c.loop-place.seat l) (sym (drop_all c.loop-place.place c.args.answers.now.items (omega arith))) ∙ c.loop-place.invariant.stored

pub returns-clause-in_range : goal.returns-clause-in_range
returns-clause-in_range g c =
    let end = c.len-place-end.ensures.value in
    let ended = c.loop-place-test.false in
    c.loop-place.invariant.in_range (subst (λ (l : List DueAnswer). All IsReply (stored_replies c.args.is_safe l)) (sym (drop_all c.loop-place.place c.args.answers.now.items (omega arith))) (All-nil IsReply))
