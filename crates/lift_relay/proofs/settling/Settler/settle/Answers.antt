use Rattle.std.proofs.Common.{◌≡◌, List, sym, ap, ◌∙◌, subst, arith}
use Rattle.std.specs.Prelude.{Ok, Err}
use Rattle.lift_base.specs.declared.history.Entry.{Entry}
use Rattle.lift_keeper.specs.Prelude.{Commits}
use Rattle.lift_keeper.specs.lemmas.Committed.{under_ok, under_err}
use Rattle.lift_parts.specs.declared.counts.FlushCounts.{FlushCounts}
use Rattle.lift_relay.proofs.Flushed.{are_due, owes_them, settles}
use Rattle.lift_relay.proofs.settling.Settler.settle.Goals as goal

pub look_again-answers-requires-clause-due : goal.look_again-answers-requires-clause-due
look_again-answers-requires-clause-due g c =
    are_due _ _ c.self.view_is c.args.batch _ c.into_commands.ensures.value c.requires.at_desk c.requires.all_answered c.entries.ensures.at_desk c.into_commands.ensures.noted

pub answer_all-requires : goal.answer_all-requires
answer_all-requires g c =
    let e = c.entries.ensures in
    let looked = c.look_again-answers.ensures in
    (omega arith, (looked.seated, owes_them g.D.Disk.state _ _ c.self.view_is c.args.batch _ _ _ c.requires.at_desk c.self.invariant e.at_desk e.apart c.into_commands.ensures.value looked.found looked.looked looked.answers))

pub answer_all-requires-in-Err : goal.answer_all-requires-in-Err
answer_all-requires-in-Err g c =
    let e = c.entries.ensures in
    let looked = c.look_again-answers.ensures in
    (omega arith, (looked.seated, owes_them g.D.Disk.state _ _ c.self.view_is c.args.batch _ _ _ c.requires.at_desk c.self.invariant e.at_desk e.apart c.into_commands.ensures.value looked.found looked.looked looked.answers))

pub returns-in-Ok-clause-settles : goal.returns-in-Ok-clause-settles
returns-in-Ok-clause-settles g c =
    let state = g.D.Disk.state in
    let safe = c.in-Ok.safe in
    let e = c.entries.ensures in
    let taken = c.into_commands.ensures in
    let looked = c.look_again-answers.ensures in
    let stored = c.answer_all.ensures in
    let counts : FlushCounts = record { batches = 1; answers = c.len.result } in
    let made = subst (λ (b : List Entry). Commits state c.self.inside.writer b c.commit-committed.new.self (Ok safe)) e.value c.in-Ok.ensures.commits in
    settles state _ _ c.self.view_is c.args.batch _ _ _ c.requires.at_desk c.self.invariant e.at_desk e.apart taken.value looked.found looked.looked looked.answers
    (Ok counts) _ _ (under_ok state _ _ _ safe counts made) c.requires.next c.requires.all_answered taken.noted e.decided stored.stored stored.in_range stored.seated
    (λ other is. (let same : counts ≡ other = cc in (sym (ap (λ (n : FlushCounts). n.batches) same), sym (ap (λ (n : FlushCounts). n.answers) same) ∙ c.len.ensures.value)))

pub returns-in-Err-clause-settles : goal.returns-in-Err-clause-settles
returns-in-Err-clause-settles g c =
    let state = g.D.Disk.state in
    let fault = c.in-Err.fault in
    let e = c.entries.ensures in
    let taken = c.into_commands.ensures in
    let looked = c.look_again-answers.ensures in
    let stored = c.answer_all-in-Err.ensures in
    let made = subst (λ (b : List Entry). Commits state c.self.inside.writer b c.commit-committed.new.self (Err fault)) e.value c.in-Err.ensures.commits in
    settles state _ _ c.self.view_is c.args.batch _ _ _ c.requires.at_desk c.self.invariant e.at_desk e.apart taken.value looked.found looked.looked looked.answers
    (Err fault) _ _ (under_err state _ _ _ fault made) c.requires.next c.requires.all_answered taken.noted e.decided stored.stored stored.in_range stored.seated (λ other is. absurd (cc))
