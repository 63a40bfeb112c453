use Rattle.std.proofs.Common.{◌≡◌, inl, inr, true, false, length, refl, sym, ap, ◌∙◌, subst, arith}
use Rattle.std.specs.Prelude.{Ok, Err}
use Rattle.lift_register.specs.Register.{register_of}
use Rattle.lift_policy.specs.Step.{State}
use Rattle.lift_journal.specs.declared.fault.JournalFault.TheVariants.{Disk}
use Rattle.lift_keeper.specs.declared.fault.KeeperFault.TheVariants.{Journal}
use Rattle.lift_keeper.specs.Calls.{CommitCalls}
use Rattle.lift_keeper.specs.Commits.{CommitsTo}
use Rattle.lift_keeper.specs.Writer.{WriterView}
use Rattle.lift_clerk.specs.declared.counts.Counts.{Counts}
use Rattle.lift_clerk.specs.Clerk.{ClerkState}
use Rattle.lift_clerk.specs.Turn.{IsTurn, IsFailedTurn, IsBrokenTurn}
use Rattle.lift_clerk.specs.Answering.{stored_replies}
use Rattle.lift_clerk.proofs.Turning.{owes_all, serves_all, serves_rest, is_whole, same_keeper, good_turn, failed_turn, broken_turn, committed, not_committed, calls_on_ok, calls_on_err}
use Rattle.lift_clerk.proofs.clerk.Clerk.turn.Goals as goal

pub returns-in-Ok-clause-answered : goal.returns-in-Ok-clause-answered
returns-in-Ok-clause-answered g c =
    let s = c.self.inside in
    let all = c.scan_desk.ensures.1 in
    let now = c.scan_desk.new.scanner in
    let answers = c.scan_desk.new.found.items in
    let serves = serves_all s.desk.now (g.P.Policy.chooses s.parts.policy) s.parts.seat now.seat c.answer_all.new.self s.parts.keeper now.keeper answers true c.self.invariant.seated all c.answer_all.ensures.stored c.answer_all.ensures.in_range in
    serves_rest s.parts.seat c.answer_all.new.self all.scans.visits (stored_replies true answers) serves c.self.invariant.answered

pub returns-in-Err-clause-answered : goal.returns-in-Err-clause-answered
returns-in-Err-clause-answered g c =
    let s = c.self.inside in
    let all = c.scan_desk.ensures.1 in
    let now = c.scan_desk.new.scanner in
    let answers = c.scan_desk.new.found.items in
    let serves = serves_all s.desk.now (g.P.Policy.chooses s.parts.policy) s.parts.seat now.seat c.answer_all-in-Err.new.self s.parts.keeper now.keeper answers false c.self.invariant.seated all c.answer_all-in-Err.ensures.stored c.answer_all-in-Err.ensures.in_range in
    serves_rest s.parts.seat c.answer_all-in-Err.new.self all.scans.visits (stored_replies false answers) serves c.self.invariant.answered

pub invariant_of-self : goal.invariant_of-self
invariant_of-self g c =
    let s = c.self.inside in
    let all = c.scan_desk.ensures.1 in
    let now = c.scan_desk.new.scanner in
    let answers = c.scan_desk.new.found.items in
    let serves = serves_all s.desk.now (g.P.Policy.chooses s.parts.policy) s.parts.seat now.seat c.answer_all.new.self s.parts.keeper now.keeper answers true c.self.invariant.seated all c.answer_all.ensures.stored c.answer_all.ensures.in_range in
    record {
      seated = c.answer_all.ensures.seated;
      answered = serves_rest s.parts.seat c.answer_all.new.self all.scans.visits (stored_replies true answers) serves c.self.invariant.answered;
      empty_batch = inl (ap (λ (t : State). t.batch) c.in-Ok.ensures.begins);
    }

pub invariant_of-self-in-Err : goal.invariant_of-self-in-Err
invariant_of-self-in-Err g c =
    let s = c.self.inside in
    let all = c.scan_desk.ensures.1 in
    let now = c.scan_desk.new.scanner in
    let answers = c.scan_desk.new.found.items in
    let serves = serves_all s.desk.now (g.P.Policy.chooses s.parts.policy) s.parts.seat now.seat c.answer_all-in-Err.new.self s.parts.keeper now.keeper answers false c.self.invariant.seated all c.answer_all-in-Err.ensures.stored c.answer_all-in-Err.ensures.in_range in
    record {
      seated = c.answer_all-in-Err.ensures.seated;
      answered = serves_rest s.parts.seat c.answer_all-in-Err.new.self all.scans.visits (stored_replies false answers) serves c.self.invariant.answered;
      empty_batch = inr c.in-Err.ensures.commits.breaks;
    }

pub returns-in-Ok-clause-commits : goal.returns-in-Ok-clause-commits
returns-in-Ok-clause-commits g c =
    let after = c.commit.new.self in
    let shown = c.register-shown in
    let counts : Counts = record { taken = c.len.result; accepted = c.pending.result } in
    subst (λ (v : ClerkState g.row.D.Denot g.row.P.Denot). CommitsTo {D = g.row.D.Denot} {T = Counts} g.D.Disk.state v.keeper.writer c.pending.result after.state.register after.writer (Ok counts)) c.self.view_is
    (committed g.D.Disk.state c.self.inside.parts.keeper.writer c.scan_desk.new.scanner.keeper after shown.result.now c.scan_desk.ensures.1.writer shown.ensures.value shown.ensures.ahead counts c.pending.ensures.value c.in-Ok.ensures.begins c.in-Ok.ensures.commits)

pub returns-in-Ok-clause-calls : goal.returns-in-Ok-clause-calls
returns-in-Ok-clause-calls g c =
    let after = c.commit.new.self in
    let shown = c.register-shown in
    let counts : Counts = record { taken = c.len.result; accepted = c.pending.result } in
    subst (λ (v : ClerkState g.row.D.Denot g.row.P.Denot). CommitCalls {D = g.row.D.Denot} {T = Counts} g.D.Disk.state v.keeper.writer c.pending.result after.writer (Ok counts)) c.self.view_is
    (calls_on_ok g.D.Disk.state c.self.inside.parts.keeper.writer c.scan_desk.new.scanner.keeper after shown.result.now c.scan_desk.ensures.1.writer shown.ensures.value shown.ensures.ahead counts c.pending.ensures.value c.in-Ok.ensures.calls)

pub returns-in-Err-clause-calls : goal.returns-in-Err-clause-calls
returns-in-Err-clause-calls g c =
    let after = c.commit.new.self in
    let shown = c.register-shown in
    let fault = c.in-Err.fault in
    subst (λ (v : ClerkState g.row.D.Denot g.row.P.Denot). CommitCalls {D = g.row.D.Denot} {T = Counts} g.D.Disk.state v.keeper.writer (length after.state.batch) after.writer (Err fault)) c.self.view_is
    (calls_on_err g.D.Disk.state c.self.inside.parts.keeper.writer c.scan_desk.new.scanner.keeper after shown.result.now c.scan_desk.ensures.1.writer shown.ensures.value shown.ensures.ahead fault c.in-Err.ensures.unmoved c.in-Err.ensures.calls)

pub returns-in-Err-clause-commits : goal.returns-in-Err-clause-commits
returns-in-Err-clause-commits g c =
    let after = c.commit.new.self in
    let shown = c.register-shown in
    let fault = c.in-Err.fault in
    subst (λ (v : ClerkState g.row.D.Denot g.row.P.Denot). CommitsTo {D = g.row.D.Denot} {T = Counts} g.D.Disk.state v.keeper.writer (length after.state.batch) after.state.register after.writer (Err fault)) c.self.view_is
    (not_committed g.D.Disk.state c.self.inside.parts.keeper.writer c.scan_desk.new.scanner.keeper after shown.result.now c.scan_desk.ensures.1.writer shown.ensures.value shown.ensures.ahead fault c.in-Err.ensures.unmoved c.in-Err.ensures.commits)

pub returns-in-Err-clause-fails : goal.returns-in-Err-clause-fails
returns-in-Err-clause-fails g c = λ of_disk.
    let s = c.self.inside in
    let all = c.scan_desk.ensures.1 in
    let now = c.scan_desk.new.scanner in
    let answers = c.scan_desk.new.found.items in
    let between = now.keeper in
    let writer = all.writer in
    let commit = c.in-Err.ensures.commits in
    let old : ClerkState g.row.D.Denot g.row.P.Denot = record { desk = s.desk.now; seat = s.parts.seat; keeper = s.parts.keeper; policy = s.parts.policy } in
    let new : ClerkState g.row.D.Denot g.row.P.Denot = record { desk = s.desk.now; seat = c.answer_all-in-Err.new.self; keeper = c.commit.new.self; policy = now.policy } in
    let fault : c.in-Err.fault ≡ Journal Disk = cc in
    let whole : between.writer.is_broken ≡ false = is_whole between.writer.is_broken (λ broken. let other = commit.broken.1 broken in cc) in
    let shown = c.register-shown.ensures in
    subst (λ (v : ClerkState g.row.D.Denot g.row.P.Denot). IsFailedTurn (g.P.Policy.chooses v.policy) v new) c.self.view_is
    (failed_turn s.desk.now (g.P.Policy.chooses s.parts.policy) old new now.seat between answers c.self.invariant.seated all c.answer_all-in-Err.ensures.stored c.answer_all-in-Err.ensures.in_range refl c.self.invariant.empty_batch
    (sym (ap (λ (w : WriterView g.row.D.Denot). w.is_broken) writer) ∙ whole)
    c.in-Err.ensures.unmoved
    (λ none. let no = (commit.empty whole none).0 in cc)
    (commit.doubts (ap Err fault))
    (sym shown.value ∙ shown.ahead whole ∙ ap (λ (w : WriterView g.row.D.Denot). register_of w.register between.state.batch) writer))

pub returns-in-Err-clause-rests : goal.returns-in-Err-clause-rests
returns-in-Err-clause-rests g c = λ was.
    let s = c.self.inside in
    let all = c.scan_desk.ensures.1 in
    let now = c.scan_desk.new.scanner in
    let answers = c.scan_desk.new.found.items in
    let between = now.keeper in
    let writer = all.writer in
    let old : ClerkState g.row.D.Denot g.row.P.Denot = record { desk = s.desk.now; seat = s.parts.seat; keeper = s.parts.keeper; policy = s.parts.policy } in
    let new : ClerkState g.row.D.Denot g.row.P.Denot = record { desk = s.desk.now; seat = c.answer_all-in-Err.new.self; keeper = c.commit.new.self; policy = now.policy } in
    let broken : s.parts.keeper.writer.is_broken ≡ true = ap (λ (v : ClerkState g.row.D.Denot g.row.P.Denot). v.keeper.writer.is_broken) c.self.view_is ∙ was in
    subst (λ (v : ClerkState g.row.D.Denot g.row.P.Denot). IsBrokenTurn v new) c.self.view_is
    (broken_turn s.desk.now (g.P.Policy.chooses s.parts.policy) old new now.seat between answers c.self.invariant.seated all c.answer_all-in-Err.ensures.stored c.answer_all-in-Err.ensures.in_range refl
    broken (same_keeper c.commit.new.self between c.in-Err.ensures.unmoved (c.in-Err.ensures.commits.rests (ap (λ (w : WriterView g.row.D.Denot). w.is_broken) writer ∙ broken))))

pub answer_all-requires : goal.answer_all-requires
answer_all-requires g c =
    let s = c.self.inside in
    (omega arith, (c.scan_desk.ensures.1.seated, owes_all s.desk.now (g.P.Policy.chooses s.parts.policy) s.parts.seat c.scan_desk.new.scanner.seat s.parts.keeper c.scan_desk.new.scanner.keeper c.scan_desk.new.found.items c.self.invariant.seated c.scan_desk.ensures.1))

pub answer_all-requires-in-Err : goal.answer_all-requires-in-Err
answer_all-requires-in-Err g c =
    let s = c.self.inside in
    (omega arith, (c.scan_desk.ensures.1.seated, owes_all s.desk.now (g.P.Policy.chooses s.parts.policy) s.parts.seat c.scan_desk.new.scanner.seat s.parts.keeper c.scan_desk.new.scanner.keeper c.scan_desk.new.found.items c.self.invariant.seated c.scan_desk.ensures.1))

pub returns-in-Ok-clause-turns : goal.returns-in-Ok-clause-turns
returns-in-Ok-clause-turns g c =
    let s = c.self.inside in
    let all = c.scan_desk.ensures.1 in
    let now = c.scan_desk.new.scanner in
    let answers = c.scan_desk.new.found.items in
    let between = now.keeper in
    let writer = all.writer in
    let commit = c.in-Ok.ensures.commits in
    let old : ClerkState g.row.D.Denot g.row.P.Denot = record { desk = s.desk.now; seat = s.parts.seat; keeper = s.parts.keeper; policy = s.parts.policy } in
    let new : ClerkState g.row.D.Denot g.row.P.Denot = record { desk = s.desk.now; seat = c.answer_all.new.self; keeper = c.commit.new.self; policy = now.policy } in
    let counts : Counts = record { taken = c.len.result; accepted = c.pending.result } in
    let whole : between.writer.is_broken ≡ false = is_whole between.writer.is_broken (λ broken. let other = commit.broken.1 broken in cc) in
    let shown = c.register-shown.ensures in
    subst (λ (v : ClerkState g.row.D.Denot g.row.P.Denot). IsTurn (g.P.Policy.chooses v.policy) v new counts) c.self.view_is
    (good_turn s.desk.now (g.P.Policy.chooses s.parts.policy) old new now.seat between answers counts c.self.invariant.seated all c.answer_all.ensures.stored c.answer_all.ensures.in_range refl c.self.invariant.empty_batch
    (sym (ap (λ (w : WriterView g.row.D.Denot). w.is_broken) writer) ∙ whole)
    c.in-Ok.ensures.begins
    (sym shown.value ∙ shown.ahead whole ∙ ap (λ (w : WriterView g.row.D.Denot). register_of w.register between.state.batch) writer)
    c.len.ensures.value c.pending.ensures.value)
