-- A turn, of its scan, its commit and its answers.
use Rattle.std.proofs.Common.{◌≡◌, ◌⊎◌, ⊎_elim, ◌<◌, Bool, true, false, List, [], ◌∷◌, All, length, refl, sym, ap, ◌∙◌, subst, arith}
use Rattle.std.specs.Prelude.{Ok, Err}
use Rattle.std.proofs.lemmas.List.{length-map}
use Rattle.atomic_table.specs.Seated.{TableId}
use Rattle.lift_base.specs.declared.history.Entry.{Entry}
use Rattle.lift_base.specs.declared.command.Reply.{Reply}
use Rattle.lift_building.specs.Plan.{Plan}
use Rattle.lift_disk.specs.Disk.{DiskState}
use Rattle.lift_register.specs.Register.{RegisterState, register_of}
use Rattle.lift_desk.specs.Words.{IsReply}
use Rattle.lift_desk.specs.Seats.{ClerkPlace, IsClerkOf, OwesNothing}
use Rattle.lift_policy.specs.declared.command.Command.{Command}
use Rattle.lift_policy.specs.Eligible.{Choice}
use Rattle.lift_policy.specs.Run.{Run}
use Rattle.lift_policy.specs.Step.{State}
use Rattle.lift_keeper.specs.declared.fault.KeeperFault.{KeeperFault}
use Rattle.lift_keeper.specs.Calls.{CommitCalls}
use Rattle.lift_keeper.specs.Commits.{Commits, CommitsTo}
use Rattle.lift_keeper.specs.Keeper.{KeeperView}
use Rattle.lift_keeper.specs.Writer.{WriterView}
use Rattle.lift_keeper.specs.lemmas.Committed.{under_ok, under_err, calls_under_ok, calls_under_err}
use Rattle.lift_clerk.specs.declared.counts.Counts.{Counts}
use Rattle.lift_clerk.specs.declared.answering.DueAnswer.{DueAnswer}
use Rattle.lift_clerk.specs.Visits.{Visit, commands_of, LooksAndAnswers}
use Rattle.lift_clerk.specs.Clerk.{ClerkState}
use Rattle.lift_clerk.specs.Answering.{AreOwed, terminals_in, replies_in, stored_replies, with_answers}
use Rattle.lift_clerk.specs.Scanning.{ClerkScans, Decides}
use Rattle.lift_clerk.specs.Turn.{without_batch, IsTurn, IsFailedTurn, IsBrokenTurn}
use Rattle.lift_clerk.specs.lemmas.Stored.{scan-answered, scan-owed}
use Rattle.lift_clerk.specs.lemmas.Visiting.{nothing_owed}
use Rattle.lift_clerk.proofs.Answered.{many-commands, told_unknown}

-- what was found can be answered
pub owes_all : {D : Type 0} (desk : List TableId) (choice : Choice) (places seat : List ClerkPlace) (before after : KeeperView D) (answers : List DueAnswer) → IsClerkOf desk places
    → ClerkScans choice desk places seat before after answers (length desk) → AreOwed desk seat (terminals_in answers)
owes_all desk choice places seat before after answers seated all =
    subst (λ (l : List ClerkPlace). AreOwed desk l (terminals_in answers)) (sym all.scans.looked)
    (scan-owed desk places all.scans.visits (terminals_in answers) (sym (length-map places (λ (p : ClerkPlace). p.table)) ∙ ap length seated) all.scans.looks all.scans.found.terminals)

-- each look is answered
pub serves_all : {D : Type 0} (desk : List TableId) (choice : Choice) (places seat next : List ClerkPlace) (before after : KeeperView D) (answers : List DueAnswer) (is_safe : Bool) → IsClerkOf desk places
    → (all : ClerkScans choice desk places seat before after answers (length desk)) → next ≡ with_answers is_safe seat answers → All IsReply (stored_replies is_safe answers)
    → LooksAndAnswers places next all.scans.visits (stored_replies is_safe answers)
serves_all desk choice places seat next before after answers is_safe seated all is in_range = record {
  each_once = all.scans.count ∙ sym (ap length seated) ∙ length-map places (λ (p : ClerkPlace). p.table);
  finds = all.scans.looks;
  one_reply_each = length-map answers _ ∙ many-commands answers (commands_of 0 all.scans.visits) all.scans.found.terminals;
  stored = is ∙ ap (λ (l : List ClerkPlace). with_answers is_safe l answers) all.scans.looked ∙ scan-answered is_safe places all.scans.visits answers all.scans.looks all.scans.found.terminals;
  in_range = in_range;
}

-- and then nothing is owed
pub serves_rest : (old new : List ClerkPlace) (visits : List Visit) (replies : List Reply) → LooksAndAnswers old new visits replies → OwesNothing old → OwesNothing new
serves_rest old new visits replies serves rests = subst OwesNothing (sym serves.stored) (nothing_owed 0 old visits replies serves.finds serves.one_reply_each rests)

pub not_empty : {A : Type 0} (xs : List A) → (xs ≡ [] → ⊥) → 0 < length xs
not_empty [] some = absurd (some refl)
not_empty (x ∷ xs) some = omega arith

pub is_whole : (b : Bool) → (b ≡ true → ⊥) → b ≡ false
is_whole true not = absurd (not refl)
is_whole false not = refl

-- a scan while whole has decided by the rules
pub run_of : (choice : Choice) (plan : Plan) (is_broken : Bool) (before after : State) (commands : List Command) (replies : List Reply) → is_broken ≡ false
    → Decides is_broken plan choice before commands replies after → Run plan choice before commands replies after
run_of choice plan true before after commands replies whole decides = absurd (cc)
run_of choice plan false before after commands replies whole decides = decides

-- and while broken has changed nothing
pub rest_of : (choice : Choice) (plan : Plan) (is_broken : Bool) (before after : State) (commands : List Command) (replies : List Reply) → is_broken ≡ true
    → Decides is_broken plan choice before commands replies after → after ≡ before
rest_of choice plan true before after commands replies broken decides = decides.1
rest_of choice plan false before after commands replies broken decides = absurd (cc)

pub same_keeper : {D : Type 0} (k l : KeeperView D) → k.state ≡ l.state → k.writer ≡ l.writer → k ≡ l
same_keeper k l states writers = λ i. record { state = states i; writer = writers i }

pub nothing_waits : (batch : List Entry) (is_broken : Bool) → (batch ≡ []) ⊎ (is_broken ≡ true) → is_broken ≡ false → batch ≡ []
nothing_waits batch is_broken empty_batch whole = ⊎_elim (λ none. none) (λ broken. absurd (cc)) empty_batch

pub good_turn : {D P : Type 0} (desk : List TableId) (choice : Choice) (old new : ClerkState D P) (seat : List ClerkPlace) (between : KeeperView D) (answers : List DueAnswer) (counts : Counts)
    → IsClerkOf desk old.seat
    → (all : ClerkScans choice desk old.seat seat old.keeper between answers (length desk))
    → new.seat ≡ with_answers true seat answers → All IsReply (stored_replies true answers) → new.desk ≡ old.desk
    → (old.keeper.state.batch ≡ []) ⊎ (old.keeper.writer.is_broken ≡ true)
    → old.keeper.writer.is_broken ≡ false
    → new.keeper.state ≡ without_batch between.state
    → between.state.register ≡ register_of old.keeper.writer.register between.state.batch
    → counts.taken ≡ length answers
    → counts.accepted ≡ length between.state.batch
    → IsTurn choice old new counts
good_turn desk choice old new seat between answers counts seated all stored in_range same_desk empty_batch whole after safe taken accepted =
    let scans = all.scans in
    let commands = commands_of 0 scans.visits in
    record {
      visits = scans.visits;
      replies = replies_in answers;
      decided = between.state;
      desk = same_desk;
      serves = serves_all desk choice old.seat seat new.seat old.keeper between answers true seated all stored in_range;
      begins = nothing_waits old.keeper.state.batch old.keeper.writer.is_broken empty_batch whole;
      run = run_of choice old.keeper.writer.plan old.keeper.writer.is_broken old.keeper.state between.state commands (replies_in answers) whole scans.found.decides;
      after = after;
      safe = safe;
      taken = taken ∙ many-commands answers commands scans.found.terminals;
      accepted = accepted;
    }

pub failed_turn : {D P : Type 0} (desk : List TableId) (choice : Choice) (old new : ClerkState D P) (seat : List ClerkPlace) (between : KeeperView D) (answers : List DueAnswer)
    → IsClerkOf desk old.seat
    → (all : ClerkScans choice desk old.seat seat old.keeper between answers (length desk))
    → new.seat ≡ with_answers false seat answers → All IsReply (stored_replies false answers) → new.desk ≡ old.desk
    → (old.keeper.state.batch ≡ []) ⊎ (old.keeper.writer.is_broken ≡ true)
    → old.keeper.writer.is_broken ≡ false
    → new.keeper.state ≡ between.state
    → (between.state.batch ≡ [] → ⊥)
    → new.keeper.writer.doubt ≡ between.state.batch
    → between.state.register ≡ register_of old.keeper.writer.register between.state.batch
    → IsFailedTurn choice old new
failed_turn desk choice old new seat between answers seated all stored in_range same_desk empty_batch whole same some doubt register =
    let scans = all.scans in
    let commands = commands_of 0 scans.visits in
    let many = many-commands answers commands scans.found.terminals in
    record {
      visits = scans.visits;
      decided_so = replies_in answers;
      desk = same_desk;
      serves = subst (LooksAndAnswers old.seat new.seat scans.visits) (told_unknown answers commands many) (serves_all desk choice old.seat seat new.seat old.keeper between answers false seated all stored in_range);
      begins = nothing_waits old.keeper.state.batch old.keeper.writer.is_broken empty_batch whole;
      run = subst (Run old.keeper.writer.plan choice old.keeper.state commands (replies_in answers)) (sym same)
          (run_of choice old.keeper.writer.plan old.keeper.writer.is_broken old.keeper.state between.state commands (replies_in answers) whole scans.found.decides);
      some = subst (λ (s : State). 0 < length s.batch) (sym same) (not_empty between.state.batch some);
      doubt = doubt ∙ ap (λ (s : State). s.batch) (sym same);
      register = subst (λ (s : State). s.register ≡ register_of old.keeper.writer.register s.batch) (sym same) register;
    }

pub broken_turn : {D P : Type 0} (desk : List TableId) (choice : Choice) (old new : ClerkState D P) (seat : List ClerkPlace) (between : KeeperView D) (answers : List DueAnswer)
    → IsClerkOf desk old.seat
    → (all : ClerkScans choice desk old.seat seat old.keeper between answers (length desk))
    → new.seat ≡ with_answers false seat answers → All IsReply (stored_replies false answers) → new.desk ≡ old.desk
    → old.keeper.writer.is_broken ≡ true
    → new.keeper ≡ between
    → IsBrokenTurn old new
broken_turn desk choice old new seat between answers seated all stored in_range same_desk broken same =
    let scans = all.scans in
    let commands = commands_of 0 scans.visits in
    let many = many-commands answers commands scans.found.terminals in
    let rests = rest_of choice old.keeper.writer.plan old.keeper.writer.is_broken old.keeper.state between.state commands (replies_in answers) broken scans.found.decides in
    record {
      visits = scans.visits;
      desk = same_desk;
      serves = subst (LooksAndAnswers old.seat new.seat scans.visits) (told_unknown answers commands many) (serves_all desk choice old.seat seat new.seat old.keeper between answers false seated all stored in_range);
      rests = same ∙ same_keeper between old.keeper rests all.writer;
    }

-- what the scan accepted was committed
module _ {D T : Type 0} (state : D → DiskState) (old : WriterView D) (between after : KeeperView D) (register : RegisterState) (writer : between.writer ≡ old)
    (shown : register ≡ between.state.register) (ahead : between.writer.is_broken ≡ false → register ≡ register_of between.writer.register between.state.batch) where
  pub committed : {a : T} (counts : Counts) → counts.accepted ≡ length between.state.batch → after.state ≡ record between.state { batch = [] }
      → Commits {D = D} {T = T} state between.writer between.state.batch after.writer (Ok a)
      → CommitsTo {D = D} {T = Counts} state old counts.accepted after.state.register after.writer (Ok counts)
  committed {a} counts accepted begins c =
      subst (λ (w : WriterView D). CommitsTo {D = D} {T = Counts} state w counts.accepted after.state.register after.writer (Ok counts)) writer
      (record {
        batch = between.state.batch;
        counted = accepted;
        leads = λ whole. ap (λ (s : State). s.register) begins ∙ sym shown ∙ ahead whole;
        is = under_ok state between.writer between.state.batch after.writer a counts c;
      })

  pub not_committed : (fault : KeeperFault) → after.state ≡ between.state
      → Commits {D = D} {T = T} state between.writer between.state.batch after.writer (Err fault)
      → CommitsTo {D = D} {T = Counts} state old (length after.state.batch) after.state.register after.writer (Err fault)
  not_committed fault same c =
      subst (λ (w : WriterView D). CommitsTo {D = D} {T = Counts} state w (length after.state.batch) after.state.register after.writer (Err fault)) writer
      (record {
        batch = between.state.batch;
        counted = ap (λ (s : State). length s.batch) same;
        leads = λ whole. ap (λ (s : State). s.register) same ∙ sym shown ∙ ahead whole;
        is = under_err state between.writer between.state.batch after.writer fault c;
      })

  pub calls_on_ok : {a : T} (counts : Counts) → counts.accepted ≡ length between.state.batch
      → CommitCalls {D = D} {T = T} state between.writer (length between.state.batch) after.writer (Ok a)
      → CommitCalls {D = D} {T = Counts} state old counts.accepted after.writer (Ok counts)
  calls_on_ok {a} counts accepted c =
      subst (λ (w : WriterView D). CommitCalls {D = D} {T = Counts} state w counts.accepted after.writer (Ok counts)) writer
      (subst (λ n. CommitCalls {D = D} {T = Counts} state between.writer n after.writer (Ok counts)) (sym accepted)
      (calls_under_ok state between.writer (length between.state.batch) after.writer a counts c))

  pub calls_on_err : (fault : KeeperFault) → after.state ≡ between.state
      → CommitCalls {D = D} {T = T} state between.writer (length between.state.batch) after.writer (Err fault)
      → CommitCalls {D = D} {T = Counts} state old (length after.state.batch) after.writer (Err fault)
  calls_on_err fault same c =
      subst (λ (w : WriterView D). CommitCalls {D = D} {T = Counts} state w (length after.state.batch) after.writer (Err fault)) writer
      (subst (λ n. CommitCalls {D = D} {T = Counts} state between.writer n after.writer (Err fault)) (ap (λ (s : State). length s.batch) (sym same))
      (calls_under_err state between.writer (length between.state.batch) after.writer fault c))
