-- What the looks and the answers of a flusher's turn come to.
use Rattle.std.proofs.Common.{◌≡◌, ◌≢◌, ℕ, zero, suc, ◌<◌, ◌≤◌, Bool, true, false, List, [], ◌∷◌, ◌++◌, length, get_or, Option, Some, refl, sym, ap, ◌∙◌, subst, arith, length-append}
use Rattle.std.specs.Prelude.{nat_eq, All, Result, Ok, Err, is_ok}
use Rattle.std.proofs.lemmas.Bool.Decides.{nat_tests}
use Rattle.std.proofs.lemmas.List.{append_cancel_left, get_or-set_same, get_or-set_other, length-map}
use Rattle.atomic_table.specs.Seated.{TableId}
use Rattle.lift_disk.specs.Disk.{DiskState}
use Rattle.lift_register.specs.Register.{register_of}
use Rattle.lift_desk.specs.declared.view.ClerkView.{ClerkView}
use Rattle.lift_desk.specs.declared.words.Ask.{Ask}
use Rattle.lift_desk.specs.Words.{turn_of, last_of, number_of, reply_word, IsReply}
use Rattle.lift_desk.specs.Steps.{with_taking}
use Rattle.lift_desk.specs.Seats.{ClerkPlace, IsClerkOf, no_place, view_at, clerk_with, ahead_from, TakesOf, Owes, OwesNothing}
use Rattle.lift_desk.specs.lemmas.Places.{view_at-here}
use Rattle.lift_desk.specs.lemmas.WordLists.{last_of-push}
use Rattle.lift_keeper.specs.declared.fault.KeeperFault.{KeeperFault}
use Rattle.lift_keeper.specs.Commits.{Commits}
use Rattle.lift_keeper.specs.Writer.{WriterView}
use Rattle.lift_keeper.specs.lemmas.Committed.{whole_before}
use Rattle.lift_clerk.specs.declared.answering.DueAnswer.{DueAnswer}
use Rattle.lift_clerk.specs.Answering.{AreOwed, terminals_in, stored_reply, stored_replies, with_answers}
use Rattle.lift_clerk.specs.TakenAndAnswered.{AreApart, ask_of}
use Rattle.lift_clerk.specs.lemmas.Lists.{AreOthers}
use Rattle.lift_clerk.specs.Visits.{Visit, FindsAt}
use Rattle.lift_clerk.specs.lemmas.Visiting.{taken-new}
use Rattle.lift_clerk.specs.lemmas.Looking.{Looked}
use Rattle.lift_parts.specs.declared.counts.FlushCounts.{FlushCounts}
use Rattle.lift_parts.specs.declared.taken.NotedCommand.{NotedCommand}
use Rattle.lift_parts.specs.Batch.{BatchState, AreBelow, commands_in, turns_of, turns_with, turns_after, IsDecided, IsNoted, AreNoted}
use Rattle.lift_parts.specs.Flusher.{AnswersBatch, AllAnsweredBy, LooksGive, noted_visit, looked_for, answers_in}
use Rattle.lift_parts.specs.lemmas.Settled.{at-each-terminal, owed-after, told_after}
use Rattle.lift_parts.specs.lemmas.Used.{is_below}
use Rattle.lift_relay.specs.Settler.{AreDue, SettlerState, SettlesBatch}

-- what is taken is the word that was read
one_end : (xs : List ℕ) (x y : ℕ) → xs ++ x ∷ [] ≡ xs ++ y ∷ [] → x ≡ y
one_end xs x y e = let same = append_cancel_left xs (x ∷ []) (y ∷ []) e in cc

one_word : (view : ClerkView) (word other : ℕ) (found : Option Ask) (taken : NotedCommand) → TakesOf view word found → found ≡ Some (ask_of taken.command) → (with_taking view word).taken ≡ view.taken ++ other ∷ [] → word ≡ other
one_word view word other found taken takes gives now =
    let is : TakesOf view word (Some (ask_of taken.command)) = subst (TakesOf view word) gives takes in
    one_end view.taken word other (sym (taken-new view word is.0) ∙ now)

-- one look found its command
pub finds_one : (places next : List ClerkPlace) (taken : NotedCommand) (word : ℕ) (found : Option Ask) → taken.command.terminal < length places → Looked FindsAt places next taken.command.terminal word found
    → found ≡ Some (ask_of taken.command) → (view_at next taken.command.terminal).taken ≡ (view_at places taken.command.terminal).taken ++ taken.note.word ∷ []
    → FindsAt (get_or places taken.command.terminal no_place) (noted_visit taken)
    × (next ≡ clerk_with places taken.command.terminal (with_taking (view_at places taken.command.terminal) taken.note.word))
finds_one places next taken word found inside look gives noted =
    let t = taken.command.terminal in
    let here : view_at next t ≡ with_taking (view_at places t) word = ap (λ (l : List ClerkPlace). view_at l t) look.seat_is ∙ view_at-here places t (with_taking (view_at places t) word) inside in
    let is : word ≡ taken.note.word = one_word (view_at places t) word taken.note.word found taken look.look.reads gives (ap (λ (v : ClerkView). v.taken) (sym here) ∙ noted) in (
      subst (λ (v : Visit). FindsAt (get_or places t no_place) v) (λ i. record { word = is i; found = gives i }) look.look,
      look.seat_is ∙ ap (λ (n : ℕ). clerk_with places t (with_taking (view_at places t) n)) is,
    )

is_same : (m n : ℕ) → nat_eq m n ≡ true → m ≡ n
is_same m n e = grind (arith, nat_tests)

is_other : (m n : ℕ) → nat_eq m n ≡ false → m ≢ n
is_other m n e = grind (arith, nat_tests)

-- what these seats took is no later than these turns
abbrev Late : List ClerkPlace → List ℕ → Type 0
Late places turns = (t : ℕ) → turn_of (last_of (view_at places t).taken) ≤ get_or turns t 0

still_late : (desk : List TableId) (places : List ClerkPlace) (turns : List ℕ) (taken : NotedCommand) → IsNoted desk turns taken → Late places turns → Late places (turns_with turns taken)
still_late desk places turns taken noted late j = at j (nat_eq j taken.command.terminal) refl
  where
    at : (j : ℕ) (b : Bool) → nat_eq j taken.command.terminal ≡ b → turn_of (last_of (view_at places j).taken) ≤ get_or (turns_with turns taken) j 0
    at j true e =
        let now = get_or-set_same turns taken.command.terminal (turn_of taken.note.word) 0 noted.counted in
        let was = late taken.command.terminal in
        let later = noted.later in
        subst (λ k. turn_of (last_of (view_at places k).taken) ≤ get_or (turns_with turns taken) k 0) (sym (is_same j taken.command.terminal e)) (omega arith)
    at j false e =
        let now = get_or-set_other turns taken.command.terminal j (turn_of taken.note.word) 0 (is_other j taken.command.terminal e) in
        let was = late j in
        omega arith

all_due : (desk : List TableId) (places : List ClerkPlace) (turns : List ℕ) (commands : List NotedCommand) → AreBelow (length desk) (commands_in commands) → AreNoted desk turns commands → Late places turns
    → AreDue desk places commands
all_due desk places turns [] below noted late = tt
all_due desk places turns (t ∷ commands) below noted late =
    let later = noted.0.later in
    let was = late t.command.terminal in (
      (below.0, noted.0.of_table, (noted.0.in_range, (is_below _ _ (omega arith), noted.0.says))),
      all_due desk places (turns_with turns t) commands below.1 noted.1 (still_late desk places turns t noted.0 late),
    )

-- so each command is an ask after all that they took
pub are_due : {D : Type 0} (s old : SettlerState D) (view : s ≡ old) (batch : BatchState) (items : List NotedCommand) → items ≡ batch.commands → batch.desk ≡ old.desk → AllAnsweredBy old.seat batch.turns
    → AreBelow (length batch.desk) (commands_in batch.commands) → AreNoted batch.desk batch.turns batch.commands → AreDue s.desk s.seat items
are_due {D} s old view batch items is at_desk answered below noted =
    subst (λ (x : List TableId × List ClerkPlace × List NotedCommand). AreDue x.0 x.1 x.2) (λ i. ((at_desk ∙ ap (λ (v : SettlerState D). v.desk) (sym view)) i, (sym view i).seat, sym is i))
    (all_due batch.desk old.seat batch.turns batch.commands below noted (λ t. (let same = (answered t).1 in omega arith)))

pub after_last : (turns : List ℕ) (xs : List NotedCommand) (x : NotedCommand) → turns_after turns (xs ++ x ∷ []) ≡ turns_with (turns_after turns xs) x
after_last turns [] x = refl
after_last turns (y ∷ xs) x = after_last (turns_with turns y) xs x

turns_else : (turns : List ℕ) (batch : List NotedCommand) (j : ℕ) → AreOthers j (commands_in batch) → get_or (turns_after turns batch) j 0 ≡ get_or turns j 0
turns_else turns [] j others = refl
turns_else turns (t ∷ batch) j others =
    turns_else (turns_with turns t) batch j others.1 ∙ get_or-set_other turns t.command.terminal j (turn_of t.note.word) 0 (λ e. others.0 (sym e))

-- nothing is owed at a terminal, and the last that was taken there has its turn
module _ (desk : List TableId) (is_safe : Bool) (j : ℕ) where
  abbrev Rests : List NotedCommand → ClerkPlace → ClerkView → Type 0
  Rests batch p after = (turns : List ℕ) → AreNoted desk turns batch → (¬ Owes p.view) × (turn_of (last_of p.view.taken) ≡ get_or turns j 0)
      → (¬ Owes after) × (turn_of (last_of after.taken) ≡ get_or (turns_after turns batch) j 0)

  skips : (t : NotedCommand) (batch : List NotedCommand) (p : ClerkPlace) (v : ClerkView) → t.command.terminal ≢ j → Rests batch p v → Rests (t ∷ batch) p v
  skips t batch p v apart rests turns noted was =
      let same = get_or-set_other turns t.command.terminal j (turn_of t.note.word) 0 (λ e. apart (sym e)) in
      let late = was.1 in
      rests (turns_with turns t) noted.1 (was.0, omega arith)

  answers_own : (t : NotedCommand) (batch : List NotedCommand) (p : ClerkPlace) → t.command.terminal ≡ j → AreOthers j (commands_in batch) → FindsAt p (noted_visit t)
      → Rests (t ∷ batch) p (told_after is_safe t p.view)
  answers_own t batch p at others finds turns noted was =
      let view = with_taking p.view t.note.word in
      let more : view.taken ≡ p.view.taken ++ t.note.word ∷ [] = taken-new p.view t.note.word finds.reads.0 in
      let even : length p.view.answered ≡ length p.view.taken = finds.even refl in
      let last : turn_of (last_of view.taken) ≡ turn_of t.note.word = ap (λ l. turn_of (last_of l)) more ∙ ap turn_of (last_of-push p.view.taken t.note.word) in
      let now : get_or (turns_with turns t) j 0 ≡ turn_of t.note.word =
      subst (λ (k : ℕ). get_or (turns_with turns t) k 0 ≡ turn_of t.note.word) at (get_or-set_same turns t.command.terminal (turn_of t.note.word) 0 noted.0.counted) in
      let after = turns_else (turns_with turns t) batch j others in (
        (λ owes. omega (arith, ap length more, length-append p.view.taken (t.note.word ∷ []), length-append p.view.answered (reply_word (length view.taken) (number_of (last_of view.taken)) (stored_reply is_safe t.reply) ∷ []))),
        omega arith,
      )

settled : (desk : List TableId) (is_safe : Bool) (places next : List ClerkPlace) (turns : List ℕ) (batch : List NotedCommand) → AreBelow (length places) (commands_in batch) → AreApart (commands_in batch)
    → AreNoted desk turns batch → AnswersBatch is_safe places batch next → AllAnsweredBy places turns → AllAnsweredBy next (turns_after turns batch)
settled desk is_safe places next turns batch below apart noted answered was j =
    subst (λ (l : List ClerkPlace). (¬ Owes (view_at l j)) × (turn_of (last_of (view_at l j).taken) ≡ get_or (turns_after turns batch) j 0)) (sym answered.stored)
    (at-each-terminal is_safe j (Rests desk is_safe j) (λ p turns noted rests. rests) (skips desk is_safe j) (answers_own desk is_safe j) places batch below apart answered.finds turns noted (was j))

-- what is safe after a batch, where nothing has failed
leads_to : {D : Type 0} (state : D → DiskState) (old new : WriterView D) (batch : BatchState) (answer : Result FlushCounts KeeperFault) → IsDecided batch
    → (old.is_broken ≡ false → (batch.building ≡ old.plan) × (batch.before.register ≡ old.register)) → Commits state old batch.entries new answer → new.is_broken ≡ false → new.register ≡ batch.after.register
leads_to state old new batch (Ok counts) is next c whole =
    let was = whole_before state old batch.entries new (Ok counts) c (λ is. cc) in c.safe.register ∙ ap (λ r. register_of r batch.entries) (sym (next was).1) ∙ sym is.shows
leads_to state old new batch (Err fault) is next c whole = absurd (let broken = c.breaks in cc)

-- what was looked for is owed its answers, and once they are stored the batch is settled
module _ {D : Type 0} (state : D → DiskState) (s old : SettlerState D) (view : s ≡ old) (batch : BatchState) (seat : List ClerkPlace) (items : List NotedCommand) (answers : List DueAnswer)
    (at_desk : batch.desk ≡ old.desk) (seated : IsClerkOf s.desk s.seat) (below : AreBelow (length batch.desk) (commands_in batch.commands)) (apart : AreApart (commands_in batch.commands))
    (is : items ≡ batch.commands) (found : LooksGive s.seat items) (looked : seat ≡ looked_for s.seat items) (told : answers ≡ answers_in items) where
  finds : LooksGive s.seat batch.commands
  finds = subst (LooksGive s.seat) is found

  seats : seat ≡ looked_for s.seat batch.commands
  seats = looked ∙ ap (looked_for s.seat) is

  due : answers ≡ answers_in batch.commands
  due = told ∙ ap answers_in is

  desks : batch.desk ≡ s.desk
  desks = at_desk ∙ ap (λ (v : SettlerState D). v.desk) (sym view)

  many : length s.seat ≡ length batch.desk
  many = sym (length-map s.seat (λ (p : ClerkPlace). p.table)) ∙ ap length (seated ∙ sym desks)

  pub owes_them : AreOwed s.desk seat (terminals_in answers)
  owes_them = subst (λ (x : List TableId × List ClerkPlace × List DueAnswer). AreOwed x.0 x.1 (terminals_in x.2)) (λ i. (desks i, sym seats i, sym due i)) (owed-after batch.desk s.seat batch.commands many below apart finds)

  pub settles : (answer : Result FlushCounts KeeperFault) (writer : WriterView D) (next : List ClerkPlace) → Commits state s.writer batch.entries writer answer
      → (old.writer.is_broken ≡ false → (batch.building ≡ old.writer.plan) × (batch.before.register ≡ old.writer.register)) → AllAnsweredBy old.seat batch.turns → AreNoted batch.desk batch.turns batch.commands → IsDecided batch
      → next ≡ with_answers (is_ok answer) seat answers → All IsReply (stored_replies (is_ok answer) answers) → IsClerkOf s.desk next
      → ((counts : FlushCounts) → answer ≡ Ok counts → (counts.batches ≡ 1) × (counts.answers ≡ length answers)) → SettlesBatch state old batch (record { desk = s.desk; seat = next; writer = writer }) answer
  settles answer writer next c onto all noted decided stored in_range seated counts =
      let answered : AnswersBatch (is_ok answer) s.seat batch.commands next = record {
        finds = finds;
        stored = stored ∙ (λ i. with_answers (is_ok answer) (seats i) (due i));
        in_range = subst (λ (l : List DueAnswer). All IsReply (stored_replies (is_ok answer) l)) due in_range;
      } in
      let many_answers = ap length due ∙ length-map batch.commands (λ (t : NotedCommand). record { terminal = t.command.terminal; reply = t.reply }) in
      let was = sym view in
      subst (λ (v : SettlerState D). SettlesBatch state v batch (record { desk = s.desk; seat = next; writer = writer }) answer) view (record {
        commits = c;
        answered = answered;
        counts = λ n is. ((counts n is).0, (counts n is).1 ∙ many_answers);
        leads = leads_to state s.writer writer batch answer decided
            (subst (λ (v : SettlerState D). v.writer.is_broken ≡ false → (batch.building ≡ v.writer.plan) × (batch.before.register ≡ v.writer.register)) was onto) c;
        all_answered = settled batch.desk (is_ok answer) s.seat next batch.turns batch.commands (subst (λ n. AreBelow n (commands_in batch.commands)) (sym many) below) apart noted answered
            (subst (λ (v : SettlerState D). AllAnsweredBy v.seat batch.turns) was all);
        seated = seated;
        decided = decided;
        at_desk = below;
        apart = apart;
        same = refl;
      })

-- as the clerk's seats are where it is split
pub answered_first : (clerk : List ClerkPlace) → OwesNothing clerk → AllAnsweredBy clerk (turns_of (ahead_from clerk))
answered_first [] owes t = (λ h. omega arith, omega arith)
answered_first (p ∷ clerk) owes zero = (owes 0 p (omega arith), omega arith)
answered_first (p ∷ clerk) owes (suc t) = answered_first clerk (λ k d below. owes (suc k) d (omega arith)) t
