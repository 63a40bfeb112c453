-- What storing answers changes, and what it leaves.
use Rattle.std.proofs.Common.{◌≡◌, ◌≢◌, ℕ, suc, ◌+◌, ◌≤◌, Bool, List, [], ◌∷◌, ◌++◌}
use Rattle.std.proofs.Common.{length, Option, Some, None, refl, sym, ap, ◌∙◌, subst, arith}
use Rattle.std.proofs.Common.{length-append, append_assoc, length-set, get_or}
use Rattle.std.specs.List.{AllByRecursion}
use Rattle.atomic_table.specs.Seated.{TableId}
use Rattle.lift_desk.specs.declared.view.ClerkView.{ClerkView}
use Rattle.lift_desk.specs.declared.words.Ask.{Ask}
use Rattle.lift_desk.specs.Words.{last_of, number_of, reply_word}
use Rattle.lift_desk.specs.Steps.{with_taking, with_answer}
use Rattle.lift_desk.specs.Seats.{ClerkPlace, no_place, view_at, clerk_with, placed_at, Owes}
use Rattle.lift_desk.specs.lemmas.Places.{view_at-else}
use Rattle.lift_desk.specs.lemmas.WordLists.{last_of-push}
use Rattle.lift_policy.specs.declared.command.Command.{Command}
use Rattle.lift_clerk.specs.declared.answering.DueAnswer.{DueAnswer}
use Rattle.lift_clerk.specs.Answering.{AreOwed, terminals_in, stored_reply, stored_replies}
use Rattle.lift_clerk.specs.Answering.{with_answers, with_reply_to_last}
use Rattle.lift_clerk.specs.lemmas.Lists.{AreOthers}
use Rattle.lift_clerk.specs.Scanning.{terminals_of}
use Rattle.lift_clerk.specs.Visits.{Visit, FindsAt, Finds, commands_of, command_at, looked_at, served}
use Rattle.lift_clerk.specs.lemmas.Served.{behind}
use Rattle.lift_clerk.specs.lemmas.Visiting.{taken-new}

-- ---- of any answers
-- one place changed changes what is owed at no other
pub owed-else : (desk : List TableId) (places : List ClerkPlace) (t : ℕ) (v : ClerkView)
    (terminals : List ℕ) → AllByRecursion (λ (other : ℕ). other ≢ t) terminals
    → AreOwed desk places terminals → AreOwed desk (clerk_with places t v) terminals
owed-else desk places t v [] apart owed = tt
owed-else desk places t v (u ∷ terminals) apart owed = (
  owed.0,
  subst Owes (sym (view_at-else places t u v apart.0)) owed.1,
  owed.2,
  owed-else desk places t v terminals apart.1 owed.3,
)

-- what is known at other terminals stays
pub answered-else : (is_safe : Bool) (places : List ClerkPlace) (answers : List DueAnswer) (j : ℕ)
    → AllByRecursion (λ (other : ℕ). other ≢ j) (terminals_in answers)
    → view_at (with_answers is_safe places answers) j ≡ view_at places j
answered-else is_safe places [] j apart = refl
answered-else is_safe places (a ∷ answers) j apart =
    let view = with_reply_to_last (view_at places a.terminal) (stored_reply is_safe a.reply) in
    answered-else is_safe (clerk_with places a.terminal view) answers j apart.1
    ∙ view_at-else places a.terminal j view (λ e. apart.0 (sym e))

pub length-answered : (is_safe : Bool) (places : List ClerkPlace) (answers : List DueAnswer)
    → length (with_answers is_safe places answers) ≡ length places
length-answered is_safe places [] = refl
length-answered is_safe places (a ∷ answers) =
    let view = with_reply_to_last (view_at places a.terminal) (stored_reply is_safe a.reply) in
    length-answered is_safe (clerk_with places a.terminal view) answers
    ∙ length-set places a.terminal
    (placed_at (get_or places a.terminal no_place).table view)

-- ---- of a scan's
-- the place after these
view-seam : (front : List ClerkPlace) (p : ClerkPlace) (places : List ClerkPlace)
    → view_at (front ++ p ∷ places) (length front) ≡ p.view
view-seam [] p places = refl
view-seam (q ∷ front) p places = view-seam front p places

with-seam : (front : List ClerkPlace) (p : ClerkPlace) (places : List ClerkPlace) (v : ClerkView)
    → clerk_with (front ++ p ∷ places) (length front) v ≡ front ++ placed_at p.table v ∷ places
with-seam [] p places v = refl
with-seam (q ∷ front) p places v = ap (λ l. q ∷ l) (with-seam front p places v)

-- the ask that was found is the last that is taken
pub number-taken : (p : ClerkPlace) (word : ℕ) (ask : Ask)
    → FindsAt p (record { word = word; found = Some ask })
    → number_of (last_of (with_taking p.view word).taken) ≡ ask.number
number-taken p word ask finds =
    ap (λ l. number_of (last_of l)) (taken-new p.view word finds.reads.0)
    ∙ ap number_of (last_of-push p.view.taken word) ∙ finds.number

pub owes-taken : (p : ClerkPlace) (word : ℕ) (ask : Ask)
    → FindsAt p (record { word = word; found = Some ask }) → Owes (with_taking p.view word)
owes-taken p word ask finds =
    let even : length p.view.answered ≡ length p.view.taken = finds.even refl in
    omega (
      arith,
      ap length (taken-new p.view word finds.reads.0),
      length-append p.view.taken (word ∷ []),
    )

-- its answer is the first
module _ (is_safe : Bool) (front : List ClerkPlace) (p : ClerkPlace) (word : ℕ) (ask : Ask)
    (a : DueAnswer) (places : List ClerkPlace) where
  abbrev looked : ClerkView
  looked = with_taking p.view word

  abbrev told : ClerkView
  told = with_answer looked
      (reply_word (length looked.taken) ask.number (stored_reply is_safe a.reply))

  first-stored : a.terminal ≡ length front
      → FindsAt p (record { word = word; found = Some ask })
      → (let l = front ++ placed_at p.table looked ∷ places in clerk_with l a.terminal
      (with_reply_to_last (view_at l a.terminal) (stored_reply is_safe a.reply)))
      ≡ front ++ placed_at p.table told ∷ places
  first-stored at finds =
      let l : List ClerkPlace = front ++ placed_at p.table looked ∷ places in
      let reply = stored_reply is_safe a.reply in
      ap (λ t. clerk_with l t (with_reply_to_last (view_at l t) reply)) at
      ∙ ap (λ v. clerk_with l (length front) (with_reply_to_last v reply))
      (view-seam front (placed_at p.table looked) places)
      ∙ with-seam front (placed_at p.table looked) places (with_reply_to_last looked reply)
      ∙ ap (λ n. front ++ placed_at p.table
      (with_answer looked (reply_word (length looked.taken) n reply)) ∷ places)
      (number-taken p word ask finds)

-- the answers to what these looks found are each stored at its place
abbrev Stores : Bool → ℕ → List ClerkPlace → List Visit → Type 0
Stores is_safe first places visits = (front : List ClerkPlace) (answers : List DueAnswer)
    → length front ≡ first → terminals_in answers ≡ terminals_of (commands_of first visits)
    → with_answers is_safe (front ++ looked_at places visits) answers
    ≡ front ++ served places visits (stored_replies is_safe answers)

stored-case : (is_safe : Bool) (first : ℕ) (p : ClerkPlace) (places : List ClerkPlace) (word : ℕ)
    (found : Option Ask) (visits : List Visit)
    → FindsAt p (record { word = word; found = found }) → Stores is_safe (suc first) places visits
    → (front : List ClerkPlace) (answers : List DueAnswer) → length front ≡ first
    → terminals_in answers ≡ terminals_of (command_at first found ++ commands_of (suc first) visits)
    → with_answers is_safe (front ++ placed_at p.table (with_taking p.view word)
    ∷ looked_at places visits) answers
    ≡ front ++ served (p ∷ places) (record { word = word; found = found } ∷ visits)
    (stored_replies is_safe answers)
stored-case is_safe first p places word None visits finds ih front answers many is =
    let q = placed_at p.table (with_taking p.view word) in
    let replies = stored_replies is_safe answers in
    ap (λ l. with_answers is_safe l answers)
    (sym (append_assoc front (q ∷ []) (looked_at places visits)))
    ∙ ih (front ++ q ∷ []) answers (omega (arith, length-append front (q ∷ []))) is
    ∙ append_assoc front (q ∷ []) (served places visits replies)
stored-case is_safe first p places word (Some ask) visits finds ih front [] many is =
    absurd (omega (arith, ap length is))
stored-case is_safe first p places word (Some ask) visits finds ih front (a ∷ answers) many is =
    let replies = stored_replies is_safe answers in
    let looked : ClerkView = with_taking p.view word in
    let told = with_answer looked
    (reply_word (length looked.taken) ask.number (stored_reply is_safe a.reply)) in
    let q = placed_at p.table told in
    let at : a.terminal ≡ first = ap (λ l. get_or l 0 0) is in
    let rest : terminals_in answers ≡ terminals_of (commands_of (suc first) visits) = cc in
    ap (λ l. with_answers is_safe l answers)
    (first-stored is_safe front p word ask a (looked_at places visits) (at ∙ sym many) finds
    ∙ sym (append_assoc front (q ∷ []) (looked_at places visits)))
    ∙ ih (front ++ q ∷ []) answers (omega (arith, length-append front (q ∷ []))) rest
    ∙ append_assoc front (q ∷ []) (served places visits replies)

stored-after : (is_safe : Bool) (first : ℕ) (places : List ClerkPlace) (visits : List Visit)
    → Finds places visits → Stores is_safe first places visits
stored-after is_safe first places [] finds front [] many is = refl
stored-after is_safe first places [] finds front (a ∷ answers) many is =
    absurd (omega (arith, ap length is))
stored-after is_safe first [] (u ∷ visits) finds front answers many is = absurd finds
stored-after is_safe first (p ∷ places) (u ∷ visits) finds front answers many is =
    stored-case is_safe first p places u.word u.found visits finds.0
    (stored-after is_safe (suc first) places visits finds.1) front answers many is

pub scan-answered : (is_safe : Bool) (places : List ClerkPlace) (visits : List Visit)
    (answers : List DueAnswer) → Finds places visits
    → terminals_in answers ≡ terminals_of (commands_of 0 visits)
    → with_answers is_safe (looked_at places visits) answers
    ≡ served places visits (stored_replies is_safe answers)
scan-answered is_safe places visits answers finds is =
    stored-after is_safe 0 places visits finds [] answers refl is

-- and each was owed
others-in : (t : ℕ) (commands : List Command) → AreOthers t commands
    → AllByRecursion (λ (other : ℕ). other ≢ t) (terminals_of commands)
others-in t [] others = tt
others-in t (c ∷ commands) others = (others.0, others-in t commands others.1)

abbrev Owed : List TableId → ℕ → List ClerkPlace → List Visit → Type 0
Owed desk first places visits = (front : List ClerkPlace) → length front ≡ first
    → first + length places ≤ length desk
    → AreOwed desk (front ++ looked_at places visits) (terminals_of (commands_of first visits))

owed-case : (desk : List TableId) (first : ℕ) (p : ClerkPlace) (places : List ClerkPlace)
    (word : ℕ) (found : Option Ask) (visits : List Visit)
    → FindsAt p (record { word = word; found = found }) → Owed desk (suc first) places visits
    → (front : List ClerkPlace) → length front ≡ first → suc first + length places ≤ length desk
    → AreOwed desk (front ++ placed_at p.table (with_taking p.view word) ∷ looked_at places visits)
    (terminals_of (command_at first found ++ commands_of (suc first) visits))
owed-case desk first p places word None visits finds ih front many below =
    let q = placed_at p.table (with_taking p.view word) in
    subst (λ l. AreOwed desk l (terminals_of (commands_of (suc first) visits)))
    (append_assoc front (q ∷ []) (looked_at places visits))
    (ih (front ++ q ∷ []) (omega (arith, length-append front (q ∷ []))) below)
owed-case desk first p places word (Some ask) visits finds ih front many below =
    let q = placed_at p.table (with_taking p.view word) in
    let l = front ++ q ∷ looked_at places visits in (
      omega arith,
      subst (λ t. Owes (view_at l t)) many
          (subst Owes (sym (view-seam front q (looked_at places visits)))
          (owes-taken p word ask finds)),
      others-in first (commands_of (suc first) visits)
          (behind first (suc first) visits (omega arith)),
      subst (λ m. AreOwed desk m (terminals_of (commands_of (suc first) visits)))
          (append_assoc front (q ∷ []) (looked_at places visits))
          (ih (front ++ q ∷ []) (omega (arith, length-append front (q ∷ []))) below),
    )

owed-after : (desk : List TableId) (first : ℕ) (places : List ClerkPlace) (visits : List Visit)
    → Finds places visits → Owed desk first places visits
owed-after desk first places [] finds front many below = tt
owed-after desk first [] (u ∷ visits) finds front many below = absurd finds
owed-after desk first (p ∷ places) (u ∷ visits) finds front many below =
    owed-case desk first p places u.word u.found visits finds.0
    (owed-after desk (suc first) places visits finds.1) front many (omega arith)

pub scan-owed : (desk : List TableId) (places : List ClerkPlace) (visits : List Visit)
    (terminals : List ℕ) → length places ≡ length desk → Finds places visits
    → terminals ≡ terminals_of (commands_of 0 visits)
    → AreOwed desk (looked_at places visits) terminals
scan-owed desk places visits terminals many finds is =
    subst (AreOwed desk (looked_at places visits)) (sym is)
    (owed-after desk 0 places visits finds [] refl (omega arith))
