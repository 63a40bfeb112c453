-- What the looks and the answers of a batch change at each terminal.
use Rattle.std.proofs.Common.{◌≡◌, ◌≢◌, ℕ, ◌<◌, Bool, true, false, eqb, List, [], ◌∷◌, length, get_or, refl, sym, ap, subst, ◌∙◌, arith}
use Rattle.std.proofs.lemmas.Bool.{eq-eqb, eqb-true, false≢true}
use Rattle.std.proofs.lemmas.List.{length-set, get_or-set_other}
use Rattle.std.specs.List.{AllByRecursion}
use Rattle.atomic_table.specs.Seated.{TableId}
use Rattle.lift_desk.specs.declared.view.ClerkView.{ClerkView}
use Rattle.lift_desk.specs.Steps.{with_taking}
use Rattle.lift_desk.specs.Seats.{ClerkPlace, no_place, view_at, clerk_with, placed_at, Owes}
use Rattle.lift_desk.specs.lemmas.Places.{view_at-here, view_at-else}
use Rattle.lift_clerk.specs.Answering.{AreOwed, terminals_in, stored_reply, with_answers, with_reply_to_last}
use Rattle.lift_clerk.specs.TakenAndAnswered.{AreApart, ask_of}
use Rattle.lift_clerk.specs.lemmas.Lists.{AreOthers}
use Rattle.lift_clerk.specs.Visits.{FindsAt}
use Rattle.lift_clerk.specs.lemmas.Stored.{answered-else, owes-taken}
use Rattle.lift_parts.specs.declared.taken.NotedCommand.{NotedCommand}
use Rattle.lift_parts.specs.Batch.{AreBelow, commands_in}
use Rattle.lift_parts.specs.Flusher.{noted_visit, looked_for, LooksGive, answers_in}

-- what holds of commands and their terminals' places
abbrev pub AllAt : (NotedCommand → ClerkPlace → Type 0) → List ClerkPlace → List NotedCommand → Type 0
AllAt P places batch = AllByRecursion (λ (t : NotedCommand). P t (get_or places t.command.terminal no_place)) batch

-- one place changed changes nothing for the commands of others
module _ (P : NotedCommand → ClerkPlace → Type 0) (places : List ClerkPlace) (t : ℕ) (v : ClerkView) where
  same-place : (j : ℕ) → j ≢ t → get_or (clerk_with places t v) j no_place ≡ get_or places j no_place
  same-place j apart = get_or-set_other places t j (placed_at (get_or places t no_place).table v) no_place apart

  pub all-then : (batch : List NotedCommand) → AreOthers t (commands_in batch) → AllAt P places batch → AllAt P (clerk_with places t v) batch
  all-then [] others all = tt
  all-then (u ∷ batch) others all = (subst (P u) (sym (same-place u.command.terminal others.0)) all.0, all-then batch others.1 all.1)

  pub all-before : (batch : List NotedCommand) → AreOthers t (commands_in batch) → AllAt P (clerk_with places t v) batch → AllAt P places batch
  all-before [] others all = tt
  all-before (u ∷ batch) others all = (subst (P u) (same-place u.command.terminal others.0) all.0, all-before batch others.1 all.1)

-- what is known of other terminals stays
pub looked-else : (places : List ClerkPlace) (batch : List NotedCommand) (j : ℕ) → AreOthers j (commands_in batch) → view_at (looked_for places batch) j ≡ view_at places j
looked-else places [] j others = refl
looked-else places (t ∷ batch) j others =
    let view = with_taking (view_at places t.command.terminal) t.note.word in
    looked-else (clerk_with places t.command.terminal view) batch j others.1 ∙ view_at-else places t.command.terminal j view (λ e. others.0 (sym e))

pub length-looked_for : (places : List ClerkPlace) (batch : List NotedCommand) → length (looked_for places batch) ≡ length places
length-looked_for places [] = refl
length-looked_for places (t ∷ batch) =
    let view = with_taking (view_at places t.command.terminal) t.note.word in
    length-looked_for (clerk_with places t.command.terminal view) batch ∙ length-set places t.command.terminal (placed_at (get_or places t.command.terminal no_place).table view)

pub others-answers : (j : ℕ) (batch : List NotedCommand) → AreOthers j (commands_in batch) → AllByRecursion (λ (other : ℕ). other ≢ j) (terminals_in (answers_in batch))
others-answers j [] others = tt
others-answers j (t ∷ batch) others = (others.0, others-answers j batch others.1)

-- after the looks each of them is owed its answer
pub owed-after : (desk : List TableId) (places : List ClerkPlace) (batch : List NotedCommand) → length places ≡ length desk → AreBelow (length desk) (commands_in batch) → AreApart (commands_in batch)
    → LooksGive places batch → AreOwed desk (looked_for places batch) (terminals_in (answers_in batch))
owed-after desk places [] many below apart found = tt
owed-after desk places (t ∷ batch) many below apart found =
    let k = t.command.terminal in
    let place = get_or places k no_place in
    let view = with_taking (view_at places k) t.note.word in
    let next : List ClerkPlace = clerk_with places k view in
    let under = below.0 in
    let still : view_at (looked_for next batch) k ≡ view = looked-else next batch k apart.0 ∙ view_at-here places k view (omega arith) in (
      below.0,
      subst Owes (sym still) (owes-taken place t.note.word (ask_of t.command) found.0),
      others-answers k batch apart.0,
      owed-after desk next batch (length-set places k (placed_at place.table view) ∙ many) below.1 apart.1
          (all-then (λ (u : NotedCommand) (p : ClerkPlace). FindsAt p (noted_visit u)) places k view batch apart.0 found.1),
    )

-- the terminal's words, once its look was answered
abbrev pub told_after : Bool → NotedCommand → ClerkView → ClerkView
told_after is_safe t view = with_reply_to_last (with_taking view t.note.word) (stored_reply is_safe t.reply)

-- What holds of a terminal which none of these commands is of, and of one which just one of them is of
-- once that was found and answered, holds of each terminal once all of them were.
module _ (is_safe : Bool) (j : ℕ) (P : List NotedCommand → ClerkPlace → ClerkView → Type 0)
    (none : (p : ClerkPlace) → P [] p p.view)
    (skip : (t : NotedCommand) (batch : List NotedCommand) (p : ClerkPlace) (v : ClerkView) → t.command.terminal ≢ j → P batch p v → P (t ∷ batch) p v)
    (here : (t : NotedCommand) (batch : List NotedCommand) (p : ClerkPlace) → t.command.terminal ≡ j → AreOthers j (commands_in batch) → FindsAt p (noted_visit t)
    → P (t ∷ batch) p (told_after is_safe t p.view)) where
  -- the seats that were looked at, as far as this terminal goes
  abbrev Same : List ClerkPlace → List ClerkPlace → List NotedCommand → Type 0
  Same places mid batch = (length mid ≡ length places) × (view_at mid j ≡ view_at (looked_for places batch) j)

  module _ (places mid : List ClerkPlace) (t : NotedCommand) (batch : List NotedCommand) (under : t.command.terminal < length places) (apart : AreApart (commands_in (t ∷ batch)))
      (found : LooksGive places (t ∷ batch)) (same : Same places mid (t ∷ batch)) where
    abbrev looked : ClerkView
    looked = with_taking (view_at places t.command.terminal) t.note.word

    abbrev told : ClerkView
    told = with_reply_to_last (view_at mid t.command.terminal) (stored_reply is_safe t.reply)

    abbrev places' : List ClerkPlace
    places' = clerk_with places t.command.terminal looked

    abbrev mid' : List ClerkPlace
    mid' = clerk_with mid t.command.terminal told

    in-case : (b : Bool) → eqb t.command.terminal j ≡ b → (t.command.terminal ≢ j → P batch (get_or places' j no_place) (view_at (with_answers is_safe mid' (answers_in batch)) j))
        → P (t ∷ batch) (get_or places j no_place) (view_at (with_answers is_safe mid' (answers_in batch)) j)
    in-case true e ih =
        let at : t.command.terminal ≡ j = eqb-true t.command.terminal j e in
        let others : AreOthers j (commands_in batch) = subst (λ (n : ℕ). AreOthers n (commands_in batch)) at apart.0 in
        let was : view_at mid t.command.terminal ≡ looked =
        ap (view_at mid) at ∙ same.1 ∙ ap (view_at (looked_for places' batch)) (sym at) ∙ looked-else places' batch t.command.terminal apart.0 ∙ view_at-here places t.command.terminal looked under in
        let many = same.0 in
        let now : view_at (with_answers is_safe mid' (answers_in batch)) j ≡ told_after is_safe t (view_at places j) =
        answered-else is_safe mid' (answers_in batch) j (others-answers j batch others) ∙ ap (view_at mid') (sym at) ∙ view_at-here mid t.command.terminal told (omega arith)
        ∙ ap (λ (v : ClerkView). with_reply_to_last v (stored_reply is_safe t.reply)) was ∙ ap (λ (n : ℕ). told_after is_safe t (view_at places n)) at in
        subst (P (t ∷ batch) (get_or places j no_place)) (sym now)
        (here t batch (get_or places j no_place) at others (subst (λ (n : ℕ). FindsAt (get_or places n no_place) (noted_visit t)) at found.0))
    in-case false e ih =
        let apart-here : t.command.terminal ≢ j = λ q. (let yes = eq-eqb t.command.terminal j q in absurd (false≢true (sym e ∙ yes))) in
        let still : get_or places' j no_place ≡ get_or places j no_place =
        get_or-set_other places t.command.terminal j (placed_at (get_or places t.command.terminal no_place).table looked) no_place (λ q. apart-here (sym q)) in
        let v = view_at (with_answers is_safe mid' (answers_in batch)) j in
        skip t batch (get_or places j no_place) v apart-here (subst (λ (p : ClerkPlace). P batch p v) still (ih apart-here))

    same-rest : t.command.terminal ≢ j → Same places' mid' batch
    same-rest apart-here = (
      length-set mid t.command.terminal (placed_at (get_or mid t.command.terminal no_place).table told) ∙ same.0
          ∙ sym (length-set places t.command.terminal (placed_at (get_or places t.command.terminal no_place).table looked)),
      view_at-else mid t.command.terminal j told (λ q. apart-here (sym q)) ∙ same.1,
    )

    found-rest : LooksGive places' batch
    found-rest = all-then (λ (u : NotedCommand) (p : ClerkPlace). FindsAt p (noted_visit u)) places t.command.terminal looked batch apart.0 found.1

  at-each : (places mid : List ClerkPlace) (batch : List NotedCommand) → AreBelow (length places) (commands_in batch) → AreApart (commands_in batch) → LooksGive places batch → Same places mid batch
      → P batch (get_or places j no_place) (view_at (with_answers is_safe mid (answers_in batch)) j)
  at-each places mid [] below apart found same = subst (P [] (get_or places j no_place)) (sym same.1) (none (get_or places j no_place))
  at-each places mid (t ∷ batch) below apart found same =
      in-case places mid t batch below.0 apart found same (eqb t.command.terminal j) refl
      (λ apart-here. at-each (places' places mid t batch below.0 apart found same) (mid' places mid t batch below.0 apart found same) batch
      (subst (λ (n : ℕ). AreBelow n (commands_in batch)) (sym (length-set places t.command.terminal (placed_at (get_or places t.command.terminal no_place).table (looked places mid t batch below.0 apart found same)))) below.1)
      apart.1 (found-rest places mid t batch below.0 apart found same) (same-rest places mid t batch below.0 apart found same apart-here))

  pub at-each-terminal : (places : List ClerkPlace) (batch : List NotedCommand) → AreBelow (length places) (commands_in batch) → AreApart (commands_in batch) → LooksGive places batch
      → P batch (get_or places j no_place) (view_at (with_answers is_safe (looked_for places batch) (answers_in batch)) j)
  at-each-terminal places batch below apart found = at-each places (looked_for places batch) batch below apart found (length-looked_for places batch, refl)
