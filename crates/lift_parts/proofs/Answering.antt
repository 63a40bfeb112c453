-- What a flusher's looks and answers are in the words of its terminals.
use Rattle.lift_world.specs.Turns.{with_replies}
use Rattle.lift_policy.specs.Run.{unknowns}
use Rattle.lift_base.specs.declared.command.Reply.TheVariants.{Unknown}
use Rattle.std.proofs.lemmas.List.{length-map}
use Rattle.lift_clerk.specs.TakenAndAnswered.{AreApart, Grows, TakesAndAnswers}
use Rattle.lift_parts.specs.Batch.{replies_in}
use Rattle.lift_clerk.specs.TakenAndAnswered.{ask_of}
use Rattle.std.proofs.Common.{ℕ, suc, ◌≡◌, ◌≢◌, Bool, true, false, cond, List, [], ◌∷◌, ◌++◌, length, map, refl, sym, ap, subst, ◌∙◌, arith}
use Rattle.std.specs.Prelude.{filter, All}
use Rattle.std.proofs.lemmas.List.Elements.{All-cons, All-nil}
use Rattle.std.proofs.lemmas.Bool.{eq-eqb, ne_eqb}
use Rattle.std.proofs.lemmas.List.{append-nil, length-append}
use Rattle.lift_base.specs.declared.command.Reply.{Reply}
use Rattle.lift_desk.specs.declared.view.ClerkView.{ClerkView}
use Rattle.lift_desk.specs.Words.{reply_word}
use Rattle.lift_desk.specs.Spelled.{IsAsk}
use Rattle.lift_desk.specs.Steps.{with_taking}
use Rattle.lift_desk.specs.Seats.{ClerkPlace, view_at}
use Rattle.lift_policy.specs.declared.command.Command.{Command}
use Rattle.lift_world.specs.declared.event.Answer.{Answer}
use Rattle.lift_world.specs.declared.event.Taken.{Taken}
use Rattle.lift_world.specs.World.{asks, is_answer_to}
use Rattle.lift_world.specs.Next.{answer_of, unknown_to}
use Rattle.lift_clerk.specs.Answering.{stored_reply}
use Rattle.lift_clerk.specs.Visits.{FindsAt}
use Rattle.lift_clerk.specs.Tied.{command_of}
use Rattle.lift_clerk.specs.lemmas.Lists.{AreOthers, answers_to, no_asks}
use Rattle.lift_clerk.specs.lemmas.Stored.{length-answered, number-taken}
use Rattle.lift_clerk.specs.lemmas.Visiting.{taken-new}
use Rattle.lift_parts.specs.declared.taken.NotedCommand.{NotedCommand}
use Rattle.lift_parts.specs.Batch.{AreBelow, commands_in}
use Rattle.lift_parts.specs.Flusher.{AnswersBatch, LooksGive, noted_visit, looked_for, answers_in}
use Rattle.lift_parts.specs.lemmas.Settled.{at-each-terminal, length-looked_for, told_after}
use Rattle.lift_parts.specs.Tie.{held_as}

-- ---- the answers to a terminal's words
grown_none : (v : ClerkView) → Grows v v [] []
grown_none v = record { taken = sym (append-nil v.taken); answered = sym (append-nil v.answered) }

-- the answer that is told
abbrev answer_told : Bool → NotedCommand → Answer
answer_told is_safe t = record { terminal = t.command.terminal; number = t.command.number; reply = stored_reply is_safe t.reply }

-- all of them
abbrev here : ℕ → List NotedCommand → List Command
here j batch = filter (asks j) (commands_in batch)

abbrev told_here : Bool → ℕ → List NotedCommand → List Answer
told_here is_safe j batch = filter (is_answer_to j) (map (answer_told is_safe) batch)

-- none of these answers is to this terminal
none_told : (is_safe : Bool) (j : ℕ) (batch : List NotedCommand) → AreOthers j (commands_in batch) → told_here is_safe j batch ≡ []
none_told is_safe j [] others = refl
none_told is_safe j (t ∷ batch) others =
    ap (λ (b : Bool). cond b (answer_told is_safe t ∷ told_here is_safe j batch) (told_here is_safe j batch)) (ne_eqb t.command.terminal j others.0) ∙ none_told is_safe j batch others.1

-- the words of one terminal
module _ (is_safe : Bool) (j : ℕ) where
  abbrev At : List NotedCommand → ClerkPlace → ClerkView → Type 0
  At batch p after = Grows p.view after (here j batch) (told_here is_safe j batch)

  -- by whether the first command is of it
  abbrev At_by : Bool → NotedCommand → List NotedCommand → ClerkPlace → ClerkView → Type 0
  At_by b t batch p after =
      Grows p.view after (cond b (t.command ∷ here j batch) (here j batch)) (cond b (answer_told is_safe t ∷ told_here is_safe j batch) (told_here is_safe j batch))

  skips : (t : NotedCommand) (batch : List NotedCommand) (p : ClerkPlace) (v : ClerkView) → t.command.terminal ≢ j → At batch p v → At (t ∷ batch) p v
  skips t batch p v apart g = subst (λ (b : Bool). At_by b t batch p v) (sym (ne_eqb t.command.terminal j apart)) g

  own : (t : NotedCommand) (p : ClerkPlace) → FindsAt p (noted_visit t) → Grows p.view (told_after is_safe t p.view) (t.command ∷ []) (answer_told is_safe t ∷ [])
  own t p finds =
      let view = with_taking p.view t.note.word in
      let more : view.taken ≡ p.view.taken ++ t.note.word ∷ [] = taken-new p.view t.note.word finds.reads.0 in
      let even : length p.view.answered ≡ length p.view.taken = finds.even refl in
      let count : length view.taken ≡ suc (length p.view.answered) = omega (arith, ap length more, length-append p.view.taken (t.note.word ∷ [])) in
      record {
        taken = more ∙ ap (λ (n : ℕ). p.view.taken ++ n ∷ []) finds.reads.1;
        answered = ap (λ (x : ℕ × ℕ). p.view.answered ++ reply_word x.0 x.1 (stored_reply is_safe t.reply) ∷ []) (λ i. (count i, number-taken p t.note.word (ask_of t.command) finds i));
      }

  finds_own : (t : NotedCommand) (batch : List NotedCommand) (p : ClerkPlace) → t.command.terminal ≡ j → AreOthers j (commands_in batch) → FindsAt p (noted_visit t)
      → At (t ∷ batch) p (told_after is_safe t p.view)
  finds_own t batch p at others finds =
      subst (λ (b : Bool). At_by b t batch p (told_after is_safe t p.view)) (sym (eq-eqb t.command.terminal j at))
      (subst (λ (x : List Command × List Answer). Grows p.view (told_after is_safe t p.view) (t.command ∷ x.0) (answer_told is_safe t ∷ x.1))
      (λ i. (sym (no_asks j (commands_in batch) others) i, sym (none_told is_safe j batch others) i)) (own t p finds))

pub length-answers : (is_safe : Bool) (places next : List ClerkPlace) (batch : List NotedCommand) → AnswersBatch is_safe places batch next → length next ≡ length places
length-answers is_safe places next batch all = ap length all.stored ∙ length-answered is_safe (looked_for places batch) (answers_in batch) ∙ length-looked_for places batch

grows : (is_safe : Bool) (places next : List ClerkPlace) (batch : List NotedCommand) → AnswersBatch is_safe places batch next → AreBelow (length places) (commands_in batch) → AreApart (commands_in batch)
    → (j : ℕ) → Grows (view_at places j) (view_at next j) (here j batch) (told_here is_safe j batch)
grows is_safe places next batch all below apart j =
    subst (λ (s : List ClerkPlace). Grows (view_at places j) (view_at s j) (here j batch) (told_here is_safe j batch)) (sym all.stored)
    (at-each-terminal is_safe j (At is_safe j) (λ p. grown_none p.view) (skips is_safe j) (finds_own is_safe j) places batch below apart all.finds)

-- a word can spell each command
spelled : (places : List ClerkPlace) (batch : List NotedCommand) → LooksGive places batch → All IsAsk (map ask_of (commands_in batch))
spelled places [] found = All-nil IsAsk
spelled places (t ∷ batch) found = All-cons IsAsk (ask_of t.command) (map ask_of (commands_in batch)) found.0.in_range (spelled places batch found.1)

answers_as : (batch : List NotedCommand) → map answer_of (map held_as batch) ≡ map (answer_told true) batch
answers_as [] = refl
answers_as (t ∷ batch) = ap (λ (xs : List Answer). answer_told true t ∷ xs) (answers_as batch)

unknown_as : (batch : List NotedCommand) → map answer_of (map unknown_to (map held_as batch)) ≡ map (answer_told false) batch
unknown_as [] = refl
unknown_as (t ∷ batch) = ap (λ (xs : List Answer). answer_told false t ∷ xs) (unknown_as batch)

-- the commands of those that are held
pub commands_held : (batch : List NotedCommand) → map command_of (map held_as batch) ≡ commands_in batch
commands_held [] = refl
commands_held (t ∷ batch) = ap (λ (cs : List Command). t.command ∷ cs) (commands_held batch)

unknown_held : (batch : List NotedCommand) → map command_of (map unknown_to (map held_as batch)) ≡ commands_in batch
unknown_held [] = refl
unknown_held (t ∷ batch) = ap (λ (cs : List Command). t.command ∷ cs) (unknown_held batch)

-- what a batch takes and answers
module _ where
  pub with_replies_as : (batch : List NotedCommand) → with_replies (commands_in batch) (replies_in batch) ≡ map held_as batch
  with_replies_as [] = refl
  with_replies_as (t ∷ batch) = ap (λ (xs : List Taken). held_as t ∷ xs) (with_replies_as batch)

  with_unknowns_as : (batch : List NotedCommand) → with_replies (commands_in batch) (unknowns (commands_in batch)) ≡ map unknown_to (map held_as batch)
  with_unknowns_as [] = refl
  with_unknowns_as (t ∷ batch) = ap (λ (xs : List Taken). unknown_to (held_as t) ∷ xs) (with_unknowns_as batch)

  -- the replies that are told
  abbrev pub replies_of : Bool → List NotedCommand → List Reply
  replies_of true batch = replies_in batch
  replies_of false batch = unknowns (commands_in batch)

  abbrev pub held_of : Bool → List NotedCommand → List Taken
  held_of true batch = map held_as batch
  held_of false batch = map unknown_to (map held_as batch)

  pub held_is : (is_safe : Bool) (batch : List NotedCommand) → with_replies (commands_in batch) (replies_of is_safe batch) ≡ held_of is_safe batch
  held_is true batch = with_replies_as batch
  held_is false batch = with_unknowns_as batch

  pub told_commands : (is_safe : Bool) (batch : List NotedCommand) → map command_of (held_of is_safe batch) ≡ commands_in batch
  told_commands true batch = commands_held batch
  told_commands false batch = unknown_held batch

  told_is : (is_safe : Bool) (batch : List NotedCommand) → map answer_of (held_of is_safe batch) ≡ map (answer_told is_safe) batch
  told_is true batch = answers_as batch
  told_is false batch = unknown_as batch

  as_long : (is_safe : Bool) (batch : List NotedCommand) → length (replies_of is_safe batch) ≡ length (commands_in batch)
  as_long true batch = length-map batch (λ (t : NotedCommand). t.reply) ∙ sym (length-map batch (λ (t : NotedCommand). t.command))
  as_long false batch = length-map (commands_in batch) (λ (c : Command). Unknown)

  pub answers_them : (is_safe : Bool) (places next : List ClerkPlace) (batch : List NotedCommand) → AreBelow (length places) (commands_in batch) → AreApart (commands_in batch) → AnswersBatch is_safe places batch next
      → TakesAndAnswers places next (commands_in batch) (replies_of is_safe batch)
  answers_them is_safe places next batch below apart k =
      record {
        one_each = as_long is_safe batch;
        apart = apart;
        in_range = spelled places batch k.finds;
        grows = λ t.
            let same : filter (is_answer_to t) (answers_to (commands_in batch) (replies_of is_safe batch)) ≡ told_here is_safe t batch =
            ap (λ (xs : List Taken). filter (is_answer_to t) (map answer_of xs)) (held_is is_safe batch) ∙ ap (filter (is_answer_to t)) (told_is is_safe batch) in
            subst (λ (xs : List Answer). Grows (view_at places t) (view_at next t) (here t batch) xs) (sym same) (grows is_safe places next batch k below apart t);
      }
