-- Answers to commands, and what storing them changes.
use Rattle.std.specs.Prelude.{ℕ, Bool, ◌≢◌, ◌<◌, List, [], ◌∷◌, map, length, if◌then◌else◌}
use Rattle.std.specs.List.{AllByRecursion}
use Rattle.atomic_table.specs.Seated.{TableId}
use Rattle.lift_base.specs.declared.command.Reply.{Reply}
use Rattle.lift_base.specs.declared.command.Reply.TheVariants.{Unknown}
use Rattle.lift_desk.specs.declared.view.ClerkView.{ClerkView}
use Rattle.lift_desk.specs.Words.{number_of, last_of, reply_word}
use Rattle.lift_desk.specs.Steps.{with_answer}
use Rattle.lift_desk.specs.Seats.{ClerkPlace, Owes, view_at, clerk_with}
use Rattle.lift_clerk.specs.declared.answering.DueAnswer.{DueAnswer}

abbrev pub terminals_in : List DueAnswer → List ℕ
terminals_in answers = map (λ (a : DueAnswer). a.terminal) answers

abbrev pub replies_in : List DueAnswer → List Reply
replies_in answers = map (λ (a : DueAnswer). a.reply) answers

-- what is answered: what was decided where it is safe, else Unknown
abbrev pub stored_reply : Bool → Reply → Reply
stored_reply is_safe reply = if is_safe then reply else Unknown

abbrev pub stored_replies : Bool → List DueAnswer → List Reply
stored_replies is_safe answers = map (λ (a : DueAnswer). stored_reply is_safe a.reply) answers

-- each of these terminals of the desk is owed an answer, and none of them stands twice
abbrev pub AreOwed : List TableId → List ClerkPlace → List ℕ → Type 0
AreOwed desk places [] = Unit {0}
AreOwed desk places (t ∷ terminals) = (t < length desk) × Owes (view_at places t)
    × AllByRecursion (λ (other : ℕ). other ≢ t) terminals × AreOwed desk places terminals

-- a terminal's words once this reply is stored, under the turn and the number of the last ask that
-- was taken there
abbrev pub with_reply_to_last : ClerkView → Reply → ClerkView
with_reply_to_last view reply =
    with_answer view (reply_word (length view.taken) (number_of (last_of view.taken)) reply)

-- the seats once each of these answers is stored at its own terminal
abbrev pub with_answers : Bool → List ClerkPlace → List DueAnswer → List ClerkPlace
with_answers is_safe places [] = places
with_answers is_safe places (a ∷ answers) = with_answers is_safe (clerk_with places a.terminal
    (with_reply_to_last (view_at places a.terminal) (stored_reply is_safe a.reply))) answers
