-- What a terminal knows before and after one ask and its looks for the answer.
use Rattle.std.specs.Prelude.{◌≡◌, ℕ, ◌+◌, suc, List, [], ◌∷◌, ◌++◌, length}
use Rattle.lift_base.specs.declared.command.Body.{Body}
use Rattle.lift_base.specs.declared.command.Reply.{Reply}
use Rattle.lift_desk.specs.declared.view.TerminalView.{TerminalView}
use Rattle.lift_desk.specs.Words.{ask_word, reply_word}
use Rattle.lift_desk.specs.Seats.{Waits}
use Rattle.lift_desk_tests.specs.declared.terminal.Answer.{Answer}
use Rattle.lift_desk_tests.specs.declared.terminal.Answer.TheVariants.{Heard, Late, Refused}

-- the ask's word
abbrev pub asked_word : TerminalView → ℕ → Body → ℕ
asked_word old number body = ask_word (suc (length old.asked)) number body

-- heard: the answer's word names this ask, and is the one word heard; late: the ask is pending, and
-- each look was made
abbrev pub IsAskVisit : TerminalView → ℕ → Body → ℕ → Answer → TerminalView → Type 0
IsAskVisit old number body looks (Heard reply) new =
    (new.asked ≡ old.asked ++ asked_word old number body ∷ [])
    × (new.heard ≡ old.heard ++ reply_word (suc (length old.asked)) number reply ∷ [])
IsAskVisit old number body looks Late new =
    (new.asked ≡ old.asked ++ asked_word old number body ∷ []) × Waits new
    × (new.looks ≡ old.looks + looks)
IsAskVisit old number body looks Refused new = new ≡ old
