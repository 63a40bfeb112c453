-- One scan of all terminals: what each look found, and which replies were stored.
use Rattle.std.specs.Prelude.{ℕ, suc, ◌≡◌, List, [], ◌∷◌, ◌++◌, length, All, Option, Some, None}
use Rattle.std.specs.Prelude.{IsSome, IfSome}
use mathlib.Core.List.{IsPrefix}
use Rattle.lift_base.specs.declared.command.Reply.{Reply}
use Rattle.lift_desk.specs.declared.view.ClerkView.{ClerkView}
use Rattle.lift_desk.specs.declared.words.Ask.{Ask}
use Rattle.lift_desk.specs.Words.{number_of, reply_word, IsReply}
use Rattle.lift_desk.specs.Spelled.{IsAsk}
use Rattle.lift_desk.specs.Steps.{with_taking, with_answer}
use Rattle.lift_desk.specs.Seats.{ClerkPlace, placed_at, TakesOf, IsToldAsk}
use Rattle.lift_policy.specs.declared.command.Command.{Command}

-- one look at a terminal: the word loaded, and the ask taken of it, if any
pub record Visit : Type 0 where
  pub word : ℕ
  pub found : Option Ask

-- The look takes what its word says where that is new to the clerk, which had answered all that it
-- took there before. Then all asks that the clerk was told of are taken.
pub record FindsAt (place : ClerkPlace) (visit : Visit) : Type 0 where
  pub reads : TakesOf place.view visit.word visit.found
  pub even : IsSome visit.found → length place.view.answered ≡ length place.view.taken
  pub number : IfSome visit.found (λ (ask : Ask). number_of visit.word ≡ ask.number)
  pub in_range : IfSome visit.found IsAsk
  pub known : IsPrefix place.view.told (with_taking place.view visit.word).taken
  pub told : (ask : Ask) → IsToldAsk place.view ask → visit.found ≡ Some ask

-- these looks are at the first places, one at each, in their order, and each is one of its place
abbrev pub AreLooksAt : (ClerkPlace → Visit → Type 0) → List ClerkPlace → List Visit → Type 0
AreLooksAt IsLook places [] = Unit {0}
AreLooksAt IsLook [] (visit ∷ visits) = ⊥
AreLooksAt IsLook (place ∷ places) (visit ∷ visits) =
    IsLook place visit × AreLooksAt IsLook places visits

abbrev pub Finds : List ClerkPlace → List Visit → Type 0
Finds places visits = AreLooksAt FindsAt places visits

-- the seats after these looks
abbrev pub looked_at : List ClerkPlace → List Visit → List ClerkPlace
looked_at places [] = places
looked_at [] (visit ∷ visits) = []
looked_at (place ∷ places) (visit ∷ visits) =
    placed_at place.table (with_taking place.view visit.word) ∷ looked_at places visits

-- One scan as far as n places: the first n were looked at once each, and nothing else was; the looks
-- are listed by place; and this holds of what they found.
pub record Scans (IsLook : ClerkPlace → Visit → Type 0) (Found : List Visit → Type 0)
    (places seat : List ClerkPlace) (n : ℕ) : Type 0 where
  pub visits : List Visit
  pub count : length visits ≡ n
  pub looks : AreLooksAt IsLook places visits
  pub looked : seat ≡ looked_at places visits
  pub found : Found visits

-- the command that a look at a terminal took
abbrev pub command_at : ℕ → Option Ask → List Command
command_at t None = []
command_at t (Some ask) = record { terminal = t; number = ask.number; body = ask.body } ∷ []

-- the commands that these looks took, from this terminal on, by rising terminal
abbrev pub commands_of : ℕ → List Visit → List Command
commands_of t [] = []
commands_of t (visit ∷ visits) = command_at t visit.found ++ commands_of (suc t) visits

-- a terminal's words once the first of these replies is stored, if its look found an ask
abbrev pub with_reply : ClerkView → Option Ask → List Reply → ClerkView
with_reply view None replies = view
with_reply view (Some ask) [] = view
with_reply view (Some ask) (reply ∷ replies) =
    with_answer view (reply_word (length view.taken) ask.number reply)

-- the replies to the commands after a look
abbrev pub replies_after : Option Ask → List Reply → List Reply
replies_after None replies = replies
replies_after (Some ask) [] = []
replies_after (Some ask) (reply ∷ replies) = replies

-- the clerk's seats after these looks, and these replies to the first of their commands, each at
-- its own terminal
abbrev pub served : List ClerkPlace → List Visit → List Reply → List ClerkPlace
served places [] replies = places
served [] (visit ∷ visits) replies = []
served (place ∷ places) (visit ∷ visits) replies =
    placed_at place.table (with_reply (with_taking place.view visit.word) visit.found replies)
    ∷ served places visits (replies_after visit.found replies)

-- The clerk has looked once at each of its terminals, has stored one reply for each ask that it
-- took, and nothing else. What was taken is decided in rising order of terminals; in which order
-- the looks were is not said. So each reply's word has no other reading.
pub record LooksAndAnswers (old new : List ClerkPlace) (visits : List Visit)
    (replies : List Reply) : Type 0 where
  pub each_once : length visits ≡ length old
  pub finds : Finds old visits
  pub one_reply_each : length replies ≡ length (commands_of 0 visits)
  pub stored : new ≡ served old visits replies
  pub in_range : All IsReply replies
