-- What a turn changes in the words of one terminal.
use Rattle.lift_clerk.specs.TakenAndAnswered.{AreApart, ask_of, Grows, TakesAndAnswers}
use Rattle.std.proofs.Common.{ℕ, zero, suc, ◌≡◌, ◌≢◌, ◌+◌, ◌≤◌, Bool, true, false, cond, List, []}
use Rattle.std.proofs.Common.{◌∷◌, ◌++◌, length, Option, Some, None, refl, sym, ap, subst, ◌∙◌}
use Rattle.std.proofs.Common.{arith, map}
use Rattle.std.specs.Prelude.{filter, All, IfSome}
use Rattle.std.specs.List.{AllByRecursion}
use Rattle.std.proofs.lemmas.Bool.{ne_eqb, eq-eqb}
use Rattle.std.proofs.lemmas.List.{append-nil, length-append}
use Rattle.std.proofs.lemmas.List.Elements.{All-append, All-cons, All-nil}
use mathlib.Core.List.{map-append}
use Rattle.lift_base.specs.declared.command.Reply.{Reply}
use Rattle.lift_desk.specs.declared.view.ClerkView.{ClerkView}
use Rattle.lift_desk.specs.declared.words.Ask.{Ask}
use Rattle.lift_desk.specs.Words.{ask_word, reply_word}
use Rattle.lift_desk.specs.Spelled.{IsAsk}
use Rattle.lift_desk.specs.Steps.{is_new_word, with_taking, with_answer}
use Rattle.lift_desk.specs.Seats.{ClerkPlace, view_at}
use Rattle.lift_policy.specs.declared.command.Command.{Command}
use Rattle.lift_world.specs.declared.event.Answer.{Answer}
use Rattle.lift_world.specs.World.{asks, is_answer_to}
use Rattle.lift_clerk.specs.Visits.{Visit, FindsAt, Finds, LooksAndAnswers, commands_of, command_at, served}
use Rattle.lift_clerk.specs.lemmas.Lists.{AreOthers, answers_to, no_asks, no_answers}

grows_as : (before after : ClerkView) (cs ds : List Command) (xs ys : List Answer) → ds ≡ cs
    → ys ≡ xs → Grows before after cs xs → Grows before after ds ys
grows_as before after cs ds xs ys e q k =
    subst (λ (zs : List Answer).
    Grows before after ds zs) (sym q) (subst (λ (zs : List Command).
    Grows before after zs xs) (sym e) k)

-- a look takes nothing of terminals before it
abbrev AreFrom : ℕ → List Command → Type 0
AreFrom n cs = AllByRecursion (λ (d : Command). n ≤ d.terminal) cs

from_first : (n m : ℕ) (found : Option Ask) (rest : List Command) → n ≤ m → AreFrom n rest
    → AreFrom n (command_at m found ++ rest)
from_first n m None rest le h = h
from_first n m (Some ask) rest le h = (le, h)

rising : (n m : ℕ) (visits : List Visit) → n ≤ m → AreFrom n (commands_of m visits)
rising n m [] le = tt
rising n m (visit ∷ visits) le =
    from_first n m visit.found (commands_of (suc m) visits) le
    (rising n (suc m) visits (omega arith))

others : (t n : ℕ) (cs : List Command) → suc t ≤ n → AreFrom n cs → AreOthers t cs
others t n [] lt h = tt
others t n (c ∷ cs) lt h = ((λ e. let le = h.0 in absurd (omega arith)), others t n cs lt h.1)

pub behind : (t n : ℕ) (visits : List Visit) → suc t ≤ n → AreOthers t (commands_of n visits)
behind t n visits lt = others t n (commands_of n visits) lt (rising n n visits (omega arith))

-- one look at this terminal: it finds nothing
module _ (place : ClerkPlace) (word t first k : ℕ) where
  abbrev looked : ClerkView
  looked = with_taking place.view word

  nothing : is_new_word place.view word ≡ false → Grows place.view looked [] []
  nothing old =
      let same : looked.taken ≡ place.view.taken =
      ap (λ (b : Bool). cond b (place.view.taken ++ word ∷ []) place.view.taken) old in
      record {
        taken = same ∙ sym (append-nil place.view.taken);
        answered = sym (append-nil place.view.answered);
      }

  -- or an ask, which gets this reply
  abbrev asking : Ask → Command
  asking ask = record { terminal = first; number = ask.number; body = ask.body }

  one_more : (ask : Ask) (reply : Reply) → is_new_word place.view word ≡ true
      → length place.view.answered ≡ length place.view.taken
      → word ≡ ask_word (suc (length place.view.taken)) ask.number ask.body
      → Grows place.view (with_answer looked (reply_word (length looked.taken) ask.number reply))
      (asking ask ∷ []) (record { terminal = first; number = ask.number; reply = reply } ∷ [])
  one_more ask reply new even is =
      let more : looked.taken ≡ place.view.taken ++ word ∷ [] =
      ap (λ (b : Bool). cond b (place.view.taken ++ word ∷ []) place.view.taken) new in
      let l = length-append place.view.taken (word ∷ []) in
      let count : length looked.taken ≡ suc (length place.view.answered) =
      ap length more ∙ omega arith in
      record {
        taken = more ∙ ap (λ (x : ℕ). place.view.taken ++ x ∷ []) is;
        answered = ap (λ (n : ℕ). place.view.answered ++ reply_word n ask.number reply ∷ []) count;
      }

abbrev asked_of : ℕ → List Command → List Command
asked_of t cs = filter (asks t) cs

abbrev given_to : ℕ → List Command → List Reply → List Answer
given_to t cs replies = filter (is_answer_to t) (answers_to cs replies)

first_is : (t : ℕ) (c : Command) (rest : List Command) (reply : Reply) (replies : List Reply)
    → c.terminal ≡ t → AreOthers t rest
    → (asked_of t (c ∷ rest) ≡ c ∷ [])
    × (given_to t (c ∷ rest) (reply ∷ replies) ≡ record {
      terminal = c.terminal;
      number = c.number;
      reply = reply;
    } ∷ [])
first_is t c rest reply replies e apart = (
  ap (λ (b : Bool). cond b (c ∷ asked_of t rest) (asked_of t rest)) (eq-eqb c.terminal t e) ∙ ap
      (λ (cs : List Command). c ∷ cs) (no_asks t rest apart),
  ap (λ (b : Bool). cond b (record { terminal = c.terminal; number = c.number; reply = reply }
      ∷ given_to t rest replies) (given_to t rest replies)) (eq-eqb c.terminal t e)
      ∙ ap (λ (xs : List Answer).
      record { terminal = c.terminal; number = c.number; reply = reply } ∷ xs)
      (no_answers t rest replies apart),
)

first_isnt : (t : ℕ) (c : Command) (rest : List Command) (reply : Reply) (replies : List Reply)
    → c.terminal ≢ t
    → (asked_of t (c ∷ rest) ≡ asked_of t rest)
    × (given_to t (c ∷ rest) (reply ∷ replies) ≡ given_to t rest replies)
first_isnt t c rest reply replies apart = (
  ap (λ (b : Bool). cond b (c ∷ asked_of t rest) (asked_of t rest)) (ne_eqb c.terminal t apart),
  ap (λ (b : Bool). cond b (record { terminal = c.terminal; number = c.number; reply = reply }
      ∷ given_to t rest replies) (given_to t rest replies)) (ne_eqb c.terminal t apart),
)

-- what is known of a terminal after a look, of those after it
abbrev Later : List ClerkPlace → List Visit → ℕ → Type 0
Later places visits first = (replies : List Reply) (k t : ℕ) → t ≡ first + k
    → length replies ≡ length (commands_of first visits)
    → Grows (view_at places k) (view_at (served places visits replies) k)
    (asked_of t (commands_of first visits)) (given_to t (commands_of first visits) replies)

view_served : (place : ClerkPlace) (places : List ClerkPlace) (word : ℕ) (found : Option Ask)
    (visits : List Visit) (replies : List Reply) (first k t : ℕ) → t ≡ first + k
    → FindsAt place (record { word = word; found = found }) → Later places visits (suc first)
    → length replies ≡ length (command_at first found ++ commands_of (suc first) visits)
    → Grows (view_at (place ∷ places) k)
    (view_at (served (place ∷ places) (record { word = word; found = found } ∷ visits) replies) k)
    (asked_of t (command_at first found ++ commands_of (suc first) visits))
    (given_to t (command_at first found ++ commands_of (suc first) visits) replies)
view_served place places word None visits replies first zero t e at later count =
    let rest = commands_of (suc first) visits in
    let apart : AreOthers t rest = behind t (suc first) visits (omega arith) in
    grows_as place.view (with_taking place.view word) [] (asked_of t rest) []
    (given_to t rest replies) (no_asks t rest apart) (no_answers t rest replies apart)
    (nothing place word t first 0 at.reads)
view_served place places word None visits replies first (suc k) t e at later count =
    later replies k t (omega arith) count
view_served place places word (Some ask) visits [] first k t e at later count = absurd (omega arith)
view_served place places word (Some ask) visits (reply ∷ replies) first zero t e at later count =
    let rest = commands_of (suc first) visits in
    let c : Command = record { terminal = first; number = ask.number; body = ask.body } in
    let apart : AreOthers t rest = behind t (suc first) visits (omega arith) in
    let is = first_is t c rest reply replies (omega arith) apart in
    grows_as place.view (with_answer (with_taking place.view word)
    (reply_word (length (with_taking place.view word).taken) ask.number reply)) (c ∷ [])
    (asked_of t (c ∷ rest))
    (record { terminal = first; number = ask.number; reply = reply } ∷ [])
    (given_to t (c ∷ rest) (reply ∷ replies)) is.0 is.1
    (one_more place word t first 0 ask reply at.reads.0 (at.even refl) at.reads.1)
view_served place places word (Some ask) visits (reply ∷ replies) first (suc k) t e at later count =
    let rest = commands_of (suc first) visits in
    let c : Command = record { terminal = first; number = ask.number; body = ask.body } in
    let is = first_isnt t c rest reply replies (λ q. absurd (omega arith)) in
    grows_as (view_at places k) (view_at (served places visits replies) k) (asked_of t rest)
    (asked_of t (c ∷ rest)) (given_to t rest replies)
    (given_to t (c ∷ rest) (reply ∷ replies)) is.0 is.1
    (later replies k t (omega arith) (omega arith))

pub view_after : (places : List ClerkPlace) (visits : List Visit) (first : ℕ) → Finds places visits
    → Later places visits first
view_after places [] first finds replies k t e count =
    record {
      taken = sym (append-nil (view_at places k).taken);
      answered = sym (append-nil (view_at places k).answered);
    }
view_after [] (visit ∷ visits) first finds replies k t e count = absurd finds
view_after (place ∷ places) (visit ∷ visits) first finds replies k t e count =
    view_served place places visit.word visit.found visits replies first k t e finds.0
    (view_after places visits (suc first) finds.1) count

-- no terminal is looked at twice
apart_first : (first : ℕ) (found : Option Ask) (rest : List Command) → AreOthers first rest
    → AreApart rest → AreApart (command_at first found ++ rest)
apart_first first None rest others apart = apart
apart_first first (Some ask) rest others apart = (others, apart)

pub all_apart : (first : ℕ) (visits : List Visit) → AreApart (commands_of first visits)
all_apart first [] = tt
all_apart first (visit ∷ visits) =
    apart_first first visit.found (commands_of (suc first) visits)
    (behind first (suc first) visits (omega arith)) (all_apart (suc first) visits)

-- a word can spell what was found
spelled_one : (t : ℕ) (found : Option Ask) → IfSome found IsAsk
    → All IsAsk (map ask_of (command_at t found))
spelled_one t None h = All-nil IsAsk
spelled_one t (Some ask) h = All-cons IsAsk ask [] h (All-nil IsAsk)

spelled : (places : List ClerkPlace) (visits : List Visit) (first : ℕ) → Finds places visits
    → All IsAsk (map ask_of (commands_of first visits))
spelled places [] first finds = All-nil IsAsk
spelled [] (visit ∷ visits) first finds = absurd finds
spelled (place ∷ places) (visit ∷ visits) first finds =
    let later : List Command = commands_of (suc first) visits in
    subst (All IsAsk) (sym (map-append ask_of (command_at first visit.found) later))
    (All-append IsAsk (map ask_of (command_at first visit.found)) (map ask_of later)
    (spelled_one first visit.found finds.0.in_range) (spelled places visits (suc first) finds.1))

-- what a scan takes and answers
pub answers_of : (old new : List ClerkPlace) (visits : List Visit) (replies : List Reply)
    → LooksAndAnswers old new visits replies → TakesAndAnswers old new (commands_of 0 visits) replies
answers_of old new visits replies serves = record {
  one_each = serves.one_reply_each;
  apart = all_apart 0 visits;
  in_range = spelled old visits 0 serves.finds;
  grows = λ t. subst (λ (s : List ClerkPlace).
      Grows (view_at old t) (view_at s t) (asked_of t (commands_of 0 visits))
      (given_to t (commands_of 0 visits) replies)) (sym serves.stored)
      (view_after old visits 0 serves.finds replies t t (omega arith) serves.one_reply_each);
}
