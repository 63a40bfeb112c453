-- One more look, and one more reply.
use Rattle.std.proofs.Common.{◌≡◌, ℕ, zero, suc, ◌+◌, true, false, List, [], ◌∷◌, ◌++◌}
use Rattle.std.proofs.Common.{length, Option, Some, None, refl, sym, ap, ◌∙◌, arith}
use Rattle.std.proofs.Common.{length-append, append_assoc}
use Rattle.std.proofs.lemmas.List.{append-nil}
use Rattle.lift_base.specs.declared.command.Reply.{Reply}
use Rattle.lift_desk.specs.declared.view.ClerkView.{ClerkView}
use Rattle.lift_desk.specs.declared.words.Ask.{Ask}
use Rattle.lift_desk.specs.Words.{reply_word}
use Rattle.lift_desk.specs.Steps.{is_new_word, with_taking}
use Rattle.lift_desk.specs.Seats.{ClerkPlace}
use Rattle.lift_desk.specs.Seats.{Owes, OwesNothing}
use Rattle.lift_policy.specs.declared.command.Command.{Command}
use Rattle.lift_clerk.specs.Visits.{Visit, FindsAt, Finds, command_at, commands_of, with_reply}
use Rattle.lift_clerk.specs.Visits.{replies_after, served}

pub commands-more : (first n : ℕ) (visits : List Visit) (v : Visit) → n ≡ first + length visits
    → commands_of first (visits ++ v ∷ []) ≡ commands_of first visits ++ command_at n v.found
commands-more first n [] v e =
    append-nil (command_at first v.found) ∙ (let same : first ≡ n = omega arith in
    ap (λ m. command_at m v.found) same)
commands-more first n (u ∷ visits) v e =
    ap (λ l. command_at first u.found ++ l) (commands-more (suc first) n visits v (omega arith))
    ∙ sym (append_assoc (command_at first u.found) (commands_of (suc first) visits)
    (command_at n v.found))

pub length-served : (places : List ClerkPlace) (visits : List Visit) (replies : List Reply)
    → length (served places visits replies) ≡ length places
length-served places [] replies = refl
length-served [] (u ∷ visits) replies = refl
length-served (p ∷ places) (u ∷ visits) replies =
    ap suc (length-served places visits (replies_after u.found replies))

pub taken-new : (view : ClerkView) (word : ℕ) → is_new_word view word ≡ true
    → (with_taking view word).taken ≡ view.taken ++ word ∷ []
taken-new view word new = rw new

pub taken-old : (view : ClerkView) (word : ℕ) → is_new_word view word ≡ false
    → (with_taking view word).taken ≡ view.taken
taken-old view word old = rw old

-- nothing is owed at a place that was looked at, and answered if an ask was found
owes-case : (first : ℕ) (p : ClerkPlace) (word : ℕ) (found : Option Ask) (replies : List Reply)
    (later : List Command) → FindsAt p (record { word = word; found = found })
    → length replies ≡ length (command_at first found ++ later) → ¬ Owes p.view
    → ¬ Owes (with_reply (with_taking p.view word) found replies)
owes-case first p word None replies later finds h rests owes =
    rests (omega (arith, ap length (taken-old p.view word finds.reads)))
owes-case first p word (Some ask) [] later finds h rests owes = omega arith
owes-case first p word (Some ask) (r ∷ replies) later finds h rests owes =
    let even : length p.view.answered ≡ length p.view.taken = finds.even refl in
    omega (
      arith,
      ap length (taken-new p.view word finds.reads.0),
      length-append p.view.taken (word ∷ []),
      length-append p.view.answered
          (reply_word (length (with_taking p.view word).taken) ask.number r ∷ []),
    )

length-behind : (first : ℕ) (found : Option Ask) (replies : List Reply) (later : List Command)
    → length replies ≡ length (command_at first found ++ later)
    → length (replies_after found replies) ≡ length later
length-behind first None replies later h = h
length-behind first (Some ask) [] later h = absurd (omega arith)
length-behind first (Some ask) (r ∷ replies) later h = omega arith

pub nothing_owed : (first : ℕ) (places : List ClerkPlace) (visits : List Visit)
    (replies : List Reply) → Finds places visits
    → length replies ≡ length (commands_of first visits)
    → OwesNothing places → OwesNothing (served places visits replies)
nothing_owed first places [] replies finds h rests k d below = rests k d below
nothing_owed first [] (u ∷ visits) replies finds h rests k d below = absurd finds
nothing_owed first (p ∷ places) (u ∷ visits) replies finds h rests zero d below =
    owes-case first p u.word u.found replies (commands_of (suc first) visits) finds.0 h
    (rests zero d (omega arith))
nothing_owed first (p ∷ places) (u ∷ visits) replies finds h rests (suc k) d below =
    nothing_owed (suc first) places visits (replies_after u.found replies) finds.1
    (length-behind first u.found replies (commands_of (suc first) visits) h)
    (λ j e lower. rests (suc j) e (omega arith)) k d (omega arith)
