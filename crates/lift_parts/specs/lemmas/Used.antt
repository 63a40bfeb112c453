-- How many turns of the terminals the looks have used: no more than there are, and one more for
-- each command.
use Rattle.std.proofs.Common.{◌≡◌, ℕ, suc, ◌+◌, ◌*◌, ◌<◌, ◌≤◌, ◌^◌, Bool, true, false, List, []}
use Rattle.std.proofs.Common.{◌∷◌, ◌++◌, length, Option, Some, None, refl, sym, ap, ◌∙◌, arith}
use Rattle.std.specs.Prelude.{nat_lt, if◌then◌else◌, IsSome}
use Rattle.std.proofs.lemmas.Bool.Decides.{nat_tests}
use Rattle.lift_desk.specs.declared.view.ClerkView.{ClerkView}
use Rattle.lift_desk.specs.declared.words.Ask.{Ask}
use Rattle.lift_desk.specs.Words.{turn_of, last_of}
use Rattle.lift_desk.specs.Steps.{with_taking}
use Rattle.lift_desk.specs.Seats.{ClerkPlace, TakesAheadOf}
use Rattle.lift_desk.specs.lemmas.WordLists.{last_of-push}
use Rattle.lift_clerk.specs.Visits.{Visit, AreLooksAt, command_at, commands_of, looked_at}
use Rattle.lift_clerk.specs.lemmas.Visiting.{taken-new, taken-old}
use Rattle.lift_parts.specs.Scan.{TakesAt, capped, turns_in}

pub below_is : (m n : ℕ) → nat_lt m n ≡ true → m < n
below_is m n e = grind (arith, nat_tests)

pub is_below : (m n : ℕ) → m < n → nat_lt m n ≡ true
is_below m n h = grind (arith, nat_tests)

most_of : (t : ℕ) (b : Bool) → nat_lt t 1048576 ≡ b → (if b then t else 1048575) ≤ 1048575
most_of t true is = let below = below_is t 1048576 is in omega arith
most_of t false is = omega arith

capped_most : (t : ℕ) → capped t ≤ 1048575
capped_most t = most_of t (nat_lt t 1048576) refl

capped_is : (t : ℕ) → t < 1048576 → capped t ≡ t
capped_is t below = ap (λ (b : Bool). if b then t else 1048575) (is_below t 1048576 below)

rises_of : (t s : ℕ) (b : Bool) → nat_lt t 1048576 ≡ b → t < s → s < 1048576
    → (if b then t else 1048575) < s
rises_of t s true is less below = less
rises_of t s false is less below =
    let yes = is_below t 1048576 (omega arith) in
    absurd (let both : false ≡ true = sym is ∙ yes in cc)

capped_rises : (t s : ℕ) → t < s → s < 1048576 → capped t + 1 ≤ capped s
capped_rises t s less below =
    let more = rises_of t s (nat_lt t 1048576) refl less below in
    let same = capped_is s below in
    omega arith

-- one look
at_one : (first : ℕ) (view : ClerkView) (word : ℕ) (found : Option Ask)
    → TakesAheadOf view word found
    → (IsSome found → turn_of (last_of (with_taking view word).taken) < 2 ^ 20)
    → capped (turn_of (last_of view.taken)) + length (command_at first found)
    ≤ capped (turn_of (last_of (with_taking view word).taken))
at_one first view word None reads turn =
    let same : capped (turn_of (last_of (with_taking view word).taken))
    ≡ capped (turn_of (last_of view.taken)) =
    ap (λ l. capped (turn_of (last_of l))) (taken-old view word reads) in
    omega arith
at_one first view word (Some ask) reads turn =
    let last_is : turn_of (last_of (with_taking view word).taken) ≡ turn_of word =
    ap (λ l. turn_of (last_of l)) (taken-new view word reads.0)
    ∙ ap turn_of (last_of-push view.taken word) in
    let less : turn_of (last_of view.taken) < turn_of word = below_is _ _ reads.0 in
    let below = turn refl in
    capped_rises (turn_of (last_of view.taken)) (turn_of (last_of (with_taking view word).taken))
    (omega arith) (omega arith)

behind : (first : ℕ) (p : ClerkPlace) (places : List ClerkPlace) (word : ℕ) (found : Option Ask)
    (visits : List Visit) → TakesAt p (record { word = word; found = found })
    → turns_in places + length (commands_of (suc first) visits) ≤ turns_in (looked_at places visits)
    → turns_in (p ∷ places) + length (command_at first found ++ commands_of (suc first) visits)
    ≤ turns_in (looked_at (p ∷ places) (record { word = word; found = found } ∷ visits))
behind first p places word None visits takes rest =
    let one = at_one first p.view word None takes.reads takes.turn in omega arith
behind first p places word (Some ask) visits takes rest =
    let one = at_one first p.view word (Some ask) takes.reads takes.turn in omega arith

pub uses : (first : ℕ) (places : List ClerkPlace) (visits : List Visit) → AreLooksAt TakesAt places visits
    → turns_in places + length (commands_of first visits) ≤ turns_in (looked_at places visits)
uses first places [] takes = omega arith
uses first [] (v ∷ visits) takes = absurd takes
uses first (p ∷ places) (v ∷ visits) takes =
    behind first p places v.word v.found visits takes.0 (uses (suc first) places visits takes.1)

pub most_turns : (places : List ClerkPlace) → turns_in places ≤ 1048575 * length places
most_turns [] = omega arith
most_turns (p ∷ places) =
    let rest = most_turns places in
    let one = capped_most (turn_of (last_of p.view.taken)) in
    omega arith
