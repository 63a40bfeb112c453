-- The clerk and the terminals are told, or rest, and those that wait hear, one terminal after another.
use Rattle.std.proofs.Common.{◌≡◌, ◌≢◌, ℕ, suc, ◌+◌, ◌<◌, ◌≤◌, List, ◌++◌, [], length, set, take, Option, Some, None, true, refl, sym, ap, ◌∙◌, subst, inl, inr, get_or-set_other, arith}
use Rattle.std.specs.Prelude.{nat_eq}
use Rattle.std.specs.Option.{option_eq}
use Rattle.std.proofs.lemmas.List.{append-nil, length-set, take-set}
use Rattle.std.proofs.lemmas.Grind.{get_or-set_at}
use Rattle.std.proofs.lemmas.Bool.{cases_eq, eqb-true, false≢true}
use Rattle.lift_desk.specs.Rule.{IsInOrder}
use Rattle.lift_desk.specs.Steps.{with_told_asks, lists_of}
use Rattle.lift_desk.specs.Seats.{TerminalSeat, ClerkPlace, Waits, clerk_with, no_place, view_at}
use Rattle.lift_replay.specs.Terminals.{AllHear, BothTold, Hears, ToldOrRests, no_seat, seat_at, told_seat, waiting_count}
use Rattle.lift_replay.specs.Told.{ScriptClerk}
use Rattle.lift_replay.proofs.Hearing.{one_more}

-- the first n are told, and have heard
pub record AreToldTo (taken : Option ℕ) (n : ℕ) (seats now : List TerminalSeat) (places known : List ClerkPlace) (lines : List ℕ) : Type 0 where
  pub told : List TerminalSeat
  pub count : length told ≡ length seats
  pub now_count : length now ≡ length seats
  pub place_count : length known ≡ length places
  pub each : (i : ℕ) → i < n → ToldOrRests taken seats (seat_at seats i) (seat_at told i) (view_at places i) (view_at known i)
  pub hear : AllHear (take n told) (take n now) lines
  pub other_seat : (i : ℕ) → n ≤ i → seat_at now i ≡ seat_at seats i
  pub other_place : (i : ℕ) → n ≤ i → view_at known i ≡ view_at places i

pub none_told : (taken : Option ℕ) (seats : List TerminalSeat) (places : List ClerkPlace) → AreToldTo taken 0 seats seats places places []
none_told taken seats places = record {
  told = seats;
  count = refl;
  now_count = refl;
  place_count = refl;
  each = λ i below. absurd (omega (arith, below));
  hear = refl;
  other_seat = λ i past. refl;
  other_place = λ i past. refl;
}

-- one more is told or rests, and hears
next_told : (taken : Option ℕ) (n : ℕ) (seats mids news : List TerminalSeat) (places known later : List ClerkPlace) (lines line : List ℕ) (is : TerminalSeat) → n < length seats
    → AreToldTo taken n seats mids places known lines → ToldOrRests taken seats (seat_at seats n) is (view_at places n) (view_at later n) → Hears is (seat_at news n) line
    → length news ≡ length mids → take n news ≡ take n mids → ((i : ℕ) → i ≢ n → seat_at news i ≡ seat_at mids i) → length later ≡ length known → ((i : ℕ) → i ≢ n → view_at later i ≡ view_at known i)
    → AreToldTo taken (n + 1) seats news places later (lines ++ line)
next_told taken n seats mids news places known later lines line is inside are here hears long front seat_else deep place_else =
    let told : List TerminalSeat = set are.told n is in
    let told_here : seat_at told n ≡ is = get_or-set_at are.told n n is no_seat refl (omega (arith, inside, are.count)) in
    let told_count : length told ≡ length seats = length-set are.told n is ∙ are.count in
    let now_count : length news ≡ length seats = long ∙ are.now_count in
    let next : n + 1 ≡ suc n = omega arith in
    record {
      told = told;
      count = told_count;
      now_count = now_count;
      place_count = deep ∙ are.place_count;
      each = λ i below. elim (cases_eq i n) [
        | inl at ↦ subst (λ j. ToldOrRests taken seats (seat_at seats j) (seat_at told j) (view_at places j) (view_at later j)) (sym at)
            (subst (λ s. ToldOrRests taken seats (seat_at seats n) s (view_at places n) (view_at later n)) (sym told_here) here)
        | inr other ↦ subst (λ s. ToldOrRests taken seats (seat_at seats i) s (view_at places i) (view_at later i)) (sym (get_or-set_other are.told n i is no_seat other))
            (subst (λ v. ToldOrRests taken seats (seat_at seats i) (seat_at are.told i) (view_at places i) v) (sym (place_else i other)) (are.each i (omega (arith, below, other))))
      ];
      hear = subst (λ m. AllHear (take m told) (take m news) (lines ++ line)) (sym next) (one_more told news n lines line (omega (arith, inside, told_count)) (now_count ∙ sym told_count)
          (subst (λ l. AllHear l (take n news) lines) (sym (take-set are.told n is)) (subst (λ l. AllHear (take n are.told) l lines) (sym front) are.hear))
          (subst (λ s. Hears s (seat_at news n) line) (sym told_here) hears));
      other_seat = λ i past. seat_else i (λ at. omega (arith, at, past)) ∙ are.other_seat i (omega (arith, past));
      other_place = λ i past. place_else i (λ at. omega (arith, at, past)) ∙ are.other_place i (omega (arith, past));
    }

-- one more is told
pub told_more : (taken : Option ℕ) (n : ℕ) (seats mids tolds news : List TerminalSeat) (places known later : List ClerkPlace) (lines line : List ℕ) → n < length seats → length places ≡ length seats
    → AreToldTo taken n seats mids places known lines
    → tolds ≡ set mids n (told_seat (seat_at mids n) (view_at known n))
    → later ≡ clerk_with known n (with_told_asks (view_at known n) (seat_at mids n).view.asked)
    → IsInOrder (lists_of (seat_at mids n).view (view_at known n))
    → news ≡ set tolds n (seat_at news n) → Hears (seat_at tolds n) (seat_at news n) line
    → AreToldTo taken (n + 1) seats news places later (lines ++ line)
told_more taken n seats mids tolds news places known later lines line inside many are seat_is place_is fits others hears =
    let seat : seat_at mids n ≡ seat_at seats n = are.other_seat n (omega arith) in
    let place : view_at known n ≡ view_at places n = are.other_place n (omega arith) in
    let is : TerminalSeat = told_seat (seat_at mids n) (view_at known n) in
    let mid_here : seat_at tolds n ≡ is = ap (λ l. seat_at l n) seat_is ∙ get_or-set_at mids n n is no_seat refl (omega (arith, inside, are.now_count)) in
    let here : BothTold (seat_at seats n) is (view_at places n) (view_at later n) = record {
      hears = ap (λ v. told_seat (seat_at mids n) v) place ∙ ap (λ (s : TerminalSeat). told_seat s (view_at places n)) seat;
      knows = ap (λ l. view_at l n) place_is ∙ ap (λ (p : ClerkPlace). p.view) (get_or-set_at known n n _ no_place refl (omega (arith, inside, many, are.place_count)))
          ∙ ap (λ v. with_told_asks v (seat_at mids n).view.asked) place ∙ ap (λ (s : TerminalSeat). with_told_asks (view_at places n) s.view.asked) seat;
      in_order = subst (λ (s : TerminalSeat). IsInOrder (lists_of s.view (view_at places n))) seat (subst (λ v. IsInOrder (lists_of (seat_at mids n).view v)) place fits);
    } in
    next_told taken n seats mids news places known later lines line is inside are (inl here) (subst (λ s. Hears s (seat_at news n) line) mid_here hears)
    (ap length others ∙ length-set tolds n _ ∙ ap length seat_is ∙ length-set mids n is)
    (ap (take n) others ∙ take-set tolds n _ ∙ ap (take n) seat_is ∙ take-set mids n is)
    (λ i other. ap (λ l. seat_at l i) others ∙ get_or-set_other tolds n i _ no_seat other ∙ ap (λ l. seat_at l i) seat_is ∙ get_or-set_other mids n i _ no_seat other)
    (ap length place_is ∙ length-set known n _)
    (λ i other. ap (λ l. view_at l i) place_is ∙ ap (λ (p : ClerkPlace). p.view) (get_or-set_other known n i _ no_place other))

-- so many were taken as terminals wait
pub as_many : (taken : Option ℕ) (n waiting : ℕ) → option_eq nat_eq taken (Some n) ≡ true → n ≡ waiting → taken ≡ Some waiting
as_many None n waiting same is = absurd (false≢true same)
as_many (Some m) n waiting same is = ap Some (eqb-true m n same ∙ is)

-- one more doesn't wait, and rests
pub rests_more : (taken : Option ℕ) (n : ℕ) (seats mids : List TerminalSeat) (places known : List ClerkPlace) (lines : List ℕ) → n < length seats → AreToldTo taken n seats mids places known lines
    → taken ≡ Some (waiting_count seats) → ¬ Waits (seat_at mids n).view → AreToldTo taken (n + 1) seats mids places known lines
rests_more taken n seats mids places known lines inside are as_many quiet =
    let seat : seat_at mids n ≡ seat_at seats n = are.other_seat n (omega arith) in
    subst (AreToldTo taken (n + 1) seats mids places known) (append-nil lines)
    (next_told taken n seats mids mids places known known lines [] (seat_at mids n) inside are
    (inr (as_many, record { rests = subst (λ (s : TerminalSeat). ¬ Waits s.view) seat quiet; seat_same = seat; place_same = are.other_place n (omega arith) }))
    (inl (quiet, refl, refl)) refl refl (λ i other. refl) refl (λ i other. refl))

-- of the clerk nothing but its seats has changed so far
pub rest_more : (start mid next : ScriptClerk) (places : List ClerkPlace) → mid ≡ record start { seat = mid.seat } → next ≡ record mid { seat = places } → next ≡ record start { seat = next.seat }
rest_more start mid next places before is =
    is ∙ ap (λ (k : ScriptClerk). record k { seat = places }) before ∙ ap (λ l. record start { seat = l }) (sym (ap (λ (k : ScriptClerk). k.seat) is))
