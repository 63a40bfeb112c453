-- Clerk and terminals stay in step: an ask, and a turn after which all that was answered is heard.
use Rattle.std.proofs.Common.{◌≡◌, ℕ, zero, suc, ◌+◌, ◌<◌, ◌≤◌, false, cond, List, [], ◌∷◌, ◌++◌, length, All, Option, Some, None, IfSome, refl, sym, ap, ◌∙◌, subst, inl, inr, arith, length-append}
use Rattle.std.proofs.lemmas.Bool.{le-ltb, lt-ltb}
use Rattle.std.proofs.lemmas.List.Elements.{All-head, All-tail}
use Rattle.std.proofs.lemmas.List.Sums.{sum_by-cons}
use mathlib.Core.List.{IsPrefix}
use Rattle.lift_base.specs.declared.command.Reply.{Reply}
use Rattle.lift_desk.specs.declared.words.Ask.{Ask}
use Rattle.lift_desk.specs.declared.view.TerminalView.{TerminalView}
use Rattle.lift_desk.specs.declared.view.ClerkView.{ClerkView}
use Rattle.lift_desk.specs.Words.{number_of, last_of, ask_word, reply_word, IsReply}
use Rattle.lift_desk.specs.Steps.{is_new_word, with_taking, with_answer, with_hearing, with_told_answers, with_told_asks}
use Rattle.lift_desk.specs.Seats.{TerminalSeat, ClerkPlace, Waits, IsToldAnswer, HearsOf, TakesOf, seat_with, view_at}
use Rattle.lift_desk.specs.lemmas.WordLists.{last_of-push, prefix_length}
use Rattle.lift_policy.specs.declared.command.Command.{Command}
use Rattle.lift_clerk.specs.Visits.{Visit, FindsAt, Finds, command_at, commands_of, with_reply, replies_after, served}
use Rattle.lift_replay.specs.Group.{Asking, asking_at, waiting_from, having_heard, heard_replies_text}
use Rattle.lift_replay.specs.Report.{heard_text}
use Rattle.lift_replay.specs.Terminals.{AllHear, Hears, NeitherTold, heard_line, has_unheard, seat_at, told_seat, waiting_count}
use Rattle.lift_replay.specs.Shows.{WaitsFor, IsInStep}

-- a terminal waits just where an ask of it does
pub waits_not : (a : Asking) (seat : TerminalView) (place : ClerkView) → IsInStep a seat place → a.waiting ≡ None → ¬ Waits seat
waits_not a seat place step none = λ waits.
    let same = subst (λ w. WaitsFor w seat place) none step.waits in
    omega (arith, waits, ap length step.heard, step.even, ap length same)

pub waits_so : (a : Asking) (seat : TerminalView) (place : ClerkView) (ask : Ask) → IsInStep a seat place → a.waiting ≡ Some ask → Waits seat
waits_so a seat place ask step some =
    let more = subst (λ w. WaitsFor w seat place) some step.waits in
    omega (arith, ap length step.heard, step.even, ap length more.1, length-append place.taken (ask_word (suc (length place.taken)) ask.number ask.body ∷ []))

-- a terminal's ask that waits, of a clerk that found it
module _ (seat : TerminalView) (place : ClerkPlace) (visit : Visit) where
  -- it is found just where it waits
  pub found_is : (w : Option Ask) (taken : List ℕ) → WaitsFor w seat place.view → place.view.told ≡ seat.asked → FindsAt place visit
      → taken ≡ (with_taking place.view visit.word).taken → IsPrefix taken seat.asked → visit.found ≡ w
  found_is (Some ask) taken waits told finds is front = finds.told ask (waits.0, told ∙ waits.1)
  found_is None taken waits told finds is front = found_none visit.found refl
    where
      found_none : (f : Option Ask) → visit.found ≡ f → visit.found ≡ None
      found_none None e = e
      found_none (Some ask) e =
          let reads = subst (λ f. TakesOf place.view visit.word f) e finds.reads in
          let more : (with_taking place.view visit.word).taken ≡ place.view.taken ++ visit.word ∷ [] = ap (λ b. cond b (place.view.taken ++ visit.word ∷ []) place.view.taken) reads.0 in
          let longer : length taken ≤ length seat.asked = prefix_length taken seat.asked front in
          absurd (omega (arith, longer, ap length is, ap length more, length-append place.view.taken (visit.word ∷ []), ap length waits))

-- a reply that is stored takes nothing
taken_reply : (view : ClerkView) (found : Option Ask) (replies : List Reply) → (with_reply view found replies).taken ≡ view.taken
taken_reply view None replies = refl
taken_reply view (Some ask) [] = refl
taken_reply view (Some ask) (reply ∷ replies) = refl

-- each look has found the ask that waits
abbrev pub AllFound : List Visit → List Asking → Type 0
AllFound [] [] = Unit {0}
AllFound [] (a ∷ askings) = ⊥
AllFound (v ∷ visits) [] = ⊥
AllFound (v ∷ visits) (a ∷ askings) = (v.found ≡ a.waiting) × AllFound visits askings

pub all_found : (askings : List Asking) (places : List ClerkPlace) (visits : List Visit) (replies : List Reply) (seat : ℕ → TerminalView)
    → length visits ≡ length askings → length places ≡ length askings → Finds places visits
    → ((i : ℕ) → i < length askings → IsInStep (asking_at askings i) (seat i) (view_at places i))
    → ((i : ℕ) → i < length askings → IsPrefix (view_at (served places visits replies) i).taken (seat i).asked)
    → AllFound visits askings
all_found [] places [] replies seat many count finds each front = tt
all_found [] places (v ∷ visits) replies seat many count finds each front = absurd (omega (arith, many))
all_found (a ∷ askings) places [] replies seat many count finds each front = absurd (omega (arith, many))
all_found (a ∷ askings) [] (v ∷ visits) replies seat many count finds each front = absurd (omega (arith, count))
all_found (a ∷ askings) (place ∷ places) (v ∷ visits) replies seat many count finds each front =
    let here = each 0 (omega arith) in (
      found_is (seat 0) place v a.waiting (with_reply (with_taking place.view v.word) v.found replies).taken here.waits here.told finds.0
          (taken_reply (with_taking place.view v.word) v.found replies) (front 0 (omega arith)),
      all_found askings places visits (replies_after v.found replies) (λ i. seat (suc i)) (omega (arith, many)) (omega (arith, count)) finds.1
          (λ i below. each (suc i) (omega (arith, below))) (λ i below. front (suc i) (omega (arith, below))),
    )

-- Of the asks that wait each look has found its own. So where as many were found as wait, just these were.
heads : (k : ℕ) (w f : Option Ask) (waiting found : List Command) → ((ask : Ask) → w ≡ Some ask → f ≡ w) → length waiting ≤ length found
    → (length (command_at k w ++ waiting) ≤ length (command_at k f ++ found))
    × (length (command_at k f ++ found) ≡ length (command_at k w ++ waiting) → (f ≡ w) × (length found ≡ length waiting))
heads k None None waiting found told few = (few, (λ same. (refl, same)))
heads k None (Some ask) waiting found told few = (omega (arith, few), (λ same. absurd (omega (arith, same, few))))
heads k (Some ask) None waiting found told few = absurd (let is = told ask refl in cc)
heads k (Some ask) (Some other) waiting found told few = (omega (arith, few), (λ same. (told ask refl, omega (arith, same))))

pub finds_waiting : (k : ℕ) (askings : List Asking) (places : List ClerkPlace) (visits : List Visit) (seat : ℕ → TerminalView)
    → length visits ≡ length askings → length places ≡ length askings → Finds places visits
    → ((i : ℕ) → i < length askings → IsInStep (asking_at askings i) (seat i) (view_at places i))
    → (length (waiting_from k askings) ≤ length (commands_of k visits)) × (length (commands_of k visits) ≡ length (waiting_from k askings) → AllFound visits askings)
finds_waiting k [] places [] seat many count finds each = (omega arith, (λ same. tt))
finds_waiting k [] places (v ∷ visits) seat many count finds each = absurd (omega (arith, many))
finds_waiting k (a ∷ askings) places [] seat many count finds each = absurd (omega (arith, many))
finds_waiting k (a ∷ askings) [] (v ∷ visits) seat many count finds each = absurd (omega (arith, count))
finds_waiting k (a ∷ askings) (place ∷ places) (v ∷ visits) seat many count finds each =
    let here = each 0 (omega arith) in
    let rest = finds_waiting (suc k) askings places visits (λ i. seat (suc i)) (omega (arith, many)) (omega (arith, count)) finds.1 (λ i below. each (suc i) (omega (arith, below))) in
    let told : (ask : Ask) → a.waiting ≡ Some ask → v.found ≡ a.waiting = λ ask is.
    let waits = subst (λ w. WaitsFor w (seat 0) place.view) is here.waits in
    finds.0.told ask (waits.0, here.told ∙ waits.1) ∙ sym is in
    let both = heads k a.waiting v.found (waiting_from (suc k) askings) (commands_of (suc k) visits) told rest.0 in
    (both.0, (λ same. let is = both.1 same in (is.0, rest.1 is.1)))

-- as many asks wait as terminals do
one_waits : (k : ℕ) (w : Option Ask) (a : Asking) (seat : TerminalSeat) (place : ClerkView) → IsInStep a seat.view place → a.waiting ≡ w → cond (has_unheard seat) 1 0 ≡ length (command_at k w)
one_waits k None a seat place step none = ap (λ b. cond b 1 0) (le-ltb (length seat.view.heard) (length seat.view.asked) (let quiet = waits_not a seat.view place step none in omega (arith, quiet)))
one_waits k (Some ask) a seat place step some = ap (λ b. cond b 1 0) (lt-ltb (length seat.view.heard) (length seat.view.asked) (waits_so a seat.view place ask step some))

pub waiting_is : (k : ℕ) (askings : List Asking) (seats : List TerminalSeat) (place : ℕ → ClerkView) → length seats ≡ length askings
    → ((i : ℕ) → i < length askings → IsInStep (asking_at askings i) (seat_at seats i).view (place i)) → waiting_count seats ≡ length (waiting_from k askings)
waiting_is k [] [] place count each = refl
waiting_is k [] (seat ∷ seats) place count each = absurd (omega (arith, count))
waiting_is k (a ∷ askings) [] place count each = absurd (omega (arith, count))
waiting_is k (a ∷ askings) (seat ∷ seats) place count each =
    sum_by-cons (λ (s : TerminalSeat). cond (has_unheard s) 1 0) seat seats
    ∙ ap (λ n. n + waiting_count seats) (one_waits k a.waiting a seat (place 0) (each 0 (omega arith)) refl)
    ∙ ap (λ n. length (command_at k a.waiting) + n) (waiting_is (suc k) askings seats (λ i. place (suc i)) (omega (arith, count)) (λ i below. each (suc i) (omega (arith, below))))
    ∙ sym (length-append (command_at k a.waiting) (waiting_from (suc k) askings))

-- where nothing waits, nothing was answered
pub looked_alone : (i : ℕ) (askings : List Asking) (places : List ClerkPlace) (visits : List Visit) (replies : List Reply) → AllFound visits askings → length places ≡ length askings → i < length askings
    → (asking_at askings i).waiting ≡ None → (word : ℕ) × (view_at (served places visits replies) i ≡ with_taking (view_at places i) word)
looked_alone i [] places visits replies found count below none = absurd (omega (arith, below))
looked_alone i (a ∷ askings) [] visits replies found count below none = absurd (omega (arith, count))
looked_alone i (a ∷ askings) (place ∷ places) [] replies found count below none = absurd found
looked_alone zero (a ∷ askings) (place ∷ places) (v ∷ visits) replies found count below none =
    (v.word, ap (λ f. with_reply (with_taking place.view v.word) f replies) (found.0 ∙ none))
looked_alone (suc i) (a ∷ askings) (place ∷ places) (v ∷ visits) replies found count below none =
    looked_alone i askings places visits (replies_after v.found replies) found.1 (omega (arith, count)) (omega (arith, below)) none

-- A terminal that rests is as it would be if it were told.
pub told_alike : (w : Option Ask) (a : Asking) (seat told : TerminalSeat) (place turned known : ClerkView) → IsInStep a seat.view place → a.waiting ≡ w → NeitherTold seat told turned known
    → (a.waiting ≡ None → (word : ℕ) × (turned ≡ with_taking place word))
    → (told ≡ told_seat seat turned) × (known ≡ with_told_asks turned seat.view.asked)
told_alike (Some ask) a seat told place turned known step is rests looks = absurd (rests.rests (waits_so a seat.view place ask step is))
told_alike None a seat told place turned known step is rests looks =
    let looked = looks is in (
      rests.seat_same ∙ ap (λ l. seat_with seat (with_told_answers seat.view l)) (step.told_answers ∙ sym (ap (λ (v : ClerkView). v.answered) looked.1)),
      rests.place_same ∙ ap (with_told_asks turned) (ap (λ (v : ClerkView). v.told) looked.1 ∙ step.told),
    )

pub commands_found : (k : ℕ) (visits : List Visit) (askings : List Asking) → AllFound visits askings → commands_of k visits ≡ waiting_from k askings
commands_found k [] [] found = refl
commands_found k [] (a ∷ askings) found = absurd found
commands_found k (v ∷ visits) [] found = absurd found
commands_found k (v ∷ visits) (a ∷ askings) found =
    ap (λ f. command_at k f ++ commands_of (suc k) visits) found.0 ∙ ap (λ cs. command_at k a.waiting ++ cs) (commands_found (suc k) visits askings found.1)

-- one terminal hears its answer
module _ (a : Asking) (seat : TerminalView) (place : ClerkPlace) (v : Visit) (step : IsInStep a seat place.view) (finds : FindsAt place v) where
  abbrev looked : ClerkView
  looked = with_taking place.view v.word

  -- an ask that waits is answered
  module _ (ask : Ask) (reply : Reply) (waits : WaitsFor (Some ask) seat place.view) (found : v.found ≡ Some ask) where
    abbrev answered : ClerkView
    answered = with_answer looked (reply_word (length looked.taken) ask.number reply)

    reads : TakesOf place.view v.word (Some ask)
    reads = subst (λ f. TakesOf place.view v.word f) found finds.reads

    more : looked.taken ≡ place.view.taken ++ v.word ∷ []
    more = ap (λ b. cond b (place.view.taken ++ v.word ∷ []) place.view.taken) reads.0

    all_taken : seat.asked ≡ looked.taken
    all_taken = waits.1 ∙ ap (λ w. place.view.taken ++ w ∷ []) (sym reads.1) ∙ sym more

    last : number_of (last_of seat.asked) ≡ ask.number
    last =
        ap (λ l. number_of (last_of l)) (all_taken ∙ more) ∙ ap number_of (last_of-push place.view.taken v.word)
        ∙ ap number_of reads.1 ∙ sym (ap number_of reads.1) ∙ number_is
      where
        number_is : number_of v.word ≡ ask.number
        number_is = subst (λ f. IfSome f (λ (x : Ask). number_of v.word ≡ x.number)) found finds.number

    word_is : reply_word (length seat.asked) (number_of (last_of seat.asked)) reply ≡ reply_word (length looked.taken) ask.number reply
    word_is = ap (λ n. reply_word n (number_of (last_of seat.asked)) reply) (ap length all_taken) ∙ ap (λ n. reply_word (length looked.taken) n reply) last

    pub hears_it : (old new : TerminalSeat) (t : ℕ) (line : List ℕ) → IsReply reply → old.view ≡ with_told_answers seat answered.answered → old.terminal ≡ t → Hears old new line
        → (line ≡ heard_text t ask.number reply) × (new.terminal ≡ t) × IsInStep (record { turns = a.turns; waiting = None }) new.view (with_told_asks answered seat.asked)
    hears_it old new t line range view at (inl rests) =
        let waiting : Waits old.view = subst Waits (sym view) (omega (arith, ap length step.heard, step.even, ap length all_taken, ap length more, length-append place.view.taken (v.word ∷ []))) in
        absurd (rests.0 waiting)
    hears_it old new t line range view at (inr h) =
        let told : IsToldAnswer (with_told_answers seat answered.answered) reply = (range, ap (λ l. l ++ reply_word (length looked.taken) ask.number reply ∷ []) (sym step.heard) ∙ ap (λ w. seat.heard ++ w ∷ []) (sym word_is)) in
        let is : h.reply ≡ Some reply = h.finds reply (subst (λ x. IsToldAnswer x reply) (sym view) told) in
        let hears : HearsOf (with_told_answers seat answered.answered) h.word (Some reply) = subst (λ x. HearsOf x h.word (Some reply)) view (subst (λ r. HearsOf old.view h.word r) is h.hears) in
        let new_is : new.view ≡ with_hearing (with_told_answers seat answered.answered) h.word = ap (λ (s : TerminalSeat). s.view) h.looked ∙ ap (λ x. with_hearing x h.word) view in
        let heard : (with_hearing (with_told_answers seat answered.answered) h.word).heard ≡ answered.answered =
        ap (λ b. cond b (seat.heard ++ h.word ∷ []) seat.heard) hears.0 ∙ ap (λ w. seat.heard ++ w ∷ []) (hears.1 ∙ word_is) ∙ ap (λ l. l ++ reply_word (length looked.taken) ask.number reply ∷ []) step.heard in
        let in_step : IsInStep (record { turns = a.turns; waiting = None }) (with_hearing (with_told_answers seat answered.answered) h.word) (with_told_asks answered seat.asked) = record {
          turns = step.turns;
          told = refl;
          told_answers = refl;
          heard = heard;
          even = omega (arith, step.even, ap length more, length-append place.view.taken (v.word ∷ []), length-append place.view.answered (reply_word (length looked.taken) ask.number reply ∷ []));
          waits = all_taken;
        } in (
          h.shown ∙ ap (heard_line old) is ∙ ap (λ n. heard_text n (number_of (last_of old.view.asked)) reply) at
              ∙ ap (λ n. heard_text t n reply) (ap (λ (x : TerminalView). number_of (last_of x.asked)) view ∙ last),
          ap (λ (s : TerminalSeat). s.terminal) h.looked ∙ at,
          subst (λ x. IsInStep (record { turns = a.turns; waiting = None }) x (with_told_asks answered seat.asked)) (sym new_is) in_step,
        )

  -- where none waits there is nothing to hear
  pub hears_nothing : WaitsFor None seat place.view → v.found ≡ None → (old new : TerminalSeat) (t : ℕ) (line : List ℕ) → old.view ≡ with_told_answers seat looked.answered → old.terminal ≡ t → Hears old new line
      → (line ≡ []) × (new.terminal ≡ t) × IsInStep (record { turns = a.turns; waiting = None }) new.view (with_told_asks looked seat.asked)
  hears_nothing waits found old new t line view at (inr h) =
      let waiting : Waits (with_told_answers seat looked.answered) = subst Waits view h.waited in
      absurd (omega (arith, waiting, ap length step.heard, step.even, ap length waits))
  hears_nothing waits found old new t line view at (inl rests) =
      let old_word : is_new_word place.view v.word ≡ false = subst (λ f. TakesOf place.view v.word f) found finds.reads in
      let same : looked.taken ≡ place.view.taken = ap (λ b. cond b (place.view.taken ++ v.word ∷ []) place.view.taken) old_word in
      let in_step : IsInStep (record { turns = a.turns; waiting = None }) (with_told_answers seat looked.answered) (with_told_asks looked seat.asked) = record {
        turns = step.turns;
        told = refl;
        told_answers = refl;
        heard = step.heard;
        even = step.even ∙ ap length (sym same);
        waits = waits ∙ sym same;
      } in (
        rests.2,
        ap (λ (s : TerminalSeat). s.terminal) rests.1 ∙ at,
        subst (λ x. IsInStep (record { turns = a.turns; waiting = None }) x (with_told_asks looked seat.asked)) (sym (ap (λ (s : TerminalSeat). s.view) rests.1 ∙ view)) in_step,
      )

-- all terminals hear, from this one on
pub record HearAll (k : ℕ) (askings : List Asking) (after : List TerminalSeat) (heard : List ℕ) (replies : List Reply) (known : ℕ → ClerkView) : Type 0 where
  pub text : heard ≡ heard_replies_text (waiting_from k askings) replies
  pub own : (i : ℕ) → i < length askings → (seat_at after i).terminal ≡ k + i
  pub each : (i : ℕ) → i < length askings → IsInStep (asking_at (having_heard askings) i) (seat_at after i).view (known i)

no_more : (commands : List Command) (replies : List Reply) → length replies ≡ length commands → commands ≡ [] → heard_replies_text commands replies ≡ []
no_more [] replies same none = refl
no_more (c ∷ commands) replies same none = absurd (omega (arith, ap length none))

-- one terminal, and those after it
hear_one : (k : ℕ) (a : Asking) (askings : List Asking) (w : Option Ask) (place : ClerkPlace) (v : Visit) (replies : List Reply) (seat : TerminalView) (old new : TerminalSeat) (news : List TerminalSeat) (line others : List ℕ) (known : ℕ → ClerkView)
    → a.waiting ≡ w → v.found ≡ w → IsInStep a seat place.view → FindsAt place v → All IsReply replies → length replies ≡ length (command_at k w ++ waiting_from (suc k) askings)
    → old.view ≡ with_told_answers seat (with_reply (with_taking place.view v.word) w replies).answered
    → known 0 ≡ with_told_asks (with_reply (with_taking place.view v.word) w replies) seat.asked → old.terminal ≡ k → Hears old new line
    → (All IsReply (replies_after w replies) → length (replies_after w replies) ≡ length (waiting_from (suc k) askings) → HearAll (suc k) askings news others (replies_after w replies) (λ i. known (suc i)))
    → HearAll k (a ∷ askings) (new ∷ news) (line ++ others) replies known
hear_one k a askings None place v replies seat old new news line others known w found step finds range many view known_is at hears behind =
    let here = hears_nothing a seat place v step finds (subst (λ x. WaitsFor x seat place.view) w step.waits) found old new k line view at hears in
    let rest = behind range many in
    record {
      text = ap (λ l. l ++ others) here.0 ∙ rest.text ∙ ap (λ x. heard_replies_text (command_at k x ++ waiting_from (suc k) askings) replies) (sym w);
      own = own here.1 rest.own;
      each = each (subst (λ x. IsInStep (record { turns = a.turns; waiting = None }) new.view x) (sym known_is) here.2) rest.each;
    }
  where
    own : new.terminal ≡ k → ((i : ℕ) → i < length askings → (seat_at news i).terminal ≡ suc k + i) → (i : ℕ) → i < suc (length askings) → (seat_at (new ∷ news) i).terminal ≡ k + i
    own first more zero below = first ∙ omega arith
    own first more (suc i) below = more i (omega (arith, below)) ∙ omega arith

    each : IsInStep (record { turns = a.turns; waiting = None }) new.view (known 0) → ((i : ℕ) → i < length askings → IsInStep (asking_at (having_heard askings) i) (seat_at news i).view (known (suc i)))
        → (i : ℕ) → i < suc (length askings) → IsInStep (asking_at (having_heard (a ∷ askings)) i) (seat_at (new ∷ news) i).view (known i)
    each first more zero below = first
    each first more (suc i) below = more i (omega (arith, below))
hear_one k a askings (Some ask) place v [] seat old new news line others known w found step finds range many view known_is at hears behind = absurd (omega (arith, many))
hear_one k a askings (Some ask) place v (reply ∷ replies) seat old new news line others known w found step finds range many view known_is at hears behind =
    let here = hears_it a seat place v step finds ask reply (subst (λ x. WaitsFor x seat place.view) w step.waits) found old new k line (All-head IsReply reply replies range) view at hears in
    let rest = behind (All-tail IsReply reply replies range) (omega (arith, many)) in
    record {
      text = ap (λ l. l ++ others) here.0 ∙ ap (λ l. heard_text k ask.number reply ++ l) rest.text ∙ ap (λ x. heard_replies_text (command_at k x ++ waiting_from (suc k) askings) (reply ∷ replies)) (sym w);
      own = own here.1 rest.own;
      each = each (subst (λ x. IsInStep (record { turns = a.turns; waiting = None }) new.view x) (sym known_is) here.2) rest.each;
    }
  where
    own : new.terminal ≡ k → ((i : ℕ) → i < length askings → (seat_at news i).terminal ≡ suc k + i) → (i : ℕ) → i < suc (length askings) → (seat_at (new ∷ news) i).terminal ≡ k + i
    own first more zero below = first ∙ omega arith
    own first more (suc i) below = more i (omega (arith, below)) ∙ omega arith

    each : IsInStep (record { turns = a.turns; waiting = None }) new.view (known 0) → ((i : ℕ) → i < length askings → IsInStep (asking_at (having_heard askings) i) (seat_at news i).view (known (suc i)))
        → (i : ℕ) → i < suc (length askings) → IsInStep (asking_at (having_heard (a ∷ askings)) i) (seat_at (new ∷ news) i).view (known i)
    each first more zero below = first
    each first more (suc i) below = more i (omega (arith, below))

pub hear_all : (k : ℕ) (askings : List Asking) (places : List ClerkPlace) (visits : List Visit) (replies : List Reply) (seat : ℕ → TerminalView) (olds news : List TerminalSeat) (heard : List ℕ) (known : ℕ → ClerkView)
    → AllFound visits askings → length places ≡ length askings → length olds ≡ length askings → Finds places visits → All IsReply replies → length replies ≡ length (waiting_from k askings)
    → ((i : ℕ) → i < length askings → IsInStep (asking_at askings i) (seat i) (view_at places i))
    → ((i : ℕ) → i < length askings → (seat_at olds i).view ≡ with_told_answers (seat i) (view_at (served places visits replies) i).answered)
    → ((i : ℕ) → i < length askings → known i ≡ with_told_asks (view_at (served places visits replies) i) (seat i).asked)
    → ((i : ℕ) → i < length askings → (seat_at olds i).terminal ≡ k + i)
    → AllHear olds news heard → HearAll k askings news heard replies known
hear_all k [] places visits replies seat [] [] heard known found count olds_count finds range many step view known_is at hear =
    record { text = hear; own = λ i below. absurd (omega (arith, below)); each = λ i below. absurd (omega (arith, below)) }
hear_all k [] places visits replies seat [] (new ∷ news) heard known found count olds_count finds range many step view known_is at hear = absurd hear
hear_all k [] places visits replies seat (old ∷ olds) news heard known found count olds_count finds range many step view known_is at hear = absurd (omega (arith, olds_count))
hear_all k (a ∷ askings) places [] replies seat olds news heard known found count olds_count finds range many step view known_is at hear = absurd found
hear_all k (a ∷ askings) [] (v ∷ visits) replies seat olds news heard known found count olds_count finds range many step view known_is at hear = absurd (omega (arith, count))
hear_all k (a ∷ askings) (place ∷ places) (v ∷ visits) replies seat [] news heard known found count olds_count finds range many step view known_is at hear = absurd (omega (arith, olds_count))
hear_all k (a ∷ askings) (place ∷ places) (v ∷ visits) replies seat (old ∷ olds) [] heard known found count olds_count finds range many step view known_is at hear = absurd hear
hear_all k (a ∷ askings) (place ∷ places) (v ∷ visits) replies seat (old ∷ olds) (new ∷ news) heard known found count olds_count finds range many step view known_is at (line, others, one, rest, is) =
    let same : replies_after v.found replies ≡ replies_after a.waiting replies = ap (λ f. replies_after f replies) found.0 in
    subst (λ h. HearAll k (a ∷ askings) (new ∷ news) h replies known) (sym is)
    (hear_one k a askings a.waiting place v replies (seat 0) old new news line others known refl found.0 (step 0 (omega arith)) finds.0 range many
    (view 0 (omega arith) ∙ ap (λ f. with_told_answers (seat 0) (with_reply (with_taking place.view v.word) f replies).answered) found.0)
    (known_is 0 (omega arith) ∙ ap (λ f. with_told_asks (with_reply (with_taking place.view v.word) f replies) (seat 0).asked) found.0)
    (at 0 (omega arith) ∙ omega arith) one
    (λ later fewer. hear_all (suc k) askings places visits (replies_after a.waiting replies) (λ i. seat (suc i)) olds news others (λ i. known (suc i)) found.1 (omega (arith, count)) (omega (arith, olds_count)) finds.1 later fewer
    (λ i below. step (suc i) (omega (arith, below)))
    (λ i below. view (suc i) (omega (arith, below)) ∙ ap (λ r. with_told_answers (seat (suc i)) (view_at (served places visits r) i).answered) same)
    (λ i below. known_is (suc i) (omega (arith, below)) ∙ ap (λ r. with_told_asks (view_at (served places visits r) i) (seat (suc i)).asked) same)
    (λ i below. at (suc i) (omega (arith, below)) ∙ omega arith) rest))
