-- A run of decisions is a list of takes.
use Rattle.std.proofs.Common.{ℕ, ◌≡◌, ◌≢◌, ◌≤◌, false, not, ◌&&◌, ◌||◌, eqb, List, [], ◌∷◌, ◌++◌, length, take, refl, sym, ap, subst, ◌∙◌, arith, append_assoc}
use Rattle.std.specs.Prelude.{Some, nat_lt, nat_le, count_by}
use Rattle.std.specs.List.{AllByRecursion, list_any, flat_map}
use Rattle.std.proofs.lemmas.Bool.{and_parts, and_from, ne_eqb, or_from, not-true, not_from_false}
use Rattle.std.proofs.lemmas.List.{append-nil, length-append, take-append-le, length-take-le}
use Rattle.std.proofs.Math.Seq.{take-length}
use Rattle.std.proofs.lemmas.List.Folds.{list_any-append}
use Rattle.lift_base.specs.declared.history.Entry.{Entry}
use Rattle.lift_base.specs.declared.command.Reply.{Reply}
use Rattle.lift_base.specs.declared.limits.TheConstants.{MOST_BATCHES}
use Rattle.lift_policy.specs.declared.command.Command.{Command}
use Rattle.lift_policy.specs.Eligible.{any_eligible}
use Rattle.lift_policy.specs.Step.{State}
use Rattle.lift_policy.specs.Run.{Run}
use Rattle.lift_world.specs.declared.event.Taken.{Taken}
use Rattle.lift_policy.specs.Decision.{Decision}
use Rattle.lift_world.specs.World.{World, SealedBatch, is_off, state_of, is_taken_of, is_answer_to, asks}
use Rattle.lift_world.specs.Next.{deciding, is_waiting, unanswered}
use Rattle.lift_world.specs.Tie.{TakeFinds}
use Rattle.lift_world.specs.Turns.{AreFound, with_replies, take_events, scanned, RunsAreTakes}
use Rattle.lift_world.specs.declared.event.Event.TheVariants.{Take}
use Rattle.lift_world.specs.lemmas.Goes.{one}
use Rattle.lift_world.specs.lemmas.Steps.{GoesOn, state_goes_on, steps_go_on, state_after, steps_are_takes}

abbrev pub taken_as : Command → Reply → Taken
taken_as command reply = record { terminal = command.terminal; number = command.number; body = command.body; reply = reply }

-- one command more is taken
one_more : (w : World) (command : Command) (d : Decision) → unanswered (deciding w command d) ≡ unanswered w ++ taken_as command d.reply ∷ []
one_more w command d =
    sym (append_assoc (w.due ++ w.flight.commands ++ flat_map (λ (b : SealedBatch). b.commands) w.queue) w.taken (taken_as command d.reply ∷ []))

-- an ask still stands after another terminal's take
pub found_still : (w : World) (command : Command) (d : Decision) (other : Command) → TakeFinds w other.terminal other → other.terminal ≢ command.terminal → TakeFinds (deciding w command d) other.terminal other
found_still w command d other finds apart =
    let test = is_taken_of other.terminal in
    let may = and_parts (not (is_off w.power) && nat_le (length w.queue) MOST_BATCHES) (is_waiting w other.terminal) finds.0 in
    let waits = and_parts (nat_lt (count_by (is_answer_to other.terminal) w.answered) (count_by (asks other.terminal) w.asked)) (not (list_any test (unanswered w))) may.1 in
    let none : list_any test (unanswered w) ≡ false = not-true (list_any test (unanswered w)) waits.1 in
    let still : list_any test (unanswered (deciding w command d)) ≡ false =
    ap (list_any test) (one_more w command d) ∙ list_any-append test (unanswered w) (taken_as command d.reply ∷ [])
    ∙ or_from (list_any test (unanswered w)) (eqb command.terminal other.terminal || false) none (or_from (eqb command.terminal other.terminal) false (ne_eqb command.terminal other.terminal (λ e. apart (sym e))) refl) in
    (and_from (not (is_off w.power) && nat_le (length w.queue) MOST_BATCHES) _ may.0 (and_from (nat_lt (count_by (is_answer_to other.terminal) w.answered) (count_by (asks other.terminal) w.asked)) _ waits.0 (not_from_false _ still)), finds.1)

all_found_still : (w : World) (command : Command) (d : Decision) (others : List Command) → AllByRecursion (λ (c : Command). c.terminal ≢ command.terminal) others → AreFound w others → AreFound (deciding w command d) others
all_found_still w command d [] apart found = tt
all_found_still w command d (other ∷ others) apart found =
    (found_still w command d other found.0 apart.0, found.1, all_found_still w command d others apart.1 found.2)

-- the prefix that is sealed stays
front_stays : (xs ys : List Entry) (n : ℕ) → n ≤ length xs → take n (take n xs ++ ys) ≡ take n xs
front_stays xs ys n le =
    let l = length-take-le n xs le in
    take-append-le n (take n xs) ys (omega arith) ∙ ap (λ (m : ℕ). take m (take n xs)) (sym l) ∙ take-length (take n xs)

front_long : (xs ys : List Entry) (n : ℕ) → n ≤ length xs → n ≤ length (take n xs ++ ys)
front_long xs ys n le = let l = length-take-le n xs le in let a = length-append (take n xs) ys in omega arith

-- the scan of the rest is the rest of the scan
pub scanned_rest : (w : World) (command : Command) (d : Decision) (commands : List Command) (replies : List Reply) (state : State) → w.sealed ≤ length w.accepted
    → scanned (deciding w command d) commands replies state ≡ scanned w (command ∷ commands) (d.reply ∷ replies) state
scanned_rest w command d commands replies state le =
    ap (λ (xs : List Entry). record w { accepted = xs ++ state.batch; positions = state.positions; taken = (w.taken ++ taken_as command d.reply ∷ []) ++ with_replies commands replies }) (front_stays w.accepted d.next.batch w.sealed le)
    ∙ ap (λ (xs : List Taken). record w { accepted = take w.sealed w.accepted ++ state.batch; positions = state.positions; taken = xs })
    (append_assoc w.taken (taken_as command d.reply ∷ []) (with_replies commands replies))

-- an empty scan
pub scanned_none : (w : World) → scanned w [] [] (state_of w) ≡ w
scanned_none w = rw (Rattle.std.proofs.lemmas.List.take-append-drop w.sealed w.accepted, append-nil w.taken) refl

pub runs_are_takes : (w : World) → RunsAreTakes w
runs_are_takes w [] [] state le found r = ([], ap (λ (x : World). Some x) (sym (scanned_none w) ∙ ap (λ (s : State). scanned w [] [] s) (sym r)))
runs_are_takes w [] (reply ∷ replies) state le found r = absurd r
runs_are_takes w (c ∷ commands) [] state le found r = absurd r
runs_are_takes w (c ∷ commands) (reply ∷ replies) state le found r =
    let d : Decision = record { reply = reply; next = r.0 } in
    let goes : GoesOn w.base (take w.sealed w.accepted) r.0 = steps_go_on w.building any_eligible w.base (take w.sealed w.accepted) (state_of w) c.terminal c.number c.body reply r.0 (state_goes_on w) r.1 in
    let taken = steps_are_takes w c.terminal c reply r.0 found.0 r.1 in
    let rest = runs_are_takes (deciding w c d) commands replies state (front_long w.accepted r.0.batch w.sealed le) (all_found_still w c d commands found.1 found.2)
    (subst (λ (s : State). Run w.building any_eligible s commands replies state) (sym (state_after w c reply r.0 le goes)) r.2) in (
      taken.0 ∷ rest.0,
      one (Take c.terminal taken.0) (take_events commands rest.0) w (deciding w c d) taken.1 ∙ rest.1 ∙ ap (λ (x : World). Some x) (scanned_rest w c d commands replies state le),
    )
