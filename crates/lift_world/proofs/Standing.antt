-- Terminals that were answered can ask again, and then their asks stand.
use Rattle.std.proofs.Common.{ℕ, zero, suc, ◌≡◌, ◌≢◌, ◌+◌, ◌≤◌, Bool, true, false, cond, eqb, List, [], ◌∷◌, ◌++◌, length, replicate, Option, Some, None, refl, sym, ap, subst, ◌∙◌, arith, append_assoc}
use Rattle.std.specs.Prelude.{filter, find, reverse, count_by, slice_get, IsTrue}
use Rattle.std.specs.List.{AllByRecursion}
use Rattle.std.proofs.lemmas.Bool.{ne_eqb, eq-eqb}
use Rattle.std.proofs.lemmas.List.{append-nil, reverse-append}
use Rattle.std.proofs.lemmas.List.Elements.{filter-append}
use Rattle.std.proofs.lemmas.List.Sums.{length-filter, sum_by-append, sum_by-cons}
use Rattle.lift_base.specs.declared.limits.TheConstants.{MOST_BATCHES}
use Rattle.lift_policy.specs.declared.command.Command.{Command}
use Rattle.lift_world.specs.declared.event.Answer.{Answer}
use Rattle.lift_world.specs.declared.event.Taken.{Taken}
use Rattle.lift_world.specs.declared.event.Event.{Event}
use Rattle.lift_world.specs.declared.event.Event.TheVariants.{Ask, Hear}
use Rattle.lift_world.specs.World.{World, is_off, is_answer_to, asks}
use Rattle.lift_world.specs.Next.{goes, hearing, asking, unanswered}
use Rattle.lift_world.specs.Beside.{is_of_terminals}
use Rattle.lift_world.specs.Headline.{HearsInOrder}
use Rattle.lift_world.specs.Turns.{AreFound}
use Rattle.lift_world.specs.Asking.{AreAnswered, asked_on, AsksStand}
use Rattle.lift_world.specs.lemmas.Heard.{passes, run_hears}
use Rattle.lift_world.proofs.Asked.{at_front, hears_the_next, asks_once_heard}
use Rattle.lift_world.specs.lemmas.Looks.{may_be_taken}
use Rattle.lift_world.specs.lemmas.Goes.{one, joined, goes_are_runs}

keep_last : (p : Answer → Bool) (xs : List Answer) (a : Answer) → p a ≡ true → filter p (xs ++ a ∷ []) ≡ filter p xs ++ a ∷ []
keep_last p xs a e = filter-append p xs (a ∷ []) ∙ ap (λ (b : Bool). filter p xs ++ cond b (a ∷ []) []) e

module _ (terminal : ℕ) where
  abbrev own : Answer → Bool
  own = is_answer_to terminal

  -- the next answer, once it is heard
  heard_one : (a : Answer) (rest heard answered : List Answer) → filter own heard ++ a ∷ rest ≡ filter own answered → filter own (heard ++ a ∷ []) ++ rest ≡ filter own answered
  heard_one a rest heard answered e =
      let is_own : own a ≡ true = passes own answered a (length (filter own heard)) (ap (λ (xs : List Answer). slice_get xs (length (filter own heard))) (sym e) ∙ at_front (filter own heard) rest a) in
      ap (λ (xs : List Answer). xs ++ rest) (keep_last own heard a is_own) ∙ append_assoc (filter own heard) (a ∷ []) rest ∙ e

  heard_whole : (rest heard answered : List Answer) → filter own heard ++ rest ≡ filter own answered → filter own (heard ++ rest) ≡ filter own answered
  heard_whole [] heard answered e = ap (filter own) (append-nil heard) ∙ sym (append-nil (filter own heard)) ∙ e
  heard_whole (a ∷ rest) heard answered e =
      ap (filter own) (sym (append_assoc heard (a ∷ []) rest)) ∙ heard_whole rest (heard ++ a ∷ []) answered (heard_one a rest heard answered e)

  -- a terminal hears all that it was answered
  hears_all : (rest : List Answer) (w : World) → is_off w.power ≡ false → filter own w.heard ++ rest ≡ filter own w.answered
      → goes (replicate (length rest) (Hear terminal)) w ≡ Some (record w { heard = w.heard ++ rest })
  hears_all [] w on e = ap (λ (xs : List Answer). Some (record w { heard = xs })) (sym (append-nil w.heard))
  hears_all (a ∷ rest) w on e =
      one (Hear terminal) (replicate (length rest) (Hear terminal)) w (hearing w a) ((hears_the_next w).hears terminal a rest on (sym e))
      ∙ hears_all rest (hearing w a) on (heard_one a rest w.heard w.answered e)
      ∙ ap (λ (xs : List Answer). Some (record w { heard = xs })) (append_assoc w.heard (a ∷ []) rest)

-- events of terminals alone
abbrev AreTheirs : List Event → Type 0
AreTheirs events = AllByRecursion (λ (e : Event). IsTrue (is_of_terminals e)) events

theirs_both : (events later : List Event) → AreTheirs events → AreTheirs later → AreTheirs (events ++ later)
theirs_both [] later h k = k
theirs_both (e ∷ events) later h k = (h.0, theirs_both events later h.1 k)

hears_theirs : (terminal n : ℕ) → AreTheirs (replicate n (Hear terminal))
hears_theirs terminal zero = tt
hears_theirs terminal (suc n) = (refl, hears_theirs terminal n)

-- and then it asks
pub record Asks (w : World) (command : Command) : Type 0 where
  pub events : List Event
  pub heard : List Answer
  pub theirs : AreTheirs events
  pub is : goes events w ≡ Some (record w { asked = w.asked ++ command ∷ []; heard = heard })

asks_next : (w : World) (command : Command) → is_off w.power ≡ false → HearsInOrder w → count_by (asks command.terminal) w.asked ≡ count_by (is_answer_to command.terminal) w.answered → Asks w command
asks_next w command on hears same =
    let terminal : ℕ = command.terminal in
    let rest : List Answer = (hears terminal).0 in
    let w1 : World = record w { heard = w.heard ++ rest } in
    let ask : Event = Ask terminal command.number command.body in
    let counts : count_by (asks terminal) w.asked ≡ count_by (is_answer_to terminal) (w.heard ++ rest) =
    same ∙ sym (length-filter (is_answer_to terminal) w.answered) ∙ ap length (sym (heard_whole terminal rest w.heard w.answered (hears terminal).1))
    ∙ length-filter (is_answer_to terminal) (w.heard ++ rest) in
    record {
      events = replicate (length rest) (Hear terminal) ++ ask ∷ [];
      heard = w.heard ++ rest;
      theirs = theirs_both (replicate (length rest) (Hear terminal)) (ask ∷ []) (hears_theirs terminal (length rest)) (refl, tt);
      is = joined (replicate (length rest) (Hear terminal)) (ask ∷ []) w w1 (hears_all terminal rest w on (hears terminal).1)
          ∙ one ask [] w1 (asking w1 command) ((asks_once_heard w1).heard_all terminal command.number command.body on counts);
    }

-- the others' counts stay
count_more : (terminal : ℕ) (c : Command) (b : Bool) → eqb c.terminal terminal ≡ b → (cs : List Command) → count_by (asks terminal) (c ∷ cs) ≡ cond b 1 0 + count_by (asks terminal) cs
count_more terminal c b e cs = sum_by-cons (λ (d : Command). cond (asks terminal d) 1 0) c cs ∙ ap (λ (x : Bool). cond x 1 0 + count_by (asks terminal) cs) e

count_both : (terminal : ℕ) (xs ys : List Command) → count_by (asks terminal) (xs ++ ys) ≡ count_by (asks terminal) xs + count_by (asks terminal) ys
count_both terminal xs ys = sum_by-append (λ (d : Command). cond (asks terminal d) 1 0) xs ys

pub count_other : (terminal : ℕ) (c : Command) (xs : List Command) → terminal ≢ c.terminal → count_by (asks terminal) (xs ++ c ∷ []) ≡ count_by (asks terminal) xs
count_other terminal c xs apart =
    let more = count_more terminal c false (ne_eqb c.terminal terminal (λ e. apart (sym e))) [] in
    let both = count_both terminal xs (c ∷ []) in
    let none : count_by (asks terminal) [] ≡ 0 = refl in
    omega arith

answered_still : (w : World) (c : Command) (heard : List Answer) (commands : List Command) → AllByRecursion (λ (d : Command). d.terminal ≢ c.terminal) commands → AreAnswered w commands
    → AreAnswered (record w { asked = w.asked ++ c ∷ []; heard = heard }) commands
answered_still w c heard [] apart k = tt
answered_still w c heard (d ∷ commands) apart k = (count_other d.terminal c w.asked apart.0 ∙ k.0, k.1, k.2, answered_still w c heard commands apart.1 k.3)

pub record AllAsk (w : World) (commands : List Command) : Type 0 where
  pub events : List Event
  pub heard : List Answer
  pub theirs : AreTheirs events
  pub is : goes events w ≡ Some (asked_on w commands heard)

all_ask : (commands : List Command) (w : World) → is_off w.power ≡ false → HearsInOrder w → AreAnswered w commands → AllAsk w commands
all_ask [] w on hears k = record { events = []; heard = w.heard; theirs = tt; is = ap (λ (xs : List Command). Some (record w { asked = xs })) (sym (append-nil w.asked)) }
all_ask (c ∷ commands) w on hears k =
    let first = asks_next w c on hears k.0 in
    let w1 : World = record w { asked = w.asked ++ c ∷ []; heard = first.heard } in
    let still : HearsInOrder w1 = subst (λ (x : World). HearsInOrder x) (goes_are_runs w first.events w1 first.is) (run_hears first.events w hears) in
    let rest = all_ask commands w1 on still (answered_still w c first.heard commands k.2 k.3) in
    record {
      events = first.events ++ rest.events;
      heard = rest.heard;
      theirs = theirs_both first.events rest.events first.theirs rest.theirs;
      is = joined first.events rest.events w w1 first.is ∙ rest.is
          ∙ ap (λ (xs : List Command). Some (record w { asked = xs; heard = rest.heard })) (append_assoc w.asked (c ∷ []) commands);
    }

-- the last ask of a terminal
passes_on : (b : Bool) (x : Command) (rest : Option Command) (o more : Option Command) → cond b (Some x) rest ≡ None → (rest ≡ None → more ≡ o) → cond b (Some x) more ≡ o
passes_on true x rest o more h later = cc
passes_on false x rest o more h later = later h

module _ (terminal : ℕ) where
  finds_here : (xs : List Command) (c : Command) (ys : List Command) → asks terminal c ≡ true → find (asks terminal) xs ≡ None → find (asks terminal) ((xs ++ c ∷ []) ++ ys) ≡ Some c
  finds_here [] c ys own none = ap (λ (b : Bool). cond b (Some c) (find (asks terminal) ys)) own
  finds_here (x ∷ xs) c ys own none =
      passes_on (asks terminal x) x (find (asks terminal) xs) (Some c) (find (asks terminal) ((xs ++ c ∷ []) ++ ys)) none (λ h. finds_here xs c ys own h)

  finds_none_more : (xs : List Command) (c : Command) → find (asks terminal) xs ≡ None → asks terminal c ≡ false → find (asks terminal) (xs ++ c ∷ []) ≡ None
  finds_none_more [] c none other = ap (λ (b : Bool). cond b (Some c) None) other
  finds_none_more (x ∷ xs) c none other =
      passes_on (asks terminal x) x (find (asks terminal) xs) None (find (asks terminal) (xs ++ c ∷ [])) none (λ h. finds_none_more xs c h other)

  finds_none : (xs : List Command) → AllByRecursion (λ (d : Command). d.terminal ≢ terminal) xs → find (asks terminal) (reverse xs) ≡ None
  finds_none [] apart = refl
  finds_none (x ∷ xs) apart = ap (find (asks terminal)) (reverse-append (x ∷ []) xs) ∙ finds_none_more (reverse xs) x (finds_none xs apart.1) (ne_eqb x.terminal terminal apart.0)

pub finds_ask : (before : List Command) (c : Command) (after : List Command) → AllByRecursion (λ (d : Command). d.terminal ≢ c.terminal) after → find (asks c.terminal) (reverse (before ++ c ∷ after)) ≡ Some c
finds_ask before c after apart =
    ap (find (asks c.terminal)) (reverse-append before (c ∷ after) ∙ ap (λ (xs : List Command). xs ++ reverse before) (reverse-append (c ∷ []) after))
    ∙ finds_here c.terminal (reverse after) c (reverse before) (eq-eqb c.terminal c.terminal refl) (finds_none c.terminal after apart)

-- what is known of them, along the list
abbrev AreAnsweredBefore : World → List Command → List Command → Type 0
AreAnsweredBefore v before [] = Unit {0}
AreAnsweredBefore v before (c ∷ commands) =
    (count_by (is_answer_to c.terminal) v.answered ≤ count_by (asks c.terminal) before) × AllByRecursion (λ (t : Taken). t.terminal ≢ c.terminal) (unanswered v)
    × AllByRecursion (λ (d : Command). d.terminal ≢ c.terminal) commands × AreAnsweredBefore v (before ++ c ∷ []) commands

answered_before : (v : World) (asked before commands : List Command) → ((terminal : ℕ) → count_by (asks terminal) asked ≤ count_by (asks terminal) before)
    → AreAnswered (record v { asked = asked }) commands → AreAnsweredBefore v before commands
answered_before v asked before [] more k = tt
answered_before v asked before (c ∷ commands) more k = (
  let m = more c.terminal in let a = k.0 in omega arith,
  k.1,
  k.2,
  answered_before v asked (before ++ c ∷ []) commands (λ terminal. let m = more terminal in let b = count_both terminal before (c ∷ []) in omega arith) k.3,
)

-- the asks of all stand, those before them in the list being older
stand_from : (v : World) (before commands : List Command) → v.asked ≡ before ++ commands → is_off v.power ≡ false → length v.queue ≤ MOST_BATCHES
    → AreAnsweredBefore v before commands → AreFound v commands
stand_from v before [] e on few k = tt
stand_from v before (c ∷ commands) e on few k =
    let counts : count_by (asks c.terminal) v.asked ≡ count_by (asks c.terminal) before + (1 + count_by (asks c.terminal) commands) =
    ap (count_by (asks c.terminal)) e ∙ count_both c.terminal before (c ∷ commands)
    ∙ ap (λ (n : ℕ). count_by (asks c.terminal) before + n) (count_more c.terminal c true (eq-eqb c.terminal c.terminal refl) commands) in
    let answered = k.0 in (
      (
        may_be_taken v c.terminal (record { powered = on; few_queued = few; asks_more = omega arith; not_taken = k.1 }),
        ap (λ (xs : List Command). find (asks c.terminal) (reverse xs)) e ∙ finds_ask before c commands k.2,
      ),
      k.2,
      stand_from v (before ++ c ∷ []) commands (e ∙ sym (append_assoc before (c ∷ []) commands)) on few k.3,
    )

pub asks_stand : (w : World) → AsksStand w
asks_stand w commands on few hears k =
    let a = all_ask commands w on hears k in
    let v : World = asked_on w commands a.heard in
    (a.events, a.heard, a.theirs, a.is, stand_from v w.asked commands refl on few (answered_before v w.asked w.asked commands (λ terminal. omega arith) k))
