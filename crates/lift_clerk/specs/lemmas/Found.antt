-- A look finds an ask that waits, and a scan those of its commands.
use Rattle.std.proofs.Common.{ℕ, ◌≡◌, ◌≢◌, ◌+◌, ◌≤◌, Bool, true, false, cond, eqb, List, [], ◌∷◌, ◌++◌, length, map, Option, Some, None, refl, sym, ap, subst, ◌∙◌, arith}
use Rattle.std.specs.Prelude.{filter, find, reverse}
use Rattle.std.specs.List.{AllByRecursion}
use Rattle.std.proofs.lemmas.Bool.{eq-eqb, eqb-true, false≢true}
use Rattle.std.proofs.lemmas.List.{append-nil, length-append, reverse-append}
use Rattle.std.proofs.lemmas.List.Elements.{filter-append}
use Rattle.std.proofs.lemmas.List.Sums.{length-filter}
use Rattle.lift_base.specs.declared.limits.TheConstants.{MOST_BATCHES}
use Rattle.lift_desk.specs.declared.view.ClerkView.{ClerkView}
use Rattle.lift_policy.specs.declared.command.Command.{Command}
use Rattle.lift_world.specs.declared.event.Taken.{Taken}
use Rattle.lift_world.specs.World.{World, asks, is_answer_to}
use Rattle.lift_world.specs.Among.{StandsAsk}
use Rattle.lift_world.specs.Turns.{AreFound}
use Rattle.lift_clerk.specs.TakenAndAnswered.{AreApart}
use Rattle.lift_clerk.specs.Tied.{command_of, on_way, ShowsBoth, IsReached}
use Rattle.lift_clerk.specs.Laws.{Laws}
use Rattle.lift_clerk.specs.lemmas.Lists.{AreOthers, no_asks}
use Rattle.lift_clerk.specs.lemmas.Tied.{hears, one_by_one, flat, queued_is, OnlyQueued, empty_of}

-- the last that passes a test
module _ {A : Type 0} (p : A → Bool) where
  abbrev first_in : List A → Option A
  first_in [] = None
  first_in (x ∷ xs) = Some x

  first_found : (x : A) (b : Bool) (xs : List A) → find p xs ≡ first_in (filter p xs)
      → cond b (Some x) (find p xs) ≡ first_in (cond b (x ∷ filter p xs) (filter p xs))
  first_found x true xs h = refl
  first_found x false xs h = h

  finds_first : (xs : List A) → find p xs ≡ first_in (filter p xs)
  finds_first [] = refl
  finds_first (x ∷ xs) = first_found x (p x) xs (finds_first xs)

  turned_one : (x : A) (b : Bool) (xs : List A)
      → reverse xs ++ cond b (x ∷ []) [] ≡ reverse (cond b (x ∷ xs) xs)
  turned_one x true xs = sym (reverse-append (x ∷ []) xs)
  turned_one x false xs = append-nil (reverse xs)

  turned_round : (xs : List A) → filter p (reverse xs) ≡ reverse (filter p xs)
  turned_round [] = refl
  turned_round (x ∷ xs) =
      ap (filter p) (reverse-append (x ∷ []) xs) ∙ filter-append p (reverse xs) (x ∷ [])
      ∙ ap (λ (ys : List A). ys ++ filter p (x ∷ [])) (turned_round xs) ∙ turned_one x (p x)
      (filter p xs)

  finds_last : (xs ys : List A) (x : A) → filter p xs ≡ ys ++ x ∷ []
      → find p (reverse xs) ≡ Some x
  finds_last xs ys x e =
      finds_first (reverse xs) ∙ ap first_in
      (turned_round xs ∙ ap reverse e ∙ reverse-append ys (x ∷ []))

-- of a terminal of which no command is nothing is taken
module _ (t : ℕ) where
  none_passes : (x : Taken) (b : Bool) (xs : List Taken) → eqb x.terminal t ≡ b → cond b (command_of x ∷ filter (asks t) (map command_of xs)) (filter (asks t) (map command_of xs)) ≡ []
      → (x.terminal ≢ t) × (filter (asks t) (map command_of xs) ≡ [])
  none_passes x true xs e none = absurd (cc)
  none_passes x false xs e none = ((λ same. let yes : eqb x.terminal t ≡ true = eq-eqb x.terminal t same in absurd (false≢true (sym e ∙ yes))), none)

  none_of : (xs : List Taken) → filter (asks t) (map command_of xs) ≡ [] → AllByRecursion (λ (x : Taken). x.terminal ≢ t) xs
  none_of [] none = tt
  none_of (x ∷ xs) none = let k = none_passes x (eqb x.terminal t) xs refl none in (k.0, none_of xs k.1)

module _ (laws : Laws) (w : World) (reached : IsReached w) (t : ℕ) {ahead : List ℕ} {behind : ClerkView} (s : ShowsBoth w t ahead behind) where
  -- at most one ask is not answered: it is on its way, or waits
  pub few : length (on_way w t) + length s.waiting ≤ 1
  few =
      let heard = hears laws w reached t in
      let asked = (one_by_one laws w reached t).asked in
      let even = s.even in
      omega (
        arith,
        ap length s.asked,
        length-append (s.first ++ on_way w t) s.waiting,
        length-append s.first (on_way w t),
        length-filter (asks t) w.asked,
        ap length heard.1,
        length-append (filter (is_answer_to t) w.heard) heard.0,
        length-filter (is_answer_to t) w.heard,
        length-filter (is_answer_to t) w.answered,
      )

  -- the one that waits stands
  stands : OnlyQueued w → (c : Command) → s.waiting ≡ c ∷ [] → StandsAsk w t c
  stands only c is =
      let le = few in
      let even = s.even in
      let empty : on_way w t ≡ [] = empty_of (on_way w t) (omega (arith, ap length is)) in
      record {
        powered = only.on;
        asks_more = omega (
          arith,
          ap length is,
          ap length s.asked,
          length-append (s.first ++ on_way w t) s.waiting,
          length-append s.first (on_way w t),
          length-filter (asks t) w.asked,
        );
        not_taken = subst (λ (xs : List Taken). AllByRecursion (λ (x : Taken). x.terminal ≢ t) xs) (sym only.all)
            (none_of t (flat w.queue) (ap (filter (asks t)) (sym (queued_is w.queue)) ∙ empty));
        asked_last = finds_last (asks t) w.asked (s.first ++ on_way w t) c (s.asked ∙ ap (λ (cs : List Command). (s.first ++ on_way w t) ++ cs) is);
      }

module _ {w : World} {ahead : ℕ → List ℕ} {behind : ℕ → ClerkView} (words : (t : ℕ) → ShowsBoth w t (ahead t) (behind t)) where
  abbrev pub AllWait : List Command → Type 0
  AllWait cs = AllByRecursion (λ (c : Command). (words c.terminal).waiting ≡ c ∷ []) cs

  -- those that wait are found
  pub found : Laws → IsReached w → OnlyQueued w → (cs : List Command) → length w.queue ≤ MOST_BATCHES → AllWait cs → AreApart cs → AreFound w cs
  found laws reached only [] room h apart = tt
  found laws reached only (c ∷ cs) room h apart = (
    (laws.looks w c.terminal c).finds (stands laws w reached c.terminal (words c.terminal) only c h.0) room,
    apart.0,
    found laws reached only cs room h.1 apart.1,
  )

  -- of what waits at a terminal they are the first
  first_waits : (t : ℕ) (c : Command) (cs : List Command) (b : Bool) → eqb c.terminal t ≡ b → (words c.terminal).waiting ≡ c ∷ [] → AreOthers c.terminal cs
      → (rest : List Command) × ((words t).waiting ≡ filter (asks t) cs ++ rest) → (rest : List Command) × ((words t).waiting ≡ cond b (c ∷ filter (asks t) cs) (filter (asks t) cs) ++ rest)
  first_waits t c cs true e h others rest =
      let at : c.terminal ≡ t = eqb-true c.terminal t e in
      ([], ap (λ (n : ℕ). (words n).waiting) (sym at) ∙ h ∙ ap (λ (xs : List Command). (c ∷ xs) ++ []) (sym (no_asks t cs (subst (λ (n : ℕ). AreOthers n cs) at others))))
  first_waits t c cs false e h others rest = rest

  pub waits : (t : ℕ) (cs : List Command) → AllWait cs → AreApart cs → (rest : List Command) × ((words t).waiting ≡ filter (asks t) cs ++ rest)
  waits t [] h apart = ((words t).waiting, refl)
  waits t (c ∷ cs) h apart = first_waits t c cs (eqb c.terminal t) refl h.0 apart.0 (waits t cs h.1 apart.1)
