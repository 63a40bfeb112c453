-- What a step takes was asked before it, by the desk's rule.
use Rattle.std.proofs.Common.{◌≡◌, ◌≢◌, inr, ℕ, suc, ◌+◌, ◌≤◌, Bool, true, false, eqb, List, [], ◌∷◌, ◌++◌, map, length, refl, sym, ap, ◌∙◌, subst, arith, append_assoc}
use Rattle.std.specs.Prelude.{All, filter}
use Rattle.std.specs.List.{AllByRecursion}
use Rattle.std.proofs.lemmas.Bool.{eqb-true, eq-eqb, false≢true}
use Rattle.std.proofs.lemmas.List.{append_cancel_left, append-nil}
use Rattle.std.proofs.lemmas.List.Elements.{filter_passes}
use mathlib.Core.List.{IsPrefix, map-append}
use Rattle.lift_base.specs.declared.command.Reply.{Reply}
use Rattle.lift_desk.specs.declared.view.TerminalView.{TerminalView}
use Rattle.lift_desk.specs.declared.view.ClerkView.{ClerkView}
use Rattle.lift_desk.specs.declared.words.Ask.{Ask}
use Rattle.lift_desk.specs.Words.{ask_word}
use Rattle.lift_desk.specs.Spelled.{ask_words, IsAsk}
use Rattle.lift_desk.specs.Seats.{view_at}
use Rattle.lift_policy.specs.declared.command.Command.{Command}
use Rattle.lift_world.specs.declared.event.Taken.{Taken}
use Rattle.lift_world.specs.World.{World, asks}
use Rattle.lift_world.specs.Turns.{with_replies}
use Rattle.lift_clerk.specs.TakenAndAnswered.{ask_of, AreApart, TakesAndAnswers}
use Rattle.lift_clerk.specs.Machine.{waiting_in, LooksAgree}
use Rattle.lift_clerk.specs.Steps.{GroupState}
use Rattle.lift_clerk.specs.Group.{Terminals, ShowsTerminal, IsGroup, TakesAsks, WereAsked}
use Rattle.lift_clerk.specs.lemmas.Lists.{AreOthers, no_asks}
use Rattle.lift_clerk.specs.lemmas.Standing.{Splits, splits_of, waiting_is, own_alone, not_own}
use Rattle.lift_clerk.specs.lemmas.Words.{last_has, one_ask, asks_both, asks_count}
use Rattle.lift_clerk.proofs.Groups.{cons-head}

-- the ask of each command waits in this world
abbrev pub Stand : World → List Command → Type 0
Stand w cs = AllByRecursion (λ (c : Command). waiting_in w c.terminal ≡ c ∷ []) cs

pub stand_agree : (w : World) (cs : List Command) → Stand w cs → LooksAgree w cs
stand_agree w [] h = tt
stand_agree w (c ∷ cs) h = (inr h.0, stand_agree w cs h.1)

pub stand_waits : (w : World) (cs : List Command) (rs : List Reply) → Stand w cs → AllByRecursion (λ (t : Taken). waiting_in w t.terminal ≢ []) (with_replies cs rs)
stand_waits w [] rs h = tt
stand_waits w (c ∷ cs) [] h = tt
stand_waits w (c ∷ cs) (r ∷ rs) h = ((λ none. let wrong : c ∷ [] ≡ [] = sym h.0 ∙ none in cc), stand_waits w cs rs h.1)

-- one command, of a terminal that asked at most one more than was answered
module _ (w : World) (c : Command) (view : ClerkView) (own : TerminalView) (shows : Splits w c.terminal) (looked : view.taken ≡ ask_words 1 (map ask_of shows.first)) (theirs : ShowsTerminal w c.terminal own) (few : length shows.waiting ≤ 1)
    (spelled : IsAsk (ask_of c)) (fits : IsPrefix (view.taken ++ ask_words (suc (length view.taken)) (ask_of c ∷ [])) own.asked) where
  abbrev t : ℕ
  t = c.terminal

  abbrev word : ℕ
  word = ask_word (suc (length view.taken)) c.number c.body

  abbrev firsts : List Ask
  firsts = map ask_of shows.first

  all_asks : map ask_of (filter (asks t) w.asked) ≡ firsts ++ map ask_of shows.waiting
  all_asks = ap (map ask_of) shows.asked ∙ map-append ask_of shows.first shows.waiting

  begins : word ∷ fits.0 ≡ ask_words (1 + length firsts) (map ask_of shows.waiting)
  begins =
      append_cancel_left (ask_words 1 firsts) (word ∷ fits.0) (ask_words (1 + length firsts) (map ask_of shows.waiting))
      (ap (λ (xs : List ℕ). xs ++ word ∷ fits.0) (sym looked) ∙ sym (append_assoc view.taken (word ∷ []) fits.0) ∙ fits.1 ∙ theirs.asked ∙ ap (ask_words 1) all_asks
      ∙ asks_both 1 firsts (map ask_of shows.waiting))

  one : (d : Command) → shows.waiting ≡ d ∷ [] → waiting_in w t ≡ c ∷ []
  one d e =
      let asked : filter (asks t) w.asked ≡ shows.first ++ d ∷ [] = shows.asked ∙ ap (λ (cs : List Command). shows.first ++ cs) e in
      let at : d.terminal ≡ t =
      eqb-true d.terminal t (last_has (λ (x : Command). asks t x ≡ true) shows.first d [] (subst (All (λ (x : Command). asks t x ≡ true)) asked (filter_passes (asks t) w.asked))) in
      let theirs_spelled : IsAsk (ask_of d) = last_has IsAsk firsts (ask_of d) [] (subst (All IsAsk) (all_asks ∙ ap (λ (cs : List Command). firsts ++ map ask_of cs) e) theirs.in_range) in
      let count : suc (length view.taken) ≡ 1 + length firsts = omega (arith, ap length looked, asks_count 1 firsts) in
      let first : word ≡ ask_word (1 + length firsts) d.number d.body =
      cons-head word (ask_word (1 + length firsts) d.number d.body) fits.0 [] (begins ∙ ap (λ (cs : List Command). ask_words (1 + length firsts) (map ask_of cs)) e) in
      let same = one_ask (1 + length firsts) (1 + length firsts) (ask_of c) (ask_of d) spelled theirs_spelled (ap (λ (n : ℕ). ask_word n c.number c.body) (sym count) ∙ first) in
      let is : d ≡ c = λ i. record { terminal = at i; number = sym same.0 i; body = sym same.1 i } in
      waiting_is w t shows ∙ e ∙ ap (λ (x : Command). x ∷ []) is

  by_waiting : (waiting : List Command) → shows.waiting ≡ waiting → waiting_in w t ≡ c ∷ []
  by_waiting [] e = let wrong : word ∷ fits.0 ≡ [] = begins ∙ ap (λ (cs : List Command). ask_words (1 + length firsts) (map ask_of cs)) e in cc
  by_waiting (d ∷ []) e = one d e
  by_waiting (d ∷ f ∷ more) e = let many = few in absurd (omega (arith, ap length e))

  pub stands : waiting_in w t ≡ c ∷ []
  stands = by_waiting shows.waiting refl

shorter : (xs ys zs : List ℕ) → IsPrefix (xs ++ ys) zs → IsPrefix (xs ++ []) zs
shorter xs ys zs p = (ys ++ p.0, ap (λ (ns : List ℕ). ns ++ (ys ++ p.0)) (append-nil xs) ∙ sym (append_assoc xs ys p.0) ∙ p.1)

module _ {D : Type 0} (w : World) (group : GroupState D) (terminals : Terminals) (g : IsGroup w group terminals)
    (few : (t : ℕ) → length (g.machine.words t).waiting ≤ 1) where
  abbrev taken : ℕ → List ℕ
  taken t = (view_at group.seat t).taken

  abbrev FrontAt : ℕ → List Command → Type 0
  FrontAt t own = IsPrefix (taken t ++ ask_words (suc (length (taken t))) (map ask_of own)) (terminals t).asked

  abbrev Front : List Command → Type 0
  Front cs = (t : ℕ) → FrontAt t (filter (asks t) cs)

  later_at : (c : Command) (cs : List Command) → AreOthers c.terminal cs → Front (c ∷ cs) → (t : ℕ) (b : Bool) → eqb c.terminal t ≡ b → FrontAt t (filter (asks t) cs)
  later_at c cs others front t true e =
      subst (FrontAt t) (sym (no_asks t cs (subst (λ (x : ℕ). AreOthers x cs) (eqb-true c.terminal t e) others)))
      (shorter (taken t) (ask_words (suc (length (taken t))) (map ask_of (filter (asks t) (c ∷ cs)))) (terminals t).asked (front t))
  later_at c cs others front t false e = subst (FrontAt t) (not_own t c cs (λ q. absurd (false≢true (sym e ∙ eq-eqb c.terminal t q)))) (front t)

  stand_all : (cs : List Command) → AreApart cs → All IsAsk (map ask_of cs) → Front cs → Stand w cs
  stand_all [] apart spelled front = tt
  stand_all (c ∷ cs) apart spelled front =
      let t : ℕ = c.terminal in (
        stands w c (view_at group.seat t) (terminals t) (splits_of g.machine t) (g.machine.words t).looked (g.theirs t) (few t) (spelled 0 (ask_of c) (omega arith))
            (subst (FrontAt t) (own_alone c cs apart.0) (front t)),
        stand_all cs apart.1 (λ k d below. spelled (suc k) d (omega arith)) (λ u. later_at c cs apart.0 front u (eqb c.terminal u) refl),
      )

  pub asked_stand : (cs : List Command) → AreApart cs → WereAsked group terminals cs → Stand w cs
  asked_stand cs apart asked = stand_all cs apart asked.in_range asked.front

-- what a step took was asked
pub taken_asked : {D : Type 0} (before after : GroupState D) (terminals : Terminals) (cs : List Command) (rs : List Reply) → TakesAndAnswers before.seat after.seat cs rs → TakesAsks after terminals
    → WereAsked before terminals cs
taken_asked before after terminals cs rs answers takes = record {
  in_range = answers.in_range;
  front = λ t. subst (λ (xs : List ℕ). IsPrefix xs (terminals t).asked) (answers.grows t).taken (takes t);
}
