-- What a turn found at the desk, its terminals ask in the machine too.
use Rattle.lift_clerk.specs.TakenAndAnswered.{AreApart}
use Rattle.std.proofs.Common.{ℕ, ◌≡◌, ◌≢◌, ◌⊎◌, inl, inr, Bool, cond, List}
use Rattle.std.proofs.Common.{[], ◌∷◌, ◌++◌, length, drop, refl, sym, ap, subst}
use Rattle.std.proofs.Common.{◌∙◌, arith}
use Rattle.std.specs.Prelude.{filter, count_by}
use Rattle.std.specs.List.{AllByRecursion}
use Rattle.std.proofs.lemmas.Bool.{ne_eqb, eq-eqb}
use Rattle.std.proofs.lemmas.List.{append-nil}
use Rattle.std.proofs.lemmas.List.Sums.{length-filter}
use Rattle.std.proofs.Math.Seq.{drop-append_seam}
use Rattle.lift_base.specs.declared.command.Reply.{Reply}
use Rattle.lift_policy.specs.declared.command.Command.{Command}
use Rattle.lift_world.specs.declared.event.Taken.{Taken}
use Rattle.lift_world.specs.World.{World, asks, is_answer_to}
use Rattle.lift_world.specs.Next.{unanswered}
use Rattle.lift_world.specs.Turns.{with_replies}
use Rattle.lift_world.specs.Asking.{AreAnswered}
use Rattle.lift_desk.specs.declared.view.ClerkView.{ClerkView}
use Rattle.lift_policy.specs.Step.{State}
use Rattle.lift_keeper.specs.Writer.{WriterView}
use Rattle.lift_clerk.specs.Machine.{waiting_in, LooksAgree, WaitsNowhere}
use Rattle.lift_clerk.specs.Tied.{IsTied}
use Rattle.lift_clerk.specs.lemmas.Tied.{asked_here}
use Rattle.lift_clerk.specs.lemmas.Lists.{AreOthers, no_asks}

module _ (w : World) where
  -- what is still to be asked
  abbrev keep : List Command → Command → List Command → List Command
  keep [] c rest = c ∷ rest
  keep (x ∷ xs) c rest = rest

  abbrev pub fresh : List Command → List Command
  fresh [] = []
  fresh (c ∷ cs) = keep (waiting_in w c.terminal) c (fresh cs)

  keeps_none : (ws : List Command) (c : Command) (rest : List Command) → ws ≢ [] → rest ≡ []
      → keep ws c rest ≡ []
  keeps_none [] c rest some none = absurd (some refl)
  keeps_none (x ∷ xs) c rest some none = none

  -- where an ask waits at each of these terminals nothing is still to be asked
  pub fresh_none : (cs : List Command) (rs : List Reply) → length rs ≡ length cs
      → AllByRecursion (λ (t : Taken). waiting_in w t.terminal ≢ []) (with_replies cs rs)
      → fresh cs ≡ []
  fresh_none [] rs l h = refl
  fresh_none (c ∷ cs) [] l h = absurd (omega arith)
  fresh_none (c ∷ cs) (r ∷ rs) l h =
      keeps_none (waiting_in w c.terminal) c (fresh cs) h.0 (fresh_none cs rs (omega arith) h.1)

  abbrev AreFree : List Command → Type 0
  AreFree cs = AllByRecursion (λ (d : Command). waiting_in w d.terminal ≡ []) cs

  keeps_free : (ws : List Command) (c : Command) (rest : List Command)
      → waiting_in w c.terminal ≡ ws → AreFree rest → AreFree (keep ws c rest)
  keeps_free [] c rest e h = (e, h)
  keeps_free (x ∷ xs) c rest e h = h

  fresh_free : (cs : List Command) → AreFree (fresh cs)
  fresh_free [] = tt
  fresh_free (c ∷ cs) = keeps_free (waiting_in w c.terminal) c (fresh cs) refl (fresh_free cs)

  keeps_others : (t : ℕ) (ws : List Command) (c : Command) (rest : List Command) → c.terminal ≢ t
      → AreOthers t rest → AreOthers t (keep ws c rest)
  keeps_others t [] c rest apart h = (apart, h)
  keeps_others t (x ∷ xs) c rest apart h = h

  pub fresh_others : (t : ℕ) (cs : List Command) → AreOthers t cs → AreOthers t (fresh cs)
  fresh_others t [] h = tt
  fresh_others t (c ∷ cs) h =
      keeps_others t (waiting_in w c.terminal) c (fresh cs) h.0 (fresh_others t cs h.1)

  -- at a terminal where an ask waits nothing more is asked
  waiting_others : (t : ℕ) (c : Command) (cs : List Command) → waiting_in w t ≡ c ∷ [] → AreFree cs
      → AreOthers t cs
  waiting_others t c [] e h = tt
  waiting_others t c (d ∷ cs) e h = (
    (λ q. let no : [] ≡ c ∷ [] = sym h.0 ∙ ap (waiting_in w) q ∙ e in
        cc),
    waiting_others t c cs e h.1,
  )

-- how the asks of a terminal split
pub record Splits (w : World) (t : ℕ) : Type 0 where
  pub first : List Command
  pub waiting : List Command
  pub asked : filter (asks t) w.asked ≡ first ++ waiting
  pub even : length first ≡ count_by (is_answer_to t) w.answered

abbrev pub splits_of : {D : Type 0} {w : World} {ahead : ℕ → List ℕ} {behind : ℕ → ClerkView} {state : State}
    {writer : WriterView D} → IsTied w ahead behind state writer [] → (t : ℕ) → Splits w t
splits_of m t = record {
  first = (m.words t).first;
  waiting = (m.words t).waiting;
  asked = asked_here m t;
  even = (m.words t).even;
}

pub waiting_is : (w : World) (t : ℕ) (s : Splits w t) → waiting_in w t ≡ s.waiting
waiting_is w t s =
    ap (λ (n : ℕ). drop n (filter (asks t) w.asked)) (sym s.even) ∙ ap
    (drop (length s.first)) s.asked ∙ drop-append_seam s.first s.waiting

module _ (w : World) (splits : (t : ℕ) → Splits w t) (nothing : unanswered w ≡ []) where
  -- a terminal without a waiting ask was answered all
  answered_all : (t : ℕ) → waiting_in w t ≡ []
      → count_by (asks t) w.asked ≡ count_by (is_answer_to t) w.answered
  answered_all t e =
      let s = splits t in
      let none : s.waiting ≡ [] = sym (waiting_is w t s) ∙ e in
      let n = length-filter (asks t) w.asked in
      let l : length (filter (asks t) w.asked) ≡ length s.first =
      ap length (s.asked ∙ ap (λ (xs : List Command).
      s.first ++ xs) none ∙ append-nil s.first) in
      let even = s.even in
      omega arith

  not_taken : (t : ℕ) → AllByRecursion (λ (c : Taken). c.terminal ≢ t) (unanswered w)
  not_taken t = subst (λ (cs : List Taken). AllByRecursion (λ (c : Taken). c.terminal ≢ t) cs)
      (sym nothing) tt

  keeps_answered : (ws : List Command) (c : Command) (rest : List Command)
      → waiting_in w c.terminal ≡ ws → AreOthers c.terminal rest → AreAnswered w rest
      → AreAnswered w (keep w ws c rest)
  keeps_answered [] c rest e apart h = (answered_all c.terminal e, not_taken c.terminal, apart, h)
  keeps_answered (x ∷ xs) c rest e apart h = h

  pub fresh_answered : (cs : List Command) → AreApart cs → AreAnswered w (fresh w cs)
  fresh_answered [] apart = tt
  fresh_answered (c ∷ cs) apart =
      keeps_answered (waiting_in w c.terminal) c (fresh w cs) refl
      (fresh_others w c.terminal cs apart.0) (fresh_answered cs apart.1)

-- one of each terminal at most
pub own_alone : (c : Command) (cs : List Command) → AreOthers c.terminal cs
    → filter (asks c.terminal) (c ∷ cs) ≡ c ∷ []
own_alone c cs others =
    ap (λ (b : Bool). cond b (c ∷ filter (asks c.terminal) cs) (filter (asks c.terminal) cs))
    (eq-eqb c.terminal c.terminal refl)
    ∙ ap (λ (xs : List Command). c ∷ xs) (no_asks c.terminal cs others)

pub not_own : (t : ℕ) (c : Command) (cs : List Command) → c.terminal ≢ t
    → filter (asks t) (c ∷ cs) ≡ filter (asks t) cs
not_own t c cs apart = ap (λ (b : Bool). cond b (c ∷ filter (asks t) cs) (filter (asks t) cs))
    (ne_eqb c.terminal t apart)

-- once what is still to be asked is asked each of these commands waits
module _ (w : World) (splits : (t : ℕ) → Splits w t) where
  abbrev Waits : List Command → Command → Type 0
  Waits more c = (splits c.terminal).waiting ++ filter (asks c.terminal) more ≡ c ∷ []

  first_waits : (c : Command) (cs : List Command) → AreOthers c.terminal cs
      → (waiting_in w c.terminal ≡ []) ⊎ (waiting_in w c.terminal ≡ c ∷ []) → Waits (fresh w (c ∷ cs)) c
  first_waits c cs others (inl free) =
      ap (λ (xs : List Command). xs ++ filter (asks c.terminal) (fresh w (c ∷ cs)))
      (sym (waiting_is w c.terminal (splits c.terminal)) ∙ free)
      ∙ ap (λ (ws : List Command). filter (asks c.terminal) (keep w ws c (fresh w cs))) free
      ∙ own_alone c (fresh w cs) (fresh_others w c.terminal cs others)
  first_waits c cs others (inr waits) =
      ap (λ (xs : List Command). xs ++ filter (asks c.terminal) (fresh w (c ∷ cs)))
      (sym (waiting_is w c.terminal (splits c.terminal)) ∙ waits)
      ∙ ap (λ (ws : List Command). (c ∷ []) ++ filter (asks c.terminal) (keep w ws c (fresh w cs))) waits
      ∙ ap (λ (xs : List Command). (c ∷ []) ++ xs)
      (no_asks c.terminal (fresh w cs) (fresh_others w c.terminal cs others))

  keeps_apart : (t : ℕ) (ws : List Command) (c : Command) (cs : List Command) → c.terminal ≢ t
      → filter (asks t) (keep w ws c cs) ≡ filter (asks t) cs
  keeps_apart t [] c cs apart = not_own t c cs apart
  keeps_apart t (x ∷ xs) c cs apart = refl

  others_wait : (c : Command) (cs ds : List Command) → AreOthers c.terminal ds
      → AllByRecursion (λ (d : Command). Waits (fresh w cs) d) ds
      → AllByRecursion (λ (d : Command). Waits (fresh w (c ∷ cs)) d) ds
  others_wait c cs [] others h = tt
  others_wait c cs (d ∷ ds) others h = (
    ap (λ (xs : List Command). (splits d.terminal).waiting ++ xs)
        (keeps_apart d.terminal (waiting_in w c.terminal) c (fresh w cs) (λ e. others.0 (sym e))) ∙ h.0,
    others_wait c cs ds others.1 h.1,
  )

  pub all_wait : (cs : List Command) → LooksAgree w cs → AreApart cs
      → AllByRecursion (λ (c : Command). Waits (fresh w cs) c) cs
  all_wait [] agree apart = tt
  all_wait (c ∷ cs) agree apart =
      (first_waits c cs apart.0 agree.0, others_wait c cs cs apart.0 (all_wait cs agree.1 apart.1))

-- where no ask waits all are still to be asked
pub fresh_all : (w : World) → WaitsNowhere w → (cs : List Command) → fresh w cs ≡ cs
fresh_all w none [] = refl
fresh_all w none (c ∷ cs) = ap (λ (ws : List Command). keep w ws c (fresh w cs)) (none c.terminal)
    ∙ ap (λ (xs : List Command). c ∷ xs) (fresh_all w none cs)
