-- What words ask to be shown, and what of a building.
use Rattle.std.proofs.Common.{◌≡◌, ◌⊎◌, ℕ, ◌<◌, List, [], ◌∷◌, length, drop, refl, sym, ap, ◌∙◌, subst, inl, inr, arith}
use Rattle.std.specs.Prelude.{codes}
use Rattle.std.specs.Fmt.{decimal}
use Rattle.lift_base.specs.declared.limits.TheConstants.{MOST_CARS, MOST_FLOORS, MOST_KIOSKS}
use Rattle.lift_base.specs.Text.{AreWords, letter_text}
use Rattle.lift_building.specs.Plan.{Plan}
use Rattle.lift_replay.specs.declared.query.Query.{Query}
use Rattle.lift_replay.specs.declared.query.Query.TheVariants.{Stops, Cost, Rows}
use Rattle.lift_replay.specs.Query.{AskToShow, IsKnownQuery}
use Rattle.lift_replay.proofs.Found.{IsDecided, Within, within, both, either, below, worded}
use Rattle.lift_replay.proofs.Heads.{IsOneOf, word_at, byte_at, decimal_one, letter_one, party_one}

-- the words that they begin with
abbrev pub query_words : List (List ℕ)
query_words = codes "stops" ∷ codes "cost" ∷ codes "rows" ∷ []

pub query_head : (words : List (List ℕ)) (query : Query) → AskToShow words query → IsOneOf (word_at 0 words) query_words
query_head words (Stops car) p = inl (ap (word_at 0) p.1)
query_head words (Cost kiosk floor party) p = inr (inl (ap (word_at 0) p.6))
query_head words Rows p = inr (inr (inl (ap (word_at 0) p)))

-- words ask to be shown one thing at most
pub query_one : (words : List (List ℕ)) (a b : Query) → AskToShow words a → AskToShow words b → a ≡ b
query_one words (Stops car) (Stops car2) p q =
    let e = sym p.1 ∙ q.1 in
    ap (λ x. Stops x) (letter_one car car2 (ap (word_at 1) e))
query_one words (Stops car) (Cost kiosk2 floor2 party2) p q = absurd (let e : ◌≡◌ {A = ℕ} 115 99 = ap (byte_at 0) (sym p.1 ∙ q.6) in omega (arith, e))
query_one words (Stops car) Rows p q = absurd (let e : ◌≡◌ {A = ℕ} 115 114 = ap (byte_at 0) (sym p.1 ∙ q) in omega (arith, e))
query_one words (Cost kiosk floor party) (Stops car2) p q = absurd (let e : ◌≡◌ {A = ℕ} 99 115 = ap (byte_at 0) (sym p.6 ∙ q.1) in omega (arith, e))
query_one words (Cost kiosk floor party) (Cost kiosk2 floor2 party2) p q =
    let e = sym p.6 ∙ q.6 in
    ap (λ x. Cost x floor party) (decimal_one kiosk kiosk2 (let b = p.0 in omega (arith, b)) (let b = q.0 in omega (arith, b)) (ap (word_at 1) e))
    ∙ ap (λ x. Cost kiosk2 x party) (decimal_one floor floor2 (let b = p.1 in omega (arith, b)) (let b = q.1 in omega (arith, b)) (ap (word_at 2) e))
    ∙ ap (λ x. Cost kiosk2 floor2 x) (party_one p.4 q.4 party party2 (ap (drop 3) e) p.3 q.3 p.5 q.5)
query_one words (Cost kiosk floor party) Rows p q = absurd (let e : ◌≡◌ {A = ℕ} 99 114 = ap (byte_at 0) (sym p.6 ∙ q) in omega (arith, e))
query_one words Rows (Stops car2) p q = absurd (let e : ◌≡◌ {A = ℕ} 114 115 = ap (byte_at 0) (sym p ∙ q.1) in omega (arith, e))
query_one words Rows (Cost kiosk2 floor2 party2) p q = absurd (let e : ◌≡◌ {A = ℕ} 114 99 = ap (byte_at 0) (sym p ∙ q.6) in omega (arith, e))
query_one words Rows Rows p q = refl

-- the ways in which a line may ask to be shown something
module _ (line : List ℕ) where
  abbrev Listed : Type 0
  Listed = Within MOST_CARS (λ car. AreWords line (codes "stops" ∷ letter_text car ∷ []))

  abbrev Costed : Type 0
  Costed = Within MOST_KIOSKS (λ kiosk. Within MOST_FLOORS (λ floor. AreWords line (codes "cost" ∷ decimal kiosk ∷ decimal floor ∷ [])))

  abbrev CostedFor : Type 0
  CostedFor = Within MOST_KIOSKS (λ kiosk. Within MOST_FLOORS (λ floor. Within 16 (λ party. (0 < party) × AreWords line (codes "cost" ∷ decimal kiosk ∷ decimal floor ∷ decimal party ∷ []))))

  abbrev Shown : Type 0
  Shown = AreWords line (codes "rows" ∷ [])

  abbrev Ways : Type 0
  Ways = Listed ⊎ (Costed ⊎ (CostedFor ⊎ Shown))

  listed : IsDecided Listed
  listed = within _ (λ car. worded line (codes "stops") (letter_text car ∷ [])) MOST_CARS

  costed : IsDecided Costed
  costed = within _ (λ kiosk. within _ (λ floor. worded line (codes "cost") (decimal kiosk ∷ decimal floor ∷ [])) MOST_FLOORS) MOST_KIOSKS

  costed_for : IsDecided CostedFor
  costed_for = within _ (λ kiosk. within _ (λ floor. within _ (λ party. both _ _ (below 0 party) (worded line (codes "cost") (decimal kiosk ∷ decimal floor ∷ decimal party ∷ []))) 16) MOST_FLOORS) MOST_KIOSKS

  ways : IsDecided Ways
  ways = either _ _ listed (either _ _ costed (either _ _ costed_for (worded line (codes "rows") [])))

  abbrev pub SpellsThis : Query → Type 0
  SpellsThis query = (words : List (List ℕ)) × AreWords line words × AskToShow words query

  abbrev pub Shows : Type 0
  Shows = (query : Query) × SpellsThis query

  shows_of : Ways → Shows
  shows_of (inl (car, c, are)) = (Stops car, (_, are, (c, refl)))
  shows_of (inr (inl (kiosk, k, (floor, f, are)))) =
      (Cost kiosk floor 1, (_, are, (k, f, omega arith, omega arith, [], inr (refl, refl), refl)))
  shows_of (inr (inr (inl (kiosk, k, (floor, f, (party, p, (some, are))))))) =
      (Cost kiosk floor party, (_, are, (k, f, omega (arith, some), omega (arith, p), decimal party ∷ [], inl refl, refl)))
  shows_of (inr (inr (inr are))) = (Rows, (_, are, refl))

  as_words : (words others : List (List ℕ)) → words ≡ others → AreWords line words → AreWords line others
  as_words words others is are = subst (AreWords line) is are

  cost_way : (kiosk floor party : ℕ) (words : List (List ℕ)) → AreWords line words → AskToShow words (Cost kiosk floor party) → Ways
  cost_way kiosk floor party words are (k, f, some, most, last, inl last_is, is) =
      inr (inr (inl (kiosk, k, (floor, f, (party, omega (arith, most), (omega (arith, some), as_words words _ (is ∙ ap (λ l. codes "cost" ∷ decimal kiosk ∷ decimal floor ∷ l) last_is) are))))))
  cost_way kiosk floor party words are (k, f, some, most, last, inr none, is) =
      inr (inl (kiosk, k, (floor, f, as_words words _ (is ∙ ap (λ l. codes "cost" ∷ decimal kiosk ∷ decimal floor ∷ l) none.0) are)))

  way_of : (query : Query) → SpellsThis query → Ways
  way_of (Stops car) (words, are, p) = inl (car, p.0, as_words words _ p.1 are)
  way_of (Cost kiosk floor party) (words, are, p) = cost_way kiosk floor party words are p
  way_of Rows (words, are, p) = inr (inr (inr (as_words words _ p are)))

  pub query_decided : IsDecided Shows
  query_decided = elim ways [ inl way ↦ inl (shows_of way) | inr none ↦ inr (λ shows. none (way_of shows.0 shows.1)) ]

pub known_query : (plan : Plan) (query : Query) → IsDecided (IsKnownQuery plan query)
known_query plan (Stops car) = below car (length plan.cars)
known_query plan (Cost kiosk floor party) = below kiosk (length plan.kiosks)
known_query plan Rows = inl tt
