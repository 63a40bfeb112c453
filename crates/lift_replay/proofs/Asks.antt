-- What words have a terminal ask, and which terminal of a building.
use Rattle.std.proofs.Common.{◌≡◌, ◌⊎◌, ℕ, ◌+◌, ◌<◌, List, [], ◌∷◌, length, drop, refl, sym, ap, ◌∙◌, subst, inl, inr, arith}
use Rattle.std.specs.Prelude.{codes}
use Rattle.std.specs.Fmt.{decimal}
use Rattle.lift_base.specs.declared.limits.TheConstants.{MOST_CARS, MOST_FLOORS, MOST_KIOSKS}
use Rattle.lift_base.specs.Text.{AreWords, letter_text, dir_text}
use Rattle.lift_base.specs.declared.travel.Dir.{Dir}
use Rattle.lift_building.specs.Plan.{Plan}
use Rattle.lift_replay.specs.declared.ask.ScriptAsk.{ScriptAsk}
use Rattle.lift_replay.specs.declared.ask.ScriptAsk.TheVariants.{Place, Call, Stop}
use Rattle.lift_replay.specs.Ask.{AskToAsk, IsKnownAsk, asked_command}
use Rattle.lift_replay.proofs.Found.{IsDecided, Within, within, both, either, below, worded, directed}
use Rattle.lift_replay.proofs.Heads.{IsOneOf, word_at, byte_at, decimal_one, letter_one, dir_one, party_one}

-- the words that they begin with
abbrev pub ask_words : List (List ℕ)
ask_words = codes "place" ∷ codes "call" ∷ codes "stop" ∷ []

pub ask_head : (words : List (List ℕ)) (ask : ScriptAsk) → AskToAsk words ask → IsOneOf (word_at 0 words) ask_words
ask_head words (Place car position) p = inl (ap (word_at 0) p.2)
ask_head words (Call kiosk number floor party) p = inr (inl (ap (word_at 0) p.7))
ask_head words (Stop car number stop) p = inr (inr (inl (ap (word_at 0) p.3)))

-- words ask one thing at most
pub ask_one : (words : List (List ℕ)) (a b : ScriptAsk) → AskToAsk words a → AskToAsk words b → a ≡ b
ask_one words (Place car position) (Place car2 position2) p q =
    let e = sym p.2 ∙ q.2 in
    ap (λ x. Place x position) (letter_one car car2 (ap (word_at 1) e))
    ∙ ap (λ x. Place car2 (record { floor = x; dir = position.dir })) (decimal_one position.floor position2.floor (let b = p.1 in omega (arith, b)) (let b = q.1 in omega (arith, b)) (ap (word_at 2) e))
    ∙ ap (λ x. Place car2 (record { floor = position2.floor; dir = x })) (dir_one position.dir position2.dir (ap (word_at 3) e))
ask_one words (Place car position) (Call kiosk2 number2 floor2 party2) p q = absurd (let e : ◌≡◌ {A = ℕ} 112 99 = ap (byte_at 0) (sym p.2 ∙ q.7) in omega (arith, e))
ask_one words (Place car position) (Stop car2 number2 stop2) p q = absurd (let e : ◌≡◌ {A = ℕ} 112 115 = ap (byte_at 0) (sym p.2 ∙ q.3) in omega (arith, e))
ask_one words (Call kiosk number floor party) (Place car2 position2) p q = absurd (let e : ◌≡◌ {A = ℕ} 99 112 = ap (byte_at 0) (sym p.7 ∙ q.2) in omega (arith, e))
ask_one words (Call kiosk number floor party) (Call kiosk2 number2 floor2 party2) p q =
    let e = sym p.7 ∙ q.7 in
    ap (λ x. Call x number floor party) (decimal_one kiosk kiosk2 (let b = p.0 in omega (arith, b)) (let b = q.0 in omega (arith, b)) (ap (word_at 1) e))
    ∙ ap (λ x. Call kiosk2 x floor party) (decimal_one number number2 (let b = p.1 in omega (arith, b)) (let b = q.1 in omega (arith, b)) (ap (word_at 2) e))
    ∙ ap (λ x. Call kiosk2 number2 x party) (decimal_one floor floor2 (let b = p.2 in omega (arith, b)) (let b = q.2 in omega (arith, b)) (ap (word_at 3) e))
    ∙ ap (λ x. Call kiosk2 number2 floor2 x) (party_one p.5 q.5 party party2 (ap (drop 4) e) p.4 q.4 p.6 q.6)
ask_one words (Call kiosk number floor party) (Stop car2 number2 stop2) p q = absurd (let e : ◌≡◌ {A = ℕ} 99 115 = ap (byte_at 0) (sym p.7 ∙ q.3) in omega (arith, e))
ask_one words (Stop car number stop) (Place car2 position2) p q = absurd (let e : ◌≡◌ {A = ℕ} 115 112 = ap (byte_at 0) (sym p.3 ∙ q.2) in omega (arith, e))
ask_one words (Stop car number stop) (Call kiosk2 number2 floor2 party2) p q = absurd (let e : ◌≡◌ {A = ℕ} 115 99 = ap (byte_at 0) (sym p.3 ∙ q.7) in omega (arith, e))
ask_one words (Stop car number stop) (Stop car2 number2 stop2) p q =
    let e = sym p.3 ∙ q.3 in
    ap (λ x. Stop x number stop) (letter_one car car2 (ap (word_at 1) e))
    ∙ ap (λ x. Stop car2 x stop) (decimal_one number number2 (let b = p.1 in omega (arith, b)) (let b = q.1 in omega (arith, b)) (ap (word_at 2) e))
    ∙ ap (λ x. Stop car2 number2 (record { floor = x; dir = stop.dir })) (decimal_one stop.floor stop2.floor (let b = p.2 in omega (arith, b)) (let b = q.2 in omega (arith, b)) (ap (word_at 3) e))
    ∙ ap (λ x. Stop car2 number2 (record { floor = stop2.floor; dir = x })) (dir_one stop.dir stop2.dir (ap (word_at 4) e))

-- the ways in which a line may have a terminal ask
module _ (line : List ℕ) where
  abbrev Placed : Type 0
  Placed = Within MOST_CARS (λ car. Within MOST_FLOORS (λ floor. (dir : Dir) × AreWords line (codes "place" ∷ letter_text car ∷ decimal floor ∷ dir_text dir ∷ [])))

  abbrev Called : Type 0
  Called = Within MOST_KIOSKS (λ kiosk. Within 16777216 (λ number. Within MOST_FLOORS (λ floor. AreWords line (codes "call" ∷ decimal kiosk ∷ decimal number ∷ decimal floor ∷ []))))

  abbrev CalledFor : Type 0
  CalledFor = Within MOST_KIOSKS (λ kiosk. Within 16777216 (λ number. Within MOST_FLOORS (λ floor. Within 16 (λ party.
      (0 < party) × AreWords line (codes "call" ∷ decimal kiosk ∷ decimal number ∷ decimal floor ∷ decimal party ∷ [])))))

  abbrev Stopped : Type 0
  Stopped = Within MOST_CARS (λ car. Within 16777216 (λ number. Within MOST_FLOORS (λ floor. (dir : Dir) × AreWords line (codes "stop" ∷ letter_text car ∷ decimal number ∷ decimal floor ∷ dir_text dir ∷ []))))

  abbrev Ways : Type 0
  Ways = Placed ⊎ (Called ⊎ (CalledFor ⊎ Stopped))

  placed : IsDecided Placed
  placed = within _ (λ car. within _ (λ floor. directed _ (λ dir. worded line (codes "place") (letter_text car ∷ decimal floor ∷ dir_text dir ∷ []))) MOST_FLOORS) MOST_CARS

  called : IsDecided Called
  called = within _ (λ kiosk. within _ (λ number. within _ (λ floor. worded line (codes "call") (decimal kiosk ∷ decimal number ∷ decimal floor ∷ [])) MOST_FLOORS) 16777216) MOST_KIOSKS

  called_for : IsDecided CalledFor
  called_for = within _ (λ kiosk. within _ (λ number. within _ (λ floor. within _ (λ party.
      both _ _ (below 0 party) (worded line (codes "call") (decimal kiosk ∷ decimal number ∷ decimal floor ∷ decimal party ∷ []))) 16) MOST_FLOORS) 16777216) MOST_KIOSKS

  stopped : IsDecided Stopped
  stopped = within _ (λ car. within _ (λ number. within _ (λ floor. directed _ (λ dir. worded line (codes "stop") (letter_text car ∷ decimal number ∷ decimal floor ∷ dir_text dir ∷ []))) MOST_FLOORS) 16777216) MOST_CARS

  ways : IsDecided Ways
  ways = either _ _ placed (either _ _ called (either _ _ called_for stopped))

  abbrev pub SpellsThis : ScriptAsk → Type 0
  SpellsThis ask = (words : List (List ℕ)) × AreWords line words × AskToAsk words ask

  abbrev pub Asks : Type 0
  Asks = (ask : ScriptAsk) × SpellsThis ask

  asks_of : Ways → Asks
  asks_of (inl (car, c, (floor, f, (dir, are)))) = (Place car (record { floor = floor; dir = dir }), (_, are, (c, f, refl)))
  asks_of (inr (inl (kiosk, k, (number, n, (floor, f, are))))) =
      (Call kiosk number floor 1, (_, are, (k, n, f, omega arith, omega arith, [], inr (refl, refl), refl)))
  asks_of (inr (inr (inl (kiosk, k, (number, n, (floor, f, (party, p, (some, are)))))))) =
      (Call kiosk number floor party, (_, are, (k, n, f, omega (arith, some), omega (arith, p), decimal party ∷ [], inl refl, refl)))
  asks_of (inr (inr (inr (car, c, (number, n, (floor, f, (dir, are))))))) = (Stop car number (record { floor = floor; dir = dir }), (_, are, (c, n, f, refl)))

  as_words : (words others : List (List ℕ)) → words ≡ others → AreWords line words → AreWords line others
  as_words words others is are = subst (AreWords line) is are

  call_way : (kiosk number floor party : ℕ) (words : List (List ℕ)) → AreWords line words → AskToAsk words (Call kiosk number floor party) → Ways
  call_way kiosk number floor party words are (k, n, f, some, most, last, inl last_is, is) =
      inr (inr (inl (kiosk, k, (number, n, (floor, f, (party, omega (arith, most), (omega (arith, some), as_words words _ (is ∙ ap (λ l. codes "call" ∷ decimal kiosk ∷ decimal number ∷ decimal floor ∷ l) last_is) are)))))))
  call_way kiosk number floor party words are (k, n, f, some, most, last, inr none, is) =
      inr (inl (kiosk, k, (number, n, (floor, f, as_words words _ (is ∙ ap (λ l. codes "call" ∷ decimal kiosk ∷ decimal number ∷ decimal floor ∷ l) none.0) are))))

  way_of : (ask : ScriptAsk) → SpellsThis ask → Ways
  way_of (Place car position) (words, are, p) = inl (car, p.0, (position.floor, p.1, (position.dir, as_words words _ p.2 are)))
  way_of (Call kiosk number floor party) (words, are, p) = call_way kiosk number floor party words are p
  way_of (Stop car number stop) (words, are, p) = inr (inr (inr (car, p.0, (number, p.1, (stop.floor, p.2, (stop.dir, as_words words _ p.3 are))))))

  pub ask_decided : IsDecided Asks
  ask_decided = elim ways [ inl way ↦ inl (asks_of way) | inr none ↦ inr (λ asks. none (way_of asks.0 asks.1)) ]

pub known_ask : (plan : Plan) (ask : ScriptAsk) → IsDecided (IsKnownAsk plan ask)
known_ask plan (Place car position) = below car (length plan.cars)
known_ask plan (Call kiosk number floor party) = below kiosk (length plan.kiosks)
known_ask plan (Stop car number stop) = below car (length plan.cars)

-- who asks is a terminal of the building
pub ask_inside : (plan : Plan) (words : List (List ℕ)) (ask : ScriptAsk) → AskToAsk words ask → IsKnownAsk plan ask → (asked_command ask).terminal < MOST_CARS + length plan.kiosks
ask_inside plan words (Place car position) asks known = let few = asks.0 in omega (arith, few)
ask_inside plan words (Call kiosk number floor party) asks known = omega (arith, known)
ask_inside plan words (Stop car number stop) asks known = let few = asks.0 in omega (arith, few)
