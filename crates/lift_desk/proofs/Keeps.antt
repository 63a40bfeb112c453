-- Each step keeps the rule of its table.
use Rattle.std.proofs.Common.{◌≡◌, ◌≢◌, ℕ, zero, suc, ◌<◌, ◌≤◌, Bool, true, false, true≢false, List, [], ◌∷◌, ◌++◌, map, length, set, get_or, refl, sym, ap, ◌∙◌, subst, ⊎_elim, arith}
use Rattle.std.specs.Prelude.{nat_lt, nat_eq, ◌&&◌, if◌then◌else◌, Contains}
use Rattle.std.proofs.lemmas.List.{length_push, length-map}
use Rattle.std.proofs.lemmas.List.Elements.{All-push, Contains-append_left}
use Rattle.std.proofs.lemmas.Bool.Decides.{nat_tests}
use mathlib.Core.List.{IsPrefix, map-append}
use mathlib.Core.Option.{none, some, some-injective, some-ne-none}
use lib.ListN.{get_elem?}
use Rattle.atomic_table.specs.Table.{State, Me, step, keeps, Allows, Splits, Joins}
use Rattle.atomic_table.proofs.Lists.{at_set, at_snoc}
use Rattle.lift_desk.specs.declared.view.ClerkView.{ClerkView}
use Rattle.lift_desk.specs.declared.view.View.{View}
use Rattle.lift_desk.specs.Words.{turn_of, number_of, last_of, IsAskWord, IsReplyWord}
use Rattle.lift_desk.specs.Rule.{blank, opening_view, lending, having_back, united, terminal_part, clerk_part, ahead_part, ahead_of, ahead_note_of, noted_by, stamp_of, CountTurns, Lists, IsInOrder, IsAhead, Holders, ViewFits, AreLastWords}
use Rattle.lift_desk.specs.Steps.{with_ask, with_answer, with_hearing, with_look, with_taking, is_new_word, is_awaited, at_terminal, at_clerk, Asked, AnswersPlace, Looked, LookedAhead, Heard, Met, Compared, ComparedAhead}
use Rattle.lift_desk.specs.lemmas.WordLists.{last_of-push, CountTurns-push, turn_of-last_of, CountTurns-prefix, CountTurns-stamped, prefix_length, stamped_length, prefix_whole, prefix_refl, prefix_nil, prefix_push, prefix_next, stamped_next, stamped_same, All-last_of, IsAhead-push, IsAhead-prefix, IsAhead-take, turn_at_most, turn_is_last}

abbrev M : Type 0
M = Me (Unit {0}) View

abbrev AllFit : Holders → Lists → List View → Type 0
AllFit who l views = (seat : ℕ) (v : View) → get_elem? views seat ≡ some v → ViewFits who l seat v

-- one view changes, and the lists with it
fit_set : (who : Holders) (l : Lists) (views : List View) (id : ℕ) (w : View) → ViewFits who l id w
    → ((j : ℕ) (u : View) → j ≢ id → get_elem? views j ≡ some u → ViewFits who l j u) → AllFit who l (set views id w)
fit_set who l views id w mine others j u e =
    ⊎_elim
    (λ (x : (j ≡ id) × (w ≡ u)). subst (λ (y : ℕ × View). ViewFits who l y.0 y.1) (λ i. (sym x.0 i, x.1 i)) mine)
    (λ (x : (j ≢ id) × (get_elem? views j ≡ some u)). others j u x.0 x.1)
    (at_set views id j w u e)

off : {A : Type 0} → false ≡ true → A
off e = absurd (true≢false (sym e))

pub asks_keep : (slots id : ℕ) (me : M) (word : ℕ) → me.0.asks ≡ true → length me.0.terminal.asked ≡ length me.0.terminal.heard
    → turn_of word ≡ suc (length me.0.terminal.asked) → IsAskWord word
    → Allows AreLastWords slots id me 0 (λ _. word) (λ _. Asked (step slots 0 word 0 none) me word)
asks_keep slots id me word may free turn spelled s r _ at _ =
    let v = me.0 in
    let l = r.lists in
    let o = r.in_order in
    let mine = r.views id v at in
    let a = mine.asks may in
    let asked = l.asked ++ word ∷ [] in
    let l' : Lists = record { asked = asked; taken = l.taken; answered = l.answered; heard = l.heard } in
    let same : length v.terminal.asked ≡ length l.asked = ap length a.1 in
    let same_heard : length v.terminal.heard ≡ length l.heard = ap length a.2 in
    let in_order : IsInOrder l' = record {
      turns = CountTurns-push 1 l.asked word o.turns (omega arith);
      taken = prefix_push l.taken l.asked word o.taken;
      answered = o.answered;
      heard = o.heard;
      one_open = omega (arith, length_push l.asked word);
      asks_spelled = All-push IsAskWord l.asked word o.asks_spelled spelled;
      answers_spelled = o.answers_spelled;
    } in
    let w = at_terminal v (with_ask v.terminal word) in
    let fits : ViewFits r.holders l' id w = record {
      asks = λ _. (a.0, ap (λ z. z ++ word ∷ []) a.1, a.2);
      answers = mine.answers;
      looks_ahead = λ k. let y = mine.looks_ahead k in (y.0, y.1, IsAhead-push l.asked v.clerk.taken word y.2);
      told_answers = mine.told_answers;
      told_asks = prefix_push v.clerk.told l.asked word mine.told_asks;
      noted = λ any. Contains-append_left l.asked (word ∷ []) v.noted (mine.noted any);
    } in (
      w,
      keeps,
      tt,
      record {
        holders = r.holders;
        lists = l';
        words = ap (λ ws. set ws 0 word) r.words ∙ ap (λ z. z ∷ last_of l.answered ∷ []) (sym (last_of-push l.asked word));
        in_order = in_order;
        views = fit_set r.holders l' s.views id w fits
            (λ j u apart e. let f = r.views j u e in record {
              asks = λ k. absurd (apart ((f.asks k).0 ∙ sym a.0));
              answers = f.answers;
              looks_ahead = λ k. let y = f.looks_ahead k in (y.0, y.1, IsAhead-push l.asked u.clerk.taken word y.2);
              told_answers = f.told_answers;
              told_asks = prefix_push u.clerk.told l.asked word f.told_asks;
              noted = λ any. Contains-append_left l.asked (word ∷ []) u.noted (f.noted any);
            });
      },
      refl,
    )

-- a load changes no word
loaded : (a b : ℕ) (ws : List ℕ) (i : ℕ) → i < 2 → ws ≡ a ∷ b ∷ [] → set ws i (get_or ws i 0) ≡ a ∷ b ∷ []
loaded a b ws zero h e = ap (λ z. set z 0 (get_or z 0 0)) e
loaded a b ws (suc zero) h e = ap (λ z. set z 1 (get_or z 1 0)) e
loaded a b ws (suc (suc i)) h e = absurd (omega arith)

-- the turns of what was taken and answered, and how many there are of each
pub record Counts (l : Lists) : Type 0 where
  pub asked : turn_of (last_of l.asked) ≡ length l.asked
  pub taken : turn_of (last_of l.taken) ≡ length l.taken
  pub answered : turn_of (last_of l.answered) ≡ length l.answered
  pub one_open : length l.asked ≤ suc (length l.heard)
  pub heard_le : length l.heard ≤ length l.answered
  pub answered_le : length l.answered ≤ length l.taken
  pub taken_le : length l.taken ≤ length l.asked

counts : (l : Lists) → IsInOrder l → Counts l
counts l o =
    let taken : CountTurns 1 l.taken = CountTurns-prefix 1 l.taken l.asked o.taken o.turns in record {
      asked = turn_of-last_of l.asked o.turns;
      taken = turn_of-last_of l.taken taken;
      answered = turn_of-last_of l.answered (CountTurns-stamped 1 l.answered l.taken o.answered taken);
      one_open = o.one_open;
      heard_le = prefix_length l.heard l.answered o.heard;
      answered_le = stamped_length l.answered l.taken o.answered;
      taken_le = prefix_length l.taken l.asked o.taken;
    }

lt_of : (m n : ℕ) → nat_lt m n ≡ true → m < n
lt_of m n e = grind (arith, nat_tests)

le_of : (m n : ℕ) → nat_lt m n ≡ false → n ≤ m
le_of m n e = grind (arith, nat_tests)

abbrev LooksSo : State (Unit {0}) View → ℕ → View → ℕ → Bool → Type 0
LooksSo s id v n b =
    AreLastWords record { words = set s.words 0 n; homes = s.homes; views = set s.views id (at_clerk v (record { taken = if b then v.clerk.taken ++ n ∷ [] else v.clerk.taken; answered = v.clerk.answered; looks = suc v.clerk.looks; last = n; told = v.clerk.told })) }
    × (b ≡ true → IsAskWord n × (turn_of n ≡ suc (length v.clerk.taken)) × (length v.clerk.answered ≡ length v.clerk.taken))
    × IsPrefix v.clerk.told (if b then v.clerk.taken ++ n ∷ [] else v.clerk.taken)
    × (n ≡ last_of (if b then v.clerk.taken ++ n ∷ [] else v.clerk.taken))

looks_so : (s : State (Unit {0}) View) (r : AreLastWords s) (id : ℕ) (v : View) → v.answers ≡ true → v.looks_ahead ≡ false → get_elem? s.views id ≡ some v
    → (b : Bool) → nat_lt (turn_of (last_of v.clerk.taken)) (turn_of (get_or s.words 0 0)) ≡ b → LooksSo s id v (get_or s.words 0 0) b
looks_so s r id v may not_ahead at false is =
    let l = r.lists in
    let o = r.in_order in
    let f = r.views id v at in
    let a = f.answers may in
    let c = counts l o in
    let n : ℕ = get_or s.words 0 0 in
    let n_is : n ≡ last_of l.asked = ap (λ z. get_or z 0 0) r.words in
    let turn_is : turn_of n ≡ length l.asked = ap turn_of n_is ∙ c.asked in
    let last_is : turn_of (last_of v.clerk.taken) ≡ length l.taken = ap (λ z. turn_of (last_of z)) a.1 ∙ c.taken in
    let below : turn_of n ≤ turn_of (last_of v.clerk.taken) = le_of _ _ is in
    let all : v.clerk.taken ≡ l.asked = a.1 ∙ prefix_whole l.taken l.asked o.taken (omega arith) in
    let w = at_clerk v (record { taken = v.clerk.taken; answered = v.clerk.answered; looks = suc v.clerk.looks; last = get_or s.words 0 0; told = v.clerk.told }) in
    let mine : ViewFits r.holders l id w = record { asks = f.asks; answers = f.answers; looks_ahead = f.looks_ahead; told_answers = f.told_answers; told_asks = f.told_asks; noted = f.noted } in (
      record {
        holders = r.holders;
        lists = l;
        words = loaded (last_of l.asked) (last_of l.answered) s.words 0 (omega arith) r.words;
        in_order = r.in_order;
        views = fit_set r.holders l s.views id w mine (λ j u apart e. r.views j u e);
      },
      λ e. off e,
      subst (IsPrefix v.clerk.told) (sym all) f.told_asks,
      n_is ∙ ap last_of (sym all),
    )
looks_so s r id v may not_ahead at true is =
    let l = r.lists in
    let o = r.in_order in
    let f = r.views id v at in
    let a = f.answers may in
    let c = counts l o in
    let n : ℕ = get_or s.words 0 0 in
    let n_is : n ≡ last_of l.asked = ap (λ z. get_or z 0 0) r.words in
    let turn_is : turn_of n ≡ length l.asked = ap turn_of n_is ∙ c.asked in
    let last_is : turn_of (last_of v.clerk.taken) ≡ length l.taken = ap (λ z. turn_of (last_of z)) a.1 ∙ c.taken in
    let above : turn_of (last_of v.clerk.taken) < turn_of n = lt_of _ _ is in
    let more : length l.asked ≡ suc (length l.taken) = omega arith in
    let whole : l.asked ≡ l.taken ++ n ∷ [] = prefix_next l.taken l.asked o.taken more ∙ ap (λ z. l.taken ++ z ∷ []) (sym n_is) in
    let l' : Lists = record { asked = l.asked; taken = l.taken ++ n ∷ []; answered = l.answered; heard = l.heard } in
    let in_order : IsInOrder l' = record {
      turns = o.turns;
      taken = subst (λ z. IsPrefix z l.asked) whole (prefix_refl l.asked);
      answered = subst (λ z. IsPrefix (map stamp_of l.answered) z) (sym (map-append stamp_of l.taken (n ∷ []))) (prefix_push (map stamp_of l.answered) (map stamp_of l.taken) (stamp_of n) o.answered);
      heard = o.heard;
      one_open = o.one_open;
      asks_spelled = o.asks_spelled;
      answers_spelled = o.answers_spelled;
    } in
    let w = at_clerk v (record { taken = v.clerk.taken ++ n ∷ []; answered = v.clerk.answered; looks = suc v.clerk.looks; last = n; told = v.clerk.told }) in
    let mine : ViewFits r.holders l' id w = record {
      asks = f.asks;
      answers = λ _. (a.0, ap (λ z. z ++ n ∷ []) a.1, a.2, a.3);
      looks_ahead = λ k. off (sym not_ahead ∙ k);
      told_answers = f.told_answers;
      told_asks = f.told_asks;
      noted = f.noted;
    } in
    let taken_same : length v.clerk.taken ≡ length l.taken = ap length a.1 in
    let answered_same : length v.clerk.answered ≡ length l.answered = ap length a.2 in (
      record {
        holders = r.holders;
        lists = l';
        words = loaded (last_of l.asked) (last_of l.answered) s.words 0 (omega arith) r.words;
        in_order = in_order;
        views = fit_set r.holders l' s.views id w mine
            (λ j u apart e. let g = r.views j u e in record {
              asks = g.asks;
              answers = λ k. absurd (apart ((g.answers k).0 ∙ sym a.0));
              looks_ahead = g.looks_ahead;
              told_answers = g.told_answers;
              told_asks = g.told_asks;
              noted = g.noted;
            });
      },
      λ _. (subst IsAskWord (sym n_is) (All-last_of IsAskWord l.asked o.asks_spelled (omega arith)), omega arith, omega arith),
      subst (IsPrefix v.clerk.told) (whole ∙ ap (λ z. z ++ n ∷ []) (sym a.1)) f.told_asks,
      sym (last_of-push v.clerk.taken n),
    )

pub looks_keep : (slots id : ℕ) (me : M) → me.0.answers ≡ true → me.0.looks_ahead ≡ false
    → Allows AreLastWords slots id me 0 (λ n. n) (Looked (step slots 0 0 0 none) me)
looks_keep slots id me may not_ahead s r _ at _ =
    let n : ℕ = get_or s.words 0 0 in
    let so = looks_so s r id me.0 may not_ahead at (nat_lt (turn_of (last_of me.0.clerk.taken)) (turn_of n)) refl in
    let l = r.lists in
    let f = r.views id me.0 at in
    let c = counts l r.in_order in
    let n_is : n ≡ last_of l.asked = ap (λ z. get_or z 0 0) r.words in
    let last_is : turn_of (last_of me.0.clerk.taken) ≡ length l.taken = ap (λ z. turn_of (last_of z)) (f.answers may).1 ∙ c.taken in
    let one_open = c.one_open in
    let heard_le = c.heard_le in
    let answered_le = c.answered_le in
    let found : is_new_word me.0.clerk me.0.noted ≡ true → n ≡ me.0.noted = λ new.
    let above : turn_of (last_of me.0.clerk.taken) < turn_of me.0.noted = lt_of _ _ new in
    let there = f.noted (λ none. let zero : turn_of me.0.noted ≡ 0 = ap turn_of none in omega arith) in
    let at_most = turn_at_most l.asked me.0.noted r.in_order.turns there in
    n_is ∙ sym (turn_is_last l.asked me.0.noted r.in_order.turns there (omega arith)) in
    (at_clerk me.0 (with_taking me.0.clerk n), keeps, tt, so.0, (refl, refl, so.1, so.2, found, so.3))

pub answers_keep : (slots id : ℕ) (me : M) (word : ℕ) → me.0.answers ≡ true → length me.0.clerk.taken ≡ suc (length me.0.clerk.answered)
    → stamp_of word ≡ stamp_of (last_of me.0.clerk.taken) → IsReplyWord word
    → Allows AreLastWords slots id me 1 (λ _. word) (λ _. AnswersPlace (step slots 1 word 0 none) me word)
answers_keep slots id me word may owed stamp spelled s r _ at _ =
    let v = me.0 in
    let l = r.lists in
    let o = r.in_order in
    let f = r.views id v at in
    let a = f.answers may in
    let answered = l.answered ++ word ∷ [] in
    let l' : Lists = record { asked = l.asked; taken = l.taken; answered = answered; heard = l.heard } in
    let taken_same : length v.clerk.taken ≡ length l.taken = ap length a.1 in
    let answered_same : length v.clerk.answered ≡ length l.answered = ap length a.2 in
    let in_order : IsInOrder l' = record {
      turns = o.turns;
      taken = o.taken;
      answered = subst (IsPrefix (map stamp_of answered)) (stamped_next l.answered l.taken word o.answered (omega arith) (stamp ∙ ap (λ z. stamp_of (last_of z)) a.1)) (prefix_refl (map stamp_of answered));
      heard = prefix_push l.heard l.answered word o.heard;
      one_open = o.one_open;
      asks_spelled = o.asks_spelled;
      answers_spelled = All-push IsReplyWord l.answered word o.answers_spelled spelled;
    } in
    let w = at_clerk v (with_answer v.clerk word) in
    let mine : ViewFits r.holders l' id w = record {
      asks = f.asks;
      answers = λ _. (a.0, a.1, ap (λ z. z ++ word ∷ []) a.2, a.3);
      looks_ahead = f.looks_ahead;
      told_answers = prefix_push v.terminal.told l.answered word f.told_answers;
      told_asks = f.told_asks;
      noted = f.noted;
    } in (
      w,
      keeps,
      tt,
      record {
        holders = r.holders;
        lists = l';
        words = ap (λ ws. set ws 1 word) r.words ∙ ap (λ z. last_of l.asked ∷ z ∷ []) (sym (last_of-push l.answered word));
        in_order = in_order;
        views = fit_set r.holders l' s.views id w mine
            (λ j u apart e. let g = r.views j u e in record {
              asks = g.asks;
              answers = λ k. absurd (apart ((g.answers k).0 ∙ sym a.0));
              looks_ahead = g.looks_ahead;
              told_answers = prefix_push u.terminal.told l.answered word g.told_answers;
              told_asks = g.told_asks;
              noted = g.noted;
            });
      },
      refl,
    )

awaits : (h a t : ℕ) → (nat_lt h a && nat_eq t a) ≡ true → (h < a) × (t ≡ a)
awaits h a t e = grind (arith, nat_tests)

-- where no answer is awaited or none has come, all were heard
heard_all : (h a t : ℕ) → (nat_lt h a && nat_eq t a) ≡ false → t ≤ a → a ≤ suc h → t ≤ h
heard_all h a t e below one_more = grind (arith, nat_tests)

abbrev HearsSo : State (Unit {0}) View → ℕ → View → ℕ → Bool → Type 0
HearsSo s id v n b =
    AreLastWords record { words = set s.words 1 n; homes = s.homes; views = set s.views id (at_terminal v (record { asked = v.terminal.asked; heard = if b then v.terminal.heard ++ n ∷ [] else v.terminal.heard; looks = suc v.terminal.looks; last = n; told = v.terminal.told })) }
    × (b ≡ true → IsReplyWord n × (turn_of n ≡ length v.terminal.asked) × (number_of n ≡ number_of (last_of v.terminal.asked)))
    × IsPrefix v.terminal.told (if b then v.terminal.heard ++ n ∷ [] else v.terminal.heard)
    × (n ≡ last_of (if b then v.terminal.heard ++ n ∷ [] else v.terminal.heard))

hears_so : (s : State (Unit {0}) View) (r : AreLastWords s) (id : ℕ) (v : View) → v.asks ≡ true → get_elem? s.views id ≡ some v
    → (b : Bool) → is_awaited v.terminal (get_or s.words 1 0) ≡ b → HearsSo s id v (get_or s.words 1 0) b
hears_so s r id v may at false is =
    let l = r.lists in
    let o = r.in_order in
    let f = r.views id v at in
    let a = f.asks may in
    let c = counts l o in
    let n : ℕ = get_or s.words 1 0 in
    let n_is : n ≡ last_of l.answered = ap (λ z. get_or z 1 0) r.words in
    let turn_is : turn_of n ≡ length l.answered = ap turn_of n_is ∙ c.answered in
    let asked_same : length v.terminal.asked ≡ length l.asked = ap length a.1 in
    let heard_same : length v.terminal.heard ≡ length l.heard = ap length a.2 in
    let below : turn_of n ≤ length v.terminal.heard = heard_all (length v.terminal.heard) (length v.terminal.asked) (turn_of n) is (omega arith) (omega arith) in
    let all : v.terminal.heard ≡ l.answered = a.2 ∙ prefix_whole l.heard l.answered o.heard (omega arith) in
    let w = at_terminal v (with_look v.terminal (get_or s.words 1 0)) in
    let mine : ViewFits r.holders l id w = record { asks = f.asks; answers = f.answers; looks_ahead = f.looks_ahead; told_answers = f.told_answers; told_asks = f.told_asks; noted = f.noted } in (
      record {
        holders = r.holders;
        lists = l;
        words = loaded (last_of l.asked) (last_of l.answered) s.words 1 (omega arith) r.words;
        in_order = r.in_order;
        views = fit_set r.holders l s.views id w mine (λ j u apart e. r.views j u e);
      },
      λ e. off e,
      subst (IsPrefix v.terminal.told) (sym all) f.told_answers,
      n_is ∙ ap last_of (sym all),
    )
hears_so s r id v may at true is =
    let l = r.lists in
    let o = r.in_order in
    let f = r.views id v at in
    let a = f.asks may in
    let c = counts l o in
    let n : ℕ = get_or s.words 1 0 in
    let n_is : n ≡ last_of l.answered = ap (λ z. get_or z 1 0) r.words in
    let turn_is : turn_of n ≡ length l.answered = ap turn_of n_is ∙ c.answered in
    let awaited = awaits (length v.terminal.heard) (length v.terminal.asked) (turn_of n) is in
    let asked_same : length v.terminal.asked ≡ length l.asked = ap length a.1 in
    let heard_same : length v.terminal.heard ≡ length l.heard = ap length a.2 in
    let unheard = awaited.0 in
    let latest = awaited.1 in
    let more : length l.answered ≡ suc (length l.heard) = omega arith in
    let whole : l.answered ≡ l.heard ++ n ∷ [] = prefix_next l.heard l.answered o.heard more ∙ ap (λ z. l.heard ++ z ∷ []) (sym n_is) in
    let l' : Lists = record { asked = l.asked; taken = l.taken; answered = l.answered; heard = l.heard ++ n ∷ [] } in
    let in_order : IsInOrder l' = record {
      turns = o.turns;
      taken = o.taken;
      answered = o.answered;
      heard = subst (λ z. IsPrefix z l.answered) whole (prefix_refl l.answered);
      one_open = omega (arith, length_push l.heard n);
      asks_spelled = o.asks_spelled;
      answers_spelled = o.answers_spelled;
    } in
    let w = at_terminal v (record { asked = v.terminal.asked; heard = v.terminal.heard ++ n ∷ []; looks = suc v.terminal.looks; last = n; told = v.terminal.told }) in
    let mine : ViewFits r.holders l' id w = record {
      asks = λ _. (a.0, a.1, ap (λ z. z ++ n ∷ []) a.2);
      answers = f.answers;
      looks_ahead = f.looks_ahead;
      told_answers = f.told_answers;
      told_asks = f.told_asks;
      noted = f.noted;
    } in (
      record {
        holders = r.holders;
        lists = l';
        words = loaded (last_of l.asked) (last_of l.answered) s.words 1 (omega arith) r.words;
        in_order = in_order;
        views = fit_set r.holders l' s.views id w mine
            (λ j u apart e. let g = r.views j u e in record {
              asks = λ k. absurd (apart ((g.asks k).0 ∙ sym a.0));
              answers = g.answers;
              looks_ahead = g.looks_ahead;
              told_answers = g.told_answers;
              told_asks = g.told_asks;
              noted = g.noted;
            });
      },
      λ _. (
        subst IsReplyWord (sym n_is) (All-last_of IsReplyWord l.answered o.answers_spelled (omega arith)),
        latest,
        ap number_of n_is ∙ ap (λ (z : ℕ × ℕ). z.1) (stamped_last l.answered l.asked o.answered (taken_whole l o (omega arith)) (omega arith) (omega arith)) ∙ ap (λ z. number_of (last_of z)) (sym a.1),
      ),
      subst (IsPrefix v.terminal.told) (whole ∙ ap (λ z. z ++ n ∷ []) (sym a.2)) f.told_answers,
      sym (last_of-push v.terminal.heard n),
    )
  where
    taken_whole : (l : Lists) (o : IsInOrder l) → length l.asked ≤ length l.taken → l.taken ≡ l.asked
    taken_whole l o h = prefix_whole l.taken l.asked o.taken h

    stamped_last : (xs ys : List ℕ) {zs : List ℕ} → IsPrefix (map stamp_of xs) (map stamp_of zs) → zs ≡ ys → length ys ≤ length xs → 0 < length xs → stamp_of (last_of xs) ≡ stamp_of (last_of ys)
    stamped_last xs ys {zs} p e long some_word = stamped_same xs ys (prefix_whole (map stamp_of xs) (map stamp_of ys) (subst (λ z. IsPrefix (map stamp_of xs) (map stamp_of z)) e p) (omega (arith, length-map xs stamp_of, length-map ys stamp_of))) some_word

pub hears_keep : (slots id : ℕ) (me : M) → me.0.asks ≡ true → Allows AreLastWords slots id me 1 (λ n. n) (Heard (step slots 1 0 0 none) me)
hears_keep slots id me may s r _ at _ =
    let n : ℕ = get_or s.words 1 0 in
    let so = hears_so s r id me.0 may at (is_awaited me.0.terminal n) refl in
    (at_terminal me.0 (with_hearing me.0.terminal n), keeps, tt, so.0, (refl, refl, so.1, so.2, so.3))

pub meets_keep : (slots id : ℕ) (me : M) → me.0.asks ≡ true → me.0.answers ≡ true → Allows AreLastWords slots id me 1 (λ n. n) (Met (step slots 1 0 0 none) me)
meets_keep slots id me asks answers s r _ at _ =
    let v = me.0 in
    let l = r.lists in
    let o = r.in_order in
    let f = r.views id v at in
    let a = f.asks asks in
    let b = f.answers answers in
    let n : ℕ = get_or s.words 1 0 in
    let n_is : n ≡ last_of l.answered = ap (λ z. get_or z 1 0) r.words in
    let w = at_terminal v (with_look v.terminal n) in
    let mine : ViewFits r.holders l id w = record { asks = f.asks; answers = f.answers; looks_ahead = f.looks_ahead; told_answers = f.told_answers; told_asks = f.told_asks; noted = f.noted } in (
      w,
      keeps,
      tt,
      record {
        holders = r.holders;
        lists = l;
        words = loaded (last_of l.asked) (last_of l.answered) s.words 1 (omega arith) r.words;
        in_order = o;
        views = fit_set r.holders l s.views id w mine (λ j u apart e. r.views j u e);
      },
      (refl, refl, n_is ∙ ap last_of (sym b.2), subst (λ (z : List ℕ × List ℕ). IsPrefix z.0 z.1) (λ i. (sym a.2 i, sym b.2 i)) o.heard),
    )

-- the table at the start
abbrev first_holders : Holders
first_holders = record { terminal = 0; clerk = 0; ahead = 0; lent = false }

pub begins : AreLastWords record { words = 0 ∷ 0 ∷ []; homes = []; views = opening_view ∷ [] }
begins = record {
  holders = first_holders;
  lists = record { asked = []; taken = []; answered = []; heard = [] };
  words = refl;
  in_order = record {
    turns = tt;
    taken = prefix_nil [];
    answered = prefix_nil [];
    heard = prefix_nil [];
    one_open = omega arith;
    asks_spelled = λ k d below. absurd (omega arith);
    answers_spelled = λ k d below. absurd (omega arith);
  };
  views = one;
}
  where
    one : (seat : ℕ) (v : View) → get_elem? (opening_view ∷ []) seat ≡ some v → ViewFits first_holders (record { asked = []; taken = []; answered = []; heard = [] }) seat v
    one zero v e = subst (ViewFits first_holders (record { asked = []; taken = []; answered = []; heard = [] }) 0) (some-injective opening_view v e) (record { asks = λ _. (refl, refl, refl); answers = λ _. (refl, refl, refl, refl); looks_ahead = λ k. off k; told_answers = prefix_nil []; told_asks = prefix_nil []; noted = λ any. absurd (any refl) })
    one (suc seat) v e = absurd (some-ne-none v (sym e))

at_end : (l : List View) (a b : View) (j : ℕ) → get_elem? l j ≢ some b → get_elem? (l ++ a ∷ []) j ≡ some b → j ≡ length l
at_end [] a b zero n e = refl
at_end [] a b (suc j) n e = absurd (some-ne-none b (sym e))
at_end (x ∷ xs) a b zero n e = absurd (n e)
at_end (x ∷ xs) a b (suc j) n e = ap suc (at_end xs a b j n e)

-- a seat with both rights becomes the terminal's, and the new one is the clerk's; these words were answered and asked
parts_split : (id : ℕ) (v : View) (told_answers told_asks : List ℕ) → v.asks ≡ true → v.answers ≡ true
    → ((who : Holders) (l : Lists) → ViewFits who l id v → IsPrefix told_answers l.answered × IsPrefix told_asks l.asked)
    → Splits AreLastWords id v (terminal_part v told_answers) (clerk_part v told_asks)
parts_split id v told_answers told_asks asks answers told s r at =
    let l = r.lists in
    let f = r.views id v at in
    let a = f.asks asks in
    let b = f.answers answers in
    let begun = told r.holders l f in
    let left = terminal_part v told_answers in
    let right = clerk_part v told_asks in
    let vs = set s.views id left in
    let who = r.holders in
    let Old : ℕ → View → Type 0 = λ j u. (u.asks ≡ true → (j ≡ who.terminal) × (u.terminal.asked ≡ l.asked) × (u.terminal.heard ≡ l.heard)) × (u.answers ≢ true) × (u.looks_ahead ≡ true → (who.lent ≡ true) × (j ≡ who.ahead) × IsAhead l.asked u.clerk.taken)
    × IsPrefix u.terminal.told l.answered × IsPrefix u.clerk.told l.asked × (u.noted ≢ 0 → Contains l.asked u.noted) in
    let left_fits : Old id left = ((λ _. a), (λ k. off k), (λ k. off k), begun.0, prefix_nil l.asked, (λ any. absurd (any refl))) in
    let old : (j : ℕ) (u : View) → get_elem? vs j ≡ some u → Old j u = λ j u e.
    ⊎_elim
    (λ (x : (j ≡ id) × (left ≡ u)). subst (λ (y : ℕ × View). Old y.0 y.1) (λ i. (sym x.0 i, x.1 i)) left_fits)
    (λ (x : (j ≢ id) × (get_elem? s.views j ≡ some u)). let g = r.views j u x.1 in (g.asks, (λ k. x.0 ((g.answers k).0 ∙ sym b.0)), g.looks_ahead, g.told_answers, g.told_asks, g.noted))
    (at_set s.views id j left u e) in
    record {
      holders = record who { clerk = length vs };
      lists = l;
      words = r.words;
      in_order = r.in_order;
      views = λ j u e. ⊎_elim
          (λ (x : get_elem? vs j ≡ some u). let g = old j u x in record { asks = g.0; answers = λ k. absurd (g.1 k); looks_ahead = g.2; told_answers = g.3; told_asks = g.4; noted = g.5 })
          (λ (is : right ≡ u). record {
            asks = λ k. off (ap (λ (y : View). y.asks) is ∙ k);
            answers = λ k. (at_end vs right u j (λ x. (old j u x).1 k) e, ap (λ (y : View). y.clerk.taken) (sym is) ∙ b.1, ap (λ (y : View). y.clerk.answered) (sym is) ∙ b.2, ap (λ (y : View). y.lends) (sym is) ∙ b.3);
            looks_ahead = λ k. off (ap (λ (y : View). y.looks_ahead) is ∙ k);
            told_answers = subst (λ (z : View). IsPrefix z.terminal.told l.answered) is (prefix_nil l.answered);
            told_asks = subst (λ (z : View). IsPrefix z.clerk.told l.asked) is begun.1;
            noted = subst (λ (z : View). z.noted ≢ 0 → Contains l.asked z.noted) is (λ any. absurd (any refl));
          })
          (at_snoc vs right u j e);
    }

-- each is told what the other has stored
pub seats_split : (id : ℕ) (v : View) → v.asks ≡ true → v.answers ≡ true → Splits AreLastWords id v (terminal_part v v.clerk.answered) (clerk_part v v.terminal.asked)
seats_split id v asks answers = parts_split id v v.clerk.answered v.terminal.asked asks answers
    (λ who l f. (subst (λ z. IsPrefix z l.answered) (sym (f.answers answers).2) (prefix_refl l.answered), subst (λ z. IsPrefix z l.asked) (sym (f.asks asks).1) (prefix_refl l.asked)))

-- neither is told anything new
pub untold_split : (id : ℕ) (v : View) → v.asks ≡ true → v.answers ≡ true → Splits AreLastWords id v (terminal_part v v.terminal.told) (clerk_part v v.clerk.told)
untold_split id v asks answers = parts_split id v v.terminal.told v.clerk.told asks answers (λ who l f. (f.told_answers, f.told_asks))

-- a new seat that may store nothing, beside one that keeps to the rule
adds : (id : ℕ) (v w : View) (s : State (Unit {0}) View) (r : AreLastWords s) → ViewFits r.holders r.lists id v → ((j : ℕ) → ViewFits r.holders r.lists j w)
    → AreLastWords record { words = s.words; homes = s.homes; views = set s.views id v ++ w ∷ [] }
adds id v w s r old new = record {
  holders = r.holders;
  lists = r.lists;
  words = r.words;
  in_order = r.in_order;
  views = λ j u e. ⊎_elim
      (λ (x : get_elem? (set s.views id v) j ≡ some u). fit_set r.holders r.lists s.views id v old (λ i y apart e'. r.views i y e') j u x)
      (λ (is : w ≡ u). subst (ViewFits r.holders r.lists j) is (new j))
      (at_snoc (set s.views id v) w u j e);
}

-- a new seat that looks ahead, as no other one does then
adds_ahead : (id : ℕ) (v w : View) (s : State (Unit {0}) View) (r : AreLastWords s)
    → v.looks_ahead ≡ false → w.asks ≡ false → w.answers ≡ false → IsAhead r.lists.asked w.clerk.taken → IsPrefix w.terminal.told r.lists.answered → IsPrefix w.clerk.told r.lists.asked → w.noted ≡ 0
    → ViewFits (record r.holders { ahead = length (set s.views id v); lent = true }) r.lists id v
    → ((j : ℕ) (u : View) → j ≢ id → get_elem? s.views j ≡ some u → (u.looks_ahead ≢ true) × (u.answers ≡ true → u.lends ≡ true))
    → AreLastWords record { words = s.words; homes = s.homes; views = set s.views id v ++ w ∷ [] }
adds_ahead id v w s r silent no_asks no_answers took told_answers told_asks no_note mine others =
    let l = r.lists in
    let vs = set s.views id v in
    let who : Holders = record r.holders { ahead = length vs; lent = true } in
    let left : (u : View) → v ≡ u → u.looks_ahead ≢ true = λ u is k. off (sym silent ∙ ap (λ (y : View). y.looks_ahead) is ∙ k) in
    let none : (j : ℕ) (u : View) → get_elem? vs j ≡ some u → u.looks_ahead ≢ true = λ j u e.
    ⊎_elim (λ (x : (j ≡ id) × (v ≡ u)). left u x.1) (λ (x : (j ≢ id) × (get_elem? s.views j ≡ some u)). (others j u x.0 x.1).0) (at_set s.views id j v u e) in
    record {
      holders = who;
      lists = l;
      words = r.words;
      in_order = r.in_order;
      views = λ j u e. ⊎_elim
          (λ (x : get_elem? vs j ≡ some u). fit_set who l s.views id v mine (λ i y apart at. let f = r.views i y at in let o = others i y apart at in record {
            asks = f.asks;
            answers = λ k. let b = f.answers k in (b.0, b.1, b.2, o.1 k);
            looks_ahead = λ k. absurd (o.0 k);
            told_answers = f.told_answers;
            told_asks = f.told_asks;
            noted = f.noted;
          }) j u x)
          (λ (is : w ≡ u). record {
            asks = λ k. off (sym no_asks ∙ ap (λ (y : View). y.asks) is ∙ k);
            answers = λ k. off (sym no_answers ∙ ap (λ (y : View). y.answers) is ∙ k);
            looks_ahead = λ k. (refl, at_end vs w u j (λ x. none j u x k) e, subst (λ (y : View). IsAhead l.asked y.clerk.taken) is took);
            told_answers = subst (λ (y : View). IsPrefix y.terminal.told l.answered) is told_answers;
            told_asks = subst (λ (y : View). IsPrefix y.clerk.told l.asked) is told_asks;
            noted = λ any. absurd (any (ap (λ (y : View). y.noted) (sym is) ∙ no_note));
          })
          (at_snoc vs w u j e);
    }

-- the clerk's seat lends the right to look ahead, which it had not lent
pub ahead_split : (id : ℕ) (v : View) → v.answers ≡ true → v.looks_ahead ≡ false → v.lends ≡ false → Splits AreLastWords id v (lending v) (ahead_of v)
ahead_split id v may silent has s r at =
    let f = r.views id v at in
    let a = f.answers may in
    let o = r.in_order in
    adds_ahead id (lending v) (ahead_of v) s r silent refl refl
    (subst (IsAhead r.lists.asked) (sym a.1) (IsAhead-prefix r.lists.asked r.lists.taken o.turns o.taken)) (prefix_nil r.lists.answered) f.told_asks refl
    (record {
      asks = f.asks;
      answers = λ _. (a.0, a.1, a.2, refl);
      looks_ahead = λ k. off (sym silent ∙ k);
      told_answers = f.told_answers;
      told_asks = f.told_asks;
      noted = f.noted;
    })
    (λ j u apart e. let g = r.views j u e in ((λ k. true≢false (sym (g.looks_ahead k).0 ∙ sym a.3 ∙ has)), (λ k. absurd (apart ((g.answers k).0 ∙ sym a.0)))))

-- a seat with the terminal's rights and a seat ahead's is parted; the seat ahead is told what was asked
pub ahead_parts_split : (id : ℕ) (v : View) → v.asks ≡ true → v.looks_ahead ≡ true → Splits AreLastWords id v (terminal_part v v.terminal.told) (ahead_part v)
ahead_parts_split id v asks looks s r at =
    let f = r.views id v at in
    let a = f.asks asks in
    let b = f.looks_ahead looks in
    let l = r.lists in
    adds_ahead id (terminal_part v v.terminal.told) (ahead_part v) s r refl refl refl b.2 (prefix_nil l.answered) (subst (λ z. IsPrefix z l.asked) (sym a.1) (prefix_refl l.asked)) refl
    (record {
      asks = λ _. a;
      answers = λ k. off k;
      looks_ahead = λ k. off k;
      told_answers = f.told_answers;
      told_asks = prefix_nil l.asked;
      noted = λ any. absurd (any refl);
    })
    (λ j u apart e. let g = r.views j u e in ((λ k. apart ((g.looks_ahead k).1 ∙ sym b.1)), (λ k. (g.answers k).3 ∙ b.0)))

blank_fits : (who : Holders) (l : Lists) (seat : ℕ) → ViewFits who l seat blank
blank_fits who l seat = record {
  asks = λ k. off k;
  answers = λ k. off k;
  looks_ahead = λ k. off k;
  told_answers = prefix_nil l.answered;
  told_asks = prefix_nil l.asked;
  noted = λ any. absurd (any refl);
}

-- a seat is spent, and another has what it had
spends_as : (who : Holders) (id other : ℕ) (w : View) (s : State (Unit {0}) View) (r : AreLastWords s) → ViewFits who r.lists id w
    → ((j : ℕ) (y : View) → j ≢ id → j ≢ other → get_elem? s.views j ≡ some y → ViewFits who r.lists j y)
    → AreLastWords record { words = s.words; homes = s.homes; views = set (set s.views id w) other blank }
spends_as who id other w s r mine others = record {
  holders = who;
  lists = r.lists;
  words = r.words;
  in_order = r.in_order;
  views = fit_set who r.lists (set s.views id w) other blank (blank_fits who r.lists other)
      (λ j y not_other e. ⊎_elim
      (λ (x : (j ≡ id) × (w ≡ y)). subst (λ (z : ℕ × View). ViewFits who r.lists z.0 z.1) (λ i. (sym x.0 i, x.1 i)) mine)
      (λ (x : (j ≢ id) × (get_elem? s.views j ≡ some y)). others j y x.0 not_other x.1)
      (at_set s.views id j w y e));
}

-- a seat is spent, and another may have learned what it was told
spends : (id : ℕ) (v : View) (other : ℕ) (u w : View) (s : State (Unit {0}) View) (r : AreLastWords s) → ViewFits r.holders r.lists id w
    → AreLastWords record { words = s.words; homes = s.homes; views = set (set s.views id w) other blank }
spends id v other u w s r mine = spends_as r.holders id other w s r mine (λ j y apart not_other e. r.views j y e)

-- the seat that is joined in stood at its number before
was_there : (views : List View) (id other : ℕ) (w u : View) → other ≢ id → get_elem? (set views id w) other ≡ some u → get_elem? views other ≡ some u
was_there views id other w u apart there =
    ⊎_elim (λ (x : (other ≡ id) × (w ≡ u)). absurd (apart x.0)) (λ (x : (other ≢ id) × (get_elem? views other ≡ some u)). x.1) (at_set views id other w u there)

-- a seat ahead notes the last ask that it took
pub notes_split : (id : ℕ) (v : View) → v.looks_ahead ≡ true → Splits AreLastWords id v v (ahead_note_of v)
notes_split id v may s r at =
    adds id v (ahead_note_of v) s r (r.views id v at) (λ j. record {
      asks = λ k. off k;
      answers = λ k. off k;
      looks_ahead = λ k. off k;
      told_answers = prefix_nil r.lists.answered;
      told_asks = prefix_nil r.lists.asked;
      noted = last_asked r.lists.asked v.clerk.taken ((r.views id v at).looks_ahead may).2;
    })
  where
    last_asked : (asked taken : List ℕ) → IsAhead asked taken → last_of taken ≢ 0 → Contains asked (last_of taken)
    last_asked asked [] h any = absurd (any refl)
    last_asked asked (x ∷ taken) h any = All-last_of (Contains asked) (x ∷ taken) h.asked_all (omega arith)

pub notes_join : (id : ℕ) (v : View) (other : ℕ) (u : View) → Joins AreLastWords id v other u (noted_by v u) blank
notes_join id v other u s r at apart there =
    let f = r.views id v at in
    let was : get_elem? s.views other ≡ some u = ⊎_elim (λ (x : (other ≡ id) × (noted_by v u ≡ u)). absurd (apart x.0)) (λ (x : (other ≢ id) × (get_elem? s.views other ≡ some u)). x.1) (at_set s.views id other (noted_by v u) u there) in
    let g = r.views other u was in
    spends id v other u (noted_by v u) s r (record { asks = f.asks; answers = f.answers; looks_ahead = f.looks_ahead; told_answers = f.told_answers; told_asks = f.told_asks; noted = g.noted })

-- the clerk has back what it lent
pub ahead_join : (id : ℕ) (v : View) (other : ℕ) (u : View) → v.answers ≡ true → u.looks_ahead ≡ true → Joins AreLastWords id v other u (having_back v u) blank
ahead_join id v other u answers looks s r at apart there =
    let w = having_back v u in
    let f = r.views id v at in
    let b = f.answers answers in
    let g = (r.views other u (was_there s.views id other w u apart there)).looks_ahead looks in
    spends_as (record r.holders { lent = false }) id other w s r
    (record {
      asks = f.asks;
      answers = λ _. (b.0, b.1, b.2, refl);
      looks_ahead = λ k. absurd (apart (g.1 ∙ sym (f.looks_ahead k).1));
      told_answers = f.told_answers;
      told_asks = f.told_asks;
      noted = f.noted;
    })
    (λ j y not_id not_other e. let h = r.views j y e in record {
      asks = h.asks;
      answers = λ k. absurd (not_id ((h.answers k).0 ∙ sym b.0));
      looks_ahead = λ k. absurd (not_other ((h.looks_ahead k).1 ∙ sym g.1));
      told_answers = h.told_answers;
      told_asks = h.told_asks;
      noted = h.noted;
    })

-- the clerk's rights go to the terminal's seat
pub unites_join : (id : ℕ) (v : View) (other : ℕ) (c : View) → v.asks ≡ true → c.answers ≡ true → c.looks_ahead ≡ false → Joins AreLastWords id v other c (united v c) blank
unites_join id v other c asks answers silent s r at apart there =
    let w = united v c in
    let f = r.views id v at in
    let g = r.views other c (was_there s.views id other w c apart there) in
    let a = f.asks asks in
    let b = g.answers answers in
    spends_as (record r.holders { clerk = id }) id other w s r
    (record {
      asks = λ _. a;
      answers = λ _. (refl, b.1, b.2, b.3);
      looks_ahead = λ k. off (sym silent ∙ k);
      told_answers = f.told_answers;
      told_asks = g.told_asks;
      noted = λ any. absurd (any refl);
    })
    (λ j y not_id not_other e. let h = r.views j y e in record {
      asks = h.asks;
      answers = λ k. absurd (not_other ((h.answers k).0 ∙ sym b.0));
      looks_ahead = h.looks_ahead;
      told_answers = h.told_answers;
      told_asks = h.told_asks;
      noted = h.noted;
    })

-- the rights of a seat ahead go to the terminal's seat
pub ahead_unites_join : (id : ℕ) (v : View) (other : ℕ) (u : View) → v.asks ≡ true → u.looks_ahead ≡ true → u.answers ≡ false → Joins AreLastWords id v other u (united v u) blank
ahead_unites_join id v other u asks looks silent s r at apart there =
    let w = united v u in
    let f = r.views id v at in
    let g = r.views other u (was_there s.views id other w u apart there) in
    let b = g.looks_ahead looks in
    spends_as (record r.holders { ahead = id }) id other w s r
    (record {
      asks = λ _. f.asks asks;
      answers = λ k. off (sym silent ∙ k);
      looks_ahead = λ _. (b.0, refl, b.2);
      told_answers = f.told_answers;
      told_asks = g.told_asks;
      noted = λ any. absurd (any refl);
    })
    (λ j y not_id not_other e. let h = r.views j y e in record {
      asks = h.asks;
      answers = h.answers;
      looks_ahead = λ k. absurd (not_other ((h.looks_ahead k).1 ∙ sym b.1));
      told_answers = h.told_answers;
      told_asks = h.told_asks;
      noted = h.noted;
    })

-- a seat with both rights has all that there is
pub compares_keep : (slots id : ℕ) (me : M) → me.0.asks ≡ true → me.0.answers ≡ true → Allows AreLastWords slots id me 0 (λ n. n) (Compared (step slots 0 0 0 none) me)
compares_keep slots id me asks answers s r _ at _ =
    let v = me.0 in
    let l = r.lists in
    let f = r.views id v at in
    let a = f.asks asks in
    let b = f.answers answers in (
      v,
      keeps,
      tt,
      record {
        holders = r.holders;
        lists = l;
        words = loaded (last_of l.asked) (last_of l.answered) s.words 0 (omega arith) r.words;
        in_order = r.in_order;
        views = fit_set r.holders l s.views id v f (λ j u apart e. r.views j u e);
      },
      (refl, subst IsInOrder (λ i. record { asked = sym a.1 i; taken = sym b.1 i; answered = sym b.2 i; heard = sym a.2 i }) r.in_order),
    )

-- a seat with the terminal's rights and a seat ahead's has taken what was asked
pub compares_ahead_keep : (slots id : ℕ) (me : M) → me.0.asks ≡ true → me.0.looks_ahead ≡ true → Allows AreLastWords slots id me 0 (λ n. n) (ComparedAhead (step slots 0 0 0 none) me)
compares_ahead_keep slots id me asks looks s r _ at _ =
    let v = me.0 in
    let l = r.lists in
    let f = r.views id v at in (
      v,
      keeps,
      tt,
      record {
        holders = r.holders;
        lists = l;
        words = loaded (last_of l.asked) (last_of l.answered) s.words 0 (omega arith) r.words;
        in_order = r.in_order;
        views = fit_set r.holders l s.views id v f (λ j u apart e. r.views j u e);
      },
      (refl, subst (λ z. IsAhead z v.clerk.taken) (sym (f.asks asks).1) (f.looks_ahead looks).2),
    )

abbrev AheadSo : State (Unit {0}) View → ℕ → View → ℕ → Bool → Type 0
AheadSo s id v n b =
    AreLastWords record { words = set s.words 0 n; homes = s.homes; views = set s.views id (at_clerk v (record { taken = if b then v.clerk.taken ++ n ∷ [] else v.clerk.taken; answered = v.clerk.answered; looks = suc v.clerk.looks; last = n; told = v.clerk.told })) }
    × (b ≡ true → IsAskWord n)
    × (n ≡ last_of (if b then v.clerk.taken ++ n ∷ [] else v.clerk.taken))

ahead_so : (s : State (Unit {0}) View) (r : AreLastWords s) (id : ℕ) (v : View) → v.looks_ahead ≡ true → v.answers ≡ false → get_elem? s.views id ≡ some v
    → (b : Bool) → nat_lt (turn_of (last_of v.clerk.taken)) (turn_of (get_or s.words 0 0)) ≡ b → AheadSo s id v (get_or s.words 0 0) b
ahead_so s r id v may no_answer at b is =
    let l = r.lists in
    let o = r.in_order in
    let f = r.views id v at in
    let c = counts l o in
    let n : ℕ = get_or s.words 0 0 in
    let n_is : n ≡ last_of l.asked = ap (λ z. get_or z 0 0) r.words in
    let asked : turn_of n ≡ length l.asked = ap turn_of n_is ∙ c.asked in
    let w = at_clerk v (record { taken = if b then v.clerk.taken ++ n ∷ [] else v.clerk.taken; answered = v.clerk.answered; looks = suc v.clerk.looks; last = n; told = v.clerk.told }) in
    let mine : ViewFits r.holders l id w = record {
      asks = f.asks;
      answers = λ k. off (sym no_answer ∙ k);
      looks_ahead = λ k. let y = f.looks_ahead k in (y.0, y.1, taken_more l.asked v.clerk.taken n b n_is asked y.2 is);
      told_answers = f.told_answers;
      told_asks = f.told_asks;
      noted = f.noted;
    } in (
      record {
        holders = r.holders;
        lists = l;
        words = loaded (last_of l.asked) (last_of l.answered) s.words 0 (omega arith) r.words;
        in_order = r.in_order;
        views = fit_set r.holders l s.views id w mine (λ j u apart e. r.views j u e);
      },
      λ e. let above : turn_of (last_of v.clerk.taken) < turn_of n = lt_of _ _ (is ∙ e) in subst IsAskWord (sym n_is) (All-last_of IsAskWord l.asked o.asks_spelled (omega arith)),
      taken_last l.asked v.clerk.taken n b o.turns n_is asked (f.looks_ahead may).2 is,
    )
  where
    taken_last : (asked taken : List ℕ) (n : ℕ) (b : Bool) → CountTurns 1 asked → n ≡ last_of asked → turn_of n ≡ length asked → IsAhead asked taken → nat_lt (turn_of (last_of taken)) (turn_of n) ≡ b
        → n ≡ last_of (if b then taken ++ n ∷ [] else taken)
    taken_last asked taken n true turns n_is turn h is = sym (last_of-push taken n)
    taken_last [] [] n false turns n_is turn h is = n_is
    taken_last (x ∷ asked) [] n false turns n_is turn h is = let below : turn_of n ≤ 0 = le_of _ _ is in absurd (omega arith)
    taken_last asked (x ∷ taken) n false turns n_is turn h is =
        let there = All-last_of (Contains asked) (x ∷ taken) h.asked_all (omega arith) in
        let below : turn_of n ≤ turn_of (last_of (x ∷ taken)) = le_of _ _ is in
        let at_most = turn_at_most asked (last_of (x ∷ taken)) turns there in
        n_is ∙ sym (turn_is_last asked (last_of (x ∷ taken)) turns there (omega arith))

    taken_more : (asked taken : List ℕ) (n : ℕ) (b : Bool) → n ≡ last_of asked → turn_of n ≡ length asked → IsAhead asked taken → nat_lt (turn_of (last_of taken)) (turn_of n) ≡ b
        → IsAhead asked (if b then taken ++ n ∷ [] else taken)
    taken_more asked taken n false n_is turn h is = h
    taken_more asked taken n true n_is turn h is =
        let above : turn_of (last_of taken) < turn_of n = lt_of _ _ is in
        subst (λ z. IsAhead asked (taken ++ z ∷ [])) (sym n_is) (IsAhead-take asked taken (omega arith) h (subst (λ z. turn_of (last_of taken) < turn_of z) n_is above))

pub looks_ahead_keep : (slots id : ℕ) (me : M) → me.0.looks_ahead ≡ true → me.0.answers ≡ false
    → Allows AreLastWords slots id me 0 (λ n. n) (LookedAhead (step slots 0 0 0 none) me)
looks_ahead_keep slots id me may none' s r _ at _ =
    let n : ℕ = get_or s.words 0 0 in
    let so = ahead_so s r id me.0 may none' at (nat_lt (turn_of (last_of me.0.clerk.taken)) (turn_of n)) refl in
    let l = r.lists in
    let told = (r.views id me.0 at).told_asks in
    let n_is : n ≡ last_of l.asked = ap (λ z. get_or z 0 0) r.words in
    let turn_is : turn_of n ≡ length l.asked = ap turn_of n_is ∙ (counts l r.in_order).asked in
    let begun : length me.0.clerk.told ≤ length l.asked = prefix_length me.0.clerk.told l.asked told in (
      at_clerk me.0 (with_taking me.0.clerk n),
      keeps,
      tt,
      so.0,
      (refl, refl, so.1, omega arith, (λ same. n_is ∙ ap last_of (sym (prefix_whole me.0.clerk.told l.asked told (omega arith)))), so.2),
    )

pub lt_true : (m n : ℕ) → m < n → nat_lt m n ≡ true
lt_true m n h = grind (arith, nat_tests)

pub taken_more : (v : ClerkView) (word : ℕ) → is_new_word v word ≡ true → (with_taking v word).taken ≡ v.taken ++ word ∷ []
taken_more v word e = ap (λ (b : Bool). if b then v.taken ++ word ∷ [] else v.taken) e

pub owes_one : (b : Bool) (taken answered : ℕ) → (b ≡ true → taken ≡ suc answered) → (b ≡ false → taken ≡ answered) → answered < taken → taken ≡ suc answered
owes_one true taken answered one even h = one refl
owes_one false taken answered one even h = let e = even refl in absurd (omega arith)
