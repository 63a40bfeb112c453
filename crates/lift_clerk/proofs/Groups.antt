-- What terminals ask and hear is what the machine's terminals do.
use Rattle.lift_clerk.specs.TakenAndAnswered.{answer_words, ask_of}
use Rattle.std.proofs.Common.{◌≡◌, ◌≢◌, ℕ, suc, ◌+◌, ◌<◌, ◌≤◌, Bool, true, false, not, cond, eqb}
use Rattle.std.proofs.Common.{List, [], ◌∷◌, ◌++◌, map, length, Some, None, refl, sym, ap, ◌∙◌}
use Rattle.std.proofs.Common.{subst, arith, append_assoc}
use Rattle.std.specs.Prelude.{All, filter, count_by, slice_get, option_map, ◌&&◌, ◌==◌}
use Rattle.std.proofs.lemmas.Bool.{ne_eqb, eq-eqb, eqb-true, false≢true}
use Rattle.std.proofs.lemmas.List.{length-append, length-map, append_cancel_left, append-nil}
use Rattle.std.proofs.lemmas.List.Elements.{filter-append, filter_passes, All-append, All-cons}
use Rattle.std.proofs.lemmas.List.Elements.{All-nil}
use Rattle.std.proofs.lemmas.List.Sums.{length-filter}
use mathlib.Core.List.{map-append}
use Rattle.lift_base.specs.declared.command.Reply.{Reply}
use Rattle.lift_desk.specs.declared.view.TerminalView.{TerminalView}
use Rattle.lift_desk.specs.declared.words.Ask.{Ask}
use Rattle.lift_desk.specs.Words.{ask_word, reply_word}
use Rattle.lift_desk.specs.Spelled.{ask_words, IsAsk}
use Rattle.lift_desk.specs.Steps.{is_awaited, with_hearing}
use Rattle.lift_desk.specs.Seats.{view_at}
use Rattle.lift_policy.specs.declared.command.Command.{Command}
use Rattle.lift_world.specs.declared.event.Answer.{Answer}
use Rattle.lift_world.specs.declared.event.Event.TheVariants.{Ask as Asking, Hear}
use Rattle.lift_world.specs.Decided.{when}
use Rattle.lift_world.specs.World.{World, asks, is_answer_to, is_off, safe_list}
use Rattle.lift_world.specs.Next.{next, goes, may_ask, asking, hearing, next_answer}
use Rattle.lift_clerk.specs.Steps.{GroupState}
use Rattle.lift_clerk.specs.Laws.{Laws}
use Rattle.lift_clerk.specs.Group.{Terminals, ShowsTerminal, IsGroup, ChangesAt, TerminalAsks, TerminalHears, HearsAnswers}
use Rattle.lift_clerk.specs.Group.{ToldAnswersAreHeard, IsRead, HeardNothing, Met, ToldAnswers}
use Rattle.lift_clerk.specs.lemmas.Tied.{hears, one_by_one, is_queued}
use Rattle.lift_world.specs.lemmas.Goes.{one}
use Rattle.lift_clerk.specs.lemmas.Words.{last_has, asks_both, asks_count, answers_both, answers_long}
use Rattle.lift_clerk.specs.lemmas.Between.{terminals_keep}

at_least : (a b : ℕ) → ¬ (a < b) → b ≤ a
at_least a b h = omega arith

-- one that passes, or doesn't
one_passes : {A : Type 0} (p : A → Bool) (x : A) → p x ≡ true → filter p (x ∷ []) ≡ x ∷ []
one_passes p x e = ap (λ (b : Bool). cond b (x ∷ []) []) e

none_passes : {A : Type 0} (p : A → Bool) (x : A) → p x ≡ false → filter p (x ∷ []) ≡ []
none_passes p x e = ap (λ (b : Bool). cond b (x ∷ []) []) e

-- the last of what passes at a seam
at_seam : {A : Type 0} (xs ys : List A) (y : A) → slice_get (xs ++ y ∷ ys) (length xs) ≡ Some y
at_seam [] ys y = refl
at_seam (x ∷ xs) ys y = at_seam xs ys y

pub cons-head : (x y : ℕ) (xs ys : List ℕ) → x ∷ xs ≡ y ∷ ys → x ≡ y
cons-head x y xs ys e = cc

-- how many words a terminal has
module _ (w : World) (t : ℕ) (view : TerminalView) (s : ShowsTerminal w t view) where
  pub many_asked : length view.asked ≡ count_by (asks t) w.asked
  many_asked =
      ap length s.asked ∙ asks_count 1 (map ask_of (filter (asks t) w.asked)) ∙ length-map
      (filter (asks t) w.asked) ask_of ∙ length-filter (asks t) w.asked

  pub many_heard : length view.heard ≡ count_by (is_answer_to t) w.heard
  many_heard = ap length s.heard ∙ answers_long 1 (filter (is_answer_to t) w.heard) ∙ length-filter
      (is_answer_to t) w.heard

-- the words of another terminal, or of one whose words stay
pub same_terminal : (w end : World) (t : ℕ) (old new : TerminalView)
    → filter (asks t) end.asked ≡ filter (asks t) w.asked
    → filter (is_answer_to t) end.heard ≡ filter (is_answer_to t) w.heard
    → new.asked ≡ old.asked → new.heard ≡ old.heard → ShowsTerminal w t old
    → ShowsTerminal end t new
same_terminal w end t old new a h na nh s = record {
  asked = na ∙ s.asked ∙ ap (λ (cs : List Command). ask_words 1 (map ask_of cs)) (sym a);
  heard = nh ∙ s.heard ∙ ap (answer_words 1) (sym h);
  in_range = subst (λ (cs : List Command). All IsAsk (map ask_of cs)) (sym a) s.in_range;
}

module _ {D : Type 0} (laws : Laws) (w : World) (clerk : GroupState D) (before after : Terminals)
    (t : ℕ) (g : IsGroup w clerk before) where
  on : is_off w.power ≡ false
  on = (is_queued g.machine).on

  order : (rest : List Answer)
      × (filter (is_answer_to t) w.heard ++ rest ≡ filter (is_answer_to t) w.answered)
  order = hears laws w g.machine.reached t

  module _ (ask : Ask) (a : TerminalAsks before after t ask) where
    abbrev command : Command
    command = record { terminal = t; number = ask.number; body = ask.body }

    heard_all : count_by (asks t) w.asked ≡ count_by (is_answer_to t) w.heard
    heard_all =
        let s = g.theirs t in
        let one = (one_by_one laws w g.machine.reached t).answered in
        let na = many_asked w t (before t) s in
        let nh = many_heard w t (before t) s in
        let le = at_least (length (before t).heard) (length (before t).asked) a.heard_all in
        omega (
          arith,
          length-append (filter (is_answer_to t) w.heard) order.0,
          ap length order.1,
          length-filter (is_answer_to t) w.heard,
          length-filter (is_answer_to t) w.answered,
        )

    may : may_ask w t ≡ true
    may =
        ap (λ (b : Bool). not b && (count_by (asks t) w.asked == count_by (is_answer_to t) w.heard))
        on
        ∙ eq-eqb (count_by (asks t) w.asked) (count_by (is_answer_to t) w.heard) heard_all

    abbrev asked_then : World
    asked_then = asking w command

    possible : next w (Asking t ask.number ask.body) ≡ Some asked_then
    possible = ap (λ (b : Bool). when b asked_then) may

    own_asked : ShowsTerminal asked_then t (after t)
    own_asked =
        let s = g.theirs t in
        let old : List Command = filter (asks t) w.asked in
        let now : filter (asks t) (w.asked ++ command ∷ []) ≡ old ++ command ∷ [] =
        filter-append (asks t) w.asked (command ∷ []) ∙ ap (λ (cs : List Command).
        old ++ cs) (one_passes (asks t) command (eq-eqb t t refl)) in
        let both : map ask_of (filter (asks t) (w.asked ++ command ∷ []))
        ≡ map ask_of old ++ ask ∷ [] =
        ap (map ask_of) now ∙ map-append ask_of old (command ∷ []) in
        let count : suc (length (before t).asked) ≡ 1 + length (map ask_of old) =
        omega (arith, ap length s.asked, asks_count 1 (map ask_of old)) in
        record {
          asked = ap (λ (v : TerminalView). v.asked) a.stored.here
              ∙ ap (λ (words : List ℕ).
              words ++ ask_word (suc (length (before t).asked)) ask.number ask.body ∷ []) s.asked
              ∙ ap (λ (n : ℕ). ask_words 1 (map ask_of old) ++ ask_word n ask.number ask.body
              ∷ []) count
              ∙ sym (asks_both 1 (map ask_of old) (ask ∷ [])) ∙ ap (ask_words 1) (sym both);
          heard = ap (λ (v : TerminalView). v.heard) a.stored.here ∙ s.heard;
          in_range = subst (All IsAsk) (sym both)
              (All-append IsAsk (map ask_of old) (ask ∷ []) s.in_range
              (All-cons IsAsk ask [] a.in_range (All-nil IsAsk)));
        }

    other_asked : (u : ℕ) → u ≢ t → ShowsTerminal asked_then u (after u)
    other_asked u apart =
        let isnt : eqb t u ≡ false = ne_eqb t u (λ e. apart (sym e)) in
        let e = a.stored.others u apart in
        let same : filter (asks u) (w.asked ++ command ∷ []) ≡ filter (asks u) w.asked =
        filter-append (asks u) w.asked (command ∷ []) ∙ ap (λ (cs : List Command).
        filter (asks u) w.asked ++ cs) (none_passes (asks u) command isnt) ∙ append-nil
        (filter (asks u) w.asked) in
        same_terminal w asked_then u (before u) (after u) same refl (ap (λ (v : TerminalView).
        v.asked) e) (ap (λ (v : TerminalView). v.heard) e) (g.theirs u)

    each_asked : (u : ℕ) (b : Bool) → eqb u t ≡ b → ShowsTerminal asked_then u (after u)
    each_asked u true e = subst (λ (n : ℕ).
        ShowsTerminal asked_then n (after n)) (sym (eqb-true u t e)) own_asked
    each_asked u false e = other_asked u (λ q. absurd (false≢true (sym e ∙ eq-eqb u t q)))

    pub asks_is_ask : (end : World) × (goes (Asking t ask.number ask.body ∷ []) w ≡ Some end)
        × IsGroup end clerk after × (safe_list end ≡ safe_list w) × (end.given ≡ w.given)
        × (end.base ≡ w.base)
    asks_is_ask = (
      asked_then,
      one (Asking t ask.number ask.body) [] w asked_then possible,
      record {
        machine = terminals_keep laws w asked_then
            (Asking t ask.number ask.body) refl possible g.machine;
        theirs = λ u.
            each_asked u (eqb u t) refl;
      },
      refl,
      refl,
      refl,
    )

  module _ (word : ℕ) (reply : Reply) (h : TerminalHears before after t word (Some reply))
      (front : HearsAnswers clerk after t) where
    abbrev old : List Answer
    old = filter (is_answer_to t) w.heard

    now_heard : (after t).heard ≡ answer_words 1 old ++ word ∷ []
    now_heard =
        ap (λ (v : TerminalView). v.heard) h.looked.here
        ∙ ap (λ (b : Bool). cond b ((before t).heard ++ word ∷ []) (before t).heard) h.hears.0
        ∙ ap (λ (words : List ℕ). words ++ word ∷ []) (g.theirs t).heard

    -- the answers that wait begin with this word
    waits : word ∷ front.0 ≡ answer_words (1 + length old) order.0
    waits =
        append_cancel_left (answer_words 1 old) (word ∷ front.0)
        (answer_words (1 + length old) order.0)
        (sym (append_assoc (answer_words 1 old) (word ∷ []) front.0) ∙ ap (λ (words : List ℕ).
        words ++ front.0) (sym now_heard) ∙ front.1
        ∙ (g.machine.words t).answered ∙ ap (answer_words 1)
        (sym order.1) ∙ answers_both 1 old order.0)

    module _ (answer : Answer) (rest : List Answer) (is : order.0 ≡ answer ∷ rest) where
      abbrev heard_then : World
      heard_then = hearing w answer

      answered : filter (is_answer_to t) w.answered ≡ old ++ answer ∷ rest
      answered = sym order.1 ∙ ap (λ (xs : List Answer). old ++ xs) is

      own_answer : is_answer_to t answer ≡ true
      own_answer = last_has (λ (x : Answer).
          is_answer_to t x ≡ true) old answer rest
          (subst (All (λ (x : Answer). is_answer_to t x ≡ true)) answered
          (filter_passes (is_answer_to t) w.answered))

      next_is : next_answer w t ≡ Some answer
      next_is =
          ap (λ (xs : List Answer). slice_get xs (count_by (is_answer_to t) w.heard)) answered
          ∙ ap (λ (n : ℕ). slice_get (old ++ answer ∷ rest) n)
          (sym (length-filter (is_answer_to t) w.heard)) ∙ at_seam old rest answer

      can_hear : next w (Hear t) ≡ Some heard_then
      can_hear = ap (λ (b : Bool).
          cond (not b) (option_map (hearing w) (next_answer w t)) None) on ∙ ap
          (option_map (hearing w)) next_is

      word_is : word ≡ reply_word (1 + length old) answer.number answer.reply
      word_is = cons-head word (reply_word (1 + length old) answer.number answer.reply) front.0
          (answer_words (suc (1 + length old)) rest) (waits ∙ ap (answer_words (1 + length old)) is)

      own_heard : ShowsTerminal heard_then t (after t)
      own_heard =
          let s = g.theirs t in
          let now : filter (is_answer_to t) (w.heard ++ answer ∷ []) ≡ old ++ answer ∷ [] =
          filter-append (is_answer_to t) w.heard (answer ∷ []) ∙ ap (λ (xs : List Answer).
          old ++ xs) (one_passes (is_answer_to t) answer own_answer) in
          record {
            asked = ap (λ (v : TerminalView). v.asked) h.looked.here ∙ s.asked;
            heard = now_heard ∙ ap (λ (x : ℕ).
                answer_words 1 old ++ x ∷ []) word_is ∙ sym (answers_both 1 old (answer ∷ [])) ∙ ap
                (answer_words 1) (sym now);
            in_range = s.in_range;
          }

      other_heard : (u : ℕ) → u ≢ t → ShowsTerminal heard_then u (after u)
      other_heard u apart =
          let isnt : is_answer_to u answer ≡ false =
          ne_eqb answer.terminal u (λ e.
          apart (sym e ∙ eqb-true answer.terminal t own_answer)) in
          let e = h.looked.others u apart in
          let same : filter (is_answer_to u) (w.heard ++ answer ∷ [])
          ≡ filter (is_answer_to u) w.heard =
          filter-append (is_answer_to u) w.heard (answer ∷ []) ∙ ap (λ (xs : List Answer).
          filter (is_answer_to u) w.heard ++ xs) (none_passes (is_answer_to u) answer isnt)
          ∙ append-nil (filter (is_answer_to u) w.heard) in
          same_terminal w heard_then u (before u) (after u) refl same (ap (λ (v : TerminalView).
          v.asked) e) (ap (λ (v : TerminalView). v.heard) e) (g.theirs u)

      each_heard : (u : ℕ) (b : Bool) → eqb u t ≡ b → ShowsTerminal heard_then u (after u)
      each_heard u true e = subst (λ (n : ℕ).
          ShowsTerminal heard_then n (after n)) (sym (eqb-true u t e)) own_heard
      each_heard u false e = other_heard u (λ q. absurd (false≢true (sym e ∙ eq-eqb u t q)))

      hears_this : (end : World) × (goes (Hear t ∷ []) w ≡ Some end) × IsGroup end clerk after
          × (safe_list end ≡ safe_list w) × (end.given ≡ w.given) × (end.base ≡ w.base)
      hears_this = (
        heard_then,
        one (Hear t) [] w heard_then can_hear,
        record {
          machine = terminals_keep laws w heard_then (Hear t) refl can_hear g.machine;
          theirs = λ u. each_heard u (eqb u t) refl;
        },
        refl,
        refl,
        refl,
      )

    by_rest : (rest : List Answer) → order.0 ≡ rest
        → (end : World) × (goes (Hear t ∷ []) w ≡ Some end) × IsGroup end clerk after
        × (safe_list end ≡ safe_list w) × (end.given ≡ w.given) × (end.base ≡ w.base)
    by_rest [] e = let wrong : word ∷ front.0 ≡ [] = waits ∙ ap (answer_words (1 + length old)) e in
        cc
    by_rest (answer ∷ rest) e = hears_this answer rest e

    pub hears_is_hear : (end : World) × (goes (Hear t ∷ []) w ≡ Some end) × IsGroup end clerk after
        × (safe_list end ≡ safe_list w) × (end.given ≡ w.given) × (end.base ≡ w.base)
    hears_is_hear = by_rest order.0 refl

-- where only these lists matter
reads_same : (before view : TerminalView) → IsRead before view
    → (view.asked ≡ before.asked) × (view.heard ≡ before.heard)
reads_same before view (HeardNothing word h) =
    (refl, ap (λ (b : Bool). cond b (before.heard ++ word ∷ []) before.heard) h)
reads_same before view (Met word) = (refl, refl)
reads_same before view (ToldAnswers words) = (refl, refl)

pub reads_are_no_events : {D : Type 0} → (w : World) (clerk : GroupState D)
    (before after : Terminals) (t : ℕ) (view : TerminalView) → IsGroup w clerk before
    → ChangesAt before after t view → IsRead (before t) view → IsGroup w clerk after
reads_are_no_events w clerk before after t view g c r =
    let same = reads_same (before t) view r in
    let own : ShowsTerminal w t (after t) =
    same_terminal w w t (before t) (after t) refl refl (ap (λ (v : TerminalView).
    v.asked) c.here ∙ same.0) (ap (λ (v : TerminalView). v.heard) c.here ∙ same.1)
    (g.theirs t) in
    record { machine = g.machine; theirs = λ u. each own u (eqb u t) refl }
  where
    each : ShowsTerminal w t (after t) → (u : ℕ) (b : Bool) → eqb u t ≡ b
        → ShowsTerminal w u (after u)
    each own u true e = subst (λ (n : ℕ). ShowsTerminal w n (after n)) (sym (eqb-true u t e)) own
    each own u false e =
        let same = c.others u (λ q. absurd (false≢true (sym e ∙ eq-eqb u t q))) in
        same_terminal w w u (before u) (after u) refl refl (ap (λ (v : TerminalView). v.asked) same)
        (ap (λ (v : TerminalView). v.heard) same) (g.theirs u)

-- a list that begins another with one element at most after a shorter one is all of that
whole_front : {A : Type 0} (xs ys rest : List A) → xs ++ rest ≡ ys → length ys ≤ length xs → xs ≡ ys
whole_front xs ys [] e few = sym (append-nil xs) ∙ e
whole_front xs ys (x ∷ rest) e few =
    absurd (omega (arith, length-append xs (x ∷ rest), ap length e))

hears_one : (before : TerminalView) (word : ℕ) (b : Bool) → is_awaited before word ≡ b
    → length (with_hearing before word).heard ≤ suc (length before.heard)
hears_one before word true e =
    omega (
      arith,
      ap (λ (c : Bool).
          length (cond c (before.heard ++ word ∷ []) before.heard)) e,
      length-append before.heard
          (word ∷ []),
    )
hears_one before word false e =
    omega (arith, ap (λ (c : Bool). length (cond c (before.heard ++ word ∷ []) before.heard)) e)

pub told_answers_are_heard : {D : Type 0} → ToldAnswersAreHeard D
told_answers_are_heard clerk before after t word result h told some front =
    let answered = (view_at clerk.seat t).answered in
    let heard : (after t).heard ≡ (with_hearing (before t) word).heard =
    ap (λ (v : TerminalView). v.heard) h.looked.here in
    let one = hears_one (before t) word (is_awaited (before t) word) refl in
    let is : (before t).told ≡ (after t).heard =
    whole_front (before t).told (after t).heard front.0 front.1
    (omega (arith, some, ap length heard, ap length told, one)) in
    ([], append-nil (after t).heard ∙ sym is ∙ told)
