-- The rule's lists are the words of asks and replies.
use Rattle.std.proofs.Common.{◌≡◌, ◌≢◌, true≢false, ℕ, zero, suc, ◌+◌, ◌*◌, ◌%◌, ◌^◌, ◌<◌, ◌≤◌, List, [], ◌∷◌, ◌++◌, map, length, Some, None, Option, refl, sym, ap, ◌∙◌, subst, arith, append_assoc}
use Rattle.std.specs.Prelude.{All, IsSome, IfSome}
use mathlib.Core.List.{IsPrefix, map-append}
use Rattle.lift_base.specs.declared.command.Reply.{Reply}
use Rattle.lift_base.specs.declared.command.Reply.TheVariants.{Car, Stopped, Placed, Refused, Unknown}
use Rattle.lift_desk.specs.declared.words.Ask.{Ask}
use Rattle.lift_desk.specs.Words.{turn_of, number_of, body_bits, reply_bits, ask_word, reply_word, IsReply, IsAskWord, IsReplyWord}
use Rattle.lift_desk.specs.Rule.{stamp_of, CountTurns, Lists, IsInOrder}
use Rattle.lift_desk.specs.Spelled.{ask_words, reply_words, IsAsk, AreWordsOf}
use Rattle.lift_desk.specs.lemmas.ReadBack.{body_small, next_small, reason_small}

reply_small : (reply : Reply) → IsReply reply → reply_bits reply < 2 ^ 20
reply_small (Car car) h = omega arith
reply_small (Stopped next) h = let s = next_small next h in omega arith
reply_small (Placed next) h = let s = next_small next h in omega arith
reply_small (Refused reason) h = let s = reason_small reason in omega arith
reply_small Unknown h = omega arith

-- the fields of a word
pub turn_there : (turn number bits : ℕ) → number < 2 ^ 24 → bits < 2 ^ 20 → turn_of (turn * 2 ^ 44 + number * 2 ^ 20 + bits) ≡ turn
turn_there turn number bits n b = omega arith

pub number_there : (turn number bits : ℕ) → number < 2 ^ 24 → bits < 2 ^ 20 → number_of (turn * 2 ^ 44 + number * 2 ^ 20 + bits) ≡ number
number_there turn number bits n b = omega arith

-- what the fields below the number spell makes the word an answer
pub reply_spelled : (word : ℕ) (read : Option Reply) → word < 2 ^ 64 → turn_of word ≢ 0 → IfSome read (λ reply. (word % 2 ^ 20 ≡ reply_bits reply) × IsReply reply) → IsSome read → IsReplyWord word
reply_spelled word None fits turned spelled some = absurd (true≢false (sym some))
reply_spelled word (Some reply) fits turned spelled some = record {
  turn = turn_of word;
  number = number_of word;
  reply = reply;
  fits = record { first = omega arith; last = omega arith; number_range = omega arith };
  in_range = spelled.1;
  spelled = let e = spelled.0 in omega arith;
}

pub reply_read : (word : ℕ) (read : Option Reply) → ((reply : Reply) → IsReply reply → word % 2 ^ 20 ≡ reply_bits reply → read ≡ Some reply) → IsReplyWord word → IsSome read
reply_read word read known h =
    let small = reply_small h.reply h.in_range in
    let whole = h.spelled in
    subst IsSome (sym (known h.reply h.in_range (omega arith))) refl

all_cons : {A : Type 0} (P : A → Type 0) (x : A) (xs : List A) → P x → All P xs → All P (x ∷ xs)
all_cons P x xs h all zero d below = h
all_cons P x xs h all (suc i) d below = all i d (omega arith)

asks_of : (k : ℕ) (words : List ℕ) → CountTurns k words → All IsAskWord words → (asks : List Ask) × (words ≡ ask_words k asks) × All IsAsk asks
asks_of k [] turns all = ([], refl, λ i d below. absurd (omega arith))
asks_of k (w ∷ words) turns all =
    let h = all 0 0 (omega arith) in
    let rest = asks_of (suc k) words turns.1 (λ i d below. all (suc i) d (omega arith)) in
    let turn : h.turn ≡ k = sym (turn_there h.turn h.number (body_bits h.body) h.fits.number_range (body_small h.body h.in_range)) ∙ ap turn_of (sym h.spelled) ∙ turns.0 in
    let word : w ≡ ask_word k h.number h.body = h.spelled ∙ ap (λ t. ask_word t h.number h.body) turn in
    let same = rest.1 in
    let ask : Ask = record { number = h.number; body = h.body } in
    (ask ∷ rest.0, (λ i. word i ∷ same i), all_cons IsAsk ask rest.0 (h.fits.number_range, h.in_range) rest.2)

replies_of : (k : ℕ) (answers asked : List ℕ) (asks : List Ask) → asked ≡ ask_words k asks → All IsAsk asks → IsPrefix (map stamp_of answers) (map stamp_of asked) → CountTurns k asked → All IsReplyWord answers
    → (replies : List Reply) × (answers ≡ reply_words k asks replies) × (length replies ≤ length asks)
replies_of k [] asked asks is fit p turns all = ([], refl, omega arith)
replies_of k (a ∷ answers) [] asks is fit p turns all = absurd (let e = p.1 in cc)
replies_of k (a ∷ answers) (w ∷ asked) [] is fit p turns all = absurd (cc)
replies_of k (a ∷ answers) (w ∷ asked) (ask ∷ asks) is fit p turns all =
    let e = p.1 in
    let head : stamp_of a ≡ stamp_of w = cc in
    let tail : map stamp_of answers ++ p.0 ≡ map stamp_of asked = cc in
    let first : w ≡ ask_word k ask.number ask.body = cc in
    let others : asked ≡ ask_words (suc k) asks = cc in
    let rest = replies_of (suc k) answers asked asks others (λ i d below. fit (suc i) d (omega arith)) (p.0, tail) turns.1 (λ i d below. all (suc i) d (omega arith)) in
    let mine = fit 0 ask (omega arith) in
    let h = all 0 0 (omega arith) in
    let turn : h.turn ≡ k = sym (turn_there h.turn h.number (reply_bits h.reply) h.fits.number_range (reply_small h.reply h.in_range)) ∙ ap turn_of (sym h.spelled) ∙ ap (λ (s : ℕ × ℕ). s.0) head ∙ turns.0 in
    let number : h.number ≡ number_of w = sym (number_there h.turn h.number (reply_bits h.reply) h.fits.number_range (reply_small h.reply h.in_range)) ∙ ap number_of (sym h.spelled) ∙ ap (λ (s : ℕ × ℕ). s.1) head in
    let asked_number : number_of w ≡ ask.number = ap number_of first ∙ number_there k ask.number (body_bits ask.body) mine.0 (body_small ask.body mine.1) in
    let word : a ≡ reply_word k ask.number h.reply = h.spelled ∙ ap (λ t. reply_word t h.number h.reply) turn ∙ ap (λ n. reply_word k n h.reply) (number ∙ asked_number) in
    let same = rest.1 in
    let fewer = rest.2 in
    (h.reply ∷ rest.0, (λ i. word i ∷ same i), omega arith)

pub reads : (l : Lists) → IsInOrder l → (asks : List Ask) × (replies : List Reply) × AreWordsOf l asks replies
reads l o =
    let a = asks_of 1 l.asked o.turns o.asks_spelled in
    let rest = o.taken.0 in
    let stamps : IsPrefix (map stamp_of l.answered) (map stamp_of l.asked) = (
      o.answered.0 ++ map stamp_of rest,
      sym (append_assoc (map stamp_of l.answered) o.answered.0 (map stamp_of rest)) ∙ ap (λ z. z ++ map stamp_of rest) o.answered.1 ∙ sym (map-append stamp_of l.taken rest) ∙ ap (map stamp_of) o.taken.1,
    ) in
    let r = replies_of 1 l.answered l.asked a.0 a.1 a.2 stamps o.turns o.answers_spelled in
    (a.0, r.0, record { asked = a.1; answered = r.1; fewer = r.2; in_range = a.2 })
