-- The words of asks and of answers.
use Rattle.lift_clerk.specs.TakenAndAnswered.{answer_words}
use Rattle.std.proofs.Common.{ℕ, suc, ◌≡◌, ◌+◌, List, [], ◌∷◌, ◌++◌, length, refl, sym, ap}
use Rattle.std.proofs.Common.{◌∙◌, arith}
use Rattle.std.specs.Prelude.{All}
use Rattle.lift_desk.specs.declared.words.Ask.{Ask}
use Rattle.lift_desk.specs.Words.{ask_word, reply_word, ask_of as word_ask}
use Rattle.lift_desk.specs.Spelled.{ask_words, IsAsk}
use Rattle.lift_desk.specs.lemmas.ReadBack.{ask_back}
use Rattle.lift_world.specs.declared.event.Answer.{Answer}

-- one of some has what all have
pub last_has : {A : Type 0} (P : A → Type 0) (xs : List A) (a : A) (ys : List A)
    → All P (xs ++ a ∷ ys) → P a
last_has P [] a ys h = h 0 a (omega arith)
last_has P (x ∷ xs) a ys h = last_has P xs a ys (λ k d below. h (suc k) d (omega arith))

-- a word spells one ask
pub one_ask : (turn other : ℕ) (a b : Ask) → IsAsk a → IsAsk b
    → ask_word turn a.number a.body ≡ ask_word other b.number b.body
    → (a.number ≡ b.number) × (a.body ≡ b.body)
one_ask turn other a b h k e =
    let same = sym (ask_back turn a.number a.body h.0 h.1) ∙ ap word_ask e
    ∙ ask_back other b.number b.body k.0 k.1 in
    (ap (λ (x : Ask). x.number) same, ap (λ (x : Ask). x.body) same)

pub asks_both : (n : ℕ) (xs ys : List Ask)
    → ask_words n (xs ++ ys) ≡ ask_words n xs ++ ask_words (n + length xs) ys
asks_both n [] ys = ap (λ (k : ℕ). ask_words k ys) (omega arith)
asks_both n (x ∷ xs) ys =
    ap (λ (words : List ℕ). ask_word n x.number x.body ∷ words)
    (asks_both (suc n) xs ys ∙ ap (λ (k : ℕ). ask_words (suc n) xs ++ ask_words k ys) (omega arith))

pub asks_count : (n : ℕ) (xs : List Ask) → length (ask_words n xs) ≡ length xs
asks_count n [] = refl
asks_count n (x ∷ xs) = ap suc (asks_count (suc n) xs)

pub answers_both : (n : ℕ) (xs ys : List Answer)
    → answer_words n (xs ++ ys) ≡ answer_words n xs ++ answer_words (n + length xs) ys
answers_both n [] ys = ap (λ (k : ℕ). answer_words k ys) (omega arith)
answers_both n (x ∷ xs) ys =
    ap (λ (words : List ℕ). reply_word n x.number x.reply ∷ words)
    (answers_both (suc n) xs ys ∙ ap (λ (k : ℕ).
    answer_words (suc n) xs ++ answer_words k ys) (omega arith))

pub answers_long : (n : ℕ) (xs : List Answer) → length (answer_words n xs) ≡ length xs
answers_long n [] = refl
answers_long n (x ∷ xs) = ap suc (answers_long (suc n) xs)
