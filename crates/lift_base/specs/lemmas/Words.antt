-- A line has one reading as words.
use Rattle.std.proofs.Common.{◌≡◌, ◌≢◌, ℕ, suc, ◌^◌, ◌≤◌, ◌<◌, ◌+◌, true, false, List, [], ◌∷◌}
use Rattle.std.proofs.Common.{◌++◌, All, Some, length, get_or, slice_get, take, drop, Bor, refl}
use Rattle.std.proofs.Common.{sym, ap, ◌∙◌, arith, map}
use Rattle.std.proofs.lemmas.List.{length-map, map-append, take-append-drop, at_drop_more}
use Rattle.std.proofs.lemmas.Option.{slice_get_within, get_or_from_slice_get}
use Rattle.std.specs.Fmt.{decimal}
use Rattle.std.specs.List.{AllByRecursion}
use Rattle.std.specs.Str.{bytes_eq}
use Rattle.std.proofs.lemmas.Slice.Eq.{bytes_eq-Decides}
use Rattle.lift_base.specs.Text.{HasNoSpace, spaced, AreWords}
use Rattle.lift_base.specs.lemmas.Numbers.{digits_only}

-- a text is cut at a byte of it
pub cut_at : (text : List ℕ) (place byte : ℕ) → slice_get text place ≡ Some byte
    → text ≡ take place text ++ byte ∷ drop (place + 1) text
cut_at text place byte here =
    let read : get_or text place 0 ≡ byte = get_or_from_slice_get text place byte 0 here in
    sym (take-append-drop place text) ∙ at_drop_more (λ behind.
    take place text ++ behind) text place 0 (slice_get_within text place byte here)
    ∙ ap (λ b. take place text ++ b ∷ drop (place + 1) text) read

-- two texts that go to the first space alike are alike after it
pub first_space : (xs ys a b : List ℕ) → HasNoSpace xs → HasNoSpace ys
    → xs ++ (32 ∷ a) ≡ ys ++ (32 ∷ b) → (xs ≡ ys) × (a ≡ b)
first_space [] [] a b p q e = (refl, cc)
first_space [] (y ∷ ys) a b p q e = absurd (let bad : y ≡ 32 = cc in q.0 bad)
first_space (x ∷ xs) [] a b p q e = absurd (let bad : x ≡ 32 = cc in p.0 bad)
first_space (x ∷ xs) (y ∷ ys) a b p q e =
    let rest : xs ++ (32 ∷ a) ≡ ys ++ (32 ∷ b) = cc in
    let heads : x ≡ y = cc in
    let more = first_space xs ys a b p.1 q.1 rest in
    (let tails = more.0 in cc, more.1)

-- a text with a space is no word
pub no_word : (xs ys a : List ℕ) → HasNoSpace ys → xs ++ (32 ∷ a) ≢ ys
no_word [] [] a q e = cc
no_word [] (y ∷ ys) a q e = let bad : y ≡ 32 = cc in q.0 bad
no_word (x ∷ xs) [] a q e = cc
no_word (x ∷ xs) (y ∷ ys) a q e = let rest : xs ++ (32 ∷ a) ≡ ys = cc in no_word xs ys a q.1 rest

pub spaced-cons : (word : List ℕ) (words : List (List ℕ)) → 0 < length words
    → spaced (word ∷ words) ≡ word ++ (32 ∷ spaced words)
spaced-cons word [] some = absurd (omega arith)
spaced-cons word (other ∷ words) some = refl

some_pushed : (words : List (List ℕ)) (rest : List ℕ) → 0 < length (words ++ rest ∷ [])
some_pushed [] rest = omega arith
some_pushed (word ∷ words) rest = omega arith

-- the last word is cut at its first space
pub spaced-cut : (words : List (List ℕ)) (word rest : List ℕ)
    → spaced (words ++ (word ++ (32 ∷ rest)) ∷ []) ≡ spaced ((words ++ word ∷ []) ++ rest ∷ [])
spaced-cut [] word rest = refl
spaced-cut (first ∷ words) word rest =
    spaced-cons first (words ++ (word ++ (32 ∷ rest)) ∷ [])
    (some_pushed words (word ++ (32 ∷ rest)))
    ∙ ap (λ t. first ++ (32 ∷ t)) (spaced-cut words word rest)
    ∙ sym (spaced-cons first ((words ++ word ∷ []) ++ rest ∷ [])
    (some_pushed (words ++ word ∷ []) rest))

pub apart-push : (words : List (List ℕ)) (word : List ℕ) → AllByRecursion HasNoSpace words
    → HasNoSpace word → AllByRecursion HasNoSpace (words ++ word ∷ [])
apart-push [] word apart here = (here, tt)
apart-push (first ∷ words) word apart here = (apart.0, apart-push words word apart.1 here)

-- a line that begins with these words has more of them
pub more_words : (words : List (List ℕ)) (rest : List ℕ) (others : List (List ℕ))
    → AllByRecursion HasNoSpace words → AllByRecursion HasNoSpace others → 0 < length others
    → spaced (words ++ rest ∷ []) ≡ spaced others → length words < length others
more_words [] rest others apart others_apart some same = some
more_words (word ∷ words) rest [] apart others_apart some same = absurd (omega arith)
more_words (word ∷ words) rest (other ∷ []) apart others_apart some same =
    absurd (no_word word other (spaced (words ++ rest ∷ [])) others_apart.0
    (sym (spaced-cons word (words ++ rest ∷ []) (some_pushed words rest)) ∙ same))
more_words (word ∷ words) rest (other ∷ another ∷ others) apart others_apart some same =
    let behind = first_space word other (spaced (words ++ rest ∷ []))
    (spaced (another ∷ others)) apart.0 others_apart.0
    (sym (spaced-cons word (words ++ rest ∷ []) (some_pushed words rest)) ∙ same) in
    let fewer = more_words words rest (another ∷ others) apart.1 others_apart.1
    (omega arith) behind.1 in
    omega (arith, fewer)

words_same : (words others : List (List ℕ)) → AllByRecursion HasNoSpace words
    → AllByRecursion HasNoSpace others → 0 < length words → 0 < length others
    → spaced words ≡ spaced others → words ≡ others
words_same [] others apart others_apart some others_some same = absurd (omega arith)
words_same (word ∷ words) [] apart others_apart some others_some same = absurd (omega arith)
words_same (word ∷ []) (other ∷ []) apart others_apart some others_some same = ap (λ w. w ∷ []) same
words_same (word ∷ []) (other ∷ another ∷ others) apart others_apart some others_some same =
    absurd (no_word other word (spaced (another ∷ others)) apart.0 (sym same))
words_same (word ∷ next ∷ words) (other ∷ []) apart others_apart some others_some same =
    absurd (no_word word other (spaced (next ∷ words)) others_apart.0 same)
words_same (word ∷ next ∷ words) (other ∷ another ∷ others) apart others_apart some others_some
    same =
    let behind = first_space word other (spaced (next ∷ words))
    (spaced (another ∷ others)) apart.0 others_apart.0 same in
    let more = words_same (next ∷ words) (another ∷ others) apart.1 others_apart.1 (omega arith)
    (omega arith) behind.1 in
    let first = behind.0 in cc

-- a line has one reading as words
pub one_reading : (line : List ℕ) (words others : List (List ℕ)) → AreWords line words
    → AreWords line others → words ≡ others
one_reading line words others a b =
    words_same words others a.apart b.apart a.some b.some (sym a.joined ∙ b.joined)

no_space_in : (ds : List ℕ) → AllByRecursion (λ b. 48 ≤ b) ds → HasNoSpace ds
no_space_in [] each = tt
no_space_in (d ∷ ds) each = (λ e. (let here = each.0 in omega arith), no_space_in ds each.1)

-- a number that is printed is one word
pub printed_has_no_space : (n : ℕ) → n < 2 ^ 32 → HasNoSpace (decimal n)
printed_has_no_space n small = no_space_in (decimal n) (digits_only n (omega arith))

pub same_text : (xs ys : List ℕ) → bytes_eq xs ys ≡ true → xs ≡ ys
same_text xs ys e = (bytes_eq-Decides xs ys).0 e

pub other_text : (xs ys : List ℕ) → bytes_eq xs ys ≡ false → xs ≢ ys
other_text xs ys e same = let equal = (bytes_eq-Decides xs ys).1 same in cc

no_space_from : (xs : List ℕ) → All (λ b. b ≢ 32) xs → HasNoSpace xs
no_space_from [] each = tt
no_space_from (x ∷ xs) each =
    (each 0 0 (omega arith), no_space_from xs (λ i d lt. each (suc i) d (omega (arith, lt))))

pub all_read : (line rest : List ℕ) (words : List (Bor (List ℕ))) (word : Bor (List ℕ))
    → AllByRecursion HasNoSpace (map (λ w. w.now) words)
    → line ≡ spaced (map (λ w. w.now) words ++ word.now ∷ [])
    → All (λ b. b ≢ 32) word.now → AreWords line (map (λ w. w.now) (words ++ word ∷ []))
all_read line rest words word apart joined no_space =
    let pushed = map-append (λ (w : Bor (List ℕ)). w.now) words (word ∷ []) in rw pushed (record {
      some = some_pushed (map (λ w. w.now) words) word.now;
      apart = apart-push (map (λ w. w.now) words) word.now apart (no_space_from word.now no_space);
      joined = joined;
    })

pub one_more : (line rest behind : List ℕ) (words : List (Bor (List ℕ))) (word : Bor (List ℕ))
    → AllByRecursion HasNoSpace (map (λ w. w.now) words)
    → line ≡ spaced (map (λ w. w.now) words ++ rest ∷ [])
    → rest ≡ word.now ++ (32 ∷ behind) → All (λ b. b ≢ 32) word.now
    → AllByRecursion HasNoSpace (map (λ w. w.now) (words ++ word ∷ []))
    × (line ≡ spaced (map (λ w. w.now) (words ++ word ∷ []) ++ behind ∷ []))
one_more line rest behind words word apart joined cut no_space =
    let pushed = map-append (λ (w : Bor (List ℕ)). w.now) words (word ∷ []) in rw pushed (
      apart-push (map (λ w. w.now) words) word.now apart (no_space_from word.now no_space),
      joined ∙ ap (λ r. spaced (map (λ w. w.now) words ++ r ∷ [])) cut ∙ spaced-cut
          (map (λ w. w.now) words) word.now behind,
    )

pub too_many : (line rest : List ℕ) (words : List (Bor (List ℕ))) (others : List (List ℕ))
    → AllByRecursion HasNoSpace (map (λ w. w.now) words)
    → line ≡ spaced (map (λ w. w.now) words ++ rest ∷ [])
    → AreWords line others → length words < length others
too_many line rest words others apart joined read =
    let fewer = more_words (map (λ w. w.now) words) rest others apart read.apart read.some
    (sym joined ∙ read.joined) in
    omega (arith, fewer, length-map words (λ (w : Bor (List ℕ)). w.now))
