-- A seat at a table: what it knows, and how each right to look keeps its count of looks.
use Rattle.std.specs.Prelude.{◌≡◌, ℕ, zero, suc, ◌+◌, Bool, true, false, List, [], ◌∷◌, ◌++◌, ◌⊎◌}
use Rattle.atomic_table.specs.Seated.{TableId}
use Rattle.atomic_table.specs.Table.{Me}
use Rattle.lift_desk.specs.declared.view.View.{View}
use Rattle.lift_desk.specs.Rule.{blank}

-- where it is not seated, it stands in for one
pub record LookerState : Type 0 where
  pub seated : Bool
  pub table : TableId
  pub view : View

abbrev pub sits_at : TableId → View → LookerState
sits_at table view = record { seated = true; table = table; view = view }

-- a badge has one view, or none where it stands in for one
abbrev pub is_seated : List View → Bool
is_seated [] = false
is_seated (v ∷ vs) = true

abbrev pub view_in : List View → View
view_in [] = blank
view_in (v ∷ vs) = v

abbrev pub IsOneView : List View → Type 0
IsOneView views = is_seated views ≡ true → views ≡ view_in views ∷ []

abbrev pub looker_of : TableId → List View → LookerState
looker_of table views =
    record { seated = is_seated views; table = table; view = view_in views }

-- how often the word of the ask was looked at, and what was found there last
abbrev pub ask_looks : View → ℕ × ℕ
ask_looks v = (v.clerk.looks, v.clerk.last)

-- the same of the word of the answer
abbrev pub answer_looks : View → ℕ × ℕ
answer_looks v = (v.terminal.looks, v.terminal.last)

-- the looks at a word: 0 for that of the ask
abbrev pub looks_at : ℕ → View → ℕ × ℕ
looks_at zero v = ask_looks v
looks_at (suc word) v = answer_looks v

-- and those at the other one
abbrev pub other_looks : ℕ → View → ℕ × ℕ
other_looks zero v = answer_looks v
other_looks (suc word) v = ask_looks v

abbrev pub rights_of : View → Bool × Bool × Bool
rights_of v = (v.asks, v.answers, v.looks_ahead)

-- Who may look at a word: the clerk's seat and one ahead of it at the asks, the terminal's at the
-- answers.
abbrev pub MayLook : ℕ → View → Type 0
MayLook zero v = (v.answers ≡ true) ⊎ (v.looks_ahead ≡ true)
MayLook (suc word) v = v.asks ≡ true

-- a seat that may look at both words, as it has the rights of the terminal and of another seat
pub record SeesBoth (v : View) : Type 0 where
  pub asks : MayLook 0 v
  pub answers : MayLook 1 v

-- who may store a word: the terminal's seat asks, the clerk's answers
abbrev pub MayStore : ℕ → View → Type 0
MayStore zero v = v.asks ≡ true
MayStore (suc word) v = v.answers ≡ true

-- the words that a seat has stored there
abbrev pub stored_at : ℕ → View → List ℕ
stored_at zero v = v.terminal.asked
stored_at (suc word) v = v.clerk.answered

-- a seat holds none of the table's slots, and has the rights that it had
pub record RightsStay (before : View) (after : Me (Unit {0}) View) : Type 0 where
  pub slots : after.1 ≡ []
  pub rights : rights_of after.0 ≡ rights_of before

-- After a load of a word that found this: it counts one look at that word, which found just this.
-- Only a seat that sees both words may compare them uncounted.
pub record Loads (word found : ℕ) (before : View) (after : Me (Unit {0}) View) : Type 0 where
  pub may : MayLook word before
  pub rights : RightsStay before after
  pub looks : (SeesBoth before × (looks_at word after.0 ≡ looks_at word before))
      ⊎ (looks_at word after.0 ≡ (suc (looks_at word before).0, found))
  pub others : other_looks word after.0 ≡ other_looks word before

-- after a store of a word, which counts no look, and is one more word that was stored there
pub record Stores (word value : ℕ) (before : View) (after : Me (Unit {0}) View) : Type 0 where
  pub may : MayStore word before
  pub rights : RightsStay before after
  pub stored : stored_at word after.0 ≡ stored_at word before ++ value ∷ []
  pub asks : ask_looks after.0 ≡ ask_looks before
  pub answers : answer_looks after.0 ≡ answer_looks before

-- a right that a seat had is another's then, and what counts its looks with it
abbrev pub HandsOn : {A : Type 0} → (View → Bool) → (View → A) → View → View → Type 0
HandsOn right looks before after = (right before ≡ true) × (looks after ≡ looks before)

-- as many looks at each word as two seats have counted
pub record CountsBoth (one other both : View) : Type 0 where
  pub asks : both.clerk.looks ≡ one.clerk.looks + other.clerk.looks
  pub answers : both.terminal.looks ≡ one.terminal.looks + other.terminal.looks

-- What a part of a seat may do that seat could do, and the count of looks is that one's. Only a seat
-- that begins to look ahead of the clerk has counted none
pub record Carries (before after : View) : Type 0 where
  pub asks : after.asks ≡ true → HandsOn (λ v. v.asks) answer_looks before after
  pub answers : after.answers ≡ true → HandsOn (λ v. v.answers) ask_looks before after
  pub ahead : after.looks_ahead ≡ true → HandsOn (λ v. v.looks_ahead) ask_looks before after
      ⊎ ((before.answers ≡ true) × (ask_looks after ≡ (0, 0)))

-- A seat is parted: each part has what it carries, and of the looks none is lost and none is new
pub record IsParted (before left right : View) : Type 0 where
  pub first : Carries before left
  pub second : Carries before right
  pub looks : CountsBoth left right before

-- Two seats are joined: what the one may do that is left one of them could do, and what that found last
-- is what it found; and it has counted the looks of both
pub record Joined (one other both : View) : Type 0 where
  pub asks : both.asks ≡ true → HandsOn (λ v. v.asks) (λ v. v.terminal.last) one both
      ⊎ HandsOn (λ v. v.asks) (λ v. v.terminal.last) other both
  pub answers : both.answers ≡ true → HandsOn (λ v. v.answers) (λ v. v.clerk.last) one both
      ⊎ HandsOn (λ v. v.answers) (λ v. v.clerk.last) other both
  pub ahead : both.looks_ahead ≡ true → HandsOn (λ v. v.looks_ahead) (λ v. v.clerk.last) one both
      ⊎ HandsOn (λ v. v.looks_ahead) (λ v. v.clerk.last) other both
  pub looks : CountsBoth one other both
