-- A line spells one call at most.
use Rattle.std.proofs.Common.{◌≡◌, ℕ, ◌≤◌, List, [], ◌∷◌, codes, refl, sym, ap, ◌∙◌, arith, inl, inr}
use Rattle.std.specs.Fmt.{decimal}
use Rattle.std.proofs.lemmas.Fmt.{decimal_injective}
use Rattle.lift_base.specs.lemmas.Words.{one_reading}
use Rattle.lift_base.specs.Text.{ArePartyWords}
use Rattle.lift_base.specs.declared.command.Body.{Body}
use Rattle.lift_base.specs.declared.command.Body.TheVariants.{Call}
use Rattle.lift_desk.specs.declared.words.Ask.{Ask}
use Rattle.lift_kiosk.specs.declared.dialect.Wanted.{Wanted}
use Rattle.lift_kiosk.specs.declared.dialect.Wanted.TheVariants.{Ask as Asks, NoFloor}
use Rattle.lift_kiosk.specs.Kiosk.{SpellsCall, WantsCall}

same_party : (words others : List (List ℕ)) (party other : ℕ) → words ≡ others → party ≤ 15 → other ≤ 15 → ArePartyWords words party → ArePartyWords others other → party ≡ other
same_party words others party other same few small (inl one) (inl two) =
    let texts : decimal party ∷ [] ≡ decimal other ∷ [] = sym one ∙ same ∙ two in
    decimal_injective party other (omega arith) (omega arith) (cc)
same_party words others party other same few small (inl one) (inr two) = absurd (let none : decimal party ∷ [] ≡ [] = sym one ∙ same ∙ two.0 in cc)
same_party words others party other same few small (inr one) (inl two) = absurd (let none : [] ≡ decimal other ∷ [] = sym one.0 ∙ same ∙ two in cc)
same_party words others party other same few small (inr one) (inr two) = one.1 ∙ sym two.1

same_call : (line : List ℕ) (number floor party other_number other_floor other_party : ℕ) → SpellsCall line number floor party → SpellsCall line other_number other_floor other_party
    → (number ≡ other_number) × (floor ≡ other_floor) × (party ≡ other_party)
same_call line number floor party other_number other_floor other_party one two =
    let reading : codes "CALL" ∷ one.words ≡ codes "CALL" ∷ two.words = one_reading line (codes "CALL" ∷ one.words) (codes "CALL" ∷ two.words) one.spaced two.spaced in
    let words : one.words ≡ two.words = cc in
    let all : decimal number ∷ decimal floor ∷ one.call.last ≡ decimal other_number ∷ decimal other_floor ∷ two.call.last = sym one.call.spelled ∙ words ∙ two.call.spelled in
    let n : decimal number ≡ decimal other_number = cc in
    let f : decimal floor ≡ decimal other_floor = cc in
    let last : one.call.last ≡ two.call.last = cc in
    let nr = one.call.number_range in
    let nr2 = two.call.number_range in
    let fr = one.call.floor_range in
    let fr2 = two.call.floor_range in (
      decimal_injective number other_number (omega arith) (omega arith) n,
      decimal_injective floor other_floor (omega arith) (omega arith) f,
      same_party one.call.last two.call.last party other_party last one.call.party_range.1 two.call.party_range.1 one.call.persons two.call.persons,
    )

asks_alike : (one two : Ask) (floor party other_floor other_party : ℕ) → one.number ≡ two.number → floor ≡ other_floor → party ≡ other_party
    → one.body ≡ Call floor party → two.body ≡ Call other_floor other_party → Asks one ≡ Asks two
asks_alike one two floor party other_floor other_party n f p a b =
    let bodies : one.body ≡ two.body = cc in
    ap (λ (m : ℕ). Asks (record { number = m; body = one.body })) n ∙ ap (λ (body : Body). Asks (record { number = two.number; body = body })) bodies

pub one_thing : (line : List ℕ) (one other : Wanted) → WantsCall line one → WantsCall line other → one ≡ other
one_thing line (Asks one) (Asks two) a b =
    let same = same_call line one.number a.0 a.1 two.number b.0 b.1 a.2 b.2 in
    asks_alike one two a.0 a.1 b.0 b.1 same.0 same.1 same.2 a.4 b.4
one_thing line (Asks one) NoFloor a b =
    absurd (let same = same_call line one.number a.0 a.1 b.0 b.1 b.2 a.2 b.3 in let low = a.3 in let high = b.4 in omega (arith, same.1, low, high))
one_thing line NoFloor (Asks two) a b =
    absurd (let same = same_call line a.0 a.1 a.2 two.number b.0 b.1 a.3 b.2 in let high = a.4 in let low = b.3 in omega (arith, same.1, low, high))
one_thing line NoFloor NoFloor a b = refl
