-- A line spells one move at most.
use Rattle.std.proofs.Common.{◌≡◌, ℕ, ◌<◌, List, refl, sym, ap, ◌∙◌, arith}
use Rattle.std.specs.Prelude.{Option, Some, None}
use Rattle.std.specs.Fmt.{decimal}
use Rattle.std.proofs.lemmas.Fmt.{decimal_injective}
use Rattle.lift_base.specs.declared.travel.Dir.{Dir}
use Rattle.lift_base.specs.declared.travel.Dir.TheVariants.{Up, Down}
use Rattle.lift_base.specs.Text.{dir_text}
use Rattle.lift_base.specs.lemmas.Words.{one_reading}
use Rattle.lift_kiosk.specs.declared.dialect.Wanted.{Wanted}
use Rattle.lift_kiosk.specs.declared.dialect.Wanted.TheVariants.{Ask as Asks, NoFloor}
use Rattle.lift_car.specs.declared.lines.Move.{Move}
use Rattle.lift_car.specs.Lines.{IsNumber, SpellsMove, WantsMove, move_words, asked, ask_of}

same_dir : (one two : Dir) → dir_text one ≡ dir_text two → one ≡ two
same_dir Up Up same = refl
same_dir Up Down same = absurd (cc)
same_dir Down Up same = absurd (cc)
same_dir Down Down same = refl

pub record IsSame (number other_number : Option ℕ) (floor other_floor : ℕ) (dir other_dir : Dir) : Type 0 where
  pub numbers : number ≡ other_number
  pub floors : floor ≡ other_floor
  pub dirs : dir ≡ other_dir

same_words : (number other_number : Option ℕ) (floor other_floor : ℕ) (dir other_dir : Dir) → IsNumber number → IsNumber other_number → floor < 1000 → other_floor < 1000
    → move_words number floor dir ≡ move_words other_number other_floor other_dir → IsSame number other_number floor other_floor dir other_dir
same_words None None floor other_floor dir other_dir small small2 low low2 same =
    let f : decimal floor ≡ decimal other_floor = cc in
    let d : dir_text dir ≡ dir_text other_dir = cc in
    record { numbers = refl; floors = decimal_injective floor other_floor (omega arith) (omega arith) f; dirs = same_dir dir other_dir d }
same_words None (Some other) floor other_floor dir other_dir small small2 low low2 same = absurd (cc)
same_words (Some number) None floor other_floor dir other_dir small small2 low low2 same = absurd (cc)
same_words (Some number) (Some other) floor other_floor dir other_dir small small2 low low2 same =
    let n : decimal number ≡ decimal other = cc in
    let f : decimal floor ≡ decimal other_floor = cc in
    let d : dir_text dir ≡ dir_text other_dir = cc in
    record {
      numbers = ap Some (decimal_injective number other (omega arith) (omega arith) n);
      floors = decimal_injective floor other_floor (omega arith) (omega arith) f;
      dirs = same_dir dir other_dir d;
    }

same_move : (line : List ℕ) (one two : Move) → SpellsMove line one → SpellsMove line two → IsSame one.number two.number one.floor two.floor one.dir two.dir
same_move line one two a b =
    let words = one_reading line a.words b.words a.spaced b.spaced in
    same_words one.number two.number one.floor two.floor one.dir two.dir a.moves.number_range b.moves.number_range a.moves.floor_range b.moves.floor_range
    (sym a.moves.spelled ∙ words ∙ b.moves.spelled)

same_ask : (one two : Move) → IsSame one.number two.number one.floor two.floor one.dir two.dir → ask_of one ≡ ask_of two
same_ask one two same =
    ap (λ (n : Option ℕ). asked n one.floor one.dir) same.numbers ∙ ap (λ (f : ℕ). asked two.number f one.dir) same.floors ∙ ap (λ (d : Dir). asked two.number two.floor d) same.dirs

pub one_thing : (line : List ℕ) (one other : Wanted) → WantsMove line one → WantsMove line other → one ≡ other
one_thing line (Asks one) (Asks two) a b = ap Asks (a.3 ∙ same_ask a.0 b.0 (same_move line a.0 b.0 a.1 b.1) ∙ sym b.3)
one_thing line (Asks one) NoFloor a b = absurd (let same = same_move line a.0 b.0 a.1 b.1 in let low = a.2 in let high = b.2 in omega (arith, same.floors, low, high))
one_thing line NoFloor (Asks two) a b = absurd (let same = same_move line a.0 b.0 a.1 b.1 in let high = a.2 in let low = b.2 in omega (arith, same.floors, low, high))
one_thing line NoFloor NoFloor a b = refl
