-- An image reads as one pair of a checkpoint and entries at most.
use Rattle.std.proofs.Common.{◌≡◌, List, [], ◌∷◌, ◌++◌, refl, sym, ◌∙◌, ap, subst}
use Rattle.std.specs.List.{AllByRecursion}
use Rattle.std.proofs.lemmas.List.Elements.{recursion_from_All}
use Rattle.lift_base.specs.declared.history.Record.{Record}
use Rattle.lift_base.specs.declared.history.Record.TheVariants.{Entry, Row, Last, Done}
use Rattle.lift_base.specs.declared.history.Shape.{Shape}
use Rattle.lift_journal.specs.Layout.{Holds, records_of}
use Rattle.lift_journal.specs.Laws.{ReadsAsOnePair}
use Rattle.lift_journal.specs.Order.{IsEntry, IsOfBase}
use Rattle.lift_journal.specs.lemmas.Unique.{holds_unique, stamp_unique}

-- a record is an entry or of a checkpoint
not_both : (content : Record) → IsEntry content → IsOfBase content → ⊥
not_both (Entry entry) is of_base = of_base
not_both (Row row) is of_base = is
not_both (Last terminal last) is of_base = is
not_both (Done count) is of_base = is

-- so the two parts of a list of records are determined
splits_once : (base first entries rest : List Record) → AllByRecursion IsOfBase base → AllByRecursion IsOfBase first → AllByRecursion IsEntry entries → AllByRecursion IsEntry rest
    → base ++ entries ≡ first ++ rest → (base ≡ first) × (entries ≡ rest)
splits_once [] [] entries rest a b c d same = (refl, same)
splits_once [] (y ∷ first) [] rest a b c d same = absurd (cc same)
splits_once [] (y ∷ first) (x ∷ entries) rest a b c d same =
    let here : x ≡ y = cc same in absurd (not_both x c.0 (subst IsOfBase (sym here) b.0))
splits_once (x ∷ base) [] entries [] a b c d same = absurd (cc same)
splits_once (x ∷ base) [] entries (y ∷ rest) a b c d same =
    let here : x ≡ y = cc same in absurd (not_both y d.0 (subst IsOfBase here a.0))
splits_once (x ∷ base) (y ∷ first) entries rest a b c d same =
    let here : x ≡ y = cc same in
    let behind : base ++ entries ≡ first ++ rest = cc same in
    let both = splits_once base first entries rest a.1 b.1 c d behind in
    (ap (λ (r : Record). r ∷ base) here ∙ ap (λ (l : List Record). y ∷ l) both.0, both.1)

pub pair_unique : ReadsAsOnePair
pair_unique image shape other base first entries rest one two =
    let same : shape ≡ other = stamp_unique shape other image one.holds.stamped two.holds.stamped in
    let batches = holds_unique other one.batches two.batches image (subst (λ (s : Shape). Holds s one.batches image) same one.holds) two.holds in
    let joined : base ++ entries ≡ first ++ rest = sym one.joined ∙ ap records_of batches ∙ two.joined in
    let parts = splits_once base first entries rest (recursion_from_All IsOfBase base one.is_base) (recursion_from_All IsOfBase first two.is_base)
    (recursion_from_All IsEntry entries one.are_entries) (recursion_from_All IsEntry rest two.are_entries) joined in
    (same, parts.0, parts.1)
