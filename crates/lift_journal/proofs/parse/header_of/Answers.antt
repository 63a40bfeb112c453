use Rattle.std.proofs.Common.{◌≡◌, ℕ, List, ap, sym, subst, ◌∙◌}
use Rattle.lift_record.specs.Header.{IsHeaderSpelling}
use Rattle.lift_record.specs.declared.headers.Header.{Header}
use Rattle.lift_journal.proofs.parse.header_of.Goals as goal

pub returns-then-header-number : goal.returns-then-header-number
returns-then-header-number c header =
    let there = subst (λ (l : List ℕ). IsHeaderSpelling l header) c.sixteen.ensures in
    let back = subst (λ (l : List ℕ). IsHeaderSpelling l header) (sym c.sixteen.ensures) in (
      λ same. (let is : c.in_ok-header.header ≡ header = cc same in
          (there ((c.in_ok-header.ensures header).0 same), ap (λ (h : Header). h.number) (sym is) ∙ c.if-header-number.true)),
      λ both. (c.in_ok-header.ensures header).1 (back both.0),
    )
