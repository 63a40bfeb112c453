use Rattle.std.proofs.Common.{◌≡◌, ◌-◌, length, drop, replicate, ℕ, List, sym, ◌∙◌, arith}
use Rattle.std.specs.Bool.{Decides}
use Rattle.std.specs.List.{between}
use Rattle.std.proofs.lemmas.Bool.Decides.{Decides-eqb}
use Rattle.std.proofs.lemmas.List.{drop-replicate, length-replicate}
use Rattle.std.proofs.lemmas.Slice.{between_to_end}
use Rattle.std.proofs.lemmas.Slice.Eq.{slice_eq-Decides}
use Rattle.lift_journal.proofs.parse.is_zero_from.Goals as goal

pub returns : goal.returns
returns c =
    let text = c.args.text.now in
    let at = c.args.at in
    let zeros : List ℕ = replicate 1024 0 in
    let tells : Decides c.eq.result (between at (length text) text ≡ between at 1024 zeros) = slice_eq-Decides Decides-eqb _ _ _ c.eq.ensures in
    let one : between at (length text) text ≡ drop at text = between_to_end text at (length text) (omega (arith, c.requires.whole)) in
    let two : between at 1024 zeros ≡ replicate (1024 - at) 0 = between_to_end zeros at 1024 (omega (arith, length-replicate {A = ℕ} 1024 0)) ∙ drop-replicate at 1024 0 in
    (λ is. sym one ∙ tells.0 is ∙ two, λ same. tells.1 (one ∙ same ∙ sym two))
