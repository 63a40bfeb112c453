use Rattle.std.proofs.Common.{Global, Vec, ◌≡◌, ℕ, inr, subst, sym}
use Rattle.std.specs.Prelude.{IfOk, IfSome}
use Rattle.lift_program.specs.Images.{IsTextRead}
use Rattle.lift_program.proofs.Stages.{bytes_refused}
use Rattle.lift_program.proofs.files.building_in.Goals as goal

pub returns-clause-fault : goal.returns-clause-fault
returns-clause-fault g c =
    let remaining = g.B.Text.Read.remaining in
    let reader = c.in_ok-text.text.reader in
    let bytes = c.deref.result.now in
    let all_read : IfSome (remaining reader) (λ all. c.in_ok-bytes.bytes.items ≡ all) =
    subst (λ r. IfOk r (λ (bs : Vec ℕ Global). IfSome (remaining reader) (λ all. bs.items ≡ all))) c.in_ok-bytes.was c.bytes_of-left.ensures.whole in
    let whole : IfSome (remaining reader) (λ all. bytes ≡ all) = subst (λ bs. IfSome (remaining reader) (λ all. bs ≡ all)) (sym c.deref.ensures.value) all_read in
    let read : IsTextRead (g.B.TextOpener.opens c.args.opener c.args.path.now) remaining bytes =
    (reader, c.in_ok-text.ensures.opened, whole) in
    bytes_refused _ _ bytes c.building_of.result read (λ none. inr (inr (bytes, read, none))) c.building_of.ensures.fault
