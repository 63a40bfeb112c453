use Rattle.std.proofs.Common.{◌≡◌, refl, subst, sym, Option}
use Rattle.std.specs.Prelude.{IfSome}
use Rattle.lift_desk.specs.Seats.{NoteState}
use Rattle.lift_desk.proofs.Keeps.{notes_join}
use Rattle.lift_desk.proofs.place.read_note.Goals as goal

pub join-requires-clause-keeps : goal.join-requires-clause-keeps
join-requires-clause-keeps c id another = notes_join _ _ _ _

pub returns-in-None : goal.returns-in-None
returns-in-None c =
    let old = c.args.looker.now.view.noted in
    (old, refl, subst (λ (o : Option NoteState). IfSome o (λ n. old ≡ n.word)) (sym c.in-None.is) tt)
