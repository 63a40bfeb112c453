use Rattle.std.proofs.Common.{◌≡◌, None, rules, subst, sym}
use Rattle.std.specs.Prelude.{IfSome, Ok}
use Rattle.lift_program.specs.Ends.{line_at_end}
use Rattle.lift_program.specs.Output.{IsWrittenOrFailed}
use Rattle.lift_program.specs.declared.end.End.TheVariants.{Served}
use Rattle.lift_program.proofs.Telling.{reported_later}
use Rattle.lift_program.proofs.end.End.tell.Goals as goal

pub returns-in-OtherWords-clause-line : goal.returns-in-OtherWords-clause-line
returns-in-OtherWords-clause-line g c = rw c.in-OtherWords.is c.tell-in-OtherWords.ensures

pub returns-in-NoWords-clause-line : goal.returns-in-NoWords-clause-line
returns-in-NoWords-clause-line g c = rw c.in-NoWords.is c.tell-in-NoWords.ensures

pub returns-in_default : goal.returns-in_default
returns-in_default g c =
    let a = c.args.errors.now in
    let b = c.tell-in_default.new.errors in
    let later = reported_later c.in-Some.fault c.in_default.not-Journal in
    let is : c.args.self.now ≡ Served (Ok c.in-Served-Ok.serving) = search rules in
    record {
      line = subst (λ e. IfSome (line_at_end e) (IsWrittenOrFailed g.E.Write.contents a b)) (sym is) (rw (c.in-Some.is, later) c.tell-in_default.ensures);
      quiet = subst (λ e. line_at_end e ≡ None → b ≡ a) (sym is) (rw (c.in-Some.is, later) (λ none. cc));
    }
