use Rattle.std.proofs.Common.{[], ◌++◌, length, ap, subst, sym, refl, ◌∙◌, arith}
use Rattle.std.proofs.lemmas.List.{append-nil, append_assoc, length-set}
use Rattle.lift_replay.specs.Terminals.{Hears, seat_at}
use Rattle.lift_replay.proofs.Hearing.{all_heard, next_heard, same_after}
use Rattle.lift_replay.proofs.terminals.Terminals.push_all_heard.Goals as goal

pub loop-index-init : goal.loop-index-init
loop-index-init c = record { desk = refl; count = refl; heard = ([], refl, sym (append-nil _)); rest = λ i past. refl }

pub returns-clause-hears : goal.returns-clause-hears
returns-clause-hears c =
    let inv = c.loop-index.invariant in (
      inv.heard.0,
      all_heard c.args.self.now.seats.items c.loop-index.self.seats.items c.loop-index.index inv.heard.0 (omega (arith, c.loop-index-test.false)) inv.count inv.heard.1,
      inv.heard.2,
    )

pub loop-index-preserved : goal.loop-index-preserved
loop-index-preserved c =
    let olds = c.args.self.now.seats.items in
    let mids = c.loop-index.self.seats.items in
    let news = c.push_heard_at.new.self.seats.items in
    let n = c.loop-index.index in
    let inv = c.loop-index.invariant in
    let told = c.in_ok-push_heard_at.ensures in
    record {
      desk = told.desk ∙ inv.desk;
      count = ap length told.others ∙ length-set mids n _ ∙ inv.count;
      heard = (
        inv.heard.0 ++ told.hears.0,
        next_heard olds mids news n inv.heard.0 told.hears.0 (omega (arith, c.loop-index-test.true)) inv.count told.others inv.heard.1
            (subst (λ s. Hears s (seat_at news n) told.hears.0) (inv.rest n (omega arith)) told.hears.1),
        told.hears.2 ∙ ap (λ l. l ++ told.hears.0) inv.heard.2 ∙ append_assoc _ inv.heard.0 told.hears.0,
      );
      rest = same_after olds mids news n told.others inv.rest;
    }
