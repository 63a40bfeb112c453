use Rattle.std.proofs.Common.{rules, [], refl, sym, ◌∙◌}
use Rattle.std.proofs.lemmas.Bool.{false≢true}
use Rattle.std.proofs.lemmas.List.{append-nil}
use Rattle.lift_replay.proofs.Hearing.{rests_at, hears_none}
use Rattle.lift_replay.proofs.terminals.Terminals.push_heard_at.Goals as goal

pub returns-in_default-clause-hears : goal.returns-in_default-clause-hears
returns-in_default-clause-hears c = (
  [],
  rests_at c.args.self.now.seats.items c.args.index c.args.index c.index_mut-seat.result.now refl c.requires c.index_mut-seat.ensures.value
      (λ waits. false≢true (c.in_default.ensures.some.1 waits)),
  sym (append-nil _),
)

pub returns-in_default-hear-clause-hears : goal.returns-in_default-hear-clause-hears
returns-in_default-hear-clause-hears c =
    let looked = c.in_default-hear.ensures.looked in (
      [],
      hears_none c.args.self.now.seats.items c.args.index c.args.index c.index_mut-seat.result.now c.hear.new.seat looked.0 refl c.requires
          c.index_mut-seat.ensures.value (search rules) looked.1 looked.2
          (λ answer told. sym c.in_default-hear.is ∙ c.hear.ensures.finds answer told),
      sym (append-nil _),
    )
