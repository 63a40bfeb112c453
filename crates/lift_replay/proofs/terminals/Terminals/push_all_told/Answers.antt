use Rattle.std.proofs.Common.{[], ◌++◌, ap, sym, refl, ◌∙◌, arith}
use Rattle.std.proofs.lemmas.List.{append-nil, append_assoc}
use Rattle.std.proofs.lemmas.Bool.{false≢true}
use Rattle.lift_replay.specs.Terminals.{waiting_count}
use Rattle.lift_replay.specs.Told.{ScriptClerk}
use Rattle.lift_replay.proofs.Hearing.{all_heard}
use Rattle.lift_replay.proofs.Telling.{as_many, none_told, rest_more, rests_more, told_more}
use Rattle.lift_replay.proofs.terminals.Terminals.push_all_told.Goals as goal

pub loop-terminal-init : goal.loop-terminal-init
loop-terminal-init c = record {
  desk = refl;
  rest = refl;
  told = ([], none_told c.args.taken c.args.self.now.seats.items c.args.clerk.now.seat, sym (append-nil _));
}

pub loop-terminal-preserved : goal.loop-terminal-preserved
loop-terminal-preserved c =
    let seats = c.args.self.now.seats.items in
    let n = c.loop-terminal.terminal in
    let inv = c.loop-terminal.invariant in
    let told = c.tell.ensures in
    let heard = c.in_ok-push_heard_at.ensures in
    record {
      desk = heard.desk ∙ told.desk ∙ inv.desk;
      rest = rest_more c.args.clerk.now c.loop-terminal.clerk c.tell.new.clerk _ inv.rest told.told;
      told = (
        inv.told.0 ++ heard.hears.0,
        told_more c.args.taken n seats c.loop-terminal.self.seats.items c.tell.new.self.seats.items c.push_heard_at.new.self.seats.items c.args.clerk.now.seat c.loop-terminal.clerk.seat c.tell.new.clerk.seat inv.told.0 heard.hears.0
            (omega (arith, c.loop-terminal-test.true)) c.requires.places inv.told.1 told.seats (ap (λ (k : ScriptClerk). k.seat) told.told) told.in_order heard.others heard.hears.1,
        heard.hears.2 ∙ ap (λ l. l ++ heard.hears.0) inv.told.2 ∙ append_assoc _ inv.told.0 heard.hears.0,
      );
    }

pub loop-terminal-preserved-then-not-waits_at : goal.loop-terminal-preserved-then-not-waits_at
loop-terminal-preserved-then-not-waits_at c =
    let inv = c.loop-terminal.invariant in
    record {
      desk = inv.desk;
      rest = inv.rest;
      told = (
        inv.told.0,
        rests_more c.args.taken c.loop-terminal.terminal c.args.self.now.seats.items c.loop-terminal.self.seats.items c.args.clerk.now.seat c.loop-terminal.clerk.seat inv.told.0
            (omega (arith, c.loop-terminal-test.true)) inv.told.1
            (as_many c.args.taken c.count_waiting.result (waiting_count c.args.self.now.seats.items) (sym c.eq-waiting_alone.ensures ∙ c.if-waiting_alone.true) c.count_waiting.ensures)
            (λ waits. false≢true (sym c.if-not-waits_at.true ∙ c.waits_at.ensures.1 waits)),
        inv.told.2,
      );
    }

pub returns-clause-hears : goal.returns-clause-hears
returns-clause-hears c =
    let seats = c.args.self.now.seats.items in
    let n = c.loop-terminal.terminal in
    let inv = c.loop-terminal.invariant in
    let are = inv.told.1 in (
      are.told,
      inv.told.0,
      record { count = are.count; place_count = are.place_count; each = λ i below. are.each i (omega (arith, below, c.loop-terminal-test.false)) },
      all_heard are.told c.loop-terminal.self.seats.items n inv.told.0 (omega (arith, are.count, c.loop-terminal-test.false)) (are.now_count ∙ sym are.count) are.hear,
      inv.told.2,
    )
