use Rattle.std.proofs.Common.{◌++◌, ap, ◌∙◌, refl, string_bytes}
use Rattle.std.proofs.lemmas.List.{append_assoc}
use Rattle.lift_replay.specs.Told.{OutcomeTells}
use Rattle.lift_replay.proofs.Told.{on_ok}
use Rattle.lift_replay.proofs.lines.push_turn_of.Goals as goal

pub returns-clause-outcome : goal.returns-clause-outcome
returns-clause-outcome c =
    let taken = c.in_ok-taken.ensures.tells in
    on_ok c.push_all_told.result (λ heard.
    let outcome : OutcomeTells c.args.station.now.clerk c.push_all_told.new.clerk c.args.station.now.terminals.seats.items c.push_all_told.new.self.seats.items (taken.0 ++ heard.1) = record {
      turned = c.push_taken.new.clerk;
      told = heard.0;
      taken = c.in_ok-taken.taken;
      head = taken.0;
      heard = heard.1;
      tells = taken.1;
      place = c.push_taken.ensures.place;
      knows = heard.2;
      rest = c.push_all_told.ensures.rest;
      hear = heard.3;
      shown = refl;
    } in (
      taken.0 ++ heard.1,
      outcome,
      heard.4 ∙ ap (λ before. before ++ heard.1) taken.2 ∙ append_assoc (string_bytes c.args.report.now) taken.0 heard.1,
    )) c.push_all_told.ensures.hears
