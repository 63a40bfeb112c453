use Rattle.lift_world.proofs.Possibilities.{cuts_to_safe, cuts_with_batch, cuts_give, seals, reopens_after_cut, only_reopens_after_cut, reopens_after_fault, reopenings_give, reopens_while_quiet, pulls_in_turn, answers_due, answers_only_due}
use Rattle.lift_world.proofs.Calls.{calls_in_order}
use Rattle.lift_world.proofs.Given.{given_stays}
use Rattle.lift_world.proofs.Asked.{asks_once_heard, hears_the_next}
use Rattle.lift_world.specs.lemmas.Looks.{looks_are_takes, takes_need_looks}
use Rattle.std.proofs.Common.{ℕ, ◌≡◌, Option, None, [], zero, suc, replicate, refl, sym, ap, subst}
use Rattle.std.specs.List.{AllByRecursion}
use Rattle.lift_base.specs.declared.limits.TheConstants.{MOST_CARS}
use Rattle.lift_base.specs.declared.travel.Position.{Position}
use Rattle.std.specs.Prelude.{Contains}
use Rattle.std.proofs.lemmas.List.Elements.{Contains-push}
use Rattle.lift_base.specs.declared.history.Entry.{Entry}
use Rattle.lift_base.specs.declared.history.Entry.TheVariants.{Allot, Stop as Stopping}
use Rattle.lift_base.specs.declared.command.Body.{Body}
use Rattle.lift_base.specs.declared.command.Body.TheVariants.{Call, Stop as StopBody}
use Rattle.lift_base.specs.declared.command.Reply.{Reply}
use Rattle.lift_policy.specs.Terminals.{kiosk_floor}
use Rattle.lift_world.specs.declared.event.Taken.{Taken}
use Rattle.lift_world.specs.World.{World, acknowledged_by, acknowledged_in, acknowledged}
use Rattle.lift_world.specs.Possible.{StoresTheReply, ReopeningsUnplace, AcknowledgesReplies}
use Rattle.lift_world.specs.lemmas.Entries.{flat_map_held}
use Rattle.lift_world.proofs.theorem.events_are_possible.Goals as goal

none_placed : (n : ℕ) → AllByRecursion (λ (p : Option Position). p ≡ None) (replicate n None)
none_placed zero = tt
none_placed (suc n) = (refl, none_placed n)

one_told : (w : World) (c : Taken) (e : Entry) → Contains w.given c → Contains (acknowledged_in w.building c) e → Contains (acknowledged w) e
one_told w c e given told = flat_map_held (acknowledged_in w.building) w.given c e given told

acknowledges : (w : World) → AcknowledgesReplies w
acknowledges w c given = (
  λ to party car body reply. let e : Entry = Allot c.terminal c.number (kiosk_floor w.building c.terminal) to car party in
      one_told w c e given (subst (λ (b : Body). Contains (acknowledged_by w.building c.terminal c.number b c.reply) e) (sym body)
      (subst (λ (r : Reply). Contains (acknowledged_by w.building c.terminal c.number (Call to party) r) e) (sym reply) (Contains-push [] e))),
  λ floor dir next body reply. let e : Entry = Stopping c.terminal c.number floor dir in
      one_told w c e given (subst (λ (b : Body). Contains (acknowledged_by w.building c.terminal c.number b c.reply) e) (sym body)
      (subst (λ (r : Reply). Contains (acknowledged_by w.building c.terminal c.number (StopBody floor dir) r) e) (sym reply) (Contains-push [] e))),
)

stored : (w : World) → StoresTheReply w
stored w terminal after h =
    let a = answers_only_due w terminal after h in (a.command, a.is_due, ap (λ (x : World). x.answered) a.is, ap (λ (x : World). x.given) a.is)

unplaces : (w : World) → ReopeningsUnplace w
unplaces w kept after h =
    subst (AllByRecursion (λ (p : Option Position). p ≡ None)) (sym (reopenings_give w kept after h).no_car_placed)
    (none_placed MOST_CARS)

pub returns-clause-events : goal.returns-clause-events
returns-clause-events k w = record {
  cut = cuts_to_safe w;
  cut_with_batch = cuts_with_batch w;
  cut_leaves = cuts_give w;
  reopening = reopens_after_cut w;
  nothing_else = only_reopens_after_cut w;
  reopening_after_fault = reopens_after_fault w;
  recovered = reopenings_give w;
  reopening_while_quiet = reopens_while_quiet w;
  asks = asks_once_heard w;
  hears = hears_the_next w;
  takes = looks_are_takes w;
  looks = takes_need_looks w;
  seals = seals w;
  pulls = pulls_in_turn w;
  calls = calls_in_order w;
  answers = answers_due w;
  nothing_early = answers_only_due w;
  given = given_stays w;
  stored = stored w;
  unplaces = unplaces w;
  acknowledges = acknowledges w;
}
