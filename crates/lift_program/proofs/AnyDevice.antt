-- A history speaks of no device: it is one over devices of another type too.
use Rattle.std.proofs.Common.{Bool, List, ap, inl, inr, rules}
use Rattle.lift_base.specs.declared.history.Entry.{Entry}
use Rattle.lift_building.specs.Plan.{Plan}
use Rattle.lift_disk.specs.Disk.{DiskState, Image}
use Rattle.lift_register.specs.Register.{RegisterState}
use Rattle.lift_keeper.specs.Writer.{WriterView}
use Rattle.lift_keeper.specs.Keeper.{KeeperView}
use Rattle.lift_world.specs.declared.event.Taken.{Taken}
use Rattle.lift_clerk.specs.Steps.{GroupState, TurnAdds, DecidesOn, MayAccept, MayAdd, ClerkRests, Safe, InDoubt, Unknown}
use Rattle.lift_clerk.specs.Machine.{ClerkReopens, IsNewClerk}
use Rattle.lift_clerk.specs.History.{History, BeginsOver, Began, Turned, Reopened, Rested, Cut}
use Rattle.lift_clerk.specs.Keeping.{ImageKeeps}
use Rattle.lift_program.specs.Devices.{HoldsForAnyDevice, KeepsForAnyDevice}

-- the same over another device
abbrev writer_over : {D E : Type 0} → E → WriterView D → WriterView E
writer_over device w = record {
  plan = w.plan;
  device = device;
  half = w.half;
  is_in_second_half = w.is_in_second_half;
  used = w.used;
  register = w.register;
  doubt = w.doubt;
  failures_at_opening = w.failures_at_opening;
  is_broken = w.is_broken;
}

abbrev keeper_over : {D E : Type 0} → E → KeeperView D → KeeperView E
keeper_over device k = record { state = k.state; writer = writer_over device k.writer }

abbrev group_over : {D E : Type 0} → E → GroupState D → GroupState E
group_over device g = record { desk = g.desk; seat = g.seat; keeper = keeper_over device g.keeper; policy = tt }

module _ {D E : Type 0} (device : E) where
  abbrev decides_over : (k : KeeperView D) → DecidesOn k → DecidesOn (keeper_over device k)
  decides_over k d = record {
    commands = d.commands;
    replies = d.replies;
    decided = d.decided;
    apart = d.apart;
    was_whole = d.was_whole;
    run = d.run;
    shows = d.shows;
  }

  abbrev accepts_over : (k : KeeperView D) (batch : List Entry) → MayAccept k batch → MayAccept (keeper_over device k) batch
  accepts_over k batch m = (decides_over k m.0, m.1)

  adds_over : (k : KeeperView D) (batch : List Entry) → MayAdd k batch → MayAdd (keeper_over device k) batch
  adds_over k batch (inl doubt) = inl doubt
  adds_over k batch (inr accepts) = inr (accepts_over k batch accepts)

  turn_over : {before after : GroupState D} {fails : Bool} {batch more : List Entry} {replied : List Taken} → TurnAdds before after fails batch more replied → TurnAdds (group_over device before) (group_over device after) fails batch more replied
  turn_over {before} {after} (Safe t) = Safe (record {
    desk = t.desk;
    decides = decides_over before.keeper t.decides;
    answers = t.answers;
    state = t.state;
    safe = t.safe;
    is_whole = t.is_whole;
    no_doubt = t.no_doubt;
    same_plan = t.same_plan;
  })
  turn_over {before} {after} (InDoubt t) = InDoubt (record {
    may = accepts_over before.keeper after.keeper.writer.doubt t.may;
    desk = t.desk;
    answers = t.answers;
    some = t.some;
    breaks = t.breaks;
    same_register = t.same_register;
    same_plan = t.same_plan;
  })
  turn_over (Unknown t) = Unknown (record {
    commands = t.commands;
    desk = t.desk;
    answers = t.answers;
    was_broken = t.was_broken;
    rests = ap (λ (w : WriterView D). writer_over device w) t.rests;
  })

  rests_over : (before after : GroupState D) → ClerkRests before after → ClerkRests (group_over device before) (group_over device after)
  rests_over before after rests = search rules

  abbrev reopens_over : (before after : GroupState D) → ClerkReopens before after → ClerkReopens (group_over device before) (group_over device after)
  reopens_over before after r = record {
    desk = r.desk;
    same_seat = r.same_seat;
    state = r.state;
    one_of = r.one_of;
    is_whole = r.is_whole;
    no_doubt = r.no_doubt;
    same_plan = r.same_plan;
  }

  new_over : (group : GroupState D) → IsNewClerk group → IsNewClerk (group_over device group)
  new_over group n = record { seat = n.seat; state = n.state; is_whole = n.is_whole; no_doubt = n.no_doubt }

  begins_over : (plan : Plan) (image : Image) (group : GroupState D) → BeginsOver plan image group → BeginsOver plan image (group_over device group)
  begins_over plan image group b = record { begins = new_over group b.begins; same_plan = b.same_plan; reads = b.reads; only = b.only }

  history_over : {base : RegisterState} {group : GroupState D} {safe : List Entry} {given : List Taken} → History base group safe given → History base (group_over device group) safe given
  history_over {group = group} (Began building of_building begins is) = Began building of_building (new_over group begins) is
  history_over (Turned before turn) = Turned (history_over before) (turn_over turn)
  history_over (Reopened {before = before} {after = after} history reopens) = Reopened (history_over history) (reopens_over before after reopens)
  history_over (Rested {before = before} {after = after} history rests) = Rested (history_over history) (rests_over before after rests)
  history_over (Cut {before = before} {after = after} {batch = batch} {image = image} history may doubt begins) =
      Cut (history_over history) (adds_over before.keeper batch may) doubt (begins_over before.keeper.writer.plan image after begins)

-- so is what an image keeps, and what a device holds
keeps_over : {D E : Type 0} → D → (plan : Plan) (base : RegisterState) (entries : List Entry) (given : List Taken) (left : Image) → ImageKeeps D plan base entries given left → ImageKeeps E plan base entries given left
keeps_over {D} {E} device plan base entries given left k = record {
  reads = k.reads;
  holds = k.holds;
  letters = k.letters;
  goes_on = λ (clerk : GroupState E) begins. history_over clerk.keeper.writer.device (k.goes_on (group_over device clerk) (begins_over device plan left clerk begins));
}

pub keeps_for_any : {D E : Type 0} → KeepsForAnyDevice D E
keeps_for_any device plan base accepted given left kept = (kept.0, kept.1, keeps_over device plan base kept.0 given left kept.2)

pub holds_for_any : {D E F : Type 0} (held : F → DiskState) → HoldsForAnyDevice D E held
holds_for_any held device plan base accepted given found holds = λ honest left may. keeps_for_any device plan base accepted given left (holds honest left may)
