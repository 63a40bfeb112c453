-- What was safe and answered before a recovery is kept by it, and by the serving after it.
use Rattle.std.proofs.Common.{◌≡◌, false, List, [], ◌++◌, refl, sym, ap, subst, ◌∙◌, append_assoc}
use Rattle.std.proofs.lemmas.List.{append-nil}
use mathlib.Core.List.{IsPrefix}
use Rattle.lift_base.specs.declared.history.Entry.{Entry}
use Rattle.lift_building.specs.Plan.{Plan}
use Rattle.lift_disk.specs.Disk.{DiskState, Image, LeavesNow, LeavesOnly, MayLeave}
use Rattle.lift_disk.specs.Holding.{HoldsTheSame}
use Rattle.lift_disk.specs.lemmas.Moments.{changes_nothing, leaves_then, leaves_weaker}
use Rattle.lift_disk.specs.lemmas.Starts.{leaves_from, same_leaves, starts_keep, starts_keep_now}
use Rattle.lift_register.specs.Register.{RegisterState, register_of}
use Rattle.lift_decider.specs.Decider.{starting}
use Rattle.lift_keeper.specs.Images.{IsImageOf}
use Rattle.lift_keeper.specs.Keeper.{KeeperView}
use Rattle.lift_keeper.specs.Reopening.{Reopens}
use Rattle.lift_keeper.specs.Writer.{WriterView}
use Rattle.lift_world.specs.declared.event.Taken.{Taken}
use Rattle.lift_clerk.specs.Steps.{group_of}
use Rattle.lift_clerk.specs.Keeping.{KeepsAll, KeepsEither, KeepsPrefix, LeavesSafe}
use Rattle.lift_clerk.specs.lemmas.Keeps.{either_front, keeps_first}
use Rattle.lift_parts.specs.Allocator.{AllocatorState}
use Rattle.lift_parts.specs.Flusher.{FlusherState}
use Rattle.lift_parts.specs.Keeping.{HaveKept, KeepingTurns, NoneYet, OneKept}
use Rattle.lift_serve.specs.Keeping.{EachTurnHandsOn, StartsFind, KeepsOver, TurnsHandOn}
use Rattle.lift_serve.specs.Ready.{IsNewGroup}
use Rattle.lift_serve.specs.Relaying.{ServingKeeps}

-- What these turns have kept: they give letters and take none back, a start finds what it takes after
-- each, and what all images kept of the letters before they keep.
record Handed {D F : Type 0} (state : D → DiskState) (held : F → DiskState) (plan : Plan) (first : DiskState) {base : RegisterState} {last : DiskState} {f g : FlusherState D}
    {safe mid : List Entry} {given now : List Taken} (turns : KeepingTurns state base last f safe given g mid now) : Type 0 where
  own : g.writer.plan ≡ plan
  honest : (state g.writer.device).is_honest
  cuts : TurnsHandOn held plan turns
  front : IsPrefix given now
  always : LeavesOnly first (state f.writer.device) (KeepsAll D plan base given)
      → LeavesOnly first (state g.writer.device) (KeepsAll D plan base given)

handed_on : {D F : Type 0} (state : D → DiskState) (held : F → DiskState) (plan : Plan) (base : RegisterState) (first last : DiskState)
    (f : FlusherState D) (safe : List Entry) (given : List Taken) (g : FlusherState D) (mid : List Entry) (now : List Taken) → f.writer.plan ≡ plan
    → (state f.writer.device).is_honest
    → (turns : KeepingTurns state base last f safe given g mid now) → Handed state held plan first turns
handed_on state held plan base first last f safe given g mid now own honest NoneYet =
    record { own = own; honest = honest; cuts = tt; front = ([], append-nil given); always = λ before. before }
handed_on {D} state held plan base first last f safe given h end later own honest
    (OneKept {g = g} {mid = mid} {now = now} turns flush s kept) =
    let k = handed_on state held plan base first last f safe given g mid now own honest turns in
    let replied : List Taken = s.goes_on.replied in
    record {
      own = flush.commits.same.0 ∙ k.own;
      honest = s.stands.honest.1 k.honest;
      cuts = (
        k.cuts,
        λ after. starts_keep _ _ (held after) (KeepsPrefix D plan base (mid ++ s.batch) now) k.honest
            (leaves_weaker _ _ _ (KeepsPrefix D plan base (mid ++ s.batch) now)
            (λ was left kept. either_front plan base mid s.batch now left
            (subst (λ (p : Plan). KeepsEither D p base mid s.batch now left) k.own kept)) s.stands),
      );
      front = (k.front.0 ++ replied, sym (append_assoc given k.front.0 replied) ∙ ap (λ (l : List Taken). l ++ replied) k.front.1);
      always = λ before. leaves_then first _ _ _ (k.always before)
          (leaves_weaker _ _ _ (KeepsAll D plan base given)
          (λ was left kept. keeps_first plan g.writer.plan base mid s.batch given now left k.own k.front kept) s.stands);
    }

pub turns_hand_on : {D F : Type 0} (state : D → DiskState) (held : F → DiskState) → EachTurnHandsOn D F state held
turns_hand_on state held base f g safe mid given now honest turns =
    (handed_on state held f.writer.plan base (state g.writer.device) (state g.writer.device) f safe given g mid now refl honest turns).cuts

-- Keeper::open has opened this device, which holds what was found, and that keeps a prefix of what was
-- accepted, and all that was given.
module _ {D F : Type 0} (state : D → DiskState) (held : F → DiskState) (plan : Plan) (opened : D) (keeper : KeeperView D)
    (reopens : Reopens plan (state opened)
    (state keeper.writer.device) keeper.writer.register keeper.writer.half
    keeper.writer.is_in_second_half keeper.writer.used)
    (starts : keeper.state ≡ starting keeper.writer.register) (whole : keeper.writer.is_broken ≡ false)
    (no_doubt : keeper.writer.doubt ≡ []) (own : keeper.writer.plan ≡ plan) (file : F) (was_honest : (held file).is_honest) (honest : (state opened).is_honest)
    (same_held : HoldsTheSame (held file) (state opened)) (base : RegisterState) (accepted : List Entry) (given : List Taken) (all_keep : LeavesNow (held file) (KeepsPrefix D plan base accepted given)) where
  abbrev first : DiskState
  first = held file

  abbrev new : DiskState
  new = state keeper.writer.device

  abbrev Keeps : Image → Type 0
  Keeps = KeepsPrefix D plan base accepted given

  abbrev All : Image → Type 0
  All = KeepsAll D plan base given

  keeps : LeavesNow (state opened) Keeps
  keeps = same_leaves first (state opened) Keeps was_honest same_held all_keep

  recovery : LeavesOnly first new Keeps
  recovery = leaves_from first (state opened) new Keeps was_honest honest same_held
      (leaves_weaker (state opened) new (MayLeave (state opened)) Keeps (λ was left may. keeps was left may) reopens.moments)

  recovery_keeps : LeavesOnly first new All
  recovery_keeps = leaves_weaker first new Keeps All (λ was left kept. (kept.0, given, ([], append-nil given), kept.2)) recovery

  cut : StartsFind D held plan base accepted given first new
  cut after = starts_keep first new (held after) Keeps was_honest recovery

  -- it is what every crash leaves from then on
  found : Keeps new.image
  found = keeps honest new.image (reopens.seen honest)

  abbrev safe : List Entry
  safe = found.0

  register : keeper.writer.register ≡ register_of base safe
  register = sym (reopens.only honest (register_of base safe) found.2.reads)

  -- it was made ready, and served
  module _ {P : Type 0} (policy : P) (a : AllocatorState P) (f g : FlusherState D) (group : IsNewGroup state policy keeper a f) (serving : ServingKeeps state f g) where
    -- whoever begins at a new desk goes on with it
    kept : HaveKept state base f g safe given
    kept = serving base safe given (group.goes_on base safe given (found.2.goes_on (group_of group.clerk) (record {
      begins = record {
        seat = group.unused;
        state = subst (λ (k : KeeperView D). k.state ≡ starting k.writer.register) (sym group.begins) starts;
        is_whole = subst (λ (k : KeeperView D). k.writer.is_broken ≡ false) (sym group.begins) whole;
        no_doubt = subst (λ (k : KeeperView D). k.writer.doubt ≡ []) (sym group.begins) no_doubt;
      };
      same_plan = subst (λ (k : KeeperView D). k.writer.plan ≡ plan) (sym group.begins) own;
      reads = subst (λ (k : KeeperView D). IsImageOf plan k.writer.register new.image) (sym group.begins)
          (reopens.safe (reopens.moments.honest.1 honest) new.image (changes_nothing new.is_loose new.image));
      only = λ other so. subst (λ (k : KeeperView D). other ≡ k.writer.register) (sym group.begins) (reopens.only honest other so);
    })))

    begun : keeper.writer ≡ f.writer
    begun = sym (group.parts.writer ∙ ap (λ (v : KeeperView D). v.writer) group.begins)

    turned : Handed state held plan first kept.turns
    turned = handed_on state held plan base first (state g.writer.device) f safe given g kept.now_safe kept.now_given
        (subst (λ (v : WriterView D). v.plan ≡ plan) begun own)
        (subst (λ (v : WriterView D). (state v.device).is_honest) begun (reopens.moments.honest.1 honest)) kept.turns

    always : LeavesOnly first (state g.writer.device) All
    always = turned.always (subst (λ (v : WriterView D). LeavesOnly first (state v.device) All) begun recovery_keeps)

    ends : LeavesNow (state g.writer.device) (KeepsPrefix D plan base (kept.now_safe ++ g.writer.doubt) kept.now_given)
    ends same left may = either_front plan base kept.now_safe g.writer.doubt kept.now_given left
        (subst (λ (p : Plan). KeepsEither D p base kept.now_safe g.writer.doubt kept.now_given left) turned.own
        (kept.kept (subst (λ (v : WriterView D). LeavesSafe v (state v.device)) begun group.leaves) same left may))

  pub keeps_over : {P : Type 0} (policy : P) (a : AllocatorState P) (f g : FlusherState D) → IsNewGroup state policy keeper a f
      → ServingKeeps state f g → KeepsOver state held plan file f g base accepted given
  keeps_over policy a f g group serving =
      let k = kept policy a f g group serving in
      let same = begun policy a f g group serving in
      let every = always policy a f g group serving in
      let at_end = ends policy a f g group serving in
      record {
        recovery = subst (λ (v : WriterView D). LeavesOnly first (state v.device) Keeps) same recovery;
        safe = safe;
        is_front = found.1;
        register = subst (λ (v : WriterView D). v.register ≡ register_of base safe) same register;
        kept = k;
        cuts = (turned policy a f g group serving).cuts;
        now = at_end;
        always = every;
        cut = subst (λ (v : WriterView D). StartsFind D held plan base accepted given first (state v.device)) same cut;
        next = λ after. starts_keep_now (state g.writer.device) (held after)
            (KeepsPrefix D plan base (k.now_safe ++ g.writer.doubt) k.now_given) (every.honest.1 was_honest) at_end;
      }
