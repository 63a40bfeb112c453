-- Each history is a run of the machine.
use Rattle.std.proofs.Common.{◌≡◌, ◌⊎◌, inl, inr, Bool, true, false, List, [], ◌∷◌, ◌++◌, refl, sym, ap, subst, ◌∙◌}
use Rattle.std.proofs.lemmas.List.{append-nil}
use Rattle.lift_base.specs.declared.history.Entry.{Entry}
use Rattle.lift_building.specs.Plan.{Plan, IsBuilding}
use Rattle.lift_disk.specs.Disk.{Image, DiskState, LeavesOnly}
use Rattle.lift_disk.specs.lemmas.Moments.{leaves_weaker}
use Rattle.lift_register.specs.Register.{RegisterState}
use Rattle.lift_policy.specs.declared.command.Command.{Command}
use Rattle.lift_policy.specs.Run.{unknowns}
use Rattle.lift_keeper.specs.Images.{IsInDoubt}
use Rattle.lift_world.specs.declared.event.Event.{Event}
use Rattle.lift_world.specs.declared.event.Taken.{Taken}
use Rattle.lift_world.specs.World.{World, start, safe_list}
use Rattle.lift_world.specs.Headline.{IsOfBuilding}
use Rattle.lift_world.specs.Turns.{with_replies}
use Rattle.lift_clerk.specs.Steps.{GroupState, TurnMakesSafe, LeavesInDoubt, AnswersUnknown, TurnAdds, Safe, InDoubt, Unknown, ClerkRests, MayAdd}
use Rattle.lift_clerk.specs.Machine.{LooksAgree, WaitsNowhere, LeadsToClerk, ClerkReopens, IsNewClerk, kept_after}
use Rattle.lift_clerk.specs.Laws.{Laws}
use Rattle.lift_clerk.specs.History.{History, Began, Turned, Reopened, Rested, Cut}
use Rattle.lift_clerk.specs.History.{BeginsOver, IsRunOf, HistoriesAreRuns}
use Rattle.lift_clerk.specs.Keeping.{CrashesKeep, KeepsEither, MomentsStand, MomentsKeep}
use Rattle.lift_clerk.specs.lemmas.Turned.{batches_are_turns}
use Rattle.lift_clerk.specs.lemmas.Reopened.{reopenings_are_reopenings, rests_are_no_events, faults_are_events, begins_at_start}
use Rattle.lift_clerk.proofs.Doubts.{failed_batches_are_failures, unknowns_are_broken_turns}
use Rattle.lift_clerk.proofs.Crashes.{IsCutAt, Agrees, ShowsGiven, cuts_at, cuts_show_letters, begins_after_crash}

-- where no ask waits every look agrees
all_agree : (w : World) → WaitsNowhere w → (cs : List Command) → LooksAgree w cs
all_agree w none [] = tt
all_agree w none (c ∷ cs) = (inl (none c.terminal), all_agree w none cs)

module _ (laws : Laws) (w : World) (plan : Plan) (base : RegisterState) (given : List Taken) (sound : IsBuilding plan) (of : IsOfBuilding plan base) (building : w.building ≡ plan) (based : w.base ≡ base)
    (same : w.given ≡ given) (entries : List Entry) (left : Image)
    (c : IsCutAt w entries left) where
  -- what it shows
  show : ShowsGiven plan base entries given left
  show =
      subst (λ (p : Plan). ShowsGiven p base entries given left) (c.same_building ∙ building)
      (subst (λ (b : RegisterState). ShowsGiven c.there.building b entries given left) (c.same_base ∙ based)
      (subst (λ (ts : List Taken). ShowsGiven c.there.building c.there.base entries ts left) (c.given_is ∙ same)
      (cuts_show_letters laws c.there entries left (subst (λ (p : Plan). IsBuilding p) (sym (c.same_building ∙ building)) sound)
      (subst (λ (p : Plan). IsOfBuilding p c.there.base) (sym (c.same_building ∙ building)) (subst (λ (b : RegisterState). IsOfBuilding plan b) (sym (c.same_base ∙ based)) of)) c.reached c.keeps)))

  -- a clerk that begins after the cut
  restart : {D : Type 0} → (clerk : GroupState D) → BeginsOver plan left clerk → IsRunOf base clerk entries given
  restart clerk b =
      let k = begins_after_crash laws c.there clerk plan entries left c.reached (c.same_building ∙ building) c.keeps b in
      record { world = k.0; base_is = k.3 ∙ (c.same_base ∙ based); shows = k.4; waits = k.6; safe_is = k.5; given_is = k.2 ∙ (c.given_is ∙ same); building = subst (λ (p : Plan). IsBuilding p) (sym b.same_plan) sound; of_building = subst (λ (p : Plan). IsOfBuilding p base) (sym b.same_plan) of }

module _ {D : Type 0} (laws : Laws) where
  start_run : (base : RegisterState) (clerk : GroupState D) → IsBuilding clerk.keeper.writer.plan → IsOfBuilding clerk.keeper.writer.plan base → IsNewClerk clerk → clerk.keeper.writer.register ≡ base → IsRunOf base clerk [] []
  start_run base clerk sound of b same =
      let k = begins_at_start laws clerk b (subst (λ (r : RegisterState). IsOfBuilding clerk.keeper.writer.plan r) (sym same) of) in
      record { world = start clerk.keeper.writer.plan clerk.keeper.writer.register; base_is = same; shows = k.0; waits = k.1; safe_is = refl; given_is = refl; building = sound; of_building = of }

  module _ (base : RegisterState) (before : GroupState D) (safe : List Entry) (given : List Taken) (r : IsRunOf base before safe given) where
    abbrev plan : Plan
    plan = before.keeper.writer.plan

    agree : (cs : List Command) → LooksAgree r.world cs
    agree cs = all_agree r.world r.waits cs

    module _ (after : GroupState D) where
      -- from the world of the one clerk to that of the other
      go_on : (events : List Event) (more : List Taken) (keep : List Entry → List Entry) → LeadsToClerk r.world events more (keep (safe_list r.world)) after
          → after.keeper.writer.plan ≡ plan → IsRunOf base after (keep safe) (given ++ more)
      go_on events more keep k same_plan = record {
        world = k.end;
        base_is = k.same_base ∙ r.base_is;
        shows = k.shows;
        waits = k.waits r.waits;
        safe_is = k.safe_is ∙ ap keep r.safe_is;
        given_is = k.given_is ∙ ap (λ (ts : List Taken). ts ++ more) r.given_is;
        building = subst (λ (p : Plan). IsBuilding p) (sym same_plan) r.building;
        of_building = subst (λ (p : Plan). IsOfBuilding p base) (sym same_plan) r.of_building;
      }

      with_nothing : (entries : List Entry) → IsRunOf base after entries (given ++ []) → IsRunOf base after entries given
      with_nothing entries k = subst (λ (ts : List Taken). IsRunOf base after entries ts) (append-nil given) k

      turn_run : (t : TurnMakesSafe before after) → IsRunOf base after (safe ++ t.decides.decided.batch) (given ++ with_replies t.decides.commands t.decides.replies)
      turn_run t =
          let k = batches_are_turns laws r.world before after t r.shows (agree t.decides.commands) in
          go_on _ _ (λ (xs : List Entry). xs ++ t.decides.decided.batch) (k.1 0) t.same_plan

      failure_run : (t : LeavesInDoubt before after) → IsRunOf base after safe (given ++ with_replies t.may.0.commands (unknowns t.may.0.commands))
      failure_run t =
          let k = failed_batches_are_failures laws r.world before after t r.shows (agree t.may.0.commands) in
          go_on _ _ (λ (xs : List Entry). xs) (k.1 0) t.same_plan

      broken_run : (t : AnswersUnknown before after) → IsRunOf base after safe (given ++ with_replies t.commands (unknowns t.commands))
      broken_run t =
          let k = unknowns_are_broken_turns laws r.world before after t r.shows (agree t.commands) in
          go_on _ _ (λ (xs : List Entry). xs) k.1 (ap (λ x. x.plan) t.rests)

      nothing_more : (replied : List Taken) → IsRunOf base after safe replied → IsRunOf base after (safe ++ []) replied
      nothing_more replied k = subst (λ (es : List Entry). IsRunOf base after es replied) (sym (append-nil safe)) k

      any_run : (fails : Bool) (batch more : List Entry) (replied : List Taken) → TurnAdds before after fails batch more replied → IsRunOf base after (safe ++ more) (given ++ replied)
      any_run fails batch more replied (Safe t) = turn_run t
      any_run fails batch more replied (InDoubt t) = nothing_more _ (failure_run t)
      any_run fails batch more replied (Unknown t) = nothing_more _ (broken_run t)

      reopening_run : (o : ClerkReopens before after) → IsRunOf base after (kept_after safe before.keeper.writer.doubt o.one_of) given
      reopening_run o =
          let k = reopenings_are_reopenings laws r.world before after o r.shows in
          with_nothing (kept_after safe before.keeper.writer.doubt o.one_of)
          (go_on _ _ (λ (xs : List Entry). kept_after xs before.keeper.writer.doubt o.one_of) k.3 o.same_plan)

      same_run : ClerkRests before after → after.keeper.writer.is_broken ≡ before.keeper.writer.is_broken → IsRunOf base after safe given
      same_run s same = record {
        world = r.world;
        base_is = r.base_is;
        shows = rests_are_no_events r.world before after s same r.shows;
        waits = r.waits;
        safe_is = r.safe_is;
        given_is = r.given_is;
        building = subst (λ (p : Plan). IsBuilding p) (sym s.plan) r.building;
        of_building = subst (λ (p : Plan). IsOfBuilding p base) (sym s.plan) r.of_building;
      }

      fault_run : (was : Bool) → before.keeper.writer.is_broken ≡ was → ClerkRests before after → after.keeper.writer.is_broken ≡ true → IsRunOf base after safe given
      fault_run true e s is = same_run s (is ∙ sym e)
      fault_run false e s is = with_nothing safe (go_on _ _ (λ (xs : List Entry). xs) (faults_are_events laws r.world before after s e is r.shows) s.plan)

      rest_run : ClerkRests before after → (after.keeper.writer.is_broken ≡ true) ⊎ (after.keeper.writer.is_broken ≡ before.keeper.writer.is_broken) → IsRunOf base after safe given
      rest_run s (inl is) = fault_run before.keeper.writer.is_broken refl s is
      rest_run s (inr same) = same_run s same

    -- what a cut may leave
    agrees : (batch : List Entry) (may : MayAdd before.keeper batch) → Agrees r.world before batch may
    agrees batch (inl same) = tt
    agrees batch (inr a) = agree a.0.commands

    cut_with : (left : Image) (batch : List Entry) → MayAdd before.keeper batch → (doubt : IsInDoubt plan before.keeper.writer.register batch left) → IsCutAt r.world (kept_after safe batch doubt) left
    cut_with left batch may doubt =
        subst (λ (xs : List Entry). IsCutAt r.world (kept_after xs batch doubt) left) r.safe_is (cuts_at laws r.world before batch left r.shows may (agrees batch may) doubt)

  run_of : (base : RegisterState) (clerk : GroupState D) (safe : List Entry) (given : List Taken) → History base clerk safe given → IsRunOf base clerk safe given
  run_of base clerk safe given (Began sound of b same) = start_run base clerk sound of b same
  run_of base clerk safe given (Turned h t) = any_run _ _ _ _ (run_of _ _ _ _ h) clerk _ _ _ _ t
  run_of base clerk safe given (Reopened h o) = reopening_run _ _ _ _ (run_of _ _ _ _ h) clerk o
  run_of base clerk safe given (Rested h s) = rest_run _ _ _ _ (run_of _ _ _ _ h) clerk s s.broken
  run_of base clerk safe given (Cut {batch = batch} {image = image} h may doubt b) =
      let r = run_of _ _ _ _ h in restart laws r.world _ _ _ r.building r.of_building r.shows.building r.base_is r.given_is _ image (cut_with _ _ _ _ r image batch may doubt) clerk b

  pub histories_are_runs : HistoriesAreRuns D
  histories_are_runs base clerk safe given h = run_of base clerk safe given h

  pub crashes_keep : CrashesKeep D
  crashes_keep base clerk safe batch given left h may doubt =
      let r = run_of base clerk safe given h in
      let shows = show laws r.world _ base given r.building r.of_building r.shows.building r.base_is r.given_is _ left (cut_with base clerk safe given r left batch may doubt) in
      record {
        reads = shows.reads;
        holds = shows.holds;
        letters = shows.letters;
        goes_on = λ next over. Cut h may doubt over;
      }

-- at each moment of a call that has at most this batch on its way
module _ {D : Type 0} (law : CrashesKeep D) (before : GroupState D) (batch : List Entry) (may : MayAdd before.keeper batch) (old new : DiskState) where
  abbrev its_plan : Plan
  its_plan = before.keeper.writer.plan

  keeps_either : (base : RegisterState) (safe : List Entry) (given : List Taken) (left : Image) → History base before safe given → IsInDoubt its_plan before.keeper.writer.register batch left
      → KeepsEither D its_plan base safe batch given left
  keeps_either base safe given left h (inl without) = inl (law base before safe batch given left h may (inl without))
  keeps_either base safe given left h (inr whole) = inr (law base before safe batch given left h may (inr whole))

  pub moments_stand : LeavesOnly old new (IsInDoubt its_plan before.keeper.writer.register batch) → MomentsStand before batch old new
  moments_stand moments base safe given h =
      leaves_weaker old new (IsInDoubt its_plan before.keeper.writer.register batch) (KeepsEither D its_plan base safe batch given) (λ honest left doubt. keeps_either base safe given left h doubt) moments

pub moments_keep : {D : Type 0} (state : D → DiskState) → CrashesKeep D → MomentsKeep D state
moments_keep state law before batch device may moments = moments_stand law before batch may (state before.keeper.writer.device) (state device) moments
