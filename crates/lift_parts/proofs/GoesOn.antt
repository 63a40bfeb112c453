-- The flusher's turns are steps of its group.
use Rattle.std.proofs.Common.{ℕ, ◌≡◌, ◌≢◌, ◌⊎◌, ⊎_elim, inl, inr, ◌<◌, Bool, true, false, List, [], ◌∷◌, ◌++◌, length, map, refl, sym, ap, subst, ◌∙◌, arith, append_assoc}
use Rattle.std.specs.Prelude.{Option, Result, Ok, Err, OnOk, is_ok, if◌then◌else◌}
use Rattle.std.proofs.Math.Seq.{drop-length}
use Rattle.std.proofs.lemmas.List.{append-nil, length-map}
use mathlib.Core.List.{map-append}
use Rattle.lift_base.specs.declared.history.Entry.{Entry}
use Rattle.lift_building.specs.Plan.{Plan}
use Rattle.lift_disk.specs.Disk.{DiskState, LeavesNow, LeavesOnly}
use Rattle.lift_register.specs.Register.{RegisterState, register_of}
use Rattle.lift_desk.specs.Seats.{ClerkPlace, view_at, with_looks_of}
use Rattle.lift_desk.specs.lemmas.Places.{words_with_looks}
use Rattle.lift_policy.specs.Eligible.{any_eligible}
use Rattle.lift_policy.specs.Step.{State}
use Rattle.lift_policy.specs.Run.{Run}
use Rattle.lift_policy.specs.declared.command.Command.{Command}
use Rattle.lift_journal.specs.declared.fault.JournalFault.TheVariants.{Disk, Broken}
use Rattle.lift_keeper.specs.declared.fault.KeeperFault.{KeeperFault}
use Rattle.lift_keeper.specs.declared.fault.KeeperFault.TheVariants.{Journal}
use Rattle.lift_keeper.specs.Commits.{Commits, CommitsTo}
use Rattle.lift_keeper.specs.Images.{IsImageOf, IsInDoubt}
use Rattle.lift_keeper.specs.Writer.{WriterView}
use Rattle.lift_keeper.specs.lemmas.Committed.{safe_register}
use Rattle.lift_world.specs.declared.event.Event.{Event}
use Rattle.lift_world.specs.declared.event.Taken.{Taken}
use Rattle.lift_world.specs.World.{World}
use Rattle.lift_world.specs.Next.{unknown_to}
use Rattle.lift_world.specs.Turns.{with_replies}
use Rattle.lift_clerk.specs.TakenAndAnswered.{TakesAndAnswers}
use Rattle.lift_clerk.specs.lemmas.Committed.{moment_of}
use Rattle.lift_clerk.specs.Clerk.{ClerkState}
use Rattle.lift_clerk.specs.Steps.{group_of, DecidesOn, TurnMakesSafe, LeavesInDoubt, AnswersUnknown, MayAccept, ClerkRests, Safe}
use Rattle.lift_clerk.specs.Group.{Terminals, TakesAsks}
use Rattle.lift_clerk.specs.Past.{IsPastOf, LeadsToPast, PastsGoOn}
use Rattle.lift_clerk.specs.History.{History, Turned, Rested}
use Rattle.lift_clerk.specs.Keeping.{CrashesKeep, KeepsEither, MomentsKeep, LeavesSafe}
use Rattle.lift_clerk.specs.lemmas.Adding.{failed, turned_while_broken}
use Rattle.lift_clerk.specs.lemmas.Keeps.{kept_now}
use Rattle.lift_parts.specs.declared.counts.FlushCounts.{FlushCounts}
use Rattle.lift_parts.specs.Batch.{BatchState, AreBelow, commands_in, replies_in, entries_of_batches}
use Rattle.lift_clerk.specs.lemmas.Tied.{not_both}
use Rattle.lift_parts.specs.Flusher.{FlusherState, IsFlusher, IsEmptyTurn, IsBatchTurn, AnswersBatch, entries_received}
use Rattle.lift_parts.specs.Turns.{NoFlush, OneFlush}
use Rattle.lift_parts.specs.History.{group_after, held_in, GoesOnTo, FlushStands, FlushesStand, TurnsGoOn, SplitsGoOn, JoinedGoOn}
use Rattle.lift_parts.specs.Past.{flush_events, FlushLeadsOn, FlushesLeadOn, SplitsPreservePasts, JoinsPreservePasts}
use Rattle.lift_parts.specs.Line.{tried}
use Rattle.lift_parts.specs.lemmas.Received.{entries_between, commits_to, none_received, one_received}
use Rattle.lift_parts.proofs.Answering.{replies_of, held_is, answers_them}

is_whole : (b : Bool) → (b ≡ true → ⊥) → b ≡ false
is_whole true never = absurd (never refl)
is_whole false never = refl

some_long : (xs : List Entry) → xs ≢ [] → 0 < length xs
some_long [] some = absurd (some refl)
some_long (x ∷ xs) some = omega arith

no_entries : (xs : List Entry) → length xs ≡ 0 → xs ≡ []
no_entries [] e = refl
no_entries (x ∷ xs) e = absurd (omega arith)

-- what a batch's commands led to, with what was accepted of them
abbrev state_with_entries : BatchState → State
state_with_entries batch = record batch.after { batch = batch.entries }

-- what turns add, before their history
record Adds {D : Type 0} (f g : FlusherState D) (more : List Entry) (replied : List Taken) : Type 0 where
  kept : List BatchState
  lost : List BatchState
  received : g.end.received ≡ f.end.received ++ (kept ++ lost)
  more_is : more ≡ entries_of_batches kept
  replied_is : replied ≡ held_in kept ++ map unknown_to (held_in lost)
  was_broken : f.writer.is_broken ≡ true → (kept ≡ []) × (g.writer.is_broken ≡ true)
  is_whole : g.writer.is_broken ≡ false → lost ≡ []

abbrev going : {D : Type 0} (f g : FlusherState D) (base : RegisterState) (safe : List Entry) (given : List Taken) (more : List Entry) (replied : List Taken) → Adds f g more replied
    → History base (group_after g) (safe ++ more) (given ++ replied) → GoesOnTo f g base safe given
going f g base safe given more replied adds history = record {
  kept = adds.kept;
  lost = adds.lost;
  received = adds.received;
  was_broken = adds.was_broken;
  is_whole = adds.is_whole;
  more = more;
  replied = replied;
  more_is = adds.more_is;
  replied_is = adds.replied_is;
  history = history;
}

adds_of : {D : Type 0} {f g : FlusherState D} {base : RegisterState} {safe : List Entry} {given : List Taken} (x : GoesOnTo f g base safe given) → Adds f g x.more x.replied
adds_of x = record { kept = x.kept; lost = x.lost; received = x.received; more_is = x.more_is; replied_is = x.replied_is; was_broken = x.was_broken; is_whole = x.is_whole }

-- the batch on its way
on_its_way : (broken : Bool) (batch doubt received : List Entry) → (broken ≡ false → batch ≡ received) → (broken ≡ true → batch ≡ doubt) → batch ≡ (if broken then doubt else received)
on_its_way true batch doubt received whole was = was refl
on_its_way false batch doubt received whole was = whole refl

-- ---- what a commit leaves
abbrev failing : KeeperFault → Result FlushCounts KeeperFault
failing fault = Err fault

module _ {D : Type 0} (state : D → DiskState) (old : WriterView D) (batch : List Entry) (new : WriterView D) where
  left_safe : new.plan ≡ old.plan → (register : RegisterState) → new.register ≡ register → LeavesNow (state new.device) (IsImageOf old.plan register) → LeavesSafe new (state new.device)
  left_safe plan register is leaves honest left may =
      inl (subst (λ (p : Plan × RegisterState). IsImageOf p.0 p.1 left) (λ i. (sym plan i, sym is i)) (leaves honest left may))

  left_in_doubt : new.plan ≡ old.plan → new.register ≡ old.register → new.doubt ≡ batch → LeavesNow (state new.device) (IsInDoubt old.plan old.register batch) → LeavesSafe new (state new.device)
  left_in_doubt plan register doubt leaves honest left may =
      subst (λ (p : Plan × RegisterState × List Entry). IsInDoubt p.0 p.1 p.2 left) (λ i. (sym plan i, sym register i, sym doubt i)) (leaves honest left may)

  by_fault : (fault : KeeperFault) → Commits {T = FlushCounts} state old batch new (failing fault) → (fault ≡ Journal Disk) ⊎ (fault ≡ Journal Broken) → LeavesSafe old (state old.device) → LeavesSafe new (state new.device)
  by_fault fault c (inl is) leaves = left_in_doubt c.same.0 c.unmoved (c.doubts (ap failing is)) (c.safe.in_doubt (ap failing is))
  by_fault fault c (inr is) leaves = subst (λ (w : WriterView D). LeavesSafe w (state w.device)) (sym (c.rests (c.broken.0 (ap failing is)))) leaves

  leaves_by : (result : Result FlushCounts KeeperFault) → Commits {T = FlushCounts} state old batch new result → LeavesSafe old (state old.device) → LeavesSafe new (state new.device)
  leaves_by (Ok counts) c leaves = left_safe c.same.0 (register_of old.register batch) c.safe.register c.safe.acknowledged
  leaves_by (Err fault) c leaves = by_fault fault c c.causes leaves

pub leaves_after : {D : Type 0} (state : D → DiskState) (f g : FlusherState D) (answer : Result FlushCounts KeeperFault)
    → CommitsTo {T = FlushCounts} state f.writer (entries_between f.end g.end) g.end.state.register g.writer answer → LeavesSafe f.writer (state f.writer.device)
    → LeavesSafe g.writer (state g.writer.device)
leaves_after state f g answer c leaves = leaves_by state f.writer c.batch g.writer answer c.is leaves

-- ---- one turn
module _ {D : Type 0} (state : D → DiskState) (crashes : CrashesKeep D) (law : MomentsKeep D state) (f g : FlusherState D) (base : RegisterState) (safe : List Entry) (given : List Taken) (h : History base (group_after f) safe given) where
  abbrev old : DiskState
  old = state f.writer.device

  abbrev new : DiskState
  new = state g.writer.device

  abbrev plan : Plan
  plan = f.writer.plan

  abbrev register : RegisterState
  register = f.writer.register

  abbrev Now : List Entry → List Taken → Type 0
  Now entries replied = History base (group_after g) entries replied

  -- from its end on
  keeps_after : (answer : Result FlushCounts KeeperFault) → CommitsTo {T = FlushCounts} state f.writer (entries_between f.end g.end) g.end.state.register g.writer answer
      → (entries : List Entry) (replied : List Taken) → Now entries replied → LeavesSafe f.writer old → LeavesNow new (KeepsEither D g.writer.plan base entries g.writer.doubt replied)
  keeps_after answer c entries replied k leaves = kept_now crashes base (group_after g) entries replied k new (leaves_after state f g answer c leaves)

  -- a turn that received nothing
  module _ (answer : Result FlushCounts KeeperFault) (e : IsEmptyTurn f g answer) (c : CommitsTo {T = FlushCounts} state f.writer (entries_between f.end g.end) g.end.state.register g.writer answer) where
    none_between : c.batch ≡ []
    none_between =
        no_entries c.batch
        (sym c.counted ∙ ap (λ (x : FlusherState D). entries_between f.end x.end) e.same
        ∙ ap (λ (bs : List BatchState). length (entries_of_batches bs)) (drop-length f.end.received))

    no_doubt : f.writer.is_broken ≡ false → f.writer.doubt ≡ []
    no_doubt whole =
        ap (λ (x : FlusherState D). x.writer.doubt) (sym e.same)
        ∙ (subst (λ (r : Result FlushCounts KeeperFault). OnOk r ((g.writer.is_broken ≡ false) × (g.writer.doubt ≡ []))) (e.whole whole) c.is.stays).1

    moments : (b : Bool) → f.writer.is_broken ≡ b → LeavesOnly old new (IsInDoubt plan register f.writer.doubt)
    moments true broken = c.is.safe.while_broken broken
    moments false whole =
        subst (λ (xs : List Entry). LeavesOnly old new (IsInDoubt plan register xs)) (none_between ∙ sym (no_doubt whole)) (c.is.safe.any_moment whole)

    received_none : entries_received f.end g.end ≡ []
    received_none = none_received f.end g.end (tried f.end.tries true) (ap (λ (x : FlusherState D). x.end) e.same)

    same_received : g.end.received ≡ f.end.received ++ []
    same_received = ap (λ (x : FlusherState D). x.end.received) e.same ∙ sym (append-nil f.end.received)

    empty_history : Now (safe ++ []) (given ++ [])
    empty_history =
        subst (λ (x : FlusherState D). History base (group_after x) (safe ++ []) (given ++ [])) (sym e.same)
        (subst (λ (xs : List Entry). History base (group_after f) xs (given ++ [])) (sym (append-nil safe))
        (subst (λ (ts : List Taken). History base (group_after f) safe ts) (sym (append-nil given)) h))

    empty_adds : Adds f g [] []
    empty_adds = record {
      kept = [];
      lost = [];
      received = same_received;
      more_is = refl;
      replied_is = refl;
      was_broken = λ broken. (refl, ap (λ (x : FlusherState D). x.writer.is_broken) e.same ∙ broken);
      is_whole = λ whole. refl;
    }

    -- no event
    pub empty_leads : (w : World) → base ≡ w.base → (terminals : Terminals) → IsPastOf w (group_after f) terminals safe given → FlushLeadsOn f g answer w terminals safe given
    empty_leads w own terminals p = record {
      received = [];
      receives = same_received;
      goes_on = going f g w.base safe given [] [] empty_adds (subst (λ (b : RegisterState). History b (group_after g) (safe ++ []) (given ++ [])) own empty_history);
      letters = [];
      leads = λ folds. record {
        end = w;
        possible = refl;
        past = subst (λ (x : FlusherState D). IsPastOf w (group_after x) terminals (safe ++ []) (given ++ [])) (sym e.same)
            (subst (λ (xs : List Entry). IsPastOf w (group_after f) terminals xs (given ++ [])) (sym (append-nil safe))
            (subst (λ (ts : List Taken). IsPastOf w (group_after f) terminals safe ts) (sym (append-nil given)) p));
      };
    }

    pub empty_stands : FlushStands f g base safe given old new
    empty_stands = record {
      goes_on = going f g base safe given [] [] empty_adds empty_history;
      batch = f.writer.doubt;
      is = on_its_way f.writer.is_broken f.writer.doubt f.writer.doubt (entries_received f.end g.end) (λ whole. no_doubt whole ∙ sym received_none) (λ broken. refl);
      stands = law (group_after f) f.writer.doubt g.writer.device (inl refl) (moments f.writer.is_broken refl) base safe given h;
      now = keeps_after answer c (safe ++ []) (given ++ []) empty_history;
    }

  -- one that received a batch
  module _ (is : IsFlusher f) (same_desk : g.desk ≡ f.desk) (batch : BatchState) where
    abbrev cs : List Command
    cs = commands_in batch.commands

    abbrev with_given : Bool → List Taken
    with_given is_safe = given ++ with_replies cs (replies_of is_safe batch.commands)

    module _ (answer : Result FlushCounts KeeperFault) (t : IsBatchTurn f g batch answer) where
      seats : length batch.desk ≡ length f.seat
      seats =
          ap length (t.receives.next.at_desk ∙ is.at_desk ∙ sym is.seated)
          ∙ length-map f.seat (λ (p : ClerkPlace). p.table)

      answers : (is_safe : Bool) → is_ok answer ≡ is_safe → TakesAndAnswers f.seat g.seat cs (replies_of is_safe batch.commands)
      answers is_safe e =
          answers_them is_safe f.seat g.seat batch.commands (subst (λ (n : ℕ). AreBelow n cs) seats t.at_desk) t.apart
          (subst (λ (b : Bool). AnswersBatch b f.seat batch.commands g.seat) e t.answered)

      shows : f.writer.is_broken ≡ false → batch.after.register ≡ register_of register batch.entries
      shows whole =
          t.decided.shows ∙ ap (λ (r : RegisterState). register_of r batch.entries)
          (ap (λ (s : State). s.register) t.receives.next.on_state ∙ sym (is.safe whole))

      abbrev decides : f.writer.is_broken ≡ false → DecidesOn (record { state = f.end.state; writer = f.writer })
      decides whole = record {
        commands = cs;
        replies = replies_in batch.commands;
        decided = state_with_entries batch;
        apart = t.apart;
        was_whole = whole;
        run = subst (λ (p : Plan). Run p any_eligible f.end.state cs (replies_in batch.commands) (state_with_entries batch)) (t.receives.next.of_building ∙ is.of_building)
            (subst (λ (s : State). Run batch.building any_eligible s cs (replies_in batch.commands) (state_with_entries batch)) t.receives.next.on_state t.decided.run);
        shows = shows whole;
      }

      accepts : f.writer.is_broken ≡ false → MayAccept (record { state = f.end.state; writer = f.writer }) batch.entries
      accepts whole = (decides whole, refl)

      -- its moments
      moments_whole : (whole : f.writer.is_broken ≡ false) → CommitsTo {T = FlushCounts} state f.writer (entries_between f.end g.end) g.end.state.register g.writer answer
          → LeavesOnly old new (IsInDoubt plan register batch.entries)
      moments_whole whole c =
          moment_of state f.writer (entries_between f.end g.end) g.end.state.register g.writer answer c whole batch.entries (ap (λ (s : State). s.register) t.receives.state ∙ shows whole)

      -- what it adds
      receives_one : g.end.received ≡ f.end.received ++ (batch ∷ [])
      receives_one = t.receives.receives

      received_is : batch.entries ≡ entries_received f.end g.end
      received_is = sym (one_received f.end g.end batch t.receives.receives)

      kept_adds : f.writer.is_broken ≡ false → Adds f g (entries_of_batches (batch ∷ [])) (held_in (batch ∷ []) ++ map unknown_to (held_in []))
      kept_adds whole = record {
        kept = batch ∷ [];
        lost = [];
        received = receives_one;
        more_is = refl;
        replied_is = refl;
        was_broken = λ broken. not_both f.writer.is_broken whole broken;
        is_whole = λ still. refl;
      }

      lost_adds : g.writer.is_broken ≡ true → Adds f g [] (held_in [] ++ map unknown_to (held_in (batch ∷ [])))
      lost_adds breaks = record {
        kept = [];
        lost = batch ∷ [];
        received = receives_one;
        more_is = refl;
        replied_is = refl;
        was_broken = λ broken. (refl, breaks);
        is_whole = λ still. not_both g.writer.is_broken still breaks;
      }

      kept_told : with_given true ≡ given ++ (held_in (batch ∷ []) ++ map unknown_to (held_in []))
      kept_told = ap (λ (ts : List Taken). given ++ ts)
          (sym (append-nil (with_replies cs (replies_in batch.commands))) ∙ sym (append-nil (held_in (batch ∷ []))))

      lost_told : with_given false ≡ given ++ (held_in [] ++ map unknown_to (held_in (batch ∷ [])))
      lost_told = ap (λ (ts : List Taken). given ++ ts)
          (held_is false batch.commands ∙ ap (map unknown_to) (sym (held_is true batch.commands) ∙ sym (append-nil (with_replies cs (replies_in batch.commands)))))

    -- it answers Ok
    module _ (counts : FlushCounts) (t : IsBatchTurn f g batch (Ok counts)) (c : CommitsTo {T = FlushCounts} state f.writer (entries_between f.end g.end) g.end.state.register g.writer (Ok counts)) where
      was_whole : f.writer.is_broken ≡ false
      was_whole = is_whole f.writer.is_broken (λ broken. let wrong : Ok counts ≡ Err (Journal Broken) = c.is.broken.1 broken in absurd (cc))

      abbrev makes_safe : TurnMakesSafe (group_after f) (group_after g)
      makes_safe = record {
        desk = same_desk;
        decides = decides (Ok counts) t was_whole;
        answers = answers (Ok counts) t true refl;
        state = t.receives.state ∙ (λ i. record batch.after { batch = t.decided.sealed.1 i });
        safe = safe_register state f.writer (entries_between f.end g.end) g.end.state.register g.writer (Ok counts) c ∙ ap (λ (s : State). s.register) t.receives.state;
        is_whole = c.is.stays.0;
        no_doubt = c.is.stays.1;
        same_plan = c.is.same.0;
      }

      safe_history : Now (safe ++ entries_of_batches (batch ∷ [])) (given ++ (held_in (batch ∷ []) ++ map unknown_to (held_in [])))
      safe_history = subst (λ (xs : List Entry). Now (safe ++ xs) (given ++ (held_in (batch ∷ []) ++ map unknown_to (held_in [])))) (sym (append-nil batch.entries))
          (subst (λ (ts : List Taken). Now (safe ++ batch.entries) ts) (kept_told (Ok counts) t) (Turned h (Safe makes_safe)))

      pub safe_stands : FlushStands f g base safe given old new
      safe_stands = record {
        goes_on = going f g base safe given (entries_of_batches (batch ∷ [])) (held_in (batch ∷ []) ++ map unknown_to (held_in [])) (kept_adds (Ok counts) t was_whole) safe_history;
        batch = batch.entries;
        is = on_its_way f.writer.is_broken batch.entries f.writer.doubt (entries_received f.end g.end) (λ whole. received_is (Ok counts) t) (λ broken. not_both f.writer.is_broken was_whole broken);
        stands = law (group_after f) batch.entries g.writer.device (inr (accepts (Ok counts) t was_whole)) (moments_whole (Ok counts) t was_whole c) base safe given h;
        now = keeps_after (Ok counts) c (safe ++ entries_of_batches (batch ∷ [])) (given ++ (held_in (batch ∷ []) ++ map unknown_to (held_in []))) safe_history;
      }

      pub safe_leads : PastsGoOn D → (w : World) → base ≡ w.base → (terminals : Terminals) → IsPastOf w (group_after f) terminals safe given → TakesAsks (group_after g) terminals
          → FlushLeadsOn f g (Ok counts) w terminals safe given
      safe_leads past w own terminals p takes =
          let k = past.batches (group_after f) (group_after g) makes_safe w terminals safe given p takes in
          record {
            received = batch ∷ [];
            receives = receives_one (Ok counts) t;
            goes_on = going f g w.base safe given (entries_of_batches (batch ∷ [])) (held_in (batch ∷ []) ++ map unknown_to (held_in [])) (kept_adds (Ok counts) t was_whole)
                (subst (λ (b : RegisterState). History b (group_after g) (safe ++ entries_of_batches (batch ∷ [])) (given ++ (held_in (batch ∷ []) ++ map unknown_to (held_in [])))) own safe_history);
            letters = k.0;
            leads = λ folds.
                let es : List Event = flush_events (batch ∷ []) true f.writer.is_broken k.0 folds in
                subst (λ (xs : List Entry). LeadsToPast w es (group_after g) terminals (safe ++ xs) (given ++ (held_in (batch ∷ []) ++ map unknown_to (held_in [])))) (sym (append-nil batch.entries))
                (subst (λ (ts : List Taken). LeadsToPast w es (group_after g) terminals (safe ++ batch.entries) ts) (kept_told (Ok counts) t) (k.1 folds));
          }

    -- or it doesn't
    module _ (fault : KeeperFault) (t : IsBatchTurn f g batch (Err fault)) (c : CommitsTo {T = FlushCounts} state f.writer (entries_between f.end g.end) g.end.state.register g.writer (Err fault)) where
      lost_history : Now safe (with_given false) → Now (safe ++ []) (given ++ (held_in [] ++ map unknown_to (held_in (batch ∷ []))))
      lost_history k = subst (λ (xs : List Entry). Now xs (given ++ (held_in [] ++ map unknown_to (held_in (batch ∷ []))))) (sym (append-nil safe))
          (subst (λ (ts : List Taken). Now safe ts) (lost_told (Err fault) t) k)

      lost_now : Now safe (with_given false) → LeavesSafe f.writer old → LeavesNow new (KeepsEither D g.writer.plan base (safe ++ []) g.writer.doubt (given ++ (held_in [] ++ map unknown_to (held_in (batch ∷ [])))))
      lost_now k = keeps_after (Err fault) c (safe ++ []) (given ++ (held_in [] ++ map unknown_to (held_in (batch ∷ [])))) (lost_history k)

      abbrev lost_goes_on : Now safe (with_given false) → GoesOnTo f g base safe given
      lost_goes_on k = going f g base safe given [] (held_in [] ++ map unknown_to (held_in (batch ∷ []))) (lost_adds (Err fault) t c.is.breaks) (lost_history k)

      abbrev leaves_in_doubt : f.writer.is_broken ≡ false → fault ≡ Journal Disk → LeavesInDoubt (group_after f) (group_after g)
      leaves_in_doubt whole e =
          let is_disk : Err fault ≡ Err (Journal Disk) = ap (λ (x : KeeperFault). Err x) e in
          record {
            may = (decides (Err fault) t whole, sym (t.fails is_disk).0);
            desk = same_desk;
            answers = answers (Err fault) t false refl;
            some = some_long batch.entries (t.fails is_disk).1;
            breaks = c.is.breaks;
            same_register = c.is.unmoved;
            same_plan = c.is.same.0;
          }

      abbrev answers_unknown : f.writer.is_broken ≡ true → AnswersUnknown (group_after f) (group_after g)
      answers_unknown broken = record {
        commands = cs;
        desk = same_desk;
        answers = answers (Err fault) t false refl;
        was_broken = broken;
        rests = c.is.rests broken;
      }

      disk_stands : f.writer.is_broken ≡ false → fault ≡ Journal Disk → FlushStands f g base safe given old new
      disk_stands whole e = record {
        goes_on = lost_goes_on (failed h (leaves_in_doubt whole e));
        batch = batch.entries;
        is = on_its_way f.writer.is_broken batch.entries f.writer.doubt (entries_received f.end g.end) (λ still. received_is (Err fault) t) (λ broken. not_both f.writer.is_broken whole broken);
        stands = law (group_after f) batch.entries g.writer.device (inr (accepts (Err fault) t whole)) (moments_whole (Err fault) t whole c) base safe given h;
        now = lost_now (failed h (leaves_in_doubt whole e));
      }

      broken_stands : f.writer.is_broken ≡ true → FlushStands f g base safe given old new
      broken_stands broken = record {
        goes_on = lost_goes_on (turned_while_broken h (answers_unknown broken));
        batch = f.writer.doubt;
        is = on_its_way f.writer.is_broken f.writer.doubt f.writer.doubt (entries_received f.end g.end) (λ whole. not_both f.writer.is_broken whole broken) (λ still. refl);
        stands = law (group_after f) f.writer.doubt g.writer.device (inl refl) (c.is.safe.while_broken broken) base safe given h;
        now = lost_now (turned_while_broken h (answers_unknown broken));
      }

      lost_leads : (w : World) → base ≡ w.base → Now safe (with_given false) → (terminals : Terminals) (was : Bool) (letters : List (Option ℕ)) → f.writer.is_broken ≡ was
          → ((folds : ℕ) → LeadsToPast w (flush_events (batch ∷ []) false was letters folds) (group_after g) terminals (safe ++ []) (with_given false)) → FlushLeadsOn f g (Err fault) w terminals safe given
      lost_leads w own k terminals was letters is leads = record {
        received = batch ∷ [];
        receives = receives_one (Err fault) t;
        goes_on = going f g w.base safe given [] (held_in [] ++ map unknown_to (held_in (batch ∷ []))) (lost_adds (Err fault) t c.is.breaks)
            (subst (λ (b : RegisterState). History b (group_after g) (safe ++ []) (given ++ (held_in [] ++ map unknown_to (held_in (batch ∷ []))))) own (lost_history k));
        letters = letters;
        leads = λ folds.
            subst (λ (b : Bool). LeadsToPast w (flush_events (batch ∷ []) false b letters folds) (group_after g) terminals (safe ++ []) (given ++ (held_in [] ++ map unknown_to (held_in (batch ∷ []))))) (sym is)
            (subst (λ (ts : List Taken). LeadsToPast w (flush_events (batch ∷ []) false was letters folds) (group_after g) terminals (safe ++ []) ts) (lost_told (Err fault) t) (leads folds));
      }

      leads_by_cause : PastsGoOn D → (w : World) → base ≡ w.base → (terminals : Terminals) → IsPastOf w (group_after f) terminals safe given → TakesAsks (group_after g) terminals
          → f.writer.is_broken ≡ false → (fault ≡ Journal Disk) ⊎ (fault ≡ Journal Broken) → FlushLeadsOn f g (Err fault) w terminals safe given
      leads_by_cause past w own terminals p takes whole (inl e) =
          let k = past.doubts (group_after f) (group_after g) (leaves_in_doubt whole e) w terminals safe given p takes in
          lost_leads w own (failed h (leaves_in_doubt whole e)) terminals false k.0 whole k.1
      leads_by_cause past w own terminals p takes whole (inr e) = not_both f.writer.is_broken whole (c.is.broken.0 (ap (λ (x : KeeperFault). Err x) e))

      pub fault_leads : PastsGoOn D → (w : World) → base ≡ w.base → (terminals : Terminals) → IsPastOf w (group_after f) terminals safe given → TakesAsks (group_after g) terminals
          → (b : Bool) → f.writer.is_broken ≡ b → FlushLeadsOn f g (Err fault) w terminals safe given
      fault_leads past w own terminals p takes true broken =
          let k = past.unknowns (group_after f) (group_after g) (answers_unknown broken) w terminals safe given p takes in
          lost_leads w own (turned_while_broken h (answers_unknown broken)) terminals true k.0 broken k.1
      fault_leads past w own terminals p takes false whole = leads_by_cause past w own terminals p takes whole c.is.causes

      by_cause : f.writer.is_broken ≡ false → (fault ≡ Journal Disk) ⊎ (fault ≡ Journal Broken) → FlushStands f g base safe given old new
      by_cause whole (inl e) = disk_stands whole e
      by_cause whole (inr e) = not_both f.writer.is_broken whole (c.is.broken.0 (ap (λ (x : KeeperFault). Err x) e))

      pub fault_stands : (b : Bool) → f.writer.is_broken ≡ b → FlushStands f g base safe given old new
      fault_stands true broken = broken_stands broken
      fault_stands false whole = by_cause whole c.is.causes

    pub batch_stands : (answer : Result FlushCounts KeeperFault) → IsBatchTurn f g batch answer → CommitsTo {T = FlushCounts} state f.writer (entries_between f.end g.end) g.end.state.register g.writer answer
        → FlushStands f g base safe given old new
    batch_stands (Ok counts) t c = safe_stands counts t c
    batch_stands (Err fault) t c = fault_stands fault t c f.writer.is_broken refl

    pub batch_leads : PastsGoOn D → (w : World) → base ≡ w.base → (terminals : Terminals) → IsPastOf w (group_after f) terminals safe given → TakesAsks (group_after g) terminals
        → (answer : Result FlushCounts KeeperFault) → IsBatchTurn f g batch answer → CommitsTo {T = FlushCounts} state f.writer (entries_between f.end g.end) g.end.state.register g.writer answer
        → FlushLeadsOn f g answer w terminals safe given
    batch_leads past w own terminals p takes (Ok counts) t c = safe_leads counts t c past w own terminals p takes
    batch_leads past w own terminals p takes (Err fault) t c = fault_leads fault t c past w own terminals p takes f.writer.is_broken refl

pub flushes_stand : {D : Type 0} (state : D → DiskState) → CrashesKeep D → MomentsKeep D state → FlushesStand D state
flushes_stand state crashes law f g answer k base safe given h =
    ⊎_elim (λ e. empty_stands state crashes law f g base safe given h answer e (commits_to state f g answer k))
    (λ t. batch_stands state crashes law f g base safe given h k.before k.same.0 t.0 answer t.1 (commits_to state f g answer k)) k.turns

pub flushes_lead_on : {D : Type 0} (state : D → DiskState) → CrashesKeep D → MomentsKeep D state → PastsGoOn D → FlushesLeadOn D state
flushes_lead_on state crashes law past f g answer k w terminals safe given p takes =
    ⊎_elim (λ e. empty_leads state crashes law f g w.base safe given p.history answer e (commits_to state f g answer k) w refl terminals p)
    (λ t. batch_leads state crashes law f g w.base safe given p.history k.before k.same.0 t.0 past w refl terminals p takes answer t.1 (commits_to state f g answer k)) k.turns

-- ---- any number of turns
entries_both : (xs ys : List BatchState) → entries_of_batches (xs ++ ys) ≡ entries_of_batches xs ++ entries_of_batches ys
entries_both [] ys = refl
entries_both (x ∷ xs) ys = ap (λ (es : List Entry). x.entries ++ es) (entries_both xs ys) ∙ sym (append_assoc x.entries (entries_of_batches xs) (entries_of_batches ys))

held_both : (xs ys : List BatchState) → held_in (xs ++ ys) ≡ held_in xs ++ held_in ys
held_both [] ys = refl
held_both (x ∷ xs) ys =
    let replied : List Taken = with_replies (commands_in x.commands) (replies_in x.commands) in
    ap (λ (hs : List Taken). replied ++ hs) (held_both xs ys) ∙ sym (append_assoc replied (held_in xs) (held_in ys))

module _ {D : Type 0} (f m g : FlusherState D) (base : RegisterState) (safe : List Entry) (given : List Taken) where
  adds_both : (a b : List Entry) (u v : List Taken) → Adds f m a u → Adds m g b v → (was : Bool) → m.writer.is_broken ≡ was → Adds f g (a ++ b) (u ++ v)
  adds_both a b u v x y true broken =
      let none : y.kept ≡ [] = (y.was_broken broken).0 in
      let now : g.writer.is_broken ≡ true = (y.was_broken broken).1 in
      record {
        kept = x.kept;
        lost = x.lost ++ y.lost;
        received = y.received ∙ ap (λ (bs : List BatchState). m.end.received ++ (bs ++ y.lost)) none ∙ ap (λ (bs : List BatchState). bs ++ y.lost) x.received
            ∙ append_assoc f.end.received (x.kept ++ x.lost) y.lost ∙ ap (λ (bs : List BatchState). f.end.received ++ bs) (append_assoc x.kept x.lost y.lost);
        more_is = ap (λ (es : List Entry). a ++ es) (y.more_is ∙ ap entries_of_batches none) ∙ append-nil a ∙ x.more_is;
        replied_is = ap (λ (hs : List Taken). u ++ hs) (y.replied_is ∙ ap (λ (bs : List BatchState). held_in bs ++ map unknown_to (held_in y.lost)) none)
            ∙ ap (λ (hs : List Taken). hs ++ map unknown_to (held_in y.lost)) x.replied_is ∙ append_assoc (held_in x.kept) (map unknown_to (held_in x.lost)) (map unknown_to (held_in y.lost))
            ∙ ap (λ (hs : List Taken). held_in x.kept ++ hs) (sym (map-append unknown_to (held_in x.lost) (held_in y.lost)) ∙ ap (map unknown_to) (sym (held_both x.lost y.lost)));
        was_broken = λ was. ((x.was_broken was).0, now);
        is_whole = λ whole. not_both g.writer.is_broken whole now;
      }
  adds_both a b u v x y false whole =
      let none : x.lost ≡ [] = x.is_whole whole in
      let kept : x.kept ++ x.lost ≡ x.kept = ap (λ (bs : List BatchState). x.kept ++ bs) none ∙ append-nil x.kept in
      record {
        kept = x.kept ++ y.kept;
        lost = y.lost;
        received = y.received ∙ ap (λ (bs : List BatchState). bs ++ (y.kept ++ y.lost)) (x.received ∙ ap (λ (bs : List BatchState). f.end.received ++ bs) kept)
            ∙ append_assoc f.end.received x.kept (y.kept ++ y.lost) ∙ ap (λ (bs : List BatchState). f.end.received ++ bs) (sym (append_assoc x.kept y.kept y.lost));
        more_is = ap (λ (es : List Entry). es ++ b) x.more_is ∙ ap (λ (es : List Entry). entries_of_batches x.kept ++ es) y.more_is ∙ sym (entries_both x.kept y.kept);
        replied_is = ap (λ (hs : List Taken). hs ++ v) (x.replied_is ∙ ap (λ (bs : List BatchState). held_in x.kept ++ map unknown_to (held_in bs)) none ∙ append-nil (held_in x.kept))
            ∙ ap (λ (hs : List Taken). held_in x.kept ++ hs) y.replied_is ∙ sym (append_assoc (held_in x.kept) (held_in y.kept) (map unknown_to (held_in y.lost)))
            ∙ ap (λ (hs : List Taken). hs ++ map unknown_to (held_in y.lost)) (sym (held_both x.kept y.kept));
        was_broken = λ was. not_both m.writer.is_broken whole (x.was_broken was).1;
        is_whole = y.is_whole;
      }

  goes_both : (x : GoesOnTo f m base safe given) → GoesOnTo m g base (safe ++ x.more) (given ++ x.replied) → GoesOnTo f g base safe given
  goes_both x y = going f g base safe given (x.more ++ y.more) (x.replied ++ y.replied) (adds_both x.more y.more x.replied y.replied (adds_of x) (adds_of y) m.writer.is_broken refl)
      (subst (λ (es : List Entry). History base (group_after g) es (given ++ (x.replied ++ y.replied))) (append_assoc safe x.more y.more)
      (subst (λ (hs : List Taken). History base (group_after g) ((safe ++ x.more) ++ y.more) hs) (append_assoc given x.replied y.replied) y.history))

goes_nowhere : {D : Type 0} (f : FlusherState D) (base : RegisterState) (safe : List Entry) (given : List Taken) → History base (group_after f) safe given → GoesOnTo f f base safe given
goes_nowhere f base safe given h = going f f base safe given [] []
    (record {
      kept = [];
      lost = [];
      received = sym (append-nil f.end.received);
      more_is = refl;
      replied_is = refl;
      was_broken = λ broken. (refl, broken);
      is_whole = λ whole. refl;
    })
    (subst (λ (es : List Entry). History base (group_after f) es (given ++ [])) (sym (append-nil safe)) (subst (λ (hs : List Taken). History base (group_after f) safe hs) (sym (append-nil given)) h))

module _ {D : Type 0} (state : D → DiskState) (crashes : CrashesKeep D) (law : MomentsKeep D state) where
  pub turns_go_on : TurnsGoOn D state
  turns_go_on f g first last NoFlush base safe given h = goes_nowhere f base safe given h
  turns_go_on f g first last (OneFlush {g = m} {first = before} {answer = answer} more flush is) base safe given h =
      let x = turns_go_on f m first before more base safe given h in
      let y = flushes_stand state crashes law m g answer flush base (safe ++ x.more) (given ++ x.replied) x.history in
      goes_both f m g base safe given x y.goes_on

-- ---- splits and joins
split_rests : {D P : Type 0} (clerk : ClerkState D P) (f : FlusherState D) → f.desk ≡ clerk.desk → f.seat ≡ clerk.seat → f.writer ≡ clerk.keeper.writer
    → (clerk.keeper.writer.is_broken ≡ false → f.end.state ≡ clerk.keeper.state) → ClerkRests (group_of clerk) (group_after f)
split_rests {D} clerk f desk seat writer state = record {
  desk = desk;
  words = λ t. (ap (λ (s : List ClerkPlace). (view_at s t).taken) seat, ap (λ (s : List ClerkPlace). (view_at s t).answered) seat);
  state = λ whole. state (ap (λ (w : WriterView D). w.is_broken) (sym writer) ∙ whole);
  register = ap (λ (w : WriterView D). w.register) writer;
  doubt = ap (λ (w : WriterView D). w.doubt) writer;
  plan = ap (λ (w : WriterView D). w.plan) writer;
  broken = inr (ap (λ (w : WriterView D). w.is_broken) writer);
}

join_rests : {D P : Type 0} (clerk : ClerkState D P) (f : FlusherState D) → clerk.desk ≡ f.desk → (ahead : List ClerkPlace) → clerk.seat ≡ with_looks_of ahead f.seat → clerk.keeper.writer ≡ f.writer → clerk.keeper.state ≡ f.end.state
    → ClerkRests (group_after f) (group_of clerk)
join_rests {D} clerk f desk ahead seat writer state = record {
  desk = desk;
  words = λ t.
      let same = words_with_looks ahead f.seat t in
      (ap (λ (s : List ClerkPlace). (view_at s t).taken) seat ∙ same.0, ap (λ (s : List ClerkPlace). (view_at s t).answered) seat ∙ same.1);
  state = λ whole. state;
  register = ap (λ (w : WriterView D). w.register) writer;
  doubt = ap (λ (w : WriterView D). w.doubt) writer;
  plan = ap (λ (w : WriterView D). w.plan) writer;
  broken = inr (ap (λ (w : WriterView D). w.is_broken) writer);
}

pub splits_go_on : {D P : Type 0} → SplitsGoOn D P
splits_go_on clerk f base safe given desk seat writer state h = Rested h (split_rests clerk f desk seat writer state)

pub joined_go_on : {D P : Type 0} → JoinedGoOn D P
joined_go_on clerk f ahead base safe given desk seat writer state h = Rested h (join_rests clerk f desk ahead seat writer state)

pub splits_keep_pasts : {D P : Type 0} → PastsGoOn D → SplitsPreservePasts D P
splits_keep_pasts {D} past w clerk f terminals safe given desk seat writer state p =
    past.rests w (group_of clerk) (group_after f) terminals safe given p (split_rests clerk f desk seat writer state) (ap (λ (w : WriterView D). w.is_broken) writer)

pub joined_keep_pasts : {D P : Type 0} → PastsGoOn D → JoinsPreservePasts D P
joined_keep_pasts {D} past w clerk f ahead terminals safe given desk seat writer state p =
    past.rests w (group_after f) (group_of clerk) terminals safe given p (join_rests clerk f desk ahead seat writer state) (ap (λ (w : WriterView D). w.is_broken) writer)
