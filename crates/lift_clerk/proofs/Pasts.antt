-- The group's world and its whole past go on in one.
use Rattle.std.proofs.Common.{◌≡◌, ◌≢◌, inl, inr, ℕ, ◌≤◌, List, [], ◌∷◌, ◌++◌, map, length, drop, Some, refl, sym, ap, ◌∙◌, subst, arith}
use Rattle.std.specs.Prelude.{All, filter, count_by}
use Rattle.std.specs.List.{AllByRecursion}
use Rattle.std.proofs.lemmas.List.{length-append, length-map, append-nil}
use Rattle.std.proofs.lemmas.List.Elements.{All-nil}
use Rattle.std.proofs.lemmas.List.Sums.{length-filter}
use Rattle.lift_base.specs.declared.history.Entry.{Entry}
use Rattle.lift_base.specs.declared.command.Reply.{Reply}
use Rattle.lift_disk.specs.Disk.{Image}
use Rattle.lift_register.specs.Register.{RegisterState}
use Rattle.lift_desk.specs.declared.view.TerminalView.{TerminalView}
use Rattle.lift_desk.specs.declared.view.ClerkView.{ClerkView}
use Rattle.lift_desk.specs.Rule.{no_asks, no_answers}
use Rattle.lift_desk.specs.Spelled.{ask_words, IsAsk}
use Rattle.lift_desk.specs.Seats.{ClerkPlace, view_at}
use Rattle.lift_keeper.specs.Images.{IsInDoubt}
use Rattle.lift_policy.specs.declared.command.Command.{Command}
use Rattle.lift_world.specs.declared.event.Event.{Event}
use Rattle.lift_world.specs.declared.event.Event.TheVariants.{Fault, Cut as CutEvent, Reopen}
use Rattle.lift_world.specs.declared.event.Taken.{Taken}
use Rattle.lift_world.specs.World.{World, start, asks, is_answer_to, safe_list}
use Rattle.lift_world.specs.Next.{goes}
use Rattle.lift_clerk.specs.TakenAndAnswered.{TakesAndAnswers, answer_words, ask_of}
use Rattle.lift_clerk.specs.Steps.{GroupState, Safe, MayAdd}
use Rattle.lift_clerk.specs.Tied.{IsReached}
use Rattle.lift_clerk.specs.Machine.{IsMachineOf, LeadsToClerk, WaitsNowhere, waiting_in, IsNewClerk, kept_after}
use Rattle.lift_clerk.specs.Laws.{Laws}
use Rattle.lift_policy.specs.Run.{unknowns as all_unknown}
use Rattle.lift_clerk.specs.History.{History, Began, Turned, Reopened, Rested, Cut, BeginsOver}
use Rattle.lift_clerk.specs.Group.{Terminals, ShowsTerminal, IsGroup, TakesAsks}
use Rattle.lift_clerk.specs.Past.{IsPastOf, LeadsToPast, PastsBegin, AsksAreAsks, HearsAreHears, ReadsAreNoEvents, BatchesAreTurns, DoubtsAreFailures, UnknownsAreBroken, ReopeningsAreReopenings}
use Rattle.lift_clerk.specs.Past.{RestsAreNoEvents, FirstFaultsAreFaults, CutsAreCuts, PastsGoOn}
use Rattle.lift_world.specs.lemmas.Goes.{joined}
use Rattle.lift_clerk.specs.lemmas.Adding.{failed, turned_while_broken}
use Rattle.lift_clerk.specs.lemmas.Turned.{batches_are_turns}
use Rattle.lift_clerk.specs.lemmas.Reopened.{new_view, reopenings_are_reopenings, rests_are_no_events, faults_are_events, begins_at_start}
use Rattle.lift_clerk.specs.lemmas.Found.{few}
use Rattle.lift_clerk.specs.lemmas.Words.{asks_count}
use Rattle.lift_clerk.proofs.Doubts.{failed_batches_are_failures, unknowns_are_broken_turns}
use Rattle.lift_clerk.proofs.Crashes.{IsCutAt, IsKept, crashes_are_cuts, cuts_at, begins_after_crash}
use Rattle.lift_clerk.specs.lemmas.Tied.{hears, empty_of}
use Rattle.lift_clerk.proofs.Groups.{same_terminal, asks_is_ask, hears_is_hear, told_answers_are_heard, reads_are_no_events as reads_change_nothing}
use Rattle.lift_clerk.proofs.Stood.{Stand, stand_agree, stand_waits, asked_stand, taken_asked}

module _ {D : Type 0} (laws : Laws) where
  -- at a new desk nothing was asked
  module _ (w : World) (clerk : GroupState D) (m : IsMachineOf w clerk) (b : IsNewClerk clerk) (none : WaitsNowhere w) (t : ℕ) where
    no_words : view_at clerk.seat t ≡ no_answers
    no_words = ap (λ (s : List ClerkPlace). view_at s t) b.seat ∙ new_view clerk.desk t

    nothing_answered : count_by (is_answer_to t) w.answered ≡ 0
    nothing_answered =
        let k = m.words t in
        let even = k.even in
        omega (arith, ap length (sym k.looked ∙ ap (λ (v : ClerkView). v.taken) no_words), asks_count 1 (map ask_of k.first), length-map k.first ask_of)

    nothing_asked : filter (asks t) w.asked ≡ []
    nothing_asked = ap (λ (n : ℕ). drop n (filter (asks t) w.asked)) (sym nothing_answered) ∙ none t

    nothing_heard : filter (is_answer_to t) w.heard ≡ []
    nothing_heard =
        let order = hears laws w m.reached t in
        empty_of (filter (is_answer_to t) w.heard)
        (omega (
          arith,
          nothing_answered,
          length-append (filter (is_answer_to t) w.heard) order.0,
          ap length order.1,
          length-filter (is_answer_to t) w.answered,
        ))

    new_terminal : (view : TerminalView) → view ≡ no_asks → ShowsTerminal w t view
    new_terminal view e = subst (λ (v : TerminalView). ShowsTerminal w t v) (sym e) (record {
      asked = ap (λ (cs : List Command). ask_words 1 (map ask_of cs)) (sym nothing_asked);
      heard = ap (answer_words 1) (sym nothing_heard);
      in_range = subst (λ (cs : List Command). All IsAsk (map ask_of cs)) (sym nothing_asked) (All-nil IsAsk);
    })

  new_group : (w : World) (clerk : GroupState D) (fresh : Terminals) → IsMachineOf w clerk → IsNewClerk clerk → WaitsNowhere w → ((t : ℕ) → fresh t ≡ no_asks) → IsGroup w clerk fresh
  new_group w clerk fresh m b none new = record { machine = m; theirs = λ t. new_terminal w clerk m b none t (fresh t) (new t) }

  -- terminals of whom nothing changed
  same_group : (w end : World) (clerk : GroupState D) (terminals : Terminals) → end.asked ≡ w.asked → end.heard ≡ w.heard → ((t : ℕ) → ShowsTerminal w t (terminals t))
      → IsMachineOf end clerk → IsGroup end clerk terminals
  same_group w end clerk terminals a h theirs m = record {
    machine = m;
    theirs = λ t. same_terminal w end t (terminals t) (terminals t) (ap (filter (asks t)) a) (ap (filter (is_answer_to t)) h) refl refl (theirs t);
  }

  -- from where a step follows
  follow : (w : World) (own : List Event) (given more : List Taken) (keep : List Entry → List Entry) (safe : List Entry) (after : GroupState D) (terminals : Terminals)
      → ((t : ℕ) → ShowsTerminal w t (terminals t)) → safe_list w ≡ safe → w.given ≡ given → AllByRecursion (λ (c : Taken). waiting_in w c.terminal ≢ []) more
      → History w.base after (keep safe) (given ++ more) → LeadsToClerk w own more (keep (safe_list w)) after → LeadsToPast w own after terminals (keep safe) (given ++ more)
  follow w own given more keep safe after terminals theirs s g stands h k =
      let still = k.alone stands in
      record {
        end = k.end;
        possible = ap (λ (es : List Event). goes (es ++ own) w) (sym still.0) ∙ k.possible;
        past = record {
          shows = same_group w k.end after terminals still.1 still.2 theirs k.shows;
          history = subst (λ (b : RegisterState). History b after (keep safe) (given ++ more)) (sym k.same_base) h;
          safe_is = k.safe_is ∙ ap keep s;
          given_is = k.given_is ∙ ap (λ (ts : List Taken). ts ++ more) g;
        };
      }

  -- where nothing more was given, or is safe
  none_given : (w : World) (own : List Event) (given : List Taken) (keep : List Entry → List Entry) (safe : List Entry) (after : GroupState D) (terminals : Terminals)
      → ((t : ℕ) → ShowsTerminal w t (terminals t)) → safe_list w ≡ safe → w.given ≡ given → History w.base after (keep safe) given → LeadsToClerk w own [] (keep (safe_list w)) after
      → LeadsToPast w own after terminals (keep safe) given
  none_given w own given keep safe after terminals theirs s g h k =
      subst (λ (ts : List Taken). LeadsToPast w own after terminals (keep safe) ts) (append-nil given)
      (follow w own given [] keep safe after terminals theirs s g tt (subst (λ (ts : List Taken). History w.base after (keep safe) ts) (sym (append-nil given)) h) k)

  none_safe : (w : World) (own : List Event) (given : List Taken) (safe : List Entry) (after : GroupState D) (terminals : Terminals)
      → LeadsToPast w own after terminals safe given → LeadsToPast w own after terminals (safe ++ []) given
  none_safe w own given safe after terminals k = subst (λ (xs : List Entry). LeadsToPast w own after terminals xs given) (sym (append-nil safe)) k

  at_most : (w : World) (clerk : GroupState D) (m : IsMachineOf w clerk) (t : ℕ) → length (m.words t).waiting ≤ 1
  at_most w clerk m t = let one = few laws w m.reached t (m.words t) in omega arith

  -- what a step takes stands
  stood : (w : World) (before after : GroupState D) (terminals : Terminals) (cs : List Command) (rs : List Reply) → IsGroup w before terminals → TakesAndAnswers before.seat after.seat cs rs
      → TakesAsks after terminals → Stand w cs
  stood w before after terminals cs rs g answers takes =
      asked_stand w before terminals g (at_most w before g.machine) cs answers.apart (taken_asked before after terminals cs rs answers takes)

  begin : PastsBegin D
  begin group terminals sound of b new =
      let k = begins_at_start laws group b of in
      record { shows = new_group (start group.keeper.writer.plan group.keeper.writer.register) group terminals k.0 b k.1 new; history = Began sound of b refl; safe_is = refl; given_is = refl }

  asks_are_asks : AsksAreAsks D
  asks_are_asks group before after t ask a w safe given p =
      let k = asks_is_ask laws w group before after t p.shows ask a in
      record { end = k.0; possible = k.1; past = record { shows = k.2; history = subst (λ (b : RegisterState). History b group safe given) (sym k.5) p.history; safe_is = k.3 ∙ p.safe_is; given_is = k.4 ∙ p.given_is } }

  hears_are_hears : HearsAreHears D
  hears_are_hears group before after t word reply h front w safe given p =
      let k = hears_is_hear laws w group before after t p.shows word reply h front in
      record { end = k.0; possible = k.1; past = record { shows = k.2; history = subst (λ (b : RegisterState). History b group safe given) (sym k.5) p.history; safe_is = k.3 ∙ p.safe_is; given_is = k.4 ∙ p.given_is } }

  reads_are_no_events : ReadsAreNoEvents D
  reads_are_no_events group before after t view c r w safe given p =
      record { shows = reads_change_nothing w group before after t view p.shows c r; history = p.history; safe_is = p.safe_is; given_is = p.given_is }

  batches : BatchesAreTurns D
  batches before after t w terminals safe given p takes =
      let stand = stood w before after terminals t.decides.commands t.decides.replies p.shows t.answers takes in
      let k = batches_are_turns laws w before after t p.shows.machine (stand_agree w t.decides.commands stand) in (
        k.0,
        λ folds. follow w _ given _ (λ (xs : List Entry). xs ++ t.decides.decided.batch) safe after terminals p.shows.theirs p.safe_is p.given_is (stand_waits w t.decides.commands t.decides.replies stand)
            (Turned p.history (Safe t)) (k.1 folds),
      )

  doubts : DoubtsAreFailures D
  doubts before after t w terminals safe given p takes =
      let stand = stood w before after terminals t.may.0.commands (all_unknown t.may.0.commands) p.shows t.answers takes in
      let k = failed_batches_are_failures laws w before after t p.shows.machine (stand_agree w t.may.0.commands stand) in (
        k.0,
        λ folds. none_safe w _ _ safe after terminals
            (follow w _ given _ (λ (xs : List Entry). xs) safe after terminals p.shows.theirs p.safe_is p.given_is (stand_waits w t.may.0.commands (all_unknown t.may.0.commands) stand) (failed p.history t) (k.1 folds)),
      )

  unknowns : UnknownsAreBroken D
  unknowns before after t w terminals safe given p takes =
      let stand = stood w before after terminals t.commands (all_unknown t.commands) p.shows t.answers takes in
      let k = unknowns_are_broken_turns laws w before after t p.shows.machine (stand_agree w t.commands stand) in (
        k.0,
        λ folds. none_safe w _ _ safe after terminals
            (follow w _ given _ (λ (xs : List Entry). xs) safe after terminals p.shows.theirs p.safe_is p.given_is (stand_waits w t.commands (all_unknown t.commands) stand) (turned_while_broken p.history t) k.1),
      )

  reopenings : ReopeningsAreReopenings D
  reopenings w before after terminals safe given p r =
      let k = reopenings_are_reopenings laws w before after r p.shows.machine in
      (k.0, none_given w _ given (λ xs. kept_after xs before.keeper.writer.doubt r.one_of) safe after terminals p.shows.theirs p.safe_is p.given_is (Reopened p.history r) k.3)

  no_events : RestsAreNoEvents D
  no_events w before after terminals safe given p s same = record {
    shows = record { machine = rests_are_no_events w before after s same p.shows.machine; theirs = p.shows.theirs };
    history = Rested p.history s;
    safe_is = p.safe_is;
    given_is = p.given_is;
  }

  faults : FirstFaultsAreFaults D
  faults w before after terminals safe given p s was is =
      none_given w (Fault ∷ []) given (λ (xs : List Entry). xs) safe after terminals p.shows.theirs p.safe_is p.given_is (Rested p.history s) (faults_are_events laws w before after s was is p.shows.machine)

  -- a clerk that begins over what a cut left
  over : (w there : World) (events : List Event) (before after : GroupState D) (terminals fresh : Terminals) (safe batch : List Entry) (given : List Taken) (image : Image)
      → (p : IsPastOf w before terminals safe given) → (may : MayAdd before.keeper batch)
      → (doubt : IsInDoubt before.keeper.writer.plan before.keeper.writer.register batch image)
      → (b : BeginsOver before.keeper.writer.plan image after) → ((t : ℕ) → fresh t ≡ no_asks)
      → goes events w ≡ Some there → there.building ≡ w.building → there.base ≡ w.base → there.given ≡ w.given → IsReached there → (k : IsKept there (kept_after (safe_list w) batch doubt) image)
      → LeadsToPast w (events ++ CutEvent k.kept ∷ Reopen k.kept ∷ []) after fresh (kept_after safe batch doubt) given
  over w there events before after terminals fresh safe batch given image p may doubt b new possible building same_base same_given reached k =
      let c = begins_after_crash laws there after before.keeper.writer.plan (kept_after (safe_list w) batch doubt) image reached (building ∙ p.shows.machine.building) k b in
      record {
        end = c.0;
        possible = joined events (CutEvent k.kept ∷ Reopen k.kept ∷ []) w there possible ∙ c.1;
        past = record {
          shows = new_group c.0 after fresh c.4 b.begins c.6 new;
          history = subst (λ (x : RegisterState). History x after (kept_after safe batch doubt) given) (sym (c.3 ∙ same_base)) (Cut p.history may doubt b);
          safe_is = c.5 ∙ ap (λ (xs : List Entry). kept_after xs batch doubt) p.safe_is;
          given_is = c.2 ∙ same_given ∙ p.given_is;
        };
      }

  cuts : CutsAreCuts D
  cuts w before after terminals fresh safe batch given image p (inl same) asked doubt b new =
      let m = p.shows.machine in
      let k : IsKept w (kept_after (safe_list w) batch doubt) image = crashes_are_cuts laws w before batch image m same doubt in
      ([], refl, k.kept, over w w [] before after terminals fresh safe batch given image p (inl same) doubt b new refl refl refl refl m.reached k)
  cuts w before after terminals fresh safe batch given image p (inr a) asked doubt b new =
      let m = p.shows.machine in
      let stand : Stand w a.0.commands = asked_stand w before terminals p.shows (at_most w before m) a.0.commands a.0.apart asked in
      let c : IsCutAt w (kept_after (safe_list w) batch doubt) image = cuts_at laws w before batch image m (inr a) (stand_agree w a.0.commands stand) doubt in
      (c.before, tt, c.keeps.kept, over w c.there c.before before after terminals fresh safe batch given image p (inr a) doubt b new c.possible c.same_building c.same_base c.given_is c.reached c.keeps)

  pub pasts_go_on : PastsGoOn D
  pasts_go_on = record {
    begins = begin;
    asks = asks_are_asks;
    hears = hears_are_hears;
    heard = told_answers_are_heard;
    reads = reads_are_no_events;
    batches = batches;
    doubts = doubts;
    unknowns = unknowns;
    reopenings = reopenings;
    rests = no_events;
    faults = faults;
    cuts = cuts;
  }
