-- What a line makes of a script's group.
use Rattle.std.proofs.Common.{◌≡◌, ◌≢◌, ℕ, suc, ◌+◌, ◌<◌, ◌==◌, true, false, cond, List, [], ◌∷◌, ◌++◌, length, Option, Some, None, refl, sym, ap, ◌∙◌, subst, inl, inr, arith, get_or-set_other, slice_set, length-append}
use Rattle.std.specs.Prelude.{codes}
use Rattle.std.specs.Option.{is_some}
use Rattle.std.proofs.lemmas.List.{length-set, append_assoc, append-nil}
use Rattle.std.proofs.lemmas.Grind.{get_or-set_at}
use Rattle.std.proofs.lemmas.Bool.{cases_eq, eq-eqb, ne_eqb}
use Rattle.lift_base.specs.declared.limits.TheConstants.{MOST_CARS}
use Rattle.lift_base.specs.declared.command.Body.{Body}
use Rattle.lift_building.specs.Plan.{Plan}
use Rattle.lift_desk.specs.declared.words.Ask.{Ask}
use Rattle.lift_desk.specs.Words.{ask_word}
use Rattle.lift_desk.specs.Steps.{with_told_asks}
use Rattle.lift_desk.specs.Seats.{TerminalSeat, ClerkPlace, view_at, no_place}
use Rattle.lift_disk.specs.Faults.{FusedDisk}
use Rattle.lift_policy.specs.Choices.{IsEtdChoice}
use Rattle.lift_policy.specs.Decision.{etd_pick}
use Rattle.lift_policy.specs.Laws.{StepsAreDecisions}
use Rattle.lift_policy.specs.Step.{view_of}
use Rattle.lift_keeper.specs.Keeper.{KeeperView}
use Rattle.lift_replay.specs.declared.line.ScriptLine.{ScriptLine}
use Rattle.lift_replay.specs.declared.line.ScriptLine.TheVariants.{Ask as AskThis, Turn, Show, Device}
use Rattle.lift_register.specs.Balanced.{open_count}
use Rattle.lift_replay.specs.declared.lines.End.{End}
use Rattle.lift_replay.specs.declared.lines.End.TheVariants.{Run as Over, Cut as Power}
use Rattle.lift_replay.specs.declared.lines.Verdict.{Verdict}
use Rattle.lift_replay.specs.declared.lines.Verdict.TheVariants.{Bad}
use Rattle.lift_replay.specs.Running.{TellsLines, Continues, LinesEnd}
use Rattle.lift_replay.specs.Grammar.{AskFor, IsKnown, IsSkipped, Spells}
use Rattle.lift_replay.specs.Group.{Asking, ScriptGroup, FailedBatch, asking_at, asking_more, after_ask, after_asking, ask_text, unasked, state_to_decide_on, left_by, recovered}
use Rattle.lift_replay.specs.Lines.{Tells, LineTells, end_by, end_of, line_text}
use Rattle.lift_replay.specs.Lines.{after as after_line}
use Rattle.lift_replay.specs.Report.{told_text, bad_text, cut_text}
use Rattle.lift_replay.specs.Query.{shown_text}
use Rattle.lift_replay.specs.declared.query.Query.{Query}
use Rattle.lift_replay.specs.Terminals.{no_seat, seat_at, told_seat, having_asked}
use Rattle.lift_replay.specs.Told.{ScriptClerk, Asks, HasAsked, KeeperStays, ScriptRests, device_of}
use Rattle.lift_replay.specs.Shows.{WaitsFor, IsInStep, AreInStep, Stands, IsKeeperOf, Shows}
use Rattle.lift_replay.proofs.InStep.{waits_not, waits_so}
use Rattle.lift_policy.specs.declared.command.Command.{Command}
use Rattle.lift_replay.specs.Ask.{asked_by, asked_command}
use Rattle.lift_replay.specs.DeviceAction.{cut_by}
use Rattle.lift_disk.specs.declared.outcome.Outcome.{Outcome}
use Rattle.lift_replay.proofs.Asks.{ask_inside}
use Rattle.lift_replay.proofs.DeviceActions.{Comes, action_comes}
use Rattle.lift_replay.proofs.Groups.{turn_shows, with_terminals}

-- one terminal has changed
step_at : (terminals : List Asking) (seats after : List TerminalSeat) (places known : List ClerkPlace) (t : ℕ) (a : Asking) → AreInStep terminals seats places → t < length terminals
    → length after ≡ length seats → length known ≡ length places → (seat_at after t).terminal ≡ t → IsInStep a (seat_at after t).view (view_at known t)
    → ((i : ℕ) → i ≢ t → seat_at after i ≡ seat_at seats i) → ((i : ℕ) → i ≢ t → view_at known i ≡ view_at places i) → AreInStep (slice_set terminals t a) after known
step_at terminals seats after places known t a step inside seat_count place_count own here seat_else place_else =
    let count : length (slice_set terminals t a) ≡ length terminals = length-set terminals t a in
    record {
      seat_count = seat_count ∙ step.seat_count ∙ sym count;
      place_count = place_count ∙ step.place_count ∙ sym count;
      own = λ i below. elim (cases_eq i t) [
        | inl at ↦ ap (λ j. (seat_at after j).terminal) at ∙ own ∙ sym at
        | inr other ↦ ap (λ (s : TerminalSeat). s.terminal) (seat_else i other) ∙ step.own i (omega (arith, below, count))
      ];
      each = λ i below. elim (cases_eq i t) [
        | inl at ↦ subst (λ x. IsInStep x (seat_at after i).view (view_at known i)) (sym (get_or-set_at terminals t i a unasked at inside))
            (subst (λ j. IsInStep a (seat_at after j).view (view_at known j)) (sym at) here)
        | inr other ↦ subst (λ x. IsInStep x (seat_at after i).view (view_at known i)) (sym (get_or-set_other terminals t i a unasked other))
            (subst (λ (s : TerminalSeat). IsInStep (asking_at terminals i) s.view (view_at known i)) (sym (seat_else i other))
            (subst (λ v. IsInStep (asking_at terminals i) (seat_at seats i).view v) (sym (place_else i other)) (step.each i (omega (arith, below, count)))))
      ];
    }

-- an ask
module _ (terminals : List Asking) (seats after : List TerminalSeat) (places known : List ClerkPlace) (t number : ℕ) (body : Body) (step : AreInStep terminals seats places) (inside : t < length terminals) where
  abbrev a : Asking
  a = asking_at terminals t

  abbrev asking : Ask
  asking = record { number = number; body = body }

  abbrev command : Command
  command = asked_by t number body

  abbrev Asked : List ℕ → Option Ask → Type 0
  Asked text w = (text ≡ ask_text (record { turns = a.turns; waiting = w }) command) × AreInStep (slice_set terminals t (asking_more (record { turns = a.turns; waiting = w }) asking)) after known

  here : IsInStep a (seat_at seats t).view (view_at places t)
  here = step.each t inside

  -- nothing has changed
  stays : (w : Option Ask) → a.waiting ≡ w → after ≡ seats → known ≡ places → AreInStep (slice_set terminals t (record { turns = a.turns; waiting = w })) after known
  stays w is same known_is =
      step_at terminals seats after places known t (record { turns = a.turns; waiting = w }) step inside (ap length same) (ap length known_is)
      (ap (λ l. (seat_at l t).terminal) same ∙ step.own t inside)
      (subst (λ l. IsInStep (record { turns = a.turns; waiting = w }) (seat_at after t).view (view_at l t)) (sym known_is)
      (subst (λ l. IsInStep (record { turns = a.turns; waiting = w }) (seat_at l t).view (view_at places t)) (sym same)
      (record { turns = here.turns; told = here.told; told_answers = here.told_answers; heard = here.heard; even = here.even; waits = subst (λ x. WaitsFor x (seat_at seats t).view (view_at places t)) is here.waits })))
      (λ i other. ap (λ l. seat_at l i) same) (λ i other. ap (λ l. view_at l i) known_is)

  asks : (text : List ℕ) (w : Option Ask) → a.waiting ≡ w → Asks seats after places known t number body text → Asked text w
  asks text (Some ask) is (inl waits) = (waits.3, stays (Some ask) is waits.1 waits.2)
  asks text (Some ask) is (inr (inl spent)) = absurd (spent.0 (waits_so a (seat_at seats t).view (view_at places t) ask here is))
  asks text (Some ask) is (inr (inr after_asking)) = absurd (after_asking.0 (waits_so a (seat_at seats t).view (view_at places t) ask here is))
  asks text None is (inl waits) = absurd (waits_not a (seat_at seats t).view (view_at places t) here is waits.0)
  asks text None is (inr (inl spent)) =
      let all : (a.turns == 1048575) ≡ true = eq-eqb a.turns 1048575 (sym here.turns ∙ spent.1) in (
        spent.4 ∙ ap (λ b. cond b (told_text t number (codes "SPENT")) []) (sym all),
        subst (λ b. AreInStep (slice_set terminals t (cond b (record { turns = a.turns; waiting = None }) (record { turns = suc a.turns; waiting = Some asking }))) after known) (sym all)
            (stays None is spent.2 spent.3),
      )
  asks text None is (inr (inr after_asking)) =
      let left : (a.turns == 1048575) ≡ false = ne_eqb a.turns 1048575 (λ e. after_asking.1 (here.turns ∙ e)) in
      let h : HasAsked seats after places known t number body = after_asking.2 in
      let word : ℕ = ask_word (suc (length (seat_at seats t).view.asked)) number body in
      let wide : t < length seats = omega (arith, inside, step.seat_count) in
      let deep : t < length places = omega (arith, inside, step.place_count) in
      let asked_seat : seat_at h.asked t ≡ having_asked (seat_at seats t) number body = ap (λ l. seat_at l t) h.asks ∙ get_or-set_at seats t t _ no_seat refl wide in
      let seat_is : seat_at after t ≡ told_seat (having_asked (seat_at seats t) number body) (view_at places t) =
      ap (λ l. seat_at l t) h.seat ∙ get_or-set_at h.asked t t _ no_seat refl (omega (arith, wide, ap length h.asks, length-set seats t (having_asked (seat_at seats t) number body)))
      ∙ ap (λ (s : TerminalSeat). told_seat s (view_at places t)) asked_seat in
      let view_is : view_at known t ≡ with_told_asks (view_at places t) ((seat_at seats t).view.asked ++ word ∷ []) =
      ap (λ l. view_at l t) h.knows ∙ ap (λ (p : ClerkPlace). p.view) (get_or-set_at places t t _ no_place refl deep)
      ∙ ap (λ (s : TerminalSeat). with_told_asks (view_at places t) s.view.asked) asked_seat in
      let same : (seat_at seats t).view.asked ≡ (view_at places t).taken = subst (λ x. WaitsFor x (seat_at seats t).view (view_at places t)) is here.waits in
      let in_step : IsInStep (record { turns = suc a.turns; waiting = Some asking }) (told_seat (having_asked (seat_at seats t) number body) (view_at places t)).view (with_told_asks (view_at places t) ((seat_at seats t).view.asked ++ word ∷ [])) = record {
        turns = omega (arith, length-append (seat_at seats t).view.asked (word ∷ []), here.turns);
        told = refl;
        told_answers = refl;
        heard = here.heard;
        even = here.even;
        waits = (h.in_range, ap (λ l. l ++ word ∷ []) same ∙ ap (λ n. (view_at places t).taken ++ ask_word (suc n) number body ∷ []) (ap length same));
      } in (
        after_asking.3 ∙ ap (λ b. cond b (told_text t number (codes "SPENT")) []) (sym left),
        subst (λ b. AreInStep (slice_set terminals t (cond b (record { turns = a.turns; waiting = None }) (record { turns = suc a.turns; waiting = Some asking }))) after known) (sym left)
            (step_at terminals seats after places known t (record { turns = suc a.turns; waiting = Some asking }) step inside
            (ap length h.seat ∙ length-set h.asked t _ ∙ ap length h.asks ∙ length-set seats t _)
            (ap length h.knows ∙ length-set places t _)
            (ap (λ (s : TerminalSeat). s.terminal) seat_is ∙ step.own t inside)
            (subst (λ v. IsInStep (record { turns = suc a.turns; waiting = Some asking }) (seat_at after t).view v) (sym view_is)
            (subst (λ (s : TerminalSeat). IsInStep (record { turns = suc a.turns; waiting = Some asking }) s.view (with_told_asks (view_at places t) ((seat_at seats t).view.asked ++ word ∷ []))) (sym seat_is) in_step))
            (λ i other. ap (λ l. seat_at l i) h.seat ∙ get_or-set_other h.asked t i _ no_seat other ∙ ap (λ l. seat_at l i) h.asks ∙ get_or-set_other seats t i _ no_seat other)
            (λ i other. ap (λ l. view_at l i) h.knows ∙ ap (λ (p : ClerkPlace). p.view) (get_or-set_other places t i _ no_place other))),
      )

  pub asks_shows : (text : List ℕ) → Asks seats after places known t number body text
      → (text ≡ ask_text a command) × AreInStep (after_ask terminals command) after known
  asks_shows text told = asks text a.waiting refl told

-- what is shown while nothing has failed
shown_is : (plan : Plan) (g : ScriptGroup) (keeper : KeeperView FusedDisk) (query : Query) (s : Option FailedBatch) → Stands s plan g keeper
    → shown_text keeper.writer.is_broken plan (view_of keeper.state) query ≡ shown_text (is_some s) plan (view_of (state_to_decide_on g)) query
shown_is plan g keeper query None stands = ap (λ b. shown_text b plan (view_of keeper.state) query) stands.0 ∙ ap (λ t. shown_text false plan (view_of t) query) stands.1
shown_is plan g keeper query (Some s) stands = ap (λ b. shown_text b plan (view_of keeper.state) query) stands.0

-- a line that is carried out tells what is computed, and makes the group that is computed
module _ (computed : StepsAreDecisions IsEtdChoice etd_pick) (plan : Plan) (g : ScriptGroup) (old new : ScriptClerk) (seats after : List TerminalSeat)
    (shows : Shows plan g old seats) (count : length seats ≡ MOST_CARS + length plan.kiosks) (long : (device_of new).is_short ≡ false) where
  abbrev pub Carried : ScriptLine → List ℕ → Type 0
  Carried (AskThis ask) told = (told ≡ line_text plan g (AskThis ask)) × Shows plan (after_line plan g (AskThis ask)) new after
  Carried Turn told = (told ≡ line_text plan g Turn) × Shows plan (after_line plan g Turn) new after
  Carried (Show query) told = (told ≡ line_text plan g (Show query)) × Shows plan g new after
  Carried (Device action) told = (told ≡ []) × Comes plan g new after action (cut_by action)

  rests : ScriptRests old new seats after → Shows plan g new after
  rests is = subst (λ c. Shows plan g c after) (sym is.clerk) (subst (Shows plan g old) (sym is.terminals) shows)

  asks_so : (c : Command) (told : List ℕ) → c.terminal < MOST_CARS + length plan.kiosks → Asks seats after old.seat new.seat c.terminal c.number c.body told → KeeperStays old new
      → (told ≡ ask_text (asking_at g.terminals c.terminal) c) × Shows plan (after_asking g c) new after
  asks_so c told below asks keeps =
      let result = asks_shows g.terminals seats after old.seat new.seat c.terminal c.number c.body shows.terminals (omega (arith, below, count, shows.terminals.seat_count)) told asks in
      let same : new.keeper ≡ old.keeper = ap (λ (c : ScriptClerk). c.keeper) keeps in
      let kept : IsKeeperOf plan (after_asking g c) old.keeper = record {
        same_plan = shows.keeper.same_plan;
        half_is = shows.keeper.half_is;
        register = shows.keeper.register;
        stands = with_terminals plan g old.keeper (after_asking g c).terminals g.failed shows.keeper.stands;
      } in (
        result.0,
        record { keeper = subst (IsKeeperOf plan (after_asking g c)) (sym same) kept; terminals = result.1 },
      )

  pub tells_shows : (wanted : ScriptLine) (told : List ℕ) (words : List (List ℕ)) → AskFor words wanted → IsKnown plan wanted → Tells plan old new seats after wanted told → Carried wanted told
  tells_shows (AskThis ask) told words asks known tells =
      asks_so (asked_command ask) told (ask_inside plan words ask asks known) tells.0 tells.1
  tells_shows Turn told words asks known tells = turn_shows computed plan g old new seats after told shows tells long
  tells_shows (Show query) told words asks known tells = (tells.0 ∙ shown_is plan g old.keeper query g.failed shows.keeper.stands, rests tells.1)
  tells_shows (Device action) told words asks known tells = (tells.0, action_comes plan g old new seats after action shows tells.1 tells.2)

-- what a line tells, where another follows, and where it is the last
module _ (computed : StepsAreDecisions IsEtdChoice etd_pick) (plan : Plan) (g : ScriptGroup) (old new : ScriptClerk) (seats after : List TerminalSeat)
    (shows : Shows plan g old seats) (count : length seats ≡ MOST_CARS + length plan.kiosks) (long : (device_of new).is_short ≡ false)
    (so_far later : ℕ) (first : ScriptGroup) (script rest behind : List (List ℕ)) (line before told : List ℕ) (number : ℕ)
    (at : rest ≡ line ∷ behind) (next_number : number ≡ later + 1) (leads : Continues plan so_far first script before later g rest) where
  -- what the rest tells, as the line and what is after it
  onward : (next : ScriptGroup) (text : List ℕ) → ((more : List ℕ) (verdict : Verdict) → TellsLines plan (suc later) next behind more verdict → TellsLines plan later g (line ∷ behind) (text ++ more) verdict)
      → Continues plan so_far first script (before ++ text) number next behind
  onward next text step more verdict tells =
      let here : number ≡ suc later = next_number ∙ omega arith in
      subst (λ l. TellsLines plan so_far first script l verdict) (sym (append_assoc before text more))
      (leads (text ++ more) verdict (subst (λ l. TellsLines plan later g l (text ++ more) verdict) (sym at)
      (step more verdict (subst (λ n. TellsLines plan n next behind more verdict) here tells))))

  skips : IsSkipped line → told ≡ [] → Continues plan so_far first script (before ++ told) number g behind
  skips skipped none = onward g told (λ more verdict tells. subst (λ t. TellsLines plan later g (line ∷ behind) (t ++ more) verdict) (sym none) (inl (skipped, tells)))

  carries : (wanted : ScriptLine) (text : List ℕ) → Spells line wanted → IsKnown plan wanted → (¬ IsSkipped line) → text ≡ line_text plan g wanted
      → Continues plan so_far first script (before ++ text) number (after_line plan g wanted) behind
  carries wanted text spells known other is = onward (after_line plan g wanted) text (λ more verdict tells. inr (inl (wanted, more, other, spells, known, tells, ap (λ t. t ++ more) is)))

  -- a line after which the next is carried out
  abbrev pub GoesOn : Type 0
  GoesOn = (next : ScriptGroup) × Shows plan next new after × Continues plan so_far first script (before ++ told) number next behind

  pub line_goes_on : LineTells plan old new seats after line number None told → GoesOn
  line_goes_on (inl skipped) = (g, rests computed plan g old new seats after shows count long skipped.3, skips skipped.0 skipped.2)
  line_goes_on (inr (inr bad)) = absurd (let e = bad.1 in cc)
  line_goes_on (inr (inl (wanted, spells, known, tells, end, other))) = by_line wanted spells known tells end
    where
      by_line : (w : ScriptLine) → Spells line w → IsKnown plan w → Tells plan old new seats after w told → None ≡ end_of w → GoesOn
      by_line (AskThis ask) sp kn te en = let c = tells_shows computed plan g old new seats after shows count long (AskThis ask) told sp.0 sp.2 kn te in (after_line plan g (AskThis ask), c.1, carries (AskThis ask) told sp kn other c.0)
      by_line Turn sp kn te en = let c = tells_shows computed plan g old new seats after shows count long Turn told sp.0 sp.2 kn te in (after_line plan g Turn, c.1, carries Turn told sp kn other c.0)
      by_line (Show query) sp kn te en = let c = tells_shows computed plan g old new seats after shows count long (Show query) told sp.0 sp.2 kn te in (g, c.1, carries (Show query) told sp kn other c.0)
      by_line (Device action) sp kn te en =
          let c = tells_shows computed plan g old new seats after shows count long (Device action) told sp.0 sp.2 kn te in
          by_power (cut_by action) c.1 en
        where
          by_power : (power : Option Outcome) → Comes plan g new after action power → None ≡ end_by power → GoesOn
          by_power None comes is = (after_line plan g (Device action), comes.1, carries (Device action) told sp kn other (te.0 ∙ sym comes.0))
          by_power (Some outcome) comes is = absurd (cc)

  -- a line that ends the lines at this desk
  pub line_ends : (end : End) → LineTells plan old new seats after line number (Some end) told → LinesEnd plan so_far first script (before ++ told) number behind new after end
  line_ends end (inl skipped) = absurd (let e = skipped.1 in cc)
  line_ends end (inr (inr bad)) =
      let over : end ≡ Over Bad = (let e = bad.1 in cc) in
      let here : number ≡ suc later = next_number ∙ omega arith in
      let text : told ≡ bad_text (suc later) = bad.2 ∙ ap bad_text here in
      subst (LinesEnd plan so_far first script (before ++ told) number behind new after) (sym over)
      (leads told Bad (subst (λ l. TellsLines plan later g l told Bad) (sym at) (inr (inr (bad.0, text, refl)))))
  line_ends end (inr (inl (wanted, spells, known, tells, is, other))) = by_line wanted spells known tells is
    where
      by_line : (w : ScriptLine) → Spells line w → IsKnown plan w → Tells plan old new seats after w told → Some end ≡ end_of w → LinesEnd plan so_far first script (before ++ told) number behind new after end
      by_line (AskThis ask) sp kn te en = absurd (cc)
      by_line Turn sp kn te en = absurd (cc)
      by_line (Show query) sp kn te en = absurd (cc)
      by_line (Device action) sp kn te en =
          let c = tells_shows computed plan g old new seats after shows count long (Device action) told sp.0 sp.2 kn te in
          by_power (cut_by action) c.1 en
        where
          by_power : (power : Option Outcome) → Comes plan g new after action power → Some end ≡ end_by power → LinesEnd plan so_far first script (before ++ told) number behind new after end
          by_power None comes is = absurd (cc)
          by_power (Some outcome) comes is =
              let power : end ≡ Power outcome = cc in
              let cut : List ℕ = cut_text (open_count (left_by outcome g).register) in
              let all : before ++ cut ≡ (before ++ told) ++ cut = ap (λ t. t ++ cut) (sym (append-nil before) ∙ ap (λ t. before ++ t) (sym te.0)) in
              subst (LinesEnd plan so_far first script (before ++ told) number behind new after) (sym power) (
                g,
                comes.2,
                subst (λ t. Continues plan so_far first script t number (recovered plan (left_by outcome g)) behind) all
                    (subst (λ next. Continues plan so_far first script (before ++ cut) number next behind) comes.1 (carries (Device action) cut sp kn other (sym comes.0))),
              )
