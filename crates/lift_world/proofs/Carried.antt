-- What a command is decided, and what that leaves of the world.
use Rattle.std.proofs.Common.{ℕ, ◌≡◌, Bool, true, false, cond, List, [], ◌∷◌, ◌++◌, drop, set, Option, Some, None, refl, sym, ap, subst, ◌∙◌}
use Rattle.std.specs.Prelude.{option_map, IsSome, IsTrue}
use Rattle.std.specs.Option.{option_to_list}
use Rattle.std.proofs.lemmas.Bool.{false≢true}
use Rattle.std.proofs.lemmas.List.{append-nil}
use Rattle.lift_base.specs.declared.travel.Position.{Position}
use Rattle.lift_base.specs.declared.travel.Stop.{Stop as StopAt}
use Rattle.lift_base.specs.declared.history.Entry.{Entry}
use Rattle.lift_base.specs.declared.history.Entry.TheVariants.{Stop as Stopping}
use Rattle.lift_base.specs.declared.command.Body.{Body}
use Rattle.lift_base.specs.declared.command.Body.TheVariants.{Stop, Place}
use Rattle.lift_base.specs.declared.command.Reason.{Reason}
use Rattle.lift_base.specs.declared.command.Reply.{Reply}
use Rattle.lift_base.specs.declared.command.Reply.TheVariants.{Stopped, Placed}
use Rattle.lift_building.specs.Plan.{Plan, IsBuilding}
use Rattle.lift_register.specs.Register.{RegisterState, rows_of, register_of}
use Rattle.lift_stops.specs.StopList.{next_stop}
use Rattle.lift_policy.specs.Step.{State, first_cause, accepting, with_car_at, next_from}
use Rattle.lift_policy.specs.declared.verdict.Verdict.TheVariants.{RepeatedStop, Place as Places}
use Rattle.lift_policy.specs.declared.command.Command.{Command}
use Rattle.lift_world.specs.declared.decide.Decided.{Decided}
use Rattle.lift_policy.specs.Decision.{Decision}
use Rattle.lift_world.specs.Decided.{proceeded, decided, decided_after}
use Rattle.lift_world.specs.Carries.{CarriesDecision, CarriesOut, IsVerdictOf, state_with}
use Rattle.lift_world.specs.World.{World, state_of}
use Rattle.lift_world.specs.Next.{taking, deciding}
use Rattle.lift_world.specs.Replays.{FitAfter, IsTight, MovesTo}
use Rattle.lift_world.specs.lemmas.Decisions.{decides_well, DecidesWell}
use Rattle.lift_world.proofs.Consistent.{fit_more, accepted_after}

-- a command without a cause is decided by what it says
decided_as : (building : Plan) (state : State) (terminal number : ℕ) (body said : Body) (letter : Option ℕ) → None ≡ first_cause building state terminal number body → body ≡ said
    → decided building state terminal number body letter ≡ proceeded building state terminal number said letter
decided_as building state terminal number body said letter clear is =
    ap (λ (o : Option Reason). decided_after o building state terminal number body letter) (sym clear)
    ∙ ap (λ (b : Body). proceeded building state terminal number b letter) is

-- how a command is carried out whose car only stands somewhere
module _ (building : Plan) (register : RegisterState) (positions : List (Option Position)) (command : Command) where
  -- a decision that adds no entry
  adds_none : (letter : Option ℕ) (reply : Reply) (after : List (Option Position))
      → ((batch : List Entry) → decided building (state_with register positions batch) command.terminal command.number command.body letter
      ≡ Some (record { reply = reply; next = state_with register after batch }))
      → CarriesOut building register positions command letter (Some (record { reply = reply; entry = None })) register after
  adds_none letter reply after is batch =
      subst (λ (o : Option Decision). CarriesDecision o register positions batch (Some (record { reply = reply; entry = None })) register after) (sym (is batch))
      (None, refl, ap (λ (xs : List Entry). state_with register after xs) (sym (append-nil batch)))

  -- a repeated stop
  pub carries_stand : (car : ℕ) (at : Position) (found : Option StopAt) (after : List (Option Position)) → IsVerdictOf building register positions command (RepeatedStop car at)
      → after ≡ set positions car (Some at) → found ≡ next_stop (rows_of register car) at
      → CarriesOut building register positions command None (Some (record { reply = Stopped found; entry = None })) register after
  carries_stand car at found after h stands is =
      let told : ℕ → State → Option Decision = λ t s. Some (record { reply = Stopped (next_from (with_car_at s t at.floor at.dir) t at.floor at.dir); next = with_car_at s t at.floor at.dir }) in
      let made : Option StopAt → State → Option Decision = λ o s. Some (record { reply = Stopped o; next = s }) in
      adds_none None (Stopped found) after (λ batch.
      decided_as building (state_with register positions batch) command.terminal command.number command.body (Stop at.floor at.dir) None (h batch).cause (h batch).case.0
      ∙ ap (λ (b : Bool). told command.terminal (cond b (accepting (state_with register positions batch) (Stopping command.terminal command.number at.floor at.dir)) (state_with register positions batch))) (h batch).case.1
      ∙ ap (λ (t : ℕ). told t (state_with register positions batch)) (sym (h batch).case.2)
      ∙ ap (λ (o : Option StopAt). made o (state_with register (set positions car (Some at)) batch)) (sym is)
      ∙ ap (λ (ps : List (Option Position)). made found (state_with register ps batch)) (sym stands))

  -- a place
  pub carries_place : (car : ℕ) (at : Position) (found : Option StopAt) (after : List (Option Position)) → IsVerdictOf building register positions command (Places car at)
      → after ≡ set positions car (Some at) → found ≡ next_stop (rows_of register car) at
      → CarriesOut building register positions command None (Some (record { reply = Placed found; entry = None })) register after
  carries_place car at found after h stands is =
      let told : ℕ → State → Option Decision = λ t s. Some (record { reply = Placed (next_from (with_car_at s t at.floor at.dir) t at.floor at.dir); next = with_car_at s t at.floor at.dir }) in
      let made : Option StopAt → State → Option Decision = λ o s. Some (record { reply = Placed o; next = s }) in
      adds_none None (Placed found) after (λ batch.
      decided_as building (state_with register positions batch) command.terminal command.number command.body (Place at.floor at.dir) None (h batch).cause (h batch).case.0
      ∙ ap (λ (t : ℕ). told t (state_with register positions batch)) (sym (h batch).case.1)
      ∙ ap (λ (o : Option StopAt). made o (state_with register (set positions car (Some at)) batch)) (sym is)
      ∙ ap (λ (ps : List (Option Position)). made found (state_with register ps batch)) (sym stands))

same_tail : (xs ys zs : List Entry) → xs ++ ys ≡ xs ++ zs → ys ≡ zs
same_tail [] ys zs e = e
same_tail (x ∷ xs) ys zs e = same_tail xs ys zs (let f : xs ++ ys ≡ xs ++ zs = cc in f)

-- nothing moves where an event isn't possible
pub no_move : (o : Option World) (old new : World) (is : Bool) → (IsSome o → IsTrue is) → is ≡ false → new ≡ old → MovesTo o old false new
no_move None old new is possible e same = (refl, same)
no_move (Some w) old new is possible e same = absurd (false≢true (sym e ∙ possible refl))

-- a take in the code
module _ (w : World) (register : RegisterState) (command : Command) (letter : Option ℕ) (tight : IsTight w.building w.base register w.accepted) (result : Option Decided)
    (after : RegisterState) (positions : List (Option Position))
    (h : (batch : List Entry) → CarriesDecision (decided w.building (state_with register w.positions batch) command.terminal command.number command.body letter) register w.positions batch result after positions) where
  carried : CarriesDecision (decided w.building (state_of w) command.terminal command.number command.body letter) register w.positions (drop w.sealed w.accepted) result after positions
  carried = subst (λ (r : RegisterState). CarriesDecision (decided w.building (state_with r w.positions (drop w.sealed w.accepted)) command.terminal command.number command.body letter) register w.positions (drop w.sealed w.accepted) result after positions)
      tight.register_is (h (drop w.sealed w.accepted))

  none_by : (o : Option Decision) → CarriesDecision o register w.positions (drop w.sealed w.accepted) result after positions → result ≡ None
      → MovesTo (option_map (deciding w command) o) w false (record w { positions = positions }) × (after ≡ register)
  none_by None k q = ((refl, ap (λ (ps : List (Option Position)). record w { positions = ps }) k.2), k.1)
  none_by (Some d) k q = let e = k.1 in cc

  pub undecided : result ≡ None → MovesTo (taking w letter command) w false (record w { positions = positions }) × (after ≡ register)
  undecided q = none_by (decided w.building (state_of w) command.terminal command.number command.body letter) carried q

  both_by : (o : Option Decision) → CarriesDecision o register w.positions (drop w.sealed w.accepted) result after positions
      → (IsSome result → IsSome (option_map (deciding w command) o)) × (IsSome (option_map (deciding w command) o) → IsSome result)
  both_by None k = ((λ s. subst (λ (r : Option Decided). IsSome r) k.0 s), (λ s. absurd (false≢true s)))
  both_by (Some d) k = ((λ _. refl), (λ _. subst (λ (r : Option Decided). IsSome r) (sym k.1) refl))

  -- it is decided just where the take is possible
  pub decided_both : (IsSome result → IsSome (taking w letter command)) × (IsSome (taking w letter command) → IsSome result)
  decided_both = both_by (decided w.building (state_of w) command.terminal command.number command.body letter) carried

  some_is : (x y : Decided) → Some x ≡ Some y → x ≡ y
  some_is x y e = cc

  some_by : (o : Option Decision) (d : Decided) → decided w.building (state_of w) command.terminal command.number command.body letter ≡ o → CarriesDecision o register w.positions (drop w.sealed w.accepted) result after positions → result ≡ Some d → IsBuilding w.building
      → MovesTo (option_map (deciding w command) o) w true (record w { accepted = w.accepted ++ option_to_list d.entry; positions = positions; taken = w.taken ++ record { terminal = command.terminal; number = command.number; body = command.body; reply = d.reply } ∷ [] })
      × FitAfter w.building w.base [] (w.accepted ++ option_to_list d.entry) × (after ≡ register_of w.base (w.accepted ++ option_to_list d.entry))
  some_by None d at k q sound = let e = k.0 in cc
  some_by (Some x) d at k q sound =
      let same : d ≡ record { reply = x.reply; entry = k.0 } = some_is d (record { reply = x.reply; entry = k.0 }) (sym q ∙ k.1) in
      let entry_is : d.entry ≡ k.0 = ap (λ (y : Decided). y.entry) same in
      let reply_is : x.reply ≡ d.reply = sym (ap (λ (y : Decided). y.reply) same) in
      let batch_is : x.next.batch ≡ drop w.sealed w.accepted ++ option_to_list d.entry = ap (λ (s : State). s.batch) k.2 ∙ ap (λ (e : Option Entry). drop w.sealed w.accepted ++ option_to_list e) (sym entry_is) in
      let register_is : x.next.register ≡ after = ap (λ (s : State). s.register) k.2 in
      let positions_is : x.next.positions ≡ positions = ap (λ (s : State). s.positions) k.2 in
      let well : DecidesWell w.building w.base w.accepted w.sealed command.terminal command.number command.body x = decides_well w.building sound w.base w.accepted w.sealed w.positions command.terminal command.number command.body letter x at in
      let added_is : well.added ≡ option_to_list d.entry = same_tail (drop w.sealed w.accepted) well.added (option_to_list d.entry) (sym well.batch ∙ batch_is) in (
        (
          refl,
          ap (λ (r : Reply). record w { accepted = w.accepted ++ option_to_list d.entry; positions = positions; taken = w.taken ++ record { terminal = command.terminal; number = command.number; body = command.body; reply = r } ∷ [] }) (sym reply_is)
              ∙ ap (λ (ps : List (Option Position)). record w { accepted = w.accepted ++ option_to_list d.entry; positions = ps; taken = w.taken ++ record { terminal = command.terminal; number = command.number; body = command.body; reply = x.reply } ∷ [] }) (sym positions_is)
              ∙ ap (λ (xs : List Entry). record w { accepted = xs; positions = x.next.positions; taken = w.taken ++ record { terminal = command.terminal; number = command.number; body = command.body; reply = x.reply } ∷ [] }) (sym (accepted_after w (option_to_list d.entry) x.next.batch batch_is)),
        ),
        fit_more w.building w.base [] w.accepted (option_to_list d.entry) tight.fits (subst (λ (xs : List Entry). FitAfter w.building w.base w.accepted xs) added_is well.fits),
        sym register_is ∙ well.register ∙ ap (λ (xs : List Entry). register_of w.base (w.accepted ++ xs)) added_is,
      )

  pub taken_on : (d : Decided) → result ≡ Some d → IsBuilding w.building
      → MovesTo (taking w letter command) w true (record w { accepted = w.accepted ++ option_to_list d.entry; positions = positions; taken = w.taken ++ record { terminal = command.terminal; number = command.number; body = command.body; reply = d.reply } ∷ [] })
      × FitAfter w.building w.base [] (w.accepted ++ option_to_list d.entry) × (after ≡ register_of w.base (w.accepted ++ option_to_list d.entry))
  taken_on d q sound = some_by (decided w.building (state_of w) command.terminal command.number command.body letter) d refl carried q sound
