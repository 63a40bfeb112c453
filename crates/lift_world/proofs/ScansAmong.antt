-- An allocator's scan and its seal among the events of terminals and of the flusher.
use Rattle.std.proofs.Common.{ℕ, ◌≡◌, ◌≢◌, false, not, List, [], ◌∷◌, ◌++◌, length, take, Option, Some, refl, sym, ap, subst, ◌∙◌}
use Rattle.std.specs.Prelude.{IsTrue, option_map}
use Rattle.std.specs.List.{AllByRecursion}
use Rattle.std.proofs.lemmas.Bool.{false≢true}
use Rattle.lift_base.specs.declared.history.Entry.{Entry}
use Rattle.lift_base.specs.declared.travel.Position.{Position}
use Rattle.lift_base.specs.declared.command.Reply.{Reply}
use Rattle.lift_building.specs.Plan.{Plan}
use Rattle.lift_register.specs.Register.{RegisterState}
use Rattle.lift_policy.specs.Eligible.{any_eligible}
use Rattle.lift_policy.specs.Step.{State, Step}
use Rattle.lift_policy.specs.Run.{Run}
use Rattle.lift_policy.specs.declared.command.Command.{Command}
use Rattle.lift_world.specs.declared.event.Taken.{Taken}
use Rattle.lift_world.specs.declared.event.Event.{Event}
use Rattle.lift_world.specs.declared.event.Event.TheVariants.{Ask, Take, Seal, Pull, Fold, Body as BodyWrite, FirstSync, Gate, SecondSync, Answer as Answering, Hear, Fault, Cut, Reopen}
use Rattle.lift_policy.specs.Decision.{Decision}
use Rattle.lift_world.specs.World.{World, is_off, state_of, state_at}
use Rattle.lift_world.specs.Next.{next, goes, asking, hearing, next_answer, deciding, sealing, may_ask}
use Rattle.lift_world.specs.Turns.{with_replies, scanned}
use Rattle.lift_world.specs.Relay.{IsBetweenScans, allocated, is_flushers}
use Rattle.lift_world.specs.Among.{is_beside, AreBeside, Look, looked_commands, LooksStand, look_events, ScansGoAmong, AllocationsGoAmong}
use Rattle.lift_world.specs.lemmas.Decisions.{some_is}
use Rattle.lift_world.specs.lemmas.Goes.{one, joined, goes-append}
use Rattle.lift_world.specs.lemmas.Steps.{GoesOn, then_from, state_goes_on, steps_go_on, state_after, steps_are_takes}
use Rattle.lift_world.proofs.Scans.{taken_as, found_still, scanned_rest, scanned_none}
use Rattle.lift_world.specs.lemmas.Looks.{can_be_looked_at}
use Rattle.lift_world.proofs.Beside.{lift_when, lift_if}
use Rattle.lift_world.specs.lemmas.Ordered.{Ordered, ordered_from, ordered_next}
use Rattle.lift_world.proofs.Ahead.{decided_on, passes, flusher_passes_seals}
use Rattle.lift_world.proofs.Relay.{seals_scan, sealed_scan}
use Rattle.lift_world.proofs.Interleaved.{Untouched, untouched, pulls_some}

-- after what was decided terminals and the flusher go on as before it
module _ (w : World) (state : State) (more : List Taken) where
  abbrev behind : World → World
  behind x = decided_on x state more

  passes_decided : (event : Event) → Ordered w → IsTrue (is_beside event) → next (behind w) event ≡ option_map behind (next w event)
  passes_decided (Ask terminal number body) order is = lift_when behind (may_ask w terminal) (asking w (record { terminal = terminal; number = number; body = body }))
  passes_decided (Take terminal letter) order is = absurd (false≢true is)
  passes_decided Seal order is = absurd (false≢true is)
  passes_decided Pull order is = passes w state more Pull order is
  passes_decided Fold order is = passes w state more Fold order is
  passes_decided BodyWrite order is = passes w state more BodyWrite order is
  passes_decided FirstSync order is = passes w state more FirstSync order is
  passes_decided Gate order is = passes w state more Gate order is
  passes_decided SecondSync order is = passes w state more SecondSync order is
  passes_decided (Answering terminal) order is = passes w state more (Answering terminal) order is
  passes_decided (Hear terminal) order is = lift_if behind (not (is_off w.power)) (hearing w) (next_answer w terminal)
  passes_decided Fault order is = passes w state more Fault order is
  passes_decided (Cut kept) order is = absurd (false≢true is)
  passes_decided (Reopen kept) order is = absurd (false≢true is)

-- and after a seal
seal_passes : (w : World) (event : Event) (after : World) → IsTrue (is_flushers event) → next w event ≡ Some after → next (sealing w) event ≡ Some (sealing after)
seal_passes w event after is h =
    flusher_passes_seals w event is (λ pull. pulls_some w after (ap (next w) (sym pull) ∙ h)) ∙ ap (option_map sealing) h

passes_sealed : (w : World) (event : Event) (after : World) → IsTrue (is_beside event) → next w event ≡ Some after → next (sealing w) event ≡ Some (sealing after)
passes_sealed w (Ask terminal number body) after is h =
    lift_when sealing (may_ask w terminal) (asking w (record { terminal = terminal; number = number; body = body })) ∙ ap (option_map sealing) h
passes_sealed w (Take terminal letter) after is h = absurd (false≢true is)
passes_sealed w Seal after is h = absurd (false≢true is)
passes_sealed w Pull after is h = seal_passes w Pull after is h
passes_sealed w Fold after is h = seal_passes w Fold after is h
passes_sealed w BodyWrite after is h = seal_passes w BodyWrite after is h
passes_sealed w FirstSync after is h = seal_passes w FirstSync after is h
passes_sealed w Gate after is h = seal_passes w Gate after is h
passes_sealed w SecondSync after is h = seal_passes w SecondSync after is h
passes_sealed w (Answering terminal) after is h = seal_passes w (Answering terminal) after is h
passes_sealed w (Hear terminal) after is h = lift_if sealing (not (is_off w.power)) (hearing w) (next_answer w terminal) ∙ ap (option_map sealing) h
passes_sealed w Fault after is h = seal_passes w Fault after is h
passes_sealed w (Cut kept) after is h = absurd (false≢true is)
passes_sealed w (Reopen kept) after is h = absurd (false≢true is)

-- whole lists of such events
decided_goes : (state : State) (more : List Taken) (events : List Event) (w after : World) → Ordered w → AreBeside events → goes events w ≡ Some after
    → goes events (decided_on w state more) ≡ Some (decided_on after state more)
decided_goes state more [] w after order are h = ap (option_map (λ (x : World). decided_on x state more)) h
decided_goes state more (e ∷ events) w after order are h =
    let t = then_from (goes events) (next w e) after h in
    one e events (decided_on w state more) (decided_on t.0 state more) (passes_decided w state more e order are.0 ∙ ap (option_map (λ (x : World). decided_on x state more)) t.1)
    ∙ decided_goes state more events t.0 after (ordered_next w e t.0 order t.1) are.1 t.2

sealed_goes : (events : List Event) (w after : World) → AreBeside events → goes events w ≡ Some after → goes events (sealing w) ≡ Some (sealing after)
sealed_goes [] w after are h = ap (option_map sealing) h
sealed_goes (e ∷ events) w after are h =
    let t = then_from (goes events) (next w e) after h in
    one e events (sealing w) (sealing t.0) (passes_sealed w e t.0 are.0 t.1) ∙ sealed_goes events t.0 after are.1 t.2

ordered_goes : (events : List Event) (w after : World) → Ordered w → goes events w ≡ Some after → Ordered after
ordered_goes [] w after order h = subst Ordered (some_is w after h) order
ordered_goes (e ∷ events) w after order h = let t = then_from (goes events) (next w e) after h in ordered_goes events t.0 after (ordered_next w e t.0 order t.1) t.2

still_untouched : (w x y : World) → Untouched w x → Untouched x y → Untouched w y
still_untouched w x y a b = record {
  same_building = b.same_building ∙ a.same_building;
  same_base = b.same_base ∙ a.same_base;
  same_accepted = b.same_accepted ∙ a.same_accepted;
  same_sealed = b.same_sealed ∙ a.same_sealed;
  same_positions = b.same_positions ∙ a.same_positions;
  same_taken = b.same_taken ∙ a.same_taken;
  stays_on = λ on. b.stays_on (a.stays_on on);
}

never_touched : (w x : World) → w ≡ x → Untouched w x
never_touched w x e = subst (Untouched w) e (record { same_building = refl; same_base = refl; same_accepted = refl; same_sealed = refl; same_positions = refl; same_taken = refl; stays_on = λ on. on })

untouched_goes : (events : List Event) (w after : World) → AreBeside events → goes events w ≡ Some after → Untouched w after
untouched_goes [] w after are h = never_touched w after (some_is w after h)
untouched_goes (e ∷ events) w after are h =
    let t = then_from (goes events) (next w e) after h in still_untouched w t.0 after (untouched w e t.0 are.0 t.1) (untouched_goes events t.0 after are.1 t.2)

same_state : (w x : World) → Untouched w x → state_of x ≡ state_of w
same_state w x u =
    ap (λ (r : RegisterState). state_at r x.accepted x.sealed x.positions) u.same_base
    ∙ ap (λ (es : List Entry). state_at w.base es x.sealed x.positions) u.same_accepted ∙ ap (λ (n : ℕ). state_at w.base w.accepted n x.positions) u.same_sealed
    ∙ ap (λ (ps : List (Option Position)). state_at w.base w.accepted w.sealed ps) u.same_positions

-- the looks leave the others' events as they are
ordered_looks : (looks : List Look) (w last : World) → Ordered w → LooksStand w looks last → Ordered last
ordered_looks [] w last order s = subst Ordered s order
ordered_looks (look ∷ looks) w last order s = ordered_looks looks s.0 last (ordered_goes look.before w s.0 order s.2) s.5

untouched_looks : (looks : List Look) (w last : World) → LooksStand w looks last → Untouched w last
untouched_looks [] w last s = never_touched w last s
untouched_looks (look ∷ looks) w last s = still_untouched w s.0 last (untouched_goes look.before w s.0 s.1 s.2) (untouched_looks looks s.0 last s.5)

-- after a take the looks at other terminals stand
looks_after : (command : Command) (d : Decision) (looks : List Look) (w last : World) → Ordered w → AllByRecursion (λ (c : Command). c.terminal ≢ command.terminal) (looked_commands looks)
    → LooksStand w looks last → LooksStand (deciding w command d) looks (deciding last command d)
looks_after command d [] w last order apart s = ap (λ (x : World). deciding x command d) s
looks_after command d (look ∷ looks) w last order apart s = (
  deciding s.0 command d,
  s.1,
  decided_goes d.next (taken_as command d.reply ∷ []) look.before w s.0 order s.1 s.2,
  found_still s.0 command d look.command s.3 apart.0,
  s.4,
  looks_after command d looks s.0 last (ordered_goes look.before w s.0 order s.2) apart.1 s.5,
)

scan_goes : (looks : List Look) (w last : World) (replies : List Reply) (state : State) → Ordered w → LooksStand w looks last → Run w.building any_eligible (state_of w) (looked_commands looks) replies state
    → (letters : List (Option ℕ)) × (goes (look_events looks letters) w ≡ Some (scanned last (looked_commands looks) replies state))
scan_goes [] w last [] state order s r =
    ([], ap (λ (x : World). Some x) (sym (scanned_none w) ∙ ap (λ (st : State). scanned w [] [] st) (sym r) ∙ ap (λ (x : World). scanned x [] [] state) s))
scan_goes [] w last (reply ∷ replies) state order s r = absurd r
scan_goes (look ∷ looks) w last [] state order s r = absurd r
scan_goes (look ∷ looks) w last (reply ∷ replies) state order s r =
    let there : World = s.0 in
    let c : Command = look.command in
    let d : Decision = record { reply = reply; next = r.0 } in
    let u = untouched_goes look.before w there s.1 s.2 in
    let here = ordered_goes look.before w there order s.2 in
    let step : Step there.building any_eligible (state_of there) c.terminal c.number c.body reply r.0 =
    subst (λ (p : Plan). Step p any_eligible (state_of there) c.terminal c.number c.body reply r.0) (sym u.same_building)
    (subst (λ (st : State). Step w.building any_eligible st c.terminal c.number c.body reply r.0) (sym (same_state w there u)) r.1) in
    let on : GoesOn there.base (take there.sealed there.accepted) r.0 =
    steps_go_on there.building any_eligible there.base (take there.sealed there.accepted) (state_of there) c.terminal c.number c.body reply r.0 (state_goes_on there) step in
    let taken = steps_are_takes there c.terminal c reply r.0 s.3 step in
    let later : World = deciding there c d in
    let run : Run there.building any_eligible (state_of later) (looked_commands looks) replies state =
    subst (λ (p : Plan). Run p any_eligible (state_of later) (looked_commands looks) replies state) (sym u.same_building)
    (subst (λ (st : State). Run w.building any_eligible st (looked_commands looks) replies state) (sym (state_after there c reply r.0 here.accepted on)) r.2) in
    let rest = scan_goes looks later (deciding last c d) replies state (ordered_next there (Take c.terminal taken.0) later here taken.1) (looks_after c d looks there last here s.4 s.5) run in (
      taken.0 ∷ rest.0,
      joined look.before (Take c.terminal taken.0 ∷ look_events looks rest.0) w there s.2
          ∙ one (Take c.terminal taken.0) (look_events looks rest.0) there later taken.1 ∙ rest.1
          ∙ ap (λ (x : World). Some x) (scanned_rest last c d (looked_commands looks) replies state (ordered_looks looks there last here s.5).accepted),
    )

pub scans_go_among : (w : World) → ScansGoAmong w
scans_go_among w looks replies state last order s r =
    let scan = scan_goes looks w last replies state (ordered_from w order) s r in
    let more = with_replies (looked_commands looks) replies in (
      scan.0,
      λ behind after are h. joined (look_events looks scan.0) behind w (scanned last (looked_commands looks) replies state) scan.1
          ∙ decided_goes state more behind last after (ordered_looks looks w last (ordered_from w order) s) are h,
    )

-- two lists of such events
beside_parts : (xs ys : List Event) → AreBeside (xs ++ ys) → AreBeside xs × AreBeside ys
beside_parts [] ys h = (tt, h)
beside_parts (x ∷ xs) ys h = let r = beside_parts xs ys h.1 in ((h.0, r.0), r.1)

-- the seal of a scan, and what comes between and after
seal_goes : (between behind : List Event) (w last after : World) (command : Command) (commands : List Command) (reply : Reply) (replies : List Reply) (state : State) → Ordered last → Untouched w last → IsBetweenScans w
    → is_off last.power ≡ false → AreBeside (between ++ behind) → goes (between ++ behind) last ≡ Some after
    → goes (between ++ Seal ∷ behind) (scanned last (command ∷ commands) (reply ∷ replies) state) ≡ Some (allocated after (command ∷ commands) (reply ∷ replies) state)
seal_goes between behind w last after command commands reply replies state order same k on are h =
    let more = with_replies (command ∷ commands) (reply ∷ replies) in
    let both = beside_parts between behind are in
    let m = then_from (goes behind) (goes between last) after (sym (goes-append between behind last) ∙ h) in
    let mid : World = m.0 in
    let here = untouched_goes between last mid both.0 m.1 in
    let to_mid = still_untouched w last mid same here in
    let to_end = still_untouched w mid after to_mid (untouched_goes behind mid after both.1 m.2) in
    let ends : IsBetweenScans after = record {
      nothing_taken = to_end.same_taken ∙ k.nothing_taken;
      all_sealed = to_end.same_sealed ∙ k.all_sealed ∙ ap length (sym to_end.same_accepted);
    } in
    joined between (Seal ∷ behind) (decided_on last state more) (decided_on mid state more) (decided_goes state more between last mid order both.0 m.1)
    ∙ one Seal behind (decided_on mid state more) (sealing (decided_on mid state more)) (seals_scan mid command commands reply replies state (here.stays_on on) (to_mid.same_taken ∙ k.nothing_taken))
    ∙ sealed_goes behind (decided_on mid state more) (decided_on after state more) both.1 (decided_goes state more behind mid after (ordered_goes between last mid order m.1) both.1 m.2)
    ∙ ap (λ (x : World). Some x) (sealed_scan after (command ∷ commands) (reply ∷ replies) state ends)

pub allocations_go_among : (w : World) → AllocationsGoAmong w
allocations_go_among w look looks reply replies state last order k s r =
    let scan = scan_goes (look ∷ looks) w last (reply ∷ replies) state (ordered_from w order) s r in
    let here = ordered_looks (look ∷ looks) w last (ordered_from w order) s in
    let on = (untouched_looks looks s.0 last s.5).stays_on (can_be_looked_at s.0 look.command.terminal s.3.0).powered in (
      scan.0,
      λ between behind after are h.
          joined (look_events (look ∷ looks) scan.0) (between ++ Seal ∷ behind) w (scanned last (looked_commands (look ∷ looks)) (reply ∷ replies) state) scan.1
          ∙ seal_goes between behind w last after look.command (looked_commands looks) reply replies state here (untouched_looks (look ∷ looks) w last s) k on are h,
    )
