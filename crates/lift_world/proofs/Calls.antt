-- The order of device calls.
use Rattle.std.proofs.Common.{ℕ, ◌≡◌, ◌+◌, Bool, true, ◌&&◌, eqb, Some, refl, sym, ap, ◌∙◌}
use Rattle.std.specs.Prelude.{IsTrue, nat_lt, option_and_then}
use Rattle.std.proofs.lemmas.Bool.{false≢true, and_parts, eqb-true, eq-eqb, ltb-true, lt-ltb}
use Rattle.lift_world.specs.declared.event.Phase.{Phase}
use Rattle.lift_world.specs.declared.event.Power.{Power}
use Rattle.lift_world.specs.declared.event.Power.TheVariants.{Running}
use Rattle.lift_world.specs.declared.event.Phase.TheVariants.{Idle, Writing, Synced, GateWritten}
use Rattle.lift_world.specs.declared.event.Event.{Event}
use Rattle.lift_world.specs.declared.event.Event.TheVariants.{Ask, Take, Seal, Pull, Fold, Body as BodyWrite, FirstSync, Gate, SecondSync, Answer as Answering, Hear, Fault, Cut, Reopen}
use Rattle.lift_world.specs.Decided.{when}
use Rattle.lift_world.specs.World.{World, is_running, is_synced, is_gate_written, written}
use Rattle.lift_world.specs.Next.{next, in_phase, settling, writes_before_sync}
use Rattle.lift_world.specs.Possible.{is_device_call, CallsInOrder}
use Rattle.lift_world.specs.lemmas.Decisions.{some_is}
use Rattle.lift_world.specs.lemmas.Steps.{then_from}
use Rattle.lift_world.proofs.Possibilities.{when_some}
use Rattle.lift_world.proofs.Turns.{runs}

writing_is : (phase : Phase) (n : ℕ) → written phase ≡ Some n → phase ≡ Writing n
writing_is Idle n h = cc
writing_is (Writing m) n h = ap (λ (k : ℕ). Writing k) (some_is m n h)
writing_is Synced n h = cc
writing_is GateWritten n h = cc

synced_is : (phase : Phase) → is_synced phase ≡ true → phase ≡ Synced
synced_is Idle h = absurd (false≢true h)
synced_is (Writing n) h = absurd (false≢true h)
synced_is Synced h = refl
synced_is GateWritten h = absurd (false≢true h)

gate_is : (phase : Phase) → is_gate_written phase ≡ true → phase ≡ GateWritten
gate_is Idle h = absurd (false≢true h)
gate_is (Writing n) h = absurd (false≢true h)
gate_is Synced h = absurd (false≢true h)
gate_is GateWritten h = refl

-- a call that waits for the power and a test
pub record Waited (w : World) (test : Bool) (made after : World) : Type 0 where
  pub running : is_running w.power ≡ true
  pub passes : test ≡ true
  pub is : after ≡ made

waited : (w : World) (test : Bool) (made after : World) → when (is_running w.power && test) made ≡ Some after → Waited w test made after
waited w test made after h =
    let s = when_some (is_running w.power && test) made after h in
    let both = and_parts (is_running w.power) test s.0 in
    record { running = both.0; passes = both.1; is = sym s.1 }

-- one that waits for a count of writes too
pub record Counted (w : World) (test : ℕ → Bool) (made : ℕ → World) (after : World) : Type 0 where
  pub count : ℕ
  pub here : w.phase ≡ Writing count
  pub waits : Waited w (test count) (made count) after

counted : (w : World) (test : ℕ → Bool) (made : ℕ → World) (after : World)
    → option_and_then (λ n. when (is_running w.power && test n) (made n)) (written w.phase) ≡ Some after → Counted w test made after
counted w test made after h =
    let t = then_from (λ n. when (is_running w.power && test n) (made n)) (written w.phase) after h in
    record { count = t.0; here = writing_is w.phase t.0 t.1; waits = waited w (test t.0) (made t.0) after t.2 }

module _ (w : World) where
  folds : (after : World) → next w Fold ≡ Some after → Counted w (λ n. eqb n 0) (λ n. w) after
  folds after h = counted w (λ n. eqb n 0) (λ n. w) after h

  writes : (after : World) → next w BodyWrite ≡ Some after → Counted w (λ n. nat_lt n (writes_before_sync w)) (λ n. in_phase w (Writing (n + 1))) after
  writes after h = counted w (λ n. nat_lt n (writes_before_sync w)) (λ n. in_phase w (Writing (n + 1))) after h

  syncs : (after : World) → next w FirstSync ≡ Some after → Counted w (λ n. eqb n (writes_before_sync w)) (λ n. in_phase w Synced) after
  syncs after h = counted w (λ n. eqb n (writes_before_sync w)) (λ n. in_phase w Synced) after h

  running_at : (call : Event) (after : World) → IsTrue (is_device_call call) → next w call ≡ Some after → is_running w.power ≡ true
  running_at (Ask terminal number body) after is h = absurd (false≢true is)
  running_at (Take terminal letter) after is h = absurd (false≢true is)
  running_at Seal after is h = absurd (false≢true is)
  running_at Pull after is h = absurd (false≢true is)
  running_at Fold after is h = (folds after h).waits.running
  running_at BodyWrite after is h = (writes after h).waits.running
  running_at FirstSync after is h = (syncs after h).waits.running
  running_at Gate after is h = (waited w (is_synced w.phase) (in_phase w GateWritten) after h).running
  running_at SecondSync after is h = (waited w (is_gate_written w.phase) (settling w) after h).running
  running_at (Answering terminal) after is h = absurd (false≢true is)
  running_at (Hear terminal) after is h = absurd (false≢true is)
  running_at Fault after is h = absurd (false≢true is)
  running_at (Cut kept) after is h = absurd (false≢true is)
  running_at (Reopen kept) after is h = absurd (false≢true is)

  -- a call whose test passes while running
  made : (test : Bool) (x : World) → w.power ≡ Running → test ≡ true → when (is_running w.power && test) x ≡ Some x
  made test x on passes = ap (λ (p : Power). when (is_running p && test) x) on ∙ ap (λ (b : Bool). when b x) passes

  made_at : (test : ℕ → Bool) (f : ℕ → World) (n : ℕ) → w.power ≡ Running → w.phase ≡ Writing n → test n ≡ true
      → option_and_then (λ m. when (is_running w.power && test m) (f m)) (written w.phase) ≡ Some (f n)
  made_at test f n on there passes = ap (λ (p : Phase). option_and_then (λ m. when (is_running w.power && test m) (f m)) (written p)) there ∙ made (test n) (f n) on passes

  pub calls_in_order : CallsInOrder w
  calls_in_order = record {
    only_running = λ call after is h. runs w.power (running_at call after is h);
    checkpoint = λ after h. let c = folds after h in (c.here ∙ ap (λ (n : ℕ). Writing n) (eqb-true c.count 0 c.waits.passes), c.waits.is);
    body = λ after h. let c = writes after h in (c.count, c.here, ltb-true c.count (writes_before_sync w) c.waits.passes, c.waits.is);
    first_sync = λ after h. let c = syncs after h in (c.here ∙ ap (λ (n : ℕ). Writing n) (eqb-true c.count (writes_before_sync w) c.waits.passes), c.waits.is);
    gate = λ after h. let c = waited w (is_synced w.phase) (in_phase w GateWritten) after h in (synced_is w.phase c.passes, c.is);
    second_sync = λ after h. let c = waited w (is_gate_written w.phase) (settling w) after h in (gate_is w.phase c.passes, c.is);
    folds = λ on there. made_at (λ n. eqb n 0) (λ n. w) 0 on there refl;
    writes = λ n on there less. made_at (λ m. nat_lt m (writes_before_sync w)) (λ m. in_phase w (Writing (m + 1))) n on there (lt-ltb n (writes_before_sync w) less);
    syncs = λ on there. made_at (λ n. eqb n (writes_before_sync w)) (λ n. in_phase w Synced) (writes_before_sync w) on there (eq-eqb (writes_before_sync w) (writes_before_sync w) refl);
    writes_gate = λ on there. made (is_synced w.phase) (in_phase w GateWritten) on (ap is_synced there);
    settles = λ on there. made (is_gate_written w.phase) (settling w) on (ap is_gate_written there);
  }
