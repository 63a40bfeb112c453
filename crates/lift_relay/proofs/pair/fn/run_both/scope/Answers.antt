use Rattle.std.proofs.Common.{rules, ◌≡◌, [], ◌∷◌, refl, sym, subst}
use mir.Syntax.{Sym}
use denote.RattleType.{RattleType}
use denote.Exit.{no}
use denote.Param.{param}
use denote.Struct.Tuple.{TupleAt}
use denote.Param.Send.{IsSend, IsSync, sendable, param_send, arg_send, shr_send}
use Rattle.core.specs.contracts.atomic.AtomicBool as AtomicBool
use Rattle.core.proofs.atomic.AtomicBool.TheSendSync as flag_is
use Rattle.lift_parts.specs.Allocator.{AllocatorState}
use Rattle.lift_parts.specs.Turns.{AllocatorTurns, NoFlush}
use Rattle.lift_relay.specs.declared.gate.GatedAllocator.{GatedAllocator}
use Rattle.lift_relay.specs.lemmas.Notified.{notified_on, turns_stay}
use Rattle.lift_relay.proofs.Crosses.{asking_send, allocating_send}
use Rattle.lift_relay.proofs.Ran.{run_of}
use Rattle.lift_relay.proofs.pair.fn.run_both.scope.Goals.{in-Ok-join, in-Err-join}
use Rattle.lift_relay.proofs.pair.fn.run_both.scope.Goals as goal

pub returns-after-join : goal.returns-after-join
returns-after-join g c =
    let chooses = g.P.Policy.chooses in
    let state = g.D.Disk.state in
    let a = c.captures.allocator in
    let p = c.in-Ok.child.promise.0.value in
    let ran = c.match-join.ran in
    let kept : p ≡ a = search rules in
    let of_a = λ (x : AllocatorState g.row.P.Denot). AllocatorTurns (chooses x.policy) x ran.allocator in
    let turned : AllocatorTurns (chooses a.policy) a ran.allocator = elim c.match-join.branch [
      | in-Ok-join w ↦ subst of_a kept (subst (λ (x : GatedAllocator g.row.P.Denot). AllocatorTurns (chooses p.policy) p x.allocator) (sym w.ran-is) w.in-Ok-join.ensures.0)
      | in-Err-join w ↦ subst of_a kept (subst of_a w.in-Err-join.ensures
          (subst (λ (x : GatedAllocator g.row.P.Denot). AllocatorTurns (chooses w.in-Err-join.idle.policy) w.in-Err-join.idle x.allocator) (sym w.ran-is) w.allocate-ran.ensures.turns))
    ] in
    let first = c.flush-first.ensures in
    let drained = c.drain-allocator in
    let e = drained.ensures in
    record {
      same = refl;
      ran = run_of chooses state a ran.allocator drained.result.0 c.captures.flusher c.flush-first.new.flusher drained.new.flusher c.flush-first.result drained.result.1
          turned first.turns e.allocator e.flusher e.nothing_in_hand e.all_received;
      notified = notified_on g.V.Witness.is_notified _ _ _ c.captures.witness.now c.flush-first.new.witness drained.new.witness
          (turns_stay state _ _ _ _ first.turns) (turns_stay state _ _ _ _ e.flusher.1) first.notified e.notified;
      closed = λ _. first.closed;
    }

pub returns-in-Ok-2 : goal.returns-in-Ok-2
returns-in-Ok-2 g c =
    let chooses = g.P.Policy.chooses in
    let a = c.captures.allocator in
    let back : c.in-Err.unmade.2 ≡ a = search rules in
    let gate : c.in-Err.unmade.3 ≡ c.captures.gate = search rules in
    let ran = c.in-Ok-2.ran.allocator in
    let drained = c.drain-allocator-in-Ok-2 in
    let e = drained.ensures in
    record {
      same = refl;
      ran = run_of chooses g.D.Disk.state a ran drained.result.0 c.captures.flusher c.captures.flusher drained.new.flusher _ drained.result.1
          (subst (λ (x : AllocatorState g.row.P.Denot). AllocatorTurns (chooses x.policy) x ran) back c.in-Ok-2.ensures.comes.0)
          NoFlush e.allocator e.flusher e.nothing_in_hand e.all_received;
      notified = e.notified;
      closed = λ _. subst (λ x. g.G.Gate.closed x.now) gate c.in-Ok-2.ensures.closed;
    }

-- what the thread's closure captures
captures_send : (ν : Sym) (A B C D : RattleType) → IsSend A → IsSend B → IsSend C → IsSend D → IsSend (TupleAt ν (A ∷ B ∷ C ∷ D ∷ []))
captures_send ν A B C D a b c d = search sendable depth 20

pub spawn-requires-send-T : goal.spawn-requires-send-T
spawn-requires-send-T g c = λ κs h.
    let p : IsSend (param 3 g.row.P) = c.requires-raw.1.1.1.1.1.1.0 in
    param_send 3 _ (arg_send _ no _ (allocating_send _ _ (param 3 g.row.P) _ p))

pub spawn-requires-send-F : goal.spawn-requires-send-F
spawn-requires-send-F g c = λ κs h.
    let p : IsSend (param 3 g.row.P) = c.requires-raw.1.1.1.1.1.1.0 in
    let rt : IsSync (param 0 g.row.R) = c.requires-raw.1.1.1.1.1.1.1.0 in
    let gate : IsSync (param 1 g.row.G) = c.requires-raw.1.1.1.1.1.1.1.1 in
    let flag : IsSync AtomicBool.the_row = flag_is.the_sync in
    param_send 2 _ (arg_send _ no _ (captures_send _ _ _ _ _ (shr_send _ _ _ flag) (shr_send _ _ _ rt) (asking_send _ _ (param 3 g.row.P) _ p) (shr_send _ _ _ gate)))
