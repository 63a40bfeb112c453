-- The queued batches end one after the other, and no terminal has two commands on their way.
use Rattle.std.proofs.Common.{ℕ, ◌≡◌, ◌≢◌, ◌≤◌, Bool, true, false, cond, eqb, ltb, List, [], ◌∷◌}
use Rattle.std.proofs.Common.{◌++◌, length, take, Option, Some, refl, sym, ap, subst, ◌∙◌, arith}
use Rattle.std.specs.Prelude.{unwrap_or}
use Rattle.std.specs.List.{AllByRecursion}
use Rattle.std.proofs.lemmas.Bool.{eq-eqb, eqb-false, ltb-true, ltb-false, false≢true}
use Rattle.std.proofs.lemmas.List.{length-append, length-take-le}
use Rattle.lift_building.specs.Plan.{Plan}
use Rattle.lift_register.specs.Register.{RegisterState}
use Rattle.lift_world.specs.declared.event.Taken.{Taken}
use Rattle.lift_world.specs.declared.event.Event.{Event}
use Rattle.lift_world.specs.declared.event.Power.{Power}
use Rattle.lift_world.specs.declared.event.Power.TheVariants.{Running, Broken, Off}
use Rattle.lift_world.specs.World.{World, SealedBatch, start, is_idle, is_taken_of, is_running}
use Rattle.lift_world.specs.World.{is_broken}
use Rattle.lift_world.specs.Next.{run, next, unanswered}
use Rattle.lift_world.specs.Relay.{AreApart, EndInOrder, last_end, flown, IsQueueInOrder}
use Rattle.lift_world.specs.lemmas.Counted.{count_cons, owed, all_ask_one_by_one}
use Rattle.lift_world.specs.lemmas.Phases.{not_idle}
use Rattle.lift_world.specs.lemmas.Leads.{leads}

end_lower : (low other : ℕ) (queue : List SealedBatch) (high : ℕ) → other ≤ low
    → EndInOrder low queue high → EndInOrder other queue high
end_lower low other [] high le h = omega arith
end_lower low other (b ∷ queue) high le h = (let first = h.0 in omega arith, h.1)

pub end_above : (low : ℕ) (queue : List SealedBatch) (high : ℕ) → EndInOrder low queue high
    → low ≤ high
end_above low [] high h = h
end_above low (b ∷ queue) high h = let first = h.0 in let rest = end_above b.upto queue high h.1 in
    omega arith

end_push : (low : ℕ) (queue : List SealedBatch) (high : ℕ) (b : SealedBatch) → high ≤ b.upto
    → EndInOrder low queue high → EndInOrder low (queue ++ b ∷ []) b.upto
end_push low [] high b le h = (omega arith, omega arith)
end_push low (x ∷ queue) high b le h = (h.0, end_push x.upto queue high b le h.1)

pub last_pushed : (low : ℕ) (queue : List SealedBatch) (b : SealedBatch)
    → last_end low (queue ++ b ∷ []) ≡ b.upto
last_pushed low [] b = refl
last_pushed low (x ∷ queue) b = last_pushed x.upto queue b

pub not_both : {A : Type 0} (p : Power) → is_running p ≡ true → is_broken p ≡ true → A
not_both Running on broken = absurd (false≢true broken)
not_both Broken on broken = absurd (false≢true on)
not_both (Off kept) on broken = absurd (false≢true on)

pub record Ordered (w : World) : Type 0 where
  pub safe_first : w.safe ≤ flown w
  pub in_order : EndInOrder (flown w) w.queue w.sealed
  pub ends : is_running w.power ≡ true → last_end (flown w) w.queue ≡ w.sealed
  pub doubt : w.flight.upto ≤ w.sealed
  pub accepted : w.sealed ≤ length w.accepted

pub ordered_from : (w : World) → IsQueueInOrder w → Ordered w
ordered_from w k = record {
  safe_first = k.safe_first;
  in_order = k.in_order;
  ends = k.ends;
  doubt = k.doubt;
  accepted = k.all_accepted;
}

-- a queue without its first batch
pub first_of : (w : World) (batch : SealedBatch) (rest : List SealedBatch) → Ordered w
    → w.queue ≡ batch ∷ rest
    → (flown w ≤ batch.upto) × EndInOrder batch.upto rest w.sealed
first_of w batch rest k at =
    subst (λ (q : List SealedBatch). EndInOrder (flown w) q w.sealed) at k.in_order

rest_of : (w : World) (batch : SealedBatch) (rest : List SealedBatch) → Ordered w
    → w.queue ≡ batch ∷ rest
    → EndInOrder (flown w) rest w.sealed
rest_of w batch rest k at = let f = first_of w batch rest k at in
    end_lower batch.upto (flown w) rest w.sealed f.0 f.1

-- what is safe once a batch that is in flight is
pub flies_to : (w : World) → is_idle w.phase ≡ false → flown w ≡ w.flight.upto
flies_to w busy = ap (λ (b : Bool). cond b w.safe w.flight.upto) busy

-- a batch without entries ends where it begins
pub none_ends : (w : World) (batch : SealedBatch) (rest : List SealedBatch) → Ordered w
    → w.queue ≡ batch ∷ rest
    → is_idle w.phase ≡ true → ltb w.safe batch.upto ≡ false → batch.upto ≡ flown w
none_ends w batch rest k at idle none =
    let low = (first_of w batch rest k at).0 in
    let high = ltb-false w.safe batch.upto none in
    let same : flown w ≡ w.safe = ap (λ (b : Bool). cond b w.safe w.flight.upto) idle in
    omega arith

ends_at : (w : World) (batch : SealedBatch) (rest : List SealedBatch) → Ordered w
    → w.queue ≡ batch ∷ rest
    → is_running w.power ≡ true → last_end batch.upto rest ≡ w.sealed
ends_at w batch rest k at on =
    subst (λ (q : List SealedBatch). last_end (flown w) q ≡ w.sealed) at (k.ends on)

ordered : (w : World) (event : Event) → Ordered w → Ordered (unwrap_or (next w event) w)
ordered w event k = leads Ordered w event (record {
  stays = k;
  asked = λ command on may is.
      record {
        safe_first = k.safe_first;
        in_order = k.in_order;
        ends = k.ends;
        doubt = k.doubt;
        accepted = k.accepted;
      };
  taken = λ terminal letter command d on may at made is_take. record {
    safe_first = k.safe_first;
    in_order = k.in_order;
    ends = k.ends;
    doubt = k.doubt;
    accepted = let front = length-take-le w.sealed w.accepted k.accepted in let whole =
        length-append (take w.sealed w.accepted) d.next.batch in omega arith;
  };
  sealed = λ on some is_seal. record {
    safe_first = k.safe_first;
    in_order = end_push (flown w) w.queue w.sealed (record {
      commands = w.taken;
      upto = length w.accepted;
    }) k.accepted k.in_order;
    ends = λ runs. last_pushed (flown w) w.queue (record {
      commands = w.taken;
      upto = length w.accepted;
    });
    doubt = let d = k.doubt in let a = k.accepted in omega arith;
    accepted = omega arith;
  };
  fails = λ batch rest on at broken.
      record {
        safe_first = k.safe_first;
        in_order = rest_of w batch rest k at;
        ends = λ runs.
            not_both w.power runs broken;
        doubt = k.doubt;
        accepted = k.accepted;
      };
  flies = λ batch rest on at idle more. record {
    safe_first = let less = ltb-true w.safe batch.upto more in omega arith;
    in_order = (first_of w batch rest k at).1;
    ends = λ runs. ends_at w batch rest k at runs;
    doubt = end_above batch.upto rest w.sealed (first_of w batch rest k at).1;
    accepted = k.accepted;
  };
  lands = λ batch rest on at idle none. record {
    safe_first = k.safe_first;
    in_order = rest_of w batch rest k at;
    ends = λ runs. subst (λ (n : ℕ).
        last_end n rest ≡ w.sealed) (none_ends w batch rest k at idle none)
        (ends_at w batch rest k at runs);
    doubt = k.doubt;
    accepted = k.accepted;
  };
  goes_on = λ phase on busy still.
      let same : flown w ≡ cond (is_idle phase) w.safe w.flight.upto =
      flies_to w busy ∙ sym (ap (λ (b : Bool). cond b w.safe w.flight.upto) still) in
      record {
        safe_first = subst (λ (n : ℕ). w.safe ≤ n) same k.safe_first;
        in_order = subst (λ (n : ℕ). EndInOrder n w.queue w.sealed) same k.in_order;
        ends = λ runs. subst (λ (n : ℕ). last_end n w.queue ≡ w.sealed) same (k.ends runs);
        doubt = k.doubt;
        accepted = k.accepted;
      };
  settled = λ on gate. record {
    safe_first = omega arith;
    in_order = subst (λ (n : ℕ).
        EndInOrder n w.queue w.sealed) (flies_to w (not_idle w.phase gate)) k.in_order;
    ends = λ runs. subst (λ (n : ℕ).
        last_end n w.queue ≡ w.sealed) (flies_to w (not_idle w.phase gate)) (k.ends runs);
    doubt = omega arith;
    accepted = k.accepted;
  };
  answered = λ terminal c on at.
      record {
        safe_first = k.safe_first;
        in_order = k.in_order;
        ends = k.ends;
        doubt = k.doubt;
        accepted = k.accepted;
      };
  heard = λ a on. record {
    safe_first = k.safe_first;
    in_order = k.in_order;
    ends = k.ends;
    doubt = k.doubt;
    accepted = k.accepted;
  };
  failed = λ on is. record {
    safe_first = k.safe_first;
    in_order = k.in_order;
    ends = λ runs.
        absurd (false≢true runs);
    doubt = k.doubt;
    accepted = k.accepted;
  };
  cut = λ kept is. record {
    safe_first = k.safe_first;
    in_order = end_above (flown w) w.queue w.sealed k.in_order;
    ends = λ runs.
        absurd (false≢true runs);
    doubt = k.doubt;
    accepted = k.accepted;
  };
  reopened = λ kept may is_reopen.
      record {
        safe_first = omega arith;
        in_order = omega arith;
        ends = λ runs. refl;
        doubt = omega arith;
        accepted = omega arith;
      };
})

pub ordered_next : (w : World) (event : Event) (after : World) → Ordered w
    → next w event ≡ Some after → Ordered after
ordered_next w event after k h =
    subst Ordered (ap (λ (o : Option World). unwrap_or o w) h) (ordered w event k)

run_ordered : (events : List Event) (w : World) → Ordered w → Ordered (run events w)
run_ordered [] w k = k
run_ordered (event ∷ events) w k =
    run_ordered events (unwrap_or (next w event) w) (ordered w event k)

-- of no terminal two commands, where none has more than one
none_by : (terminal : ℕ) (c : Taken) (cs : List Taken) (b : Bool) → eqb c.terminal terminal ≡ b
    → owed terminal (c ∷ cs) ≡ 0 → (owed terminal cs ≡ 0) × (c.terminal ≢ terminal)
none_by terminal c cs true e h = let a = count_cons (is_taken_of terminal) c true e cs in
    absurd (omega arith)
none_by terminal c cs false e h = let a = count_cons (is_taken_of terminal) c false e cs in
    (omega arith, eqb-false c.terminal terminal e)

pub none_owed : (terminal : ℕ) (cs : List Taken) → owed terminal cs ≡ 0
    → AllByRecursion (λ (d : Taken). d.terminal ≢ terminal) cs
none_owed terminal [] h = tt
none_owed terminal (c ∷ cs) h = let n = none_by terminal c cs (eqb c.terminal terminal) refl h in
    (n.1, none_owed terminal cs n.0)

pub are_apart : (cs : List Taken) → ((terminal : ℕ) → owed terminal cs ≤ 1) → AreApart cs
are_apart [] one = tt
are_apart (c ∷ cs) one = (
  none_owed c.terminal cs (let a = count_cons (is_taken_of c.terminal) c true
      (eq-eqb c.terminal c.terminal refl) cs in let o = one c.terminal in omega arith),
  are_apart cs (λ terminal.
      let a = count_cons (is_taken_of terminal) c (eqb c.terminal terminal) refl cs in let o =
      one terminal in omega arith),
)

pub ordered_after : (building : Plan) (base : RegisterState) (events : List Event) → Ordered (run events (start building base))
ordered_after building base events =
    run_ordered events (start building base) (record {
      safe_first = omega arith;
      in_order = omega arith;
      ends = λ runs. refl;
      doubt = omega arith;
      accepted = omega arith;
    })

pub queue_in_order : (building : Plan) (base : RegisterState) (events : List Event)
    → IsQueueInOrder (run events (start building base))
queue_in_order building base events =
    let w : World = run events (start building base) in
    let k = ordered_after building base events in
    record {
      safe_first = k.safe_first;
      in_order = k.in_order;
      ends = k.ends;
      doubt = k.doubt;
      all_accepted = k.accepted;
      apart = are_apart (unanswered w) (λ terminal.
          (all_ask_one_by_one building base events terminal).one_on_its_way);
    }
