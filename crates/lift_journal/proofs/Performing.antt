-- The calls of a step, run after run.
use Rattle.std.proofs.Common.{◌≡◌, true, false, ◌≤◌, ◌+◌, ◌++◌, [], ◌∷◌, ◌∙◌, ℕ, List, Result, Ok, Err, OnOk, arith, subst, length}
use Rattle.std.specs.Prelude.{IsErrAnd}
use Rattle.std.specs.Result.{is_err}
use Rattle.std.proofs.lemmas.Result.{err_from_is_err_and}
use Rattle.lift_disk.specs.Disk.{DiskState, IsAccess, writes_in}
use Rattle.lift_disk.specs.Trace.{Access}
use Rattle.lift_disk.specs.lemmas.Moments.{cause_of, runs_call, runs_then}
use Rattle.lift_journal.specs.declared.fault.JournalFault.{JournalFault}
use Rattle.lift_journal.specs.declared.fault.JournalFault.TheVariants.{Disk}
use Rattle.lift_journal.specs.Calls.{Performs, append_calls, batch_body}
use Rattle.lift_journal.specs.Layout.{Batch, size_of}
use Rattle.lift_journal.specs.Calls.{CallsDevice}
use Rattle.lift_journal.specs.Journal.{JournalView}
use Rattle.lift_journal.specs.lemmas.Telling.{access_ends, ends_then, err_ends}
use Rattle.lift_journal.proofs.Texts.{length-batch_body}
use Rattle.lift_journal.proofs.Following.{one_follows, follows_then, front_more, err_follows}

-- one call
pub performs_call : {T E : Type 0} (r : Result T E) (call : Access) (old new : DiskState) → IsAccess r call old new → Performs r (call ∷ []) 1 (writes_in call) old new
performs_call r call old new access = record {
  runs = runs_call old new access.goes_on;
  cause = cause_of r old new access.fault;
  armed = access_ends r call old new access;
  made = record {
    calls = always r access.goes_on.calls;
    writes = always r access.writes;
    most_calls = omega (arith, access.goes_on.calls);
    most_writes = omega (arith, access.writes);
  };
  follows = one_follows r call old new access.recorded;
}
  where
    always : {T E P : Type 0} (r : Result T E) → P → OnOk r P
    always (Ok x) p = p
    always (Err e) p = tt

-- one step after another
pub performs_then : {T E U F : Type 0} {x : T} (r : Result U F) (old mid new : DiskState) (first second : List Access) (n m w v : ℕ)
    → Performs {T = T} {E = E} (Ok x) first n w old mid → Performs r second m v mid new → Performs r (first ++ second) (n + m) (w + v) old new
performs_then (Ok y) old mid new first second n m w v was is = record {
  runs = runs_then old mid new was.runs is.runs;
  cause = record { ok = is.cause.ok ∙ was.cause.ok; err = tt };
  armed = ends_then old mid new was.runs was.armed.ok (Ok y) is.armed;
  made = record {
    calls = omega (arith, was.made.calls, is.made.calls);
    writes = omega (arith, was.made.writes, is.made.writes);
    most_calls = omega (arith, was.made.calls, is.made.most_calls);
    most_writes = omega (arith, was.made.writes, is.made.most_writes);
  };
  follows = follows_then (Ok y) old mid new first second was.follows.all is.follows;
}
performs_then (Err e) old mid new first second n m w v was is = record {
  runs = runs_then old mid new was.runs is.runs;
  cause = record { ok = tt; err = omega (arith, was.cause.ok, is.cause.err) };
  armed = ends_then old mid new was.runs was.armed.ok (Err e) is.armed;
  made = record {
    calls = tt;
    writes = tt;
    most_calls = omega (arith, was.made.calls, is.made.most_calls);
    most_writes = omega (arith, was.made.writes, is.made.most_writes);
  };
  follows = follows_then (Err e) old mid new first second was.follows.all is.follows;
}

-- a step that failed, before another, whose fault is answered
pub err_performs : {T E U F : Type 0} {e : E} (Q : F → Type 0) (r : Result U F) (old new : DiskState) (first second : List Access) (n m w v : ℕ) → IsErrAnd r Q
    → Performs {T = T} {E = E} (Err e) first n w old new → n ≤ m → w ≤ v → Performs r (first ++ second) m v old new
err_performs Q r old new first second n m w v is was calls writes =
    let fault = err_from_is_err_and r is in
    record {
      runs = was.runs;
      cause = record { ok = rw fault.1 tt; err = rw fault.1 was.cause.err };
      armed = err_ends Q r old new is was.armed.err;
      made = record {
        calls = rw fault.1 tt;
        writes = rw fault.1 tt;
        most_calls = omega (arith, was.made.most_calls, calls);
        most_writes = omega (arith, was.made.most_writes, writes);
      };
      follows = err_follows Q r old new (first ++ second) is (front_more old new first second was.follows.front);
    }

-- a step that has answered, whose caller answers with a value of its own
pub ok_performs : {T E U F : Type 0} {x : T} {y : U} (old new : DiskState) (calls : List Access) (n w : ℕ) → Performs {T = T} {E = E} (Ok x) calls n w old new → Performs {T = U} {E = F} (Ok y) calls n w old new
ok_performs old new calls n w was = record {
  runs = was.runs;
  cause = record { ok = was.cause.ok; err = tt };
  armed = record { ok = was.armed.ok; err = tt };
  made = record { calls = was.made.calls; writes = was.made.writes; most_calls = was.made.most_calls; most_writes = was.made.most_writes };
  follows = record { all = was.follows.all; front = tt };
}

-- a step that failed, whose fault is answered
pub err_performed : {T E U F : Type 0} {e : E} (Q : F → Type 0) (r : Result U F) (old new : DiskState) (calls : List Access) (n w : ℕ) → IsErrAnd r Q
    → Performs {T = T} {E = E} (Err e) calls n w old new → Performs r calls n w old new
err_performed Q r old new calls n w is was =
    let fault = err_from_is_err_and r is in
    record {
      runs = was.runs;
      cause = record { ok = rw fault.1 tt; err = rw fault.1 was.cause.err };
      armed = err_ends Q r old new is was.armed.err;
      made = record { calls = rw fault.1 tt; writes = rw fault.1 tt; most_calls = was.made.most_calls; most_writes = was.made.most_writes };
      follows = err_follows Q r old new calls is was.follows.front;
    }

-- the same, as a call of the journal answers it
module _ {T U E : Type 0} (calls : List Access) (n w : ℕ) (old new : DiskState) where
  pub device_done : {x : T} {y : U} → Performs {E = E} (Ok y) calls n w old new → CallsDevice {T = T} (Ok x) calls n w old new
  device_done was = record {
    runs = was.runs;
    made = record { calls = was.made.calls; writes = was.made.writes; most_calls = was.made.most_calls; most_writes = was.made.most_writes };
    all = was.follows.all;
    front = λ never. absurd (cc never);
    armed = record { ok = was.armed.ok; err = tt };
  }

  pub device_failed : {e : E} → Performs {T = U} (Err e) calls n w old new → CallsDevice {T = T} (Err Disk) calls n w old new
  device_failed was = record {
    runs = was.runs;
    made = record { calls = tt; writes = tt; most_calls = was.made.most_calls; most_writes = was.made.most_writes };
    all = tt;
    front = λ _. was.follows.front;
    armed = record { ok = tt; err = was.armed.err };
  }

  pub device_ok : {x : T} (r : Result U E) → is_err r ≡ false → Performs r calls n w old new → CallsDevice {T = T} (Ok x) calls n w old new
  device_ok (Ok y) is was = device_done was
  device_ok (Err e) is was = absurd (cc is)

  pub device_err : (r : Result U E) → is_err r ≡ true → Performs r calls n w old new → CallsDevice {T = T} (Err Disk) calls n w old new
  device_err (Ok y) is was = absurd (cc is)
  device_err (Err e) is was = device_failed was

-- the calls of an append, by the batch that it writes
pub performs_body : {U E : Type 0} (r : Result U E) (old new : DiskState) (gate first number : ℕ) (batch : Batch) → gate ≡ first
    → Performs r (append_calls gate (batch_body number batch)) (length (batch_body number batch) + 4) (length (batch_body number batch) + 2) old new
    → Performs r (append_calls first (batch_body number batch)) (size_of batch + 4) (size_of batch + 2) old new
performs_body r old new gate first number batch at was =
    subst (λ k. Performs r (append_calls k (batch_body number batch)) (size_of batch + 4) (size_of batch + 2) old new) at
    (subst (λ k. Performs r (append_calls gate (batch_body number batch)) (k + 4) (k + 2) old new) (length-batch_body number batch) was)

-- the same of what a caller sees of the journal
pub calls_seen : {D T : Type 0} {r : Result T JournalFault} {n w : ℕ} {new : DiskState} {inside outside : JournalView D} (state : D → DiskState) (calls : JournalView D → List Access) → inside ≡ outside
    → CallsDevice r (calls inside) n w (state inside.device) new → CallsDevice r (calls outside) n w (state outside.device) new
calls_seen {D} {T} {r} {n} {w} {new} {inside} {outside} state calls is made = subst (λ (v : JournalView D). CallsDevice r (calls v) n w (state v.device) new) is made
