-- Which connections are open, and how many have ended.
use Rattle.std.specs.Prelude.{ℕ, ◌≡◌, ◌≤◌, ◌⊎◌, suc, Bool, true, false, List, Option, Some, None, IfOk, IfSome, IsSome, Result}
use Rattle.std.specs.Prelude.{Ok, Err, if◌then◌else◌, nat_lt}
use Rattle.std.specs.declared.net.tcp.TcpListener.{TcpListener as Listener}
use Rattle.lift_serve.specs.declared.serving.ServeFault.{ServeFault}
use Rattle.lift_serve.specs.declared.serving.ServeFault.TheVariants.{Thread}

-- the numbers of the open connections, the next number, how many have ended, whether all were given
-- up, and the first shortage
pub record OpenState : Type 0 where
  pub numbers : List ℕ
  pub next : ℕ
  pub ended : ℕ
  pub given_up : Bool
  pub shortage : Option ServeFault

-- at this socket, so many connections: as are to end, or have
pub record EndedState : Type 0 where
  pub listener : Listener
  pub sessions : ℕ

-- how a serving ended: what it was refused, and that so many connections have ended
pub record ServingEndState : Type 0 where
  pub fault : Option ServeFault
  pub ended : Option EndedState

-- one more, up to so many
abbrev pub one_more : (most count : ℕ) → ℕ
one_more most count = if nat_lt count most then suc count else count

-- so many have ended, or all were given up
abbrev pub AreOver : ℕ → OpenState → Type 0
AreOver sessions state = (sessions ≤ state.ended) ⊎ (state.given_up ≡ true)

-- how the accepting of a serving that is bound so is over: all have ended, or all were given up
abbrev pub over_of : (have_ended : Bool) → EndedState → Result EndedState (Unit {0})
over_of true bound = Ok bound
over_of false bound = Err tt

-- The accepting is over: so many connections at this socket have ended, unless all were given up.
abbrev pub IsEndAt : EndedState → Result EndedState (Unit {0}) → Type 0
IsEndAt bound over = IfOk over (λ ended. ended ≡ bound)

-- that they have ended, where they were not given up
abbrev pub ended_in : Result EndedState (Unit {0}) → Option EndedState
ended_in (Ok ended) = Some ended
ended_in (Err given_up) = None

-- the first of two, if there is one
abbrev pub earlier_of : {T : Type 0} → (before behind : Option T) → Option T
earlier_of None behind = behind
earlier_of (Some shortage) behind = Some shortage

-- what is reported of a serving whose accepting was over so: that no thread could be had for the
-- serving itself, and else the first shortage
abbrev pub reported_after : Result EndedState (Unit {0}) → (first : Option ServeFault) → Option ServeFault
reported_after (Ok ended) first = first
reported_after (Err given_up) first = Some Thread

-- That connections have ended is reported only where as many have at this socket as were to; and where
-- that isn't reported a fault is.
pub record IsReportOf (bound : EndedState) (end : ServingEndState) : Type 0 where
  pub ended : IfSome end.ended (λ ended. ended ≡ bound)
  pub counted : end.fault ≡ None → IsSome end.ended
