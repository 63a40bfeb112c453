-- Of what a witness was notified, over several turns.
use Rattle.std.proofs.Common.{◌≡◌, Bool, true, false, Option, Result, refl, ap, ◌∙◌, subst, sym}
use Rattle.lift_disk.specs.Disk.{DiskState}
use Rattle.lift_keeper.specs.declared.fault.KeeperFault.{KeeperFault}
use Rattle.lift_keeper.specs.Writer.{WriterView}
use Rattle.lift_parts.specs.declared.counts.FlushCounts.{FlushCounts}
use Rattle.lift_parts.specs.Flusher.{FlusherState}
use Rattle.lift_parts.specs.Turns.{FlusherTurns, NoFlush, OneFlush, IsFlush}
use Rattle.lift_relay.specs.Notified.{FailureNotified}

-- of a writer that stays as it is nobody is notified
pub notified_none : {V : Type 0} (is_notified : V → V → Type 0) (b : Bool) (v : V) → FailureNotified is_notified b b v v
notified_none is_notified false v = refl
notified_none is_notified true v = refl

-- A writer that is broken stays so: the witness is notified once.
pub notified_on : {V : Type 0} (is_notified : V → V → Type 0) (a b c : Bool) (u v w : V) → (a ≡ true → b ≡ true) → (b ≡ true → c ≡ true)
    → FailureNotified is_notified a b u v → FailureNotified is_notified b c v w → FailureNotified is_notified a c u w
notified_on is_notified false false false u v w first_stays stays first then = then ∙ first
notified_on is_notified false false true u v w first_stays stays first then = subst (λ x. is_notified x w) first then
notified_on is_notified false true false u v w first_stays stays first then = absurd (let wrong = stays refl in cc)
notified_on is_notified false true true u v w first_stays stays first then = subst (λ x. is_notified u x) (sym then) first
notified_on is_notified true false c u v w first_stays stays first then = absurd (let wrong = first_stays refl in cc)
notified_on is_notified true true c u v w first_stays stays first then = then ∙ first

pub flush_stays : {D : Type 0} (state : D → DiskState) (f g : FlusherState D) (answer : Result FlushCounts KeeperFault) → IsFlush state f g answer → f.writer.is_broken ≡ true → g.writer.is_broken ≡ true
flush_stays {D} state f g answer flush was = ap (λ (w : WriterView D). w.is_broken) (flush.commits.rests was) ∙ was

pub turns_stay : {D : Type 0} (state : D → DiskState) (f g : FlusherState D) (before last : Option KeeperFault) → FlusherTurns state f before g last → f.writer.is_broken ≡ true → g.writer.is_broken ≡ true
turns_stay state f g before last NoFlush was = was
turns_stay state f g before last (OneFlush {g = h} {first = first} {answer = answer} more flush is) was = flush_stays state h g answer flush (turns_stay state f h before first more was)
