-- What is told, step by step.
use Rattle.std.proofs.Common.{◌≡◌, ◌≢◌, ℕ, ◌==◌, List, [], ◌∷◌, length, get_or, Bool, true, false, Some, None, Ok, Err, Result, subst, slice_set, ap, ◌∙◌, refl, inl, inr, arith}
use Rattle.std.specs.Prelude.{OnOk, IfOk, codes, ◌⊎◌}
use Rattle.lift_replay.specs.declared.lines.Verdict.{Verdict}
use Rattle.lift_replay.specs.declared.lines.Verdict.TheVariants.{Good, Bad}
use Rattle.std.proofs.lemmas.Bool.{eqb-true, eqb-false}
use Rattle.lift_journal.specs.declared.fault.JournalFault.TheVariants.{Disk, Broken}
use Rattle.lift_keeper.specs.Fault.{fault_number}
use Rattle.lift_keeper.specs.declared.fault.KeeperFault.{KeeperFault}
use Rattle.lift_keeper.specs.declared.fault.KeeperFault.TheVariants.{Journal}
use Rattle.lift_base.specs.declared.command.Body.{Body}
use Rattle.lift_desk.specs.Seats.{TerminalSeat, view_at, clerk_with}
use Rattle.lift_desk.specs.Spelled.{IsAsk}
use Rattle.lift_desk.specs.Steps.{with_told_asks}
use Rattle.lift_clerk.specs.Clerk.{IsToldAt}
use Rattle.lift_replay.specs.Terminals.{having_asked, seat_at, told_seat}
use Rattle.lift_replay.specs.Grammar.{IsSkipped}
use Rattle.lift_replay.specs.Report.{fault_text}
use Rattle.lift_policy.specs.Choices.{IsEtdChoice}
use Rattle.lift_clerk.specs.Turn.{IsFailedTurn, IsBrokenTurn}
use Rattle.lift_building.specs.Plan.{Plan}
use Rattle.lift_replay.specs.declared.line.ScriptLine.{ScriptLine}
use Rattle.lift_replay.specs.declared.line.ScriptLine.TheVariants.{Ask, Turn, Show, Device}
use Rattle.lift_replay.specs.declared.lines.End.{End}
use Rattle.lift_replay.specs.declared.lines.End.TheVariants.{Run as Over}
use Rattle.lift_replay.specs.Lines.{LineTells, Tells, end_of}
use Rattle.lift_replay.specs.Told.{ScriptClerk, HasAsked, HasFailedCommit, TurnTells}

-- what follows from what is so where a call succeeds
pub on_ok : {T E P Q : Type 0} (result : Result T E) → (P → Q) → OnOk result P → OnOk result Q
on_ok (Ok x) f h = f h
on_ok (Err e) f h = tt

pub empty_skipped : (text : List ℕ) → (length text == 0) ≡ true → IsSkipped text
empty_skipped [] e = tt
empty_skipped (b ∷ text) e = absurd (let no = eqb-true (length (b ∷ text)) 0 e in omega (arith, no))

pub hash_skipped : (text : List ℕ) → get_or text 0 0 ≡ 35 → IsSkipped text
hash_skipped [] e = tt
hash_skipped (b ∷ text) e = e

pub not_skipped : (text : List ℕ) → (length text == 0) ≡ false → get_or text 0 0 ≢ 35 → ¬ IsSkipped text
not_skipped [] some other skipped = absurd (let no = eqb-false 0 0 some in no refl)
not_skipped (b ∷ text) some other skipped = other skipped

-- a turn that failed, or found the journal broken, tells its number
pub fault_tells : (old new : ScriptClerk) (fault : KeeperFault) (number : ℕ) → number ≡ fault_number fault → (fault ≡ Journal Disk) ⊎ (fault ≡ Journal Broken)
    → (fault ≡ Journal Disk → IsFailedTurn IsEtdChoice old new) → (fault ≡ Journal Disk → HasFailedCommit old new) → (fault ≡ Journal Broken → old.keeper.writer.is_broken ≡ true)
    → (old.keeper.writer.is_broken ≡ true → IsBrokenTurn old new) → TurnTells old new None (fault_text (codes "turn") number)
fault_tells old new fault number is (inl disk) fails stops broken rests = inr (inl (fails disk, stops disk, ap (fault_text (codes "turn")) (is ∙ ap fault_number disk), refl))
fault_tells old new fault number is (inr breaks) fails stops broken rests =
    inr (inr (broken breaks, rests (broken breaks), ap (fault_text (codes "turn")) (is ∙ ap fault_number breaks), refl))

pub is_whole : (b : Bool) → (b ≡ true → ⊥) → b ≡ false
is_whole true not = absurd (not refl)
is_whole false not = refl

-- a terminal that has asked, and the clerk that was told
pub has_asked : (seats asked after : List TerminalSeat) (old new : ScriptClerk) (t k number : ℕ) (body : Body) → k ≡ t → asked ≡ slice_set seats t (having_asked (seat_at seats t) number body)
    → IsAsk (record { number = number; body = body }) → after ≡ slice_set asked k (told_seat (seat_at asked k) (view_at old.seat k)) → IsToldAt old new k (seat_at asked k).view.asked
    → HasAsked seats after old.seat new.seat t number body
has_asked seats asked after old new t k number body at asks in_range is told = record {
  asked = asked;
  asks = asks;
  in_range = in_range;
  seat = subst (λ j. after ≡ slice_set asked j (told_seat (seat_at asked j) (view_at old.seat j))) at is;
  knows = subst (λ j. new.seat ≡ clerk_with old.seat j (with_told_asks (view_at old.seat j) (seat_at asked j).view.asked)) at (ap (λ (c : ScriptClerk). c.seat) told);
}

-- what ends the lines at a desk tells nothing, but for a malformed line
pub end_tells_none : (plan : Plan) (old new : ScriptClerk) (seats after : List TerminalSeat) (line : List ℕ) (number : ℕ) (end : End) (text : List ℕ) → LineTells plan old new seats after line number (Some end) text
    → end ≢ Over Bad → text ≡ []
end_tells_none plan old new seats after line number end text (inl skipped) other = skipped.2
end_tells_none plan old new seats after line number end text (inr (inr bad)) other = absurd (let over : end ≡ Over Bad = (let e = bad.1 in cc) in other over)
end_tells_none plan old new seats after line number end text (inr (inl (wanted, spells, known, tells, is, some))) other = by_line wanted tells is
  where
    by_line : (w : ScriptLine) → Tells plan old new seats after w text → Some end ≡ end_of w → text ≡ []
    by_line (Device action) te en = te.0
    by_line (Ask ask) te en = absurd (cc)
    by_line Turn te en = absurd (cc)
    by_line (Show query) te en = absurd (cc)

pub if_ok : {T E : Type 0} {P Q : T → Type 0} (result : Result T E) → ((x : T) → P x → Q x) → IfOk result P → IfOk result Q
if_ok (Ok x) f h = f x h
if_ok (Err e) f h = tt

-- a report of one line is of a bad script
pub if_bad : {E : Type 0} (Q : Verdict → Type 0) (result : Result Verdict E) → result ≢ Ok Good → OnOk result (Q Bad) → IfOk result Q
if_bad Q (Ok Good) not q = absurd (not refl)
if_bad Q (Ok Bad) not q = q
if_bad Q (Err e) not q = tt
