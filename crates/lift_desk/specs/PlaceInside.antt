-- What the clerk's seat at one table keeps beside what it knows.
use Rattle.std.specs.Prelude.{◌≡◌, suc, ◌<◌, Bool, true, false, length}
use Rattle.lift_desk.specs.declared.place.Place.TheInside.{Inside}
use Rattle.lift_desk.specs.Words.{number_of, last_of, turn_of}

-- It has lent the right to look ahead or not, as its type says.
pub record IsPlaced {L : Type 0} (has_lent : Bool) (s : Inside L) : Type 0 where
  pub answers : s.looker.seated ≡ true → s.looker.view.answers ≡ true
  pub in_order : s.looker.view.looks_ahead ≡ false
  pub no_answers_read : s.looker.view.terminal.looks ≡ 0
  pub lends : s.looker.seated ≡ true → s.looker.view.lends ≡ has_lent
  pub turn : s.turn ≡ length s.looker.view.clerk.taken
  pub last_taken : turn_of (last_of s.looker.view.clerk.taken) ≡ length s.looker.view.clerk.taken
  pub in_range : s.turn < 1048576
  pub number : s.number ≡ number_of (last_of s.looker.view.clerk.taken)
  pub owes : s.owes ≡ true
      → length s.looker.view.clerk.taken ≡ suc (length s.looker.view.clerk.answered)
  pub even : s.owes ≡ false
      → length s.looker.view.clerk.taken ≡ length s.looker.view.clerk.answered
  pub answered : s.answered ≡ last_of s.looker.view.clerk.answered
