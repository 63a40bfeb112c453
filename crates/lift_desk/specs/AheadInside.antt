-- What a seat ahead of the clerk keeps beside what it knows.
use Rattle.std.specs.Prelude.{◌≡◌, true, false}
use Rattle.lift_desk.specs.declared.ahead.AheadPlace.TheInside.{Inside}
use Rattle.lift_desk.specs.Words.{last_of, turn_of}

pub record IsAheadPlace (s : Inside) : Type 0 where
  pub ahead : s.looker.seated ≡ true → s.looker.view.looks_ahead ≡ true
  pub silent : s.looker.view.answers ≡ false
  pub no_answers_read : s.looker.view.terminal.looks ≡ 0
  pub turn : s.turn ≡ turn_of (last_of s.looker.view.clerk.taken)
