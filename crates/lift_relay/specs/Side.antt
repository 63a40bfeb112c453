-- One side of a line as the contracts of this crate see it.
use Rattle.lift_parts.specs.Line.{Tries}

pub record SideState (Q S : Type 0) : Type 0 where
  pub line : Q
  pub pass : S
  pub tries : Tries
