use Rattle.std.specs.Prelude.{ℕ, Bool, List}

-- a reader with what is known of its calls
pub record InputState (R : Type 0) : Type 0 where
  pub reader : R
  pub calls : ℕ
  pub failures : ℕ  -- how many calls failed
  pub ends : ℕ  -- how many calls into a buffer found the end
  pub failed : Bool  -- a call failed
  pub ended : Bool  -- a call into a buffer found the end
  pub came : List ℕ  -- all bytes that its calls gave
