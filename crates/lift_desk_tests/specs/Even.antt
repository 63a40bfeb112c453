-- What one thread knows that holds a terminal's seat and the clerk's.
use Rattle.std.specs.Prelude.{◌≡◌, suc, length}
use Rattle.lift_desk.specs.declared.view.TerminalView.{TerminalView}
use Rattle.lift_desk.specs.declared.view.ClerkView.{ClerkView}

-- nothing waits: all that was asked was taken and answered, and all that was answered was heard
pub record IsEven (t : TerminalView) (c : ClerkView) : Type 0 where
  pub taken : c.taken ≡ t.asked
  pub heard : t.heard ≡ c.answered
  pub answered : length c.answered ≡ length c.taken

-- all that was asked was taken, and only the last of it was not answered
pub record IsOwed (t : TerminalView) (c : ClerkView) : Type 0 where
  pub taken : c.taken ≡ t.asked
  pub heard : t.heard ≡ c.answered
  pub owed : length c.taken ≡ suc (length c.answered)
