-- What a connection's first line says.
use Rattle.std.specs.Prelude.{ℕ, ◌≡◌, ◌<◌, ◌+◌, ◌⊎◌, List, [], ◌∷◌, codes}
use Rattle.std.specs.Fmt.{decimal}
use Rattle.lift_base.specs.declared.limits.TheConstants.{FIRST_KIOSK}
use Rattle.lift_base.specs.Text.{AreWords, letter_text}
use Rattle.lift_kiosk.specs.Lines.{IsShortLine}

-- the terminal of a kiosk: its number behind the cars
abbrev pub IsKioskWord : (kiosks : ℕ) → List ℕ → (terminal : ℕ) → Type 0
IsKioskWord kiosks word terminal = (kiosk : ℕ) × (word ≡ decimal kiosk) × (kiosk < kiosks)
    × (terminal ≡ FIRST_KIOSK + kiosk)

-- the terminal of a car, by its letter
abbrev pub IsCarWord : (cars : ℕ) → List ℕ → (terminal : ℕ) → Type 0
IsCarWord cars word terminal = (word ≡ letter_text terminal) × (terminal < cars)

-- `KIOSK <k>` or `CAR <letter>`, of the building
abbrev pub AreTerminalWords : (cars kiosks : ℕ) → List (List ℕ) → (terminal : ℕ) → Type 0
AreTerminalWords cars kiosks words terminal =
    ((word : List ℕ) × (words ≡ codes "KIOSK" ∷ word ∷ []) × IsKioskWord kiosks word terminal)
    ⊎ ((word : List ℕ) × (words ≡ codes "CAR" ∷ word ∷ []) × IsCarWord cars word terminal)

-- a session's line that names a terminal of a building with so many cars and kiosks
pub record SpeaksFor (cars kiosks : ℕ) (line : List ℕ) (terminal : ℕ) : Type 0 where
  pub short : IsShortLine line
  pub words : List (List ℕ)
  pub spaced : AreWords line words
  pub names : AreTerminalWords cars kiosks words terminal
