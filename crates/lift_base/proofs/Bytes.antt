-- What was written so far is a prefix of the bytes.
use Rattle.std.proofs.Common.{◌≡◌, ℕ, ◌+◌, ◌-◌, ◌≤◌, List, length, take, drop, ap, subst, arith, length-drop}
use Rattle.std.specs.Prelude.{Option, Result, Ok, Err, IfErr}
use Rattle.std.specs.Io.KnownBytes.{Appends}
use Rattle.std.proofs.Math.Seq.{take-add}
use Rattle.std.proofs.lemmas.List.{take_all}
use Rattle.std.proofs.KnownBytes.{Appends-trans}

-- the rest of the bytes, as the slice that was handed to the writer
abbrev pub rest_of : List ℕ → ℕ → List ℕ
rest_of bytes written = take (length bytes - written) (drop written bytes)

pub rest_is : (bytes : List ℕ) (written : ℕ) → rest_of bytes written ≡ drop written bytes
rest_is bytes written = take_all (length bytes - written) (drop written bytes) (omega (arith, length-drop written bytes))

pub front_grows : (old mid new : Option (List ℕ)) (bytes : List ℕ) (written count : ℕ) → Appends old mid (take written bytes) → Appends mid new (take count (rest_of bytes written)) → Appends old new (take (written + count) bytes)
front_grows old mid new bytes written count first second =
    let there : Appends mid new (take count (drop written bytes)) = subst (λ rest. Appends mid new (take count rest)) (rest_is bytes written) second in
    rw take-add (Appends-trans old mid new (take written bytes) (take count (drop written bytes)) first there)

pub front_within : (bytes : List ℕ) (written count : ℕ) → written ≤ length bytes → count ≤ length (rest_of bytes written) → written + count ≤ length bytes
front_within bytes written count le more = omega (arith, ap length (rest_is bytes written), length-drop written bytes, more)

-- a count that a fault came with is some count
pub so_many : {T F : Type 0} (result : Result T F) (holds : F → ℕ → Type 0) (calls : ℕ) → IfErr result (λ fault. holds fault calls) → IfErr result (λ fault. (some : ℕ) × holds fault some)
so_many (Ok value) holds calls told = tt
so_many (Err fault) holds calls told = (calls, told)
