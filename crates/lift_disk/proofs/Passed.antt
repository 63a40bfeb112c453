-- What a call of a file is told to have done, told again by its outcome.
use Rattle.std.proofs.Common.{◌≡◌, ◌↔◌, ℕ, List, Result, Ok, Err, IsOk, refl, sym, subst}
use Rattle.lift_disk.specs.Disk.{DiskState}
use Rattle.lift_disk.specs.Holding.{Reads, Writes}

reads_so : {T E A B : Type 0} (outcome : Result T E) (result : Result A B) (offset : ℕ) (run : List (List ℕ)) (old new : DiskState) → (IsOk result ↔ IsOk outcome) → Reads outcome offset run old new → Reads result offset run old new
reads_so (Ok v) (Ok w) offset run old new told reads = record { same = reads.same; made = reads.made; failed = tt }
reads_so (Ok v) (Err w) offset run old new told reads = absurd (cc (told.1 refl))
reads_so (Err v) (Ok w) offset run old new told reads = absurd (cc (told.0 refl))
reads_so (Err v) (Err w) offset run old new told reads = record { same = reads.same; made = tt; failed = reads.failed }

writes_so : {T E A B : Type 0} (outcome : Result T E) (result : Result A B) (offset : ℕ) (run : List (List ℕ)) (old new : DiskState) → (IsOk result ↔ IsOk outcome) → Writes outcome offset run old new → Writes result offset run old new
writes_so (Ok v) (Ok w) offset run old new told writes = record { same = writes.same; made = writes.made; failed = tt }
writes_so (Ok v) (Err w) offset run old new told writes = absurd (cc (told.1 refl))
writes_so (Err v) (Ok w) offset run old new told writes = absurd (cc (told.0 refl))
writes_so (Err v) (Err w) offset run old new told writes = record { same = writes.same; made = tt; failed = writes.failed }

pub reads_told : {F T E A B : Type 0} (holds : F → DiskState) (outcome : Result T E) (result : Result A B) (offset : ℕ) (run : List (List ℕ)) (old : DiskState) (mid new : F) → (IsOk result ↔ IsOk outcome) → new ≡ mid
    → Reads outcome offset run old (holds mid) → Reads result offset run old (holds new)
reads_told {F} holds outcome result offset run old mid new told same reads =
    subst (λ (f : F). Reads result offset run old (holds f)) (sym same) (reads_so outcome result offset run old (holds mid) told reads)

pub writes_told : {F T E A B : Type 0} (holds : F → DiskState) (outcome : Result T E) (result : Result A B) (offset : ℕ) (run : List (List ℕ)) (old : DiskState) (mid new : F) → (IsOk result ↔ IsOk outcome) → new ≡ mid
    → Writes outcome offset run old (holds mid) → Writes result offset run old (holds new)
writes_told {F} holds outcome result offset run old mid new told same writes =
    subst (λ (f : F). Writes result offset run old (holds f)) (sym same) (writes_so outcome result offset run old (holds mid) told writes)
