-- How the output was called.
use Rattle.std.proofs.Common.{◌≡◌, ◌<◌, ◌∙◌, ℕ, Bool, true, false, List, Option, length, subst, sym, inl, inr}
use Rattle.std.proofs.lemmas.Bool.{false≢true}
use Rattle.std.specs.Prelude.{Result, Ok, Err, IfErr, OnErr, OnOk, is_err}
use Rattle.lift_base.specs.Output.{WroteAll, WroteUpToFault}
use Rattle.lift_base.specs.declared.text.output.WriteFault.{WriteFault}
use Rattle.lift_replay.specs.Writing.{TakesSomeEachCall}
use Rattle.lift_replay.specs.lemmas.Writes.{fails_of, takes_of}
use Rattle.lift_building.specs.Plan.{Plan}
use Rattle.lift_program.specs.Ends.{IsFileFault}
use Rattle.lift_program.specs.Output.{WriterHasFailed}
use Rattle.lift_disk.specs.Disk.{DiskState}
use Rattle.lift_disk.specs.declared.file.FileFault.{FileFault}
use Rattle.lift_program.specs.Stages.{IsBuildingFault, IsKeeperFailure, fault_in}
use Rattle.lift_program.specs.declared.leftover.Failure.{Failure}
use Rattle.lift_program.specs.declared.leftover.Failure.TheVariants.{NoBuilding, NoImage, Opened}
use Rattle.lift_program.specs.declared.fault.Fault.{Fault}
use Rattle.lift_program.specs.declared.fault.Fault.TheVariants.{Network}
use Rattle.lift_program.specs.declared.fault.Role.{Role}
use Rattle.lift_program.specs.declared.fault.Role.TheVariants.{Image as OfImage}

-- all of the bytes were written
pub takes_put : {W : Type 0} (gives : W → List ℕ → Option ℕ → W → Type 0) (bytes : List ℕ) (old new : W) (result : Result Unit WriteFault)
    → is_err result ≡ false → OnOk result ((calls : ℕ) × WroteAll gives bytes 0 calls old new) → TakesSomeEachCall gives old new
takes_put gives bytes old new (Ok done) whole told = takes_of gives bytes old new told
takes_put gives bytes old new (Err fault) whole told = absurd (false≢true (sym whole))

-- or a prefix of them
pub put_failed : {W : Type 0} (gives : W → List ℕ → Option ℕ → W → Type 0) (flushes : W → Bool → W → Type 0) (bytes : List ℕ) (old new : W) (result : Result Unit WriteFault)
    → is_err result ≡ true → IfErr result (λ fault. fault.written < length bytes) → IfErr result (λ fault. (calls : ℕ) × WroteUpToFault gives bytes fault.written 0 calls old new)
    → WriterHasFailed gives flushes old new
put_failed gives flushes bytes old new (Ok done) failed within told = absurd (false≢true failed)
put_failed gives flushes bytes old new (Err fault) failed within told = inl (fails_of gives bytes old new fault within told)

-- the port is no fault but of a socket
pub building_no_network : (is_text : List ℕ → Type 0) (is_no_text : Type 0) (fault : Fault) → IsBuildingFault is_text is_no_text fault → fault ≡ Network → ⊥
building_no_network is_text is_no_text fault is same = subst (IsBuildingFault is_text is_no_text) same is

pub file_no_network : (role : Role) (fault : Fault) → IsFileFault role fault → fault ≡ Network → ⊥
file_no_network role fault (inl is) same = absurd (let other = sym is ∙ same in cc)
file_no_network role fault (inr is) same = absurd (let other = sym is ∙ same in cc)

pub keeper_failure_no_network : {D F O : Type 0} (is_fresh : D → Type 0) (state : D → DiskState) (is_refused : FileFault F O → Type 0) (plan : Plan) (failure : Failure D F O) → IsKeeperFailure is_fresh state is_refused plan failure → fault_in failure ≡ Network → ⊥
keeper_failure_no_network is_fresh state is_refused plan (NoBuilding fault unused) never same = absurd never
keeper_failure_no_network is_fresh state is_refused plan (NoImage fault cause) is same = file_no_network OfImage fault is.is_fault same
keeper_failure_no_network is_fresh state is_refused plan (Opened fault left) is same = absurd (let other = sym is.is_refusal ∙ same in cc)

-- what holds anyhow
pub on_err : {T E : Type 0} (result : Result T E) (P : Type 0) → P → OnErr result P
on_err (Ok value) P p = tt
on_err (Err error) P p = p
