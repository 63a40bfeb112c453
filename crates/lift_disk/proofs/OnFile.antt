-- A device on a file does what the file does.
use Rattle.std.proofs.Common.{◌≡◌, ◌↔◌, ◌≤◌, ◌+◌, ◌*◌, ◌/◌, ◌∙◌, Option, ℕ, List, Result, Ok, Err, Bool, true, is_err, OnErr, refl, sym, ap, subst, arith}
use Rattle.lift_disk.specs.FileCalls.{FileCall}
use Rattle.lift_disk.specs.Files.{IsMadeDevice, file_below, sector_file_state_of}
use Rattle.lift_disk.specs.Traced.{IsMadeOf, making_calls}
use Rattle.lift_disk.specs.FileCalls.{LeadsBy}
use Rattle.lift_disk.specs.declared.listed.ListedFile.{Ghosts as Listed}
use Rattle.lift_disk.specs.declared.sectors.SectorFile.{SectorFile}
use Rattle.lift_disk.specs.Trace.{Access}
use Rattle.lift_disk.specs.Disk.{DiskState, GoesOn, WritesStay, LeavesAsBefore}
use Rattle.lift_disk.specs.Runs.{Rests, StoresRun}
use Rattle.lift_disk.specs.Holding.{AtSectors, HoldsTheSame, IsSameFile, IsUntouched, WritesRun, on_file, sectors_in}

pub err_items : {T E P : Type 0} (r : Result T E) {b : Bool} → b ≡ is_err r → b ≡ true → OnErr r P → P
err_items (Ok x) is not p = absurd (cc (is, not))
err_items (Err e) is not p = p

-- what a call comes to that was one of sectors of the file
pub at_sectors : {P : ℕ → Type 0} (held : DiskState) (offset count sector sectors : ℕ) → AtSectors offset count held P → offset ≡ sector * 512 → sector + count ≤ sectors → held.is_honest × (held.size ≡ sectors) → P sector
at_sectors held offset count sector sectors at placed inside honest = at honest.0 sector placed (omega (arith, honest.1, inside))

module _ (old new : DiskState) (sectors failures failures2 calls calls2 writes writes2 : ℕ) (trace trace2 : List Access) where
  abbrev before : DiskState
  before = on_file old sectors failures calls writes trace

  abbrev behind : DiskState
  behind = on_file new sectors failures2 calls2 writes2 trace2

  pub file_goes_on : calls2 ≡ calls + 1 → failures ≤ failures2 → IsSameFile old new → (old.is_honest × (old.size ≡ sectors) → Rests old new) → GoesOn before behind
  file_goes_on one more same did = record {
    size = refl;
    calls = one;
    failures = more;
    honest = (λ honest. (same.honest.0 honest.0, sym same.size ∙ honest.1), λ honest. (same.honest.1 honest.0, same.size ∙ honest.1));
    inert = (λ no. no, λ no. no);
    armed = λ call later. (λ no. no, λ no. no);
    time = λ honest. let e = (did honest).time honest.0 in record { later = e.later; nothing_else = e.nothing_else; keeps = e.keeps };
  }

  pub file_leaves : (old.is_honest × (old.size ≡ sectors) → Rests old new) → LeavesAsBefore before behind
  file_leaves did = record {
    touched = λ honest. let t = (did honest).touched honest.0 in record { loose = t.loose; within = t.within };
    loose = λ honest. (did honest).loose honest.0;
    kept = λ honest. (did honest).kept honest.0;
  }

  pub file_keeps : (old.is_honest × (old.size ≡ sectors) → WritesStay old new) → WritesStay before behind
  file_keeps did = record {
    written = λ honest. (did honest).written honest.0;
    steady = λ honest steady. let s = (did honest).steady honest.0 steady in record { steady = s.steady; same = s.same };
  }

  pub file_stores : (sector : ℕ) (run : List (List ℕ)) → (old.is_honest × (old.size ≡ sectors) → WritesRun sector run old new) → StoresRun sector run before behind
  file_stores sector run did = record {
    written = λ honest. let w = (did honest).written in record { here = w.here; others = w.others };
    steady = λ honest steady. let s = (did honest).steady steady in record { steady = s.steady; same = s.same };
  }

pub sectors_whole : (sectors : ℕ) → sectors ≤ 4294967295 → sectors_in (sectors * 512) ≡ sectors
sectors_whole sectors most = let same : sectors * 512 / 512 ≡ sectors = omega arith in rw same (grind arith)

pub measured_honest : (honest : Type 0) (old new : DiskState) (sectors bytes : ℕ) → IsSameFile old new → (old.is_honest → old.size ≡ sectors_in bytes) → sectors ≡ sectors_in bytes → (honest ↔ (new.is_honest × (new.size ≡ sectors))) → honest ↔ old.is_honest
measured_honest honest old new sectors bytes same told whole is =
    (λ h. same.honest.0 (is.0 h).0, λ h. is.1 (same.honest.1 h, same.size ∙ told h ∙ sym whole))

-- a device on a file that was only asked holds what the file held
pub measured_held : {F : Type 0} {listing : Listed F} (holds : F → DiskState) (d : SectorFile F listing) (file below : F) → file_below d ≡ below → IsUntouched (holds file) (holds below)
    → (holds file).is_honest → (sector_file_state_of holds d).size ≡ (holds file).size → HoldsTheSame (holds file) (sector_file_state_of holds d)
measured_held {F} holds d file below same untouched honest sized =
    let held = subst (λ (f : F). HoldsTheSame (holds file) (holds f)) (sym same) (untouched.held honest) in record {
      size = sized;
      image = held.image;
      synced = held.synced;
      loose = held.loose;
      steady = held.steady;
      written = held.written;
      moment = held.moment;
      left_since = held.left_since;
    }

pub made_honest : (honest : Type 0) (old new : DiskState) (sectors : ℕ) → sectors ≤ 4294967295 → (new.is_honest ↔ old.is_honest) → (old.is_honest → new.size ≡ sectors_in (sectors * 512)) → (honest ↔ (new.is_honest × (new.size ≡ sectors))) → honest ↔ old.is_honest
made_honest honest old new sectors most same told is =
    (λ h. same.0 (is.0 h).0, λ h. is.1 (same.1 h, told h ∙ sectors_whole sectors most))

pub made_device : {F : Type 0} {listing : Listed F} (opens : Option F → Type 0) (names : F → Type 0) (gives : F → FileCall → F → Type 0) (holds : F → DiskState) (sectors : ℕ) (made : F) (d : SectorFile F listing) → sectors ≤ 4294967295
    → IsMadeOf opens names gives holds sectors made
    → file_below d ≡ made → ((sector_file_state_of holds d).is_honest ↔ ((holds made).is_honest × ((holds made).size ≡ sectors))) → IsMadeDevice opens names gives holds sectors d
made_device {F} opens names gives holds sectors made d most made_of same is = record {
  made = record {
    file = made_of.file;
    opened = made_of.opened;
    led = subst (λ (f : F). LeadsBy gives (making_calls sectors) made_of.file f) (sym same) made_of.led;
    named = subst names (sym same) made_of.named;
    honest = subst (λ (f : F). (holds f).is_honest ↔ (holds made_of.file).is_honest) (sym same) made_of.honest;
    size = λ h. ap (λ (f : F). (holds f).size) same ∙ made_of.size h;
  };
  honest = made_honest (sector_file_state_of holds d).is_honest (holds made_of.file) (holds made) sectors most made_of.honest made_of.size is;
}
