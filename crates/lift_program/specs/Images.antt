-- What is said of the devices over a journal's file.
use Rattle.std.specs.Prelude.{◌≡◌, ℕ, List, [], ◌∷◌, Option, Result, Ok, Bool, IfSome}
use Rattle.std.specs.declared.io.Error.{Error}
use Rattle.std.specs.declared.fs.options.OpenOptions.{OpenOptions}
use Rattle.std.specs.declared.net.tcp.TcpListener.{TcpListener as Listener}
use Rattle.lift_disk.specs.Below.{below}
use Rattle.lift_disk.specs.Disk.{DiskState}
use Rattle.lift_disk.specs.FileCalls.{FileCall}
use Rattle.lift_disk.specs.FileCalls.FileCall.{Lock}
use Rattle.lift_disk.specs.Files.{IsMadeDevice, IsMeasured, sector_file_state_of}
use Rattle.lift_disk.specs.Files.{IsRefused, stands_in_the_way, fails_making, fails_opening}
use Rattle.lift_disk.specs.Holding.{HoldsTheSame}
use Rattle.lift_disk.specs.Traced.{to_be_made, to_be_read, to_be_used}
use Rattle.lift_disk.specs.declared.buffered.Buffered.{Buffered}
use Rattle.lift_disk.specs.declared.file.FileFault.{FileFault}
use Rattle.lift_disk.specs.declared.disk.Disk.{Ghosts}
use Rattle.lift_disk.specs.declared.runs.RunDisk.{Ghosts as RunGhosts}
use Rattle.lift_disk.specs.declared.sectors.SectorFile.{SectorFile}
use Rattle.lift_disk.specs.declared.listed.ListedFile.{Ghosts as Listed}
use Rattle.lift_program.specs.Unwritten.{unwritten_file_of}
use Rattle.lift_program.specs.declared.unwritten.UnwrittenFile.{UnwrittenFile}

-- What is said of the devices over the file of an image, by what opens that: of one that is made, one
-- that is served, and one that is shown; and why none is had.
pub record ImageFiles : Type 1 where
  pub File : Type 0
  pub Opener : Type 0
  -- what opens it
  pub opener : Opener
  -- no image of so many sectors was made at this path, for this
  pub is_unmade : List ℕ → ℕ → FileFault File Opener → Type 0
  -- no image to be served was had at this path, for this
  pub is_unserved : List ℕ → FileFault File Opener → Type 0
  -- no image to be shown was had at this path, for this
  pub is_unshown : List ℕ → FileFault File Opener → Type 0
  pub Made : Type 0
  pub made_state : Made → DiskState
  -- its image, of so many sectors, was made at this path, and nothing else was done
  pub is_just_made : List ℕ → ℕ → Made → Type 0
  pub Served : Type 0
  pub served_state : Served → DiskState
  -- its image was opened at this path, its lock was had, and nothing else was done
  pub is_to_be_served : List ℕ → Served → Type 0
  -- what such a file holds
  pub held : File → DiskState
  -- the file that was found there when it was opened
  pub found : (path : List ℕ) (image : Served) → is_to_be_served path image → File
  -- where that was an honest one, so is the image, and it holds what that held
  pub stays : (path : List ℕ) (image : Served) (is : is_to_be_served path image)
      → (held (found path image is)).is_honest
      → (served_state image).is_honest
      × HoldsTheSame (held (found path image is)) (served_state image)
  pub Shown : Type 0
  pub shown_state : Shown → DiskState
  -- its image was opened at this path to be read, and nothing else was done
  pub is_to_be_shown : List ℕ → Shown → Type 0
  -- no call of its file has failed, and none was a write
  pub is_only_read : Shown → Type 0

-- the address that this machine alone can reach
abbrev pub local : List ℕ
local = 127 ∷ 0 ∷ 0 ∷ 1 ∷ []

-- What is said of a command's files, and of its socket.
pub record CommandFiles : Type 1 where
  pub image : ImageFiles
  -- this text was read from the building's file, which was opened at this path
  pub is_text : (path text : List ℕ) → Type 0
  -- the building's file at this path gave no text
  pub is_no_text : (path : List ℕ) → Type 0
  -- this was given where a socket was asked for at this port of this machine
  pub gives : ℕ → Option Listener → Type 0

-- A file was opened, and this text was all that its reader held, where it is known what it held.
abbrev pub IsTextRead : {R : Type 0} → (opens : Result R Error → Type 0)
    → (remaining : R → Option (List ℕ)) → List ℕ → Type 0
IsTextRead {R} opens remaining text =
    (reader : R) × opens (Ok reader) × IfSome (remaining reader) (λ all. text ≡ all)

-- An image was opened at this path, in this way: its file was there and was not made, but after these
-- calls asked for its length, which gives its sectors; no other call was made of it or of its file,
-- and none has failed. Where the file that was opened is honest, so is the image, and it holds what
-- that held: so what a crash might have left of it before, a crash leaves now.
pub record IsOpened {F : Type 0} {listing : Listed F}
    (opens : OpenOptions → List ℕ → Option F → Type 0) (gives : F → FileCall → F → Type 0)
    (holds : F → DiskState) (how : OpenOptions) (first : List FileCall)
    (path : List ℕ) (image : DiskState)
    (file : SectorFile F listing) : Type 0 where
  pub uncalled : image.calls ≡ 0
  pub unhurt : image.failures ≡ 0
  pub untouched : (sector_file_state_of holds file).calls ≡ 0
  pub measured : IsMeasured (opens how path) gives holds first file
  pub honest : (holds measured.file).is_honest → image.is_honest
  pub held : (holds measured.file).is_honest → HoldsTheSame (holds measured.file) image

-- An image of so many sectors was made at this path: its file was opened there to be made, it has its
-- room, its folder names it for good, and no call of the image was made. It is honest where the file
-- is that was opened.
pub record IsJustMade {F : Type 0} {listing : Listed F}
    (opens : OpenOptions → List ℕ → Option F → Type 0) (names : List ℕ → F → Type 0)
    (gives : F → FileCall → F → Type 0) (holds : F → DiskState) (path : List ℕ) (sectors : ℕ)
    (image : SectorFile F listing) : Type 0 where
  pub made : IsMadeDevice (opens to_be_made path) (names path) gives holds sectors image
  pub uncalled : (sector_file_state_of holds image).calls ≡ 0

-- No call of the file has failed, and none was a write.
pub record IsOnlyRead (file : DiskState) : Type 0 where
  pub unwritten : file.writes ≡ 0
  pub unhurt : file.failures ≡ 0

-- the devices over files of this type: what opens the file, what it answers of a path, what it
-- opens and names, what a call of such a file leads to, what it holds, and what is said of the
-- devices
abbrev pub image_files : {F O : Type 0} {listing : Listed F} {runs : RunGhosts (SectorFile F listing)}
    {disk : Ghosts (SectorFile F listing)} {shown_runs : RunGhosts (UnwrittenFile F listing)}
    {shown_disk : Ghosts (UnwrittenFile F listing)}
    → (opener : O) → (stands : List ℕ → Option Bool → Type 0)
    → (opens : OpenOptions → List ℕ → Option F → Type 0)
    → (names unnamed : List ℕ → F → Type 0)
    → (gives fails : F → FileCall → F → Type 0) → (holds : F → DiskState)
    → (Buffered (SectorFile F listing) runs disk → DiskState)
    → (Buffered (UnwrittenFile F listing) shown_runs shown_disk → DiskState) → ImageFiles
image_files {F} {O} {listing} {runs} {disk} {shown_runs} {shown_disk} opener stands opens names unnamed
    gives fails holds served shown = record {
      File = F;
      Opener = O;
      opener = opener;
      is_unmade = λ path sectors.
          IsRefused opener (stands_in_the_way (stands path)) (opens to_be_made path)
          (fails_making (unnamed path) gives fails sectors);
      is_unserved = λ path. IsRefused opener (stands path) (opens to_be_used path)
          (fails_opening gives fails holds (Lock ∷ []));
      is_unshown = λ path.
          IsRefused opener (stands path) (opens to_be_read path) (fails_opening gives fails holds []);
      Made = SectorFile F listing;
      made_state = sector_file_state_of holds;
      is_just_made = IsJustMade opens names gives holds;
      Served = Buffered (SectorFile F listing) runs disk;
      served_state = served;
      is_to_be_served = λ path d.
          IsOpened opens gives holds to_be_used (Lock ∷ []) path (served d) (below d);
      held = holds;
      found = λ path d is. is.measured.file;
      stays = λ path d is honest. (is.honest honest, is.held honest);
      Shown = Buffered (UnwrittenFile F listing) shown_runs shown_disk;
      shown_state = shown;
      is_to_be_shown = λ path d.
          IsOpened opens gives holds to_be_read [] path (shown d) (unwritten_file_of (below d));
      is_only_read = λ d. IsOnlyRead (sector_file_state_of holds (unwritten_file_of (below d)));
    }
