-- The triangulation of a text or of a file, and why there is none.
-- A definition whose name ends in `Over` is over what a shelf states: its files, or nothing. Then it is so of
-- some bytes.
use Rattle.std.specs.Prelude.{◌≡◌, ◌≢◌, ℕ, ◌<◌, ◌≤◌, Bool, true, false, List, length, Option, Some, IfSome, Ok, Err}
use Rattle.shelf_io.specs.Files.{Files, bytes_of}
use Rattle.shelf_io.specs.Load.{Loads, LacksName}
use Rattle.sheet_base.specs.declared.flags.How.{How}
use Rattle.tin_base.specs.Triangulation.{Triangulation}
use Rattle.tin_base.specs.Soundness.{IsSound}
use Rattle.tin_base.specs.ExchangedFrames.{turned_of}
use Rattle.tin_check.specs.Faults.{IsCause, IsFirstFault}
use Rattle.tin_check.specs.declared.faults.CheckFault.{CheckFault}
use Rattle.tin_file.specs.TinFiles.{IsReading, Answers}
use Rattle.tin_file.specs.declared.faults.TinFault.{TinFault}
use Rattle.tin_file.specs.declared.faults.TinFault.TheVariants.{NoMemory as TinMemory}
use Rattle.runs.specs.declared.loads.TheConstants.{MOST_BYTES}
use Rattle.runs.specs.declared.refusal.Refusal.{Refusal}
use Rattle.runs.specs.declared.refusal.Refusal.TheVariants.{TinUnread, TinLong, Tin, Check, NoMemory}

-- ---- of a text
-- the text is read as this triangulation
abbrev pub IsRead : How → List ℕ → Triangulation → Type 0
IsRead how text tin = IsReading how text (Ok tin)

-- and it is sound
pub record IsTin (how : How) (text : List ℕ) (tin : Triangulation) : Type 0 where
  pub read : IsRead how text tin
  pub sound : IsSound tin

-- the text has this fault first; running out of memory is no fault of a text
pub record LacksTin (how : How) (text : List ℕ) (fault : TinFault) : Type 0 where
  pub answers : Answers how text (Err fault)
  pub of_text : fault ≢ TinMemory

-- the text is read as a triangulation that has this fault first
pub record IsUnsound (how : How) (text : List ℕ) (fault : CheckFault) : Type 0 where
  pub tin : Triangulation
  pub read : IsRead how text tin
  pub first : IsFirstFault tin fault

-- the text gives no sound triangulation, or memory ran out
abbrev pub IsTextRefused : How → List ℕ → Refusal → Type 0
IsTextRefused how text (Tin fault) = Answers how text (Err fault)
IsTextRefused how text (Check fault) = (tin : Triangulation) × IsRead how text tin × IsCause tin fault
IsTextRefused how text NoMemory = Unit {0}
IsTextRefused how text refusal = ⊥

-- ---- of a file
-- the file of this name has these bytes, and not too many
pub record HasFileOver (told : Option Files) (name bytes : List ℕ) : Type 0 where
  pub found : IfSome told (Loads name bytes)
  pub within : length bytes ≤ MOST_BYTES

abbrev pub HasFile : Files → List ℕ → List ℕ → Type 0
HasFile files name bytes = HasFileOver (Some files) name bytes

-- the file of this name has too many bytes
abbrev pub HasLongFile : Files → List ℕ → Type 0
HasLongFile files name = (bytes : List ℕ) × (bytes_of files name ≡ Some bytes) × (MOST_BYTES < length bytes)

-- the triangulation of the file of this name is read and sound
abbrev pub HasTinOver : Option Files → How → List ℕ → Triangulation → Type 0
HasTinOver told how name tin = (text : List ℕ) × HasFileOver told name text × IsTin how text tin

abbrev pub HasTin : Files → How → List ℕ → Triangulation → Type 0
HasTin files how name tin = HasTinOver (Some files) how name tin

-- ---- in one of two directions
-- the triangulation as it is, or with its frames exchanged
abbrev pub directed_tin : Bool → Triangulation → Triangulation
directed_tin false tin = tin
directed_tin true tin = turned_of tin

-- the triangulation of the file of this name is read and sound as it is there, and only then its frames are exchanged,
-- where that is asked for
abbrev pub HasDirectedOver : Option Files → How → List ℕ → Bool → Triangulation → Type 0
HasDirectedOver told how name inverse tin = (stood : Triangulation) × HasTinOver told how name stood
    × (tin ≡ directed_tin inverse stood)

abbrev pub HasDirected : Files → How → List ℕ → Bool → Triangulation → Type 0
HasDirected files how name inverse tin = HasDirectedOver (Some files) how name inverse tin

-- ---- none
-- The file of this name gives no sound triangulation: one row for each refusal, in the order in which they are tried.
abbrev pub IsTinRefusedOver : Option Files → How → List ℕ → Refusal → Type 0
IsTinRefusedOver told how name TinUnread = LacksName told name
IsTinRefusedOver told how name TinLong = IfSome told (λ files. HasLongFile files name)
IsTinRefusedOver told how name (Tin fault) = (text : List ℕ) × HasFileOver told name text × LacksTin how text fault
IsTinRefusedOver told how name (Check fault) = (text : List ℕ) × HasFileOver told name text × IsUnsound how text fault
IsTinRefusedOver told how name refusal = ⊥

abbrev pub IsTinRefused : Files → How → List ℕ → Refusal → Type 0
IsTinRefused files how name refusal = IsTinRefusedOver (Some files) how name refusal
