-- The triangulation of a text or of a file with the vertical offsets of its corners, and why there is none.
use Rattle.std.specs.Prelude.{◌≢◌, ℕ, List, Ok, Err, Option, Some, IfSome}
use Rattle.shelf_io.specs.Files.{Files}
use Rattle.shelf_io.specs.Load.{LacksName}
use Rattle.sheet_base.specs.declared.flags.How.{How}
use Rattle.tin_base.specs.Soundness.{IsSound}
use Rattle.tin_check.specs.Faults.{IsCause, IsFirstFault}
use Rattle.tin_check.specs.declared.faults.CheckFault.{CheckFault}
use Rattle.tin_file.specs.TallFiles.{IsTallReading, TallAnswers}
use Rattle.tin_file.specs.declared.tall_files.Tall.{Tall}
use Rattle.tin_file.specs.declared.faults.TinFault.{TinFault}
use Rattle.tin_file.specs.declared.faults.TinFault.TheVariants.{NoMemory as TinMemory}
use Rattle.runs.specs.declared.loads.TheConstants.{MOST_BYTES}
use Rattle.runs.specs.declared.refusal.Refusal.{Refusal}
use Rattle.runs.specs.declared.refusal.Refusal.TheVariants.{TinUnread, TinLong, Tin, Check, NoMemory}
use Rattle.runs.specs.Loads.{IsUnloaded}
use Rattle.runs.specs.Triangulations.{HasFileOver, HasLongFile}
use Rattle.height_mode.specs.declared.tall_tins.TallIndex.{TallIndex}

-- ---- of a text
abbrev pub IsTallRead : How → List ℕ → Tall → Type 0
IsTallRead how text tall = IsTallReading how text (Ok tall)

-- the text is read as this triangulation with its offsets, and it is sound
pub record IsTall (how : How) (text : List ℕ) (tall : Tall) : Type 0 where
  pub read : IsTallRead how text tall
  pub sound : IsSound tall.tin

-- the text has this fault first; running out of memory is no fault of a text
pub record LacksTall (how : How) (text : List ℕ) (fault : TinFault) : Type 0 where
  pub answers : TallAnswers how text (Err fault)
  pub of_text : fault ≢ TinMemory

-- the text is read as a triangulation that has this fault first
pub record IsTallUnsound (how : How) (text : List ℕ) (fault : CheckFault) : Type 0 where
  pub tall : Tall
  pub read : IsTallRead how text tall
  pub first : IsFirstFault tall.tin fault

-- the text gives no sound triangulation with offsets, or memory ran out
abbrev pub IsTallTextRefused : How → List ℕ → Refusal → Type 0
IsTallTextRefused how text (Tin fault) = TallAnswers how text (Err fault)
IsTallTextRefused how text (Check fault) = (tall : Tall) × IsTallRead how text tall × IsCause tall.tin fault
IsTallTextRefused how text NoMemory = Unit {0}
IsTallTextRefused how text refusal = ⊥

-- ---- of a file
-- the triangulation of the file of this name is read with its offsets, and sound
abbrev pub HasTallOver : Option Files → How → List ℕ → Tall → Type 0
HasTallOver told how name tall = (text : List ℕ) × HasFileOver told name text × IsTall how text tall

abbrev pub HasTall : Files → How → List ℕ → Tall → Type 0
HasTall files how name tall = HasTallOver (Some files) how name tall

-- what is loaded, without its index
abbrev pub tall_of : TallIndex → Tall
tall_of loaded = record { tin = loaded.index; offsets = loaded.offsets }

-- The file of this name gives no sound triangulation with offsets: one row for each refusal, in the order in which they
-- are tried.
abbrev pub IsTallRefusedOver : Option Files → How → List ℕ → Refusal → Type 0
IsTallRefusedOver told how name TinUnread = LacksName told name
IsTallRefusedOver told how name TinLong = IfSome told (λ files. HasLongFile files name)
IsTallRefusedOver told how name (Tin fault) = (text : List ℕ) × HasFileOver told name text × LacksTall how text fault
IsTallRefusedOver told how name (Check fault) =
    (text : List ℕ) × HasFileOver told name text × IsTallUnsound how text fault
IsTallRefusedOver told how name refusal = ⊥

abbrev pub IsTallRefused : Files → How → List ℕ → Refusal → Type 0
IsTallRefused files how name refusal = IsTallRefusedOver (Some files) how name refusal

-- why none is loaded: its file is not, or its text gives none
pub data IsTallUnready (told : Option Files) (how : How) (name : List ℕ) (shelf_rose given_passed : Type 0)
    (refusal : Refusal) : Type 0 where
  not_loaded : IsUnloaded told name MOST_BYTES TinUnread TinLong shelf_rose given_passed refusal
      → IsTallUnready told how name shelf_rose given_passed refusal
  no_tall : (text : List ℕ) → HasFileOver told name text → IsTallTextRefused how text refusal
      → IsTallUnready told how name shelf_rose given_passed refusal
