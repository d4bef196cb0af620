-- What a run makes, as a relation of the words, the shelf's files, the status and the made files.
use Rattle.std.specs.Prelude.{◌≡◌, ℕ, ◌≤◌, Bool, true, false, List, [], ◌∷◌, codes, length, Option, Some}
use Rattle.shelf_io.specs.Files.{Files}
use Rattle.sheet_base.specs.declared.flags.How.{How}
use Rattle.tin_base.specs.Triangulation.{Triangulation}
use Rattle.tin_faults.specs.declared.faults.Fault.{Fault}
use Rattle.tin_faults.specs.Faults.{AreFaults, HasMoreFaults}
use Rattle.job_words.specs.declared.faults.WordsFault.{WordsFault}
use Rattle.runs.specs.declared.status.Status.{Status}
use Rattle.runs.specs.declared.refusal.Refusal.{Refusal}
use Rattle.runs.specs.declared.refusal.Refusal.TheVariants.{Words, Check}
use Rattle.runs.specs.Status.{end_of}
use Rattle.runs.specs.Triangulations.{HasFileOver, IsRead, IsTinRefusedOver}
use Rattle.fault_runs.specs.declared.loads.TheConstants.{MOST_FAULTS}
use Rattle.fault_runs.specs.declared.refusals.FaultRefusal.TheVariants.{Run, TooManyFaults}
use Rattle.fault_runs.specs.declared.words.Wanted.{Wanted}
use Rattle.fault_runs.specs.FaultsText.{faults_text}
use Rattle.fault_runs.specs.Spots.{spots_of}
use Rattle.fault_runs.specs.Refusals.{Refuses}
use Rattle.fault_runs.specs.Words.{AsksFaults, LacksFaults}

-- the file of this name is read as this triangulation, sound or not; where the shelf states nothing some bytes are
abbrev pub HasReadOver : Option Files → How → List ℕ → Triangulation → Type 0
HasReadOver told how name tin = (text : List ℕ) × HasFileOver told name text × IsRead how text tin

abbrev pub HasRead : Files → How → List ℕ → Triangulation → Type 0
HasRead files how name tin = HasReadOver (Some files) how name tin

-- the file gives no triangulation, sound or not; where the shelf states nothing some bytes give none
abbrev pub IsReadRefusedOver : Option Files → How → List ℕ → Refusal → Type 0
IsReadRefusedOver told how name (Check fault) = ⊥
IsReadRefusedOver told how name refusal = IsTinRefusedOver told how name refusal

abbrev pub IsReadRefused : Files → How → List ℕ → Refusal → Type 0
IsReadRefused files how name refusal = IsReadRefusedOver (Some files) how name refusal

-- the refusal is not by the check of a triangulation that is read
abbrev pub IsNotChecked : Refusal → Type 0
IsNotChecked (Check fault) = ⊥
IsNotChecked refusal = Unit {0}

-- whether there is a fault
abbrev pub has_some : List Fault → Bool
has_some [] = false
has_some (fault ∷ faults) = true

-- the text has all faults of the triangulation, which are not too many; and whether there is one
pub record IsSaidOf (lines : Bool) (tin : Triangulation) (said : List ℕ) (some : Bool) : Type 0 where
  pub faults : List Fault
  pub are : AreFaults tin faults
  pub few : length faults ≤ MOST_FAULTS
  pub said_is : said ≡ faults_text lines (spots_of tin faults)
  pub some_is : some ≡ has_some faults

-- the triangulation is read, and its faults are on standard output; the status says whether there is one
pub record IsListed (files : Files) (wanted : Wanted) (status : Status) (made : Files) : Type 0 where
  pub tin : Triangulation
  pub read : HasRead files wanted.how wanted.tin tin
  pub said : List ℕ
  pub some : Bool
  pub is_said : IsSaidOf wanted.lines tin said some
  pub status_is : status ≡ end_of some
  pub made_is : made ≡ (codes "-", said) ∷ []

-- the triangulation is read, of what the shelf states or of some bytes, and has more faults than are printed
pub record HasTooManyOver (told : Option Files) (wanted : Wanted) : Type 0 where
  pub tin : Triangulation
  pub read : HasReadOver told wanted.how wanted.tin tin
  pub more : HasMoreFaults tin MOST_FAULTS

abbrev pub HasTooMany : Files → Wanted → Type 0
HasTooMany files wanted = HasTooManyOver (Some files) wanted

-- The status and the made files of a run, where no call of the outside fails and memory does not run out.
pub data HasOutcome (words : List (List ℕ)) (files : Files) (status : Status) (made : Files) : Type 0 where
  no_job : (fault : WordsFault) → LacksFaults words fault → Refuses (Run (Words fault)) status made
      → HasOutcome words files status made
  refused : (wanted : Wanted) → AsksFaults words wanted → (refusal : Refusal)
      → IsReadRefused files wanted.how wanted.tin refusal → Refuses (Run refusal) status made
      → HasOutcome words files status made
  too_many : (wanted : Wanted) → AsksFaults words wanted → HasTooMany files wanted → Refuses TooManyFaults status made
      → HasOutcome words files status made
  listed : (wanted : Wanted) → AsksFaults words wanted → IsListed files wanted status made
      → HasOutcome words files status made
