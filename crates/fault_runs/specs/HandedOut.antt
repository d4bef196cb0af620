-- What a run hands out beside its status: the refusal that came, or where the faults were printed the triangulation if
-- it has none.
use Rattle.std.specs.Prelude.{◌≡◌, ◌≢◌, ◌⊎◌, Bool, true, false, List, [], ◌∷◌, ℕ, codes, Option, None, Some, IfSome, IfNone}
use Rattle.shelf_io.specs.Files.{Files}
use Rattle.shelf_io.specs.Load.{LacksName}
use Rattle.tin_base.specs.Triangulation.{Triangulation}
use Rattle.tin_base.specs.Soundness.{IsSound}
use Rattle.job_words.specs.declared.faults.WordsFault.{WordsFault}
use Rattle.job_words.specs.declared.faults.WordsFault.TheVariants.{NoMemory as WordsMemory}
use Rattle.runs.specs.declared.status.Status.{Status}
use Rattle.runs.specs.declared.status.Status.TheVariants.{Same, Changed, Write}
use Rattle.runs.specs.declared.refusal.Refusal.TheVariants.{Words, TinUnread}
use Rattle.runs.specs.Causes.{HasCauses, MayRefuse}
use Rattle.runs.specs.Status.{end_of}
use Rattle.runs.specs.Counts.{ShelfCounts, HasFailed}
use Rattle.publication.specs.Fronts.{HasWritten}
use Rattle.publication.specs.RunEnds.{IsHandedOut}
use Rattle.fault_runs.specs.declared.refusals.FaultRefusal.{FaultRefusal}
use Rattle.fault_runs.specs.declared.refusals.FaultRefusal.TheVariants.{Run, TooManyFaults}
use Rattle.fault_runs.specs.declared.words.Wanted.{Wanted}
use Rattle.fault_runs.specs.Refusals.{status_of, line_file}
use Rattle.fault_runs.specs.Words.{AsksFaults, LacksFaults}
use Rattle.fault_runs.specs.Outcome.{HasReadOver, IsSaidOf, IsReadRefusedOver, HasTooManyOver}
use Rattle.fault_runs.specs.Ends.{IsJsonFile}

-- the words are refused for their fault; memory may run out while they are read
abbrev pub IsRefusalOfWords : List (List ℕ) → FaultRefusal → Type 0
IsRefusalOfWords words refusal =
    (fault : WordsFault) × (refusal ≡ Run (Words fault)) × (fault ≢ WordsMemory → LacksFaults words fault)

-- why nothing is listed of a triangulation: its file gives none, it could not be read, memory ran out, or it has too
-- many faults
abbrev pub MayRefuseWantedOver : Option Files → Wanted → Type 0 → FaultRefusal → Type 0
MayRefuseWantedOver told wanted shelf_rose (Run refusal) =
    MayRefuse (IsReadRefusedOver told wanted.how wanted.tin) (λ reached. reached ≡ TinUnread) shelf_rose refusal
MayRefuseWantedOver told wanted shelf_rose TooManyFaults = HasTooManyOver told wanted

-- what the counts say of a refusal of the triangulation; of too many faults they say nothing
abbrev pub HasWantedCauses : Wanted → Option Files → ShelfCounts → FaultRefusal → Type 0
HasWantedCauses wanted told counts (Run refusal) =
    HasCauses (LacksName told wanted.tin) (λ status. Unit {0}) counts refusal
HasWantedCauses wanted told counts TooManyFaults = Unit {0}

-- What the refusal of a triangulation says, whether or not the shelf states its files.
pub record IsRefusalOfWanted (told : Option Files) (counts : ShelfCounts) (wanted : Wanted) (refusal : FaultRefusal) :
    Type 0 where
  -- what the shelf states gives it, or some bytes where it states nothing; or a read failed, or memory ran out
  pub refused : MayRefuseWantedOver told wanted (HasFailed counts) refusal
  -- what the counts say of it
  pub counted : HasWantedCauses wanted told counts refusal

-- why a run is refused: for its words, or as the triangulation that they ask for may be
abbrev pub IsRefusalOfRun : List (List ℕ) → Option Files → ShelfCounts → FaultRefusal → Type 0
IsRefusalOfRun words told counts refusal =
    IsRefusalOfWords words refusal
    ⊎ ((wanted : Wanted) × AsksFaults words wanted × IsRefusalOfWanted told counts wanted refusal)

-- a triangulation without a fault is handed out, and is sound; one with a fault is not
abbrev pub IsSoundOf : Bool → Triangulation → Option Triangulation → Type 0
IsSoundOf true tin sound = sound ≡ None
IsSoundOf false tin sound = (sound ≡ Some tin) × IsSound tin

-- What is known of a run that is not refused, whether or not the shelf states its files.
pub record IsRunDone (words : List (List ℕ)) (told : Option Files) (status : Status) (made : Option Files)
    (sound : Option Triangulation) : Type 0 where
  -- the words ask for the faults of a triangulation, and this one is read
  pub wanted : Wanted
  pub asks : AsksFaults words wanted
  pub tin : Triangulation
  pub read : HasReadOver told wanted.how wanted.tin tin
  -- this text has all its faults, and where it has none it is the one that is handed out
  pub said : List ℕ
  pub some : Bool
  pub is_said : IsSaidOf wanted.lines tin said some
  pub is_sound : IsSoundOf some tin sound
  -- the text is made, and the status says whether there is a fault; or after a write fault a first part is made
  pub written : HasWritten ((codes "-", said) ∷ []) (end_of some) status made

-- What is handed out: a refusal, or none, and the triangulation where it has no fault.
pub record HandsOut (words : List (List ℕ)) (told : Option Files) (counts : ShelfCounts) (status : Status)
    (made : Option Files) (handed : Option FaultRefusal) (sound : Option Triangulation) : Type 0 where
  -- where there is one it is the refusal that came, also where its line could not be printed whole
  pub refusal : IfSome handed (λ refusal. IsHandedOut (IsRefusalOfRun words told counts refusal) (status_of refusal)
      (line_file refusal) status made)
  -- then there is no triangulation
  pub no_sound : IfSome handed (λ refusal. sound ≡ None)
  -- where there is none the faults are those of the triangulation, what is made is of their text, and the triangulation
  -- is handed out where it has none
  pub done : IfNone handed (IsRunDone words told status made sound)
  pub status_is : IfNone handed ((status ≡ Same) ⊎ ((status ≡ Changed) ⊎ (status ≡ Write)))
  -- and where standard output could be written, it has one JSON text
  pub json : IfNone handed (status ≢ Write → IfSome made IsJsonFile)
