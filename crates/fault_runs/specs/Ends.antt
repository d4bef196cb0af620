-- How a run ends: by its outcome, after a read fault, because memory ran out, or after a write fault.
use Rattle.std.specs.Prelude.{◌≡◌, ℕ, List, [], ◌∷◌, codes, Option}
use Rattle.shelf_io.specs.Files.{Files}
use Rattle.shelf_io.specs.Load.{LacksName}
use Rattle.jtext.specs.Texts.{Whole, IsWhole}
use Rattle.runs.specs.declared.status.Status.{Status}
use Rattle.runs.specs.declared.refusal.Refusal.TheVariants.{TinUnread, NoMemory}
use Rattle.publication.specs.RunEnds.{EndsSo}
use Rattle.fault_runs.specs.declared.refusals.FaultRefusal.TheVariants.{Run}
use Rattle.fault_runs.specs.declared.words.Wanted.{Wanted}
use Rattle.fault_runs.specs.Refusals.{Refuses}
use Rattle.fault_runs.specs.Words.{AsksFaults}
use Rattle.fault_runs.specs.Outcome.{HasOutcome}
use Rattle.fault_runs.specs.Laws.{faults_depth}

-- what a run makes unless a write fails
pub data Makes (words : List (List ℕ)) (files : Files) (shelf_rose : Type 0) (status : Status) (made : Files) : Type 0
  where
    by_outcome : HasOutcome words files status made → Makes words files shelf_rose status made
    after_read_fault : shelf_rose → (wanted : Wanted) → AsksFaults words wanted → Refuses (Run TinUnread) status made
        → Makes words files shelf_rose status made
    out_of_memory : Refuses (Run NoMemory) status made → Makes words files shelf_rose status made

-- how a run ends: it has made what `Makes` says, or after a write fault a first part of that
abbrev pub EndsTold : List (List ℕ) → Files → Type 0 → Type 0 → Status → Option Files → Type 0
EndsTold words files shelf_rose press_rose status made =
    EndsSo (Makes words files shelf_rose) press_rose status made

-- the words ask for the faults of a triangulation whose file is missing
abbrev pub LacksWantedOf : List (List ℕ) → Option Files → Type 0
LacksWantedOf words files = (wanted : Wanted) × AsksFaults words wanted × LacksName files wanted.tin

-- standard output has one JSON text (RFC 8259)
abbrev pub IsJsonFile : Files → Type 0
IsJsonFile made = (said : List ℕ) × (whole : Whole) × (made ≡ (codes "-", said) ∷ []) × IsWhole faults_depth whole said
