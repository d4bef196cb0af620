-- A run has an outcome, just one, and its end keeps the relations of the pieces that it carried.
use Rattle.std.specs.Prelude.{◌≡◌, ℕ, List, Option}
use Rattle.shelf_io.specs.Count.{Rose}
use Rattle.shelf_io.specs.Files.{Files}
use Rattle.runs.specs.declared.status.Status.{Status}
use Rattle.migrate_mode.specs.declared.migrations.Migration.{Migration}
use Rattle.migrate_mode.specs.KeptRelations.{KeepsRelations, KeepsMadeRelations}
use Rattle.whole_runs.specs.Jobs.{AsksMigration, AsksMaking}
use Rattle.whole_runs.specs.Outcome.{HasOutcome}
use Rattle.whole_runs.specs.Ends.{EndsTold}

-- two outcomes of the same words and files have the same status and made the same files; where files have the same
-- name, the first of them is meant
abbrev pub OutcomeIsOne : Type 0
OutcomeIsOne =
    (words : List (List ℕ)) (files : Files) (status other : Status) (made others : Files)
    → HasOutcome words files status made → HasOutcome words files other others
    → (status ≡ other) × (made ≡ others)

-- words and files have an outcome
abbrev pub OutcomeExists : Type 0
OutcomeExists = (words : List (List ℕ)) (files : Files) → (status : Status) × (made : Files)
    × HasOutcome words files status made

-- however a run ends whose words ask for a migration, what is said of its relations holds
abbrev pub EndKeepsRelations : Type 0
EndKeepsRelations =
    (words : List (List ℕ)) (files : Files) (shelf_before shelf_now press_before press_now : ℕ) (migration : Migration)
    (status : Status) (made : Option Files) → AsksMigration words migration
    → EndsTold words files (Rose shelf_before shelf_now) (Rose press_before press_now) status made
    → KeepsRelations files migration status made

-- so it is of what is made, over any files and without a read fault
abbrev pub EndKeepsMadeRelations : Type 0
EndKeepsMadeRelations =
    (words : List (List ℕ)) (files : Files) (press_before press_now : ℕ) (n : ℕ) (status : Status) (made : Option Files)
    → AsksMaking words n
    → EndsTold words files ⊥ (Rose press_before press_now) status made → KeepsMadeRelations n status made
