-- A migration ends, in one way, and where it is done it keeps the relations of its pieces or lists those that it does
-- not.
use Rattle.std.specs.Prelude.{◌≡◌, ℕ, Result, Ok, Err, Some}
use Rattle.std.specs.List.{AllByRecursion}
use Rattle.shelf_io.specs.Files.{Files}
use Rattle.job_words.specs.JobFields.{HasFormat}
use Rattle.runs.specs.declared.status.Status.{Status}
use Rattle.runs.specs.declared.refusal.Refusal.{Refusal}
use Rattle.migrate_mode.specs.declared.migrations.Migration.{Migration}
use Rattle.migrate_mode.specs.Migrations.{IsMigrationRefused, IsMigrationDone}
use Rattle.migrate_mode.specs.Maker.{made_files, made_migration, IsMakingDone}
use Rattle.migrate_mode.specs.KeptRelations.{KeepsRelations, KeepsMadeRelations}

-- how a job ends where no call of the outside fails and memory does not run out: with a status and its made files, or
-- with its refusal
abbrev pub End : Type 0
End = Result (Status × Files) Refusal

abbrev pub IsMigrationEnd : Files → Migration → End → Type 0
IsMigrationEnd files migration (Ok end) = IsMigrationDone files migration end.0 end.1
IsMigrationEnd files migration (Err refusal) = IsMigrationRefused files migration refusal

abbrev pub IsMakingEnd : ℕ → End → Type 0
IsMakingEnd n (Ok end) = IsMakingDone n end.0 end.1
IsMakingEnd n (Err refusal) = IsMigrationRefused (made_files n) made_migration refusal

abbrev pub MigrationIsOne : Type 0
MigrationIsOne = (files : Files) (migration : Migration) (end other : End) → IsMigrationEnd files migration end
    → IsMigrationEnd files migration other → end ≡ other

abbrev pub MakingIsOne : Type 0
MakingIsOne = (n : ℕ) (end other : End) → IsMakingEnd n end → IsMakingEnd n other → end ≡ other

-- whatever the files are, where the name of each layer has a format
abbrev pub MigrationExists : Type 0
MigrationExists = (files : Files) (migration : Migration) → AllByRecursion HasFormat migration.layers
    → (end : End) × IsMigrationEnd files migration end

abbrev pub MakingExists : Type 0
MakingExists = (n : ℕ) → (end : End) × IsMakingEnd n end

abbrev pub MigrationKeepsRelations : Type 0
MigrationKeepsRelations = (files : Files) (migration : Migration) (status : Status) (made : Files)
    → IsMigrationDone files migration status made → KeepsRelations files migration status (Some made)

abbrev pub MakingKeepsRelations : Type 0
MakingKeepsRelations = (n : ℕ) (status : Status) (made : Files) → IsMakingDone n status made
    → KeepsMadeRelations n status (Some made)
