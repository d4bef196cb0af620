-- What is made in place of a migration that is read: its texts, and what becomes of them.
use Rattle.std.specs.Prelude.{◌≡◌, ℕ, List, [], ◌∷◌, codes, false, Option}
use Rattle.shelf_io.specs.Files.{Files}
use Rattle.ring_side.specs.declared.kinds.SideChange.{SideChange}
use Rattle.tin_base.specs.declared.pieces.Change.{Change}
use Rattle.runs.specs.declared.status.Status.{Status}
use Rattle.runs.specs.declared.refusal.Refusal.{Refusal}
use Rattle.runs.specs.declared.refusal.Refusal.TheVariants.{Tin, Check, Layer, Outside, TooManyPieces, TooManyChanges}
use Rattle.runs.specs.declared.refusal.Refusal.TheVariants.{NoMemory}
use Rattle.migrate_mode.specs.declared.migrations.Migration.{Migration}
use Rattle.migrate_mode.specs.MakerTexts.{tin_text, layer_text}
use Rattle.migrate_mode.specs.RunChanges.{end_with}
use Rattle.migrate_mode.specs.Migrations.{IsMigrated, IsReportOn, MayRefuseMigration}

-- what is made goes the way of a migration, under these names and as two files alone
abbrev pub made_files : ℕ → Files
made_files n = (codes "made.json", tin_text n) ∷ (codes "made.wkt", layer_text n) ∷ []

abbrev pub made_migration : Migration
made_migration = record {
  tin = codes "made.json";
  out = [];
  how = record { exact = false; drop_other = false; inside_only = false };
  inverse = false;
  cert = false;
  sides = false;
  layers = codes "made.wkt" ∷ [];
}

-- its report alone is written
pub record IsMakingDone (n : ℕ) (status : Status) (made : Files) : Type 0 where
  pub changes : List Change
  pub sides : Option (List SideChange)
  pub layers : Files
  pub said : List ℕ
  pub migrated : IsMigrated (made_files n) made_migration changes sides layers said
  pub status_is : status ≡ end_with changes sides
  pub made_is : made ≡ (codes "-", said) ∷ []

-- What is written of it, whatever files hold, and the status: a report alone.
abbrev pub IsMakingWritten : Files → List ℕ → Status → Type 0
IsMakingWritten layers said status = (layers ≡ []) × IsReportOn made_migration.tin made_migration.layers false
    said status

-- why it is refused: by its texts, or because memory ran out
abbrev pub MayNotBeMade : ℕ → Refusal → Type 0
MayNotBeMade n refusal = MayRefuseMigration (made_files n) made_migration ⊥ refusal

-- the refusal is one that texts which are made may have
abbrev pub IsOfMaking : Refusal → Type 0
IsOfMaking (Tin fault) = Unit {0}
IsOfMaking (Check fault) = Unit {0}
IsOfMaking (Layer layer fault) = Unit {0}
IsOfMaking (Outside layer path segment) = Unit {0}
IsOfMaking TooManyPieces = Unit {0}
IsOfMaking TooManyChanges = Unit {0}
IsOfMaking NoMemory = Unit {0}
IsOfMaking refusal = ⊥
