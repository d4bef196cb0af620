-- A run after some of its layers, and why it has no more of them.
use Rattle.std.specs.Prelude.{◌≡◌, ◌⊎◌, ◌+◌, ◌≤◌, ℕ, Bool, List, Option, vec_len}
use Rattle.shelf_io.specs.Count.{Rose, count_after}
use Rattle.shelf_io.specs.Files.{Files}
use Rattle.carry_map.specs.declared.limits.TheConstants.{MOST_PIECES}
use Rattle.tin_base.specs.Triangulation.{Triangulation}
use Rattle.runs.specs.declared.loads.TheConstants.{MOST_BYTES}
use Rattle.runs.specs.declared.status.Status.TheVariants.{Read as ReadStatus}
use Rattle.runs.specs.declared.refusal.Refusal.{Refusal}
use Rattle.runs.specs.declared.refusal.Refusal.TheVariants.{LayersLong}
use Rattle.runs.specs.Refusals.{status_of}
use Rattle.migrate_mode.specs.declared.layer_runs.CarriedLayers.{CarriedLayers}
use Rattle.migrate_mode.specs.declared.migrations.Migration.{Migration}
use Rattle.migrate_mode.specs.LayerRuns.{Setting, setting_of}
use Rattle.migrate_mode.specs.Migrations.{LacksSome}
use Rattle.migrate_mode.specs.RunContents.{HasCarried, HasKept, AreUncarried, IsOfLayers}

-- what a shelf states of its files, how often its calls failed, and how many bytes it handed out
pub record ShelfState : Type 0 where
  pub told : Option Files
  pub faults : ℕ
  pub given : ℕ

abbrev pub shelf_state : Option Files → ℕ → ℕ → ShelfState
shelf_state told faults given = record { told = told; faults = faults; given = given }

-- what a run begins with: the shelf, a migration, whether it is with certificates, and the triangulation
pub record RunStart : Type 0 where
  pub shelf : ShelfState
  pub migration : Migration
  pub cert : Bool
  pub tin : Triangulation

abbrev pub run_start : ShelfState → Migration → Bool → Triangulation → RunStart
run_start shelf migration cert tin = record { shelf = shelf; migration = migration; cert = cert; tin = tin }

abbrev pub setting_at : RunStart → Setting
setting_at start = setting_of start.shelf.told start.migration.how start.tin

-- The layers of these names are carried, and the shelf is as it is now. This is what the run has of them.
pub record IsRunAfter (start : RunStart) (names : List (List ℕ)) (shelf : ShelfState) (run : CarriedLayers) : Type 0 where
  pub files : shelf.told ≡ start.shelf.told
  pub faults : shelf.faults ≡ start.shelf.faults
  pub given : count_after start.shelf.given run.used ≤ shelf.given
  pub used : run.used ≤ MOST_BYTES
  pub room : vec_len run.pieces ≤ MOST_PIECES
  pub carried : HasCarried (setting_at start) start.cert start.migration.out names run
  pub kept : HasKept run.sides (setting_at start) names run
  pub sides : run.sides ≡ start.migration.sides

-- a layer is not carried, and the shelf is as it is now
pub record StopsRun (start : RunStart) (shelf : ShelfState) (refusal : Refusal) : Type 0 where
  pub refused : AreUncarried (setting_at start) start.migration.layers (Rose start.shelf.faults shelf.faults) refusal
  pub of_layers : IsOfLayers refusal
  pub read : status_of refusal ≡ ReadStatus
      → Rose start.shelf.faults shelf.faults ⊎ LacksSome start.migration.layers start.shelf.told
  pub long : refusal ≡ LayersLong → count_after start.shelf.given (MOST_BYTES + 1) ≤ shelf.given
