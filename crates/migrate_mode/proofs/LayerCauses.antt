-- What causes that the layers are refused, or that there is no report on them, causes that the job is.
use Rattle.std.proofs.Common.{◌≡◌, ◌≢◌, ◌⊎◌, inl, inr, Bool, List, Option, subst}
use Rattle.shelf_io.specs.Files.{Files}
use Rattle.shelf_io.specs.Load.{LacksName}
use Rattle.sheet_base.specs.Sheets.{Contents}
use Rattle.sheet_base.specs.ImageFits.{Runs}
use Rattle.tin_base.specs.declared.pieces.Piece.{Piece}
use Rattle.tin_base.specs.Triangulation.{Triangulation}
use Rattle.migrate_mode.specs.declared.migrations.Migration.{Migration}
use Rattle.runs.specs.declared.status.Status.{Status}
use Rattle.runs.specs.declared.status.Status.TheVariants.{Read as ReadStatus, Words as WordsStatus}
use Rattle.runs.specs.declared.refusal.Refusal.{Refusal}
use Rattle.runs.specs.declared.refusal.Refusal.TheVariants.{Words, TinUnread, TinLong, Tin, Check, LayerUnread}
use Rattle.runs.specs.declared.refusal.Refusal.TheVariants.{LayersLong, Layer, Outside, TooManyPieces, TooManyChanges}
use Rattle.runs.specs.declared.refusal.Refusal.TheVariants.{TooManySides, WrittenUnread, WrittenLong, CertUnread, CertLong}
use Rattle.runs.specs.declared.refusal.Refusal.TheVariants.{Certificate, NoMemory}
use Rattle.runs.specs.Refusals.{status_of, status_of_layer}
use Rattle.migrate_mode.specs.Migrations.{LacksSome, LacksWanted}
use Rattle.runs.specs.declared.loads.TheConstants.{MOST_BYTES}
use Rattle.runs.specs.Counts.{ShelfCounts, HasFailed, HasGivenMore}
use Rattle.runs.specs.Causes.{HasCauses}
use Rattle.migrate_mode.specs.declared.layer_runs.CarriedLayers.{CarriedLayers}
use Rattle.migrate_mode.specs.RunContents.{IsOfLayers, IsUnlisted, IsUnsided, IsUnreported, by_changes, by_sides}
use Rattle.runs.proofs.Faults.{of_layer, layer_understood}

-- the words are understood
understood : (refusal : Refusal) → IsOfLayers refusal → status_of refusal ≢ WordsStatus
understood (Words fault) of = absurd of
understood TinUnread of = absurd of
understood TinLong of = absurd of
understood (Tin fault) of = absurd of
understood (Check fault) of = absurd of
understood (LayerUnread layer) of = λ e. cc
understood LayersLong of = λ e. cc
understood (Layer layer fault) of = layer_understood (status_of_layer fault) (of_layer fault)
understood (Outside layer path segment) of = λ e. cc
understood TooManyPieces of = λ e. cc
understood TooManyChanges of = λ e. cc
understood TooManySides of = absurd of
understood WrittenUnread of = absurd of
understood WrittenLong of = absurd of
understood CertUnread of = absurd of
understood CertLong of = absurd of
understood (Certificate fault) of = absurd of
understood NoMemory of = λ e. cc

-- a file that the layers lack is one that the job wants
wanted : (rose lacks some : Type 0) → rose ⊎ some → rose ⊎ (lacks ⊎ some)
wanted rose lacks some (inl h) = inl h
wanted rose lacks some (inr h) = inr (inr h)

pub layers_causes : (migration : Migration) (told : Option Files) (counts : ShelfCounts) (refusal : Refusal)
    → IsOfLayers refusal → (status_of refusal ≡ ReadStatus → HasFailed counts ⊎ LacksSome migration.layers told)
    → (refusal ≡ LayersLong → HasGivenMore MOST_BYTES counts)
    → HasCauses (LacksWanted migration told) (λ status. Unit {0}) counts refusal
layers_causes migration told counts refusal of read long = record {
  understood = understood refusal of;
  read = λ e. wanted (HasFailed counts) (LacksName told migration.tin) (LacksSome migration.layers told) (read e);
  tin_long = λ e. absurd (subst IsOfLayers e of);
  layers_long = long;
  written_long = λ e. absurd (subst IsOfLayers e of);
  cert_long = λ e. absurd (subst IsOfLayers e of);
  may_end = tt;
}

-- ---- the report
module _ (lacks : Type 0) (counts : ShelfCounts) where
  abbrev Causes : Refusal → Type 0
  Causes refusal = HasCauses lacks (λ (status : Status). Unit {0}) counts refusal

  no_room_causes : Causes NoMemory
  no_room_causes = record {
    understood = λ e. cc;
    read = λ e. cc;
    tin_long = λ e. cc;
    layers_long = λ e. cc;
    written_long = λ e. cc;
    cert_long = λ e. cc;
    may_end = tt;
  }

  unlisted_causes : (tin : Triangulation) (pieces : List Piece) (refusal : Refusal) → IsUnlisted tin pieces refusal
      → Causes refusal
  unlisted_causes tin pieces TooManyChanges why = record {
    understood = λ e. cc;
    read = λ e. cc;
    tin_long = λ e. cc;
    layers_long = λ e. cc;
    written_long = λ e. cc;
    cert_long = λ e. cc;
    may_end = tt;
  }
  unlisted_causes tin pieces NoMemory why = no_room_causes
  unlisted_causes tin pieces refusal why = absurd why

  unsided_causes : (asked : Bool) (sheets : List Contents) (images : List Runs) (refusal : Refusal)
      → IsUnsided asked sheets images refusal → Causes refusal
  unsided_causes asked sheets images TooManySides why = record {
    understood = λ e. cc;
    read = λ e. cc;
    tin_long = λ e. cc;
    layers_long = λ e. cc;
    written_long = λ e. cc;
    cert_long = λ e. cc;
    may_end = tt;
  }
  unsided_causes asked sheets images NoMemory why = no_room_causes
  unsided_causes asked sheets images refusal why = absurd why

  pub report_causes : (tin : Triangulation) (run : CarriedLayers) (refusal : Refusal) → IsUnreported tin run refusal
      → HasCauses lacks (λ status. Unit {0}) counts refusal
  report_causes tin run refusal (by_changes why) = unlisted_causes tin run.pieces.items refusal why
  report_causes tin run refusal (by_sides changes listed why) =
      unsided_causes run.sides run.sheets.items run.images.items refusal why
