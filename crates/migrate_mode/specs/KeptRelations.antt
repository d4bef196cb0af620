-- What a run says of the relations of the pieces of its layers: they are after rounding as in the source, or which
-- are not. Where sides of rings are asked for it says the same of these.
use Rattle.std.specs.Prelude.{◌≡◌, ◌≢◌, ◌⊎◌, ℕ, ◌+◌, ◌<◌, List, [], ◌∷◌, ◌++◌, All, AllPairs, Contains, codes, length}
use Rattle.std.specs.Prelude.{Bool, slice_index_or, Option, None, Some, IfSome}
use Rattle.shelf_io.specs.Files.{Files}
use Rattle.ring_side.specs.declared.kinds.SideChange.{SideChange}
use Rattle.sheet_base.specs.declared.flags.How.{How}
use Rattle.sheet_base.specs.Sheets.{Contents}
use Rattle.tin_base.specs.declared.pieces.Change.{Change}
use Rattle.tin_base.specs.declared.pieces.Piece.{Piece}
use Rattle.tin_base.specs.declared.relations.Rel.{Rel}
use Rattle.tin_base.specs.Triangulation.{Triangulation}
use Rattle.sheet_pieces.specs.SheetPieces.{ArePiecesOfSheet, IsSheetInside}
use Rattle.topo_check.specs.Changes.{HadRelation, HasRelation, IsChangeOf}
use Rattle.job_words.specs.declared.formats.Format.{Format}
use Rattle.runs.specs.declared.status.Status.{Status}
use Rattle.runs.specs.declared.status.Status.TheVariants.{Same, Changed}
use Rattle.carry_map.specs.Layers.{IsBackAsPieces}
use Rattle.runs.specs.Output.{name_in}
use Rattle.migrate_mode.specs.declared.migrations.Migration.{Migration}
use Rattle.layer_formats.specs.LayerOutcomes.{IsLayerText}
use Rattle.layer_formats.specs.LayerTexts.{reads_back_of}
use Rattle.migrate_mode.specs.LayerRuns.{Setting, setting_of, IsLayerFile}
use Rattle.migrate_mode.specs.Migrations.{HasWay}
use Rattle.migrate_mode.specs.KeptSides.{KeepAskedSides, AreAskedSides}
use Rattle.migrate_mode.specs.Maker.{made_files, made_migration}
use Rattle.report_text.specs.Reports.{ReportContents}
use Rattle.report_text.specs.ReportText.{report_text}

-- the layer's file in the folder is a layer again, whose segments in order are those between the rounded images of
-- the ends of its pieces, unless the format excepts what is written of the layer's bytes
abbrev pub HasWritten : How → Format → Triangulation → List ℕ → List ℕ → List ℕ → List Piece → Files → Type 0
HasWritten how format tin folder name bytes own made =
    (text : List ℕ) × Contains made (name_in folder name, text)
    × IsBackAsPieces tin bytes (IsLayerText how format) (reads_back_of format how bytes) text own

-- a layer of these bytes, of its sheet, which is inside, and of its pieces; they are in its written file
pub record IsKeptLayer (setting : Setting) (folder : List ℕ) (made : Option Files) (number used : ℕ)
    (name bytes : List ℕ) (own : List Piece) : Type 0 where
  pub format : Format
  pub file : IsLayerFile setting.told name used format bytes
  pub sheet : Contents
  pub read : IsLayerText setting.how format bytes sheet
  pub inside : IsSheetInside setting.tin sheet
  pub are_pieces : ArePiecesOfSheet setting.tin number sheet own
  pub written : IfSome made (HasWritten setting.how format setting.tin folder name bytes own)

-- the layers of these names in order, the first of them under this number and after `used` bytes, and the pieces of
-- all of them
abbrev pub AreKeptLayers : Setting → List ℕ → Option Files → ℕ → ℕ → List (List ℕ) → List Piece → Type 0
AreKeptLayers setting folder made number used [] pieces = pieces ≡ []
AreKeptLayers setting folder made number used (name ∷ names) pieces =
    (bytes : List ℕ) × (own : List Piece) × (rest : List Piece)
    × IsKeptLayer setting folder made number used name bytes own × (pieces ≡ own ++ rest)
    × AreKeptLayers setting folder made (number + 1) (used + length bytes) names rest

-- the files give this way and these pieces of all layers, which are in the written files
pub record GivesPieces (files : Files) (migration : Migration) (made : Option Files) (tin : Triangulation)
    (pieces : List Piece) : Type 0 where
  pub way : HasWay files migration tin
  pub layers : AreKeptLayers (setting_of (Some files) migration.how tin) migration.out made 0 0 migration.layers pieces

-- one relation is that of the two pieces in the source, and that of the segments between the rounded images of their
-- ends
abbrev pub KeepTheirRelation : Triangulation → Piece → Piece → Type 0
KeepTheirRelation tin p q = (relation : Rel) × HadRelation tin relation p q × HasRelation relation p q

-- the change is that of some piece and a later one: they had one relation in the source, and the segments between the
-- rounded images of their ends have another
abbrev pub IsOfSomePair : Triangulation → List Piece → Change → Type 0
IsOfSomePair tin pieces change = (i : ℕ) × (j : ℕ) × (d : Piece) × (i < j) × (j < length pieces)
    × IsChangeOf tin (slice_index_or pieces i d) (slice_index_or pieces j d) (Some change)

-- the change of the two pieces is among these
abbrev pub IsAmong : Triangulation → List Change → Piece → Piece → Type 0
IsAmong tin changes p q = (change : Change) × Contains changes change × IsChangeOf tin p q (Some change)

-- the changes are all those of the pieces, and no others
pub record AreAllAndOnly (tin : Triangulation) (pieces : List Piece) (changes : List Change) : Type 0 where
  pub all : AllPairs (λ p q. KeepTheirRelation tin p q ⊎ IsAmong tin changes p q) pieces
  pub only : All (λ change. IsOfSomePair tin pieces change) changes

-- there is a change of a side among these, which were asked for
abbrev pub IsSomeSide : Option (List SideChange) → Type 0
IsSomeSide None = ⊥
IsSomeSide (Some sides) = sides ≢ []

-- The report lists the changes of the pieces, all and only them, and where sides are asked for those of these, all and
-- only them. There is one of the first or of the second.
pub record ReportsChanges (asked : Bool) (setting : Setting) (names : List (List ℕ)) (pieces : List Piece)
    (made : Option Files) : Type 0 where
  pub report : ReportContents
  pub listed : AreAllAndOnly setting.tin pieces report.changes
  pub sided : AreAskedSides asked setting names report.sides
  pub some : (report.changes ≢ []) ⊎ IsSomeSide report.sides
  pub printed : IfSome made (λ made. Contains made (codes "-", report_text report))

-- What the status of a migration says of all pieces of all its layers, each of them with each later one, where the
-- layers' files are among `layers` and the report among `made`.
-- After `Same` each two written segments have the relation of their pieces in the source; after `Changed` the
-- report names those that have not, if there are some. Where sides are asked for, after `Same` each ring has its
-- direction and each point its side of each ring; after `Changed` the report names those that have not. One kind of
-- drawing is excepted: one whose next handle, after those that copies were given, has more than fifteen hexadecimal
-- digits. It is written all the same.
abbrev pub KeepsRelationsIn : Files → Migration → Status → Option Files → Option Files → Type 0
KeepsRelationsIn files migration Same layers made =
    (tin : Triangulation) × (pieces : List Piece) × GivesPieces files migration layers tin pieces
    × AllPairs (KeepTheirRelation tin) pieces
    × KeepAskedSides migration.sides (setting_of (Some files) migration.how tin) migration.layers
KeepsRelationsIn files migration Changed layers made =
    (tin : Triangulation) × (pieces : List Piece) × GivesPieces files migration layers tin pieces
    × ReportsChanges migration.sides (setting_of (Some files) migration.how tin) migration.layers pieces made
KeepsRelationsIn files migration status layers made = Unit {0}

-- both are made
abbrev pub KeepsRelations : Files → Migration → Status → Option Files → Type 0
KeepsRelations files migration status made = KeepsRelationsIn files migration status made made

-- What the maker's status says of the pieces of the layer that it makes, as that of a migration of both made files.
-- Only the report is written; `layers` has the layer's file that would come before it.
abbrev pub KeepsMadeRelations : ℕ → Status → Option Files → Type 0
KeepsMadeRelations n status made = (layers : Files)
    × KeepsRelationsIn (made_files n) made_migration status (Some layers) made
