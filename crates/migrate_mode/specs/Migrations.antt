-- A migration: the triangulation through which layers are carried, what refuses it, and what it makes.
use Rattle.std.specs.Prelude.{◌≡◌, ◌⊎◌, ℕ, List, [], ◌∷◌, ◌++◌, map, flat_map, codes, Bool, true, false, Contains}
use Rattle.std.specs.Prelude.{Option, length, Some}
use Rattle.shelf_io.specs.Files.{Files}
use Rattle.shelf_io.specs.Load.{LacksName}
use Rattle.ring_side.specs.declared.kinds.SideChange.{SideChange}
use Rattle.tin_base.specs.declared.pieces.Change.{Change}
use Rattle.tin_base.specs.declared.pieces.Piece.{Piece}
use Rattle.tin_base.specs.Triangulation.{Triangulation}
use Rattle.cert_check.specs.Certificates.{certificate_of}
use Rattle.cert_check.specs.PieceLists.{lists_of}
use Rattle.job_words.specs.JobFields.{AreMigrationNames}
use Rattle.report_text.specs.Reports.{ReportContents}
use Rattle.report_text.specs.declared.rows.LayerRow.{LayerRow}
use Rattle.report_text.specs.ReportText.{report_text, are_told}
use Rattle.runs.specs.declared.status.Status.{Status}
use Rattle.runs.specs.declared.refusal.Refusal.{Refusal}
use Rattle.runs.specs.declared.refusal.Refusal.TheVariants.{TinUnread, LayerUnread}
use Rattle.runs.specs.Triangulations.{HasDirectedOver, IsTinRefusedOver}
use Rattle.runs.specs.Causes.{MayRefuse}
use Rattle.migrate_mode.specs.declared.migrations.Migration.{Migration}
use Rattle.runs.specs.Output.{name_in}
use Rattle.migrate_mode.specs.Names.{cert_name_in, names_in}
use Rattle.layer_formats.specs.LayerTexts.{is_drawing}
use Rattle.migrate_mode.specs.LayerRuns.{setting_of, Done, AreCarried, IsReachedLayer, AreRefused}
use Rattle.migrate_mode.specs.RunChanges.{AreListed, end_with}
use Rattle.migrate_mode.specs.SideLists.{HaveAskedSides, HaveTooManySides}

-- the names of the migration may be taken
abbrev pub MayBeTaken : Migration → Type 0
MayBeTaken migration = AreMigrationNames migration.tin migration.out migration.layers

-- ---- the triangulation
-- the layers are carried through this one, over what the shelf states
abbrev pub HasWayOver : Option Files → Migration → Triangulation → Type 0
HasWayOver told migration tin = HasDirectedOver told migration.how migration.tin migration.inverse tin

abbrev pub HasWay : Files → Migration → Triangulation → Type 0
HasWay files migration tin = HasWayOver (Some files) migration tin

-- ---- what refuses it
-- What the shelf states refuses it, or some bytes of its files where it states nothing: the triangulation, or else a
-- layer or the changes, or where sides are asked for those of sides.
pub data IsMigrationRefusedOver (told : Option Files) (migration : Migration) (refusal : Refusal) : Type 0 where
  by_tin : IsTinRefusedOver told migration.how migration.tin refusal → IsMigrationRefusedOver told migration refusal
  by_layers : (tin : Triangulation) → HasWayOver told migration tin
      → AreRefused (setting_of told migration.how tin) migration.layers refusal
      → IsMigrationRefusedOver told migration refusal
  by_sides : (tin : Triangulation) → HasWayOver told migration tin → migration.sides ≡ true
      → HaveTooManySides (setting_of told migration.how tin) migration.layers refusal
      → IsMigrationRefusedOver told migration refusal

abbrev pub IsMigrationRefused : Files → Migration → Refusal → Type 0
IsMigrationRefused files migration refusal = IsMigrationRefusedOver (Some files) migration refusal

-- nothing refuses the migration before the file of the layer of this number
pub record IsLayerReached (told : Option Files) (migration : Migration) (number : ℕ) : Type 0 where
  pub tin : Triangulation
  pub way : HasWayOver told migration tin
  pub name : List ℕ
  pub reached : IsReachedLayer (setting_of told migration.how tin) migration.layers number name

-- the refusal is that of a file that could not be read, and nothing refuses the job before that file
abbrev pub IsReachedByOver : Option Files → Migration → Refusal → Type 0
IsReachedByOver told migration TinUnread = Unit {0}
IsReachedByOver told migration (LayerUnread layer) = IsLayerReached told migration layer
IsReachedByOver told migration refusal = ⊥

abbrev pub IsReachedBy : Files → Migration → Refusal → Type 0
IsReachedBy files migration refusal = IsReachedByOver (Some files) migration refusal

-- why it may be refused before anything is written
abbrev pub MayRefuseMigrationOver : Option Files → Migration → Type 0 → Refusal → Type 0
MayRefuseMigrationOver told migration shelf_rose refusal =
    MayRefuse (IsMigrationRefusedOver told migration) (IsReachedByOver told migration) shelf_rose refusal

abbrev pub MayRefuseMigration : Files → Migration → Type 0 → Refusal → Type 0
MayRefuseMigration files migration shelf_rose refusal =
    MayRefuseMigrationOver (Some files) migration shelf_rose refusal

-- one of these names is missing from the shelf's files, which it states
abbrev pub LacksSome : List (List ℕ) → Option Files → Type 0
LacksSome names files = (name : List ℕ) × Contains names name × LacksName files name

-- a file that the migration wants is missing
abbrev pub LacksWanted : Migration → Option Files → Type 0
LacksWanted migration files = LacksName files migration.tin ⊎ LacksSome migration.layers files

-- ---- what it makes
-- a layer's row of the report
abbrev pub row_of : Done → LayerRow
row_of done = record {
  paths = done.carried.paths;
  segments = done.carried.segments;
  pieces = done.carried.pieces;
  inexact = done.carried.inexact;
  dropped = done.carried.dropped;
  drawing = is_drawing done.format;
  name = done.name;
}

-- what the report of a run says
abbrev pub report_of : List ℕ → Triangulation → List LayerRow → List Change → Option (List SideChange)
    → ReportContents
report_of name tin rows changes sides = record {
  corners = length tin.corners;
  triangles = length tin.triangles;
  inexact = tin.inexact;
  name = name;
  layers = rows;
  changes = changes;
  sides = sides;
}

-- a layer's file in a folder, with the images in place of the points
abbrev pub file_in : List ℕ → Done → List ℕ × List ℕ
file_in folder done = (name_in folder done.name, done.carried.text)

-- the files of certificates of a layer of this name and of these pieces: one, or none where none is wanted
abbrev pub certs_of : Bool → List ℕ → List ℕ → List Piece → Files
certs_of false folder name pieces = []
certs_of true folder name pieces = (cert_name_in folder name, certificate_of (lists_of pieces)) ∷ []

-- the layer's files: that of the layer and, where it is wanted, that of its certificate
abbrev pub files_in : Bool → List ℕ → Done → Files
files_in cert folder done = file_in folder done ∷ certs_of cert folder done.name done.pieces

-- those of all layers, in their order
abbrev pub all_files_in : Bool → List ℕ → List Done → Files
all_files_in cert folder done = flat_map (files_in cert folder) done

-- All layers are carried: a file for each, in their order, where it is wanted each followed by its certificate. There is
-- a report, which lists the changes of the pieces of all of them and, where they are asked for, those of sides.
pub record IsMigrated (files : Files) (migration : Migration) (changes : List Change)
    (sides : Option (List SideChange)) (layers : Files) (said : List ℕ) : Type 0 where
  pub tin : Triangulation
  pub way : HasWay files migration tin
  pub pieces : List Piece
  pub done : List Done
  pub used : ℕ
  pub carried : AreCarried (setting_of (Some files) migration.how tin) 0 0 [] migration.layers pieces done used
  pub listed : AreListed tin pieces changes
  pub sided : HaveAskedSides migration.sides (setting_of (Some files) migration.how tin) migration.layers sides
  pub layers_are : layers ≡ all_files_in migration.cert migration.out done
  pub said_is : said ≡ report_text (report_of migration.tin tin (map row_of done) changes sides)

-- a migration makes the layers' files and then the report; the status says whether this lists a change or a side
pub record IsMigrationDone (files : Files) (migration : Migration) (status : Status) (made : Files) : Type 0 where
  pub changes : List Change
  pub sides : Option (List SideChange)
  pub layers : Files
  pub said : List ℕ
  pub migrated : IsMigrated files migration changes sides layers said
  pub status_is : status ≡ end_with changes sides
  pub made_is : made ≡ layers ++ (codes "-", said) ∷ []

-- a report on the triangulation and the layers of these names, which has sides where they are asked for; the status
-- says whether it lists a change or a side
pub record IsReportOn (tin : List ℕ) (layers : List (List ℕ)) (sides : Bool) (said : List ℕ) (status : Status) : Type 0
  where
    pub report : ReportContents
    pub tin_is : report.name ≡ tin
    pub layers_are : map (λ (row : LayerRow). row.name) report.layers ≡ layers
    pub told_is : are_told report.sides ≡ sides
    pub said_is : said ≡ report_text report
    pub status_is : status ≡ end_with report.changes report.sides

-- What is written of a migration that is done, whatever files hold, and the status. There is a file for each layer, in
-- their order and under their last parts in the folder, where it is wanted each followed by its certificate. Then comes
-- a report on them.
abbrev pub IsMigrationWritten : Migration → Files → List ℕ → Status → Type 0
IsMigrationWritten migration layers said status =
    (map (λ (file : List ℕ × List ℕ). file.0) layers
    ≡ flat_map (names_in migration.cert migration.out) migration.layers)
    × IsReportOn migration.tin migration.layers migration.sides said status
