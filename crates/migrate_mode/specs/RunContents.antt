-- What a run has of the layers that it carried, and why one is not carried.
use Rattle.std.specs.Prelude.{◌≡◌, ℕ, ◌+◌, ◌<◌, Bool, true, false, List, [], ◌∷◌, ◌++◌, map, length, drop, Option, Some}
use Rattle.carry_map.specs.Layers.{IsLayerOutside, IsLayerTooMany, IsLayerKept, IsPlaced}
use Rattle.carry_map.specs.declared.faults.CarryFault.{CarryFault}
use Rattle.carry_map.specs.declared.faults.CarryFault.TheVariants.{Layer as Unread, Outside as CarryOutside, TooMany}
use Rattle.carry_map.specs.declared.faults.CarryFault.TheVariants.{NoMemory as CarryMemory}
use Rattle.carry_map.specs.declared.layers.Carried.{Carried}
use Rattle.carry_map.specs.declared.limits.TheConstants.{MOST_PIECES}
use Rattle.sheet_base.specs.declared.flags.How.{How}
use Rattle.sheet_base.specs.declared.faults.LayerFault.{LayerFault}
use Rattle.sheet_base.specs.Sheets.{Contents}
use Rattle.sheet_base.specs.ImageFits.{Runs}
use Rattle.ring_side.specs.Layers.{AreLayers}
use Rattle.ring_side.specs.SideChanges.{side_changes_of}
use Rattle.ring_side.specs.declared.faults.SidesFault.{SidesFault}
use Rattle.ring_side.specs.declared.faults.SidesFault.TheVariants.{TooMany as TooManySided, NoMemory as SidesMemory}
use Rattle.ring_side.specs.declared.kinds.SideChange.{SideChange}
use Rattle.tin_base.specs.declared.pieces.Change.{Change}
use Rattle.tin_base.specs.declared.pieces.Piece.{Piece}
use Rattle.tin_base.specs.Triangulation.{Triangulation}
use Rattle.topo_check.specs.Changes.{HasMoreThan}
use Rattle.topo_check.specs.declared.faults.ChangesFault.{ChangesFault}
use Rattle.topo_check.specs.declared.faults.ChangesFault.TheVariants.{TooMany as TooManyListed}
use Rattle.topo_check.specs.declared.faults.ChangesFault.TheVariants.{NoMemory as ChangesMemory}
use Rattle.report_text.specs.declared.rows.LayerRow.{LayerRow}
use Rattle.report_text.specs.ReportText.{report_text}
use Rattle.job_words.specs.declared.formats.Format.{Format}
use Rattle.job_words.specs.Formats.{format_by_name}
use Rattle.runs.specs.declared.refusal.Refusal.{Refusal}
use Rattle.runs.specs.declared.refusal.Refusal.TheVariants.{LayerUnread, LayersLong, Layer, Outside, TooManyPieces}
use Rattle.runs.specs.declared.refusal.Refusal.TheVariants.{TooManyChanges, TooManySides, NoMemory}
use Rattle.runs.specs.declared.output.RunOutput.{RunOutput}
use Rattle.runs.specs.Output.{file_of}
use Rattle.migrate_mode.specs.declared.layer_runs.CarriedLayers.{CarriedLayers}
use Rattle.migrate_mode.specs.declared.change_lists.TheConstants.{MOST_CHANGES, MOST_SIDES}
use Rattle.layer_formats.specs.LayerOutcomes.{IsLayerText, LacksLayerText}
use Rattle.migrate_mode.specs.LayerOutcomes.{IsCarried}
use Rattle.migrate_mode.specs.LayerRuns.{Setting, Done, AreCarried, IsReachedLayer, AreRefused}
use Rattle.migrate_mode.specs.RunChanges.{AreListed, is_some_listed}
use Rattle.migrate_mode.specs.SideLists.{AreKept, AreSidesOf}
use Rattle.migrate_mode.specs.Migrations.{row_of, files_in, all_files_in, report_of}

-- ---- one layer
-- the refusal of the layer of this number, which is not carried
abbrev pub of_carrying : ℕ → CarryFault → Refusal
of_carrying layer (Unread fault) = Layer layer fault
of_carrying layer (CarryOutside path segment) = Outside layer path segment
of_carrying layer TooMany = TooManyPieces
of_carrying layer CarryMemory = NoMemory

-- the refusal of a run whose changes are not listed
abbrev pub of_changes : ChangesFault → Refusal
of_changes TooManyListed = TooManyChanges
of_changes ChangesMemory = NoMemory

-- the refusal of a run whose changes of sides are not listed
abbrev pub of_sides : SidesFault → Refusal
of_sides TooManySided = TooManySides
of_sides SidesMemory = NoMemory

-- the layer of this number and text is not carried, where a format reads and refuses texts so, or memory ran out
abbrev pub IsUncarriedAs : (List ℕ → Contents → Type 0) → (List ℕ → LayerFault → Type 0) → Triangulation → List ℕ → ℕ
    → ℕ → Refusal → Type 0
IsUncarriedAs reads refuses tin text number before (Layer layer fault) = (layer ≡ number) × refuses text fault
IsUncarriedAs reads refuses tin text number before (Outside layer path segment) =
    (layer ≡ number) × IsLayerOutside tin (reads text) number before MOST_PIECES path segment
IsUncarriedAs reads refuses tin text number before TooManyPieces =
    IsLayerTooMany tin (reads text) number before MOST_PIECES
IsUncarriedAs reads refuses tin text number before NoMemory = Unit {0}
IsUncarriedAs reads refuses tin text number before refusal = ⊥

-- the layer of this number and text is not carried, where it has this format, or memory ran out
abbrev pub IsUncarried : How → Triangulation → Format → List ℕ → ℕ → ℕ → Refusal → Type 0
IsUncarried how tin format text number before refusal =
    IsUncarriedAs (IsLayerText how format) (LacksLayerText how format) tin text number before refusal

-- the layer of this number, name and bytes is carried after those that the run had, and is the last that it has now
pub record AddsLayer (how : How) (tin : Triangulation) (cert : Bool) (folder : List ℕ) (number : ℕ)
    (name bytes : List ℕ) (before now : CarriedLayers) : Type 0 where
  pub done : Done
  pub named : done.name ≡ name
  pub suffix : format_by_name name ≡ Some done.format
  pub carried : IsCarried how tin done.format bytes number before.pieces.items now.pieces.items done.carried
  pub own : done.pieces ≡ drop (length before.pieces.items) now.pieces.items
  pub files : map file_of now.files.items ≡ map file_of before.files.items ++ files_in cert folder done
  pub rows : now.rows.items ≡ before.rows.items ++ row_of done ∷ []
  pub used : now.used ≡ before.used + length bytes

-- the run has the sheet of the layer of this name and bytes, and its images, after those that it had
pub record AddsSheet (how : How) (tin : Triangulation) (name bytes : List ℕ) (before now : CarriedLayers) : Type 0 where
  pub format : Format
  pub suffix : format_by_name name ≡ Some format
  pub sheet : Contents
  pub images : Runs
  pub kept : IsLayerKept tin (IsLayerText how format bytes) sheet images
  pub placed : IsPlaced tin sheet images
  pub sheets_are : now.sheets.items ≡ before.sheets.items ++ sheet ∷ []
  pub images_are : now.images.items ≡ before.images.items ++ images ∷ []

-- it has, where it keeps them
abbrev pub AddsKept : Bool → How → Triangulation → List ℕ → List ℕ → CarriedLayers → CarriedLayers → Type 0
AddsKept false how tin name bytes before now = Unit {0}
AddsKept true how tin name bytes before now = AddsSheet how tin name bytes before now

-- it has this sheet and these images after those that it had, where it keeps them
abbrev pub KeepsBoth : Bool → Contents → Runs → CarriedLayers → CarriedLayers → Type 0
KeepsBoth false sheet images before now = Unit {0}
KeepsBoth true sheet images before now =
    (now.sheets.items ≡ before.sheets.items ++ sheet ∷ []) × (now.images.items ≡ before.images.items ++ images ∷ [])

-- it is not carried after `before` pieces, or memory ran out
pub record AddsNone (how : How) (tin : Triangulation) (number : ℕ) (name bytes : List ℕ) (before : ℕ)
    (refusal : Refusal) : Type 0 where
  pub format : Format
  pub suffix : format_by_name name ≡ Some format
  pub why : IsUncarried how tin format bytes number before refusal

-- the row of a layer of this name and format
abbrev pub row_with : List ℕ → Format → Carried → LayerRow
row_with name format carried = row_of (record { name = name; format = format; carried = carried; pieces = [] })

-- ---- all layers
-- what a run has of the layers that were carried
pub record Holds (cert : Bool) (folder : List ℕ) (done : List Done) (run : CarriedLayers) : Type 0 where
  pub files : map file_of run.files.items ≡ all_files_in cert folder done
  pub rows : run.rows.items ≡ map row_of done

-- the layers of these names are carried, and this is what the run has of them
pub record HasCarried (setting : Setting) (cert : Bool) (folder : List ℕ) (names : List (List ℕ)) (run : CarriedLayers) : Type 0
  where
    pub done : List Done
    pub carried : AreCarried setting 0 0 [] names run.pieces.items done run.used
    pub holds : Holds cert folder done run

-- each sheet is placed in the triangulation with its images
abbrev pub ArePlaced : Triangulation → List Contents → List Runs → Type 0
ArePlaced tin [] [] = Unit {0}
ArePlaced tin [] (images ∷ others) = ⊥
ArePlaced tin (sheet ∷ sheets) [] = ⊥
ArePlaced tin (sheet ∷ sheets) (images ∷ others) = IsPlaced tin sheet images × ArePlaced tin sheets others

-- the run has the sheets of the layers of these names, and their images
pub record HasSheets (setting : Setting) (names : List (List ℕ)) (run : CarriedLayers) : Type 0 where
  pub kept : AreKept setting names run.sheets.items run.images.items
  pub placed : ArePlaced setting.tin run.sheets.items run.images.items

-- it has, where it keeps them
abbrev pub HasKept : Bool → Setting → List (List ℕ) → CarriedLayers → Type 0
HasKept false setting names run = Unit {0}
HasKept true setting names run = HasSheets setting names run

-- where sides are asked for, they may be listed of these sheets and images
abbrev pub MayBeSided : Bool → List Contents → List Runs → Type 0
MayBeSided false sheets images = Unit {0}
MayBeSided true sheets images = AreLayers sheets images

-- why the layers are not all carried, or their changes not listed: by the files, after a read fault, or because
-- memory ran out
pub data AreUncarried (setting : Setting) (names : List (List ℕ)) (shelf_rose : Type 0) (refusal : Refusal) : Type 0
  where
    by_the_layers : AreRefused setting names refusal → AreUncarried setting names shelf_rose refusal
    by_fault : shelf_rose → (number : ℕ) → (name : List ℕ) → IsReachedLayer setting names number name
        → refusal ≡ LayerUnread number → AreUncarried setting names shelf_rose refusal
    out_of_memory : refusal ≡ NoMemory → AreUncarried setting names shelf_rose refusal

-- the pieces have more changes than may be listed, or memory ran out
abbrev pub IsUnlisted : Triangulation → List Piece → Refusal → Type 0
IsUnlisted tin pieces TooManyChanges = HasMoreThan tin pieces MOST_CHANGES
IsUnlisted tin pieces NoMemory = Unit {0}
IsUnlisted tin pieces refusal = ⊥

-- sides are asked for, and these sheets and images have more changes of sides than may be listed, or memory ran out
abbrev pub IsUnsided : Bool → List Contents → List Runs → Refusal → Type 0
IsUnsided sides sheets images TooManySides = (sides ≡ true) × (MOST_SIDES < length (side_changes_of sheets images))
IsUnsided sides sheets images NoMemory = Unit {0}
IsUnsided sides sheets images refusal = ⊥

-- why there is no report on a run: its changes are not listed, or else those of sides are not
pub data IsUnreported (tin : Triangulation) (run : CarriedLayers) (refusal : Refusal) : Type 0 where
  by_changes : IsUnlisted tin run.pieces.items refusal → IsUnreported tin run refusal
  by_sides : (changes : List Change) → AreListed tin run.pieces.items changes
      → IsUnsided run.sides run.sheets.items run.images.items refusal → IsUnreported tin run refusal

-- the refusal is one of layers
abbrev pub IsOfLayers : Refusal → Type 0
IsOfLayers (LayerUnread layer) = Unit {0}
IsOfLayers LayersLong = Unit {0}
IsOfLayers (Layer layer fault) = Unit {0}
IsOfLayers (Outside layer path segment) = Unit {0}
IsOfLayers TooManyPieces = Unit {0}
IsOfLayers TooManyChanges = Unit {0}
IsOfLayers NoMemory = Unit {0}
IsOfLayers refusal = ⊥

-- the run's files and the report on its layers, with all changes of their pieces and, where they are asked for, of sides
pub record IsReported (name : List ℕ) (tin : Triangulation) (run : CarriedLayers) (written : RunOutput) : Type 0 where
  pub changes : List Change
  pub listed : AreListed tin run.pieces.items changes
  pub sides : Option (List SideChange)
  pub sided : AreSidesOf run.sides run.sheets.items run.images.items sides
  pub layers : written.layers.items ≡ run.files.items
  pub said : written.said ≡ report_text (report_of name tin run.rows.items changes sides)
  pub changed : written.changed ≡ is_some_listed changes sides

-- the report on those layers, and no layer
pub record IsReportedAlone (name : List ℕ) (tin : Triangulation) (run : CarriedLayers) (written : RunOutput) : Type 0 where
  pub whole : RunOutput
  pub reported : IsReported name tin run whole
  pub layers : written.layers.items ≡ []
  pub said : written.said ≡ whole.said
  pub changed : written.changed ≡ whole.changed
