-- What becomes of the layers of a run, one after the other.
use Rattle.std.specs.Prelude.{◌≡◌, ℕ, ◌+◌, ◌<◌, ◌≤◌, List, [], ◌∷◌, ◌++◌, length, Option, Some, IfSome, drop}
use Rattle.shelf_io.specs.Files.{Files, bytes_of}
use Rattle.shelf_io.specs.Load.{LacksName}
use Rattle.carry_map.specs.declared.layers.Carried.{Carried}
use Rattle.sheet_base.specs.declared.flags.How.{How}
use Rattle.tin_base.specs.declared.pieces.Piece.{Piece}
use Rattle.tin_base.specs.Triangulation.{Triangulation}
use Rattle.topo_check.specs.Changes.{HasMoreThan}
use Rattle.job_words.specs.declared.formats.Format.{Format}
use Rattle.job_words.specs.Formats.{format_by_name}
use Rattle.runs.specs.declared.loads.TheConstants.{MOST_BYTES}
use Rattle.migrate_mode.specs.declared.change_lists.TheConstants.{MOST_CHANGES}
use Rattle.runs.specs.declared.refusal.Refusal.{Refusal}
use Rattle.runs.specs.declared.refusal.Refusal.TheVariants.{LayerUnread, LayersLong, Layer, Outside, TooManyPieces}
use Rattle.runs.specs.declared.refusal.Refusal.TheVariants.{TooManyChanges}
use Rattle.layer_formats.specs.LayerOutcomes.{LacksLayerText}
use Rattle.migrate_mode.specs.LayerOutcomes.{IsCarried, IsOutside, HasTooMany}

-- how layers are carried: the files of the shelf, where it gives them, how files are read, and the triangulation
pub record Setting : Type 0 where
  pub told : Option Files
  pub how : How
  pub tin : Triangulation

abbrev pub setting_of : Option Files → How → Triangulation → Setting
setting_of told how tin = record { told = told; how = how; tin = tin }

-- a layer that was carried: its name among the words, its format, what was made of it, and its own pieces
pub record Done : Type 0 where
  pub name : List ℕ
  pub format : Format
  pub carried : Carried
  pub pieces : List Piece

-- the layer of this name has this format and, where the shelf states its files, these bytes; with those of the layers
-- before it they are not too many
pub record IsLayerFile (told : Option Files) (name : List ℕ) (used : ℕ) (format : Format) (bytes : List ℕ) : Type 0
  where
    pub suffix : format_by_name name ≡ Some format
    pub found : IfSome told (λ files. bytes_of files name ≡ Some bytes)
    pub within : used + length bytes ≤ MOST_BYTES

-- where the shelf states its files, the layer of this name has too many bytes together with those before it
abbrev pub IsLongLayer : Option Files → List ℕ → ℕ → Type 0
IsLongLayer told name used = IfSome told (λ files. (bytes : List ℕ) × (bytes_of files name ≡ Some bytes)
    × (MOST_BYTES < used + length bytes))

-- the layer of this name and number is carried after `used` bytes and the pieces before it
pub record IsNextCarried (setting : Setting) (number used : ℕ) (before : List Piece) (name : List ℕ) (bytes : List ℕ)
    (after : List Piece) (done : Done) : Type 0 where
  pub named : done.name ≡ name
  pub file : IsLayerFile setting.told name used done.format bytes
  pub carried : IsCarried setting.how setting.tin done.format bytes number before after done.carried
  pub own : done.pieces ≡ drop (length before) after

-- The layers of these names are carried one after the other, the first of them under this number and after `used`
-- bytes and the pieces before it.
-- Then there are these pieces and `total` bytes.
abbrev pub AreCarried : Setting → ℕ → ℕ → List Piece → List (List ℕ) → List Piece → List Done → ℕ → Type 0
AreCarried setting number used before [] after done total = (after ≡ before) × (done ≡ []) × (total ≡ used)
AreCarried setting number used before (name ∷ names) after done total =
    (bytes : List ℕ) × (pieces : List Piece) × (first : Done) × (rest : List Done)
    × IsNextCarried setting number used before name bytes pieces first × (done ≡ first ∷ rest)
    × AreCarried setting (number + 1) (used + length bytes) pieces names after rest total

-- The layer of this name and number is not carried, after `used` bytes and `before` pieces: one row for each refusal,
-- in the order in which they are tried.
-- A row speaks of what was accepted before it.
abbrev pub IsNextRefused : Setting → ℕ → ℕ → ℕ → List ℕ → Refusal → Type 0
IsNextRefused setting number used before name (LayerUnread layer) = (layer ≡ number) × LacksName setting.told name
IsNextRefused setting number used before name LayersLong = IsLongLayer setting.told name used
IsNextRefused setting number used before name (Layer layer fault) =
    (layer ≡ number) × (format : Format) × (bytes : List ℕ) × IsLayerFile setting.told name used format bytes
    × LacksLayerText setting.how format bytes fault
IsNextRefused setting number used before name (Outside layer path segment) =
    (layer ≡ number) × (format : Format) × (bytes : List ℕ) × IsLayerFile setting.told name used format bytes
    × IsOutside setting.how setting.tin format bytes number before path segment
IsNextRefused setting number used before name TooManyPieces =
    (format : Format) × (bytes : List ℕ) × IsLayerFile setting.told name used format bytes
    × HasTooMany setting.how setting.tin format bytes number before
IsNextRefused setting number used before name refusal = ⊥

-- the layer of this name and number is one of these, and those before it are carried
pub record IsReachedLayer (setting : Setting) (names : List (List ℕ)) (number : ℕ) (name : List ℕ) : Type 0 where
  pub front : List (List ℕ)
  pub back : List (List ℕ)
  pub stands : names ≡ front ++ name ∷ back
  pub number_is : number ≡ length front
  pub pieces : List Piece
  pub done : List Done
  pub used : ℕ
  pub carried : AreCarried setting 0 0 [] front pieces done used

-- it is the first that is not carried
pub record IsRefusedLayer (setting : Setting) (names : List (List ℕ)) (refusal : Refusal) : Type 0 where
  pub number : ℕ
  pub name : List ℕ
  pub reached : IsReachedLayer setting names number name
  pub refused : (let layer = reached in IsNextRefused setting number layer.used (length layer.pieces) name refusal)

-- all are carried, but their pieces have more changes than may be listed
pub record HaveTooManyChanges (setting : Setting) (names : List (List ℕ)) (refusal : Refusal) : Type 0 where
  pub is : refusal ≡ TooManyChanges
  pub pieces : List Piece
  pub done : List Done
  pub used : ℕ
  pub carried : AreCarried setting 0 0 [] names pieces done used
  pub more : HasMoreThan setting.tin pieces MOST_CHANGES

-- why layers are refused
pub data AreRefused (setting : Setting) (names : List (List ℕ)) (refusal : Refusal) : Type 0 where
  at_layer : IsRefusedLayer setting names refusal → AreRefused setting names refusal
  at_changes : HaveTooManyChanges setting names refusal → AreRefused setting names refusal
