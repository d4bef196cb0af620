-- What the layers of a run are read as, their images, and the changes of sides of rings among them.
use Rattle.std.specs.Prelude.{◌≡◌, ℕ, ◌<◌, ◌≤◌, Bool, true, false, List, [], ◌∷◌, length, Option, None, Some, IfSome}
use Rattle.shelf_io.specs.Files.{bytes_of}
use Rattle.sheet_base.specs.Sheets.{Contents}
use Rattle.sheet_base.specs.ImageFits.{Runs}
use Rattle.ring_side.specs.declared.kinds.SideChange.{SideChange}
use Rattle.ring_side.specs.SideChanges.{side_changes_of}
use Rattle.tin_base.specs.declared.pieces.Change.{Change}
use Rattle.tin_base.specs.declared.pieces.Piece.{Piece}
use Rattle.carry_map.specs.Layers.{IsLayerKept}
use Rattle.job_words.specs.declared.formats.Format.{Format}
use Rattle.job_words.specs.Formats.{format_by_name}
use Rattle.layer_formats.specs.LayerOutcomes.{IsLayerText}
use Rattle.runs.specs.declared.refusal.Refusal.{Refusal}
use Rattle.runs.specs.declared.refusal.Refusal.TheVariants.{TooManySides}
use Rattle.migrate_mode.specs.declared.change_lists.TheConstants.{MOST_SIDES}
use Rattle.migrate_mode.specs.LayerRuns.{Setting, Done, AreCarried}
use Rattle.migrate_mode.specs.RunChanges.{AreListed}

-- the layer of this name is read as this sheet, which is inside, and these are its images
pub record IsKept (setting : Setting) (name : List ℕ) (sheet : Contents) (images : Runs) : Type 0 where
  pub format : Format
  pub suffix : format_by_name name ≡ Some format
  pub bytes : List ℕ
  pub found : IfSome setting.told (λ files. bytes_of files name ≡ Some bytes)
  pub kept : IsLayerKept setting.tin (IsLayerText setting.how format bytes) sheet images

-- the layers of these names, in order
abbrev pub AreKept : Setting → List (List ℕ) → List Contents → List Runs → Type 0
AreKept setting [] [] [] = Unit {0}
AreKept setting [] [] (images ∷ others) = ⊥
AreKept setting [] (sheet ∷ sheets) others = ⊥
AreKept setting (name ∷ names) [] others = ⊥
AreKept setting (name ∷ names) (sheet ∷ sheets) [] = ⊥
AreKept setting (name ∷ names) (sheet ∷ sheets) (images ∷ others) =
    IsKept setting name sheet images × AreKept setting names sheets others

-- these are the changes of sides of the layers of these sheets and images, and not too many to be listed
pub record AreSideChanges (sheets : List Contents) (images : List Runs) (sides : List SideChange) : Type 0 where
  pub are : sides ≡ side_changes_of sheets images
  pub few : length sides ≤ MOST_SIDES

-- where sides are asked for, these are the changes of sides of such layers, not too many; else there is no list
abbrev pub AreSidesOf : Bool → List Contents → List Runs → Option (List SideChange) → Type 0
AreSidesOf false sheets images None = Unit {0}
AreSidesOf false sheets images (Some sides) = ⊥
AreSidesOf true sheets images None = ⊥
AreSidesOf true sheets images (Some sides) = AreSideChanges sheets images sides

-- these are the changes of sides of the layers of these names
pub record HaveSides (setting : Setting) (names : List (List ℕ)) (sides : List SideChange) : Type 0 where
  pub sheets : List Contents
  pub images : List Runs
  pub kept : AreKept setting names sheets images
  pub changes : AreSideChanges sheets images sides

-- where sides are asked for, these are the changes of sides of the layers of these names; else there is no list
abbrev pub HaveAskedSides : Bool → Setting → List (List ℕ) → Option (List SideChange) → Type 0
HaveAskedSides false setting names None = Unit {0}
HaveAskedSides false setting names (Some sides) = ⊥
HaveAskedSides true setting names None = ⊥
HaveAskedSides true setting names (Some sides) = HaveSides setting names sides

-- all are carried, and their changes may be listed, but they have more changes of sides than may be
pub record HaveTooManySides (setting : Setting) (names : List (List ℕ)) (refusal : Refusal) : Type 0 where
  pub is : refusal ≡ TooManySides
  pub pieces : List Piece
  pub done : List Done
  pub used : ℕ
  pub carried : AreCarried setting 0 0 [] names pieces done used
  pub changes : List Change
  pub listed : AreListed setting.tin pieces changes
  pub sheets : List Contents
  pub images : List Runs
  pub kept : AreKept setting names sheets images
  pub more : MOST_SIDES < length (side_changes_of sheets images)
