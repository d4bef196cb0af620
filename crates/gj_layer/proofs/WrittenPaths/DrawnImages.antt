-- Paths with images in place of their points.
use Rattle.std.proofs.Common.{◌≡◌, ℕ, suc, ◌+◌, List, [], ◌∷◌, length, refl, arith}
use Rattle.std.specs.Prelude.{map, sum_by, Result, Ok}
use Rattle.sheet_base.specs.PointHeights.{Position}
use Rattle.sheet_base.specs.declared.faults.LayerFault.{LayerFault}
use Rattle.sheet_base.specs.declared.paths.PathKind.{PathKind}
use Rattle.sheet_base.specs.declared.paths.PathKind.TheVariants.{Loop}
use Rattle.gj_layer.specs.Texts.{list_text, ring_text}
use Rattle.gj_layer.specs.Paths.{Path, Part, lost_in}
use Rattle.sheet_base.proofs.DrawnPaths.{Drawn}
use Rattle.sheet_base.proofs.DrawnPaths as sheets

-- what a sheet keeps of a path
abbrev pub drawn : Path → Drawn
drawn path = record { kind = path.kind; positions = path.positions }

-- the same paths with images in place of their points, and images that may take that place
abbrev pub redrawn : (ℕ → List Position) → ℕ → List Path → List Drawn
redrawn images number paths = sheets.redrawn images number (map drawn paths)

abbrev pub AllSuit : (ℕ → List Position) → ℕ → List Path → Type 0
AllSuit images number paths = sheets.AllSuit images number (map drawn paths)

-- the images of a path of this kind
abbrev pub kind_text : PathKind → List Position → List ℕ
kind_text Loop images = ring_text images
kind_text kind images = list_text images

-- a part is read, whose paths are these with their images, and no number loses digits
pub record IsDrawn (images : ℕ → List Position) (number : ℕ) (paths : List Path) (read : Result Part LayerFault) : Type
    0
  where
    pub part : Part
    pub is : read ≡ Ok part
    pub drawn_are : map drawn part.paths ≡ redrawn images number paths
    pub exact_all : sum_by lost_in part.paths ≡ 0

-- as many paths are read as there were
pub drawn_count : (images : ℕ → List Position) (number : ℕ) (paths others : List Path)
    → map drawn others ≡ redrawn images number paths → length others ≡ length paths
drawn_count images number [] [] are = refl
drawn_count images number (path ∷ paths) (other ∷ others) are =
    grind (arith, (drawn_count images (number + 1) paths others))
drawn_count images _ _ _ are = cc
