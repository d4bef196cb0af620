-- Points with heights through a triangulation.
use Rattle.std.specs.Prelude.{◌≡◌, ◌⊎◌, ℕ, ◌<◌, List, [], ◌∷◌, length, ℤ, ◌+ℤ◌, slice_get, Some}
use Rattle.plane_base.specs.Plane.{whole}
use Rattle.tin_base.specs.declared.frames.Frame.TheVariants.{Source}
use Rattle.tin_base.specs.Triangulation.{Triangulation}
use Rattle.tin_base.specs.Images.{IsInSome}
use Rattle.tin_base.specs.Soundness.{IsSound}
use Rattle.affine_image.specs.RoundedImages.{IsRoundedImage}
use Rattle.tin_height.specs.Offsets.{IsRoundedOffset}
use Rattle.tin_height.specs.declared.points.PointRow.{PointRow}
use Rattle.tin_height.specs.declared.raises.Raised.{Raised}

-- the point goes to its image, and its height is raised by the offset
pub record IsRaised (tin : Triangulation) (offsets : List ℤ) (row : PointRow) (raised : Raised) : Type 0 where
  pub image : IsRoundedImage tin row.p raised.p
  pub offset : ℤ
  pub offset_is : IsRoundedOffset tin offsets row.p offset
  pub height : raised.z ≡ row.z +ℤ offset

-- so do all of them, in order
abbrev pub AreRaised : Triangulation → List ℤ → List PointRow → List Raised → Type 0
AreRaised tin offsets [] [] = Unit {0}
AreRaised tin offsets (row ∷ rows) (one ∷ raised) = IsRaised tin offsets row one × AreRaised tin offsets rows raised
AreRaised tin offsets rows raised = ⊥

-- the row of this number is the first whose point no triangle contains
pub record IsFirstOutside (tin : Triangulation) (rows : List PointRow) (point : ℕ) : Type 0 where
  pub row : PointRow
  pub row_is : slice_get rows point ≡ Some row
  pub outside : IsInSome tin Source (whole row.p) → ⊥
  pub before : (k : ℕ) (other : PointRow) → k < point → slice_get rows k ≡ Some other
      → IsInSome tin Source (whole other.p)

-- ---- laws
-- these rows are raised in one way, have one first point outside, and never both
pub record HaveOneEnd (tin : Triangulation) (offsets : List ℤ) (rows : List PointRow) : Type 0 where
  pub raised : (a b : List Raised) → AreRaised tin offsets rows a → AreRaised tin offsets rows b → a ≡ b
  pub outside : (a b : ℕ) → IsFirstOutside tin rows a → IsFirstOutside tin rows b → a ≡ b
  pub apart : (raised : List Raised) (point : ℕ) → AreRaised tin offsets rows raised → IsFirstOutside tin rows point → ⊥

-- through a sound triangulation with one offset for each corner
abbrev pub RaisedAreOne : Type 0
RaisedAreOne =
    (tin : Triangulation) (offsets : List ℤ) (rows : List PointRow) → IsSound tin
    → length offsets ≡ length tin.corners → HaveOneEnd tin offsets rows

abbrev pub IsRaisedOrOutside : Triangulation → List ℤ → List PointRow → Type 0
IsRaisedOrOutside tin offsets rows =
    ((raised : List Raised) × AreRaised tin offsets rows raised) ⊎ ((point : ℕ) × IsFirstOutside tin rows point)

-- any rows are raised, or one of them is the first point outside
abbrev pub RaisedExist : Type 0
RaisedExist =
    (tin : Triangulation) (offsets : List ℤ) (rows : List PointRow) → IsSound tin → IsRaisedOrOutside tin offsets rows
