-- The vertical offset at a point: the same mix of the corners' offsets as the point is of the source corners (PROJ
-- manual, tinshift, in this project's profile).
use Rattle.std.specs.Prelude.{◌≡◌, ℕ, ◌<◌, ◌≤◌, List, [], ◌∷◌, length, sum, slice_index_or, ◌*◌, ℤ, pos, ◌+ℤ◌, ◌*ℤ◌, ◌<ℤ◌}
use Rattle.std.specs.Prelude.{unsigned_abs, All}
use Rattle.frac128.specs.Rounding.{half_up_of}
use Rattle.mm_decimal.specs.declared.limits.TheConstants.{LIMIT}
use Rattle.plane_base.specs.Plane.{Point, Same, weighted_sum, whole}
use Rattle.plane_base.specs.declared.shapes.Pt.{Pt}
use Rattle.tin_base.specs.declared.frames.Frame.TheVariants.{Source}
use Rattle.tin_base.specs.Triangulation.{Triangulation, numbers_of, places}
use Rattle.tin_base.specs.Images.{IsInSome}
use Rattle.tin_base.specs.Soundness.{IsSound}

-- the offset of the corner of this number
abbrev pub offset_in : List ℤ → ℕ → ℤ
offset_in offsets number = slice_index_or offsets number (pos 0)

-- the sum of the offsets of the corners of these numbers, each as often as its weight says
abbrev pub weighed_offset : List ℤ → List ℕ → List ℕ → ℤ
weighed_offset offsets [] numbers = pos 0
weighed_offset offsets (k ∷ ks) [] = pos 0
weighed_offset offsets (k ∷ ks) (n ∷ ns) = pos k *ℤ offset_in offsets n +ℤ weighed_offset offsets ks ns

-- num / den is the offset at the place: with some weights of some triangle, the place is the mix of the source corners
-- and num / den that of their offsets
abbrev pub IsOffset : Triangulation → List ℤ → Point → ℤ → ℤ → Type 0
IsOffset tin offsets p num den =
    (t : ℕ) × (t < length tin.triangles) × (weights : List ℕ) × (length weights ≡ length (numbers_of tin t))
    × (0 < sum weights)
    × Same p (weighted_sum weights (places tin Source (numbers_of tin t)))
    × (num *ℤ pos (sum weights) ≡ weighed_offset offsets weights (numbers_of tin t) *ℤ den)

-- the offset at the point, rounded half up
abbrev pub IsRoundedOffset : Triangulation → List ℤ → Pt → ℤ → Type 0
IsRoundedOffset tin offsets p offset =
    (num : ℤ) × (den : ℤ) × (pos 0 <ℤ den) × IsOffset tin offsets (whole p) num den × (offset ≡ half_up_of num den)

-- one offset for each corner, within twice the reach of a number text
pub record AreOffsets (tin : Triangulation) (offsets : List ℤ) : Type 0 where
  pub each : length offsets ≡ length tin.corners
  pub small : All (λ offset. unsigned_abs offset ≤ 2 * LIMIT) offsets

-- ---- laws
-- each point inside has an offset
abbrev pub OffsetExists : Type 0
OffsetExists =
    (tin : Triangulation) (offsets : List ℤ) (p : Point) → IsInSome tin Source p
    → (num : ℤ) × (den : ℤ) × (pos 0 <ℤ den) × IsOffset tin offsets p num den

-- any two offsets at a place are equal, whichever triangles give them
abbrev pub OffsetIsOne : Type 0
OffsetIsOne =
    (tin : Triangulation) (offsets : List ℤ) (p : Point) (num den other_num other_den : ℤ) → IsSound tin
    → length offsets ≡ length tin.corners → pos 0 <ℤ p.w → pos 0 <ℤ den → pos 0 <ℤ other_den
    → IsOffset tin offsets p num den → IsOffset tin offsets p other_num other_den
    → num *ℤ other_den ≡ other_num *ℤ den
