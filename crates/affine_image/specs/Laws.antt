-- The laws of rounded images.
use Rattle.std.specs.Prelude.{◌≡◌, ℕ, ◌<◌, ◌^◌, ℤ, pos, ◌+ℤ◌, ◌*ℤ◌, ◌≤ℤ◌, ◌<ℤ◌, unsigned_abs, true, length}
use Rattle.frac128.specs.Sizes.{IsSmall}
use Rattle.plane_base.specs.Plane.{Point, Same, IsShort, IsNear}
use Rattle.plane_base.specs.Slices.{IsParam}
use Rattle.plane_base.specs.declared.shapes.Pt.{Pt}
use Rattle.tin_base.specs.declared.frames.Frame.TheVariants.{Source, Target}
use Rattle.tin_base.specs.Triangulation.{Triangulation, numbers_of}
use Rattle.tin_base.specs.Limits.{IsInReach, IsWithinLimits}
use Rattle.tin_base.specs.Soundness.{IsSound, has}
use Rattle.affine_image.specs.RoundedImages.{rounded_point, IsRoundedImageAt}
use Rattle.affine_image.specs.Cuts.{cut_of}

-- a place has one rounded image, whichever triangle gives it
abbrev pub RoundedImagesAgree : Type 0
RoundedImagesAgree =
    (tin : Triangulation) (p : Point) (image also : Pt) → IsSound tin → pos 0 <ℤ p.w → IsRoundedImageAt tin p image
    → IsRoundedImageAt tin p also → image ≡ also

-- where one triangle has the corners p and q, the place at n/d between them in the source has the rounded place at n/d
-- between them in the target for its image
abbrev pub CutsAreImages : Type 0
CutsAreImages =
    (tin : Triangulation) (t p q : ℕ) (n d : ℤ) (place : Point) → t < length tin.triangles
    → has (numbers_of tin t) p ≡ true → has (numbers_of tin t) q ≡ true → IsParam n d
    → Same place (cut_of tin Source p q n d) → IsRoundedImageAt tin place (rounded_point (cut_of tin Target p q n d))

-- a rounded image is in reach, as the corners are
abbrev pub RoundedImagesAreInReach : Type 0
RoundedImagesAreInReach = (tin : Triangulation) (p : Point) (image : Pt) → IsWithinLimits tin
    → IsRoundedImageAt tin p image → IsInReach image.x × IsInReach image.y

-- any two rounded images are near each other, as the corners are
abbrev pub RoundedImagesAreNear : Type 0
RoundedImagesAreNear =
    (tin : Triangulation) (p q : Point) (image also : Pt) → IsWithinLimits tin → IsRoundedImageAt tin p image
    → IsRoundedImageAt tin q also → IsNear image also

-- u out of d and v out of d are the weights of two corners, and s and t the ways to them on one axis. From the doubled
-- numerator, u·s + v·t twice and d once, the mix is rounded half up: it is below 2^96 in magnitude, so that 128 bits
-- hold it
abbrev pub DoubledNumeratorsAreSmall : Type 0
DoubledNumeratorsAreSmall =
    (u v d s t : ℤ) → pos 0 ≤ℤ u → pos 0 ≤ℤ v → (u +ℤ v) ≤ℤ d → IsSmall d → IsShort s → IsShort t
    → unsigned_abs (pos 2 *ℤ (u *ℤ s +ℤ v *ℤ t) +ℤ d) < 2 ^ 96
