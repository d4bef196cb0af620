-- The points at which corners and triangles are in the source frame.
use Rattle.std.proofs.Common.{◌≡◌, ℕ, ◌<◌, pos, List, [], ◌∷◌, length, get_or, refl, ap, subst, arith}
use Rattle.plane_base.specs.Plane.{Point, corners_of}
use Rattle.plane_base.specs.declared.shapes.Pt.{Pt}
use Rattle.plane_base.specs.declared.shapes.Tri.{Tri}
use Rattle.tin_base.specs.declared.frames.Frame.TheVariants.{Source}
use Rattle.tin_base.specs.Triangulation.{Triangulation, corner_at, numbers_of, places}
use Rattle.tin_base.specs.Limits.{IsWithinLimits}

-- where a corner is
abbrev pub source_at : Triangulation → ℕ → Pt
source_at tin n = record { x = (corner_at tin n).sx; y = (corner_at tin n).sy }

abbrev nowhere : Point
nowhere = record { x = pos 0; y = pos 0; w = pos 0 }

-- ---- a triangle at the place of another is this one
abbrev point_of : Point → Pt
point_of p = record { x = p.x; y = p.y }

abbrev tri_of : List Point → Tri
tri_of ps = record {
  a = point_of (get_or ps 0 nowhere);
  b = point_of (get_or ps 1 nowhere);
  c =
      point_of (get_or ps 2 nowhere);
}

same_tri : (r s : Tri) → corners_of r ≡ corners_of s → r ≡ s
same_tri r s e = ap tri_of e

pub moved_to : (P : Tri → Type 0) (r s : Tri) → corners_of r ≡ corners_of s → P r → P s
moved_to P r s e p = subst P (same_tri r s e) p

-- ---- each triangle has a place
pub stands : (tin : Triangulation) (t : ℕ) → IsWithinLimits tin → t < length tin.triangles
    → (r : Tri) × (corners_of r ≡ places tin Source (numbers_of tin t))
stands tin t limits ht = go (numbers_of tin t) (limits.three t ht)
  where
    go : (ns : List ℕ) → length ns ≡ 3 → (r : Tri) × (corners_of r ≡ places tin Source ns)
    go (i ∷ j ∷ k ∷ []) e = (record { a = source_at tin i; b = source_at tin j; c = source_at tin k }, refl)
    go ns e = absurd (omega arith)
