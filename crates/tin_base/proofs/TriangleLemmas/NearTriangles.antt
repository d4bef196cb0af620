-- The ends of a segment that is inside are near each corner of a triangle.
use Rattle.std.proofs.Common.{◌≡◌, ℕ, ◌<◌, ℤ, pos, ◌+ℤ◌, ◌*ℤ◌, List, [], ◌∷◌, length, refl, sym, ◌∙◌, subst, arith}
use Rattle.plane_base.specs.Plane.{Point, IsMix, whole, corners_of, IsNear, IsNearTri}
use Rattle.plane_base.specs.declared.shapes.Pt.{Pt}
use Rattle.plane_base.specs.declared.shapes.Tri.{Tri}
use Rattle.tin_base.specs.declared.frames.Frame.TheVariants.{Source}
use Rattle.tin_base.specs.Triangulation.{Triangulation, numbers_of, places}
use Rattle.tin_base.specs.Images.{IsInSome}
use Rattle.tin_base.specs.Limits.{IsWithinLimits}
use Rattle.tin_base.specs.Segments.{IsInside}
use Rattle.tin_base.specs.Slices.{AreNearTriangle}
use Rattle.tin_base.proofs.TriangleLemmas.Closeness.{near_inside}
use Rattle.tin_base.proofs.SegmentSpots.Spots.{first_inside, last_inside}
use Rattle.tin_base.proofs.TriangleLemmas.TrianglePlaces.{moved_to}

pub corner_axis : (a b c : ℤ) → a *ℤ (pos 1 *ℤ pos 1 +ℤ (pos 0 *ℤ pos 1 +ℤ (pos 0 *ℤ pos 1 +ℤ pos 0)))
    ≡ (pos 1 *ℤ a +ℤ (pos 0 *ℤ b +ℤ (pos 0 *ℤ c +ℤ pos 0))) *ℤ pos 1
corner_axis = grind arith

pub second_axis : (a b c : ℤ) → b *ℤ (pos 0 *ℤ pos 1 +ℤ (pos 1 *ℤ pos 1 +ℤ (pos 0 *ℤ pos 1 +ℤ pos 0)))
    ≡ (pos 0 *ℤ a +ℤ (pos 1 *ℤ b +ℤ (pos 0 *ℤ c +ℤ pos 0))) *ℤ pos 1
second_axis = grind arith

pub third_axis : (a b c : ℤ) → c *ℤ (pos 0 *ℤ pos 1 +ℤ (pos 0 *ℤ pos 1 +ℤ (pos 1 *ℤ pos 1 +ℤ pos 0)))
    ≡ (pos 0 *ℤ a +ℤ (pos 0 *ℤ b +ℤ (pos 1 *ℤ c +ℤ pos 0))) *ℤ pos 1
third_axis = grind arith

pub ends_near : (tin : Triangulation) (a b : Pt) (t : ℕ) → IsWithinLimits tin → t < length tin.triangles
    → IsInside tin a b → AreNearTriangle tin a b t
ends_near tin a b t limits ht inside r stands = (near a has_a, near b has_b, near_inside tin a b limits has_a has_b)
  where
    has_a : IsInSome tin Source (whole a)
    has_a = first_inside tin a b inside

    has_b : IsInSome tin Source (whole b)
    has_b = last_inside tin a b inside

    in_t : (p : Pt) → IsMix (whole p) (corners_of r) → IsInSome tin Source (whole p)
    in_t p m = (t, ht, subst (λ (ps : List Point). IsMix (whole p) ps) stands m)

    near : (p : Pt) → IsInSome tin Source (whole p) → IsNearTri r p
    near p has = (
      near_inside tin r.a p limits (in_t r.a (
        1 ∷ 0 ∷ 0
            ∷ [],
        refl,
        omega arith,
        (corner_axis r.a.x r.b.x r.c.x, corner_axis r.a.y r.b.y r.c.y),
      )) has,
      near_inside tin r.b p limits (in_t r.b (
        0 ∷ 1 ∷ 0
            ∷ [],
        refl,
        omega arith,
        (second_axis r.a.x r.b.x r.c.x, second_axis r.a.y r.b.y r.c.y),
      )) has,
      near_inside tin r.c p limits (in_t r.c (
        0 ∷ 0 ∷ 1
            ∷ [],
        refl,
        omega arith,
        (third_axis r.a.x r.b.x r.c.x, third_axis r.a.y r.b.y r.c.y),
      )) has,
    )

-- a triangle that is where triangle t is
pub near_told : (tin : Triangulation) (a b : Pt) (t : ℕ) (r : Tri) → corners_of r ≡ places tin Source (numbers_of tin t)
    → IsNearTri r a × IsNearTri r b × IsNear a b → AreNearTriangle tin a b t
near_told tin a b t r is near s stands = moved_to (λ (v : Tri). IsNearTri v a × IsNearTri v b × IsNear a b) r s
    (is ∙ sym stands) near
