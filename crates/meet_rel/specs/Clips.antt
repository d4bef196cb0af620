-- The part of a segment that a triangle has, which is what a piece is.
use Rattle.std.specs.Prelude.{◌≡◌, ◌⊎◌, pos, ◌<ℤ◌, ◌≤ℤ◌, [], ◌∷◌}
use Rattle.frac128.specs.Fractions.{IsAtMost, IsBelow, IsSameValue}
use Rattle.frac128.specs.declared.frac.Frac.{Frac}
use Rattle.plane_base.specs.Plane.{Point, Same, IsMix, whole, corners_of, along, turn_of, holds_of, IsNear, IsNearAll}
use Rattle.plane_base.specs.Plane.{IsNearTri}
use Rattle.plane_base.specs.Slices.{IsParam}
use Rattle.plane_base.specs.declared.shapes.Pt.{Pt}
use Rattle.plane_base.specs.declared.shapes.Tri.{Tri}
use Rattle.meet_rel.specs.declared.clips.Clip.{Clip}
use Rattle.tin_base.specs.declared.relations.Rel.{Rel}
use Rattle.tin_base.specs.declared.relations.Rel.TheVariants.{Apart, Touching, Crossing, Overlapping}
use Rattle.meet_rel.specs.Near.{AreNear}
use Rattle.meet_rel.specs.Signs.{AreOnOneLine}

-- a point of the segment that the triangle has
pub record IsOf (clip : Clip) (r : Point) : Type 0 where
  pub between : IsMix r (whole clip.a ∷ whole clip.b ∷ [])
  pub inside : IsMix r (corners_of clip.tri)

-- the points from first to last are those
pub record AreEnds (clip : Clip) (first last : Point) : Type 0 where
  pub first_positive : pos 0 <ℤ first.w
  pub last_positive : pos 0 <ℤ last.w
  pub forth : (r : Point) → pos 0 <ℤ r.w → IsMix r (first ∷ last ∷ []) → IsOf clip r
  pub back : (r : Point) → pos 0 <ℤ r.w → IsOf clip r → IsMix r (first ∷ last ∷ [])

-- the triangle has both ends of the segment, and so the segment whole
pub record IsWhole (clip : Clip) : Type 0 where
  pub begins : holds_of clip.tri clip.a
  pub ends : holds_of clip.tri clip.b

-- there is such a point, and the triangle has a positive turn
pub record IsProper (clip : Clip) : Type 0 where
  pub near : IsNearAll clip.tri.a clip.tri.b clip.tri.c
  pub near_a : IsNearTri clip.tri clip.a
  pub near_b : IsNearTri clip.tri clip.b
  pub near_ab : IsNear clip.a clip.b
  pub positive : pos 0 <ℤ turn_of (whole clip.tri.a) (whole clip.tri.b) (whole clip.tri.c)
  pub point : Point
  pub point_positive : pos 0 <ℤ point.w
  pub has_point : IsOf clip point

-- both segments are near each other and near both triangles
pub record AreClose (p q : Clip) : Type 0 where
  pub ends : AreNear p.a p.b q.a q.b
  pub p_c : IsNearTri p.tri q.a
  pub p_d : IsNearTri p.tri q.b
  pub q_a : IsNearTri q.tri p.a
  pub q_b : IsNearTri q.tri p.b

-- the point at a parameter on the way from u to v
abbrev pub at : Pt → Pt → Frac → Point
at u v f = along (whole u) (whole v) f.num f.den

-- the points of the clip are those from one parameter to another on the way from u to v
pub record IsCut (clip : Clip) (u v : Pt) (lo hi : Frac) : Type 0 where
  pub order : IsAtMost lo hi
  pub forth : (r : Point) → pos 0 <ℤ r.w → IsMix r (at u v lo ∷ at u v hi ∷ []) → IsOf clip r
  pub back : (r : Point) → pos 0 <ℤ r.w → IsOf clip r → IsMix r (at u v lo ∷ at u v hi ∷ [])

-- ---- a side of a triangle
-- a side of the triangle goes from c to d
abbrev pub IsSideFrom : Tri → Pt → Pt → Type 0
IsSideFrom t c d = ((c ≡ t.a) × (d ≡ t.b)) ⊎ (((c ≡ t.b) × (d ≡ t.c)) ⊎ ((c ≡ t.c) × (d ≡ t.a)))

-- ---- two ends of a way
-- p is before q, or they have the same first number and p is below
abbrev pub IsPointBefore : Pt → Pt → Type 0
IsPointBefore p q = (p.x <ℤ q.x) ⊎ ((p.x ≡ q.x) × (p.y <ℤ q.y))

abbrev pub IsNotAfter : Pt → Pt → Type 0
IsNotAfter p q = (p.x <ℤ q.x) ⊎ ((p.x ≡ q.x) × (p.y ≤ℤ q.y))

-- where p is on the way from u to v
pub record StandsAt (u v p : Pt) (f : Frac) : Type 0 where
  pub param : IsParam f.num f.den
  pub same : Same (whole p) (at u v f)

-- from a first parameter to a last one there is none, one, or more
abbrev pub IsRelOf : Rel → Frac → Frac → Type 0
IsRelOf Apart first last = IsBelow last first
IsRelOf Touching first last = IsSameValue first last
IsRelOf Crossing first last = ⊥
IsRelOf Overlapping first last = IsBelow first last

-- the way from u to v holds the segment, and is near it and the triangle
pub record IsWayFor (u v : Pt) (clip : Clip) : Type 0 where
  pub near : IsNear u v
  pub near_u : IsNearTri clip.tri u
  pub near_v : IsNearTri clip.tri v
  pub a_from : IsNotAfter u clip.a
  pub a_to : IsNotAfter clip.a v
  pub a_on : turn_of (whole u) (whole v) (whole clip.a) ≡ pos 0
  pub b_from : IsNotAfter u clip.b
  pub b_to : IsNotAfter clip.b v
  pub b_on : turn_of (whole u) (whole v) (whole clip.b) ≡ pos 0

-- r is one of four points
abbrev pub IsOneOf : Pt → Pt → Pt → Pt → Pt → Type 0
IsOneOf r a b c d = (r ≡ a) ⊎ ((r ≡ b) ⊎ ((r ≡ c) ⊎ (r ≡ d)))

-- u is one of the four and none is before it, v is one of the four and none is after it
pub record AreOuter (a b c d u v : Pt) : Type 0 where
  pub near : AreNear a b c d
  pub line : AreOnOneLine a b c d
  pub u_one : IsOneOf u a b c d
  pub v_one : IsOneOf v a b c d
  pub u_a : IsNotAfter u a
  pub u_b : IsNotAfter u b
  pub u_c : IsNotAfter u c
  pub u_d : IsNotAfter u d
  pub a_v : IsNotAfter a v
  pub b_v : IsNotAfter b v
  pub c_v : IsNotAfter c v
  pub d_v : IsNotAfter d v
