-- Points of the plane in whole numbers, turns and mixes.
use Rattle.std.specs.Prelude.{◌≡◌, ℕ, ◌<◌, ℤ, pos, ◌+ℤ◌, ◌-ℤ◌, ◌*ℤ◌, ◌<ℤ◌, unsigned_abs, List, [], ◌∷◌, length, sum}
use Rattle.plane_base.specs.declared.shapes.Pt.{Pt}
use Rattle.plane_base.specs.declared.shapes.Tri.{Tri}
use Rattle.plane_base.specs.declared.shapes.TheConstants.{SPAN}

-- with w above 0: the place (x/w, y/w)
pub record Point : Type 0 where
  pub x : ℤ
  pub y : ℤ
  pub w : ℤ

-- two points of one place
abbrev pub Same : Point → Point → Type 0
Same p q = (p.x *ℤ q.w ≡ q.x *ℤ p.w) × (p.y *ℤ q.w ≡ q.y *ℤ p.w)

-- the determinant of the rows (x, y, w)
abbrev pub turn_of : Point → Point → Point → ℤ
turn_of a b c =
    a.x *ℤ (b.y *ℤ c.w -ℤ c.y *ℤ b.w) -ℤ a.y *ℤ (b.x *ℤ c.w -ℤ c.x *ℤ b.w) +ℤ a.w *ℤ (b.x *ℤ c.y -ℤ c.x *ℤ b.y)

-- the sum of the points, each as often as its weight says
abbrev pub weighted_sum : List ℕ → List Point → Point
weighted_sum [] ps = record { x = pos 0; y = pos 0; w = pos 0 }
weighted_sum (k ∷ ks) [] = record { x = pos 0; y = pos 0; w = pos 0 }
weighted_sum (k ∷ ks) (p ∷ ps) =
    let rest = weighted_sum ks ps in record {
      x = pos k *ℤ p.x +ℤ rest.x;
      y = pos k *ℤ p.y +ℤ rest.y;
      w =
          pos k *ℤ p.w +ℤ rest.w;
    }

-- a point is a mix of points, with weights that are not all 0
abbrev pub IsMix : Point → List Point → Type 0
IsMix p ps = (ks : List ℕ) × (length ks ≡ length ps) × (0 < sum ks) × Same p (weighted_sum ks ps)

-- a whole point
abbrev pub whole : Pt → Point
whole p = record { x = p.x; y = p.y; w = pos 1 }

-- the three points of a triangle
abbrev pub corners_of : Tri → List Point
corners_of t = whole t.a ∷ whole t.b ∷ whole t.c ∷ []

-- the point at n/d on the way from a to b
abbrev pub along : Point → Point → ℤ → ℤ → Point
along a b n d = record {
  x = (d -ℤ n) *ℤ a.x +ℤ n *ℤ b.x;
  y = (d -ℤ n) *ℤ a.y +ℤ n *ℤ b.y;
  w =
      (d -ℤ n) *ℤ a.w +ℤ n *ℤ b.w;
}

-- below `SPAN` in magnitude
abbrev pub IsShort : ℤ → Type 0
IsShort z = pos (unsigned_abs z) <ℤ SPAN

-- less than `SPAN` apart on each axis
abbrev pub IsNear : Pt → Pt → Type 0
IsNear p q = ((p.x -ℤ q.x) <ℤ SPAN) × ((q.x -ℤ p.x) <ℤ SPAN) × ((p.y -ℤ q.y) <ℤ SPAN) × ((q.y -ℤ p.y) <ℤ SPAN)

-- three points, near to each other
abbrev pub IsNearAll : Pt → Pt → Pt → Type 0
IsNearAll a b c = IsNear a b × IsNear a c × IsNear b c

-- a point near each corner
abbrev pub IsNearTri : Tri → Pt → Type 0
IsNearTri t p = IsNear t.a p × IsNear t.b p × IsNear t.c p

-- a whole point in the triangle: a mix of its corners
abbrev pub holds_of : Tri → Pt → Type 0
holds_of t p = IsMix (whole p) (corners_of t)
