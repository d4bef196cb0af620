-- The distance of two segments of the plane, in whole millimetres, rounded half up.
use Rattle.std.specs.Prelude.{ℕ, ◌+◌, ◌-◌, ◌*◌, ◌<◌, ℤ, pos, ◌+ℤ◌, ◌-ℤ◌, ◌*ℤ◌, ◌<ℤ◌, [], ◌∷◌}
use Rattle.plane_base.specs.Plane.{Point, IsMix, whole}
use Rattle.plane_base.specs.Laws.{IsPlace}
use Rattle.plane_base.specs.declared.shapes.Pt.{Pt}

-- a place of the segment from a to b: a mix of its ends
pub record IsOfSegment (a b : Pt) (p : Point) : Type 0 where
  pub place : IsPlace p
  pub mix : IsMix p (whole a ∷ whole b ∷ [])

-- the square of the distance of two places, times the squares of both denominators
abbrev pub square_between : Point → Point → ℤ
square_between p q =
    (p.x *ℤ q.w -ℤ q.x *ℤ p.w) *ℤ (p.x *ℤ q.w -ℤ q.x *ℤ p.w) +ℤ (p.y *ℤ q.w -ℤ q.y *ℤ p.w) *ℤ (p.y *ℤ q.w -ℤ q.y *ℤ p.w)

-- two places are nearer to each other than n half millimetres: squares are compared, and nothing is divided
abbrev pub AreCloser : ℕ → Point → Point → Type 0
AreCloser n p q = (pos 4 *ℤ square_between p q) <ℤ (pos (n * n) *ℤ ((p.w *ℤ q.w) *ℤ (p.w *ℤ q.w)))

-- some place of the one segment and some place of the other are nearer to each other than n half millimetres
pub record HaveCloser (n : ℕ) (a b c d : Pt) : Type 0 where
  pub p : Point
  pub q : Point
  pub first : IsOfSegment a b p
  pub second : IsOfSegment c d q
  pub closer : AreCloser n p q

-- the least distance of a place of the one segment and a place of the other is below gap + 1/2, and not below gap - 1/2
pub record IsGap (a b c d : Pt) (gap : ℕ) : Type 0 where
  pub near : HaveCloser (2 * gap + 1) a b c d
  pub far : 0 < gap → HaveCloser (2 * gap - 1) a b c d → ⊥
