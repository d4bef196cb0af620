-- What the code asks of the ends of two segments: dot products, turns, and four times the square of a distance.
use Rattle.std.specs.Prelude.{◌⊎◌, ℕ, ◌+◌, ◌-◌, ◌*◌, ◌<◌, ◌≤◌, ℤ, pos, ◌+ℤ◌, ◌-ℤ◌, ◌*ℤ◌, ◌≤ℤ◌, ◌<ℤ◌}
use Rattle.plane_base.specs.Plane.{whole, turn_of}
use Rattle.plane_base.specs.TwoWeights.{AreWeights}
use Rattle.plane_base.specs.declared.shapes.Pt.{Pt}

-- the dot product of the ways from o to p and to q
abbrev pub dot_of : Pt → Pt → Pt → ℤ
dot_of o p q = (p.x -ℤ o.x) *ℤ (q.x -ℤ o.x) +ℤ (p.y -ℤ o.y) *ℤ (q.y -ℤ o.y)

-- one is above 0 and the other below
abbrev pub AreOpposite : ℤ → ℤ → Type 0
AreOpposite u v = ((u <ℤ pos 0) × (pos 0 <ℤ v)) ⊎ ((pos 0 <ℤ u) × (v <ℤ pos 0))

-- the ends of each segment are on both sides of the other one's line
pub record DoCross (a b c d : Pt) : Type 0 where
  pub first : AreOpposite (turn_of (whole a) (whole b) (whole c)) (turn_of (whole a) (whole b) (whole d))
  pub second : AreOpposite (turn_of (whole c) (whole d) (whole a)) (turn_of (whole c) (whole d) (whole b))

-- ---- a mix of c and d by its weights
-- on one axis: the way from p to the mix, times the sum of the weights
abbrev pub way_to : ℤ → ℤ → ℤ → ℤ → ℤ → ℤ
way_to p c d k l = k *ℤ c +ℤ l *ℤ d -ℤ (k +ℤ l) *ℤ p

-- four times the square of the distance of p and the mix, times the square of the sum of the weights
abbrev pub square_to : Pt → Pt → Pt → ℤ → ℤ → ℤ
square_to p c d k l =
    pos 4 *ℤ (way_to p.x c.x d.x k l *ℤ way_to p.x c.x d.x k l +ℤ way_to p.y c.y d.y k l *ℤ way_to p.y c.y d.y k l)

-- no mix is nearer to p
abbrev pub IsLow : ℤ → Pt → Pt → Pt → Type 0
IsLow value p c d = (k l : ℤ) → AreWeights k l → (value *ℤ ((k +ℤ l) *ℤ (k +ℤ l))) ≤ℤ square_to p c d k l

-- some mix is nearer to p than the next value says
pub record HasMixBelow (value : ℤ) (p c d : Pt) : Type 0 where
  pub k : ℤ
  pub l : ℤ
  pub weights : AreWeights k l
  pub below : square_to p c d k l <ℤ ((value +ℤ pos 1) *ℤ ((k +ℤ l) *ℤ (k +ℤ l)))

-- four times the square of the distance of a point and a segment, rounded down
pub record IsEndSquare (p c d : Pt) (value : ℕ) : Type 0 where
  pub low : IsLow (pos value) p c d
  pub high : HasMixBelow (pos value) p c d

-- of one of the four ends
abbrev pub IsSomeMixBelow : ℤ → Pt → Pt → Pt → Pt → Type 0
IsSomeMixBelow value a b c d =
    HasMixBelow value a c d ⊎ (HasMixBelow value b c d ⊎ (HasMixBelow value c a b ⊎ HasMixBelow value d a b))

-- the least of the values of the four ends
pub record IsLeast (a b c d : Pt) (value : ℕ) : Type 0 where
  pub of_a : IsLow (pos value) a c d
  pub of_b : IsLow (pos value) b c d
  pub of_c : IsLow (pos value) c a b
  pub of_d : IsLow (pos value) d a b
  pub high : IsSomeMixBelow (pos value) a b c d

-- half the root of a value, rounded half up
pub record IsHalfRoot (value half : ℕ) : Type 0 where
  pub low : 0 < half → (2 * half - 1) * (2 * half - 1) ≤ value
  pub high : value < (2 * half + 1) * (2 * half + 1)
