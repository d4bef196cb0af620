-- The parameters of the points that a segment and a triangle have in common.
use Rattle.std.specs.Prelude.{◌≡◌, ℕ, zero, suc, ℤ, pos, ◌-ℤ◌, ◌*ℤ◌, ◌≤ℤ◌, ◌<ℤ◌, [], ◌∷◌, Option, MatchOption}
use Rattle.frac128.specs.Fractions.{IsFrom, IsUpTo}
use Rattle.frac128.specs.declared.frac.Frac.{Frac}
use Rattle.plane_base.specs.Plane.{whole, corners_of, along, IsMix}
use Rattle.plane_base.specs.declared.shapes.Pt.{Pt}
use Rattle.plane_base.specs.declared.shapes.Tri.{Tri}
use Rattle.plane_base.specs.declared.stretches.End.{End}
use Rattle.plane_base.specs.declared.stretches.End.TheVariants.{Vertex, Side}
use Rattle.plane_base.specs.declared.stretches.Stretch.{Stretch}

-- n/d is from lo to hi
abbrev pub IsWithin : Frac → Frac → ℤ → ℤ → Type 0
IsWithin lo hi n d = IsFrom lo n d × IsUpTo hi n d

-- n/d is in the stretch
abbrev pub IsBetween : Stretch → ℤ → ℤ → Type 0
IsBetween s n d = IsWithin s.lo s.hi n d

-- n/d is between 0 and 1
abbrev pub IsParam : ℤ → ℤ → Type 0
IsParam n d = (pos 0 <ℤ d) × (pos 0 ≤ℤ n) × (n ≤ℤ d)

-- the point at n/d from a to b is in the triangle
abbrev pub IsIn : Pt → Pt → Tri → ℤ → ℤ → Type 0
IsIn a b t n d = IsParam n d × IsMix (along (whole a) (whole b) n d) (corners_of t)

-- the least and the greatest parameter of a point in the triangle
abbrev pub IsCommon : Pt → Pt → Tri → Stretch → Type 0
IsCommon a b t s = IsIn a b t s.lo.num s.lo.den × IsIn a b t s.hi.num s.hi.den
    × ((n d : ℤ) → IsIn a b t n d → IsBetween s n d)

-- none where no parameter gives a point of the triangle, else those two
abbrev pub slice_of : Pt → Pt → Tri → Option Stretch → Type 0
slice_of a b t r = MatchOption r ((n d : ℤ) → IsIn a b t n d → ⊥) (λ s. IsCommon a b t s)

-- ---- where the two ends lie
-- the segment from a to b has the direction of the side from p to q, or the opposite one
abbrev pub IsParallel : Pt → Pt → Pt → Pt → Type 0
IsParallel a b p q = (b.x -ℤ a.x) *ℤ (q.y -ℤ p.y) ≡ (b.y -ℤ a.y) *ℤ (q.x -ℤ p.x)

-- the side from p to q holds the point at f, and is not parallel to the segment
pub record IsCrossed (a b p q : Pt) (f : Frac) : Type 0 where
  pub holds : IsMix (along (whole a) (whole b) f.num f.den) (whole p ∷ whole q ∷ [])
  pub across : ¬ IsParallel a b p q

-- k is the number, from 0, of the first of three facts that holds
abbrev pub IsLeast : Type 0 → Type 0 → Type 0 → ℕ → Type 0
IsLeast A B C zero = A
IsLeast A B C (suc zero) = (¬ A) × B
IsLeast A B C (suc (suc zero)) = (¬ A) × (¬ B) × C
IsLeast A B C (suc (suc (suc k))) = ⊥

-- `Vertex` exactly where V holds, else `Side` with the number of the first of A, B and C that holds
abbrev pub IsEnd : Type 0 → Type 0 → Type 0 → Type 0 → End → Type 0
IsEnd V A B C Vertex = V
IsEnd V A B C (Side k) = (¬ V) × IsLeast A B C k

-- where the point at f lies, in a triangle
abbrev pub LiesAt : Pt → Pt → Tri → Frac → Type 0 → End → Type 0
LiesAt a b t f vertex end = IsEnd vertex (IsCrossed a b t.a t.b f) (IsCrossed a b t.b t.c f) (IsCrossed a b t.c t.a f)
    end

-- `enter` says where `lo` lies, `leave` where `hi` lies
pub record AreEnds (a b : Pt) (t : Tri) (s : Stretch) : Type 0 where
  pub enter : LiesAt a b t s.lo (s.lo.num ≡ pos 0) s.enter
  pub leave : LiesAt a b t s.hi (s.hi.num ≡ s.hi.den) s.leave

-- from 0 to 1, and both ends are vertices
pub record IsWholeWay (s : Stretch) : Type 0 where
  pub first : s.lo.num ≡ pos 0
  pub last : s.hi.num ≡ s.hi.den
  pub enter : s.enter ≡ Vertex
  pub leave : s.leave ≡ Vertex
