-- The square of the distance of an end and a segment, as a fraction. Only private functions speak of it.
use Rattle.std.specs.Prelude.{◌≡◌, ◌⊎◌, ℕ, ◌*◌, ◌<◌, ◌≤◌, ℤ, pos, ◌+ℤ◌, ◌*ℤ◌, ◌≤ℤ◌}
use Rattle.plane_base.specs.TwoWeights.{AreWeights}
use Rattle.plane_base.specs.declared.shapes.Pt.{Pt}
use Rattle.seg_gap.specs.declared.end_squares.EndSquare.{EndSquare}
use Rattle.seg_gap.specs.InsideEnds.{way_to}

-- the square of the distance of p and a mix of c and d by its weights, times the square of their sum
abbrev pub mix_square : Pt → Pt → Pt → ℤ → ℤ → ℤ
mix_square p c d k l = way_to p.x c.x d.x k l *ℤ way_to p.x c.x d.x k l +ℤ way_to p.y c.y d.y k l *ℤ way_to p.y c.y d.y k l

-- num/den is the least square of the distance of p and a mix of c and d
pub record IsLeastSquare (p c d : Pt) (num den : ℕ) : Type 0 where
  pub some : 0 < den
  pub low : (k l : ℤ) → AreWeights k l → (pos num *ℤ ((k +ℤ l) *ℤ (k +ℤ l))) ≤ℤ (mix_square p c d k l *ℤ pos den)
  pub k : ℤ
  pub l : ℤ
  pub weights : AreWeights k l
  pub at : mix_square p c d k l *ℤ pos den ≡ pos num *ℤ ((k +ℤ l) *ℤ (k +ℤ l))

-- an end, and a fraction
pub record Square : Type 0 where
  pub end : Pt
  pub num : ℕ
  pub den : ℕ

abbrev pub square_in : EndSquare → Square
square_in square = record { end = square.end; num = square.num; den = square.den }

-- the fraction of this end is below, or not above, that of the other one
abbrev pub IsBelow : Square → Square → Type 0
IsBelow one other = one.num * other.den < other.num * one.den

abbrev pub IsAtMost : Square → Square → Type 0
IsAtMost one other = one.num * other.den ≤ other.num * one.den

-- the other one where it is below, and else this one
abbrev pub IsNearer : Square → Square → Square → Type 0
IsNearer one other nearer = ((nearer ≡ other) × IsBelow other one) ⊎ ((nearer ≡ one) × IsAtMost one other)

-- the end p, and the square of its distance from the segment from c to d
pub record IsEndOf (p c d : Pt) (square : Square) : Type 0 where
  pub end_is : square.end ≡ p
  pub least : IsLeastSquare p c d square.num square.den
