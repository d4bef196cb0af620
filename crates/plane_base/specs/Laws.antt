-- The laws of mixes, triangles and segments, over points with denominators.
use Rattle.std.specs.Prelude.{◌≡◌, ◌↔◌, ◌⊎◌, ℕ, ℤ, pos, ◌*ℤ◌, ◌<ℤ◌, ◌≤ℤ◌, List, [], ◌∷◌}
use Rattle.plane_base.specs.Plane.{Point, Same, turn_of, weighted_sum, IsMix, along}
use Rattle.plane_base.specs.Slices.{IsParam}

-- ---- points that stand for places
abbrev pub IsPlace : Point → Type 0
IsPlace p = pos 0 <ℤ p.w

abbrev pub ArePlaces : List Point → Type 0
ArePlaces [] = Unit {0}
ArePlaces (p ∷ ps) = IsPlace p × ArePlaces ps

-- ---- mixes
-- each of some points is a mix of others
abbrev pub AreMixes : List Point → List Point → Type 0
AreMixes [] rs = Unit {0}
AreMixes (p ∷ ps) rs = IsMix p rs × AreMixes ps rs

-- a mix of mixes is a mix
abbrev pub MixesMix : Type 0
MixesMix = (q : Point) (ps rs : List Point) → ArePlaces ps → ArePlaces rs → AreMixes ps rs → IsMix q ps → IsMix q rs

-- with two points a triangle has each point between them
abbrev pub TrianglesAreConvex : Type 0
TrianglesAreConvex = (a b c p q r : Point) → ArePlaces (a ∷ b ∷ c ∷ p ∷ q ∷ []) → IsMix p (a ∷ b ∷ c ∷ [])
    → IsMix q (a ∷ b ∷ c ∷ []) → IsMix r (p ∷ q ∷ []) → IsMix r (a ∷ b ∷ c ∷ [])

-- ---- triangles of positive turn
-- the mix of three corners with weights k, l and m
abbrev pub mix_of : ℕ → ℕ → ℕ → Point → Point → Point → Point
mix_of k l m a b c = weighted_sum (k ∷ l ∷ m ∷ []) (a ∷ b ∷ c ∷ [])

-- a point is in the triangle exactly where it is to the right of no side
abbrev pub TrianglesAreLeftOfSides : Type 0
TrianglesAreLeftOfSides =
    (a b c p : Point) → ArePlaces (a ∷ b ∷ c ∷ p ∷ []) → pos 0 <ℤ turn_of a b c
    → IsMix p (a ∷ b ∷ c ∷ []) ↔ ((pos 0 ≤ℤ turn_of a b p) × (pos 0 ≤ℤ turn_of b c p) × (pos 0 ≤ℤ turn_of c a p))

-- the turn of a side with a mix is the weight of the corner opposite, times the triangle's turn, up to the factor
-- between the two points
pub record AreTurns (a b c p : Point) (k l m : ℕ) : Type 0 where
  pub of_a : (mix_of k l m a b c).w *ℤ turn_of b c p ≡ p.w *ℤ (pos k *ℤ turn_of a b c)
  pub of_b : (mix_of k l m a b c).w *ℤ turn_of c a p ≡ p.w *ℤ (pos l *ℤ turn_of a b c)
  pub of_c : (mix_of k l m a b c).w *ℤ turn_of a b p ≡ p.w *ℤ (pos m *ℤ turn_of a b c)

abbrev pub WeightsAreTurns : Type 0
WeightsAreTurns = (a b c p : Point) (k l m : ℕ) → Same p (mix_of k l m a b c) → AreTurns a b c p k l m

-- two lists of weights of one place are in one proportion
pub record AreInProportion (a b c : Point) (k l m r s t : ℕ) : Type 0 where
  pub of_a : pos k *ℤ (mix_of r s t a b c).w ≡ pos r *ℤ (mix_of k l m a b c).w
  pub of_b : pos l *ℤ (mix_of r s t a b c).w ≡ pos s *ℤ (mix_of k l m a b c).w
  pub of_c : pos m *ℤ (mix_of r s t a b c).w ≡ pos t *ℤ (mix_of k l m a b c).w

abbrev pub WeightsAreUnique : Type 0
WeightsAreUnique =
    (a b c p : Point) (k l m r s t : ℕ) → ArePlaces (a ∷ b ∷ c ∷ p ∷ []) → pos 0 <ℤ turn_of a b c
    → Same p (mix_of k l m a b c) → Same p (mix_of r s t a b c) → AreInProportion a b c k l m r s t

-- ---- a segment by its parameters
-- r is the point at n/d on the way from p to q
pub record HasParameter (p q r : Point) : Type 0 where
  pub n : ℤ
  pub d : ℤ
  pub param : IsParam n d
  pub same : Same r (along p q n d)

-- the points between two are those at the parameters from 0 to 1
abbrev pub SegmentsHaveParameters : Type 0
SegmentsHaveParameters = (p q r : Point) → IsMix r (p ∷ q ∷ []) ↔ HasParameter p q r

-- ---- a segment and a triangle
-- the parameters n/d of the segment from p to q that give a point of the triangle are those from least to greatest
pub record AreFromTo (a b c p q : Point) : Type 0 where
  pub least : ℤ
  pub least_of : ℤ
  pub greatest : ℤ
  pub greatest_of : ℤ
  pub first : IsParam least least_of
  pub last : IsParam greatest greatest_of
  pub order : (least *ℤ greatest_of) ≤ℤ (greatest *ℤ least_of)
  pub between : (n d : ℤ) → IsParam n d → IsMix (along p q n d) (a ∷ b ∷ c ∷ [])
      ↔ (((least *ℤ d) ≤ℤ (n *ℤ least_of)) × ((n *ℤ greatest_of) ≤ℤ (greatest *ℤ d)))

-- none, or a closed interval
abbrev pub SegmentsMeetInIntervals : Type 0
SegmentsMeetInIntervals =
    (a b c p q : Point) → ArePlaces (a ∷ b ∷ c ∷ p ∷ q ∷ []) → pos 0 <ℤ turn_of a b c
    → ((n d : ℤ) → IsParam n d → IsMix (along p q n d) (a ∷ b ∷ c ∷ []) → ⊥) ⊎ AreFromTo a b c p q
