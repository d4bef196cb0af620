-- The height of a point of a segment, between those of its ends.
use Rattle.std.specs.Prelude.{◌≡◌, ℤ, pos, ◌+ℤ◌, ◌*ℤ◌, ◌≤ℤ◌, ◌<ℤ◌}
use Rattle.frac128.specs.Rounding.{half_up_of}
use Rattle.plane_base.specs.TwoWeights.{AreWeights}

-- the height of the mix of two ends with weights u and v, where the ends have the heights a and b: (u a + v b) / (u +
-- v), rounded half up
abbrev pub height_of : ℤ → ℤ → ℤ → ℤ → ℤ
height_of u v a b = half_up_of (u *ℤ a +ℤ v *ℤ b) (u +ℤ v)

-- ---- laws
-- all weight at one end gives its height
abbrev pub EndsKeepHeights : Type 0
EndsKeepHeights = (w a b : ℤ) → pos 0 <ℤ w → (height_of w (pos 0) a b ≡ a) × (height_of (pos 0) w a b ≡ b)

-- what is at most both heights is at most the mix's, and what is at least both is at least the mix's
abbrev pub HeightsAreBetween : Type 0
HeightsAreBetween =
    (u v a b least most : ℤ) → AreWeights u v → least ≤ℤ a → least ≤ℤ b → a ≤ℤ most → b ≤ℤ most
    → (least ≤ℤ height_of u v a b) × (height_of u v a b ≤ℤ most)

-- weights of one ratio, which make one point, give one height
abbrev pub HeightsAgree : Type 0
HeightsAgree = (u v s t a b : ℤ) → AreWeights u v → AreWeights s t → u *ℤ t ≡ s *ℤ v
    → height_of u v a b ≡ height_of s t a b
