-- The heights of crossings are one, however the segment is cut, and are within reach where those of the ends are.
use Rattle.std.proofs.Common.{◌≡◌, ℕ, zero, suc, ◌+◌, ◌*◌, ◌<◌, ℤ, pos, ◌-ℤ◌}
use Rattle.std.proofs.Common.{List, [], ◌∷◌, Some, ap, refl}
use Rattle.std.proofs.Common.{arith}
use Rattle.std.proofs.lemmas.Int.{ints}
use Rattle.mm_decimal.specs.declared.limits.TheConstants.{LIMIT}
use Rattle.plane_base.specs.declared.shapes.Pt.{Pt}
use Rattle.sheet_base.specs.PointHeights.{Height, IsHeightWithinReach}
use Rattle.sheet_base.specs.ReadBack.{Ends}
use Rattle.tin_base.specs.Segments.{Spot, Part}
use Rattle.plane_base.proofs.MixLaws.TwoWeights.{weights_of}
use Rattle.affine_image.proofs.HeightLemmas.{heights_are_between, heights_agree}
use Rattle.sheet_pieces.specs.SpotHeights.{mixed_height, weighed_height, spot_height, crossing_heights}
use Rattle.sheet_pieces.proofs.OneCut.{AreOne, AreAlike}

-- ---- one height
pub mixed_one : (u v s t : ℕ) (p q : Height) → 0 < u + v → 0 < s + t → v * s ≡ t * u
    → mixed_height u v p q ≡ mixed_height s t p q
mixed_one u v s t (Some a) (Some b) h k e =
    ap (λ (z : ℤ). Some z) (heights_agree (pos u) (pos v) (pos s) (pos t) a b (weights_of u v h) (weights_of s t k)
    (let f : u * t ≡ s * v = omega (arith, e) in ap pos f))
mixed_one u v s t p q h k e = refl

no_product : (m n : ℕ) → m * n ≡ 0 → 0 < n → m ≡ 0
no_product zero n e h = refl
no_product (suc m) zero e h = absurd (omega (arith, h))
no_product (suc m) (suc n) e h = absurd (omega (arith, e))

weighed_one : (u v s t : ℕ) (p q : Height) → 0 < u + v → 0 < s + t → v * s ≡ t * u
    → weighed_height u v p q ≡ weighed_height s t p q
weighed_one u zero s (suc t) p q h k e =
    absurd (omega (arith, no_product u (suc t) (omega (arith, e)) (omega arith), h))
weighed_one u (suc v) s zero p q h k e =
    absurd (omega (arith, no_product s (suc v) (omega (arith, e)) (omega arith), k))
weighed_one zero (suc v) (suc s) (suc t) p q h k e =
    absurd (omega (arith, no_product (suc s) (suc v) (omega (arith, e)) (omega arith)))
weighed_one (suc u) (suc v) zero (suc t) p q h k e =
    absurd (omega (arith, no_product (suc u) (suc t) (omega (arith, e)) (omega arith)))
weighed_one (suc u) (suc v) (suc s) (suc t) p q h k e = mixed_one (suc u) (suc v) (suc s) (suc t) p q h k e
weighed_one u v s t p q h k e = refl

height_one : (a b : Pt) (ends : Ends Height) (s t : Spot) → AreOne s t
    → spot_height a b ends s ≡ spot_height a b ends t
height_one a b ends s t one = grind (arith, weighed_one)

pub crossings_one : (a b : Pt) (ends : Ends Height) (parts others : List Part) → AreAlike parts others
    → crossing_heights a b ends parts ≡ crossing_heights a b ends others
crossings_one a b ends [] (other ∷ others) alike = absurd alike
crossings_one a b ends (part ∷ parts) [] alike = absurd alike
crossings_one a b ends (part ∷ []) (other ∷ next ∷ others) alike = absurd alike.1
crossings_one a b ends (part ∷ next ∷ parts) (other ∷ []) alike = absurd alike.1
crossings_one a b ends (part ∷ next ∷ parts) (other ∷ behind ∷ others) alike =
    grind (arith, height_one, (crossings_one a b ends (next ∷ parts) (behind ∷ others) alike.1))
crossings_one a b ends parts others alike = refl

-- ---- within reach
mixed_reach : (u v : ℕ) (p q : Height) → 0 < u + v → IsHeightWithinReach p → IsHeightWithinReach q
    → IsHeightWithinReach (mixed_height u v p q)
mixed_reach u v (Some a) (Some b) h r s =
    let between = heights_are_between (pos u) (pos v) a b (pos 0 -ℤ pos LIMIT) (pos LIMIT) (weights_of u v h)
    (omega (arith, ints, r)) (omega (arith, ints, s)) (omega (arith, ints, r)) (omega (arith, ints, s)) in
    omega (arith, ints, between.0, between.1)
mixed_reach u v p q h r s = tt

weighed_reach : (u v : ℕ) (p q : Height) → IsHeightWithinReach p → IsHeightWithinReach q
    → IsHeightWithinReach (weighed_height u v p q)
weighed_reach u zero p q r s = r
weighed_reach zero (suc v) p q r s = s
weighed_reach (suc u) (suc v) p q r s = mixed_reach (suc u) (suc v) p q (omega arith) r s

pub spot_reach : (a b : Pt) (ends : Ends Height) (s : Spot) → IsHeightWithinReach ends.from
    → IsHeightWithinReach ends.to → IsHeightWithinReach (spot_height a b ends s)
spot_reach a b ends s from to = grind (arith, weighed_reach)
