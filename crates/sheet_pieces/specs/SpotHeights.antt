-- The height of a point of a segment, by those of the segment's ends.
use Rattle.std.specs.Prelude.{ℕ, zero, suc, pos, if◌then◌else◌, Some, None, List, [], ◌∷◌}
use Rattle.frac128.specs.declared.frac.Frac.{Frac}
use Rattle.plane_base.specs.declared.shapes.Pt.{Pt}
use Rattle.sheet_base.specs.PointHeights.{Height}
use Rattle.sheet_base.specs.ReadBack.{Ends}
use Rattle.sheet_base.specs.Rings.{is_same}
use Rattle.tin_base.specs.Segments.{Spot, Part}
use Rattle.tin_base.specs.Slices.{spot_of}
use Rattle.affine_image.specs.Heights.{height_of}

-- the height of the mix of two ends with these weights, rounded half up: where both ends have one
abbrev pub mixed_height : ℕ → ℕ → Height → Height → Height
mixed_height u v None b = None
mixed_height u v (Some a) None = None
mixed_height u v (Some a) (Some b) = Some (height_of (pos u) (pos v) a b)

-- that of the point at a parameter from 0 to 1, by the weights of its spot
abbrev pub param_height : Height → Height → Frac → Height
param_height from to s = mixed_height (spot_of s).of_a (spot_of s).of_b from to

-- by the weights of the two ends: where one has no weight it is that of the other, else that of the mix
abbrev pub weighed_height : ℕ → ℕ → Height → Height → Height
weighed_height u zero p q = p
weighed_height zero (suc v) p q = q
weighed_height (suc u) (suc v) p q = mixed_height (suc u) (suc v) p q

-- the height of a spot's point on the segment from a to b, whose ends have these heights; a segment from a point to
-- itself has that of its first end
abbrev pub spot_height : Pt → Pt → Ends Height → Spot → Height
spot_height a b ends spot =
    if is_same a b then ends.from else weighed_height spot.of_a spot.of_b ends.from ends.to

-- the heights of the last points of all parts but the last
abbrev pub crossing_heights : Pt → Pt → Ends Height → List Part → List Height
crossing_heights a b ends [] = []
crossing_heights a b ends (part ∷ []) = []
crossing_heights a b ends (part ∷ next ∷ parts) =
    spot_height a b ends part.last ∷ crossing_heights a b ends (next ∷ parts)
