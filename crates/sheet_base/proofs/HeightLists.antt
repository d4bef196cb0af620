-- Lists of heights: where no point of a sheet has one, no image has one, and none is read again.
use Rattle.std.proofs.Common.{◌≡◌, ◌⊎◌, inl, inr, ℕ, zero, suc, ◌<◌, ◌≤◌, List, [], ◌∷◌}
use Rattle.std.proofs.Common.{None, arith}
use Rattle.std.proofs.Math.ListN.{get_or-eq_default}
use Rattle.std.proofs.lemmas.List.{get_or-replicate, length-replicate}
use Rattle.std.proofs.Common.{All}
use Rattle.std.proofs.lemmas.List.Elements.{All-replicate}
use Rattle.sheet_base.specs.PointHeights.{Height, height_in, no_heights, IsHeightWithinReach}
use Rattle.sheet_base.specs.ReadBack.{DoMatch}

-- no point has a height
abbrev pub AreNone : List Height → Type 0
AreNone heights = (number : ℕ) → height_in heights number ≡ None

below_or : (m n : ℕ) → (m < n) ⊎ (n ≤ m)
below_or m n = grind arith

pub none_in : (count : ℕ) → AreNone (no_heights count)
none_in count number = go (below_or number count)
  where
    go : (number < count) ⊎ (count ≤ number) → height_in (no_heights count) number ≡ None
    go (inl within) = get_or-replicate count number None None within
    go (inr past) = get_or-eq_default (no_heights count) None
        (let e = length-replicate count (let none : Height = None in none) in omega (arith, e, past))

-- ---- the point after which an image is

-- none is in reach, and there is one for each point
pub none_reach : (count : ℕ) → All IsHeightWithinReach (no_heights count)
none_reach count = All-replicate IsHeightWithinReach count None tt

-- ---- the ends of segments

pub match_self : {X : Type 0} (alike : X → X → Type 0) (xs : List X) → ((x : X) → alike x x) → DoMatch alike xs xs
match_self alike [] same = tt
match_self alike (x ∷ xs) same = (same x, match_self alike xs same)
