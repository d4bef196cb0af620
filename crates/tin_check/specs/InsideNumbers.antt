-- A side or a corner that a triangle has in common with another, by the numbers of its corners.
use Rattle.std.specs.Prelude.{◌≡◌, ◌⊎◌, ℕ, Bool, true, false, List, [], ◌∷◌, slice_index_or}

-- the corners at two places are marked, and the one at the third place is not; the first two are i and j
abbrev pub AreMarkedAt : List Bool → List ℕ → ℕ → ℕ → ℕ → ℕ → ℕ → Type 0
AreMarkedAt marks ns i j a b c = (slice_index_or marks a false ≡ true) × (slice_index_or marks b false ≡ true)
    × (slice_index_or marks c false ≡ false) × (i ≡ slice_index_or ns a 0) × (j ≡ slice_index_or ns b 0)

-- the side from i to j, in the direction of the triangle, has both marked corners and no third one is
abbrev pub IsMarkedSide : List Bool → List ℕ → ℕ → ℕ → Type 0
IsMarkedSide marks ns i j = AreMarkedAt marks ns i j 0 1 2
    ⊎ (AreMarkedAt marks ns i j 1 2 0 ⊎ AreMarkedAt marks ns i j 2 0 1)

-- the three numbers, counted from one of them on
abbrev pub AreCounted : List ℕ → ℕ → ℕ → ℕ → Type 0
AreCounted ns i j k = (ns ≡ i ∷ j ∷ k ∷ []) ⊎ ((ns ≡ k ∷ i ∷ j ∷ []) ⊎ (ns ≡ j ∷ k ∷ i ∷ []))

-- the numbers at three places
abbrev pub AreAt : List ℕ → ℕ → ℕ → ℕ → ℕ → ℕ → ℕ → Type 0
AreAt ns i j k a b c = (i ≡ slice_index_or ns a 0) × (j ≡ slice_index_or ns b 0) × (k ≡ slice_index_or ns c 0)

-- the corner at the first of three places is marked, and the other two are not
abbrev pub IsMarkedAt : List Bool → ℕ → ℕ → ℕ → Type 0
IsMarkedAt marks a b c = (slice_index_or marks a false ≡ true) × (slice_index_or marks b false ≡ false)
    × (slice_index_or marks c false ≡ false)

-- no corner is marked
abbrev pub AreUnmarked : List Bool → Type 0
AreUnmarked marks = (slice_index_or marks 0 false ≡ false) × (slice_index_or marks 1 false ≡ false)
    × (slice_index_or marks 2 false ≡ false)

-- the corners i, j and k, in the direction of the triangle: the first is marked, and no other
abbrev pub IsMarkedCorner : List Bool → List ℕ → ℕ → ℕ → ℕ → Type 0
IsMarkedCorner marks ns i j k = (IsMarkedAt marks 0 1 2 × AreAt ns i j k 0 1 2)
    ⊎ ((IsMarkedAt marks 1 2 0 × AreAt ns i j k 1 2 0) ⊎ (IsMarkedAt marks 2 0 1 × AreAt ns i j k 2 0 1))

-- the corners i, j and k, in the direction of the triangle, from the number n on
abbrev pub AreFrom : List ℕ → ℕ → ℕ → ℕ → ℕ → Type 0
AreFrom ns n i j k = (n ≡ i) × (AreAt ns i j k 0 1 2 ⊎ (AreAt ns i j k 1 2 0 ⊎ AreAt ns i j k 2 0 1))
