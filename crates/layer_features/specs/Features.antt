-- Features in order of their places, and which of them has a place.
use Rattle.std.specs.Prelude.{ℕ, ◌≤◌, Bool, ◌&&◌, nat_le, nat_lt, List, [], ◌∷◌, Option, find}
use Rattle.layer_features.specs.declared.features.Feature.{Feature}

-- the place is one of the feature's
abbrev pub has_place : ℕ → Feature → Bool
has_place at feature = nat_le feature.start at && nat_lt at feature.past

-- the feature that has the place; of several the first, of none nothing
abbrev pub feature_at : List Feature → ℕ → Option Feature
feature_at features at = find (has_place at) features

-- each feature begins where the one before it ends, or after that
abbrev pub AreInOrder : ℕ → List Feature → Type 0
AreInOrder from [] = Unit {0}
AreInOrder from (feature ∷ features) =
    (from ≤ feature.start) × (feature.start ≤ feature.past) × AreInOrder feature.past features
