-- The feature that has a place, among features that are in order.
use Rattle.std.proofs.Common.{◌≡◌, ℕ, zero, suc, ◌<◌, ◌≤◌, List, [], ◌∷◌, length, get_or, refl, ◌∙◌, arith}
use Rattle.std.proofs.Common.{Bool, true, false, ◌&&◌}
use Rattle.std.specs.Prelude.{Some, nat_le, nat_lt}
use Rattle.std.proofs.lemmas.Bool.{and_parts, leb-true, le-ltb}
use Rattle.layer_features.specs.declared.features.Feature.{Feature}
use Rattle.layer_features.specs.Features.{has_place, feature_at, AreInOrder}

-- a feature that ends before the place does not have it
past_place : (at : ℕ) (feature : Feature) → feature.past ≤ at → has_place at feature ≡ false
past_place at feature past = rw (le-ltb at feature.past past) (and_false (nat_le feature.start at))
  where
    and_false : (one : Bool) → one && false ≡ false
    and_false true = refl
    and_false false = refl

-- features in order from a place on begin there or after it
begins : (features : List Feature) (from i : ℕ) (e : Feature) → AreInOrder from features → i < length features
    → from ≤ (get_or features i e).start
begins [] from i e are within = absurd (omega (arith, within))
begins (feature ∷ features) from zero e are within = are.0
begins (feature ∷ features) from (suc i) e (start, order, are) within =
    let later = begins features feature.past i e are (omega (arith, within)) in omega (arith, start, order, later)

begun : (at : ℕ) (feature : Feature) → has_place at feature ≡ true → feature.start ≤ at
begun at feature has = let parts = and_parts (nat_le feature.start at) (nat_lt at feature.past) has in
    leb-true feature.start at parts.0

found_first : (at : ℕ) (feature : Feature) (features : List Feature) → has_place at feature ≡ true
    → feature_at (feature ∷ features) at ≡ Some feature
found_first at feature features has = rw has refl

found_later : (at : ℕ) (feature : Feature) (features : List Feature) → has_place at feature ≡ false
    → feature_at (feature ∷ features) at ≡ feature_at features at
found_later at feature features has = rw has refl

-- the feature at this number is the first that has the place
pub feature_there : (features : List Feature) (from i at : ℕ) (e : Feature) → AreInOrder from features
    → i < length features → has_place at (get_or features i e) ≡ true
    → feature_at features at ≡ Some (get_or features i e)
feature_there [] from i at e are within has = absurd (omega (arith, within))
feature_there (feature ∷ features) from zero at e are within has = found_first at feature features has
feature_there (feature ∷ features) from (suc i) at e (start, order, are) within has =
    let inside : i < length features = omega (arith, within) in
    let later = begins features feature.past i e are inside in
    let here = begun at (get_or features i e) has in
    found_later at feature features (past_place at feature (omega (arith, later, here)))
    ∙ feature_there features feature.past i at e are inside has
