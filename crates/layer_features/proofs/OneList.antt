-- A text has one list of features.
use Rattle.std.proofs.Common.{◌≡◌, ℕ, List, refl, sym, ap, ◌∙◌}
use Rattle.jtext.specs.Texts.{Whole, IsWhole}
use Rattle.jtext.specs.Places.{whole_start}
use Rattle.jtext.specs.declared.json_texts.TheConstants.{DEEPEST}
use Rattle.layer_features.specs.JsonFeatures.{value_features}
use Rattle.layer_features.specs.Laws.{FeaturesAreOne, FeaturesExist}

pub features_one : ((bytes : List ℕ) → (whole other : Whole) → IsWhole DEEPEST whole bytes → IsWhole DEEPEST other bytes
    → whole.value ≡ other.value)
    → ((bytes : List ℕ) → (whole other : Whole) → IsWhole DEEPEST whole bytes → IsWhole DEEPEST other bytes
    → whole_start whole ≡ whole_start other) → FeaturesAreOne
features_one values places name bytes features others x y =
    x.are ∙ (ap (λ (n : ℕ). value_features name n x.whole.value) (places bytes x.whole y.whole x.is y.is)
    ∙ (ap (value_features name (whole_start y.whole)) (values bytes x.whole y.whole x.is y.is) ∙ sym y.are))

pub features_exist : FeaturesExist
features_exist name bytes whole is =
    (value_features name (whole_start whole) whole.value, record { whole = whole; is = is; are = refl })
