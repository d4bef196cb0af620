-- A text has features, and one list of them; and what the parts of features are.
use Rattle.std.specs.Prelude.{◌≡◌, ℕ, ◌-◌, true, List, take, drop, Option, None, Some}
use Rattle.std.specs.List.{AllByRecursion}
use Rattle.jtext.specs.Texts.{Whole, IsWhole}
use Rattle.jtext.specs.Values.{Json, IsValue, spelling}
use Rattle.jtext.specs.declared.json_texts.TheConstants.{DEEPEST}
use Rattle.layer_features.specs.declared.features.TextPart.{TextPart}
use Rattle.layer_features.specs.declared.features.Label.{Label}
use Rattle.layer_features.specs.declared.features.Label.TheVariants.{Number, Handle}
use Rattle.layer_features.specs.declared.features.Feature.{Feature}
use Rattle.layer_features.specs.JsonFeatures.{AreJsonFeatures}
use Rattle.layer_features.specs.DrawingFeatures.{is_hexadecimal, AreDrawingFeatures}

abbrev pub FeaturesAreOne : Type 0
FeaturesAreOne = (name : Option (List ℕ)) (bytes : List ℕ) (features others : List Feature)
    → AreJsonFeatures name bytes features → AreJsonFeatures name bytes others → features ≡ others

abbrev pub FeaturesExist : Type 0
FeaturesExist = (name : Option (List ℕ)) (bytes : List ℕ) (whole : Whole) → IsWhole DEEPEST whole bytes
    → (features : List Feature) × AreJsonFeatures name bytes features

abbrev pub DrawingFeaturesAreOne : Type 0
DrawingFeaturesAreOne = (bytes : List ℕ) (features others : List Feature) → AreDrawingFeatures bytes features
    → AreDrawingFeatures bytes others → features ≡ others

-- ---- parts
-- the bytes of a part
abbrev pub part_text : List ℕ → TextPart → List ℕ
part_text bytes part = take (part.past - part.start) (drop part.start bytes)

-- the text is that of a JSON value (RFC 8259, section 3) that does not nest too deep
abbrev pub IsValueText : List ℕ → Type 0
IsValueText text = (value : Json) × IsValue DEEPEST value × (spelling value ≡ text)

-- so is the part, if there is one
abbrev pub IsValuePart : List ℕ → Option TextPart → Type 0
IsValuePart bytes None = Unit {0}
IsValuePart bytes (Some part) = IsValueText (part_text bytes part)

-- a label that is a text is one of hexadecimal digits
abbrev pub IsHexadecimalLabel : List ℕ → Label → Type 0
IsHexadecimalLabel bytes (Number number) = Unit {0}
IsHexadecimalLabel bytes (Handle part) = is_hexadecimal (part_text bytes part) ≡ true

-- the id and the name of a feature are values, and a handle is hexadecimal
pub record HasValueParts (bytes : List ℕ) (feature : Feature) : Type 0 where
  pub label : IsHexadecimalLabel bytes feature.label
  pub id : IsValuePart bytes feature.id
  pub name : IsValuePart bytes feature.name

abbrev pub CopiesAreValues : Type 0
CopiesAreValues = (name : Option (List ℕ)) (bytes : List ℕ) (features : List Feature)
    → AreJsonFeatures name bytes features → AllByRecursion (HasValueParts bytes) features

abbrev pub HandlesAreHexadecimal : Type 0
HandlesAreHexadecimal = (bytes : List ℕ) (features : List Feature) → AreDrawingFeatures bytes features
    → AllByRecursion (HasValueParts bytes) features
