-- The features of a layer of GeoJSON (RFC 7946, sections 3.2 and 3.3).
use Rattle.std.specs.Prelude.{ℕ, ◌+◌, ◌≡◌, nat_lt, Bool, false, if◌then◌else◌, List, [], ◌∷◌, length, codes, Option}
use Rattle.std.specs.Prelude.{None, Some}
use Rattle.std.specs.Borrow.{Bor}
use Rattle.std.specs.List.{list_all}
use Rattle.jtext.specs.Characters.{units_of}
use Rattle.jtext.specs.Values.{Json, Elements, quoted, array, object, no_element, element, spelling}
use Rattle.jtext.specs.Nodes.{node_count, inner_place, element_start, next_place}
use Rattle.jtext.specs.Places.{Entry, entries_at, whole_start}
use Rattle.jtext.specs.Texts.{Whole, IsWhole}
use Rattle.jtext.specs.Lookups.{are_same, entries_of_key}
use Rattle.jtext.specs.declared.json_texts.TheConstants.{DEEPEST}
use Rattle.layer_features.specs.declared.features.Feature.{Feature}
use Rattle.layer_features.specs.declared.features.TextPart.{TextPart}
use Rattle.layer_features.specs.declared.features.Label.TheVariants.{Number}

-- ---- members
-- the one, unless there is a second one
abbrev pub only : List Entry → Option Entry
only [] = None
only (one ∷ []) = Some one
only (one ∷ second ∷ more) = None

-- The one member of this name of a value whose text begins at this place and whose first node has this number. There
-- is none where the value is no object, or none of its members or more than one has the name.
abbrev pub member_of : List ℕ → ℕ → ℕ → Json → Option Entry
member_of name number start (object blank members) =
    only (entries_of_key name (entries_at (number + 1) (inner_place start blank) members))
member_of name number start value = None

-- the value is a text that says this
abbrev pub is_saying : List ℕ → Json → Bool
is_saying text (quoted chars) = are_same (units_of chars) text
is_saying text value = false

abbrev pub says : List ℕ → Option Entry → Bool
says text None = false
says text (Some one) = is_saying text one.value

-- where the text of a member's value is
abbrev pub part_of : Option Entry → Option TextPart
part_of None = None
part_of (Some one) = Some (record { start = one.start; past = one.start + length (spelling one.value) })

-- the one member of this name of a member's value
abbrev pub member_inside : List ℕ → Option Entry → Option Entry
member_inside name None = None
member_inside name (Some one) = member_of name one.number one.start one.value

-- ---- features
-- the value of the member of this name of the member `properties`; a name with a character that is not one of ASCII has
-- none
abbrev pub property_of : List ℕ → ℕ → ℕ → Json → Option TextPart
property_of name number start value =
    if list_all (λ byte. nat_lt byte 128) name
    then part_of (member_inside name (member_of (codes "properties") number start value))
    else None

-- the name that is asked for, if one is
abbrev pub asked_for : Option (Bor (List ℕ)) → Option (List ℕ)
asked_for None = None
asked_for (Some name) = Some name.now

-- the value of the member of that name
abbrev pub name_of : Option (List ℕ) → ℕ → ℕ → Json → Option TextPart
name_of None number start value = None
name_of (Some name) number start value = property_of name number start value

-- The feature of a value whose text begins at this place and whose first node has this number, and which has this number
-- among the features. Its id is the value of its member `id`.
abbrev pub feature_of : Option (List ℕ) → ℕ → ℕ → ℕ → Json → Feature
feature_of name count number start value = record {
  start = start;
  past = start + length (spelling value);
  label = Number count;
  id = part_of (member_of (codes "id") number start value);
  name = name_of name number start value;
}

-- those of elements, numbered from this number on
abbrev pub features_from : Option (List ℕ) → ℕ → ℕ → ℕ → Elements → List Feature
features_from name count number place no_element = []
features_from name count number place (element before value after rest) =
    feature_of name count number (element_start place before) value
    ∷ features_from name (count + 1) (number + node_count value) (next_place (element_start place before) value after)
    rest

-- those of an array, numbered from 0
abbrev pub array_features : Option (List ℕ) → ℕ → ℕ → Json → List Feature
array_features name number start (array blank elements) =
    features_from name 0 (number + 1) (inner_place start blank) elements
array_features name number start value = []

abbrev pub features_in : Option (List ℕ) → Option Entry → List Feature
features_in name None = []
features_in name (Some one) = array_features name one.number one.start one.value

-- The features of a value whose text begins at this place: the elements of the member `features` of a
-- FeatureCollection, a Feature itself, and none of a geometry.
abbrev pub value_features : Option (List ℕ) → ℕ → Json → List Feature
value_features name start value =
    if says (codes "FeatureCollection") (member_of (codes "type") 0 start value)
    then features_in name (member_of (codes "features") 0 start value)
    else if says (codes "Feature") (member_of (codes "type") 0 start value) then feature_of name 0 0 start value ∷ []
    else []

-- the bytes are a JSON text, and these are its features, with the member of this name of each, if a name is asked for
pub record AreJsonFeatures (name : Option (List ℕ)) (bytes : List ℕ) (features : List Feature) : Type 0 where
  pub whole : Whole
  pub is : IsWhole DEEPEST whole bytes
  pub are : features ≡ value_features name (whole_start whole) whole.value
