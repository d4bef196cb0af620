-- The JSON value whose text is that of changes on the map.
use Rattle.std.specs.Prelude.{ℕ, Bool, ◌+◌, ◌==◌, ◌||◌, List, [], ◌∷◌, ◌++◌, codes, decimal, encode_utf8, map, true, false}
use Rattle.std.specs.Prelude.{if◌then◌else◌, Option, None, Some, length, nat_lt}
use Rattle.std.specs.Str.{chars}
use Rattle.jtext.specs.Characters.{Char, unescaped, escaped}
use Rattle.jtext.specs.Values.{Json, Elements, Members, null, numeral, quoted, array, object, no_element, element}
use Rattle.jtext.specs.Values.{no_member, member}
use Rattle.jtext.specs.Texts.{Whole}
use Rattle.mm_decimal.specs.MetresTexts.{mm_text}
use Rattle.plane_base.specs.declared.shapes.Pt.{Pt}
use Rattle.ring_side.specs.declared.kinds.SideChange.{SideChange}
use Rattle.ring_side.specs.declared.kinds.SideChange.TheVariants.{Turn, Point}
use Rattle.report_text.specs.ReportText.{place_text, relation_word, spot_text}
use Rattle.change_places.specs.declared.limits.TheConstants.{MOST_NAMED}
use Rattle.change_places.specs.declared.spots.Style.{Style}
use Rattle.change_places.specs.Words.{LabelWords, by_number, by_handle, PathWords, SideWords, ChangeWords, RingWords, ring_layer}
use Rattle.change_places.specs.PlacesText.{layer_name, was_word, now_word, ring_from, no_path}

-- ---- parts without white space
-- a text of characters in one byte, none of them escaped
abbrev pub plain : List ℕ → List Char
plain text = map (λ byte. unescaped (byte ∷ [])) text

abbrev pub text_value : List ℕ → Json
text_value text = quoted (plain text)

abbrev pub number_value : ℕ → Json
number_value number = numeral (decimal number)

-- a member, and those after it
abbrev pub member_and : List ℕ → Json → Members → Members
member_and key value rest = member [] (plain key) [] [] value [] rest

abbrev pub object_of : Members → Json
object_of members = object [] members

-- an element, and those after it
abbrev pub element_and : Json → Elements → Elements
element_and value rest = element [] value [] rest

abbrev pub array_of : Elements → Json
array_of elements = array [] elements

-- ---- geometries
abbrev pub position_value : Pt → Json
position_value point = array_of (element_and (numeral (mm_text point.x)) (element_and (numeral (mm_text point.y)) no_element))

abbrev pub geometry_of : List ℕ → Json → Json
geometry_of type coordinates = object_of (member_and (codes "type") (text_value type)
    (member_and (codes "coordinates") coordinates no_member))

abbrev pub point_value : Pt → Json
point_value point = geometry_of (codes "Point") (position_value point)

abbrev pub line_value : Pt → Pt → Json
line_value a b = array_of (element_and (position_value a) (element_and (position_value b) no_element))

abbrev pub lines_value : Pt → Pt → Pt → Pt → Json
lines_value a b c d = geometry_of (codes "MultiLineString") (array_of (element_and (line_value a b)
    (element_and (line_value c d) no_element)))

-- the two written segments where lines are wanted, and else the place of the change
abbrev pub geometry_value : {C : Type 0} → Style → ChangeWords C → Json
geometry_value style change =
    if style.lines then lines_value change.first.a change.first.b change.second.a change.second.b
    else point_value change.place

-- a line of two equal positions where lines are wanted, and else the point
abbrev pub dot_value : Pt → Json
dot_value a = geometry_of (codes "MultiLineString") (array_of (element_and (line_value a a) no_element))

abbrev pub spot_value : Style → Pt → Json
spot_value style place = if style.lines then dot_value place else point_value place

-- ---- properties
-- a character of a name, escaped by a reverse solidus where it is a quotation mark (34) or a reverse solidus (92)
abbrev pub name_char : ℕ → Char
name_char char = if char == 34 || char == 92 then escaped char else unescaped (encode_utf8 char)

-- the characters of a name in UTF-8
abbrev pub name_chars : List ℕ → List Char
name_chars name = map name_char (chars name)

-- a layer's name in a feature, or null where it is longer than names in features are
abbrev pub shown_value : List ℕ → Json
shown_value name = if nat_lt MOST_NAMED (length name) then null else quoted (name_chars name)

abbrev pub at_value : Option ℕ → Json
at_value None = null
at_value (Some at) = number_value at

-- what a feature is called: a number, or a handle as a text
abbrev pub label_value : Option LabelWords → Json
label_value None = null
label_value (Some (by_number one)) = number_value one
label_value (Some (by_handle text)) = text_value text

-- the value that is copied, or null
abbrev pub copied_value : Option Json → Json
copied_value None = null
copied_value (Some value) = value

-- the member of the properties of the feature, where one is asked for, and the properties after it
unfoldable pub named_members : Bool → List ℕ → Option Json → Members → Members
named_members false word name rest = rest
named_members true word name rest = member_and (word ++ codes "_name") (copied_value name) rest

-- where a path is written and its feature, and the properties after that
unfoldable pub path_members : Style → List ℕ → PathWords Json → Members → Members
path_members style word path rest =
    member_and (word ++ codes "_at") (at_value path.at) (member_and (word ++ codes "_feature") (label_value path.feature)
    (member_and (word ++ codes "_id") (copied_value path.id) (named_members style.named word path.name rest)))

-- the properties of one side, and those after them
unfoldable pub side_members : Style → List ℕ → List (List ℕ) → SideWords Json → Members → Members
side_members style word names side rest =
    member_and (word ++ codes "_layer") (shown_value (layer_name names side.from.layer))
    (member_and word (text_value (place_text side.from)) (path_members style word side.path rest))

unfoldable pub change_members : ℕ → ChangeWords Json → Members → Members
change_members count change rest =
    member_and (codes "change") (number_value count) (member_and (codes "was") (text_value (relation_word change.was)) (
    member_and (codes "now") (text_value (relation_word change.now))
    (member_and (codes "gap_mm") (number_value change.gap) rest)))

unfoldable pub properties_value : Style → List (List ℕ) → ℕ → ChangeWords Json → Json
properties_value style names count change =
    object_of (change_members count change (side_members style (codes "first") names change.first
    (side_members style (codes "second") names change.second no_member)))

-- ---- properties of changes of sides
-- the number of the change, what was, and what is
unfoldable pub turned_members : ℕ → SideChange → Members → Members
turned_members count change rest =
    member_and (codes "side") (number_value count) (member_and (codes "was") (text_value (was_word change))
    (member_and (codes "now") (text_value (now_word change)) rest))

-- those of a ring or of a point
unfoldable pub place_members : Style → List ℕ → List ℕ → List ℕ → PathWords Json → Members → Members
place_members style word name from path rest =
    member_and (word ++ codes "_layer") (shown_value name)
    (member_and word (text_value from) (path_members style word path rest))

unfoldable pub null_members : Style → List ℕ → Members → Members
null_members style word rest =
    member_and (word ++ codes "_layer") null (member_and word null (path_members style word no_path rest))

-- those of the point, and all null where the direction changed
abbrev pub point_members : Style → List (List ℕ) → SideChange → PathWords Json → Members → Members
point_members style names (Turn layer path was now) own rest = null_members style (codes "point") rest
point_members style names (Point layer path at was now) own rest =
    place_members style (codes "point") (layer_name names at.layer) (spot_text at) own rest

unfoldable pub ring_properties : Style → List (List ℕ) → ℕ → RingWords Json → Json
ring_properties style names count ring =
    object_of (turned_members count ring.change
    (place_members style (codes "ring") (layer_name names (ring_layer ring.change)) (ring_from ring.change) ring.ring
    (point_members style names ring.change ring.point no_member)))

-- ---- features
-- the feature of this geometry and these properties
unfoldable pub feature_of : Json → Json → Json
feature_of geometry properties = object_of (member_and (codes "type") (text_value (codes "Feature")) (
    member_and (codes "geometry") geometry (member_and (codes "properties") properties no_member)))

abbrev pub feature_value : Style → List (List ℕ) → ℕ → ChangeWords Json → Json
feature_value style names count change =
    feature_of (geometry_value style change) (properties_value style names count change)

abbrev pub ring_value : Style → List (List ℕ) → ℕ → RingWords Json → Json
ring_value style names count ring = feature_of (spot_value style ring.place) (ring_properties style names count ring)

-- the features of changes of sides, numbered from this number on, each after a line feed
abbrev pub ring_elements : Style → List (List ℕ) → ℕ → List (RingWords Json) → Elements
ring_elements style names count [] = no_element
ring_elements style names count (ring ∷ rings) =
    element (10 ∷ []) (ring_value style names count ring) [] (ring_elements style names (count + 1) rings)

-- the features of changes, numbered from this number on, each after a line feed, and then those of changes of sides
abbrev pub feature_elements : Style → List (List ℕ) → ℕ → List (ChangeWords Json) → List (RingWords Json) → Elements
feature_elements style names count [] rings = ring_elements style names 0 rings
feature_elements style names count (change ∷ changes) rings =
    element (10 ∷ []) (feature_value style names count change) []
    (feature_elements style names (count + 1) changes rings)

-- the names of layers
abbrev pub name_elements : List (List ℕ) → Elements
name_elements [] = no_element
name_elements (name ∷ names) = element_and (quoted (name_chars name)) (name_elements names)

-- the names of layers, and all changes over them and all changes of sides, each numbered from 0
abbrev pub places_value : Style → List (List ℕ) → List (ChangeWords Json) → List (RingWords Json) → Json
places_value style names changes rings = object_of (member_and (codes "type") (text_value (codes "FeatureCollection")) (
    member_and (codes "crs") null (member_and (codes "layers") (array_of (name_elements names)) (
    member_and (codes "features") (array_of (feature_elements style names 0 changes rings)) no_member))))

-- that value, with a line feed after it
abbrev pub places_whole : Style → List (List ℕ) → List (ChangeWords Json) → List (RingWords Json) → Whole
places_whole style names changes rings = record {
  marked = false;
  before = [];
  value = places_value style names changes rings;
  after = 10 ∷ [];
}
