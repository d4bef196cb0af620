-- The text of changes on the map: GeoJSON (RFC 7946) with a feature for each change, a line each.
use Rattle.std.specs.Prelude.{ℕ, ◌+◌, ◌==◌, ◌||◌, Bool, true, false, List, [], ◌∷◌, ◌++◌, codes, decimal, flat_map, get_or}
use Rattle.std.specs.Prelude.{if◌then◌else◌, Option, None, Some, length, nat_lt}
use Rattle.std.specs.List.{concat}
use Rattle.mm_decimal.specs.MetresTexts.{mm_text}
use Rattle.plane_base.specs.declared.shapes.Pt.{Pt}
use Rattle.tin_base.specs.declared.pieces.Place.{Place}
use Rattle.ring_side.specs.declared.kinds.SideChange.{SideChange}
use Rattle.ring_side.specs.declared.kinds.SideChange.TheVariants.{Turn, Point}
use Rattle.report_text.specs.ReportText.{place_text, relation_word, ring_text, spot_text, way_word, side_word}
use Rattle.change_places.specs.declared.limits.TheConstants.{MOST_NAMED}
use Rattle.change_places.specs.declared.spots.Style.{Style}
use Rattle.change_places.specs.Words.{LabelWords, by_number, by_handle, PathWords, SideWords, ChangeWords, RingWords, ring_layer}

-- a position, in metres with three digits (RFC 7946, section 3.1.1)
unfoldable pub position_text : Pt → List ℕ
position_text point = concat (codes "[" ∷ mm_text point.x ∷ codes "," ∷ mm_text point.y ∷ codes "]" ∷ [])

-- a position as a geometry (RFC 7946, section 3.1.2)
unfoldable pub point_text : Pt → List ℕ
point_text a = concat (codes "{\"type\":\"Point\",\"coordinates\":" ∷ position_text a ∷ codes "}" ∷ [])

-- the two positions of a line, which are equal where it is a point (RFC 7946, section 3.1.4)
unfoldable pub line_text : Pt → Pt → List ℕ
line_text a b = concat (codes "[" ∷ position_text a ∷ codes "," ∷ position_text b ∷ codes "]" ∷ [])

-- a byte of a name between quotation marks: a reverse solidus is before a quotation mark (34) and before another
-- reverse solidus (92) (RFC 8259, section 7)
abbrev pub escaped_byte : ℕ → List ℕ
escaped_byte byte = if byte == 34 || byte == 92 then 92 ∷ byte ∷ [] else byte ∷ []

abbrev pub name_text : List ℕ → List ℕ
name_text name = flat_map escaped_byte name

-- a name between quotation marks
abbrev pub quoted_text : List ℕ → List ℕ
quoted_text name = concat (codes "\"" ∷ name_text name ∷ codes "\"" ∷ [])

-- a layer's name in a feature, or null where it is longer than names in features are
abbrev pub shown_text : List ℕ → List ℕ
shown_text name = if nat_lt MOST_NAMED (length name) then codes "null" else quoted_text name

-- the name of the layer of this number
abbrev pub layer_name : List (List ℕ) → ℕ → List ℕ
layer_name names layer = get_or names layer []

-- a place in a layer's text, or null where none is known
abbrev pub at_text : Option ℕ → List ℕ
at_text None = codes "null"
at_text (Some at) = decimal at

-- what a feature is called: a number, or a handle between quotation marks, or null where there is no feature
abbrev pub label_text : Option LabelWords → List ℕ
label_text None = codes "null"
label_text (Some (by_number one)) = decimal one
label_text (Some (by_handle text)) = concat (codes "\"" ∷ text ∷ codes "\"" ∷ [])

-- a text that is copied as it is, or null
abbrev pub copied_text : Option (List ℕ) → List ℕ
copied_text None = codes "null"
copied_text (Some text) = text

-- ---- properties, each after a comma
-- a key of two parts, with its colon
unfoldable pub key_text : List ℕ → List ℕ → List ℕ
key_text word part = concat (codes ",\"" ∷ word ∷ part ∷ codes "\":" ∷ [])

-- a word with its key
unfoldable pub word_text : List ℕ → List ℕ → List ℕ
word_text word value = concat (key_text word [] ∷ codes "\"" ∷ value ∷ codes "\"" ∷ [])

unfoldable pub layer_text : List ℕ → List ℕ → List ℕ
layer_text word name = concat (key_text word (codes "_layer") ∷ shown_text name ∷ [])

unfoldable pub from_text : List ℕ → Place → List ℕ
from_text word from = concat (key_text word [] ∷ codes "\"" ∷ place_text from ∷ codes "\"" ∷ [])

-- the member of the properties of the feature, where one is asked for
unfoldable pub named_text : Bool → List ℕ → Option (List ℕ) → List ℕ
named_text false word name = []
named_text true word name = concat (key_text word (codes "_name") ∷ copied_text name ∷ [])

-- where a path begins, and its feature
unfoldable pub path_text : Style → List ℕ → PathWords (List ℕ) → List ℕ
path_text style word path = concat (
    key_text word (codes "_at") ∷ at_text path.at ∷ key_text word (codes "_feature") ∷ label_text path.feature
    ∷ key_text word (codes "_id") ∷ copied_text path.id ∷ named_text style.named word path.name ∷ [])

-- the properties of one side of a change; their names begin with this word
unfoldable pub side_text : Style → List ℕ → List (List ℕ) → SideWords (List ℕ) → List ℕ
side_text style word names side = concat (
    layer_text word (layer_name names side.from.layer) ∷ from_text word side.from ∷ path_text style word side.path ∷ [])

-- the two written segments (RFC 7946, section 3.1.5)
unfoldable pub lines_text : Pt → Pt → Pt → Pt → List ℕ
lines_text a b c d = concat (
    codes "{\"type\":\"MultiLineString\",\"coordinates\":[" ∷ line_text a b ∷ codes "," ∷ line_text c d ∷ codes "]}" ∷ [])

-- the two written segments where lines are wanted, and else the place of the change
abbrev pub geometry_text : Style → ChangeWords (List ℕ) → List ℕ
geometry_text style change =
    if style.lines then lines_text change.first.a change.first.b change.second.a change.second.b
    else point_text change.place

-- the gap with its key
unfoldable pub gap_text : ℕ → List ℕ
gap_text gap = concat (key_text (codes "gap_mm") [] ∷ decimal gap ∷ [])

-- the number of the change, the two relations, and the gap
unfoldable pub change_text : ℕ → ChangeWords (List ℕ) → List ℕ
change_text count change = concat (
    codes "\"change\":" ∷ decimal count ∷ word_text (codes "was") (relation_word change.was)
    ∷ word_text (codes "now") (relation_word change.now) ∷ gap_text change.gap ∷ [])

-- the change of this number (RFC 7946, section 3.2)
unfoldable pub feature_text : Style → List (List ℕ) → ℕ → ChangeWords (List ℕ) → List ℕ
feature_text style names count change = concat (
    codes "{\"type\":\"Feature\",\"geometry\":" ∷ geometry_text style change ∷ codes ",\"properties\":{"
    ∷ change_text count change
    ∷ side_text style (codes "first") names change.first ∷ side_text style (codes "second") names change.second
    ∷ codes "}}" ∷ [])

-- ---- sides of rings
-- a line of two equal positions
unfoldable pub dot_text : Pt → List ℕ
dot_text a = concat (codes "{\"type\":\"MultiLineString\",\"coordinates\":[" ∷ line_text a a ∷ codes "]}" ∷ [])

abbrev pub spot_geometry : Style → Pt → List ℕ
spot_geometry style place = if style.lines then dot_text place else point_text place

-- what was and what is, by their words
abbrev pub was_word : SideChange → List ℕ
was_word (Turn layer path was now) = way_word was
was_word (Point layer path at was now) = side_word was

abbrev pub now_word : SideChange → List ℕ
now_word (Turn layer path was now) = way_word now
now_word (Point layer path at was now) = side_word now

-- the ring: its layer and path
abbrev pub ring_from : SideChange → List ℕ
ring_from (Turn layer path was now) = ring_text layer path
ring_from (Point layer path at was now) = ring_text layer path

-- the number of the change, what was, and what is
unfoldable pub turned_text : ℕ → SideChange → List ℕ
turned_text count change = concat (
    codes "\"side\":" ∷ decimal count ∷ word_text (codes "was") (was_word change)
    ∷ word_text (codes "now") (now_word change) ∷ [])

-- the properties of a ring or of a point: its layer's name, where it is among the paths, and where that is written
unfoldable pub place_properties : Style → List ℕ → List ℕ → List ℕ → PathWords (List ℕ) → List ℕ
place_properties style word name from path = concat (
    layer_text word name ∷ word_text word from ∷ path_text style word path ∷ [])

-- a property that is null
unfoldable pub null_text : List ℕ → List ℕ → List ℕ
null_text word part = concat (key_text word part ∷ codes "null" ∷ [])

-- where there is no point
abbrev pub no_path : {C : Type 0} → PathWords C
no_path = record { at = None; feature = None; id = None; name = None }

unfoldable pub null_properties : Style → List ℕ → List ℕ
null_properties style word = concat (
    null_text word (codes "_layer") ∷ null_text word [] ∷ path_text style word no_path ∷ [])

-- those of the point, and all null where the direction changed
abbrev pub point_properties : Style → List (List ℕ) → SideChange → PathWords (List ℕ) → List ℕ
point_properties style names (Turn layer path was now) own = null_properties style (codes "point")
point_properties style names (Point layer path at was now) own =
    place_properties style (codes "point") (layer_name names at.layer) (spot_text at) own

-- the change of a side or of a direction of this number
unfoldable pub ring_feature_text : Style → List (List ℕ) → ℕ → RingWords (List ℕ) → List ℕ
ring_feature_text style names count ring = concat (
    codes "{\"type\":\"Feature\",\"geometry\":" ∷ spot_geometry style ring.place ∷ codes ",\"properties\":{"
    ∷ turned_text count ring.change
    ∷ place_properties style (codes "ring") (layer_name names (ring_layer ring.change)) (ring_from ring.change) ring.ring
    ∷ point_properties style names ring.change ring.point ∷ codes "}}" ∷ [])

-- ---- all of them
-- the mark before the feature that this number of others precede: a line feed, and a comma before that where it is
-- not the first
abbrev pub separator_text : ℕ → List ℕ
separator_text before = if before == 0 then codes "\n" else codes ",\n"

-- the change of this number after those before it
unfoldable pub change_entry : Style → List (List ℕ) → ℕ → ChangeWords (List ℕ) → List ℕ
change_entry style names count change = concat (separator_text count ∷ feature_text style names count change ∷ [])

-- the change of a side of this number after those before it and this number of changes
unfoldable pub ring_entry : Style → List (List ℕ) → ℕ → ℕ → RingWords (List ℕ) → List ℕ
ring_entry style names changes count ring =
    concat (separator_text (changes + count) ∷ ring_feature_text style names count ring ∷ [])

-- the changes numbered from this number on
abbrev pub features_text : Style → List (List ℕ) → ℕ → List (ChangeWords (List ℕ)) → List ℕ
features_text style names count [] = []
features_text style names count (change ∷ changes) =
    change_entry style names count change ++ features_text style names (count + 1) changes

-- the changes of sides numbered from this number on, after this number of changes
abbrev pub rings_text : Style → List (List ℕ) → ℕ → ℕ → List (RingWords (List ℕ)) → List ℕ
rings_text style names changes count [] = []
rings_text style names changes count (ring ∷ rings) =
    ring_entry style names changes count ring ++ rings_text style names changes (count + 1) rings

-- the mark before the name of this number: a comma where it is not the first
abbrev pub comma_text : ℕ → List ℕ
comma_text count = if count == 0 then [] else codes ","

-- the names of layers, numbered from this number on
abbrev pub names_text : ℕ → List (List ℕ) → List ℕ
names_text count [] = []
names_text count (name ∷ names) = comma_text count ++ (quoted_text name ++ names_text (count + 1) names)

-- the opening: the names are a foreign member (RFC 7946, section 6.1)
unfoldable pub opening_text : List (List ℕ) → List ℕ
opening_text names = concat (
    codes "{\"type\":\"FeatureCollection\",\"crs\":null,\"layers\":[" ∷ names_text 0 names ∷ codes "],\"features\":["
    ∷ [])

-- and the end
unfoldable pub end_text : List ℕ
end_text = codes "]}\n"

-- the names of layers, and all changes over them and all changes of sides, each numbered from 0, at their places or as
-- lines (RFC 7946, section 3.3)
abbrev pub places_text : Style → List (List ℕ) → List (ChangeWords (List ℕ)) → List (RingWords (List ℕ)) → List ℕ
places_text style names changes rings =
    opening_text names ++ (features_text style names 0 changes
    ++ (rings_text style names (length changes) 0 rings ++ end_text))
