-- How many bytes a feature has at most.
use Rattle.std.proofs.Common.{◌≡◌, ℕ, suc, ◌+◌, ◌*◌, ◌/◌, ◌^◌, ◌<◌, ◌≤◌, Bool, true, false, ◌==◌, ◌||◌, List, [], ◌∷◌, ◌++◌}
use Rattle.std.proofs.Common.{length, codes, decimal, refl, arith, length-append, ℤ, pos, negsuc, Option, None, Some}
use Rattle.std.specs.Prelude.{if◌then◌else◌, unsigned_abs, nat_lt, ◌-◌}
use Rattle.std.proofs.lemmas.Fmt.{length-decimal-le}
use Rattle.std.proofs.lemmas.Bool.{ltb-false}
use Rattle.mm_decimal.specs.MetresTexts.{mm_text, metres_text, digit_text}
use Rattle.plane_base.specs.declared.shapes.Pt.{Pt}
use Rattle.tin_base.specs.declared.pieces.Place.{Place}
use Rattle.tin_base.specs.declared.relations.Rel.{Rel}
use Rattle.tin_base.specs.declared.relations.Rel.TheVariants.{Apart}
use Rattle.ring_side.specs.declared.kinds.Side.{Side}
use Rattle.ring_side.specs.declared.kinds.Side.TheVariants.{Inside}
use Rattle.ring_side.specs.declared.kinds.Way.{Way}
use Rattle.ring_side.specs.declared.kinds.Way.TheVariants.{Positive}
use Rattle.ring_side.specs.declared.kinds.Spot.{Spot}
use Rattle.ring_side.specs.declared.kinds.SideChange.{SideChange}
use Rattle.ring_side.specs.declared.kinds.SideChange.TheVariants.{Turn, Point}
use Rattle.report_text.specs.ReportText.{relation_word, ring_text, spot_text, way_word, side_word}
use Rattle.report_text.specs.Reports.{IsPlaceHeld}
use Rattle.change_places.specs.declared.limits.TheConstants.{MOST_NAMED, MOST_UNCOPIED}
use Rattle.change_places.specs.declared.spots.Style.{Style}
use Rattle.change_places.specs.Words.{PathText, SideText, ChangeText, RingText, ring_layer}
use Rattle.change_places.specs.PlacesText.{position_text, point_text, line_text, lines_text, geometry_text, escaped_byte}
use Rattle.change_places.specs.PlacesText.{name_text, quoted_text, shown_text, layer_name, at_text, key_text, word_text}
use Rattle.change_places.specs.PlacesText.{layer_text, from_text, named_text, path_text, side_text, gap_text, change_text}
use Rattle.change_places.specs.PlacesText.{feature_text, separator_text, change_entry, copied_text}
use Rattle.change_places.specs.PlacesText.{dot_text, spot_geometry, was_word, now_word, ring_from, turned_text, place_properties}
use Rattle.change_places.specs.PlacesText.{null_text, no_path, null_properties, point_properties, ring_feature_text, ring_entry}
use Rattle.change_places.specs.InsidePlaces.{copied_length}
use Rattle.change_places.specs.Laws.{IsPointHeld, IsAtHeld, IsPathHeld, IsSideHeld, IsChangeHeld, IsSpotHeld, IsSideChangeHeld, IsRingHeld}

-- ---- numbers
pub ten_digits : (n : ℕ) → n < 2 ^ 32 → length (decimal n) ≤ 10
ten_digits n small = length-decimal-le 10 n (omega arith) (omega (arith, small)) (omega (arith, small))

twenty_digits : (n : ℕ) → n < 2 ^ 64 → length (decimal n) ≤ 20
twenty_digits n small = length-decimal-le 20 n (omega arith) (omega (arith, small)) small

metres_length : (size : ℕ) → size < 2 ^ 64 → length (metres_text size) ≤ 21
metres_length size small =
    let most : length (decimal (size / 1000)) ≤ 17 =
    length-decimal-le 17 (size / 1000) (omega arith) (omega (arith, small)) (omega (arith, small)) in
    let rest = 46 ∷ (digit_text (size / 100) ++ (digit_text (size / 10) ++ digit_text size)) in
    omega (arith, most, length-append (decimal (size / 1000)) rest)

written_length : (mm : ℤ) → unsigned_abs mm < 2 ^ 64 → length (mm_text mm) ≤ 22
written_length (pos size) small = omega (arith, metres_length size small)
written_length (negsuc size) small = omega (arith, metres_length (suc size) small)

-- ---- geometries
position_length : (point : Pt) → IsPointHeld point → length (position_text point) ≤ 47
unfolding position_text
position_length point (x, y) =
    simp length-append (omega (arith, written_length point.x x, written_length point.y y))

point_length : (point : Pt) → IsPointHeld point → length (point_text point) ≤ 100
unfolding point_text
point_length point held = simp length-append (omega (arith, position_length point held))

line_length : (a b : Pt) → IsPointHeld a → IsPointHeld b → length (line_text a b) ≤ 97
unfolding line_text
line_length a b of_a of_b = simp length-append (omega (arith, position_length a of_a, position_length b of_b))

lines_length : (a b c d : Pt) → IsPointHeld a → IsPointHeld b → IsPointHeld c → IsPointHeld d
    → length (lines_text a b c d) ≤ 300
unfolding lines_text
lines_length a b c d of_a of_b of_c of_d =
    simp length-append (omega (arith, line_length a b of_a of_b, line_length c d of_c of_d))

geometry_length : (lines named : Bool) (change : ChangeText) → IsChangeHeld change
    → length (geometry_text (record { lines = lines; named = named }) change) ≤ 300
geometry_length true named change held =
    lines_length _ _ _ _ held.first.a held.first.b held.second.a held.second.b
geometry_length false named change held = omega (arith, point_length change.place held.place)

-- ---- names
escaped_length : (byte : ℕ) (marked : Bool) → length (if marked then 92 ∷ byte ∷ [] else byte ∷ []) ≤ 2
escaped_length byte true = omega arith
escaped_length byte false = omega arith

name_length : (name : List ℕ) → length (name_text name) ≤ 2 * length name
name_length [] = omega arith
name_length (byte ∷ name) = omega (
  arith,
  length-append (escaped_byte byte) (name_text name),
  escaped_length byte (byte == 34 || byte == 92),
  name_length name,
)

quoted_length : (name : List ℕ) → length (quoted_text name) ≤ 2 * length name + 2
quoted_length name = simp length-append (omega (arith, name_length name))

shown_by : (name : List ℕ) (long : Bool) → nat_lt MOST_NAMED (length name) ≡ long → length (shown_text name) ≤ 512
shown_by name true is = rw is (omega arith)
shown_by name false is =
    let few : length name ≤ MOST_NAMED = ltb-false _ _ is in
    rw is (omega (arith, quoted_length name, few))

shown_length : (name : List ℕ) → length (shown_text name) ≤ 512
shown_length name = shown_by name (nat_lt MOST_NAMED (length name)) refl

-- ---- properties
key_length : (word part : List ℕ) → length (key_text word part) ≡ length word + length part + 4
unfolding key_text
key_length word part = simp length-append (omega arith)

word_length : (word value : List ℕ) → length (word_text word value) ≡ length word + length value + 6
unfolding word_text
word_length word value = simp length-append (omega (arith, key_length word []))

relation_length : (relation : Rel) → length (relation_word relation) ≤ 11
relation_length Apart = omega arith
relation_length relation = omega arith

layer_length : (word name : List ℕ) → length word ≤ 6 → length (layer_text word name) ≤ 528
unfolding layer_text
layer_length word name short =
    simp length-append (omega (arith, short, key_length word (codes "_layer"), shown_length name))

from_length : (word : List ℕ) (place : Place) → length word ≤ 6 → IsPlaceHeld place → length (from_text word place) ≤ 55
unfolding from_text
from_length word place short held =
    simp length-append (omega (
      arith,
      short,
      key_length word [],
      ten_digits place.layer held.layer,
      ten_digits place.path held.path,
      ten_digits place.segment held.segment,
      ten_digits place.piece held.piece,
    ))

at_length : (at : Option ℕ) → IsAtHeld at → length (at_text at) ≤ 10
at_length None held = omega arith
at_length (Some at) held = ten_digits at held

named_length : (named : Bool) (word : List ℕ) (name : Option (List ℕ)) → length word ≤ 6
    → length (named_text named word name) ≤ 15 + length (copied_text name)
unfolding named_text
named_length false word name short = omega arith
named_length true word name short = simp length-append (omega (arith, short, key_length word (codes "_name")))

path_length : (style : Style) (word : List ℕ) (path : PathText) → length word ≤ 6 → IsPathHeld path
    → length (path_text style word path) ≤ 69 + copied_length path
unfolding path_text
path_length style word path short held = simp length-append (omega (
  arith,
  short,
  key_length word (codes "_at"),
  key_length word (codes "_feature"),
  key_length word (codes "_id"),
  at_length path.at held.at,
  named_length style.named word path.name short,
))

side_length : (style : Style) (word : List ℕ) (names : List (List ℕ)) (side : SideText) → length word ≤ 6
    → IsSideHeld side → length (side_text style word names side) ≤ 652 + copied_length side.path
unfolding side_text
side_length style word names side short held = simp length-append (omega (
  arith,
  layer_length word (layer_name names side.from.layer) short,
  from_length word side.from short held.from,
  path_length style word side.path short held.path,
))

gap_length : (gap : ℕ) → gap < 2 ^ 64 → length (gap_text gap) ≤ 30
unfolding gap_text
gap_length gap small = simp length-append (omega (arith, key_length (codes "gap_mm") [], twenty_digits gap small))

change_length : (number : ℕ) (change : ChangeText) → number < 2 ^ 64 → IsChangeHeld change
    → length (change_text number change) ≤ 99
unfolding change_text
change_length number change small held = simp length-append (omega (
  arith,
  twenty_digits number small,
  word_length (codes "was") (relation_word change.was),
  word_length (codes "now") (relation_word change.now),
  relation_length change.was,
  relation_length change.now,
  gap_length change.gap held.gap,
))

-- ---- features
separator_by : (first : Bool) → length (if first then codes "\n" else codes ",\n") ≤ 2
separator_by true = omega arith
separator_by false = omega arith

separator_length : (before : ℕ) → length (separator_text before) ≤ 2
separator_length before = separator_by (before == 0)

feature_length : (style : Style) (names : List (List ℕ)) (number : ℕ) (change : ChangeText) → number < 2 ^ 64
    → IsChangeHeld change → length (feature_text style names number change)
    ≤ 2000 + copied_length change.first.path + copied_length change.second.path
unfolding feature_text
feature_length style names number change small held = simp length-append (omega (
  arith,
  geometry_length style.lines style.named change held,
  change_length number change small held,
  side_length style (codes "first") names change.first (omega arith) held.first,
  side_length style (codes "second") names change.second (omega arith) held.second,
))

pub entry_length : (style : Style) (names : List (List ℕ)) (number : ℕ) (change : ChangeText) → number < 2 ^ 64
    → IsChangeHeld change → length (change_entry style names number change)
    ≤ MOST_UNCOPIED + copied_length change.first.path + copied_length change.second.path
unfolding change_entry
entry_length style names number change small held =
    simp length-append (omega (arith, separator_length number, feature_length style names number change small held))

-- ---- changes of sides
dot_length : (a : Pt) → IsPointHeld a → length (dot_text a) ≤ 300
unfolding dot_text
dot_length a held = simp length-append (omega (arith, line_length a a held held))

spot_length : (lines named : Bool) (place : Pt) → IsPointHeld place
    → length (spot_geometry (record { lines = lines; named = named }) place) ≤ 300
spot_length true named place held = dot_length place held
spot_length false named place held = omega (arith, point_length place held)

way_length : (way : Way) → length (way_word way) ≤ 11
way_length Positive = omega arith
way_length way = omega arith

side_word_length : (side : Side) → length (side_word side) ≤ 11
side_word_length Inside = omega arith
side_word_length side = omega arith

was_length : (change : SideChange) → length (was_word change) ≤ 11
was_length (Turn layer path was now) = way_length was
was_length (Point layer path at was now) = side_word_length was

now_length : (change : SideChange) → length (now_word change) ≤ 11
now_length (Turn layer path was now) = way_length now
now_length (Point layer path at was now) = side_word_length now

turned_length : (number : ℕ) (change : SideChange) → number < 2 ^ 64 → length (turned_text number change) ≤ 99
unfolding turned_text
turned_length number change small = simp length-append (omega (
  arith,
  twenty_digits number small,
  word_length (codes "was") (was_word change),
  word_length (codes "now") (now_word change),
  was_length change,
  now_length change,
))

ring_length : (layer path : ℕ) → layer < 2 ^ 32 → path < 2 ^ 32 → length (ring_text layer path) ≤ 43
ring_length layer path of_layer of_path =
    simp length-append (omega (arith, ten_digits layer of_layer, ten_digits path of_path))

from_ring_length : (change : SideChange) → IsSideChangeHeld change → length (ring_from change) ≤ 43
from_ring_length (Turn layer path was now) (of_layer, of_path) = ring_length layer path of_layer of_path
from_ring_length (Point layer path at was now) (of_layer, of_path, of_at) = ring_length layer path of_layer of_path

vertex_length : (at : Spot) → IsSpotHeld at → length (spot_text at) ≤ 43
vertex_length at (layer, path, vertex) = simp length-append (omega (
  arith,
  ten_digits at.layer layer,
  ten_digits at.path path,
  ten_digits at.vertex vertex,
))

place_properties_length : (style : Style) (word name from : List ℕ) (path : PathText) → length word ≤ 6
    → length from ≤ 43 → IsPathHeld path
    → length (place_properties style word name from path) ≤ 652 + copied_length path
unfolding place_properties
place_properties_length style word name from path short few held = simp length-append (omega (
  arith,
  short,
  few,
  layer_length word name short,
  word_length word from,
  path_length style word path short held,
))

null_length : (word part : List ℕ) → length (null_text word part) ≡ length word + length part + 8
unfolding null_text
null_length word part = simp length-append (omega (arith, key_length word part))

null_properties_length : (style : Style) (word : List ℕ) → length word ≤ 6 → length (null_properties style word) ≤ 652
unfolding null_properties
null_properties_length style word short = simp length-append (omega (
  arith,
  short,
  null_length word (codes "_layer"),
  null_length word [],
  path_length style word no_path short (record { at = tt; feature = tt }),
))

point_properties_length : (style : Style) (names : List (List ℕ)) (change : SideChange) (own : PathText)
    → IsSideChangeHeld change → IsPathHeld own
    → length (point_properties style names change own) ≤ 652 + copied_length own
point_properties_length style names (Turn layer path was now) own held of_path =
    omega (arith, null_properties_length style (codes "point") (omega arith))
point_properties_length style names (Point layer path at was now) own (of_layer, of_ring, of_at) of_path =
    place_properties_length style (codes "point") (layer_name names at.layer) (spot_text at) own (omega arith)
    (vertex_length at of_at) of_path

ring_feature_length : (style : Style) (names : List (List ℕ)) (number : ℕ) (ring : RingText) → number < 2 ^ 64
    → IsRingHeld ring
    → length (ring_feature_text style names number ring) ≤ 2000 + copied_length ring.ring + copied_length ring.point
unfolding ring_feature_text
ring_feature_length style names number ring small held = simp length-append (omega (
  arith,
  spot_length style.lines style.named ring.place held.place,
  turned_length number ring.change small,
  place_properties_length style (codes "ring") (layer_name names (ring_layer ring.change)) (ring_from ring.change)
      ring.ring (omega arith) (from_ring_length ring.change held.change) held.ring,
  point_properties_length style names ring.change ring.point held.change held.point,
))

pub ring_entry_length : (style : Style) (names : List (List ℕ)) (changes number : ℕ) (ring : RingText) → number < 2 ^ 64
    → IsRingHeld ring → length (ring_entry style names changes number ring)
    ≤ MOST_UNCOPIED + copied_length ring.ring + copied_length ring.point
unfolding ring_entry
ring_entry_length style names changes number ring small held = simp length-append (omega (
  arith,
  separator_length (changes + number),
  ring_feature_length style names number ring small held,
))

-- ---- parts
