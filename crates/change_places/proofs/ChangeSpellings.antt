-- The value of changes on the map is spelled as their text.
use Rattle.std.proofs.Common.{◌≡◌, ℕ, zero, suc, ◌+◌, ◌<◌, Bool, true, false, List, [], ◌∷◌, ◌++◌, codes, decimal, map}
use Rattle.std.proofs.Common.{Option, None, Some, IsUtf8, length, nat_lt, refl, sym, ◌∙◌, ap, ap₂, append_assoc, append-nil, arith}
use Rattle.std.specs.Prelude.{if◌then◌else◌}
use Rattle.std.specs.Option.{option_map}
use Rattle.std.specs.List.{AllByRecursion, concat}
use Rattle.std.proofs.lemmas.Bool.{ne_eqb}
use Rattle.std.proofs.lemmas.Str.{IsUtf8-nil}
use Rattle.jtext.specs.Characters.{chars_text}
use Rattle.jtext.specs.Values.{Json, Members, spelling, elements_text, elements_behind, members_text, members_behind}
use Rattle.jtext.specs.Values.{null, quoted, numeral, no_element, no_member}
use Rattle.mm_decimal.specs.MetresTexts.{mm_text}
use Rattle.plane_base.specs.declared.shapes.Pt.{Pt}
use Rattle.ring_side.specs.declared.kinds.SideChange.{SideChange}
use Rattle.ring_side.specs.declared.kinds.SideChange.TheVariants.{Turn, Point}
use Rattle.report_text.specs.ReportText.{place_text, relation_word, spot_text}
use Rattle.change_places.specs.declared.spots.Style.{Style}
use Rattle.change_places.specs.Words.{LabelWords, PathWords, SideWords, ChangeWords, RingWords, ring_layer}
use Rattle.change_places.specs.Words.{path_map, side_map, change_map, ring_map}
use Rattle.change_places.specs.Words as words
use Rattle.change_places.specs.PlacesText.{position_text, point_text, line_text, lines_text, dot_text, spot_geometry}
use Rattle.change_places.specs.PlacesText.{layer_name, at_text, label_text, copied_text, key_text, word_text, layer_text}
use Rattle.change_places.specs.PlacesText.{from_text, named_text, path_text, side_text, geometry_text, gap_text, change_text}
use Rattle.change_places.specs.PlacesText.{feature_text, was_word, now_word, ring_from, turned_text, place_properties}
use Rattle.change_places.specs.PlacesText.{null_text, no_path, null_properties, point_properties, ring_feature_text}
use Rattle.change_places.specs.PlacesText.{separator_text, change_entry, ring_entry, features_text, rings_text}
use Rattle.change_places.specs.PlacesText.{opening_text, end_text, quoted_text, shown_text, names_text, places_text}
use Rattle.change_places.specs.declared.limits.TheConstants.{MOST_NAMED}
use Rattle.change_places.specs.PlacesValue.{plain, text_value, number_value, member_and, object_of, element_and, array_of}
use Rattle.change_places.specs.PlacesValue.{position_value, geometry_of, line_value, lines_value, geometry_value, dot_value}
use Rattle.change_places.specs.PlacesValue.{spot_value, label_value, copied_value, named_members, path_members}
use Rattle.change_places.specs.PlacesValue.{name_chars, at_value, side_members, change_members, properties_value}
use Rattle.change_places.specs.PlacesValue.{turned_members, place_members, null_members, point_members, ring_properties}
use Rattle.change_places.specs.PlacesValue.{feature_of, feature_value, ring_value, feature_elements, ring_elements}
use Rattle.change_places.specs.PlacesValue.{name_elements, shown_value, places_value}
use Rattle.change_places.specs.Laws.{IsPrintedName}
use Rattle.change_places.proofs.Names.{name_spelled}

pub cons_append : (x : ℕ) (xs ys : List ℕ) → (x ∷ xs) ++ ys ≡ x ∷ (xs ++ ys)
cons_append x xs ys = refl

plain-text : (text : List ℕ) → chars_text (plain text) ≡ text
plain-text [] = refl
plain-text (byte ∷ text) = ap (λ (rest : List ℕ). byte ∷ rest) (plain-text text)

-- ---- parts, from the spellings of their parts
pub text_spelled : (text : List ℕ) → spelling (text_value text) ≡ 34 ∷ (text ++ 34 ∷ [])
text_spelled text = ap (λ (chars : List ℕ). 34 ∷ (chars ++ 34 ∷ [])) (plain-text text)

pub member_first : (key : List ℕ) (value : Json) (rest : Members) (s m : List ℕ) → spelling value ≡ s
    → members_behind rest ≡ m → members_text (member_and key value rest) ≡ 34 ∷ (key ++ (34 ∷ 58 ∷ (s ++ m)))
member_first key value rest s m is are =
    ap₂ (λ (a b : List ℕ). (34 ∷ (a ++ 34 ∷ [])) ++ (58 ∷ b)) (plain-text key) (ap₂ (λ (a b : List ℕ). a ++ b) is are)
    ∙ ap (λ (rest : List ℕ). 34 ∷ rest) (append_assoc key (34 ∷ []) (58 ∷ (s ++ m)))

pub member_behind : (key : List ℕ) (value : Json) (rest : Members) (s m : List ℕ) → spelling value ≡ s
    → members_behind rest ≡ m → members_behind (member_and key value rest) ≡ 44 ∷ 34 ∷ (key ++ (34 ∷ 58 ∷ (s ++ m)))
member_behind key value rest s m is are = ap (λ (text : List ℕ). 44 ∷ text) (member_first key value rest s m is are)

pub object_spelled : (members : Members) (m : List ℕ) → members_text members ≡ m
    → spelling (object_of members) ≡ 123 ∷ (m ++ 125 ∷ [])
object_spelled members m are = ap (λ (text : List ℕ). 123 ∷ (text ++ 125 ∷ [])) are

two_listed : (s t : List ℕ) → 91 ∷ ((s ++ (44 ∷ (t ++ []))) ++ 93 ∷ []) ≡ 91 ∷ (s ++ (44 ∷ (t ++ 93 ∷ [])))
two_listed s t = ap (λ (text : List ℕ). 91 ∷ text)
    (append_assoc s (44 ∷ (t ++ [])) (93 ∷ []) ∙ ap (λ (text : List ℕ). s ++ (44 ∷ (text ++ 93 ∷ []))) (append-nil t))

pair_spelled : (v w : Json) (s t : List ℕ) → spelling v ≡ s → spelling w ≡ t
    → spelling (array_of (element_and v (element_and w no_element))) ≡ 91 ∷ (s ++ (44 ∷ (t ++ 93 ∷ [])))
pair_spelled v w s t is are = ap₂ (λ (a b : List ℕ). 91 ∷ ((a ++ (44 ∷ (b ++ []))) ++ 93 ∷ [])) is are ∙ two_listed s t

-- ---- geometries
position_shape : (x y : List ℕ) → 91 ∷ (x ++ (44 ∷ (y ++ 93 ∷ [])))
    ≡ concat (codes "[" ∷ x ∷ codes "," ∷ y ∷ codes "]" ∷ [])
position_shape x y = refl

pub position_spelled : (point : Pt) → spelling (position_value point) ≡ position_text point
unfolding position_text
position_spelled point = pair_spelled (numeral (mm_text point.x)) (numeral (mm_text point.y)) (mm_text point.x)
    (mm_text point.y) refl refl ∙ position_shape (mm_text point.x) (mm_text point.y)

pub geometry_by : (type : List ℕ) (coordinates : Json) (s : List ℕ) → spelling coordinates ≡ s
    → spelling (geometry_of type coordinates) ≡ 123
    ∷ ((34 ∷ (codes "type" ++ (34 ∷ 58 ∷ ((34 ∷ (type ++ 34 ∷ []))
    ++ (44 ∷ 34 ∷ (codes "coordinates" ++ (34 ∷ 58 ∷ (s ++ [])))))))) ++ 125 ∷ [])
geometry_by type coordinates s is =
    object_spelled (member_and (codes "type") (text_value type) (member_and (codes "coordinates") coordinates no_member)) _
    (member_first (codes "type") (text_value type) (member_and (codes "coordinates") coordinates no_member)
    (34 ∷ (type ++ 34 ∷ [])) _ (text_spelled type)
    (member_behind (codes "coordinates") coordinates no_member s [] is refl))

point_shape : (s : List ℕ) → 123 ∷ ((34 ∷ (codes "type"
    ++ (34 ∷ 58 ∷ ((34 ∷ (codes "Point" ++ 34 ∷ [])) ++ (44 ∷ 34 ∷ (codes "coordinates" ++ (34 ∷ 58 ∷ (s ++ []))))))))
    ++ 125 ∷ [])
    ≡ concat (codes "{\"type\":\"Point\",\"coordinates\":" ∷ s ∷ codes "}" ∷ [])
point_shape s = ap (λ (text : List ℕ). codes "{\"type\":\"Point\",\"coordinates\":" ++ (text ++ codes "}"))
    (append-nil s)

pub point_spelled : (a : Pt) → spelling (geometry_of (codes "Point") (position_value a)) ≡ point_text a
unfolding point_text
point_spelled a = geometry_by (codes "Point") (position_value a) (position_text a) (position_spelled a)
    ∙ point_shape (position_text a)

line_spelled : (a b : Pt) → spelling (line_value a b) ≡ line_text a b
unfolding line_text
line_spelled a b =
    pair_spelled (position_value a) (position_value b) (position_text a) (position_text b) (position_spelled a)
    (position_spelled b)
    ∙ position_shape (position_text a) (position_text b)

lines_shape : (s t : List ℕ) → 123 ∷ ((34 ∷ (codes "type"
    ++ (34 ∷ 58 ∷ ((34 ∷ (codes "MultiLineString" ++ 34 ∷ []))
    ++ (44 ∷ 34 ∷ (codes "coordinates" ++ (34 ∷ 58 ∷ ((91 ∷ (s ++ (44 ∷ (t ++ 93 ∷ [])))) ++ [])))))))) ++ 125 ∷ [])
    ≡ concat (codes "{\"type\":\"MultiLineString\",\"coordinates\":[" ∷ s ∷ codes "," ∷ t ∷ codes "]}" ∷ [])
lines_shape s t =
    ap (λ (text : List ℕ). codes "{\"type\":\"MultiLineString\",\"coordinates\":[" ++ (text ++ 125 ∷ []))
    (append-nil (s ++ (44 ∷ (t ++ 93 ∷ []))))
    ∙ ap (λ (text : List ℕ). codes "{\"type\":\"MultiLineString\",\"coordinates\":[" ++ text)
    (append_assoc s (44 ∷ (t ++ 93 ∷ [])) (125 ∷ []))
    ∙ ap (λ (text : List ℕ). codes "{\"type\":\"MultiLineString\",\"coordinates\":[" ++ (s ++ (44 ∷ text)))
    (append_assoc t (93 ∷ []) (125 ∷ []))

lines_spelled : (a b c d : Pt) → spelling (lines_value a b c d) ≡ lines_text a b c d
unfolding lines_text
lines_spelled a b c d =
    let s = line_text a b in
    let t = line_text c d in
    geometry_by (codes "MultiLineString") (array_of (element_and (line_value a b) (element_and (line_value c d) no_element)))
    (91 ∷ (s ++ (44 ∷ (t ++ 93 ∷ []))))
    (pair_spelled (line_value a b) (line_value c d) s t (line_spelled a b) (line_spelled c d))
    ∙ lines_shape s t

dot_shape : (s : List ℕ) → 123 ∷ ((34 ∷ (codes "type"
    ++ (34 ∷ 58 ∷ ((34 ∷ (codes "MultiLineString" ++ 34 ∷ []))
    ++ (44 ∷ 34 ∷ (codes "coordinates" ++ (34 ∷ 58 ∷ ((91 ∷ ((s ++ []) ++ 93 ∷ [])) ++ [])))))))) ++ 125 ∷ [])
    ≡ concat (codes "{\"type\":\"MultiLineString\",\"coordinates\":[" ∷ s ∷ codes "]}" ∷ [])
dot_shape s =
    ap (λ (text : List ℕ). codes "{\"type\":\"MultiLineString\",\"coordinates\":[" ++ (text ++ 125 ∷ []))
    (append-nil ((s ++ []) ++ 93 ∷ []))
    ∙ ap (λ (text : List ℕ). codes "{\"type\":\"MultiLineString\",\"coordinates\":[" ++ ((text ++ 93 ∷ []) ++ 125 ∷ []))
    (append-nil s)
    ∙ ap (λ (text : List ℕ). codes "{\"type\":\"MultiLineString\",\"coordinates\":[" ++ text)
    (append_assoc s (93 ∷ []) (125 ∷ []))

dot_spelled : (a : Pt) → spelling (dot_value a) ≡ dot_text a
unfolding dot_text
dot_spelled a =
    geometry_by (codes "MultiLineString") (array_of (element_and (line_value a a) no_element))
    (91 ∷ ((line_text a a ++ []) ++ 93 ∷ []))
    (ap (λ (text : List ℕ). 91 ∷ ((text ++ []) ++ 93 ∷ [])) (line_spelled a a))
    ∙ dot_shape (line_text a a)

pub either_spelled : (one : Bool) (v w : Json) (s t : List ℕ) → spelling v ≡ s → spelling w ≡ t
    → spelling (if one then v else w) ≡ (if one then s else t)
either_spelled true v w s t is are = is
either_spelled false v w s t is are = are

geometry_spelled : (style : Style) (change : ChangeWords Json) → spelling (geometry_value style change)
    ≡ geometry_text style (change_map spelling change)
geometry_spelled style change =
    either_spelled style.lines _ _ _ _
    (lines_spelled change.first.a change.first.b change.second.a change.second.b) (point_spelled change.place)

spot_spelled : (style : Style) (place : Pt) → spelling (spot_value style place) ≡ spot_geometry style place
spot_spelled style place = either_spelled style.lines _ _ _ _ (dot_spelled place) (point_spelled place)

-- ---- properties
at_spelled : (at : Option ℕ) → spelling (at_value at) ≡ at_text at
at_spelled None = refl
at_spelled (Some at) = refl

label_spelled : (label : Option LabelWords) → spelling (label_value label) ≡ label_text label
label_spelled (Some (words.by_handle text)) = text_spelled text
label_spelled label = refl

copied_spelled : (value : Option Json) → spelling (copied_value value) ≡ copied_text (option_map spelling value)
copied_spelled None = refl
copied_spelled (Some value) = refl

quoted_spelled : (name : List ℕ) → IsUtf8 name → spelling (quoted (name_chars name)) ≡ quoted_text name
quoted_spelled name text = ap (λ (chars : List ℕ). 34 ∷ (chars ++ 34 ∷ [])) (name_spelled name text)

shown_spelled : (name : List ℕ) → IsUtf8 name → spelling (shown_value name) ≡ shown_text name
shown_spelled name text = either_spelled (nat_lt MOST_NAMED (length name)) null (quoted (name_chars name))
    (codes "null") (quoted_text name) refl (quoted_spelled name text)

layer_spelled : (names : List (List ℕ)) (layer : ℕ) → AllByRecursion IsPrintedName names
    → spelling (shown_value (layer_name names layer)) ≡ shown_text (layer_name names layer)
layer_spelled [] layer all = shown_spelled [] IsUtf8-nil
layer_spelled (name ∷ names) zero all = let own = all.0 in shown_spelled name own.utf8
layer_spelled (name ∷ names) (suc layer) all = layer_spelled names layer all.1

-- a key of two parts, a value and what comes after it
key_shape : (word part s m : List ℕ) → 44 ∷ 34 ∷ ((word ++ part) ++ (34 ∷ 58 ∷ (s ++ m))) ≡ key_text word part
    ++ (s ++ m)
unfolding key_text
key_shape word part s m = simp (cons_append, append_assoc, append-nil) refl

key_behind : (word part : List ℕ) (value : Json) (rest : Members) (s : List ℕ) → spelling value ≡ s
    → members_behind (member_and (word ++ part) value rest) ≡ key_text word part ++ (s ++ members_behind rest)
key_behind word part value rest s is =
    member_behind (word ++ part) value rest s (members_behind rest) is refl ∙ key_shape word part s (members_behind rest)

-- so is a text between quotation marks
text_shape : (word part s m : List ℕ) → 44 ∷ 34 ∷ ((word ++ part) ++ (34 ∷ 58 ∷ ((34 ∷ (s ++ 34 ∷ [])) ++ m)))
    ≡ concat (key_text word part ∷ codes "\"" ∷ s ∷ codes "\"" ∷ []) ++ m
text_shape word part s m = key_shape word part (34 ∷ (s ++ 34 ∷ [])) m
    ∙ sym (append_assoc (key_text word part) (34 ∷ (s ++ 34 ∷ [])) m)

one_part : (word m : List ℕ) → 44 ∷ 34 ∷ (word ++ m) ≡ 44 ∷ 34 ∷ ((word ++ []) ++ m)
one_part word m = ap (λ (key : List ℕ). 44 ∷ 34 ∷ (key ++ m)) (sym (append-nil word))

word_behind : (word value : List ℕ) (rest : Members)
    → members_behind (member_and word (text_value value) rest)
    ≡ concat (key_text word [] ∷ codes "\"" ∷ value ∷ codes "\"" ∷ []) ++ members_behind rest
word_behind word value rest =
    member_behind word (text_value value) rest (34 ∷ (value ++ 34 ∷ [])) (members_behind rest) (text_spelled value) refl
    ∙ one_part word _ ∙ text_shape word [] value (members_behind rest)

named_spelled : (asked : Bool) (word : List ℕ) (name : Option Json) (rest : Members)
    → members_behind (named_members asked word name rest) ≡ named_text asked word (option_map spelling name)
    ++ members_behind rest
unfolding named_text named_members
named_spelled false word name rest = refl
named_spelled true word name rest =
    key_behind word (codes "_name") (copied_value name) rest (copied_text (option_map spelling name))
    (copied_spelled name)
    ∙ two (key_text word (codes "_name")) (copied_text (option_map spelling name)) (members_behind rest)
  where
    two : (a b m : List ℕ) → a ++ (b ++ m) ≡ concat (a ∷ b ∷ []) ++ m
    two a b m = simp (append_assoc, append-nil) refl

path_spelled : (style : Style) (word : List ℕ) (path : PathWords Json) (rest : Members)
    → members_behind (path_members style word path rest) ≡ path_text style word (path_map spelling path)
    ++ members_behind rest
unfolding path_text path_members
path_spelled style word path rest =
    let last = named_members style.named word path.name rest in
    let third = member_and (word ++ codes "_id") (copied_value path.id) last in
    let second = member_and (word ++ codes "_feature") (label_value path.feature) third in
    key_behind word (codes "_at") (at_value path.at) second (at_text path.at) (at_spelled path.at)
    ∙ parts _ _ _ _ _ _ _ _ _ _ _
    (key_behind word (codes "_feature") (label_value path.feature) third (label_text path.feature)
    (label_spelled path.feature))
    (key_behind word (codes "_id") (copied_value path.id) last (copied_text (option_map spelling path.id))
    (copied_spelled path.id))
    (named_spelled style.named word path.name rest)
  where
    parts : (a b c d e f g m second third last : List ℕ) → second ≡ c ++ (d ++ third) → third ≡ e ++ (f ++ last)
        → last ≡ g ++ m → a ++ (b ++ second) ≡ concat (a ∷ b ∷ c ∷ d ∷ e ∷ f ∷ g ∷ []) ++ m
    parts a b c d e f g m second third last is are more = simp (is, are, more, append_assoc, append-nil) refl

-- a name, a text and a path
three_parts : (a s b c d second third : List ℕ) → second ≡ b ++ third → third ≡ c ++ d
    → a ++ (s ++ second) ≡ concat (concat (a ∷ s ∷ []) ∷ b ∷ c ∷ []) ++ d
three_parts a s b c d second third is are = simp (is, are, append_assoc, append-nil) refl

side_spelled : (style : Style) (word : List ℕ) (names : List (List ℕ)) (side : SideWords Json) (rest : Members)
    → AllByRecursion IsPrintedName names
    → members_behind (side_members style word names side rest) ≡ side_text style word names (side_map spelling side)
    ++ members_behind rest
unfolding side_text side_members layer_text from_text
side_spelled style word names side rest all =
    let name = layer_name names side.from.layer in
    let third = path_members style word side.path rest in
    let second = member_and word (text_value (place_text side.from)) third in
    key_behind word (codes "_layer") (shown_value name) second (shown_text name) (layer_spelled names side.from.layer all)
    ∙ three_parts _ _ _ _ _ _ _ (word_behind word (place_text side.from) third)
    (path_spelled style word side.path rest)

change_spelled : (count : ℕ) (change : ChangeWords Json) (rest : Members)
    → members_text (change_members count change rest) ≡ change_text count (change_map spelling change)
    ++ members_behind rest
unfolding change_text change_members word_text gap_text
change_spelled count change rest =
    let gap_value = member_and (codes "gap_mm") (number_value change.gap) rest in
    let now_value = member_and (codes "now") (text_value (relation_word change.now)) gap_value in
    let was_value = member_and (codes "was") (text_value (relation_word change.was)) now_value in
    let gap_is : members_behind gap_value ≡ key_text (codes "gap_mm") [] ++ (decimal change.gap ++ members_behind rest)
    = member_behind (codes "gap_mm") (number_value change.gap) rest (decimal change.gap) (members_behind rest) refl refl
    ∙ key_shape (codes "gap_mm") [] (decimal change.gap) (members_behind rest) in
    let number_is : members_text (member_and (codes "change") (number_value count) was_value) ≡ codes "\"change\":"
    ++ (decimal count ++ members_behind was_value)
    = member_first (codes "change") (number_value count) was_value (decimal count) (members_behind was_value) refl
    refl in
    number_is ∙ parts (codes "\"change\":") (decimal count) _ _ (key_text (codes "gap_mm") []) (decimal change.gap)
    (members_behind rest) _ _ _ (word_behind (codes "was") (relation_word change.was) now_value)
    (word_behind (codes "now") (relation_word change.now) gap_value) gap_is
  where
    parts : (a b c d e f g was now gap : List ℕ) → was ≡ c ++ now → now ≡ d ++ gap → gap ≡ e ++ (f ++ g)
        → a ++ (b ++ was) ≡ concat (a ∷ b ∷ c ∷ d ∷ concat (e ∷ f ∷ []) ∷ []) ++ g
    parts a b c d e f g was now gap is_was is_now is_gap = simp (is_was, is_now, is_gap, append_assoc, append-nil) refl

properties_spelled : (style : Style) (names : List (List ℕ)) (count : ℕ) (change : ChangeWords Json)
    → AllByRecursion IsPrintedName names
    → spelling (properties_value style names count change) ≡ 123
    ∷ ((change_text count (change_map spelling change)
    ++ (side_text style (codes "first") names (side_map spelling change.first)
    ++ (side_text style (codes "second") names (side_map spelling change.second) ++ []))) ++ 125 ∷ [])
unfolding properties_value
properties_spelled style names count change all =
    let second = side_members style (codes "second") names change.second no_member in
    let first = side_members style (codes "first") names change.first second in
    object_spelled (change_members count change first) _ (
    change_spelled count change first
    ∙ ap (λ (text : List ℕ). change_text count (change_map spelling change) ++ text)
    (side_spelled style (codes "first") names change.first second all
    ∙ ap (λ (text : List ℕ). side_text style (codes "first") names (side_map spelling change.first) ++ text)
    (side_spelled style (codes "second") names change.second no_member all)))

-- ---- properties of changes of sides
turned_spelled : (count : ℕ) (change : SideChange) (rest : Members)
    → members_text (turned_members count change rest) ≡ turned_text count change ++ members_behind rest
unfolding turned_text turned_members word_text
turned_spelled count change rest =
    let now_value = member_and (codes "now") (text_value (now_word change)) rest in
    let was_value = member_and (codes "was") (text_value (was_word change)) now_value in
    member_first (codes "side") (number_value count) was_value (decimal count) (members_behind was_value) refl refl
    ∙ parts (codes "\"side\":") (decimal count) _ _ (members_behind rest) _ _
    (word_behind (codes "was") (was_word change) now_value) (word_behind (codes "now") (now_word change) rest)
  where
    parts : (a b c d m was now : List ℕ) → was ≡ c ++ now → now ≡ d ++ m
        → a ++ (b ++ was) ≡ concat (a ∷ b ∷ c ∷ d ∷ []) ++ m
    parts a b c d m was now is_was is_now = simp (is_was, is_now, append_assoc, append-nil) refl

place_spelled : (style : Style) (word name from : List ℕ) (path : PathWords Json) (rest : Members)
    → spelling (shown_value name) ≡ shown_text name
    → members_behind (place_members style word name from path rest)
    ≡ place_properties style word name from (path_map spelling path) ++ members_behind rest
unfolding place_properties place_members layer_text word_text
place_spelled style word name from path rest shown =
    let third = path_members style word path rest in
    key_behind word (codes "_layer") (shown_value name) (member_and word (text_value from) third) (shown_text name) shown
    ∙ three_parts _ _ _ _ _ _ _ (word_behind word from third) (path_spelled style word path rest)

null_behind : (word part : List ℕ) (rest : Members)
    → members_behind (member_and (word ++ part) null rest) ≡ null_text word part ++ members_behind rest
unfolding null_text
null_behind word part rest = key_behind word part null rest (codes "null") refl
    ∙ two (key_text word part) (codes "null") (members_behind rest)
  where
    two : (a b m : List ℕ) → a ++ (b ++ m) ≡ concat (a ∷ b ∷ []) ++ m
    two a b m = simp (append_assoc, append-nil) refl

nulls_spelled : (style : Style) (word : List ℕ) (rest : Members)
    → members_behind (null_members style word rest) ≡ null_properties style word ++ members_behind rest
unfolding null_properties null_members
nulls_spelled style word rest =
    let third = path_members style word no_path rest in
    let second = member_and word null third in
    let own : members_behind second ≡ null_text word [] ++ members_behind third
    = ap (λ (key : List ℕ). members_behind (member_and key null third)) (sym (append-nil word))
    ∙ null_behind word [] third in
    null_behind word (codes "_layer") second ∙ parts _ _ _ _ _ _ own (path_spelled style word no_path rest)
  where
    parts : (a b c m second third : List ℕ) → second ≡ b ++ third → third ≡ c ++ m
        → a ++ second ≡ concat (a ∷ b ∷ c ∷ []) ++ m
    parts a b c m second third is are = simp (is, are, append_assoc, append-nil) refl

point_members_spelled : (style : Style) (names : List (List ℕ)) (change : SideChange) (path : PathWords Json)
    (rest : Members) → AllByRecursion IsPrintedName names
    → members_behind (point_members style names change path rest)
    ≡ point_properties style names change (path_map spelling path) ++ members_behind rest
point_members_spelled style names (Turn layer number was now) path rest all = nulls_spelled style (codes "point") rest
point_members_spelled style names (Point layer number at was now) path rest all =
    place_spelled style (codes "point") (layer_name names at.layer) (spot_text at) path rest
    (layer_spelled names at.layer all)

ring_spelled : (style : Style) (names : List (List ℕ)) (count : ℕ) (ring : RingWords Json)
    → AllByRecursion IsPrintedName names
    → spelling (ring_properties style names count ring) ≡ 123 ∷ ((turned_text count ring.change
    ++ (place_properties style (codes "ring") (layer_name names (ring_layer ring.change)) (ring_from ring.change)
    (path_map spelling ring.ring)
    ++ (point_properties style names ring.change (path_map spelling ring.point) ++ []))) ++ 125 ∷ [])
unfolding ring_properties
ring_spelled style names count ring all =
    let name = layer_name names (ring_layer ring.change) in
    let from = ring_from ring.change in
    let point = point_members style names ring.change ring.point no_member in
    let own = place_members style (codes "ring") name from ring.ring point in
    object_spelled (turned_members count ring.change own) _ (
    turned_spelled count ring.change own ∙ ap (λ (text : List ℕ). turned_text count ring.change ++ text)
    (place_spelled style (codes "ring") name from ring.ring point (layer_spelled names (ring_layer ring.change) all)
    ∙ ap (λ (text : List ℕ). place_properties style (codes "ring") name from (path_map spelling ring.ring) ++ text)
    (point_members_spelled style names ring.change ring.point no_member all)))

-- ---- features
-- the text of a first member, of one after a comma, and of an object
abbrev pub first_text : List ℕ → List ℕ → List ℕ → List ℕ
first_text key s m = 34 ∷ (key ++ (34 ∷ 58 ∷ (s ++ m)))

abbrev pub next_text : List ℕ → List ℕ → List ℕ → List ℕ
next_text key s m = 44 ∷ first_text key s m

abbrev pub in_braces : List ℕ → List ℕ
in_braces m = 123 ∷ (m ++ 125 ∷ [])

abbrev pub in_quotes : List ℕ → List ℕ
in_quotes text = 34 ∷ (text ++ 34 ∷ [])

feature_shape : (g p f s : List ℕ)
    → in_braces (first_text (codes "type") (in_quotes (codes "Feature"))
    (next_text (codes "geometry") g (next_text (codes "properties") (in_braces (p ++ (f ++ (s ++ [])))) [])))
    ≡ concat (codes "{\"type\":\"Feature\",\"geometry\":" ∷ g ∷ codes ",\"properties\":{" ∷ p ∷ f ∷ s ∷ codes "}}" ∷ [])
feature_shape g p f s = simp (cons_append, append_assoc, append-nil) refl

pub feature_by : (geometry properties : Json) (g p f s : List ℕ) → spelling geometry ≡ g
    → spelling properties ≡ in_braces (p ++ (f ++ (s ++ [])))
    → spelling (feature_of geometry properties)
    ≡ concat (codes "{\"type\":\"Feature\",\"geometry\":" ∷ g ∷ codes ",\"properties\":{" ∷ p ∷ f ∷ s ∷ codes "}}" ∷ [])
unfolding feature_of
feature_by geometry properties g p f s is are =
    let last = member_and (codes "properties") properties no_member in
    let middle = member_and (codes "geometry") geometry last in
    object_spelled (member_and (codes "type") (text_value (codes "Feature")) middle) _
    (member_first (codes "type") (text_value (codes "Feature")) middle (34 ∷ (codes "Feature" ++ 34 ∷ [])) _
    (text_spelled (codes "Feature"))
    (member_behind (codes "geometry") geometry last g _ is
    (member_behind (codes "properties") properties no_member (in_braces (p ++ (f ++ (s ++ [])))) [] are refl)))
    ∙ feature_shape g p f s

feature_spelled : (style : Style) (names : List (List ℕ)) (count : ℕ) (change : ChangeWords Json)
    → AllByRecursion IsPrintedName names
    → spelling (feature_value style names count change) ≡ feature_text style names count (change_map spelling change)
unfolding feature_text
feature_spelled style names count change all =
    feature_by (geometry_value style change) (properties_value style names count change)
    (geometry_text style (change_map spelling change)) (change_text count (change_map spelling change))
    (side_text style (codes "first") names (side_map spelling change.first))
    (side_text style (codes "second") names (side_map spelling change.second))
    (geometry_spelled style change) (properties_spelled style names count change all)

ring_feature_spelled : (style : Style) (names : List (List ℕ)) (count : ℕ) (ring : RingWords Json)
    → AllByRecursion IsPrintedName names
    → spelling (ring_value style names count ring) ≡ ring_feature_text style names count (ring_map spelling ring)
unfolding ring_feature_text
ring_feature_spelled style names count ring all =
    feature_by (spot_value style ring.place) (ring_properties style names count ring) (spot_geometry style ring.place)
    (turned_text count ring.change)
    (place_properties style (codes "ring") (layer_name names (ring_layer ring.change)) (ring_from ring.change)
    (path_map spelling ring.ring)) (point_properties style names ring.change (path_map spelling ring.point))
    (spot_spelled style ring.place) (ring_spelled style names count ring all)

-- ---- lists
-- an entry after others, and the first one
behind_others : (count : ℕ) (v w r s : List ℕ) → 0 < count → v ≡ w → r ≡ s
    → 44 ∷ 10 ∷ (v ++ r) ≡ concat (separator_text count ∷ w ∷ []) ++ s
behind_others count v w r s some is are =
    rw (ne_eqb count 0 (λ e. omega (arith, e, some)))
    (ap₂ (λ (a b : List ℕ). 44 ∷ 10 ∷ (a ++ b)) (is ∙ sym (append-nil w)) are)

first_entry : (v w r s : List ℕ) → v ≡ w → r ≡ s → 10 ∷ (v ++ r) ≡ concat (separator_text 0 ∷ w ∷ []) ++ s
first_entry v w r s is are = ap₂ (λ (a b : List ℕ). 10 ∷ (a ++ b)) (is ∙ sym (append-nil w)) are

module _ (style : Style) (names : List (List ℕ)) (all : AllByRecursion IsPrintedName names) where
  rings_behind : (before count : ℕ) (rings : List (RingWords Json)) → 0 < before + count
      → elements_behind (ring_elements style names count rings)
      ≡ rings_text style names before count (map (ring_map spelling) rings)
  unfolding ring_entry
  rings_behind before count [] some = refl
  rings_behind before count (ring ∷ rings) some =
      behind_others (before + count) _ _ _ _ some (ring_feature_spelled style names count ring all)
      (rings_behind before (count + 1) rings (omega (arith, some)))

  rings_spelled : (rings : List (RingWords Json)) → elements_text (ring_elements style names 0 rings)
      ≡ rings_text style names 0 0 (map (ring_map spelling) rings)
  unfolding ring_entry
  rings_spelled [] = refl
  rings_spelled (ring ∷ rings) =
      first_entry _ _ _ _ (ring_feature_spelled style names 0 ring all) (rings_behind 0 1 rings (omega arith))

  features_behind : (count total : ℕ) (changes : List (ChangeWords Json)) (rings : List (RingWords Json)) → 0 < count
      → count + length changes ≡ total → elements_behind (feature_elements style names count changes rings)
      ≡ features_text style names count (map (change_map spelling) changes)
      ++ rings_text style names total 0 (map (ring_map spelling) rings)
  unfolding change_entry
  features_behind count total [] rings some is = rings_behind total 0 rings (omega (arith, some, is))
  features_behind count total (change ∷ changes) rings some is =
      behind_others count _ _ _ _ some (feature_spelled style names count change all)
      (features_behind (count + 1) total changes rings (omega arith) (omega (arith, is)))
      ∙ sym (append_assoc (concat (separator_text count ∷ feature_text style names count (change_map spelling change) ∷ []))
      (features_text style names (count + 1) (map (change_map spelling) changes))
      (rings_text style names total 0 (map (ring_map spelling) rings)))

  features_spelled : (changes : List (ChangeWords Json)) (rings : List (RingWords Json))
      → elements_text (feature_elements style names 0 changes rings)
      ≡ features_text style names 0 (map (change_map spelling) changes)
      ++ rings_text style names (length changes) 0 (map (ring_map spelling) rings)
  unfolding change_entry
  features_spelled [] rings = rings_spelled rings
  features_spelled (change ∷ changes) rings =
      first_entry _ _ _ _ (feature_spelled style names 0 change all)
      (features_behind 1 (suc (length changes)) changes rings (omega arith) (omega arith))
      ∙ sym (append_assoc (concat (separator_text 0 ∷ feature_text style names 0 (change_map spelling change) ∷ []))
      (features_text style names 1 (map (change_map spelling) changes))
      (rings_text style names (suc (length changes)) 0 (map (ring_map spelling) rings)))

-- the names after the first
names_behind : (count : ℕ) (names : List (List ℕ)) → 0 < count → AllByRecursion IsPrintedName names
    → elements_behind (name_elements names) ≡ names_text count names
names_behind count [] some all = refl
names_behind count (name ∷ names) some (own, all) =
    rw (ne_eqb count 0 (λ e. omega (arith, e, some)))
    (ap₂ (λ (a b : List ℕ). 44 ∷ (a ++ b)) (quoted_spelled name own.utf8)
    (names_behind (count + 1) names (omega arith) all))

names_spelled : (names : List (List ℕ)) → AllByRecursion IsPrintedName names
    → elements_text (name_elements names) ≡ names_text 0 names
names_spelled [] all = refl
names_spelled (name ∷ names) (own, all) =
    ap₂ (λ (a b : List ℕ). a ++ b) (quoted_spelled name own.utf8) (names_behind (0 + 1) names (omega arith) all)

places_shape : (n f r : List ℕ)
    → in_braces (first_text (codes "type") (in_quotes (codes "FeatureCollection"))
    (next_text (codes "crs") (codes "null") (next_text (codes "layers") (91 ∷ (n ++ 93 ∷ []))
    (next_text (codes "features") (91 ∷ ((f ++ r) ++ 93 ∷ [])) [])))) ++ 10 ∷ []
    ≡ concat (codes "{\"type\":\"FeatureCollection\",\"crs\":null,\"layers\":[" ∷ n ∷ codes "],\"features\":[" ∷ [])
    ++ (f ++ (r ++ codes "]}\n"))
places_shape n f r = simp (cons_append, append_assoc, append-nil) refl

count_map : (changes : List (ChangeWords Json)) → length (map (change_map spelling) changes) ≡ length changes
count_map [] = refl
count_map (change ∷ changes) = ap suc (count_map changes)

pub places_spelled : (style : Style) (names : List (List ℕ)) (changes : List (ChangeWords Json))
    (rings : List (RingWords Json)) → AllByRecursion IsPrintedName names
    → spelling (places_value style names changes rings) ++ 10 ∷ []
    ≡ places_text style names (map (change_map spelling) changes) (map (ring_map spelling) rings)
unfolding opening_text end_text
places_spelled style names changes rings all =
    let n = names_text 0 names in
    let f = features_text style names 0 (map (change_map spelling) changes) in
    let r = rings_text style names (length changes) 0 (map (ring_map spelling) rings) in
    let layers = array_of (name_elements names) in
    let list = array_of (feature_elements style names 0 changes rings) in
    let last = member_and (codes "features") list no_member in
    let third = member_and (codes "layers") layers last in
    let middle = member_and (codes "crs") null third in
    ap (λ (text : List ℕ). text ++ 10 ∷ [])
    (object_spelled (member_and (codes "type") (text_value (codes "FeatureCollection")) middle) _
    (member_first (codes "type") (text_value (codes "FeatureCollection")) middle
    (34 ∷ (codes "FeatureCollection" ++ 34 ∷ [])) _ (text_spelled (codes "FeatureCollection"))
    (member_behind (codes "crs") null third (codes "null") _ refl
    (member_behind (codes "layers") layers last (91 ∷ (n ++ 93 ∷ [])) _
    (ap (λ (text : List ℕ). 91 ∷ (text ++ 93 ∷ [])) (names_spelled names all))
    (member_behind (codes "features") list no_member (91 ∷ ((f ++ r) ++ 93 ∷ [])) []
    (ap (λ (text : List ℕ). 91 ∷ (text ++ 93 ∷ [])) (features_spelled style names all changes rings)) refl)))))
    ∙ places_shape n f r
    ∙ ap (λ (count : ℕ). concat (codes "{\"type\":\"FeatureCollection\",\"crs\":null,\"layers\":[" ∷ n
    ∷ codes "],\"features\":[" ∷ []) ++ (f ++ (rings_text style names count 0 (map (ring_map spelling) rings)
    ++ codes "]}\n"))) (sym (count_map changes))
