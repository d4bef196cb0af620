-- The value of changes on the map is one that the grammar of JSON wants.
use Rattle.std.proofs.Common.{◌≡◌, ◌≢◌, ◌⊎◌, ℕ, zero, suc, ◌+◌, ◌/◌, ◌^◌, ◌<◌, ◌≤◌, inl, inr, Bool, true, false, ◌==◌}
use Rattle.std.proofs.Common.{◌&&◌, ◌||◌, List, [], ◌∷◌, ◌++◌, map, length, codes, decimal, Option, None, Some, ℤ, pos}
use Rattle.std.proofs.Common.{negsuc, refl, sym, subst, arith, nat_le, nat_lt}
use Rattle.std.specs.Prelude.{if◌then◌else◌, unsigned_abs}
use Rattle.std.specs.List.{AllByRecursion, list_all}
use Rattle.std.specs.Char.{is_ascii_hexdigit}
use Rattle.std.specs.Int.{is_in_range}
use Rattle.std.proofs.lemmas.Bool.{and_parts, cases_lt, leb-true, lt-ltb, le-ltb, eqb-true, eqb-false}
use Rattle.std.proofs.lemmas.Str.{encode_ascii, encodes-chars, scalars-chars, chars-nil}
use lib.Utf8.{scalar, scalars, scalar_cases, encode, encodes, next}
use Rattle.std.specs.Str.{chars}
use Rattle.plain_laws.proofs.Lists.{all_append}
use Rattle.mm_decimal.specs.MetresTexts.{mm_text}
use Rattle.jtext.specs.Numbers.{IsDigit, IsNumber}
use Rattle.jtext.proofs.CallerLemmas.DecimalTexts.{decimal_written, decimal_number, thousandths_number}
use Rattle.jtext.specs.Characters.{unescaped, escaped, IsChar, AreChars, IsUnescaped, low, middle, high, two}
use Rattle.jtext.specs.Characters.{three_first, three_lower, three_before, three_upper, four_first, four, four_last}
use Rattle.jtext.specs.Values.{Json, null, quoted, Members, Elements, no_element, element, AreBlank, IsArrayBlank, IsValue}
use Rattle.jtext.specs.Values.{AreElements, AreMembers}
use Rattle.plane_base.specs.declared.shapes.Pt.{Pt}
use Rattle.tin_base.specs.declared.pieces.Place.{Place}
use Rattle.tin_base.specs.declared.relations.Rel.{Rel}
use Rattle.tin_base.specs.declared.relations.Rel.TheVariants.{Apart, Touching, Crossing, Overlapping}
use Rattle.report_text.specs.Reports.{IsPrintable, IsPlaceHeld}
use Rattle.ring_side.specs.declared.kinds.Side.{Side}
use Rattle.ring_side.specs.declared.kinds.Side.TheVariants.{Inside, Border, Outside}
use Rattle.ring_side.specs.declared.kinds.Way.{Way}
use Rattle.ring_side.specs.declared.kinds.Way.TheVariants.{Positive, Negative, Zero}
use Rattle.ring_side.specs.declared.kinds.Spot.{Spot}
use Rattle.ring_side.specs.declared.kinds.SideChange.{SideChange}
use Rattle.ring_side.specs.declared.kinds.SideChange.TheVariants.{Turn, Point}
use Rattle.report_text.specs.ReportText.{place_text, relation_word, ring_text, spot_text, way_word, side_word}
use Rattle.layer_features.specs.DrawingFeatures.{is_hexadecimal}
use Rattle.change_places.specs.declared.spots.Style.{Style}
use Rattle.change_places.specs.Words.{LabelWords, PathWords, SideWords, ChangeWords, RingWords, ring_layer}
use Rattle.change_places.specs.Words as words
use Rattle.change_places.specs.PlacesText.{layer_name, was_word, now_word, ring_from, no_path}
use Rattle.change_places.specs.PlacesValue.{plain, position_value, line_value, label_value, copied_value, named_members}
use Rattle.change_places.specs.PlacesValue.{geometry_value, spot_value, dot_value, point_value, lines_value}
use Rattle.change_places.specs.PlacesValue.{name_char, name_chars, at_value, path_members, side_members, turned_members}
use Rattle.change_places.specs.PlacesValue.{place_members, null_members, point_members, ring_properties}
use Rattle.change_places.specs.PlacesValue.{change_members, properties_value, feature_elements, feature_of}
use Rattle.change_places.specs.PlacesValue.{ring_elements, name_elements, shown_value, places_value}
use Rattle.change_places.specs.declared.limits.TheConstants.{MOST_NAMED}
use Rattle.change_places.specs.Laws.{IsPrintedName, IsPointHeld, IsAtHeld, IsLabelHeld, IsPathHeld, IsSideHeld, IsChangeHeld}
use Rattle.change_places.specs.Laws.{IsSpotHeld, IsSideChangeHeld, IsRingHeld}
use Rattle.change_places.proofs.CopiedValues.{IsLabelPlain, IsValueHeld, IsPathValid, IsChangeValid, IsRingValid}

-- ---- numbers
written_number : (mm : ℤ) → unsigned_abs mm < 2 ^ 64 → IsNumber (mm_text mm)
written_number (pos size) small = thousandths_number [] (inl refl) size small
written_number (negsuc size) small = thousandths_number (45 ∷ []) (inr refl) (suc size) small

-- ---- texts of plain characters
-- a byte that is a character by itself
IsPlain : ℕ → Type 0
IsPlain byte = IsChar (unescaped (byte ∷ []))

middle_plain : (byte : ℕ) → 35 ≤ byte → byte ≤ 91 → IsPlain byte
unfolding IsPlain
middle_plain byte from to = (middle, ((from, to), tt))

high_plain : (byte : ℕ) → 93 ≤ byte → byte ≤ 127 → IsPlain byte
unfolding IsPlain
high_plain byte from to = (high, ((from, to), tt))

abbrev is_middle : ℕ → Bool
is_middle byte = nat_le 35 byte && nat_le byte 91

abbrev is_high : ℕ → Bool
is_high byte = nat_le 93 byte && nat_le byte 127

abbrev are_plain : List ℕ → Bool
are_plain [] = true
are_plain (byte ∷ bytes) = (is_middle byte || is_high byte) && are_plain bytes

either_plain : (byte : ℕ) (in_middle in_high : Bool) → is_middle byte ≡ in_middle → is_high byte ≡ in_high
    → (in_middle || in_high) ≡ true → IsPlain byte
either_plain byte true in_high of_middle of_high is =
    let parts = and_parts _ _ of_middle in middle_plain byte (leb-true _ _ parts.0) (leb-true _ _ parts.1)
either_plain byte false true of_middle of_high is =
    let parts = and_parts _ _ of_high in high_plain byte (leb-true _ _ parts.0) (leb-true _ _ parts.1)
either_plain byte false false of_middle of_high is = cc

plain_bytes : (bytes : List ℕ) → are_plain bytes ≡ true → AllByRecursion IsPlain bytes
plain_bytes [] are = tt
plain_bytes (byte ∷ bytes) are = let parts =
    and_parts _ _ are in (
      either_plain byte (is_middle byte) (is_high byte) refl refl parts.0,
      plain_bytes bytes
          parts.1,
    )

plain_digits : (bytes : List ℕ) → AllByRecursion IsDigit bytes → AllByRecursion IsPlain bytes
plain_digits [] are = tt
plain_digits (byte ∷ bytes) are = (
  middle_plain byte (omega (arith, are.0.0)) (omega (arith, are.0.1)),
  plain_digits
      bytes are.1,
)

plain_decimal : (n : ℕ) → n < 2 ^ 64 → AllByRecursion IsPlain (decimal n)
plain_decimal n small = let h = decimal_written n small in subst (AllByRecursion IsPlain) (sym h.is)
    (plain_digits (h.first ∷ h.more) (h.digit, h.digits))

plain_chars : (text : List ℕ) → AllByRecursion IsPlain text → AreChars (plain text)
unfolding IsPlain
plain_chars [] are = tt
plain_chars (byte ∷ text) are = (are.0, plain_chars text are.1)

-- of a literal
pub literal : (text : List ℕ) → are_plain text ≡ true → AreChars (plain text)
literal text are = plain_chars text (plain_bytes text are)

join : (xs ys : List ℕ) → AllByRecursion IsPlain xs → AllByRecursion IsPlain ys → AllByRecursion IsPlain (xs ++ ys)
join xs ys are more = all_append IsPlain xs ys are more

slash : (n : ℕ) → n < 2 ^ 32 → AllByRecursion IsPlain (codes "/" ++ decimal n)
slash n small = (middle_plain 47 (omega arith) (omega arith), plain_decimal n (omega (arith, small)))

place_chars : (place : Place) → IsPlaceHeld place → AreChars (plain (place_text place))
place_chars place held = plain_chars (place_text place) (
    join (decimal place.layer) _ (plain_decimal place.layer (omega (arith, held.layer)))
    (join (codes "/" ++ decimal place.path) _ (slash place.path held.path)
    (join (codes "/" ++ decimal place.segment) _ (slash place.segment held.segment)
    (join (codes "/" ++ decimal place.piece) [] (slash place.piece held.piece) tt))))

relation_chars : (relation : Rel) → AreChars (plain (relation_word relation))
relation_chars Apart = literal (codes "apart") refl
relation_chars Touching = literal (codes "touching") refl
relation_chars Crossing = literal (codes "crossing") refl
relation_chars Overlapping = literal (codes "overlapping") refl

-- ---- characters of names
all_behind : (P : ℕ → Type 0) (xs ys : List ℕ) → AllByRecursion P (xs ++ ys) → AllByRecursion P ys
all_behind P [] ys all = all
all_behind P (x ∷ xs) ys all = all_behind P xs ys all.1

unescaped_two : (c : ℕ) → 128 ≤ c → c < 2048 → IsUnescaped ((192 + c / 64) ∷ next c ∷ [])
unescaped_two c from to = (two, ((omega arith, omega arith), ((omega arith, omega arith), tt)))

unescaped_three : (c : ℕ) → 2048 ≤ c → c < 65536 → (c < 55296) ⊎ (57344 ≤ c)
    → IsUnescaped ((224 + c / 4096) ∷ next (c / 64) ∷ next c ∷ [])
unescaped_three c from to (inr after) = (
  three_upper,
  ((omega arith, omega arith), ((omega arith, omega arith), ((omega arith, omega arith), tt))),
)
unescaped_three c from to (inl before) = elim (cases_lt c 4096) [
  | inl small ↦ (
    three_first,
    (
      (omega arith, omega arith),
      ((omega arith, omega arith), ((omega arith, omega arith), tt)),
    ),
  )
  | inr large ↦ elim (cases_lt c 53248) [
    | inl small ↦ (
      three_lower,
      (
        (omega arith, omega arith),
        ((omega arith, omega arith), ((omega arith, omega arith), tt)),
      ),
    )
    | inr last ↦ (
      three_before,
      (
        (omega arith, omega arith),
        ((omega arith, omega arith), ((omega arith, omega arith), tt)),
      ),
    )
  ]
]

unescaped_four : (c : ℕ) → 65536 ≤ c → c < 1114112
    → IsUnescaped ((240 + c / 262144) ∷ next (c / 4096) ∷ next (c / 64) ∷ next c ∷ [])
unescaped_four c from to = elim (cases_lt c 262144) [
  | inl small ↦ (
    four_first,
    (
      (omega arith, omega arith),
      ((omega arith, omega arith), ((omega arith, omega arith), ((omega arith, omega arith), tt))),
    ),
  )
  | inr large ↦ elim (cases_lt c 1048576) [
    | inl middle_one ↦ (
      four,
      (
        (omega arith, omega arith),
        ((omega arith, omega arith), ((omega arith, omega arith), ((omega arith, omega arith), tt))),
      ),
    )
    | inr last ↦ (
      four_last,
      (
        (omega arith, omega arith),
        ((omega arith, omega arith), ((omega arith, omega arith), ((omega arith, omega arith), tt))),
      ),
    )
  ]
]

surrogates_out : (c : ℕ) → (c < 55296) ⊎ ((57344 ≤ c) × (c < 1114112)) → ((c < 55296) ⊎ (57344 ≤ c)) × (c < 1114112)
surrogates_out c (inl before) = (inl before, omega (arith, before))
surrogates_out c (inr after) = (inr after.0, after.1)

high_char : (c : ℕ) → scalar c ≡ true → 128 ≤ c → IsUnescaped (encode c)
unfolding encode
high_char c is from =
    let (ranges, below) = surrogates_out c (scalar_cases c is) in
    elim (cases_lt c 2048) [
      | inl small ↦ rw (le-ltb c 128 from, lt-ltb c 2048 small) (unescaped_two c from small)
      | inr large ↦ elim (cases_lt c 65536) [
        | inl small ↦ rw (le-ltb c 128 from, le-ltb c 2048 large, lt-ltb c 65536 small)
            (unescaped_three c large small ranges)
        | inr last ↦ rw (le-ltb c 128 from, le-ltb c 2048 large, le-ltb c 65536 last) (unescaped_four c last below)
      ]
    ]

-- of one byte, unless it is escaped
low_char : (c : ℕ) → 32 ≤ c → c < 128 → c ≢ 34 → c ≢ 92 → IsUnescaped (c ∷ [])
low_char c from to no_quote no_solidus = elim (cases_lt c 35) [
  | inl small ↦ (low, ((from, omega (arith, no_quote, small)), tt))
  | inr large ↦ elim (cases_lt c 92) [
    | inl small ↦ (middle, ((large, omega (arith, small)), tt))
    | inr last ↦ (high, ((omega (arith, last, no_solidus), omega (arith, to)), tt))
  ]
]

escaped_is : (c : ℕ) (quote solidus : Bool) → (c == 34) ≡ quote → (c == 92) ≡ solidus
    → (c ≢ 34 → c ≢ 92 → IsUnescaped (encode c)) → IsChar (if quote || solidus then escaped c else unescaped (encode c))
escaped_is c true solidus is_quote is_solidus plainly = inl (eqb-true c 34 is_quote)
escaped_is c false true is_quote is_solidus plainly = inr (inl (eqb-true c 92 is_solidus))
escaped_is c false false is_quote is_solidus plainly = plainly (eqb-false c 34 is_quote) (eqb-false c 92 is_solidus)

name_char_is : (c : ℕ) → scalar c ≡ true → (c < 128 → 32 ≤ c) → IsChar (name_char c)
name_char_is c is printed = escaped_is c (c == 34) (c == 92) refl refl (λ no_quote no_solidus. elim (cases_lt c 128) [
  | inl small ↦ subst IsUnescaped (sym (encode_ascii c small)) (low_char c (printed small) small no_quote no_solidus)
  | inr large ↦ high_char c is large
])

chars_are : (cs : List ℕ) → scalars cs ≡ true → IsPrintable (encodes cs) → AreChars (map name_char cs)
chars_are [] are printed = tt
chars_are (c ∷ cs) are printed =
    let parts = and_parts _ _ are in
    let first : c < 128 → 32 ≤ c = λ small. let all =
    subst (λ (bytes : List ℕ). IsPrintable (bytes ++ encodes cs)) (encode_ascii c small) printed in all.0 in (
      name_char_is c parts.0 first,
      chars_are cs parts.1
          (all_behind (λ byte. 32 ≤ byte) (encode c) (encodes cs) printed),
    )

name_chars_are : (name : List ℕ) → IsPrintedName name → AreChars (name_chars name)
name_chars_are name is = chars_are (chars name) (scalars-chars name is.utf8)
    (subst IsPrintable (sym (encodes-chars name is.utf8)) is.printable)

-- ---- values, of any depth that is enough
pub point_is : (depth : ℕ) (point : Pt) → IsPointHeld point → IsValue (suc depth) (position_value point)
point_is depth point held = (refl, (tt, written_number point.x held.0, tt, (tt, written_number point.y held.1, tt, tt)))

line_is : (depth : ℕ) (a b : Pt) → IsPointHeld a → IsPointHeld b → IsValue (suc (suc depth)) (line_value a b)
line_is depth a b of_a of_b = (refl, (tt, point_is depth a of_a, tt, (tt, point_is depth b of_b, tt, tt)))

lines_is : (depth : ℕ) (a b c d : Pt) → IsPointHeld a → IsPointHeld b → IsPointHeld c → IsPointHeld d
    → IsValue (suc (suc (suc (suc depth)))) (lines_value a b c d)
lines_is depth a b c d of_a of_b of_c of_d = (
  refl,
  (
    tt,
    literal (codes "type") refl,
    tt,
    tt,
    literal (codes "MultiLineString") refl,
    tt,
    (
      tt,
      literal (codes "coordinates") refl,
      tt,
      tt,
      (refl, (tt, line_is depth a b of_a of_b, tt, (tt, line_is depth c d of_c of_d, tt, tt))),
      tt,
      tt,
    ),
  ),
)

dot_is : (depth : ℕ) (a : Pt) → IsPointHeld a → IsValue (suc (suc (suc (suc depth)))) (dot_value a)
dot_is depth a of_a = (
  refl,
  (
    tt,
    literal (codes "type") refl,
    tt,
    tt,
    literal (codes "MultiLineString") refl,
    tt,
    (tt, literal (codes "coordinates") refl, tt, tt, (refl, (tt, line_is depth a a of_a of_a, tt, tt)), tt, tt),
  ),
)

pub one_point_is : (depth : ℕ) (a : Pt) → IsPointHeld a → IsValue (suc (suc (suc (suc depth)))) (point_value a)
one_point_is depth a of_a = (
  refl,
  (
    tt,
    literal (codes "type") refl,
    tt,
    tt,
    literal (codes "Point") refl,
    tt,
    (tt, literal (codes "coordinates") refl, tt, tt, point_is (suc (suc depth)) a of_a, tt, tt),
  ),
)

pub either_is : (depth : ℕ) (one : Bool) (v w : Json) → IsValue depth v → IsValue depth w
    → IsValue depth (if one then v else w)
either_is depth true v w is are = is
either_is depth false v w is are = are

geometry_is : (depth : ℕ) (style : Style) (change : ChangeWords Json) → IsChangeHeld change
    → IsValue (suc (suc (suc (suc depth)))) (geometry_value style change)
geometry_is depth style change held =
    let first = held.first in
    let second = held.second in
    either_is (suc (suc (suc (suc depth)))) style.lines _ _
    (lines_is depth change.first.a change.first.b change.second.a change.second.b first.a first.b second.a second.b)
    (one_point_is depth change.place held.place)

spot_is : (depth : ℕ) (style : Style) (place : Pt) → IsPointHeld place
    → IsValue (suc (suc (suc (suc depth)))) (spot_value style place)
spot_is depth style place held =
    either_is (suc (suc (suc (suc depth)))) style.lines _ _ (dot_is depth place held) (one_point_is depth place held)

at_is : (depth : ℕ) (at : Option ℕ) → IsAtHeld at → IsValue depth (at_value at)
at_is depth None held = tt
at_is depth (Some at) held = decimal_number at (omega (arith, held))

hexdigit_by : (byte : ℕ) (a b c : Bool) → is_in_range 48 57 byte ≡ a → is_in_range 65 70 byte ≡ b
    → is_in_range 97 102 byte ≡ c → ((a || b) || c) ≡ true → IsPlain byte
hexdigit_by byte true b c of_a of_b of_c is =
    let parts = and_parts _ _ of_a in
    let from = leb-true 48 byte parts.0 in let to = leb-true byte 57 parts.1 in
    middle_plain byte (omega (arith, from)) (omega (arith, to))
hexdigit_by byte false true c of_a of_b of_c is =
    let parts = and_parts _ _ of_b in
    let from = leb-true 65 byte parts.0 in let to = leb-true byte 70 parts.1 in
    middle_plain byte (omega (arith, from)) (omega (arith, to))
hexdigit_by byte false false true of_a of_b of_c is =
    let parts = and_parts _ _ of_c in
    let from = leb-true 97 byte parts.0 in let to = leb-true byte 102 parts.1 in
    high_plain byte (omega (arith, from)) (omega (arith, to))
hexdigit_by byte false false false of_a of_b of_c is = cc

hexdigit_plain : (byte : ℕ) → is_ascii_hexdigit byte ≡ true → IsPlain byte
hexdigit_plain byte is = hexdigit_by byte (is_in_range 48 57 byte) (is_in_range 65 70 byte) (is_in_range 97 102 byte) refl
    refl refl is

hexadecimal_plain : (text : List ℕ) → is_hexadecimal text ≡ true → AllByRecursion IsPlain text
hexadecimal_plain text is = let parts = and_parts _ _ is in digits_plain text parts.1
  where
    digits_plain : (text : List ℕ) → list_all is_ascii_hexdigit text ≡ true → AllByRecursion IsPlain text
    digits_plain [] are = tt
    digits_plain (byte ∷ text) are =
        let parts = and_parts _ _ are in (hexdigit_plain byte parts.0, digits_plain text parts.1)

label_is : (depth : ℕ) (label : Option LabelWords) → IsLabelHeld label → IsLabelPlain label
    → IsValue depth (label_value label)
label_is depth None held plain = tt
label_is depth (Some (words.by_number one)) held plain = decimal_number one (omega (arith, held))
label_is depth (Some (words.by_handle text)) held plain = plain_chars text (hexadecimal_plain text plain)

copied_is : (depth : ℕ) (value : Option Json) → IsValueHeld depth value → IsValue depth (copied_value value)
copied_is depth None held = tt
copied_is depth (Some value) held = held

shown_is : (depth : ℕ) (name : List ℕ) → AreChars (name_chars name) → IsValue depth (shown_value name)
shown_is depth name are = either_is depth (nat_lt MOST_NAMED (length name)) null (quoted (name_chars name)) tt are

-- the name of a layer, or none
name_at : (depth : ℕ) (names : List (List ℕ)) (layer : ℕ) → AllByRecursion IsPrintedName names
    → IsValue depth (shown_value (layer_name names layer))
name_at depth [] layer all = shown_is depth [] (rw chars-nil tt)
name_at depth (name ∷ names) zero all = shown_is depth name (name_chars_are name all.0)
name_at depth (name ∷ names) (suc layer) all = name_at depth names layer all.1

names_are : (depth : ℕ) (names : List (List ℕ)) → AllByRecursion IsPrintedName names
    → AreElements depth (name_elements names)
names_are depth [] all = tt
names_are depth (name ∷ names) (own, all) = (tt, name_chars_are name own, tt, names_are depth names all)

-- a member whose name has two parts
two_words : (word part : List ℕ) → AllByRecursion IsPlain word → AllByRecursion IsPlain part
    → AreChars (plain (word ++ part))
two_words word part is are = plain_chars (word ++ part) (join word part is are)

named_is : (depth : ℕ) (asked : Bool) (word : List ℕ) (name : Option Json) (rest : Members)
    → AllByRecursion IsPlain word → IsValueHeld depth name → AreMembers depth rest
    → AreMembers depth (named_members asked word name rest)
unfolding named_members
named_is depth false word name rest plain_word held others = others
named_is depth true word name rest plain_word held others =
    (tt, two_words word (codes "_name") plain_word (plain_bytes (codes "_name") refl), tt, tt, copied_is depth name held, tt, others)

-- where a path is written and its feature, with what comes after that
path_is : (depth : ℕ) (style : Style) (word : List ℕ) (path : PathWords Json) (rest : Members)
    → AllByRecursion IsPlain word → IsPathHeld path → IsPathValid depth path → AreMembers depth rest
    → AreMembers depth (path_members style word path rest)
unfolding path_members
path_is depth style word path rest plain_word held valid others = (
  tt,
  two_words word (codes "_at") plain_word (plain_bytes (codes "_at") refl),
  tt,
  tt,
  at_is depth path.at held.at,
  tt,
  (
    tt,
    two_words word (codes "_feature") plain_word (plain_bytes (codes "_feature") refl),
    tt,
    tt,
    label_is depth path.feature held.feature valid.feature,
    tt,
    (
      tt,
      two_words word (codes "_id") plain_word (plain_bytes (codes "_id") refl),
      tt,
      tt,
      copied_is depth path.id valid.id,
      tt,
      named_is depth style.named word path.name rest plain_word valid.name others,
    ),
  ),
)

-- the properties of one side, with what comes after them
side_is : (depth : ℕ) (style : Style) (word : List ℕ) (names : List (List ℕ)) (side : SideWords Json) (rest : Members)
    → AllByRecursion IsPlain word → AllByRecursion IsPrintedName names → IsSideHeld side
    → IsPathValid depth side.path → AreMembers depth rest → AreMembers depth (side_members style word names side rest)
unfolding side_members
side_is depth style word names side rest plain_word all held valid others = (
  tt,
  two_words word (codes "_layer") plain_word (plain_bytes (codes "_layer") refl),
  tt,
  tt,
  name_at depth names side.from.layer all,
  tt,
  (
    tt,
    plain_chars word plain_word,
    tt,
    tt,
    place_chars side.from held.from,
    tt,
    path_is depth style word side.path rest plain_word held.path valid others,
  ),
)

change_is : (depth count : ℕ) (change : ChangeWords Json) (rest : Members) → count < 2 ^ 64 → IsChangeHeld change
    → AreMembers depth rest → AreMembers depth (change_members count change rest)
unfolding change_members
change_is depth count change rest few held others = (
  tt,
  literal (codes "change") refl,
  tt,
  tt,
  decimal_number count few,
  tt,
  (
    tt,
    literal (codes "was") refl,
    tt,
    tt,
    relation_chars change.was,
    tt,
    (
      tt,
      literal (codes "now") refl,
      tt,
      tt,
      relation_chars change.now,
      tt,
      (tt, literal (codes "gap_mm") refl, tt, tt, decimal_number change.gap held.gap, tt, others),
    ),
  ),
)

-- ---- changes of sides
way_chars : (way : Way) → AreChars (plain (way_word way))
way_chars Positive = literal (codes "positive") refl
way_chars Negative = literal (codes "negative") refl
way_chars Zero = literal (codes "zero") refl

side_chars : (side : Side) → AreChars (plain (side_word side))
side_chars Inside = literal (codes "inside") refl
side_chars Border = literal (codes "border") refl
side_chars Outside = literal (codes "outside") refl

was_chars : (change : SideChange) → AreChars (plain (was_word change))
was_chars (Turn layer path was now) = way_chars was
was_chars (Point layer path at was now) = side_chars was

now_chars : (change : SideChange) → AreChars (plain (now_word change))
now_chars (Turn layer path was now) = way_chars now
now_chars (Point layer path at was now) = side_chars now

ring_chars : (layer path : ℕ) → layer < 2 ^ 32 → path < 2 ^ 32 → AreChars (plain (ring_text layer path))
ring_chars layer path of_layer of_path = plain_chars (ring_text layer path) (
    join (decimal layer) _ (plain_decimal layer (omega (arith, of_layer)))
    (join (codes "/" ++ decimal path) [] (slash path of_path) tt))

spot_chars : (spot : Spot) → IsSpotHeld spot → AreChars (plain (spot_text spot))
spot_chars spot held = plain_chars (spot_text spot) (
    join (decimal spot.layer) _ (plain_decimal spot.layer (omega (arith, held.0)))
    (join (codes "/" ++ decimal spot.path) _ (slash spot.path held.1)
    (join (codes "/" ++ decimal spot.vertex) [] (slash spot.vertex held.2) tt)))

from_chars : (change : SideChange) → IsSideChangeHeld change → AreChars (plain (ring_from change))
from_chars (Turn layer path was now) held = ring_chars layer path held.0 held.1
from_chars (Point layer path at was now) held = ring_chars layer path held.0 held.1

turned_is : (depth count : ℕ) (change : SideChange) (rest : Members) → count < 2 ^ 64 → AreMembers depth rest
    → AreMembers depth (turned_members count change rest)
unfolding turned_members
turned_is depth count change rest few others = (
  tt,
  literal (codes "side") refl,
  tt,
  tt,
  decimal_number count few,
  tt,
  (
    tt,
    literal (codes "was") refl,
    tt,
    tt,
    was_chars change,
    tt,
    (tt, literal (codes "now") refl, tt, tt, now_chars change, tt, others),
  ),
)

place_is : (depth : ℕ) (style : Style) (word name from : List ℕ) (path : PathWords Json) (rest : Members)
    → AllByRecursion IsPlain word → IsValue depth (shown_value name) → AreChars (plain from) → IsPathHeld path
    → IsPathValid depth path → AreMembers depth rest → AreMembers depth (place_members style word name from path rest)
unfolding place_members
place_is depth style word name from path rest plain_word shown chars_from held valid others = (
  tt,
  two_words word (codes "_layer") plain_word (plain_bytes (codes "_layer") refl),
  tt,
  tt,
  shown,
  tt,
  (
    tt,
    plain_chars word plain_word,
    tt,
    tt,
    chars_from,
    tt,
    path_is depth style word path rest plain_word held valid others,
  ),
)

nulls_are : (depth : ℕ) (style : Style) (word : List ℕ) (rest : Members) → AllByRecursion IsPlain word
    → AreMembers depth rest → AreMembers depth (null_members style word rest)
unfolding null_members
nulls_are depth style word rest plain_word others = (
  tt,
  two_words word (codes "_layer") plain_word (plain_bytes (codes "_layer") refl),
  tt,
  tt,
  tt,
  tt,
  (
    tt,
    plain_chars word plain_word,
    tt,
    tt,
    tt,
    tt,
    path_is depth style word no_path rest plain_word (record { at = tt; feature = tt })
        (record { feature = tt; id = tt; name = tt }) others,
  ),
)

point_members_are : (depth : ℕ) (style : Style) (names : List (List ℕ)) (change : SideChange) (path : PathWords Json)
    (rest : Members) → AllByRecursion IsPrintedName names → IsSideChangeHeld change → IsPathHeld path
    → IsPathValid depth path → AreMembers depth rest → AreMembers depth (point_members style names change path rest)
point_members_are depth style names (Turn layer number was now) path rest all change_held held valid others =
    nulls_are depth style (codes "point") rest (plain_bytes (codes "point") refl) others
point_members_are depth style names (Point layer number at was now) path rest all change_held held valid others =
    place_is depth style (codes "point") (layer_name names at.layer) (spot_text at) path rest
    (plain_bytes (codes "point") refl) (name_at depth names at.layer all) (spot_chars at change_held.2) held valid others

-- ---- features
pub feature_by : (depth : ℕ) (geometry properties : Json) → IsValue (suc (suc (suc (suc depth)))) geometry
    → IsValue (suc (suc (suc (suc depth)))) properties
    → IsValue (suc (suc (suc (suc (suc depth))))) (feature_of geometry properties)
unfolding feature_of
feature_by depth geometry properties is are = (
  refl,
  (
    tt,
    literal (codes "type") refl,
    tt,
    tt,
    literal (codes "Feature") refl,
    tt,
    (
      tt,
      literal (codes "geometry") refl,
      tt,
      tt,
      is,
      tt,
      (tt, literal (codes "properties") refl, tt, tt, are, tt, tt),
    ),
  ),
)

properties_are : (depth : ℕ) (style : Style) (names : List (List ℕ)) (count : ℕ) (change : ChangeWords Json)
    → AllByRecursion IsPrintedName names → count < 2 ^ 64 → IsChangeHeld change → IsChangeValid depth change
    → IsValue (suc depth) (properties_value style names count change)
unfolding properties_value change_members
properties_are depth style names count change all few held valid = (
  refl,
  change_is depth count change _ few held (side_is depth style (codes "first") names change.first _
      (plain_bytes (codes "first") refl) all held.first valid.first
      (side_is depth style (codes "second") names change.second _ (plain_bytes (codes "second") refl) all held.second
      valid.second tt)),
)

ring_properties_are : (depth : ℕ) (style : Style) (names : List (List ℕ)) (count : ℕ) (ring : RingWords Json)
    → AllByRecursion IsPrintedName names → count < 2 ^ 64 → IsRingHeld ring → IsRingValid depth ring
    → IsValue (suc depth) (ring_properties style names count ring)
unfolding ring_properties turned_members
ring_properties_are depth style names count ring all few held valid = (
  refl,
  turned_is depth count ring.change _ few
      (place_is depth style (codes "ring") (layer_name names (ring_layer ring.change)) (ring_from ring.change) ring.ring _
      (plain_bytes (codes "ring") refl) (name_at depth names (ring_layer ring.change) all)
      (from_chars ring.change held.change) held.ring valid.ring
      (point_members_are depth style names ring.change ring.point _ all held.change held.point valid.point tt)),
)

pub line_feed : AreBlank (10 ∷ [])
line_feed = (inr (inr (inl refl)), tt)

module _ (depth : ℕ) (style : Style) (names : List (List ℕ)) (all : AllByRecursion IsPrintedName names) where
  rings_are : (count : ℕ) (rings : List (RingWords Json)) → count + length rings < 2 ^ 64
      → AllByRecursion IsRingHeld rings → AllByRecursion (IsRingValid (suc (suc (suc depth)))) rings
      → AreElements (suc (suc (suc (suc (suc depth))))) (ring_elements style names count rings)
  rings_are count [] few held valid = tt
  rings_are count (ring ∷ rings) few held valid = (
    line_feed,
    feature_by depth (spot_value style ring.place) (ring_properties style names count ring)
        (let own = held.0 in spot_is depth style ring.place own.place)
        (ring_properties_are (suc (suc (suc depth))) style names count ring all (omega (arith, few)) held.0 valid.0),
    tt,
    rings_are (count + 1) rings (omega (arith, few)) held.1 valid.1,
  )

  features_are : (count : ℕ) (changes : List (ChangeWords Json)) (rings : List (RingWords Json))
      → count + length changes < 2 ^ 64 → AllByRecursion IsChangeHeld changes
      → AllByRecursion (IsChangeValid (suc (suc (suc depth)))) changes
      → length rings < 2 ^ 64 → AllByRecursion IsRingHeld rings
      → AllByRecursion (IsRingValid (suc (suc (suc depth)))) rings
      → AreElements (suc (suc (suc (suc (suc depth))))) (feature_elements style names count changes rings)
  features_are count [] rings few held valid ring_few rings_held rings_valid =
      rings_are 0 rings (omega (arith, ring_few)) rings_held rings_valid
  features_are count (change ∷ changes) rings few held valid ring_few rings_held rings_valid = (
    line_feed,
    feature_by depth (geometry_value style change) (properties_value style names count change)
        (geometry_is depth style change held.0)
        (properties_are (suc (suc (suc depth))) style names count change all (omega (arith, few)) held.0 valid.0),
    tt,
    features_are (count + 1) changes rings (omega (arith, few)) held.1 valid.1 ring_few rings_held rings_valid,
  )

pub no_blank : (elements : Elements) → IsArrayBlank [] elements
no_blank no_element = tt
no_blank (element before value after rest) = refl

pub places_are : (depth : ℕ) (style : Style) (names : List (List ℕ)) (changes : List (ChangeWords Json))
    (rings : List (RingWords Json)) → AllByRecursion IsPrintedName names
    → length changes < 2 ^ 64 → AllByRecursion IsChangeHeld changes
    → AllByRecursion (IsChangeValid (suc (suc (suc depth)))) changes
    → length rings < 2 ^ 64 → AllByRecursion IsRingHeld rings → AllByRecursion (IsRingValid (suc (suc (suc depth)))) rings
    → IsValue (suc (suc (suc (suc (suc (suc (suc depth))))))) (places_value style names changes rings)
places_are depth style names changes rings all few held valid ring_few rings_held rings_valid = (
  refl,
  (
    tt,
    literal (codes "type") refl,
    tt,
    tt,
    literal (codes "FeatureCollection") refl,
    tt,
    (
      tt,
      literal (codes "crs") refl,
      tt,
      tt,
      tt,
      tt,
      (
        tt,
        literal (codes "layers") refl,
        tt,
        tt,
        (no_blank (name_elements names), names_are _ names all),
        tt,
        (
          tt,
          literal (codes "features") refl,
          tt,
          tt,
          (
            no_blank (feature_elements style names 0 changes rings),
            features_are depth style names all 0 changes rings (omega (arith, few)) held valid ring_few rings_held
                rings_valid,
          ),
          tt,
          tt,
        ),
      ),
    ),
  ),
)
