-- What the bytes show at the place of a layer's fault, beyond the fault itself.
use Rattle.std.specs.Prelude.{ℕ, ◌-◌, Bool, false, eqb, nat_le, ◌&&◌, ◌||◌, List, [], ◌∷◌, length, take, drop, Option, Some}
use Rattle.std.specs.Prelude.{None, codes, if◌then◌else◌, take_while}
use Rattle.std.specs.Char.{is_ascii_alphabetic, is_ascii_digit}
use Rattle.std.specs.List.{suffix_len, starts_with, ends_with}
use Rattle.sheet_base.specs.declared.faults.LayerFault.{LayerFault}
use Rattle.sheet_base.specs.declared.faults.LayerFault.TheVariants as faults
use Rattle.remarks.specs.declared.sights.Sight.{Sight}
use Rattle.remarks.specs.declared.sights.Sight.TheVariants.{Plain, ByteOrderMark, SecondGeometry, NumberTooMany}
use Rattle.remarks.specs.declared.sights.Sight.TheVariants.{FileEnd, Packed, TwoByteText, Dwg, GluedMark}
use Rattle.remarks.specs.declared.sights.Sight.TheVariants.{FrameNumber, Topology, SecondObject}
use Rattle.remarks.specs.LayerTables.{finding_of, cure_of}

-- ---- the bytes at a place
-- the bytes begin with the byte order mark of UTF-8
abbrev pub has_mark : List ℕ → Bool
has_mark bytes = starts_with eqb bytes (0xEF ∷ 0xBB ∷ 0xBF ∷ [])

-- the bytes begin as a file that gzip packed (RFC 1952, section 2.3.1)
abbrev pub is_packed : List ℕ → Bool
is_packed bytes = starts_with eqb bytes (0x1F ∷ 0x8B ∷ [])

-- the bytes begin with a byte order mark of UTF-16 (RFC 2781, section 3.2)
abbrev pub is_two_byte_text : List ℕ → Bool
is_two_byte_text bytes = starts_with eqb bytes (0xFF ∷ 0xFE ∷ []) || starts_with eqb bytes (0xFE ∷ 0xFF ∷ [])

-- the bytes begin as a drawing in DWG form does
abbrev pub has_drawing_mark : List ℕ → Bool
has_drawing_mark bytes = starts_with eqb bytes (codes "AC10")

-- the first byte passes the test
abbrev pub is_first : (ℕ → Bool) → List ℕ → Bool
is_first test [] = false
is_first test (byte ∷ rest) = test byte

-- a digit, a sign or a point
abbrev pub is_of_number : ℕ → Bool
is_of_number byte = is_ascii_digit byte || eqb byte 43 || eqb byte 45 || eqb byte 46

-- a blank or a tab
abbrev pub is_blank_byte : ℕ → Bool
is_blank_byte byte = eqb byte 32 || eqb byte 9

-- the bytes without the blanks at their end
abbrev pub without_blanks_of : List ℕ → List ℕ
without_blanks_of bytes = take (length bytes - suffix_len is_blank_byte bytes) bytes

-- the last byte that is no blank is a closing bracket
abbrev pub is_behind_bracket : List ℕ → Bool
is_behind_bracket bytes = ends_with eqb (without_blanks_of bytes) (41 ∷ [])

-- a word begins at the place, on a line on which a closing bracket ended a geometry before it
abbrev pub is_second : List ℕ → ℕ → Bool
is_second bytes at = is_first is_ascii_alphabetic (drop at bytes) && is_behind_bracket (take at bytes)

-- a blank, a tab, or a byte that ends a line
abbrev pub is_space_byte : ℕ → Bool
is_space_byte byte = eqb byte 32 || eqb byte 9 || eqb byte 10 || eqb byte 13

-- the bytes without such bytes at their end
abbrev pub without_spaces_of : List ℕ → List ℕ
without_spaces_of bytes = take (length bytes - suffix_len is_space_byte bytes) bytes

-- an object begins at the place, after the end of another
abbrev pub is_object_behind : List ℕ → ℕ → Bool
is_object_behind bytes at =
    starts_with eqb (drop at bytes) (codes "{") && ends_with eqb (without_spaces_of (take at bytes)) (codes "}")

-- the letters at the front
abbrev pub first_word_of : List ℕ → List ℕ
first_word_of bytes = take_while is_ascii_alphabetic bytes

-- A word ends with the letter that marks heights or measures. No kind of well-known text ends with one of these.
abbrev pub has_glued_mark : List ℕ → Bool
has_glued_mark word = ends_with eqb word (codes "Z") || ends_with eqb word (codes "z") || ends_with eqb word (codes "M")
    || ends_with eqb word (codes "m")

-- ---- of a fault
-- at the head of a file
abbrev pub sight_of_head : List ℕ → Sight
sight_of_head bytes = if has_mark bytes then ByteOrderMark else (if is_packed bytes then Packed else
    (if is_two_byte_text bytes then TwoByteText else (if has_drawing_mark bytes then Dwg else Plain)))

-- where a text is refused
abbrev pub sight_of_text : List ℕ → ℕ → Sight
sight_of_text bytes at = if nat_le (length bytes) at then FileEnd else
    (if eqb at 0 then sight_of_head bytes else Plain)

abbrev pub sight_of_bad : List ℕ → ℕ → Sight
sight_of_bad bytes at = if is_second bytes at then SecondGeometry else
    (if is_object_behind bytes at then SecondObject else sight_of_text bytes at)

abbrev pub sight_of_code : List ℕ → ℕ → Sight
sight_of_code bytes line = if eqb line 1 then sight_of_head bytes else Plain

abbrev pub sight_of_height : List ℕ → ℕ → Sight
sight_of_height bytes at = if is_first is_of_number (drop at bytes) then NumberTooMany else Plain

-- what a text begins with that is no geometry of a kind that is read
abbrev pub sight_of_kind : List ℕ → Sight
sight_of_kind text = if has_glued_mark (first_word_of text) then GluedMark else
    (if starts_with eqb text (codes "SRID=") then FrameNumber else
    (if starts_with eqb text (codes "\"Topology\"") then Topology else Plain))

abbrev pub sight_inside : LayerFault → List ℕ → Sight
sight_inside (faults.Bad at) bytes = sight_of_bad bytes at
sight_inside (faults.Code line) bytes = sight_of_code bytes line
sight_inside (faults.Height at) bytes = sight_of_height bytes at
sight_inside (faults.Kind at) bytes = sight_of_kind (drop at bytes)
sight_inside fault bytes = Plain

abbrev pub sight_of : LayerFault → Option (List ℕ) → Sight
sight_of fault None = Plain
sight_of fault (Some bytes) = sight_inside fault bytes

-- ---- in words
abbrev pub seen_finding_of : LayerFault → Sight → List ℕ
seen_finding_of fault Plain = finding_of fault
seen_finding_of fault ByteOrderMark = codes "a byte order mark"
seen_finding_of fault SecondGeometry = codes "a second geometry on one line"
seen_finding_of fault NumberTooMany = codes "a number too many"
seen_finding_of fault FileEnd = codes "the file ends here"
seen_finding_of fault Packed = codes "a packed file"
seen_finding_of fault TwoByteText = codes "a text in UTF-16"
seen_finding_of fault Dwg = codes "a drawing in DWG form"
seen_finding_of fault GluedMark = codes "a kind and its mark in one word"
seen_finding_of fault FrameNumber = codes "the number of a frame before a geometry"
seen_finding_of fault Topology = codes "a TopoJSON object"
seen_finding_of fault SecondObject = codes "a second object"

abbrev pub seen_cure_of : LayerFault → Sight → Option (List ℕ)
seen_cure_of fault Plain = cure_of fault
seen_cure_of fault ByteOrderMark = Some (codes "save the file without it")
seen_cure_of fault SecondGeometry = Some (codes "write one geometry a line")
seen_cure_of fault NumberTooMany = cure_of fault
seen_cure_of fault FileEnd = Some (codes "it is empty or cut off: write it again")
seen_cure_of fault Packed = Some (codes "unpack it by: gunzip")
seen_cure_of fault TwoByteText = Some (codes "save it as UTF-8")
seen_cure_of fault Dwg = Some (codes "save it as ASCII DXF")
seen_cure_of fault GluedMark = Some (codes "write a blank between them")
seen_cure_of fault FrameNumber = Some (codes "it is left out by: sed 's/SRID=[0-9]*;//'")
seen_cure_of fault Topology = Some (codes "GeoJSON is made of it by: ogr2ogr -f GeoJSON")
seen_cure_of fault SecondObject = Some (codes "one feature a line becomes one object by: ogr2ogr -f GeoJSON")
