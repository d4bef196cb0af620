-- Characters between quotation marks (RFC 8259, sections 7 and 8; UTF-8 by RFC 3629, section 4).
use Rattle.std.specs.Prelude.{◌≡◌, ℕ, ◌+◌, ◌-◌, ◌*◌, ◌/◌, ◌%◌, ◌≤◌, ◌⊎◌, nat_lt, nat_le, ◌==◌, if◌then◌else◌, List, []}
use Rattle.std.specs.Prelude.{◌∷◌, ◌++◌}
use Rattle.std.specs.List.{AllByRecursion}

-- which bytes may be in one place
pub data Class : Type 0 where
  from_to : ℕ → ℕ → Class
  hexadecimal : Class

-- the byte is one of 0 to 9, A to F, a to f
abbrev pub IsHexadecimal : ℕ → Type 0
IsHexadecimal byte = ((48 ≤ byte) × (byte ≤ 57)) ⊎ ((65 ≤ byte) × (byte ≤ 70)) ⊎ ((97 ≤ byte) × (byte ≤ 102))

abbrev pub IsOf : Class → ℕ → Type 0
IsOf (from_to low high) byte = (low ≤ byte) × (byte ≤ high)
IsOf hexadecimal byte = IsHexadecimal byte

-- each byte is of the class in its place
abbrev pub Fits : List Class → List ℕ → Type 0
Fits [] [] = Unit {0}
Fits [] (byte ∷ bytes) = ⊥
Fits (class ∷ classes) [] = ⊥
Fits (class ∷ classes) (byte ∷ bytes) = IsOf class byte × Fits classes bytes

-- the bytes of UTF8-tail
abbrev pub tail : Class
tail = from_to 0x80 0xBF

-- The forms of a code point in UTF-8. Control characters of one byte, quotation marks and reverse solidi
-- are not by themselves between quotation marks.
pub data Form : Type 0 where
  low : Form
  middle : Form
  high : Form
  two : Form
  three_first : Form
  three_lower : Form
  three_before : Form
  three_upper : Form
  four_first : Form
  four : Form
  four_last : Form

abbrev pub classes : Form → List Class
classes low = from_to 0x20 0x21 ∷ []
classes middle = from_to 0x23 0x5B ∷ []
classes high = from_to 0x5D 0x7F ∷ []
classes two = from_to 0xC2 0xDF ∷ tail ∷ []
classes three_first = from_to 0xE0 0xE0 ∷ from_to 0xA0 0xBF ∷ tail ∷ []
classes three_lower = from_to 0xE1 0xEC ∷ tail ∷ tail ∷ []
classes three_before = from_to 0xED 0xED ∷ from_to 0x80 0x9F ∷ tail ∷ []
classes three_upper = from_to 0xEE 0xEF ∷ tail ∷ tail ∷ []
classes four_first = from_to 0xF0 0xF0 ∷ from_to 0x90 0xBF ∷ tail ∷ tail ∷ []
classes four = from_to 0xF1 0xF3 ∷ tail ∷ tail ∷ tail ∷ []
classes four_last = from_to 0xF4 0xF4 ∷ from_to 0x80 0x8F ∷ tail ∷ tail ∷ []

-- one code point in UTF-8, which is by itself
abbrev pub IsUnescaped : List ℕ → Type 0
IsUnescaped bytes = (form : Form) × Fits (classes form) bytes

-- A character as it is written: the bytes of a code point, a reverse solidus and a byte, or a reverse
-- solidus, u and four hexadecimal digits.
pub data Char : Type 0 where
  unescaped : List ℕ → Char
  escaped : ℕ → Char
  coded : List ℕ → Char

-- the byte after a reverse solidus: one of " \ / b f n r t
abbrev pub IsEscape : ℕ → Type 0
IsEscape byte = (byte ≡ 34) ⊎ (byte ≡ 92) ⊎ (byte ≡ 47) ⊎ (byte ≡ 98) ⊎ (byte ≡ 102) ⊎ (byte ≡ 110) ⊎ (byte ≡ 114)
    ⊎ (byte ≡ 116)

abbrev pub IsChar : Char → Type 0
IsChar (unescaped bytes) = IsUnescaped bytes
IsChar (escaped byte) = IsEscape byte
IsChar (coded digits) = Fits (hexadecimal ∷ hexadecimal ∷ hexadecimal ∷ hexadecimal ∷ []) digits

abbrev pub AreChars : List Char → Type 0
AreChars chars = AllByRecursion IsChar chars

abbrev pub char_text : Char → List ℕ
char_text (unescaped bytes) = bytes
char_text (escaped byte) = 92 ∷ byte ∷ []
char_text (coded digits) = 92 ∷ 117 ∷ digits

-- the characters, one after the other
abbrev pub chars_text : List Char → List ℕ
chars_text [] = []
chars_text (char ∷ chars) = char_text char ++ chars_text chars

-- What a text says with its escapes resolved is a list of UTF-16 code units, in which an escape \uXXXX is
-- the unit XXXX, paired or not (RFC 8259, sections 7 and 8.3). In a text of ASCII the units are the bytes.

-- the code point that bytes of UTF-8 stand for
abbrev pub code_point : List ℕ → ℕ
code_point (a ∷ []) = a
code_point (a ∷ b ∷ []) = (a - 0xC0) * 64 + (b - 0x80)
code_point (a ∷ b ∷ c ∷ []) = ((a - 0xE0) * 64 + (b - 0x80)) * 64 + (c - 0x80)
code_point (a ∷ b ∷ c ∷ d ∷ []) = (((a - 0xF0) * 64 + (b - 0x80)) * 64 + (c - 0x80)) * 64 + (d - 0x80)
code_point bytes = 0

-- one unit up to FFFF, a pair of surrogates above
abbrev pub units_of_point : ℕ → List ℕ
units_of_point point =
    if nat_lt point 0x10000 then point ∷ []
    else (0xD800 + (point - 0x10000) / 0x400) ∷ (0xDC00 + (point - 0x10000) % 0x400) ∷ []

-- backspace, form feed, line feed, carriage return and tab for b, f, n, r and t; the others mean themselves
abbrev pub meaning : ℕ → ℕ
meaning byte =
    if byte == 98 then 8
    else if byte == 102 then 12
    else if byte == 110 then 10
    else if byte == 114 then 13
    else if byte == 116 then 9
    else byte

abbrev pub digit_value : ℕ → ℕ
digit_value byte = if nat_le byte 57 then byte - 48 else if nat_le byte 70 then byte - 55 else byte - 87

-- the number that hexadecimal digits after another number make
abbrev pub hexadecimal_value : ℕ → List ℕ → ℕ
hexadecimal_value number [] = number
hexadecimal_value number (digit ∷ digits) = hexadecimal_value (16 * number + digit_value digit) digits

abbrev pub units_of_char : Char → List ℕ
units_of_char (unescaped bytes) = units_of_point (code_point bytes)
units_of_char (escaped byte) = meaning byte ∷ []
units_of_char (coded digits) = hexadecimal_value 0 digits ∷ []

-- the text with its escapes resolved
abbrev pub units_of : List Char → List ℕ
units_of [] = []
units_of (char ∷ chars) = units_of_char char ++ units_of chars
