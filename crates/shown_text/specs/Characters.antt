-- How a character is shown to a person.
use Rattle.std.specs.Prelude.{ℕ, ◌/◌, ◌%◌, Bool, ◌&&◌, ◌||◌, ◌==◌, nat_le, nat_lt, if◌then◌else◌, List, [], ◌∷◌, length}
use Rattle.std.specs.Char.{digit_char, encode_utf8}

-- a code from the one to the other
abbrev pub is_from_to : ℕ → ℕ → ℕ → Bool
is_from_to first last code = nat_le first code && nat_le code last

-- The character is an order to a terminal, or to the line that it is in. It is a control character, a separator of
-- lines or paragraphs, or a mark, an override or an isolate of the direction of text (Unicode Standard Annex 9,
-- section 2).
abbrev pub is_order : ℕ → Bool
is_order code = is_from_to 0 31 code || (is_from_to 127 159 code || (code == 0x61c || (is_from_to 0x200e 0x200f code
    || (is_from_to 0x2028 0x202e code || is_from_to 0x2066 0x2069 code))))

-- the two last digits of a code in base 16
abbrev pub two_digits : ℕ → List ℕ
two_digits code = digit_char (code / 16 % 16) ∷ digit_char (code % 16) ∷ []

-- an order is written as \x and two digits of base 16, or as \u and four of them
abbrev pub escape_of : ℕ → List ℕ
escape_of code = if nat_lt code 256 then 92 ∷ 120 ∷ two_digits code
    else 92 ∷ 117 ∷ digit_char (code / 4096) ∷ digit_char (code / 256 % 16) ∷ two_digits code

-- the bytes of a character that is shown: an order's escape, any other as it is
abbrev pub shown_character : ℕ → List ℕ
shown_character code = if is_order code then escape_of code else encode_utf8 code

abbrev pub size_of : ℕ → ℕ
size_of code = length (shown_character code)
