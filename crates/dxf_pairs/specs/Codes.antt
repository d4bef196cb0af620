-- Group codes: whole numbers from -9999 to 9999, with blanks round them.
use Rattle.std.specs.Prelude.{ℕ, ℤ, Bool, ◌&&◌, if◌then◌else◌, List, length, nat_lt, nat_le, Option, None, Some}
use Rattle.std.specs.Str.{all_ascii_digits}
use Rattle.std.specs.Str.Parse.{digits_value, without_leading_sign, signed_digits_value}
use Rattle.dxf_pairs.specs.Values.{value_of}
use Rattle.dxf_pairs.specs.declared.codes.TheConstants.{MOST_CODE}

-- one digit or more, and a value that is not too great
abbrev pub are_code_digits : List ℕ → Bool
are_code_digits digits = nat_lt 0 (length digits) && all_ascii_digits digits && nat_le (digits_value 10 digits)
    MOST_CODE

-- the number of a text that is an optional sign and such digits
abbrev pub number_of : List ℕ → Option ℤ
number_of text = if are_code_digits (without_leading_sign text) then Some (signed_digits_value 10 text) else None

-- the group code of a line, where it has one
abbrev pub code_of : List ℕ → Option ℤ
code_of line = number_of (value_of line)
