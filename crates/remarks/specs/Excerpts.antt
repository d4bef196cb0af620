-- What is shown of the bytes at a place.
use Rattle.std.specs.Prelude.{ℕ, Bool, not, eqb, ◌&&◌, ◌||◌, List, take, drop, take_while}
use Rattle.std.specs.Char.{is_ascii_graphic}
use Rattle.remarks.specs.declared.excerpts.TheConstants.{MOST_SHOWN}

-- a comma, or one of ( ) [ ] { }
abbrev pub is_bracket_byte : ℕ → Bool
is_bracket_byte byte = eqb byte 44 || eqb byte 40 || eqb byte 41 || eqb byte 91 || eqb byte 93 || eqb byte 123 || eqb
    byte
    125

-- printable ASCII other than the blank, the comma and brackets
abbrev pub is_shown_byte : ℕ → Bool
is_shown_byte byte = is_ascii_graphic byte && not (is_bracket_byte byte)

-- the first bytes at the place, at most `MOST_SHOWN`, as far as they are shown
abbrev pub excerpt_of : List ℕ → ℕ → List ℕ
excerpt_of bytes at = take_while is_shown_byte (take MOST_SHOWN (drop at bytes))
