-- What one step over the characters of a text finds. Only private functions speak of it.
use Rattle.std.specs.Prelude.{◌≡◌, ℕ, ◌≤◌, List, [], ◌∷◌, ◌++◌, take, drop, Option, Some, None}
use Rattle.jtext.specs.Characters.{Char, AreChars, chars_text, units_of, units_of_char}

-- outside of ASCII
abbrev pub IsOutside : Char → Type 0
IsOutside char = (unit : ℕ) × (more : List ℕ) × (units_of_char char ≡ unit ∷ more) × (128 ≤ unit)

-- The one unit of the character and the place where the rest begins; or none, since it is outside.
abbrev pub UnitOf : List ℕ → Char → List ℕ → Option (ℕ × ℕ) → Type 0
UnitOf raw char rest None = IsOutside char
UnitOf raw char rest (Some found) = (units_of_char char ≡ found.0 ∷ []) × (drop found.1 raw ≡ rest)

-- The characters of the bytes from a place on are left, and the units of the others are the first part of the text of
-- this length.
abbrev pub IsLeft : List ℕ → List ℕ → ℕ → ℕ → Type 0
IsLeft raw text at count = (chars : List Char) → AreChars chars → raw ≡ chars_text chars
    → (rest : List Char) × AreChars rest × (drop at raw ≡ chars_text rest)
    × (units_of chars ≡ take count text ++ units_of rest)
