-- What comes after digits.
use Rattle.std.specs.Prelude.{◌≡◌, ℕ, false, List, [], ◌∷◌}
use Rattle.std.specs.Char.{is_ascii_digit}

-- the text is at its end, or goes on with a byte that is no digit
abbrev pub Stops : List ℕ → Type 0
Stops [] = Unit {0}
Stops (byte ∷ rest) = is_ascii_digit byte ≡ false
