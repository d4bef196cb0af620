-- Numbers at the start of a text. Only private functions speak of them.
use Rattle.std.specs.Prelude.{◌≡◌, ℕ, ◌<◌, ◌^◌, Bool, List, ◌∷◌, ◌++◌, length, slice_index, decimal}
use Rattle.text_places.specs.Digits.{Stops}
use Rattle.cert_check.specs.Certificates.{separator}

-- the first of several digits is 0
abbrev pub HasLeadingZero : List ℕ → Type 0
HasLeadingZero digits = (1 < length digits) × (slice_index digits 0 ≡ 48)

-- the text begins with this number, and the rest comes after its digits
pub record IsNumber (text : List ℕ) (number : ℕ) (rest : List ℕ) : Type 0 where
  pub small : number < 2 ^ 32
  pub spelled : text ≡ decimal number ++ rest
  pub stops : Stops rest

-- the text begins with this number, and with what ends it: it is the last one of its line, or another comes after it
pub record IsEnded (text : List ℕ) (number : ℕ) (last : Bool) (rest : List ℕ) : Type 0 where
  pub small : number < 2 ^ 32
  pub spelled : text ≡ decimal number ++ separator last ∷ rest
