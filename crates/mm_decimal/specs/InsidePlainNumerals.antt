-- Plain numerals: digits, and perhaps a point and up to three digits. Only private functions speak of them.
use Rattle.std.specs.Prelude.{◌≡◌, ℕ, ◌*◌, ◌^◌, ◌<◌, List, ◌++◌, length, Option}
use Rattle.std.specs.List.{AllByRecursion}
use Rattle.mm_decimal.specs.Numerals.{IsDigit, number_of, fraction_text, fraction_digits}

-- digits that write this number
pub record Write (digits : List ℕ) (number : ℕ) : Type 0 where
  pub all : AllByRecursion IsDigit digits
  pub worth : number ≡ number_of digits

-- a plain numeral of this many thousandths
pub record IsPlain (text : List ℕ) (size : ℕ) : Type 0 where
  pub whole : List ℕ
  pub fraction : Option (List ℕ)
  pub is : text ≡ whole ++ fraction_text fraction
  pub some : 0 < length whole
  pub whole_are : AllByRecursion IsDigit whole
  pub fraction_are : AllByRecursion IsDigit (fraction_digits fraction)
  pub worth : 1000 * number_of (whole ++ fraction_digits fraction) ≡ size * 10 ^ length (fraction_digits fraction)
