-- Numbers (RFC 8259, section 6).
use Rattle.std.specs.Prelude.{◌≡◌, ℕ, ◌≤◌, ◌<◌, ◌⊎◌, List, [], ◌∷◌, ◌++◌, length}
use Rattle.std.specs.List.{AllByRecursion}

-- the bytes 0 to 9
abbrev pub IsDigit : ℕ → Type 0
IsDigit byte = (48 ≤ byte) × (byte ≤ 57)

-- digits, at least one
abbrev pub AreDigits : List ℕ → Type 0
AreDigits text = AllByRecursion IsDigit text × (0 < length text)

-- nothing, or a minus sign
abbrev pub IsMinus : List ℕ → Type 0
IsMinus text = (text ≡ []) ⊎ (text ≡ 45 ∷ [])

-- a zero, or digits that begin with another digit
abbrev pub IsInt : List ℕ → Type 0
IsInt [] = ⊥
IsInt (digit ∷ digits) = ((digit ≡ 48) × (digits ≡ [])) ⊎ ((49 ≤ digit) × (digit ≤ 57) × AllByRecursion IsDigit digits)

-- nothing, or a decimal point and digits
abbrev pub IsFraction : List ℕ → Type 0
IsFraction text = (text ≡ []) ⊎ ((digits : List ℕ) × AreDigits digits × (text ≡ 46 ∷ digits))

-- the byte e or E
abbrev pub IsMark : ℕ → Type 0
IsMark byte = (byte ≡ 101) ⊎ (byte ≡ 69)

-- nothing, a plus sign or a minus sign
abbrev pub IsSign : List ℕ → Type 0
IsSign text = (text ≡ []) ⊎ (text ≡ 43 ∷ []) ⊎ (text ≡ 45 ∷ [])

-- nothing, or e with an optional sign and digits
abbrev pub IsExponent : List ℕ → Type 0
IsExponent text = (text ≡ []) ⊎ ((mark : ℕ) × (sign : List ℕ) × (digits : List ℕ) × IsMark mark × IsSign sign
    × AreDigits digits × (text ≡ mark ∷ (sign ++ digits)))

-- an optional minus sign, a whole number, and optionally a fraction and an exponent
pub record IsNumber (text : List ℕ) : Type 0 where
  pub minus : List ℕ
  pub whole : List ℕ
  pub fraction : List ℕ
  pub exponent : List ℕ
  pub minus_is : IsMinus minus
  pub whole_is : IsInt whole
  pub fraction_is : IsFraction fraction
  pub exponent_is : IsExponent exponent
  pub all : text ≡ minus ++ (whole ++ (fraction ++ exponent))
