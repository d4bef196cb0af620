-- What the code that reads usual group codes knows of their bytes.
use Rattle.std.specs.Prelude.{◌≡◌, ◌⊎◌, ℕ}
use Rattle.std.specs.Int.{IsInRange}

-- the byte is a digit
abbrev pub IsDigit : ℕ → Type 0
IsDigit byte = IsInRange 48 57 byte

-- three bytes are one to three digits behind spaces
abbrev pub AreInThree : ℕ → ℕ → ℕ → Type 0
AreInThree a b c = IsDigit c × ((IsDigit b × ((a ≡ 32) ⊎ IsDigit a)) ⊎ ((a ≡ 32) × (b ≡ 32)))
