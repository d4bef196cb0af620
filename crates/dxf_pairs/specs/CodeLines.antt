-- Values and group codes by what is on their lines.
use Rattle.std.specs.Prelude.{◌≡◌, ◌⊎◌, ◌↔◌, ℕ, ◌<◌, ◌-◌, ◌≤◌, ℤ, pos, neg_ℤ, false, List, [], ◌++◌, length}
use Rattle.std.specs.Prelude.{slice_index, codes, Some}
use Rattle.std.specs.List.{AllPass}
use Rattle.std.specs.Str.Parse.{IsNumeral, digits_value}
use Rattle.text_places.specs.Blanks.{is_blank_byte}
use Rattle.dxf_pairs.specs.Values.{value_of}
use Rattle.dxf_pairs.specs.Codes.{code_of}
use Rattle.dxf_pairs.specs.declared.codes.TheConstants.{MOST_CODE}

-- a line that is blanks, a value that neither begins nor ends with a blank, and blanks
pub record IsBetweenBlanks (line value before behind : List ℕ) : Type 0 where
  pub whole : line ≡ before ++ (value ++ behind)
  pub blanks_before : AllPass is_blank_byte before
  pub blanks_behind : AllPass is_blank_byte behind
  pub first : 0 < length value → is_blank_byte (slice_index value 0) ≡ false
  pub last : 0 < length value → is_blank_byte (slice_index value (length value - 1)) ≡ false

abbrev pub HasValue : List ℕ → List ℕ → Type 0
HasValue line value = (before : List ℕ) × (behind : List ℕ) × IsBetweenBlanks line value before behind

-- the value of a line is the one that is on it between blanks
abbrev pub ValuesAreBetweenBlanks : Type 0
ValuesAreBetweenBlanks = (line value : List ℕ) → (value_of line ≡ value) ↔ HasValue line value

-- a number by its sign, which may be missing, and its magnitude
abbrev pub IsSigned : List ℕ → ℕ → ℤ → Type 0
IsSigned sign magnitude number =
    (((sign ≡ []) ⊎ (sign ≡ codes "+")) × (number ≡ pos magnitude))
    ⊎ ((sign ≡ codes "-") × (number ≡ neg_ℤ (pos magnitude)))

-- a line that is blanks, a sign that may be missing, digits of a value that is not too great, and blanks
pub record IsCodeLine (line : List ℕ) (code : ℤ) (before sign digits behind : List ℕ) : Type 0 where
  pub whole : line ≡ before ++ ((sign ++ digits) ++ behind)
  pub blanks_before : AllPass is_blank_byte before
  pub blanks_behind : AllPass is_blank_byte behind
  pub numeral : IsNumeral 10 digits
  pub small : digits_value 10 digits ≤ MOST_CODE
  pub signed : IsSigned sign (digits_value 10 digits) code

abbrev pub HasCode : List ℕ → ℤ → Type 0
HasCode line code = (before : List ℕ) × (sign : List ℕ) × (digits : List ℕ) × (behind : List ℕ)
    × IsCodeLine line code before sign digits behind

-- the group code of a line is the whole number that is on it between blanks
abbrev pub CodesAreWholeNumbers : Type 0
CodesAreWholeNumbers = (line : List ℕ) (code : ℤ) → (code_of line ≡ Some code) ↔ HasCode line code
