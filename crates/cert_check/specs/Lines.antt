-- Which lines of bytes are none of a certificate's.
use Rattle.std.specs.Prelude.{◌≡◌, ◌≢◌, ℕ, zero, suc, List, [], ◌++◌, length}
use Rattle.std.specs.List.{AllByRecursion}
use Rattle.cert_check.specs.Certificates.{head_text, line_text, lines_text, IsList, IsCertificate}

-- a text begins with the line of these numbers, and this comes after it
pub record IsLine (text numbers rest : List ℕ) : Type 0 where
  pub list : IsList numbers
  pub spelled : text ≡ line_text numbers ++ rest

-- a text begins with the line of some list
abbrev pub BeginsWithLine : List ℕ → List ℕ → Type 0
BeginsWithLine text rest = (numbers : List ℕ) × IsLine text numbers rest

-- it begins with no list's line
abbrev pub HasNoLine : List ℕ → Type 0
HasNoLine text = (rest : List ℕ) → BeginsWithLine text rest → ⊥

-- the text is the lines of this many lists
abbrev pub AreLines : List ℕ → ℕ → Type 0
AreLines text count = (lists : List (List ℕ)) × (length lists ≡ count) × AllByRecursion IsList lists
    × (text ≡ lines_text lists)

-- the bytes are the certificate of this many lists
abbrev pub HasCount : List ℕ → ℕ → Type 0
HasCount bytes count = (lists : List (List ℕ)) × (length lists ≡ count) × IsCertificate bytes lists

-- some lines of lists, and then a text that is not at its end and begins with no such line
pub record IsBadBehind (text : List ℕ) (count : ℕ) : Type 0 where
  pub before : List (List ℕ)
  pub are_lists : AllByRecursion IsList before
  pub counted : length before ≡ count
  pub rest : List ℕ
  pub spelled : text ≡ lines_text before ++ rest
  pub some : rest ≢ []
  pub bad : HasNoLine rest

-- The line of this number, counted from 1, is the first that is not of the form. Either the first line is not a
-- certificate's, or it is, and this is the first of the others that is not the line of a list.
abbrev pub IsBadLine : List ℕ → ℕ → Type 0
IsBadLine bytes zero = ⊥
IsBadLine bytes (suc zero) = (rest : List ℕ) → bytes ≡ head_text ++ rest → ⊥
IsBadLine bytes (suc (suc count)) = (rest : List ℕ) × (bytes ≡ head_text ++ rest) × IsBadBehind rest count
