-- The text of a certificate: its first line, and a line for each segment with the numbers of triangles.
use Rattle.std.specs.Prelude.{◌≡◌, ℕ, ◌<◌, ◌^◌, Bool, true, false, List, [], ◌∷◌, ◌++◌, length, flat_map, codes}
use Rattle.std.specs.Prelude.{decimal}
use Rattle.std.specs.List.{AllByRecursion}

-- the first line, with its line feed
abbrev pub head_text : List ℕ
head_text = codes "tinmove certificate 1\n"

-- what ends a number: the line feed after the last one, a blank after each other
abbrev pub separator : Bool → ℕ
separator true = 10
separator false = 32

-- the line of a list: its numbers in digits, joined by one blank, and a line feed
abbrev pub line_text : List ℕ → List ℕ
line_text [] = []
line_text (n ∷ []) = decimal n ++ separator true ∷ []
line_text (n ∷ m ∷ ns) = decimal n ++ separator false ∷ line_text (m ∷ ns)

-- the lines of lists
abbrev pub lines_text : List (List ℕ) → List ℕ
lines_text lists = flat_map line_text lists

-- the first line, and the lines of lists
abbrev pub certificate_of : List (List ℕ) → List ℕ
certificate_of lists = head_text ++ lines_text lists

-- a line has one number or more, each below 2^32
pub record IsList (numbers : List ℕ) : Type 0 where
  pub some : 0 < length numbers
  pub below : AllByRecursion (λ n. n < 2 ^ 32) numbers

-- the bytes are the certificate of these lists
pub record IsCertificate (bytes : List ℕ) (lists : List (List ℕ)) : Type 0 where
  pub are_lists : AllByRecursion IsList lists
  pub spelled : bytes ≡ certificate_of lists
