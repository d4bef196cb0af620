-- The pairs of a text without their places.
use Rattle.std.specs.Prelude.{ℕ, ℤ, Bool, true, false, List, [], ◌∷◌, Option, None, Some}
use Rattle.dxf_pairs.specs.declared.pairs.Pair.{Pair}
use Rattle.dxf_pairs.specs.Lines.{between, lines_of}
use Rattle.dxf_pairs.specs.Values.{value_of}
use Rattle.dxf_pairs.specs.Codes.{code_of}
use Rattle.dxf_pairs.specs.Pairs.{ends_drawing}

-- a group code and its value
pub record Group : Type 0 where
  pub code : ℤ
  pub value : List ℕ

-- a group, and those after it unless it is the last
abbrev pub first_group : Group → Bool → List Group → List Group
first_group group true rest = group ∷ []
first_group group false rest = group ∷ rest

-- the group of two lines in front of those after them, where the first is a group code
abbrev pub group_of_two : Option ℤ → List ℕ → List Group → List Group
group_of_two None value rest = []
group_of_two (Some code) value rest = first_group (record { code = code; value = value }) (ends_drawing code value) rest

-- the groups of lines, up to the one that ends the drawing or else to the first fault
abbrev pub groups_of_lines : List (List ℕ) → List Group
groups_of_lines [] = []
groups_of_lines (line ∷ []) = []
groups_of_lines (line ∷ next ∷ lines) = group_of_two (code_of line) (value_of next) (groups_of_lines lines)

-- the groups of a text
abbrev pub groups_of : List ℕ → List Group
groups_of bytes = groups_of_lines (lines_of bytes)

-- the value of a pair of the bytes, and the pair without its places
abbrev pub value_in : List ℕ → Pair → List ℕ
value_in bytes pair = between pair.value pair.value_end bytes

abbrev pub group_in : List ℕ → Pair → Group
group_in bytes pair = record { code = pair.code; value = value_in bytes pair }
