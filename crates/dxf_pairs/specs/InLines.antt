-- The two lines of each pair in the bytes, and what they make with another value.
use Rattle.std.specs.Prelude.{◌≡◌, ◌==◌, ℕ, ◌<◌, ◌-◌, true, false, List, [], ◌∷◌, ◌++◌, length, slice_index, drop, All}
use Rattle.std.specs.Prelude.{Some, Ok}
use Rattle.std.specs.List.{AllPass}
use Rattle.dxf_pairs.specs.declared.pairs.Pair.{Pair}
use Rattle.dxf_pairs.specs.declared.line_ends.TheConstants.{LINE_FEED}
use Rattle.dxf_pairs.specs.Lines.{between}
use Rattle.text_places.specs.Blanks.{is_blank_byte}
use Rattle.dxf_pairs.specs.Codes.{code_of}
use Rattle.dxf_pairs.specs.Pairs.{drawing, ends_drawing}
use Rattle.dxf_pairs.specs.Groups.{first_group, groups_of, group_in, value_in}

-- no line ends within the text
abbrev pub IsOneLine : List ℕ → Type 0
IsOneLine text = All (λ byte. (byte == LINE_FEED) ≡ false) text

-- a text that can be the value of a line: no line ends in it, and it neither begins nor ends with a blank
pub record IsValue (text : List ℕ) : Type 0 where
  pub one_line : IsOneLine text
  pub first : 0 < length text → is_blank_byte (slice_index text 0) ≡ false
  pub last : 0 < length text → is_blank_byte (slice_index text (length text - 1)) ≡ false

-- the bytes of a pair that does not end the drawing: the line of its code, and its value between blanks on a line of
-- its own
pub record IsTwoLines (bytes : List ℕ) (pair : Pair) (first before behind : List ℕ) : Type 0 where
  pub code_line : IsOneLine first
  pub code : code_of first ≡ Some pair.code
  pub blanks_before : AllPass is_blank_byte before
  pub blanks_behind : AllPass is_blank_byte behind
  pub to_value : between pair.start pair.value bytes ≡ first ++ LINE_FEED ∷ before
  pub value : IsValue (value_in bytes pair)
  pub from_value : between pair.value_end pair.end bytes ≡ behind ++ LINE_FEED ∷ []
  pub goes_on : ends_drawing pair.code (value_in bytes pair) ≡ false

abbrev pub StandsInLines : List ℕ → Pair → Type 0
StandsInLines bytes pair = (first : List ℕ) × (before : List ℕ) × (behind : List ℕ)
    × IsTwoLines bytes pair first before behind

-- the pair that ends the drawing: from its start on there is no other group
pub record EndsDrawing (bytes : List ℕ) (pair : Pair) : Type 0 where
  pub groups : groups_of (drop pair.start bytes) ≡ group_in bytes pair ∷ []
  pub last : ends_drawing pair.code (value_in bytes pair) ≡ true

abbrev pub AreInLines : List ℕ → List Pair → Type 0
AreInLines bytes [] = ⊥
AreInLines bytes (pair ∷ []) = EndsDrawing bytes pair
AreInLines bytes (pair ∷ next ∷ pairs) = StandsInLines bytes pair × AreInLines bytes (next ∷ pairs)

-- the pairs of a drawing are on lines of its bytes
abbrev pub PairsAreInLines : Type 0
PairsAreInLines = (bytes : List ℕ) (pairs : List Pair) → drawing bytes ≡ Ok pairs → AreInLines bytes pairs

-- a pair of the bytes with another value, in front of a text: its group, and those of the text unless the group ends
-- the drawing
abbrev pub GroupsFollow : Type 0
GroupsFollow =
    (bytes : List ℕ) (pair : Pair) (value more : List ℕ) → StandsInLines bytes pair → IsValue value
    → groups_of (between pair.start pair.value bytes ++ (value ++ (between pair.value_end pair.end bytes ++ more)))
    ≡ first_group (record { code = pair.code; value = value }) (ends_drawing pair.code value) (groups_of more)
