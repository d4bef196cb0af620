-- Laws of the pairs of a drawing.
use Rattle.std.specs.Prelude.{◌≡◌, ℕ, ◌+◌, ◌<◌, ◌≤◌, List, [], ◌∷◌, ◌++◌, length, map, All, Ok}
use Rattle.dxf_pairs.specs.declared.pairs.Pair.{Pair}
use Rattle.dxf_pairs.specs.declared.line_ends.TheConstants.{LINE_FEED}
use Rattle.dxf_pairs.specs.Lines.{lines_of}
use Rattle.dxf_pairs.specs.Pairs.{drawing}
use Rattle.dxf_pairs.specs.Groups.{group_in, groups_of}

-- pairs that follow one another without a gap, from a place and a line on up to a place
abbrev pub AreTiles : ℕ → ℕ → List Pair → ℕ → Type 0
AreTiles start line [] past = start ≡ past
AreTiles start line (pair ∷ pairs) past =
    (pair.start ≡ start) × (pair.line ≡ line) × (start < pair.value) × (pair.value ≤ pair.value_end)
    × (pair.value_end ≤ pair.end)
    × AreTiles pair.end (line + 2) pairs past

-- the pairs follow so from the first byte on, and all lie in the bytes
abbrev pub Tile : List ℕ → List Pair → Type 0
Tile bytes pairs = (past : ℕ) × (past ≤ length bytes) × AreTiles 0 1 pairs past

-- a pair and its value lie in this many bytes
pub record IsWithin (size : ℕ) (pair : Pair) : Type 0 where
  pub behind_code : pair.start < pair.value
  pub value_order : pair.value ≤ pair.value_end
  pub value_inside : pair.value_end ≤ pair.end
  pub inside : pair.end ≤ size

-- the pairs of a drawing are a first part of its bytes, without a gap
abbrev pub PairsTile : Type 0
PairsTile = (bytes : List ℕ) (pairs : List Pair) → drawing bytes ≡ Ok pairs → Tile bytes pairs

-- and each of them lies in the bytes
abbrev pub PairsAreWithin : Type 0
PairsAreWithin = (bytes : List ℕ) (pairs : List Pair) → drawing bytes ≡ Ok pairs → All (IsWithin (length bytes)) pairs

-- the pairs of a drawing without their places are the groups of its text
abbrev pub PairsAreTheGroups : Type 0
PairsAreTheGroups = (bytes : List ℕ) (pairs : List Pair) → drawing bytes ≡ Ok pairs
    → map (group_in bytes) pairs ≡ groups_of bytes

-- the lines of a text that goes on after a line feed are those up to it and those after it
abbrev pub LinesFollow : Type 0
LinesFollow = (front more : List ℕ) → lines_of (front ++ LINE_FEED ∷ more) ≡ lines_of (front ++ LINE_FEED ∷ [])
    ++ lines_of more
