-- The entities of a section (AutoCAD DXF reference, structure of a DXF file).
use Rattle.std.specs.Prelude.{ℕ, ℤ, pos, Bool, ◌&&◌, not, if◌then◌else◌, List, [], ◌∷◌, take_while}
use Rattle.std.specs.Str.{bytes_eq}
use Rattle.std.specs.Ordering.{int_eq}
use Rattle.dxf_pairs.specs.declared.pairs.Pair.{Pair}
use Rattle.dxf_pairs.specs.Groups.{value_in}

-- the pair has this code
abbrev pub is_coded : ℤ → Pair → Bool
is_coded code pair = int_eq pair.code code

-- the pair has this code and this value
abbrev pub has_both : List ℕ → ℤ → List ℕ → Pair → Bool
has_both bytes code value pair = is_coded code pair && bytes_eq (value_in bytes pair) value

-- an entity: its pair of code 0, and the pairs up to the next code 0
pub record Entity : Type 0 where
  pub head : Pair
  pub pairs : List Pair

abbrev pub is_no_head : Pair → Bool
is_no_head pair = not (is_coded (pos 0) pair)

abbrev pub entity_of : Pair → List Pair → Entity
entity_of head pairs = record { head = head; pairs = take_while is_no_head pairs }

-- the entities of a section's pairs, one at each pair of code 0
abbrev pub entities_in : List Pair → List Entity
entities_in [] = []
entities_in (pair ∷ pairs) =
    let more = entities_in pairs in
    if is_coded (pos 0) pair then entity_of pair pairs ∷ more else more

abbrev pub is_of_kind : List ℕ → List ℕ → Entity → Bool
is_of_kind bytes kind entity = bytes_eq (value_in bytes entity.head) kind

-- the place past the last of the pairs, or else this one
abbrev pub past_pairs : ℕ → List Pair → ℕ
past_pairs past [] = past
past_pairs past (pair ∷ pairs) = past_pairs pair.end pairs

abbrev pub entity_end : Entity → ℕ
entity_end entity = past_pairs entity.head.end entity.pairs
