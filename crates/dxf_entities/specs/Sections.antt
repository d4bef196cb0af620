-- The sections of a drawing (AutoCAD DXF reference, structure of a DXF file).
use Rattle.std.specs.Prelude.{ℕ, pos, codes, Bool, true, false, ◌&&◌, ◌||◌, not, if◌then◌else◌, List, [], ◌∷◌, filter}
use Rattle.std.specs.Prelude.{take_while, Option}
use Rattle.std.specs.List.{find}
use Rattle.std.specs.Str.{bytes_eq}
use Rattle.dxf_pairs.specs.declared.pairs.Pair.{Pair}
use Rattle.dxf_pairs.specs.Groups.{value_in}
use Rattle.dxf_entities.specs.Entities.{is_coded, has_both}

-- a section begins at a pair `0 SECTION` that a pair of code 2, its name, follows directly
abbrev pub begins_section : List ℕ → Pair → Pair → Bool
begins_section bytes pair name = has_both bytes (pos 0) (codes "SECTION") pair && is_coded (pos 2) name

-- and ends before a pair `0 ENDSEC` or `0 EOF`
abbrev pub is_end_of_section : List ℕ → Pair → Bool
is_end_of_section bytes pair = has_both bytes (pos 0) (codes "ENDSEC") pair || has_both bytes (pos 0) (codes "EOF") pair

abbrev pub is_inside : List ℕ → Pair → Bool
is_inside bytes pair = not (is_end_of_section bytes pair)

-- a section: its name, its pairs, and the pair that ends it; the last one of a drawing is such a pair
pub record Section : Type 0 where
  pub name : List ℕ
  pub pairs : List Pair
  pub end : Option Pair

-- the section of a name, with which these pairs follow
abbrev pub section_of : List ℕ → Pair → List Pair → Section
section_of bytes name pairs = record {
  name = value_in bytes name;
  pairs = take_while (is_inside bytes) pairs;
  end = find (is_end_of_section bytes) pairs;
}

-- the sections that begin among these pairs, whose first one is inside one that began before, or is not
abbrev pub sections_from : List ℕ → Bool → List Pair → List Section
sections_from bytes inside [] = []
sections_from bytes inside (pair ∷ []) = []
sections_from bytes true (pair ∷ next ∷ pairs) = sections_from bytes (is_inside bytes pair) (next ∷ pairs)
sections_from bytes false (pair ∷ next ∷ pairs) =
    let more = sections_from bytes (begins_section bytes pair next) (next ∷ pairs) in
    if begins_section bytes pair next then section_of bytes next pairs ∷ more else more

abbrev pub is_named : List ℕ → Section → Bool
is_named name section = bytes_eq section.name name

-- the sections of a drawing that have this name
abbrev pub sections_named : List ℕ → List ℕ → List Pair → List Section
sections_named bytes name pairs = filter (is_named name) (sections_from bytes false pairs)
