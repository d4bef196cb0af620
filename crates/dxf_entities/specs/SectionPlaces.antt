-- The sections of a drawing pair by pair, by the place of each pair.
use Rattle.std.specs.Prelude.{ℕ, pos, codes, Bool, false, if◌then◌else◌, List, [], ◌∷◌, Option, None}
use Rattle.std.specs.Str.{bytes_eq}
use Rattle.dxf_pairs.specs.declared.pairs.Pair.{Pair}
use Rattle.dxf_pairs.specs.Groups.{value_in}
use Rattle.dxf_entities.specs.declared.section_places.Where.{Where}
use Rattle.dxf_entities.specs.declared.section_places.Where.TheVariants.{Outside, Begun, Header, Entities, Other}
use Rattle.dxf_entities.specs.Entities.{is_coded, has_both, Entity, entity_of}
use Rattle.dxf_entities.specs.Sections.{is_end_of_section}
use Rattle.dxf_entities.specs.Seeds.{as_seed}

-- a section begins at a pair `0 SECTION` outside a section that a pair of code 2, its name, follows directly
abbrev pub section_behind_outside : List ℕ → Pair → Where
section_behind_outside bytes pair = if has_both bytes (pos 0) (codes "SECTION") pair then Begun else Outside

-- the section of a name
abbrev pub section_by_name : List ℕ → Where
section_by_name name = if bytes_eq name (codes "ENTITIES") then Entities else
    (if bytes_eq name (codes "HEADER") then Header else Other)

abbrev pub behind_inside : List ℕ → Where → Pair → Where
behind_inside bytes place pair = if is_end_of_section bytes pair then Outside else place

-- where the pair after this one is
abbrev pub section_behind : List ℕ → Where → Pair → Where
section_behind bytes Outside pair = section_behind_outside bytes pair
section_behind bytes Begun pair = if is_coded (pos 2) pair then section_by_name (value_in bytes pair) else
    section_behind_outside bytes pair
section_behind bytes Header pair = behind_inside bytes Header pair
section_behind bytes Entities pair = behind_inside bytes Entities pair
section_behind bytes Other pair = behind_inside bytes Other pair

-- a pair begins an entity where it is in a section ENTITIES
abbrev pub begins_entity : Where → Pair → Bool
begins_entity Entities pair = is_coded (pos 0) pair
begins_entity place pair = false

-- the entities of the sections ENTITIES, where the first pair is here; what ends a section is one of them
abbrev pub entities_from : List ℕ → Where → List Pair → List Entity
entities_from bytes place [] = []
entities_from bytes place (pair ∷ pairs) =
    let more = entities_from bytes (section_behind bytes place pair) pairs in
    if begins_entity place pair then entity_of pair pairs ∷ more else more

abbrev pub entities_of : List ℕ → List Pair → List Entity
entities_of bytes pairs = entities_from bytes Outside pairs

-- a pair of a section HEADER that names the next handle
abbrev pub names_seed : List ℕ → Where → Pair → Bool
names_seed bytes Header pair = has_both bytes (pos 9) (codes "$HANDSEED") pair
names_seed bytes place pair = false

-- the pair directly after the first of these that names it, where the first is here
abbrev pub seed_from : List ℕ → Where → List Pair → Option Pair
seed_from bytes place [] = None
seed_from bytes place (pair ∷ pairs) = if names_seed bytes place pair then as_seed bytes pairs else seed_from bytes
    (section_behind bytes place pair) pairs
