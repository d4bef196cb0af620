-- The entities of a section as they belong together: a polyline with its vertices and its end, all others alone.
use Rattle.std.specs.Prelude.{ℕ, codes, Bool, false, ◌&&◌, ◌||◌, if◌then◌else◌, List, [], ◌∷◌, take_while, flat_map}
use Rattle.std.specs.Prelude.{Option, Some}
use Rattle.dxf_pairs.specs.declared.pairs.Pair.{Pair}
use Rattle.dxf_entities.specs.Sections.{Section, sections_named}
use Rattle.dxf_entities.specs.Entities.{Entity, entities_in, is_of_kind}

abbrev pub is_polyline : List ℕ → Entity → Bool
is_polyline bytes entity = is_of_kind bytes (codes "POLYLINE") entity

abbrev pub is_vertex : List ℕ → Entity → Bool
is_vertex bytes entity = is_of_kind bytes (codes "VERTEX") entity

-- the entity SEQEND, which ends a polyline
abbrev pub is_sequence_end : List ℕ → Entity → Bool
is_sequence_end bytes entity = is_of_kind bytes (codes "SEQEND") entity

-- an entity alone, or a POLYLINE with the VERTEX entities directly after it and the pair after these, which should be
-- that of its SEQEND
pub data Item : Type 0 where
  single : Entity → Item
  polyline : Entity → List Entity → Option Pair → Item

-- the pair after the VERTEX entities with which these begin: that of another entity, or else the one that ends the
-- section
abbrev pub behind_vertices : List ℕ → Option Pair → List Entity → Option Pair
behind_vertices bytes end [] = end
behind_vertices bytes end (entity ∷ entities) =
    if is_vertex bytes entity then behind_vertices bytes end entities else Some entity.head

-- the item of an entity in front of others
abbrev pub item_of : List ℕ → Option Pair → Entity → List Entity → Item
item_of bytes end entity entities =
    if is_polyline bytes entity
    then polyline entity (take_while (is_vertex bytes) entities) (behind_vertices bytes end entities)
    else single entity

-- directly after a polyline or a vertex of its own, VERTEX entities and a SEQEND belong to it
abbrev pub belongs : List ℕ → Bool → Entity → Bool
belongs bytes behind entity = behind && (is_vertex bytes entity || is_sequence_end bytes entity)

-- whether what follows an entity comes after a polyline
abbrev pub is_polyline_open : List ℕ → Bool → Entity → Bool
is_polyline_open bytes behind entity = (behind && is_vertex bytes entity) || is_polyline bytes entity

-- the items of the entities of a section with this end, whose first one comes after a polyline, or does not
abbrev pub items_from : List ℕ → Option Pair → Bool → List Entity → List Item
items_from bytes end behind [] = []
items_from bytes end behind (entity ∷ entities) =
    let more = items_from bytes end (is_polyline_open bytes behind entity) entities in
    if belongs bytes behind entity then more else item_of bytes end entity entities ∷ more

abbrev pub items_in : List ℕ → Section → List Item
items_in bytes section = items_from bytes section.end false (entities_in section.pairs)

-- the items of all sections ENTITIES
abbrev pub items_of : List ℕ → List Pair → List Item
items_of bytes pairs = flat_map (items_in bytes) (sections_named bytes (codes "ENTITIES") pairs)
