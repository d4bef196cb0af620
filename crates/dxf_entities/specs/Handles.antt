-- The handles of entities. An entity that is copied has none, or the drawing gives a next one.
use Rattle.std.specs.Prelude.{ℕ, pos, Bool, ◌&&◌, nat_le, List, length, Option, None, Some, Result, Ok, Err}
use Rattle.std.specs.List.{list_all}
use Rattle.std.specs.Char.{is_ascii_hexdigit}
use Rattle.sheet_base.specs.declared.faults.LayerFault.{LayerFault}
use Rattle.sheet_base.specs.declared.faults.LayerFault.TheVariants.{Seed}
use Rattle.dxf_pairs.specs.declared.pairs.Pair.{Pair}
use Rattle.dxf_entities.specs.declared.handles.TheConstants.{MOST_DIGITS}
use Rattle.dxf_entities.specs.Entities.{Entity}
use Rattle.dxf_entities.specs.Fields.{once, field_at}

-- one hexadecimal digit or more, and not too many
abbrev pub is_handle : List ℕ → Bool
is_handle text = nat_le 1 (length text) && nat_le (length text) MOST_DIGITS && list_all is_ascii_hexdigit text

-- an entity with a handle needs a next one
abbrev pub has_next : Option Pair → Option Pair → Result (Unit {0}) LayerFault
has_next seed None = Ok tt
has_next None (Some handle) = Err (Seed handle.line)
has_next (Some next) (Some handle) = Ok tt

-- an entity that is copied has no handle, or there is a next one
abbrev pub handle : Option Pair → Entity → Result (Unit {0}) LayerFault
handle seed entity = once (field_at (pos 5) entity) (has_next seed)
