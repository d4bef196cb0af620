-- What contracts see of an entity.
use Rattle.std.specs.Prelude.{Option, None, Some}
use Rattle.dxf_entities.specs.declared.entities.Entity.{Entity as Held}
use Rattle.dxf_entities.specs.Entities.{Entity}

abbrev pub entity_view : Held → Entity
entity_view entity = record { head = entity.head; pairs = entity.pairs.now }

abbrev pub told_of : Option Held → Option Entity
told_of None = None
told_of (Some entity) = Some (entity_view entity)
