-- The entities of a drawing in ASCII DXF as features, with their handles.
use Rattle.std.specs.Prelude.{ℕ, ◌-◌, ◌^◌, ◌≡◌, pos, codes, Bool, not, ◌&&◌, nat_le, if◌then◌else◌, List, [], ◌∷◌, length}
use Rattle.std.specs.Prelude.{Option, None, Some, Result, Ok, Err}
use Rattle.std.specs.List.{list_all}
use Rattle.std.specs.Str.{bytes_eq}
use Rattle.std.specs.Char.{is_ascii_hexdigit}
use Rattle.sheet_base.specs.declared.faults.LayerFault.{LayerFault}
use Rattle.dxf_pairs.specs.declared.pairs.Pair.{Pair}
use Rattle.dxf_pairs.specs.Groups.{value_in}
use Rattle.dxf_pairs.specs.Pairs.{drawing}
use Rattle.dxf_entities.specs.Entities.{Entity, entity_of, is_coded}
use Rattle.dxf_entities.specs.Fields.{field_at}
use Rattle.layer_features.specs.declared.features.Feature.{Feature}
use Rattle.layer_features.specs.declared.features.Label.{Label}
use Rattle.layer_features.specs.declared.features.Label.TheVariants.{Number, Handle}

-- the pair begins an entity; the vertices of a polyline are parts of it
abbrev pub begins_feature : List ℕ → Pair → Bool
begins_feature bytes pair = is_coded (pos 0) pair && not (bytes_eq (value_in bytes pair) (codes "VERTEX"))

-- the line at which the next one begins among these pairs, or else the last number of a line that there is
abbrev pub next_line : List ℕ → List Pair → ℕ
next_line bytes [] = 2 ^ 32 - 1
next_line bytes (pair ∷ pairs) = if begins_feature bytes pair then pair.line else next_line bytes pairs

-- one hexadecimal digit or more
abbrev pub is_hexadecimal : List ℕ → Bool
is_hexadecimal text = nat_le 1 (length text) && list_all is_ascii_hexdigit text

-- a field that is there twice counts as missing
abbrev pub only_field : Result (Option Pair) LayerFault → Option Pair
only_field (Ok found) = found
only_field (Err fault) = None

-- the field is the handle, where it is written in hexadecimal digits, or else the line is what the entity is called by
abbrev pub handle_label : List ℕ → ℕ → Option Pair → Label
handle_label bytes line None = Number line
handle_label bytes line (Some pair) =
    if is_hexadecimal (value_in bytes pair) then Handle (record { start = pair.value; past = pair.value_end })
    else Number line

-- the handle of an entity (group 5), or the line at which it begins
abbrev pub label_of : List ℕ → Entity → Label
label_of bytes entity = handle_label bytes entity.head.line (only_field (field_at (pos 5) entity))

-- the feature of a pair that begins one and of the pairs after it
abbrev pub entity_feature : List ℕ → Pair → List Pair → Feature
entity_feature bytes pair pairs = record {
  start = pair.line;
  past = next_line bytes pairs;
  label = label_of bytes (entity_of pair pairs);
  id = None;
  name = None;
}

-- the features of these pairs
abbrev pub pair_features : List ℕ → List Pair → List Feature
pair_features bytes [] = []
pair_features bytes (pair ∷ pairs) =
    let more = pair_features bytes pairs in
    if begins_feature bytes pair then entity_feature bytes pair pairs ∷ more else more

-- the bytes are a drawing, and these are its features
abbrev pub AreDrawingFeatures : List ℕ → List Feature → Type 0
AreDrawingFeatures bytes features =
    (pairs : List Pair) × (drawing bytes ≡ Ok pairs) × (features ≡ pair_features bytes pairs)
