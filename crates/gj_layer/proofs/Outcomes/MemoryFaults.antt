-- That memory runs out is no fault of a text.
use Rattle.std.proofs.Common.{◌≡◌, ℕ, ◌+◌, Bool, inl, inr, List, [], ◌∷◌, length, ap}
use Rattle.std.proofs.Common.{arith}
use Rattle.std.specs.Prelude.{codes, Option, Some, None, Result, Ok, Err, if◌then◌else◌}
use Rattle.jtext.specs.Characters.{units_of}
use Rattle.jtext.specs.Values.{Json, Elements, Members, null, numeral, quoted, array, object, no_element}
use Rattle.jtext.specs.Values.{element, no_member, member}
use Rattle.jtext.specs.Nodes.{inner_place, element_start, member_start, next_place}
use Rattle.jtext.specs.Lookups.{are_same}
use Rattle.jtext.specs.Texts.{Whole}
use Rattle.jtext.specs.Places.{whole_start}
use Rattle.mm_decimal.specs.AnswerValues.{millimetres_of}
use Rattle.mm_decimal.specs.declared.numerals.MmRead.{MmRead}
use Rattle.mm_decimal.specs.declared.numerals.NumFault.{NumFault}
use Rattle.sheet_base.specs.declared.faults.LayerFault.{LayerFault}
use Rattle.sheet_base.specs.declared.faults.LayerFault.TheVariants.{NoMemory}
use Rattle.sheet_base.specs.declared.paths.PathKind.TheVariants as kinds
use Rattle.gj_layer.specs.declared.forms.GeoType.{GeoType}
use Rattle.gj_layer.specs.declared.forms.GeoType.TheVariants as types
use Rattle.gj_layer.specs.declared.forms.Holder.{Holder}
use Rattle.gj_layer.specs.declared.forms.Holder.TheVariants as holders
use Rattle.gj_layer.specs.declared.forms.Trace.{Trace}
use Rattle.gj_layer.specs.declared.forms.Trace.TheVariants as traces
use Rattle.gj_layer.specs.declared.forms.ValueForm.{ValueForm}
use Rattle.gj_layer.specs.declared.forms.ValueForm.TheVariants as forms
use Rattle.gj_layer.specs.declared.positions.PositionRead.{PositionRead}
use Rattle.sheet_base.specs.Faults.{and_then}
use Rattle.gj_layer.specs.Members.{Member, members_at, all_named, at_most_one, find_member}
use Rattle.gj_layer.specs.Positions.{accepted_read, number, some_height, position_from, with_height}
use Rattle.gj_layer.specs.Positions.{array_position, position, in_front, positions}
use Rattle.gj_layer.specs.Paths.{dot_of, ring_of, paths_of_trace, joint_part, part_of}
use Rattle.gj_layer.specs.Objects.{type_named, content_key, content_form, allowed_type, type_of, type_in}
use Rattle.gj_layer.specs.Objects.{find_crs, with_content, object_type}
use Rattle.gj_layer.specs.Documents.{item_form, null_part, part_in, reading, readings, content_reading}
use Rattle.gj_layer.specs.Layers.{layer_reading, IsGeoJsonRefusedBy}
use Rattle.sheet_base.proofs.MemoryFaults.{Never, never_then, never_either}

-- ---- numbers and positions
never_accepted : (exact : Bool) (start : ℕ) (result : Result MmRead NumFault) → Never (accepted_read exact start result)
never_accepted exact start (Ok read) = grind (arith, Never)
never_accepted exact start (Err fault) = λ is. cc

never_number : (exact : Bool) (start : ℕ) (value : Json) → Never (number exact start value)
never_number exact start (numeral text) = never_accepted exact start (millimetres_of text)
never_number exact start _ = λ is. cc

never_height : (result : Result MmRead LayerFault) → Never result → Never (some_height result)
never_height (Ok z) never = λ is. cc
never_height (Err fault) never = λ is. let same : fault ≡ NoMemory = cc in never (ap Err same)

never_from : (start end : ℕ) (x y : Result MmRead LayerFault) (z : Result (Option MmRead) LayerFault) → Never x
    → Never y
    → Never z → Never (position_from start end x y z)
never_from start end (Ok x) (Ok y) (Ok z) first second third = λ is. cc
never_from start end (Err fault) y z first second third = λ is. let same : fault ≡ NoMemory = cc in first (ap Err same)
never_from start end (Ok x) (Err fault) z first second third =
    λ is. let same : fault ≡ NoMemory = cc in second (ap Err same)
never_from start end (Ok x) (Ok y) (Err fault) first second third =
    λ is. let same : fault ≡ NoMemory = cc in third (ap Err same)

never_with : (exact : Bool) (place : ℕ) (elements : Elements) (start end : ℕ) (x y : Result MmRead LayerFault) → Never x
    → Never y → Never (with_height exact place elements (position_from start end x y))
never_with exact place no_element start end x y first second =
    never_from start end x y (Ok None) first second (λ is. cc)
never_with exact place (element before z after no_element) start end x y first second =
    grind (arith, never_from, never_height, never_number)
never_with exact place (element before z after (element blank fourth more rest)) start end x y first second = λ is. cc

never_array : (exact : Bool) (start end place : ℕ) (elements : Elements)
    → Never (array_position exact start end place elements)
never_array exact start end place (element before x behind (element ahead y after rest)) =
    grind (arith, never_with, never_number)
never_array exact start end place elements = λ is. cc

never_position : (exact : Bool) (start : ℕ) (value : Json) → Never (position exact start value)
never_position exact start (array blank elements) = never_array exact start _ (inner_place start blank) elements
never_position exact start _ = λ is. cc

never_positions : (exact : Bool) (place : ℕ) (elements : Elements) → Never (positions exact place elements)
never_positions exact place no_element = λ is. cc
never_positions exact place (element before value after rest) =
    let start = element_start place before in
    let next = next_place start value after in
    never_then (λ one. and_then (in_front one) (positions exact next rest)) (position exact start value)
    (never_position exact start value)
    (λ one. never_then (in_front one) (positions exact next rest) (never_positions exact next rest)
    (λ others is. cc))

-- ---- paths
never_dot : (exact : Bool) (start : ℕ) (value : Json) → Never (and_then dot_of (position exact start value))
never_dot exact start value = never_then dot_of (position exact start value) (never_position exact start value)
    (λ one is. cc)

never_ring : (start : ℕ) (all : List PositionRead) → Never (ring_of start all)
never_ring start all = grind (arith, Never)

never_traced : (exact : Bool) (trace : Trace) (start : ℕ) (blank : List ℕ) (elements : Elements)
    → Never (paths_of_trace exact trace start (array blank elements))
never_traced exact traces.Point start blank no_element = λ is. cc
never_traced exact traces.Point start blank (element before value after rest) =
    never_dot exact start (array blank (element before value after rest))
never_traced exact traces.Position start blank elements = never_dot exact start (array blank elements)
never_traced exact traces.Line start blank elements = grind (arith, never_then, never_positions)
never_traced exact traces.Ring start blank elements = grind (arith, never_then, never_positions, never_ring)

-- ---- members
never_most : (members : List Member) → Never (at_most_one members)
never_most [] = λ is. cc
never_most (one ∷ []) = λ is. cc
never_most (one ∷ second ∷ more) = λ is. cc

never_find : (name : List ℕ) (members : List Member) → Never (find_member name members)
never_find name members = never_most (all_named name members)

never_crs : (holder : Holder) (members : List Member) → Never (find_crs holder members)
never_crs holders.Layer members = never_find (codes "crs") members
never_crs holder members = λ is. cc

never_allowed : (holder : Holder) (at : ℕ) (type : Option GeoType) → Never (allowed_type holder at type)
never_allowed holder at None = λ is. cc
never_allowed holder at (Some type) = grind (arith, Never)

never_type_of : (holder : Holder) (start at : ℕ) (value : Json) → Never (type_of holder start at value)
never_type_of holder start at (quoted chars) = never_allowed holder at (type_named (units_of chars))
never_type_of holder start at _ = λ is. cc

never_type : (holder : Holder) (start : ℕ) (told : Option Member) → Never (type_in holder start told)
never_type holder start None = λ is. cc
never_type holder start (Some one) = never_type_of holder start one.start one.value

never_content : (type : GeoType) (start : ℕ) (found : Option Member) → Never (with_content type start found)
never_content types.Feature start found = λ is. cc
never_content type start (Some one) = λ is. cc
never_content type start None = λ is. cc

never_object : (holder : Holder) (start : ℕ) (members : List Member) → Never (object_type holder start members)
never_object holder start members =
    never_then _ (find_member (codes "type") members) (never_find (codes "type") members)
    (λ told. never_then _ (find_member (codes "bbox") members) (never_find (codes "bbox") members)
    (λ bbox. never_then _ (find_crs holder members) (never_crs holder members)
    (λ crs. never_then _ (type_in holder start told) (never_type holder start told)
    (λ type. never_then (with_content type start) (find_member (content_key type) members)
    (never_find (content_key type) members) (λ found. never_content type start found)))))

-- ---- values
never_null : (form : ValueForm) (start : ℕ) → Never (null_part form start)
never_null forms.Optional start = λ is. cc
never_null form start = λ is. cc

never_part : (exact : Bool) (holder : Holder) (number start place : ℕ) (members : Members)
    → ((type : GeoType) → Never (content_reading exact number place members type))
    → Never (part_in (Some holder) number start (members_at place members)
    (content_reading exact number place members))
never_part exact holder number start place members content = grind (arith, never_then, never_object)

mutual
  never_value : (value : Json) (exact : Bool) (form : ValueForm) (number start : ℕ)
      → Never (reading exact form number start value)
  never_value null exact form number start = never_null form start
  never_value (array blank elements) exact (forms.List all) number start =
      never_elements elements exact (item_form all) number (inner_place start blank)
  never_value (array blank elements) exact (forms.Path trace) number start =
      never_then (part_of number) (paths_of_trace exact trace start (array blank elements))
      (never_traced exact trace start blank elements) (λ paths is. cc)
  never_value (object blank members) exact (forms.Object holder) number start =
      never_part exact holder number start (inner_place start blank) members
      (λ type. never_contents members exact number (inner_place start blank) type)
  never_value (object blank members) exact forms.Optional number start =
      never_part exact holders.Geometries number start (inner_place start blank) members
      (λ type. never_contents members exact number (inner_place start blank) type)
  never_value _ exact form number start = λ is. cc

  never_elements : (elements : Elements) (exact : Bool) (form : ValueForm) (number place : ℕ)
      → Never (readings exact form number place elements)
  never_elements no_element exact form number place = λ is. cc
  never_elements (element before value after rest) exact form number place =
      let start = element_start place before in
      let next = next_place start value after in
      never_then (λ one. and_then (λ others. Ok (joint_part one others))
      (readings exact form (number + length one.paths) next rest)) (reading exact form number start value)
      (never_value value exact form number start)
      (λ one. never_then (λ others. Ok (joint_part one others)) (readings exact form (number + length one.paths) next rest)
      (never_elements rest exact form (number + length one.paths) next) (λ others is. cc))

  never_contents : (members : Members) (exact : Bool) (number place : ℕ) (type : GeoType)
      → Never (content_reading exact number place members type)
  never_contents no_member exact number place type = λ is. cc
  never_contents (member before key behind ahead value after rest) exact number place type =
      let start = member_start place before key behind ahead in
      let next = next_place start value after in
      never_either (are_same (units_of key) (content_key type)) (reading exact (content_form type) number start value)
      (content_reading exact number next rest type)
      (never_value value exact (content_form type) number start) (never_contents rest exact number next type)

never_layer : (exact : Bool) (whole : Whole) → Never (layer_reading exact whole)
never_layer exact whole = never_value whole.value exact (forms.Object holders.Layer) 0 (whole_start whole)

pub no_memory_fault : (exact : Bool) (bytes : List ℕ) → IsGeoJsonRefusedBy exact bytes NoMemory → ⊥
no_memory_fault exact bytes (inl none) = none
no_memory_fault exact bytes (inr (whole, text, is)) = never_layer exact whole is
