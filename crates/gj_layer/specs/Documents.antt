-- A layer is read as the recursion over its value (RFC 7946, sections 3 and 3.1).
use Rattle.std.specs.Prelude.{ℕ, ◌+◌, Bool, List, length, Option, Some, None, Result, Ok, Err, if◌then◌else◌}
use Rattle.jtext.specs.Characters.{units_of}
use Rattle.jtext.specs.Values.{Json, Elements, Members, null, truth, numeral, quoted, array, object, no_element}
use Rattle.jtext.specs.Values.{element, no_member, member}
use Rattle.jtext.specs.Nodes.{inner_place, element_start, member_start, next_place}
use Rattle.jtext.specs.Lookups.{are_same}
use Rattle.sheet_base.specs.declared.faults.LayerFault.{LayerFault}
use Rattle.sheet_base.specs.declared.faults.LayerFault.TheVariants.{Shape}
use Rattle.gj_layer.specs.declared.forms.GeoType.{GeoType}
use Rattle.gj_layer.specs.declared.forms.Holder.{Holder}
use Rattle.gj_layer.specs.declared.forms.Holder.TheVariants as holders
use Rattle.gj_layer.specs.declared.forms.Trace.TheVariants as traces
use Rattle.gj_layer.specs.declared.forms.Items.{Items}
use Rattle.gj_layer.specs.declared.forms.Items.TheVariants as items
use Rattle.gj_layer.specs.declared.forms.ValueForm.{ValueForm}
use Rattle.gj_layer.specs.declared.forms.ValueForm.TheVariants as forms
use Rattle.sheet_base.specs.Faults.{and_then}
use Rattle.gj_layer.specs.Members.{Member, members_at}
use Rattle.gj_layer.specs.Paths.{paths_of_trace, Part, nothing, joint_part, part_of}
use Rattle.gj_layer.specs.Objects.{content_key, content_form, object_type, object_part}

-- what the elements of a list are
abbrev pub item_form : Items → ValueForm
item_form items.Features = forms.Object holders.Features
item_form items.Geometries = forms.Object holders.Geometries
item_form items.Positions = forms.Path traces.Position
item_form items.Lines = forms.Path traces.Line
item_form items.Rings = forms.Path traces.Ring
item_form items.Polygons = forms.List items.Rings

abbrev pub element_form : ValueForm → ValueForm
element_form (forms.List all) = item_form all
element_form form = form

-- where an object is that is wanted in this form
abbrev pub holder_of : ValueForm → Option Holder
holder_of (forms.Object holder) = Some holder
holder_of forms.Optional = Some holders.Geometries
holder_of form = None

-- only a feature's geometry may be null
abbrev pub null_part : ValueForm → ℕ → Result Part LayerFault
null_part forms.Optional start = Ok nothing
null_part form start = Err (Shape start)

-- an array, with what is read of its elements one by one
abbrev pub array_part : Bool → ValueForm → ℕ → ℕ → List ℕ → Elements → Result Part LayerFault → Result Part LayerFault
array_part exact (forms.List all) number start blank elements each = each
array_part exact (forms.Path trace) number start blank elements each =
    and_then (part_of number) (paths_of_trace exact trace start (array blank elements))
array_part exact form number start blank elements each = Err (Shape start)

-- an object, with what is read of its content for each type that it may have
abbrev pub part_in : Option Holder → ℕ → ℕ → List Member → (GeoType → Result Part LayerFault) → Result Part LayerFault
part_in None number start members content = Err (Shape start)
part_in (Some holder) number start members content =
    and_then (λ type. and_then (λ inside. Ok (object_part holder type number members inside)) (content type))
    (object_type holder start members)

-- What a value is read as that is wanted in this form and whose text begins at a place. The elements of an array one by
-- one. The content of an object of a type, which is the value of its member of that name, or nothing. The first path
-- that is read has this number.
abbrev mutual
  pub reading : Bool → ValueForm → ℕ → ℕ → Json → Result Part LayerFault
  reading exact form number start null = null_part form start
  reading exact form number start (truth is) = Err (Shape start)
  reading exact form number start (numeral text) = Err (Shape start)
  reading exact form number start (quoted chars) = Err (Shape start)
  reading exact form number start (array blank elements) =
      array_part exact form number start blank elements
      (readings exact (element_form form) number (inner_place start blank) elements)
  reading exact form number start (object blank members) =
      part_in (holder_of form) number start (members_at (inner_place start blank) members)
      (content_reading exact number (inner_place start blank) members)

  pub readings : Bool → ValueForm → ℕ → ℕ → Elements → Result Part LayerFault
  readings exact form number place no_element = Ok nothing
  readings exact form number place (element before value after rest) =
      let start = element_start place before in
      and_then (λ one. and_then (λ others. Ok (joint_part one others))
      (readings exact form (number + length one.paths) (next_place start value after) rest))
      (reading exact form number start value)

  pub content_reading : Bool → ℕ → ℕ → Members → GeoType → Result Part LayerFault
  content_reading exact number place no_member type = Ok nothing
  content_reading exact number place (member before key behind ahead value after rest) type =
      let start = member_start place before key behind ahead in
      if are_same (units_of key) (content_key type) then reading exact (content_form type) number start value
      else content_reading exact number (next_place start value after) rest type
