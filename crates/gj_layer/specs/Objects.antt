-- Objects of GeoJSON: their types, and the members that are looked at (RFC 7946, sections 1.4, 3, 3.1, 5 and 7).
use Rattle.std.specs.Prelude.{ℕ, ◌+◌, Bool, true, false, ◌&&◌, codes, List, [], ◌∷◌, length, flat_map, Option, Some}
use Rattle.std.specs.Prelude.{None, Result, Ok, Err, if◌then◌else◌}
use Rattle.jtext.specs.Characters.{units_of}
use Rattle.jtext.specs.Values.{Json, quoted, spelling}
use Rattle.jtext.specs.Lookups.{are_same}
use Rattle.sheet_base.specs.declared.faults.LayerFault.{LayerFault}
use Rattle.sheet_base.specs.declared.faults.LayerFault.TheVariants.{Shape, Kind}
use Rattle.sheet_base.specs.declared.edits.Edit.{Edit}
use Rattle.sheet_base.specs.declared.edits.What.{What}
use Rattle.sheet_base.specs.declared.edits.What.TheVariants.{Bounds, Null}
use Rattle.gj_layer.specs.declared.forms.GeoType.{GeoType}
use Rattle.gj_layer.specs.declared.forms.GeoType.TheVariants as types
use Rattle.gj_layer.specs.declared.forms.Holder.{Holder}
use Rattle.gj_layer.specs.declared.forms.Holder.TheVariants as holders
use Rattle.gj_layer.specs.declared.forms.Trace.TheVariants as traces
use Rattle.gj_layer.specs.declared.forms.Items.TheVariants as items
use Rattle.gj_layer.specs.declared.forms.ValueForm.{ValueForm}
use Rattle.gj_layer.specs.declared.forms.ValueForm.TheVariants as forms
use Rattle.sheet_base.specs.Faults.{and_then}
use Rattle.gj_layer.specs.Members.{Member, is_named, find_member}
use Rattle.gj_layer.specs.Paths.{Part}

-- the type that a text names
abbrev pub type_named : List ℕ → Option GeoType
type_named name =
    if are_same name (codes "FeatureCollection") then Some types.FeatureCollection
    else if are_same name (codes "Feature") then Some types.Feature
    else if are_same name (codes "GeometryCollection") then Some types.GeometryCollection
    else if are_same name (codes "Point") then Some types.Point
    else if are_same name (codes "MultiPoint") then Some types.MultiPoint
    else if are_same name (codes "LineString") then Some types.LineString
    else if are_same name (codes "MultiLineString") then Some types.MultiLineString
    else if are_same name (codes "Polygon") then Some types.Polygon
    else if are_same name (codes "MultiPolygon") then Some types.MultiPolygon
    else None

-- an object of this type may be there
abbrev pub is_allowed : Holder → GeoType → Bool
is_allowed holders.Layer type = true
is_allowed holders.Features types.Feature = true
is_allowed holders.Features type = false
is_allowed holders.Geometries types.FeatureCollection = false
is_allowed holders.Geometries types.Feature = false
is_allowed holders.Geometries type = true

-- the name of the member that has what an object of this type is made of
abbrev pub content_key : GeoType → List ℕ
content_key types.FeatureCollection = codes "features"
content_key types.Feature = codes "geometry"
content_key types.GeometryCollection = codes "geometries"
content_key type = codes "coordinates"

-- what that member's value is
abbrev pub content_form : GeoType → ValueForm
content_form types.FeatureCollection = forms.List items.Features
content_form types.Feature = forms.Optional
content_form types.GeometryCollection = forms.List items.Geometries
content_form types.Point = forms.Path traces.Point
content_form types.MultiPoint = forms.List items.Positions
content_form types.LineString = forms.Path traces.Line
content_form types.MultiLineString = forms.List items.Lines
content_form types.Polygon = forms.List items.Rings
content_form types.MultiPolygon = forms.List items.Polygons

abbrev pub allowed_type : Holder → ℕ → Option GeoType → Result GeoType LayerFault
allowed_type holder at None = Err (Kind at)
allowed_type holder at (Some type) = if is_allowed holder type then Ok type else Err (Kind at)

-- the value of `type` is a text that names a type that may be there
abbrev pub type_of : Holder → ℕ → ℕ → Json → Result GeoType LayerFault
type_of holder start at (quoted chars) = allowed_type holder at (type_named (units_of chars))
type_of holder start at value = Err (Shape start)

abbrev pub type_in : Holder → ℕ → Option Member → Result GeoType LayerFault
type_in holder start None = Err (Shape start)
type_in holder start (Some one) = type_of holder start one.start one.value

-- the object that is the layer may state a reference system in `crs` (GeoJSON of 2008, section 3)
abbrev pub has_crs : Holder → Bool
has_crs holders.Layer = true
has_crs holder = false

-- `crs` is looked at in the object that is the layer, and nowhere else
abbrev pub find_crs : Holder → List Member → Result (Option Member) LayerFault
find_crs holder members = if has_crs holder then find_member (codes "crs") members else Ok None

-- only a feature may lack what it is made of
abbrev pub with_content : GeoType → ℕ → Option Member → Result GeoType LayerFault
with_content types.Feature start found = Ok types.Feature
with_content type start (Some one) = Ok type
with_content type start None = Err (Shape start)

-- The type of an object that begins at this place, or the first fault of its members: `type`, `bbox` or `crs` twice;
-- no type, or one that may not be there; the content twice, or none.
abbrev pub object_type : Holder → ℕ → List Member → Result GeoType LayerFault
object_type holder start members =
    and_then (λ told. and_then (λ bbox. and_then (λ crs.
    and_then (λ type. and_then (with_content type start) (find_member (content_key type) members))
    (type_in holder start told)) (find_crs holder members)) (find_member (codes "bbox") members))
    (find_member (codes "type") members)

-- the edit that puts this in place of the member's value
abbrev pub value_edit : Member → What → Edit
value_edit one what = record { start = one.start; end = one.start + length (spelling one.value); what = what }

-- The edits in a member of an object: its `bbox` is that of the object's paths, its reference system is dropped, and in
-- its content are those of the content.
abbrev pub member_edits : Holder → GeoType → What → List Edit → Member → List Edit
member_edits holder type bounds content one =
    if is_named (codes "bbox") one then value_edit one bounds ∷ []
    else if has_crs holder && is_named (codes "crs") one then value_edit one Null ∷ []
    else if is_named (content_key type) one then content
    else []

-- what is read of an object with these members, where the first of its paths has this number
abbrev pub object_part : Holder → GeoType → ℕ → List Member → Part → Part
object_part holder type number members content = record {
  paths = content.paths;
  edits = flat_map (member_edits holder type (Bounds number (number + length content.paths)) content.edits) members;
}
