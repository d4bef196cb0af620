-- In GeoJSON each path has an edit with which it begins.
use Rattle.std.proofs.Common.{◌≡◌, ℕ, ◌+◌, Bool, true, false, ◌&&◌, codes, List, [], ◌∷◌, ◌++◌, length, flat_map}
use Rattle.std.proofs.Common.{Option, None, Some, Result, Ok, Err, refl, sym, subst, inl, inr, if◌then◌else◌}
use Rattle.jtext.specs.Characters.{units_of}
use Rattle.jtext.specs.Lookups.{are_same}
use Rattle.jtext.specs.Nodes.{inner_place, element_start, member_start, next_place}
use Rattle.jtext.specs.Places.{whole_start}
use Rattle.jtext.specs.Values.{Json, Elements, Members, null, truth, numeral, quoted, array, object, no_element}
use Rattle.jtext.specs.Values.{element, no_member, member}
use Rattle.jtext.proofs.CallerLemmas.SameTexts.{same_is}
use Rattle.sheet_base.specs.declared.edits.Edit.{Edit}
use Rattle.sheet_base.specs.declared.edits.What.{What}
use Rattle.sheet_base.specs.declared.edits.What.TheVariants.{Bounds, Null}
use Rattle.sheet_base.specs.declared.faults.LayerFault.{LayerFault}
use Rattle.sheet_base.specs.Sheets.{Contents}
use Rattle.sheet_base.proofs.DrawnPaths.{by_kind}
use Rattle.gj_layer.specs.declared.forms.ValueForm.{ValueForm}
use Rattle.gj_layer.specs.declared.forms.ValueForm.TheVariants as forms
use Rattle.gj_layer.specs.declared.forms.GeoType.{GeoType}
use Rattle.gj_layer.specs.declared.forms.GeoType.TheVariants as types
use Rattle.gj_layer.specs.declared.forms.Holder.{Holder}
use Rattle.gj_layer.specs.declared.forms.Holder.TheVariants as holders
use Rattle.sheet_base.specs.Faults.{and_then}
use Rattle.gj_layer.specs.Layers.{IsGeoJsonReadAs}
use Rattle.gj_layer.specs.Members.{Member, members_at, is_named}
use Rattle.gj_layer.specs.Objects.{content_key, content_form, has_crs, object_type, object_part, member_edits}
use Rattle.gj_layer.specs.Objects.{value_edit}
use Rattle.gj_layer.specs.Paths.{Path, Part, joint_part, part_of, text_for, edits_from, rows_from, paths_of_trace}
use Rattle.gj_layer.specs.Documents.{reading, readings, content_reading, element_form, holder_of, null_part, array_part}
use Rattle.gj_layer.specs.Documents.{part_in}
use Rattle.sheet_base.specs.EditStarts.{path_of}
use Rattle.change_places.specs.PathPlaces.{AreBegun}
use Rattle.place_runs.proofs.LayerPaths.PathEdits.{HasPath, HasEach, path_before, path_behind, begun_by_path, each_kept}
use Rattle.place_runs.proofs.LayerPaths.PathEdits.{each_together}

-- each path of what is read, numbered from this number on, has an edit that names it
abbrev HasAll : ℕ → Result Part LayerFault → Type 0
HasAll number (Ok part) = HasEach part.edits number part.paths
HasAll number (Err fault) = Unit {0}

all-then : {A : Type 0} (number : ℕ) (next : A → Result Part LayerFault) (answer : Result A LayerFault)
    → ((value : A) → HasAll number (next value)) → HasAll number (and_then next answer)
all-then number next (Ok value) all = all value
all-then number next (Err fault) all = tt

-- ---- paths
each-from : (number : ℕ) (paths : List Path) → HasEach (edits_from number paths) number paths
each-from number [] = tt
each-from number (path ∷ paths) = (
  inl (by_kind (λ kind. path_of (text_for kind number) ≡ Some number) refl refl refl path.kind),
  each_kept (edits_from (number + 1) paths) (edits_from number (path ∷ paths)) (number + 1) paths (λ n has. inr has)
      (each-from (number + 1) paths),
)

-- ---- the content of an object
no-bbox : (type : GeoType) → are_same (content_key type) (codes "bbox") ≡ false
no-bbox types.FeatureCollection = refl
no-bbox types.Feature = refl
no-bbox types.GeometryCollection = refl
no-bbox type = refl

no-crs : (type : GeoType) → are_same (content_key type) (codes "crs") ≡ false
no-crs types.FeatureCollection = refl
no-crs types.Feature = refl
no-crs types.GeometryCollection = refl
no-crs type = refl

third : (bbox holds crs own : Bool) (first second content : List Edit) → bbox ≡ false → crs ≡ false → own ≡ true
    → (if bbox then first else if holds && crs then second else if own then content else []) ≡ content
third false true false true first second content b c o = refl
third false false crs true first second content b c o = refl
third true holds crs own first second content b c o = cc
third false true true own first second content b c o = cc
third false true false false first second content b c o = cc
third false false crs false first second content b c o = cc

content-edits : (holder : Holder) (type : GeoType) (bounds : What) (content : List Edit) (one : Member)
    → is_named (content_key type) one ≡ true → member_edits holder type bounds content one ≡ content
content-edits holder type bounds content one is =
    let name : units_of one.key ≡ content_key type = same_is (units_of one.key) (content_key type) is in
    third (is_named (codes "bbox") one) (has_crs holder) (is_named (codes "crs") one)
    (is_named (content_key type) one) (value_edit one bounds ∷ []) (value_edit one Null ∷ []) content
    (subst (λ (n : List ℕ). are_same n (codes "bbox") ≡ false) (sym name) (no-bbox type))
    (subst (λ (n : List ℕ). are_same n (codes "crs") ≡ false) (sym name) (no-crs type)) is

-- among the edits of an object with these members are those of its content
abbrev Keeps : GeoType → List Member → Part → Type 0
Keeps type members part =
    (holder : Holder) (bounds : What) (n : ℕ) → HasPath n part.edits
    → HasPath n (flat_map (member_edits holder type bounds part.edits) members)

abbrev InObject : GeoType → ℕ → List Member → Result Part LayerFault → Type 0
InObject type number members (Ok part) = HasEach part.edits number part.paths × Keeps type members part
InObject type number members (Err fault) = Unit {0}

in-first : (type : GeoType) (number : ℕ) (one : Member) (members : List Member) (answer : Result Part LayerFault)
    → is_named (content_key type) one ≡ true → HasAll number answer → InObject type number (one ∷ members) answer
in-first type number one members (Ok part) is all = (
  all,
  λ holder bounds n has.
      path_before n (member_edits holder type bounds part.edits one)
      (flat_map (member_edits holder type bounds part.edits) members)
      (subst (λ (edits : List Edit). HasPath n edits) (sym (content-edits holder type bounds part.edits one is)) has),
)
in-first type number one members (Err fault) is all = tt

in-more : (type : GeoType) (number : ℕ) (one : Member) (members : List Member) (answer : Result Part LayerFault)
    → InObject type number members answer → InObject type number (one ∷ members) answer
in-more type number one members (Ok part) (all, keeps) = (
  all,
  λ holder bounds n has.
      path_behind n (member_edits holder type bounds part.edits one)
      (flat_map (member_edits holder type bounds part.edits) members) (keeps holder bounds n has),
)
in-more type number one members (Err fault) all = tt

in-either : (is : Bool) (type : GeoType) (number : ℕ) (members : List Member) (own other : Result Part LayerFault)
    → (is ≡ true → InObject type number members own) → (is ≡ false → InObject type number members other)
    → InObject type number members (if is then own else other)
in-either true type number members own other here later = here refl
in-either false type number members own other here later = later refl

object-all : (holder : Holder) (type : GeoType) (number : ℕ) (members : List Member)
    (answer : Result Part LayerFault) → InObject type number members answer
    → HasAll number (and_then (λ (inside : Part). Ok (object_part holder type number members inside)) answer)
object-all holder type number members (Ok part) (all, keeps) =
    let bounds : What = Bounds number (number + length part.paths) in
    each_kept part.edits (flat_map (member_edits holder type bounds part.edits) members) number part.paths
    (λ n has. keeps holder bounds n has) all
object-all holder type number members (Err fault) all = tt

objects-all : (wanted : Option Holder) (number start : ℕ) (members : List Member)
    (content : GeoType → Result Part LayerFault) → ((type : GeoType) → InObject type number members (content type))
    → HasAll number (part_in wanted number start members content)
objects-all None number start members content all = tt
objects-all (Some holder) number start members content all =
    all-then number (λ (type : GeoType). and_then
    (λ (inside : Part). Ok (object_part holder type number members inside))
    (content type)) (object_type holder start members)
    (λ type. object-all holder type number members (content type) (all type))

-- ---- arrays
joined-all : (number : ℕ) (one : Part) (answer : Result Part LayerFault) → HasEach one.edits number one.paths
    → HasAll (number + length one.paths) answer
    → HasAll number (and_then (λ (others : Part). Ok (joint_part one others)) answer)
joined-all number one (Err fault) has more = tt
joined-all number one (Ok others) has more =
    each_together (one.edits ++ others.edits) number one.paths others.paths
    (each_kept one.edits (one.edits ++ others.edits) number one.paths
    (λ n is. path_before n one.edits others.edits is) has)
    (each_kept others.edits (one.edits ++ others.edits) (number + length one.paths) others.paths
    (λ n is. path_behind n one.edits others.edits is) more)

join-all : (number : ℕ) (answer : Result Part LayerFault) (rest : Part → Result Part LayerFault)
    → HasAll number answer → ((one : Part) → HasAll (number + length one.paths) (rest one))
    → HasAll number (and_then (λ (one : Part). and_then (λ (others : Part). Ok (joint_part one others)) (rest one)) answer)
join-all number (Err fault) rest all more = tt
join-all number (Ok one) rest all more = joined-all number one (rest one) all (more one)

array-all : (exact : Bool) (form : ValueForm) (number start : ℕ) (blank : List ℕ) (elements : Elements)
    (each : Result Part LayerFault) → HasAll number each
    → HasAll number (array_part exact form number start blank elements each)
array-all exact (forms.List all) number start blank elements each has = has
array-all exact (forms.Path trace) number start blank elements each has =
    all-then number (part_of number) (paths_of_trace exact trace start (array blank elements)) (λ paths. each-from number paths)
array-all exact form number start blank elements each has = tt

null-all : (form : ValueForm) (number start : ℕ) → HasAll number (null_part form start)
null-all forms.Optional number start = tt
null-all form number start = tt

-- ---- values
mutual
  value-all : (exact : Bool) (form : ValueForm) (number start : ℕ) (value : Json)
      → HasAll number (reading exact form number start value)
  value-all exact form number start null = null-all form number start
  value-all exact form number start (truth is) = tt
  value-all exact form number start (numeral text) = tt
  value-all exact form number start (quoted chars) = tt
  value-all exact form number start (array blank elements) =
      array-all exact form number start blank elements
      (readings exact (element_form form) number (inner_place start blank) elements)
      (elements-all exact (element_form form) number (inner_place start blank) elements)
  value-all exact form number start (object blank members) =
      objects-all (holder_of form) number start (members_at (inner_place start blank) members)
      (content_reading exact number (inner_place start blank) members)
      (λ type. members-all exact number (inner_place start blank) members type)

  elements-all : (exact : Bool) (form : ValueForm) (number place : ℕ) (elements : Elements)
      → HasAll number (readings exact form number place elements)
  elements-all exact form number place no_element = tt
  elements-all exact form number place (element before value after rest) =
      let start = element_start place before in
      join-all number (reading exact form number start value)
      (λ (one : Part). readings exact form (number + length one.paths) (next_place start value after) rest)
      (value-all exact form number start value)
      (λ one. elements-all exact form (number + length one.paths) (next_place start value after) rest)

  members-all : (exact : Bool) (number place : ℕ) (members : Members) (type : GeoType)
      → InObject type number (members_at place members) (content_reading exact number place members type)
  members-all exact number place no_member type = (tt, λ holder bounds n has. absurd has)
  members-all exact number place (member before key behind ahead value after rest) type =
      let start = member_start place before key behind ahead in
      let one : Member = record { key_start = element_start place before; key = key; start = start; value = value } in
      in-either (are_same (units_of key) (content_key type)) type number
      (members_at place (member before key behind ahead value after rest))
      (reading exact (content_form type) number start value)
      (content_reading exact number (next_place start value after) rest type)
      (λ is. in-first type number one (members_at (next_place start value after) rest)
      (reading exact (content_form type) number start value) is
      (value-all exact (content_form type) number start value))
      (λ is. in-more type number one (members_at (next_place start value after) rest)
      (content_reading exact number (next_place start value after) rest type)
      (members-all exact number (next_place start value after) rest type))

-- ---- the layer
begun-rows : (edits : List Edit) (number first : ℕ) (paths : List Path) → HasEach edits number paths
    → AreBegun edits number (rows_from first paths)
begun-rows edits number first [] has = tt
begun-rows edits number first (path ∷ paths) (is, has) =
    (begun_by_path number first edits is, begun-rows edits (number + 1) (first + length path.positions) paths has)

pub geojson_begun : (exact : Bool) (text : List ℕ) (sheet : Contents) → IsGeoJsonReadAs exact text sheet
    → AreBegun sheet.edits 0 sheet.paths
geojson_begun exact text sheet (part, (whole, is, reads), sheet_is) =
    let all : HasAll 0 (Ok part) = subst (λ (answer : Result Part LayerFault). HasAll 0 answer) reads
    (value-all exact (forms.Object holders.Layer) 0 (whole_start whole) whole.value) in
    subst (λ (s : Contents). AreBegun s.edits 0 s.paths) (sym sheet_is) (begun-rows part.edits 0 0 part.paths all)
