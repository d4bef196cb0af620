-- What is read of a text is a sheet, it has no more points than the text has bytes, and its edits are in order.
use Rattle.std.proofs.Common.{◌≡◌, ℕ, ◌+◌, ◌-◌, ◌≤◌, inl, inr, List, [], ◌∷◌, ◌++◌, length, map, take, refl}
use Rattle.std.proofs.Common.{sym, ap, ◌∙◌, subst, arith, length-append, append-nil, Bool}
use Rattle.std.specs.Prelude.{Some, Ok, if◌then◌else◌}
use Rattle.std.proofs.lemmas.List.{length-map, length-take}
use Rattle.std.proofs.lemmas.Grind.{flat_map-append}
use Rattle.jtext.specs.Characters.{Char, units_of}
use Rattle.jtext.specs.Values.{Json, Elements, Members, null, array, object, no_element}
use Rattle.jtext.specs.Values.{element, no_member, member, spelling, elements_text, elements_behind, members_text}
use Rattle.jtext.specs.Values.{members_behind, quoted_text}
use Rattle.jtext.specs.Nodes.{inner_place, element_start, member_start, next_place}
use Rattle.jtext.specs.Lookups.{are_same}
use Rattle.jtext.specs.Texts.{mark_text}
use Rattle.jtext.specs.Places.{whole_start}
use Rattle.sheet_base.specs.PointHeights.{Position}
use Rattle.sheet_base.specs.declared.paths.PathKind.{PathKind}
use Rattle.sheet_base.specs.declared.paths.PathKind.TheVariants as kinds
use Rattle.sheet_base.specs.Sheets.{Contents}
use Rattle.sheet_base.specs.ReadSheets.{IsSheetOf}
use Rattle.gj_layer.specs.declared.forms.GeoType.{GeoType}
use Rattle.gj_layer.specs.declared.forms.Holder.{Holder}
use Rattle.gj_layer.specs.declared.forms.Holder.TheVariants as holders
use Rattle.gj_layer.specs.declared.forms.Trace.{Trace}
use Rattle.gj_layer.specs.declared.forms.Trace.TheVariants as traces
use Rattle.gj_layer.specs.declared.forms.ValueForm.{ValueForm}
use Rattle.gj_layer.specs.declared.forms.ValueForm.TheVariants as forms
use Rattle.gj_layer.specs.declared.positions.PositionRead.{PositionRead}
use Rattle.sheet_base.specs.Faults.{and_then}
use Rattle.gj_layer.specs.Members.{members_at}
use Rattle.gj_layer.specs.Positions.{position, positions, in_front, position_of}
use Rattle.gj_layer.specs.Paths.{Part, nothing, joint_part, path_of, dot_of, line_of, ring_of, paths_of_trace, part_of}
use Rattle.gj_layer.specs.Paths.{vertices_of, sheet_of}
use Rattle.gj_layer.specs.Objects.{content_key, content_form, object_type, object_part}
use Rattle.gj_layer.specs.Documents.{item_form, null_part, part_in, reading, readings, content_reading}
use Rattle.gj_layer.specs.Layers.{IsGeoJsonReadAs}
use Rattle.gj_layer.proofs.OpenObjects.Fine.{split_then, text_length, closed_ring, tested, member_length, value_fine, sheet_kept}
use Rattle.gj_layer.proofs.OpenObjects.Documents.{read_in_order}
use Rattle.gj_layer.proofs.Coordinates.PathsSoFar.{length-vertices}

-- how many points are read
abbrev pub vertex_count : Part → ℕ
vertex_count part = length (vertices_of part.paths)

count_joined : (one next : Part) → vertex_count (joint_part one next) ≡ vertex_count one + vertex_count next
count_joined one next = grind (arith, flat_map-append, length-append)

none_few : (part : Part) (most : ℕ) → nothing ≡ part → vertex_count part ≤ most
none_few part most none = subst (λ (p : Part). vertex_count p ≤ most) none (omega arith)

-- ---- texts and their parts
elements_long : (rest : Elements) → length (elements_text rest) ≤ length (elements_behind rest)
elements_long no_element = omega arith
elements_long (element before value after rest) = omega arith

members_long : (rest : Members) → length (members_text rest) ≤ length (members_behind rest)
members_long no_member = omega arith
members_long (member before key behind ahead value after rest) = omega arith

text_long : (before : List ℕ) (value : Json) (after : List ℕ) (rest : Elements)
    → length (spelling value) + length (elements_text rest) ≤ length (elements_text (element before value after rest))
text_long before value after rest =
    let whole = text_length before value after rest 0 in
    let behind = elements_long rest in omega (arith, whole, behind)

member_long : (before : List ℕ) (key : List Char) (behind ahead : List ℕ) (value : Json) (after : List ℕ)
    (rest : Members)
    → length (spelling value) + length (members_text rest)
    ≤ length (members_text (member before key behind ahead value after rest))
member_long before key behind ahead value after rest =
    let whole = member_length before (quoted_text key) behind ahead (spelling value) after (members_behind rest) in
    let others = members_long rest in omega (arith, whole, others)

array_long : (blank : List ℕ) (elements : Elements)
    → length (elements_text elements) + 2 ≤ length (spelling (array blank elements))
array_long blank elements = grind (arith, length-append)

object_long : (blank : List ℕ) (members : Members)
    → length (members_text members) ≤ length (spelling (object blank members))
object_long blank members = grind (arith, length-append)

-- ---- positions and paths
position_long : (exact : Bool) (start : ℕ) (value : Json) (one : PositionRead) → position exact start value ≡ Ok one
    → 1 ≤ length (spelling value)
position_long exact start (array blank elements) one is = omega arith
position_long exact start _ one is = cc

positions_few : (exact : Bool) (place : ℕ) (elements : Elements) (all : List PositionRead)
    → positions exact place elements ≡ Ok all → length all ≤ length (elements_text elements)
positions_few exact place no_element all is = let none : [] ≡ all =
    cc in subst (λ (ps : List PositionRead). length ps ≤ length (elements_text no_element)) none (omega arith)
positions_few exact place (element before value after rest) all is =
    let start = element_start place before in
    let next = next_place start value after in
    let (one, one_is, onward) = split_then (λ one. and_then (in_front one) (positions exact next rest))
    (position exact start value) all is in
    let (more, more_is, made) = split_then (in_front one) (positions exact next rest) all onward in
    let same : one ∷ more ≡ all = cc in
    let long = position_long exact start value one one_is in
    let few = positions_few exact next rest more more_is in
    let whole = text_long before value after rest in
    subst (λ (ps : List PositionRead). length ps ≤ length (elements_text (element before value after rest))) same
    (omega (arith, long, few, whole))

path_few : (number : ℕ) (kind : PathKind) (points : List Position) (all : List PositionRead) (part : Part) (most : ℕ)
    → length points ≤ most → part_of number (path_of kind points all) ≡ Ok part → vertex_count part ≤ most
path_few number kind points [] part most few is = none_few part most (cc)
path_few number kind points (one ∷ more) part most few is = grind (arith, append-nil)

dot_few : (exact : Bool) (number start : ℕ) (value : Json) (part : Part)
    → and_then (part_of number) (and_then dot_of (position exact start value)) ≡ Ok part
    → vertex_count part ≤ length (spelling value)
dot_few exact number start value part is = grind (arith, split_then, position_long, path_few)

traced_few : (exact : Bool) (trace : Trace) (number start : ℕ) (blank : List ℕ) (elements : Elements) (part : Part)
    → and_then (part_of number) (paths_of_trace exact trace start (array blank elements)) ≡ Ok part
    → vertex_count part ≤ length (spelling (array blank elements))
traced_few exact traces.Point number start blank no_element part is =
    none_few part (length (spelling (array blank no_element))) (cc)
traced_few exact traces.Point number start blank (element before value after rest) part is =
    dot_few exact number start (array blank (element before value after rest)) part is
traced_few exact traces.Position number start blank elements part is =
    dot_few exact number start (array blank elements) part is
traced_few exact traces.Line number start blank elements part is =
    let (paths, read, made) = split_then (part_of number)
    (and_then line_of (positions exact (inner_place start blank) elements)) part is in
    let (all, all_is, line) = split_then line_of (positions exact (inner_place start blank) elements) paths read in
    let same : path_of kinds.Line (map position_of all) all ≡ paths = cc in
    let long = array_long blank elements in
    let few = positions_few exact (inner_place start blank) elements all all_is in
    let points = length-map all position_of in
    path_few number kinds.Line (map position_of all) all part (length (spelling (array blank elements)))
    (omega (arith, long, few, points)) (ap (part_of number) same ∙ made)
traced_few exact traces.Ring number start blank elements part is =
    let (paths, read, made) = split_then (part_of number)
    (and_then (ring_of start) (positions exact (inner_place start blank) elements)) part is in
    let (all, all_is, ring) = split_then (ring_of start) (positions exact (inner_place start blank) elements) paths
    read in
    let points = map position_of all in
    let (closed, same) = closed_ring start all paths ring in
    let long = array_long blank elements in
    let few = positions_few exact (inner_place start blank) elements all all_is in
    let size = length-map all position_of in
    let kept = length-take (length points - 1) points in
    path_few number kinds.Loop (take (length points - 1) points) all part (length (spelling (array blank elements)))
    (omega (arith, long, few, size, kept)) (ap (part_of number) same ∙ made)

null_few : (form : ValueForm) (start : ℕ) (part : Part) (most : ℕ) → null_part form start ≡ Ok part
    → vertex_count part ≤ most
null_few forms.Optional start part most is = none_few part most (cc)
null_few form start part most is = cc

-- ---- values
-- an object, where its content has few
object_few : (exact : Bool) (holder : Holder) (number start : ℕ) (blank : List ℕ) (members : Members) (part : Part)
    → ((type : GeoType) (inside : Part)
    → content_reading exact number (inner_place start blank) members type ≡ Ok inside
    → vertex_count inside ≤ length (members_text members))
    → part_in (Some holder) number start (members_at (inner_place start blank) members)
    (content_reading exact number (inner_place start blank) members) ≡ Ok part
    → vertex_count part ≤ length (spelling (object blank members))
object_few exact holder number start blank members part content is =
    let all = members_at (inner_place start blank) members in
    let (type, type_is, rest) = split_then (λ type. and_then (λ inside. Ok (object_part holder type number all inside))
    (content_reading exact number (inner_place start blank) members type)) (object_type holder start all) part is in
    let (inside, inside_is, made) = split_then (λ inside. Ok (object_part holder type number all inside))
    (content_reading exact number (inner_place start blank) members type) part rest in
    let same : object_part holder type number all inside ≡ part = cc in
    let few = content type inside inside_is in
    let long = object_long blank members in
    subst (λ (p : Part). vertex_count p ≤ length (spelling (object blank members))) same (omega (arith, few, long))

mutual
  value_few : (value : Json) (exact : Bool) (form : ValueForm) (number start : ℕ) (part : Part)
      → reading exact form number start value ≡ Ok part → vertex_count part ≤ length (spelling value)
  value_few null exact form number start part is = null_few form start part (length (spelling null)) is
  value_few (array blank elements) exact (forms.List all) number start part is =
      let few = elements_few elements exact (item_form all) number (inner_place start blank) part is in
      let long = array_long blank elements in omega (arith, few, long)
  value_few (array blank elements) exact (forms.Path trace) number start part is =
      traced_few exact trace number start blank elements part is
  value_few (object blank members) exact (forms.Object holder) number start part is =
      object_few exact holder number start blank members part
      (λ type inside read. content_few members exact number (inner_place start blank) type inside read) is
  value_few (object blank members) exact forms.Optional number start part is =
      object_few exact holders.Geometries number start blank members part
      (λ type inside read. content_few members exact number (inner_place start blank) type inside read) is
  value_few _ exact form number start part is = cc

  elements_few : (elements : Elements) (exact : Bool) (form : ValueForm) (number place : ℕ) (part : Part)
      → readings exact form number place elements ≡ Ok part → vertex_count part ≤ length (elements_text elements)
  elements_few no_element exact form number place part is = none_few part (length (elements_text no_element)) (cc)
  elements_few (element before value after rest) exact form number place part is =
      let start = element_start place before in
      let next = next_place start value after in
      let (one, one_is, onward) = split_then (λ one. and_then (λ others. Ok (joint_part one others))
      (readings exact form (number + length one.paths) next rest)) (reading exact form number start value) part
      is in
      let (others, others_are, made) = split_then (λ others. Ok (joint_part one others))
      (readings exact form (number + length one.paths) next rest) part onward in
      let same : joint_part one others ≡ part = cc in
      let here = value_few value exact form number start one one_is in
      let more = elements_few rest exact form (number + length one.paths) next others others_are in
      let both = count_joined one others in
      let whole = text_long before value after rest in
      subst (λ (p : Part). vertex_count p ≤ length (elements_text (element before value after rest))) same
      (omega (arith, here, more, both, whole))

  content_few : (members : Members) (exact : Bool) (number place : ℕ) (type : GeoType) (inside : Part)
      → content_reading exact number place members type ≡ Ok inside
      → vertex_count inside ≤ length (members_text members)
  content_few no_member exact number place type inside is =
      none_few inside (length (members_text no_member)) (cc)
  content_few (member before key behind ahead value after rest) exact number place type inside is =
      let start = member_start place before key behind ahead in
      let next = next_place start value after in
      let whole = member_long before key behind ahead value after rest in
      elim (tested (are_same (units_of key) (content_key type))) [
        | inl t ↦
            let read = sym (ap (λ b. if b then reading exact (content_form type) number start value else content_reading
            exact number next rest type) t) ∙ is in
            let few = value_few value exact (content_form type) number start inside read in omega (arith, few, whole)
        | inr t ↦
            let read = sym (ap (λ b. if b then reading exact (content_form type) number start value else content_reading
            exact number next rest type) t) ∙ is in
            let few = content_few rest exact number next type inside read in omega (arith, few, whole)
      ]

-- ---- a text that is read
pub read_is_sheet : (exact : Bool) (bytes : List ℕ) (sheet : Contents) → IsGeoJsonReadAs exact bytes sheet
    → IsSheetOf bytes sheet
read_is_sheet exact bytes sheet (part, (whole, text, read), is) =
    let fine = value_fine whole.value exact (forms.Object holders.Layer) 0 (whole_start whole) part read in
    let few = value_few whole.value exact (forms.Object holders.Layer) 0 (whole_start whole) part read in
    let mark = length-append (mark_text whole.marked) (whole.before ++ (spelling whole.value ++ whole.after)) in
    let before = length-append whole.before (spelling whole.value ++ whole.after) in
    let value = length-append (spelling whole.value) whole.after in
    let long = ap length text.all in
    let kept = sheet_kept part fine.sound in
    let count = length-vertices (vertices_of part.paths) in
    subst (λ (s : Contents). IsSheetOf bytes s) (sym is) (record {
      tiled = kept.tiled;
      points = omega (arith, long, mark, before, value, few, count);
      one_height_each = kept.one_height_each;
      heights_in_reach = kept.heights_in_reach;
      edits = read_in_order exact bytes (sheet_of part) (part, (whole, text, read), refl);
    })
