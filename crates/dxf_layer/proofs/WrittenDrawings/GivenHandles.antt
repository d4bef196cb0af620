-- The handles of copies, one after the other.
use Rattle.std.proofs.Common.{◌≡◌, ℕ, ◌+◌, ◌-◌, ◌<◌, Bool, true, false, cond, refl, ap, sym, ◌∙◌, subst, arith, List}
use Rattle.std.proofs.Common.{[], ◌∷◌, ◌++◌, length, filter, Option, None, Some, Ok, zero, suc, ◌≤◌, take, flat_map}
use Rattle.std.specs.Prelude.{nat_le, sum_by, Contains, slice_index_or}
use Rattle.std.specs.List.{AllByRecursion, range_with_len}
use Rattle.std.proofs.lemmas.List.Elements.{Contains-push, Contains-append_left, Contains-append_right}
use Rattle.std.proofs.lemmas.List.Sums.{sum_by-cons}
use Rattle.std.specs.List.Sorted.{IsStrictlyIncreasing}
use Rattle.std.specs.Fmt.{digits}
use Rattle.std.proofs.lemmas.List.{append_assoc, length-append}
use Rattle.std.proofs.lemmas.List.FromFn.{length-range_with_len, get_or-range_with_len}
use Rattle.plain_laws.proofs.Lists.{all_append, take_front}
use Rattle.plane_base.specs.declared.shapes.Pt.{Pt}
use Rattle.sheet_base.specs.declared.edits.Edit.{Edit}
use Rattle.sheet_base.specs.declared.edits.What.TheVariants as edits
use Rattle.sheet_base.specs.declared.flags.How.{How}
use Rattle.sheet_base.specs.Sheets.{Contents}
use Rattle.sheet_base.specs.declared.edits.What.{What}
use Rattle.sheet_base.specs.PointHeights.{Position}
use Rattle.sheet_base.specs.Splices.{AreInOrder}
use Rattle.sheet_base.proofs.SpliceLaws.{no_edit}
use Rattle.dxf_pairs.specs.declared.pairs.Pair.{Pair}
use Rattle.dxf_pairs.specs.Laws.{PairsTile}
use Rattle.dxf_pairs.specs.Pairs.{drawing}
use Rattle.dxf_entities.specs.declared.drawing.PointFields.{PointFields}
use Rattle.dxf_entities.specs.declared.drawing.VertexFields.{VertexFields}
use Rattle.dxf_entities.specs.Entities.{Entity}
use Rattle.dxf_entities.specs.Fields.{at_most_one}
use Rattle.dxf_entities.specs.Handles.{has_next, handle}
use Rattle.dxf_entities.specs.Polylines.{vertex_edits, entity_vertex, own_vertices, copy_edits}
use Rattle.dxf_entities.specs.SectionPlaces.{entities_of}
use Rattle.dxf_entities.specs.Seeds.{seed_of, seed_edits}
use Rattle.dxf_entities.specs.Shapes.{Shape, value_edit, spot_edits}
use Rattle.dxf_copies.specs.Rendering.{Reading, run_of, entity_at, has_handle, taken_by, taken_as, handles_of_edit}
use Rattle.dxf_copies.specs.Rendering.{first_handle, next_at, next_behind, text_of, is_earlier}
use Rattle.dxf_layer.specs.Copies.{HasNextEdit, line_values, vertex_values, handles_in, values_as, given_to}
use Rattle.dxf_layer.specs.Copies.{handles_of_copies, all_given, HandlesAreNew}
use Rattle.dxf_layer.specs.Drawings.{contents_of_seed, drawing_sheet}
use Rattle.dxf_layer.specs.InsideEditOrder.{edit_among, in_order}
use Rattle.dxf_layer.specs.InsideSheets.{walked_sheet_of}
use Rattle.dxf_layer.specs.InsideWalks.{free, walk_of}
use Rattle.dxf_entities.proofs.EntityEdits.{line_parts}
use Rattle.dxf_entities.proofs.Members.{went}
use Rattle.dxf_entities.proofs.WholeShapes.{edits_are}
use Rattle.dxf_copies.proofs.WholeTurns.{whole_of}
use Rattle.dxf_copies.proofs.HandleCounts.{earlier_take}
use Rattle.dxf_layer.proofs.SheetEdits.EachEdit.{AreAmong, HaveAll, HoldsOfKinds, first_own, each_edit}
use Rattle.dxf_layer.proofs.SheetEdits.SheetOrder.{own_vertex}
use Rattle.dxf_layer.proofs.EntityWalks.WalkedSheets.{sheet_walked, sheet_in_order}

-- ---- where a handle is given, the drawing has a next one, and the sheet has the edit that replaces its value
-- ---- the edit of the next handle is among those in order
here : (edit : Edit) (edits : List Edit) → Contains (edit ∷ edits) edit
here edit edits = Contains-append_left (edit ∷ []) edits edit (Contains-push [] edit)

among_has : (edit : Edit) (edits : List Edit) → Contains (edit_among edit edits) edit
among_has edit [] = here edit []
among_has edit (other ∷ edits) = by_test (nat_le edit.start other.start) (among_has edit edits) where
  by_test : (before : Bool) → Contains (edit_among edit edits) edit
      → Contains (cond before (edit ∷ other ∷ edits) (other ∷ edit_among edit edits)) edit
  by_test true rest = here edit (other ∷ edits)
  by_test false rest = Contains-append_right (other ∷ []) (edit_among edit edits) edit rest

next_edit : (seed : Pair) (shapes : List Shape)
    → Contains (walked_sheet_of (Some seed) shapes).edits (value_edit edits.NextHandle seed)
next_edit seed shapes = subst (λ (all : List Edit). Contains (in_order all) (value_edit edits.NextHandle seed))
    (sym (edits_are (contents_of_seed (Some seed)) shapes)) (among_has _ _)

-- ---- edits that take no handle
abbrev TakesNone : Reading → Edit → Type 0
TakesNone read edit = handles_of_edit read edit ≡ 0

abbrev AllTakeNone : Reading → List Edit → Type 0
AllTakeNone read edits = AllByRecursion (TakesNone read) edits

takes_none : (read : Reading) (edit : Edit) → taken_as read edit.start edit.what ≡ 0 → TakesNone read edit
takes_none read edit is = grind arith

-- an entity without a handle takes none
taken_of : (found : Option Entity) (entity : Entity) (copies : ℕ) → found ≡ Some entity → has_handle entity ≡ false
    → taken_by found copies ≡ 0
taken_of found entity copies is none =
    ap (λ (f : Option Entity). taken_by f copies) is ∙ ap (λ (b : Bool). cond b (copies - 1) 0) none

none_found : (found : List Pair) → at_most_one found ≡ Ok None → found ≡ []
none_found [] is = refl
none_found (pair ∷ []) is = absurd (cc)
none_found (pair ∷ second ∷ more) is = absurd (cc)

none_wanted : (found : Option Pair) (own : Unit {0}) → has_next None found ≡ Ok own → found ≡ None
none_wanted None own is = refl
none_wanted (Some pair) own is = absurd (cc)

-- and it has none where the drawing has no next one
no_handle : (entity : Entity) (own : Unit {0}) → handle None entity ≡ Ok own → has_handle entity ≡ false
no_handle entity own is = grind (arith, went, none_wanted, none_found)

vertex_handle : (bytes : List ℕ) (exact : Bool) (entity : Entity) (vertex : VertexFields)
    → entity_vertex bytes exact None entity ≡ Ok vertex → has_handle entity ≡ false
vertex_handle bytes exact entity vertex is = grind (arith, went, no_handle)

-- ---- the edits of each kind of entity, where the drawing has no next handle
spot_none : (read : Reading) (n : ℕ) (spot : PointFields) → AllTakeNone read (spot_edits n spot)
spot_none read n spot = grind (arith, takes_none)

vertices_none : (read : Reading) (n : ℕ) (vertices : List VertexFields) → AllTakeNone read (vertex_edits n vertices)
vertices_none read n [] = tt
vertices_none read n (vertex ∷ vertices) =
    grind (arith, all_append, spot_none, takes_none, (vertices_none read (n + 1) vertices))

light_none : (read : Reading) (vertices : List VertexFields) (count : Pair) (first : ℕ)
    → AllTakeNone read (vertex_edits first vertices
    ++ value_edit (edits.Tally first (first + length vertices)) count ∷ [])
light_none read vertices count first =
    let tally : Edit = value_edit (edits.Tally first (first + length vertices)) count in
    all_append (TakesNone read) (vertex_edits first vertices) (tally ∷ []) (vertices_none read first vertices)
    (takes_none read tally refl, tt)

-- the entities of vertices of their own
copies_none : (read : Reading) (exact : Bool) (entities : List Entity) (vertices : List VertexFields) (n : ℕ)
    → AreAmong read entities → own_vertices read.bytes exact None entities ≡ Ok vertices
    → AllTakeNone read (copy_edits n vertices)
copies_none read exact [] vertices n among is =
    let none : [] ≡ vertices = cc in subst (λ (vs : List VertexFields). AllTakeNone read (copy_edits n vs)) none tt
copies_none read exact (entity ∷ entities) vertices n among is =
    let own = first_own read.bytes exact None entity entities vertices is in
    let at = own_vertex read.bytes exact None entity own.vertex own.vertex_is in
    let edit : Edit = record { start = own.vertex.start; end = own.vertex.past; what = edits.Vertex n } in
    let found : entity_at read own.vertex.start ≡ Some entity =
    ap (λ (place : ℕ). entity_at read place) at.0 ∙ among.0.found in
    subst (λ (vs : List VertexFields). AllTakeNone read (copy_edits n vs)) own.are (
      takes_none read edit (taken_of (entity_at read own.vertex.start) entity (length (run_of read.images n)) found
          (vertex_handle read.bytes exact entity own.vertex own.vertex_is)),
      copies_none read exact entities own.more (n + 1) among.1 own.more_is,
    )

none_of_kinds : (read : Reading) (how : How) → HoldsOfKinds read how None (HaveAll read.sheet (TakesNone read))
none_of_kinds read how = record {
  dots = λ entity spot among is path first at. spot_none read first spot;
  seconds = λ entity spot among is path first at. spot_none read first spot;
  lines = grind (arith, takes_none, whole_of, taken_of, no_handle, line_parts);
  lights = λ entity kind vertices count among is count_is path first at. light_none read vertices count first;
  heavies = λ entities kind vertices among is path first at. copies_none read how.exact entities vertices first among is;
  drops = λ entity among asked other path first at. (takes_none read (whole_of entity edits.Drop) refl, tt);
}

-- ---- all edits
sum_none : (read : Reading) (edits : List Edit) → AllTakeNone read edits → sum_by (handles_of_edit read) edits ≡ 0
sum_none read [] none = refl
sum_none read (edit ∷ edits) none = grind (arith, sum_by-cons, (sum_none read edits none.1))

has_next_edit : (read : Reading) (how : How) → PairsTile → drawing read.bytes ≡ Ok read.pairs
    → drawing_sheet how read.bytes ≡ Ok read.sheet → 0 < sum_by (handles_of_edit read) read.sheet.edits → HasNextEdit read
has_next_edit read how tile pairs_are sheet_is some =
    let walk = went (λ (shapes : List Shape). Ok (walked_sheet_of (seed_of read.bytes read.pairs) shapes))
    (walk_of read.bytes how (seed_of read.bytes read.pairs) free (entities_of read.bytes read.pairs)) read.sheet
    (sheet_walked read.bytes how read.pairs read.sheet (tile read.bytes read.pairs pairs_are) pairs_are sheet_is) in
    let same : read.sheet ≡ walked_sheet_of (seed_of read.bytes read.pairs) walk.value = cc in
    by_seed (seed_of read.bytes read.pairs) refl walk.value same
    (each_edit read how tile pairs_are sheet_is (TakesNone read))
  where
    by_seed : (seed : Option Pair) → seed_of read.bytes read.pairs ≡ seed
        → (shapes : List Shape) → read.sheet ≡ walked_sheet_of seed shapes
        → (HoldsOfKinds read how seed (HaveAll read.sheet (TakesNone read)) → AllTakeNone read (seed_edits seed)
        → AllTakeNone read read.sheet.edits) → HasNextEdit read
    by_seed (Some seed) is shapes same each = (
      seed,
      is,
      subst (λ (sheet : Contents). Contains sheet.edits (value_edit edits.NextHandle seed)) (sym same)
          (next_edit seed shapes),
    )
    by_seed None is shapes same each = grind (arith, sum_none, none_of_kinds)

-- ---- the handles that copies are given follow each other from the next handle of the drawing on
-- ---- the handles of the copies of one entity
lines_behind : (next : ℕ) (images : List Position)
    → handles_in (line_values false next images) ≡ range_with_len next (length images - 1)
lines_behind next [] = refl
lines_behind next (begin ∷ []) = refl
lines_behind next (begin ∷ end ∷ images) =
    let count : suc (length (end ∷ images) - 1) ≡ length (begin ∷ end ∷ images) - 1 = omega arith in
    ap (λ (rest : List ℕ). next ∷ rest) (lines_behind (next + 1) (end ∷ images)) ∙ ap (range_with_len next) count

line_handles : (next : ℕ) (images : List Position)
    → handles_in (line_values true next images) ≡ range_with_len next ((length images - 1) - 1)
line_handles next [] = refl
line_handles next (begin ∷ []) = refl
line_handles next (begin ∷ end ∷ images) =
    let count : length (end ∷ images) - 1 ≡ (length (begin ∷ end ∷ images) - 1) - 1 = omega arith in
    lines_behind next (end ∷ images) ∙ ap (range_with_len next) count

vertices_behind : (next : ℕ) (images : List Pt)
    → handles_in (vertex_values false next images) ≡ range_with_len next (length images)
vertices_behind next [] = refl
vertices_behind next (image ∷ images) = ap (λ (rest : List ℕ). next ∷ rest) (vertices_behind (next + 1) images)

vertex_handles : (next : ℕ) (images : List Pt)
    → handles_in (vertex_values true next images) ≡ range_with_len next (length images - 1)
vertex_handles next [] = refl
vertex_handles next (image ∷ images) = grind (arith, vertices_behind)

given_line : (next : ℕ) (images : List Position) (found : Option Entity)
    → given_to found (line_values true next images) ≡ range_with_len next (taken_by found (length images - 1))
given_line next images None = refl
given_line next images (Some entity) = grind (arith, line_handles)

given_vertex : (next : ℕ) (images : List Pt) (found : Option Entity)
    → given_to found (vertex_values true next images) ≡ range_with_len next (taken_by found (length images))
given_vertex next images None = refl
given_vertex next images (Some entity) = grind (arith, vertex_handles)

given_none : (next : ℕ) (found : Option Entity) → given_to found [] ≡ range_with_len next 0
given_none next None = refl
given_none next (Some entity) = grind arith

given_as : (read : Reading) (place : ℕ) (what : What) → given_to (entity_at read place) (values_as read place what)
    ≡ range_with_len (next_at read place) (taken_as read place what)
given_as read place (edits.Lines path) = grind (arith, given_line)
given_as read place (edits.Vertex point) =
    given_vertex (next_at read place) (run_of read.images point) (entity_at read place)
given_as read place what = given_none (next_at read place) (entity_at read place)

given_is : (read : Reading) (edit : Edit) → handles_of_copies read edit ≡ range_with_len (next_at read edit.start) (handles_of_edit read edit)
given_is read edit = grind (arith, given_as)

-- ---- those of all edits
range_both : (from m n : ℕ) → range_with_len from m ++ range_with_len (from + m) n ≡ range_with_len from (m + n)
range_both from zero n = grind arith
range_both from (suc m) n =
    let on : from + suc m ≡ from + 1 + m = omega arith in
    let all : suc (m + n) ≡ suc m + n = omega arith in grind (arith, (range_both (from + 1) m n))

at_front : (front : List Edit) (edit : Edit) (behind : List Edit)
    → slice_index_or (front ++ edit ∷ behind) (length front) no_edit ≡ edit
at_front [] edit behind = refl
at_front (first ∷ front) edit behind = at_front front edit behind

-- the next handle where an edit is comes after those of the edits in front of it
next_behind_front : (read : Reading) (front : List Edit) (edit : Edit) (behind : List Edit)
    → AreInOrder 0 read.sheet.edits (length read.bytes) → read.sheet.edits ≡ front ++ edit ∷ behind
    → next_at read edit.start ≡ first_handle read + sum_by (handles_of_edit read) front
next_behind_front read front edit behind order are =
    let within : length front < length (front ++ edit ∷ behind) = rw length-append (omega arith) in
    let earlier = earlier_take read 0 _ _ _ (subst (λ (all : List Edit). AreInOrder 0 all (length read.bytes)) are
    order) within in
    let at_place = subst (λ (e : Edit). sum_by (handles_of_edit read) (filter (is_earlier e.start) (front ++ edit ∷ behind))
    ≡ sum_by (handles_of_edit read) (take (length front) (front ++ edit ∷ behind))) (at_front front edit behind) earlier in
    ap (λ (all : List Edit). first_handle read + sum_by (handles_of_edit read) (filter (is_earlier edit.start) all)) are ∙ ap
    (λ (n : ℕ). first_handle read + n) (at_place ∙ ap (sum_by (handles_of_edit read)) (take_front front _))

sum_append : (read : Reading) (front : List Edit) (edit : Edit)
    → sum_by (handles_of_edit read) (front ++ edit ∷ []) ≡ sum_by (handles_of_edit read) front + handles_of_edit read edit
sum_append read [] edit = rw (sum_by-cons (handles_of_edit read) edit []) refl
sum_append read (first ∷ front) edit = rw (
  sum_by-cons (handles_of_edit read) first (front ++ edit ∷ []),
  sum_by-cons (handles_of_edit read) first front,
  sum_append read front edit,
) (omega arith)

rest_given : (read : Reading) (front behind : List Edit) → AreInOrder 0 read.sheet.edits (length read.bytes)
    → read.sheet.edits ≡ front ++ behind
    → flat_map (handles_of_copies read) behind ≡ range_with_len (first_handle read + sum_by (handles_of_edit read) front)
    (sum_by (handles_of_edit read) behind)
rest_given read front [] order are = refl
rest_given read front (edit ∷ behind) order are =
    let next = first_handle read + sum_by (handles_of_edit read) front in
    let here : handles_of_copies read edit ≡ range_with_len next (handles_of_edit read edit) = given_is read edit
    ∙ ap (λ (n : ℕ). range_with_len n (handles_of_edit read edit)) (next_behind_front read front edit behind order are) in
    let moved : read.sheet.edits ≡ (front ++ edit ∷ []) ++ behind = are ∙ sym (append_assoc front (edit ∷ []) behind) in
    let place : first_handle read + sum_by (handles_of_edit read) (front ++ edit ∷ []) ≡ next + handles_of_edit read edit =
    rw (sum_append read front edit) (omega arith) in
    let rest : flat_map (handles_of_copies read) behind ≡ range_with_len (next + handles_of_edit read edit) (sum_by (handles_of_edit read) behind) =
    rest_given read (front ++ edit ∷ []) behind order moved
    ∙ ap (λ (n : ℕ). range_with_len n (sum_by (handles_of_edit read) behind)) place in
    ap (λ (handles : List ℕ). handles ++ flat_map (handles_of_copies read) behind) here
    ∙ (ap (λ (handles : List ℕ). range_with_len next (handles_of_edit read edit) ++ handles) rest
    ∙ (range_both next (handles_of_edit read edit) (sum_by (handles_of_edit read) behind)
    ∙ ap (range_with_len next) (sym (sum_by-cons (handles_of_edit read) edit behind))))

-- ---- numbers that follow each other
range_increases : (from count : ℕ) → IsStrictlyIncreasing (range_with_len from count)
range_increases from count k within = grind (arith, length-range_with_len, here, get_or-range_with_len)

range_below : (from count bound : ℕ) → from + count ≤ bound
    → AllByRecursion (λ handle. handle < bound) (range_with_len from count)
range_below from zero bound most = tt
range_below from (suc count) bound most = (omega arith, range_below (from + 1) count bound (omega arith))

-- the next handle is written where some were given
seed_written : (read : Reading) (edit : Edit) (count : ℕ) → next_behind read ≡ first_handle read + count → 0 < count
    → edit.what ≡ edits.NextHandle → text_of read edit ≡ digits 16 true (next_behind read)
seed_written read edit count behind some is = grind arith

pub handles_are_new : PairsTile → HandlesAreNew
handles_are_new tile how bytes pairs sheet images pairs_are sheet_is = record {
  numbers = numbers;
  differ = subst IsStrictlyIncreasing (sym all) (range_increases (first_handle read) (sum_by (handles_of_edit read) sheet.edits));
  behind = behind;
  below = subst (AllByRecursion (λ handle. handle < next_behind read)) (sym all)
      (range_below (first_handle read) (sum_by (handles_of_edit read) sheet.edits) (next_behind read) (omega arith));
  next = λ some. has_next_edit read how tile pairs_are sheet_is (subst (λ (n : ℕ). 0 < n) count some);
  written = λ edit is some. seed_written read edit (length (all_given read)) behind some is;
}
  where
    read : Reading
    read = record { bytes = bytes; pairs = pairs; sheet = sheet; images = images }

    none_in_front : (n : ℕ) → n + 0 ≡ n
    none_in_front n = omega arith

    all : all_given read ≡ range_with_len (first_handle read) (sum_by (handles_of_edit read) sheet.edits)
    all = rest_given read [] sheet.edits (sheet_in_order bytes how pairs sheet (tile bytes pairs pairs_are) pairs_are
        sheet_is) refl
        ∙ ap (λ (n : ℕ). range_with_len n (sum_by (handles_of_edit read) sheet.edits)) (none_in_front (first_handle read))

    count : length (all_given read) ≡ sum_by (handles_of_edit read) sheet.edits
    count = ap length all ∙ length-range_with_len (first_handle read) (sum_by (handles_of_edit read) sheet.edits)

    numbers : all_given read ≡ range_with_len (first_handle read) (length (all_given read))
    numbers = all ∙ ap (range_with_len (first_handle read)) (sym count)

    behind : next_behind read ≡ first_handle read + length (all_given read)
    behind = ap (λ (n : ℕ). first_handle read + n) (sym count)
