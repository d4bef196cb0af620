-- Each edit is one of a shape, and each path has one with which it begins.
use Rattle.std.proofs.Common.{◌≡◌, ℕ, ◌+◌, pos, Bool, true, false, cond, refl, ap, sym, ◌∙◌, subst, List, [], ◌∷◌, ◌++◌}
use Rattle.std.proofs.Common.{length, take_while, Option, None, Some, Result, Ok, Err, codes, suc, IfSome}
use Rattle.std.proofs.Common.{zero-add, inl, inr, if◌then◌else◌, arith}
use Rattle.std.specs.Prelude.{⊤, ◌||◌, filter, flat_map}
use Rattle.std.specs.List.{AllByRecursion}
use Rattle.std.proofs.lemmas.List.{append_assoc, length-append}
use Rattle.std.proofs.lemmas.List.Sums.{take_while-cons}
use Rattle.plain_laws.proofs.Lists.{all_append}
use Rattle.plane_base.specs.declared.shapes.Pt.{Pt}
use Rattle.sheet_base.specs.declared.edits.Edit.{Edit}
use Rattle.sheet_base.specs.declared.faults.LayerFault.{LayerFault}
use Rattle.sheet_base.specs.declared.faults.LayerFault.TheVariants as faults
use Rattle.sheet_base.specs.declared.flags.How.{How}
use Rattle.sheet_base.specs.declared.paths.PathKind.{PathKind}
use Rattle.sheet_base.specs.declared.paths.PathRow.{PathRow}
use Rattle.sheet_base.specs.Faults.{and_then}
use Rattle.sheet_base.specs.Sheets.{Contents}
use Rattle.dxf_pairs.specs.declared.pairs.Pair.{Pair}
use Rattle.dxf_pairs.specs.Laws.{AreTiles, PairsTile}
use Rattle.dxf_pairs.specs.Pairs.{drawing}
use Rattle.dxf_pairs.specs.declared.faults.PairFault.{PairFault}
use Rattle.dxf_entities.specs.declared.drawing.PointFields.{PointFields}
use Rattle.dxf_entities.specs.declared.drawing.VertexFields.{VertexFields}
use Rattle.dxf_entities.specs.declared.points.LineFields.{LineFields}
use Rattle.dxf_entities.specs.Entities.{Entity, is_coded, is_of_kind, entity_of, entities_in}
use Rattle.dxf_entities.specs.Fields.{in_turn, entity_fields, field_at, there_as, not_zero, zero_at}
use Rattle.dxf_entities.specs.Items.{Item, single, polyline, is_polyline, is_vertex, behind_vertices}
use Rattle.dxf_entities.specs.Items.{is_polyline_open, items_from, items_in, items_of}
use Rattle.dxf_entities.specs.Kinds.{upright, shapes_of, are_read_alone, left_out, other_shapes, single_shapes}
use Rattle.dxf_entities.specs.Kinds.{polyline_shapes, shapes_of_item}
use Rattle.dxf_entities.specs.Points.{spot_at, second_spot, second_by, dot_of, dots_of, point_shapes, insert_shapes}
use Rattle.dxf_entities.specs.Points.{text_shapes, line_of, line_ends, line_shapes}
use Rattle.dxf_entities.specs.Polylines.{kind_of, vertices_in, count_of, light_shape, light_shapes, heavy_shape}
use Rattle.dxf_entities.specs.Polylines.{heavy_shapes, entity_vertex, own_vertices, ends_polyline}
use Rattle.dxf_entities.specs.Sections.{Section, is_end_of_section, is_inside, begins_section, section_of}
use Rattle.dxf_entities.specs.Sections.{sections_from, is_named}
use Rattle.dxf_entities.specs.Seeds.{seed_of, seed_edits}
use Rattle.dxf_entities.specs.Shapes.{Shape, rows_of, with_shapes, with_shape}
use Rattle.dxf_entities.specs.declared.drawing.Rise.{Rise}
use Rattle.dxf_entities.specs.SectionPlaces.{entities_of}
use Rattle.dxf_copies.specs.Rendering.{Reading, entity_at}
use Rattle.dxf_layer.specs.Drawings.{contents_of_seed, sheet_of, from_pairs, drawing_sheet, refusal_of_pairs}
use Rattle.dxf_layer.specs.EditOrder.{starts_at}
use Rattle.dxf_layer.specs.PathEdits.{HasPathEdit, HavePathEdits, EachPathHasAnEdit}
use Rattle.dxf_layer.specs.InsideEditOrder.{edit_among, in_order}
use Rattle.dxf_layer.specs.InsideSheets.{walked_sheet_of}
use Rattle.dxf_layer.specs.InsideWalks.{free, walk_of}
use Rattle.dxf_entities.proofs.EntityEdits.{either}
use Rattle.dxf_entities.proofs.Members.{went}
use Rattle.dxf_entities.proofs.OutlineEnds.{rows_behind, points_of, rows_are, points_are}
use Rattle.dxf_entities.proofs.WholeShapes.{edits_with, edits_are}
use Rattle.dxf_copies.proofs.SplicedPairs.{entity_is}
use Rattle.dxf_layer.proofs.EntityWalks.WalkedSheets.{heads_kept, items_walked, sheet_walked}

-- ---- what holds of each edit that is read of a drawing, where it holds of those of each kind of entity
-- ---- where entities are among the pairs of the drawing
pub record IsAmong (read : Reading) (entity : Entity) : Type 0 where
  pub found : entity_at read entity.head.start ≡ Some entity
  pub is_head : is_coded (pos 0) entity.head ≡ true
  pub goes_on : is_end_of_section read.bytes entity.head ≡ false
  pub front : List Pair
  pub behind : List Pair
  pub are : read.pairs ≡ front ++ entity.head ∷ behind
  pub own : entity ≡ entity_of entity.head behind

abbrev pub AreAmong : Reading → List Entity → Type 0
AreAmong read entities = AllByRecursion (IsAmong read) entities

abbrev IsSectionAmong : Reading → Section → Type 0
IsSectionAmong read section = AreAmong read (entities_in section.pairs)

abbrev IsItemAmong : Reading → Item → Type 0
IsItemAmong read (single entity) = IsAmong read entity
IsItemAmong read (polyline entity vertices behind) = AreAmong read vertices

module _ (read : Reading) (past : ℕ) (tiles : AreTiles 0 1 read.pairs past) where
  further : (front pairs : List Pair) (pair : Pair) → read.pairs ≡ front ++ pair ∷ pairs
      → read.pairs ≡ (front ++ pair ∷ []) ++ pairs
  further front pairs pair are = are ∙ sym (append_assoc front (pair ∷ []) pairs)

  inside-among : (front pairs : List Pair) → read.pairs ≡ front ++ pairs
      → AreAmong read (entities_in (take_while (is_inside read.bytes) pairs))
  inside-among front [] are = tt
  inside-among front (pair ∷ pairs) are = rw (take_while-cons (is_inside read.bytes) pair pairs)
      (by_tests (is_end_of_section read.bytes pair) (is_coded (pos 0) pair) refl refl
      (inside-among (front ++ pair ∷ []) pairs (further front pairs pair are))) where
        kept : List Pair
        kept = take_while (is_inside read.bytes) pairs

        by_tests : (ends head : Bool) → is_end_of_section read.bytes pair ≡ ends → is_coded (pos 0) pair ≡ head
            → AreAmong read (entities_in kept)
            → AreAmong read (entities_in (cond (is_inside read.bytes pair) (pair ∷ kept) []))
        by_tests true head ends_is head_is rest = rw ends_is tt
        by_tests false true ends_is head_is rest = grind (arith, heads_kept, entity_is)
        by_tests false false ends_is head_is rest = rw (ends_is, head_is) rest

  sections-among : (front pairs : List Pair) (inside : Bool) → read.pairs ≡ front ++ pairs
      → AllByRecursion (IsSectionAmong read) (sections_from read.bytes inside pairs)
  sections-among front [] inside are = tt
  sections-among front (pair ∷ []) inside are = tt
  sections-among front (pair ∷ next ∷ pairs) true are =
      sections-among (front ++ pair ∷ []) (next ∷ pairs) (is_inside read.bytes pair)
      (further front (next ∷ pairs) pair are)
  sections-among front (pair ∷ next ∷ pairs) false are = by_test (begins_section read.bytes pair next)
      (sections-among (front ++ pair ∷ []) (next ∷ pairs) (begins_section read.bytes pair next)
      (further front (next ∷ pairs) pair are)) where
        more : List Section
        more = sections_from read.bytes (begins_section read.bytes pair next) (next ∷ pairs)

        by_test : (begins : Bool) → AllByRecursion (IsSectionAmong read) more
            → AllByRecursion (IsSectionAmong read) (cond begins (section_of read.bytes next pairs ∷ more) more)
        by_test true rest = (
          inside-among ((front ++ pair ∷ []) ++ next ∷ []) pairs
              (further (front ++ pair ∷ []) pairs next (further front (next ∷ pairs) pair are)),
          rest,
        )
        by_test false rest = rest

front_among : (read : Reading) (p : Entity → Bool) (entities : List Entity) → AreAmong read entities
    → AreAmong read (take_while p entities)
front_among read p [] all = tt
front_among read p (entity ∷ entities) all = rw (take_while-cons p entity entities)
    (either (AreAmong read) (p entity) (entity ∷ take_while p entities) []
    (all.0, front_among read p entities all.1) tt)

items_among : (read : Reading) (end : Option Pair) (behind : Bool) (entities : List Entity) → AreAmong read entities
    → AllByRecursion (IsItemAmong read) (items_from read.bytes end behind entities)
items_among read end behind [] all = tt
items_among read end behind (entity ∷ entities) all =
    let more : List Item = items_from read.bytes end (is_polyline_open read.bytes behind entity) entities in
    let rest = items_among read end (is_polyline_open read.bytes behind entity) entities all.1 in
    let own = either (IsItemAmong read) (is_polyline read.bytes entity)
    (polyline entity (take_while (is_vertex read.bytes) entities) (behind_vertices read.bytes end entities))
    (single entity) (front_among read (is_vertex read.bytes) entities all.1) all.0 in grind (arith, either)

named_among : (read : Reading) (sections : List Section) → AllByRecursion (IsSectionAmong read) sections
    → AllByRecursion (IsItemAmong read) (flat_map (items_in read.bytes) (filter (is_named (codes "ENTITIES")) sections))
named_among read [] all = tt
named_among read (section ∷ sections) all = grind (arith, all_append, items_among, (named_among read sections all.1))

-- ---- what is read
-- it holds of what is read, where it is read
abbrev pub EachIs : (Shape → Type 0) → Result (List Shape) LayerFault → Type 0
EachIs P (Ok shapes) = AllByRecursion P shapes
EachIs P (Err fault) = ⊤

each_found : {A : Type 0} (P : Shape → Type 0) (next : A → Result (List Shape) LayerFault) (answer : Result A LayerFault)
    → ((value : A) → answer ≡ Ok value → EachIs P (next value)) → EachIs P (and_then next answer)
each_found P next (Ok value) all = all value refl
each_found P next (Err fault) all = tt

each_both : (P : Shape → Type 0) (answer rest : Result (List Shape) LayerFault) → EachIs P answer → EachIs P rest
    → EachIs P (and_then (λ (here : List Shape). and_then (λ (more : List Shape). Ok (here ++ more)) rest) answer)
each_both P (Ok here) (Ok more) all others = all_append P here more all others
each_both P (Ok here) (Err fault) all others = tt
each_both P (Err fault) rest all others = tt

each_in_turn : {A : Type 0} (P : Shape → Type 0) (R : A → Type 0) (f : A → Result (List Shape) LayerFault)
    (items : List A) → ((item : A) → R item → EachIs P (f item)) → AllByRecursion R items → EachIs P (in_turn f items)
each_in_turn P R f [] each all = tt
each_in_turn P R f (item ∷ items) each all = each_both P _ _ (each item all.0) (each_in_turn P R f items each all.1)

second_is : (bytes : List ℕ) (exact : Bool) (entity : Entity) (spot : PointFields)
    → second_spot bytes exact entity ≡ Ok (Some spot) → spot_at bytes exact (pos 11) (pos 21) entity ≡ Ok spot
second_is bytes exact entity spot is =
    let across = went (λ (a : Option Pair). and_then (λ (b : Option Pair). second_by bytes exact entity a b)
    (field_at (pos 73) entity)) (field_at (pos 72) entity) (Some spot) is in
    let along = went (λ (b : Option Pair). second_by bytes exact entity across.value b) (field_at (pos 73) entity)
    (Some spot) across.gives in by_test (not_zero bytes across.value || not_zero bytes along.value) along.gives where
      by_test : (just : Bool) → cond just (and_then (λ (s : PointFields). Ok (Some s))
          (spot_at bytes exact (pos 11) (pos 21) entity)) (Ok None) ≡ Ok (Some spot)
          → spot_at bytes exact (pos 11) (pos 21) entity ≡ Ok spot
      by_test true made = grind (arith, went)
      by_test false made = absurd (cc)

-- the vertices of entities of their own begin with that of the first one
pub record FirstOwn (bytes : List ℕ) (exact : Bool) (seed : Option Pair) (entity : Entity) (entities : List Entity)
    (vertices : List VertexFields) : Type 0 where
  pub vertex : VertexFields
  pub vertex_is : entity_vertex bytes exact seed entity ≡ Ok vertex
  pub more : List VertexFields
  pub more_is : own_vertices bytes exact seed entities ≡ Ok more
  pub are : vertex ∷ more ≡ vertices

pub first_own : (bytes : List ℕ) (exact : Bool) (seed : Option Pair) (entity : Entity) (entities : List Entity)
    (vertices : List VertexFields) → own_vertices bytes exact seed (entity ∷ entities) ≡ Ok vertices
    → FirstOwn bytes exact seed entity entities vertices
first_own bytes exact seed entity entities vertices is =
    let one : Result (List VertexFields) LayerFault = and_then (λ (vertex : VertexFields). Ok (vertex ∷ []))
    (entity_vertex bytes exact seed entity) in
    let here = went (λ (here : List VertexFields). and_then (λ (more : List VertexFields). Ok (here ++ more))
    (own_vertices bytes exact seed entities)) one vertices is in
    let rest = went (λ (more : List VertexFields). Ok (here.value ++ more)) (own_vertices bytes exact seed entities) vertices
    here.gives in
    let first = went (λ (vertex : VertexFields). Ok (vertex ∷ [])) (entity_vertex bytes exact seed entity) here.value here.is in
    let alone : first.value ∷ [] ≡ here.value = cc in
    let whole : here.value ++ rest.value ≡ vertices = cc in grind arith

-- it holds of the shape of each kind of entity of the drawing
pub record HoldsOfKinds (read : Reading) (how : How) (seed : Option Pair) (P : Shape → Type 0) : Type 0 where
  pub dots : (entity : Entity) (spot : PointFields) → IsAmong read entity
      → spot_at read.bytes how.exact (pos 10) (pos 20) entity ≡ Ok spot → P (dot_of spot)
  pub seconds : (entity : Entity) (spot : PointFields) → IsAmong read entity
      → spot_at read.bytes how.exact (pos 11) (pos 21) entity ≡ Ok spot → P (dot_of spot)
  pub lines : (entity : Entity) (ends : LineFields) → IsAmong read entity
      → line_ends read.bytes how.exact seed entity ≡ Ok ends → P (line_of entity ends.begin ends.end ends.rise)
  pub lights : (entity : Entity) (kind : PathKind) (vertices : List VertexFields) (count : Pair) → IsAmong read entity
      → vertices_in read.bytes how.exact (entity_fields entity) ≡ Ok vertices
      → count_of read.bytes (length vertices) entity ≡ Ok count → P (light_shape kind vertices count)
  pub heavies : (entities : List Entity) (kind : PathKind) (vertices : List VertexFields) → AreAmong read entities
      → own_vertices read.bytes how.exact seed entities ≡ Ok vertices → P (heavy_shape kind vertices)
  pub drops : (entity : Entity) → IsAmong read entity → how.drop_other ≡ true
      → are_read_alone read.bytes entity ≡ false → P (left_out entity)

module _ (read : Reading) (how : How) (seed : Option Pair) (P : Shape → Type 0) (holds : HoldsOfKinds read how seed P)
  where
    points-each : (entity : Entity) → IsAmong read entity → EachIs P (point_shapes read.bytes how.exact entity)
    points-each entity among =
        each_found P (λ (spot : PointFields). Ok (dot_of spot ∷ [])) (spot_at read.bytes how.exact (pos 10) (pos 20) entity)
        (λ spot is. (holds.dots entity spot among is, tt))

    second-each : (entity : Entity) → IsAmong read entity → (second : Option PointFields)
        → second_spot read.bytes how.exact entity ≡ Ok second → AllByRecursion P (dots_of second)
    second-each entity among None is = tt
    second-each entity among (Some spot) is =
        (holds.seconds entity spot among (second_is read.bytes how.exact entity spot is), tt)

    texts-each : (entity : Entity) → IsAmong read entity → EachIs P (text_shapes read.bytes how.exact entity)
    texts-each entity among =
        each_found P (λ (spot : PointFields). and_then (λ (second : Option PointFields). Ok (dot_of spot ∷ dots_of second))
        (second_spot read.bytes how.exact entity)) (spot_at read.bytes how.exact (pos 10) (pos 20) entity)
        (λ spot is. each_found P (λ (second : Option PointFields). Ok (dot_of spot ∷ dots_of second))
        (second_spot read.bytes how.exact entity) (λ second second_is. (
          holds.dots entity spot among is,
          second-each entity among second second_is,
        )))

    lines-each : (entity : Entity) → IsAmong read entity → EachIs P (line_shapes read.bytes how.exact seed entity)
    lines-each entity among =
        each_found P (λ (ends : LineFields). Ok (line_of entity ends.begin ends.end ends.rise ∷ []))
        (line_ends read.bytes how.exact seed entity) (λ ends is. (holds.lines entity ends among is, tt))

    lights-each : (entity : Entity) → IsAmong read entity → EachIs P (light_shapes read.bytes how.exact entity)
    lights-each entity among = each_found P (λ (kind : PathKind). and_then (λ (vertices : List VertexFields). and_then
        (λ (count : Pair). Ok (light_shape kind vertices count ∷ [])) (count_of read.bytes (length vertices) entity))
        (vertices_in read.bytes how.exact (entity_fields entity))) (kind_of read.bytes entity)
        (λ kind kind_is. each_found P (λ (vertices : List VertexFields). and_then
        (λ (count : Pair). Ok (light_shape kind vertices count ∷ [])) (count_of read.bytes (length vertices) entity))
        (vertices_in read.bytes how.exact (entity_fields entity))
        (λ vertices vertices_are. each_found P (λ (count : Pair). Ok (light_shape kind vertices count ∷ []))
        (count_of read.bytes (length vertices) entity)
        (λ count count_is. (holds.lights entity kind vertices count among vertices_are count_is, tt))))

    heavies-each : (entity : Entity) (entities : List Entity) (behind : Option Pair) → AreAmong read entities
        → EachIs P (heavy_shapes read.bytes how.exact seed entity entities behind)
    heavies-each entity entities behind among =
        each_found P (λ (kind : PathKind). and_then (λ (vertices : List VertexFields). and_then
        (λ (ends : Unit {0}). Ok (heavy_shape kind vertices ∷ [])) (ends_polyline read.bytes behind))
        (own_vertices read.bytes how.exact seed entities)) (kind_of read.bytes entity)
        (λ kind kind_is. each_found P (λ (vertices : List VertexFields). and_then
        (λ (ends : Unit {0}). Ok (heavy_shape kind vertices ∷ [])) (ends_polyline read.bytes behind))
        (own_vertices read.bytes how.exact seed entities)
        (λ vertices vertices_are. each_found P (λ (ends : Unit {0}). Ok (heavy_shape kind vertices ∷ []))
        (ends_polyline read.bytes behind)
        (λ ends ends_is. (holds.heavies entities kind vertices among vertices_are, tt))))

    kinds-each : (entity : Entity) → IsAmong read entity → EachIs P (shapes_of read.bytes how seed entity)
    kinds-each entity among =
        either (EachIs P) (is_of_kind read.bytes (codes "POINT") entity) (point_shapes read.bytes how.exact entity) _
        (points-each entity among)
        (either (EachIs P) (is_of_kind read.bytes (codes "LINE") entity) (line_shapes read.bytes how.exact seed entity) _
        (lines-each entity among)
        (either (EachIs P) (is_of_kind read.bytes (codes "LWPOLYLINE") entity)
        (light_shapes read.bytes how.exact entity) _ (lights-each entity among)
        (either (EachIs P) (is_of_kind read.bytes (codes "TEXT") entity) (text_shapes read.bytes how.exact entity)
        (insert_shapes read.bytes how.exact entity) (texts-each entity among)
        (each_found P (λ (none : Unit {0}). point_shapes read.bytes how.exact entity)
        (zero_at read.bytes faults.Attribs (pos 66) entity) (λ none is. points-each entity among)))))

    others-each : (entity : Entity) → IsAmong read entity → are_read_alone read.bytes entity ≡ false
        → EachIs P (other_shapes how entity)
    others-each entity among other = by_test how.drop_other refl where
      by_test : (asked : Bool) → how.drop_other ≡ asked
          → EachIs P (cond asked (Ok (left_out entity ∷ [])) (Err (faults.Entity entity.head.line)))
      by_test true is = (holds.drops entity among is other, tt)
      by_test false is = tt

    single-each : (entity : Entity) → IsAmong read entity → EachIs P (single_shapes read.bytes how seed entity)
    single-each entity among = by_test (are_read_alone read.bytes entity) refl where
      by_test : (alone : Bool) → are_read_alone read.bytes entity ≡ alone
          → EachIs P (cond alone (and_then (λ (flat : Unit {0}). shapes_of read.bytes how seed entity)
          (upright read.bytes entity)) (other_shapes how entity))
      by_test true is = each_found P (λ (flat : Unit {0}). shapes_of read.bytes how seed entity)
          (upright read.bytes entity) (λ flat flat_is. kinds-each entity among)
      by_test false is = others-each entity among is

    paper-each : (entity : Entity) (rest : Result (List Shape) LayerFault) → EachIs P rest
        → EachIs P (and_then (λ (paper : Option Pair). cond (there_as read.bytes 1 paper) (Ok []) rest)
        (field_at (pos 67) entity))
    paper-each entity rest all = each_found P (λ (paper : Option Pair). cond (there_as read.bytes 1 paper) (Ok []) rest)
        (field_at (pos 67) entity)
        (λ paper is. either (EachIs P) (there_as read.bytes 1 paper) (Ok []) rest tt all)

    item-each : (item : Item) → IsItemAmong read item → EachIs P (shapes_of_item read.bytes how seed item)
    item-each (single entity) among =
        paper-each entity (single_shapes read.bytes how seed entity) (single-each entity among)
    item-each (polyline entity vertices behind) among =
        paper-each entity (polyline_shapes read.bytes how seed entity vertices behind)
        (each_found P (λ (flat : Unit {0}). heavy_shapes read.bytes how.exact seed entity vertices behind)
        (upright read.bytes entity) (λ flat is. heavies-each entity vertices behind among))

    shapes_each : (past : ℕ) → AreTiles 0 1 read.pairs past
        → EachIs P (in_turn (shapes_of_item read.bytes how seed) (items_of read.bytes read.pairs))
    shapes_each past tiles =
        each_in_turn P (IsItemAmong read) (shapes_of_item read.bytes how seed) (items_of read.bytes read.pairs) item-each
        (named_among read (sections_from read.bytes false read.pairs)
        (sections-among read past tiles [] read.pairs false refl))

-- ---- edits by the place of their shape in the sheet
-- the sheet has the points of a shape, and its path, after this many others
pub record StandsAt (sheet : Contents) (path first : ℕ) (shape : Shape) : Type 0 where
  pub before : List Pt
  pub after : List Pt
  pub points : sheet.points ≡ before ++ (shape.points ++ after)
  pub first_is : length before ≡ first
  pub rows_before : List PathRow
  pub rows_after : List PathRow
  pub rows : sheet.paths ≡ rows_before ++ (rows_of shape.kind first (first + length shape.points) ++ rows_after)
  pub path_is : length rows_before ≡ path

abbrev pub HaveAll : Contents → (Edit → Type 0) → Shape → Type 0
HaveAll sheet P shape = (path first : ℕ) → StandsAt sheet path first shape → AllByRecursion P (shape.edits path first)

edits_each : (sheet : Contents) (P : Edit → Type 0) (shapes : List Shape) → AllByRecursion (HaveAll sheet P) shapes
    → (before : List Pt) (rows : List PathRow) → sheet.points ≡ before ++ points_of shapes
    → sheet.paths ≡ rows ++ rows_behind (length before) shapes
    → AllByRecursion P (edits_with (length rows) (length before) shapes)
edits_each sheet P [] all before rows points paths = tt
edits_each sheet P (shape ∷ shapes) all before rows points paths =
    let own : List PathRow = rows_of shape.kind (length before) (length before + length shape.points) in
    let first : length (before ++ shape.points) ≡ length before + length shape.points =
    length-append before shape.points in
    let path : length (rows ++ own) ≡ length rows + length own = length-append rows own in
    let more = edits_each sheet P shapes all.1 (before ++ shape.points) (rows ++ own)
    (points ∙ sym (append_assoc before shape.points (points_of shapes)))
    (paths ∙ (sym (append_assoc rows own (rows_behind (length before + length shape.points) shapes))
    ∙ ap (λ (n : ℕ). (rows ++ own) ++ rows_behind n shapes) (sym first))) in
    grind (arith, all_append, edits_with, points_of, rows_behind)

-- ---- edits in order of the text
some_each : (P : Edit → Type 0) (p : Edit → Bool) (edits : List Edit) → AllByRecursion P edits
    → AllByRecursion P (filter p edits)
some_each P p [] all = tt
some_each P p (edit ∷ edits) all =
    either (AllByRecursion P) (p edit) _ _ (all.0, some_each P p edits all.1) (some_each P p edits all.1)

order_each : (P : Edit → Type 0) (edits : List Edit) (places : List ℕ) → AllByRecursion P edits
    → AllByRecursion P (flat_map (λ place. filter (starts_at place) edits) places)
order_each P edits [] all = tt
order_each P edits (place ∷ places) all = all_append P _ _ (some_each P _ edits all) (order_each P edits places all)

-- it holds of all edits of the sheet of a drawing
pub each_edit : (read : Reading) (how : How) → PairsTile → drawing read.bytes ≡ Ok read.pairs
    → drawing_sheet how read.bytes ≡ Ok read.sheet → (P : Edit → Type 0)
    → HoldsOfKinds read how (seed_of read.bytes read.pairs) (HaveAll read.sheet P)
    → AllByRecursion P (seed_edits (seed_of read.bytes read.pairs)) → AllByRecursion P read.sheet.edits
each_edit read how tile pairs_are sheet_is P holds next =
    let (past, inside, tiles) = tile read.bytes read.pairs pairs_are in
    let seed = seed_of read.bytes read.pairs in
    let size = length read.bytes in
    let made = went (λ (shapes : List Shape). Ok (sheet_of size seed shapes))
    (in_turn (shapes_of_item read.bytes how seed) (items_of read.bytes read.pairs)) read.sheet
    (ap (from_pairs read.bytes how) (sym pairs_are) ∙ sheet_is) in
    let same : sheet_of size seed made.value ≡ read.sheet = cc in
    let all : AllByRecursion (HaveAll read.sheet P) made.value = subst (EachIs (HaveAll read.sheet P)) made.is
    (shapes_each read how seed (HaveAll read.sheet P) holds past tiles) in
    let own = edits_each read.sheet P made.value all [] []
    (ap (λ (s : Contents). s.points) (sym same) ∙ points_are (contents_of_seed seed) made.value)
    (ap (λ (s : Contents). s.paths) (sym same) ∙ rows_are (contents_of_seed seed) made.value) in
    grind (arith, order_each, edits_are, all_append, edits_with)

-- ---- each path that is read of a drawing has an edit with which it begins
-- ---- edits before and after others, and rows after others
path_before : (path first : ℕ) (edits more : List Edit) → HasPathEdit path first edits
    → HasPathEdit path first (edits ++ more)
path_before path first [] more has = absurd has
path_before path first (edit ∷ edits) more (inl is) = inl is
path_before path first (edit ∷ edits) more (inr has) = inr (path_before path first edits more has)

path_behind : (path first : ℕ) (before edits : List Edit) → HasPathEdit path first edits
    → HasPathEdit path first (before ++ edits)
path_behind path first [] edits has = has
path_behind path first (edit ∷ before) edits has = inr (path_behind path first before edits has)

all_before : (edits more : List Edit) (number : ℕ) (rows : List PathRow) → HavePathEdits edits number rows
    → HavePathEdits (edits ++ more) number rows
all_before edits more number [] have = tt
all_before edits more number (row ∷ rows) (has, have) =
    (path_before number row.first edits more has, all_before edits more (number + 1) rows have)

rows_together : (edits : List Edit) (number : ℕ) (rows more : List PathRow) → HavePathEdits edits number rows
    → HavePathEdits edits (number + length rows) more → HavePathEdits edits number (rows ++ more)
rows_together edits number [] more have next = grind arith
rows_together edits number (row ∷ rows) more (has, have) next =
    let same : number + suc (length rows) ≡ number + 1 + length rows = omega arith in
    (has, rows_together edits (number + 1) rows more have (subst (λ (n : ℕ). HavePathEdits edits n more) same next))

-- ---- edits in order of the text
swapped : (path first : ℕ) (edit other : Edit) (edits : List Edit) → HasPathEdit path first (edit ∷ other ∷ edits)
    → HasPathEdit path first (other ∷ edit ∷ edits)
swapped path first edit other edits (inl is) = inr (inl is)
swapped path first edit other edits (inr (inl is)) = inl is
swapped path first edit other edits (inr (inr has)) = inr (inr has)

behind_other : (path first : ℕ) (other : Edit) (edits more : List Edit)
    → (HasPathEdit path first edits → HasPathEdit path first more) → HasPathEdit path first (other ∷ edits)
    → HasPathEdit path first (other ∷ more)
behind_other path first other edits more keeps (inl is) = inl is
behind_other path first other edits more keeps (inr has) = inr (keeps has)

among_by : (answer : Bool) (path first : ℕ) (edit other : Edit) (edits more : List Edit)
    → (HasPathEdit path first (edit ∷ edits) → HasPathEdit path first more)
    → HasPathEdit path first (edit ∷ other ∷ edits)
    → HasPathEdit path first (if answer then edit ∷ other ∷ edits else other ∷ more)
among_by true path first edit other edits more keeps has = has
among_by false path first edit other edits more keeps has =
    behind_other path first other (edit ∷ edits) more keeps (swapped path first edit other edits has)

among : (path first : ℕ) (edit : Edit) (edits : List Edit) → HasPathEdit path first (edit ∷ edits)
    → HasPathEdit path first (edit_among edit edits)
among path first edit [] has = has
among path first edit (other ∷ edits) has =
    among_by _ path first edit other edits _ (λ own. among path first edit edits own) has

path_in_order : (path first : ℕ) (edits : List Edit) → HasPathEdit path first edits
    → HasPathEdit path first (in_order edits)
path_in_order path first [] has = has
path_in_order path first (edit ∷ edits) has = grind (arith, among, behind_other, (path_in_order path first edits))

all_in_order : (edits : List Edit) (number : ℕ) (rows : List PathRow) → HavePathEdits edits number rows
    → HavePathEdits (in_order edits) number rows
all_in_order edits number [] have = tt
all_in_order edits number (row ∷ rows) (has, have) =
    (path_in_order number row.first edits has, all_in_order edits (number + 1) rows have)

-- ---- what is read of an item
-- whatever the numbers of its path and of its first point are
abbrev Begins : Shape → Type 0
Begins shape = (path first : ℕ) → IfSome shape.kind (λ kind. HasPathEdit path first (shape.edits path first))

dot_begins : (spot : PointFields) → Begins (dot_of spot)
dot_begins spot path first = inl (inr (inl refl))

line_begins : (entity : Entity) (begin end : PointFields) (rise : Option Rise) → Begins (line_of entity begin end rise)
line_begins entity begin end rise path first = inl (inl refl)

light_begins : (kind : PathKind) (vertices : List VertexFields) (count : Pair) → Begins (light_shape kind vertices count)
light_begins kind [] count path first = tt
light_begins kind (vertex ∷ vertices) count path first = inl (inr (inl refl))

heavy_begins : (kind : PathKind) (vertices : List VertexFields) → Begins (heavy_shape kind vertices)
heavy_begins kind [] path first = tt
heavy_begins kind (vertex ∷ vertices) path first = inl (inr (inr refl))

all_begin : (read : Reading) (how : How) (seed : Option Pair) → HoldsOfKinds read how seed Begins
all_begin read how seed = grind (arith, among, dot_begins, line_begins, light_begins, heavy_begins)

-- ---- shape by shape
own_row : (kind : Option PathKind) (before own : List Edit) (number first past : ℕ)
    → IfSome kind (λ k. HasPathEdit number first own) → HavePathEdits (before ++ own) number (rows_of kind first past)
own_row None before own number first past has = tt
own_row (Some kind) before own number first past has = (path_behind number first before own has, tt)

shape_begun : (before : Contents) (shape : Shape) → HavePathEdits before.edits 0 before.paths → Begins shape
    → HavePathEdits (with_shape before shape).edits 0 (with_shape before shape).paths
shape_begun before shape have begins =
    let first = length before.points in
    let number = length before.paths in
    let own = shape.edits number first in
    let rows = rows_of shape.kind first (first + length shape.points) in
    rows_together _ 0 _ rows (all_before _ own 0 _ have) (subst (λ (n : ℕ). HavePathEdits (before.edits ++ own) n rows)
    (sym (zero-add number)) (own_row shape.kind before.edits own number first (first + length shape.points)
    (begins number first)))

shapes_begun : (before : Contents) (shapes : List Shape) → HavePathEdits before.edits 0 before.paths
    → AllByRecursion Begins shapes → HavePathEdits (with_shapes before shapes).edits 0 (with_shapes before shapes).paths
shapes_begun before [] have all = have
shapes_begun before (shape ∷ shapes) have (begins, all) =
    shapes_begun (with_shape before shape) shapes (shape_begun before shape have begins) all

-- ---- the drawing
abbrev HasEdits : Result Contents LayerFault → Type 0
HasEdits (Ok sheet) = HavePathEdits sheet.edits 0 sheet.paths
HasEdits (Err fault) = Unit {0}

read_has : (seed : Option Pair) (answer : Result (List Shape) LayerFault) → EachIs Begins answer
    → HasEdits (and_then (λ (shapes : List Shape). Ok (walked_sheet_of seed shapes)) answer)
read_has seed (Ok shapes) all =
    all_in_order (with_shapes (contents_of_seed seed) shapes).edits 0 (with_shapes (contents_of_seed seed) shapes).paths
    (shapes_begun (contents_of_seed seed) shapes tt all)
read_has seed (Err fault) all = tt

pub each_path_has_an_edit : PairsTile → EachPathHasAnEdit
each_path_has_an_edit tile how bytes sheet is = by_pairs (drawing bytes) refl where
  by_pairs : (answer : Result (List Pair) PairFault) → drawing bytes ≡ answer → HavePathEdits sheet.edits 0 sheet.paths
  by_pairs (Ok pairs) pairs_are =
      let seed : Option Pair = seed_of bytes pairs in
      let read : Reading = record {
        bytes = bytes;
        pairs = pairs;
        sheet = sheet;
        images = record { points = []; run = []; heights = [] };
      } in
      let (past, inside, tiles) = tile bytes pairs pairs_are in
      let all : EachIs Begins (walk_of bytes how seed free (entities_of bytes pairs)) =
      subst (EachIs Begins) (sym (items_walked bytes how seed pairs))
      (shapes_each read how seed Begins (all_begin read how seed) past tiles) in
      subst HasEdits (sheet_walked bytes how pairs sheet (tile bytes pairs pairs_are) pairs_are is)
      (read_has seed (walk_of bytes how seed free (entities_of bytes pairs)) all)
  by_pairs (Err fault) pairs_are =
      let none : drawing_sheet how bytes ≡ Err (refusal_of_pairs fault) = ap (from_pairs bytes how) pairs_are in absurd (cc)
