-- What edits write: copies of their own entity, or values.
use Rattle.std.proofs.Common.{◌≡◌, ℕ, ◌+◌, refl, ap, sym, ◌∙◌, subst, List, [], ◌∷◌, ◌++◌, map, drop, length, flat_map}
use Rattle.std.proofs.Common.{Bool, true, false, Option, None, Some, Ok, pos, cond, Err, ℤ, take, inl, inr}
use Rattle.std.specs.Prelude.{int_lt, Contains, ◌&&◌, slice_index_or}
use Rattle.std.specs.List.{prefix_len, AllByRecursion}
use Rattle.std.proofs.lemmas.List.{append_assoc, length-append, length-map}
use Rattle.std.proofs.Math.Seq.{get_or-append_seam, drop-append_seam}
use Rattle.std.proofs.lemmas.Bool.Decides.{Decides-int_eq}
use Rattle.std.proofs.lemmas.List.Elements.{Contains-push, Contains-append_left, Contains-append_right}
use Rattle.mm_decimal.specs.MetresTexts.{mm_text}
use Rattle.plain_laws.proofs.Lists.{all_append, take_front}
use Rattle.plane_base.specs.declared.shapes.Pt.{Pt}
use Rattle.sheet_base.specs.PointHeights.{Position}
use Rattle.sheet_base.specs.declared.faults.LayerFault.TheVariants.{Count}
use Rattle.sheet_base.specs.Faults.{and_then}
use Rattle.sheet_base.specs.declared.edits.Edit.{Edit}
use Rattle.sheet_base.specs.declared.edits.What.{What}
use Rattle.sheet_base.specs.declared.edits.What.TheVariants as edits
use Rattle.sheet_base.specs.declared.faults.LayerFault.TheVariants as faults
use Rattle.sheet_base.specs.declared.flags.How.{How}
use Rattle.sheet_base.specs.declared.paths.PathKind.{PathKind}
use Rattle.sheet_base.specs.declared.paths.PathKind.TheVariants as paths
use Rattle.sheet_base.specs.ImageFits.{no_path, path_positions}
use Rattle.sheet_base.specs.Segments.{no_point, point_at}
use Rattle.dxf_pairs.specs.declared.pairs.Pair.{Pair}
use Rattle.dxf_pairs.specs.Groups.{Group, group_in, value_in, groups_of}
use Rattle.dxf_pairs.specs.Pairs.{drawing}
use Rattle.dxf_pairs.specs.Laws.{AreTiles, PairsTile}
use Rattle.dxf_pairs.specs.InLines.{AreInLines, PairsAreInLines, GroupsFollow}
use Rattle.dxf_entities.specs.Entities.{Entity, entity_of, is_coded, entity_end}
use Rattle.dxf_entities.specs.Fields.{entity_fields, wanted_at, coordinate_of, coordinate_from}
use Rattle.dxf_entities.specs.declared.drawing.VertexFields.{VertexFields}
use Rattle.dxf_entities.specs.Polylines.{vertex_of, begins_vertex, is_number_pair, vertices_in, past_group}
use Rattle.dxf_entities.specs.Polylines.{vertex_edits, count_of, light_shape, plain, entity_vertex, copy_edits}
use Rattle.dxf_entities.specs.Polylines.{own_vertices}
use Rattle.dxf_entities.specs.declared.drawing.PointFields.{PointFields}
use Rattle.dxf_entities.specs.declared.fields.Read.{Read}
use Rattle.dxf_entities.specs.declared.points.LineFields.{LineFields}
use Rattle.dxf_entities.specs.Handles.{handle}
use Rattle.dxf_entities.specs.Points.{spot_at, dot_of, line_of, line_ends}
use Rattle.dxf_entities.specs.Seeds.{seed_of, seed_edits}
use Rattle.dxf_entities.specs.Shapes.{Shape, point_of, value_edit}
use Rattle.dxf_copies.specs.declared.copies.Copied.{Copied}
use Rattle.dxf_copies.specs.declared.copies.Value.{Value}
use Rattle.dxf_copies.specs.Rendering.{value_for, new_handle, handle_behind, copy_text, line_copies, vertex_copies}
use Rattle.dxf_copies.specs.Rendering.{line_copy, vertex_copy, Reading, coded_before, next_at, run_of, image_of}
use Rattle.dxf_copies.specs.Rendering.{crossings_of, line_text, vertex_text, text_of}
use Rattle.dxf_layer.specs.Copies.{IsEntityOf, own_or, field_in_copy, groups_of_copy, line_values, vertex_values}
use Rattle.dxf_layer.specs.Copies.{CopiesAreOfEntities, HasOwnFields, VerticesCopyOwnFields, WritesCopies, WritesNumber}
use Rattle.dxf_layer.specs.Copies.{crossing_groups, WritesCrossings, WritesByKind, EditsWriteCopies}
use Rattle.dxf_entities.proofs.EntityEdits.{IsVertex, line_parts}
use Rattle.dxf_entities.proofs.Members.{went, IsIn, IsField, wanted_is, coordinate_is}
use Rattle.dxf_entities.proofs.Vertices.{point_in}
use Rattle.dxf_copies.proofs.SplicedPairs.{IsFront, front_taken, AddsAs, none_added, both_added, alone_added}
use Rattle.dxf_copies.proofs.SplicedPairs.{value_of_copy, copy_groups, IsInLines, copy_added, tiles_behind}
use Rattle.dxf_copies.proofs.SplicedPairs.{lines_behind, before_is, last_ten, last_twenty}
use Rattle.dxf_copies.proofs.EntityPlaces.{of_entity, front_proper, IsProper, ends_at, in_front_of, in_front_one}
use Rattle.dxf_copies.proofs.EntityPlaces.{in_front_two, first_vertex, set_of, IsSplit, split_of}
use Rattle.dxf_copies.proofs.WholeTurns.{IsSet, whole_of}
use Rattle.dxf_copies.proofs.LightVertices.{point_groups, AreKnown}
use Rattle.dxf_layer.proofs.WrittenDrawings.LightWritten.{known_in}
use Rattle.dxf_layer.proofs.SheetEdits.EachEdit.{IsAmong, AreAmong, first_own, HoldsOfKinds, HaveAll, each_edit}
use Rattle.dxf_layer.proofs.SheetEdits.SheetOrder.{own_vertex}

-- ---- the groups of copies of a drawing's entities
-- ---- an entity of a drawing is on its lines
in_lines : (bytes : List ℕ) (past : ℕ) (pairs front : List Pair) (head next : Pair) (behind : List Pair)
    → AreTiles 0 1 pairs past → AreInLines bytes pairs → pairs ≡ front ++ (head ∷ next ∷ behind)
    → IsInLines bytes (entity_of head (next ∷ behind))
in_lines bytes past pairs front head next behind tiles lines are =
    let here = tiles_behind front 0 1 past head (next ∷ behind)
    (subst (λ (ps : List Pair). AreTiles 0 1 ps past) are tiles) in
    let own : AreInLines bytes (head ∷ next ∷ behind) =
    lines_behind bytes front head (next ∷ behind) (subst (λ (ps : List Pair). AreInLines bytes ps) are lines) in
    let of = of_entity bytes head.end (here.0 + 2) past (next ∷ behind) here.1.5 own.1 in
    record {
      head = own.0;
      body = of.body_lines;
      code = here.1.2;
      value = here.1.3;
      inside = here.1.4;
      line = here.0 + 2;
      tiles = of.tiles;
    }

entity_in_lines : PairsTile → PairsAreInLines → (bytes : List ℕ) (pairs : List Pair) (entity : Entity)
    → drawing bytes ≡ Ok pairs → IsEntityOf pairs entity → IsInLines bytes entity
entity_in_lines tile stand bytes pairs entity pairs_are is =
    let (past, inside, tiles) = tile bytes pairs pairs_are in
    subst (IsInLines bytes) (sym is.own) (in_lines bytes past pairs is.front _ is.next _ tiles
    (stand bytes pairs pairs_are) is.stands)

-- ---- the groups of a copy
value_same : (bytes : List ℕ) (pair : Pair) (value : Option Value)
    → value_of_copy bytes pair value ≡ own_or (value_in bytes pair) value
value_same bytes pair None = refl
value_same bytes pair (Some value) = refl

groups_same : (bytes : List ℕ) (copied : Copied) (fields pairs : List Pair) → IsFront fields pairs
    → copy_groups bytes copied fields pairs ≡ map (field_in_copy bytes copied) fields
    ++ map (group_in bytes) (drop (length fields) pairs)
groups_same bytes copied [] pairs front = refl
groups_same bytes copied (field ∷ fields) [] front = absurd front
groups_same bytes copied (field ∷ fields) (pair ∷ pairs) front =
    let rest = groups_same bytes copied fields pairs front.1 in
    let here : record { code = pair.code; value = value_of_copy bytes pair (value_for copied pair.code) }
    ≡ field_in_copy bytes copied field =
    ap (λ (v : List ℕ). record { code = pair.code; value = v }) (value_same bytes pair _) ∙ ap
    (field_in_copy bytes copied) (sym front.0) in both here rest
  where
    both : {a b : Group} {xs ys : List Group} → a ≡ b → xs ≡ ys → a ∷ xs ≡ b ∷ ys
    both h t = cc

one_copy : GroupsFollow → (bytes : List ℕ) (entity : Entity) (copied : Copied) → IsInLines bytes entity
    → AddsAs (copy_text bytes copied entity) (groups_of_copy bytes entity copied)
one_copy follow bytes entity copied lines =
    let front : IsFront (entity_fields entity) entity.pairs = front_taken _ _ in
    subst (AddsAs (copy_text bytes copied entity)) (ap (λ (groups : List Group). group_in bytes entity.head ∷ groups)
    (groups_same bytes copied _ _ front)) (copy_added follow bytes entity copied lines)

lines_are : GroupsFollow → (bytes : List ℕ) (entity : Entity) → IsInLines bytes entity
    → (first : Bool) (next : ℕ) (images : List Position) → AddsAs (line_copies bytes entity first next images)
    (flat_map (groups_of_copy bytes entity) (line_values first next images))
lines_are follow bytes entity lines first next [] = none_added
lines_are follow bytes entity lines first next (begin ∷ []) = none_added
lines_are follow bytes entity lines first next (begin ∷ end ∷ images) =
    let copied = line_copy begin end (new_handle first next) in both_added (copy_text bytes copied entity)
    (line_copies bytes entity false (handle_behind first next) (end ∷ images)) (groups_of_copy bytes entity copied)
    (flat_map (groups_of_copy bytes entity) (line_values false (handle_behind first next) (end ∷ images)))
    (one_copy follow bytes entity copied lines)
    (lines_are follow bytes entity lines false (handle_behind first next) (end ∷ images))

vertices_are : GroupsFollow → (bytes : List ℕ) (entity : Entity) → IsInLines bytes entity
    → (first : Bool) (next : ℕ) (images : List Pt) → AddsAs (vertex_copies bytes entity first next images)
    (flat_map (groups_of_copy bytes entity) (vertex_values first next images))
vertices_are follow bytes entity lines first next [] = none_added
vertices_are follow bytes entity lines first next (image ∷ images) =
    let copied = vertex_copy image (new_handle first next) in
    both_added (copy_text bytes copied entity) (vertex_copies bytes entity false (handle_behind first next) images)
    (groups_of_copy bytes entity copied)
    (flat_map (groups_of_copy bytes entity) (vertex_values false (handle_behind first next) images))
    (one_copy follow bytes entity copied lines)
    (vertices_are follow bytes entity lines false (handle_behind first next) images)

pub copies_are_of_entities : PairsTile → PairsAreInLines → GroupsFollow → CopiesAreOfEntities
copies_are_of_entities tile stand follow bytes pairs entity pairs_are is next positions images =
    let lines = entity_in_lines tile stand bytes pairs entity pairs_are is in (
      alone_added (line_copies bytes entity true next positions)
          (flat_map (groups_of_copy bytes entity) (line_values true next positions))
          (lines_are follow bytes entity lines true next positions),
      alone_added (vertex_copies bytes entity true next images)
          (flat_map (groups_of_copy bytes entity) (vertex_values true next images))
          (vertices_are follow bytes entity lines true next images),
    )

-- ---- the room after a vertex in fields comes after its own fields of codes 10 and 20
-- one vertex, with the fields of its group after it
one_vertex : (read : Reading) (past : ℕ) → AreTiles 0 1 read.pairs past
    → (front fields : List Pair) (x y : Pair) (pairs : List Pair) (vertex : VertexFields)
    → read.pairs ≡ front ++ (x ∷ y ∷ pairs) → IsProper fields pairs → x.code ≡ pos 10 → y.code ≡ pos 20
    → IsVertex read.bytes x y fields vertex → HasOwnFields read vertex
one_vertex read past tiles front fields x y pairs vertex are proper ten twenty is =
    let here = tiles_behind front 0 1 past x _ (subst (λ (ps : List Pair). AreTiles 0 1 ps past) are tiles) in
    let ends = ends_at _ y.end _ past _ fields pairs here.1.5.5 proper is.past in
    let all : read.pairs ≡ (front ++ (x ∷ y ∷ ends.group)) ++ ends.next ∷ ends.rest = are ∙ (ap
    (λ (ps : List Pair). front ++ (x ∷ y ∷ ps)) ends.whole ∙ in_front_of front _ _ x y _) in
    let first : coded_before read (pos 10) vertex.past ≡ Some x =
    ap (λ (n : ℕ). coded_before read (pos 10) n) (sym ends.starts) ∙ (before_is read _ _ past _ _ all tiles ∙ last_ten
    front x y _ ten twenty ends.are) in
    let second : coded_before read (pos 20) vertex.past ≡ Some y =
    ap (λ (n : ℕ). coded_before read (pos 20) n) (sym ends.starts) ∙ (before_is read _ _ past _ _ all tiles ∙
    last_twenty front x y _ twenty ends.are) in
    (first ∙ ap (λ (p : Pair). Some p) (sym is.east), second ∙ ap (λ (p : Pair). Some p) (sym is.north))

-- all vertices that are read of the first of the pairs
all_vertices : (read : Reading) (past : ℕ) → AreTiles 0 1 read.pairs past
    → (exact : Bool) (front fields pairs : List Pair) (vertices : List VertexFields) → read.pairs ≡ front ++ pairs
    → IsProper fields pairs → vertices_in read.bytes exact fields ≡ Ok vertices
    → AllByRecursion (HasOwnFields read) vertices
all_vertices read past tiles exact front [] pairs vertices are proper is = let none : [] ≡ vertices =
    cc in subst (AllByRecursion (HasOwnFields read)) none tt
all_vertices read past tiles exact front (field ∷ []) pairs vertices are proper is =
    by_test (is_number_pair field) is where
      by_test : (number : Bool) → cond number (Err (Count field.line)) (Ok []) ≡ Ok vertices
          → AllByRecursion (HasOwnFields read) vertices
      by_test true made = absurd (cc)
      by_test false made = let none : [] ≡ vertices = cc in subst (AllByRecursion (HasOwnFields read)) none tt
all_vertices read past tiles exact front (first ∷ second ∷ fields) [] vertices are proper is = absurd proper
all_vertices read past tiles exact front (first ∷ second ∷ fields) (x ∷ []) vertices are proper is = absurd proper.1
all_vertices read past tiles exact front (first ∷ second ∷ fields) (x ∷ y ∷ pairs) vertices are proper is =
    by_tests (begins_vertex first second) (is_number_pair first) refl is
    (λ vs vs_is. all_vertices read past tiles exact (front ++ (x ∷ y ∷ [])) fields pairs vs
    (are ∙ in_front_two front pairs x y) proper.1.1 vs_is)
    (λ vs_is. all_vertices read past tiles exact (front ++ x ∷ []) (second ∷ fields) (y ∷ pairs) vertices
    (are ∙ in_front_one front (y ∷ pairs) x) proper.1 vs_is) where
      by_tests : (begins number : Bool) → begins_vertex first second ≡ begins
          → cond begins (and_then (λ (vertex : VertexFields). and_then (λ (more : List VertexFields). Ok (vertex ∷ more))
          (vertices_in read.bytes exact fields)) (vertex_of read.bytes exact first second fields))
          (cond number (Err (Count first.line)) (vertices_in read.bytes exact (second ∷ fields))) ≡ Ok vertices
          → ((vs : List VertexFields) → vertices_in read.bytes exact fields ≡ Ok vs → AllByRecursion (HasOwnFields read) vs)
          → (vertices_in read.bytes exact (second ∷ fields) ≡ Ok vertices → AllByRecursion (HasOwnFields read) vertices)
          → AllByRecursion (HasOwnFields read) vertices
      by_tests true number begins made behind later =
          let v = first_vertex read.bytes exact first second x y fields vertices proper.0 proper.1.0 begins made in
          subst (AllByRecursion (HasOwnFields read)) v.whole (
            one_vertex read past tiles front fields x y pairs v.value are proper.1.1 v.ten v.twenty v.vertex,
            behind v.more v.behind,
          )
      by_tests false true begins made behind later = absurd (cc)
      by_tests false false begins made behind later = later made

pub vertices_copy_own_fields : PairsTile → PairsAreInLines → VerticesCopyOwnFields
vertices_copy_own_fields tile stand bytes pairs sheet images entity exact vertices pairs_are is vertices_are =
    let (past, inside, tiles) = tile bytes pairs pairs_are in of_pairs past tiles
  where
    read : Reading
    read = record { bytes = bytes; pairs = pairs; sheet = sheet; images = images }

    of_pairs : (past : ℕ) → AreTiles 0 1 pairs past → AllByRecursion (HasOwnFields read) vertices
    of_pairs past tiles =
        let here = tiles_behind is.front 0 1 past entity.head (is.next ∷ is.behind)
        (subst (λ (ps : List Pair). AreTiles 0 1 ps past) is.stands tiles) in
        let own : AreInLines bytes (entity.head ∷ is.next ∷ is.behind) =
        lines_behind bytes is.front entity.head (is.next ∷ is.behind)
        (subst (λ (ps : List Pair). AreInLines bytes ps) is.stands (stand bytes pairs pairs_are)) in
        let of = of_entity bytes entity.head.end (here.0 + 2) past (is.next ∷ is.behind) here.1.5 own.1 in
        let whole : Entity = entity_of entity.head (is.next ∷ is.behind) in
        let front : IsFront (entity_fields whole) whole.pairs =
        front_taken (prefix_len (λ (pair : Pair). int_lt pair.code (pos 1000)) whole.pairs) whole.pairs in
        let proper : IsProper (entity_fields whole) (is.next ∷ is.behind) =
        front_proper (entity_fields whole) whole.pairs (is.next ∷ is.behind) front of.proper in
        all_vertices read past tiles exact (is.front ++ entity.head ∷ []) (entity_fields whole) (is.next ∷ is.behind)
        vertices
        (is.stands ∙ sym (append_assoc is.front (entity.head ∷ []) (is.next ∷ is.behind))) proper
        (subst (λ (e : Entity). vertices_in bytes exact (entity_fields e) ≡ Ok vertices) is.own vertices_are)

-- ---- what the edits of a drawing's sheet write: copies of the entities that they take the place of, and the two fields of
-- each crossing after a vertex in fields.
-- ---- an entity from which something is read has pairs
no_line : (bytes : List ℕ) (exact : Bool) (seed : Option Pair) (pair : Pair) (ends : LineFields)
    → line_ends bytes exact seed (entity_of pair []) ≡ Ok ends → ⊥
no_line bytes exact seed pair ends is =
    let refused : line_ends bytes exact seed (entity_of pair []) ≡ Err (faults.Count pair.line) = refl in cc

no_vertex : (bytes : List ℕ) (exact : Bool) (seed : Option Pair) (pair : Pair) (vertex : VertexFields)
    → entity_vertex bytes exact seed (entity_of pair []) ≡ Ok vertex → ⊥
no_vertex bytes exact seed pair vertex is =
    let refused : entity_vertex bytes exact seed (entity_of pair []) ≡ Err (faults.Count pair.line) = refl in cc

no_spot : (bytes : List ℕ) (exact : Bool) (x y : ℤ) (pair : Pair) (spot : PointFields)
    → spot_at bytes exact x y (entity_of pair []) ≡ Ok spot → ⊥
no_spot bytes exact x y pair spot is =
    let refused : spot_at bytes exact x y (entity_of pair []) ≡ Err (faults.Count pair.line) = refl in cc

-- the vertex of an entity is its point
own_spot : (bytes : List ℕ) (exact : Bool) (seed : Option Pair) (entity : Entity) (vertex : VertexFields)
    → entity_vertex bytes exact seed entity ≡ Ok vertex → spot_at bytes exact (pos 10) (pos 20) entity ≡ Ok vertex.spot
own_spot bytes exact seed entity vertex is =
    let made : PointFields → VertexFields = λ spot. record { spot = spot; start = entity.head.start; past = entity_end entity } in
    let own = went _ (handle seed entity) vertex is in
    let spot = went _ (spot_at bytes exact (pos 10) (pos 20) entity) vertex own.gives in
    let flat = went _ (plain bytes entity) vertex spot.gives in
    let same : made spot.value ≡ vertex = cc in spot.is ∙ ap (λ (v : VertexFields). Ok v.spot) same

no_count : (bytes : List ℕ) (size : ℕ) (pair count : Pair) → count_of bytes size (entity_of pair []) ≡ Ok count → ⊥
no_count bytes size pair count is =
    let refused : count_of bytes size (entity_of pair []) ≡ Err (faults.Count pair.line) = refl in cc

of_drawing : (read : Reading) (entity : Entity) → IsAmong read entity → (Refused : Entity → Type 0)
    → ((pair : Pair) → Refused (entity_of pair []) → ⊥) → Refused entity → IsEntityOf read.pairs entity
of_drawing read entity among Refused none read_so = by_behind among.behind among.are among.own
  where
    by_behind : (behind : List Pair) → read.pairs ≡ among.front ++ entity.head ∷ behind
        → entity ≡ entity_of entity.head behind → IsEntityOf read.pairs entity
    by_behind [] are own = absurd (none entity.head (subst Refused own read_so))
    by_behind (next ∷ behind) are own =
        record { front = among.front; next = next; behind = behind; stands = are; own = own }

-- ---- points and paths of the sheet by their numbers
at_seam : {A : Type 0} (all before behind : List A) (here none : A) (n : ℕ) → all ≡ before ++ here ∷ behind
    → length before ≡ n → slice_index_or all n none ≡ here
at_seam {A} all before behind here none n are at = ap (λ (xs : List A). slice_index_or xs n none) are
    ∙ (ap (λ (k : ℕ). slice_index_or (before ++ here ∷ behind) k none) (sym at)
    ∙ get_or-append_seam before here behind none)

point_here : (points before behind : List Pt) (point : Pt) (n : ℕ) → points ≡ before ++ point ∷ behind
    → length before ≡ n → point_at points n ≡ point
point_here points before behind point n are at = at_seam points before behind point no_point n are at

one_behind : (points before behind : List Pt) (point : Pt) (n : ℕ) → points ≡ before ++ point ∷ behind
    → length before ≡ n → (points ≡ (before ++ point ∷ []) ++ behind) × (length (before ++ point ∷ []) ≡ n + 1)
one_behind points before behind point n are at = (
  are ∙ sym (append_assoc before (point ∷ []) behind),
  length-append before (point ∷ []) ∙ ap (λ (k : ℕ). k + 1) at,
)

-- ---- fields
contains_in : (pair : Pair) (pairs : List Pair) → IsIn pair pairs → Contains pairs pair
contains_in pair [] is = absurd is
contains_in pair (other ∷ pairs) (inl is) = subst (λ (p : Pair). Contains (p ∷ pairs) pair) is
    (Contains-append_left (pair ∷ []) pairs pair (Contains-push [] pair))
contains_in pair (other ∷ pairs) (inr is) = Contains-append_right (other ∷ []) pairs pair (contains_in pair pairs is)

-- a coordinate that is read of a field of this code
pub record IsReadOf (bytes : List ℕ) (exact : Bool) (code : ℤ) (fields : List Pair) (value : Read) : Type 0 where
  pub field : IsField code value.pair fields
  pub read_as : coordinate_of bytes exact value.pair ≡ Ok value

value_read : (bytes : List ℕ) (exact : Bool) (code : ℤ) (pair : Pair) (fields : List Pair) (value : Read)
    → IsField code pair fields → coordinate_of bytes exact pair ≡ Ok value → IsReadOf bytes exact code fields value
value_read bytes exact code pair fields value field is =
    let same : value.pair ≡ pair = coordinate_is bytes exact pair value is in
    record {
      field = subst (λ (p : Pair). IsField code p fields) (sym same) field;
      read_as = ap (coordinate_of bytes exact) same ∙ is;
    }

spot_read : (bytes : List ℕ) (exact : Bool) (x y : ℤ) (entity : Entity) (spot : PointFields)
    → spot_at bytes exact x y entity ≡ Ok spot
    → IsReadOf bytes exact x (entity_fields entity) spot.x × IsReadOf bytes exact y (entity_fields entity) spot.y
spot_read bytes exact x y entity spot is =
    let east = went _ (coordinate_from bytes exact x entity) spot is in
    let north = went _ (coordinate_from bytes exact y entity) spot east.gives in
    let one = went _ (wanted_at x entity) _ east.is in
    let two = went _ (wanted_at y entity) _ north.is in
    let made : record { x = east.value; y = north.value } ≡ spot = cc in
    subst (λ (s : PointFields). IsReadOf bytes exact x (entity_fields entity) s.x
    × IsReadOf bytes exact y (entity_fields entity) s.y) made (
      value_read bytes exact x _ _ _ (wanted_is x entity _ one.is) one.gives,
      value_read bytes exact y _ _ _ (wanted_is y entity _ two.is) two.gives,
    )

abbrev AreReadOf : List ℕ → Bool → List Pair → VertexFields → Type 0
AreReadOf bytes exact fields vertex = IsReadOf bytes exact (pos 10) fields vertex.spot.x
    × IsReadOf bytes exact (pos 20) fields vertex.spot.y

vertex_read : (bytes : List ℕ) (exact : Bool) (x y : Pair) (behind all : List Pair) (vertex : VertexFields)
    → IsIn x all → IsIn y all → begins_vertex x y ≡ true → vertex_of bytes exact x y behind ≡ Ok vertex
    → AreReadOf bytes exact all vertex
vertex_read bytes exact x y behind all vertex x_in y_in begins is =
    let east = went _ (coordinate_of bytes exact x) vertex is in
    let north = went _ (coordinate_of bytes exact y) vertex east.gives in
    let upto = went _ (past_group bytes y.end behind) vertex north.gives in
    let made : record { spot = record { x = east.value; y = north.value }; start = x.start; past = upto.value }
    ≡ vertex = cc in
    let both = both_true (is_coded (pos 10) x) (is_coded (pos 20) y) begins in subst (AreReadOf bytes exact all) made (
      value_read bytes exact _ x all _ (record { is_in = x_in; coded = (Decides-int_eq x.code (pos 10)).0 both.0 })
          east.is,
      value_read bytes exact _ y all _ (record { is_in = y_in; coded = (Decides-int_eq y.code (pos 20)).0 both.1 })
          north.is,
    )
  where
    both_true : (a b : Bool) → (a && b) ≡ true → (a ≡ true) × (b ≡ true)
    both_true true true is = (refl, refl)
    both_true true false is = absurd (cc)
    both_true false b is = absurd (cc)

vertices_read : (bytes : List ℕ) (exact : Bool) (all fields : List Pair) (vertices : List VertexFields)
    → ((pair : Pair) → IsIn pair fields → IsIn pair all) → vertices_in bytes exact fields ≡ Ok vertices
    → AllByRecursion (AreReadOf bytes exact all) vertices
vertices_read bytes exact all [] vertices inner is =
    let none : [] ≡ vertices = cc in subst (AllByRecursion (AreReadOf bytes exact all)) none tt
vertices_read bytes exact all (pair ∷ []) vertices inner is = by_test (is_number_pair pair) is where
  by_test : (number : Bool) → cond number (Err (faults.Count pair.line)) (Ok []) ≡ Ok vertices
      → AllByRecursion (AreReadOf bytes exact all) vertices
  by_test true made = absurd (cc)
  by_test false made = let none : [] ≡ vertices = cc in subst (AllByRecursion (AreReadOf bytes exact all)) none tt
vertices_read bytes exact all (pair ∷ next ∷ pairs) vertices inner is =
    by_tests (begins_vertex pair next) (is_number_pair pair) refl is
    (λ more read. vertices_read bytes exact all pairs more (λ p p_in. inner p (inr (inr p_in))) read)
    (λ read. vertices_read bytes exact all (next ∷ pairs) vertices (λ p p_in. inner p (inr p_in)) read) where
      by_tests : (begins number : Bool) → begins_vertex pair next ≡ begins → cond begins
          (and_then (λ (vertex : VertexFields). and_then (λ (more : List VertexFields). Ok (vertex ∷ more))
          (vertices_in bytes exact pairs)) (vertex_of bytes exact pair next pairs))
          (cond number (Err (faults.Count pair.line)) (vertices_in bytes exact (next ∷ pairs))) ≡ Ok vertices
          → ((more : List VertexFields) → vertices_in bytes exact pairs ≡ Ok more
          → AllByRecursion (AreReadOf bytes exact all) more)
          → (vertices_in bytes exact (next ∷ pairs) ≡ Ok vertices → AllByRecursion (AreReadOf bytes exact all) vertices)
          → AllByRecursion (AreReadOf bytes exact all) vertices
      by_tests true number begins made here later =
          let first = went (λ (vertex : VertexFields). and_then (λ (more : List VertexFields). Ok (vertex ∷ more))
          (vertices_in bytes exact pairs)) (vertex_of bytes exact pair next pairs) vertices made in
          let rest = went (λ (more : List VertexFields). Ok (first.value ∷ more)) (vertices_in bytes exact pairs) vertices
          first.gives in
          let same : first.value ∷ rest.value ≡ vertices = cc in
          subst (AllByRecursion (AreReadOf bytes exact all)) same (
            vertex_read bytes exact pair next pairs all first.value (inner pair (inl refl)) (inner next (inr (inl refl)))
                begins first.is,
            here rest.value rest.is,
          )
      by_tests false true begins made here later = absurd (cc)
      by_tests false false begins made here later = later made

-- ---- numbers
-- a code among two
abbrev IsOfTwo : ℤ → ℤ → ℤ → Type 0
IsOfTwo one two code = Contains (one ∷ two ∷ []) code

first_code : (one two : ℤ) → IsOfTwo one two one
first_code one two = Contains-append_left (one ∷ []) (two ∷ []) one (Contains-push [] one)

second_code : (one two : ℤ) → IsOfTwo one two two
second_code one two = Contains-push (one ∷ []) two

module _ (read : Reading) (exact : Bool) (entity : Entity) (of : IsEntityOf read.pairs entity) where
  number_told : (code : ℤ) (codes : List ℤ) (value : Read) (was now : ℤ) (what : What)
      → IsReadOf read.bytes exact code (entity_fields entity) value → Contains codes code → value.mm ≡ was
      → text_of read (value_edit what value.pair) ≡ mm_text now
      → WritesNumber read exact codes was now (value_edit what value.pair)
  number_told code codes value was now what has among is text = record {
    entity = entity;
    of_drawing = of;
    value = value;
    among = contains_in _ _ has.field.is_in;
    code = subst (Contains codes) (sym has.field.coded) among;
    read_as = has.read_as;
    is = is;
    start = refl;
    end = refl;
    text = text;
  }

  x_told : (code : ℤ) (n : ℕ) (value : Read) → IsReadOf read.bytes exact code (entity_fields entity) value
      → IsOfTwo (pos 10) (pos 11) code → value.mm ≡ (point_at read.sheet.points n).x
      → WritesNumber read exact (pos 10 ∷ pos 11 ∷ []) (point_at read.sheet.points n).x (image_of read.images n).x
      (value_edit (edits.X n) value.pair)
  x_told code n value has among is =
      number_told code (pos 10 ∷ pos 11 ∷ []) value (point_at read.sheet.points n).x (image_of read.images n).x
      (edits.X n) has among is refl

  y_told : (code : ℤ) (n : ℕ) (value : Read) → IsReadOf read.bytes exact code (entity_fields entity) value
      → IsOfTwo (pos 20) (pos 21) code → value.mm ≡ (point_at read.sheet.points n).y
      → WritesNumber read exact (pos 20 ∷ pos 21 ∷ []) (point_at read.sheet.points n).y (image_of read.images n).y
      (value_edit (edits.Y n) value.pair)
  y_told code n value has among is =
      number_told code (pos 20 ∷ pos 21 ∷ []) value (point_at read.sheet.points n).y (image_of read.images n).y
      (edits.Y n) has among is refl

-- ---- copies
module _ (tile : PairsTile) (stand : PairsAreInLines) (follow : GroupsFollow) (read : Reading)
    (pairs_are : drawing read.bytes ≡ Ok read.pairs) where
  line_copied : (entity : Entity) (path : ℕ) → IsAmong read entity → IsEntityOf read.pairs entity
      → WritesCopies read (whole_of entity (edits.Lines path))
  line_copied entity path among is =
      let next = next_at read entity.head.start in
      let positions = path_positions read.sheet.paths read.images path in
      record {
        entity = entity;
        of_drawing = is;
        start = refl;
        end = refl;
        found = among.found;
        groups = ap (λ (found : Option Entity). groups_of (line_text read next found path)) among.found
            ∙ (copies_are_of_entities tile stand follow read.bytes read.pairs entity pairs_are is next positions []).0;
      }

  vertex_copied : (entity : Entity) (point : ℕ) → IsAmong read entity → IsEntityOf read.pairs entity
      → WritesCopies read (whole_of entity (edits.Vertex point))
  vertex_copied entity point among is =
      let next = next_at read entity.head.start in
      record {
        entity = entity;
        of_drawing = is;
        start = refl;
        end = refl;
        found = among.found;
        groups = ap (λ (found : Option Entity). groups_of (vertex_text read next found point)) among.found
            ∙ (copies_are_of_entities tile stand follow read.bytes read.pairs entity pairs_are is next []
            (run_of read.images point)).1;
      }

-- ---- crossings
same_groups : (images : List Pt) → point_groups images ≡ flat_map crossing_groups images
same_groups [] = refl
same_groups (image ∷ images) = ap (λ groups. crossing_groups image ++ groups) (same_groups images)

further : (vertex other : VertexFields) (vertices : List VertexFields) → Contains vertices vertex → Contains (other ∷ vertices) vertex
further vertex other vertices has = Contains-append_right (other ∷ []) vertices vertex has

-- the edits of the last of an entity's vertices, which are points of the sheet after this many others
vertices_written : (read : Reading) (how : How) (entity : Entity) (whole : List VertexFields)
    → IsEntityOf read.pairs entity → vertices_in read.bytes how.exact (entity_fields entity) ≡ Ok whole
    → (all : List Pair) (from n : ℕ) (vertices : List VertexFields)
    → ((vertex : VertexFields) → Contains vertices vertex → Contains whole vertex) → AreKnown read all from n vertices
    → AllByRecursion (AreReadOf read.bytes how.exact (entity_fields entity)) vertices
    → (before behind : List Pt) → read.sheet.points ≡ before ++ (map point_in vertices ++ behind) → length before ≡ n
    → AllByRecursion (WritesByKind read how) (vertex_edits n vertices)
vertices_written read how entity whole is whole_is all from n [] has known values before behind points at = tt
vertices_written read how entity whole is whole_is all from n (vertex ∷ vertices) has known values before behind points
    at =
    let room : Edit = record { start = vertex.past; end = vertex.past; what = edits.Vertices n } in
    let rest : List Pt = map point_in vertices ++ behind in
    let here : point_at read.sheet.points n ≡ point_in vertex =
    point_here read.sheet.points before rest (point_in vertex) n points at in
    let more = one_behind read.sheet.points before rest (point_in vertex) n points at in
    let own : WritesCrossings read how.exact n room = record {
      entity = entity;
      of_drawing = is;
      vertices = whole;
      read_as = whole_is;
      vertex = vertex;
      among = has vertex (Contains-append_left (vertex ∷ []) vertices vertex (Contains-push [] vertex));
      is = here;
      start = refl;
      end = refl;
      groups = known.0.text ∙ same_groups (crossings_of read.images n);
    } in (
      x_told read how.exact entity is (pos 10) n vertex.spot.x values.0.0 (first_code (pos 10) (pos 11))
          (sym (ap (λ (p : Pt). p.x) here)),
      (
        y_told read how.exact entity is (pos 20) n vertex.spot.y values.0.1 (first_code (pos 20) (pos 21))
            (sym (ap (λ (p : Pt). p.y) here)),
        (
          own,
          vertices_written read how entity whole is whole_is all vertex.spot.y.pair.end (n + 1) vertices
              (λ other among. has other (further other vertex vertices among)) known.2 values.1
              (before ++ point_in vertex ∷ []) behind more.0 more.1,
        ),
      ),
    )

-- ---- the edits of each kind of entity
module _ (tile : PairsTile) (stand : PairsAreInLines) (follow : GroupsFollow) (read : Reading) (how : How)
    (pairs_are : drawing read.bytes ≡ Ok read.pairs) (past : ℕ) (tiles : AreTiles 0 1 read.pairs past)
    (seed : Option Pair) where
  abbrev Told : Shape → Type 0
  Told shape = HaveAll read.sheet (WritesByKind read how) shape

  dots_told : (x y : ℤ) → IsOfTwo (pos 10) (pos 11) x → IsOfTwo (pos 20) (pos 21) y → (entity : Entity) (spot : PointFields)
      → IsAmong read entity → spot_at read.bytes how.exact x y entity ≡ Ok spot → Told (dot_of spot)
  dots_told x y x_code y_code entity spot among is path first at =
      let of = of_drawing read entity among (λ (e : Entity). spot_at read.bytes how.exact x y e ≡ Ok spot)
      (λ pair made. no_spot read.bytes how.exact x y pair spot made) is in
      let here = point_here read.sheet.points at.before at.after (point_of spot) first at.points at.first_is in
      let has = spot_read read.bytes how.exact x y entity spot is in (
        x_told read how.exact entity of x first spot.x has.0 x_code (sym (ap (λ (p : Pt). p.x) here)),
        (y_told read how.exact entity of y first spot.y has.1 y_code (sym (ap (λ (p : Pt). p.y) here)), tt),
      )

  lines_told : (entity : Entity) (ends : LineFields) → IsAmong read entity
      → line_ends read.bytes how.exact seed entity ≡ Ok ends → Told (line_of entity ends.begin ends.end ends.rise)
  unfolding line_copied
  lines_told entity ends among is path first at =
      let of = of_drawing read entity among (λ (e : Entity). line_ends read.bytes how.exact seed e ≡ Ok ends)
      (λ pair made. no_line read.bytes how.exact seed pair ends made) is in
      let parts = line_parts read.bytes how.exact seed entity ends is in
      let begin = point_of ends.begin in
      let end = point_of ends.end in
      let more = one_behind read.sheet.points at.before (end ∷ at.after) begin first at.points at.first_is in (
        record {
          copies = line_copied tile stand follow read pairs_are entity path among of;
          first = first;
          row = at_seam read.sheet.paths at.rows_before at.rows_after
              (record { kind = paths.Line; first = first; past = first + 2 }) no_path path at.rows at.path_is;
          begin = record {
            spot = ends.begin;
            fields = parts.begin_is;
            is = point_here read.sheet.points at.before (end ∷ at.after) begin first at.points at.first_is;
          };
          end = record {
            spot = ends.end;
            fields = parts.end_is;
            is = point_here read.sheet.points (at.before ++ begin ∷ []) at.after end (first + 1) more.0 more.1;
          };
        },
        tt,
      )

  copies_told : (entities : List Entity) (vertices : List VertexFields) (n : ℕ) (before behind : List Pt)
      → AreAmong read entities → own_vertices read.bytes how.exact seed entities ≡ Ok vertices
      → read.sheet.points ≡ before ++ (map point_in vertices ++ behind) → length before ≡ n
      → AllByRecursion (WritesByKind read how) (copy_edits n vertices)
  unfolding vertex_copied
  copies_told [] vertices n before behind among is points at =
      let none : [] ≡ vertices = cc in
      subst (λ (vs : List VertexFields). AllByRecursion (WritesByKind read how) (copy_edits n vs)) none tt
  copies_told (entity ∷ entities) vertices n before behind among is points at =
      let own = first_own read.bytes how.exact seed entity entities vertices is in
      let of = of_drawing read entity among.0
      (λ (e : Entity). entity_vertex read.bytes how.exact seed e ≡ Ok own.vertex)
      (λ pair made. no_vertex read.bytes how.exact seed pair own.vertex made) own.vertex_is in
      let here = point_in own.vertex in
      let rest : List Pt = map point_in own.more ++ behind in
      let are : read.sheet.points ≡ before ++ here ∷ rest =
      subst (λ (vs : List VertexFields). read.sheet.points ≡ before ++ (map point_in vs ++ behind)) (sym own.are) points in
      let more = one_behind read.sheet.points before rest here n are at in
      let place = own_vertex read.bytes how.exact seed entity own.vertex own.vertex_is in
      let told : WritesByKind read how (whole_of entity (edits.Vertex n)) = record {
        copies = vertex_copied tile stand follow read pairs_are entity n among.0 of;
        vertex = record {
          spot = own.vertex.spot;
          fields = own_spot read.bytes how.exact seed entity own.vertex own.vertex_is;
          is = point_here read.sheet.points before rest here n are at;
        };
      } in subst (λ (vs : List VertexFields). AllByRecursion (WritesByKind read how) (copy_edits n vs)) own.are (
        subst (λ (end : ℕ). WritesByKind read how
            (record { start = own.vertex.start; end = end; what = edits.Vertex n })) (sym place.1)
            (subst (λ (start : ℕ). WritesByKind read how
            (record { start = start; end = entity_end entity; what = edits.Vertex n })) (sym place.0) told),
        copies_told entities own.more (n + 1) (before ++ here ∷ []) behind among.1 own.more_is more.0 more.1,
      )

  -- an entity with more pairs after its head
  set_among : (entity : Entity) → IsAmong read entity → (is : IsEntityOf read.pairs entity) → IsSet read.bytes entity
  set_among entity among is =
      let here = tiles_behind is.front 0 1 past _ _ (subst (λ (ps : List Pair). AreTiles 0 1 ps past) is.stands tiles)
      in
      let own = lines_behind read.bytes is.front entity.head (is.next ∷ is.behind)
      (subst (λ (ps : List Pair). AreInLines read.bytes ps) is.stands (stand read.bytes read.pairs pairs_are)) in
      subst (IsSet read.bytes) (sym is.own) (set_of _ here.0 past _ is.next _ here.1 own among.is_head)

  light_known : (entity : Entity) → IsAmong read entity → IsEntityOf read.pairs entity
      → (vertices : List VertexFields) (n : ℕ) → vertices_in read.bytes how.exact (entity_fields entity) ≡ Ok vertices
      → AreKnown read entity.pairs entity.head.end n vertices
  light_known entity among is vertices n vertices_are =
      let split : IsSplit (is.next ∷ is.behind) (entity_of entity.head (is.next ∷ is.behind)).pairs =
      split_of (is.next ∷ is.behind) in
      let body : (entity_of entity.head (is.next ∷ is.behind)).pairs ≡ entity.pairs =
      ap (λ (e : Entity). e.pairs) (sym is.own) in
      let all : read.pairs ≡ is.front ++ (entity.head ∷ (entity.pairs ++ split.behind_body)) = is.stands
      ∙ (ap (λ (ps : List Pair). is.front ++ (entity.head ∷ ps)) split.are
      ∙ ap (λ (ps : List Pair). is.front ++ (entity.head ∷ (ps ++ split.behind_body))) body) in
      known_in follow read past tiles how.exact entity (set_among entity among is) is.front split.behind_body
      all vertices n vertices_are

  lights_told : (entity : Entity) (kind : PathKind) (vertices : List VertexFields) (count : Pair) → IsAmong read entity
      → vertices_in read.bytes how.exact (entity_fields entity) ≡ Ok vertices
      → count_of read.bytes (length vertices) entity ≡ Ok count → Told (light_shape kind vertices count)
  lights_told entity kind vertices count among vertices_are count_is path first at =
      let of = of_drawing read entity among (λ (e : Entity). count_of read.bytes (length vertices) e ≡ Ok count)
      (λ pair counted. no_count read.bytes (length vertices) pair count counted) count_is in
      let cut : drop first read.sheet.points ≡ map point_in vertices ++ at.after =
      ap (λ (ps : List Pt). drop first ps) at.points
      ∙ (ap (λ (n : ℕ). drop n (at.before ++ (map point_in vertices ++ at.after))) (sym at.first_is)
      ∙ drop-append_seam at.before (map point_in vertices ++ at.after)) in
      let size : length vertices ≡ length (map point_in vertices) = sym (length-map vertices point_in) in
      all_append (WritesByKind read how) (vertex_edits first vertices)
      (value_edit (edits.Tally first (first + length vertices)) count ∷ [])
      (vertices_written read how entity vertices of vertices_are entity.pairs entity.head.end first vertices
      (λ vertex has. has) (light_known entity among of vertices first vertices_are)
      (vertices_read read.bytes how.exact (entity_fields entity) (entity_fields entity) vertices (λ pair is. is)
      vertices_are) at.before at.after at.points at.first_is) (
        record {
          entity = entity;
          of_drawing = of;
          vertices = vertices;
          read_as = vertices_are;
          many = refl;
          points = ap (λ (ps : List Pt). take (length vertices) ps) cut
              ∙ (ap (λ (n : ℕ). take n (map point_in vertices ++ at.after)) size
              ∙ take_front (map point_in vertices) at.after);
          field = count;
          counts = count_is;
          start = refl;
          end = refl;
          text = refl;
        },
        tt,
      )

  all_told : HoldsOfKinds read how seed (HaveAll read.sheet (WritesByKind read how))
  all_told = record {
    dots = dots_told (pos 10) (pos 20) (first_code (pos 10) (pos 11)) (first_code (pos 20) (pos 21));
    seconds = dots_told (pos 11) (pos 21) (second_code (pos 10) (pos 11)) (second_code (pos 20) (pos 21));
    lines = lines_told;
    lights = lights_told;
    heavies = λ entities kind vertices among is path first at. copies_told entities vertices first at.before at.after
        among is at.points at.first_is;
    drops = λ entity among asked other path first at. (
      record {
        entity = entity;
        front = among.front;
        behind = among.behind;
        stands = among.are;
        own = among.own;
        asked = asked;
        other = other;
        start = refl;
        end = refl;
        text = refl;
      },
      tt,
    );
  }

next_told : (read : Reading) (how : How) (seed : Option Pair) → seed_of read.bytes read.pairs ≡ seed
    → AllByRecursion (WritesByKind read how) (seed_edits seed)
next_told read how None is = tt
next_told read how (Some pair) is = (record { pair = pair; is = is; start = refl; end = refl; text = refl }, tt)

pub edits_write_copies : PairsTile → PairsAreInLines → GroupsFollow → EditsWriteCopies
edits_write_copies tile stand follow how bytes pairs sheet images pairs_are sheet_is =
    let (past, inside, tiles) = tile bytes pairs pairs_are in
    each_edit read how tile pairs_are sheet_is (WritesByKind read how)
    (all_told tile stand follow read how pairs_are past tiles (seed_of bytes pairs))
    (next_told read how (seed_of bytes pairs) refl)
  where
    read : Reading
    read = record { bytes = bytes; pairs = pairs; sheet = sheet; images = images }
